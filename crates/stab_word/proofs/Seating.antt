-- From the rule over all views of a table to the two ends, and back: what a step of one end has to show.
use Rattle.std.proofs.Common.{◌≡◌, ℕ, zero, suc, List, [], ◌∷◌, ◌++◌, slice_index, slice_set, refl, sym, ◌∙◌, subst}
use mathlib.Core.Option.{some}
use lib.ListN.{get_elem?}
use Rattle.atomic_table.specs.Table.{Me, Allows, keeps}
use Rattle.stab_core.specs.LinkState.{LinkState}
use Rattle.stab_core.specs.Replay.{initial}
use Rattle.stab_core.specs.LinkSetup.{LinkSetup}
use Rattle.stab_word.specs.Rule.{Shows, RuleHolds, Keeps}
use Rattle.stab_word.specs.Words.{WordsShow}
use Rattle.stab_word.specs.declared.view.SendView.{SendView}
use Rattle.stab_word.specs.declared.view.RecvView.{RecvView}
use Rattle.stab_word.specs.declared.view.View.{View}
use Rattle.stab_word.specs.declared.view.View.TheVariants.{Opening, Sending, Receiving, Joined, Spent}

-- what a step of the sender on this word has to show: a view and a state after it that keep the rule, and what it tells
abbrev pub SendTurn : LinkSetup → SendView → ℕ → (ℕ → ℕ) → (ℕ → SendView → Type 0) → Type 0
SendTurn g x word f then =
    (words : List ℕ) (y : RecvView) (s : LinkState) → Shows g words x y s
    → (after : SendView) × (t : LinkState) × Shows g (slice_set words word (f (slice_index words word))) after y t
    × then (slice_index words word) after

-- the same of the receiver
abbrev pub RecvTurn : LinkSetup → RecvView → ℕ → (ℕ → ℕ) → (ℕ → RecvView → Type 0) → Type 0
RecvTurn g y word f then =
    (words : List ℕ) (x : SendView) (s : LinkState) → Shows g words x y s
    → (after : RecvView) × (t : LinkState) × Shows g (slice_set words word (f (slice_index words word))) x after t
    × then (slice_index words word) after

-- the seat with the sender's view is the first of two
pub sender_sits : (g : LinkSetup) (words : List ℕ) (views : List View) (id : ℕ) (x : SendView)
    → RuleHolds g words views → get_elem? views id ≡ some (Sending x)
    → (y : RecvView) × (s : LinkState) × (id ≡ 0) × (views ≡ Sending x ∷ Receiving y ∷ []) × Shows g words x y s
sender_sits g words (Opening h ∷ []) zero x stands at = absurd (cc)
sender_sits g words (Opening h ∷ []) (suc id) x stands at = absurd (cc)
sender_sits g words (Sending v ∷ Receiving y ∷ []) zero x (s, shows) at =
    let same : v ≡ x = cc in
    (y, s, refl, rw same, subst (λ u. Shows g words u y s) same shows)
sender_sits g words (Sending v ∷ Receiving y ∷ []) (suc zero) x stands at = absurd (cc)
sender_sits g words (Sending v ∷ Receiving y ∷ []) (suc (suc id)) x stands at = absurd (cc)
sender_sits g words (Joined v y ∷ Spent ∷ []) zero x stands at = absurd (cc)
sender_sits g words (Joined v y ∷ Spent ∷ []) (suc zero) x stands at = absurd (cc)
sender_sits g words (Joined v y ∷ Spent ∷ []) (suc (suc id)) x stands at = absurd (cc)
sender_sits g words views id x stands at = absurd stands

-- the seat with the receiver's view is the second of two
receiver_sits : (g : LinkSetup) (words : List ℕ) (views : List View) (id : ℕ) (y : RecvView)
    → RuleHolds g words views → get_elem? views id ≡ some (Receiving y)
    → (x : SendView) × (s : LinkState) × (id ≡ 1) × (views ≡ Sending x ∷ Receiving y ∷ []) × Shows g words x y s
receiver_sits g words (Opening h ∷ []) zero y stands at = absurd (cc)
receiver_sits g words (Opening h ∷ []) (suc id) y stands at = absurd (cc)
receiver_sits g words (Sending x ∷ Receiving v ∷ []) zero y stands at = absurd (cc)
receiver_sits g words (Sending x ∷ Receiving v ∷ []) (suc zero) y (s, shows) at =
    let same : v ≡ y = cc in
    (x, s, refl, rw same, subst (λ u. Shows g words x u s) same shows)
receiver_sits g words (Sending x ∷ Receiving v ∷ []) (suc (suc id)) y stands at = absurd (cc)
receiver_sits g words (Joined x v ∷ Spent ∷ []) zero y stands at = absurd (cc)
receiver_sits g words (Joined x v ∷ Spent ∷ []) (suc zero) y stands at = absurd (cc)
receiver_sits g words (Joined x v ∷ Spent ∷ []) (suc (suc id)) y stands at = absurd (cc)
receiver_sits g words views id y stands at = absurd stands

-- the opening seat is alone
pub opener_sits : (g : LinkSetup) (words : List ℕ) (views : List View) (id : ℕ) (h : LinkSetup)
    → RuleHolds g words views → get_elem? views id ≡ some (Opening h)
    → (h ≡ g) × (id ≡ 0) × (views ≡ Opening h ∷ []) × (g.params.capacity ≡ 1) × WordsShow words (initial g.start)
opener_sits g words (Opening v ∷ []) zero h (is, one, shows) at =
    let same : v ≡ h = cc in
    (sym same ∙ is, refl, rw same, one, shows)
opener_sits g words (Opening v ∷ []) (suc id) h stands at = absurd (cc)
opener_sits g words (Sending x ∷ Receiving y ∷ []) zero h stands at = absurd (cc)
opener_sits g words (Sending x ∷ Receiving y ∷ []) (suc zero) h stands at = absurd (cc)
opener_sits g words (Sending x ∷ Receiving y ∷ []) (suc (suc id)) h stands at = absurd (cc)
opener_sits g words (Joined x y ∷ Spent ∷ []) zero h stands at = absurd (cc)
opener_sits g words (Joined x y ∷ Spent ∷ []) (suc zero) h stands at = absurd (cc)
opener_sits g words (Joined x y ∷ Spent ∷ []) (suc (suc id)) h stands at = absurd (cc)
opener_sits g words views id h stands at = absurd stands

-- beside the sender's seat, after it took in a receiver's view, that view is the second one's
pub other_sits : (x : SendView) (y v : RecvView) (other : ℕ)
    → get_elem? (Joined x y ∷ Receiving v ∷ []) other ≡ some (Receiving y) → (other ≡ 1) × (v ≡ y)
other_sits x y v zero at = absurd (cc)
other_sits x y v (suc zero) at = (refl, cc)
other_sits x y v (suc (suc other)) at = absurd (cc)

-- the first or the second of two views is replaced
pub first_replaced : (views : List View) (id : ℕ) (a b c : View) → id ≡ 0 → views ≡ a ∷ b ∷ []
    → slice_set views id c ≡ c ∷ b ∷ []
first_replaced views id a b c first are = rw (first, are)

pub second_replaced : (views : List View) (id : ℕ) (a b c : View) → id ≡ 1 → views ≡ a ∷ b ∷ []
    → slice_set views id c ≡ a ∷ c ∷ []
second_replaced views id a b c second are = rw (second, are)

-- a lone view is replaced, and another is added
pub parted : (views : List View) (id : ℕ) (a b c : View) → id ≡ 0 → views ≡ a ∷ []
    → slice_set views id b ++ c ∷ [] ≡ b ∷ c ∷ []
parted views id a b c first are = rw (first, are)

-- a turn of the sender is a step that the table allows
pub sender_allows : (g : LinkSetup) (slots id : ℕ) (x : SendView) (word : ℕ) (f : ℕ → ℕ) (then : ℕ → SendView → Type 0)
    (told : ℕ → Me (Unit {0}) View → Type 0)
    → ((n : ℕ) (after : SendView) → then n after → told n (Sending after, []))
    → SendTurn g x word f then → Allows (Keeps g) slots id (Sending x, []) word f told
sender_allows g slots id x word f then told tells turn table stands homes at small =
    let (y, s, first, are, shows) = sender_sits g table.words table.views id x stands at in
    let (after, t, shows', then') = turn table.words y s shows in
    let words' : List ℕ = slice_set table.words word (f (slice_index table.words word)) in
    let replaced = first_replaced table.views id (Sending x) (Receiving y) (Sending after) first are in
    (Sending after, keeps, tt, subst (RuleHolds g words') (sym replaced) (t, shows'), tells _ after then')

-- a turn of the receiver is a step that the table allows
pub receiver_allows : (g : LinkSetup) (slots id : ℕ) (y : RecvView) (word : ℕ) (f : ℕ → ℕ) (then : ℕ → RecvView → Type 0)
    (told : ℕ → Me (Unit {0}) View → Type 0)
    → ((n : ℕ) (after : RecvView) → then n after → told n (Receiving after, []))
    → RecvTurn g y word f then → Allows (Keeps g) slots id (Receiving y, []) word f told
receiver_allows g slots id y word f then told tells turn table stands homes at small =
    let (x, s, second, are, shows) = receiver_sits g table.words table.views id y stands at in
    let (after, t, shows', then') = turn table.words x s shows in
    let words' : List ℕ = slice_set table.words word (f (slice_index table.words word)) in
    let replaced = second_replaced table.views id (Sending x) (Receiving y) (Receiving after) second are in
    (Receiving after, keeps, tt, subst (RuleHolds g words') (sym replaced) (t, shows'), tells _ after then')
