-- When two starts are the same.
-- Starts with the same parts are the same; so are lists that a test finds equal, entry by entry.
use Rattle.std.proofs.Common.{◌≡◌, Bool, true, List, [], ◌∷◌, ap, ◌∙◌, refl, subst, rules}
use lib.Pointwise.{pointwise}
use Rattle.stab_frames.specs.declared.frame.Frame.{Frame}
use Rattle.stab_frames.specs.contracts.frame.FramePartialEq.TheImpl.{ghosts}
use Rattle.stab_core.specs.declared.start.Start.{Start}

-- two starts with the same parts are the same
pub same_parts : (a b : Start) → a.frames ≡ b.frames → a.acks ≡ b.acks
    → a.send_label ≡ b.send_label → a.recv_label ≡ b.recv_label → a ≡ b
same_parts a b frames acks send_label recv_label =
    ap (λ x. record a { frames = x }) frames
    ∙ (ap (λ x. record a { frames = b.frames; acks = x }) acks
    ∙ (ap (λ x. record a { frames = b.frames; acks = b.acks; send_label = x }) send_label
    ∙ ap (λ x. record b { recv_label = x }) recv_label))

-- lists that a test finds equal entry by entry are the same, where it finds the same entries alone
-- equal
pub same_by_entry : {A : Type 0} (equal : A → A → Bool) → ((x y : A) → equal x y ≡ true → x ≡ y)
    → (xs ys : List A) → pointwise equal xs ys ≡ true → xs ≡ ys
same_by_entry equal same [] [] all = refl
same_by_entry equal same [] (y ∷ ys) all = search rules
same_by_entry equal same (x ∷ xs) [] all = search rules
same_by_entry equal same (x ∷ xs) (y ∷ ys) all =
    search (rules, same x y, same_by_entry equal same xs ys)

-- a list is found equal to itself, where each entry is
pub equal_to_itself : {A : Type 0} (equal : A → A → Bool) → ((x : A) → equal x x ≡ true) → (xs : List A) → pointwise equal xs xs ≡ true
equal_to_itself equal found [] = refl
equal_to_itself equal found (x ∷ xs) = search (rules, found x, equal_to_itself equal found xs)

-- frames that are found equal are the same
pub same_frame : (x y : Frame) → ghosts.eq x y ≡ true → x ≡ y
same_frame x y alike =
    let label : x.label ≡ y.label = search rules in
    let item : x.item ≡ y.item = search rules in
    ap (λ l. record x { label = l }) label ∙ ap (λ i. record y { item = i }) item

-- so are lists of them
pub same_frames : (xs ys : List Frame) → pointwise (λ x y. ghosts.eq x y) xs ys ≡ true → xs ≡ ys
same_frames xs ys all = same_by_entry (λ x y. ghosts.eq x y) same_frame xs ys all

-- and the frames of starts that are the same are found equal
each_frame : (x : Frame) → ghosts.eq x x ≡ true
each_frame x = search rules

pub found_frames : (a b : Start) → a ≡ b → pointwise (λ x y. ghosts.eq x y) a.frames b.frames ≡ true
found_frames a b same =
    subst (λ (s : Start). pointwise (λ x y. ghosts.eq x y) a.frames s.frames ≡ true) same
    (equal_to_itself (λ x y. ghosts.eq x y) each_frame a.frames)
