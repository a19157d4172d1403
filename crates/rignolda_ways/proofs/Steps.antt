-- What one turn leaves: nothing worse, and what is better for whoever learns what is better.
use Rattle.std.proofs.Common.{◌≡◌, ◌⊎◌, ℕ, suc, ◌+◌, ◌<◌, ◌≤◌, inl, inr, Bool, true, false, if◌then◌else◌, List, [], ◌∷◌, Option, Some, None, slice_get, refl, sym, ◌∙◌, ap, subst, arith}
use Rattle.std.specs.Prelude.{is_some}
use Rattle.std.proofs.lemmas.Bool.{cases_Bool, cases_eq, cases_lt, eq-eqb, ne_eqb}
use Rattle.rignolda_ways.specs.declared.asked.Answer.{Answer}
use Rattle.rignolda_ways.specs.declared.asked.Answer.TheVariants.{Takes, Keeps, Leaves}
use Rattle.rignolda_ways.specs.Nets.{Candidate, Net, IsAt, IsNet, IsFar, IsDistance}
use Rattle.rignolda_ways.specs.Answers.{over, fault_of, answer_of}
use Rattle.rignolda_ways.specs.Turns.{Way, Heard, State, Turn, price_of, price_at, told, says, is_place, asked, after_answer, after_turn}
use Rattle.rignolda_ways.specs.Runs.{Learns, parent_place}
use Rattle.rignolda_ways.proofs.Paths.{Within, Next, candidate_far, distance_if_near}
use Rattle.rignolda_ways.proofs.Answered.{no_fault, follows, takes_parent, takes_better, keeps, heard_after, apart}
use Rattle.rignolda_ways.proofs.Quality.{Exact, Quality, Backed, Right, SoundAt, Sound, over_is, over_low, told_low, told_right, says_below}

abbrev pub learned : Turn → Heard
learned turn = record { place = turn.place; way = turn.way }

-- what the agent has after its turn
abbrev pub done : Net → State → Turn → Option Heard
done net s turn = after_answer (answer_of net.none (asked net s turn)) (learned turn) (s turn.agent)

pub turn_here : (net : Net) (s : State) (turn : Turn) → after_turn net s turn turn.agent ≡ done net s turn
turn_here net s turn = ap (λ b. if b then done net s turn else s turn.agent) (eq-eqb turn.agent turn.agent refl)

pub turn_elsewhere : (net : Net) (s : State) (turn : Turn) (v : ℕ) → (v ≡ turn.agent → ⊥) → after_turn net s turn v ≡ s v
turn_elsewhere net s turn v other =
    ap (λ b. if b then after_answer (answer_of net.none (asked net s turn)) (learned turn) (s v) else s v) (ne_eqb v turn.agent other)

pub by_answer : (net : Net) (s : State) (turn : Turn) (answer : Answer) → answer_of net.none (asked net s turn) ≡ answer
    → done net s turn ≡ after_answer answer (learned turn) (s turn.agent)
by_answer net s turn answer is = ap (λ a. after_answer a (learned turn) (s turn.agent)) is

pub same_candidate : (net : Net) (v place other : ℕ) (c d : Candidate) → place ≡ other → IsAt net v place c → IsAt net v other d → c ≡ d
same_candidate net v place other c d same is its = let there : Some c ≡ Some d = sym is ∙ (ap (slice_get (net.candidates v)) same ∙ its) in cc

pub is_parent : (net : Net) (s : State) (turn : Turn) (heard : Heard) → s turn.agent ≡ Some heard → heard.place ≡ turn.place → (asked net s turn).is_parent ≡ true
is_parent net s turn heard is same = ap (is_place turn.place) is ∙ eq-eqb heard.place turn.place same

pub is_other : (net : Net) (s : State) (turn : Turn) (heard : Heard) → s turn.agent ≡ Some heard → (heard.place ≡ turn.place → ⊥) → (asked net s turn).is_parent ≡ false
is_other net s turn heard is other = ap (is_place turn.place) is ∙ ne_eqb heard.place turn.place other

-- a way of the next one on a shortest path has no fault
faultless : (net : Net) (s : State) (turn : Turn) (c : Candidate) (distance rest : ℕ) → 1 ≤ c.cost → IsAt net turn.agent turn.place c
    → Exact net rest turn.way → rest + c.cost ≡ distance → distance < net.none → IsFar net distance turn.agent
    → fault_of net.none (asked net s turn) ≡ None
faultless net s turn c distance rest dear is exact sum some far =
    no_fault net.none (asked net s turn)
    (apart turn.way.names turn.agent (λ name named same.
    let (hops, cost, path, short) = subst (Within net rest) same (exact.within name named) in omega (arith, far hops cost path, short, sum, dear)))
    (omega (arith, over_is net turn.agent turn.place turn.way.cost c is, exact.cost, sum, some))
    (omega (arith, exact.few, sum, dear, some))

-- whoever takes such a way is right
right_taken : (net : Net) (s : State) (turn : Turn) (c : Candidate) (distance rest : ℕ) → IsAt net turn.agent turn.place c
    → Exact net rest turn.way → IsDistance net c.agent rest → rest + c.cost ≡ distance
    → answer_of net.none (asked net s turn) ≡ Takes → Right net turn.agent distance (done net s turn)
right_taken net s turn c distance rest is exact nearer sum takes = record {
  heard = learned turn;
  candidate = c;
  is = by_answer net s turn Takes takes;
  is_at = is;
  nearer = subst (IsDistance net c.agent) (sym exact.cost) nearer;
  sum = omega (arith, exact.cost, sum);
}

-- whoever is right stays so with the same parent, whatever it learns that is good enough
pub right_after : (net : Net) (t : ℕ) (s : State) (turn : Turn) (c : Candidate) (distance : ℕ) → IsNet net → turn.agent < net.agents
    → net.is_root turn.agent ≡ false → IsAt net turn.agent turn.place c → Quality net t c.agent turn.way
    → suc distance ≤ t → distance < net.none → IsFar net distance turn.agent → Right net turn.agent distance (s turn.agent)
    → Right net turn.agent distance (done net s turn) × (parent_place (done net s turn) ≡ parent_place (s turn.agent))
right_after net t s turn c distance lawful agent below is good low some far right =
    elim (cases_eq right.heard.place turn.place) [
      | inl same ↦ by_parent same
      | inr other ↦ by_other other
    ]
  where
    own : (says net s turn.agent).cost ≡ distance
    own = ap (λ (way : Way). way.cost) (says_below net s turn.agent below) ∙ told_right net turn.agent distance (s turn.agent) some right

    by_parent : right.heard.place ≡ turn.place → Right net turn.agent distance (done net s turn) × (parent_place (done net s turn) ≡ parent_place (s turn.agent))
    by_parent same =
        let one = same_candidate net turn.agent right.heard.place turn.place right.candidate c same right.is_at is in
        let dear = (lawful turn.agent turn.place agent c is).1 in
        let sum : right.heard.way.cost + c.cost ≡ distance = subst (λ (d : Candidate). right.heard.way.cost + d.cost ≡ distance) one right.sum in
        let nearer = subst (λ (d : Candidate). IsDistance net d.agent right.heard.way.cost) one right.nearer in
        let exact = good.exact right.heard.way.cost (omega (arith, sum, dear, low)) (omega (arith, sum, some)) nearer in
        let takes = takes_parent net.none (asked net s turn) (is_parent net s turn right.heard right.is same)
        (faultless net s turn c distance right.heard.way.cost dear is exact sum some far) in (
          right_taken net s turn c distance right.heard.way.cost is exact nearer sum takes,
          ap parent_place (by_answer net s turn Takes takes) ∙ (ap Some (sym same) ∙ sym (ap parent_place right.is)),
        )

    by_other : (right.heard.place ≡ turn.place → ⊥) → Right net turn.agent distance (done net s turn) × (parent_place (done net s turn) ≡ parent_place (s turn.agent))
    by_other other =
        let least = over_low net t turn.agent turn.place distance c turn.way lawful agent is good (omega (arith, low)) (omega (arith, some)) far in
        let (why, kept) = keeps net.none (asked net s turn) (is_other net s turn right.heard right.is other) (ap is_some right.is) (omega (arith, own, least)) in
        let unchanged = by_answer net s turn (Keeps why) kept in
        (subst (Right net turn.agent distance) (sym unchanged) right, ap parent_place unchanged)

-- whoever says its distance has a parent on a shortest path
right_if_exact : (net : Net) (t v distance : ℕ) (old : Option Heard) → IsNet net → v < net.agents → Backed net t v old
    → distance ≤ t → distance < net.none → IsFar net distance v → (told net v old).cost ≡ distance → Right net v distance old
right_if_exact net t v distance None lawful agent backed low some far is = absurd (omega (arith, is, some))
right_if_exact net t v distance (Some heard) lawful agent backed low some far is = by_place (slice_get (net.candidates v) heard.place) refl
  where
    by_place : (found : Option Candidate) → slice_get (net.candidates v) heard.place ≡ found → Right net v distance (Some heard)
    by_place None its = let beyond : price_at net v heard.place ≡ net.none + net.none = ap (price_of net.none) its in absurd (omega (arith, beyond, is, some))
    by_place (Some c) its =
        let in_net = lawful v heard.place agent c its in
        let sum : heard.way.cost + c.cost ≡ distance = omega (arith, over_is net v heard.place heard.way.cost c its, is, some) in
        record {
          heard = heard;
          candidate = c;
          is = refl;
          is_at = its;
          nearer = distance_if_near net heard.way.cost c.agent lawful in_net.0
              (λ hops cost path. omega (arith, candidate_far net distance v heard.place c its far hops cost path, sum))
              (λ farther.
              let least = (backed heard c refl its).low (suc heard.way.cost) (omega (arith, sum, in_net.1, low)) (omega (arith, sum, in_net.1, some)) farther in
              omega (arith, least));
          sum = sum;
        }

-- whoever learns what the next one on a shortest path says, once that is right, is right
pub reaches : (net : Net) (t : ℕ) (s : State) (turn : Turn) (distance : ℕ) (next : Next net turn.agent distance) → IsNet net → turn.agent < net.agents
    → net.is_root turn.agent ≡ false → turn.place ≡ next.place → ((c : Candidate) → IsAt net turn.agent turn.place c → Quality net (suc t) c.agent turn.way)
    → Backed net t turn.agent (s turn.agent) → distance ≤ t → distance < net.none → IsFar net distance turn.agent
    → Right net turn.agent distance (done net s turn)
reaches net t s turn distance next lawful agent below same each backed low some far =
    elim (cases_Bool (asked net s turn).is_parent) [
      | inl parent ↦ taken (takes_parent net.none (asked net s turn) parent right)
      | inr other ↦
          elim (cases_lt distance (says net s turn.agent).cost) [
            | inl better ↦ taken (takes_better net.none (asked net s turn) other right (omega (arith, costs, some)) (omega (arith, costs, better)))
            | inr no_better ↦
                let least = told_low net t turn.agent distance (s turn.agent) lawful agent backed (omega (arith, low)) (omega (arith, some)) far in
                let exactly = right_if_exact net t turn.agent distance (s turn.agent) lawful agent backed low some far (omega (arith, least, own, no_better)) in
                (right_after net (suc t) s turn c distance lawful agent below is good (omega (arith, low)) some far exactly).0
          ]
    ]
  where
    c : Candidate
    c = next.candidate

    is : IsAt net turn.agent turn.place c
    is = subst (λ place. IsAt net turn.agent place c) (sym same) next.is

    good : Quality net (suc t) c.agent turn.way
    good = each c is

    dear : 1 ≤ c.cost
    dear = (lawful turn.agent turn.place agent c is).1

    own : (says net s turn.agent).cost ≡ (told net turn.agent (s turn.agent)).cost
    own = ap (λ (way : Way). way.cost) (says_below net s turn.agent below)

    exact : Exact net next.rest turn.way
    exact = good.exact next.rest (let sum = next.sum in omega (arith, sum, dear, low)) (let sum = next.sum in omega (arith, sum, some)) next.nearer

    costs : over net.none turn.way.cost (price_at net turn.agent turn.place) ≡ distance
    costs = let sum = next.sum in omega (arith, over_is net turn.agent turn.place turn.way.cost c is, exact.cost, sum, some)

    right : fault_of net.none (asked net s turn) ≡ None
    right = faultless net s turn c distance next.rest dear is exact next.sum some far

    taken : answer_of net.none (asked net s turn) ≡ Takes → Right net turn.agent distance (done net s turn)
    taken = right_taken net s turn c distance next.rest is exact next.nearer next.sum

-- what an agent has heard after its turn is as good as what it learned and had heard
pub backed_after : (net : Net) (t : ℕ) (s : State) (turn : Turn) → ((c : Candidate) → IsAt net turn.agent turn.place c → Quality net t c.agent turn.way)
    → Backed net t turn.agent (s turn.agent) → Backed net t turn.agent (done net s turn)
backed_after net t s turn each backed heard c is is_at =
    elim (heard_after (answer_of net.none (asked net s turn)) (learned turn) heard (s turn.agent) is) [
      | inl new ↦
          subst (λ (h : Heard). Quality net t c.agent h.way) new
          (each c (subst (λ (h : Heard). IsAt net turn.agent h.place c) (sym new) is_at))
      | inr old ↦ backed heard c old is_at
    ]

-- ---- what is due

-- the way heard of its parent is better by one, or it learns of it still
abbrev pub BackedDue : Net → ℕ → List Turn → ℕ → Option Heard → Type 0
BackedDue net t turns v old = (heard : Heard) (c : Candidate) → old ≡ Some heard → IsAt net v heard.place c
    → Quality net (suc t) c.agent heard.way ⊎ Learns turns v heard.place

-- it is right, or learns still of the next one on a shortest path
abbrev pub SettledDue : Net → ℕ → List Turn → ℕ → Option Heard → Type 0
SettledDue net t turns v old = (distance : ℕ) → distance ≤ t → distance < net.none → IsDistance net v distance
    → Right net v distance old ⊎ ((next : Next net v distance) × Learns turns v next.place)

pub record DueAt (net : Net) (t : ℕ) (turns : List Turn) (v : ℕ) (old : Option Heard) : Type 0 where
  pub backed : BackedDue net t turns v old
  pub settled : SettledDue net t turns v old

pub all_done : (net : Net) (t v : ℕ) (old : Option Heard) → DueAt net t [] v old → SoundAt net (suc t) v old
all_done net t v old due = record {
  backed = λ heard c is is_at. at_last (due.backed heard c is is_at);
  settled = λ distance low some is. at_end (due.settled distance (omega (arith, low)) some is);
}
  where
    at_last : {A : Type 0} → A ⊎ ⊥ → A
    at_last (inl is) = is
    at_last (inr never) = absurd never

    at_end : {A B : Type 0} → A ⊎ (B × ⊥) → A
    at_end (inl is) = is
    at_end (inr never) = absurd never.1

-- in its turn
due_here : (net : Net) (t : ℕ) (s : State) (turn : Turn) (turns : List Turn) → IsNet net → turn.agent < net.agents → net.is_root turn.agent ≡ false
    → (c : Candidate) → IsAt net turn.agent turn.place c
    → ((c : Candidate) → IsAt net turn.agent turn.place c → Quality net (suc t) c.agent turn.way) → Backed net t turn.agent (s turn.agent)
    → DueAt net t (turn ∷ turns) turn.agent (s turn.agent) → DueAt net t turns turn.agent (done net s turn)
due_here net t s turn turns lawful agent below c is_c each backed due = record { backed = backed_due; settled = settled_due }
  where
    new_good : (heard : Heard) (c : Candidate) → learned turn ≡ heard → IsAt net turn.agent heard.place c → Quality net (suc t) c.agent heard.way
    new_good heard c new is_at =
        subst (λ (h : Heard). Quality net (suc t) c.agent h.way) new (each c (subst (λ (h : Heard). IsAt net turn.agent h.place c) (sym new) is_at))

    -- who learns of its parent has heard that now, or has none
    of_parent : (heard old : Heard) (c : Candidate) → s turn.agent ≡ Some old → old.place ≡ turn.place → done net s turn ≡ Some heard
        → IsAt net turn.agent heard.place c → Quality net (suc t) c.agent heard.way
    of_parent heard old c was same is is_at =
        elim (follows net.none (asked net s turn) (is_parent net s turn old was same)) [
          | inl takes ↦ let now : Some (learned turn) ≡ Some heard = sym (by_answer net s turn Takes takes) ∙ is in new_good heard c (some_same (learned turn) heard now) is_at
          | inr (why, leaves) ↦ let now : None ≡ Some heard = sym (by_answer net s turn (Leaves why) leaves) ∙ is in cc
        ]
      where
        some_same : (x y : Heard) → Some x ≡ Some y → x ≡ y
        some_same x y same = cc

    backed_due : BackedDue net t turns turn.agent (done net s turn)
    backed_due heard c is is_at =
        elim (heard_after (answer_of net.none (asked net s turn)) (learned turn) heard (s turn.agent) is) [
          | inl new ↦ inl (new_good heard c new is_at)
          | inr old ↦
              elim (due.backed heard c old is_at) [
                | inl good ↦ inl good
                | inr (inl (own, same)) ↦ inl (of_parent heard heard c old (sym same) is is_at)
                | inr (inr still) ↦ inr still
              ]
        ]

    settled_due : SettledDue net t turns turn.agent (done net s turn)
    settled_due distance low some is =
        elim (due.settled distance low some is) [
          | inl right ↦ inl (right_after net (suc t) s turn c distance lawful agent below is_c (each c is_c) (omega (arith, low)) some is.1 right).0
          | inr (next, inl (own, same)) ↦ inl (reaches net t s turn distance next lawful agent below same each backed low some is.1)
          | inr (next, inr still) ↦ inr (next, still)
        ]

-- in the turn of another
due_elsewhere : (net : Net) (t : ℕ) (turn : Turn) (turns : List Turn) (v : ℕ) (old : Option Heard) → (v ≡ turn.agent → ⊥)
    → DueAt net t (turn ∷ turns) v old → DueAt net t turns v old
due_elsewhere net t turn turns v old other due = record {
  backed = λ heard c is is_at. still (due.backed heard c is is_at);
  settled = λ distance low some is. still_next (due.settled distance low some is);
}
  where
    later : (place : ℕ) → Learns (turn ∷ turns) v place → Learns turns v place
    later place (inl (own, same)) = absurd (other (sym own))
    later place (inr there) = there

    still : {A : Type 0} {place : ℕ} → A ⊎ Learns (turn ∷ turns) v place → A ⊎ Learns turns v place
    still (inl is) = inl is
    still {place = place} (inr learns) = inr (later place learns)

    still_next : {A : Type 0} {distance : ℕ} → A ⊎ ((next : Next net v distance) × Learns (turn ∷ turns) v next.place)
        → A ⊎ ((next : Next net v distance) × Learns turns v next.place)
    still_next (inl is) = inl is
    still_next (inr (next, learns)) = inr (next, later next.place learns)

pub due_after : (net : Net) (t : ℕ) (s : State) (turn : Turn) (turns : List Turn) (v : ℕ) → IsNet net → v < net.agents → net.is_root v ≡ false
    → (c : Candidate) → IsAt net turn.agent turn.place c
    → (turn.agent < net.agents → (c : Candidate) → IsAt net turn.agent turn.place c → Quality net (suc t) c.agent turn.way) → Backed net t v (s v)
    → DueAt net t (turn ∷ turns) v (s v) → DueAt net t turns v (after_turn net s turn v)
due_after net t s turn turns v lawful agent below c is each backed due =
    elim (cases_eq v turn.agent) [
      | inl same ↦ own same
      | inr other ↦ subst (DueAt net t turns v) (sym (turn_elsewhere net s turn v other)) (due_elsewhere net t turn turns v (s v) other due)
    ]
  where
    own : v ≡ turn.agent → DueAt net t turns v (after_turn net s turn v)
    own same =
        let in_net = subst (λ u. u < net.agents) same agent in
        subst (λ u. DueAt net t turns u (after_turn net s turn u)) (sym same)
        (subst (DueAt net t turns turn.agent) (sym (turn_here net s turn))
        (due_here net t s turn turns lawful in_net (sym (ap net.is_root same) ∙ below) c is (each in_net)
        (subst (λ u. Backed net t u (s u)) same backed) (subst (λ u. DueAt net t (turn ∷ turns) u (s u)) same due)))

-- ---- what stays

abbrev KeptAt : Net → ℕ → ℕ → Option Heard → Option Heard → Type 0
KeptAt net t v old new = (distance : ℕ) → suc distance ≤ t → distance < net.none → IsDistance net v distance → parent_place new ≡ parent_place old

-- who has its distance keeps its parent
abbrev pub Kept : Net → ℕ → State → State → Type 0
Kept net t s after = (v : ℕ) → v < net.agents → net.is_root v ≡ false → KeptAt net t v (s v) (after v)

pub turn_keeps : (net : Net) (t : ℕ) (s : State) (turn : Turn) → IsNet net → Sound net t s
    → (c : Candidate) → IsAt net turn.agent turn.place c
    → (turn.agent < net.agents → (c : Candidate) → IsAt net turn.agent turn.place c → Quality net t c.agent turn.way)
    → Sound net t (after_turn net s turn) × Kept net t s (after_turn net s turn)
turn_keeps net t s turn lawful sound c is each = (λ v agent below. (both v agent below).0, λ v agent below. (both v agent below).1)
  where
    own : turn.agent < net.agents → net.is_root turn.agent ≡ false
        → SoundAt net t turn.agent (done net s turn) × KeptAt net t turn.agent (s turn.agent) (done net s turn)
    own agent below =
        let before = sound turn.agent agent below in
        let right = λ (distance : ℕ) (low : suc distance ≤ t) (some : distance < net.none) (its : IsDistance net turn.agent distance).
        right_after net t s turn c distance lawful agent below is (each agent c is) low some its.1 (before.settled distance low some its) in (
          record {
            backed = backed_after net t s turn (each agent) before.backed;
            settled = λ distance low some its. (right distance low some its).0;
          },
          λ distance low some its. (right distance low some its).1,
        )

    both : (v : ℕ) → v < net.agents → net.is_root v ≡ false
        → SoundAt net t v (after_turn net s turn v) × KeptAt net t v (s v) (after_turn net s turn v)
    both v agent below =
        elim (cases_eq v turn.agent) [
          | inl same ↦
              subst (λ u. SoundAt net t u (after_turn net s turn u) × KeptAt net t u (s u) (after_turn net s turn u)) (sym same)
              (subst (λ new. SoundAt net t turn.agent new × KeptAt net t turn.agent (s turn.agent) new) (sym (turn_here net s turn))
              (own (subst (λ u. u < net.agents) same agent) (sym (ap net.is_root same) ∙ below)))
          | inr other ↦
              let unchanged = turn_elsewhere net s turn v other in
              (subst (SoundAt net t v) (sym unchanged) (sound v agent below), λ distance low some its. ap parent_place unchanged)
        ]

-- ---- who need not be asked

told_most : (net : Net) (v : ℕ) (old : Option Heard) → (told net v old).cost ≤ net.none + net.none
told_most net v None = omega arith
told_most net v (Some heard) = omega arith

says_most : (net : Net) (s : State) (v : ℕ) → (says net s v).cost ≤ net.none + net.none
says_most net s v = by_root (net.is_root v)
  where
    by_root : (b : Bool) → (let way : Way = (if b then record { cost = 0; names = v ∷ [] } else told net v (s v)) in way.cost) ≤ net.none + net.none
    by_root true = omega arith
    by_root false = told_most net v (s v)

pub dear_keeps : (net : Net) (s : State) (turn : Turn) (heard : Heard) → s turn.agent ≡ Some heard → (heard.place ≡ turn.place → ⊥)
    → (says net s turn.agent).cost ≤ price_at net turn.agent turn.place → after_turn net s turn turn.agent ≡ s turn.agent
dear_keeps net s turn heard is other dear =
    let (why, kept) = keeps net.none (asked net s turn) (is_other net s turn heard is other) (ap is_some is) (omega (arith, dear, says_most net s turn.agent)) in
    turn_here net s turn ∙ by_answer net s turn (Keeps why) kept
