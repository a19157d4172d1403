-- The last names of each way are those of a path of the net, one more after each round; and there are
-- only so many agents.
use Rattle.std.proofs.Common.{◌≡◌, ◌⊎◌, ℕ, zero, suc, ◌+◌, ◌<◌, inl, inr, Bool, true, false, if◌then◌else◌, List, [], ◌∷◌, ◌++◌, length, Contains, Option, Some, None, refl, sym, ◌∙◌, ap, subst, arith}
use Rattle.std.specs.Prelude.{⊤, eqb, ◌==◌}
use Rattle.std.specs.List.{AllByRecursion, IsDistinct, list_any}
use Rattle.std.proofs.lemmas.Bool.{cases_Bool, cases_eq, eq-eqb, ne_eqb, eqb-true, or_cases, or_parts}
use Rattle.std.proofs.lemmas.List.Elements.{Contains-append_left, Contains-push}
use Rattle.std.proofs.lemmas.Map.Steps.{length-le_from_distinct_below}
use Rattle.rignolda_ways.specs.declared.asked.Asked.{Asked}
use Rattle.rignolda_ways.specs.declared.asked.Answer.{Answer}
use Rattle.rignolda_ways.specs.declared.asked.Answer.TheVariants.{Takes, Keeps, Leaves}
use Rattle.rignolda_ways.specs.declared.asked.Reason.TheVariants.{Circle}
use Rattle.rignolda_ways.specs.Nets.{Candidate, Net, IsAt, IsNet, AreNames}
use Rattle.rignolda_ways.specs.Answers.{fault_of, compared, answered, answer_of}
use Rattle.rignolda_ways.specs.Turns.{Way, Said, Heard, State, Turn, told, says, asked, after_turn, after_turns, HavePlaces}
use Rattle.rignolda_ways.specs.Runs.{WasSaid, IsTurn, AreTurns, moments, Learns, AllLearn, Round, after_first, after_round, round_moments, IsRun, after_run}
use Rattle.rignolda_ways.proofs.Answered.{follows}
use Rattle.rignolda_ways.proofs.Quality.{says_below, says_root}
use Rattle.rignolda_ways.proofs.Steps.{learned, done, turn_here, turn_elsewhere, by_answer, is_parent}

-- so many of the last names are those of a path, or all are
abbrev pub Ends : Net → ℕ → ℕ → List ℕ → Type 0
Ends net zero v names = ⊤
Ends net (suc t) v names = (names ≡ v ∷ [])
    ⊎ ((place : ℕ) × (c : Candidate) × (before : List ℕ) × IsAt net v place c × Ends net t c.agent before × (Contains before v → ⊥) × (names ≡ before ++ v ∷ []))

fewer : (net : Net) (t v : ℕ) (names : List ℕ) → Ends net (suc t) v names → Ends net t v names
fewer net zero v names ends = tt
fewer net (suc t) v names (inl alone) = inl alone
fewer net (suc t) v names (inr (place, c, before, is, ends, apart, named)) = inr (place, c, before, is, fewer net t c.agent before ends, apart, named)

-- ---- what is heard

-- what an agent has heard of its parent, which is in its list, ends so
abbrev pub Follows : Net → ℕ → ℕ → Heard → Type 0
Follows net t v heard = (c : Candidate) × IsAt net v heard.place c × Ends net t c.agent heard.way.names × (Contains heard.way.names v → ⊥)

-- at first the parent is in the list, and no more is known
abbrev pub Traces : Net → ℕ → ℕ → Heard → Type 0
Traces net zero v heard = (c : Candidate) × IsAt net v heard.place c
Traces net (suc t) v heard = Follows net t v heard

abbrev pub TracedAt : Net → ℕ → ℕ → Option Heard → Type 0
TracedAt net t v old = (heard : Heard) → old ≡ Some heard → Traces net t v heard

abbrev pub Traced : Net → ℕ → State → Type 0
Traced net t s = (v : ℕ) → v < net.agents → net.is_root v ≡ false → TracedAt net t v (s v)

follows_weaker : (net : Net) (t v : ℕ) (heard : Heard) → Follows net t v heard → Traces net t v heard
follows_weaker net zero v heard (c, is, ends, apart) = (c, is)
follows_weaker net (suc t) v heard (c, is, ends, apart) = (c, is, fewer net t c.agent heard.way.names ends, apart)

in_list : (net : Net) (t v : ℕ) (heard : Heard) → Traces net t v heard → (c : Candidate) × IsAt net v heard.place c
in_list net zero v heard (c, is) = (c, is)
in_list net (suc t) v heard (c, is, ends, apart) = (c, is)

told_ends : (net : Net) (t v : ℕ) (old : Option Heard) → TracedAt net t v old → Ends net t v (told net v old).names
told_ends net zero v old traced = tt
told_ends net (suc t) v None traced = inl refl
told_ends net (suc t) v (Some heard) traced =
    let (c, is, ends, apart) = traced heard refl in inr (heard.place, c, heard.way.names, is, ends, apart, refl)

alone_ends : (net : Net) (t v : ℕ) → Ends net t v (v ∷ [])
alone_ends net zero v = tt
alone_ends net (suc t) v = inl refl

pub says_ends : (net : Net) (t v : ℕ) (s : State) → Traced net t s → v < net.agents → Ends net t v (says net s v).names
says_ends net t v s traced agent =
    elim (cases_Bool (net.is_root v)) [
      | inl root ↦ subst (λ (way : Way). Ends net t v way.names) (sym (says_root net s v root)) (alone_ends net t v)
      | inr below ↦ subst (λ (way : Way). Ends net t v way.names) (sym (says_below net s v below)) (told_ends net t v (s v) (traced v agent below))
    ]

-- ---- a turn

-- who takes a way is not named on it
pub unnamed : (names : List ℕ) (v : ℕ) → list_any (λ name. name == v) names ≡ false → Contains names v → ⊥
unnamed [] v none (k, within, is) = omega (arith, within)
unnamed (x ∷ xs) v none (zero, within, is) =
    let never : true ≡ false = sym (eq-eqb x v is) ∙ (or_parts (x == v) (list_any (λ name. name == v) xs) none).0 in cc
unnamed (x ∷ xs) v none (suc k, within, is) = unnamed xs v (or_parts (x == v) (list_any (λ name. name == v) xs) none).1 (k, omega (arith, within), is)

pub takes_apart : (none : ℕ) (a : Asked) → answer_of none a ≡ Takes → a.has_own_name ≡ false
takes_apart none a takes =
    elim (cases_Bool a.has_own_name) [
      | inr apart ↦ apart
      | inl named ↦
          let fault : fault_of none a ≡ Some Circle = ap (λ b. if b then Some Circle else fault_of none (record a { has_own_name = false })) named in
          absurd (faulty a.is_parent (sym (ap (λ f. answered a.is_parent f (compared none a)) fault) ∙ takes))
    ]
  where
    faulty : (b : Bool) → answered b (Some Circle) (compared none a) ≡ Takes → ⊥
    faulty true is = cc
    faulty false is = cc

-- what is heard after a turn is what is learned, or was heard before
pub heard_now : (net : Net) (s : State) (turn : Turn) (heard : Heard) → done net s turn ≡ Some heard
    → ((learned turn ≡ heard) × (Contains turn.way.names turn.agent → ⊥)) ⊎ (s turn.agent ≡ Some heard)
heard_now net s turn heard is = by_cases (answer_of net.none (asked net s turn)) refl
  where
    by_cases : (answer : Answer) → answer_of net.none (asked net s turn) ≡ answer
        → ((learned turn ≡ heard) × (Contains turn.way.names turn.agent → ⊥)) ⊎ (s turn.agent ≡ Some heard)
    by_cases Takes its =
        let now : Some (learned turn) ≡ Some heard = sym (by_answer net s turn Takes its) ∙ is in
        inl (some_same now, unnamed turn.way.names turn.agent (takes_apart net.none (asked net s turn) its))
      where
        some_same : Some (learned turn) ≡ Some heard → learned turn ≡ heard
        some_same same = cc
    by_cases (Keeps why) its = inr (sym (by_answer net s turn (Keeps why) its) ∙ is)
    by_cases (Leaves why) its = let now : None ≡ Some heard = sym (by_answer net s turn (Leaves why) its) ∙ is in cc

learned_follows : (net : Net) (t : ℕ) (turn : Turn) (heard : Heard) (c : Candidate) → IsAt net turn.agent turn.place c → Ends net t c.agent turn.way.names
    → learned turn ≡ heard → (Contains turn.way.names turn.agent → ⊥) → Follows net t turn.agent heard
learned_follows net t turn heard c is ends new apart = subst (Follows net t turn.agent) new (c, is, ends, apart)

-- what was said at these moments ends so
abbrev pub SaidEnds : Net → ℕ → List Said → Type 0
SaidEnds net zero said = ⊤
SaidEnds net (suc t) said = (u : ℕ) (way : Way) → u < net.agents → WasSaid said u way → Ends net t u way.names

-- what a turn learns ends so
abbrev pub TurnEnds : Net → ℕ → Turn → Type 0
TurnEnds net zero turn = (c : Candidate) × IsAt net turn.agent turn.place c
TurnEnds net (suc t) turn = (c : Candidate) × IsAt net turn.agent turn.place c × (turn.agent < net.agents → Ends net t c.agent turn.way.names)

learned_traces : (net : Net) (t : ℕ) (turn : Turn) (heard : Heard) → turn.agent < net.agents → TurnEnds net t turn
    → learned turn ≡ heard → (Contains turn.way.names turn.agent → ⊥) → Traces net t turn.agent heard
learned_traces net zero turn heard agent (c, is) new apart = subst (λ (h : Heard). Traces net zero turn.agent h) new (c, is)
learned_traces net (suc t) turn heard agent (c, is, ends) new apart = learned_follows net t turn heard c is (ends agent) new apart

turn_ends : (net : Net) (t : ℕ) (said : List Said) (turn : Turn) → IsNet net → SaidEnds net t said → IsTurn net said turn → TurnEnds net t turn
turn_ends net zero said turn lawful ends (c, is, was) = (c, is)
turn_ends net (suc t) said turn lawful ends (c, is, was) =
    (c, is, λ agent. ends c.agent turn.way (lawful turn.agent turn.place agent c is).0 was)

turn_traced : (net : Net) (t : ℕ) (s : State) (turn : Turn) → Traced net t s → TurnEnds net t turn → Traced net t (after_turn net s turn)
turn_traced net t s turn traced ends v agent below =
    elim (cases_eq v turn.agent) [
      | inl same ↦
          subst (λ u. TracedAt net t u (after_turn net s turn u)) (sym same)
          (subst (TracedAt net t turn.agent) (sym (turn_here net s turn))
          (own (subst (λ u. u < net.agents) same agent) (sym (ap net.is_root same) ∙ below)))
      | inr other ↦ subst (TracedAt net t v) (sym (turn_elsewhere net s turn v other)) (traced v agent below)
    ]
  where
    own : turn.agent < net.agents → net.is_root turn.agent ≡ false → TracedAt net t turn.agent (done net s turn)
    own agent below heard is =
        elim (heard_now net s turn heard is) [
          | inl (new, apart) ↦ learned_traces net t turn heard agent ends new apart
          | inr old ↦ traced turn.agent agent below heard old
        ]

-- ---- what is due

-- what is heard of its parent ends so already, or it learns of it still
abbrev NamedDue : Net → ℕ → List Turn → ℕ → Option Heard → Type 0
NamedDue net t turns v old = (heard : Heard) → old ≡ Some heard → Follows net t v heard ⊎ Learns turns v heard.place

due_here : (net : Net) (t : ℕ) (s : State) (turn : Turn) (turns : List Turn) → turn.agent < net.agents → TurnEnds net (suc t) turn
    → NamedDue net t (turn ∷ turns) turn.agent (s turn.agent) → NamedDue net t turns turn.agent (done net s turn)
due_here net t s turn turns agent (c, is_at, ends) due heard is =
    elim (heard_now net s turn heard is) [
      | inl (new, apart) ↦ inl (learned_follows net t turn heard c is_at (ends agent) new apart)
      | inr old ↦
          elim (due heard old) [
            | inl good ↦ inl good
            | inr (inl (own, same)) ↦ inl (of_parent old (sym same))
            | inr (inr still) ↦ inr still
          ]
    ]
  where
    of_parent : s turn.agent ≡ Some heard → heard.place ≡ turn.place → Follows net t turn.agent heard
    of_parent old same =
        elim (follows net.none (asked net s turn) (is_parent net s turn heard old same)) [
          | inl takes ↦
              let now : Some (learned turn) ≡ Some heard = sym (by_answer net s turn Takes takes) ∙ is in
              learned_follows net t turn heard c is_at (ends agent) (some_same now) (unnamed turn.way.names turn.agent (takes_apart net.none (asked net s turn) takes))
          | inr (why, leaves) ↦ let now : None ≡ Some heard = sym (by_answer net s turn (Leaves why) leaves) ∙ is in cc
        ]
      where
        some_same : Some (learned turn) ≡ Some heard → learned turn ≡ heard
        some_same same = cc

due_after : (net : Net) (t : ℕ) (s : State) (turn : Turn) (turns : List Turn) (v : ℕ) → v < net.agents → TurnEnds net (suc t) turn
    → NamedDue net t (turn ∷ turns) v (s v) → NamedDue net t turns v (after_turn net s turn v)
due_after net t s turn turns v agent ends due =
    elim (cases_eq v turn.agent) [
      | inl same ↦
          subst (λ u. NamedDue net t turns u (after_turn net s turn u)) (sym same)
          (subst (NamedDue net t turns turn.agent) (sym (turn_here net s turn))
          (due_here net t s turn turns (subst (λ u. u < net.agents) same agent) ends (subst (λ u. NamedDue net t (turn ∷ turns) u (s u)) same due)))
      | inr other ↦ subst (NamedDue net t turns v) (sym (turn_elsewhere net s turn v other)) (λ heard is. still other (due heard is))
    ]
  where
    still : {A : Type 0} {place : ℕ} → (v ≡ turn.agent → ⊥) → A ⊎ Learns (turn ∷ turns) v place → A ⊎ Learns turns v place
    still other (inl is) = inl is
    still other (inr (inl (own, same))) = absurd (other (sym own))
    still other (inr (inr there)) = inr there

-- ---- rounds

said_now : (net : Net) (t : ℕ) (s : State) (before : List Said) → Traced net t s → SaidEnds net (suc t) before → SaidEnds net (suc t) (says net s ∷ before)
said_now net t s before traced ends u way agent (inl same) = subst (λ (way : Way). Ends net t u way.names) same (says_ends net t u s traced agent)
said_now net t s before traced ends u way agent (inr earlier) = ends u way agent earlier

said_still : (net : Net) (t : ℕ) (s : State) (before : List Said) → Traced net t s → SaidEnds net t before → SaidEnds net t (says net s ∷ before)
said_still net zero s before traced ends = tt
said_still net (suc t) s before traced ends = λ u way agent was. by_moment u way agent was
  where
    by_moment : (u : ℕ) (way : Way) → u < net.agents → WasSaid (says net s ∷ before) u way → Ends net t u way.names
    by_moment u way agent (inl same) = fewer net t u way.names (subst (λ (way : Way). Ends net (suc t) u way.names) same (says_ends net (suc t) u s traced agent))
    by_moment u way agent (inr earlier) = ends u way agent earlier

said_fewer : (net : Net) (t : ℕ) (said : List Said) → SaidEnds net (suc t) said → SaidEnds net t said
said_fewer net zero said ends = tt
said_fewer net (suc t) said ends = λ u way agent was. fewer net t u way.names (ends u way agent was)

said_both : (net : Net) (t : ℕ) (xs ys : List Said) → SaidEnds net (suc t) xs → SaidEnds net (suc t) ys → SaidEnds net (suc t) (xs ++ ys)
said_both net t [] ys xs_end ys_end u way agent was = ys_end u way agent was
said_both net t (x ∷ xs) ys xs_end ys_end u way agent (inl same) = xs_end u way agent (inl same)
said_both net t (x ∷ xs) ys xs_end ys_end u way agent (inr there) =
    said_both net t xs ys (λ w its in_net was. xs_end w its in_net (inr was)) ys_end u way agent there

turns_trace : (net : Net) (t : ℕ) (before : List Said) (s : State) (turns : List Turn) → IsNet net → Traced net t s → SaidEnds net t before → AreTurns net before s turns
    → Traced net t (after_turns net s turns) × SaidEnds net (suc t) (moments net s turns)
turns_trace net t before s [] lawful traced ends are = (traced, said_now net t s [] traced (λ u way agent never. absurd never))
turns_trace net t before s (turn ∷ turns) lawful traced ends are =
    let now = said_still net t s before traced ends in
    let (last, said) = turns_trace net t (says net s ∷ before) (after_turn net s turn) turns lawful
    (turn_traced net t s turn traced (turn_ends net t (says net s ∷ before) turn lawful now are.0)) now are.1 in
    (last, said_now net t s (moments net (after_turn net s turn) turns) traced said)

turns_follow : (net : Net) (t : ℕ) (before : List Said) (s : State) (turns : List Turn) → IsNet net → Traced net t s → SaidEnds net (suc t) before
    → ((v : ℕ) → v < net.agents → net.is_root v ≡ false → NamedDue net t turns v (s v)) → AreTurns net before s turns → Traced net (suc t) (after_turns net s turns)
turns_follow net t before s [] lawful traced ends due are = λ v agent below heard is. at_last (due v agent below heard is)
  where
    at_last : {A : Type 0} → A ⊎ ⊥ → A
    at_last (inl is) = is
    at_last (inr never) = absurd never
turns_follow net t before s (turn ∷ turns) lawful traced ends due are =
    let now = said_now net t s before traced ends in
    let its = turn_ends net (suc t) (says net s ∷ before) turn lawful now are.0 in
    let still = turn_ends net t (says net s ∷ before) turn lawful (said_fewer net t (says net s ∷ before) now) are.0 in
    turns_follow net t (says net s ∷ before) (after_turn net s turn) turns lawful (turn_traced net t s turn traced still) now
    (λ v agent below. due_after net t s turn turns v agent its (due v agent below)) are.1

begins_due : (net : Net) (t : ℕ) (s : State) (turns : List Turn) → Traced net t s → AllLearn net turns
    → (v : ℕ) → v < net.agents → net.is_root v ≡ false → NamedDue net t turns v (s v)
begins_due net t s turns traced all v agent below heard is =
    let (c, is_at) = in_list net t v heard (traced v agent below heard is) in inr (all v heard.place agent below c is_at)

pub run_traced : (net : Net) (t : ℕ) (before : List Said) (s : State) (rounds : List Round) (further : List Turn) → IsNet net → Traced net t s → SaidEnds net t before
    → IsRun net before s rounds further → Traced net (t + length rounds) (after_run net s rounds further)
run_traced net t before s [] further lawful traced ends run =
    let none : t ≡ t + 0 = omega arith in
    subst (λ k. Traced net k (after_turns net s further)) none (turns_trace net t before s further lawful traced ends run).0
run_traced net t before s (round ∷ rounds) further lawful traced ends run =
    let more : suc t + length rounds ≡ t + length (round ∷ rounds) = omega arith in
    let is = run.0 in
    let there = after_first net s round in
    let (middle, first) = turns_trace net t before s round.first lawful traced ends is.first in
    let second = (turns_trace net t (moments net s round.first) there round.second lawful middle (said_fewer net t (moments net s round.first) first) is.second).1 in
    let reached = turns_follow net t (moments net s round.first) there round.second lawful middle first (begins_due net t there round.second middle is.all) is.second in
    subst (λ k. Traced net k (after_run net (after_round net s round) rounds further)) more
    (run_traced net (suc t) (round_moments net s round) (after_round net s round) rounds further lawful reached
    (said_both net t (moments net s round.first) (moments net there round.second) first second) run.1)

pub begins_traced : (net : Net) (s : State) → HavePlaces net s → Traced net 0 s
begins_traced net s have v agent below heard is = have v agent below heard is

-- ---- no more names than agents

all_map : {P Q : ℕ → Type 0} (xs : List ℕ) → ((x : ℕ) → P x → Q x) → AllByRecursion P xs → AllByRecursion Q xs
all_map [] each all = tt
all_map (x ∷ xs) each all = (each x all.0, all_map xs each all.1)

-- agents that do not come before
abbrev Behind : Net → List ℕ → ℕ → Type 0
Behind net names u = (u < net.agents) × (Contains names u → ⊥)

agents_of : (net : Net) (names seen : List ℕ) → AllByRecursion (Behind net names) seen → (q : ℕ) → list_any (eqb q) seen ≡ true → q < net.agents
agents_of net names [] all q is = let never : false ≡ true = is in cc
agents_of net names (x ∷ xs) all q is =
    elim (or_cases (eqb q x) (list_any (eqb q) xs) is) [
      | inl here ↦ let same : q ≡ x = eqb-true q x here in omega (arith, same, all.0.0)
      | inr there ↦ agents_of net names xs all.1 q there
    ]

pub with_last : (seen : List ℕ) (v : ℕ) → AllByRecursion (λ u. eqb v u ≡ false) seen → IsDistinct eqb seen → IsDistinct eqb (v ∷ seen)
unfolding IsDistinct
with_last seen v apart distinct = (apart, distinct)

pub none_seen : IsDistinct eqb []
unfolding IsDistinct
none_seen = tt

names_from : (net : Net) (t v : ℕ) (names seen : List ℕ) → IsNet net → v < net.agents → IsDistinct eqb seen → AllByRecursion (Behind net names) seen
    → net.agents < length seen + t → Ends net t v names → (hops : ℕ) × AreNames net hops v names
names_from net zero v names seen lawful agent distinct behind many ends =
    absurd (omega (arith, many, length-le_from_distinct_below seen net.agents distinct (agents_of net names seen behind)))
names_from net (suc t) v names seen lawful agent distinct behind many (inl alone) = (0, alone)
names_from net (suc t) v names seen lawful agent distinct behind many (inr (place, c, before, is, ends, apart, named)) =
    let last : Contains names v = subst (λ all. Contains all v) (sym named) (Contains-push before v) in
    let other : AllByRecursion (λ u. eqb v u ≡ false) seen = all_map seen (λ u its. ne_eqb v u (λ same. its.1 (subst (Contains names) same last))) behind in
    let front : AllByRecursion (Behind net before) seen = all_map seen (λ u its. (its.0, λ there. its.1 (subst (λ all. Contains all u) (sym named) (Contains-append_left before (v ∷ []) u there)))) behind in
    let (hops, are) = names_from net t c.agent before (v ∷ seen) lawful (lawful v place agent c is).0 (with_last seen v other distinct)
    ((agent, apart), front) (omega (arith, many)) ends in
    (suc hops, (place, c, before, is, are, apart, named))

pub all_names : (net : Net) (t v : ℕ) (names : List ℕ) → IsNet net → v < net.agents → net.agents < t → Ends net t v names → (hops : ℕ) × AreNames net hops v names
all_names net t v names lawful agent many ends = names_from net t v names [] lawful agent none_seen tt (omega (arith, many)) ends
