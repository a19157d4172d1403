-- What rounds reach: all that is said since is better by one after each.
use Rattle.std.proofs.Common.{◌≡◌, ℕ, suc, ◌+◌, ◌<◌, inl, inr, false, List, [], ◌∷◌, ◌++◌, length, refl, ◌∙◌, subst, arith}
use Rattle.rignolda_ways.specs.Nets.{Candidate, Net, IsAt, IsNet}
use Rattle.rignolda_ways.specs.Turns.{Way, Said, State, Turn, says, after_turn, after_turns}
use Rattle.rignolda_ways.specs.Runs.{WasSaid, IsTurn, AreTurns, moments, AllLearn, Round, IsRound, after_first, after_round, round_moments, after_rounds, IsRun, after_run}
use Rattle.rignolda_ways.proofs.Paths.{next}
use Rattle.rignolda_ways.proofs.Quality.{Quality, weaker, none_yet, Sound, says_quality}
use Rattle.rignolda_ways.proofs.Steps.{Kept, DueAt, same_candidate, all_done, due_after, turn_keeps}

-- what was said at these moments is so good
abbrev pub Good : Net → ℕ → List Said → Type 0
Good net t said = (u : ℕ) (way : Way) → u < net.agents → WasSaid said u way → Quality net t u way

good_now : (net : Net) (t : ℕ) (s : State) (before : List Said) → IsNet net → Sound net t s → Good net (suc t) before → Good net (suc t) (says net s ∷ before)
good_now net t s before lawful sound good u way agent (inl same) = subst (Quality net (suc t) u) same (says_quality net t u s lawful sound agent)
good_now net t s before lawful sound good u way agent (inr earlier) = good u way agent earlier

good_still : (net : Net) (t : ℕ) (s : State) (before : List Said) → IsNet net → Sound net t s → Good net t before → Good net t (says net s ∷ before)
good_still net t s before lawful sound good u way agent (inl same) = weaker net t u way (subst (Quality net (suc t) u) same (says_quality net t u s lawful sound agent))
good_still net t s before lawful sound good u way agent (inr earlier) = good u way agent earlier

good_both : (net : Net) (t : ℕ) (xs ys : List Said) → Good net t xs → Good net t ys → Good net t (xs ++ ys)
good_both net t [] ys xs_good ys_good u way agent was = ys_good u way agent was
good_both net t (x ∷ xs) ys xs_good ys_good u way agent (inl same) = xs_good u way agent (inl same)
good_both net t (x ∷ xs) ys xs_good ys_good u way agent (inr there) =
    good_both net t xs ys (λ w its in_net was. xs_good w its in_net (inr was)) ys_good u way agent there

-- so is what is learned of them
learned_good : (net : Net) (t : ℕ) (said : List Said) (turn : Turn) → IsNet net → Good net t said → IsTurn net said turn → turn.agent < net.agents
    → (c : Candidate) → IsAt net turn.agent turn.place c → Quality net t c.agent turn.way
learned_good net t said turn lawful good (d, is, was) agent c its =
    let same = same_candidate net turn.agent turn.place turn.place d c refl is its in
    good c.agent turn.way (lawful turn.agent turn.place agent c its).0 (subst (λ (e : Candidate). WasSaid said e.agent turn.way) same was)

-- turns by what is so good keep what there is
pub turns_keep : (net : Net) (t : ℕ) (before : List Said) (s : State) (turns : List Turn) → IsNet net → Sound net t s → Good net t before
    → AreTurns net before s turns
    → Sound net t (after_turns net s turns) × Good net (suc t) (moments net s turns) × Kept net t s (after_turns net s turns)
turns_keep net t before s [] lawful sound good are =
    (sound, good_now net t s [] lawful sound (λ u way agent never. absurd never), λ v agent below distance low some is. refl)
turns_keep net t before s (turn ∷ turns) lawful sound good are =
    let now = good_still net t s before lawful sound good in
    let here = turn_keeps net t s turn lawful sound are.0.0 are.0.1 (learned_good net t (says net s ∷ before) turn lawful now are.0) in
    let (last, said, kept) = turns_keep net t (says net s ∷ before) (after_turn net s turn) turns lawful here.0 now are.1 in (
      last,
      good_now net t s (moments net (after_turn net s turn) turns) lawful sound said,
      λ v agent below distance low some is. kept v agent below distance low some is ∙ here.1 v agent below distance low some is,
    )

-- and by what is better by one, reach it
turns_reach : (net : Net) (t : ℕ) (before : List Said) (s : State) (turns : List Turn) → IsNet net → Sound net t s → Good net (suc t) before
    → ((v : ℕ) → v < net.agents → net.is_root v ≡ false → DueAt net t turns v (s v)) → AreTurns net before s turns → Sound net (suc t) (after_turns net s turns)
turns_reach net t before s [] lawful sound good due are = λ v agent below. all_done net t v (s v) (due v agent below)
turns_reach net t before s (turn ∷ turns) lawful sound good due are =
    let now = good_now net t s before lawful sound good in
    let each = learned_good net (suc t) (says net s ∷ before) turn lawful now are.0 in
    turns_reach net t (says net s ∷ before) (after_turn net s turn) turns lawful
    (turn_keeps net t s turn lawful sound are.0.0 are.0.1 (λ agent c is. weaker net t c.agent turn.way (each agent c is))).0 now
    (λ v agent below. due_after net t s turn turns v lawful agent below are.0.0 are.0.1 each (sound v agent below).backed (due v agent below)) are.1

begins_due : (net : Net) (t : ℕ) (s : State) (turns : List Turn) → AllLearn net turns → (v : ℕ) → v < net.agents → net.is_root v ≡ false → DueAt net t turns v (s v)
begins_due net t s turns all v agent below = record {
  backed = λ heard c is is_at. inr (all v heard.place agent below c is_at);
  settled = λ distance low some is.
      let on = next net v distance below is in inr (on, all v on.place agent below on.candidate on.is);
}

pub round_reaches : (net : Net) (t : ℕ) (before : List Said) (s : State) (round : Round) → IsNet net → Sound net t s → Good net t before → IsRound net before s round
    → Sound net (suc t) (after_round net s round) × Good net (suc t) (round_moments net s round) × Kept net t s (after_round net s round)
round_reaches net t before s round lawful sound good is =
    let (middle, first, kept) = turns_keep net t before s round.first lawful sound good is.first in
    let there = after_first net s round in
    let (_, second, kept_there) = turns_keep net t (moments net s round.first) there round.second lawful middle
    (λ u way agent was. weaker net t u way (first u way agent was)) is.second in (
      turns_reach net t (moments net s round.first) there round.second lawful middle first (begins_due net t there round.second is.all) is.second,
      good_both net (suc t) (moments net s round.first) (moments net there round.second) first second,
      λ v agent below distance low some its. kept_there v agent below distance low some its ∙ kept v agent below distance low some its,
    )

-- ---- runs

pub run_sound : (net : Net) (t : ℕ) (before : List Said) (s : State) (rounds : List Round) (further : List Turn) → IsNet net → Sound net t s → Good net t before
    → IsRun net before s rounds further → Sound net (t + length rounds) (after_run net s rounds further)
run_sound net t before s [] further lawful sound good run =
    let none : t ≡ t + 0 = omega arith in
    subst (λ k. Sound net k (after_turns net s further)) none (turns_keep net t before s further lawful sound good run).0
run_sound net t before s (round ∷ rounds) further lawful sound good run =
    let more : suc t + length rounds ≡ t + length (round ∷ rounds) = omega arith in
    let (reached, said, kept) = round_reaches net t before s round lawful sound good run.0 in
    subst (λ k. Sound net k (after_run net (after_round net s round) rounds further)) more
    (run_sound net (suc t) (round_moments net s round) (after_round net s round) rounds further lawful reached said run.1)

pub run_keeps : (net : Net) (t : ℕ) (before : List Said) (s : State) (rounds : List Round) (further : List Turn) → IsNet net → Sound net t s → Good net t before
    → IsRun net before s rounds further → Kept net t s (after_run net s rounds further)
run_keeps net t before s [] further lawful sound good run = (turns_keep net t before s further lawful sound good run).2
run_keeps net t before s (round ∷ rounds) further lawful sound good run =
    let (reached, said, kept) = round_reaches net t before s round lawful sound good run.0 in
    let rest = run_keeps net (suc t) (round_moments net s round) (after_round net s round) rounds further lawful reached said run.1 in
    λ v agent below distance low some is. rest v agent below distance (omega (arith, low)) some is ∙ kept v agent below distance low some is

pub run_keeps_then : (net : Net) (t : ℕ) (before : List Said) (s : State) (rounds more : List Round) (further : List Turn) → IsNet net → Sound net t s → Good net t before
    → IsRun net before s (rounds ++ more) further → Kept net (t + length rounds) (after_rounds net s rounds) (after_run net s (rounds ++ more) further)
run_keeps_then net t before s [] more further lawful sound good run =
    let none : t ≡ t + 0 = omega arith in
    subst (λ k. Kept net k s (after_run net s more further)) none (run_keeps net t before s more further lawful sound good run)
run_keeps_then net t before s (round ∷ rounds) more further lawful sound good run =
    let one : suc t + length rounds ≡ t + length (round ∷ rounds) = omega arith in
    let (reached, said, kept) = round_reaches net t before s round lawful sound good run.0 in
    subst (λ k. Kept net k (after_rounds net (after_round net s round) rounds) (after_run net (after_round net s round) (rounds ++ more) further)) one
    (run_keeps_then net (suc t) (round_moments net s round) (after_round net s round) rounds more further lawful reached said run.1)

-- any state is as good as nothing
pub begins : (net : Net) (s : State) → Sound net 0 s
begins net s v agent below = record {
  backed = λ heard c is is_at. none_yet net c.agent heard.way;
  settled = λ distance low. absurd (omega (arith, low));
}

pub begins_good : (net : Net) (before : List Said) → Good net 0 before
begins_good net before u way agent was = none_yet net u way
