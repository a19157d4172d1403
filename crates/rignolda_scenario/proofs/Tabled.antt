-- Steps with the places of their names in a table, which may grow; and the steps of a tree over the
-- nodes of these names.
use Rattle.std.proofs.Common.{◌≡◌, ◌⊎◌, ℕ, ◌<◌, List, [], ◌∷◌, ◌++◌, length, map, get_or, slice_get, All, Option, Some, None, IfSome, Ok, inl, inr, refl, sym, ap, ◌∙◌, append_assoc, append-nil, subst, arith}
use Rattle.std.proofs.lemmas.List.{get_or_append_left, length-append, map-append}
use Rattle.std.proofs.lemmas.List.Elements.{All-head, All-tail, All-append}
use Rattle.std.proofs.lemmas.Option.{get_or_from_slice_get, slice_get_within}
use Rattle.serde_json.specs.Data.{Data, string}
use Rattle.stab_frames.specs.Parameters.{Parameters}
use Rattle.stab_json.specs.Checks.{◌>>=◌, ◌or◌}
use Rattle.stab_core.specs.declared.act.LinkAct.{LinkAct}
use Rattle.stab_core.specs.declared.start.Start.{Start}
use Rattle.stab_job.specs.Steps.{AreNodesOf}
use Rattle.stab_tree.specs.Links.{link_place_of}
use Rattle.stab_tree.specs.Nodes.{Nodes}
use Rattle.stab_treecore.specs.declared.change.Change.TheVariants.{Act, Restart}
use Rattle.rignolda_scenario.specs.declared.fault.StepFault.TheVariants as fault
use Rattle.rignolda_scenario.specs.declared.step.Step.{Step}
use Rattle.rignolda_scenario.specs.declared.step.Step.TheVariants.{One}
use Rattle.rignolda_scenario.specs.declared.named.KeptStep.{KeptStep}
use Rattle.rignolda_scenario.specs.declared.named.KeptStep.TheVariants as kept
use Rattle.rignolda_scenario.specs.Entries.{act_step, link_named, node_named}
use Rattle.rignolda_scenario.specs.NamedSteps.{AreStepsOf, IsIn, NamedStep, act_on, named_in, restart_of, step_of_named, strike_at, strike_on}

-- ---- a table that grows

-- the step that has the place of its name
module _ (names : List (List ℕ)) (place : ℕ) (name : List ℕ) (found : slice_get names place ≡ Some name) where
  its_name : get_or names place [] ≡ name
  its_name = get_or_from_slice_get names place name [] found

  its_place : place < length names
  its_place = slice_get_within names place name found

  pub placed_act : (act : LinkAct) → (named_in names (kept.Act place act) ≡ act_on name act) × IsIn names (kept.Act place act)
  placed_act act = (ap (λ n. act_on n act) its_name, its_place)

  pub placed_strike : (start : Start) → (named_in names (kept.Strike place start) ≡ strike_at name start) × IsIn names (kept.Strike place start)
  placed_strike start = (ap (λ n. strike_at n start) its_name, its_place)

  pub placed_restart : (items : List ℕ) → (named_in names (kept.Restart place items) ≡ restart_of name items) × IsIn names (kept.Restart place items)
  placed_restart items = (ap (λ n. restart_of n items) its_name, its_place)

-- a table is as it was, or has a name more at its end
abbrev pub Grown : List (List ℕ) → List (List ℕ) → Type 0
Grown names now = (now ≡ names) ⊎ ((name : List ℕ) × (now ≡ names ++ name ∷ []))

-- a name more leaves the place of a step in the table
more_is_in : (names : List (List ℕ)) (name : List ℕ) (step : KeptStep) → IsIn names step → IsIn (names ++ name ∷ []) step
more_is_in names name (kept.Act place act) within = omega (arith, within, length-append names (name ∷ []))
more_is_in names name (kept.Publish items) within = tt
more_is_in names name (kept.Strike place its_start) within = omega (arith, within, length-append names (name ∷ []))
more_is_in names name (kept.Restart place items) within = omega (arith, within, length-append names (name ∷ []))
more_is_in names name (kept.Rounds count) within = tt
more_is_in names name (kept.ReadingRounds count) within = tt

-- and what it means
same_with_more : (names : List (List ℕ)) (name : List ℕ) (step : KeptStep) → IsIn names step → named_in (names ++ name ∷ []) step ≡ named_in names step
same_with_more names name (kept.Act place act) within = rw (get_or_append_left names (name ∷ []) [] place within) refl
same_with_more names name (kept.Publish items) within = refl
same_with_more names name (kept.Strike place its_start) within = rw (get_or_append_left names (name ∷ []) [] place within) refl
same_with_more names name (kept.Restart place items) within = rw (get_or_append_left names (name ∷ []) [] place within) refl
same_with_more names name (kept.Rounds count) within = refl
same_with_more names name (kept.ReadingRounds count) within = refl

all_same : (names : List (List ℕ)) (name : List ℕ) (steps : List KeptStep) → All (IsIn names) steps → map (named_in (names ++ name ∷ [])) steps ≡ map (named_in names) steps
all_same names name [] within = refl
all_same names name (step ∷ steps) within =
    rw (same_with_more names name step (All-head (IsIn names) step steps within)) (rw (all_same names name steps (All-tail (IsIn names) step steps within)) refl)

pub still_in : (names now : List (List ℕ)) (steps : List KeptStep) → Grown names now → All (IsIn names) steps → All (IsIn now) steps
still_in names now steps (inl same) within = subst (λ table. All (IsIn table) steps) (sym same) within
still_in names now steps (inr (name, more)) within =
    subst (λ table. All (IsIn table) steps) (sym more) (λ k d inside. more_is_in names name (get_or steps k d) (within k d inside))

still_same : (names now : List (List ℕ)) (steps : List KeptStep) → Grown names now → All (IsIn names) steps → map (named_in now) steps ≡ map (named_in names) steps
still_same names now steps (inl same) within = ap (λ table. map (named_in table) steps) same
still_same names now steps (inr (name, more)) within = ap (λ table. map (named_in table) steps) more ∙ all_same names name steps within

-- a step more, which has its place there
pub one_more_in : (names now : List (List ℕ)) (steps : List KeptStep) (step : KeptStep) → Grown names now → All (IsIn names) steps → IsIn now step → All (IsIn now) (steps ++ step ∷ [])
one_more_in names now steps step grown within its =
    All-append (IsIn now) steps (step ∷ []) (still_in names now steps grown within) (λ k d inside. let first : k ≡ 0 = omega arith in rw first its)

pub one_more_named : (names now : List (List ℕ)) (steps : List KeptStep) (step : KeptStep) (n : NamedStep) → Grown names now → All (IsIn names) steps → named_in now step ≡ n
    → map (named_in now) (steps ++ step ∷ []) ≡ map (named_in names) steps ++ n ∷ []
one_more_named names now steps step n grown within is =
    map-append (named_in now) steps (step ∷ []) ∙ ap (λ ns. ns ++ named_in now step ∷ []) (still_same names now steps grown within)
    ∙ ap (λ m. map (named_in names) steps ++ m ∷ []) is

-- ---- the steps of a tree

-- the node of the name at a place
pub node_there : (nodes : List ℕ) (k : ℕ) (found : Option ℕ) → found ≡ slice_get nodes k
    → IfSome found (λ node. (t : Nodes) (names : List (List ℕ)) → AreNodesOf t.names names nodes → node_named t (string (get_or names k [])) ≡ Ok node)
node_there nodes k None is = tt
node_there nodes k (Some node) is = λ t names are.
    let here : get_or nodes k 0 ≡ node = get_or_from_slice_get nodes k node 0 (sym is) in
    let within : k < length names = omega (arith, slice_get_within nodes k node (sym is), are.0) in
    ap (λ (o : Option ℕ). o or fault.UnknownNode) (are.1 k within ∙ ap Some here)

-- the link into it
pub link_there : (t : Nodes) (d : Data) (node place : ℕ) → node_named t d ≡ Ok node → link_place_of t.parents node ≡ Some place → link_named t d ≡ Ok (node, place)
link_there t d node place found linked = rw found (rw linked refl)

pub restart_there : (t : Nodes) (d : Data) (items : List ℕ) (node : ℕ) → node_named t d ≡ Ok node → (node_named t d >>= (λ its_node. Ok (One (Restart its_node items)))) ≡ Ok (One (Restart node items))
restart_there t d items node found = rw found refl

pub strike_there : (t : Nodes) (params : List Parameters) (d : Data) (its_start : Start) (link : ℕ × ℕ) (made : Step) → link_named t d ≡ Ok link → strike_on params link its_start ≡ Ok made
    → (link_named t d >>= (λ its_link. strike_on params its_link its_start)) ≡ Ok made
strike_there t params d its_start link made found is = rw found is

pub act_there : (t : Nodes) (d : Data) (act : LinkAct) (link : ℕ × ℕ) → link_named t d ≡ Ok link → act_step t d (Some act) ≡ Ok (One (Act (record { child = link.0; act = act })))
act_there t d act link found = rw found refl

-- steps that come after those that were found
abbrev pub FoundBefore : Nodes → List Parameters → List NamedStep → List Step → List NamedStep → Type 0
FoundBefore t params all found left = (rest : List Step) → AreStepsOf t params left rest → AreStepsOf t params all (found ++ rest)

pub found_one : (t : Nodes) (params : List Parameters) (all : List NamedStep) (found : List Step) (n : NamedStep) (left : List NamedStep) (step : Step) → FoundBefore t params all found (n ∷ left)
    → step_of_named t params n ≡ Ok step → FoundBefore t params all (found ++ step ∷ []) left
found_one t params all found n left step before is rest are =
    subst (AreStepsOf t params all) (sym (append_assoc found (step ∷ []) rest)) (before (step ∷ rest) (is, are))

pub all_found : (t : Nodes) (params : List Parameters) (all : List NamedStep) (found : List Step) → FoundBefore t params all found [] → AreStepsOf t params all found
all_found t params all found before = subst (AreStepsOf t params all) (append-nil found) (before [] tt)
