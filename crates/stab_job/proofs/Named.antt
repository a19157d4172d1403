-- The steps of a schedule, and the nodes that their names find.
use Rattle.std.proofs.Common.{◌≡◌, ◌⊎◌, ℕ, zero, suc, ◌<◌, List, [], ◌∷◌, ◌++◌, length, map, get_or, All, Option, Some, None, option_map, option_and_then, slice_get, inl, inr, refl, sym, ap, ◌∙◌, append_assoc, arith}
use Rattle.std.proofs.lemmas.List.{get_or_append_left, length-append, map-append}
use Rattle.std.proofs.lemmas.List.Elements.{All-head, All-tail, All-append}
use Rattle.std.proofs.lemmas.Option.{get_or_from_slice_get, slice_get_within}
use Rattle.stab_core.specs.declared.act.LinkAct.{LinkAct}
use Rattle.stab_job.specs.ScheduleEntries.{events_of}
use Rattle.stab_tree.specs.Nodes.{place_of}
use Rattle.stab_treecore.specs.declared.event.TreeEvent.{TreeEvent}
use Rattle.stab_job.specs.Steps.{acts_in, AreIn, AreNodesOf, named_in, event_over}

-- the events of steps are those over the nodes that have the names of their table
pub events_by_table : (of_tree names : List (List ℕ)) (nodes : List ℕ) (kept : List TreeEvent) → AreNodesOf of_tree names nodes → AreIn names kept
    → events_of of_tree (acts_in names kept) ≡ Some (map (event_over nodes) kept)
events_by_table of_tree names nodes [] are within = refl
events_by_table of_tree names nodes (step ∷ kept) are within =
    let first = are.1 step.child (All-head (λ (s : TreeEvent). s.child < length names) step kept within) in
    let others = events_by_table of_tree names nodes kept are (All-tail (λ (s : TreeEvent). s.child < length names) step kept within) in
    rw first (rw others refl)

-- a name more leaves the places of steps in the table
pub still_in : (names : List (List ℕ)) (name : List ℕ) (kept : List TreeEvent) → AreIn names kept → AreIn (names ++ name ∷ []) kept
still_in names name kept within = λ k d inside. let before = within k d inside in omega (arith, before, length-append names (name ∷ []))

-- and their acts as they were
pub same_acts : (names : List (List ℕ)) (name : List ℕ) (kept : List TreeEvent) → AreIn names kept → acts_in (names ++ name ∷ []) kept ≡ acts_in names kept
same_acts names name [] within = refl
same_acts names name (step ∷ kept) within =
    let first : get_or (names ++ name ∷ []) step.child [] ≡ get_or names step.child [] =
    get_or_append_left names (name ∷ []) [] step.child (All-head (λ (s : TreeEvent). s.child < length names) step kept within) in
    rw first (rw (same_acts names name kept (All-tail (λ (s : TreeEvent). s.child < length names) step kept within)) refl)

-- what a name that was looked for leaves: the table is as it was, or has it at its end
abbrev pub Looked : List (List ℕ) → List ℕ → List (List ℕ) → Type 0
Looked names name now = (now ≡ names) ⊎ (now ≡ names ++ name ∷ [])

pub still_in_looked : (names : List (List ℕ)) (name : List ℕ) (now : List (List ℕ)) (kept : List TreeEvent) → Looked names name now → AreIn names kept → AreIn now kept
still_in_looked names name now kept (inl same) within = rw same within
still_in_looked names name now kept (inr more) within = rw more (still_in names name kept within)

pub same_acts_looked : (names : List (List ℕ)) (name : List ℕ) (now : List (List ℕ)) (kept : List TreeEvent) → Looked names name now → AreIn names kept → acts_in now kept ≡ acts_in names kept
same_acts_looked names name now kept (inl same) within = rw same refl
same_acts_looked names name now kept (inr more) within = rw more (same_acts names name kept within)

-- a step more, whose name is at its place
pub one_more_step : (names : List (List ℕ)) (kept : List TreeEvent) (place : ℕ) (name : List ℕ) (act : LinkAct) → slice_get names place ≡ Some name
    → acts_in names (kept ++ record { child = place; act = act } ∷ []) ≡ acts_in names kept ++ record { child = name; act = act } ∷ []
one_more_step names kept place name act found =
    let its : get_or names place [] ≡ name = get_or_from_slice_get names place name [] found in
    map-append (named_in names) kept (record { child = place; act = act } ∷ []) ∙ ap (λ (n : List ℕ). acts_in names kept ++ record { child = n; act = act } ∷ []) its

pub one_more_in : (names : List (List ℕ)) (kept : List TreeEvent) (place : ℕ) (name : List ℕ) (act : LinkAct) → slice_get names place ≡ Some name → AreIn names kept
    → AreIn names (kept ++ record { child = place; act = act } ∷ [])
one_more_in names kept place name act found within =
    All-append (λ (s : TreeEvent). s.child < length names) kept (record { child = place; act = act } ∷ []) within
    (λ k d inside. let first : k ≡ 0 = omega arith in rw first (slice_get_within names place name found))
