-- What is kept of steps, and the jobs that are read of them.
use Rattle.std.proofs.Common.{◌≡◌, ℕ, ◌+◌, ◌≤◌, ◌<◌, Bool, true, false, List, [], ◌∷◌, ◌++◌, length, map, slice_get, Some, Result, Ok, refl, sym, ap, ◌∙◌, subst, arith, append-nil}
use Rattle.std.proofs.lemmas.List.{length-append, length-map}
use Rattle.std.proofs.lemmas.List.Elements.{All-append}
use Rattle.stab_core.specs.declared.act.LinkAct.{LinkAct}
use Rattle.stab_script.specs.LinkJobs.{most_events}
use Rattle.stab_job.specs.JobValues.{JobValue}
use Rattle.stab_job.specs.ScheduleEntries.{NamedAct, events_of}
use Rattle.stab_job.specs.declared.fault.JobFault.{JobFault}
use Rattle.stab_job.proofs.Rescheduled.{rescheduled}
use Rattle.stab_treecore.specs.declared.event.TreeEvent.{TreeEvent}
use Rattle.stab_job.specs.Steps.{acts_in, named_in, AreIn, AreNodesOf, event_over, kept_of, KeptSteps, AreKept}
use Rattle.stab_job.specs.Unscheduled.{unscheduled, IsKeptOf}
use Rattle.stab_job.proofs.Named.{Looked, events_by_table, one_more_in, one_more_step, same_acts_looked, still_in_looked}

-- of more steps more are kept
kept_more : (keeps : Bool) (steps more : List TreeEvent) → kept_of keeps steps ++ kept_of keeps more ≡ kept_of keeps (steps ++ more)
kept_more true steps more = refl
kept_more false steps more = refl

-- the events of those that are kept are those that are kept of the events
kept_map : (keeps : Bool) (f : TreeEvent → TreeEvent) (steps : List TreeEvent) → map f (kept_of keeps steps) ≡ kept_of keeps (map f steps)
kept_map true f steps = refl
kept_map false f steps = refl

-- where steps are kept, more are added, and otherwise none
pub more_are_kept : (keeps : Bool) (kept more : List TreeEvent) → keeps ≡ true → kept ++ more ≡ kept ++ kept_of keeps more
more_are_kept true kept more is = refl
more_are_kept false kept more is = absurd (cc)

pub none_is_kept : (keeps : Bool) (kept more : List TreeEvent) → keeps ≡ false → kept ≡ kept ++ kept_of keeps more
none_is_kept true kept more is = absurd (cc)
none_is_kept false kept more is = sym (append-nil kept)

-- of no steps nothing is kept
pub none_kept : (keeps : Bool) (s : KeptSteps) → s.count ≡ 0 → s.are_kept ≡ keeps → s.kept ≡ [] → AreKept keeps s []
none_kept true s number said none =
    record { steps = []; within = λ k d inside. absurd (omega (arith, inside)); are = refl; counted = sym number; few = omega (arith, number); as_said = said; kept = none }
none_kept false s number said none =
    record { steps = []; within = λ k d inside. absurd (omega (arith, inside)); are = refl; counted = sym number; few = omega (arith, number); as_said = said; kept = none }

-- what is kept has places of the table, also after a step whose name is at its place
within_more : (keeps : Bool) (names : List (List ℕ)) (name : List ℕ) (now : List (List ℕ)) (kept : List TreeEvent) (place : ℕ) (act : LinkAct) → Looked names name now → slice_get now place ≡ Some name
    → AreIn names kept → AreIn now (kept ++ kept_of keeps (record { child = place; act = act } ∷ []))
within_more true names name now kept place act looked found within = one_more_in now kept place name act found (still_in_looked names name now kept looked within)
within_more false names name now kept place act looked found within = subst (AreIn now) (sym (append-nil kept)) (still_in_looked names name now kept looked within)

pub kept_within : (keeps : Bool) (names : List (List ℕ)) (name : List ℕ) (now : List (List ℕ)) (kept more : List TreeEvent) (place : ℕ) (step : TreeEvent) → AreIn names kept → Looked names name now
    → slice_get now place ≡ Some name → step.child ≡ place → more ≡ kept ++ kept_of keeps (step ∷ []) → AreIn now more
kept_within keeps names name now kept more place step within looked found its is =
    let first : more ≡ kept ++ kept_of keeps (record { child = place; act = step.act } ∷ []) = is ∙ ap (λ k. kept ++ kept_of keeps (record { child = k; act = step.act } ∷ [])) its in
    subst (AreIn now) (sym first) (within_more keeps names name now kept place step.act looked found within)

-- a step more, whose name is at its place
pub one_more_kept : (keeps : Bool) (old now : KeptSteps) (acts : List NamedAct) (name : List ℕ) (place : ℕ) (act : LinkAct) → Looked old.names name now.names → slice_get now.names place ≡ Some name
    → old.count < most_events → now.count ≡ old.count + 1 → now.are_kept ≡ old.are_kept → now.kept ≡ old.kept ++ kept_of old.are_kept (record { child = place; act = act } ∷ [])
    → AreKept keeps old acts → AreKept keeps now (acts ++ record { child = name; act = act } ∷ [])
one_more_kept keeps old now acts name place act looked found room number said more k =
    let step : TreeEvent = record { child = place; act = act } in
    let its : NamedAct = record { child = name; act = act } in
    record {
      steps = k.steps ++ step ∷ [];
      within = one_more_in now.names k.steps place name act found (still_in_looked old.names name now.names k.steps looked k.within);
      are = one_more_step now.names k.steps place name act found ∙ ap (λ done. done ++ its ∷ []) (same_acts_looked old.names name now.names k.steps looked k.within ∙ k.are);
      counted = omega (arith, length-append k.steps (step ∷ []), k.counted, number);
      few = omega (arith, room, number);
      as_said = said ∙ k.as_said;
      kept = more ∙ ap (λ b. old.kept ++ kept_of b (step ∷ [])) k.as_said ∙ ap (λ kept. kept ++ kept_of keeps (step ∷ [])) k.kept ∙ kept_more keeps k.steps (step ∷ []);
    }

-- there are not too many acts
few_acts : (keeps : Bool) (s : KeptSteps) (acts : List NamedAct) → AreKept keeps s acts → length acts ≤ most_events
few_acts keeps s acts k =
    let number : length acts ≡ s.count = ap length (sym k.are) ∙ length-map k.steps (named_in s.names) ∙ k.counted in
    subst (λ n. n ≤ most_events) (sym number) k.few

-- the events of the steps over the nodes of their table, and those that are kept
pub kept_events : (keeps : Bool) (s : KeptSteps) (acts : List NamedAct) (of_tree : List (List ℕ)) (nodes : List ℕ) (events : List TreeEvent) → AreNodesOf of_tree s.names nodes
    → events ≡ map (event_over nodes) s.kept → AreKept keeps s acts
    → (whole : List TreeEvent) × (events_of of_tree acts ≡ Some whole) × (events ≡ kept_of keeps whole) × (length acts ≤ most_events)
kept_events keeps s acts of_tree nodes events are made k = (
  map (event_over nodes) k.steps,
  ap (events_of of_tree) (sym k.are) ∙ events_by_table of_tree s.names nodes k.steps are k.within,
  made ∙ ap (map (event_over nodes)) k.kept ∙ kept_map keeps (event_over nodes) k.steps,
  few_acts keeps s acts k,
)

-- a job with its events, as far as these are kept
pub with_kept : (keeps : Bool) (read : Result JobValue JobFault) (j its : JobValue) (events whole : List TreeEvent) → read ≡ Ok (rescheduled whole j) → events ≡ kept_of keeps whole → its ≡ rescheduled events j
    → IsKeptOf keeps read its
with_kept true read j its events whole is kept same = is ∙ ap (λ es. Ok (rescheduled es j)) (sym kept) ∙ ap Ok (sym same)
with_kept false read j its events whole is kept same = (rescheduled whole j, is, same ∙ ap (λ es. rescheduled es j) kept)

-- a job without a schedule, as it is or with an empty one
pub kept_as_it_is : (keeps : Bool) (j : JobValue) → keeps ≡ true → IsKeptOf keeps (Ok j) j
kept_as_it_is true j is = refl
kept_as_it_is false j is = absurd (cc)

pub kept_without_steps : (keeps : Bool) (j its : JobValue) → keeps ≡ false → its ≡ unscheduled j → IsKeptOf keeps (Ok j) its
kept_without_steps true j its is same = absurd (cc)
kept_without_steps false j its is same = (j, refl, same)
