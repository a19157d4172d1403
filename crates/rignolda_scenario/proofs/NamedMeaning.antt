-- What a named step means, and that a step of a tree is the one that its name finds there.
use Rattle.std.proofs.Common.{◌≡◌, ℕ, suc, List, [], ◌∷◌, Bool, true, false, Option, Some, None, option_and_then, option_map, Result, Ok, Err, codes, refl, sym, ap, subst, ◌∙◌}
use Rattle.std.specs.Prelude.{if◌then◌else◌, not}
use Rattle.std.specs.Str.{bytes_eq}
use Rattle.serde_json.specs.Data.{Data, null, boolean, number, string, array, object, Items, no_items, item}
use Rattle.serde_json.specs.Find.{as_str, as_array, get}
use Rattle.stab_core.specs.declared.act.LinkAct.{LinkAct}
use Rattle.stab_core.specs.declared.act.LinkAct.TheVariants.{LoseFrame, LoseAck}
use Rattle.stab_core.specs.declared.start.Start.{Start}
use Rattle.stab_frames.specs.Parameters.{Parameters}
use Rattle.stab_json.specs.Checks.{◌>>=◌, ◌>>◌, ◌or◌, ◌when◌, ◌refused_as◌}
use Rattle.stab_json.specs.Values.{entries, item_number, label, list_of, value_of}
use Rattle.stab_script.specs.Events.{plain_act, loss_act}
use Rattle.stab_script.specs.Starts.{start}
use Rattle.stab_job.specs.JobValues.{JobValue}
use Rattle.stab_job.specs.Jobs.{job}
use Rattle.stab_job.specs.ScheduleEntries.{NamedAct, act_of_items, named_act, on_child}
use Rattle.stab_job.specs.Unscheduled.{IsUnscheduled}
use Rattle.stab_tree.specs.Nodes.{Nodes}
use Rattle.stab_treecore.specs.declared.change.Change.TheVariants.{Publish, Restart}
use Rattle.rignolda_scenario.specs.declared.fault.StepFault.{StepFault}
use Rattle.rignolda_scenario.specs.declared.fault.StepFault.TheVariants as fault
use Rattle.rignolda_scenario.specs.declared.fault.ScenarioFault.{ScenarioFault}
use Rattle.rignolda_scenario.specs.declared.fault.ScenarioFault.TheVariants as scenario_fault
use Rattle.rignolda_scenario.specs.declared.step.Step.{Step}
use Rattle.rignolda_scenario.specs.declared.step.Step.TheVariants.{One, Rounds, ReadingRounds}
use Rattle.rignolda_scenario.specs.Entries.{act_step, is_word, link_named, node_named, rounds_of, step_of, step_of_items, step_of_parts, step_of_three, step_of_two, two_or_three}
use Rattle.rignolda_scenario.specs.NamedSteps.{AreStepsOf, NamedStep, act_on, published, strike_at, restart_of, rounds, reading_rounds, named_act_on, named_of_parts, named_of_three, named_of_two, named_rounds, named_step, step_of_named, strike_on}
use Rattle.rignolda_scenario.specs.Scenarios.{scenario, steps_after, steps_of}
use Rattle.rignolda_scenario.proofs.Unscheduled.{by_its_steps}

module _ (t : Nodes) (params : List Parameters) (n : NamedStep) (step : Step) (its : step_of_named t params n ≡ Ok step) where
  -- the step of another name for the same
  also : (m : NamedStep) → m ≡ n → step_of_named t params m ≡ Ok step
  also m same = subst (λ k. step_of_named t params k ≡ Ok step) (sym same) its

  -- an act
  act_by_name : (first : Data) (act : Option LinkAct) → named_act_on first act ≡ Some n → act_step t first act ≡ Ok step
  act_by_name (string name) (Some act) is = also (act_on name act) (let same : act_on name act ≡ n = cc in same)
  act_by_name (string name) None is = absurd (cc)
  act_by_name null act is = absurd (cc)
  act_by_name (boolean b) act is = absurd (cc)
  act_by_name (number k) act is = absurd (cc)
  act_by_name (array ds) act is = absurd (cc)
  act_by_name (object ms) act is = absurd (cc)

  -- items that are published
  publish_by_name : (is_it : Bool) (items : Option (List ℕ)) → (if is_it then option_map published items else None) ≡ Some n
      → (fault.Shape when not is_it) >> ((items or fault.Shape) >>= (λ list. Ok (One (Publish list)))) ≡ Ok step
  publish_by_name true (Some items) is = also (published items) (let same : published items ≡ n = cc in same)
  publish_by_name true None is = absurd (cc)
  publish_by_name false items is = absurd (cc)

  -- rounds
  rounds_counted : (are these : Bool) (count : ℕ) → (if are then Some (rounds count) else (if these then Some (reading_rounds count) else None)) ≡ Some n
      → (if are then Ok (Rounds count) else (if these then Ok (ReadingRounds count) else Err fault.Shape)) ≡ Ok step
  rounds_counted true these count is = also (rounds count) (let same : rounds count ≡ n = cc in same)
  rounds_counted false true count is = also (reading_rounds count) (let same : reading_rounds count ≡ n = cc in same)
  rounds_counted false false count is = absurd (cc)

  rounds_by_name : (first : Data) (count : Option ℕ) → option_and_then (named_rounds first) count ≡ Some n → rounds_of first count ≡ Ok step
  rounds_by_name first None is = absurd (cc)
  rounds_by_name first (Some count) is = rounds_counted (is_word (codes "rounds") first) (is_word (codes "reading_rounds") first) count is

  -- a restart
  restart_by_name : (is_it : Bool) (second : Data) (items : Option (List ℕ))
      → (if is_it then option_and_then (λ name. option_map (restart_of name) items) (as_str second) else None) ≡ Some n
      → (fault.Shape when not is_it) >> ((items or fault.Shape) >>= (λ list. node_named t second >>= (λ node. Ok (One (Restart node list))))) ≡ Ok step
  restart_by_name true (string name) (Some items) is = also (restart_of name items) (let same : restart_of name items ≡ n = cc in same)
  restart_by_name true (string name) None is = absurd (cc)
  restart_by_name true null items is = absurd (cc)
  restart_by_name true (boolean b) items is = absurd (cc)
  restart_by_name true (number k) items is = absurd (cc)
  restart_by_name true (array ds) items is = absurd (cc)
  restart_by_name true (object ms) items is = absurd (cc)
  restart_by_name false second items is = absurd (cc)

  -- a strike
  strike_by_name : (is_it : Bool) (second : Data) (its_start : Option Start)
      → (if is_it then option_and_then (λ name. option_map (strike_at name) its_start) (as_str second) else None) ≡ Some n
      → (fault.Shape when not is_it) >> ((its_start or fault.Shape) >>= (λ made. link_named t second >>= (λ link. strike_on params link made))) ≡ Ok step
  strike_by_name true (string name) (Some made) is = also (strike_at name made) (let same : strike_at name made ≡ n = cc in same)
  strike_by_name true (string name) None is = absurd (cc)
  strike_by_name true null made is = absurd (cc)
  strike_by_name true (boolean b) made is = absurd (cc)
  strike_by_name true (number k) made is = absurd (cc)
  strike_by_name true (array ds) made is = absurd (cc)
  strike_by_name true (object ms) made is = absurd (cc)
  strike_by_name false second made is = absurd (cc)

  two_by_name : (first second : Data) → named_of_two first second ≡ Some n → step_of_two t first second ≡ Ok step
  two_by_name first (array ds) is = publish_by_name (is_word (codes "publish") first) (entries item_number ds) is
  two_by_name first (number k) is = rounds_by_name first (label (number k)) is
  two_by_name first (string word) is = act_by_name first (plain_act word) is
  two_by_name first null is = act_by_name first None is
  two_by_name first (boolean b) is = act_by_name first None is
  two_by_name first (object ms) is = act_by_name first None is

  three_by_name : (first second third : Data) → named_of_three first second third ≡ Some n → step_of_three t params first second third ≡ Ok step
  three_by_name first second (array ds) is = restart_by_name (is_word (codes "restart") first) second (entries item_number ds) is
  three_by_name first second (object ms) is = strike_by_name (is_word (codes "strike") first) second (start (object ms)) is
  three_by_name first second (string word) is = act_by_name first (option_and_then (λ its_word. loss_act its_word (string word)) (as_str second)) is
  three_by_name first second null is = act_by_name first (option_and_then (λ its_word. loss_act its_word null) (as_str second)) is
  three_by_name first second (boolean b) is = act_by_name first (option_and_then (λ its_word. loss_act its_word (boolean b)) (as_str second)) is
  three_by_name first second (number k) is = act_by_name first (option_and_then (λ its_word. loss_act its_word (number k)) (as_str second)) is

  parts_by_name : (parts : Option (Data × Data × Option Data)) → option_and_then named_of_parts parts ≡ Some n → step_of_parts t params parts ≡ Ok step
  parts_by_name None is = absurd (cc)
  parts_by_name (Some (first, second, None)) is = two_by_name first second is
  parts_by_name (Some (first, second, Some third)) is = three_by_name first second third is

  items_by_name : (values : Option Items) → option_and_then (λ ds. option_and_then named_of_parts (two_or_three ds)) values ≡ Some n
      → ((values or fault.Shape) >>= step_of_items t params) ≡ Ok step
  items_by_name None is = absurd (cc)
  items_by_name (Some ds) is = parts_by_name (two_or_three ds) is

  -- what a value means is the step of its name
  pub by_name : (d : Data) → named_step d ≡ Some n → step_of t params d ≡ Ok step
  by_name d is = items_by_name (as_array d) is

-- ---- acts

-- an act on the link into the node of a name
on_child_named : (first : Data) (act : Option LinkAct) (a : NamedAct) → on_child first act ≡ Some a → named_act_on first act ≡ Some (act_on a.child a.act)
on_child_named (string name) (Some act) a is =
    let same : record { child = name; act = act } ≡ a = cc in
    ap (λ (k : NamedAct). Some (act_on k.child k.act)) same
on_child_named (string name) None a is = absurd (cc)
on_child_named null act a is = absurd (cc)
on_child_named (boolean b) act a is = absurd (cc)
on_child_named (number k) act a is = absurd (cc)
on_child_named (array ds) act a is = absurd (cc)
on_child_named (object ms) act a is = absurd (cc)

-- where there is no act, there is none on a link
no_act : (first : Data) (a : NamedAct) → on_child first None ≡ Some a → ⊥
no_act (string name) a is = absurd (cc)
no_act null a is = absurd (cc)
no_act (boolean b) a is = absurd (cc)
no_act (number k) a is = absurd (cc)
no_act (array ds) a is = absurd (cc)
no_act (object ms) a is = absurd (cc)

no_loss : (lose_frame lose_ack : Bool) → (if lose_frame then option_map LoseFrame None else (if lose_ack then option_map LoseAck None else None)) ≡ None
no_loss true lose_ack = refl
no_loss false true = refl
no_loss false false = refl

-- nor where nothing is lost, whatever the word is
nothing_lost : (first second third : Data) (a : NamedAct) → ((word : List ℕ) → loss_act word third ≡ None)
    → on_child first (option_and_then (λ word. loss_act word third) (as_str second)) ≡ Some a → ⊥
nothing_lost first (string word) third a none is = no_act first a (rw (none word) at is)
nothing_lost first null third a none is = no_act first a is
nothing_lost first (boolean b) third a none is = no_act first a is
nothing_lost first (number k) third a none is = no_act first a is
nothing_lost first (array ds) third a none is = no_act first a is
nothing_lost first (object ms) third a none is = no_act first a is

act_of_two : (first second : Data) (a : NamedAct) → on_child first (option_and_then plain_act (as_str second)) ≡ Some a → named_of_two first second ≡ Some (act_on a.child a.act)
act_of_two first (string word) a is = on_child_named first (plain_act word) a is
act_of_two first null a is = on_child_named first None a is
act_of_two first (boolean b) a is = on_child_named first None a is
act_of_two first (object ms) a is = on_child_named first None a is
act_of_two first (number k) a is = absurd (no_act first a is)
act_of_two first (array ds) a is = absurd (no_act first a is)

act_of_three : (first second third : Data) (a : NamedAct) → on_child first (option_and_then (λ word. loss_act word third) (as_str second)) ≡ Some a
    → named_of_three first second third ≡ Some (act_on a.child a.act)
act_of_three first second (number k) a is = on_child_named first (option_and_then (λ word. loss_act word (number k)) (as_str second)) a is
act_of_three first second (string s) a is = on_child_named first (option_and_then (λ word. loss_act word (string s)) (as_str second)) a is
act_of_three first second null a is = on_child_named first (option_and_then (λ word. loss_act word null) (as_str second)) a is
act_of_three first second (boolean b) a is = on_child_named first (option_and_then (λ word. loss_act word (boolean b)) (as_str second)) a is
act_of_three first second (array ds) a is =
    absurd (nothing_lost first second (array ds) a (λ word. no_loss (bytes_eq word (codes "lose_frame")) (bytes_eq word (codes "lose_ack"))) is)
act_of_three first second (object ms) a is =
    absurd (nothing_lost first second (object ms) a (λ word. no_loss (bytes_eq word (codes "lose_frame")) (bytes_eq word (codes "lose_ack"))) is)

act_of_values : (ds : Items) (a : NamedAct) → act_of_items ds ≡ Some a → option_and_then named_of_parts (two_or_three ds) ≡ Some (act_on a.child a.act)
act_of_values no_items a is = absurd (cc)
act_of_values (item first no_items) a is = absurd (cc)
act_of_values (item first (item second no_items)) a is = act_of_two first second a is
act_of_values (item first (item second (item third no_items))) a is = act_of_three first second third a is
act_of_values (item first (item second (item third (item fourth ds)))) a is = absurd (cc)

-- a value that means an act on a link means such a step
pub act_is_named : (d : Data) (a : NamedAct) → named_act d ≡ Some a → named_step d ≡ Some (act_on a.child a.act)
act_is_named (array ds) a is = act_of_values ds a is
act_is_named null a is = absurd (cc)
act_is_named (boolean b) a is = absurd (cc)
act_is_named (number k) a is = absurd (cc)
act_is_named (string s) a is = absurd (cc)
act_is_named (object ms) a is = absurd (cc)

-- ---- lists of steps

-- what is found in two steps
found_first : {A B : Type 0} (f : A → Option B) (o : Option A) (b : B) → option_and_then f o ≡ Some b → (a : A) × (o ≡ Some a) × (f a ≡ Some b)
found_first f None b is = absurd (cc)
found_first f (Some a) b is = (a, refl, is)

-- a step and the others
joined : (r : Result Step StepFault) (others : Result (List Step) ScenarioFault) (place : ℕ) (step : Step) (rest : List Step) → r ≡ Ok step → others ≡ Ok rest
    → ((r refused_as scenario_fault.Step place) >>= (λ s. others >>= (λ steps. Ok (s ∷ steps)))) ≡ Ok (step ∷ rest)
joined r others place step rest is are = rw is (rw are refl)

one_more_named : (t : Nodes) (params : List Parameters) (count : ℕ) (d : Data) (ds : Items) (n : NamedStep) (ns : List NamedStep) (steps : List Step) → named_step d ≡ Some n
    → ((rest : List Step) → AreStepsOf t params ns rest → steps_after t params (suc count) ds ≡ Ok rest) → AreStepsOf t params (n ∷ ns) steps
    → steps_after t params count (item d ds) ≡ Ok steps
one_more_named t params count d ds n ns [] is others are = absurd are
one_more_named t params count d ds n ns (step ∷ rest) is others are =
    joined (step_of t params d) (steps_after t params (suc count) ds) (suc count) step rest (by_name t params n step are.0 d is) (others rest are.1)

-- the values of named steps mean the steps of a tree that these are
pub steps_by_name : (t : Nodes) (params : List Parameters) (count : ℕ) (ds : Items) (ns : List NamedStep) (steps : List Step) → entries named_step ds ≡ Some ns → AreStepsOf t params ns steps
    → steps_after t params count ds ≡ Ok steps
steps_by_name t params count no_items [] [] is are = refl
steps_by_name t params count no_items [] (step ∷ steps) is are = absurd are
steps_by_name t params count no_items (n ∷ ns) steps is are = absurd (cc)
steps_by_name t params count (item d ds) ns steps is are =
    let first = found_first (λ n. option_and_then (λ more. Some (n ∷ more)) (entries named_step ds)) (named_step d) ns is in
    let rest = found_first (λ more. Some (first.0 ∷ more)) (entries named_step ds) ns first.2 in
    let all : first.0 ∷ rest.0 ≡ ns = cc in
    one_more_named t params count d ds first.0 rest.0 steps first.1
    (λ others are_others. steps_by_name t params (suc count) ds rest.0 others rest.1 are_others)
    (subst (λ named. AreStepsOf t params named steps) (sym all) are)

-- what is made of a list that is there
of_what_there_is : {A B : Type 0} (o : Option A) (x : A) (f : A → Result B ScenarioFault) (made : B) → o ≡ Some x → f x ≡ Ok made → ((o or scenario_fault.Steps) >>= f) ≡ Ok made
of_what_there_is o x f made is its = rw is its

-- the member of the steps
listed_by_name : (t : Nodes) (params : List Parameters) (member : Option Data) (ns : List NamedStep) (steps : List Step) → option_and_then (list_of named_step) member ≡ Some ns → AreStepsOf t params ns steps
    → ((option_and_then as_array member or scenario_fault.Steps) >>= steps_after t params 0) ≡ Ok steps
listed_by_name t params member ns steps is are =
    let value = found_first (list_of named_step) member ns is in
    let list = found_first (entries named_step) (as_array value.0) ns value.2 in
    of_what_there_is (option_and_then as_array member) list.0 (steps_after t params 0) steps
    (ap (option_and_then as_array) value.1 ∙ list.1) (steps_by_name t params 0 list.0 ns steps list.2 are)

-- the scenario of a job and of the named steps of its bytes
pub scenario_by_name : (bytes : List ℕ) (j : JobValue) (d : Data) (ns : List NamedStep) (steps : List Step) → IsUnscheduled (job bytes) j → value_of bytes ≡ Some d
    → option_and_then (list_of named_step) (get (codes "steps") d) ≡ Some ns → AreStepsOf j.tree j.params ns steps → scenario bytes ≡ Ok (record { job = j; steps = steps })
scenario_by_name bytes j d ns steps read is named are =
    by_its_steps bytes j read
    ∙ ap (λ (r : Result (List Step) ScenarioFault). r >>= (λ list. Ok (record { job = j; steps = list })))
    (of_what_there_is (value_of bytes) d (steps_of j) steps is (listed_by_name j.tree j.params (get (codes "steps") d) ns steps named are))
