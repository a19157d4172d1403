-- Reading a schedule entry by entry.
use Rattle.std.proofs.Common.{◌≡◌, ℕ, Bool, true, false, List, [], ◌∷◌, ◌++◌, Option, Some, None, option_map, Result, Err, refl, sym, ap, append_assoc, option_and_then}
use Rattle.stab_tree.specs.Nodes.{place_of}
use Rattle.stab_treecore.specs.declared.event.TreeEvent.{TreeEvent}
use Rattle.stab_job.specs.declared.fault.JobFault.{JobFault}
use Rattle.stab_job.specs.declared.fault.JobFault.TheVariants as fault
use Rattle.stab_json.specs.Checks.{◌>>=◌, ◌or◌}
use Rattle.stab_job.specs.ScheduleEntries.{NamedAct, events_of}

-- the events of these acts, if each entry was an act and each names a node
abbrev pub schedule_of : List (List ℕ) → Option (List NamedAct) → Result (List TreeEvent) JobFault
schedule_of names acts = acts or fault.Event >>= (λ its_acts. events_of names its_acts or fault.UnknownNode)

-- what was read, and then the other acts, where each so far named a node or not
abbrev pub schedule_after : List (List ℕ) → Bool → List TreeEvent → Option (List NamedAct) → Result (List TreeEvent) JobFault
schedule_after names all_known read None = Err fault.Event
schedule_after names false read (Some acts) = Err fault.UnknownNode
schedule_after names true read (Some acts) = option_map (λ events. read ++ events) (events_of names acts) or fault.UnknownNode

-- nothing before the rest is the rest
nothing_before : (o : Option (List TreeEvent)) → o ≡ option_map (λ events. [] ++ events) o
nothing_before None = refl
nothing_before (Some events) = refl

-- before the first entry nothing was read
pub schedule_at_first : (names : List (List ℕ)) (o : Option (List NamedAct)) → schedule_of names o ≡ schedule_after names true [] o
schedule_at_first names None = refl
schedule_at_first names (Some acts) = ap (λ events. events or fault.UnknownNode) (nothing_before (events_of names acts))

-- an event more was read
one_more : (read : List TreeEvent) (e : TreeEvent) (rest : Option (List TreeEvent))
    → option_map (λ events. read ++ events) (option_map (λ events. e ∷ events) rest) ≡ option_map (λ events. (read ++ e ∷ []) ++ events) rest
one_more read e None = refl
one_more read e (Some events) = ap Some (sym (append_assoc read (e ∷ []) events))

module _ (names : List (List ℕ)) (n : NamedAct) where
  -- an act that names a node is one event more
  pub known_act : (place : ℕ) → place_of names n.child ≡ Some place
      → (all_known : Bool) (read : List TreeEvent) (rest : Option (List NamedAct))
      → schedule_after names all_known read (option_and_then (λ acts. Some (n ∷ acts)) rest)
      ≡ schedule_after names all_known (read ++ record { child = place; act = n.act } ∷ []) rest
  known_act place found all_known read None = refl
  known_act place found false read (Some acts) = refl
  known_act place found true read (Some acts) =
      rw found (ap (λ events. events or fault.UnknownNode) (one_more read (record { child = place; act = n.act }) (events_of names acts)))

  -- an act that names no node leaves the schedule without a meaning
  pub unknown_act : place_of names n.child ≡ None
      → (all_known : Bool) (read : List TreeEvent) (rest : Option (List NamedAct))
      → schedule_after names all_known read (option_and_then (λ acts. Some (n ∷ acts)) rest) ≡ schedule_after names false read rest
  unknown_act missed all_known read None = refl
  unknown_act missed false read (Some acts) = refl
  unknown_act missed true read (Some acts) = rw missed refl
