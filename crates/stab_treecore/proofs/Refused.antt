-- Why a schedule is refused at one of its events.
use Rattle.std.proofs.Common.{◌≡◌, ℕ, ◌+◌, ◌<◌, List, ◌∷◌, length, get_or, drop, refl, ap, sym, ◌∙◌, subst, inl, inr}
use Rattle.std.proofs.lemmas.List.{drop_more}
use Rattle.stab_core.specs.Link.{Grows}
use Rattle.stab_treecore.specs.declared.event.TreeEvent.{TreeEvent}
use Rattle.stab_treecore.specs.declared.fault.TreeStepFault.{TreeStepFault}
use Rattle.stab_treecore.specs.declared.fault.TreeStepFault.TheVariants.{NoSuchLink, Memory}
use Rattle.stab_treecore.specs.Refusals.{IsStepReason, NamesLink, NamesNoLink}
use Rattle.stab_treecore.specs.TreeStep.{tree_step, tree_effect}
use Rattle.stab_treecore.specs.WholeTree.{WholeTree}

-- what an event of one schedule meets, an event of another one meets
abbrev pub CarriesOver : WholeTree → List TreeEvent → WholeTree → List TreeEvent → Type 0
CarriesOver now rest t events = (fault : TreeStepFault) → IsStepReason now rest fault → IsStepReason t events fault

-- why this event is refused in this state
abbrev pub IsRefused : WholeTree → TreeEvent → TreeStepFault → Type 0
IsRefused t e NoSuchLink = NamesNoLink t.parents e
IsRefused t e Memory = Grows (tree_effect t e)

-- each fault of a step has its reason
pub why_refused : (t : WholeTree) (e : TreeEvent) (fault : TreeStepFault) → (fault ≡ NoSuchLink → NamesNoLink t.parents e)
    → (fault ≡ Memory → Grows (tree_effect t e)) → IsRefused t e fault
why_refused t e NoSuchLink named memory = named refl
why_refused t e Memory named memory = memory refl

module _ (t : WholeTree) (e : TreeEvent) (es : List TreeEvent) where
  -- the first event is refused
  pub refused_first : (fault : TreeStepFault) → IsRefused t e fault → IsStepReason t (e ∷ es) fault
  refused_first NoSuchLink refused = inl refused
  refused_first Memory refused = inl refused

  -- an event after the first one, which names a link, is refused
  pub refused_later : NamesLink t.parents e → CarriesOver (tree_step t e) es t (e ∷ es)
  refused_later names NoSuchLink refused = inr (names, refused)
  refused_later names Memory refused = inr (names, refused)

module _ (t now : WholeTree) (events : List TreeEvent) (i : ℕ) (e : TreeEvent) (in_list : i < length events)
    (read : e ≡ get_or events i e) (carries : CarriesOver now (drop i events) t events) where
  next : drop i events ≡ e ∷ drop (i + 1) events
  next = drop_more events i e in_list ∙ ap (λ x. x ∷ drop (i + 1) events) (sym read)

  -- the event that comes next is refused
  pub refused_here : (fault : TreeStepFault) → IsRefused now e fault → IsStepReason t events fault
  refused_here fault refused =
      carries fault (subst (λ es. IsStepReason now es fault) (sym next) (refused_first now e (drop (i + 1) events) fault refused))

  -- after it the schedule goes on
  pub carries_on : NamesLink now.parents e → CarriesOver (tree_step now e) (drop (i + 1) events) t events
  carries_on names fault refused =
      carries fault (subst (λ es. IsStepReason now es fault) (sym next) (refused_later now e (drop (i + 1) events) names fault refused))
