-- The lists beside the nodes: each is the opening of its node, and then what the link into it
-- delivered.
use Rattle.std.proofs.Common.{◌≡◌, ◌<◌, ℕ, List, [], ◌++◌, length, get_or, set, Option, Some, None, is_some, true, false, refl, Result, Ok, Err, IfOk, OnErr, ap, sym, ◌∙◌, inl, inr}
use Rattle.std.proofs.lemmas.Bool.{cases_eq}
use Rattle.std.proofs.lemmas.List.{get_or-set_other, get_or-set_same}
use Rattle.stab_core.specs.declared.event.Event.{Event}
use Rattle.stab_core.specs.declared.event.Effect.{Effect}
use Rattle.stab_core.specs.Link.{LinkValue, Steps}
use Rattle.stab_core.specs.Step.{effect}
use Rattle.stab_treecore.specs.Fresh.{fresh_item, then_item}
use Rattle.stab_tree.specs.NodeOpenings.{opening_at}
use Rattle.stab_treecore.proofs.Stepped.{step_grown}

-- the list beside a node with a link
abbrev pub IsListed : List (List ℕ) → List (Option LinkValue) → List (List ℕ) → Type 0
IsListed openings links lists = (node : ℕ) (link : LinkValue) → get_or links node None ≡ Some link → get_or lists node [] ≡ opening_at openings node ++ link.state.delivered

-- a link and the list beside it are written anew
pub listed_after : (openings : List (List ℕ)) (links : List (Option LinkValue)) (lists : List (List ℕ)) (place : ℕ) (after : Option LinkValue) (list : List ℕ)
    → place < length links → place < length lists → IsListed openings links lists
    → ((link : LinkValue) → after ≡ Some link → list ≡ opening_at openings place ++ link.state.delivered)
    → IsListed openings (set links place after) (set lists place list)
listed_after openings links lists place after list in_links in_lists listed written node link is =
    elim (cases_eq node place) [
      | inl same ↦
          let link_there : after ≡ Some link = sym (get_or-set_same links place after None in_links) ∙ (ap (λ w. get_or (set links place after) w None) (sym same) ∙ is) in
          ap (λ w. get_or (set lists place list) w []) same
          ∙ (get_or-set_same lists place list [] in_lists ∙ (written link link_there ∙ ap (λ w. opening_at openings w ++ link.state.delivered) (sym same)))
      | inr other ↦
          get_or-set_other lists place node list [] other ∙ listed node link (sym (get_or-set_other links place node after None other) ∙ is)
    ]

-- where there is a link after a step, there was one before it
pub as_before : (before after : Option LinkValue) (link : LinkValue) → is_some after ≡ is_some before → after ≡ Some link
    → (was : LinkValue) × (before ≡ Some was)
as_before None after link kind is = let never : true ≡ false = sym (ap is_some is) ∙ kind in cc
as_before (Some was) after link kind is = (was, refl)

-- an event that delivers nothing leaves what a list ends with
pub follows_nothing : {E : Type 0} (r : Result Effect E) (before after : LinkValue) (e : Event) → IfOk r (λ had. Steps before e after had)
    → OnErr r (after ≡ before) → fresh_item (effect before.params before.state e) ≡ None
    → (first list : List ℕ) → list ≡ first ++ before.state.delivered → list ≡ first ++ after.state.delivered
follows_nothing (Ok had) before after e steps unchanged none first list is =
    let delivered : after.state.delivered ≡ before.state.delivered =
    ap (λ l. l.state.delivered) steps.0 ∙ (step_grown before.params before.state e ∙ ap (then_item before.state.delivered) none) in
    is ∙ ap (λ xs. first ++ xs) (sym delivered)
follows_nothing (Err refused) before after e steps unchanged none first list is = is ∙ ap (λ l. first ++ l.state.delivered) (sym unchanged)

-- a link is written anew that delivered what is beside it
pub listed_struck : (openings : List (List ℕ)) (links : List (Option LinkValue)) (lists : List (List ℕ)) (place : ℕ) (after : Option LinkValue)
    → place < length links → IsListed openings links lists
    → ((link : LinkValue) → after ≡ Some link → opening_at openings place ++ link.state.delivered ≡ get_or lists place [])
    → IsListed openings (set links place after) lists
listed_struck openings links lists place after in_links listed written node link is =
    elim (cases_eq node place) [
      | inl same ↦
          let link_there : after ≡ Some link = sym (get_or-set_same links place after None in_links) ∙ (ap (λ w. get_or (set links place after) w None) (sym same) ∙ is) in
          ap (λ w. get_or lists w []) same
          ∙ (sym (written link link_there) ∙ ap (λ w. opening_at openings w ++ link.state.delivered) (sym same))
      | inr other ↦
          listed node link (sym (get_or-set_other links place node after None other) ∙ is)
    ]
