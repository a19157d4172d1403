-- Acts on one link of a tree change that link alone: they are its replay, whose offers come from
-- the parent's list.
use Rattle.std.proofs.Common.{◌≡◌, ◌≢◌, ℕ, zero, suc, List, [], ◌∷◌, ◌++◌, map, length, get_or, set, slice_get, option_map, option_and_then, Option, Some, None, refl, ◌∙◌, ap}
use Rattle.std.specs.Option.{option_map_or}
use Rattle.std.proofs.lemmas.List.{get_or-set_other}
use Rattle.std.proofs.lemmas.Option.{none-some}
use Rattle.stab_core.specs.declared.act.LinkAct.{LinkAct}
use Rattle.stab_core.specs.Link.{LinkValue}
use Rattle.stab_core.specs.LinkActs.{event_of}
use Rattle.stab_tree.specs.Nodes.{parent_at}
use Rattle.stab_tree.specs.NodeOpenings.{opening_at}
use Rattle.stab_treecore.specs.declared.event.TreeEvent.{TreeEvent}
use Rattle.stab_treecore.specs.TreeReplay.{tree_replay}
use Rattle.stab_treecore.specs.TreeStep.{next_item, event_on, link_after, tree_step}
use Rattle.stab_treecore.specs.WholeTree.{WholeTree, link_into, received, source}
use Rattle.stab_convergence.proofs.FedLink.{fed_step, fed_replay}

-- the acts on the link into a node
abbrev pub on : ℕ → List LinkAct → List TreeEvent
on child acts = map (λ act. record { child = child; act = act }) acts

-- a schedule and then another
pub tree_replay-append : (t : WholeTree) (first second : List TreeEvent)
    → tree_replay t (first ++ second) ≡ tree_replay (tree_replay t first) second
tree_replay-append t [] second = refl
tree_replay-append t (e ∷ first) second = tree_replay-append (tree_step t e) first second

-- what is written at a place is there
written : {A : Type 0} (xs : List (Option A)) (i : ℕ) (old new : A) → get_or xs i None ≡ Some old → get_or (set xs i (Some new)) i None ≡ Some new
written [] i old new there = absurd (none-some old there)
written (x ∷ xs) zero old new there = refl
written (x ∷ xs) (suc i) old new there = written xs i old new there

-- one link has this value now, and all else is as it was
pub record Ran (t after : WholeTree) (child : ℕ) (link : LinkValue) : Type 0 where
  pub published : after.published ≡ t.published
  pub openings : after.openings ≡ t.openings
  pub parents : after.parents ≡ t.parents
  pub here : link_into after child ≡ Some link
  pub others : (w : ℕ) → w ≢ child → link_into after w ≡ link_into t w

-- acts on one link are its replay, with what its parent received
pub run : (t : WholeTree) (child parent : ℕ) (xs : List ℕ) (link : LinkValue) (acts : List LinkAct)
    → parent_at t.parents child ≡ Some parent → parent ≢ child → received t parent ≡ xs → link_into t child ≡ Some link
    → Ran t (tree_replay t (on child acts)) child (fed_replay xs link acts)
run t child parent xs link [] is_child apart above there =
    record { published = refl; openings = refl; parents = refl; here = there; others = λ w other. refl }
run t child parent xs link (act ∷ acts) is_child apart above there =
    let e : TreeEvent = record { child = child; act = act } in
    let from_parent : source t child ≡ xs = ap (λ o. option_map_or (received t) o []) is_child ∙ above in
    let next : next_item t child ≡ slice_get xs (length link.state.offered) =
    ap (λ o. option_and_then (λ (l : LinkValue). slice_get (source t child) (length l.state.offered)) o) there
    ∙ ap (λ list. slice_get list (length link.state.offered)) from_parent in
    let now : option_map (link_after (event_on t e)) (link_into t child) ≡ Some (fed_step xs link act) =
    ap (λ o. option_map (link_after (event_on t e)) o) there
    ∙ ap (λ item. Some (link_after (event_of act item) link)) next in
    let links : (tree_step t e).links ≡ set t.links child (Some (fed_step xs link act)) = ap (λ o. set t.links child o) now in
    let here : link_into (tree_step t e) child ≡ Some (fed_step xs link act) =
    ap (λ ls. get_or ls child None) links ∙ written t.links child link (fed_step xs link act) there in
    let others = λ (w : ℕ) (other : w ≢ child). ap (λ ls. get_or ls w None) links ∙ get_or-set_other t.links child w (Some (fed_step xs link act)) None other in
    let still : received (tree_step t e) parent ≡ xs =
    ap (λ o. option_map_or (λ (l : LinkValue). opening_at t.openings parent ++ l.state.delivered) o t.published) (others parent apart) ∙ above in
    let rest = run (tree_step t e) child parent xs (fed_step xs link act) acts is_child apart still here in
    record {
      published = rest.published;
      openings = rest.openings;
      parents = rest.parents;
      here = rest.here;
      others = λ w other. rest.others w other ∙ others w other;
    }
