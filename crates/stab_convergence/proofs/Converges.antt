-- From any state, after `rounds_since` rounds of a node's path and nothing but acts, the node has
-- come back, for good.
use Rattle.std.proofs.Common.{◌≡◌, inl, inr, ℕ, zero, suc, ◌<◌, ◌≤◌, List, ◌++◌, length, Option, Some, None, option_and_then, refl, ap, sym, ◌∙◌, subst, arith}
use Rattle.std.specs.Option.{option_map_or}
use Rattle.std.proofs.lemmas.Option.{none-some, same_Some}
use Rattle.stab_core.specs.Link.{LinkValue}
use Rattle.stab_core.specs.LinkLaw.{LinkLaw}
use Rattle.stab_tree.specs.Nodes.{Nodes, parent_at}
use Rattle.stab_tree.specs.Steps.{Reaches, ancestor}
use Rattle.stab_treecore.specs.declared.event.TreeEvent.{TreeEvent}
use Rattle.stab_treecore.specs.TreeReplay.{tree_replay}
use Rattle.stab_treecore.specs.WholeTree.{WholeTree, received}
use Rattle.stab_treecore.specs.declared.change.Change.{Change}
use Rattle.stab_treecore.specs.Changes.{changes_replay}
use Rattle.stab_treecore.specs.Hits.{Spare}
use Rattle.stab_treecore.specs.Since.{IsState, acked_at, gained, moment}
use Rattle.stab_treecore.proofs.Contained.{changes-append}
use Rattle.stab_treecore.proofs.Kept.{none_or_some, OnPath, path_up}
use Rattle.stab_treecore.proofs.NodesSince.{complete_since, since_spared}
use Rattle.stab_treecore.proofs.Obeying.{ObeysSince}
use Rattle.stab_rounds.specs.Kinds.{Kind}
use Rattle.stab_rounds.specs.TreeRounds.{IsHandedOn}
use Rattle.stab_rounds.proofs.Drains.{Drained, top, under, drained_over}
use Rattle.stab_rounds.proofs.Final.{handed_on_by}
use Rattle.stab_rounds.proofs.Arrives.{Pace, IsRoundOf, RoundsOf, Stages, drains, stage_open}
use Rattle.stab_rounds.proofs.ByKind.{one_more}
use Rattle.stab_rounds.proofs.TreeSteps.{keeps_all, linked, replay_append}
use Rattle.stab_convergence.specs.PathRounds.{acts_among, IsPathOpen, PathRounds, TakesAtMost, rounds_since}
use Rattle.stab_convergence.specs.Converged.{CompleteSince, HasConverged}
use Rattle.stab_convergence.proofs.Acts.{acts-append, acts_replayed, acts_spare, as_changes, spare_both}
use Rattle.stab_convergence.proofs.Lags.{begins_behind, farther, fixed_at, lag, state_is_sound, yet}

-- where a node has all that it will ever have, so have those above it
drained_above : (t : WholeTree) (parents : List (Option ℕ)) (k w v : ℕ) → ancestor parents k w ≡ Some v → Drained t parents w → Drained t parents v
drained_above t parents zero w v leads drained = subst (Drained t parents) (same_Some w v leads) drained
drained_above t parents (suc k) w v leads (top none) =
    let never : None ≡ Some v = sym (ap (λ o. option_and_then (ancestor parents k) o) none) ∙ leads in
    absurd (none-some v never)
drained_above t parents (suc k) w v leads (under u p s is_child there all empty above) =
    drained_above t parents k u v (sym (ap (λ o. option_and_then (ancestor parents k) o) is_child) ∙ leads) above

-- ---- from a state on

module _ (kind : Kind) (each : ℕ) (tree : Nodes) (m : WholeTree) (is : IsState tree m) (node : ℕ) (few : TakesAtMost kind each m node)
    (after : List Change) where
  abbrev On : ℕ → Type 0
  On = OnPath m node

  abbrev end : WholeTree
  end = tree_replay m (acts_among after)

  abbrev pace : Pace (fixed_at tree m is) On kind
  pace = record {
    each = each;
    lag = lag tree m is each;
    up = path_up m node;
    few = few;
    farther = λ w u g on is_child is_parent. farther tree m is each w u g is_child is_parent;
  }

  begins : Stages (fixed_at tree m is) On kind pace 0 m
  begins w u on is_child =
      let (p, state, there) = linked (fixed_at tree m is) m (state_is_sound tree m is) w u is_child in
      let known_parent : u < length m.parents =
      subst (λ ps. parent_at ps w ≡ Some u → u < length ps) (sym is.parents) (is.is_tree.known_parents w u) is_child in
      let (k, most, enough) = begins_behind tree m is each w u p state known_parent is_child there in
      stage_open (fixed_at tree m is) On kind pace m w u k p state (state_is_sound tree m is) on is_child there most enough

  its_rounds : (count : ℕ) (changes : List Change) → PathRounds kind m node count changes
      → RoundsOf (IsRoundOf (fixed_at tree m is) On kind pace) count (acts_among changes)
  its_rounds zero changes rounds = tt
  its_rounds (suc count) changes (part, rest, parts, is_round, more) = (
    acts_among part,
    acts_among rest,
    ap acts_among parts ∙ acts-append part rest,
    λ w u on is_child. is_round w u on is_child,
    its_rounds count rest more,
  )

  module _ (rounds : ℕ) (is_open : IsPathOpen end node) (are_rounds : PathRounds kind m node rounds after)
      (enough : rounds_since each (moment m) node ≤ rounds) where
    node_drained : Drained end m.parents node
    node_drained =
        elim (none_or_some (parent_at m.parents node)) [
          | inl none ↦ top none
          | inr (u, is_child) ↦
              drains (fixed_at tree m is) On kind pace m (acts_among after) rounds node u (state_is_sound tree m is) begins
              (λ w on link there. is_open w link (subst (λ ps. Reaches ps node w) (sym (keeps_all (fixed_at tree m is) m (acts_among after) (state_is_sound tree m is)).parents_stay) on) there)
              (its_rounds rounds after are_rounds) (0, refl) is_child (omega (arith, one_more each (yet tree m is node)))
        ]

    -- each link of the path has handed on what its sender's node has, whatever acts come then
    pub path_hands_on : (more : List TreeEvent) (w parent : ℕ) → On w → parent_at m.parents w ≡ Some parent → IsHandedOn (tree_replay end more) w parent
    path_hands_on more w parent on is_child =
        let later : WholeTree = tree_replay end more in
        let (drained, same_list) =
        drained_over (fixed_at tree m is) more end (keeps_all (fixed_at tree m is) m (acts_among after) (state_is_sound tree m is)) node node_drained in
        handed_on_by m.parents later w parent is_child (drained_above later m.parents on.0 node w on.1 drained)

-- ---- counted from an earlier state

pub converges : ObeysSince LinkLaw → (kind : Kind) (each : ℕ) (tree : Nodes) (s : WholeTree) (before after : List Change) (more : List TreeEvent) (rounds node : ℕ) → IsState tree s
    → node < length s.parents → Spare s.parents node before
    → let m = changes_replay s before in
    let open_end = tree_replay m (acts_among after) in
    IsState tree m → IsPathOpen open_end node → TakesAtMost kind each m node → PathRounds kind m node rounds after → rounds_since each (moment m) node ≤ rounds
    → HasConverged s (tree_replay open_end more) node
converges obey kind each tree s before after more rounds node is is_node spare is_later is_open few are_rounds enough =
    let m = changes_replay s before in
    let es = acts_among after ++ more in
    let t = tree_replay (tree_replay m (acts_among after)) more in
    let same : m.parents ≡ s.parents = (since_spared tree s before node is is_node spare).parents_stay in
    let joined : tree_replay m (acts_among after ++ more) ≡ t = replay_append m (acts_among after) more in
    let last : t.parents ≡ m.parents =
    ap (λ (u : WholeTree). u.parents) (sym joined)
    ∙ (keeps_all (fixed_at tree m is_later) m (acts_among after ++ more) (state_is_sound tree m is_later)).parents_stay in
    let hands_on : (w parent : ℕ) → OnPath s node w → parent_at s.parents w ≡ Some parent → IsHandedOn t w parent =
    λ w parent on child.
    path_hands_on kind each tree m is_later node few after rounds is_open are_rounds enough more w parent
    (subst (λ ps. Reaches ps node w) (sym same) on) (ap (λ ps. parent_at ps w) same ∙ child) in
    let whole : changes_replay s (before ++ as_changes es) ≡ t =
    changes-append s before (as_changes es) ∙ (acts_replayed m es ∙ joined) in
    record {
      complete =
          subst (λ u. CompleteSince (moment s) (gained s u) node) whole
          (complete_since tree s (before ++ as_changes es) node is is_node
          (spare_both s.parents node before (as_changes es) spare (acts_spare s.parents node es)) obey
          (λ w parent on child.
          let (link, there, all, empty) = hands_on w parent on child in
          let acked : acked_at t w ≡ length (received t parent) =
          ap (λ o. option_map_or (λ (l : LinkValue). l.state.acked) o 0) there ∙ all in
          subst (λ u. acked_at u w ≡ length (received u parent)) (sym whole) acked));
      handed_on =
          λ w parent on child.
          hands_on w parent (subst (λ ps. Reaches ps node w) (last ∙ same) on) (ap (λ ps. parent_at ps w) (sym (last ∙ same)) ∙ child);
    }
