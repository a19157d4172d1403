-- A link that has acknowledged 2c + 2 items since any state passes on exactly what its parent has,
-- as long as no fault touches the link, whatever happens elsewhere; and where it had acknowledged
-- all, what its parent receives.
use Rattle.std.proofs.Common.{◌≡◌, ℕ, ◌+◌, ◌*◌, ◌≤◌, List, [], ◌∷◌, ◌++◌, length, drop, Some, ap, sym, ◌∙◌, subst, arith}
use mathlib.Core.List.{IsPrefix}
use Rattle.std.proofs.lemmas.List.{append-nil, length-append, length-drop}
use Rattle.stab_core.proofs.PassedOn.{clean_link}
use Rattle.stab_tree.specs.Nodes.{Nodes, parent_at}
use Rattle.stab_treecore.specs.WholeTree.{WholeTree, received}
use Rattle.stab_treecore.specs.declared.change.Change.{Change}
use Rattle.stab_treecore.specs.Changes.{changes_replay}
use Rattle.stab_treecore.specs.Hits.{SpareLink}
use Rattle.stab_treecore.specs.Since.{IsState, acked_at, capacity_at, gained}
use Rattle.stab_treecore.proofs.Contained.{contained}
use Rattle.stab_treecore.proofs.Grown.{dropped_front, front_and_rest}
use Rattle.stab_convergence.specs.Exact.{PassesAll}

-- a front that is as long is the whole
pub whole_front : (xs ys : List ℕ) → IsPrefix xs ys → length ys ≤ length xs → xs ≡ ys
whole_front xs ys ([], is) long = sym (append-nil xs) ∙ is
whole_front xs ys (z ∷ rest, is) long = absurd (omega (arith, length-append xs (z ∷ rest), ap length is))

-- what the link passes on: what its parent had from a place on, and what it received since
pub record Passes (m t : WholeTree) (w parent : ℕ) : Type 0 where
  pub from : ℕ
  pub no_earlier : acked_at m w ≤ from
  pub no_later : from ≤ acked_at m w + 1
  pub in_list : from ≤ length (received m parent)
  pub in_order : IsPrefix (gained m t w) (drop from (received m parent) ++ gained m t parent)
  pub all : acked_at t w ≡ length (received t parent) → gained m t w ≡ drop from (received m parent) ++ gained m t parent

pub passes : (tree : Nodes) (s : WholeTree) (before after : List Change) (w parent : ℕ) → IsState tree s → parent_at s.parents w ≡ Some parent
    → SpareLink s.parents w before → SpareLink s.parents w after
    → let m = changes_replay s before in
    let t = changes_replay m after in
    acked_at s w + 2 * capacity_at s w + 2 ≤ acked_at m w → IsPrefix (received m parent) (received t parent) → Passes m t w parent
passes tree s before after w parent is is_child first second clean grown =
    let m = changes_replay s before in
    let t = changes_replay m after in
    let on = contained clean_link tree s before after w parent is is_child first second clean in
    let rest : List ℕ = drop on.from (received m parent) ++ gained m t parent in
    let parts : drop on.from (received t parent) ≡ drop on.from (received m parent) ++ gained m t parent =
    ap (drop on.from) (front_and_rest (received m parent) (received t parent) grown)
    ∙ dropped_front on.from (received m parent) (gained m t parent) on.in_list in
    let order : IsPrefix (gained m t w) rest = subst (IsPrefix (gained m t w)) parts on.in_order in
    record {
      from = on.from;
      no_earlier = on.no_earlier;
      no_later = on.no_later;
      in_list = on.in_list;
      in_order = order;
      all =
          λ full.
          whole_front (gained m t w) rest order
          (omega (arith, on.none_missing, full, ap length parts, length-drop on.from (received t parent)));
    }

pub passes_all : (tree : Nodes) (s : WholeTree) (before after : List Change) (w parent : ℕ) → IsState tree s → parent_at s.parents w ≡ Some parent
    → SpareLink s.parents w before → SpareLink s.parents w after
    → let m = changes_replay s before in
    acked_at s w + 2 * capacity_at s w + 2 ≤ acked_at m w → acked_at m w ≡ length (received m parent)
    → PassesAll m (changes_replay m after) w parent
passes_all tree s before after w parent is is_child first second clean all_acked =
    let m = changes_replay s before in
    let t = changes_replay m after in
    let on = contained clean_link tree s before after w parent is is_child first second clean in
    let no_earlier = on.no_earlier in
    let in_list = on.in_list in
    let here : on.from ≡ length (received m parent) = omega arith in
    let order : IsPrefix (gained m t w) (gained m t parent) =
    subst (λ n. IsPrefix (gained m t w) (drop n (received t parent))) here on.in_order in
    record {
      in_order = order;
      all =
          λ full.
          whole_front (gained m t w) (gained m t parent) order
          (omega (arith, on.none_missing, length-drop (length (received m parent)) (received t parent)));
    }
