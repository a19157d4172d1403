-- From the law of each link of a path to the laws of its node, counted from a moment.
use Rattle.std.proofs.Common.{◌≡◌, ℕ, zero, suc, ◌+◌, ◌*◌, ◌<◌, max, List, [], ◌++◌, length, option_and_then, Some, None, is_some, if◌then◌else◌, refl, ap, sym, ◌∙◌, subst, append_assoc, arith}
use Rattle.std.specs.Option.{option_map_or}
use Rattle.std.proofs.lemmas.List.{append-nil}
use mathlib.Core.List.{IsPrefix}
use Rattle.stab_core.specs.LinkLaw.{LinkLaw, SharperLinkLaw}
use Rattle.stab_tree.specs.IsTree.{IsRooted}
use Rattle.stab_tree.specs.Nodes.{Nodes, parent_at, root_of}
use Rattle.stab_tree.specs.Steps.{depth_of}
use Rattle.stab_tree.proofs.ForCallers.{holds_at_every_depth}
use Rattle.stab_treecore.specs.NodeLaws.{LawBetween}
use Rattle.stab_treecore.specs.Paths.{sum_above, lists_above}
use Rattle.stab_treecore.specs.SharperLaw.{SharperCompleteLaw, SharperTreeLaw, peak_above}
use Rattle.stab_treecore.specs.TreeLaw.{CompleteLaw, TreeLaw}
use Rattle.stab_treecore.proofs.ForChanges.{larger_bounds, law_below, law_past_opening, root_law, sharper_below, sharper_larger, sharper_past_opening, sharper_root}
use Rattle.stab_treecore.proofs.Upwards.{complete_below, complete_past_opening, root_has_all, larger_complete, sharper_complete_below, sharper_complete_past_opening, sharper_larger_complete, sharper_root_has_all}
use Rattle.stab_treecore.specs.Moment.{Moment, old_backlog, published_above, LawSince, SharperCompleteSince, SharperLawSince}
use Rattle.stab_treecore.specs.Moment.{strays_since, missing_since, garbage_since, published_since}

module _ (tree : Nodes) (is_tree : IsRooted tree.parents) (m : Moment) (same : m.parents ≡ tree.parents) (gained : ℕ → List ℕ)
    (OnPath : ℕ → Type 0) (up : (w parent : ℕ) → OnPath w → parent_at m.parents w ≡ Some parent → OnPath parent) where
  abbrev strays_of : ℕ → ℕ
  strays_of w = m.capacity w + length (old_backlog m w)

  abbrev missing_of : ℕ → ℕ
  missing_of w = 2 * m.capacity w + 1

  abbrev paid_of : ℕ → ℕ
  paid_of w = m.capacity w + 1

  abbrev garbage_of : ℕ → List ℕ
  garbage_of w = m.queued w ++ old_backlog m w

  -- a link on the path that obeys this law
  abbrev pub LinksObey : (ℕ → List ℕ → List ℕ → ℕ → List ℕ → Type 0) → Type 0
  LinksObey Law =
      (w parent : ℕ) → OnPath w → parent_at m.parents w ≡ Some parent
      → LawBetween Law (m.capacity w) (m.queued w) (m.backlog w ++ gained parent) (gained w)

  -- the root has no parent, and each other node has one
  abbrev Ranked : ℕ → ℕ → Type 0
  Ranked zero w = w ≡ root_of m.parents
  Ranked (suc depth) w = (parent : ℕ) × (parent_at m.parents w ≡ Some parent)

  root_has_none : parent_at m.parents (root_of m.parents) ≡ None
  root_has_none = subst (λ ps. parent_at ps (root_of ps) ≡ None) (sym same) is_tree.root_has_none

  -- what the bounds of a child are, beside those of its parent
  module _ (depth child parent : ℕ) (is_child : parent_at m.parents child ≡ Some parent) where
    sum_is : (number : ℕ → ℕ) → sum_above m.parents number (suc depth) child ≡ number child + sum_above m.parents number depth parent
    sum_is number = ap (λ o. number child + option_map_or (sum_above m.parents number depth) o 0) is_child

    lists_are : (list : ℕ → List ℕ) → lists_above m.parents list (suc depth) child ≡ list child ++ lists_above m.parents list depth parent
    lists_are list = ap (λ o. list child ++ option_map_or (lists_above m.parents list depth) o []) is_child

    peak_is : peak_above m.parents m.capacity (suc depth) child
        ≡ max (peak_above m.parents m.capacity depth parent) (sum_above m.parents paid_of depth parent + (2 * m.capacity child + 1))
    peak_is =
        ap (λ o. max (option_map_or (peak_above m.parents m.capacity depth) o 0)
        (option_map_or (sum_above m.parents paid_of depth) o 0 + (2 * m.capacity child + 1))) is_child

  no_old : (child : ℕ) → parent_at m.parents child ≡ Some (root_of m.parents) → old_backlog m child ≡ []
  no_old child is_child =
      ap (λ o. if is_some o then m.backlog child else [])
      (ap (λ o. option_and_then (parent_at m.parents) o) is_child ∙ root_has_none)

  old_is : (child parent grandparent : ℕ) → parent_at m.parents child ≡ Some parent → parent_at m.parents parent ≡ Some grandparent
      → old_backlog m child ≡ m.backlog child
  old_is child parent grandparent is_child has_parent =
      ap (λ o. if is_some o then m.backlog child else []) (ap (λ o. option_and_then (parent_at m.parents) o) is_child ∙ has_parent)

  -- the garbage of a child of the root, and of another node
  first_garbage : (child : ℕ) → parent_at m.parents child ≡ Some (root_of m.parents)
      → m.queued child ++ [] ≡ lists_above m.parents garbage_of 1 child
  first_garbage child is_child =
      ap (λ xs. m.queued child ++ xs) (sym (no_old child is_child))
      ∙ (sym (append-nil (garbage_of child)) ∙ sym (lists_are 0 child (root_of m.parents) is_child garbage_of))

  more_garbage : (depth child parent grandparent : ℕ) → parent_at m.parents child ≡ Some parent → parent_at m.parents parent ≡ Some grandparent
      → m.queued child ++ (m.backlog child ++ lists_above m.parents garbage_of depth parent) ≡ lists_above m.parents garbage_of (suc depth) child
  more_garbage depth child parent grandparent is_child has_parent =
      sym (append_assoc (m.queued child) (m.backlog child) (lists_above m.parents garbage_of depth parent))
      ∙ (ap (λ xs. (m.queued child ++ xs) ++ lists_above m.parents garbage_of depth parent)
      (sym (old_is child parent grandparent is_child has_parent))
      ∙ sym (lists_are depth child parent is_child garbage_of))

  published_is : (depth child parent : ℕ) → parent_at m.parents child ≡ Some parent
      → published_above m gained (suc depth) parent ≡ published_above m gained (suc (suc depth)) child
  published_is depth child parent is_child = ap (λ o. option_map_or (published_above m gained (suc depth)) o []) (sym is_child)

  -- ---- the tree law

  abbrev LawAt : ℕ → ℕ → Type 0
  LawAt depth w =
      TreeLaw (sum_above m.parents strays_of depth w) (sum_above m.parents missing_of depth w) (lists_above m.parents garbage_of depth w)
      (published_above m gained depth w) (gained w)

  below_root : LinksObey LinkLaw → (child : ℕ) → OnPath child → parent_at m.parents child ≡ Some (root_of m.parents) → LawAt 1 child
  below_root obey child on is_child =
      let (offered, acked, begins, law) = obey child (root_of m.parents) on is_child in
      let published : List ℕ = m.backlog child ++ gained (root_of m.parents) in
      let capacity : ℕ = m.capacity child in
      let strays = sum_is 0 child (root_of m.parents) is_child strays_of in
      let missing = sum_is 0 child (root_of m.parents) is_child missing_of in
      larger_bounds (0 + capacity) (sum_above m.parents strays_of 1 child) (0 + (2 * capacity + 1)) (sum_above m.parents missing_of 1 child)
      (lists_above m.parents garbage_of 1 child) published (gained child) (omega arith) (omega arith)
      (subst (λ xs. TreeLaw (0 + capacity) (0 + (2 * capacity + 1)) xs published (gained child)) (first_garbage child is_child)
      (law_below capacity 0 acked (m.queued child) [] published published offered (gained child) begins 0 (root_law published) law))

  below_inner : LinksObey LinkLaw → (depth child parent grandparent : ℕ) → OnPath child → parent_at m.parents child ≡ Some parent
      → parent_at m.parents parent ≡ Some grandparent → LawAt (suc depth) parent → LawAt (suc (suc depth)) child
  below_inner obey depth child parent grandparent on is_child has_parent above =
      let (offered, acked, begins, law) = obey child parent on is_child in
      let capacity : ℕ = m.capacity child in
      let strays : ℕ = sum_above m.parents strays_of (suc depth) parent in
      let missing : ℕ = sum_above m.parents missing_of (suc depth) parent in
      let garbage : List ℕ = lists_above m.parents garbage_of (suc depth) parent in
      let published : List ℕ = published_above m gained (suc depth) parent in
      let old : List ℕ = m.backlog child in
      let strays_are = sum_is (suc depth) child parent is_child strays_of in
      let missing_are = sum_is (suc depth) child parent is_child missing_of in
      let as_long = ap (λ xs. length xs) (old_is child parent grandparent is_child has_parent) in
      larger_bounds (strays + length old + capacity) (sum_above m.parents strays_of (suc (suc depth)) child) (missing + (2 * capacity + 1))
      (sum_above m.parents missing_of (suc (suc depth)) child) (lists_above m.parents garbage_of (suc (suc depth)) child)
      (published_above m gained (suc (suc depth)) child) (gained child) (omega arith) (omega arith)
      (subst (λ xs. TreeLaw (strays + length old + capacity) (missing + (2 * capacity + 1)) xs (published_above m gained (suc (suc depth)) child)
      (gained child)) (more_garbage (suc depth) child parent grandparent is_child has_parent)
      (subst (λ xs. TreeLaw (strays + length old + capacity) (missing + (2 * capacity + 1)) (m.queued child ++ (old ++ garbage)) xs
      (gained child)) (published_is depth child parent is_child)
      (law_below capacity (strays + length old) acked (m.queued child) (old ++ garbage) published (old ++ gained parent) offered (gained child)
      begins missing (law_past_opening strays old garbage published (gained parent) missing above) law)))

  -- ---- the sharper one

  abbrev SharperAt : ℕ → ℕ → Type 0
  SharperAt depth w =
      SharperTreeLaw (sum_above m.parents strays_of depth w) (sum_above m.parents paid_of depth w) (peak_above m.parents m.capacity depth w)
      (lists_above m.parents garbage_of depth w) (published_above m gained depth w) (gained w)

  -- a law with equal bounds
  same_sharper : (Law : ℕ → ℕ → ℕ → List ℕ → List ℕ → List ℕ → Type 0) (strays paid paid_too peak peak_too : ℕ)
      (garbage garbage_too published published_too list : List ℕ) → paid ≡ paid_too → peak ≡ peak_too
      → garbage ≡ garbage_too → published ≡ published_too → Law strays paid peak garbage published list
      → Law strays paid_too peak_too garbage_too published_too list
  same_sharper Law strays paid paid_too peak peak_too garbage garbage_too published published_too list first second third fourth law =
      subst (λ n. Law strays n peak_too garbage_too published_too list) first
      (subst (λ n. Law strays paid n garbage_too published_too list) second
      (subst (λ xs. Law strays paid peak xs published_too list) third
      (subst (λ xs. Law strays paid peak garbage xs list) fourth law)))

  sharper_below_root : LinksObey SharperLinkLaw → (child : ℕ) → OnPath child → parent_at m.parents child ≡ Some (root_of m.parents)
      → SharperAt 1 child
  sharper_below_root obey child on is_child =
      let (offered, acked, begins, law) = obey child (root_of m.parents) on is_child in
      let published : List ℕ = m.backlog child ++ gained (root_of m.parents) in
      let capacity : ℕ = m.capacity child in
      let strays = sum_is 0 child (root_of m.parents) is_child strays_of in
      let paid = sum_is 0 child (root_of m.parents) is_child paid_of in
      let peak = peak_is 0 child (root_of m.parents) is_child in
      same_sharper SharperTreeLaw (sum_above m.parents strays_of 1 child) (0 + (capacity + 1)) (sum_above m.parents paid_of 1 child)
      (max 0 (0 + (2 * capacity + 1))) (peak_above m.parents m.capacity 1 child) (m.queued child ++ []) (lists_above m.parents garbage_of 1 child)
      published published (gained child) (omega arith) (sym peak) (first_garbage child is_child) refl
      (sharper_larger (0 + capacity) (sum_above m.parents strays_of 1 child) (0 + (capacity + 1)) (max 0 (0 + (2 * capacity + 1)))
      (max 0 (0 + (2 * capacity + 1))) (m.queued child ++ []) published (gained child) (omega arith) (omega arith)
      (sharper_below capacity 0 acked (m.queued child) [] published published offered (gained child) begins 0 0 (sharper_root published) law))

  sharper_below_inner : LinksObey SharperLinkLaw → (depth child parent grandparent : ℕ) → OnPath child → parent_at m.parents child ≡ Some parent
      → parent_at m.parents parent ≡ Some grandparent → SharperAt (suc depth) parent → SharperAt (suc (suc depth)) child
  sharper_below_inner obey depth child parent grandparent on is_child has_parent above =
      let (offered, acked, begins, law) = obey child parent on is_child in
      let capacity : ℕ = m.capacity child in
      let strays : ℕ = sum_above m.parents strays_of (suc depth) parent in
      let paid : ℕ = sum_above m.parents paid_of (suc depth) parent in
      let peak : ℕ = peak_above m.parents m.capacity (suc depth) parent in
      let garbage : List ℕ = lists_above m.parents garbage_of (suc depth) parent in
      let published : List ℕ = published_above m gained (suc depth) parent in
      let old : List ℕ = m.backlog child in
      let after : ℕ = max peak (paid + (2 * capacity + 1)) in
      let strays_are = sum_is (suc depth) child parent is_child strays_of in
      let paid_are = sum_is (suc depth) child parent is_child paid_of in
      let as_long = ap (λ xs. length xs) (old_is child parent grandparent is_child has_parent) in
      same_sharper SharperTreeLaw (sum_above m.parents strays_of (suc (suc depth)) child) (paid + (capacity + 1)) (sum_above m.parents paid_of (suc (suc depth)) child)
      after (peak_above m.parents m.capacity (suc (suc depth)) child) (m.queued child ++ (old ++ garbage))
      (lists_above m.parents garbage_of (suc (suc depth)) child) published (published_above m gained (suc (suc depth)) child) (gained child)
      (omega arith) (sym (peak_is (suc depth) child parent is_child)) (more_garbage (suc depth) child parent grandparent is_child has_parent)
      (published_is depth child parent is_child)
      (sharper_larger (strays + length old + capacity) (sum_above m.parents strays_of (suc (suc depth)) child) (paid + (capacity + 1)) after after
      (m.queued child ++ (old ++ garbage)) published (gained child) (omega arith) (omega arith)
      (sharper_below capacity (strays + length old) acked (m.queued child) (old ++ garbage) published (old ++ gained parent) offered (gained child)
      begins paid peak (sharper_past_opening strays paid peak old garbage published (gained parent) above) law))

  -- ---- the complete law, where each link has all that its parent has acknowledged

  -- such a link on the path, by what was offered to it since
  abbrev pub LinksHandOn : (ℕ → List ℕ → List ℕ → ℕ → List ℕ → Type 0) → Type 0
  LinksHandOn Law =
      (w parent : ℕ) → OnPath w → parent_at m.parents w ≡ Some parent
      → (offered : List ℕ) × (acked : ℕ) × IsPrefix offered (m.backlog w ++ gained parent)
      × Law (m.capacity w) (m.queued w) offered acked (gained w) × (acked ≡ length (m.backlog w ++ gained parent))

  abbrev CompleteAt : ℕ → ℕ → Type 0
  CompleteAt depth w =
      CompleteLaw (sum_above m.parents strays_of depth w) (sum_above m.parents missing_of depth w) (lists_above m.parents garbage_of depth w)
      (published_above m gained depth w) (gained w)

  complete_below_root : LinksHandOn LinkLaw → (child : ℕ) → OnPath child → parent_at m.parents child ≡ Some (root_of m.parents) → CompleteAt 1 child
  complete_below_root obey child on is_child =
      let (offered, acked, begins, law, all) = obey child (root_of m.parents) on is_child in
      let published : List ℕ = m.backlog child ++ gained (root_of m.parents) in
      let capacity : ℕ = m.capacity child in
      let strays = sum_is 0 child (root_of m.parents) is_child strays_of in
      let missing = sum_is 0 child (root_of m.parents) is_child missing_of in
      larger_complete (0 + capacity) (sum_above m.parents strays_of 1 child) (0 + (2 * capacity + 1)) (sum_above m.parents missing_of 1 child)
      (lists_above m.parents garbage_of 1 child) published (gained child) (omega arith) (omega arith)
      (subst (λ xs. CompleteLaw (0 + capacity) (0 + (2 * capacity + 1)) xs published (gained child)) (first_garbage child is_child)
      (complete_below capacity 0 acked (m.queued child) [] published published offered (gained child) begins 0 all (root_has_all published) law))

  complete_below_inner : LinksHandOn LinkLaw → (depth child parent grandparent : ℕ) → OnPath child → parent_at m.parents child ≡ Some parent
      → parent_at m.parents parent ≡ Some grandparent → CompleteAt (suc depth) parent → CompleteAt (suc (suc depth)) child
  complete_below_inner obey depth child parent grandparent on is_child has_parent above =
      let (offered, acked, begins, law, all) = obey child parent on is_child in
      let capacity : ℕ = m.capacity child in
      let strays : ℕ = sum_above m.parents strays_of (suc depth) parent in
      let missing : ℕ = sum_above m.parents missing_of (suc depth) parent in
      let garbage : List ℕ = lists_above m.parents garbage_of (suc depth) parent in
      let published : List ℕ = published_above m gained (suc depth) parent in
      let old : List ℕ = m.backlog child in
      let strays_are = sum_is (suc depth) child parent is_child strays_of in
      let missing_are = sum_is (suc depth) child parent is_child missing_of in
      let as_long = ap (λ xs. length xs) (old_is child parent grandparent is_child has_parent) in
      larger_complete (strays + length old + capacity) (sum_above m.parents strays_of (suc (suc depth)) child) (missing + (2 * capacity + 1))
      (sum_above m.parents missing_of (suc (suc depth)) child) (lists_above m.parents garbage_of (suc (suc depth)) child)
      (published_above m gained (suc (suc depth)) child) (gained child) (omega arith) (omega arith)
      (subst (λ xs. CompleteLaw (strays + length old + capacity) (missing + (2 * capacity + 1)) xs (published_above m gained (suc (suc depth)) child)
      (gained child)) (more_garbage (suc depth) child parent grandparent is_child has_parent)
      (subst (λ xs. CompleteLaw (strays + length old + capacity) (missing + (2 * capacity + 1)) (m.queued child ++ (old ++ garbage)) xs
      (gained child)) (published_is depth child parent is_child)
      (complete_below capacity (strays + length old) acked (m.queued child) (old ++ garbage) published (old ++ gained parent) offered (gained child)
      begins missing all (complete_past_opening strays old garbage published (gained parent) missing above) law)))

  -- ---- and the sharper one

  abbrev SharperCompleteAt : ℕ → ℕ → Type 0
  SharperCompleteAt depth w =
      SharperCompleteLaw (sum_above m.parents strays_of depth w) (sum_above m.parents paid_of depth w) (peak_above m.parents m.capacity depth w)
      (lists_above m.parents garbage_of depth w) (published_above m gained depth w) (gained w)

  all_below_root : LinksHandOn SharperLinkLaw → (child : ℕ) → OnPath child → parent_at m.parents child ≡ Some (root_of m.parents)
      → SharperCompleteAt 1 child
  all_below_root obey child on is_child =
      let (offered, acked, begins, law, all) = obey child (root_of m.parents) on is_child in
      let published : List ℕ = m.backlog child ++ gained (root_of m.parents) in
      let capacity : ℕ = m.capacity child in
      let strays = sum_is 0 child (root_of m.parents) is_child strays_of in
      let paid = sum_is 0 child (root_of m.parents) is_child paid_of in
      let peak = peak_is 0 child (root_of m.parents) is_child in
      same_sharper SharperCompleteLaw (sum_above m.parents strays_of 1 child) (0 + (capacity + 1)) (sum_above m.parents paid_of 1 child)
      (max 0 (0 + (2 * capacity + 1))) (peak_above m.parents m.capacity 1 child) (m.queued child ++ []) (lists_above m.parents garbage_of 1 child)
      published published (gained child) (omega arith) (sym peak) (first_garbage child is_child) refl
      (sharper_larger_complete (0 + capacity) (sum_above m.parents strays_of 1 child) (0 + (capacity + 1)) (max 0 (0 + (2 * capacity + 1)))
      (m.queued child ++ []) published (gained child) (omega arith)
      (sharper_complete_below capacity 0 acked (m.queued child) [] published published offered (gained child) begins 0 0 all
      (sharper_root_has_all published) law))

  all_below_inner : LinksHandOn SharperLinkLaw → (depth child parent grandparent : ℕ) → OnPath child → parent_at m.parents child ≡ Some parent
      → parent_at m.parents parent ≡ Some grandparent → SharperCompleteAt (suc depth) parent → SharperCompleteAt (suc (suc depth)) child
  all_below_inner obey depth child parent grandparent on is_child has_parent above =
      let (offered, acked, begins, law, all) = obey child parent on is_child in
      let capacity : ℕ = m.capacity child in
      let strays : ℕ = sum_above m.parents strays_of (suc depth) parent in
      let paid : ℕ = sum_above m.parents paid_of (suc depth) parent in
      let peak : ℕ = peak_above m.parents m.capacity (suc depth) parent in
      let garbage : List ℕ = lists_above m.parents garbage_of (suc depth) parent in
      let published : List ℕ = published_above m gained (suc depth) parent in
      let old : List ℕ = m.backlog child in
      let after : ℕ = max peak (paid + (2 * capacity + 1)) in
      let strays_are = sum_is (suc depth) child parent is_child strays_of in
      let paid_are = sum_is (suc depth) child parent is_child paid_of in
      let as_long = ap (λ xs. length xs) (old_is child parent grandparent is_child has_parent) in
      same_sharper SharperCompleteLaw (sum_above m.parents strays_of (suc (suc depth)) child) (paid + (capacity + 1))
      (sum_above m.parents paid_of (suc (suc depth)) child) after (peak_above m.parents m.capacity (suc (suc depth)) child)
      (m.queued child ++ (old ++ garbage)) (lists_above m.parents garbage_of (suc (suc depth)) child) published
      (published_above m gained (suc (suc depth)) child) (gained child)
      (omega arith) (sym (peak_is (suc depth) child parent is_child)) (more_garbage (suc depth) child parent grandparent is_child has_parent)
      (published_is depth child parent is_child)
      (sharper_larger_complete (strays + length old + capacity) (sum_above m.parents strays_of (suc (suc depth)) child) (paid + (capacity + 1)) after
      (m.queued child ++ (old ++ garbage)) published (gained child) (omega arith)
      (sharper_complete_below capacity (strays + length old) acked (m.queued child) (old ++ garbage) published (old ++ gained parent) offered
      (gained child) begins paid peak all (sharper_complete_past_opening strays paid peak old garbage published (gained parent) above) law))

  -- ---- down the path

  module _ (AtDepth : ℕ → ℕ → Type 0) (at_root : AtDepth 0 (root_of m.parents))
      (first : (child : ℕ) → OnPath child → parent_at m.parents child ≡ Some (root_of m.parents) → AtDepth 1 child)
      (next : (depth child parent grandparent : ℕ) → OnPath child → parent_at m.parents child ≡ Some parent
      → parent_at m.parents parent ≡ Some grandparent → AtDepth (suc depth) parent → AtDepth (suc (suc depth)) child) where
    abbrev Counted : ℕ → ℕ → Type 0
    Counted depth w = Ranked depth w × (OnPath w → AtDepth depth w)

    counted_below : (depth child parent : ℕ) → parent_at m.parents child ≡ Some parent → Counted depth parent → Counted (suc depth) child
    counted_below zero child parent is_child (root, above) =
        ((parent, is_child), λ on. first child on (is_child ∙ ap Some root))
    counted_below (suc depth) child parent is_child ((grandparent, has_parent), above) = (
      (parent, is_child),
      λ on. next depth child parent grandparent on is_child has_parent (above (up child parent on is_child)),
    )

    down_the_path : (node : ℕ) → node < length m.parents → OnPath node → AtDepth (depth_of m.parents node) node
    down_the_path node is_node on =
        let counted : Counted (depth_of m.parents node) node =
        subst (λ ps. (v : ℕ) → v < length ps → Counted (depth_of ps v) v) (sym same)
        (holds_at_every_depth tree.parents is_tree Counted
        (ap (λ ps. root_of ps) (sym same), λ _. subst (λ ps. AtDepth 0 (root_of ps)) same at_root)
        (λ depth child parent is_child. counted_below depth child parent (ap (λ ps. parent_at ps child) same ∙ is_child)))
        node is_node in
        counted.1 on

  pub law_of_path : LinksObey LinkLaw → (node : ℕ) → node < length m.parents → OnPath node → LawSince m gained node
  law_of_path obey = down_the_path LawAt (root_law (gained (root_of m.parents))) (below_root obey) (below_inner obey)

  pub sharper_law_of_path : LinksObey SharperLinkLaw → (node : ℕ) → node < length m.parents → OnPath node → SharperLawSince m gained node
  sharper_law_of_path obey =
      down_the_path SharperAt (sharper_root (gained (root_of m.parents))) (sharper_below_root obey) (sharper_below_inner obey)

  pub complete_of_path : LinksHandOn LinkLaw → (node : ℕ) → node < length m.parents → OnPath node
      → CompleteLaw (strays_since m node) (missing_since m node) (garbage_since m node) (published_since m gained node) (gained node)
  complete_of_path obey =
      down_the_path CompleteAt (root_has_all (gained (root_of m.parents))) (complete_below_root obey) (complete_below_inner obey)

  pub sharper_complete_of_path : LinksHandOn SharperLinkLaw → (node : ℕ) → node < length m.parents → OnPath node
      → SharperCompleteSince m gained node
  sharper_complete_of_path obey =
      down_the_path SharperCompleteAt (sharper_root_has_all (gained (root_of m.parents))) (all_below_root obey) (all_below_inner obey)
