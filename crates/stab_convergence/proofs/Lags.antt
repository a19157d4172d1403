-- Of any state of a whole tree: the most items that a node can yet have, and so how many rounds the
-- link into it can need, where an item takes `each`.
use Rattle.std.proofs.Common.{◌≡◌, inl, inr, ℕ, suc, ◌+◌, ◌-◌, ◌*◌, ◌<◌, ◌≤◌, [], ◌++◌, length, drop, Some, None, refl, ap, sym, ◌∙◌, subst, arith, mul-add}
use Rattle.std.specs.Option.{option_map_or}
use Rattle.std.proofs.lemmas.Bool.{cases_lt}
use Rattle.std.proofs.lemmas.List.{length-append, length-drop}
use Rattle.stab_frames.specs.Parameters.{Parameters}
use Rattle.stab_core.specs.Link.{LinkValue, link_at}
use Rattle.stab_core.specs.LinkState.{LinkState}
use Rattle.stab_tree.specs.Nodes.{Nodes, parent_at, root_of}
use Rattle.stab_tree.specs.Steps.{depth_of}
use Rattle.stab_tree.proofs.ForCallers.{child_is_deeper, holds_at_every_depth}
use Rattle.stab_treecore.specs.Paths.{path_sum, sum_above}
use Rattle.stab_treecore.specs.WholeTree.{WholeTree, received, source}
use Rattle.stab_treecore.proofs.ForChanges.{sum_above-add}
use Rattle.stab_treecore.specs.Since.{IsState, backlog, capacity_at}
use Rattle.stab_rounds.proofs.Coming.{to_come, few_idle, few_coming}
use Rattle.stab_rounds.proofs.ByKind.{times}
use Rattle.stab_rounds.proofs.Most.{Most, top, next_most, received_few}
use Rattle.stab_rounds.proofs.TreeSteps.{At, Fixed, IsSound, known, linked, offered_few, root_has}

module _ (tree : Nodes) (s : WholeTree) (is : IsState tree s) where
  abbrev pub fixed_at : Fixed
  fixed_at = record { parents = s.parents; published = s.published; capacity = capacity_at s }

  -- a state is what the proofs of arrival ask for
  pub state_is_sound : IsSound fixed_at s
  state_is_sound = record {
    parents_stay = refl;
    published_stay = refl;
    linked = is.linked;
    knows =
        λ w link there.
        let (lawful, bounded) = is.bounded w link there in
        let first = bounded.acked_were_offered in
        let second = bounded.one_waits_at_most in
        record {
          within = record {
            frames = bounded.lawful.frames;
            acks = bounded.lawful.acks;
            waits =
                elim (cases_lt link.state.acked (length link.state.offered)) [
                  | inl more ↦ inr (omega arith)
                  | inr idle ↦ inl (omega arith)
                ];
          };
          some = lawful.some_capacity;
          capacity = sym (ap (λ o. option_map_or (λ (l : LinkValue). l.params.capacity) o 0) there);
        };
    fed = λ w u link is_child there. is.within w u link is_child there;
  }

  -- what the sender of a link has for its child is what its node has and is not acknowledged
  pub backlog_counts : (w u : ℕ) (p : Parameters) (state : LinkState) → parent_at s.parents w ≡ Some u → At s w p state
      → length (backlog s w) + state.acked ≡ length (received s u)
  backlog_counts w u p state is_child there =
      let (lawful, bounded) = is.bounded w (link_at p state) there in
      let offered = bounded.acked_were_offered in
      let long = is.within w u (link_at p state) is_child there in
      let from : source s w ≡ received s u = ap (λ o. option_map_or (λ v. received s v) o []) is_child in
      let backlog_is : backlog s w ≡ drop state.acked state.offered ++ drop (length state.offered) (received s u) =
      ap (λ o. option_map_or (λ (l : LinkValue). drop l.state.acked l.state.offered ++ drop (length l.state.offered) (source s w)) o []) there
      ∙ ap (λ xs. drop state.acked state.offered ++ drop (length state.offered) xs) from in
      omega (
        arith,
        ap (λ xs. length xs) backlog_is,
        length-append (drop state.acked state.offered) (drop (length state.offered) (received s u)),
        length-drop state.acked state.offered,
        length-drop (length state.offered) (received s u),
      )

  one_deeper : (w u : ℕ) → parent_at s.parents w ≡ Some u → depth_of s.parents w ≡ suc (depth_of s.parents u)
  one_deeper w u is_child =
      subst (λ ps. parent_at ps w ≡ Some u → depth_of ps w ≡ suc (depth_of ps u)) (sym is.parents)
      (child_is_deeper tree.parents is.is_tree w u) is_child

  -- a sum over the path of a child
  pub path_below : (number : ℕ → ℕ) (w u : ℕ) → parent_at s.parents w ≡ Some u
      → path_sum s.parents number w ≡ number w + path_sum s.parents number u
  path_below number w u is_child =
      ap (λ d. sum_above s.parents number d w) (one_deeper w u is_child)
      ∙ ap (λ o. number w + option_map_or (sum_above s.parents number (depth_of s.parents u)) o 0) is_child

  abbrev had : ℕ → ℕ
  had w = length (backlog s w)

  -- ---- the most that a node can yet have

  abbrev MostAt : ℕ → ℕ → Type 0
  MostAt depth u =
      (k : ℕ) × Most fixed_at s u k × (k ≤ length (received s u) + sum_above s.parents (λ w. had w + capacity_at s w) depth u)

  most_below : (depth w u : ℕ) → parent_at s.parents w ≡ Some u → MostAt depth u → MostAt (suc depth) w
  most_below depth w u is_child (k, most, few) =
      let (p, state, there) = linked fixed_at s state_is_sound w u is_child in
      let facts = known fixed_at s state_is_sound w p state there in
      let frames = facts.within.frames in
      let capacity = facts.capacity in
      let offered = offered_few fixed_at s state_is_sound w u p state is_child there in
      let at_parent = received_few fixed_at s u k state_is_sound most in
      let rest : ℕ = k - length state.offered in
      let split : k ≡ length state.offered + rest = omega arith in
      let counts = backlog_counts w u p state is_child there in
      let coming : to_come state + state.acked ≤ length state.offered + p.capacity =
      elim facts.within.waits [
        | inl none ↦ omega (arith, few_idle state none)
        | inr holds ↦ omega (arith, few_coming state holds)
      ] in
      let sum : sum_above s.parents (λ v. had v + capacity_at s v) (suc depth) w
      ≡ had w + capacity_at s w + sum_above s.parents (λ v. had v + capacity_at s v) depth u =
      ap (λ o. had w + capacity_at s w + option_map_or (sum_above s.parents (λ v. had v + capacity_at s v) depth) o 0) is_child in (
        length (received s w) + to_come state + rest,
        next_most fixed_at s w u k rest p state is_child there most split,
        omega arith,
      )

  most_at : (u : ℕ) → u < length s.parents → MostAt (depth_of s.parents u) u
  most_at u is_node =
      let at_root : MostAt 0 (root_of s.parents) = (
        length s.published,
        top (subst (λ ps. parent_at ps (root_of ps) ≡ None) (sym is.parents) is.is_tree.root_has_none) (omega arith),
        root_many,
      ) in
      subst (λ ps. (v : ℕ) → v < length ps → MostAt (depth_of ps v) v) (sym is.parents)
      (holds_at_every_depth tree.parents is.is_tree MostAt (subst (λ ps. MostAt 0 (root_of ps)) is.parents at_root)
      (λ depth child parent is_child. most_below depth child parent (ap (λ ps. parent_at ps child) is.parents ∙ is_child)))
      u is_node
    where
      root_many : length s.published ≤ length (received s (root_of s.parents)) + 0
      root_many = omega (arith, ap length (root_list))
        where
          root_list : received s (root_of s.parents) ≡ s.published
          root_list = root_has fixed_at s state_is_sound (root_of s.parents) (subst (λ ps. parent_at ps (root_of ps) ≡ None) (sym is.parents) is.is_tree.root_has_none)

  -- ---- the rounds that the link into a node can need

  -- a parent can have this many items more than are acknowledged
  abbrev pub yet : ℕ → ℕ
  yet w = path_sum s.parents had w + option_map_or (path_sum s.parents (capacity_at s)) (parent_at s.parents w) 0

  few_left : (w u k : ℕ) (p : Parameters) (state : LinkState) → parent_at s.parents w ≡ Some u → At s w p state
      → k ≤ length (received s u) + path_sum s.parents (λ v. had v + capacity_at s v) u → k ≤ state.acked + yet w
  few_left w u k p state is_child there few =
      omega (
        arith,
        few,
        backlog_counts w u p state is_child there,
        path_below had w u is_child,
        ap (λ o. option_map_or (path_sum s.parents (capacity_at s)) o 0) is_child,
        sum_above-add s.parents had (capacity_at s) (depth_of s.parents u) u,
      )

  module _ (each : ℕ) where
    abbrev pub lag : ℕ → ℕ
    lag w = each * yet w + option_map_or (depth_of s.parents) (parent_at s.parents w) 0

    lag_is : (w u : ℕ) → parent_at s.parents w ≡ Some u → lag w ≡ each * (path_sum s.parents had w + path_sum s.parents (capacity_at s) u) + depth_of s.parents u
    lag_is w u is_child =
        ap
        (λ o. each * (path_sum s.parents had w + option_map_or (path_sum s.parents (capacity_at s)) o 0) + option_map_or (depth_of s.parents) o 0)
        is_child

    pub farther : (w u g : ℕ) → parent_at s.parents w ≡ Some u → parent_at s.parents u ≡ Some g → lag u + each * capacity_at s u + 1 ≤ lag w
    farther w u g is_child is_parent =
        let capacities : ℕ = path_sum s.parents (capacity_at s) g in
        let grown =
        times each (path_sum s.parents had u + capacities + capacity_at s u) (path_sum s.parents had w + path_sum s.parents (capacity_at s) u)
        (omega (arith, path_below had w u is_child, path_below (capacity_at s) u g is_parent)) in
        omega (
          arith,
          grown,
          lag_is w u is_child,
          lag_is u g is_parent,
          mul-add each (path_sum s.parents had u + capacities) (capacity_at s u),
          one_deeper u g is_parent,
        )

    -- so its link can be `lag w` rounds behind at first
    pub begins_behind : (w u : ℕ) (p : Parameters) (state : LinkState) → u < length s.parents → parent_at s.parents w ≡ Some u → At s w p state
        → (k : ℕ) × Most fixed_at s u k × (each * k ≤ each * state.acked + lag w)
    begins_behind w u p state is_node is_child there =
        let (k, most, few) = most_at u is_node in (
          k,
          most,
          omega (arith, times each k (state.acked + yet w) (few_left w u k p state is_child there few), mul-add each state.acked (yet w)),
        )
