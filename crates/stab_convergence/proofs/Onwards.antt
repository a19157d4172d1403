-- A link that was clean when it went past what there is without later items: from then on it passes
-- on exactly what its parent has beyond. So down a path.
use Rattle.std.proofs.Common.{◌≡◌, ℕ, zero, suc, ◌+◌, ◌*◌, ◌<◌, ◌≤◌, inl, inr, List, [], ◌++◌, length, drop, Some, option_and_then, refl, ap, ap₂, sym, ◌∙◌, subst, arith}
use mathlib.Core.List.{IsPrefix}
use Rattle.std.specs.Option.{option_map_or}
use Rattle.std.proofs.lemmas.List.{length-append, length-drop, nil_from_length}
use Rattle.std.proofs.lemmas.Option.{none-some, same_Some}
use Rattle.stab_frames.specs.Parameters.{Parameters, AreLawful}
use Rattle.stab_core.specs.declared.event.Event.{Event}
use Rattle.stab_core.specs.Link.{LinkValue, link_at}
use Rattle.stab_core.specs.LinkState.{LinkState}
use Rattle.stab_core.specs.Replay.{replay}
use Rattle.stab_core.specs.Since.{IsBounded, acked_since}
use Rattle.stab_core.proofs.ForCallers.{prefix_of_itself, prefix_of_prefix}
use Rattle.stab_core.proofs.Replays.{replay-append}
use Rattle.stab_tree.specs.Nodes.{Nodes, parent_at, root_of}
use Rattle.stab_tree.specs.NodeOpenings.{opening_at}
use Rattle.stab_tree.specs.Steps.{Reaches, ancestor}
use Rattle.stab_treecore.specs.declared.event.TreeEvent.{TreeEvent}
use Rattle.stab_treecore.specs.TreeReplay.{tree_replay}
use Rattle.stab_treecore.specs.WholeTree.{WholeTree, received}
use Rattle.stab_treecore.specs.Since.{IsState, acked_at, capacity_at}
use Rattle.stab_treecore.proofs.Contained.{dropped_behind}
use Rattle.stab_treecore.proofs.Grown.{drop-past, prefix_dropped, prefix_no_longer, replay_delivers}
use Rattle.stab_treecore.proofs.Kept.{none_or_some, OnPath, path_up, Since}
use Rattle.stab_treecore.proofs.NodesSince.{has_link}
use Rattle.stab_treecore.proofs.Obeying.{PassesOnExactly}
use Rattle.stab_rounds.proofs.TreeSteps.{acked_few, known, linked, of_link, offered_few, received_grows}
use Rattle.stab_convergence.proofs.Ahead.{Ahead, past, same}
use Rattle.stab_convergence.proofs.Lags.{fixed_at}
use Rattle.stab_convergence.proofs.Settled.{whole_front}

-- what the second of two links that were one delivered beyond the first is what it was offered from
-- this place on, as far as that has come; and it has come as far as it is acknowledged
abbrev GoesOn : ℕ → LinkState → LinkState → Type 0
GoesOn place x y =
    IsPrefix (drop (length x.delivered) y.delivered) (drop place y.offered)
    × (y.acked ≤ place + length (drop (length x.delivered) y.delivered))

-- Of one link that was clean and idle: one run is offered nothing more, and another one delivers
-- beyond it exactly what it is offered beyond.
link_onwards : PassesOnExactly → (p : Parameters) (s : LinkState) (before alone onwards : List Event) → AreLawful p → IsBounded p s
    → let z = replay p s before in
    2 * p.capacity + 2 ≤ acked_since s z → length z.offered ≡ z.acked
    → let x = replay p z alone in
    let y = replay p z onwards in
    length x.offered ≡ z.acked → GoesOn z.acked x y
link_onwards exactly p s before alone onwards lawful bounded many idle all =
    let z : LinkState = replay p s before in
    let x : LinkState = replay p z alone in
    let y : LinkState = replay p z onwards in
    let of_x = exactly p s before alone lawful bounded many in
    let of_y = exactly p s before onwards lawful bounded many in
    let from_x = of_x.no_earlier in
    let no_earlier = of_y.no_earlier in
    let was_offered = of_y.was_offered in
    let here : of_y.from ≡ z.acked = omega arith in
    let short : length (drop (length z.delivered) x.delivered) ≤ length (drop of_x.from x.offered) =
    prefix_no_longer (drop (length z.delivered) x.delivered) (drop of_x.from x.offered) of_x.in_order in
    let grown : length z.delivered ≤ length x.delivered = prefix_no_longer z.delivered x.delivered (replay_delivers p z alone) in
    let same_length : length z.delivered ≡ length x.delivered =
    omega (arith, short, grown, from_x, all, length-drop (length z.delivered) x.delivered, length-drop of_x.from x.offered) in
    subst (λ n. IsPrefix (drop n y.delivered) (drop z.acked y.offered) × (y.acked ≤ z.acked + length (drop n y.delivered))) same_length
    (subst (λ n. IsPrefix (drop (length z.delivered) y.delivered) (drop n y.offered) × (y.acked ≤ n + length (drop (length z.delivered) y.delivered))) here
    (of_y.in_order, of_y.none_missing))

module _ (exactly : PassesOnExactly) (tree : Nodes) (s m : WholeTree) (is : IsState tree s) (is_middle : IsState tree m) (node : ℕ)
    (middle_node : node < length m.parents) (to_middle : Since s m (OnPath s node) (OnPath s node)) (t : WholeTree) (es : List TreeEvent)
    (ahead : Ahead tree m is_middle node middle_node t (tree_replay m es)) (to_end : Since m t (OnPath m node) (OnPath m node))
    (clean : (w parent : ℕ) → OnPath s node w → parent_at s.parents w ≡ Some parent
    → acked_at s w + 2 * capacity_at s w + 2 ≤ acked_at (tree_replay m es) w) where
  abbrev a : WholeTree
  a = tree_replay m es

  -- what a node has beyond what it has without
  abbrev pub beyond : ℕ → List ℕ
  beyond w = drop (length (received a w)) (received t w)

  nothing_beyond : (w : ℕ) → length (received t w) ≤ length (received a w) → beyond w ≡ []
  nothing_beyond w long = nil_from_length (beyond w) (omega (arith, long, length-drop (length (received a w)) (received t w)))

  -- the link into a node has handed on all that its parent has
  abbrev pub AllAcked : ℕ → ℕ → Type 0
  AllAcked w u = acked_at t w ≡ length (received t u)

  onwards : (w u : ℕ) → OnPath m node w → parent_at m.parents w ≡ Some u
      → IsPrefix (beyond w) (beyond u) × (AllAcked w u → beyond w ≡ beyond u)
  onwards w u on is_child =
      elim (ahead.links w on) [
        | same link ↦
            let (p, x, at_a) = linked (fixed_at tree m is_middle) a ahead.sound w u is_child in
            let equal : received a w ≡ received t w =
            of_link a w (link_at p x) at_a
            ∙ (ap (λ xs. xs ++ x.delivered) (sym (ahead.openings w on)) ∙ sym (of_link t w (link_at p x) (link ∙ at_a))) in
            let nothing : beyond w ≡ [] = nothing_beyond w (omega (arith, ap length equal)) in (
              subst (λ xs. IsPrefix xs (beyond u)) (sym nothing) (beyond u, refl),
              λ full.
                  let acked : acked_at t w ≡ x.acked = ap (λ o. option_map_or (λ (l : LinkValue). l.state.acked) o 0) (link ∙ at_a) in
                  let few : length x.offered ≤ length (received a u) = offered_few (fixed_at tree m is_middle) a ahead.sound w u p x is_child at_a in
                  let counts : x.acked ≤ length x.offered =
                  acked_few (fixed_at tree m is_middle) p x (known (fixed_at tree m is_middle) a ahead.sound w p x at_a).within in
                  nothing ∙ sym (nothing_beyond u (omega (arith, full, acked, few, counts))),
            )
        | past v p x y child at_a at_t is_past drained all more parted ↦
            let here : v ≡ u = same_Some v u (sym child ∙ is_child) in
            subst (λ q. IsPrefix (beyond w) (beyond q) × (AllAcked w q → beyond w ≡ beyond q)) here
            (let first_on : OnPath s node w = subst (λ ps. Reaches ps node w) to_middle.parents_stay on in
            let first_child : parent_at s.parents w ≡ Some v = ap (λ ps. parent_at ps w) (sym to_middle.parents_stay) ∙ child in
            let (link, there) = has_link tree s is w v first_child in
            let ran = to_middle.links w link first_on there in
            let its : link_at link.params (replay link.params link.state ran.events) ≡ link_at p parted.first =
            same_Some (link_at link.params (replay link.params link.state ran.events)) (link_at p parted.first) (sym ran.now ∙ parted.there) in
            let params : link.params ≡ p = ap (λ (l : LinkValue). l.params) its in
            let (lawful, bounded) = is.bounded w link there in
            let first_is : parted.first ≡ replay p link.state ran.events =
            sym (ap (λ (l : LinkValue). l.state) its) ∙ ap (λ q. replay q link.state ran.events) params in
            let z : LinkState = replay p parted.first parted.together in
            let before : List Event = ran.events ++ parted.together in
            let z_is : replay p link.state (ran.events ++ parted.together) ≡ z =
            replay-append p link.state ran.events parted.together ∙ ap (λ (f : LinkState). replay p f parted.together) (sym first_is) in
            let acked_first : acked_at s w ≡ link.state.acked = ap (λ o. option_map_or (λ (l : LinkValue). l.state.acked) o 0) there in
            let capacity : capacity_at s w ≡ p.capacity =
            ap (λ o. option_map_or (λ (l : LinkValue). l.params.capacity) o 0) there ∙ ap (λ (q : Parameters). q.capacity) params in
            let acked_last : acked_at a w ≡ x.acked = ap (λ o. option_map_or (λ (l : LinkValue). l.state.acked) o 0) at_a in
            let same_count = parted.same_count in
            let many : 2 * p.capacity + 2 ≤ acked_since link.state (replay p link.state (ran.events ++ parted.together)) =
            omega (arith, clean w v first_on first_child, ap (λ (u : LinkState). u.acked) z_is) in
            let (exact, so_far) : GoesOn z.acked x y =
            exact_at p link.state before parted.alone parted.onwards z x y
            (subst AreLawful params lawful) (subst (λ q. IsBounded q link.state) params bounded) many z_is parted.idle parted.x_is parted.y_is
            (is_past.idle ∙ sym same_count) in
            let went = to_end.links w (link_at p parted.first) on parted.there in
            let y_is : y ≡ replay p parted.first went.events =
            ap (λ (l : LinkValue). l.state)
            (same_Some (link_at p y) (link_at p (replay p parted.first went.events)) (sym at_t ∙ went.now)) in
            let n : ℕ = length parted.first.offered in
            let within : length parted.first.offered ≤ length (received m v) = is_middle.within w v (link_at p parted.first) child parted.there in
            let grown = received_grows m es v in
            let offered : IsPrefix y.offered (parted.first.offered ++ drop (length parted.first.offered) (received t v)) =
            subst (λ (u : LinkState). IsPrefix u.offered (parted.first.offered ++ drop (length parted.first.offered) (received t v))) (sym y_is)
            (went.offers v child) in
            let counts : z.acked ≡ length (received a v) = same_count ∙ all in
            let fed : IsPrefix (drop z.acked y.offered) (beyond v) =
            subst (λ k. IsPrefix (drop k y.offered) (beyond v)) (sym counts)
            (subst (λ ys. IsPrefix (drop (length (received a v)) y.offered) ys)
            (dropped_behind parted.first.offered (received t v) (length (received a v)) (omega arith) (omega arith))
            (prefix_dropped (length (received a v)) y.offered (parted.first.offered ++ drop (length parted.first.offered) (received t v)) offered)) in
            let opening : List ℕ = opening_at a.openings w in
            let is_beyond : beyond w ≡ drop (length x.delivered) y.delivered =
            ap₂ (λ xs ys. drop (length xs) ys) (of_link a w (link_at p x) at_a)
            (of_link t w (link_at p y) at_t ∙ ap (λ xs. xs ++ y.delivered) (ahead.openings w on))
            ∙ (ap (λ k. drop k (opening_at a.openings w ++ y.delivered)) (length-append (opening_at a.openings w) x.delivered)
            ∙ drop-past (opening_at a.openings w) y.delivered (length x.delivered)) in
            let front : IsPrefix (beyond w) (beyond v) =
            subst (λ xs. IsPrefix xs (beyond v)) (sym is_beyond)
            (prefix_of_prefix (drop (length x.delivered) y.delivered) (drop z.acked y.offered) (beyond v) exact fed) in (
              front,
              λ full.
                  let acked : acked_at t w ≡ y.acked = ap (λ o. option_map_or (λ (l : LinkValue). l.state.acked) o 0) at_t in
                  whole_front (beyond w) (beyond v) front
                  (omega (arith, full, acked, so_far, counts, ap length is_beyond, length-drop (length (received a v)) (received t v))),
            ))
      ]
    where
      exact_at : (p : Parameters) (f : LinkState) (before alone onwards : List Event) (z x y : LinkState) → AreLawful p → IsBounded p f
          → 2 * p.capacity + 2 ≤ acked_since f (replay p f before) → replay p f before ≡ z → length z.offered ≡ z.acked → x ≡ replay p z alone
          → y ≡ replay p z onwards → length x.offered ≡ z.acked → GoesOn z.acked x y
      exact_at p f before alone onwards z x y lawful bounded many z_is idle x_is y_is all =
          subst (λ (u : LinkState). GoesOn z.acked u y) (sym x_is)
          (subst (λ (v : LinkState). GoesOn z.acked (replay p z alone) v) (sym y_is)
          (subst (λ (u : LinkState). length u.offered ≡ u.acked → length (replay p u alone).offered ≡ u.acked
          → GoesOn u.acked (replay p u alone) (replay p u onwards)) z_is
          (link_onwards exactly p f before alone onwards lawful bounded many)
          idle (ap (λ (u : LinkState). length u.offered) (sym x_is) ∙ all)))

  -- so down the path
  pub beyond_down : (k w : ℕ) → OnPath m node w → ancestor m.parents k w ≡ Some (root_of m.parents)
      → IsPrefix (beyond w) (beyond (root_of m.parents))
  beyond_down zero w on leads =
      subst (λ v. IsPrefix (beyond w) (beyond v)) (same_Some w (root_of m.parents) leads) (prefix_of_itself (beyond w))
  beyond_down (suc k) w on leads =
      elim (none_or_some (parent_at m.parents w)) [
        | inl none ↦ absurd (none-some (root_of m.parents) (sym (ap (λ o. option_and_then (ancestor m.parents k) o) none) ∙ leads))
        | inr (parent, is_child) ↦
            prefix_of_prefix (beyond w) (beyond parent) (beyond (root_of m.parents)) (onwards w parent on is_child).0
            (beyond_down k parent (path_up m node w parent on is_child)
            (sym (ap (λ o. option_and_then (ancestor m.parents k) o) is_child) ∙ leads))
      ]

  -- and all of it, where each link of the path has handed on all
  pub all_beyond : ((w u : ℕ) → OnPath m node w → parent_at m.parents w ≡ Some u → AllAcked w u) → (k w : ℕ) → OnPath m node w
      → ancestor m.parents k w ≡ Some (root_of m.parents) → beyond w ≡ beyond (root_of m.parents)
  all_beyond full zero w on leads = ap beyond (same_Some w (root_of m.parents) leads)
  all_beyond full (suc k) w on leads =
      elim (none_or_some (parent_at m.parents w)) [
        | inl none ↦ absurd (none-some (root_of m.parents) (sym (ap (λ o. option_and_then (ancestor m.parents k) o) none) ∙ leads))
        | inr (parent, is_child) ↦
            (onwards w parent on is_child).1 (full w parent on is_child)
            ∙ all_beyond full k parent (path_up m node w parent on is_child)
            (sym (ap (λ o. option_and_then (ancestor m.parents k) o) is_child) ∙ leads)
      ]
