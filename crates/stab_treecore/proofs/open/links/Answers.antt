use Rattle.std.proofs.Common.{◌≡◌, ◌+◌, ◌<◌, None, length, map, ap, sym, ◌∙◌, arith}
use Rattle.std.proofs.lemmas.List.{get_or_read, length-map}
use Rattle.stab_core.specs.LinkSetup.{setups}
use Rattle.stab_treecore.specs.TreeReplay.{opened}
use Rattle.stab_core.proofs.Setups.{as_many_setups}
use Rattle.stab_treecore.proofs.Opened.{link_left, opened_none, opened_root, opened_child}
use Rattle.stab_treecore.proofs.open.links.Goals as goal
use Rattle.stab_treecore.proofs.open.links.Goals.{in-None, in-Some+in_ok-link_at-in-Some}

pub loop-parent-init : goal.loop-parent-init
loop-parent-init c =
    let same : length c.args.params.now ≡ length c.args.starts.now = omega arith in (
      c.in_ok-links.ensures.exact,
      c.in_ok-links.ensures.len,
      omega arith,
      rw c.in_ok-links.ensures.items
          (opened_none c.args.parents.now (map opened (setups c.args.params.now c.args.starts.now))
          (length-map (setups c.args.params.now c.args.starts.now) opened ∙ as_many_setups c.args.params.now c.args.starts.now same ∙ c.requires.one_per_link)),
    )

-- where the next node has a parent, its link is still to begin
pub link_at-requires-clause-in_starts : goal.link_at-requires-clause-in_starts
link_at-requires-clause-in_starts c =
    let read = get_or_read c.args.parents.now c.loop-parent.parent-index c.parent-item.result c.loop-parent-test.true c.parent-item.is None in
    let same : length c.args.params.now ≡ length c.args.starts.now = omega arith in
    let left : c.loop-parent.begun < length (map opened (setups c.args.params.now c.args.starts.now)) =
    link_left c.args.parents.now (map opened (setups c.args.params.now c.args.starts.now)) c.loop-parent.links.items c.loop-parent.begun c.loop-parent.parent-index
    c.loop-parent.invariant.3 c.loop-parent-test.true c.in-Some.field-0 (sym read ∙ c.in-Some.is) in
    omega (arith, left, length-map (setups c.args.params.now c.args.starts.now) opened, as_many_setups c.args.params.now c.args.starts.now same)

pub link_at-requires-clause-in_params : goal.link_at-requires-clause-in_params
link_at-requires-clause-in_params c =
    let read = get_or_read c.args.parents.now c.loop-parent.parent-index c.parent-item.result c.loop-parent-test.true c.parent-item.is None in
    let same : length c.args.params.now ≡ length c.args.starts.now = omega arith in
    let left : c.loop-parent.begun < length (map opened (setups c.args.params.now c.args.starts.now)) =
    link_left c.args.parents.now (map opened (setups c.args.params.now c.args.starts.now)) c.loop-parent.links.items c.loop-parent.begun c.loop-parent.parent-index
    c.loop-parent.invariant.3 c.loop-parent-test.true c.in-Some.field-0 (sym read ∙ c.in-Some.is) in
    omega (arith, left, length-map (setups c.args.params.now c.args.starts.now) opened, as_many_setups c.args.params.now c.args.starts.now same)

pub loop-parent-preserved : goal.loop-parent-preserved
loop-parent-preserved c =
    let read = get_or_read c.args.parents.now c.loop-parent.parent-index c.parent-item.result c.loop-parent-test.true c.parent-item.is None in
    let all = map opened (setups c.args.params.now c.args.starts.now) in
    elim c.match-parent.branch [
      | in-None w ↦ (
        rw w.links-is (w.push_reserved.ensures.capacity ∙ c.loop-parent.invariant.0),
        rw w.links-is (w.push_reserved.ensures.len ∙ ap (λ n. n + 1) c.loop-parent.invariant.1),
        rw w.begun-is (omega (arith, c.loop-parent.invariant.2)),
        rw (w.links-is, w.begun-is, w.push_reserved.ensures.items)
            (opened_root c.args.parents.now all c.loop-parent.links.items c.loop-parent.begun c.loop-parent.parent-index
            c.loop-parent.invariant.3 c.loop-parent-test.true (sym read ∙ w.in-None.is)),
      )
      | in-Some+in_ok-link_at-in-Some w ↦ (
        rw w.links-is (w.push_reserved-in-Some.ensures.capacity ∙ c.loop-parent.invariant.0),
        rw w.links-is (w.push_reserved-in-Some.ensures.len ∙ ap (λ n. n + 1) c.loop-parent.invariant.1),
        rw w.begun-is (omega (arith, c.loop-parent.invariant.2)),
        rw (w.links-is, w.begun-is, w.push_reserved-in-Some.ensures.items)
            (opened_child c.args.parents.now all c.loop-parent.links.items c.loop-parent.begun c.loop-parent.parent-index
            c.loop-parent.invariant.3 c.loop-parent-test.true w.in-Some.field-0 w.in_ok-link_at-in-Some.field-0 (sym read ∙ w.in-Some.is)
            w.in_ok-link_at-in-Some.ensures.link),
      )
    ]
