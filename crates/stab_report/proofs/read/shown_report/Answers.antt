use Rattle.std.proofs.Common.{◌+◌, ◌-◌, ◌<◌, ◌∙◌, [], None, false, ap, arith, get_or, length, unwrap_or}
use Rattle.std.specs.List.{flat_map, range_with_len}
use Rattle.stab_report.specs.Reports.{acked_at, received_at}
use Rattle.stab_tree.specs.Steps.{depth_of}
use Rattle.stab_report.specs.Texts.{end_at, lines_at}
use Rattle.stab_report.proofs.Reading.{lines_here, one_line_at, one_more}
use Rattle.stab_report.proofs.read.shown_report.Goals as goal

pub nodes-preserved : goal.nodes-preserved
nodes-preserved c =
    let nodes = c.args.tree.now in
    let i = c.nodes.counter in
    let inv = c.nodes.invariant in (
      c.push_reserved.ensures.capacity ∙ inv.0,
      c.push_reserved-in-nodes.ensures.capacity ∙ inv.1,
      c.push_reserved-in-nodes-2.ensures.capacity ∙ inv.2,
      c.push_reserved.ensures.len ∙ ap (λ n. n + 1) inv.3,
      c.push_reserved-in-nodes.ensures.len ∙ ap (λ n. n + 1) inv.4,
      c.push_reserved-in-nodes-2.ensures.len ∙ ap (λ n. n + 1) inv.5,
      λ r says_so print.
          let so_far = inv.6 r says_so print in
          let within : i < length nodes.parents = omega (arith, c.nodes-test.true, c.len-end.ensures.value) in
          let shown =
          c.in_ok-items.ensures (get_or nodes.names i []) (depth_of nodes.parents i) (received_at r i) (acked_at r i) (end_at r says_so i)
          (flat_map (lines_at nodes r says_so) (range_with_len (i + 1) (length nodes.parents - (i + 1))))
          (one_line_at nodes.names i c.root-tree.ensures.tree.lawful_names)
          (print.printable.items i [] (omega (arith, within, print.entries.received)))
          (print.printable.counts i None (omega (arith, within, print.entries.acked)))
          (lines_here nodes c.args.text.now r says_so i c.nodes.rest.now within so_far.0) in (
            shown.3,
            one_more (received_at r) i c.nodes.received.items c.push_reserved.new.self.items c.in_ok-items.items
                c.push_reserved.ensures.items so_far.1 shown.0,
            one_more (acked_at r) i c.nodes.acked.items c.push_reserved-in-nodes.new.self.items c.in_ok-items.count
                c.push_reserved-in-nodes.ensures.items so_far.2 shown.1,
            one_more (λ node. unwrap_or (end_at r says_so node) false) i c.nodes.ended_upstream.items c.push_reserved-in-nodes-2.new.self.items
                c.unwrap_or.result c.push_reserved-in-nodes-2.ensures.items so_far.3
                (c.unwrap_or.ensures ∙ ap (λ told. unwrap_or told false) shown.2),
          ),
    )
