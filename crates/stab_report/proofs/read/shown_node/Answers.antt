use Rattle.std.proofs.Common.{◌++◌, codes, length, refl, subst, sym}
use Rattle.std.specs.List.{flat_map}
use Rattle.stab_core.specs.Texts.{number_entry, numbers_line}
use Rattle.stab_treecore.specs.Texts.{acked_entry}
use Rattle.stab_report.specs.Lines.{Shows}
use Rattle.stab_report.specs.Texts.{end_entry}
use Rattle.stab_report.proofs.Nodes.{before_acked, first_cut, one_line_first, one_line_items, second_cut, shows_items}
use Rattle.stab_report.proofs.read.shown_node.Goals as goal

pub returns : goal.returns
returns c name depth received acked end rest one items small is =
    let front = before_acked name depth (length received) in
    let first =
    c.cut_line.ensures (front ++ acked_entry acked ++ end_entry end) (numbers_line (codes "items:") received ++ rest)
    (one_line_first name depth (length received) acked end one) (first_cut name depth received acked end c.args.text.now rest is) in
    let second =
    c.cut_line-2.ensures (codes "items:" ++ flat_map number_entry received) rest (one_line_items (codes "items:") received refl)
    (second_cut received c.cut_line.result.1.now rest first.1) in
    let cut = c.cut_end-end.ensures front acked end small first.0 in (
      c.in_ok-items.ensures received
          (subst (λ line. Shows line received) (sym second.0) (shows_items (codes "items:") received refl items)),
      c.count_of.ensures front acked small cut.0,
      cut.1,
      second.1,
    )
