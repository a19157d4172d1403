use Rattle.std.proofs.Common.{◌++◌, codes, length}
use Rattle.stab_core.specs.Texts.{numbers_line}
use Rattle.stab_treecore.specs.Texts.{acked_entry}
use Rattle.stab_report.specs.Texts.{end_entry}
use Rattle.stab_report.proofs.Nodes.{before_acked, first_cut, one_line_first}
use Rattle.stab_report.proofs.read.first_end.Goals as goal

pub returns : goal.returns
returns c name depth received acked end rest one small is =
    let front = before_acked name depth (length received) in
    let cut =
    c.cut_line.ensures (front ++ acked_entry acked ++ end_entry end) (numbers_line (codes "items:") received ++ rest)
    (one_line_first name depth (length received) acked end one) (first_cut name depth received acked end c.args.text.now rest is) in
    (c.cut_end-end.ensures front acked end small cut.0).1
