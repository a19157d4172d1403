use Rattle.std.proofs.Common.{◌∙◌, ◌≢◌, sym}
use Rattle.stab_report.specs.Texts.{IsNoReport, IsNoText, IsNoTree}
use Rattle.stab_report.specs.declared.fault.ReportFault.TheVariants.{Memory}
use Rattle.stab_report.proofs.Reading.{ended_is_no_tree, of_each_too, unended_is_no_report}
use Rattle.stab_report.proofs.read.read_text.Goals as goal

pub returns-then-is_some-clause-refused : goal.returns-then-is_some-clause-refused
returns-then-is_some-clause-refused c =
    of_each_too c.read_report.result (λ fault. fault ≢ Memory) (IsNoReport c.args.tree.now c.args.text.now)
    (IsNoText c.args.tree.now c.args.text.now)
    (λ no_report. (
      no_report,
      ended_is_no_tree c.args.tree.now c.args.text.now c.first_end.result c.root-tree.ensures.tree c.first_end.ensures
          (sym c.is_some.ensures ∙ c.if-is_some.true),
    ))
    c.read_report.ensures.refused

pub returns-else-is_some-clause-refused : goal.returns-else-is_some-clause-refused
returns-else-is_some-clause-refused c =
    of_each_too c.read_tree_text.result (λ fault. fault ≢ Memory) (IsNoTree c.args.tree.now c.args.text.now)
    (IsNoText c.args.tree.now c.args.text.now)
    (λ no_tree. (
      unended_is_no_report c.args.tree.now c.args.text.now c.first_end.result c.root-tree.ensures.tree c.first_end.ensures
          (sym c.is_some.ensures ∙ c.if-is_some.false),
      no_tree,
    ))
    c.read_tree_text.ensures.refused
