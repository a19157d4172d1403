use Rattle.std.proofs.Common.{◌++◌, ◌∙◌, ap, sym, Some, None}
use Rattle.std.proofs.lemmas.Bool.Decides.{Decides-eqb}
use Rattle.std.proofs.lemmas.Slice.Eq.{strip_suffix_is}
use Rattle.stab_report.proofs.Endings.{cut_nothing, cut_turns, cut_upstream}
use Rattle.stab_report.proofs.lines.cut_end.Goals as goal

pub returns-in-Some : goal.returns-in-Some
returns-in-Some c front acked end small is =
    cut_upstream c.args.line.now front acked small end c.in-Some.counts.now is
    (strip_suffix_is Decides-eqb c.args.line.now c.as_slice.result.now (Some c.in-Some.counts) c.in-Some.ensures.cases
    ∙ ap (λ text. c.in-Some.counts.now ++ text) c.as_slice.ensures)

pub returns-in-Some-strip_suffix : goal.returns-in-Some-strip_suffix
returns-in-Some-strip_suffix c front acked end small is =
    cut_turns c.args.line.now front acked small end c.in-Some-strip_suffix.counts.now is
    (strip_suffix_is Decides-eqb c.args.line.now c.as_slice-2.result.now (Some c.in-Some-strip_suffix.counts)
    c.in-Some-strip_suffix.ensures.cases
    ∙ ap (λ text. c.in-Some-strip_suffix.counts.now ++ text) c.as_slice-2.ensures)

pub returns-in-None : goal.returns-in-None
returns-in-None c front acked end small is =
    cut_nothing c.args.line.now front acked small end is
    (λ rest cut.
    strip_suffix_is Decides-eqb c.args.line.now c.as_slice.result.now None c.in_default.ensures.cases rest
    (cut ∙ sym (ap (λ text. rest ++ text) c.as_slice.ensures)))
    (λ rest cut.
    strip_suffix_is Decides-eqb c.args.line.now c.as_slice-2.result.now None c.in-None.ensures.cases rest
    (cut ∙ sym (ap (λ text. rest ++ text) c.as_slice-2.ensures)))
