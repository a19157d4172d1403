use Rattle.std.proofs.Common.{◌≡◌, Some, sym, ap, ◌∙◌}
use Rattle.std.proofs.lemmas.Slice.Eq.{bytes_eq-Decides}
use Rattle.stab_job.proofs.names.Names.is_at.Goals as goal

pub returns : goal.returns
returns c =
    λ yes.
    let same : c.at.result.now ≡ c.args.name.now = (bytes_eq-Decides c.at.result.now c.args.name.now).0 (sym c.eq.ensures ∙ yes) in
    c.at.ensures ∙ ap Some same
