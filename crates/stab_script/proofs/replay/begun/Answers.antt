use Rattle.std.proofs.Common.{◌≡◌, Some, None, sym, ap, ◌∙◌}
use Rattle.stab_frames.specs.Parameters.{fault_of}
use Rattle.stab_script.proofs.replay.begun.Goals as goal

pub returns : goal.returns
returns g c =
    let made = c.in-Ok.ensures.made in
    let params = c.in-Ok.params in
    let lawful : fault_of params.capacity params.labels ≡ None = rw (made.0, made.1) made.2 in (
      params,
      c.in_ok-start.start,
      c.in_ok-capacity.was ∙ ap Some (sym made.0),
      c.in_ok-labels.was ∙ ap Some (sym made.1),
      c.in_ok-start.was,
      lawful,
      c.in-Ok-begin.ensures.lawful,
      c.in-Ok-begin.ensures.begun,
    )
