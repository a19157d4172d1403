use Rattle.std.proofs.Common.{◌+◌, ◌-◌, ◌∙◌, ap, sym, replicate}
use Rattle.stab_core.specs.Link.{LinkValue}
use Rattle.stab_core.specs.Replay.{replay}
use Rattle.stab_core.specs.Step.{step}
use Rattle.stab_rounds.proofs.Played.{times_left}
use Rattle.stab_rounds.proofs.link.apply_times.Goals as goal

pub times-preserved : goal.times-preserved
times-preserved c =
    let p = c.args.link.now.params in
    let e = c.args.event in
    let stepped = c.in_ok-apply.ensures.steps.0 in (
      ap (λ (l : LinkValue). l.params) stepped ∙ c.times.invariant.0,
      ap (λ (l : LinkValue). replay p l.state (replicate (c.args.times - (c.times._done + 1)) e)) stepped
          ∙ ap (λ q. replay p (step q c.times.link.state e) (replicate (c.args.times - (c.times._done + 1)) e)) c.times.invariant.0
          ∙ sym (times_left p c.times.link.state e c.args.times c.times._done c.times-test.true) ∙ c.times.invariant.1,
    )
