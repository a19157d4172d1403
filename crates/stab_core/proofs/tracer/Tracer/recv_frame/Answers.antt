use Rattle.std.proofs.Common.{◌≡◌, false, length, ap, sym, ◌∙◌, rules}
use Rattle.stab_core.specs.Link.{LinkValue}
use Rattle.stab_core.specs.Step.{after_front}
use Rattle.stab_core.proofs.Tracing.{received_in_pace}
use Rattle.stab_core.proofs.tracer.Tracer.recv_frame.Goals.{then-not-keep, else-not-keep}
use Rattle.stab_core.proofs.tracer.Tracer.recv_frame.Goals as goal

pub invariant_of-self-in_default : goal.invariant_of-self-in_default
invariant_of-self-in_default c =
    let before = c.self.inside in
    let steps = c.in_ok-effect.ensures.steps.0 in
    let is_open : before.link.state.closed ≡ false = search rules in
    let capacity : before.queued.capacity ≡ c.apply.new.self.params.capacity =
    c.self.invariant.capacity ∙ sym (ap (λ (link : LinkValue). link.params.capacity) steps) in
    let pace : length (after_front c.args.keep before.queued.entries) ≡ length c.apply.new.self.state.frames =
    received_in_pace before.link.params c.args.keep before.link.state c.apply.new.self before.queued.entries is_open
    steps c.self.invariant.pace in
    elim c.if-not-keep.branch [
      | then-not-keep w ↦
          rw (w.self-inside-is, w.take.ensures.queue) (record { capacity = capacity; pace = rw w.if-not-keep.true at pace })
      | else-not-keep w ↦ rw w.self-inside-is (record { capacity = capacity; pace = rw w.if-not-keep.false at pace })
    ]
