use Rattle.std.proofs.Common.{◌≡◌, ◌≤◌, ◌∙◌, false, refl, ap, sym, arith}
use Rattle.stab_core.specs.declared.event.Event.TheVariants.{Offer, SendFrame, RecvFrame, SendAck, RecvAck}
use Rattle.stab_core.specs.Link.{LinkValue, link_at}
use Rattle.stab_core.specs.LinkState.{LinkState}
use Rattle.stab_core.specs.Replay.{replay}
use Rattle.stab_core.specs.Step.{step}
use Rattle.stab_rounds.specs.Played.{reading_round_with}
use Rattle.stab_rounds.proofs.Played.{on_event, on_times, read_state, told_state, read_in_parts, reading_round_with_count, link_within}
use Rattle.stab_rounds.proofs.link.apply_reading_round.Goals as goal

pub returns-clause-replay : goal.returns-clause-replay
returns-clause-replay c =
    let p = c.args.link.now.params in
    let s = c.args.link.now.state in
    let n = c.capacity-capacity.result in
    let s1 : LinkState = step p s (Offer c.args.item) in
    let read : LinkState = read_state p s n c.args.item in
    let s3 : LinkState = step p read SendFrame in
    let s4 : LinkState = step p s3 (RecvFrame false) in
    let told : LinkState = told_state p read n in
    let offered_now = on_event p s (Offer c.args.item) refl c.in_ok-apply.ensures.steps.0 in
    let read_now = on_times p s1 n (RecvFrame false) offered_now c.in_ok-apply_times.ensures in
    let sent_now = on_event p read SendFrame read_now c.in_ok-apply-2.ensures.steps.0 in
    let taken_now = on_event p s3 (RecvFrame false) sent_now c.in_ok-apply-3.ensures.steps.0 in
    let told_now = on_times p s4 n (RecvAck false) taken_now c.in_ok-apply_times-2.ensures in
    let answered_now = on_event p told SendAck told_now c.in_ok-apply-4.ensures.steps.0 in
    let heard_now = on_event p (step p told SendAck) (RecvAck false) answered_now c.in_ok-apply-5.ensures.steps.0 in
    heard_now ∙ ap (link_at p) (sym (read_in_parts p s n c.args.item))
    ∙ ap (λ k. link_at p (replay p s (reading_round_with k c.args.item)))
    (c.capacity-capacity.ensures.capacity ∙ ap (λ q. q.capacity) (sym c.requires.own))

pub returns-clause-acked : goal.returns-clause-acked
returns-clause-acked c is_open =
    let p = c.args.link.now.params in
    let s = c.args.link.now.state in
    let own : c.args.params.capacity ≡ p.capacity = ap (λ q. q.capacity) (sym c.requires.own) in
    let some : 1 ≤ p.capacity = (let e = c.capacity-capacity.ensures.lawful.some_capacity in omega arith) in
    let ended : c.apply-5.new.self.state ≡ replay p s (reading_round_with p.capacity c.args.item) =
    ap (λ (l : LinkValue). l.state) (returns-clause-replay c) in
    let brought = c.reading_rounds_bring_acknowledgements.ensures p s (reading_round_with p.capacity c.args.item) some
    (link_within p s c.frame_count-frames.ensures.fit c.ack_count-acks.ensures.fit
    c.acked-waits.ensures.were_offered c.acked-waits.ensures.one_waits_at_most)
    (ap (λ (t : LinkState). t.closed) (sym ended) ∙ is_open) in
    omega (arith, ap (λ (t : LinkState). t.acked) ended, reading_round_with_count p.capacity c.args.item)
