use Rattle.std.proofs.Common.{◌≡◌, ◌+◌, ◌-◌, ◌*◌, ◌≤◌, ◌∙◌, ap, sym, arith}
use Rattle.stab_core.specs.Link.{LinkValue}
use Rattle.stab_core.specs.LinkState.{LinkState}
use Rattle.stab_core.specs.Replay.{replay}
use Rattle.stab_rounds.specs.Rounds.{rounds_of}
use Rattle.stab_rounds.specs.Played.{round_with, rounds_with}
use Rattle.stab_rounds.proofs.Played.{link_within, rounds_left, rounds_with_count}
use Rattle.stab_rounds.proofs.link.pass_on.Goals as goal

pub rounds-preserved : goal.rounds-preserved
rounds-preserved c =
    let p = c.args.link.now.params in
    let item = c.args.item in
    let rounds = 2 * c.capacity.result + 1 in
    let later = rounds_with item (rounds - (c.rounds._done + 1)) in (
      ap (λ (l : LinkValue). l.params) c.in_ok-apply_round.ensures ∙ c.rounds.invariant.0,
      ap (λ (l : LinkValue). replay p l.state later) c.in_ok-apply_round.ensures
          ∙ ap (λ q. replay p (replay q c.rounds.link.state (round_with item)) later) c.rounds.invariant.0
          ∙ sym (rounds_left p c.rounds.link.state item rounds c.rounds._done c.rounds-test.true) ∙ c.rounds.invariant.1,
    )

pub returns-clause-acked : goal.returns-clause-acked
returns-clause-acked c is_open =
    let p = c.args.link.now.params in
    let s = c.args.link.now.state in
    let rounds = 2 * p.capacity + 1 in
    let own : c.args.params.capacity ≡ p.capacity = ap (λ q. q.capacity) (sym c.requires.own) in
    let some : 1 ≤ p.capacity = (let e = c.capacity.ensures.lawful.some_capacity in omega arith) in
    let ended : c.rounds.link.state ≡ replay p s (rounds_with c.args.item rounds) =
    ap (λ n. replay p c.rounds.link.state (rounds_with c.args.item n))
    (let none : 0 ≡ 2 * c.capacity.result + 1 - c.rounds._done = omega (arith, c.rounds-test.false) in none)
    ∙ c.rounds.invariant.1
    ∙ ap (λ k. replay p s (rounds_with c.args.item (2 * k + 1))) (c.capacity.ensures.capacity ∙ own) in
    let enough : rounds * 1 ≤ rounds_of (rounds_with c.args.item rounds) = omega (arith, rounds_with_count c.args.item rounds) in
    let brought = c.rounds_bring_acknowledgements.ensures p s (rounds_with c.args.item rounds) 1 some
    (link_within p s c.frame_count-frames.ensures.fit c.ack_count-acks.ensures.fit
    c.acked-waits.ensures.were_offered c.acked-waits.ensures.one_waits_at_most)
    (ap (λ (t : LinkState). t.closed) (sym ended) ∙ is_open) enough in
    omega (arith, ap (λ (t : LinkState). t.acked) ended)
