use Rattle.std.proofs.Common.{◌≡◌, ◌∙◌, arith, inl, inr, map, option_map, subst, ℕ}
use Rattle.std.proofs.lemmas.Bool.{cases_lt}
use Rattle.stab_node.specs.Turns.{HavePassed, HavePassedBefore}
use Rattle.stab_node.proofs.UnderWay.{out_by_upstream, out_by_turns}
use Rattle.stab_node.proofs.worker.take_turns.Goals as goal

-- where each turn before one was let begin, and that one was, each up to it was
one_more : (has_passed : ℕ → Type 0) (last : ℕ) → HavePassedBefore has_passed last → has_passed last → HavePassed has_passed last
one_more has_passed last before passed = λ turn above upto.
    elim (cases_lt turn last) [
      | inl earlier ↦ before turn above earlier
      | inr not_earlier ↦
          let same : last ≡ turn = omega (arith, not_earlier, upto) in
          subst has_passed same passed
    ]

pub turns-preserved : goal.turns-preserved
turns-preserved g c =
    let before = c.turns.invariant in (
      λ initial begun. c.make_turn.ensures.under_way initial (before.0 initial begun),
      c.make_turn.ensures.upper_link ∙ before.1,
      c.make_turn.ensures.lower_links ∙ before.2,
      λ turn above below.
          one_more (g.G.Gate.has_passed c.args.gate.now c.args.node) c.turns.turn before.3
          (c.pass.ensures.passed c.if-not-pass.false) turn above (omega (arith, below)),
      λ in_use. c.make_turn.ensures.in_use (before.4 in_use),
    )

pub returns-then-not-pass-clause-refused : goal.returns-then-not-pass-clause-refused
returns-then-not-pass-clause-refused g c = λ _.
    (c.turns.turn, c.turns.auto.turn, c.turns-test.true, c.pass.ensures.refused c.if-not-pass.true, c.turns.invariant.3)

pub returns-then-branch-clause-turns : goal.returns-then-branch-clause-turns
returns-then-branch-clause-turns g c = (
  c.turns.turn,
  c.turns.auto.turn,
  c.turns-test.true,
  one_more (g.G.Gate.has_passed c.args.gate.now c.args.node) c.turns.turn c.turns.invariant.3
      (c.pass.ensures.passed c.if-not-pass.false),
)

pub returns-then-branch-clause-under_way : goal.returns-then-branch-clause-under_way
returns-then-branch-clause-under_way g c = λ initial begun.
    let on = c.in_ok-make_turn.ensures.handed_on c.if-branch.true in
    out_by_upstream initial c.make_turn.new.received.items c.make_turn.new.upstream_ended
    (option_map g.U.RecvSide.received c.make_turn.new.up) (map g.D.SendSide.sent c.make_turn.new.downs)
    on.0 on.1
    (c.make_turn.ensures.under_way initial (c.turns.invariant.0 initial begun))

pub returns-else-branch-clause-under_way : goal.returns-else-branch-clause-under_way
returns-else-branch-clause-under_way g c = λ initial begun.
    out_by_turns initial c.make_turn.new.received.items c.make_turn.new.upstream_ended
    (option_map g.U.RecvSide.received c.make_turn.new.up) (map g.D.SendSide.sent c.make_turn.new.downs)
    (c.make_turn.ensures.under_way initial (c.turns.invariant.0 initial begun))

pub returns-then-branch-clause-offers : goal.returns-then-branch-clause-offers
returns-then-branch-clause-offers g c = λ initial begun in_use.
    c.in_ok-make_turn.ensures.offers initial (c.turns.invariant.0 initial begun) (c.turns.invariant.4 in_use)

pub returns-else-branch-clause-offers : goal.returns-else-branch-clause-offers
returns-else-branch-clause-offers g c = λ initial begun in_use.
    c.in_ok-make_turn.ensures.offers initial (c.turns.invariant.0 initial begun) (c.turns.invariant.4 in_use)
