use Rattle.std.proofs.Common.{rules, option_map}
use Rattle.stab_node.proofs.UnderWay.{upper_served}
use Rattle.stab_node.proofs.upstream.serve_upstream.Goals as goal

pub returns-in_err-ended-clause-under_way : goal.returns-in_err-ended-clause-under_way
returns-in_err-ended-clause-under_way g c = λ initial downs way.
    upper_served initial c.args.received.now.items c.take_from.new.received.items c.args.ended.now c.args.ended.now
    (option_map g.U.RecvSide.received c.args.up.now) (option_map g.U.RecvSide.received c.take_from.new.up) downs
    (c.take_from.ensures.received initial) c.take_from.ensures.prefixes
    (record { upstream = λ is. search (rules, is) }) way

pub returns-in_ok-ended-clause-under_way : goal.returns-in_ok-ended-clause-under_way
returns-in_ok-ended-clause-under_way g c = λ initial downs way.
    upper_served initial c.args.received.now.items c.take_from.new.received.items c.args.ended.now c.in_ok-ended.field-0
    (option_map g.U.RecvSide.received c.args.up.now) (option_map g.U.RecvSide.received c.take_from.new.up) downs
    (c.take_from.ensures.received initial) c.take_from.ensures.prefixes
    c.in_ok-ended.ensures.ended way
