use Rattle.rignolda_scenario.proofs.Tabled.{placed_act, placed_strike, placed_restart}
use Rattle.rignolda_scenario.proofs.named.placed.Goals as goal

pub returns-in-Some-clause-named : goal.returns-in-Some-clause-named
returns-in-Some-clause-named c =
    let found = rw c.in-Some.is at c.in_ok-place-in-Act.ensures.place in
    rw c.in-Act.is (placed_act c.place.new.self c.in-Some.place c.in-Act.name.now found c.in-Act.act)

pub returns-in-Some-2-clause-named : goal.returns-in-Some-2-clause-named
returns-in-Some-2-clause-named c =
    let found = rw c.in-Some-2.is at c.in_ok-place-in-Strike.ensures.place in
    rw c.in-Strike.is (placed_strike c.place-in-Strike.new.self c.in-Some-2.place c.in-Strike.name.now found c.in-Strike.start)

pub returns-in-Some-3-clause-named : goal.returns-in-Some-3-clause-named
returns-in-Some-3-clause-named c =
    let found = rw c.in-Some-3.is at c.in_ok-place-in-Restart.ensures.place in
    rw c.in-Restart.is (placed_restart c.place-in-Restart.new.self c.in-Some-3.place c.in-Restart.name.now found c.in-Restart.items)
