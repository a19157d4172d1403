use Rattle.std.proofs.Common.{◌+◌, ◌*◌}
use Rattle.stab_rounds.specs.Kinds.{plain}
use Rattle.stab_rounds.specs.TreePlayed.{play}
use Rattle.stab_rounds.proofs.Final.{arrives_handed_on, arrives_complete, capacity_few, plain_rounds}
use Rattle.stab_rounds.proofs.Plays.{play_has_rounds, play_is_open}
use Rattle.stab_rounds.proofs.laws.rounds_bring_everything.Goals as goal

pub returns-clause-handed_on : goal.returns-clause-handed_on
returns-clause-handed_on c net capacity rounds child parent is small is_child enough =
    let few = capacity_few net is capacity small in
    let events = play net.tree.parents rounds in
    arrives_handed_on net is plain (2 * capacity + 1) few events rounds child parent (play_is_open net rounds)
    (plain_rounds net is (2 * capacity + 1) few rounds events (play_has_rounds net.tree.parents rounds)) is_child enough

pub returns-clause-complete : goal.returns-clause-complete
returns-clause-complete c net capacity rounds child parent is small is_child enough =
    let few = capacity_few net is capacity small in
    let events = play net.tree.parents rounds in
    arrives_complete net is plain (2 * capacity + 1) few events rounds child parent (play_is_open net rounds)
    (plain_rounds net is (2 * capacity + 1) few rounds events (play_has_rounds net.tree.parents rounds)) is_child enough
    c.every_replay_obeys_the_link_law.ensures
