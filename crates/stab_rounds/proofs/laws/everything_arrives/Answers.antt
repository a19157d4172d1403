use Rattle.std.proofs.Common.{◌+◌, ◌*◌}
use Rattle.stab_rounds.specs.Kinds.{plain}
use Rattle.stab_rounds.proofs.Final.{arrives_handed_on, arrives_complete, arrives_for_good, capacity_few, plain_rounds}
use Rattle.stab_rounds.proofs.laws.everything_arrives.Goals as goal

pub returns-clause-handed_on : goal.returns-clause-handed_on
returns-clause-handed_on c net events capacity rounds child parent is small is_open is_rounds is_child enough =
    let few = capacity_few net is capacity small in
    arrives_handed_on net is plain (2 * capacity + 1) few events rounds child parent is_open
    (plain_rounds net is (2 * capacity + 1) few rounds events is_rounds) is_child enough

pub returns-clause-complete : goal.returns-clause-complete
returns-clause-complete c net events capacity rounds child parent is small is_open is_rounds is_child enough =
    let few = capacity_few net is capacity small in
    arrives_complete net is plain (2 * capacity + 1) few events rounds child parent is_open
    (plain_rounds net is (2 * capacity + 1) few rounds events is_rounds) is_child enough c.every_replay_obeys_the_link_law.ensures

pub returns-clause-for_good : goal.returns-clause-for_good
returns-clause-for_good c net events more capacity rounds child parent is small is_open is_rounds is_child enough =
    let few = capacity_few net is capacity small in
    arrives_for_good net is plain (2 * capacity + 1) few events rounds child parent is_open
    (plain_rounds net is (2 * capacity + 1) few rounds events is_rounds) is_child enough more
