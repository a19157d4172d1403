use Rattle.std.proofs.Common.{arith}
use Rattle.stab_rounds.specs.Kinds.{reading}
use Rattle.stab_rounds.proofs.Final.{arrives_handed_on, arrives_complete, arrives_for_good, one_each, reads}
use Rattle.stab_rounds.proofs.laws.everything_arrives_where_all_is_read.Goals as goal

pub returns-clause-handed_on : goal.returns-clause-handed_on
returns-clause-handed_on c net events rounds child parent is is_open is_rounds is_child enough =
    arrives_handed_on net is reading 1 (one_each net is) events rounds child parent is_open (reads net is rounds events is_rounds) is_child (omega arith)

pub returns-clause-complete : goal.returns-clause-complete
returns-clause-complete c net events rounds child parent is is_open is_rounds is_child enough =
    arrives_complete net is reading 1 (one_each net is) events rounds child parent is_open (reads net is rounds events is_rounds) is_child (omega arith)
    c.every_replay_obeys_the_link_law.ensures

pub returns-clause-for_good : goal.returns-clause-for_good
returns-clause-for_good c net events more rounds child parent is is_open is_rounds is_child enough =
    arrives_for_good net is reading 1 (one_each net is) events rounds child parent is_open (reads net is rounds events is_rounds) is_child (omega arith) more
