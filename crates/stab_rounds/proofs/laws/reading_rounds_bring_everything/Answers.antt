use Rattle.std.proofs.Common.{arith}
use Rattle.stab_rounds.specs.Kinds.{reading}
use Rattle.stab_rounds.specs.TreePlayed.{play_reads}
use Rattle.stab_rounds.proofs.Final.{arrives_handed_on, arrives_complete, one_each, reads}
use Rattle.stab_rounds.proofs.PlaysReads.{play_has_reads, reads_are_open}
use Rattle.stab_rounds.proofs.laws.reading_rounds_bring_everything.Goals as goal

pub returns-clause-handed_on : goal.returns-clause-handed_on
returns-clause-handed_on c net capacity rounds child parent is small is_child enough =
    let events = play_reads capacity net.tree.parents rounds in
    arrives_handed_on net is reading 1 (one_each net is) events rounds child parent (reads_are_open net capacity rounds)
    (reads net is rounds events (play_has_reads net is capacity rounds small)) is_child (omega arith)

pub returns-clause-complete : goal.returns-clause-complete
returns-clause-complete c net capacity rounds child parent is small is_child enough =
    let events = play_reads capacity net.tree.parents rounds in
    arrives_complete net is reading 1 (one_each net is) events rounds child parent (reads_are_open net capacity rounds)
    (reads net is rounds events (play_has_reads net is capacity rounds small)) is_child (omega arith) c.every_replay_obeys_the_link_law.ensures
