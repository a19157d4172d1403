use Rattle.stab_c.proofs.Backlogs.{none_just_where_all}
use Rattle.stab_c.proofs.laws.no_backlog_is_the_whole_list.Goals as goal

pub returns : goal.returns
returns c = none_just_where_all
