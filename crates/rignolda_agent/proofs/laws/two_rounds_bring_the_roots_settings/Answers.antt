use Rattle.std.proofs.Common.{length, map, ap, arith, ◌∙◌}
use Rattle.std.proofs.Math.Seq.{take-length}
use Rattle.rignolda_agent.proofs.Promise.{promise}
use Rattle.rignolda_agent.proofs.laws.two_rounds_bring_the_roots_settings.Goals as goal

pub returns : goal.returns
returns c reading most_strays most_missing garbage published received bodies first round later table agent at_root law alike =
    promise reading most_strays most_missing (length published) garbage published received law.0 bodies first round later table agent at_root
    law.1 law.1.taken_picked.in_list law.2 (omega arith) (ap (map reading) (take-length published) ∙ alike)
