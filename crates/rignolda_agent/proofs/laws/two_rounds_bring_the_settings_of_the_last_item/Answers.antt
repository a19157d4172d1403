use Rattle.std.proofs.Common.{length, arith}
use Rattle.stab_settings.specs.Refreshes.{reached}
use Rattle.stab_settings.proofs.Suffixes.{below_end, end_within, none_missing_until_end}
use Rattle.rignolda_agent.proofs.Promise.{promise}
use Rattle.rignolda_agent.proofs.laws.two_rounds_bring_the_settings_of_the_last_item.Goals as goal

pub returns : goal.returns
returns c reading most_strays most_missing garbage published received law =
    let places = law.0 in
    let half = law.1 in (
      places,
      half,
      λ bodies first round later table agent at_root.
          promise reading most_strays most_missing (reached places) garbage published received places bodies first round later table agent at_root
          half (below_end 0 0 places half.taken_picked.rising) (none_missing_until_end most_missing places law.2)
          (end_within (length published) 0 places (omega arith) half.taken_picked.in_list),
    )
