use Rattle.stab_settings.specs.Refreshes.{reached}
use Rattle.stab_settings.proofs.Suffixes.{below_end, end_within, none_missing_until_end}
use Rattle.stab_settings.proofs.Tables.{same_tables}
use Rattle.std.proofs.Common.{length, arith}
use Rattle.stab_settings.proofs.laws.refreshed_tables_are_the_publishers.Goals as goal

pub returns : goal.returns
returns c reading most_strays most_missing garbage published received law =
    let places = law.0 in
    let half = law.1 in (
      places,
      half,
      λ keys first after at_root at_node refresh earlier later.
          same_tables reading keys most_strays most_missing (reached places) first after garbage published received places at_root at_node
          half (below_end 0 0 places half.taken_picked.rising) (none_missing_until_end most_missing places law.2)
          (end_within (length published) 0 places (omega arith) half.taken_picked.in_list) refresh earlier later,
    )
