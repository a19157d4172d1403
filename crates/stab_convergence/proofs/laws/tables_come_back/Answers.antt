use Rattle.std.proofs.Common.{ap, ◌∙◌}
use Rattle.stab_treecore.specs.Moment.{fewest_since, garbage_since, published_since, strays_since}
use Rattle.stab_treecore.specs.Since.{gained, moment}
use Rattle.stab_settings.specs.Tables.{apply_items}
use Rattle.stab_convergence.proofs.laws.tables_come_back.Goals as goal

pub returns : goal.returns
returns c reading keys s m t node first after at_root at_node has refresh earlier enough =
    let (places, half, few, at_most) = has.sharper in (
      has.later,
      has.exact enough,
      λ key in_use.
          ap (λ items. apply_items reading at_node items key) has.parts
          ∙ c.complete_tables_are_the_publishers.ensures reading keys (strays_since (moment s) node) (fewest_since (moment s) node) first after
          (garbage_since (moment s) node) (published_since (moment s) (gained s m) node) has.front has.later at_root at_node (places, half, at_most)
          refresh earlier key in_use,
    )
