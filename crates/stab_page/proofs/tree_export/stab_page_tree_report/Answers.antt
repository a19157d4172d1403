use Rattle.std.proofs.Common.{map}
use Rattle.stab_page.specs.TreeCodes.{openings_of, setup_of, tree_event_of}
use Rattle.stab_page.proofs.tree_export.stab_page_tree_report.Goals as goal

pub returns-then-not-is_accepted-clause-states : goal.returns-then-not-is_accepted-clause-states
returns-then-not-is_accepted-clause-states c =
    λ tree same.
    c.every_tree_obeys_the_tree_law.ensures.states tree (openings_of c.args.hold c.args.openings.now) (map setup_of c.args.links.now) c.args.published.now (map tree_event_of c.args.events.now)

pub returns-clause-states : goal.returns-clause-states
returns-clause-states c =
    λ tree same.
    c.every_tree_obeys_the_tree_law.ensures.states tree (openings_of c.args.hold c.args.openings.now) (map setup_of c.args.links.now) c.args.published.now (map tree_event_of c.args.events.now)

pub returns-then-not-is_accepted-clause-law : goal.returns-then-not-is_accepted-clause-law
returns-then-not-is_accepted-clause-law c =
    λ tree same is.
    c.every_tree_obeys_the_tree_law.ensures.law tree (openings_of c.args.hold c.args.openings.now) (map setup_of c.args.links.now) c.args.published.now (map tree_event_of c.args.events.now) is

pub returns-clause-law : goal.returns-clause-law
returns-clause-law c =
    λ tree same is.
    c.every_tree_obeys_the_tree_law.ensures.law tree (openings_of c.args.hold c.args.openings.now) (map setup_of c.args.links.now) c.args.published.now (map tree_event_of c.args.events.now) is
