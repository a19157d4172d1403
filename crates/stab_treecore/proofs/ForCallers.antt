-- For the crates above: facts on texts that have one part per node, and on all places of a list; and
-- the tree law from a parent to its child, with any bounds of the link, and on along a path.
pub use Rattle.stab_treecore.proofs.AtNodes.{each_adds}
pub use Rattle.stab_treecore.proofs.Lines.{next_place}
pub use Rattle.stab_treecore.proofs.Root.{all_places, all_below, all_items, all_picked, all_there, length_all}
pub use Rattle.stab_treecore.proofs.Upwards.{larger_bounds, law_below, law_past_opening, within_below}
