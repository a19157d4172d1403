-- For a crate in which more happens to a whole tree than acts: facts on its links and lists, and on
-- laws of nodes.
pub use Rattle.stab_treecore.proofs.AtNodes.{sum_above-add}
pub use Rattle.stab_treecore.proofs.Happened.{CameOf, came_of, chosen, differ, happened_at, same_kinds, unchosen}
pub use Rattle.stab_treecore.proofs.Linked.{kind-set, same_kind}
pub use Rattle.stab_treecore.proofs.Members.{enough_before}
pub use Rattle.stab_treecore.proofs.Replayed.{IsOpenedAt, IsRun, opening_is_run}
pub use Rattle.stab_treecore.proofs.Stepped.{act_offers, after_delivers}
pub use Rattle.stab_treecore.proofs.Upwards.{larger_bounds, law_below, law_past_opening, root_law}
pub use Rattle.stab_treecore.proofs.Upwards.{sharper_below, sharper_larger, sharper_past_opening, sharper_root}
