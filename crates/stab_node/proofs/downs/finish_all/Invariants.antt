use Rattle.std.proofs.Common.{◌≡◌, ◌≤◌, ◌+◌, ◌++◌, length, map}
use Rattle.std.specs.Vec.{vec_capacity}
use Rattle.std.specs.Vec.Iter.{into_iter_items}
use Rattle.stab_node.proofs.downs.finish_all.Given as goal

-- the ends that are finished come before those that are not, and there is room for all
abbrev pub invariant-each : goal.invariant-each
invariant-each g l =
    (map g.D.SendSide.done_sent l.dones.items
    ++ map g.D.SendSide.sent (into_iter_items l.down-iterator)
    ≡ map g.D.SendSide.sent l.fn.downs.items)
    × (map g.D.SendSide.done_link l.dones.items
    ++ map g.D.SendSide.link (into_iter_items l.down-iterator)
    ≡ map g.D.SendSide.link l.fn.downs.items)
    × (length l.dones.items + length (into_iter_items l.down-iterator) ≤ vec_capacity l.dones)
