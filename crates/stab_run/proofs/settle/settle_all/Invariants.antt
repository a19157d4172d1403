use Rattle.std.proofs.Common.{◌≡◌, All, length, map, vec_len, vec_capacity}
use Rattle.std.specs.List.{AllZip}
use Rattle.stab_run.specs.AnyLinks.{HasReceived, HasSent, IsFollowed, IsOneOf, given_to, received_by, sent_by}
use Rattle.stab_run.specs.LinkRuns.{AllOfEach}
use Rattle.stab_run.proofs.Settlements.{SettledSoFar}
use Rattle.stab_run.proofs.settle.settle_all.Given as goal

-- the links into the nodes so far are settled, the finished ends that are left are those of the
-- links that are left, and there is room for all counts
abbrev pub invariant-nodes : goal.invariant-nodes
invariant-nodes l = record {
  room : vec_capacity l.acked ≡ length l.tree.parents;
  number : vec_len l.acked ≡ l.place;
  so_far : SettledSoFar l.tree.parents (map given_to l.fn.links.items) (map sent_by l.fn.sends.items)
      (map received_by l.fn.recvs.items) l.acked.items (map given_to l.links.items) (map sent_by l.sends.items)
      (map received_by l.recvs.items) l.place;
  followed : AllOfEach IsFollowed l.links.items l.sends.items l.recvs.items
      → AllOfEach IsFollowed l.fn.links.items l.fn.sends.items l.fn.recvs.items;
  one_of : All (λ link. IsOneOf l.fn.which link) l.links.items;
  senders : AllZip HasSent l.links.items l.sends.items;
  receivers : AllZip HasReceived l.links.items l.recvs.items;
}
