use Rattle.std.proofs.Common.{◌≡◌, ◌++◌, length, map}
use Rattle.std.specs.List.{filter_map}
use Rattle.std.specs.Vec.Iter.{into_iter_items, into_iter_len}
use Rattle.stab_node.proofs.columns.take_apart.Given as goal

-- each column so far, and then that of the other accounts, is the column of all
abbrev pub invariant-loop-account : goal.invariant-loop-account
invariant-loop-account g l = record {
  received : l.columns.received.items ++ map (λ a. a.received.items) (into_iter_items l.account-iterator) ≡ map (λ a. a.received.items) l.fn.accounts.items;
  ended : l.columns.ended.items ++ map (λ a. a.ended) (into_iter_items l.account-iterator) ≡ map (λ a. a.ended) l.fn.accounts.items;
  recvs : l.columns.recvs.items ++ filter_map (λ a. a.up) (into_iter_items l.account-iterator) ≡ filter_map (λ a. a.up) l.fn.accounts.items;
  downs : l.columns.downs.items ++ map (λ a. a.downs.items) (into_iter_items l.account-iterator) ≡ map (λ a. a.downs.items) l.fn.accounts.items;
  left : into_iter_len l.account-iterator ≡ length (into_iter_items l.account-iterator);
}
