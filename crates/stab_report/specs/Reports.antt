-- A report: what somebody says of each node of a tree, in file order.
-- Example: A root published 7, 8, its child received both, both are acknowledged, and the turns of
-- the child were over before it was shown the close: `received` has 7, 8 twice, `acked` has None and
-- 2, and `ended_upstream` has true and false.
-- Source: this project's own.
use Rattle.std.specs.Prelude.{◌≡◌, ℕ, Bool, false, List, [], length, map, Option, None}
use Rattle.std.specs.Prelude.{slice_index_or}
use Rattle.std.specs.List.{range_with_len}
use Rattle.stab_treecore.specs.WholeTree.{WholeTree, acked_of, received}

-- what each node received, how many items are acknowledged on the link into it, and whether it
-- ended with its upstream
pub record ReportValue : Type 0 where
  pub received : List (List ℕ)
  pub acked : List (Option ℕ)
  pub ended_upstream : List Bool

-- there is one entry per node in each list
pub record OnePerNode (parents : List (Option ℕ)) (r : ReportValue) : Type 0 where
  pub received : length r.received ≡ length parents
  pub acked : length r.acked ≡ length parents
  pub ended_upstream : length r.ended_upstream ≡ length parents

-- what a node received
abbrev pub received_at : ReportValue → ℕ → List ℕ
received_at r node = slice_index_or r.received node []

-- how many items are acknowledged on the link into a node
abbrev pub acked_at : ReportValue → ℕ → Option ℕ
acked_at r node = slice_index_or r.acked node None

-- whether a node ended with its upstream: its upstream was closed, and everything was handed on
abbrev pub has_ended : ReportValue → ℕ → Bool
has_ended r node = slice_index_or r.ended_upstream node false

-- what a schedule leaves, as a report: no node of it ended with its upstream
abbrev pub report_of : WholeTree → ReportValue
report_of t =
    let nodes = range_with_len 0 (length t.parents) in
    record {
      received = map (received t) nodes;
      acked = map (acked_of t) nodes;
      ended_upstream = map (λ node. false) nodes;
    }
