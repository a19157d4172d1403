-- What a run of workers answers, and what it says of the nodes as a report.
-- Example: Where the first of two nodes ended as Upstream and the second as Turns, the report says
-- true of the first and false of the second.
-- Source: this project's profile.
use Rattle.std.specs.Prelude.{◌≡◌, ℕ, Bool, true, false, List, length, map, Option, None}
use Rattle.std.specs.Prelude.{slice_index_or}
use Rattle.stab_node.specs.declared.account.Ended.{Ended}
use Rattle.stab_node.specs.declared.account.Ended.TheVariants.{Upstream, Turns}
use Rattle.stab_run.specs.LinkKinds.{LinkKind}
use Rattle.stab_report.specs.Reports.{ReportValue}

-- by node in file order: what it received, how many items are acknowledged on the link into it, and
-- why its worker made no further turn; and in file order of the children the kind of each link
pub record Reported : Type 0 where
  pub received : List (List ℕ)
  pub acked : List (Option ℕ)
  pub ended : List Ended
  pub kinds : List LinkKind

-- there is one entry per node in each list
pub record OnePerNode (parents : List (Option ℕ)) (r : Reported) : Type 0 where
  pub received : length r.received ≡ length parents
  pub acked : length r.acked ≡ length parents
  pub ended : length r.ended ≡ length parents

-- how many items are acknowledged on the link into a node; the root has none
abbrev pub acked_at : List (Option ℕ) → ℕ → Option ℕ
acked_at acked node = slice_index_or acked node None

-- the worker ended with its upstream
abbrev pub is_upstream : Ended → Bool
is_upstream Upstream = true
is_upstream Turns = false

-- what it says of each node: its text is that of this report
abbrev pub as_report : Reported → ReportValue
as_report r =
    record { received = r.received; acked = r.acked; ended_upstream = map is_upstream r.ended }
