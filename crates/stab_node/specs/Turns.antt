-- Which turns a worker made, by what is known of each turn that its gate let begin.
-- Example: Of 10 turns, where the worker ended as Turns, each of 1 to 10 was let begin; where it
-- ended as Upstream, each of 1 to some number from 1 to 10. Where the gate refused turn 3,
-- `IsRefused` asks that turn 3 may be refused and that 1 and 2 were let begin.
-- Source: this project's profile.
use Rattle.std.specs.Prelude.{◌≤◌, ◌<◌, ℕ}
use Rattle.stab_node.specs.declared.account.Ended.{Ended}
use Rattle.stab_node.specs.declared.account.Ended.TheVariants.{Upstream, Turns}

-- each turn up to this one was let begin; turns count from 1
abbrev pub HavePassed : (ℕ → Type 0) → ℕ → Type 0
HavePassed has_passed last = (turn : ℕ) → 1 ≤ turn → turn ≤ last → has_passed turn

-- a worker whose turns are over made them all, and any other made at least one
abbrev pub IsOver : (ℕ → Type 0) → ℕ → Ended → Type 0
IsOver has_passed turns Turns = HavePassed has_passed turns
IsOver has_passed turns Upstream =
    (last : ℕ) × (1 ≤ last) × (last ≤ turns) × HavePassed has_passed last

-- each turn before this one was let begin
abbrev pub HavePassedBefore : (ℕ → Type 0) → ℕ → Type 0
HavePassedBefore has_passed end = (turn : ℕ) → 1 ≤ turn → turn < end → has_passed turn

-- some turn was refused, and each before it was let begin
abbrev pub IsRefused : (ℕ → Type 0) → (ℕ → Type 0) → ℕ → Type 0
IsRefused has_passed may_refuse turns =
    (turn : ℕ) × (1 ≤ turn) × (turn ≤ turns) × may_refuse turn
    × HavePassedBefore has_passed turn
