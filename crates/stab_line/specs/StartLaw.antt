-- The link law of a start: the link law with what this very start has under way in place of the
-- capacity. Who begins with less has fewer strays, and misses less.
-- Source: this project's own.
use Rattle.std.specs.Prelude.{ℕ, ◌+◌, List, length}
use Rattle.stab_core.specs.declared.start.Start.{Start}
use Rattle.stab_core.specs.LinkLaw.{HalfLawAt, NoneMissingFrom}
use Rattle.stab_core.specs.Replay.{start_items}

-- There are at most as many strays as the start has frames. Of the acknowledged items only some are
-- missing among as many as the start has acknowledgements, one, and one for each stray that was
-- delivered.
abbrev pub LinkLawOfStart : Start → List ℕ → ℕ → List ℕ → Type 0
LinkLawOfStart start offered acked delivered =
    (places : List ℕ)
    × (half : HalfLawAt (length start.frames) (start_items start) offered acked delivered places)
    × NoneMissingFrom (length start.acks + 1 + length half.strays) acked places
