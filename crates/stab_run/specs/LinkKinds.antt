-- The kinds of links: with a lock, and of two words; and which links of a run are of which kind.
-- Example: In a run over both kinds, a link of capacity 1 is of two words, and one of capacity 2
-- has a lock. A run over words has no link of capacity 2.
-- Source: this project's own.
use Rattle.std.specs.Prelude.{◌≡◌, ◌==◌, ◌≢◌, List, All, if◌then◌else◌}
use Rattle.stab_frames.specs.Parameters.{Parameters}
use Rattle.stab_core.specs.LinkSetup.{LinkSetup}
use Rattle.stab_run.specs.declared.links.Links.{Links}
use Rattle.stab_run.specs.declared.links.Links.TheVariants.{Locked, Words, Mixed}

-- a link is a state behind a lock, or it is two words
pub data LinkKind : Type 0 where
  behind_lock : LinkKind
  two_words : LinkKind

-- the kind of a link with these parameters in a run over these links
abbrev pub kind_for : Links → Parameters → LinkKind
kind_for Locked p = behind_lock
kind_for Words p = two_words
kind_for Mixed p = if p.capacity == 1 then two_words else behind_lock

-- a run over words is of links that all have the capacity one
abbrev pub HaveOnePlace : Links → List Parameters → Type 0
HaveOnePlace Words params = All (λ p. p.capacity ≡ 1) params
HaveOnePlace links params = Unit {0}

-- a link with this setup is behind a lock in a run over these links
abbrev pub IsLocked : Links → LinkSetup → Type 0
IsLocked links link = kind_for links link.params ≡ behind_lock

-- the capacity of the link is not one
abbrev pub IsLarge : LinkSetup → Type 0
IsLarge link = link.params.capacity ≢ 1
