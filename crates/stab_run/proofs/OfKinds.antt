-- Links by their kinds: what a run over them asks of their capacities.
use Rattle.std.proofs.Common.{◌≡◌, ◌==◌, ◌<◌, ℕ, List, [], ◌∷◌, if◌then◌else◌, length, get_or, sym, subst}
use Rattle.std.proofs.lemmas.List.Elements.{All-cons, All-nil}
use Rattle.stab_frames.specs.Parameters.{Parameters}
use Rattle.stab_core.specs.LinkSetup.{LinkSetup}
use Rattle.stab_run.specs.LinkKinds.{HaveOnePlace, IsLarge, IsLocked, LinkKind, behind_lock, two_words}
use Rattle.stab_run.specs.declared.links.Links.{Links}
use Rattle.stab_run.specs.declared.links.Links.TheVariants.{Locked, Words, Mixed}

-- where the parameters of all links have the capacity that a run asks for, so have those of one
pub one_of_all : (links : Links) (params : List Parameters) (place : ℕ) (p : Parameters) → place < length params → p ≡ get_or params place p
    → HaveOnePlace links params → HaveOnePlace links (p ∷ [])
one_of_all Locked params place p within is all = tt
one_of_all Mixed params place p within is all = tt
one_of_all Words params place p within is all =
    All-cons (λ (q : Parameters). q.capacity ≡ 1) p [] (subst (λ (q : Parameters). q.capacity ≡ 1) (sym is) (all place p within))
    (All-nil (λ (q : Parameters). q.capacity ≡ 1))

-- two words are no lock
abbrev pub IsWord : LinkKind → Type 0
IsWord two_words = Unit {0}
IsWord behind_lock = ⊥

-- a run over words has no lock, and in one over both kinds the capacity of a link with a lock is
-- not one
pub no_lock_of_words : (link : LinkSetup) → ¬ IsLocked Words link
no_lock_of_words link is = subst IsWord is tt

pub locked_is_large : (link : LinkSetup) → IsLocked Mixed link → IsLarge link
locked_is_large link is one = subst IsWord (subst (λ n. (if n == 1 then two_words else behind_lock) ≡ behind_lock) one is) tt
