-- What is asked of the state of a link, and what is said of it: that it obeys, or which part of it
-- is broken, with its lists.
-- Example: A link job of capacity 1 offers 10 and 11, and its start has a frame with the item 99. A
-- state in which 10 and 11 are offered, 1 is acknowledged and 99, 10 are delivered obeys. With the
-- offered items 11, 10 the text has three lines: `the offered items are not among those that the
-- job offers, in its order`, `the job offers: 10 11` and `offered: 11 10`.
-- Source: this project's own; numbers are in plain decimal, as std prints them.
use Rattle.std.specs.Prelude.{◌≡◌, ◌⊎◌, ℕ, Bool, true, false, List, [], ◌∷◌, ◌++◌, codes, decimal}
use Rattle.std.specs.List.{flat_map}
use Rattle.stab_core.specs.LinkLaw.{SharperLinkLaw}
use Rattle.stab_core.specs.LinkState.{LinkState}
use Rattle.stab_core.specs.Replay.{start_items}
use Rattle.stab_core.specs.Texts.{numbers_line}
use Rattle.stab_core.specs.declared.event.Event.{Event}
use Rattle.stab_core.specs.declared.event.Event.TheVariants.{Offer}
use Rattle.stab_judge.specs.Judged.{IsPicked}
use Rattle.stab_script.specs.declared.link_job.LinkJob.{LinkJob}

-- the item that an event offers, where it offers one
abbrev pub offer_of : Event → List ℕ
offer_of (Offer item) = item ∷ []
offer_of _ = []

-- the items that these events offer, in their order
abbrev pub offers_of : List Event → List ℕ
offers_of events = flat_map offer_of events

-- what was offered is picked from what the job offers
abbrev pub AreOffered : LinkJob → LinkState → Type 0
AreOffered job s = IsPicked s.offered (offers_of job.events)

-- the lists and the count obey the sharper link law
abbrev pub ObeysLaw : LinkJob → LinkState → Type 0
ObeysLaw job s =
    SharperLinkLaw job.params.capacity (start_items job.start) s.offered s.acked s.delivered

-- a link of this job may be in this state; its labels and its queues may be any
pub record ObeysLink (job : LinkJob) (s : LinkState) : Type 0 where
  pub offered : AreOffered job s
  pub law : ObeysLaw job s

-- an item is offered that the job does not offer, or not in this place
unfoldable pub offered_text : List ℕ → List ℕ → List ℕ
offered_text offers offered =
    codes "the offered items are not among those that the job offers, in its order\n"
    ++ numbers_line (codes "the job offers:") offers ++ numbers_line (codes "offered:") offered

-- the link law of this capacity
unfoldable pub capacity_words : ℕ → List ℕ
capacity_words capacity = codes "the link law of capacity " ++ decimal capacity

-- it is broken, with `acked` items acknowledged
unfoldable pub acked_words : ℕ → List ℕ
acked_words acked =
    codes " is broken, with " ++ decimal acked ++ codes " items acknowledged\n"

-- the items of the frames at the start, the offered and the delivered items
unfoldable pub law_lists : List ℕ → List ℕ → List ℕ → List ℕ
law_lists frames offered delivered =
    numbers_line (codes "frames:") frames ++ numbers_line (codes "offered:") offered
    ++ numbers_line (codes "delivered:") delivered

-- the link law is broken, with its lists
unfoldable pub law_text : ℕ → List ℕ → LinkState → List ℕ
law_text capacity frames s =
    capacity_words capacity ++ acked_words s.acked ++ law_lists frames s.offered s.delivered

-- the text says that the state obeys, or that its offered items do not, or else its lists
abbrev pub SaysLinkVerdict : LinkJob → LinkState → Bool → List ℕ → Type 0
SaysLinkVerdict job s true text = text ≡ codes "obeys\n"
SaysLinkVerdict job s false text =
    (¬ AreOffered job s × (text ≡ offered_text (offers_of job.events) s.offered))
    ⊎ (AreOffered job s × ¬ ObeysLaw job s
    × (text ≡ law_text job.params.capacity (start_items job.start) s))
