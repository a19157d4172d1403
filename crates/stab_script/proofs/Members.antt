-- A member that was read is put among the others, which stay as they are.
use Rattle.std.proofs.Common.{◌≡◌, ◌≢◌, ◌≤◌, ℕ, List, get_or, Option, Some, None, codes, ap, ◌∙◌, arith}
use Rattle.serde_json.specs.Data.{Data, Items, Members, array, object, put}
use Rattle.serde_json.specs.Find.{get_member, as_array}
use Rattle.serde_json.proofs.Views.{get_member-put, get_member-put_other}
use Rattle.stab_core.specs.declared.event.Event.{Event}
use Rattle.stab_core.specs.declared.start.Start.{Start}
use Rattle.stab_frames.specs.declared.frame.Frame.{Frame}
use Rattle.stab_json.specs.Values.{◌>>=◌, most_u16, capped, label, list_of, list_or_absent, count, entries}
use Rattle.stab_script.specs.Events.{event}
use Rattle.stab_script.specs.LinkJobs.{most_events}
use Rattle.stab_script.specs.Starts.{frame, start}
use Rattle.stab_script.specs.Members.{Holds, HoldsEvents, HasStart, HasJob, HasNoOthers, IsOther}

-- the names of an object's members begin with different letters
abbrev Apart : List ℕ → List ℕ → Type 0
Apart q k = get_or q 0 0 ≡ get_or k 0 0 → ⊥

stays : (q k : List ℕ) (d : Data) (ms : Members) → Apart q k → get_member q (put k d ms) ≡ get_member q ms
stays q k d ms apart = get_member-put_other q k d ms (λ same. apart (ap (λ s. get_or s 0 0) same))

-- a member of a link job that is put among such members leaves no others
still_no_others : (k : List ℕ) (d : Data) (ms : Members) → ((name : List ℕ) → IsOther name → name ≢ k) → HasNoOthers (object ms) → HasNoOthers (object (put k d ms))
still_no_others k d ms apart none = λ name other. get_member-put_other name k d ms (apart name other) ∙ none name other

-- what was read of the events stays as well
events_hold_on : (k : List ℕ) (d : Data) (ms : Members) (read : Option (Option (List Event))) → Apart (codes "events") k → HoldsEvents ms read → HoldsEvents (put k d ms) read
events_hold_on k d ms None apart h = stays (codes "events") k d ms apart ∙ h
events_hold_on k d ms (Some events) apart h = (h.0, ap (λ o. o >>= as_array) (stays (codes "events") k d ms apart) ∙ h.1, h.2, h.3)

module _ {X : Type 0} (meaning : Data → Option X) where
  put_there : (k : List ℕ) (d : Data) (ms : Members) (x : X) → meaning d ≡ Some x → Holds meaning k (put k d ms) (Some x)
  put_there k d ms x is = ap (λ o. o >>= meaning) (get_member-put k d ms) ∙ is

  holds_on : (q k : List ℕ) (d : Data) (ms : Members) (read : Option X) → Apart q k → Holds meaning q ms read → Holds meaning q (put k d ms) read
  holds_on q k d ms None apart h = stays q k d ms apart ∙ h
  holds_on q k d ms (Some x) apart h = ap (λ o. o >>= meaning) (stays q k d ms apart) ∙ h

  list_put : (k : List ℕ) (d : Data) (ms : Members) (xs : List X) → list_of meaning d ≡ Some xs → list_or_absent meaning (get_member k (put k d ms)) ≡ Some xs
  list_put k d ms xs is = ap (list_or_absent meaning) (get_member-put k d ms) ∙ is

  list_stays : (q k : List ℕ) (d : Data) (ms : Members) (xs : List X) → Apart q k → list_or_absent meaning (get_member q ms) ≡ Some xs → list_or_absent meaning (get_member q (put k d ms)) ≡ Some xs
  list_stays q k d ms xs apart h = ap (list_or_absent meaning) (stays q k d ms apart) ∙ h

-- the members of a start
module _ (frames : List Frame) (acks : List ℕ) (send recv : Option ℕ) (d : Data) (ms : Members) (has : HasStart frames acks send recv ms) where
  pub has_frames : (xs : List Frame) → list_of frame d ≡ Some xs → HasStart xs acks send recv (put (codes "frames") d ms)
  has_frames xs is = (
    list_put frame (codes "frames") d ms xs is,
    list_stays label (codes "acks") (codes "frames") d ms acks (λ e. omega (arith, e)) has.1,
    holds_on label (codes "send") (codes "frames") d ms send (λ e. omega (arith, e)) has.2,
    holds_on label (codes "recv") (codes "frames") d ms recv (λ e. omega (arith, e)) has.3,
  )

  pub has_acks : (xs : List ℕ) → list_of label d ≡ Some xs → HasStart frames xs send recv (put (codes "acks") d ms)
  has_acks xs is = (
    list_stays frame (codes "frames") (codes "acks") d ms frames (λ e. omega (arith, e)) has.0,
    list_put label (codes "acks") d ms xs is,
    holds_on label (codes "send") (codes "acks") d ms send (λ e. omega (arith, e)) has.2,
    holds_on label (codes "recv") (codes "acks") d ms recv (λ e. omega (arith, e)) has.3,
  )

  pub has_send : (x : ℕ) → label d ≡ Some x → HasStart frames acks (Some x) recv (put (codes "send") d ms)
  has_send x is = (
    list_stays frame (codes "frames") (codes "send") d ms frames (λ e. omega (arith, e)) has.0,
    list_stays label (codes "acks") (codes "send") d ms acks (λ e. omega (arith, e)) has.1,
    put_there label (codes "send") d ms x is,
    holds_on label (codes "recv") (codes "send") d ms recv (λ e. omega (arith, e)) has.3,
  )

  pub has_recv : (x : ℕ) → label d ≡ Some x → HasStart frames acks send (Some x) (put (codes "recv") d ms)
  has_recv x is = (
    list_stays frame (codes "frames") (codes "recv") d ms frames (λ e. omega (arith, e)) has.0,
    list_stays label (codes "acks") (codes "recv") d ms acks (λ e. omega (arith, e)) has.1,
    holds_on label (codes "send") (codes "recv") d ms send (λ e. omega (arith, e)) has.2,
    put_there label (codes "recv") d ms x is,
  )

-- the members of a link job
module _ (capacity labels : Option ℕ) (its_start : Option Start) (events : Option (Option (List Event))) (d : Data) (ms : Members) (has : HasJob capacity labels its_start events ms) where
  pub has_capacity : (x : ℕ) → capped most_u16 d ≡ Some x → HasJob (Some x) labels its_start events (put (codes "capacity") d ms)
  has_capacity x is = (
    put_there (capped most_u16) (codes "capacity") d ms x is,
    holds_on (capped most_u16) (codes "labels") (codes "capacity") d ms labels (λ e. omega (arith, e)) has.1,
    holds_on start (codes "start") (codes "capacity") d ms its_start (λ e. omega (arith, e)) has.2,
    events_hold_on (codes "capacity") d ms events (λ e. omega (arith, e)) has.3,
    still_no_others (codes "capacity") d ms (λ name other. other.0) has.4,
  )

  pub has_labels : (x : ℕ) → capped most_u16 d ≡ Some x → HasJob capacity (Some x) its_start events (put (codes "labels") d ms)
  has_labels x is = (
    holds_on (capped most_u16) (codes "capacity") (codes "labels") d ms capacity (λ e. omega (arith, e)) has.0,
    put_there (capped most_u16) (codes "labels") d ms x is,
    holds_on start (codes "start") (codes "labels") d ms its_start (λ e. omega (arith, e)) has.2,
    events_hold_on (codes "labels") d ms events (λ e. omega (arith, e)) has.3,
    still_no_others (codes "labels") d ms (λ name other. other.1) has.4,
  )

  pub has_start : (x : Start) → start d ≡ Some x → HasJob capacity labels (Some x) events (put (codes "start") d ms)
  has_start x is = (
    holds_on (capped most_u16) (codes "capacity") (codes "start") d ms capacity (λ e. omega (arith, e)) has.0,
    holds_on (capped most_u16) (codes "labels") (codes "start") d ms labels (λ e. omega (arith, e)) has.1,
    put_there start (codes "start") d ms x is,
    events_hold_on (codes "start") d ms events (λ e. omega (arith, e)) has.3,
    still_no_others (codes "start") d ms (λ name other. other.2) has.4,
  )

  pub has_events : (ds : Items) (xs : Option (List Event)) → d ≡ array ds → count ds ≤ most_events → entries event ds ≡ xs → HasJob capacity labels its_start (Some xs) (put (codes "events") d ms)
  has_events ds xs list few is = (
    holds_on (capped most_u16) (codes "capacity") (codes "events") d ms capacity (λ e. omega (arith, e)) has.0,
    holds_on (capped most_u16) (codes "labels") (codes "events") d ms labels (λ e. omega (arith, e)) has.1,
    holds_on start (codes "start") (codes "events") d ms its_start (λ e. omega (arith, e)) has.2,
    (ds, ap (λ o. o >>= as_array) (get_member-put (codes "events") d ms) ∙ ap as_array list, few, is),
    still_no_others (codes "events") d ms (λ name other. other.3) has.4,
  )
