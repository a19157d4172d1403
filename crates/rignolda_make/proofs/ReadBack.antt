-- Bytes whose value has the four members of a link job are read as this job.
use Rattle.std.proofs.Common.{◌≡◌, ◌≤◌, ◌+◌, ◌*◌, ℕ, suc, List, [], ◌∷◌, length, Option, Some, None, Ok, IsUtf8, codes, min, refl, ap, ◌∙◌, arith, option_and_then}
use Rattle.std.proofs.lemmas.Bool.{le-ltb}
use Rattle.std.proofs.lemmas.Str.{is_utf8-from_IsUtf8}
use Rattle.serde_json.specs.Data.{Data, Items, no_items, item, number, unsigned}
use Rattle.serde_json.specs.Find.{as_array, get}
use Rattle.serde_json.specs.Read.{read}
use Rattle.stab_frames.specs.Parameters.{Parameters, AreLawful, fault_of}
use Rattle.stab_core.specs.declared.event.Event.{Event}
use Rattle.stab_script.specs.declared.link_job.LinkJob.{LinkJob}
use Rattle.stab_json.specs.Values.{count, entries, list_of, value_of}
use Rattle.stab_script.specs.Events.{event}
use Rattle.stab_script.specs.LinkJobs.{link_job, most_events}
use Rattle.stab_script.specs.Starts.{start}

-- a value that is a list, each entry of which is an event
record Listed (o : Option Items) (events : List Event) : Type 0 where
  items : Items
  is : o ≡ Some items
  meant : entries event items ≡ Some events

listed_items : (o : Option Items) (events : List Event) → option_and_then (entries event) o ≡ Some events → Listed o events
listed_items None events is = cc
listed_items (Some items) events is = record { items = items; is = refl; meant = is }

listed : (o : Option Data) (events : List Event) → option_and_then (list_of event) o ≡ Some events → Listed (option_and_then as_array o) events
listed None events is = cc
listed (Some d) events is = listed_items (as_array d) events is

same_length : {X : Type 0} (xs ys : List X) → Some xs ≡ Some ys → length xs ≡ length ys
same_length xs ys is = let equal : xs ≡ ys = cc in ap length equal

-- there are as many entries as they mean
counted : {X : Type 0} (first : Option X) (rest : Option (List X)) (n : ℕ) (all : List X) → ((xs : List X) → rest ≡ Some xs → n ≡ length xs)
    → option_and_then (λ x. option_and_then (λ xs. Some (x ∷ xs)) rest) first ≡ Some all → suc n ≡ length all
counted None rest n all so_far is = cc
counted (Some x) None n all so_far is = cc
counted (Some x) (Some xs) n all so_far is = ap suc (so_far xs refl) ∙ same_length (x ∷ xs) all is

count_meant : {X : Type 0} (meaning : Data → Option X) (items : Items) (xs : List X) → entries meaning items ≡ Some xs → count items ≡ length xs
count_meant meaning no_items xs is = same_length [] xs is
count_meant meaning (item d ds) xs is = counted (meaning d) (entries meaning ds) (count ds) xs (count_meant meaning ds) is

-- lawful parameters pass their checks
no_fault : (p : Parameters) → AreLawful p → fault_of p.capacity p.labels ≡ None
no_fault p lawful =
    rw (
      le-ltb p.capacity 1 lawful.some_capacity,
      le-ltb 64 p.capacity lawful.small_capacity,
      le-ltb p.labels (2 * p.capacity + 2) lawful.enough_labels,
      le-ltb 1000 p.labels lawful.few_labels,
    )
    refl

at_most : (limit n : ℕ) → n ≤ limit → min limit n ≡ n
at_most limit n within = omega (arith, within)

pub reads_as : (bytes : List ℕ) (d : Data) (job : LinkJob) → IsUtf8 bytes → read bytes ≡ Some d → AreLawful job.params
    → get (codes "capacity") d ≡ Some (number (unsigned job.params.capacity))
    → get (codes "labels") d ≡ Some (number (unsigned job.params.labels))
    → option_and_then start (get (codes "start") d) ≡ Some job.start
    → option_and_then (list_of event) (get (codes "events") d) ≡ Some job.events
    → length job.events ≤ most_events
    → link_job bytes ≡ Ok job
reads_as bytes d job is_text reads lawful capacity labels its_start its_events few =
    let events = listed (get (codes "events") d) job.events its_events in
    let many : count events.items ≤ most_events = omega (arith, few, count_meant event events.items job.events events.meant) in
    let value : value_of bytes ≡ Some d = rw (is_utf8-from_IsUtf8 bytes is_text) reads in
    rw value (rw capacity (rw labels (rw its_start (rw events.is (
    rw (at_most 65535 job.params.capacity (omega (arith, lawful.small_capacity)), at_most 65535 job.params.labels (omega (arith, lawful.few_labels)))
    (rw (no_fault job.params lawful) (rw (le-ltb most_events (count events.items) many) (rw events.meant refl))))))))
