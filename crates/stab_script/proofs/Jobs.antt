-- A start and a link job, by the members that were read.
use Rattle.std.proofs.Common.{◌≡◌, ℕ, ◌-◌, ◌<◌, List, [], ◌∷◌, length, Option, Some, None, MatchOption, Ok, Err, IsSome, IsUtf8, option_and_then, option_map, refl, sym, arith}
use Rattle.std.proofs.lemmas.Bool.{le-ltb}
use Rattle.std.proofs.lemmas.Str.{is_utf8-from_IsUtf8}
use Rattle.json.specs.Token.{Token}
use Rattle.json.specs.Lex.{lex, punctuate, tokens}
use Rattle.json.specs.Json as json
use Rattle.serde_json.specs.Data.{Data, Members, no_members, object}
use Rattle.serde_json.specs.Read.{of_json}
use Rattle.stab_core.specs.declared.event.Event.{Event}
use Rattle.stab_core.specs.declared.start.Start.{Start}
use Rattle.stab_frames.specs.declared.frame.Frame.{Frame}
use Rattle.stab_frames.specs.Parameters.{Parameters, fault_of}
use Rattle.stab_frames.specs.declared.params.ParamsFault.{ParamsFault}
use Rattle.stab_json.specs.Values.{value_of, count}
use Rattle.stab_script.specs.Starts.{start}
use Rattle.stab_script.specs.LinkJobs.{link_job, most_events}
use Rattle.stab_script.specs.LinkMembers.{LinkMembers}
use Rattle.stab_script.specs.LinkMembers as link
use Rattle.stab_script.specs.declared.link_job.LinkJob.{LinkJob}
use Rattle.stab_script.specs.declared.link_job.LinkJobFault.{LinkJobFault}
use Rattle.stab_script.proofs.LinkChecks.{all_pass}
use Rattle.stab_script.specs.Standing.{Stands, MeansWithin, MembersMake}
use Rattle.stab_script.specs.Members.{in_job, in_member, HasStart, HasJob, job_with}
use Rattle.stab_script.proofs.Standing.{an_object}

-- a start, by its members
pub a_start : (depth : ℕ) (ts rest : List Token) (frames : List Frame) (acks : List ℕ) (s r : ℕ) (ms : Members) → 0 < depth → MembersMake (depth - 1) no_members (length ts) ts ms rest → HasStart frames acks (Some s) (Some r) ms
    → MeansWithin depth start (Token.begin_object ∷ ts) (record { frames = frames; acks = acks; send_label = s; recv_label = r }) rest
a_start depth ts rest frames acks s r ms some inside has = (object ms, an_object depth ts rest ms some inside, rw has.0 (rw has.1 (rw has.2 (rw has.3 refl))))

-- where the members are those of a start, both of its labels were read
pub labels_read : (frames : List Frame) (acks : List ℕ) (send recv : Option ℕ) (ms : Members) → HasStart frames acks send recv ms → IsSome (start (object ms)) → IsSome send × IsSome recv
labels_read frames acks None recv ms has means = let never = rw (has.0, has.1, has.2) at means in absurd (cc)
labels_read frames acks (Some s) None ms has means = let never = rw (has.0, has.1, has.2, has.3) at means in absurd (cc)
labels_read frames acks (Some s) (Some r) ms has means = (refl, refl)

-- the value of a text whose tokens it takes up whole
pub whole_text : (bytes : List ℕ) (d : Data) → IsUtf8 bytes → Stands in_job (tokens bytes) d [] → Some d ≡ value_of bytes
whole_text bytes d is_text first =
    let reads : option_and_then of_json (option_and_then (λ p. json.if_last p.0 p.1) (json.value in_job (tokens bytes))) ≡ Some d = rw first.1 first.2 in
    rw (is_utf8-from_IsUtf8 bytes is_text) (sym reads)

members_are : (ms : Members) (c l : ℕ) (s : Start) (events : Option (List Event)) (has : HasJob (Some c) (Some l) (Some s) (Some events) ms)
    → Some (record { capacity = c; labels = l; start = s; events = has.3.0 }) ≡ link.members (object ms)
members_are ms c l s events has = rw has.0 (rw has.1 (rw has.2 (rw has.3.1 refl)))

module _ (bytes : List ℕ) (ms : Members) (params : Parameters) (its_start : Start) (is_text : IsUtf8 bytes) (first : Stands in_job (tokens bytes) (object ms) []) where
  -- the job of a text, by its members
  pub a_job : (events : List Event) → HasJob (Some params.capacity) (Some params.labels) (Some its_start) (Some (Some events)) ms → fault_of params.capacity params.labels ≡ None
      → link_job bytes ≡ Ok (job_with params its_start events)
  a_job events has lawful =
      let m : LinkMembers = record { capacity = params.capacity; labels = params.labels; start = its_start; events = has.3.0 } in
      all_pass bytes (object ms) m params events (whole_text bytes (object ms) is_text first) (members_are ms params.capacity params.labels its_start (Some events) has)
      refl refl lawful has.3.2 (sym has.3.3)

  -- the fault of a text whose members are those of a job, but for an entry that is no event
  pub a_bad_event : HasJob (Some params.capacity) (Some params.labels) (Some its_start) (Some None) ms → fault_of params.capacity params.labels ≡ None → link_job bytes ≡ Err LinkJobFault.Event
  a_bad_event has lawful =
      rw (← whole_text bytes (object ms) is_text first)
      (rw (← members_are ms params.capacity params.labels its_start None has) (rw lawful (rw (le-ltb most_events (count has.3.0) has.3.2) (rw has.3.3 refl))))

  -- the job of a text in the plain form, or its fault
  pub a_plain_job : (events : Option (List Event)) → HasJob (Some params.capacity) (Some params.labels) (Some its_start) (Some events) ms → fault_of params.capacity params.labels ≡ None
      → MatchOption (option_map (job_with params its_start) events) (link_job bytes ≡ Err LinkJobFault.Event) (λ job. link_job bytes ≡ Ok job)
  a_plain_job None has lawful = a_bad_event has lawful
  a_plain_job (Some events) has lawful = a_job events has lawful

module _ (bytes : List ℕ) (ms : Members) (is_text : IsUtf8 bytes) (first : Stands in_job (tokens bytes) (object ms) []) where
  -- of a job everything was read, and its parameters are lawful
  abbrev pub IsComplete : Option ℕ → Option ℕ → Option Start → Option (Option (List Event)) → Type 0
  IsComplete capacity labels start events =
      (c : ℕ) × (l : ℕ) × (s : Start) × (es : Option (List Event))
      × (capacity ≡ Some c) × (labels ≡ Some l) × (start ≡ Some s) × (events ≡ Some es) × (fault_of c l ≡ None)

  lawful_job : (c l : ℕ) (s : Start) (es : Option (List Event)) (job : LinkJob) (fault : Option ParamsFault) → HasJob (Some c) (Some l) (Some s) (Some es) ms → link_job bytes ≡ Ok job → fault_of c l ≡ fault
      → fault_of c l ≡ None
  lawful_job c l s es job None has is of_params = of_params
  lawful_job c l s es job (Some fault) has is of_params =
      let never = rw (← whole_text bytes (object ms) is_text first, ← members_are ms c l s es has, of_params) at is in
      absurd (cc)

  pub whole_job : (capacity labels : Option ℕ) (start : Option Start) (events : Option (Option (List Event))) (job : LinkJob) → HasJob capacity labels start events ms → link_job bytes ≡ Ok job
      → IsComplete capacity labels start events
  whole_job None labels start events job has is =
      let never = rw (← whole_text bytes (object ms) is_text first, has.0) at is in
      absurd (cc)
  whole_job (Some c) None start events job has is =
      let never = rw (← whole_text bytes (object ms) is_text first, has.0, has.1) at is in
      absurd (cc)
  whole_job (Some c) (Some l) None events job has is =
      let never = rw (← whole_text bytes (object ms) is_text first, has.0, has.1, has.2) at is in
      absurd (cc)
  whole_job (Some c) (Some l) (Some s) None job has is =
      let never = rw (← whole_text bytes (object ms) is_text first, has.0, has.1, has.2, has.3) at is in
      absurd (cc)
  whole_job (Some c) (Some l) (Some s) (Some es) job has is =
      (c, l, s, es, refl, refl, refl, refl, lawful_job c l s es job (fault_of c l) has is refl)

-- where there is a token, there is text
pub some_text : (text : List ℕ) → 0 < length (tokens text) → 0 < length text
unfolding lex punctuate
some_text [] some = some
some_text (x ∷ xs) some = omega arith
