-- A member that was read is put among the others, or is the schedule, or the one beside those of a job.
use Rattle.std.proofs.Common.{◌≡◌, ◌≢◌, ℕ, List, Bool, true, false, Option, Some, None, IfSome, IsSome, codes, refl, sym, ap, ◌∙◌, subst}
use Rattle.std.proofs.lemmas.Slice.Eq.{bytes_eq-Decides}
use Rattle.std.specs.Str.{bytes_eq}
use Rattle.serde_json.specs.Data.{Data, Members, object, put, no_members}
use Rattle.serde_json.specs.Find.{get, get_member}
use Rattle.serde_json.proofs.Views.{get_member-put, get_member-put_other}
use Rattle.stab_json.specs.Values.{◌>>=◌, list_of}
use Rattle.stab_job.specs.ScheduleEntries.{NamedAct, named_act}
use Rattle.stab_script.specs.Members.{Holds}
use Rattle.stab_job.specs.Parts.{the_schedule, HasSteps, HasParts, HasJobParts, IsBeside, SameBeside, SameMembers, SameOfJob}
use Rattle.stab_job.specs.Steps.{KeptSteps, AreKept}

-- a member put into two objects, by whether the name is that member's
put_both : (b : Bool) (name k : List ℕ) (d : Data) (ms us : Members) → bytes_eq name k ≡ b → get_member name ms ≡ get_member name us → get_member name (put k d ms) ≡ get_member name (put k d us)
put_both true name k d ms us is same =
    let named = (bytes_eq-Decides name k).0 is in rw named (get_member-put k d ms ∙ sym (get_member-put k d us))
put_both false name k d ms us is same =
    let other : name ≢ k = λ named. absurd (let found = (bytes_eq-Decides name k).1 named in cc) in
    get_member-put_other name k d ms other ∙ same ∙ sym (get_member-put_other name k d us other)

-- what is held of a member stays, where another one is put
holds_on : {X : Type 0} (meaning : Data → Option X) (name k : List ℕ) (d : Data) (ms : Members) (read : Option X) → name ≢ k → Holds meaning name ms read → Holds meaning name (put k d ms) read
holds_on meaning name k d ms None other h = get_member-put_other name k d ms other ∙ h
holds_on meaning name k d ms (Some x) other h = ap (λ o. o >>= meaning) (get_member-put_other name k d ms other) ∙ h

-- so do the steps
steps_on : (keeps : Bool) (k : List ℕ) (d : Data) (ms : Members) (steps : Option KeptSteps) → the_schedule ≢ k → HasSteps keeps steps ms → HasSteps keeps steps (put k d ms)
steps_on keeps k d ms None other has = has
steps_on keeps k d ms (Some kept) other has = (has.0, has.1, holds_on (list_of named_act) the_schedule k d ms (Some has.0) other has.2)

-- two names differ where the comparison of their bytes says so
pub ne : (a b : List ℕ) → bytes_eq a b ≡ false → a ≢ b
ne a b differ same = let found = (bytes_eq-Decides a b).1 same in absurd (cc)

-- where no member is read, the members are the same but for the schedule
pub nothing_beside : {X : Type 0} (d others : Data) (read : Option X) → SameBeside the_schedule (λ _. None) d others read → SameMembers d others
nothing_beside d others None same name other = same.0 name other (λ some. absurd (cc))
nothing_beside d others (Some x) same name other = same.0 name other (λ some. other)

module _ {X : Type 0} (its_name : List ℕ) (meaning : Data → Option X) (keeps : Bool) where
  -- what was read of the member
  abbrev IsOf : Members → X → Type 0
  IsOf ms x = (get_member its_name ms >>= meaning ≡ Some x) × IsBeside its_name

  -- and it is of the member
  pub beside_read : (ms : Members) (read : Option X) → IfSome read (IsOf ms) → IfSome read (λ x. get its_name (object ms) >>= meaning ≡ Some x)
  beside_read ms None has = has
  beside_read ms (Some x) has = has.0

  -- it stays, where another member is put
  beside_on : (k : List ℕ) (d : Data) (ms : Members) (read : Option X) → (IsBeside its_name → its_name ≢ k) → IfSome read (IsOf ms) → IfSome read (IsOf (put k d ms))
  beside_on k d ms None other has = has
  beside_on k d ms (Some x) other has = (ap (λ o. o >>= meaning) (get_member-put_other its_name k d ms (other has.1)) ∙ has.0, has.1)

  -- nothing was read so far
  pub no_parts : HasParts its_name meaning keeps no_members None None no_members
  no_parts = (λ name other apart. refl, refl, tt, λ none. refl, tt)

  -- another member than the schedule, and than the one that is read
  pub one_more_other : (others ms : Members) (steps : Option KeptSteps) (read : Option X) (k : List ℕ) (d : Data) → k ≢ the_schedule → k ≢ its_name → HasParts its_name meaning keeps others steps read ms
      → HasParts its_name meaning keeps (put k d others) steps read (put k d ms)
  one_more_other others ms steps read k d other apart has = (
    λ name is_other is_apart. put_both (bytes_eq name k) name k d others ms refl (has.0 name is_other is_apart),
    get_member-put_other the_schedule k d others no_schedule ∙ has.1,
    steps_on keeps k d ms steps no_schedule has.2,
    λ none. get_member-put_other the_schedule k d ms no_schedule ∙ has.3 none,
    beside_on k d ms read (λ _ e. apart (sym e)) has.4,
  )
    where
      no_schedule : the_schedule ≢ k
      no_schedule e = other (sym e)

  -- the schedule
  pub the_steps : (others ms : Members) (steps : Option KeptSteps) (read : Option X) (d : Data) (kept : KeptSteps) (acts : List NamedAct) → list_of named_act d ≡ Some acts → AreKept keeps kept acts
      → HasParts its_name meaning keeps others steps read ms → HasParts its_name meaning keeps others (Some kept) read (put the_schedule d ms)
  the_steps others ms steps read d kept acts is are has = (
    λ name other apart. has.0 name other apart ∙ sym (get_member-put_other name the_schedule d ms other),
    has.1,
    (acts, are, ap (λ o. o >>= list_of named_act) (get_member-put the_schedule d ms) ∙ is),
    λ none. absurd (cc),
    beside_on the_schedule d ms read (λ beside. beside.0) has.4,
  )

  -- the member that is read
  pub the_beside : (others ms : Members) (steps : Option KeptSteps) (read : Option X) (d : Data) (x : X) → meaning d ≡ Some x → IsBeside its_name
      → HasParts its_name meaning keeps others steps read ms → HasParts its_name meaning keeps others steps (Some x) (put its_name d ms)
  the_beside others ms steps read d x is beside has = (
    λ name other apart. has.0 name other (λ _. apart refl) ∙ sym (get_member-put_other name its_name d ms (apart refl)),
    has.1,
    steps_on keeps its_name d ms steps no_schedule has.2,
    λ none. get_member-put_other the_schedule its_name d ms no_schedule ∙ has.3 none,
    (ap (λ o. o >>= meaning) (get_member-put its_name d ms) ∙ is, beside),
  )
    where
      no_schedule : the_schedule ≢ its_name
      no_schedule e = beside.0 (sym e)

  -- a member of a job is no such member, where one was read
  apart_from : (k : List ℕ) (ms : Members) (read : Option X) → (IsBeside its_name → its_name ≢ k) → IfSome read (IsOf ms) → IsSome read → k ≢ its_name
  apart_from k ms None other has some = absurd (cc)
  apart_from k ms (Some x) other has some = λ e. other has.1 (sym e)

  -- so each member of a job is there
  pub parts_of_job : (others ms : Members) (steps : Option KeptSteps) (read : Option X) → HasParts its_name meaning keeps others steps read ms → HasJobParts keeps others steps ms
  parts_of_job others ms steps read has = (same_of_job, has.1, has.2, has.3)
    where
      same : (k : List ℕ) → bytes_eq k the_schedule ≡ false → (IsBeside its_name → its_name ≢ k) → get_member k others ≡ get_member k ms
      same k differ other = has.0 k (ne k the_schedule differ) (apart_from k ms read other has.4)

      same_of_job : SameOfJob others ms
      same_of_job = (
        same (codes "version") refl (λ b. b.1),
        same (codes "capacity") refl (λ b. b.2),
        same (codes "labels") refl (λ b. b.3),
        same (codes "tree") refl (λ b. b.4),
        same (codes "turns") refl (λ b. b.5),
        same (codes "items") refl (λ b. b.6),
        same (codes "starts") refl (λ b. b.7),
        same (codes "scripts") refl (λ b. b.8),
        same (codes "links") refl (λ b. b.9),
        same (codes "h") refl (λ b. b.10),
        same (codes "openings") refl (λ b. b.11),
      )
