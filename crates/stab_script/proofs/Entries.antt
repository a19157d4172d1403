-- Entries or members that were read, and then those that are left.
use Rattle.std.proofs.Common.{◌≡◌, ℕ, ◌-◌, ◌<◌, List, [], ◌∷◌, ◌++◌, append_assoc, append-nil, refl, sym, ap, ◌∙◌, subst, ◌⊎◌, inl, inr, Bool, true, false, Option, Some, None}
use Rattle.std.specs.Bool.{MatchBool}
use Rattle.json.specs.Token.{Token}
use Rattle.json.specs.Json.{read_key}
use Rattle.serde_json.specs.Data.{Data, Items, no_items, item, Members, no_members, put}
use Rattle.stab_core.specs.declared.event.Event.{Event}
use Rattle.stab_core.specs.declared.start.Start.{Start}
use Rattle.stab_frames.specs.Parameters.{Parameters}
use Rattle.stab_json.specs.Values.{◌>>=◌, entries}
use Rattle.stab_script.specs.Events.{event}
use Rattle.stab_script.specs.Leads.{LeadsOn, EntriesTaken}
use Rattle.stab_script.specs.Standing.{Stands, MeansWithin, EntriesMean, MembersMake}
use Rattle.stab_script.proofs.Standing.{one_more_entry, one_more_member}
use Rattle.stab_script.proofs.Leads.{leads_further}

-- whatever is left, it goes after what was read
abbrev pub ReadBefore : {X : Type 0} → ℕ → (Data → Option X) → ℕ → List Token → List X → ℕ → List Token → Type 0
ReadBefore {X} depth meaning all whole read n ts = (xs : List X) (rest : List Token) → EntriesMean depth meaning n ts xs rest → EntriesMean depth meaning all whole (read ++ xs) rest

-- an entry more has been read
pub read_one : {X : Type 0} (depth : ℕ) (meaning : Data → Option X) (all n : ℕ) (whole ts r : List Token) (read : List X) (x : X) → 0 < n → ReadBefore depth meaning all whole read n ts
    → MeansWithin depth meaning ts x r → ReadBefore depth meaning all whole (read ++ x ∷ []) (n - 1) r
read_one depth meaning all n whole ts r read x some before first xs rest later =
    subst (λ list. EntriesMean depth meaning all whole list rest) (sym (append_assoc read (x ∷ []) xs)) (before (x ∷ xs) rest (one_more_entry depth meaning n ts r rest x xs some first later))

-- whatever is made of the members that were read by those that are left, all of them make
abbrev pub PutBefore : ℕ → ℕ → List Token → Members → ℕ → List Token → Type 0
PutBefore depth all whole found n ts = (ms : Members) (rest : List Token) → MembersMake depth found n ts ms rest → MembersMake depth no_members all whole ms rest

-- a member more has been read
pub put_one : (depth all n : ℕ) (whole ts us r : List Token) (found : Members) (k : List ℕ) (d : Data) → 0 < n → PutBefore depth all whole found n ts → read_key ts ≡ Some (Some k, us)
    → Stands depth us d r → PutBefore depth all whole (put k d found) (n - 1) r
put_one depth all n whole ts us r found k d some before key first ms rest later = before ms rest (one_more_member depth found n k ts us r rest d ms some key first later)

-- nothing before what there is
pub nothing_before : {X : Type 0} (o : Option (List X)) → o ≡ o >>= (λ xs. Some ([] ++ xs))
nothing_before None = refl
nothing_before (Some xs) = refl

-- the entries that were read, which go before any others, are events that were taken, or one of them is none
module _ {S : Type 0} (StandsAfter : S → Parameters → Start → List Event → Type 0) (old : S) where
  abbrev pub TakenBefore : (Items → Items) → Bool → S → Type 0
  TakenBefore seen true now = (read : List Event) × ((ds : Items) → entries event (seen ds) ≡ entries event ds >>= (λ xs. Some (read ++ xs))) × LeadsOn StandsAfter old read now
  TakenBefore seen false now = (ds : Items) → entries event (seen ds) ≡ None

  -- events with one before them go after those that were read
  after_one : (read : List Event) (e : Event) (o : Option (List Event)) → (o >>= (λ xs. Some (e ∷ xs))) >>= (λ xs. Some (read ++ xs)) ≡ o >>= (λ xs. Some ((read ++ e ∷ []) ++ xs))
  after_one read e None = refl
  after_one read e (Some xs) = ap Some (sym (append_assoc read (e ∷ []) xs))

  -- an entry more has been read
  pub taken_one_more : (mid new : S) (seen : Items → Items) (were are : Bool) (d : Data) (entry : Option Event) → event d ≡ entry → TakenBefore seen were mid
      → MatchBool are ((were ≡ true) × (e : Event) × (entry ≡ Some e) × LeadsOn StandsAfter mid (e ∷ []) new) ((were ≡ false) ⊎ (entry ≡ None)) → TakenBefore (λ ds. seen (item d ds)) are new
  taken_one_more mid new seen true true d entry is before taken =
      let e = taken.1 in
      let means : event d ≡ Some e = is ∙ taken.2 in (
        before.0 ++ e ∷ [],
        λ ds. before.1 (item d ds) ∙ ap (λ o. (o >>= (λ x. entries event ds >>= (λ xs. Some (x ∷ xs)))) >>= (λ xs. Some (before.0 ++ xs))) means ∙ after_one before.0 e (entries event ds),
        leads_further StandsAfter old mid new before.0 e before.2 taken.3,
      )
  taken_one_more mid new seen false true d entry is before taken = absurd (cc)
  taken_one_more mid new seen false false d entry is before taken = λ ds. before (item d ds)
  taken_one_more mid new seen true false d entry is before (inl never) = absurd (cc)
  taken_one_more mid new seen true false d entry is before (inr none) =
      let means : event d ≡ None = is ∙ none in
      λ ds. before.1 (item d ds) ∙ ap (λ o. (o >>= (λ x. entries event ds >>= (λ xs. Some (x ∷ xs)))) >>= (λ xs. Some (before.0 ++ xs))) means

  -- all entries have been read
  pub all_taken : (now : S) (seen : Items → Items) (are : Bool) → TakenBefore seen are now → EntriesTaken StandsAfter old (seen no_items) are now
  all_taken now seen true before = (before.0, before.1 no_items ∙ ap Some (append-nil before.0), before.2)
  all_taken now seen false before = before no_items
