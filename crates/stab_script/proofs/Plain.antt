-- What has the plain form is read, one piece after another.
use Rattle.std.proofs.Common.{◌≡◌, ◌≢◌, ◌≤◌, ℕ, zero, suc, List, [], ◌∷◌, get_or, Option, Some, None, IsSome, IsTrue, Bool, codes, inl, inr, refl, sym, ap, subst, ◌∙◌, arith}
use Rattle.std.specs.Str.Parse.{IsNumeral, digits_value}
use Rattle.json.specs.Token.{Token}
use Rattle.json.specs.Json.{after_end_array, read_key}
use Rattle.json.proofs.Grammar.{read_key_is}
use Rattle.stab_json.specs.Values.{most_u16, most_u32}
use Rattle.stab_script.specs.Plain.{IsWhole, AreEntries, IsList, IsFrame, IsEvent, IsEvents, AreMembers, IsMemberOfStart, IsMemberOfJob, IsStart, IsRead}

-- where there is an answer, it is not none
none_is_no_answer : {X : Type 0} (o : Option X) → o ≡ None → IsSome o → ⊥
none_is_no_answer None is some = cc
none_is_no_answer (Some x) is some = cc

pub no_some : {X : Type 0} {o : Option X} → o ≡ None → IsSome o → ⊥
no_some {X} {o} is some = none_is_no_answer o is some

-- one answer
pub one_answer : {X : Type 0} {o : Option X} {x y : X} → o ≡ Some x → o ≡ Some y → x ≡ y
one_answer is also = cc

pub no_answer : {X : Type 0} {o : Option X} {x : X} → o ≡ None → o ≡ Some x → ⊥
no_answer is also = cc

-- what is left after one token
pub one_rest : (t : Token) {ts us vs : List Token} → ts ≡ t ∷ us → ts ≡ t ∷ vs → us ≡ vs
one_rest t is also = cc

-- where no token is left there is none
pub no_token : {t : Token} {ts us : List Token} → ts ≡ [] → ts ≡ t ∷ us → ⊥
no_token is also = cc

-- where a list ends, this is left
pub ends_at : {ts us left rest : List Token} → ts ≡ us → after_end_array ts ≡ Some left → after_end_array us ≡ Some rest → left ≡ rest
ends_at same over ends = cc

pub goes_on : {ts us rest : List Token} → ts ≡ us → after_end_array ts ≡ None → after_end_array us ≡ Some rest → ⊥
goes_on same more ends = cc

-- a whole number that stands first is read
pub number_read : (most : ℕ) (ts rest left : List Token) (text : List ℕ) (answer : Option ℕ) → most ≤ most_u32 → IsWhole most ts rest → ts ≡ Token.number text ∷ left
    → (IsNumeral 10 text → digits_value 10 text ≤ most_u32 → answer ≡ Some (digits_value 10 text)) → (n : ℕ) × (n ≤ most) × (answer ≡ Some n) × (left ≡ rest)
number_read most ts rest left text answer small p is read =
    let same : text ≡ p.0 = cc in
    let numeral : IsNumeral 10 text = subst (IsNumeral 10) (sym same) p.2 in
    let few : digits_value 10 text ≤ most = subst (λ s. digits_value 10 s ≤ most) (sym same) p.3 in
    (digits_value 10 text, few, read numeral (omega (arith, few, small)), cc)

-- an event that is a list of a word and a number
pub numbered_event : (old ts rest : List Token) (word : List ℕ) → old ≡ Token.string word ∷ ts → IsEvent (Token.begin_array ∷ old) rest
    → (vs : List Token) × IsWhole most_u32 ts vs × (after_end_array vs ≡ Some rest)
numbered_event old ts rest word is (inl p) = let never = p.1 in absurd (cc)
numbered_event old ts rest word is (inr p) =
    let begins = p.2 in
    let same : p.1 ≡ ts = cc in
    (p.3, subst (λ us. IsWhole most_u32 us p.3) same p.4, p.5)

module _ {X : Type 0} (IsEntry : List Token → List Token → Type 0) where
  -- where a list goes on, its next entry is read, and the others are left
  pub next_entry : (n : ℕ) (ts rest left : List Token) (found : Option X) → AreEntries IsEntry n ts rest → after_end_array ts ≡ None → ((r : List Token) → IsEntry ts r → IsRead found left r)
      → IsSome found × (m : ℕ) × (suc m ≡ n) × AreEntries IsEntry m left rest
  next_entry zero ts rest left found p more read = absurd (cc)
  next_entry (suc m) ts rest left found p more read =
      let one = read p.1 p.2 in
      (one.0, m, refl, subst (λ r. AreEntries IsEntry m r rest) (sym one.1) p.3)

-- where a list ends, this is left
pub last_entry : (IsEntry : List Token → List Token → Type 0) (n : ℕ) (ts rest left : List Token) → AreEntries IsEntry n ts rest → after_end_array ts ≡ Some left → left ≡ rest
last_entry IsEntry zero ts rest left p over = cc
last_entry IsEntry (suc m) ts rest left p over = absurd (cc)

module _ (IsMember : List ℕ → List Token → List Token → Type 0) where
  -- where an object goes on, its next member is read, and the others are left
  pub next_member : (n : ℕ) (ts rest us left : List Token) (name : List ℕ) (done : Bool) → AreMembers IsMember n ts rest → read_key ts ≡ Some (Some name, us)
      → ((r : List Token) → IsMember name us r → IsTrue done × (left ≡ r)) → IsTrue done × (m : ℕ) × AreMembers IsMember m left rest
  next_member zero ts rest us left name done p key read =
      let ends = read_key_is ts None rest p in
      let goes_on = read_key_is ts (Some name) us key in
      absurd (cc)
  next_member (suc m) ts rest us left name done p key read =
      let said = read_key_is ts (Some p.0) p.1 p.2 in
      let was = read_key_is ts (Some name) us key in
      let same_name : p.0 ≡ name = cc in
      let same_rest : p.1 ≡ us = cc in
      let member : IsMember name us p.3 = subst (λ k. IsMember k us p.3) same_name (subst (λ r. IsMember p.0 r p.3) same_rest p.4) in
      let one = read p.3 member in
      (one.0, m, subst (λ r. AreMembers IsMember m r rest) (sym one.1) p.5)

  -- where an object ends, this is left
  pub last_member : (n : ℕ) (ts rest left : List Token) → AreMembers IsMember n ts rest → read_key ts ≡ Some (None, left) → left ≡ rest
  last_member zero ts rest left p over =
      let said = read_key_is ts None rest p in
      let was = read_key_is ts None left over in
      cc
  last_member (suc m) ts rest left p over =
      let said = read_key_is ts (Some p.0) p.1 p.2 in
      let was = read_key_is ts None left over in
      absurd (cc)

  -- a name or a brace stands first
  pub some_key : (n : ℕ) (ts rest : List Token) → AreMembers IsMember n ts rest → read_key ts ≡ None → ⊥
  some_key zero ts rest p none = cc
  some_key (suc m) ts rest p none = let key = p.2 in cc

-- the first letter of a name
abbrev first : List ℕ → ℕ
first s = get_or s 0 0

-- the members of a start, by their names
module _ (name : List ℕ) (ts rest : List Token) where
  pub frames_form : name ≡ codes "frames" → IsMemberOfStart name ts rest → IsList IsFrame ts rest
  frames_form is (inl p) = p.1
  frames_form is (inr (inl p)) = absurd (omega (arith, ap first (sym is ∙ p.0)))
  frames_form is (inr (inr (inl p))) = absurd (omega (arith, ap first (sym is ∙ p.0)))
  frames_form is (inr (inr (inr p))) = absurd (omega (arith, ap first (sym is ∙ p.0)))

  pub acks_form : name ≡ codes "acks" → IsMemberOfStart name ts rest → IsList (IsWhole most_u16) ts rest
  acks_form is (inl p) = absurd (omega (arith, ap first (sym is ∙ p.0)))
  acks_form is (inr (inl p)) = p.1
  acks_form is (inr (inr (inl p))) = absurd (omega (arith, ap first (sym is ∙ p.0)))
  acks_form is (inr (inr (inr p))) = absurd (omega (arith, ap first (sym is ∙ p.0)))

  pub send_form : name ≡ codes "send" → IsMemberOfStart name ts rest → IsWhole most_u16 ts rest
  send_form is (inl p) = absurd (omega (arith, ap first (sym is ∙ p.0)))
  send_form is (inr (inl p)) = absurd (omega (arith, ap first (sym is ∙ p.0)))
  send_form is (inr (inr (inl p))) = p.1
  send_form is (inr (inr (inr p))) = absurd (omega (arith, ap first (sym is ∙ p.0)))

  pub recv_form : name ≡ codes "recv" → IsMemberOfStart name ts rest → IsWhole most_u16 ts rest
  recv_form is (inl p) = absurd (omega (arith, ap first (sym is ∙ p.0)))
  recv_form is (inr (inl p)) = absurd (omega (arith, ap first (sym is ∙ p.0)))
  recv_form is (inr (inr (inl p))) = absurd (omega (arith, ap first (sym is ∙ p.0)))
  recv_form is (inr (inr (inr p))) = p.1

  pub no_other_of_start : name ≢ codes "frames" → name ≢ codes "acks" → name ≢ codes "send" → name ≢ codes "recv" → IsMemberOfStart name ts rest → ⊥
  no_other_of_start frames acks send recv (inl p) = frames p.0
  no_other_of_start frames acks send recv (inr (inl p)) = acks p.0
  no_other_of_start frames acks send recv (inr (inr (inl p))) = send p.0
  no_other_of_start frames acks send recv (inr (inr (inr p))) = recv p.0

-- the members of a link job, by their names
module _ (name : List ℕ) (ts rest : List Token) where
  pub capacity_form : name ≡ codes "capacity" → IsMemberOfJob name ts rest → IsWhole most_u16 ts rest
  capacity_form is (inl p) = p.1
  capacity_form is (inr (inl p)) = absurd (omega (arith, ap first (sym is ∙ p.0)))
  capacity_form is (inr (inr (inl p))) = absurd (omega (arith, ap first (sym is ∙ p.0)))
  capacity_form is (inr (inr (inr p))) = absurd (omega (arith, ap first (sym is ∙ p.0)))

  pub labels_form : name ≡ codes "labels" → IsMemberOfJob name ts rest → IsWhole most_u16 ts rest
  labels_form is (inl p) = absurd (omega (arith, ap first (sym is ∙ p.0)))
  labels_form is (inr (inl p)) = p.1
  labels_form is (inr (inr (inl p))) = absurd (omega (arith, ap first (sym is ∙ p.0)))
  labels_form is (inr (inr (inr p))) = absurd (omega (arith, ap first (sym is ∙ p.0)))

  pub start_form : name ≡ codes "start" → IsMemberOfJob name ts rest → IsStart ts rest
  start_form is (inl p) = absurd (omega (arith, ap first (sym is ∙ p.0)))
  start_form is (inr (inl p)) = absurd (omega (arith, ap first (sym is ∙ p.0)))
  start_form is (inr (inr (inl p))) = p.1
  start_form is (inr (inr (inr p))) = absurd (omega (arith, ap first (sym is ∙ p.0)))

  pub events_form : name ≡ codes "events" → IsMemberOfJob name ts rest → IsEvents ts rest
  events_form is (inl p) = absurd (omega (arith, ap first (sym is ∙ p.0)))
  events_form is (inr (inl p)) = absurd (omega (arith, ap first (sym is ∙ p.0)))
  events_form is (inr (inr (inl p))) = absurd (omega (arith, ap first (sym is ∙ p.0)))
  events_form is (inr (inr (inr p))) = p.1

  pub no_other_of_job : name ≢ codes "capacity" → name ≢ codes "labels" → name ≢ codes "start" → name ≢ codes "events" → IsMemberOfJob name ts rest → ⊥
  no_other_of_job capacity labels start events (inl p) = capacity p.0
  no_other_of_job capacity labels start events (inr (inl p)) = labels p.0
  no_other_of_job capacity labels start events (inr (inr (inl p))) = start p.0
  no_other_of_job capacity labels start events (inr (inr (inr p))) = events p.0
