-- A reader and the spelling that it reads: what it says of any bytes. Of readers one after the other
-- this follows from what holds of each.
use Rattle.std.proofs.Common.{◌≡◌, ◌≢◌, ℕ, ◌+◌, ◌<◌, ◌≤◌, inl, inr, Bool, true, false, List, [], ◌++◌, length, Result, Ok, Err, refl, sym, ap, subst, ◌∙◌, append_assoc, arith}
use Rattle.rignolda_wire.specs.declared.fault.Fault.{Fault}
use Rattle.rignolda_wire.specs.declared.fault.Fault.TheVariants.{More}
use Rattle.rignolda_wire.specs.Reading.{◌>>=◌, Reader, choose, give, read_on, refuse, wanted}
use Rattle.rignolda_wire.specs.Seen.{AreBytes}
use Rattle.rignolda_wire.proofs.Steps.{fault_is, not_passed, passed, read_err, read_ok, same}

abbrev pub Any : {A : Type 0} → A → Type 0
Any a = Unit {0}

-- what was read is known and good, and its spelling was in front; it took few bytes
pub record IsTold (B : Type 0) (K G : B → Type 0) (spell : B → List ℕ) (k : ℕ) (bytes : List ℕ) (x : B × List ℕ) : Type 0 where
  pub known : K x.0
  pub good : G x.0
  pub whole : bytes ≡ spell x.0 ++ x.1
  pub long : length bytes ≤ k + length x.1
  pub rest_are : AreBytes x.1

-- What is spelled is read, whatever follows; what is read was spelled so; what is refused stays
-- refused, whatever comes; and while more has to come there are few bytes. Of what is read something
-- may be known before.
pub record IsCodec (B : Type 0) (K G : B → Type 0) (spell : B → List ℕ) (k : ℕ) (r : Reader B) : Type 0 where
  pub again : (b : B) (rest : List ℕ) → K b → G b → r (spell b ++ rest) ≡ Ok (b, rest)
  pub told : (bytes : List ℕ) (x : B × List ℕ) → AreBytes bytes → r bytes ≡ Ok x → IsTold B K G spell k bytes x
  pub lasts : (bytes more : List ℕ) (fault : Fault) → AreBytes bytes → r bytes ≡ Err fault → fault ≢ More → r (bytes ++ more) ≡ Err fault
  pub few : (bytes : List ℕ) → AreBytes bytes → r bytes ≡ Err More → length bytes < k

-- what is read is read again, whatever follows it
pub stays : {B : Type 0} {K G : B → Type 0} {spell : B → List ℕ} {k : ℕ} {r : Reader B} → IsCodec B K G spell k r
    → (bytes more : List ℕ) (x : B × List ℕ) → AreBytes bytes → r bytes ≡ Ok x → r (bytes ++ more) ≡ Ok (x.0, x.1 ++ more)
stays {spell = spell} {r = r} c bytes more x are is =
    let t = c.told bytes x are is in
    ap (λ (front : List ℕ). r (front ++ more)) t.whole ∙ ap r (append_assoc (spell x.0) x.1 more) ∙ c.again x.0 (x.1 ++ more) t.known t.good

-- two readers one after the other: of the whole, part gives what the first one reads
pub codec_after : {A B : Type 0} {GA : A → Type 0} {K G : B → Type 0} {sa : A → List ℕ} {sb : B → List ℕ} {k l : ℕ} {r : Reader A}
    (part : B → A) (next : A → Reader B) → IsCodec A Any GA sa k r
    → ((a : A) → GA a → IsCodec B (λ b. (part b ≡ a) × K b) G sb l (next a))
    → IsCodec B K (λ b. GA (part b) × G b) (λ b. sa (part b) ++ sb b) (k + l) (r >>= next)
codec_after {A = A} {GA = GA} {sa = sa} {sb = sb} {r = r} part next first then = record {
  again = λ b rest known good.
      ap (λ (bytes : List ℕ). read_on (r bytes) next) (append_assoc (sa (part b)) (sb b) rest)
      ∙ ap (λ (z : Result (A × List ℕ) Fault). read_on z next) (first.again (part b) (sb b ++ rest) tt good.0)
      ∙ (then (part b) good.0).again b rest (refl, known) good.1;
  told = λ bytes x are is.
      let (y, read, rest_read) = read_ok (r bytes) next x is in
      let t = first.told bytes y are read in
      let u = (then y.0 t.good).told y.1 x t.rest_are rest_read in
      record {
        known = u.known.1;
        good = (subst GA (sym u.known.0) t.good, u.good);
        whole =
            t.whole ∙ ap (λ (rest : List ℕ). sa y.0 ++ rest) u.whole ∙ sym (append_assoc (sa y.0) (sb x.0) x.1)
            ∙ ap (λ (a : A). (sa a ++ sb x.0) ++ x.1) (sym u.known.0);
        long = omega (arith, t.long, u.long);
        rest_are = u.rest_are;
      };
  lasts = λ bytes more fault are is apart.
      elim (read_err (r bytes) next fault is) [
        | inl refused ↦ ap (λ (z : Result (A × List ℕ) Fault). read_on z next) (first.lasts bytes more fault are refused apart)
        | inr (y, read, refused) ↦
            let t = first.told bytes y are read in
            ap (λ (z : Result (A × List ℕ) Fault). read_on z next) (stays first bytes more y are read)
            ∙ (then y.0 t.good).lasts y.1 more fault t.rest_are refused apart
      ];
  few = λ bytes are is.
      elim (read_err (r bytes) next More is) [
        | inl waits ↦ omega (arith, first.few bytes are waits)
        | inr (y, read, waits) ↦
            let t = first.told bytes y are read in
            let short = (then y.0 t.good).few y.1 t.rest_are waits in
            omega (arith, t.long, short)
      ];
}

-- what is read is put into something else
pub codec_map : {A B : Type 0} {GA : A → Type 0} {sa : A → List ℕ} {k : ℕ} {r : Reader A}
    (K G : B → Type 0) (sb : B → List ℕ) (put : A → B) → IsCodec A Any GA sa k r
    → ((a : A) → GA a → K (put a) × G (put a) × (sb (put a) ≡ sa a))
    → ((b : B) → K b → G b → (a : A) × (b ≡ put a) × GA a)
    → IsCodec B K G sb k (r >>= λ a. give (put a))
codec_map {A = A} {B = B} {k = k} {r = r} K G sb put first into back =
    let next : A → Reader B = λ a. give (put a) in
    record {
      again = λ b rest known good.
          let (a, is_put, fits) = back b known good in
          let (_, _, spelled) = into a fits in
          subst (λ (y : B). read_on (r (sb y ++ rest)) next ≡ Ok (y, rest)) (sym is_put)
          (
          ap (λ (text : List ℕ). read_on (r (text ++ rest)) next) spelled
          ∙ ap (λ (z : Result (A × List ℕ) Fault). read_on z next) (first.again a rest tt fits)
          );
      told = λ bytes x are is.
          let (y, read, rest_read) = read_ok (r bytes) next x is in
          let t = first.told bytes y are read in
          let (known, good, spelled) = into y.0 t.good in
          subst (λ (z : B × List ℕ). IsTold B K G sb k bytes z) (same (put y.0, y.1) x rest_read) (record {
            known = known;
            good = good;
            whole = t.whole ∙ ap (λ (text : List ℕ). text ++ y.1) (sym spelled);
            long = t.long;
            rest_are = t.rest_are;
          });
      lasts = λ bytes more fault are is apart.
          elim (read_err (r bytes) next fault is) [
            | inl refused ↦ ap (λ (z : Result (A × List ℕ) Fault). read_on z next) (first.lasts bytes more fault are refused apart)
            | inr (y, read, refused) ↦ absurd cc
          ];
      few = λ bytes are is.
          elim (read_err (r bytes) next More is) [ inl waits ↦ first.few bytes are waits | inr (y, read, waits) ↦ absurd cc ];
    }

-- what is read has to pass a test
pub codec_wanted : {A : Type 0} {K G : A → Type 0} {spell : A → List ℕ} {k : ℕ} {r : Reader A}
    (test : A → Bool) (fault : Fault) → fault ≢ More → IsCodec A K G spell k r
    → IsCodec A K (λ a. G a × (test a ≡ true)) spell k (r >>= wanted test fault)
codec_wanted {A = A} {K = K} {G = G} {spell = spell} {k = k} {r = r} test fault other first =
    let next : A → Reader A = wanted test fault in
    record {
      again = λ a rest known good.
          ap (λ (z : Result (A × List ℕ) Fault). read_on z next) (first.again a rest known good.0) ∙ rw good.1 refl;
      told = λ bytes x are is.
          let (y, read, tested) = read_ok (r bytes) next x is in
          let t = first.told bytes y are read in
          let (passes, found) = passed (test y.0) fault (Ok y) x tested in
          subst (λ (z : A × List ℕ). IsTold A K (λ a. G a × (test a ≡ true)) spell k bytes z) (same y x found) (record {
            known = t.known;
            good = (t.good, passes);
            whole = t.whole;
            long = t.long;
            rest_are = t.rest_are;
          });
      lasts = λ bytes more why are is apart.
          elim (read_err (r bytes) next why is) [
            | inl refused ↦ ap (λ (z : Result (A × List ℕ) Fault). read_on z next) (first.lasts bytes more why are refused apart)
            | inr (y, read, refused) ↦
                ap (λ (z : Result (A × List ℕ) Fault). read_on z next) (stays first bytes more y are read)
                ∙ (not_passed (test y.0) fault why y (y.0, y.1 ++ more) refused).0
          ];
      few = λ bytes are is.
          elim (read_err (r bytes) next More is) [
            | inl waits ↦ first.few bytes are waits
            | inr (y, read, waits) ↦ absurd (other (not_passed (test y.0) fault More y y waits).1)
          ];
    }

-- the same said in other words, and with more bytes
pub codec_like : {B : Type 0} {K G K' G' : B → Type 0} {spell spell' : B → List ℕ} {k l : ℕ} {r : Reader B} → IsCodec B K G spell k r → k ≤ l
    → ((b : B) → K b → G b → K' b × G' b × (spell b ≡ spell' b)) → ((b : B) → K' b → G' b → K b × G b)
    → IsCodec B K' G' spell' l r
codec_like {r = r} c less into back = record {
  again = λ b rest known good.
      let (was_known, was_good) = back b known good in
      let (_, _, spelled) = into b was_known was_good in
      ap (λ (text : List ℕ). r (text ++ rest)) (sym spelled) ∙ c.again b rest was_known was_good;
  told = λ bytes x are is.
      let t = c.told bytes x are is in
      let (known, good, spelled) = into x.0 t.known t.good in
      record {
        known = known;
        good = good;
        whole = t.whole ∙ ap (λ (text : List ℕ). text ++ x.1) spelled;
        long = omega (arith, t.long, less);
        rest_are = t.rest_are;
      };
  lasts = λ bytes more fault are is apart. c.lasts bytes more fault are is apart;
  few = λ bytes are is. let short = c.few bytes are is in omega (arith, short, less);
}

-- one of two readers
pub codec_choose : {B : Type 0} {K G : B → Type 0} {spell : B → List ℕ} {k : ℕ} (so : Bool) (r s : Reader B)
    → (so ≡ true → IsCodec B K G spell k r) → (so ≡ false → IsCodec B K G spell k s) → IsCodec B K G spell k (choose so r s)
codec_choose true r s one other = one refl
codec_choose false r s one other = other refl

-- nothing is read, and this is given: there is nothing else
pub codec_give : {B : Type 0} (K G : B → Type 0) (spell : B → List ℕ) (k : ℕ) (v : B) → K v → G v → spell v ≡ []
    → ((b : B) → K b → G b → b ≡ v) → IsCodec B K G spell k (give v)
codec_give {B = B} K G spell k v known good none only = record {
  again = λ b rest known_b good_b.
      subst (λ (y : B). give v (spell y ++ rest) ≡ Ok (y, rest)) (sym (only b known_b good_b)) (ap (λ (text : List ℕ). give v (text ++ rest)) none);
  told = λ bytes x are is.
      subst (λ (z : B × List ℕ). IsTold B K G spell k bytes z) (same (v, bytes) x is) (record {
        known = known;
        good = good;
        whole = ap (λ (text : List ℕ). text ++ bytes) (sym none);
        long = omega arith;
        rest_are = are;
      });
  lasts = λ bytes more fault are is apart. absurd cc;
  few = λ bytes are is. absurd cc;
}

-- there is nothing that could be read
pub codec_refuse : {B : Type 0} (K G : B → Type 0) (spell : B → List ℕ) (k : ℕ) (fault : Fault) → fault ≢ More
    → ((b : B) → K b → G b → ⊥) → IsCodec B K G spell k (refuse fault)
codec_refuse {B = B} K G spell k fault other none = record {
  again = λ b rest known good. absurd (none b known good);
  told = λ bytes x are is. absurd cc;
  lasts = λ bytes more why are is apart. is;
  few = λ bytes are is. absurd (other (fault_is (B × List ℕ) fault More is));
}
