-- Fronts of messages, and streams of them.
use Rattle.std.proofs.Common.{◌≡◌, ◌≢◌, ℕ, List, [], ◌∷◌, ◌++◌, Result, Ok, Err, refl, sym, ap, ◌∙◌, append_assoc}
use Rattle.std.specs.List.{flat_map, AllByRecursion}
use Rattle.std.proofs.lemmas.List.{append-nil}
use Rattle.std.proofs.lemmas.List.Concat.{flat_map-cons}
use Rattle.rignolda_wire.specs.declared.fault.Fault.{Fault}
use Rattle.rignolda_wire.specs.declared.fault.Fault.TheVariants.{More, NoHello, NoVersion, NoName, NoMessage, LongBody, LongWay, NoNameOfWay, LongReport, LongSignature}
use Rattle.rignolda_wire.specs.declared.said.Expect.{Expect}
use Rattle.rignolda_wire.specs.Reading.{message_at}
use Rattle.rignolda_wire.specs.Said.{IsMessage, Said, spelling}
use Rattle.rignolda_wire.specs.Seen.{AreBytes}
use Rattle.rignolda_wire.specs.Streams.{Splits}
use Rattle.rignolda_wire.proofs.Codecs.{stays}
use Rattle.rignolda_wire.proofs.Signed.{codec_message}
use Rattle.rignolda_wire.proofs.Steps.{fault_is, same}

pub again : (expect : Expect) (m : Said) (rest : List ℕ) → IsMessage expect m → message_at expect (spelling m ++ rest) ≡ Ok (m, rest)
again expect m rest may = (codec_message expect).again m rest tt may

pub spelled : (expect : Expect) (bytes : List ℕ) (x : Said × List ℕ) → AreBytes bytes → message_at expect bytes ≡ Ok x
    → IsMessage expect x.0 × (bytes ≡ spelling x.0 ++ x.1)
spelled expect bytes x are is = let t = (codec_message expect).told bytes x are is in (t.good, t.whole)

abbrev Read : Type 0
Read = Result (Said × List ℕ) Fault

no_more : (fault : Fault) → (fault ≢ More → ⊥) → fault ≡ More
no_more More not_other = refl
no_more NoHello not_other = absurd (not_other (λ e. cc))
no_more NoVersion not_other = absurd (not_other (λ e. cc))
no_more NoName not_other = absurd (not_other (λ e. cc))
no_more NoMessage not_other = absurd (not_other (λ e. cc))
no_more LongBody not_other = absurd (not_other (λ e. cc))
no_more LongWay not_other = absurd (not_other (λ e. cc))
no_more NoNameOfWay not_other = absurd (not_other (λ e. cc))
no_more LongReport not_other = absurd (not_other (λ e. cc))
no_more LongSignature not_other = absurd (not_other (λ e. cc))

module _ (expect : Expect) (m : Said) (front rest : List ℕ) (is : IsMessage expect m) (whole : spelling m ≡ front ++ rest)
    (some : rest ≢ []) (are : AreBytes front) where
  read_whole : message_at expect (front ++ rest) ≡ Ok (m, [])
  read_whole = ap (message_at expect) (sym (append-nil (front ++ rest)) ∙ ap (λ (s : List ℕ). s ++ []) (sym whole)) ∙ again expect m [] is

  -- what is read of the front would leave less than nothing
  none_read : (x : Said × List ℕ) → message_at expect front ≡ Ok x → ⊥
  none_read x read =
      let longer = stays (codec_message expect) front rest x are read in
      let e : (x.0, x.1 ++ rest) ≡ (m, []) = same (x.0, x.1 ++ rest) (m, []) (sym longer ∙ read_whole) in
      some (nothing x.1 rest (ap (λ (y : Said × List ℕ). y.1) e))
    where
      nothing : (a b : List ℕ) → a ++ b ≡ [] → b ≡ []
      nothing [] b none = none
      nothing (x ∷ a) b none = absurd cc

  none_refused : (fault : Fault) → message_at expect front ≡ Err fault → fault ≢ More → ⊥
  none_refused fault refused other =
      let stays : message_at expect (front ++ rest) ≡ Err fault = (codec_message expect).lasts front rest fault are refused other in
      let never : (let a : Read = Err fault in a) ≡ Ok (m, []) = sym stays ∙ read_whole in cc

  by_answer : (read : Read) → message_at expect front ≡ read → read ≡ Err More
  by_answer (Ok x) is_it = absurd (none_read x is_it)
  by_answer (Err fault) is_it = ap (λ f. Err f) (no_more fault (λ other. none_refused fault is_it other))

  pub more_has_to_come : message_at expect front ≡ Err More
  more_has_to_come = by_answer (message_at expect front) refl

-- ---- streams

module _ (expect : Expect) where
  first_read : (m : Said) (said : List Said) (rest : List ℕ) → IsMessage expect m
      → message_at expect (flat_map spelling (m ∷ said) ++ rest) ≡ Ok (m, flat_map spelling said ++ rest)
  first_read m said rest is =
      ap (λ (s : List ℕ). message_at expect (s ++ rest)) (flat_map-cons spelling m said)
      ∙ ap (message_at expect) (append_assoc (spelling m) (flat_map spelling said) rest)
      ∙ again expect m (flat_map spelling said ++ rest) is

  one_way : (one other : List Said) (rest after : List ℕ) (why reason : Fault)
      → flat_map spelling one ++ rest ≡ flat_map spelling other ++ after
      → AllByRecursion (IsMessage expect) one → AllByRecursion (IsMessage expect) other
      → message_at expect rest ≡ Err why → message_at expect after ≡ Err reason
      → (one ≡ other) × (rest ≡ after) × (why ≡ reason)
  one_way [] [] rest after why reason whole each each_other ends ends_other =
      (refl, whole, fault_is (Said × List ℕ) why reason (sym ends ∙ ap (message_at expect) whole ∙ ends_other))
  one_way [] (m ∷ other) rest after why reason whole each each_other ends ends_other =
      let read = first_read m other after each_other.0 in
      let never : (let a : Read = Err why in a) ≡ Ok (m, flat_map spelling other ++ after) = sym ends ∙ ap (message_at expect) whole ∙ read in
      absurd cc
  one_way (m ∷ one) [] rest after why reason whole each each_other ends ends_other =
      let read = first_read m one rest each.0 in
      let never : (let a : Read = Err reason in a) ≡ Ok (m, flat_map spelling one ++ rest) = sym ends_other ∙ ap (message_at expect) (sym whole) ∙ read in
      absurd cc
  one_way (m ∷ one) (n ∷ other) rest after why reason whole each each_other ends ends_other =
      let read = first_read m one rest each.0 in
      let read_other = first_read n other after each_other.0 in
      let e : (m, flat_map spelling one ++ rest) ≡ (n, flat_map spelling other ++ after) =
      same _ _ (sym read ∙ ap (message_at expect) whole ∙ read_other) in
      let (others, rests, whys) = one_way one other rest after why reason (ap (λ (y : Said × List ℕ). y.1) e) each.1 each_other.1 ends ends_other in
      let first : m ≡ n = ap (λ (y : Said × List ℕ). y.0) e in
      (ap (λ x. x ∷ one) first ∙ ap (λ xs. n ∷ xs) others, rests, whys)

pub read_in_one_way : (expect : Expect) (stream : List ℕ) (one other : List Said) (rest after : List ℕ) (why reason : Fault)
    → Splits expect stream one rest why → Splits expect stream other after reason → (one ≡ other) × (rest ≡ after) × (why ≡ reason)
read_in_one_way expect stream one other rest after why reason a b =
    one_way expect one other rest after why reason (sym a.whole ∙ b.whole) a.each b.each a.ends b.ends
