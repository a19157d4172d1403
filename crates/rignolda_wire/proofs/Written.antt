-- What is written is read again.
use Rattle.std.proofs.Common.{◌≡◌, ℕ, ◌+◌, ◌≤◌, Bool, true, List, ◌∷◌, ◌++◌, length, take, drop, Ok, refl, sym, ap, ◌∙◌, append_assoc}
use Rattle.std.specs.Prelude.{◌&&◌, ◌==◌, nat_le}
use Rattle.std.specs.Int.{w16, w32, w64, to_be_bytes}
use Rattle.std.proofs.lemmas.Bool.{le-leb}
use Rattle.std.proofs.lemmas.List.{append-nil, take_at}
use Rattle.rignolda_wire.specs.declared.said.Expect.{Expect}
use Rattle.rignolda_wire.specs.declared.said.Expect.TheVariants.{Hello, Way, NumberedWay, Frames, SignedFrames, Acks}
use Rattle.rignolda_wire.specs.Names.{name_limit}
use Rattle.rignolda_wire.specs.Reading.{message_at}
use Rattle.rignolda_wire.specs.Said.{IsMessage, IsReference, Referred, Said, ack, asks, body_limit, digest_len, filler, frame, goodbye, head_len, hello, lacks, numbered, refers, refers_signed, report, report_limit, signature_bytes, signature_limit, signed, spelling, way, way_limit}
use Rattle.rignolda_wire.specs.Writing.{head_bytes, is_reference, is_short, is_written, tail_bytes, way_head, with_text}
use Rattle.rignolda_wire.proofs.Fronts.{again}
use Rattle.rignolda_wire.proofs.Others.{name_short, short_or_none}

-- a message is its head and what follows it
pub head_and_tail : (m : Said) → spelling m ≡ head_bytes m ++ tail_bytes m
head_and_tail (hello is_look g) = sym (append-nil (spelling (hello is_look g)))
head_and_tail (way w) = ap (λ (x : List ℕ). 87 ∷ x) (sym (append_assoc (to_be_bytes w16 w.cost) (to_be_bytes w16 (length w.names)) w.names))
head_and_tail (frame f) =
    ap (λ (x : List ℕ). 70 ∷ x) (
    ap (λ (x : List ℕ). to_be_bytes w16 f.label ++ x) (sym (append_assoc (to_be_bytes w32 f.item) (to_be_bytes w32 (length f.body)) f.body))
    ∙ sym (append_assoc (to_be_bytes w16 f.label) (to_be_bytes w32 f.item ++ to_be_bytes w32 (length f.body)) f.body)
    )
head_and_tail (refers r) = sym (append-nil (spelling (refers r)))
head_and_tail asks = refl
head_and_tail (ack label) = sym (append-nil (spelling (ack label)))
head_and_tail (lacks label) = sym (append-nil (spelling (lacks label)))
head_and_tail (report text) = refl
head_and_tail goodbye = refl
head_and_tail (numbered n) =
    ap (λ (x : List ℕ). 86 ∷ x) (
    ap (λ (x : List ℕ). to_be_bytes w64 n.number ++ x) (sym (append_assoc (to_be_bytes w16 n.route.cost) (to_be_bytes w16 (length n.route.names)) n.route.names))
    ∙ sym (append_assoc (to_be_bytes w64 n.number) (way_head n.route.cost (length n.route.names)) n.route.names)
    )
head_and_tail (signed f) =
    let len : List ℕ = to_be_bytes w32 (length f.body) in
    let signature : List ℕ = signature_bytes f.signature in
    ap (λ (x : List ℕ). 83 ∷ x) (
    ap (λ (x : List ℕ). to_be_bytes w16 f.label ++ x) (
    ap (λ (x : List ℕ). to_be_bytes w32 f.item ++ x) (sym (append_assoc signature len f.body))
    ∙ sym (append_assoc (to_be_bytes w32 f.item) (signature ++ len) f.body)
    )
    ∙ sym (append_assoc (to_be_bytes w16 f.label) (to_be_bytes w32 f.item ++ (signature ++ len)) f.body)
    )
head_and_tail (refers_signed r) = sym (append-nil (spelling (refers_signed r)))
head_and_tail (filler label) = sym (append-nil (spelling (filler label)))

pub written_again : (expect : Expect) (m : Said) (buffer rest : List ℕ) → IsMessage expect m
    → message_at expect (take (length (head_bytes m)) (with_text buffer 0 (head_bytes m)) ++ (tail_bytes m ++ rest)) ≡ Ok (m, rest)
written_again expect m buffer rest may =
    let head : List ℕ = head_bytes m in
    let front : take (length head) (with_text buffer 0 head) ≡ head = take_at head (drop (0 + length head) buffer) (length head) refl in
    ap (λ (x : List ℕ). message_at expect (x ++ (tail_bytes m ++ rest))) front
    ∙ ap (message_at expect) (sym (append_assoc head (tail_bytes m) rest) ∙ ap (λ (x : List ℕ). x ++ rest) (sym (head_and_tail m)))
    ∙ again expect m rest may

-- ---- what may come is written

both_true : (a b : Bool) → a ≡ true → b ≡ true → (a && b) ≡ true
both_true a b one other = rw (one, other) refl

same_number : (a b : ℕ) → a ≡ b → (b == b) ≡ true → (a == b) ≡ true
same_number a b is itself = rw is itself

short_reference : (r : Referred) → IsReference r → is_reference r ≡ true
short_reference r is =
    both_true (length r.head == head_len) (length r.digest == digest_len) (same_number (length r.head) head_len is.head refl) (same_number (length r.digest) digest_len is.digest refl)

short : (expect : Expect) (m : Said) → IsMessage expect m → is_short m ≡ true
short Hello (hello is_look g) is =
    both_true (nat_le (length g.from) name_limit) (nat_le (length g.to) name_limit) (le-leb (length g.from) name_limit (name_short g.from is.from)) (le-leb (length g.to) name_limit (short_or_none g.to is.to))
short Way (way w) is = le-leb (length w.names) way_limit is.short
short Frames (way w) is = le-leb (length w.names) way_limit is.short
short Frames (frame f) is = le-leb (length f.body) body_limit is.short
short Frames (refers r) is = short_reference r is
short Frames asks is = refl
short NumberedWay (numbered n) is = le-leb (length n.route.names) way_limit is.route.short
short SignedFrames (numbered n) is = le-leb (length n.route.names) way_limit is.route.short
short SignedFrames (signed f) is =
    both_true (nat_le (length f.signature) signature_limit) (nat_le (length f.body) body_limit) (le-leb (length f.signature) signature_limit is.signature) (le-leb (length f.body) body_limit is.short)
short SignedFrames (refers_signed r) is =
    both_true (is_reference r.reference) (nat_le (length r.signature) signature_limit) (short_reference r.reference is.reference) (le-leb (length r.signature) signature_limit is.signature)
short SignedFrames (filler label) is = refl
short SignedFrames asks is = refl
short Acks (ack label) is = refl
short Acks (lacks label) is = refl
short Acks (report text) is = le-leb (length text) report_limit is
short Acks goodbye is = refl
short expect m is = absurd is

pub written : (expect : Expect) (m : Said) (buffer : List ℕ) → IsMessage expect m → length (head_bytes m) ≤ length buffer → is_written buffer m ≡ true
written expect m buffer may room =
    both_true (is_short m) (nat_le (length (head_bytes m)) (length buffer)) (short expect m may) (le-leb (length (head_bytes m)) (length buffer) room)
