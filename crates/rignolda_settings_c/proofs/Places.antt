-- Where the texts of a message lie.
use Rattle.std.proofs.Common.{◌≡◌, ℕ, ◌+◌, ◌-◌, ◌≤◌, Bool, true, false, List, [], ◌∷◌, ◌++◌, length, take, drop, Option, Some, None, Result, Ok, Err, refl, sym, ap, subst, ◌∙◌, append_assoc, arith}
use Rattle.std.specs.Int.{w16, w32, to_be_bytes}
use Rattle.std.proofs.lemmas.List.{drop-drop, length-append, length-drop, take_at, drop_at}
use Rattle.rignolda_wire.specs.declared.fault.Fault.{Fault}
use Rattle.rignolda_wire.specs.declared.said.Expect.{Expect}
use Rattle.rignolda_wire.specs.declared.said.Expect.TheVariants.{Hello, SignedFrames}
use Rattle.rignolda_wire.specs.Reading.{message_at}
use Rattle.rignolda_wire.specs.Said.{Framed, Greeted, IsMessage, IsSignedReference, Numbered, Referred, Routed, Said, Signed, SignedReference, ack, asks, digest_len, filler, frame, goodbye, head_len, hello, lacks, numbered, refers, refers_signed, report, signature_bytes, signed, spelling, way}
use Rattle.rignolda_wire.specs.Seen.{AreBytes}
use Rattle.rignolda_wire.specs.Words.{hello_of, word_at}
use Rattle.rignolda_wire.proofs.ForCallers.{message_there}
use Rattle.rignolda_settings_c.specs.declared.messages.WireMessage.{WireMessage}
use Rattle.rignolda_settings_c.specs.Messages.{IsInFront, ReadWord, greeting, said_in, said_with, shown_of}

-- what follows a text that is at a place
after_text : (bytes : List ℕ) (at : ℕ) (text rest : List ℕ) → drop at bytes ≡ text ++ rest → drop (at + length text) bytes ≡ rest
after_text bytes at text rest there =
    sym (drop-drop (length text) at bytes) ∙ ap (drop (length text)) there ∙ drop_at text rest (length text) refl

-- a text that is at a place is the one that is taken there
text_there : (bytes : List ℕ) (at : ℕ) (text rest : List ℕ) → drop at bytes ≡ text ++ rest → take (length text) (drop at bytes) ≡ text
text_there bytes at text rest there = ap (take (length text)) there ∙ take_at text rest (length text) refl

-- and it lies within the bytes
text_within : (bytes : List ℕ) (at : ℕ) (text rest : List ℕ) → at ≤ length bytes → drop at bytes ≡ text ++ rest → at + length text ≤ length bytes
text_within bytes at text rest within there = omega (arith, ap length there, length-drop at bytes, length-append text rest)

-- a message is in front of the bytes: what shows it ends where it does
module _ (bytes : List ℕ) (m : Said) (rest : List ℕ) (whole : bytes ≡ spelling m ++ rest) where
  sums : length (spelling m) + length rest ≡ length bytes
  sums = omega (arith, ap length whole, length-append (spelling m) rest)

  shows : (w : WireMessage) → w.end ≡ length bytes - length rest → w ≡ record (shown_of m) { end = w.end } → said_in bytes w ≡ Some m
      → w.first + w.first_length ≤ length bytes → w.second + w.second_length ≤ length bytes → w.signature + w.signature_length ≤ length bytes → IsInFront bytes m rest w
  shows w ends alone is one two three =
      let at_end : w.end ≡ length (spelling m) = omega (arith, ends, sums) in
      record {
        shown = is;
        alone = alone;
        first = one;
        second = two;
        signature = three;
        behind = ap (λ n. drop n bytes) at_end ∙ ap (drop (length (spelling m))) whole ∙ drop_at (spelling m) rest (length (spelling m)) refl;
        end = omega (arith, ends, sums);
      }

-- as it is shown, with its end
abbrev ended : List ℕ → List ℕ → WireMessage → WireMessage
ended bytes rest w = record w { end = length bytes - length rest }

abbrev InFront : List ℕ → Said → List ℕ → Type 0
InFront bytes m rest = IsInFront bytes m rest (ended bytes rest (shown_of m))

greeting_there : (bytes : List ℕ) (is_look : Bool) (g : Greeted) (rest : List ℕ) (kind : ℕ) → bytes ≡ spelling (hello is_look g) ++ rest
    → greeting kind g ≡ shown_of (hello is_look g) → said_with (greeting kind g) g.from g.to [] ≡ Some (hello is_look g)
    → IsInFront bytes (hello is_look g) rest (ended bytes rest (greeting kind g))
greeting_there bytes is_look g rest kind whole so says =
    let there : drop 16 bytes ≡ g.from ++ (length g.to ∷ (g.to ++ rest)) = ap (drop 16) whole ∙ append_assoc g.from (length g.to ∷ g.to) rest in
    let after : drop (16 + length g.from) bytes ≡ length g.to ∷ (g.to ++ rest) = after_text bytes 16 g.from (length g.to ∷ (g.to ++ rest)) there in
    let other : drop (16 + length g.from + 1) bytes ≡ g.to ++ rest = after_text bytes (16 + length g.from) (length g.to ∷ []) (g.to ++ rest) after in
    let from = text_there bytes 16 g.from (length g.to ∷ (g.to ++ rest)) there in
    let to = text_there bytes (16 + length g.from + 1) g.to rest other in
    let long = sums bytes (hello is_look g) rest whole in
    let names = length-append g.from (length g.to ∷ g.to) in
    shows bytes (hello is_look g) rest whole (ended bytes rest (greeting kind g)) refl (ap (ended bytes rest) so)
    (rw (from, to) says) (omega (arith, long, names)) (omega (arith, long, names)) (omega arith)

way_there : (bytes : List ℕ) (w : Routed) (rest : List ℕ) → bytes ≡ spelling (way w) ++ rest → InFront bytes (way w) rest
way_there bytes w rest whole =
    let names = text_there bytes 5 w.names rest (ap (drop 5) whole) in
    let long = sums bytes (way w) rest whole in
    shows bytes (way w) rest whole (ended bytes rest (shown_of (way w))) refl refl (rw names refl) (omega (arith, long)) (omega arith) (omega arith)

frame_there : (bytes : List ℕ) (f : Framed) (rest : List ℕ) → bytes ≡ spelling (frame f) ++ rest → InFront bytes (frame f) rest
frame_there bytes f rest whole =
    let body = text_there bytes 11 f.body rest (ap (drop 11) whole) in
    let long = sums bytes (frame f) rest whole in
    shows bytes (frame f) rest whole (ended bytes rest (shown_of (frame f))) refl refl (rw body refl) (omega (arith, long)) (omega arith) (omega arith)

reference_there : (bytes : List ℕ) (r : Referred) (rest : List ℕ) → bytes ≡ spelling (refers r) ++ rest → InFront bytes (refers r) rest
reference_there bytes r rest whole =
    let there : drop 11 bytes ≡ r.head ++ (r.digest ++ rest) = ap (drop 11) whole ∙ append_assoc r.head r.digest rest in
    let after : drop (11 + length r.head) bytes ≡ r.digest ++ rest = after_text bytes 11 r.head (r.digest ++ rest) there in
    let head = text_there bytes 11 r.head (r.digest ++ rest) there in
    let digest = text_there bytes (11 + length r.head) r.digest rest after in
    let long = sums bytes (refers r) rest whole in
    let both = length-append r.head r.digest in
    shows bytes (refers r) rest whole (ended bytes rest (shown_of (refers r))) refl refl
    (rw (head, digest) refl) (omega (arith, long, both)) (omega (arith, long, both)) (omega arith)

report_there : (bytes text rest : List ℕ) → bytes ≡ spelling (report text) ++ rest → InFront bytes (report text) rest
report_there bytes text rest whole =
    let is = text_there bytes 5 text rest (ap (drop 5) whole) in
    let long = sums bytes (report text) rest whole in
    shows bytes (report text) rest whole (ended bytes rest (shown_of (report text))) refl refl (rw is refl) (omega (arith, long)) (omega arith) (omega arith)

numbered_there : (bytes : List ℕ) (n : Numbered) (rest : List ℕ) → bytes ≡ spelling (numbered n) ++ rest → InFront bytes (numbered n) rest
numbered_there bytes n rest whole =
    let names = text_there bytes 13 n.route.names rest (ap (drop 13) whole) in
    let long = sums bytes (numbered n) rest whole in
    shows bytes (numbered n) rest whole (ended bytes rest (shown_of (numbered n))) refl refl (rw names refl) (omega (arith, long)) (omega arith) (omega arith)

signed_there : (bytes : List ℕ) (f : Signed) (rest : List ℕ) → bytes ≡ spelling (signed f) ++ rest → InFront bytes (signed f) rest
signed_there bytes f rest whole =
    let len : List ℕ = to_be_bytes w32 (length f.body) in
    let behind : List ℕ = len ++ (f.body ++ rest) in
    let there : drop 9 bytes ≡ f.signature ++ behind = ap (drop 9) whole ∙ append_assoc f.signature (len ++ f.body) rest in
    let after : drop (9 + length f.signature) bytes ≡ behind = after_text bytes 9 f.signature behind there in
    let at : drop (9 + length f.signature + 4) bytes ≡ f.body ++ rest = after_text bytes (9 + length f.signature) len (f.body ++ rest) after in
    let same : 13 + length f.signature ≡ 9 + length f.signature + 4 = omega arith in
    let body : take (length f.body) (drop (13 + length f.signature) bytes) ≡ f.body =
    ap (λ n. take (length f.body) (drop n bytes)) same ∙ text_there bytes (9 + length f.signature + 4) f.body rest at in
    let signature = text_there bytes 9 f.signature behind there in
    let long = sums bytes (signed f) rest whole in
    let both = length-append f.signature (len ++ f.body) in
    shows bytes (signed f) rest whole (ended bytes rest (shown_of (signed f))) refl refl
    (rw (body, signature) refl) (omega (arith, long, both)) (omega arith) (omega (arith, long, both))

signed_reference_there : (bytes : List ℕ) (r : SignedReference) (rest : List ℕ) → IsSignedReference r → bytes ≡ spelling (refers_signed r) ++ rest → InFront bytes (refers_signed r) rest
signed_reference_there bytes r rest is whole =
    let head : List ℕ = r.reference.head in
    let digest : List ℕ = r.reference.digest in
    let vouches : List ℕ = signature_bytes r.signature in
    let there : drop 11 bytes ≡ head ++ (digest ++ (vouches ++ rest)) =
    ap (drop 11) whole ∙ append_assoc (head ++ digest) vouches rest ∙ append_assoc head digest (vouches ++ rest) in
    let after : drop (11 + length head) bytes ≡ digest ++ (vouches ++ rest) = after_text bytes 11 head (digest ++ (vouches ++ rest)) there in
    let last : drop (11 + length head + length digest) bytes ≡ vouches ++ rest = after_text bytes (11 + length head) digest (vouches ++ rest) after in
    let at : drop (11 + length head + length digest + 2) bytes ≡ r.signature ++ rest =
    after_text bytes (11 + length head + length digest) (to_be_bytes w16 (length r.signature)) (r.signature ++ rest) last in
    let same : 13 + head_len + digest_len ≡ 11 + length head + length digest + 2 = omega (arith, is.reference.head, is.reference.digest) in
    let signature : take (length r.signature) (drop (13 + head_len + digest_len) bytes) ≡ r.signature =
    ap (λ n. take (length r.signature) (drop n bytes)) same ∙ text_there bytes (11 + length head + length digest + 2) r.signature rest at in
    let first = text_there bytes 11 head (digest ++ (vouches ++ rest)) there in
    let second = text_there bytes (11 + length head) digest (vouches ++ rest) after in
    let long = sums bytes (refers_signed r) rest whole in
    let both = length-append (head ++ digest) vouches in
    let two = length-append head digest in
    shows bytes (refers_signed r) rest whole (ended bytes rest (shown_of (refers_signed r))) refl refl
    (rw (first, second, signature) refl) (omega (arith, long, both, two)) (omega (arith, long, both, two)) (omega (arith, long, both, two, same))

of_signed : (expect : Expect) (r : SignedReference) → IsMessage expect (refers_signed r) → IsSignedReference r
of_signed SignedFrames r may = may
of_signed expect r may = absurd may

in_front : (expect : Expect) (bytes : List ℕ) (m : Said) (rest : List ℕ) → IsMessage expect m → bytes ≡ spelling m ++ rest → InFront bytes m rest
in_front expect bytes (hello false g) rest may whole = greeting_there bytes false g rest 72 whole refl refl
in_front expect bytes (hello true g) rest may whole = greeting_there bytes true g rest 76 whole refl refl
in_front expect bytes (way w) rest may whole = way_there bytes w rest whole
in_front expect bytes (frame f) rest may whole = frame_there bytes f rest whole
in_front expect bytes (refers r) rest may whole = reference_there bytes r rest whole
in_front expect bytes (report text) rest may whole = report_there bytes text rest whole
in_front expect bytes asks rest may whole = shows bytes asks rest whole (ended bytes rest (shown_of asks)) refl refl refl (omega arith) (omega arith) (omega arith)
in_front expect bytes (ack label) rest may whole = shows bytes (ack label) rest whole (ended bytes rest (shown_of (ack label))) refl refl refl (omega arith) (omega arith) (omega arith)
in_front expect bytes (lacks label) rest may whole = shows bytes (lacks label) rest whole (ended bytes rest (shown_of (lacks label))) refl refl refl (omega arith) (omega arith) (omega arith)
in_front expect bytes (filler label) rest may whole = shows bytes (filler label) rest whole (ended bytes rest (shown_of (filler label))) refl refl refl (omega arith) (omega arith) (omega arith)
in_front expect bytes goodbye rest may whole = shows bytes goodbye rest whole (ended bytes rest (shown_of goodbye)) refl refl refl (omega arith) (omega arith) (omega arith)
in_front expect bytes (numbered n) rest may whole = numbered_there bytes n rest whole
in_front expect bytes (signed f) rest may whole = signed_there bytes f rest whole
in_front expect bytes (refers_signed r) rest may whole = signed_reference_there bytes r rest (of_signed expect r may) whole

-- what was read is in front, and the rest is no longer than all
pub found_there : (expect : Expect) (bytes : List ℕ) (m : Said) (rest : List ℕ) → AreBytes bytes → message_at expect bytes ≡ Ok (m, rest)
    → InFront bytes m rest
found_there expect bytes m rest are read =
    let there = message_there expect bytes m rest are read in in_front expect bytes m rest there.0 there.1

pub within : (expect : Expect) (bytes : List ℕ) (m : Said) (rest : List ℕ) → AreBytes bytes → message_at expect bytes ≡ Ok (m, rest)
    → length rest ≤ length bytes
within expect bytes m rest are read = omega (arith, (found_there expect bytes m rest are read).end)

-- the same of the hello of a word
abbrev read_of : Result (Said × List ℕ) Fault → Option (Greeted × List ℕ) → Result (Said × List ℕ) Fault
read_of other (Some x) = Ok (hello false x.0, x.1)
read_of other None = other

hello_read : (read : Result (Said × List ℕ) Fault) (g : Greeted) (rest : List ℕ) → hello_of read ≡ Some (g, rest) → read ≡ Ok (hello false g, rest)
hello_read (Ok (hello false h, after)) g rest is = ap (read_of (Ok (hello false h, after))) is
hello_read (Ok (hello true h, after)) g rest is = absurd cc
hello_read (Ok (way w, after)) g rest is = absurd cc
hello_read (Ok (frame f, after)) g rest is = absurd cc
hello_read (Ok (refers r, after)) g rest is = absurd cc
hello_read (Ok (asks, after)) g rest is = absurd cc
hello_read (Ok (ack label, after)) g rest is = absurd cc
hello_read (Ok (lacks label, after)) g rest is = absurd cc
hello_read (Ok (report text, after)) g rest is = absurd cc
hello_read (Ok (goodbye, after)) g rest is = absurd cc
hello_read (Ok (numbered n, after)) g rest is = absurd cc
hello_read (Ok (signed f, after)) g rest is = absurd cc
hello_read (Ok (refers_signed r, after)) g rest is = absurd cc
hello_read (Ok (filler label, after)) g rest is = absurd cc
hello_read (Err fault) g rest is = absurd cc

word_there : (bytes : List ℕ) (g : Greeted) (rest : List ℕ) → AreBytes bytes → Some (g, rest) ≡ word_at bytes → InFront bytes (hello false g) rest
word_there bytes g rest are read = found_there Hello bytes (hello false g) rest are (hello_read (message_at Hello bytes) g rest (sym read))

pub word_found : (bytes : List ℕ) (old : WireMessage) (g : Greeted) (rest : List ℕ) → AreBytes bytes → Some (g, rest) ≡ word_at bytes
    → ReadWord bytes old (word_at bytes) true (ended bytes rest (shown_of (hello false g)))
word_found bytes old g rest are read =
    subst (λ (word : Option (Greeted × List ℕ)). ReadWord bytes old word true (ended bytes rest (shown_of (hello false g)))) read
    (refl, word_there bytes g rest are read)

pub word_within : (bytes : List ℕ) (g : Greeted) (rest : List ℕ) → AreBytes bytes → Some (g, rest) ≡ word_at bytes → length rest ≤ length bytes
word_within bytes g rest are read = omega (arith, (word_there bytes g rest are read).end)
