-- What the readers of messages of version 5 do, and that of any message.
use Rattle.std.proofs.Common.{◌≡◌, ℕ, ◌^◌, ◌≤◌, inl, inr, List, [], ◌∷◌, ◌++◌, length, refl, arith}
use Rattle.std.specs.Int.{w16, w32, w64, to_be_bytes}
use Rattle.rignolda_wire.specs.declared.fault.Fault.TheVariants.{LongBody, LongSignature}
use Rattle.rignolda_wire.specs.declared.said.Expect.{Expect}
use Rattle.rignolda_wire.specs.declared.said.Expect.TheVariants.{Hello, Way, NumberedWay, Frames, SignedFrames, Acks}
use Rattle.rignolda_wire.specs.Reading.{◌>>=◌, Reader, counted_at, give, kind_at, message_at, number_at, numbered_at, numbering_candidate_at, signed_at, signed_reference_at, signing_parent_at, way_at}
use Rattle.rignolda_wire.specs.Said.{IsMessage, IsNumbered, IsSigned, IsSignedReference, IsWay, Numbered, Referred, Routed, Said, Signed, SignedReference, asks, body_limit, filler, letter, most, numbered, numbered_bytes, refers_signed, signature_bytes, signature_limit, signed, signed_bytes, signed_reference_bytes, spelling, way_bytes}
use Rattle.rignolda_wire.proofs.Codecs.{Any, IsCodec, codec_after, codec_like, codec_map}
use Rattle.rignolda_wire.proofs.Parts.{codec_number, wide16, wide32, wide64}
use Rattle.rignolda_wire.proofs.Others.{codec_counted, long_body, long_signature}
use Rattle.rignolda_wire.proofs.Hellos.{codec_hello}
use Rattle.rignolda_wire.proofs.Choices.{Choices, Chosen, IsAmong, IsKind, codec_alone, codec_among, codec_kind}
use Rattle.rignolda_wire.proofs.Messages.{IsLabel, codec_candidate, codec_child, codec_parent, codec_reference, codec_way}

-- ---- ways with a number

abbrev numbers : ℕ → Routed → Numbered
numbers number route = record { number = number; route = route }

codec_numbered : IsCodec Numbered Any IsNumbered numbered_bytes 8332 numbered_at
unfolding numbered_at
codec_numbered =
    codec_like (codec_after (λ (n : Numbered). n.number) (λ number. way_at >>= λ route. give (numbers number route)) (codec_number w64 (2 ^ 64) wide64)
    (λ number _. codec_map (λ n. (n.number ≡ number) × Any n) (λ n. IsWay n.route) (λ n. way_bytes n.route) (numbers number) codec_way
    (λ route is. ((refl, tt), is, refl))
    (λ n known is. (n.route, rw (← known.0) refl, is))))
    (omega arith)
    (λ n known good. (tt, record { number = good.0; route = good.1 }, refl))
    (λ n known is. (tt, (is.number, is.route)))

-- ---- frames with a signature

codec_signature : IsCodec (List ℕ) Any (λ s. length s ≤ signature_limit) signature_bytes 1026 (counted_at w16 signature_limit LongSignature)
codec_signature = codec_counted w16 (2 ^ 16) signature_limit LongSignature long_signature wide16 (omega arith)

abbrev signs : ℕ → ℕ → List ℕ → List ℕ → Signed
signs label item signature body = record { label = label; item = item; signature = signature; body = body }

abbrev behind_signature : ℕ → ℕ → List ℕ → Reader Signed
behind_signature label item signature = counted_at w32 body_limit LongBody >>= λ body. give (signs label item signature body)

abbrev behind_item : ℕ → ℕ → Reader Signed
behind_item label item = counted_at w16 signature_limit LongSignature >>= behind_signature label item

codec_signed : IsCodec Signed Any IsSigned signed_bytes 16778252 signed_at
unfolding signed_at
codec_signed =
    codec_like (codec_after (λ (f : Signed). f.label) (λ label. number_at w32 >>= behind_item label) (codec_number w16 (2 ^ 16) wide16)
    (λ label _. codec_after (λ (f : Signed). f.item) (behind_item label) (codec_number w32 (2 ^ 32) wide32)
    (λ item _. codec_after (λ (f : Signed). f.signature) (behind_signature label item) codec_signature
    (λ signature _. codec_map (λ f. (f.signature ≡ signature) × ((f.item ≡ item) × ((f.label ≡ label) × Any f))) (λ f. length f.body ≤ body_limit) (λ f. to_be_bytes w32 (length f.body) ++ f.body) (signs label item signature)
    (codec_counted w32 (2 ^ 32) body_limit LongBody long_body wide32 (omega arith))
    (λ body short. ((refl, (refl, (refl, tt))), short, refl))
    (λ f known short. (f.body, rw (← known.0, ← known.1.0, ← known.1.1.0) refl, short))))))
    (omega arith)
    (λ f known good. (tt, record { label = good.0; item = good.1.0; signature = good.1.1.0; short = good.1.1.1 }, refl))
    (λ f known is. (tt, (is.label, (is.item, (is.signature, is.short)))))

abbrev signs_reference : Referred → List ℕ → SignedReference
signs_reference reference signature = record { reference = reference; signature = signature }

codec_signed_reference : IsCodec SignedReference Any IsSignedReference signed_reference_bytes 1077 signed_reference_at
unfolding signed_reference_at
codec_signed_reference =
    codec_like (codec_after (λ (r : SignedReference). r.reference) (λ reference. counted_at w16 signature_limit LongSignature >>= λ signature. give (signs_reference reference signature)) codec_reference
    (λ reference _. codec_map (λ r. (r.reference ≡ reference) × Any r) (λ r. length r.signature ≤ signature_limit) (λ r. signature_bytes r.signature) (signs_reference reference) codec_signature
    (λ signature short. ((refl, tt), short, refl))
    (λ r known short. (r.signature, rw (← known.0) refl, short))))
    (omega arith)
    (λ r known good. (tt, record { reference = good.0; signature = good.1 }, refl))
    (λ r known is. (tt, (is.reference, is.signature)))

-- ---- what a candidate says

abbrev of_candidates : Choices
of_candidates = (86, kind_at numbered numbered_at) ∷ []

among_candidates : (m : Said) → IsMessage NumberedWay m → IsAmong (letter m) of_candidates
among_candidates (numbered n) may = inl refl
among_candidates m may = absurd may

way_of_candidate : IsKind NumberedWay 86 Numbered numbered IsNumbered
way_of_candidate (numbered n) begins may = (n, refl, may)
way_of_candidate m begins may = absurd may

codec_candidate_5 : IsCodec Said Any (IsMessage NumberedWay) spelling 8333 numbering_candidate_at
unfolding numbering_candidate_at
codec_candidate_5 =
    codec_among NumberedWay 8332 of_candidates
    (omega arith, ((λ first is. codec_kind {k = 8332} NumberedWay first 86 numbered is (omega arith) codec_numbered (λ n good. (refl, good, refl)) way_of_candidate), tt))
    among_candidates

-- ---- what a parent says

abbrev of_parents : Choices
of_parents =
    (83, kind_at signed signed_at) ∷ (66, kind_at refers_signed signed_reference_at) ∷ (86, kind_at numbered numbered_at) ∷ (69, kind_at filler (number_at w16)) ∷ (81, give asks) ∷ []

among_parents : (m : Said) → IsMessage SignedFrames m → IsAmong (letter m) of_parents
among_parents (signed f) may = inl refl
among_parents (refers_signed r) may = inr (inl refl)
among_parents (numbered n) may = inr (inr (inl refl))
among_parents (filler label) may = inr (inr (inr (inl refl)))
among_parents asks may = inr (inr (inr (inr (inl refl))))
among_parents m may = absurd may

asks_of_parent : (m : Said) → letter m ≡ 81 → IsMessage SignedFrames m → m ≡ asks
asks_of_parent asks begins may = refl
asks_of_parent (signed f) begins may = absurd (omega (arith, begins))
asks_of_parent (refers_signed r) begins may = absurd (omega (arith, begins))
asks_of_parent (numbered n) begins may = absurd (omega (arith, begins))
asks_of_parent (filler label) begins may = absurd (omega (arith, begins))
asks_of_parent m begins may = absurd may

frame_of_parent : IsKind SignedFrames 83 Signed signed IsSigned
frame_of_parent (signed f) begins may = (f, refl, may)
frame_of_parent (refers_signed r) begins may = absurd (omega (arith, begins))
frame_of_parent (numbered n) begins may = absurd (omega (arith, begins))
frame_of_parent (filler label) begins may = absurd (omega (arith, begins))
frame_of_parent asks begins may = absurd (omega (arith, begins))
frame_of_parent m begins may = absurd may

reference_of_parent : IsKind SignedFrames 66 SignedReference refers_signed IsSignedReference
reference_of_parent (refers_signed r) begins may = (r, refl, may)
reference_of_parent (signed f) begins may = absurd (omega (arith, begins))
reference_of_parent (numbered n) begins may = absurd (omega (arith, begins))
reference_of_parent (filler label) begins may = absurd (omega (arith, begins))
reference_of_parent asks begins may = absurd (omega (arith, begins))
reference_of_parent m begins may = absurd may

way_of_parent : IsKind SignedFrames 86 Numbered numbered IsNumbered
way_of_parent (numbered n) begins may = (n, refl, may)
way_of_parent (signed f) begins may = absurd (omega (arith, begins))
way_of_parent (refers_signed r) begins may = absurd (omega (arith, begins))
way_of_parent (filler label) begins may = absurd (omega (arith, begins))
way_of_parent asks begins may = absurd (omega (arith, begins))
way_of_parent m begins may = absurd may

filler_of_parent : IsKind SignedFrames 69 ℕ filler IsLabel
filler_of_parent (filler label) begins may = (label, refl, may)
filler_of_parent (signed f) begins may = absurd (omega (arith, begins))
filler_of_parent (refers_signed r) begins may = absurd (omega (arith, begins))
filler_of_parent (numbered n) begins may = absurd (omega (arith, begins))
filler_of_parent asks begins may = absurd (omega (arith, begins))
filler_of_parent m begins may = absurd may

is_frame : Chosen SignedFrames 16778252 83 (kind_at signed signed_at)
is_frame first is = codec_kind {k = 16778252} SignedFrames first 83 signed is (omega arith) codec_signed (λ f good. (refl, good, refl)) frame_of_parent

is_reference : Chosen SignedFrames 16778252 66 (kind_at refers_signed signed_reference_at)
is_reference first is = codec_kind {k = 16778252} SignedFrames first 66 refers_signed is (omega arith) codec_signed_reference (λ r good. (refl, good, refl)) reference_of_parent

is_way : Chosen SignedFrames 16778252 86 (kind_at numbered numbered_at)
is_way first is = codec_kind {k = 16778252} SignedFrames first 86 numbered is (omega arith) codec_numbered (λ n good. (refl, good, refl)) way_of_parent

is_filler : Chosen SignedFrames 16778252 69 (kind_at filler (number_at w16))
is_filler first is = codec_kind {k = 16778252} SignedFrames first 69 filler is (omega arith) (codec_number w16 (2 ^ 16) wide16) (λ label low. (refl, low, refl)) filler_of_parent

codec_parent_5 : IsCodec Said Any (IsMessage SignedFrames) spelling 16778253 signing_parent_at
unfolding signing_parent_at
codec_parent_5 =
    let is_request : Chosen SignedFrames 16778252 81 (give asks) = codec_alone SignedFrames 16778252 81 asks refl refl tt asks_of_parent in
    codec_among SignedFrames 16778252 of_parents (omega arith, (is_frame, (omega arith, (is_reference, (omega arith, (is_way, (omega arith, (is_filler, (omega arith, (is_request, tt)))))))))) among_parents

-- ---- any message

pub codec_message : (expect : Expect) → IsCodec Said Any (IsMessage expect) spelling (most expect) (message_at expect)
codec_message Hello = codec_hello
codec_message Way = codec_candidate
codec_message NumberedWay = codec_candidate_5
codec_message Frames = codec_parent
codec_message SignedFrames = codec_parent_5
codec_message Acks = codec_child
