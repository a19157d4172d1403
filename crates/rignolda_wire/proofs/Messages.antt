-- What the readers of all other messages do up to version 4.
use Rattle.std.proofs.Common.{◌≡◌, ℕ, ◌^◌, ◌<◌, ◌≤◌, inl, inr, true, List, [], ◌∷◌, ◌++◌, length, refl, arith}
use Rattle.std.specs.Int.{w16, w32, to_be_bytes}
use Rattle.rignolda_wire.specs.declared.fault.Fault.TheVariants.{LongBody, LongReport, LongWay, NoNameOfWay}
use Rattle.rignolda_wire.specs.declared.said.Expect.TheVariants.{Way, Frames, Acks}
use Rattle.rignolda_wire.specs.Names.{are_few, are_names}
use Rattle.rignolda_wire.specs.Reading.{◌>>=◌, Reader, candidate_at, child_at, counted_at, frame_at, give, kind_at, limited_at, names_at, number_at, parent_at, reference_at, text_at, way_at}
use Rattle.rignolda_wire.specs.Said.{Framed, IsFrame, IsMessage, IsReference, IsWay, Referred, Routed, Said, ack, asks, body_limit, digest_len, frame, frame_bytes, goodbye, head_len, lacks, letter, reference_bytes, refers, report, report_limit, spelling, way, way_bytes, way_limit}
use Rattle.rignolda_wire.proofs.Codecs.{Any, IsCodec, codec_after, codec_like, codec_map, codec_wanted}
use Rattle.rignolda_wire.proofs.Parts.{codec_number, codec_text, wide16, wide32}
use Rattle.rignolda_wire.proofs.Others.{codec_counted, codec_limited, long_body, long_report, long_way, no_name_of_way}
use Rattle.rignolda_wire.proofs.Choices.{Choices, IsAmong, IsKind, codec_alone, codec_among, codec_kind}

-- ---- ways

-- the names of a way, behind their length
abbrev counted_names : List ℕ → List ℕ
counted_names names = to_be_bytes w16 (length names) ++ names

abbrev AreNamesOfWay : List ℕ → Type 0
AreNamesOfWay names = ((length names ≤ way_limit) × (are_few names ≡ true)) × (are_names names ≡ true)

codec_names : IsCodec (List ℕ) Any AreNamesOfWay counted_names 8322 names_at
unfolding names_at
codec_names =
    codec_wanted are_names NoNameOfWay no_name_of_way (codec_wanted are_few LongWay long_way
    (codec_counted w16 (2 ^ 16) way_limit LongWay long_way wide16 (omega arith)))

abbrev routes : ℕ → List ℕ → Routed
routes cost names = record { cost = cost; names = names }

pub codec_way : IsCodec Routed Any IsWay way_bytes 8324 way_at
unfolding way_at
codec_way =
    codec_like (codec_after (λ (w : Routed). w.cost) (λ cost. names_at >>= λ names. give (routes cost names)) (codec_number w16 (2 ^ 16) wide16)
    (λ cost _. codec_map (λ w. (w.cost ≡ cost) × Any w) (λ w. AreNamesOfWay w.names) (λ w. counted_names w.names) (routes cost) codec_names
    (λ names are. ((refl, tt), are, refl))
    (λ w known are. (w.names, rw (← known.0) refl, are))))
    (omega arith)
    (λ w known good. (tt, record { cost = good.0; short = good.1.0.0; few = good.1.0.1; each = good.1.1 }, refl))
    (λ w known is. (tt, (is.cost, ((is.short, is.few), is.each))))

way_of_candidate : IsKind Way 87 Routed way IsWay
way_of_candidate (way w) begins may = (w, refl, may)
way_of_candidate m begins may = absurd may

way_of_parent : IsKind Frames 87 Routed way IsWay
way_of_parent (way w) begins may = (w, refl, may)
way_of_parent (frame f) begins may = absurd (omega (arith, begins))
way_of_parent (refers r) begins may = absurd (omega (arith, begins))
way_of_parent asks begins may = absurd (omega (arith, begins))
way_of_parent m begins may = absurd may

-- ---- frames

abbrev frames : ℕ → ℕ → List ℕ → Framed
frames label item body = record { label = label; item = item; body = body }

abbrev with_body : ℕ → ℕ → Reader Framed
with_body label item = counted_at w32 body_limit LongBody >>= λ body. give (frames label item body)

codec_frame : IsCodec Framed Any IsFrame frame_bytes 16777226 frame_at
unfolding frame_at
codec_frame =
    codec_like (codec_after (λ (f : Framed). f.label) (λ label. number_at w32 >>= with_body label) (codec_number w16 (2 ^ 16) wide16)
    (λ label _. codec_after (λ (f : Framed). f.item) (with_body label) (codec_number w32 (2 ^ 32) wide32)
    (λ item _. codec_map (λ f. (f.item ≡ item) × ((f.label ≡ label) × Any f)) (λ f. length f.body ≤ body_limit) (λ f. to_be_bytes w32 (length f.body) ++ f.body) (frames label item)
    (codec_counted w32 (2 ^ 32) body_limit LongBody long_body wide32 (omega arith))
    (λ body short. ((refl, (refl, tt)), short, refl))
    (λ f known short. (f.body, rw (← known.0, ← known.1.0) refl, short)))))
    (omega arith)
    (λ f known good. (tt, record { label = good.0; item = good.1.0; short = good.1.1 }, refl))
    (λ f known is. (tt, (is.label, (is.item, is.short))))

frame_of_parent : IsKind Frames 70 Framed frame IsFrame
frame_of_parent (frame f) begins may = (f, refl, may)
frame_of_parent (way w) begins may = absurd (omega (arith, begins))
frame_of_parent (refers r) begins may = absurd (omega (arith, begins))
frame_of_parent asks begins may = absurd (omega (arith, begins))
frame_of_parent m begins may = absurd may

-- ---- references

abbrev reference : ℕ → ℕ → ℕ → List ℕ → List ℕ → Referred
reference label item len head digest = record { label = label; item = item; len = len; head = head; digest = digest }

abbrev with_digest : ℕ → ℕ → ℕ → List ℕ → Reader Referred
with_digest label item len head = text_at digest_len >>= λ digest. give (reference label item len head digest)

abbrev with_head : ℕ → ℕ → ℕ → Reader Referred
with_head label item len = text_at head_len >>= with_digest label item len

abbrev with_len : ℕ → ℕ → Reader Referred
with_len label item = limited_at w32 body_limit LongBody >>= with_head label item

-- what is known of a reference when its last field is read
abbrev Known : ℕ → ℕ → ℕ → List ℕ → Referred → Type 0
Known label item len head r = (r.head ≡ head) × ((r.len ≡ len) × ((r.item ≡ item) × ((r.label ≡ label) × Any r)))

codec_so_long : (n : ℕ) → IsCodec (List ℕ) Any (λ t. length t ≡ n) (λ t. t) n (text_at n)
codec_so_long n = codec_text Any (λ t. length t ≡ n) n n (omega arith) (λ t known good. good) (λ t is. (tt, is))

pub codec_reference : IsCodec Referred Any IsReference reference_bytes 51 reference_at
unfolding reference_at
codec_reference =
    codec_like (codec_after (λ (r : Referred). r.label) (λ label. number_at w32 >>= with_len label) (codec_number w16 (2 ^ 16) wide16)
    (λ label _. codec_after (λ (r : Referred). r.item) (with_len label) (codec_number w32 (2 ^ 32) wide32)
    (λ item _. codec_after (λ (r : Referred). r.len) (with_head label item) (codec_limited w32 (2 ^ 32) body_limit LongBody long_body wide32 (omega arith))
    (λ len _. codec_after (λ (r : Referred). r.head) (with_digest label item len) (codec_so_long head_len)
    (λ head _. codec_map (Known label item len head) (λ r. length r.digest ≡ digest_len) (λ r. r.digest) (reference label item len head) (codec_so_long digest_len)
    (λ digest is. ((refl, (refl, (refl, (refl, tt)))), is, refl))
    (λ r known is. (r.digest, rw (← known.0, ← known.1.0, ← known.1.1.0, ← known.1.1.1.0) refl, is)))))))
    (omega arith)
    (λ r known good. (tt, record { label = good.0; item = good.1.0; short = good.1.1.0; head = good.1.1.1.0; digest = good.1.1.1.1 }, refl))
    (λ r known is. (tt, (is.label, (is.item, (is.short, (is.head, is.digest))))))

reference_of_parent : IsKind Frames 68 Referred refers IsReference
reference_of_parent (refers r) begins may = (r, refl, may)
reference_of_parent (frame f) begins may = absurd (omega (arith, begins))
reference_of_parent (way w) begins may = absurd (omega (arith, begins))
reference_of_parent asks begins may = absurd (omega (arith, begins))
reference_of_parent m begins may = absurd may

-- ---- what a candidate says

abbrev of_candidates : Choices
of_candidates = (87, kind_at way way_at) ∷ []

among_candidates : (m : Said) → IsMessage Way m → IsAmong (letter m) of_candidates
among_candidates (way w) may = inl refl
among_candidates m may = absurd may

pub codec_candidate : IsCodec Said Any (IsMessage Way) spelling 8325 candidate_at
unfolding candidate_at
codec_candidate =
    codec_among Way 8324 of_candidates
    (omega arith, ((λ first is. codec_kind {k = 8324} Way first 87 way is (omega arith) codec_way (λ w good. (refl, good, refl)) way_of_candidate), tt))
    among_candidates

-- ---- what a parent says

abbrev of_parents : Choices
of_parents = (70, kind_at frame frame_at) ∷ (68, kind_at refers reference_at) ∷ (87, kind_at way way_at) ∷ (81, give asks) ∷ []

among_parents : (m : Said) → IsMessage Frames m → IsAmong (letter m) of_parents
among_parents (frame f) may = inl refl
among_parents (refers r) may = inr (inl refl)
among_parents (way w) may = inr (inr (inl refl))
among_parents asks may = inr (inr (inr (inl refl)))
among_parents m may = absurd may

asks_of_parent : (m : Said) → letter m ≡ 81 → IsMessage Frames m → m ≡ asks
asks_of_parent asks begins may = refl
asks_of_parent (frame f) begins may = absurd (omega (arith, begins))
asks_of_parent (refers r) begins may = absurd (omega (arith, begins))
asks_of_parent (way w) begins may = absurd (omega (arith, begins))
asks_of_parent m begins may = absurd may

pub codec_parent : IsCodec Said Any (IsMessage Frames) spelling 16777227 parent_at
unfolding parent_at
codec_parent =
    let k : ℕ = 16777226 in
    codec_among Frames k of_parents (
      omega arith,
      (
        (λ first is. codec_kind {k = k} Frames first 70 frame is (omega arith) codec_frame (λ f good. (refl, good, refl)) frame_of_parent),
        (
          omega arith,
          (
            (λ first is. codec_kind {k = k} Frames first 68 refers is (omega arith) codec_reference (λ r good. (refl, good, refl)) reference_of_parent),
            (
              omega arith,
              (
                (λ first is. codec_kind {k = k} Frames first 87 way is (omega arith) codec_way (λ w good. (refl, good, refl)) way_of_parent),
                (omega arith, (codec_alone Frames k 81 asks refl refl tt asks_of_parent, tt)),
              ),
            ),
          ),
        ),
      ),
    )
    among_parents

-- ---- what a child says

abbrev of_children : Choices
of_children = (65, kind_at ack (number_at w16)) ∷ (78, kind_at lacks (number_at w16)) ∷ (82, kind_at report (counted_at w32 report_limit LongReport)) ∷ (71, give goodbye) ∷ []

among_children : (m : Said) → IsMessage Acks m → IsAmong (letter m) of_children
among_children (ack label) may = inl refl
among_children (lacks label) may = inr (inl refl)
among_children (report text) may = inr (inr (inl refl))
among_children goodbye may = inr (inr (inr (inl refl)))
among_children m may = absurd may

abbrev pub IsLabel : ℕ → Type 0
IsLabel label = label < 2 ^ 16

abbrev IsReport : List ℕ → Type 0
IsReport text = length text ≤ report_limit

goodbye_of_child : (m : Said) → letter m ≡ 71 → IsMessage Acks m → m ≡ goodbye
goodbye_of_child goodbye begins may = refl
goodbye_of_child (ack label) begins may = absurd (omega (arith, begins))
goodbye_of_child (lacks label) begins may = absurd (omega (arith, begins))
goodbye_of_child (report text) begins may = absurd (omega (arith, begins))
goodbye_of_child m begins may = absurd may

ack_of_child : IsKind Acks 65 ℕ ack IsLabel
ack_of_child (ack label) begins may = (label, refl, may)
ack_of_child (lacks label) begins may = absurd (omega (arith, begins))
ack_of_child (report text) begins may = absurd (omega (arith, begins))
ack_of_child goodbye begins may = absurd (omega (arith, begins))
ack_of_child m begins may = absurd may

lacks_of_child : IsKind Acks 78 ℕ lacks IsLabel
lacks_of_child (lacks label) begins may = (label, refl, may)
lacks_of_child (ack label) begins may = absurd (omega (arith, begins))
lacks_of_child (report text) begins may = absurd (omega (arith, begins))
lacks_of_child goodbye begins may = absurd (omega (arith, begins))
lacks_of_child m begins may = absurd may

report_of_child : IsKind Acks 82 (List ℕ) report IsReport
report_of_child (report text) begins may = (text, refl, may)
report_of_child (ack label) begins may = absurd (omega (arith, begins))
report_of_child (lacks label) begins may = absurd (omega (arith, begins))
report_of_child goodbye begins may = absurd (omega (arith, begins))
report_of_child m begins may = absurd may

pub codec_child : IsCodec Said Any (IsMessage Acks) spelling 1048581 child_at
unfolding child_at
codec_child =
    let k : ℕ = 1048580 in
    let number = codec_number w16 (2 ^ 16) wide16 in
    codec_among Acks k of_children (
      omega arith,
      (
        (λ first is. codec_kind {k = k} Acks first 65 ack is (omega arith) number (λ label low. (refl, low, refl)) ack_of_child),
        (
          omega arith,
          (
            (λ first is. codec_kind {k = k} Acks first 78 lacks is (omega arith) number (λ label low. (refl, low, refl)) lacks_of_child),
            (
              omega arith,
              (
                (λ first is.
                    codec_kind {k = k} Acks first 82 report is (omega arith) (codec_counted w32 (2 ^ 32) report_limit LongReport long_report wide32 (omega arith))
                    (λ text short. (refl, short, refl)) report_of_child),
                (omega arith, (codec_alone Acks k 71 goodbye refl refl tt goodbye_of_child, tt)),
              ),
            ),
          ),
        ),
      ),
    )
    among_children
