-- The lines of a link are single lines, which show its numbers; and what is read of them is the
-- link. So where what is read prints another text, no link has this one.
use Rattle.std.proofs.Common.{◌≡◌, ◌≢◌, ℕ, ◌+◌, ◌<◌, ◌^◌, List, [], ◌∷◌, ◌++◌, length, map, IfOk, Result, Ok, Err, Bool, true, false, Option, None, decimal, codes, refl, sym, ap, ap₂, ◌∙◌, rules, arith, append_assoc, lt-ltb, drop, get_or, if◌then◌else◌}
use Rattle.std.proofs.lemmas.List.{append-nil, drop_more}
use Rattle.std.proofs.lemmas.List.Elements.{All-head, All-tail}
use Rattle.std.proofs.lemmas.List.Folds.{list_any-append}
use Rattle.std.specs.Char.{is_ascii_digit}
use Rattle.std.specs.List.{flat_map, list_any}
use Rattle.stab_frames.specs.declared.frame.Frame.{Frame}
use Rattle.stab_core.specs.LinkState.{LinkState}
use Rattle.stab_core.specs.Texts.{closed_line, frame_entry, frames_line, link_text, newline, number_entry, number_line, numbers_line}
use Rattle.stab_report.specs.Lines.{AreItems, BeginsWithNoDigit, HasNoDigit, IsOneLine, Shows}
use Rattle.stab_report.proofs.Nodes.{one_line_both, one_line_decimal}
use Rattle.rignolda_verdict.specs.LinkTexts.{AreFrames, AreLabels, IsNoLink, IsPrintable, frame_numbers, frames_after, label_or_zero}

-- a label is one
pub same_label : (n : ℕ) → n < 2 ^ 16 → label_or_zero n ≡ n
same_label n small = rw (lt-ltb n (2 ^ 16) small) refl

pub same_labels : (labels : List ℕ) → AreLabels labels → map label_or_zero labels ≡ labels
same_labels [] small = refl
same_labels (n ∷ labels) small =
    ap₂ (λ m ns. m ∷ ns) (same_label n (All-head (λ label. label < 2 ^ 16) n labels small))
    (same_labels labels (All-tail (λ label. label < 2 ^ 16) n labels small))

-- labels are numbers below 2 ^ 32
pub labels_are_items : (labels : List ℕ) → AreLabels labels → AreItems labels
labels_are_items labels small place label within = omega (arith, small place label within)

-- frames are made of their numbers
abbrev IsFrame : Frame → Type 0
IsFrame frame = (frame.label < 2 ^ 16) × (frame.item < 2 ^ 32)

pub same_frames : (frames : List Frame) → AreFrames frames → frames_after None (flat_map frame_numbers frames) ≡ frames
same_frames [] small = refl
same_frames (f ∷ frames) small =
    rw (same_label f.label (All-head IsFrame f frames small).0, same_frames frames (All-tail IsFrame f frames small)) refl

-- frames that are made of the numbers that a line shows are the frames of the line
pub frames_made : {E : Type 0} (r : Result (List Frame) E) (line numbers : List ℕ) → IfOk r (λ frames. frames ≡ frames_after None numbers)
    → ((all : List ℕ) → Shows line all → numbers ≡ all)
    → IfOk r (λ frames. (all : List Frame) → AreFrames all → Shows line (flat_map frame_numbers all) → frames ≡ all)
frames_made (Ok frames) line numbers made reads =
    λ all small shows. made ∙ ap (frames_after None) (reads (flat_map frame_numbers all) shows) ∙ same_frames all small
frames_made (Err e) line numbers made reads = tt

-- one number on
pub frames_step : (numbers : List ℕ) (i : ℕ) (waiting : Option ℕ) → i < length numbers
    → frames_after waiting (drop i numbers) ≡ frames_after waiting (get_or numbers i 0 ∷ drop (i + 1) numbers)
frames_step numbers i waiting within = ap (λ ns. frames_after waiting ns) (drop_more numbers i 0 within)

-- the line of frames is one line
one_line_frame : (f : Frame) → IsOneLine (frame_entry f)
one_line_frame f =
    one_line_both (codes " " ++ decimal f.label ++ codes "=") (decimal f.item)
    (one_line_both (codes " " ++ decimal f.label) (codes "=") (one_line_both (codes " ") (decimal f.label) refl (one_line_decimal f.label)) refl)
    (one_line_decimal f.item)

one_line_entries : (frames : List Frame) → IsOneLine (flat_map frame_entry frames)
one_line_entries [] = refl
one_line_entries (f ∷ frames) = one_line_both (frame_entry f) (flat_map frame_entry frames) (one_line_frame f) (one_line_entries frames)

abbrev pub frames_line_of : List Frame → List ℕ
frames_line_of frames = codes "frames:" ++ flat_map frame_entry frames

pub one_line_frames : (frames : List Frame) → IsOneLine (frames_line_of frames)
one_line_frames frames = one_line_both (codes "frames:") (flat_map frame_entry frames) refl (one_line_entries frames)

pub one_line_number : (label : List ℕ) (n : ℕ) → IsOneLine label → IsOneLine (label ++ number_entry n)
one_line_number label n one = one_line_both label (number_entry n) one (one_line_both (codes " ") (decimal n) refl (one_line_decimal n))

-- it shows the numbers of each frame
spaced : (frames : List Frame) → BeginsWithNoDigit (flat_map frame_entry frames)
spaced [] = tt
spaced (f ∷ frames) = refl

pub shows_frames : (label : List ℕ) (frames : List Frame) → HasNoDigit label → AreFrames frames
    → Shows (label ++ flat_map frame_entry frames) (flat_map frame_numbers frames)
shows_frames label [] none small = ap (list_any is_ascii_digit) (append-nil label) ∙ none
shows_frames label (f ∷ frames) none small =
    let more = flat_map frame_entry frames in
    let both = All-head IsFrame f frames small in (
      label ++ codes " ",
      codes "=" ++ (decimal f.item ++ more),
      ap (λ text. label ++ (codes " " ++ text))
          (append_assoc (decimal f.label ++ codes "=") (decimal f.item) more
          ∙ append_assoc (decimal f.label) (codes "=") (decimal f.item ++ more))
          ∙ sym (append_assoc label (codes " ") (decimal f.label ++ (codes "=" ++ (decimal f.item ++ more)))),
      list_any-append is_ascii_digit label (codes " ") ∙ rw none refl,
      refl,
      omega (arith, both.0),
      (codes "=", more, refl, refl, spaced frames, both.1, shows_frames [] frames refl (All-tail IsFrame f frames small)),
    )

-- eight texts, one after the other
pub apart : (a b c d e f g h : List ℕ) → a ++ b ++ c ++ d ++ e ++ f ++ g ++ h ≡ a ++ (b ++ (c ++ (d ++ (e ++ (f ++ (g ++ h))))))
apart a b c d e f g h =
    append_assoc (a ++ b ++ c ++ d ++ e ++ f) g h
    ∙ append_assoc (a ++ b ++ c ++ d ++ e) f (g ++ h)
    ∙ append_assoc (a ++ b ++ c ++ d) e (f ++ (g ++ h))
    ∙ append_assoc (a ++ b ++ c) d (e ++ (f ++ (g ++ h)))
    ∙ append_assoc (a ++ b) c (d ++ (e ++ (f ++ (g ++ h))))
    ∙ append_assoc a b (c ++ (d ++ (e ++ (f ++ (g ++ h)))))

-- what is after each of the first seven lines
abbrev pub after_acks : LinkState → List ℕ
after_acks s = closed_line s.closed

abbrev pub after_frames : LinkState → List ℕ
after_frames s = numbers_line (codes "acks:") s.acks ++ after_acks s

abbrev pub after_recv_label : LinkState → List ℕ
after_recv_label s = frames_line s.frames ++ after_frames s

abbrev pub after_send_label : LinkState → List ℕ
after_send_label s = number_line (codes "recv label:") s.recv_label ++ after_recv_label s

abbrev pub after_acked : LinkState → List ℕ
after_acked s = number_line (codes "send label:") s.send_label ++ after_send_label s

abbrev pub after_offered : LinkState → List ℕ
after_offered s = number_line (codes "acked:") s.acked ++ after_acked s

abbrev pub after_delivered : LinkState → List ℕ
after_delivered s = numbers_line (codes "offered:") s.offered ++ after_offered s

-- the text of a link is its first line and what is after it
pub first_of_eight : (s : LinkState) (text : List ℕ) → text ≡ link_text s
    → text ≡ codes "delivered:" ++ flat_map number_entry s.delivered ++ newline ++ after_delivered s
unfolding link_text numbers_line
first_of_eight s text is =
    is
    ∙ apart (numbers_line (codes "delivered:") s.delivered) (numbers_line (codes "offered:") s.offered) (number_line (codes "acked:") s.acked)
    (number_line (codes "send label:") s.send_label) (number_line (codes "recv label:") s.recv_label) (frames_line s.frames)
    (numbers_line (codes "acks:") s.acks) (closed_line s.closed)

-- so is a line of numbers, of one number and of frames, before any text
pub numbers_cut : (label numbers text rest : List ℕ) → text ≡ numbers_line label numbers ++ rest
    → text ≡ label ++ flat_map number_entry numbers ++ newline ++ rest
unfolding numbers_line
numbers_cut label numbers text rest is = is

pub number_cut : (label : List ℕ) (n : ℕ) (text rest : List ℕ) → text ≡ number_line label n ++ rest
    → text ≡ label ++ number_entry n ++ newline ++ rest
unfolding number_line
number_cut label n text rest is = is

pub frames_cut : (frames : List Frame) (text rest : List ℕ) → text ≡ frames_line frames ++ rest
    → text ≡ codes "frames:" ++ flat_map frame_entry frames ++ newline ++ rest
unfolding frames_line
frames_cut frames text rest is = is

-- the last line
abbrev pub closed_words : Bool → List ℕ
closed_words closed = if closed then codes "closed: yes" else codes "closed: no"

pub closed_cut : (closed : Bool) (text : List ℕ) → text ≡ closed_line closed → text ≡ closed_words closed ++ newline ++ []
unfolding closed_line
closed_cut true text is = is
closed_cut false text is = is

pub one_line_closed : (closed : Bool) → IsOneLine (closed_words closed)
one_line_closed true = refl
one_line_closed false = refl

pub closed_told : (line : List ℕ) (closed told : Bool) → line ≡ closed_words closed → (line ≡ codes "closed: yes" → told ≡ true)
    → (line ≢ codes "closed: yes" → told ≡ false) → told ≡ closed
closed_told line true told is says_so says_not = says_so is
closed_told line false told is says_so says_not =
    says_not (λ same. let lengths : 10 ≡ 11 = ap length (sym is ∙ same) in omega (arith, lengths))

-- links with the same parts are the same
pub same_link : (s t : LinkState) → s.frames ≡ t.frames → s.acks ≡ t.acks → s.send_label ≡ t.send_label → s.offered ≡ t.offered
    → s.acked ≡ t.acked → s.recv_label ≡ t.recv_label → s.delivered ≡ t.delivered → s.closed ≡ t.closed → s ≡ t
same_link s t frames acks send_label offered acked recv_label delivered closed =
    search (rules, frames, acks, send_label, offered, acked, recv_label, delivered, closed)

-- where what is read of a text is printed otherwise, no link has the text
pub no_link : (text written : List ℕ) (shown : LinkState) → ((s : LinkState) → IsPrintable s → text ≡ link_text s → shown ≡ s)
    → written ≡ link_text shown → text ≢ written → IsNoLink text
no_link text written shown reads writes differs s printable is = differs (is ∙ sym (ap link_text (reads s printable is)) ∙ sym writes)
