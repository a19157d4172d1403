-- Texts that are written into a buffer one after the other.
use Rattle.std.proofs.Common.{◌≡◌, ℕ, ◌+◌, ◌≤◌, List, [], ◌∷◌, ◌++◌, length, take, drop, refl, sym, ap, ◌∙◌, append_assoc, arith}
use Rattle.std.proofs.lemmas.List.{append-nil, drop-drop, take_at, drop_at, length-append, length-drop, length-take}
use Rattle.std.specs.List.{flat_map}
use Rattle.std.proofs.lemmas.List.Concat.{flat_map-cons}
use Rattle.rignolda_agent.specs.declared.body.Kind.{Kind}
use Rattle.rignolda_agent.specs.declared.body.Kind.TheVariants.{Changes, Table, Harmless}
use Rattle.rignolda_agent.specs.BodySpelling.{Body, Setting, count_bytes, entry_bytes, head_bytes, spelling}
use Rattle.rignolda_agent.specs.Writing.{count_len, with_body, with_entries, with_text}

past : (front rest : List ℕ) (m : ℕ) → drop (length front + m) (front ++ rest) ≡ drop m rest
past front rest m = sym (drop-drop m (length front) (front ++ rest)) ∙ ap (drop m) (drop_at front rest (length front) refl)

with_text_sized : (buffer : List ℕ) (at : ℕ) (x : List ℕ) → at + length x ≤ length buffer
    → length (with_text buffer at x) ≡ length buffer
with_text_sized buffer at x within =
    omega (
      arith,
      within,
      length-append (take at buffer) (x ++ drop (at + length x) buffer),
      length-append x (drop (at + length x) buffer),
      length-take at buffer,
      length-drop (at + length x) buffer,
    )

-- two texts, the second where the first ends, are one
pub with_both : (buffer : List ℕ) (at : ℕ) (x y : List ℕ) → at ≤ length buffer
    → with_text (with_text buffer at x) (at + length x) y ≡ with_text buffer at (x ++ y)
with_both buffer at x y within =
    let front : List ℕ = take at buffer ++ x in
    let rest : List ℕ = drop (at + length x) buffer in
    let sized : length front ≡ at + length x = omega (arith, length-append (take at buffer) x, length-take at buffer, within) in
    let whole : with_text buffer at x ≡ front ++ rest = sym (append_assoc (take at buffer) x rest) in
    let before : take (at + length x) (front ++ rest) ≡ front = take_at front rest (at + length x) sized in
    let after : drop (at + length x + length y) (front ++ rest) ≡ drop (at + length x + length y) buffer =
    ap (λ n. drop (n + length y) (front ++ rest)) (sym sized)
    ∙ past front rest (length y)
    ∙ drop-drop (length y) (at + length x) buffer in
    let as_long : at + length x + length y ≡ at + length (x ++ y) = omega (arith, length-append x y) in
    ap (λ b. take (at + length x) b ++ (y ++ drop (at + length x + length y) b)) whole
    ∙ ap (λ (b : List ℕ). b ++ (y ++ drop (at + length x + length y) (front ++ rest))) before
    ∙ ap (λ (b : List ℕ). front ++ (y ++ b)) (after ∙ ap (λ n. drop n buffer) as_long)
    ∙ append_assoc (take at buffer) x (y ++ drop (at + length (x ++ y)) buffer)
    ∙ ap (λ (b : List ℕ). take at buffer ++ b) (sym (append_assoc x y (drop (at + length (x ++ y)) buffer)))

pub count_length : (kind : Kind) (count : ℕ) → length (count_bytes kind count) ≡ count_len kind
count_length Changes count = refl
count_length Table count = refl
count_length Harmless count = refl

-- and so are three
pub with_three : (buffer : List ℕ) (at : ℕ) (x y z : List ℕ) → at + length x ≤ length buffer
    → with_text (with_text (with_text buffer at x) (at + length x) y) (at + length x + length y) z
    ≡ with_text buffer at (x ++ (y ++ z))
with_three buffer at x y z within =
    let sized : length (with_text buffer at x) ≡ length buffer = with_text_sized buffer at x within in
    with_both (with_text buffer at x) (at + length x) y z (omega (arith, sized, within))
    ∙ with_both buffer at x (y ++ z) (omega (arith, within))

-- entries that are written one after the other are one text
entries_written : (buffer : List ℕ) (at : ℕ) (text : List ℕ) (ss : List Setting) → at ≤ length buffer
    → with_entries (with_text buffer at text) (at + length text) ss ≡ with_text buffer at (text ++ flat_map entry_bytes ss)
entries_written buffer at text [] within = ap (with_text buffer at) (sym (append-nil text))
entries_written buffer at text (s ∷ ss) within =
    let end : at + length text + length (entry_bytes s) ≡ at + length (text ++ entry_bytes s) = omega (arith, length-append text (entry_bytes s)) in
    ap (λ b. with_entries b (at + length text + length (entry_bytes s)) ss) (with_both buffer at text (entry_bytes s) within)
    ∙ ap (λ n. with_entries (with_text buffer at (text ++ entry_bytes s)) n ss) end
    ∙ entries_written buffer at (text ++ entry_bytes s) ss within
    ∙ ap (with_text buffer at) (
    append_assoc text (entry_bytes s) (flat_map entry_bytes ss)
    ∙ ap (λ (more : List ℕ). text ++ more) (sym (flat_map-cons entry_bytes s ss))
    )

-- so a body that is written is its spelling, in front of what the buffer had
pub body_written : (buffer : List ℕ) (b : Body) → take (length (spelling b)) (with_body buffer b) ≡ spelling b
body_written buffer b =
    let head : List ℕ = head_bytes b.kind b.number (length b.settings) in
    let start : 0 + length head ≡ length head = omega arith in
    ap (λ n. take (length (spelling b)) (with_entries (with_text buffer 0 head) n b.settings)) (sym start)
    ∙ ap (take (length (spelling b))) (entries_written buffer 0 head b.settings (omega arith))
    ∙ take_at (spelling b) (drop (0 + length (spelling b)) buffer) (length (spelling b)) refl
