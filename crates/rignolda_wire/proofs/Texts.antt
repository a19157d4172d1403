-- Texts that are written into a buffer one after the other.
use Rattle.std.proofs.Common.{Bor, ◌≡◌, ℕ, ◌+◌, ◌<◌, ◌≤◌, List, [], ◌++◌, length, map, get_or, take, drop, sym, ap, ◌∙◌, append_assoc, arith}
use Rattle.std.proofs.lemmas.List.{append-nil, drop-drop, drop_more, take-append-drop, take_at, drop_at, length-append, length-take}
use Rattle.rignolda_wire.specs.Writing.{joined, with_text}

-- what is before the end of a text that was written, and what is after a place behind it
kept_before : (buffer : List ℕ) (at : ℕ) (x : List ℕ) → at ≤ length buffer
    → take (at + length x) (with_text buffer at x) ≡ take at buffer ++ x
kept_before buffer at x within =
    ap (take (at + length x)) (sym (append_assoc (take at buffer) x (drop (at + length x) buffer)))
    ∙ take_at (take at buffer ++ x) (drop (at + length x) buffer) (at + length x) (omega (arith, length-append (take at buffer) x, length-take at buffer, within))

kept_after : (buffer : List ℕ) (at : ℕ) (x : List ℕ) (more : ℕ) → at ≤ length buffer
    → drop (at + length x + more) (with_text buffer at x) ≡ drop (at + length x + more) buffer
kept_after buffer at x more within =
    ap (drop (at + length x + more)) (sym (append_assoc (take at buffer) x (drop (at + length x) buffer)))
    ∙ sym (drop-drop more (at + length x) ((take at buffer ++ x) ++ drop (at + length x) buffer))
    ∙ ap (drop more) (drop_at (take at buffer ++ x) (drop (at + length x) buffer) (at + length x) (omega (arith, length-append (take at buffer) x, length-take at buffer, within)))
    ∙ drop-drop more (at + length x) buffer

-- two texts, the second where the first ends, are one
pub with_both : (buffer : List ℕ) (at : ℕ) (x y : List ℕ) → at ≤ length buffer
    → with_text (with_text buffer at x) (at + length x) y ≡ with_text buffer at (x ++ y)
with_both buffer at x y within =
    let all : at + length x + length y ≡ at + length (x ++ y) = omega (arith, length-append x y) in
    let after : List ℕ = drop (at + length x + length y) buffer in
    ap (λ (front : List ℕ). front ++ (y ++ drop (at + length x + length y) (with_text buffer at x))) (kept_before buffer at x within)
    ∙ ap (λ (rest : List ℕ). (take at buffer ++ x) ++ (y ++ rest)) (kept_after buffer at x (length y) within)
    ∙ append_assoc (take at buffer) x (y ++ after)
    ∙ ap (λ (text : List ℕ). take at buffer ++ text) (sym (append_assoc x y after) ∙ ap (λ n. (x ++ y) ++ drop n buffer) all)

-- no text leaves the buffer as it is
pub with_none : (buffer : List ℕ) (at : ℕ) → with_text buffer at [] ≡ buffer
with_none buffer at = let e : at + 0 ≡ at = omega arith in ap (λ n. take at buffer ++ drop n buffer) e ∙ take-append-drop at buffer

-- the next text is in front of what is left
pub next_text : (texts : List (Bor (List ℕ))) (i : ℕ) (none : Bor (List ℕ)) → i < length texts
    → joined (map (λ text. text.now) (drop i texts)) ≡ (get_or texts i none).now ++ joined (map (λ text. text.now) (drop (i + 1) texts))
next_text texts i none within = ap (λ (xs : List (Bor (List ℕ))). joined (map (λ text. text.now) xs)) (drop_more texts i none within)

-- one more text is written, where the one before it ended
pub one_more : (buffer mid all : List ℕ) (at end : ℕ) (text left rest : List ℕ) → at ≤ length buffer
    → mid ≡ with_text buffer at text → end ≡ at + length text → left ≡ text ++ rest → with_text buffer at left ≡ all → with_text mid end rest ≡ all
one_more buffer mid all at end text left rest within put ends whole is =
    ap (λ n. with_text mid n rest) ends ∙ ap (λ (b : List ℕ). with_text b (at + length text) rest) put
    ∙ with_both buffer at text rest within ∙ ap (with_text buffer at) (sym whole) ∙ is

-- nothing follows the last text
pub nothing_more : (text : List ℕ) → text ++ [] ≡ text
nothing_more text = append-nil text

pub behind_both : (x y z : List ℕ) → (x ++ y) ++ z ≡ x ++ (y ++ z)
behind_both x y z = append_assoc x y z

pub as_long : (x y : List ℕ) → length (x ++ y) ≡ length x + length y
as_long x y = length-append x y
