-- How the first line of a node ends: with a count, or with why the node ended, and never with both.
use Rattle.std.proofs.Common.{◌≡◌, ◌≢◌, ℕ, ◌+◌, ◌%◌, ◌^◌, ◌<◌, ◌≤◌, List, [], ◌∷◌, ◌++◌, Bool, true, false, Option, Some, None, decimal, codes, refl, sym, ap, ◌∙◌, arith}
use Rattle.std.proofs.lemmas.Fmt.{decimal_by_steps}
use Rattle.std.proofs.lemmas.List.{append-nil, append_cancel_right}
use Rattle.stab_treecore.specs.Texts.{acked_entry}
use Rattle.stab_report.specs.Lines.{IsCount}
use Rattle.stab_report.specs.Texts.{end_entry}

-- the last byte of a text, and another one where it is empty
abbrev pub last_of : List ℕ → ℕ → ℕ
last_of [] byte = byte
last_of (first ∷ text) byte = last_of text first

last_append : (xs ys : List ℕ) (byte : ℕ) → last_of (xs ++ ys) byte ≡ last_of ys (last_of xs byte)
last_append [] ys byte = refl
last_append (x ∷ xs) ys byte = last_append xs ys x

-- a number ends with a digit
last_digit : (n byte : ℕ) → n < 2 ^ 64 → last_of (decimal n) byte ≤ 57
last_digit n byte small =
    decimal_by_steps (λ m ds. (b : ℕ) → last_of ds b ≤ 57)
    (λ m one b. omega (arith, one))
    (λ m ds many so_far b. rw (last_append ds ((48 + m % 10) ∷ []) b) (omega arith))
    n small byte

-- so does a count, or with a dash
last_counted : (front : List ℕ) (acked : Option ℕ) → IsCount acked → last_of (front ++ acked_entry acked) 0 ≤ 57
last_counted front None small = rw (last_append front (codes " -") 0) (omega arith)
last_counted front (Some n) small = rw (last_append front (32 ∷ decimal n) 0) (last_digit n 32 small)

-- where a node ended, the line ends with another letter
last_upstream : (counts : List ℕ) → last_of (counts ++ codes " ended upstream") 0 ≡ 109
last_upstream counts = last_append counts (codes " ended upstream") 0

last_turns : (counts : List ℕ) → last_of (counts ++ codes " ended turns") 0 ≡ 115
last_turns counts = last_append counts (codes " ended turns") 0

-- one text has one last byte
one_last : (line xs ys : List ℕ) (a b : ℕ) → line ≡ xs → line ≡ ys → last_of xs 0 ≡ a → last_of ys 0 ≡ b → a ≡ b
one_last line xs ys a b is_xs is_ys ends_a ends_b = sym ends_a ∙ ap (λ text. last_of text 0) (sym is_xs ∙ is_ys) ∙ ends_b

module _ (line front : List ℕ) (acked : Option ℕ) (small : IsCount acked) where
  abbrev counts : List ℕ
  counts = front ++ acked_entry acked

  -- a line that ends with a count has no end
  no_letter : (text : List ℕ) (letter : ℕ) → 57 < letter → line ≡ counts ++ [] → line ≡ text → last_of text 0 ≡ letter → ⊥
  no_letter text letter large is is_so ends =
      let counted = last_counted front acked small in
      let same = one_last line counts text (last_of counts 0) letter (is ∙ append-nil counts) is_so refl ends in
      omega (arith, large, counted, same)

  -- cut from it is what is before it
  pub cut_upstream : (end : Option Bool) (rest : List ℕ) → line ≡ counts ++ end_entry end → line ≡ rest ++ codes " ended upstream"
      → (rest ≡ counts) × (Some true ≡ end)
  unfolding end_entry
  cut_upstream None rest is cut = absurd (no_letter (rest ++ codes " ended upstream") 109 (omega arith) is cut (last_upstream rest))
  cut_upstream (Some true) rest is cut = (append_cancel_right rest counts (codes " ended upstream") (sym cut ∙ is), refl)
  cut_upstream (Some false) rest is cut =
      let never = one_last line (counts ++ codes " ended turns") (rest ++ codes " ended upstream") 115 109 is cut (last_turns counts)
      (last_upstream rest) in
      absurd (omega (arith, never))

  pub cut_turns : (end : Option Bool) (rest : List ℕ) → line ≡ counts ++ end_entry end → line ≡ rest ++ codes " ended turns"
      → (rest ≡ counts) × (Some false ≡ end)
  unfolding end_entry
  cut_turns None rest is cut = absurd (no_letter (rest ++ codes " ended turns") 115 (omega arith) is cut (last_turns rest))
  cut_turns (Some true) rest is cut =
      let never = one_last line (counts ++ codes " ended upstream") (rest ++ codes " ended turns") 109 115 is cut (last_upstream counts)
      (last_turns rest) in
      absurd (omega (arith, never))
  cut_turns (Some false) rest is cut = (append_cancel_right rest counts (codes " ended turns") (sym cut ∙ is), refl)

  pub cut_nothing : (end : Option Bool) → line ≡ counts ++ end_entry end → ((rest : List ℕ) → line ≢ rest ++ codes " ended upstream")
      → ((rest : List ℕ) → line ≢ rest ++ codes " ended turns") → (line ≡ counts) × (None ≡ end)
  unfolding end_entry
  cut_nothing None is not_upstream not_turns = (is ∙ append-nil counts, refl)
  cut_nothing (Some true) is not_upstream not_turns = absurd (not_upstream counts is)
  cut_nothing (Some false) is not_upstream not_turns = absurd (not_turns counts is)
