-- A list without the entry at a place: its other parts, and nothing changes past its end.
use Rattle.std.proofs.Common.{◌≡◌, ℕ, zero, suc, ◌≤◌, List, [], ◌∷◌, ◌++◌, length, take, drop, refl, ap, ◌∙◌, arith}
use Rattle.std.proofs.lemmas.List.{append_assoc}
use Rattle.stab_frames.specs.Queue.{without}

module _ {A : Type 0} where
  -- past the last entry there is none to take out
  pub nothing_past : (xs : List A) (i : ℕ) → length xs ≤ i → without i xs ≡ xs
  nothing_past [] i past = refl
  nothing_past (x ∷ xs) zero past = absurd (omega arith)
  nothing_past (x ∷ xs) (suc i) past = ap (λ rest. x ∷ rest) (nothing_past xs i (omega arith))

  -- the entries before a place, and those after it
  pub parts_without : (xs : List A) (i : ℕ) → without i xs ≡ take i xs ++ drop (suc i) xs
  parts_without [] zero = refl
  parts_without [] (suc i) = refl
  parts_without (x ∷ xs) zero = refl
  parts_without (x ∷ xs) (suc i) = ap (λ rest. x ∷ rest) (parts_without xs i)

  -- five lists that are added one after the other
  pub five_added : (out a b c d e one two three four five : List A) → one ≡ out ++ a → two ≡ one ++ b → three ≡ two ++ c → four ≡ three ++ d
      → five ≡ four ++ e → five ≡ out ++ (a ++ b ++ c ++ d ++ e)
  five_added out a b c d e one two three four five is_one is_two is_three is_four is_five =
      is_five
      ∙ ap (λ xs. xs ++ e) (is_four
      ∙ ap (λ xs. xs ++ d) (is_three
      ∙ ap (λ xs. xs ++ c) (is_two ∙ ap (λ xs. xs ++ b) is_one ∙ append_assoc out a b)
      ∙ append_assoc out (a ++ b) c)
      ∙ append_assoc out (a ++ b ++ c) d)
      ∙ append_assoc out (a ++ b ++ c ++ d) e
