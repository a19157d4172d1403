-- Drawing a list of acts word by word.
use Rattle.std.proofs.Common.{◌≡◌, ℕ, suc, ◌-◌, ◌≤◌, List, [], ◌∷◌, ◌++◌, map, sym, ◌∙◌, append_assoc}
use Rattle.rand_core.specs.Stream.{Stream, next_u32}
use Rattle.stab_acts.specs.Draws.{words, after_words}

-- what was drawn, and then what the remaining words will give, is the whole list; there is room for the rest
pub record HasDrawn {A : Type 0} (act_of : ℕ → A) (len drawn : ℕ) (start now : Stream) (acts : List A) (count capacity : ℕ) : Type 0 where
  pub whole : map act_of (words len start) ≡ acts ++ map act_of (words (len - drawn) now)
  pub rest : after_words len start ≡ after_words (len - drawn) now
  pub counted : count ≡ drawn
  pub reserved : len ≤ capacity

module _ (fewer : ℕ) (s rest : Stream) (word : ℕ) (next_is : (word, rest) ≡ next_u32 s) where
  -- the next word makes the next act
  pub one_draw : {A : Type 0} (act_of : ℕ → A) (whole done : List A)
      → whole ≡ done ++ map act_of (words (suc fewer) s)
      → whole ≡ (done ++ act_of word ∷ []) ++ map act_of (words fewer rest)
  unfolding words
  one_draw act_of whole done so_far =
      so_far ∙ rw (← next_is) (sym (append_assoc done (act_of word ∷ []) (map act_of (words fewer rest))))

  -- and leaves the stream that the other words leave
  pub one_word : (end : Stream) → end ≡ after_words (suc fewer) s → end ≡ after_words fewer rest
  unfolding after_words
  one_word end so_far = so_far ∙ rw (← next_is)
