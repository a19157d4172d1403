-- One piece more of what is drawn place by place.
use Rattle.std.proofs.Common.{◌≡◌, ℕ, ◌+◌, List, [], ◌++◌, refl, ap, sym, ◌∙◌, append_assoc, add-one}
use Rattle.std.proofs.lemmas.List.{append-nil}
use Rattle.rand_core.specs.Stream.{Stream}
use Rattle.rignolda_make.specs.DrawnTexts.{texts}
use Rattle.rignolda_make.specs.DrawnTrees.{pieces}

pub more_texts : (text_of : ℕ → List ℕ) (n : ℕ) → texts text_of (n + 1) ≡ texts text_of n ++ text_of n
unfolding texts
more_texts text_of n = rw (add-one n) refl

pub text_on : (old before now : List ℕ) (text_of : ℕ → List ℕ) (n : ℕ) → before ≡ old ++ texts text_of n → now ≡ before ++ text_of n
    → now ≡ old ++ texts text_of (n + 1)
text_on old before now text_of n so_far more =
    more ∙ ap (λ x. x ++ text_of n) so_far ∙ append_assoc old (texts text_of n) (text_of n) ∙ ap (λ x. old ++ x) (sym (more_texts text_of n))

-- what was drawn so far is what the pieces say
pub record HasDrawn {X : Type 0} (drawn : ℕ → Stream → List X × Stream) (n : ℕ) (old now : List X) (first left : Stream) : Type 0 where
  pub text : now ≡ old ++ (pieces drawn n first).0
  pub words : left ≡ (pieces drawn n first).1

pub more_pieces : {X : Type 0} (drawn : ℕ → Stream → List X × Stream) (n : ℕ) (s : Stream)
    → pieces drawn (n + 1) s ≡ ((pieces drawn n s).0 ++ (drawn n (pieces drawn n s).1).0, (drawn n (pieces drawn n s).1).1)
unfolding pieces
more_pieces drawn n s = rw (add-one n) refl

pub piece_on : {X : Type 0} (drawn : ℕ → Stream → List X × Stream) (n : ℕ) (old before now : List X) (first left after : Stream)
    → HasDrawn drawn n old before first left → now ≡ before ++ (drawn n left).0 → after ≡ (drawn n left).1
    → HasDrawn drawn (n + 1) old now first after
piece_on drawn n old before now first left after so_far more rest =
    record {
      text = more ∙ rw (so_far.words, so_far.text) (append_assoc old (pieces drawn n first).0 (drawn n (pieces drawn n first).1).0
          ∙ ap (λ x. old ++ x.0) (sym (more_pieces drawn n first)));
      words = rest ∙ rw so_far.words (ap (λ x. x.1) (sym (more_pieces drawn n first)));
    }

-- nothing is drawn before the first place
pub text_first : (old : List ℕ) (text_of : ℕ → List ℕ) → old ≡ old ++ texts text_of 0
unfolding texts
text_first old text_of = sym (append-nil old)

pub piece_none : {X : Type 0} (drawn : ℕ → Stream → List X × Stream) (now : List X) (first : Stream) → now ≡ [] → HasDrawn drawn 0 [] now first first
unfolding pieces
piece_none drawn now first none = record { text = none; words = refl }

pub piece_first : {X : Type 0} (drawn : ℕ → Stream → List X × Stream) (old : List X) (first : Stream) → HasDrawn drawn 0 old old first first
unfolding pieces
piece_first drawn old first = record { text = sym (append-nil old); words = refl }
