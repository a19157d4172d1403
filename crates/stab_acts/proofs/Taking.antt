-- Taking acts one by one.
-- Also acts of both lists in any order, and the act taken after `n` others.
use Rattle.std.proofs.Common.{◌≡◌, ℕ, zero, suc, ◌+◌, List, [], ◌∷◌, drop, refl, ap, ◌∙◌, sym}
use Rattle.std.proofs.lemmas.List.{drop-drop}
use Rattle.std.specs.List.{slice_get}
use Rattle.std.specs.Prelude.{unwrap_or}
use Rattle.stab_acts.specs.declared.act.OutAct.{OutAct}
use Rattle.stab_acts.specs.declared.act.InAct.{InAct}
use Rattle.stab_acts.specs.declared.act.OutAct.TheVariants.{Pass}
use Rattle.stab_acts.specs.declared.act.InAct.TheVariants.{Take}
use Rattle.stab_acts.specs.Scripts.{ActsRemaining, out_act, in_act, nth_out, nth_in, after_out, after_in, after_outs, after_ins, Taking, an_out, an_in, after_takings, outs_among, ins_among}

-- one more was taken than before
pub drop_one_more : {A : Type 0} (xs : List A) (i : ℕ) → drop (i + 1) xs ≡ drop 1 (drop i xs)
drop_one_more xs i = sym (drop-drop 1 i xs)

first_out : (xs : List OutAct) → out_act xs ≡ nth_out xs 0
first_out [] = refl
first_out (act ∷ xs) = refl

first_in : (xs : List InAct) → in_act xs ≡ nth_in xs 0
first_in [] = refl
first_in (act ∷ xs) = refl

-- what comes after the first is one place further
one_further : {A : Type 0} (n : ℕ) (xs : List A) → slice_get (drop 1 xs) n ≡ slice_get xs (suc n)
one_further n [] = refl
one_further n (x ∷ xs) = refl

-- the act after n others is the one at place n
pub nth_out_taken : (n : ℕ) (half : ActsRemaining) → out_act (after_outs n half).outs ≡ nth_out half.outs n
nth_out_taken zero half = first_out half.outs
nth_out_taken (suc n) half = nth_out_taken n (after_out half) ∙ ap (λ act. unwrap_or act Pass) (one_further n half.outs)

pub nth_in_taken : (n : ℕ) (half : ActsRemaining) → in_act (after_ins n half).ins ≡ nth_in half.ins n
nth_in_taken zero half = first_in half.ins
nth_in_taken (suc n) half = nth_in_taken n (after_in half) ∙ ap (λ act. unwrap_or act Take) (one_further n half.ins)

-- acts taken for what comes in move no act for what goes out, and the other way round
pub next_out_after : (takings : List Taking) (half : ActsRemaining)
    → out_act (after_takings takings half).outs ≡ nth_out half.outs (outs_among takings)
next_out_after [] half = first_out half.outs
next_out_after (an_out ∷ takings) half =
    next_out_after takings (after_out half) ∙ ap (λ act. unwrap_or act Pass) (one_further (outs_among takings) half.outs)
next_out_after (an_in ∷ takings) half = next_out_after takings (after_in half)

pub next_in_after : (takings : List Taking) (half : ActsRemaining)
    → in_act (after_takings takings half).ins ≡ nth_in half.ins (ins_among takings)
next_in_after [] half = first_in half.ins
next_in_after (an_out ∷ takings) half = next_in_after takings (after_out half)
next_in_after (an_in ∷ takings) half =
    next_in_after takings (after_in half) ∙ ap (λ act. unwrap_or act Take) (one_further (ins_among takings) half.ins)
