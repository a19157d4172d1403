use Rattle.std.proofs.Common.{ℕ, List, subst, sym, arith}
use Rattle.std.proofs.lemmas.List.{take_rest}
use Rattle.stab_judge.specs.Judged.{IsPicked}
use Rattle.stab_judge.proofs.Splitting.{splits_from, splits_to}
use Rattle.stab_judge.proofs.picked.splits.Goals as goal

pub returns : goal.returns
returns c =
    let k = c.min-strays.result in
    let found = c.count_picked.result in
    let rest = take_rest c.args.body.now k in (
      λ yes. splits_from c.args.most_strays k found _ _ _ (omega arith) (omega arith) c.count_picked.ensures.within
          c.count_picked.ensures.picked (subst (λ (xs : List ℕ). IsPicked xs c.args.items.now) rest (c.is_picked.ensures.0 yes)),
      λ splits. c.is_picked.ensures.1 (subst (λ (xs : List ℕ). IsPicked xs c.args.items.now) (sym rest) (splits_to c.args.most_strays k found _ _ _
          c.count_picked.ensures.most (λ n few_n found_n. omega arith) splits)),
    )
