use Rattle.std.proofs.Common.{◌≡◌, min, inl, inr, arith, rules}
use Rattle.std.proofs.lemmas.Bool.{both_ways}
use Rattle.stab_judge.proofs.Links.{law_from_acked, law_from_all, law_to_either}
use Rattle.stab_judge.proofs.link.obeys_link_law_within.Goals as goal

pub returns-then-splits_before : goal.returns-then-splits_before
returns-then-splits_before c =
    let waits = c.one_waits.ensures.0 (search rules) in
    let first = c.min-first.result in
    let least : first ≡ min c.args.most_missing c.args.acked = omega arith in (
      λ _. law_from_acked _ _ _ _ _ _ first waits.0 waits.1 least _ _ c.split_at.ensures.front c.split_at.ensures.back
          (c.splits_before.ensures.0 c.if-splits_before.true),
      λ _. c.if-splits_before.true,
    )

pub returns-else-splits_before : goal.returns-else-splits_before
returns-else-splits_before c =
    let waits = c.one_waits.ensures.0 (search rules) in
    let first = c.min-first.result in
    let least : first ≡ min c.args.most_missing c.args.acked = omega arith in (
      λ yes. law_from_all _ _ _ _ _ _ first waits.0 waits.1 least _ _ c.split_at.ensures.front c.split_at.ensures.back
          (c.splits_before-else-splits_before.ensures.0 yes),
      λ law.
          elim (law_to_either _ _ _ _ _ _ first waits.0 waits.1 least _ _ c.split_at.ensures.front c.split_at.ensures.back law) [
            | inl acked ↦ absurd (both_ways _ c.if-splits_before.false (c.splits_before.ensures.1 acked))
            | inr all ↦ c.splits_before-else-splits_before.ensures.1 all
          ],
    )
