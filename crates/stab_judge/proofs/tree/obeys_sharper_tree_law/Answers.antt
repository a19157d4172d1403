use Rattle.std.proofs.Common.{◌≡◌, ℕ, ◌+◌, ◌-◌, min, sym, ap, ◌∙◌, subst, arith}
use Rattle.std.proofs.lemmas.List.{take_rest}
use Rattle.stab_judge.proofs.Sharper.{Found, found_strays, sharper_from, sharper_to}
use Rattle.stab_judge.proofs.tree.obeys_sharper_tree_law.Goals as goal

pub returns : goal.returns
returns c =
    let strays = c.min-strays.result in
    let front = c.min-front.result in
    let first = c.min-first.result in
    let is : min c.args.most_strays c.count_picked.result ≡ strays = omega arith in
    let found : Found c.args.most_strays c.args.garbage.now c.args.received.now strays =
    subst (Found c.args.most_strays c.args.garbage.now c.args.received.now) is
    (found_strays c.args.most_strays c.count_picked.result _ _ c.count_picked.ensures.within c.count_picked.ensures.picked
    c.count_picked.ensures.most) in
    let front_is : front ≡ min strays (c.args.most_missing - c.args.without_strays) = omega arith in
    let first_is : first ≡ min c.args.most_missing (c.args.without_strays + strays) = omega arith in
    let rest = take_rest c.args.received.now front in (
      λ yes. sharper_from _ _ _ _ c.args.published.now _ strays front first found front_is first_is _ rest (c.in_ok-obeys.ensures.0 yes),
      λ law. c.in_ok-obeys.ensures.1 (sharper_to _ _ _ _ c.args.published.now _ strays front first found front_is first_is _ rest law),
    )
