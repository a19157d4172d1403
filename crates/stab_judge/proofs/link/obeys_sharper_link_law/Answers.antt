use Rattle.std.proofs.Common.{◌≡◌, ℕ, ◌+◌, min, sym, ap, ◌∙◌, subst, arith}
use Rattle.std.proofs.lemmas.List.{take_rest}
use Rattle.stab_judge.proofs.Sharper.{Found, found_strays, sharper_link_from, sharper_link_to}
use Rattle.stab_judge.proofs.link.obeys_sharper_link_law.Goals as goal

pub returns : goal.returns
returns c =
    let strays = c.min-strays.result in
    let is : min c.args.capacity c.count_picked.result ≡ strays = omega arith in
    let found : Found c.args.capacity c.args.start_items.now c.args.delivered.now strays =
    subst (Found c.args.capacity c.args.start_items.now c.args.delivered.now) is
    (found_strays c.args.capacity c.count_picked.result _ _ c.count_picked.ensures.within c.count_picked.ensures.picked
    c.count_picked.ensures.most) in
    let first : ℕ = c.from-capacity.result + 1 + strays in
    let first_is : first ≡ c.args.capacity + 1 + strays = omega (arith, c.from-capacity.ensures) in
    let rest = take_rest c.args.delivered.now strays in (
      λ yes. sharper_link_from _ _ _ _ _ strays first found first_is _ rest (c.obeys_link_law_within.ensures.0 yes),
      λ law. c.obeys_link_law_within.ensures.1 (sharper_link_to _ _ _ _ _ strays first found first_is _ rest law),
    )
