use Rattle.std.proofs.Common.{◌≡◌, ◌+◌, ◌-◌, inl, inr, sym, ◌∙◌, arith}
use Rattle.std.proofs.lemmas.Bool.{eqb-true, eqb-false}
use Rattle.stab_tree.proofs.Links.{LinkInto, link_before_root, link_after_root, link_none}
use Rattle.stab_tree.proofs.Trees.{one_root}
use Rattle.stab_tree.proofs.tree.Tree.link_place.Goals as goal
use Rattle.stab_tree.proofs.tree.Tree.link_place.Goals.{Then-place, Else-place}

-- before the root the link is at the place of its child
before_root : (c : Then-place) → LinkInto c.args.self.now.parents c.args.node c.args.node
before_root c =
    let one = one_root _ c.self.invariant.tree.rooted in
    let root = c.self.invariant.root_is in
    rw (← c.self.view_is) (link_before_root c.self.inside.parents.items one c.args.node (omega arith))

-- after the root it is one place earlier
after_root : (c : Else-place) → LinkInto c.args.self.now.parents (c.args.node - 1) c.args.node
after_root c =
    let one = one_root _ c.self.invariant.tree.rooted in
    let root = c.self.invariant.root_is in
    let apart = eqb-false _ _ (sym c.eq.ensures ∙ c.if-eq.false) in
    let next : c.args.node - 1 + 1 ≡ c.args.node = omega (arith, apart) in
    let link = link_after_root c.self.inside.parents.items one (c.args.node - 1) (omega (arith, apart)) (omega (arith, c.self.inside.parents.ok.0)) in
    rw (← c.self.view_is) (rw next at link)

pub returns-then-index-len-clause-value : goal.returns-then-index-len-clause-value
returns-then-index-len-clause-value c =
    let one = one_root _ c.self.invariant.tree.rooted in
    rw (← c.self.view_is) (sym (link_none c.self.inside.parents.items one c.args.node (inr (omega (arith, c.self.inside.parents.ok.0)))))

pub returns-then-eq-clause-value : goal.returns-then-eq-clause-value
returns-then-eq-clause-value c =
    let one = one_root _ c.self.invariant.tree.rooted in
    let root = c.self.invariant.root_is in
    rw (← c.self.view_is) (sym (link_none c.self.inside.parents.items one c.args.node (inl (eqb-true _ _ (sym c.eq.ensures ∙ c.if-eq.true) ∙ root))))

pub returns-then-place-clause-value : goal.returns-then-place-clause-value
returns-then-place-clause-value c =
    rw c.place-then-place.ensures (sym (before_root (goal.at.returns-then-place-clause-value c).Then-place).place)

pub returns-then-place-clause-found : goal.returns-then-place-clause-found
returns-then-place-clause-found c =
    rw c.place-then-place.ensures (before_root (goal.at.returns-then-place-clause-found c).Then-place).at

pub returns-else-place-clause-value : goal.returns-else-place-clause-value
returns-else-place-clause-value c =
    rw c.place-else-place.ensures (sym (after_root (goal.at.returns-else-place-clause-value c).Else-place).place)

pub returns-else-place-clause-found : goal.returns-else-place-clause-found
returns-else-place-clause-found c =
    rw c.place-else-place.ensures (after_root (goal.at.returns-else-place-clause-found c).Else-place).at
