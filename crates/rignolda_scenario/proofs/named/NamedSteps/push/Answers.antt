use Rattle.std.proofs.Common.{◌≡◌, ◌∷◌, [], ◌++◌, All, map, sym, ap, subst, ◌∙◌}
use Rattle.rignolda_scenario.specs.NamedSteps.{IsIn, named_in, named_of}
use Rattle.rignolda_scenario.proofs.Tabled.{one_more_in, one_more_named}
use Rattle.rignolda_scenario.proofs.named.NamedSteps.push.Goals as goal

pub invariant_of-self-2 : goal.invariant_of-self-2
invariant_of-self-2 c =
    let names = c.self.inside.names in
    let steps = c.self.inside.steps.items in
    let now = c.placed.new.names in
    let step = c.in-Some.step in
    let its = rw c.in-Some.is at c.in_ok-step.ensures.named in
    let pushed : c.push.new.self.items ≡ steps ++ step ∷ [] = c.in_ok-push.ensures.items in
    subst (λ list. All (IsIn now) list) (sym pushed) (one_more_in names now steps step c.in_ok-step.ensures.grown c.self.invariant its.1)

pub returns : goal.returns
returns c =
    let names = c.self.inside.names in
    let steps = c.self.inside.steps.items in
    let now = c.placed.new.names in
    let step = c.in-Some.step in
    let n = named_of c.args.step in
    let its = rw c.in-Some.is at c.in_ok-step.ensures.named in
    let pushed : c.push.new.self.items ≡ steps ++ step ∷ [] = c.in_ok-push.ensures.items in
    λ _.
    ap (map (named_in now)) pushed ∙ one_more_named names now steps step n c.in_ok-step.ensures.grown c.self.invariant its.0
    ∙ ap (λ ns. ns ++ n ∷ []) c.self.view_is
