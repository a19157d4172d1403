use Rattle.std.proofs.Common.{rules, ◌≡◌, ◌∷◌}
use Rattle.std.proofs.lemmas.List.Elements.{All-rest}
use Rattle.stab_run.specs.AnyLinks.{IsOneOf}
use Rattle.stab_run.proofs.settle.settle_first.Goals as goal

-- what holds of all links holds of those that are left
pub returns-clause-one_of : goal.returns-clause-one_of
returns-clause-one_of c =
    let first : c.args.links.now.items ≡ c.unwrap-link.result ∷ c.pop_front.new.self.items = search rules in
    All-rest (λ link. IsOneOf c.args.which link) c.unwrap-link.result c.pop_front.new.self.items c.args.links.now.items first c.requires.one_of

-- where the ends of the other links followed what they have to follow, so did those of all
pub returns-clause-followed : goal.returns-clause-followed
returns-clause-followed c = search rules
