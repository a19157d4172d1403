use Rattle.std.proofs.Common.{◌≡◌, Some, sym, ap, ◌∙◌}
use Rattle.std.proofs.lemmas.Slice.Eq.{bytes_eq-Decides}
use Rattle.rignolda_scenario.proofs.Finding.{first_of_name}
use Rattle.rignolda_scenario.proofs.finder.has_name.Goals as goal

pub returns : goal.returns
returns c =
    λ yes.
    let t = c.args.tree.now in
    let same : c.name.result.now ≡ c.args.name.now = (bytes_eq-Decides c.name.result.now c.args.name.now).0 (sym c.eq.ensures ∙ yes) in
    first_of_name t.names c.args.node c.args.name.now c.requires.tree.own_names (c.name.ensures ∙ ap Some same)
