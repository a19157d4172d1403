use Rattle.std.proofs.Common.{map, string_bytes, ap, ◌∙◌}
use Rattle.stab_tree.specs.Nodes.{place_of}
use Rattle.stab_tree.proofs.Places.{place_found, place_absent}
use Rattle.stab_tree.proofs.tree.Tree.find.Goals as goal

pub returns-clause-found : goal.returns-clause-found
returns-clause-found c =
    rw (← c.self.view_is) (place_found _ _ _ (c.find.ensures ∙ ap (λ names. place_of (map string_bytes names) c.args.name.now) c.as_slice.ensures.value))

pub returns-clause-absent : goal.returns-clause-absent
returns-clause-absent c =
    rw (← c.self.view_is) (place_absent _ _ _ (c.find.ensures ∙ ap (λ names. place_of (map string_bytes names) c.args.name.now) c.as_slice.ensures.value))
