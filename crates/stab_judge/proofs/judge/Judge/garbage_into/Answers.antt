use Rattle.std.proofs.Common.{◌≡◌, ◌<◌, ℕ, List, [], length, get_or, map, ap, sym, ◌∙◌, subst, arith}
use Rattle.std.proofs.lemmas.Option.{slice_get_within}
use Rattle.std.specs.Option.{option_map_or}
use Rattle.stab_core.specs.LinkSetup.{LinkSetup}
use Rattle.stab_core.specs.Replay.{start_items}
use Rattle.stab_tree.specs.Links.{links_of}
use Rattle.stab_tree.specs.Nodes.{parent_at}
use Rattle.stab_treecore.specs.Network.{Network}
use Rattle.stab_treecore.specs.NodeLaws.{garbage_into}
use Rattle.stab_judge.proofs.Setup.{garbage_found, no_setup, parentless}
use Rattle.stab_judge.proofs.judge.Judge.garbage_into.Goals as goal

pub returns-in-None : goal.returns-in-None
returns-in-None c =
    let inside = c.self.inside in
    let parents = inside.tree.now.parents in
    let root = parentless (parent_at parents c.args.node) c.link_place.result c.in-None.is c.link_place.ensures.child.1 in
    subst (λ (net : Network). [] ≡ garbage_into net c.args.node) c.self.view_is
    (ap (λ o. option_map_or (λ (link : LinkSetup). start_items link.start) o [])
    (sym (no_setup parents inside.params.now inside.starts.now c.args.node root)))

pub returns-in-Some : goal.returns-in-Some
returns-in-Some c =
    let inside = c.self.inside in
    let parents = inside.tree.now.parents in
    let params = inside.params.now in
    let k = c.in-Some.place in
    let items : List ℕ = c.index.result.now in
    let has : items ≡ get_or (map start_items inside.starts.now) k items =
    c.index.ensures ∙ (ap (λ i. get_or inside.garbage.items i items) c.from.ensures
    ∙ ap (λ (lists : List (List ℕ)). get_or lists k items) c.self.invariant.items) in
    let within : k < length params =
    omega (arith, slice_get_within (links_of parents) k c.args.node c.in-Some.ensures.found, c.self.invariant.params_per_link) in
    subst (λ (net : Network). c.as_slice.result.now ≡ garbage_into net c.args.node) c.self.view_is
    (c.as_slice.ensures
    ∙ garbage_found parents params inside.starts.now k c.args.node items c.in-Some.ensures.found
    (c.self.invariant.params_per_link ∙ sym c.self.invariant.starts_per_link) within has)
