use Rattle.std.proofs.Common.{◌≡◌, ◌<◌, length, get_or, ap, sym, ◌∙◌, subst, arith}
use Rattle.std.proofs.lemmas.Option.{slice_get_within}
use Rattle.std.specs.Option.{option_map_or}
use Rattle.stab_core.specs.LinkSetup.{LinkSetup}
use Rattle.stab_frames.specs.Parameters.{Parameters}
use Rattle.stab_tree.specs.Links.{links_of}
use Rattle.stab_tree.specs.Nodes.{parent_at}
use Rattle.stab_treecore.specs.Network.{Network}
use Rattle.stab_treecore.specs.NodeLaws.{capacity_into}
use Rattle.stab_judge.proofs.Setup.{capacity_found, no_setup, parentless}
use Rattle.stab_judge.proofs.judge.Judge.capacity_into.Goals as goal

pub returns-in-None : goal.returns-in-None
returns-in-None c =
    let inside = c.self.inside in
    let parents = inside.tree.now.parents in
    let root = parentless (parent_at parents c.args.node) c.link_place.result c.in-None.is c.link_place.ensures.child.1 in
    subst (λ (net : Network). 0 ≡ capacity_into net c.args.node) c.self.view_is
    (ap (λ o. option_map_or (λ (link : LinkSetup). link.params.capacity) o 0)
    (sym (no_setup parents inside.params.now inside.starts.now c.args.node root)))

pub returns-in-Some : goal.returns-in-Some
returns-in-Some c =
    let inside = c.self.inside in
    let parents = inside.tree.now.parents in
    let params = inside.params.now in
    let k = c.in-Some.place in
    let p = c.index-self-from.result in
    let has : p ≡ get_or params k p = c.index-self-from.is ∙ ap (λ i. get_or params i p) c.from.ensures in
    let within : k < length params =
    omega (arith, slice_get_within (links_of parents) k c.args.node c.in-Some.ensures.found, c.self.invariant.params_per_link) in
    subst (λ (net : Network). c.capacity.result ≡ capacity_into net c.args.node) c.self.view_is
    (c.capacity.ensures.capacity
    ∙ (ap (λ (q : Parameters). q.capacity) (sym c.index-self-from.is)
    ∙ capacity_found parents params inside.starts.now k c.args.node p c.in-Some.ensures.found
    (c.self.invariant.params_per_link ∙ sym c.self.invariant.starts_per_link) within has))
