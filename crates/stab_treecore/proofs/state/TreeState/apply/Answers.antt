use Rattle.std.proofs.Common.{◌≡◌, ◌<◌, [], is_some, get_or, length, map, set, None, ap, subst, sym, ◌∙◌, arith}
use Rattle.std.proofs.lemmas.List.{get_or_read, get_or-map, length-map, length-set, map-set}
use Rattle.std.proofs.lemmas.Result.{on_ok_weaker}
use Rattle.stab_tree.specs.Nodes.{parent_at}
use Rattle.stab_treecore.specs.WholeTree.{link_into}
use Rattle.stab_tree.specs.NodeOpenings.{opening_at}
use Rattle.stab_treecore.proofs.Linked.{kind-set, same_kind}
use Rattle.stab_treecore.proofs.Listed.{IsListed, as_before, listed_after}
use Rattle.stab_treecore.proofs.state.TreeState.apply.Goals as goal

pub invariant_of-self : goal.invariant_of-self
invariant_of-self c =
    let place = c.index-place.result in
    let links = c.self.inside.links.items in
    let received = c.self.inside.received.items in
    let openings = map (λ list. list.items) c.self.inside.openings.items in
    let lists = map (λ list. list.items) received in
    let as_many : length lists ≡ length links = c.self.invariant.one_list_each in
    let as_long : length lists ≡ length received = length-map received (λ list. list.items) in
    let in_links : place < length links = omega arith in
    let in_received : place < length received = omega (arith, as_many, as_long) in
    let in_lists : place < length lists = omega (arith, as_long) in
    let stepped : c.index_mut.result.now ≡ get_or links place None = get_or_read links place c.index_mut.result.now in_links c.index_mut.ensures.value None in
    let list_there : get_or lists place [] ≡ c.index_mut-2.result.now.items =
    get_or-map (λ list. list.items) received place c.index_mut-2.result.now [] in_received ∙ ap (λ list. list.items) (sym c.index_mut-2.ensures.value) in
    record {
      linked = kind-set links place c.step.new.link (c.step.ensures.kind ∙ ap is_some stepped) ∙ c.self.invariant.linked;
      known_parents = c.self.invariant.known_parents;
      root_has_none = c.self.invariant.root_has_none;
      one_root = c.self.invariant.one_root;
      one_opening_each = c.self.invariant.one_opening_each ∙ sym (length-set links place c.step.new.link);
      one_list_each =
          omega (
            arith,
            as_many,
            as_long,
            length-map (set received place c.step.new.received) (λ list. list.items),
            length-set received place c.step.new.received,
            length-set links place c.step.new.link,
          );
      listed =
          subst (IsListed openings (set links place c.step.new.link)) (sym (map-set (λ list. list.items) received place c.step.new.received))
          (listed_after openings links lists place c.step.new.link c.step.new.received.items in_links in_lists c.self.invariant.listed
          (λ after is.
          let (before, was) = as_before c.index_mut.result.now c.step.new.link after c.step.ensures.kind is in
          c.step.ensures.follows (opening_at openings place) before after was is
          (sym list_there ∙ c.self.invariant.listed place before (sym stepped ∙ was))));
    }

pub returns-clause-named : goal.returns-clause-named
returns-clause-named c =
    let stepped : c.index_mut.result.now ≡ get_or c.self.inside.links.items c.index-place.result None =
    get_or_read c.self.inside.links.items c.index-place.result c.index_mut.result.now (omega arith) c.index_mut.ensures.value None in
    let there : c.index_mut.result.now ≡ link_into c.args.self.now c.args.event.child =
    rw (← c.self.view_is, ← c.index-place.ensures) stepped in
    let kind : is_some c.index_mut.result.now ≡ is_some (parent_at c.args.self.now.parents c.args.event.child) =
    ap is_some there
    ∙ same_kind c.args.self.now.links c.args.self.now.parents c.args.event.child (rw (← c.self.view_is) c.self.invariant.linked) in
    on_ok_weaker c.step.result (λ some. sym kind ∙ some) c.step.ensures.named

pub returns-clause-no_such_link : goal.returns-clause-no_such_link
returns-clause-no_such_link c =
    let stepped : c.index_mut.result.now ≡ get_or c.self.inside.links.items c.index-place.result None =
    get_or_read c.self.inside.links.items c.index-place.result c.index_mut.result.now (omega arith) c.index_mut.ensures.value None in
    let there : c.index_mut.result.now ≡ link_into c.args.self.now c.args.event.child =
    rw (← c.self.view_is, ← c.index-place.ensures) stepped in
    let kind : is_some c.index_mut.result.now ≡ is_some (parent_at c.args.self.now.parents c.args.event.child) =
    ap is_some there
    ∙ same_kind c.args.self.now.links c.args.self.now.parents c.args.event.child (rw (← c.self.view_is) c.self.invariant.linked) in
    (λ err. sym kind ∙ c.step.ensures.no_such_link.0 err, λ none. c.step.ensures.no_such_link.1 (kind ∙ none))
