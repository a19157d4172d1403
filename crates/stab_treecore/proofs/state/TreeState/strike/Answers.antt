use Rattle.std.proofs.Common.{◌≡◌, ◌<◌, ◌++◌, is_some, get_or, length, map, None, ap, sym, ◌∙◌, arith}
use Rattle.std.proofs.lemmas.List.{get_or_read, length-set}
use Rattle.stab_tree.specs.NodeOpenings.{opening_at}
use Rattle.stab_treecore.proofs.Linked.{kind-set}
use Rattle.stab_treecore.proofs.Listed.{as_before, listed_struck}
use Rattle.stab_core.specs.Faults.{struck}
use Rattle.stab_treecore.specs.contracts.state.TreeState.{the_view as the_tree}
use Rattle.stab_treecore.specs.Faults.{struck_tree}
use Rattle.std.proofs.lemmas.Result.{on_ok_weaker}
use Rattle.stab_treecore.proofs.Happened.{strike_is, then_is}
use Rattle.stab_treecore.proofs.state.TreeState.strike.Goals as goal

pub invariant_of-self : goal.invariant_of-self
invariant_of-self c =
    let place = c.index-place.result in
    let links = c.self.inside.links.items in
    let openings = map (λ list. list.items) c.self.inside.openings.items in
    let lists = map (λ list. list.items) c.self.inside.received.items in
    let in_links : place < length links = omega arith in
    let stepped : c.index_mut.result.now ≡ get_or links place None = get_or_read links place c.index_mut.result.now in_links c.index_mut.ensures.value None in
    record {
      linked = kind-set links place c.strike.new.link (c.strike.ensures.kind ∙ ap is_some stepped) ∙ c.self.invariant.linked;
      known_parents = c.self.invariant.known_parents;
      root_has_none = c.self.invariant.root_has_none;
      one_root = c.self.invariant.one_root;
      one_list_each = c.self.invariant.one_list_each ∙ sym (length-set links place c.strike.new.link);
      one_opening_each = c.self.invariant.one_opening_each ∙ sym (length-set links place c.strike.new.link);
      listed =
          listed_struck openings links lists place c.strike.new.link in_links c.self.invariant.listed
          (λ after is.
          let (before, was) = as_before c.index_mut.result.now c.strike.new.link after c.strike.ensures.kind is in
          ap (λ xs. opening_at openings place ++ xs) (c.strike.ensures.follows before after was is)
          ∙ sym (c.self.invariant.listed place before (sym stepped ∙ was)));
    }

pub returns-clause-struck : goal.returns-clause-struck
returns-clause-struck c =
    let place = c.index-place.result in
    let links = c.self.inside.links.items in
    let stepped : c.index_mut.result.now ≡ get_or links place None =
    get_or_read links place c.index_mut.result.now (omega arith) c.index_mut.ensures.value None in
    on_ok_weaker c.strike.result
    (λ struck_here.
    ap (λ ls. record (the_tree c.self.inside) { links = ls })
    (strike_is links place c.args.start.now c.strike.new.link (struck_here ∙ ap (then_is (struck c.args.start.now)) stepped))
    ∙ (ap (λ n. struck_tree (the_tree c.self.inside) n c.args.start.now) c.index-place.ensures
    ∙ ap (λ t. struck_tree t c.args.child c.args.start.now) c.self.view_is))
    c.strike.ensures.link
