use Rattle.std.proofs.Common.{◌≡◌, ◌<◌, List, Bool, is_some, get_or, length, map, set, if◌then◌else◌, None, ap, subst, sym, ◌∙◌, arith}
use Rattle.std.proofs.lemmas.List.{get_or_read, length-map, map-set}
use Rattle.stab_treecore.specs.Faults.{each_link, restarted_at, restarted_tree}
use Rattle.stab_treecore.specs.TreeInside.{IsSound}
use Rattle.stab_treecore.proofs.Happened.{built, published_at_root, sound_restarted}
use Rattle.stab_treecore.proofs.state.TreeState.restart.Goals as goal

pub invariant_of-self : goal.invariant_of-self
invariant_of-self c =
    let place = c.index-place.result in
    let links = c.self.inside.links.items in
    let parents = c.self.inside.parents.items in
    let openings = map (λ list. list.items) c.self.inside.openings.items in
    let lists = map (λ list. list.items) c.self.inside.received.items in
    let list = c.args.list.now in
    let published = c.replace_unless.new.list.items in
    let in_links : place < length links = omega arith in
    let all : c.restart.new.links.items ≡ each_link (restarted_at parents place) 0 links =
    c.restart.ensures
    ∙ (ap (λ ps. each_link (restarted_at ps c.args.node) 0 links) c.deref.ensures.value
    ∙ ap (λ n. each_link (restarted_at parents n) 0 links) (sym c.index-place.ensures)) in
    let openings_are = map-set (λ list. list.items) c.self.inside.openings.items place c.in_ok-opening.opening
    ∙ ap (λ xs. set openings place xs) c.in_ok-opening.ensures.items in
    let lists_are = map-set (λ list. list.items) c.self.inside.received.items place c.in_ok-received.received
    ∙ ap (λ xs. set lists place xs) c.in_ok-received.ensures.items in
    subst (λ os. IsSound (built parents published os c.restart.new.links.items) (map (λ list. list.items) (set c.self.inside.received.items place c.in_ok-received.received)))
    (sym openings_are)
    (subst (λ xs. IsSound (built parents published (set openings place list) c.restart.new.links.items) xs) (sym lists_are)
    (subst (λ ls. IsSound (built parents published (set openings place list) ls) (set lists place list)) (sym all)
    (sound_restarted c.self.inside.published.items published openings parents links lists place list in_links c.self.invariant)))

pub returns-clause-restarted : goal.returns-clause-restarted
returns-clause-restarted c =
    let place = c.index-place.result in
    let links = c.self.inside.links.items in
    let parents = c.self.inside.parents.items in
    let openings = map (λ list. list.items) c.self.inside.openings.items in
    let lists = map (λ list. list.items) c.self.inside.received.items in
    let list = c.args.list.now in
    let old = c.self.inside.published.items in
    let before = built parents old openings links in
    let in_links : place < length links = omega arith in
    let named = ap (λ (bs : List Bool). length bs) c.self.invariant.linked in
    let is_node : place < length parents = omega (arith, named, length-map links is_some, length-map parents is_some) in
    let there : c.index.result.now ≡ get_or links place None = get_or_read links place c.index.result.now in_links c.index.ensures None in
    let all : c.restart.new.links.items ≡ each_link (restarted_at parents place) 0 links =
    c.restart.ensures
    ∙ (ap (λ ps. each_link (restarted_at ps c.args.node) 0 links) c.deref.ensures.value
    ∙ ap (λ n. each_link (restarted_at parents n) 0 links) (sym c.index-place.ensures)) in
    let openings_are = map-set (λ list. list.items) c.self.inside.openings.items place c.in_ok-opening.opening
    ∙ ap (λ xs. set openings place xs) c.in_ok-opening.ensures.items in
    let published_is = c.replace_unless.ensures
    ∙ (ap (λ b. if b then old else c.in_ok-published.published.items) (c.is_some.ensures ∙ ap is_some there)
    ∙ (ap (λ xs. if is_some (get_or links place None) then old else xs) c.in_ok-published.ensures.items
    ∙ published_at_root before lists place list is_node c.self.invariant)) in
    ap (λ xs. built parents xs (map (λ list. list.items) (set c.self.inside.openings.items place c.in_ok-opening.opening)) c.restart.new.links.items) published_is
    ∙ (ap (λ os. built parents (restarted_tree before place list).published os c.restart.new.links.items) openings_are
    ∙ (ap (λ ls. built parents (restarted_tree before place list).published (set openings place list) ls) all
    ∙ (ap (λ n. restarted_tree before n list) c.index-place.ensures
    ∙ ap (λ t. restarted_tree t c.args.node list) c.self.view_is)))
