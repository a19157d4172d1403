use Rattle.std.proofs.Common.{◌≡◌, suc, ◌<◌, ◌++◌, [], ◌∙◌, length, drop, get_or, slice_get, Some, ap, sym, subst, add-one, append_assoc, arith}
use Rattle.std.proofs.lemmas.Option.{slice_get_within}
use Rattle.stab_tree.specs.Links.{links_of}
use Rattle.stab_tree.specs.Nodes.{Nodes}
use Rattle.stab_rounds.specs.TreePlayed.{reading_round_on}
use Rattle.rignolda_scenario.specs.Played.{reading_round_of}
use Rattle.rignolda_scenario.proofs.Reading.{reading_next}
use Rattle.rignolda_scenario.proofs.changes.reading_round_of_all.Goals as goal

pub links-preserved : goal.links-preserved
links-preserved c =
    let children = links_of c.args.job.now.tree.parents in
    let params = c.args.job.now.params in
    let k = c.links.place in
    let child = c.link_child.result in
    let p = c.index-params-from.result in
    let has : p ≡ get_or params k p =
    c.index-params-from.is
    ∙ (ap (λ i. get_or c.params-params.result.now i p) c.from.ensures
    ∙ ap (λ ps. get_or ps k p) c.params-params.ensures.params) in
    let into : slice_get children k ≡ Some child =
    subst (λ (t : Nodes). slice_get (links_of t.parents) k ≡ Some child) c.tree-tree.ensures.tree c.link_child.ensures.value in
    let within : k < length params =
    omega (arith, slice_get_within children k child into, c.params-params.ensures.job.one_params_each) in
    let capacity : c.capacity-capacity.result ≡ p.capacity = c.capacity-capacity.ensures.capacity in
    let next = reading_next children params k child p into within has in
    let left = reading_round_of (drop (suc k) children) (drop (suc k) params) in
    subst (λ n. c.push_reading_round.new.events.items ++ reading_round_of (drop n children) (drop n params) ≡ reading_round_of children params)
    (sym (add-one k))
    (ap (λ xs. xs ++ left) c.in_ok-push_reading_round.ensures
    ∙ (append_assoc c.links.events.items (reading_round_on c.capacity-capacity.result child []) left
    ∙ (ap (λ n. c.links.events.items ++ (reading_round_on n child [] ++ left)) capacity
    ∙ (ap (λ xs. c.links.events.items ++ xs) (sym next) ∙ c.links.invariant))))
