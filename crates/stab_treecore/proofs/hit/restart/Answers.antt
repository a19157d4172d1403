use Rattle.std.proofs.Common.{◌≡◌, ◌==◌, ◌<◌, ◌∙◌, Bool, false, Option, get_or, length, None, ap, arith}
use Rattle.std.specs.Option.{option_map_or}
use Rattle.std.proofs.lemmas.List.{get_or_read}
use Rattle.stab_core.specs.Link.{LinkValue}
use Rattle.stab_treecore.specs.Faults.{begun_anew, is_parent, restarted_at}
use Rattle.stab_treecore.proofs.Happened.{all_done, one_done, then_is}
use Rattle.stab_treecore.proofs.hit.restart.Goals as goal

pub links-preserved : goal.links-preserved
links-preserved c =
    let place = c.links.place in
    let node = c.args.node in
    let parents = c.args.parents.now in
    let links = c.links.links.items in
    let as_many = c.links.invariant.as_many in
    let within : place < length links = omega arith in
    let parent : c.index-parents-place.result ≡ get_or parents place None =
    get_or_read parents place c.index-parents-place.result (omega (arith, c.requires)) c.index-parents-place.is None in
    let there : c.index_mut.result.now ≡ get_or links place None =
    get_or_read links place c.index_mut.result.now within c.index_mut.ensures.value None in
    let is_sender : c.is_parent-sender.result ≡ is_parent parents node place =
    c.is_parent-sender.ensures ∙ ap (λ o. option_map_or (λ its. its == node) o false) parent in
    one_done (restarted_at parents node) c.args.links.now.items links place c.begin_anew.new.link within c.links.invariant
    (c.begin_anew.ensures
    ∙ (ap (λ (o : Option LinkValue). then_is (begun_anew (place == c.index.result) c.is_parent-sender.result) o) there
    ∙ (ap (λ n. then_is (begun_anew (place == n) c.is_parent-sender.result) (get_or links place None)) c.index.ensures
    ∙ ap (λ (b : Bool). then_is (begun_anew (place == node) b) (get_or links place None)) is_sender)))

pub returns : goal.returns
returns c = all_done (restarted_at c.args.parents.now c.args.node) c.args.links.now.items c.links.links.items c.links.place (omega arith) c.links.invariant
