use Rattle.std.proofs.Common.{◌<◌, ◌+◌, ◌∙◌, ap, refl, sym, subst, length, map, take_all, arith}
use Rattle.std.specs.List.{AllZip}
use Rattle.std.proofs.lemmas.List.Elements.{All-push}
use Rattle.stab_core.specs.LinkSetup.{LinkSetup, setup, setups}
use Rattle.stab_core.proofs.Setups.{as_many_setups, can_begin_at, setup_at}
use Rattle.stab_run.specs.AnyLinks.{IsOneOf, IsOpenedBy, IsScriptOf, given_to, kind_of}
use Rattle.stab_run.specs.LinkKinds.{kind_for}
use Rattle.stab_run.proofs.Begun.{one_more_given}
use Rattle.stab_run.proofs.OfKinds.{one_of_all}
use Rattle.stab_run.proofs.Paired.{one_more_end, one_more_paired, paired_push}
use Rattle.stab_run.proofs.starts.make_links.Goals as goal

pub bounds-params-place : goal.bounds-params-place
bounds-params-place c = omega (arith, c.links-test.true, c.requires.one_each)

pub bounds-scripts-place : goal.bounds-scripts-place
bounds-scripts-place c = omega (arith, c.links-test.true, c.requires.one_script_each)

pub make-requires-clause-one_place : goal.make-requires-clause-one_place
make-requires-clause-one_place c =
    let params = c.args.params.now in
    let in_params : c.links.place < length params = omega (arith, c.links-test.true, c.requires.one_each) in
    one_of_all c.args.which params c.links.place c.index-params-place.result in_params c.index-params-place.is c.requires.one_place

pub make-requires-clause-lawful : goal.make-requires-clause-lawful
make-requires-clause-lawful c =
    let params = c.args.params.now in
    let place = c.links.place in
    let in_params : place < length params = omega (arith, c.links-test.true, c.requires.one_each) in
    (can_begin_at params c.args.starts.now place c.index-params-place.result c.index-starts-place.result in_params c.links-test.true
    c.index-params-place.is c.index-starts-place.is c.requires.can_begin).1

pub links-preserved : goal.links-preserved
links-preserved c =
    let params = c.args.params.now in
    let starts = c.args.starts.now in
    let place = c.links.place in
    let in_starts : place < length starts = c.links-test.true in
    let in_params : place < length params = omega (arith, in_starts, c.requires.one_each) in
    let next = setup c.index-params-place.result c.index-starts-place.result in
    let within : place < length (setups params starts) = omega (arith, in_starts, as_many_setups params starts c.requires.one_each) in
    record {
      link_room = c.push_reserved.ensures.capacity ∙ c.links.invariant.link_room;
      opening_room = c.push_reserved-in-links.ensures.capacity ∙ c.links.invariant.opening_room;
      link_count = c.push_reserved.ensures.len ∙ ap (λ n. n + 1) c.links.invariant.link_count;
      opening_count = c.push_reserved-in-links.ensures.len ∙ ap (λ n. n + 1) c.links.invariant.opening_count;
      given =
          rw c.push_reserved.ensures.items
          (one_more_given given_to c.links.links.items c.in_ok-link.link (setups params starts) place next within
          (setup_at params starts place c.index-params-place.result c.index-starts-place.result in_params in_starts c.index-params-place.is
          c.index-starts-place.is)
          c.in_ok-link.ensures.given c.links.invariant.given);
      scripts =
          rw c.push_reserved.ensures.items
          (one_more_paired IsScriptOf c.args.scripts.now c.links.links.items place c.index-scripts-place.result c.in_ok-link.link
          (omega (arith, in_starts, c.requires.one_script_each)) c.index-scripts-place.is c.links.invariant.scripts
          c.in_ok-link.ensures.script);
      one_of =
          rw c.push_reserved.ensures.items
          (All-push (λ link. IsOneOf c.args.which link) c.links.links.items c.in_ok-link.link c.links.invariant.one_of
          (c.in_ok-link.ensures.kind ∙ ap (λ (s : LinkSetup). kind_for c.args.which s.params) (sym c.in_ok-link.ensures.given)));
      kinds =
          rw c.push_reserved.ensures.items
          (one_more_end kind_of (kind_for c.args.which) c.links.links.items c.in_ok-link.link params place c.index-params-place.result
          c.index-params-place.result in_params c.index-params-place.is refl c.in_ok-link.ensures.kind c.links.invariant.kinds);
      openings =
          rw (c.push_reserved.ensures.items, c.push_reserved-in-links.ensures.items)
          (paired_push IsOpenedBy c.links.links.items c.links.openings.items c.in_ok-link.link c.in_ok-link.opening
          c.links.invariant.openings c.in_ok-link.ensures.opens);
    }

pub returns-clause-links : goal.returns-clause-links
returns-clause-links c =
    let params = c.args.params.now in
    let starts = c.args.starts.now in
    c.links.invariant.given
    ∙ take_all c.links.place (setups params starts) (omega (arith, c.links-test.false, as_many_setups params starts c.requires.one_each))

pub returns-clause-kinds : goal.returns-clause-kinds
returns-clause-kinds c =
    let params = c.args.params.now in
    c.links.invariant.kinds
    ∙ ap (λ ps. map (kind_for c.args.which) ps) (take_all c.links.place params (omega (arith, c.links-test.false, c.requires.one_each)))

pub returns-clause-scripts : goal.returns-clause-scripts
returns-clause-scripts c =
    let scripts = c.args.scripts.now in
    subst (λ xs. AllZip IsScriptOf xs c.links.links.items)
    (take_all c.links.place scripts (omega (arith, c.links-test.false, c.requires.one_script_each))) c.links.invariant.scripts
