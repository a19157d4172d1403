use Rattle.std.proofs.Common.{◌≡◌, ◌<◌, [], ◌∷◌, ◌++◌, length, get_or, Err, sym, arith, rules}
use Rattle.std.proofs.lemmas.Option.{slice_get-get_or}
use Rattle.stab_job.specs.declared.link_entry.LinkEntry.TheVariants.{OfJob}
use Rattle.stab_job.specs.LinkParams.{all_params, params_into}
use Rattle.stab_job.proofs.OwnParams.{params_more, params_fault}
use Rattle.stab_tree.specs.Links.{links_of}
use Rattle.stab_job.proofs.links.all_params.Goals as goal

pub returns-in_err-params_at-clause-params : goal.returns-in_err-params_at-clause-params
returns-in_err-params_at-clause-params c =
    let children = links_of c.args.tree.now.parents in
    let entries = c.args.entries.now in
    let place = c.loop-place.place in
    let known : place < length children = omega (arith, c.loop-place-test.true, c.link_count-place-end.ensures.value) in
    let within : place < length entries = omega (arith, known, c.requires.one_entry_each) in
    let child = get_or children place 0 in
    let found = slice_get-get_or children place 0 known in
    let fault : params_into c.args.of_job child (get_or entries place OfJob) ≡ Err c.in_err-params_at.field-0.0 =
    sym (rw c.in_err-params_at.was at c.params_at.ensures.params child found) in
    let whole =
    params_fault c.args.of_job children entries place child OfJob within found (all_params c.args.of_job children entries) c.loop-place.params
    c.loop-place.invariant c.in_err-params_at.field-0.0 fault in
    search (whole, rules)

pub loop-place-preserved : goal.loop-place-preserved
loop-place-preserved c =
    let children = links_of c.args.tree.now.parents in
    let entries = c.args.entries.now in
    let place = c.loop-place.place in
    let known : place < length children = omega (arith, c.loop-place-test.true, c.link_count-place-end.ensures.value) in
    let within : place < length entries = omega (arith, known, c.requires.one_entry_each) in
    let child = get_or children place 0 in
    let found = slice_get-get_or children place 0 known in
    let grown : c.push.new.self ≡ c.loop-place.params ++ c.in_ok-params_at.field-0 ∷ [] = rw c.in_ok-push.was at c.push.ensures in
    rw grown
    (params_more c.args.of_job children entries place child OfJob within found (all_params c.args.of_job children entries) c.loop-place.params
    c.loop-place.invariant c.in_ok-params_at.field-0 (sym (rw c.in_ok-params_at.was at c.params_at.ensures.params child found)))
