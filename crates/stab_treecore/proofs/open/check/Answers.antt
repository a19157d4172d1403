use Rattle.std.proofs.Common.{◌≡◌, ◌<◌, All, length, subst, arith, get_or}
use Rattle.std.proofs.lemmas.List.{take_all}
use Rattle.std.proofs.lemmas.List.Elements.{All-more}
use Rattle.std.proofs.lemmas.Result.{err_from_is_err_and}
use Rattle.stab_core.specs.LinkSetup.{CanBegin, setup, setups}
use Rattle.stab_core.proofs.Setups.{as_many_setups, setup_at}
use Rattle.stab_treecore.proofs.Opened.{first_fault, opening_reason}
use Rattle.stab_treecore.proofs.open.check.Goals as goal

pub links-preserved : goal.links-preserved
links-preserved c =
    let all = setups c.args.params.now c.args.starts.now in
    let link = setup c.index-params-place.result c.index-starts-place.result in
    let here : link ≡ get_or all c.links.place link =
    setup_at c.args.params.now c.args.starts.now c.links.place c.index-params-place.result c.index-starts-place.result (omega arith) (omega arith)
    c.index-params-place.is c.index-starts-place.is in
    let within : c.links.place < length all = omega (arith, as_many_setups c.args.params.now c.args.starts.now c.requires.one_each) in
    All-more CanBegin all c.links.place link within c.links.invariant
    (subst CanBegin here (c.check.ensures.lawful_params, c.in_ok-check.ensures.lawful))

pub returns-clause-lawful : goal.returns-clause-lawful
returns-clause-lawful c =
    let all = setups c.args.params.now c.args.starts.now in
    subst (λ links. All CanBegin links) (take_all c.links.place all (omega (arith, as_many_setups c.args.params.now c.args.starts.now c.requires.one_each)))
    c.links.invariant

pub returns-in_err-check-clause-refused : goal.returns-in_err-check-clause-refused
returns-in_err-check-clause-refused c =
    let p = err_from_is_err_and c.from_residual.result c.from_residual.ensures.1 in
    let all = setups c.args.params.now c.args.starts.now in
    let link = setup c.index-params-place.result c.index-starts-place.result in
    let within : c.links.place < length all = omega (arith, as_many_setups c.args.params.now c.args.starts.now c.requires.one_each) in
    rw (p.1, p.2)
    (opening_reason all c.in_err-check.field-0.0 c.in_err-check.ensures.no_memory
    (first_fault all c.links.place link c.in_err-check.field-0.0 within
    (setup_at c.args.params.now c.args.starts.now c.links.place c.index-params-place.result c.index-starts-place.result (omega arith) (omega arith)
    c.index-params-place.is c.index-starts-place.is) c.links.invariant c.in_err-check.ensures.refused))
