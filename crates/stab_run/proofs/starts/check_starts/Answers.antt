use Rattle.std.proofs.Common.{◌≡◌, ◌<◌, All, length, get_or, ap, sym, subst, ◌∙◌, arith}
use Rattle.std.proofs.lemmas.List.{take_all}
use Rattle.std.proofs.lemmas.List.Elements.{All-more}
use Rattle.stab_core.specs.LinkSetup.{CanBegin, setup, setups}
use Rattle.stab_core.proofs.Setups.{as_many_setups, setup_at}
use Rattle.stab_run.proofs.starts.check_starts.Goals as goal

pub loop-place-preserved : goal.loop-place-preserved
loop-place-preserved c =
    let params = c.args.params.now in
    let starts = c.args.starts.now in
    let place = c.loop-place.place in
    let its_params = c.index-params-link.result in
    let start = c.index-starts-link.result in
    let all = setups params starts in
    let counted : length params ≡ length starts = c.requires.one_params_each ∙ sym c.requires.one_start_each in
    let in_starts : place < length starts =
    omega (arith, c.loop-place-test.true, c.link_count-place-end.ensures.value, c.requires.one_start_each) in
    let in_params : place < length params = omega (arith, in_starts, counted) in
    let has_params : its_params ≡ get_or params place its_params = c.index-params-link.is ∙ ap (λ i. get_or params i its_params) c.from-link.ensures in
    let begins : start ≡ get_or starts place start = c.index-starts-link.is ∙ ap (λ i. get_or starts i start) c.from-link.ensures in
    let here : setup its_params start ≡ get_or all place (setup its_params start) =
    setup_at params starts place its_params start in_params in_starts has_params begins in
    All-more CanBegin all place (setup its_params start) (omega (arith, in_starts, as_many_setups params starts counted)) c.loop-place.invariant
    (subst CanBegin here (c.unlawful.ensures.lawful_params, c.in-None.ensures.lawful))

pub returns-clause-can_begin : goal.returns-clause-can_begin
returns-clause-can_begin c =
    let params = c.args.params.now in
    let starts = c.args.starts.now in
    let counted : length params ≡ length starts = c.requires.one_params_each ∙ sym c.requires.one_start_each in
    subst (λ links. All CanBegin links)
    (take_all c.loop-place.place (setups params starts)
    (omega (arith, as_many_setups params starts counted, c.loop-place-test.false, c.link_count-place-end.ensures.value, c.requires.one_start_each)))
    c.loop-place.invariant
