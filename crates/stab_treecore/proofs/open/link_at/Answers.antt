use Rattle.std.proofs.Common.{◌≡◌, map}
use Rattle.std.specs.Prelude.{slice_index_or}
use Rattle.std.proofs.lemmas.Result.{IfOk-weaker, IfErr-weaker}
use Rattle.stab_core.specs.Link.{IsReason}
use Rattle.stab_core.specs.LinkSetup.{setup, setups}
use Rattle.stab_treecore.specs.Refusals.{IsOpeningReason}
use Rattle.stab_treecore.specs.TreeReplay.{opened}
use Rattle.stab_core.proofs.Setups.{can_begin_at}
use Rattle.stab_treecore.proofs.Opened.{opened_at, lawful_refused}
use Rattle.stab_treecore.proofs.open.link_at.Goals as goal

pub returns-clause-link : goal.returns-clause-link
returns-clause-link c =
    let link = setup c.index-params-place.result c.index-starts-place.result in
    IfOk-weaker c.new.result (λ l. l ≡ opened link)
    (λ l. l ≡ slice_index_or (map opened (setups c.args.params.now c.args.starts.now)) c.args.place l)
    (λ l is. rw is (opened_at c.args.params.now c.args.starts.now c.args.place c.index-params-place.result c.index-starts-place.result
    c.requires.in_params c.requires.in_starts c.index-params-place.is c.index-starts-place.is))
    c.new.ensures.initial

pub returns-clause-refused : goal.returns-clause-refused
returns-clause-refused c =
    let p = c.index-params-place.result in
    let start = c.index-starts-place.result in
    let all = setups c.args.params.now c.args.starts.now in
    IfErr-weaker c.new.result (IsReason p start) (IsOpeningReason all)
    (λ fault. lawful_refused all (setup p start) fault c.requires.lawful
    (can_begin_at c.args.params.now c.args.starts.now c.args.place p start c.requires.in_params c.requires.in_starts
    c.index-params-place.is c.index-starts-place.is c.requires.lawful))
    c.new.ensures.refused
