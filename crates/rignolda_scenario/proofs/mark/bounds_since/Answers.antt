use Rattle.std.proofs.Common.{◌≡◌, ◌+◌, ◌∙◌, ap, subst}
use Rattle.stab_job.specs.JobValues.{network}
use Rattle.stab_treecore.specs.Network.{Network}
use Rattle.stab_treecore.specs.NodeLaws.{most_missing, strays_bound}
use Rattle.rignolda_scenario.proofs.Counting.{missing_are, strays_are}
use Rattle.rignolda_scenario.proofs.mark.bounds_since.Goals as goal

pub returns-clause-strays : goal.returns-clause-strays
returns-clause-strays c =
    let net : Network = network c.args.at.job.now in
    let s = c.args.at.state.now in
    let node = c.args.node in
    let own = c.requires.own in
    let bounds = c.bounds_at-bounds in
    let strays : bounds.result.link_strays ≡ strays_bound net node =
    subst (λ (n : Network). bounds.result.link_strays ≡ strays_bound n node) own.0 bounds.ensures.sums.link_strays in
    ap (λ n. n + c.old_backlogs-backlogs.result) (c.from.ensures ∙ strays)
    ∙ (ap (λ n. strays_bound net node + n) c.old_backlogs-backlogs.ensures.sum ∙ strays_are net s node own.1 own.2)

pub returns-clause-missing : goal.returns-clause-missing
returns-clause-missing c =
    let net : Network = network c.args.at.job.now in
    let node = c.args.node in
    let own = c.requires.own in
    let bounds = c.bounds_at-bounds in
    let missing : bounds.result.missing ≡ most_missing net node =
    subst (λ (n : Network). bounds.result.missing ≡ most_missing n node) own.0 bounds.ensures.sums.missing in
    missing ∙ missing_are net c.args.at.state.now node own.1 own.2
