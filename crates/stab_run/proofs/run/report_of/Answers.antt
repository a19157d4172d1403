use Rattle.std.proofs.Common.{◌≡◌, List, Option, ℕ, None, ap, length, map, sym, ◌∙◌, subst}
use Rattle.stab_core.proofs.Setups.{as_many_setups}
use Rattle.stab_job.specs.JobValues.{network}
use Rattle.stab_tree.specs.IsTree.{IsRooted}
use Rattle.stab_tree.specs.Links.{links_of}
use Rattle.stab_tree.specs.Nodes.{Nodes, parent_at, root_of}
use Rattle.stab_tree.specs.ByChild.{by_child}
use Rattle.stab_treecore.specs.Network.{IsNetwork}
use Rattle.stab_node.proofs.ForCallers.{at_error}
use Rattle.stab_run.specs.AnyLinks.{given_to, kind_of, received_by, sent_by}
use Rattle.stab_run.specs.ByScript.{AreByLockedScript, AreByScript}
use Rattle.stab_run.specs.LinkRuns.{AreSettled, acked_of}
use Rattle.stab_run.specs.RunFaults.{IsSettlingReason}
use Rattle.stab_report.specs.EndedNodes.{AllHandOn}
use Rattle.stab_run.specs.Reports.{OnePerNode, Reported, as_report}
use Rattle.stab_run.specs.Runs.{AreExplained, RootHas}
use Rattle.stab_run.proofs.Begun.{as_many_links}
use Rattle.stab_run.proofs.Explained.{one_per_node, root_has, are_explained, hands_on, are_by_script, are_by_locked_script}
use Rattle.stab_run.proofs.run.report_of.Goals as goal

pub settle_all-requires-clause-links : goal.settle_all-requires-clause-links
settle_all-requires-clause-links c =
    let job = c.args.job.now in
    let its_job = c.tree-tree.ensures.job in
    as_many_links given_to c.args.links.items (network job).links c.requires.given
    ∙ (as_many_setups job.params job.starts (its_job.one_params_each ∙ sym its_job.one_start_each)
    ∙ (its_job.one_start_each ∙ ap (λ t. length (links_of t.parents)) (sym c.tree-tree.ensures.tree)))

pub settle_all-requires-clause-sends : goal.settle_all-requires-clause-sends
settle_all-requires-clause-sends c = c.requires.run.sent

pub settle_all-requires-clause-recvs : goal.settle_all-requires-clause-recvs
settle_all-requires-clause-recvs c = c.requires.run.delivered

-- the job is a network, since its starts are lawful; each link of the report is explained by
-- settling it, and so the laws hold
pub returns-clause-report : goal.returns-clause-report
returns-clause-report c =
    let job = c.args.job.now in
    let its_job = c.tree-tree.ensures.job in
    let net = network job in
    let ran = c.args.gathered in
    let made = c.args.links.items in
    let sent = map sent_by ran.sends.items in
    let delivered = map received_by ran.recvs.items in
    let kinds = map kind_of c.of.result.value.items in
    let report_with : List (Option ℕ) → Reported = λ acked. record { received = ran.received.items; acked = acked; ended = ran.ended.items; kinds = kinds } in
    let counted : by_child net.tree.parents (map acked_of sent) ≡ c.in_ok-acked.acked.items =
    sym (rw c.tree-tree.ensures.tree at c.in_ok-acked.ensures.acked) in
    let settled : AreSettled net.links sent delivered = rw c.requires.given at c.in_ok-acked.ensures.settled in
    let one_each : length net.links ≡ length (links_of net.tree.parents) =
    as_many_setups job.params job.starts (its_job.one_params_each ∙ sym its_job.one_start_each) ∙ its_job.one_start_each in
    let none : parent_at net.tree.parents (root_of net.tree.parents) ≡ None =
    rw c.tree-tree.ensures.tree at c.root-root.ensures.tree.rooted.root_has_none in
    let is_network : IsNetwork net =
    record {
      tree = subst (λ (t : Nodes). IsRooted t.parents) c.tree-tree.ensures.tree c.root-root.ensures.tree.rooted;
      openings_fit = its_job.openings_fit;
      one_per_link = one_each;
      can_begin = c.requires.lawful;
    } in
    let report = report_with c.in_ok-acked.acked.items in
    let root : RootHas net report =
    subst (λ acked. RootHas net (report_with acked)) counted (root_has job made ran.received.items ran.ended.items ran.sends.items ran.recvs.items kinds c.requires.run none) in
    let edges : AreExplained net report =
    subst (λ acked. AreExplained net (report_with acked)) counted
    (are_explained job made ran.received.items ran.ended.items ran.sends.items ran.recvs.items kinds c.requires.run one_each settled c.requires.lawful) in
    let handed_on : AllHandOn net.tree.parents (as_report report) =
    subst (λ acked. AllHandOn net.tree.parents (as_report (report_with acked))) counted
    (hands_on job made ran.received.items ran.ended.items ran.sends.items ran.recvs.items kinds c.requires.run one_each settled) in
    let as_many : length made ≡ length (links_of net.tree.parents) = as_many_links given_to made net.links c.requires.given ∙ one_each in
    let scripts : AreByScript c.args.which job report =
    subst (λ acked. AreByScript c.args.which job (report_with acked)) counted
    (are_by_script c.args.which job made ran.received.items ran.ended.items ran.sends.items ran.recvs.items kinds c.requires.run
    c.requires.given c.requires.one_of as_many c.in_ok-acked.ensures.followed) in
    let locked_scripts : AreByLockedScript c.args.which job report =
    subst (λ acked. AreByLockedScript c.args.which job (report_with acked)) counted
    (are_by_locked_script c.args.which job made ran.received.items ran.ended.items ran.sends.items ran.recvs.items kinds c.requires.run
    c.requires.given c.requires.one_of as_many c.in_ok-acked.ensures.followed c.requires.scripts) in
    record {
      one_place = c.requires.one_place;
      nodes =
          subst (λ acked. OnePerNode net.tree.parents (report_with acked)) counted
          (one_per_node job made ran.received.items ran.ended.items ran.sends.items ran.recvs.items kinds c.requires.run);
      root = root;
      edges = edges;
      kinds = ap (λ links. map kind_of links.items) c.of.ensures ∙ c.requires.kinds;
      scripts = scripts;
      locked_scripts = locked_scripts;
      handed_on = handed_on;
      half_tree_law =
          c.explained_reports_obey_the_tree_law.ensures.half_tree_law net report is_network.tree is_network.openings_fit root edges;
      tree_law = c.explained_reports_obey_the_tree_law.ensures.tree_law net report is_network.tree is_network.openings_fit root edges;
      sharper_tree_law = c.explained_reports_obey_the_tree_law.ensures.sharper_tree_law net report is_network.tree is_network.openings_fit root edges;
      complete =
          c.nothing_is_missing_below_ended_nodes.ensures net report is_network.tree is_network.openings_fit root edges handed_on;
      network = is_network;
    }

-- the first link that is refused is the job's link into this child
pub returns-in_err-acked-clause-refused : goal.returns-in_err-acked-clause-refused
returns-in_err-acked-clause-refused c =
    let net = network c.args.job.now in
    at_error _ _
    (λ fault. IsSettlingReason c.args.which net.tree.parents net.links (map sent_by c.args.gathered.sends.items)
    (map received_by c.args.gathered.recvs.items) fault)
    c.from_residual.ensures.1
    (rw (c.tree-tree.ensures.tree, c.requires.given) at c.in_err-acked.ensures.refused)
