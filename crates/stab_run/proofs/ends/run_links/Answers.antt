use Rattle.std.proofs.Common.{rules, ◌≡◌, ◌∙◌, length}
use Rattle.stab_run.specs.AnyLinks.{name_of}
use Rattle.stab_run.specs.Scripted.{ScriptedLink, ScriptedRecvEnd, ScriptedRecvFinished, ScriptedSendEnd, ScriptedSendFinished}
use Rattle.stab_node.proofs.ForCallers.{at_error}
use Rattle.stab_node.specs.ByNode.{received_at}
use Rattle.stab_node.specs.Runs.{IsWorkersReason}
use Rattle.stab_tree.specs.Nodes.{root_of}
use Rattle.stab_run.proofs.Paired.{paired_read, read_further}
use Rattle.stab_run.proofs.ends.run_links.Goals as goal

-- the run is that of the job's tree, openings and items, and its finished ends are those of the
-- links, in their order
pub returns-clause-run : goal.returns-clause-run
returns-clause-run g c =
    let job = c.args.job.now in
    let links = c.args.links.now in
    let ends = c.in_ok-sends in
    let left = c.in_ok-gathered in
    let ran = rw (c.tree.ensures.tree, c.openings.ensures.openings) at left.ensures.run in
    let root : received_at left.gathered.received.items (root_of job.tree.parents) ≡ job.items = search (rules, ran.at_root) in
    record {
      run = record {
        all_received = ran.all_received;
        all_ended = ran.all_ended;
        at_root = root;
        delivered = ran.delivered;
        served = ran.served;
        offers = ran.offers;
        upstream = ran.upstream;
        handed_on = ran.handed_on;
      };
      sent =
          paired_read (λ link (its : ScriptedLink). its.id ≡ name_of link) (λ (end : ScriptedSendEnd). end.link)
          (λ (done : ScriptedSendFinished). done.link) links ends.sends.items left.gathered.sends.items ends.ensures.senders left.ensures.sender_links;
      delivered =
          paired_read (λ link (its : ScriptedLink). its.id ≡ name_of link) (λ (end : ScriptedRecvEnd). end.link)
          (λ (done : ScriptedRecvFinished). done.link) links ends.recvs.items left.gathered.recvs.items ends.ensures.receivers left.ensures.receiver_links;
      send_plans =
          read_further (λ (its : ScriptedLink). its.plan) (λ (end : ScriptedSendEnd). end.link) (λ (done : ScriptedSendFinished). done.link)
          ends.sends.items left.gathered.sends.items left.ensures.sender_links
          ∙ (rw (c.scripts.ensures.scripts, c.turns-turns.ensures.turns) at ends.ensures.send_plans);
      recv_plans =
          read_further (λ (its : ScriptedLink). its.plan) (λ (end : ScriptedRecvEnd). end.link) (λ (done : ScriptedRecvFinished). done.link)
          ends.recvs.items left.gathered.recvs.items left.ensures.receiver_links
          ∙ (rw (c.scripts.ensures.scripts, c.turns-turns.ensures.turns) at ends.ensures.recv_plans);
    }

pub returns-clause-turns : goal.returns-clause-turns
returns-clause-turns g c = rw (c.tree.ensures.tree, c.turns-turns.ensures.turns) at c.in_ok-gathered.ensures.turns

pub returns-in_err-gathered-clause-refused : goal.returns-in_err-gathered-clause-refused
returns-in_err-gathered-clause-refused g c =
    let job = c.args.job.now in
    let gate = c.args.gate.now in
    at_error _ _
    (IsWorkersReason (g.G.Gate.has_passed gate) (g.G.Gate.may_refuse gate) (g.G.Gate.is_done gate) (length job.tree.parents) job.turns)
    c.from_residual-in_err-gathered.ensures.1
    (rw (c.tree.ensures.tree, c.turns-turns.ensures.turns) at c.in_err-gathered.ensures.refused)
