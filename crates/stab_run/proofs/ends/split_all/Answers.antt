use Rattle.std.proofs.Common.{◌≡◌, ◌<◌, ◌+◌, ◌∙◌, ap, refl, subst, length, map, take_all, arith}
use Rattle.std.specs.List.{AllZip}
use Rattle.std.proofs.lemmas.List.Elements.{All-push}
use Rattle.stab_ends.specs.Accounts.{new_receiver, new_sender}
use Rattle.stab_run.specs.AnyLinks.{IsOpenedBy, Receives, Sends}
use Rattle.stab_run.specs.Scripted.{ScriptedRecvEnd, ScriptedSendEnd, plan}
use Rattle.stab_run.proofs.Paired.{more_paired, next_paired, one_more_end, one_more_paired}
use Rattle.stab_run.proofs.ends.split_all.Goals as goal

pub take_first-opening-requires : goal.take_first-opening-requires
take_first-opening-requires g c =
    more_paired IsOpenedBy c.args.links.now c.links.openings.items c.links.place c.links-test.true c.links.invariant.openings

pub links-preserved : goal.links-preserved
links-preserved g c =
    let links = c.args.links.now in
    let scripts = c.args.scripts.now in
    let place = c.links.place in
    let link = c.index-links-place.result in
    let script = c.index-scripts-place.result in
    let in_links : place < length links = c.links-test.true in
    let in_scripts : place < length scripts = omega (arith, in_links, c.requires.scripts) in
    let next =
    next_paired IsOpenedBy links c.take_first-opening.new.openings.items place link c.take_first-opening.result c.links.openings.items in_links
    c.index-links-place.is c.links.invariant.openings c.take_first-opening.ensures in
    record {
      send_room = c.push_reserved.ensures.capacity ∙ c.links.invariant.send_room;
      recv_room = c.push_reserved-in-links.ensures.capacity ∙ c.links.invariant.recv_room;
      send_count = c.push_reserved.ensures.len ∙ ap (λ n. n + 1) c.links.invariant.send_count;
      recv_count = c.push_reserved-in-links.ensures.len ∙ ap (λ n. n + 1) c.links.invariant.recv_count;
      senders =
          rw c.push_reserved.ensures.items
          (one_more_paired (λ link end. Sends link end) links c.links.sends.items place link c.in_ok-send.send in_links c.index-links-place.is
          c.links.invariant.senders c.in_ok-send.ensures.sends);
      receivers =
          rw c.push_reserved-in-links.ensures.items
          (one_more_paired (λ link end. Receives link end) links c.links.recvs.items place link c.in_ok-send.recv in_links c.index-links-place.is
          c.links.invariant.receivers c.in_ok-send.ensures.receives);
      send_plans =
          rw c.push_reserved.ensures.items
          (one_more_end (λ (end : ScriptedSendEnd). end.link.plan) (plan c.args.turns) c.links.sends.items c.in_ok-send.send scripts place script
          script in_scripts c.index-scripts-place.is refl c.in_ok-send.ensures.send_plan c.links.invariant.send_plans);
      recv_plans =
          rw c.push_reserved-in-links.ensures.items
          (one_more_end (λ (end : ScriptedRecvEnd). end.link.plan) (plan c.args.turns) c.links.recvs.items c.in_ok-send.recv scripts place script
          script in_scripts c.index-scripts-place.is refl c.in_ok-send.ensures.recv_plan c.links.invariant.recv_plans);
      new_senders =
          rw c.push_reserved.ensures.items
          (All-push (λ (end : ScriptedSendEnd). end.account ≡ new_sender) c.links.sends.items _ c.links.invariant.new_senders
          c.in_ok-send.ensures.send_account);
      new_receivers =
          rw c.push_reserved-in-links.ensures.items
          (All-push (λ (end : ScriptedRecvEnd). end.account ≡ new_receiver) c.links.recvs.items _ c.links.invariant.new_receivers
          c.in_ok-send.ensures.recv_account);
      openings = next.1;
    }

pub returns-clause-senders : goal.returns-clause-senders
returns-clause-senders g c =
    subst (λ xs. AllZip (λ link end. Sends link end) xs c.links.sends.items)
    (take_all c.links.place c.args.links.now (omega (arith, c.links-test.false))) c.links.invariant.senders

pub returns-clause-receivers : goal.returns-clause-receivers
returns-clause-receivers g c =
    subst (λ xs. AllZip (λ link end. Receives link end) xs c.links.recvs.items)
    (take_all c.links.place c.args.links.now (omega (arith, c.links-test.false))) c.links.invariant.receivers

pub returns-clause-send_plans : goal.returns-clause-send_plans
returns-clause-send_plans g c =
    let scripts = c.args.scripts.now in
    c.links.invariant.send_plans
    ∙ ap (λ xs. map (plan c.args.turns) xs) (take_all c.links.place scripts (omega (arith, c.links-test.false, c.requires.scripts)))

pub returns-clause-recv_plans : goal.returns-clause-recv_plans
returns-clause-recv_plans g c =
    let scripts = c.args.scripts.now in
    c.links.invariant.recv_plans
    ∙ ap (λ xs. map (plan c.args.turns) xs) (take_all c.links.place scripts (omega (arith, c.links-test.false, c.requires.scripts)))

pub returns-clause-new_senders : goal.returns-clause-new_senders
returns-clause-new_senders g c = c.links.invariant.new_senders

pub returns-clause-new_receivers : goal.returns-clause-new_receivers
returns-clause-new_receivers g c = c.links.invariant.new_receivers
