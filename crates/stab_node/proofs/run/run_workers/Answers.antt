use Rattle.std.proofs.Common.{length, map, option_map, ap, ◌∙◌, arith}
use Rattle.stab_node.proofs.ByParent.{rows_can_be_gathered, rows_gathered_alike}
use Rattle.stab_node.specs.declared.account.Ended.TheVariants.{Turns}
use Rattle.stab_node.specs.Runs.{IsWorkersReason}
use Rattle.stab_node.specs.Turns.{IsOver}
use Rattle.stab_node.specs.Work.{OffersUnlessRefused}
use Rattle.stab_node.proofs.Firsts.{all_known}
use Rattle.stab_node.proofs.ForCallers.{column_can_be_gathered, column_gathered_alike}
use Rattle.stab_node.proofs.HandedOn.{is_run}
use Rattle.stab_node.proofs.Offers.{all_of_beside}
use Rattle.stab_node.proofs.Worked.{at_error, at_numbers, new_at_workers, of_workers, read_alike, reason_of_all, worked}
use Rattle.stab_node.proofs.run.run_workers.Goals as goal

-- there is an opening for each worker
pub run_each-requires-clause-known : goal.run_each-requires-clause-known
run_each-requires-clause-known g c κs within =
    all_known _ c.args.tree.now.parents c.args.openings.now
    (ap (λ workers. map (λ s. s.node) workers) c.from-workers.ensures.0 ∙ c.in_ok-workers.ensures.nodes) c.requires.fits

-- the accounts have an upper end wherever one was scattered
pub gather_accounts-requires-clause-ups : goal.gather_accounts-requires-clause-ups
gather_accounts-requires-clause-ups g c =
    let kept = of_workers _ _ _ _ _ c.in_ok-answered.ensures.accounts c.from-workers.ensures.0 c.from-accounts.ensures.0 in
    column_can_be_gathered g.U.RecvSide.done_link g.U.RecvSide.link _ _ c.requires.receivers _
    (read_alike _ (option_map g.U.RecvSide.done_link) (option_map g.U.RecvSide.link) (λ a. a.up) (λ s. s.up) _ _ _ (λ s a kept. kept.0.up_link) kept
    c.in_ok-workers.ensures.ups)

-- and as many lower ends as were scattered
pub gather_accounts-requires-clause-downs : goal.gather_accounts-requires-clause-downs
gather_accounts-requires-clause-downs g c =
    let kept = of_workers _ _ _ _ _ c.in_ok-answered.ensures.accounts c.from-workers.ensures.0 c.from-accounts.ensures.0 in
    rows_can_be_gathered g.D.SendSide.done_link g.D.SendSide.link _ _ c.requires.senders _
    (read_alike _ (map g.D.SendSide.done_link) (map g.D.SendSide.link) (λ a. a.downs.items) (λ s. s.downs.items) _ _ _ (λ s a kept. kept.0.down_links) kept
    c.in_ok-workers.ensures.downs)

-- what is gathered belongs, link by link, to the links that were scattered
pub returns-clause-sender_links : goal.returns-clause-sender_links
returns-clause-sender_links g c =
    let kept = of_workers _ _ _ _ _ c.in_ok-answered.ensures.accounts c.from-workers.ensures.0 c.from-accounts.ensures.0 in
    rows_gathered_alike g.D.SendSide.done_link g.D.SendSide.link _ _ c.requires.senders c.root.ensures.tree.rooted.known_parents _ _
    (read_alike _ (map g.D.SendSide.done_link) (map g.D.SendSide.link) (λ a. a.downs.items) (λ s. s.downs.items) _ _ _ (λ s a kept. kept.0.down_links) kept
    c.in_ok-workers.ensures.downs)
    c.in_ok-gathered.ensures.senders c.in_ok-gathered.ensures.sends

pub returns-clause-receiver_links : goal.returns-clause-receiver_links
returns-clause-receiver_links g c =
    let kept = of_workers _ _ _ _ _ c.in_ok-answered.ensures.accounts c.from-workers.ensures.0 c.from-accounts.ensures.0 in
    column_gathered_alike g.U.RecvSide.done_link g.U.RecvSide.link _ _ c.requires.receivers _ _
    (read_alike _ (option_map g.U.RecvSide.done_link) (option_map g.U.RecvSide.link) (λ a. a.up) (λ s. s.up) _ _ _ (λ s a kept. kept.0.up_link) kept
    c.in_ok-workers.ensures.ups)
    c.in_ok-gathered.ensures.receivers c.in_ok-gathered.ensures.recvs

-- what the workers leave of each node is what the run says of it and of the links to its children
pub returns-clause-run : goal.returns-clause-run
returns-clause-run g c =
    let kept = of_workers _ _ _ _ _ c.in_ok-answered.ensures.accounts c.from-workers.ensures.0 c.from-accounts.ensures.0 in
    let new =
    new_at_workers g.U.RecvSide.received g.D.SendSide.sent _ _ _ _ _ _ c.in_ok-workers.ensures.ups c.in_ok-workers.ensures.downs
    c.requires.new_receivers c.requires.new_senders in
    let gathered = c.in_ok-gathered.ensures in
    is_run g.U.RecvSide.done_received g.D.SendSide.done_sent (λ done. g.D.SendSide.may_refuse_offer (g.D.SendSide.done_link done))
    c.args.tree.now.parents c.args.openings.now.lists c.args.published.now (λ a. a.received.items) (λ a. a.up) (λ a. a.downs.items) (λ a. a.ended)
    c.from-accounts.result.items _ _ _ _ gathered.received gathered.ended gathered.recvs gathered.sends
    (rw (← (c.place-root.ensures ∙ c.root.ensures.value))
    (worked _ _ _ _ _ _ _ (λ s a kept new. kept.0.work new) kept c.in_ok-workers.ensures.nodes new))
    (worked _ _ _ _ _ _ _
    (λ s a kept new. all_of_beside (OffersUnlessRefused g.D.SendSide.may_refuse_offer a.received.items) g.D.SendSide.done_link g.D.SendSide.done_sent
    a.downs.items (kept.0.offers new))
    kept c.in_ok-workers.ensures.nodes new)
    c.root.ensures.tree.rooted

pub returns-clause-turns : goal.returns-clause-turns
returns-clause-turns g c =
    let gate = c.args.gate.now in
    let kept = of_workers _ _ _ _ _ c.in_ok-answered.ensures.accounts c.from-workers.ensures.0 c.from-accounts.ensures.0 in
    let numbers = c.in_ok-workers.ensures.nodes in
    rw c.in_ok-gathered.ensures.ended
    (record {
      over = λ node within.
          at_numbers _ _ _ Turns (λ k ended. IsOver (g.G.Gate.has_passed gate k) c.args.turns ended) _ _ 0 _ node node (λ s a kept. kept.0.over)
          kept numbers within (omega arith);
      done = λ node within.
          at_numbers _ _ (λ a. a.ended) Turns (λ k ended. g.G.Gate.is_done gate k) _ _ 0 _ node node (λ s a kept. kept.1)
          kept numbers within (omega arith);
    })

-- the reason of the workers is that of their nodes
pub returns-in_err-answered-clause-refused : goal.returns-in_err-answered-clause-refused
returns-in_err-answered-clause-refused g c =
    let gate = c.args.gate.now in
    let numbers = ap (λ workers. map (λ s. s.node) workers) c.from-workers.ensures.0 ∙ c.in_ok-workers.ensures.nodes in
    let passed = g.G.Gate.has_passed gate in
    let refuses = g.G.Gate.may_refuse gate in
    let done = g.G.Gate.is_done gate in
    let count = length c.args.tree.now.parents in
    at_error _ _ (IsWorkersReason passed refuses done count c.args.turns) c.from_residual-in_err-answered.ensures.1
    (reason_of_all passed refuses done count c.args.turns _ numbers _ c.in_err-answered.ensures.refused)
