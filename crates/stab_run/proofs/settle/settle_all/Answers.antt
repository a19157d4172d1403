use Rattle.std.proofs.Common.{rules, ◌≡◌, ◌<◌, ◌+◌, length, map, Some, None, ap, sym, ◌∙◌, subst}
use Rattle.std.proofs.lemmas.List.{length-map}
use Rattle.stab_tree.specs.Nodes.{parent_at}
use Rattle.stab_run.specs.AnyLinks.{HasReceived, HasSent, MayDiffer, given_to, received_by, sent_by}
use Rattle.stab_run.specs.LinkRuns.{IsFirstRefused}
use Rattle.stab_run.proofs.Settlements.{none_settled, root_settled, child_settled, first_refused, all_followed}
use Rattle.stab_run.proofs.Paired.{as_many_paired}
use Rattle.stab_run.proofs.settle.settle_all.Goals as goal
use Rattle.stab_run.proofs.settle.settle_all.Goals.{in-None, in-Some+in-Ok}

pub nodes-init : goal.nodes-init
nodes-init c =
    let links = c.args.links.items in
    let sends = c.args.sends.items in
    let recvs = c.args.recvs.items in
    record {
      room = search rules;
      number = search rules;
      so_far =
          rw (c.in_ok-acked.ensures.items, c.from-links.ensures.0, c.from-sends.ensures.0, c.from-recvs.ensures.0)
          (none_settled c.args.tree.now.parents (map given_to links) (map sent_by sends) (map received_by recvs)
          (length-map links given_to ∙ c.requires.links)
          (length-map sends sent_by ∙ (as_many_paired HasSent links sends c.requires.sends ∙ c.requires.links))
          (length-map recvs received_by ∙ (as_many_paired HasReceived links recvs c.requires.recvs ∙ c.requires.links)));
      followed = rw (c.from-links.ensures.0, c.from-sends.ensures.0, c.from-recvs.ensures.0) (λ all. all);
      one_of = rw c.from-links.ensures.0 c.requires.one_of;
      senders = rw (c.from-links.ensures.0, c.from-sends.ensures.0) c.requires.sends;
      receivers = rw (c.from-links.ensures.0, c.from-recvs.ensures.0) c.requires.recvs;
    }

pub nodes-preserved : goal.nodes-preserved
nodes-preserved c =
    let parents = c.args.tree.now.parents in
    let place = c.nodes.place in
    let within : place < length parents = search rules in
    let given = map given_to in
    let sent = map sent_by in
    let received = map received_by in
    elim c.match-parent.branch [
      | in-None w ↦
          let no_parent : parent_at parents place ≡ None =
          ap (λ n. parent_at parents n) (sym c.new-node.ensures) ∙ (sym c.parent.ensures.value ∙ w.in-None.is) in
          record {
            room = rw w.acked-is (w.push_reserved.ensures.capacity ∙ c.nodes.invariant.room);
            number = rw w.acked-is (w.push_reserved.ensures.len ∙ ap (λ n. n + 1) c.nodes.invariant.number);
            so_far =
                rw (w.acked-is, w.links-is, w.sends-is, w.recvs-is, w.push_reserved.ensures.items)
                (root_settled parents (given c.args.links.items) (sent c.args.sends.items) (received c.args.recvs.items) c.nodes.acked.items
                (given c.nodes.links.items) (sent c.nodes.sends.items) (received c.nodes.recvs.items) place c.nodes.invariant.so_far within no_parent);
            followed = rw (w.links-is, w.sends-is, w.recvs-is) c.nodes.invariant.followed;
            one_of = rw w.links-is c.nodes.invariant.one_of;
            senders = rw (w.links-is, w.sends-is) c.nodes.invariant.senders;
            receivers = rw (w.links-is, w.recvs-is) c.nodes.invariant.receivers;
          }
      | in-Some+in-Ok w ↦
          let is_child : parent_at parents place ≡ Some w.in-Some.field-0 =
          ap (λ n. parent_at parents n) (sym c.new-node.ensures) ∙ (sym c.parent.ensures.value ∙ w.in-Some.is) in
          let first = w.in-Ok.ensures.settled in
          record {
            room = rw w.acked-is (w.push_reserved-in-Ok.ensures.capacity ∙ c.nodes.invariant.room);
            number = rw w.acked-is (w.push_reserved-in-Ok.ensures.len ∙ ap (λ n. n + 1) c.nodes.invariant.number);
            so_far =
                rw (w.acked-is, w.links-is, w.sends-is, w.recvs-is, w.push_reserved-in-Ok.ensures.items, w.acked_by.ensures, first.counts)
                (child_settled parents (given c.args.links.items) (sent c.args.sends.items) (received c.args.recvs.items) c.nodes.acked.items
                place w.in-Some.field-0 first.link first.send first.recv (given c.nodes.links.items) (given w.settle_first.new.links.items)
                (sent c.nodes.sends.items) (sent w.settle_first.new.sends.items) (received c.nodes.recvs.items)
                (received w.settle_first.new.recvs.items) c.nodes.invariant.so_far within is_child first.settled first.the_link first.the_send
                first.the_recv);
            followed = rw (w.links-is, w.sends-is, w.recvs-is) (λ all. c.nodes.invariant.followed (w.in-Ok.ensures.followed all));
            one_of = rw w.links-is w.in-Ok.ensures.one_of;
            senders = rw (w.links-is, w.sends-is) w.in-Ok.ensures.senders;
            receivers = rw (w.links-is, w.recvs-is) w.in-Ok.ensures.receivers;
          }
    ]

pub returns-clause-followed : goal.returns-clause-followed
returns-clause-followed c =
    all_followed c.args.tree.now.parents c.args.links.items c.args.sends.items c.args.recvs.items c.nodes.acked.items c.nodes.links.items
    c.nodes.sends.items c.nodes.recvs.items c.nodes.place c.nodes.invariant.so_far c.nodes.invariant.followed (search rules)

-- the link into this child, which is refused, is the first that is left
pub returns-in-Err-clause-refused : goal.returns-in-Err-clause-refused
returns-in-Err-clause-refused c =
    let parents = c.args.tree.now.parents in
    let links = map given_to c.args.links.items in
    let sends = map sent_by c.args.sends.items in
    let recvs = map received_by c.args.recvs.items in
    let place = c.nodes.place in
    let within : place < length parents = search rules in
    let is_child : parent_at parents place ≡ Some c.in-Some.field-0 =
    ap (λ n. parent_at parents n) (sym c.new-node.ensures) ∙ (sym c.parent.ensures.value ∙ c.in-Some.is) in
    subst (λ n. IsFirstRefused (MayDiffer c.args.which) parents links sends recvs n c.in-Err.fault) (sym c.new-node.ensures)
    (first_refused (MayDiffer c.args.which) parents links sends recvs c.nodes.acked.items (map given_to c.nodes.links.items)
    (map sent_by c.nodes.sends.items) (map received_by c.nodes.recvs.items) place c.in-Some.field-0 c.in-Err.fault
    c.nodes.invariant.so_far within is_child c.in-Err.ensures.refused)
