use Rattle.std.proofs.Common.{rules, ◌≡◌, ◌≤◌, length, vec_capacity, map, option_map, subst, sym, ap, ◌∙◌}
use Rattle.stab_node.specs.Work.{AreNew, IsWork, OffersUnlessRefused}
use Rattle.stab_node.proofs.Offers.{all_alike, all_beside}
use Rattle.stab_node.proofs.Prefixes.{written_back}
use Rattle.stab_node.proofs.worker.work.Goals as goal

pub returns-clause-work : goal.returns-clause-work
returns-clause-work g c = λ new.
    let initial = c.args.initial.now in
    let received = c.in_ok-served.served.received.items in
    let ended = c.in_ok-served.served.ended in
    let up = option_map g.U.RecvSide.received c.args.up in
    let upper = option_map g.U.RecvSide.received c.serve-served.new.up in
    let lower = map g.D.SendSide.sent c.serve-served.new.downs in
    let closed : map g.D.SendSide.done_sent c.finish_all.result.items ≡ lower =
    c.finish_all.ensures.accounts
    ∙ ap (map g.D.SendSide.sent)
    (written_back c.serve-served.new.downs c.args.downs.items c.args.downs.len
    (search (rules, c.serve-served.auto.downs, c.deref_mut.ensures.len))) in
    let work : IsWork initial received upper lower ended =
    c.in_ok-served.ensures.work
    (subst (λ xs. AreNew up (map g.D.SendSide.sent xs)) (sym c.deref_mut.ensures.value) new) in
    subst (λ u. IsWork initial received u (map g.D.SendSide.done_sent c.finish_all.result.items) ended)
    (sym c.finish_upper.ensures.account)
    (subst (λ d. IsWork initial received upper d ended) (sym closed) work)

pub finish_all-requires-clause-room : goal.finish_all-requires-clause-room
finish_all-requires-clause-room g c =
    subst (λ xs. length xs ≤ vec_capacity c.in_ok-served.served.room)
    (sym
    (written_back c.serve-served.new.downs c.args.downs.items c.args.downs.len
    (search (rules, c.serve-served.auto.downs, c.deref_mut.ensures.len))))
    c.in_ok-served.ensures.room

pub returns-clause-lower_links : goal.returns-clause-lower_links
returns-clause-lower_links g c =
    c.finish_all.ensures.links
    ∙ (ap (map g.D.SendSide.link)
    (written_back c.serve-served.new.downs c.args.downs.items c.args.downs.len
    (search (rules, c.serve-served.auto.downs, c.deref_mut.ensures.len)))
    ∙ (c.serve-served.ensures.lower_links ∙ ap (map g.D.SendSide.link) c.deref_mut.ensures.value))

pub returns-clause-upper_link : goal.returns-clause-upper_link
returns-clause-upper_link g c = c.finish_upper.ensures.link ∙ c.serve-served.ensures.upper_link

pub returns-clause-offers : goal.returns-clause-offers
returns-clause-offers g c = λ new.
    let up = option_map g.U.RecvSide.received c.args.up in
    let back =
    written_back c.serve-served.new.downs c.args.downs.items c.args.downs.len
    (search (rules, c.serve-served.auto.downs, c.deref_mut.ensures.len)) in
    let Q = OffersUnlessRefused g.D.SendSide.may_refuse_offer c.in_ok-served.served.received.items in
    all_beside Q g.D.SendSide.done_link g.D.SendSide.done_sent c.finish_all.result.items
    (all_alike Q g.D.SendSide.link g.D.SendSide.sent
    g.D.SendSide.done_link g.D.SendSide.done_sent c.serve-served.new.downs c.finish_all.result.items
    (c.finish_all.ensures.links ∙ ap (map g.D.SendSide.link) back)
    (c.finish_all.ensures.accounts ∙ ap (map g.D.SendSide.sent) back)
    (c.in_ok-served.ensures.offers (subst (λ xs. AreNew up (map g.D.SendSide.sent xs)) (sym c.deref_mut.ensures.value) new)))
