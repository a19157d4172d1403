use Rattle.std.proofs.Common.{ap, inl, length, map, refl, rules, deque_len, deque_capacity}
use Rattle.std.proofs.lemmas.List.Elements.{All-cons}
use Rattle.stab_node.proofs.Firsts.{known_first}
use Rattle.stab_node.specs.Answers.{HasWorked, node_ends}
use Rattle.stab_node.specs.InitialItems.{initial_at}
use Rattle.stab_node.specs.declared.account.NodeAccount.{NodeAccount}
use Rattle.stab_node.specs.declared.worker_ends.WorkerEnds.{WorkerEnds}
use Rattle.stab_node.proofs.Joined.{accounts_joined, one_more_joined, refused_joined, room_for_one, same_room_joined}
use Rattle.stab_node.proofs.workers.+fn-run_each-scope+run_each.Goals as goal

-- the promise remembers the ends that the worker took
pub scope-spawn_with-requires-clause-keeps : goal.scope-spawn_with-requires-clause-keeps
scope-spawn_with-requires-clause-keeps g t c κs within = λ r holds. rw c.of.ensures holds

-- where the worker cannot be started, its node is done, and those after it are
pub scope-returns-in-Err : goal.scope-returns-in-Err
scope-returns-in-Err g t c = record {
  accounts = tt;
  len = tt;
  room = tt;
  refused =
      (inl refl, All-cons (g.G.Gate.is_done c.captures.gate.now) c.captures.ends.node (map (λ s. s.node) c.captures.workers.items) c.done.ensures c.leave_out.ensures);
}

-- the list has room for one account more
pub scope-put_first-requires : goal.scope-put_first-requires
scope-put_first-requires g t c = record {
  room =
      room_for_one deque_len deque_capacity (deque_len c.captures.workers) (deque_capacity c.captures.accounts) c.run_each-rest.result
      c.run_each-rest.ensures.len c.run_each-rest.ensures.room c.requires.room;
}

-- the worker's answer goes before those of the workers after it
pub scope-returns : goal.scope-returns
scope-returns g t c =
    let gate = c.captures.gate.now in
    let has_passed = g.G.Gate.has_passed gate in
    let may_refuse = g.G.Gate.may_refuse gate in
    let is_done = g.G.Gate.is_done gate in
    let turns = c.captures.turns in
    let worked : WorkerEnds _ _ → NodeAccount _ _ → Type 0 =
    λ s a. HasWorked (has_passed s.node) g.D.SendSide.may_refuse_offer turns
    (initial_at c.captures.root c.captures.published.now c.captures.openings.now.lists s.node)
    (node_ends g.U.RecvSide.received g.U.RecvSide.link g.D.SendSide.sent g.D.SendSide.link s.up s.downs.items)
    (node_ends g.U.RecvSide.done_received g.U.RecvSide.done_link g.D.SendSide.done_sent g.D.SendSide.done_link a.up a.downs.items)
    a.received.items a.ended in
    let answer = c.join.result in
    let others = c.run_each-rest.result in
    let result = c.put_first.result in
    let kept = rw c.first_items-first.ensures at (rw c.of.ensures at (rw c.in-Ok.ensures.ok at c.join.ensures)) in
    let rest = c.run_each-rest.ensures in
    let joined = c.put_first.ensures in
    record {
      accounts =
          accounts_joined (λ v. v.items) deque_len deque_capacity (λ s. s.node) has_passed may_refuse is_done turns worked c.captures.ends
          c.captures.workers.items answer others result kept rest.accounts joined.accounts;
      len = one_more_joined (λ v. v.items) deque_len deque_capacity (deque_len c.captures.workers) answer others result rest.len joined.accounts;
      room = same_room_joined (λ v. v.items) deque_len deque_capacity (deque_capacity c.captures.accounts) answer others result rest.room joined.accounts;
      refused =
          refused_joined (λ v. v.items) deque_len deque_capacity (λ s. s.node) has_passed may_refuse is_done turns worked c.captures.ends
          c.captures.workers.items answer others result (λ a done. (a.ended, done.over)) kept rest.accounts rest.refused joined.fault;
    }

-- the closure may be called as it is: what it asks is what this asks
pub fn::run_each::scope+FnOnce::call_once-scope-requires :
    goal.fn::run_each::scope+FnOnce::call_once-scope-requires
fn::run_each::scope+FnOnce::call_once-scope-requires g t c κs within =
    let asked = c.requires.1.1.1.1.1.1.1 in
    let kinds = asked.1.1.1.1.1.0 in (
      c.decreases,
      (
        within.0,
        (
          within.1.0,
          (
            within.1.1.0,
            (
              within.1.1.1.0,
              (
                within.1.1.1.1.0,
                (
                  within.1.1.1.1.1.0,
                  (
                    within.1.1.1.1.1.1,
                    (
                      kinds.2,
                      (
                        kinds.3,
                        (
                          kinds.5,
                          (
                            kinds.6,
                            (
                              kinds.0,
                              (
                                kinds.1,
                                (
                                  kinds.4,
                                  (asked.0, (asked.1.0, (asked.1.1.0, (asked.1.1.1.0, (asked.1.1.1.1.0, kinds))))),
                                ),
                              ),
                            ),
                          ),
                        ),
                      ),
                    ),
                  ),
                ),
              ),
            ),
          ),
        ),
      ),
    )

-- the scope may call the closure
pub scoped-requires : goal.scoped-requires
scoped-requires g t c = record {
  at = λ a.
      let kinds = c.requires.kinds in
      let known = known_first (length c.args.openings.now.lists) _ _ _ (ap (λ workers. map (λ s. s.node) workers) c.in-Some.ensures.items) c.requires.known in (
        search rules,
        (
          (λ x m. m),
          (
            (λ x m. m),
            (
              (λ x m. m),
              (
                (λ x m. m),
                (
                  (λ x m. m),
                  (
                    (λ x m. m),
                    (
                      (λ x m. m),
                      (
                        c.requires.turns,
                        (
                          known.0,
                          (
                            known.1,
                            (
                              c.requires.none,
                              (
                                search rules,
                                (kinds, (kinds.2, kinds.3, kinds.5, kinds.6, kinds.0, kinds.1, kinds.4)),
                              ),
                            ),
                          ),
                        ),
                      ),
                    ),
                  ),
                ),
              ),
            ),
          ),
        ),
      );
}

pub returns-clause-accounts : goal.returns-clause-accounts
returns-clause-accounts g t c = rw c.in-Some.ensures.items c.scoped.ensures.1.0

pub returns-clause-refused : goal.returns-clause-refused
returns-clause-refused g t c = rw c.in-Some.ensures.items c.scoped.ensures.1.1.1.1

pub returns-clause-len : goal.returns-clause-len
returns-clause-len g t c = rw (← c.in-Some.ensures.cases) c.scoped.ensures.1.1.0
