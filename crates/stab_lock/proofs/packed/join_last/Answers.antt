use Rattle.std.proofs.Common.{arith, ◌<◌, vec_len, ◌-◌, rules}
use Rattle.stab_lock.proofs.Codes.{last_joined}
use Rattle.stab_lock.proofs.packed.join_last.Goals as goal

pub returns-in-Some-clause-joined : goal.returns-in-Some-clause-joined
returns-in-Some-clause-joined c =
    let some : 0 < vec_len c.args.codes.now = search rules in
    last_joined c.args.codes.now.items (vec_len c.args.codes.now - 1) c.in-Some.last.now c.join.new.self c.args.part
    c.join.result (omega arith) c.in-Some.ensures.value c.join.ensures
