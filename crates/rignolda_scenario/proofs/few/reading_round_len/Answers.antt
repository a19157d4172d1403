use Rattle.std.proofs.Common.{◌≡◌, ◌≤◌, ◌∙◌, sym, ap, length, drop, arith}
use Rattle.std.proofs.lemmas.List.{at_drop_all}
use Rattle.stab_tree.specs.Links.{links_of}
use Rattle.rignolda_scenario.proofs.Lengths.{reading_acts, reading_sum}
use Rattle.rignolda_scenario.proofs.few.reading_round_len.Goals as goal

pub returns-clause-acts : goal.returns-clause-acts
returns-clause-acts c =
    let j = c.args.job.now in
    let last = c.loop-own.own-index in
    let ended : length j.params ≤ last = omega (arith, c.loop-own-test.false, ap length c.params-own-items.ensures.params) in
    let none_left : reading_sum (drop last j.params) ≡ 0 = at_drop_all reading_sum j.params last ended in
    let all : c.loop-own.acts ≡ reading_sum j.params = omega (arith, c.loop-own.invariant.0, none_left) in
    all ∙ sym (reading_acts (links_of j.tree.parents) j.params (sym c.params-own-items.ensures.job.one_params_each))
