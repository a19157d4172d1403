use Rattle.std.proofs.Common.{[], get_or}
use Rattle.serde_json.specs.Data.{string}
use Rattle.stab_script.proofs.Meaning.{of_what_is_there}
use Rattle.rignolda_scenario.proofs.Tabled.{act_there, restart_there, strike_there}
use Rattle.rignolda_scenario.proofs.named.step_over.Goals as goal

pub returns-in_ok-link-in-Act : goal.returns-in_ok-link-in-Act
returns-in_ok-link-in-Act c = λ names are.
    let k = c.in-Act in
    rw k.is (act_there c.args.tree.now (string (get_or names k.place [])) k.act c.in_ok-link-in-Act.link (c.in_ok-link-in-Act.ensures names are))

pub returns-in_ok-link-in-Strike : goal.returns-in_ok-link-in-Strike
returns-in_ok-link-in-Strike c =
    let k = c.in-Strike in
    of_what_is_there c.fitting_strike.result (λ step is names are.
    rw k.is (strike_there c.args.tree.now c.args.params.now (string (get_or names k.place [])) k.start c.in_ok-link-in-Strike.link step (c.in_ok-link-in-Strike.ensures names are) is)) c.fitting_strike.ensures

pub returns-in_ok-node-in-Restart : goal.returns-in_ok-node-in-Restart
returns-in_ok-node-in-Restart c = λ names are.
    let k = c.in-Restart in
    rw k.is (restart_there c.args.tree.now (string (get_or names k.place [])) k.items c.in_ok-node-in-Restart.node (c.in_ok-node-in-Restart.ensures c.args.tree.now names are))
