use Rattle.std.proofs.Common.{◌+◌, length, arith}
use Rattle.rignolda_ways.specs.Runs.{after_run}
use Rattle.rignolda_ways.proofs.Quality.{says_quality}
use Rattle.rignolda_ways.proofs.Reached.{begins, begins_good, run_sound}
use Rattle.rignolda_ways.proofs.laws.parents_come_from_any_state.Goals as goal

pub returns : goal.returns
returns c net before start rounds further v distance lawful run agent is some enough =
    let sound = run_sound net 0 before start rounds further lawful (begins net start) (begins_good net before) run in (
      ((says_quality net (0 + length rounds) v (after_run net start rounds further) lawful sound agent).exact distance (omega (arith, enough)) some is).cost,
      λ below.
          let right = (sound v agent below).settled distance (omega (arith, enough)) some is in
          (right.heard, right.candidate, right.heard.way.cost, right.is, right.is_at, right.nearer, right.sum),
    )
