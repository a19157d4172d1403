use Rattle.std.proofs.Common.{◌≡◌, ◌∙◌, length, arith}
use Rattle.stab_core.proofs.Setups.{as_many_setups}
use Rattle.stab_treecore.proofs.open.check_starts.Goals as goal

pub returns-clause-network : goal.returns-clause-network
returns-clause-network c =
    let same : length c.args.params.now ≡ length c.args.starts.now = omega arith in
    λ published openings fit. record {
      tree = c.root-root.ensures.tree.rooted;
      openings_fit = fit;
      one_per_link = as_many_setups c.args.params.now c.args.starts.now same ∙ omega arith;
      can_begin = c.in_ok-check.ensures.lawful;
    }
