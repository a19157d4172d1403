use Rattle.std.proofs.Common.{◌≡◌, drop}
use Rattle.stab_job.specs.LinkParams.{all_params}
use Rattle.stab_job.proofs.Linked.{made_after}
use Rattle.stab_job.proofs.links.all_params.Given as goal
use Rattle.stab_tree.specs.Links.{links_of}

-- the parameters so far, and then those of the other entries, are all parameters
abbrev pub invariant-loop-place : goal.invariant-loop-place
invariant-loop-place l =
    all_params l.fn.of_job (links_of l.tree.parents) l.entries
    ≡ made_after l.params (all_params l.fn.of_job (drop l.place (links_of l.tree.parents)) (drop l.place l.entries))
