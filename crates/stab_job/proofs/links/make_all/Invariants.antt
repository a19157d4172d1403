use Rattle.std.proofs.Common.{◌≡◌, length}
use Rattle.std.specs.Vec.Iter.{into_iter_items, into_iter_len}
use Rattle.stab_job.specs.JobLinks.{all_made}
use Rattle.stab_job.proofs.Linked.{made_after}
use Rattle.stab_job.proofs.links.make_all.Given as goal

-- the scripts so far, and then those of the other entries, are all scripts
abbrev pub invariant-loop-entry : goal.invariant-loop-entry
invariant-loop-entry l =
    (all_made l.fn.entries.items ≡ made_after l.scripts (all_made (into_iter_items l.entry-iterator)))
    × (into_iter_len l.entry-iterator ≡ length (into_iter_items l.entry-iterator))
