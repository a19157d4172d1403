use Rattle.std.proofs.Common.{◌∙◌}
use Rattle.stab_tree.proofs.Roots.{root_or_number}
use Rattle.stab_tree.proofs.parents.first_root.Goals as goal

pub returns : goal.returns
returns c = c.new.ensures ∙ c.unwrap_or-place.ensures ∙ rw c.find_root.ensures (root_or_number c.args.parents.now)
