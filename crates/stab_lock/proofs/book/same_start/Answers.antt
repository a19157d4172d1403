use Rattle.std.proofs.Common.{ap, rules}
use Rattle.stab_core.specs.declared.start.Start.{Start}
use Rattle.stab_lock.proofs.Starts.{same_parts, same_frames, found_frames}
use Rattle.stab_lock.proofs.book.same_start.Goals as goal

-- starts that are the same have frames that are found equal
pub returns-then-ne : goal.returns-then-ne
returns-then-ne c = (
  λ never. search rules,
  λ same. let found = found_frames c.args.one.now c.args.other.now same in search (rules, found),
)

pub returns : goal.returns
returns c = (
  λ same_label. same_parts _ _ (same_frames _ _ (search rules)) (search rules) (search rules) (search rules),
  λ same. let label = ap (λ (s : Start). s.recv_label) same in search (rules, label),
)
