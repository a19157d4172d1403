use Rattle.std.proofs.Common.{ℕ, ◌≤◌, length}
use Rattle.serde_json.specs.Data.{Members}
use Rattle.stab_script.specs.Members.{in_member, HasJob}
use Rattle.stab_script.proofs.Entries.{PutBefore}
use Rattle.stab_script.proofs.replay.read_head.Given as goal

-- whatever the members of the tokens that are left make of those read so far, is what all of them make
abbrev pub invariant-members : goal.invariant-members
invariant-members l =
    (n : ℕ) × (length l.reader ≤ n) × (length l.reader ≤ length l.initial.reader) × (ms : Members)
    × (PutBefore in_member (length l.initial.reader) l.initial.reader ms n l.reader)
    × HasJob l.parts.capacity l.parts.labels l.parts.start l.parts.events ms

abbrev pub decreases-members : goal.decreases-members
decreases-members l = length l.reader
