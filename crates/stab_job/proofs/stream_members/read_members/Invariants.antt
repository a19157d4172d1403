use Rattle.std.proofs.Common.{ℕ, ◌≤◌, length}
use Rattle.serde_json.specs.Data.{Members}
use Rattle.serde_json.specs.View.{members_view}
use Rattle.stab_script.specs.Members.{in_member}
use Rattle.stab_script.proofs.Entries.{PutBefore}
use Rattle.stab_job.specs.Parts.{HasParts}
use Rattle.stab_job.proofs.stream_members.read_members.Given as goal

-- whatever the members of the tokens that are left make of those read so far, is what all of them make
abbrev pub invariant-members : goal.invariant-members
invariant-members g l =
    (n : ℕ) × (length l.reader ≤ n) × (length l.reader ≤ length l.initial.reader) × (ms : Members)
    × (PutBefore in_member (length l.initial.reader) l.initial.reader ms n l.reader)
    × HasParts g.M.Beside.its_name g.M.Beside.meaning l.keeps (members_view l.parts.others.entries) l.parts.steps l.parts.beside ms

abbrev pub decreases-members : goal.decreases-members
decreases-members g l = length l.reader
