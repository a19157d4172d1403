use Rattle.std.proofs.Common.{ℕ, ◌<◌, ◌≤◌, List, length}
use Rattle.json.specs.Token.{Token}
use Rattle.serde_json.specs.Data.{Members}
use Rattle.stab_script.specs.Members.{HasStart}
use Rattle.stab_script.specs.Plain.{IsInObject, IsMemberOfStart}
use Rattle.stab_script.proofs.Entries.{PutBefore}
use Rattle.stab_script.proofs.stream_start.read_members.Given as goal

-- whatever the members of the tokens that are left make of those read so far, is what all of them make
abbrev pub invariant-members : goal.invariant-members
invariant-members l =
    (n : ℕ) × (length l.reader ≤ n) × (length l.reader ≤ length l.initial.reader)
    × ((depth : ℕ) → 1 < depth → (ms : Members) × (PutBefore depth (length l.initial.reader) l.initial.reader ms n l.reader)
    × HasStart l.parts.frames l.parts.acks l.parts.send l.parts.recv ms)
    × ((rest : List Token) → IsInObject IsMemberOfStart l.initial.reader rest → IsInObject IsMemberOfStart l.reader rest)

abbrev pub decreases-members : goal.decreases-members
decreases-members l = length l.reader
