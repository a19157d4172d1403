use Rattle.std.proofs.Common.{ℕ, ◌+◌, ◌*◌, ◌≤◌, length, map, Some}
use Rattle.serde_json.specs.View.{view, members_view}
use Rattle.stab_script.proofs.Entries.{ReadBefore, PutBefore}
use Rattle.stab_job.proofs.value.+next_value.Given as goal

abbrev pub decreases-next_value : goal.decreases-next_value
decreases-next_value l = 2 * l.depth

abbrev pub decreases-next_items : goal.decreases-next_items
decreases-next_items l = 2 * l.depth + 1

abbrev pub decreases-next_members : goal.decreases-next_members
decreases-next_members l = 2 * l.depth + 1

-- whatever entries the tokens that are left are, the list goes before them
abbrev pub invariant-next_items-entries : goal.invariant-next_items-entries
invariant-next_items-entries l =
    (n : ℕ) × (length l.reader ≤ n) × (length l.reader ≤ length l.initial.reader)
    × ReadBefore l.depth Some (length l.initial.reader) l.initial.reader (map view l.list.items) n l.reader

abbrev pub decreases-next_items-entries : goal.decreases-next_items-entries
decreases-next_items-entries l = length l.reader

-- whatever the members of the tokens that are left make of those read so far, is what all of them make
abbrev pub invariant-next_members-members : goal.invariant-next_members-members
invariant-next_members-members l =
    (n : ℕ) × (length l.reader ≤ n) × (length l.reader ≤ length l.initial.reader)
    × PutBefore l.depth (length l.initial.reader) l.initial.reader (members_view l.members.entries) n l.reader

abbrev pub decreases-next_members-members : goal.decreases-next_members-members
decreases-next_members-members l = length l.reader
