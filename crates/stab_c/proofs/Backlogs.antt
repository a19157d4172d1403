-- What the backlog of a child says of the child.
use Rattle.std.proofs.Common.{◌≡◌, ℕ, ◌+◌, ◌-◌, ◌%◌, ◌<◌, ◌≤◌, ◌↔◌, Bool, true, false, if◌then◌else◌, inl, inr, min}
use Rattle.std.proofs.Common.{List, length, get_or, Option, Some, None, is_some, refl, ◌∙◌, ap, arith, le-leb, leb-true}
use Rattle.std.proofs.lemmas.Bool.{cases_lt, and_parts, lt-leb, not-false}
use Rattle.std.proofs.lemmas.Option.{slice_get-get_or}
use Rattle.stab_line.specs.Ends.{SenderEnd, frame_to_send}
use Rattle.stab_c.specs.declared.child.Child.{Child}
use Rattle.stab_c.specs.declared.node.Node.{Node}
use Rattle.stab_c.specs.Meaning.{is_set, sender_end}
use Rattle.stab_c.specs.NodeList.{backlog, first_kept, is_left_behind, item_kept, most_items, offered_next}
use Rattle.stab_c.proofs.Rings.{kept_here}

-- 1 for an item that the sender holds
abbrev one_if : Bool → ℕ
one_if flag = if flag then 1 else 0

abbrev held : Child → ℕ
held child = one_if (is_set child.sender.holding)

of_kept : (node : Node) (child : Child) (size : ℕ) → first_kept node size ≤ child.offered → child.offered ≤ node.length
    → backlog node child size ≡ min (node.length - child.offered + held child) most_items
of_kept node child size from within =
    rw (le-leb (first_kept node size) child.offered from, le-leb child.offered node.length within) refl

of_older : (node : Node) (child : Child) (size : ℕ) → child.offered < first_kept node size
    → backlog node child size ≡ min (most_items + held child) most_items
of_older node child size older = rw (lt-leb (first_kept node size) child.offered older) refl

of_past : (node : Node) (child : Child) (size : ℕ) → first_kept node size ≤ child.offered → node.length < child.offered
    → backlog node child size ≡ min (most_items + held child) most_items
of_past node child size from past =
    rw (le-leb (first_kept node size) child.offered from, lt-leb child.offered node.length past) refl

idle_where_none : (flag : Bool) → one_if flag ≡ 0 → flag ≡ false
idle_where_none true none = absurd (omega (arith, none))
idle_where_none false none = refl

none_is_all : (node : Node) (child : Child) (size : ℕ) → backlog node child size ≡ 0
    → (child.offered ≡ node.length) × (is_set child.sender.holding ≡ false)
none_is_all node child size none =
    elim (cases_lt child.offered (first_kept node size)) [
      | inl older ↦ absurd (omega (arith, none, of_older node child size older))
      | inr from ↦ elim (cases_lt node.length child.offered) [
        | inl past ↦ absurd (omega (arith, none, of_past node child size from past))
        | inr within ↦
            let is = of_kept node child size from within in (
              omega (arith, none, is),
              idle_where_none (is_set child.sender.holding) (omega (arith, none, is)),
            )
      ]
    ]

all_is_none : (node : Node) (child : Child) (size : ℕ)
    → (child.offered ≡ node.length) × (is_set child.sender.holding ≡ false) → backlog node child size ≡ 0
all_is_none node child size (whole, idle) =
    let none : held child ≡ 0 = ap one_if idle in
    omega (arith, of_kept node child size (omega (arith, whole)) (omega (arith, whole)), whole, none)

pub none_just_where_all : (node : Node) (child : Child) (size : ℕ) → backlog node child size ≡ 0
    ↔ (child.offered ≡ node.length) × (is_set child.sender.holding ≡ false)
none_just_where_all node child size = (none_is_all node child size, all_is_none node child size)

-- an open sender that holds an item sends it, whatever it is offered
held_is_sent : (label item : ℕ) (next : Option ℕ)
    → is_some (frame_to_send (offered_next (record { state = record { label = label; item = Some item }; closed = false }) next)) ≡ true
held_is_sent label item None = refl
held_is_sent label item (Some other) = refl

module _ (node : Node) (child : Child) (buffer : List ℕ) (some : 0 < backlog node child (length buffer))
    (kept : is_left_behind node child (length buffer) ≡ false) where
  is_within : (first_kept node (length buffer) ≤ child.offered) × (child.offered ≤ node.length)
  is_within =
      let (from, to) = and_parts _ _ (not-false _ kept) in (leb-true _ _ from, leb-true _ _ to)

  -- the item of an idle sender comes next
  next_is : is_set child.sender.holding ≡ false
      → item_kept node buffer child.offered ≡ Some (get_or buffer (child.offered % length buffer) 0)
  next_is idle =
      let (from, to) = is_within in
      let none : held child ≡ 0 = ap one_if idle in
      let below : child.offered < node.length =
      omega (arith, some, of_kept node child (length buffer) from to, none)
      in
      let places : 0 < length buffer = omega (arith, from, below) in
      kept_here node buffer child.offered from below
      ∙ slice_get-get_or buffer (child.offered % length buffer) 0 (omega (arith, places))

  sends : (flag : Bool) → is_set child.sender.holding ≡ flag
      → is_some (frame_to_send (offered_next
      (record { state = record { label = child.sender.label; item = if flag then Some child.sender.item else None }; closed = false })
      (item_kept node buffer child.offered))) ≡ true
  sends true holds = held_is_sent child.sender.label child.sender.item (item_kept node buffer child.offered)
  sends false idle =
      ap (λ (next : Option ℕ). is_some (frame_to_send (offered_next
      (record { state = record { label = child.sender.label; item = None }; closed = false }) next)))
      (next_is idle)

-- so a poll sends a frame where the child has a backlog, is not left behind, and is open
pub backlog_is_sent : (node : Node) (child : Child) (buffer : List ℕ) → 0 < backlog node child (length buffer)
    → is_left_behind node child (length buffer) ≡ false → is_set child.sender.closed ≡ false
    → is_some (frame_to_send (offered_next (sender_end child.sender) (item_kept node buffer child.offered))) ≡ true
backlog_is_sent node child buffer some kept is_open =
    let meant : SenderEnd = sender_end child.sender in
    ap (λ (closed : Bool). is_some (frame_to_send (offered_next
    (record { state = meant.state; closed = closed }) (item_kept node buffer child.offered)))) is_open
    ∙ sends node child buffer some kept (is_set child.sender.holding) refl
