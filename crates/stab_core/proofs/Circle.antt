-- The labels on the circle of a link, from what the sender will see next to what it put there last:
-- the acknowledgements from the front, the receiver's label, the frames' labels from the front.
use Rattle.std.proofs.Common.{◌≡◌, ◌≢◌, ℕ, Bool, true, false, refl, List, [], ◌∷◌, ◌++◌, append_assoc}
use Rattle.std.specs.List.{AllByRecursion as Each}
use Rattle.stab_core.specs.Step.{after_front}
use Rattle.stab_core.proofs.InOrder.{InOrder, nothing, skip, repeat, again, in_order_same, in_order_behind, in_order_before, Each-in_order, Each-push, Each-weaker}

-- the labels on the circle, where the frames have these labels
abbrev pub circle : List ℕ → ℕ → List ℕ → List ℕ
circle acks recv_label labels = acks ++ recv_label ∷ labels

-- no entry is this label
abbrev pub Absent : ℕ → List ℕ → Type 0
Absent label entries = Each (λ x. x ≢ label) entries

-- each entry is this label
abbrev pub AllAre : ℕ → List ℕ → Type 0
AllAre label entries = Each (λ x. x ≡ label) entries

-- Once this label is there, all entries after it are this label. Read from the other end, where the
-- sender puts its frames, these are copies of the label and then labels that differ from it.
abbrev pub TurnsTo : ℕ → List ℕ → Type 0
TurnsTo label [] = Unit {0}
TurnsTo label (x ∷ xs) = (x ≡ label → AllAre label xs) × TurnsTo label xs

-- entries missing or repeated, the circle still turns to the label
pub TurnsTo-in_order : (label : ℕ) {xs ys : List ℕ} → InOrder xs ys → TurnsTo label xs → TurnsTo label ys
TurnsTo-in_order label nothing turns = tt
TurnsTo-in_order label (skip in_order) turns = TurnsTo-in_order label in_order turns.1
TurnsTo-in_order label (repeat {x = x} in_order) turns =
    ((λ same. Each-in_order (λ y. y ≡ label) in_order (same, turns.0 same)), TurnsTo-in_order label in_order turns)

-- the same label once more at the end
pub TurnsTo-push : (label : ℕ) (xs : List ℕ) → TurnsTo label xs → TurnsTo label (xs ++ label ∷ [])
TurnsTo-push label [] turns = ((λ same. tt), tt)
TurnsTo-push label (x ∷ xs) turns =
    ((λ same. Each-push (λ y. y ≡ label) xs label (turns.0 same) refl), TurnsTo-push label xs turns.1)

-- a circle without the label turns to it
pub TurnsTo-absent : (label : ℕ) (xs : List ℕ) → Absent label xs → TurnsTo label xs
TurnsTo-absent label [] absent = tt
TurnsTo-absent label (x ∷ xs) absent = ((λ same. absurd (absent.0 same)), TurnsTo-absent label xs absent.1)

-- where all are one label, another one is absent
pub absent_other : (label other : ℕ) (xs : List ℕ) → other ≢ label → AllAre label xs → Absent other xs
absent_other label other xs differs all = Each-weaker (λ x. x ≡ label) (λ x. x ≢ other) (λ x is same. differs (cc)) xs all

-- what holds of each label on the circle holds of the receiver's
pub at_receiver : (P : ℕ → Type 0) (acks : List ℕ) (recv_label : ℕ) (labels : List ℕ)
    → Each P (circle acks recv_label labels) → P recv_label
at_receiver P [] recv_label labels each = each.0
at_receiver P (a ∷ acks) recv_label labels each = at_receiver P acks recv_label labels each.1

-- and of each frame's label
pub at_frames : (P : ℕ → Type 0) (acks : List ℕ) (recv_label : ℕ) (labels : List ℕ)
    → Each P (circle acks recv_label labels) → Each P labels
at_frames P [] recv_label labels each = each.1
at_frames P (a ∷ acks) recv_label labels each = at_frames P acks recv_label labels each.1

-- a frame that is sent puts its label at the end
pub circle_sent : (acks : List ℕ) (recv_label : ℕ) (labels : List ℕ) (label : ℕ)
    → circle acks recv_label labels ++ label ∷ [] ≡ circle acks recv_label (labels ++ label ∷ [])
circle_sent acks recv_label labels label = append_assoc acks (recv_label ∷ labels) (label ∷ [])

-- frames that vanish, or are kept, leave the circle in order
pub frames_in_order : (acks : List ℕ) (recv_label : ℕ) {labels fewer : List ℕ} → InOrder labels fewer
    → InOrder (circle acks recv_label labels) (circle acks recv_label fewer)
frames_in_order acks recv_label in_order = in_order_behind acks (again in_order)

-- so do acknowledgements
pub acks_in_order : {acks fewer : List ℕ} (recv_label : ℕ) (labels : List ℕ) → InOrder acks fewer
    → InOrder (circle acks recv_label labels) (circle fewer recv_label labels)
acks_in_order recv_label labels in_order = in_order_before (recv_label ∷ labels) in_order

-- so does a frame that the receiver takes, whether it stays at the front or goes
pub taking_in_order : (keep : Bool) (acks : List ℕ) (recv_label label : ℕ) (labels : List ℕ)
    → InOrder (circle acks recv_label (label ∷ labels)) (circle acks label (after_front keep (label ∷ labels)))
taking_in_order true acks recv_label label labels = in_order_behind acks (skip (repeat (in_order_same (label ∷ labels))))
taking_in_order false acks recv_label label labels = in_order_behind acks (skip (in_order_same (label ∷ labels)))

-- and so does the receiver's answer
pub answer_in_order : (acks : List ℕ) (recv_label : ℕ) (labels : List ℕ)
    → InOrder (circle acks recv_label labels) (circle (acks ++ recv_label ∷ []) recv_label labels)
answer_in_order acks recv_label labels =
    rw (append_assoc acks (recv_label ∷ []) (recv_label ∷ labels))
    (in_order_behind acks (repeat (in_order_same (recv_label ∷ labels))))
