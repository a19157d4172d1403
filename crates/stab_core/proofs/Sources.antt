-- Where frames and delivered items come from: a place in the start's items followed by the offered
-- ones. So the places of strays come first, and those of offered items follow.
use Rattle.std.proofs.Common.{◌≡◌, ℕ, zero, suc, ◌+◌, ◌-◌, ◌<◌, ◌≤◌, ltb, false, lt-ltb, le-ltb, if◌then◌else◌, append_assoc, List, [], ◌∷◌, ◌++◌, map, length, get_or, slice_index, refl, sym, ◌∙◌, ap, ap₂, arith, get_or-append-add, length-append, zero-add}
use Rattle.std.proofs.lemmas.Bool.{cond-true, cond-false}
use Rattle.std.proofs.lemmas.List.{length-map, get_or-map, get_or_append_left, same_lists}
use Rattle.stab_frames.specs.declared.frame.Frame.{Frame}
use Rattle.stab_frames.specs.Parameters.{Parameters}
use Rattle.stab_core.specs.declared.start.Start.{Start}
use Rattle.stab_core.specs.declared.origin.Origin.{Origin}
use Rattle.stab_core.specs.declared.origin.Origin.TheVariants.{Stray, Sent}
use Rattle.stab_core.specs.Replay.{start_items}
use Rattle.stab_core.specs.Picks.{AllBelow}
use Rattle.stab_core.specs.Trace.{strays_from}
use Rattle.stab_core.proofs.Labels.{item_label}
use Rattle.stab_core.proofs.ForCallers.{map_below}
use Rattle.stab_core.proofs.Places.{NeverFalls}

-- how many items stand in the start
abbrev pub stray_count : Start → ℕ
stray_count start = length (start_items start)

-- the item at a place
abbrev pub item_at : Start → List ℕ → ℕ → ℕ
item_at start offered place = slice_index (start_items start ++ offered) place

-- the label that a frame with this item has
pub label_at : Parameters → Start → ℕ → ℕ
label_at p start place =
    if ltb place (stray_count start) then slice_index (map (λ f. f.label) start.frames) place
    else item_label p start (place - stray_count start)

-- the frame with this label and item
abbrev pub frame : ℕ → ℕ → Frame
frame label item = record { label = label; item = item }

-- the frame with the item at a place
abbrev pub frame_at : Parameters → Start → List ℕ → ℕ → Frame
frame_at p start offered place = frame (label_at p start place) (item_at start offered place)

-- the origin that the trace gives to a place
pub origin_at : Start → ℕ → Origin
origin_at start place = if ltb place (stray_count start) then Stray place else Sent (place - stray_count start)

-- item number i comes after the strays
pub item_sent : (start : Start) (offered : List ℕ) (i : ℕ)
    → item_at start offered (stray_count start + i) ≡ slice_index offered i
item_sent start offered i = get_or-append-add (start_items start) offered i 0

-- the strays come first
pub item_stray : (start : Start) (offered : List ℕ) (place : ℕ) → place < stray_count start
    → item_at start offered place ≡ slice_index (start_items start) place
item_stray start offered place stray = get_or_append_left (start_items start) offered 0 place stray

-- an item keeps its place when another one is offered
pub item_kept : (start : Start) (offered more : List ℕ) (place : ℕ) → place < stray_count start + length offered
    → item_at start offered place ≡ item_at start (offered ++ more) place
item_kept start offered more place in_list =
    sym (get_or_append_left (start_items start ++ offered) more 0 place (simp length-append in_list))
    ∙ ap (λ items. slice_index items place) (append_assoc (start_items start) offered more)

-- and so does its frame
pub frame_kept : (p : Parameters) (start : Start) (offered more : List ℕ) (place : ℕ)
    → place < stray_count start + length offered
    → frame_at p start offered place ≡ frame_at p start (offered ++ more) place
frame_kept p start offered more place in_list =
    ap (frame (label_at p start place)) (item_kept start offered more place in_list)

-- the frames of strays have their labels in the start
label_stray : (p : Parameters) (start : Start) (place : ℕ) → place < stray_count start
    → label_at p start place ≡ slice_index (map (λ f. f.label) start.frames) place
unfolding label_at
label_stray p start place stray = cond-true (ltb place (stray_count start)) _ _ (lt-ltb place (stray_count start) stray)

-- the frames of item number i have its label
pub label_sent : (p : Parameters) (start : Start) (i : ℕ)
    → label_at p start (stray_count start + i) ≡ item_label p start i
unfolding label_at
label_sent p start i =
    let place : ℕ = stray_count start + i in
    let no_stray : ltb place (stray_count start) ≡ false = le-ltb place (stray_count start) (omega arith) in
    cond-false (ltb place (stray_count start)) _ _ no_stray ∙ ap (item_label p start) (omega arith)

-- so the frame of item number i is the one with this item and its label
pub frame_sent : (p : Parameters) (start : Start) (offered : List ℕ) (i : ℕ) {label : ℕ} → label ≡ item_label p start i
    → frame_at p start offered (stray_count start + i) ≡ frame label (slice_index offered i)
frame_sent p start offered i own_label =
    ap₂ frame (label_sent p start i ∙ sym own_label) (item_sent start offered i)

-- the trace says of item number i that it was sent
pub origin_sent : (start : Start) (i : ℕ) → origin_at start (stray_count start + i) ≡ Sent i
unfolding origin_at
origin_sent start i =
    let place : ℕ = stray_count start + i in
    let no_stray : ltb place (stray_count start) ≡ false = le-ltb place (stray_count start) (omega arith) in
    cond-false (ltb place (stray_count start)) _ _ no_stray ∙ ap Sent (omega arith)

-- the trace says of a stray that it is one
pub origin_stray : (start : Start) (place : ℕ) → place < stray_count start → origin_at start place ≡ Stray place
unfolding origin_at
origin_stray start place stray = cond-true _ _ _ (lt-ltb place (stray_count start) stray)

-- the places of these frames of the start, the first of which has this place
abbrev pub places_from : ℕ → List Frame → List ℕ
places_from place [] = []
places_from place (f ∷ fs) = place ∷ places_from (place + 1) fs

-- there are as many places as frames
length-places_from : (place : ℕ) (fs : List Frame) → length (places_from place fs) ≡ length fs
length-places_from place [] = refl
length-places_from place (f ∷ fs) = ap suc (length-places_from (place + 1) fs)

-- they count on
get_or-places_from : (place : ℕ) (fs : List Frame) (k d : ℕ) → k < length fs
    → get_or (places_from place fs) k d ≡ place + k
get_or-places_from place [] k d within = absurd (omega arith)
get_or-places_from place (f ∷ fs) zero d within = omega arith
get_or-places_from place (f ∷ fs) (suc k) d within = get_or-places_from (place + 1) fs k d (omega arith) ∙ omega arith

-- so they never fall
places_from_never_fall : (low place : ℕ) (fs : List Frame) → low ≤ place → NeverFalls low (places_from place fs)
places_from_never_fall low place [] lower = tt
places_from_never_fall low place (f ∷ fs) lower = (lower, places_from_never_fall place (place + 1) fs (omega arith))

-- and stay below a bound that leaves room for them
places_from_below : (place bound : ℕ) (fs : List Frame) → place + length fs ≤ bound → AllBelow bound (places_from place fs)
places_from_below place bound [] room = tt
places_from_below place bound (f ∷ fs) room = (omega arith, places_from_below (place + 1) bound fs (omega arith))

-- the strays of the trace are those at these places
strays_from_places : (place : ℕ) (fs : List Frame) → strays_from place fs ≡ map Stray (places_from place fs)
strays_from_places place [] = refl
strays_from_places place (f ∷ fs) = ap (λ rest. Stray place ∷ rest) (strays_from_places (place + 1) fs)

-- the places of the start's frames
abbrev pub start_places : Start → List ℕ
start_places start = places_from 0 start.frames

-- they never fall
pub start_places_never_fall : (start : Start) → NeverFalls 0 (start_places start)
start_places_never_fall start = places_from_never_fall 0 0 start.frames (omega arith)

-- they are places of strays
pub start_places_below : (start : Start) → AllBelow (stray_count start) (start_places start)
start_places_below start = places_from_below 0 (stray_count start) start.frames (simp length-map (omega arith))

-- each frame of the start is the one at its place
start_frame : (p : Parameters) (start : Start) (k : ℕ) (d : Frame) → k < length start.frames
    → get_or start.frames k d ≡ frame_at p start [] k
start_frame p start k d within =
    let f : Frame = get_or start.frames k d in
    let stray : k < stray_count start = simp length-map within in
    let label_there = get_or-map (λ (g : Frame). g.label) start.frames k d 0 within in
    let item_there = get_or-map (λ (g : Frame). g.item) start.frames k d 0 within in
    let same_label : f.label ≡ label_at p start k = sym label_there ∙ sym (label_stray p start k stray) in
    let same_item : f.item ≡ item_at start [] k = sym item_there ∙ sym (item_stray start [] k stray) in
    ap₂ frame same_label same_item

-- the start's frames are those at these places
pub start_frames : (p : Parameters) (start : Start) → start.frames ≡ map (frame_at p start []) (start_places start)
start_frames p start =
    same_lists start.frames (map (frame_at p start []) (start_places start)) (simp (length-map, length-places_from))
    (λ k d within.
    let frame_there = get_or-map (frame_at p start []) (start_places start) k 0 d (rw length-places_from within) in
    let place_there = get_or-places_from 0 start.frames k 0 within ∙ zero-add k in
    start_frame p start k d within ∙ sym (frame_there ∙ ap (frame_at p start []) place_there))

-- and the origins of the start's frames are those of these places
pub start_origins : (start : Start) → strays_from 0 start.frames ≡ map (origin_at start) (start_places start)
start_origins start =
    strays_from_places 0 start.frames
    ∙ sym (map_below (origin_at start) Stray (stray_count start) (start_places start)
    (origin_stray start) (start_places_below start))
