-- What the clauses of the calls say of a line, an edge and a list makes up the steps of a tree.
use Rattle.std.proofs.Common.{◌≡◌, ℕ, Bool, true, false, if◌then◌else◌, List, [], ◌∷◌, ◌++◌, Option, Some, None, refl, sym, ◌∙◌, ap, append_assoc, eq-eqb, suc, ◌+◌, length, slice_get, arith}
use Rattle.std.specs.Option.{option_map_or}
use Rattle.stab_frames.specs.declared.frame.Frame.{Frame}
use Rattle.stab_frames.specs.Parameters.{Parameters}
use Rattle.stab_tree.specs.Nodes.{parent_at}
use Rattle.stab_treecore.specs.Network.{Network}
use Rattle.stab_tree.specs.NodeOpenings.{opening_at}
use Rattle.stab_line.specs.Acts.{IsFrameReceived, IsPolled}
use Rattle.stab_line.specs.Ends.{SenderEnd, ReceiverEnd, accepts}
use Rattle.stab_line.specs.Line.{Line, LineAct, line_step, after_sending, with_taken}
use Rattle.stab_line.specs.Line.{frame_sent, frame_comes}
use Rattle.stab_line.specs.Edge.{Edge, offers_next, edge_step, is_offer, child_polled, on_line}
use Rattle.stab_line.specs.NodeTree.{NodeTree, list_of, list_above, parameters_into, edge_into, put, node_step}
use Rattle.stab_line.specs.NodeTree.{publishes, polls, at_line}

-- the entry that was put at a place
pub put_here : {A : Type 0} (entries : ℕ → A) (place : ℕ) (entry : A) → put entries place entry place ≡ entry
put_here entries place entry = ap (λ same. if same then entry else entries place) (eq-eqb place place refl)

-- an item taken at the end of a list after an opening
taken_past : (taken : Bool) (opening items : List ℕ) (item : ℕ)
    → opening ++ with_taken taken items item ≡ with_taken taken (opening ++ items) item
taken_past true opening items item = sym (append_assoc opening items (item ∷ []))
taken_past false opening items item = refl

-- the line after an act that offers nothing
pub line_after : (offers : Bool) (p : Parameters) (e : Edge) (act : LineAct) → offers ≡ false
    → (if offers then e else record e { line = line_step p e.line act }).line ≡ line_step p e.line act
line_after offers p e act no_offer =
    ap (λ b. (if b then e else record e { line = line_step p e.line act }).line) no_offer

-- an act on the line into a child is the step of that line
pub line_acts : (net : Network) (t : NodeTree) (child : ℕ) (act : LineAct) → is_offer act ≡ false
    → (node_step net t (at_line child act)).lines child ≡ line_step (parameters_into net child) (t.lines child) act
line_acts net t child act no_offer =
    put_here t.lines child (edge_step (parameters_into net child) (edge_into net t child) (on_line act)).line
    ∙ line_after (is_offer act) (parameters_into net child) (edge_into net t child) act no_offer

-- a poll, and the frame that is sent then
pub poll_acts : (net : Network) (t : NodeTree) (child count : ℕ) (after : SenderEnd) (sent : Option Frame)
    → IsPolled (list_above net t child) (t.counts child) (t.lines child).sender count after sent
    → let polled = node_step net t (polls child) in
    (polled.counts child ≡ count) × ((polled.lines child).sender ≡ after)
    × (((node_step net polled (at_line child frame_sent)).lines child).frames
    ≡ after_sending (parameters_into net child) (t.lines child).frames sent)
poll_acts net t child count after sent is_poll =
    let p : Parameters = parameters_into net child in
    let e : Edge = edge_step p (edge_into net t child) child_polled in
    let polled : NodeTree = node_step net t (polls child) in
    let (counted, its_sender, frames) = is_poll p (t.lines child) in
    let line : polled.lines child ≡ e.line = put_here t.lines child e.line in (
      put_here t.counts child e.count ∙ counted,
      ap (λ (l : Line). l.sender) line ∙ its_sender,
      ap (λ (l : Line). l.frames) (line_acts net polled child frame_sent refl)
          ∙ ap (λ (l : Line). (line_step p l frame_sent).frames) line ∙ frames,
    )

-- a frame that comes to a node
pub frame_acts : (net : Network) (t : NodeTree) (child parent : ℕ) (repeated : Bool) (frame : Frame) (rest : List Frame)
    (delivered : Bool) (after : ReceiverEnd) → parent_at net.tree.parents child ≡ Some parent
    → (t.lines child).frames ≡ frame ∷ rest → IsFrameReceived (t.lines child).receiver frame delivered after
    → let next = node_step net t (at_line child (frame_comes repeated)) in
    ((next.lines child).receiver ≡ after)
    × (list_of net next child ≡ with_taken delivered (list_of net t child) frame.item)
frame_acts net t child parent repeated frame rest delivered after is_child front is_frame =
    let p : Parameters = parameters_into net child in
    let next : NodeTree = node_step net t (at_line child (frame_comes repeated)) in
    let opening : List ℕ = opening_at net.openings.lists child in
    let line = line_acts net t child (frame_comes repeated) refl
    ∙ (ap (λ frames. line_step p (record (t.lines child) { frames = frames }) (frame_comes repeated)) front
    ∙ is_frame p repeated (t.lines child) rest)
    in
    let listed : (s : NodeTree) → list_of net s child ≡ opening ++ (s.lines child).delivered =
    λ s. ap (λ up. option_map_or (λ _. opening ++ (s.lines child).delivered) up s.published) is_child
    in (
      ap (λ (l : Line). l.receiver) line,
      listed next ∙ (ap (λ (l : Line). opening ++ l.delivered) line
          ∙ (taken_past delivered opening (t.lines child).delivered frame.item
          ∙ ap (λ items. with_taken delivered items frame.item) (sym (listed t)))),
    )

-- an item that the root publishes
pub publish_acts : (net : Network) (t : NodeTree) (root item : ℕ) → parent_at net.tree.parents root ≡ None
    → list_of net (node_step net t (publishes item)) root ≡ with_taken true (list_of net t root) item
publish_acts net t root item is_root =
    let listed : (s : NodeTree) → list_of net s root ≡ s.published =
    λ s. ap (λ up. option_map_or (λ _. opening_at net.openings.lists root ++ (s.lines root).delivered) up s.published) is_root
    in
    listed (node_step net t (publishes item)) ∙ ap (λ items. with_taken true items item) (sym (listed t))

-- ---- a list that begins with items from before the count

pub get_past : (dropped list : List ℕ) (n : ℕ) → slice_get (dropped ++ list) (length dropped + n) ≡ slice_get list n
get_past [] list n = let same : 0 + n ≡ n = omega arith in ap (λ k. slice_get list k) same
get_past (x ∷ dropped) list n =
    let same : suc (length dropped) + n ≡ suc (length dropped + n) = omega arith in
    ap (λ k. slice_get (x ∷ dropped ++ list) k) same ∙ get_past dropped list n

pub counts_past : (taken : Bool) (before n : ℕ) → (if taken then before + n + 1 else before + n) ≡ before + (if taken then n + 1 else n)
counts_past true before n = omega arith
counts_past false before n = refl

module _ (p : Parameters) (dropped list : List ℕ) (count : ℕ) (l : Line) where
  abbrev whole : Edge
  whole = record { list = dropped ++ list; count = length dropped + count; line = l }

  abbrev part : Edge
  part = record { list = list; count = count; line = l }

  same_line : (front : Option ℕ) → (offers_next p part front).line ≡ (offers_next p whole front).line
  same_line None = refl
  same_line (Some item) = refl

  same_count : (front : Option ℕ) → (offers_next p whole front).count ≡ length dropped + (offers_next p part front).count
  same_count None = refl
  same_count (Some item) = counts_past (accepts l.sender) (length dropped) count

-- a poll of the whole list is a poll of what comes after those items
pub poll_past : (dropped list : List ℕ) (count count_after : ℕ) (before after : SenderEnd) (sent : Option Frame)
    → IsPolled (dropped ++ list) (length dropped + count) before (length dropped + count_after) after sent
    → IsPolled list count before count_after after sent
poll_past dropped list count count_after before after sent is_poll p l =
    let line : Line = record l { sender = before } in
    let front : Option ℕ = slice_get list count in
    let get = get_past dropped list count in
    let (counted, its_sender, frames) = is_poll p l in
    let counted_here = ap (λ f. (offers_next p (whole p dropped list count line) f).count) (sym get) ∙ counted in
    let here = same_line p dropped list count line front
    ∙ ap (λ f. (offers_next p (whole p dropped list count line) f).line) (sym get)
    in (
      omega (arith, same_count p dropped list count line front, counted_here),
      ap (λ (s : Line). s.sender) here ∙ its_sender,
      ap (λ (s : Line). (line_step p s frame_sent).frames) here ∙ frames,
    )
