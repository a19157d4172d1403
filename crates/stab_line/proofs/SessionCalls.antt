-- What the clauses of the calls say makes up the acts of a tree over connections.
use Rattle.std.proofs.Common.{◌≡◌, ℕ, ◌+◌, Bool, true, false, if◌then◌else◌, List, [], ◌∷◌, ◌++◌, append_assoc, slice_get, Option, Some, None, refl, sym, ◌∙◌, ap, eq-eqb, length, arith}
use Rattle.std.specs.Option.{option_map_or}
use Rattle.stab_frames.specs.declared.frame.Frame.{Frame}
use Rattle.stab_frames.specs.Parameters.{Parameters}
use Rattle.stab_tree.specs.NodeOpenings.{opening_at}
use Rattle.stab_tree.specs.Nodes.{parent_at}
use Rattle.stab_treecore.specs.Network.{Network}
use Rattle.stab_line.specs.Acts.{IsPolled}
use Rattle.stab_line.specs.Ends.{SenderEnd, ReceiverEnd, frame_to_send, accepts}
use Rattle.stab_line.specs.Edge.{Edge, offers_next}
use Rattle.stab_line.specs.Line.{after_sending, with_taken}
use Rattle.stab_line.specs.NodeTree.{list_above, list_of, parameters_into, put}
use Rattle.stab_line.specs.SessionNames.{known_as, IsAckHandledAs, IsFrameHandledAs}
use Rattle.stab_line.specs.Session.{Session, may_send, sent_now, turn_after}
use Rattle.stab_line.specs.SessionLink.{SessionLink, ConnectionAct, connection_step, link_step, item_offered, frame_sent, frame_comes, ack_comes, line_of, put_on}
use Rattle.stab_line.specs.SessionTree.{SessionTree, polls, at_link, nodes_of, offers, acts_at, tree_step}

put_here : {A : Type 0} (entries : ℕ → A) (n : ℕ) (entry : A) → put entries n entry n ≡ entry
put_here entries n entry = ap (λ same. if same then entry else entries n) (eq-eqb n n refl)

-- an empty line with room for one message
one : Parameters
one = record { capacity = 1; labels = 4 }

-- what was sent shows on an empty line
sent_shows : (sent also : Option Frame) → after_sending one [] sent ≡ after_sending one [] also → sent ≡ also
unfolding one
sent_shows None None same = refl
sent_shows (Some f) (Some g) same = ap (λ (fs : List Frame). slice_get fs 0) same
sent_shows None (Some g) same = absurd (omega (arith, ap (λ (fs : List Frame). length fs) same))
sent_shows (Some f) None same = absurd (omega (arith, ap (λ (fs : List Frame). length fs) same))

-- a poll puts nothing on the line
polled_frames : (p : Parameters) (e : Edge) (next : Option ℕ) → (offers_next p e next).line.frames ≡ e.line.frames
polled_frames p e None = refl
polled_frames p e (Some item) = refl

-- the child after a poll: how much it was offered, and its sender
module _ (p : Parameters) (t : SessionTree) (child : ℕ) (list : List ℕ) where
  abbrev edge : Edge
  edge = record { list = list; count = t.counts child; line = line_of (t.links child) }

  polled_count : (next : Option ℕ) → (offers p t child next).counts child ≡ (offers_next p edge next).count
  polled_count None = refl
  polled_count (Some item) = put_here t.counts child (if accepts (t.links child).sender then t.counts child + 1 else t.counts child)

  polled_link : (next : Option ℕ)
      → (offers p t child next).links child ≡ record (t.links child) {
        sender = (offers_next p edge next).line.sender;
        offered = (offers_next p edge next).line.offered;
      }
  polled_link None = refl
  polled_link (Some item) = put_here t.links child (link_step p (t.links child) (item_offered item))

pub poll_acts : (net : Network) (t : SessionTree) (child parent count : ℕ) (after : SenderEnd) (sent : Option Frame)
    → parent_at net.tree.parents child ≡ Some parent
    → may_send (t.links child).at_sender ≡ true
    → IsPolled (list_above net (nodes_of t) child) (t.counts child) (t.links child).sender count after sent
    → let polled = tree_step net t (polls child) in
    let next = tree_step net polled (at_link child frame_sent) in
    let before : SessionLink = t.links child in
    (next.counts child ≡ count) × ((next.links child).sender ≡ after)
    × ((next.links child).at_sender ≡ turn_after before.at_sender sent)
    × ((next.links child).down ≡ put_on before.at_sender.connection before.down sent)
poll_acts net t child parent count after sent is_child may is_polled =
    let p : Parameters = parameters_into net child in
    let list : List ℕ = list_above net (nodes_of t) child in
    let item : Option ℕ = slice_get list (t.counts child) in
    let before : SessionLink = t.links child in
    let polled : SessionTree = offers p t child item in
    let (counted, its_sender, frames) = is_polled p (line_of before) in
    let (counted_too, sender_too, shows) = is_polled one (record (line_of before) { frames = [] }) in
    let empty : Edge = record { list = list; count = t.counts child; line = record (line_of before) { frames = [] } } in
    let is_sent : frame_to_send after ≡ sent =
    sent_shows (frame_to_send after) sent
    (ap (λ s. after_sending one [] (frame_to_send s)) (sym sender_too)
    ∙ ap (λ sending. after_sending one sending (frame_to_send (offers_next one empty item).line.sender))
    (sym (polled_frames one empty item))
    ∙ shows)
    in
    let link : polled.links child ≡ record before { sender = after; offered = (offers_next p (edge p t child list) item).line.offered } =
    polled_link p t child list item
    ∙ ap (λ s. record before { sender = s; offered = (offers_next p (edge p t child list) item).line.offered }) its_sender
    in
    let last : SessionLink = connection_step p (polled.links child) frame_sent in
    let stepped : (acts_at p polled child frame_sent (parent_at net.tree.parents child)) ≡ record polled { links = put polled.links child last } =
    ap (λ up. acts_at p polled child frame_sent up) is_child
    in
    let its_link : (acts_at p polled child frame_sent (parent_at net.tree.parents child)).links child
    ≡ connection_step p (record before { sender = after; offered = (offers_next p (edge p t child list) item).line.offered }) frame_sent =
    ap (λ (s : SessionTree). s.links child) stepped
    ∙ put_here polled.links child last
    ∙ ap (λ l. connection_step p l frame_sent) link
    in
    let goes : sent_now before.at_sender (frame_to_send after) ≡ sent =
    ap (λ can. if can then frame_to_send after else None) may ∙ is_sent
    in (
      ap (λ (s : SessionTree). s.counts child) stepped ∙ polled_count p t child list item ∙ counted,
      ap (λ (l : SessionLink). l.sender) its_link,
      ap (λ (l : SessionLink). l.at_sender) its_link ∙ ap (λ x. turn_after before.at_sender x) goes,
      ap (λ (l : SessionLink). l.down) its_link ∙ ap (λ x. put_on before.at_sender.connection before.down x) goes,
    )

-- ---- messages that come

-- an item taken at the end of a list after an opening
taken_past : (taken : Bool) (opening items : List ℕ) (item : ℕ)
    → opening ++ with_taken taken items item ≡ with_taken taken (opening ++ items) item
taken_past true opening items item = sym (append_assoc opening items (item ∷ []))
taken_past false opening items item = refl

-- the link into a child after an act there
link_after : (net : Network) (t : SessionTree) (child parent : ℕ) (act : ConnectionAct) → parent_at net.tree.parents child ≡ Some parent
    → (tree_step net t (at_link child act)).links child ≡ connection_step (parameters_into net child) (t.links child) act
link_after net t child parent act is_child =
    let p : Parameters = parameters_into net child in
    ap (λ up. (acts_at p t child act up).links child) is_child
    ∙ put_here t.links child (connection_step p (t.links child) act)

pub frame_acts : (net : Network) (t : SessionTree) (child parent : ℕ) (name : ℕ → ℕ) (session : Session) (n : ℕ) (frame : Frame)
    (rest : List Frame) (delivered : Bool) (after : ReceiverEnd) (session_after : Session)
    → parent_at net.tree.parents child ≡ Some parent → (t.links child).at_receiver ≡ known_as name session
    → (t.links child).down (name n) ≡ frame ∷ rest
    → IsFrameHandledAs name (t.links child).receiver session n frame delivered after session_after
    → let next = tree_step net t (at_link child (frame_comes (name n))) in
    ((next.links child).receiver ≡ after) × ((next.links child).at_receiver ≡ known_as name session_after)
    × (list_of net (nodes_of next) child ≡ with_taken delivered (list_of net (nodes_of t) child) frame.item)
frame_acts net t child parent name session n frame rest delivered after session_after is_child at_receiver is_front is_heard =
    let p : Parameters = parameters_into net child in
    let link : SessionLink = t.links child in
    let opening : List ℕ = opening_at net.openings.lists child in
    let next : SessionTree = tree_step net t (at_link child (frame_comes (name n))) in
    let led : next.links child ≡ record link {
      receiver = after;
      at_receiver = known_as name session_after;
      down = put link.down (name n) rest;
      delivered = with_taken delivered link.delivered frame.item;
    } =
    link_after net t child parent (frame_comes (name n)) is_child
    ∙ ap (λ (s : Session). connection_step p (record link { at_receiver = s }) (frame_comes (name n))) at_receiver
    ∙ is_heard p link rest is_front
    in (
      ap (λ (l : SessionLink). l.receiver) led,
      ap (λ (l : SessionLink). l.at_receiver) led,
      ap (λ up. option_map_or (λ _. opening ++ (next.links child).delivered) up next.published) is_child
          ∙ ap (λ (l : SessionLink). opening ++ l.delivered) led
          ∙ taken_past delivered opening link.delivered frame.item
          ∙ ap (λ list. with_taken delivered list frame.item)
          (sym (ap (λ up. option_map_or (λ _. opening ++ link.delivered) up t.published) is_child)),
    )

pub ack_acts : (net : Network) (t : SessionTree) (child parent : ℕ) (name : ℕ → ℕ) (session : Session) (n label : ℕ)
    (rest : List ℕ) (waited : Bool) (after : SenderEnd) (session_after : Session)
    → parent_at net.tree.parents child ≡ Some parent → (t.links child).at_sender ≡ known_as name session
    → (t.links child).up (name n) ≡ label ∷ rest
    → IsAckHandledAs name (parameters_into net child) (t.links child).sender session n label waited after session_after
    → let next = tree_step net t (at_link child (ack_comes (name n))) in
    ((next.links child).sender ≡ after) × ((next.links child).at_sender ≡ known_as name session_after)
    × ((next.links child).acked ≡ (if waited then (t.links child).acked + 1 else (t.links child).acked))
ack_acts net t child parent name session n label rest waited after session_after is_child at_sender is_front is_heard =
    let p : Parameters = parameters_into net child in
    let link : SessionLink = t.links child in
    let next : SessionTree = tree_step net t (at_link child (ack_comes (name n))) in
    let led : next.links child ≡ record link {
      sender = after;
      at_sender = known_as name session_after;
      up = put link.up (name n) rest;
      acked = if waited then link.acked + 1 else link.acked;
    } =
    link_after net t child parent (ack_comes (name n)) is_child
    ∙ ap (λ (s : Session). connection_step p (record link { at_sender = s }) (ack_comes (name n))) at_sender
    ∙ is_heard link rest is_front
    in (
      ap (λ (l : SessionLink). l.sender) led,
      ap (λ (l : SessionLink). l.at_sender) led,
      ap (λ (l : SessionLink). l.acked) led,
    )
