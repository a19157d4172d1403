-- What a poll of a child and an exchange on its link do in a tree over connections, and what they
-- leave as it was.
use Rattle.std.proofs.Common.{◌≡◌, ℕ, ◌+◌, ◌-◌, ◌<◌, ◌≤◌, ◌==◌, not, Bool, true, false, if◌then◌else◌, List, [], ◌∷◌, ◌++◌, length, length-append, slice_get, Some, None, Option, inl, inr, min, refl, sym, ◌∙◌, ap, subst, arith}
use Rattle.std.proofs.lemmas.Bool.{cases_lt}
use Rattle.std.proofs.lemmas.Option.{slice_get-get_or, slice_get_past}
use Rattle.std.specs.Option.{option_map_or}
use Rattle.stab_frames.specs.Parameters.{Parameters}
use Rattle.stab_tree.specs.NodeOpenings.{opening_at}
use Rattle.stab_tree.specs.Nodes.{parent_at}
use Rattle.stab_treecore.specs.Network.{Network}
use Rattle.stab_line.specs.Ends.{SenderEnd, ReceiverEnd, accepts, offered_to}
use Rattle.stab_line.specs.Line.{held, with_taken}
use Rattle.stab_line.specs.NodeTree.{list_above, list_of, parameters_into, put}
use Rattle.stab_line.specs.Passes.{backlog, polled_exchange}
use Rattle.stab_line.specs.Progress.{AreOpen, IsSendersTurn, exchange}
use Rattle.stab_line.specs.SessionLink.{SessionLink, ConnectionAct, connection_step, link_step, link_run, item_offered, frame_sent, ack_sent, frame_comes, ack_comes}
use Rattle.stab_line.specs.SessionTree.{SessionTree, polls, at_link, nodes_of, offers, acts_at, tree_step, tree_run}
use Rattle.stab_line.proofs.Exchanges.{put_here, exchange_acknowledges, idle_exchange}

put_there : {A : Type 0} (entries : ℕ → A) (n m : ℕ) (entry : A) → (m == n) ≡ false → put entries n entry m ≡ entries m
put_there entries n m entry other = ap (λ same. if same then entry else entries m) other

-- ---- a sender that is offered the next item

abbrev pub sender_offered : SenderEnd → Option ℕ → SenderEnd
sender_offered s None = s
sender_offered s (Some item) = offered_to s item

abbrev pub count_offered : SenderEnd → Option ℕ → ℕ → ℕ
count_offered s None count = count
count_offered s (Some item) count = if accepts s then count + 1 else count

-- the next item of a list of this length, at this place
abbrev IsNext : ℕ → ℕ → Option ℕ → Type 0
IsNext size count None = size ≤ count
IsNext size count (Some item) = count < size

-- the backlog stays, and an open sender holds an item if there is any
abbrev IsOfferedWell : ℕ → ℕ → SenderEnd → Option ℕ → Type 0
IsOfferedWell size count s next =
    let after : SenderEnd = sender_offered s next in
    let before : ℕ = length (held s.state.item) + (size - count) in
    (length (held after.state.item) + (size - count_offered s next count) ≡ before)
    × (length (held after.state.item) ≡ min 1 before) × (after.closed ≡ false)

offered_well : (size count label : ℕ) (item next : Option ℕ) → IsNext size count next
    → IsOfferedWell size count (record { state = record { label = label; item = item }; closed = false }) next
offered_well size count label None None is_next = (refl, omega (arith, is_next), refl)
offered_well size count label None (Some x) is_next = (omega (arith, is_next), omega (arith, is_next), refl)
offered_well size count label (Some y) None is_next = (refl, omega arith, refl)
offered_well size count label (Some y) (Some x) is_next = (refl, omega arith, refl)

open_offered_well : (size count : ℕ) (s : SenderEnd) (next : Option ℕ) → s.closed ≡ false → IsNext size count next
    → IsOfferedWell size count s next
open_offered_well size count s next is_open is_next =
    subst (λ (closed : Bool). IsOfferedWell size count (record { state = s.state; closed = closed }) next) (sym is_open)
    (offered_well size count s.state.label s.state.item next is_next)

next_of : (items : List ℕ) (count : ℕ) → IsNext (length items) count (slice_get items count)
next_of items count =
    elim (cases_lt count (length items)) [
      | inl below ↦ subst (λ (next : Option ℕ). IsNext (length items) count next) (sym (slice_get-get_or items count 0 below)) below
      | inr past ↦ subst (λ (next : Option ℕ). IsNext (length items) count next) (sym (slice_get_past items count past)) past
    ]

-- ---- one exchange, whether the sender holds an item or not

taken_length : (taken : Bool) (items : List ℕ) (item : ℕ) → length (with_taken taken items item) ≤ length items + 1
taken_length true items item = omega (arith, length-append items (item ∷ []))
taken_length false items item = omega arith

-- nothing is held after it, and no more was delivered than was held
abbrev IsHandedOn : SessionLink → ℕ → SessionLink → Type 0
IsHandedOn l n after =
    (length (held after.sender.state.item) ≡ 0)
    × (length after.delivered ≤ length l.delivered + length (held l.sender.state.item))
    × AreOpen after × IsSendersTurn after n

exchange_hands_on : (p : Parameters) (l : SessionLink) (n : ℕ) → AreOpen l → IsSendersTurn l n → IsHandedOn l n (link_run p l (exchange n))
exchange_hands_on p l n are_open turn = by_held l.sender.state.item refl
  where
    by_held : (item : Option ℕ) → l.sender.state.item ≡ item → IsHandedOn l n (link_run p l (exchange n))
    by_held None none =
        subst (λ (after : SessionLink). IsHandedOn l n after) (sym (idle_exchange p l n are_open none turn))
        (ap (λ x. length (held x)) none, omega arith, are_open, turn)
    by_held (Some item) some =
        let (acked, sender, receiver, delivered, turn_then) = exchange_acknowledges p l n item are_open some turn in (
          ap (λ (s : SenderEnd). length (held s.state.item)) sender,
          omega (
            arith,
            ap (λ (items : List ℕ). length items) delivered,
            taken_length (not (l.sender.state.label == l.receiver.label)) l.delivered item,
            ap (λ x. length (held x)) some,
          ),
          (ap (λ (s : SenderEnd). s.closed) sender, ap (λ (r : ReceiverEnd). r.closed) receiver),
          turn_then,
        )

-- ---- what the acts at one link do, and what they leave

-- the tree is as it was but at the link into this child
abbrev pub IsLed : SessionTree → ℕ → SessionTree → SessionLink → ℕ → Type 0
IsLed t child u link count =
    (u.links child ≡ link) × (u.counts child ≡ count) × (u.published ≡ t.published)
    × ((m : ℕ) → (m == child) ≡ false → (u.links m ≡ t.links m) × (u.counts m ≡ t.counts m))

module _ (net : Network) (child above : ℕ) (is_child : parent_at net.tree.parents child ≡ Some above) where
  abbrev pub p : Parameters
  p = parameters_into net child

  stepped : (u : SessionTree) (act : ConnectionAct)
      → tree_step net u (at_link child act) ≡ record u { links = put u.links child (connection_step p (u.links child) act) }
  stepped u act = ap (λ up. acts_at p u child act up) is_child

  pub act_led : (t u : SessionTree) (link : SessionLink) (count : ℕ) (act : ConnectionAct) → IsLed t child u link count
      → IsLed t child (tree_step net u (at_link child act)) (connection_step p link act) count
  act_led t u link count act (its_link, its_count, published, others) = (
    ap (λ (s : SessionTree). s.links child) (stepped u act)
        ∙ put_here u.links child (connection_step p (u.links child) act)
        ∙ ap (λ (l : SessionLink). connection_step p l act) its_link,
    ap (λ (s : SessionTree). s.counts child) (stepped u act) ∙ its_count,
    ap (λ (s : SessionTree). s.published) (stepped u act) ∙ published,
    λ m other. (
      ap (λ (s : SessionTree). s.links m) (stepped u act)
          ∙ put_there u.links child m (connection_step p (u.links child) act) other
          ∙ (others m other).0,
      ap (λ (s : SessionTree). s.counts m) (stepped u act) ∙ (others m other).1,
    ),
  )

  abbrev pub link_offered : SessionTree → Option ℕ → SessionLink
  link_offered t None = t.links child
  link_offered t (Some item) = link_step p (t.links child) (item_offered item)

  offered_led : (t : SessionTree) (next : Option ℕ)
      → IsLed t child (offers p t child next) (link_offered t next) (count_offered (t.links child).sender next (t.counts child))
  offered_led t None = (refl, refl, refl, λ m other. (refl, refl))
  offered_led t (Some item) =
      let count : ℕ = if accepts (t.links child).sender then t.counts child + 1 else t.counts child in
      let link : SessionLink = link_step p (t.links child) (item_offered item) in (
        put_here t.links child link,
        put_here t.counts child count,
        refl,
        λ m other. (put_there t.links child m link other, put_there t.counts child m count other),
      )

  abbrev pub next_item : SessionTree → Option ℕ
  next_item t = slice_get (list_above net (nodes_of t) child) (t.counts child)

  exchange_led : (t : SessionTree) (n : ℕ)
      → IsLed t child (tree_run net t (polled_exchange child n)) (link_run p (link_offered t (next_item t)) (exchange n))
      (count_offered (t.links child).sender (next_item t) (t.counts child))
  exchange_led t n =
      let l0 : SessionLink = link_offered t (next_item t) in
      let c : ℕ = count_offered (t.links child).sender (next_item t) (t.counts child) in
      let u0 : SessionTree = tree_step net t (polls child) in
      let u1 : SessionTree = tree_step net u0 (at_link child frame_sent) in
      let u2 : SessionTree = tree_step net u1 (at_link child (frame_comes n)) in
      let u3 : SessionTree = tree_step net u2 (at_link child ack_sent) in
      let l1 : SessionLink = connection_step p l0 frame_sent in
      let l2 : SessionLink = connection_step p l1 (frame_comes n) in
      let l3 : SessionLink = connection_step p l2 ack_sent in
      act_led t u3 l3 c (ack_comes n)
      (act_led t u2 l2 c ack_sent
      (act_led t u1 l1 c (frame_comes n)
      (act_led t u0 l0 c frame_sent (offered_led t (next_item t)))))

  -- the poll changes the sender alone
  offered_sender : (t : SessionTree) (next : Option ℕ) → (link_offered t next).sender ≡ sender_offered (t.links child).sender next
  offered_sender t None = refl
  offered_sender t (Some item) = refl

  offered_turn : (t : SessionTree) (next : Option ℕ) (n : ℕ) → IsSendersTurn (t.links child) n → IsSendersTurn (link_offered t next) n
  offered_turn t None n turn = turn
  offered_turn t (Some item) n turn = turn

  offered_receiver : (t : SessionTree) (next : Option ℕ) → (link_offered t next).receiver ≡ (t.links child).receiver
  offered_receiver t None = refl
  offered_receiver t (Some item) = refl

  offered_delivered : (t : SessionTree) (next : Option ℕ) → (link_offered t next).delivered ≡ (t.links child).delivered
  offered_delivered t None = refl
  offered_delivered t (Some item) = refl

-- ---- the lists of the nodes

pub list_like : (net : Network) (t u : SessionTree) (node : ℕ) → u.links node ≡ t.links node → u.published ≡ t.published
    → list_of net (nodes_of u) node ≡ list_of net (nodes_of t) node
list_like net t u node same published =
    let opening : List ℕ = opening_at net.openings.lists node in
    ap (λ (l : SessionLink). option_map_or (λ _. opening ++ l.delivered) (parent_at net.tree.parents node) u.published) same
    ∙ ap (λ items. option_map_or (λ _. opening ++ (t.links node).delivered) (parent_at net.tree.parents node) items) published

pub above_is : (net : Network) (t : SessionTree) (child above : ℕ) → parent_at net.tree.parents child ≡ Some above
    → list_above net (nodes_of t) child ≡ list_of net (nodes_of t) above
above_is net t child above is_child =
    ap (λ up. option_map_or (list_of net (nodes_of t)) up []) is_child

pub below_length : (net : Network) (t : SessionTree) (child above : ℕ) → parent_at net.tree.parents child ≡ Some above
    → length (list_of net (nodes_of t) child) ≡ length (opening_at net.openings.lists child) + length (t.links child).delivered
below_length net t child above is_child =
    ap (λ up. length (option_map_or (λ _. opening_at net.openings.lists child ++ (t.links child).delivered) up t.published)) is_child
    ∙ length-append (opening_at net.openings.lists child) (t.links child).delivered

-- ---- one link of a path

-- The backlog of the child after an exchange is one less, if there was any, and its list grew by no
-- more than its backlog fell.
abbrev pub IsOneLess : Network → SessionTree → ℕ → ℕ → SessionTree → Type 0
IsOneLess net t child n u =
    (backlog net u child ≤ backlog net t child - 1)
    × (length (list_of net (nodes_of u) child) + backlog net u child
    ≤ length (list_of net (nodes_of t) child) + backlog net t child)
    × AreOpen (u.links child) × IsSendersTurn (u.links child) n

module _ (net : Network) (t : SessionTree) (child above n : ℕ) (is_child : parent_at net.tree.parents child ≡ Some above)
    (apart : (above == child) ≡ false) (are_open : AreOpen (t.links child)) (turn : IsSendersTurn (t.links child) n) where
  abbrev pub its_parameters : Parameters
  its_parameters = parameters_into net child

  abbrev pub next : Option ℕ
  next = next_item net child above is_child t

  abbrev pub offered_link : SessionLink
  offered_link = link_offered net child above is_child t next

  abbrev pub u : SessionTree
  u = tree_run net t (polled_exchange child n)

  well : IsOfferedWell (length (list_above net (nodes_of t) child)) (t.counts child) (t.links child).sender next
  well =
      open_offered_well (length (list_above net (nodes_of t) child)) (t.counts child) (t.links child).sender next are_open.0
      (next_of (list_above net (nodes_of t) child) (t.counts child))

  same_sender : offered_link.sender ≡ sender_offered (t.links child).sender next
  same_sender = offered_sender net child above is_child t next

  handed : IsHandedOn offered_link n (link_run its_parameters offered_link (exchange n))
  handed =
      exchange_hands_on its_parameters offered_link n (
        ap (λ (s : SenderEnd). s.closed) same_sender ∙ well.2,
        ap (λ (r : ReceiverEnd). r.closed) (offered_receiver net child above is_child t next) ∙ are_open.1,
      )
      (offered_turn net child above is_child t next n turn)

  pub led : IsLed t child u (link_run its_parameters offered_link (exchange n)) (count_offered (t.links child).sender next (t.counts child))
  led = exchange_led net child above is_child t n

  same_above : list_above net (nodes_of u) child ≡ list_above net (nodes_of t) child
  same_above =
      above_is net u child above is_child
      ∙ list_like net t u above (led.3 above apart).0 led.2
      ∙ sym (above_is net t child above is_child)

  pub one_less : IsOneLess net t child n u
  one_less =
      let link : SessionLink = u.links child in
      let size : ℕ = length (list_above net (nodes_of t) child) in
      let none_held : length (held link.sender.state.item) ≡ 0 =
      ap (λ (l : SessionLink). length (held l.sender.state.item)) led.0 ∙ handed.0
      in
      let was_held : length (held offered_link.sender.state.item) ≡ length (held (sender_offered (t.links child).sender next).state.item) =
      ap (λ (s : SenderEnd). length (held s.state.item)) same_sender
      in
      let grew : length link.delivered ≤ length (t.links child).delivered + length (held offered_link.sender.state.item) =
      omega (
        arith,
        ap (λ (l : SessionLink). length l.delivered) led.0,
        handed.1,
        ap (λ (items : List ℕ). length items) (offered_delivered net child above is_child t next),
      )
      in
      let left : size - u.counts child ≡ size - count_offered (t.links child).sender next (t.counts child) =
      ap (λ count. size - count) led.1
      in
      let sized : length (list_above net (nodes_of u) child) ≡ size = ap (λ (items : List ℕ). length items) same_above in
      let left_now : length (list_above net (nodes_of u) child) - u.counts child ≡ size - u.counts child = ap (λ k. k - u.counts child) sized in (
        omega (arith, none_held, was_held, left, left_now, well.0, well.1),
        omega (
          arith,
          none_held,
          was_held,
          left,
          left_now,
          grew,
          well.0,
          well.1,
          below_length net u child above is_child,
          below_length net t child above is_child,
        ),
        subst (λ (l : SessionLink). AreOpen l) (sym led.0) handed.2,
        subst (λ (l : SessionLink). IsSendersTurn l n) (sym led.0) handed.3,
      )
