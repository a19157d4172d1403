-- A pass over a path takes an item from its backlogs, and new connections lead to passes.
use Rattle.std.proofs.Common.{◌≡◌, ℕ, zero, suc, ◌+◌, ◌-◌, ◌≤◌, ◌==◌, Bool, true, false, List, [], ◌∷◌, ◌++◌, map, length, Some, Option, refl, sym, ◌∙◌, ap, subst, arith, eq-eqb, eqb-true, true≢false}
use Rattle.std.proofs.lemmas.Bool.{ne_eqb}
use Rattle.std.specs.Prelude.{⊤}
use Rattle.stab_frames.specs.Parameters.{Parameters}
use Rattle.stab_tree.specs.Nodes.{parent_at}
use Rattle.stab_tree.specs.IsTree.{IsRooted}
use Rattle.stab_tree.specs.Steps.{depth_of}
use Rattle.stab_tree.proofs.ForCallers.{child_is_deeper}
use Rattle.stab_treecore.specs.Network.{Network, IsNetwork}
use Rattle.stab_line.specs.Line.{held}
use Rattle.stab_line.specs.NodeTree.{list_above, list_of, parameters_into}
use Rattle.stab_line.specs.Passes.{PathLink, IsPath, AllMayConnect, AllMaySend, backlog, backlogs, all_connect, polled_exchange, pass, passes}
use Rattle.stab_line.specs.Progress.{AreOpen, IsNew, IsSendersTurn, connection_acts}
use Rattle.stab_line.specs.SessionLink.{SessionLink, ConnectionAct, connection_step, link_run, happens}
use Rattle.stab_line.specs.SessionTree.{SessionTree, TreeAct, at_link, nodes_of, tree_step, tree_run}
use Rattle.stab_line.proofs.Connecting.{connects_to_turn, connects_calmly}
use Rattle.stab_line.proofs.PolledLinks.{IsLed, act_led, led, one_less, list_like, above_is, below_length}

-- two nodes are apart from both sides
other_too : (m n : ℕ) → (m == n) ≡ false → (n == m) ≡ false
other_too m n other = by_turned (n == m) refl
  where
    by_turned : (turned : Bool) → (n == m) ≡ turned → turned ≡ false
    by_turned true same = absurd (true≢false (sym (eq-eqb m n (sym (eqb-true n m same))) ∙ other))
    by_turned false same = refl

-- the node is none of those below the links of this path
abbrev IsBeside : ℕ → List PathLink → Type 0
IsBeside node [] = ⊤
IsBeside node ((child, n) ∷ path) = ((node == child) ≡ false) × IsBeside node path

-- a path on which no node comes twice
abbrev GoesDown : List (Option ℕ) → ℕ → List PathLink → Type 0
GoesDown parents above [] = ⊤
GoesDown parents above ((child, n) ∷ path) =
    (parent_at parents child ≡ Some above) × IsBeside above ((child, n) ∷ path)
    × GoesDown parents child path

-- in a tree every path goes down
module _ (parents : List (Option ℕ)) (rooted : IsRooted parents) where
  higher_is_beside : (node from : ℕ) (path : List PathLink) → depth_of parents node ≤ depth_of parents from → IsPath parents from path → IsBeside node path
  higher_is_beside node from [] higher is_path = is_path
  higher_is_beside node from ((child, n) ∷ path) higher (is_child, is_path) =
      let deeper = child_is_deeper parents rooted child from is_child in (
        ne_eqb node child (λ same. absurd (omega (arith, higher, deeper, ap (depth_of parents) same))),
        higher_is_beside node child path (omega (arith, higher, deeper)) is_path,
      )

  goes_down : (above : ℕ) (path : List PathLink) → IsPath parents above path → GoesDown parents above path
  goes_down above [] is_path = is_path
  goes_down above ((child, n) ∷ path) (is_child, is_path) = (
    is_child,
    higher_is_beside above above ((child, n) ∷ path) (omega arith) (is_child, is_path),
    goes_down child path is_path,
  )

-- ---- the rest of the path

-- the trees differ at the link into this child alone
abbrev IsLike : SessionTree → ℕ → SessionTree → Type 0
IsLike t child u =
    (u.published ≡ t.published)
    × ((m : ℕ) → (m == child) ≡ false → (u.links m ≡ t.links m) × (u.counts m ≡ t.counts m))

may_send_like : (t u : SessionTree) (child : ℕ) (path : List PathLink) → IsLike t child u → IsBeside child path → AllMaySend t path → AllMaySend u path
may_send_like t u child [] like beside may = may
may_send_like t u child ((c, n) ∷ path) like (apart, beside) (are_open, turn, may) =
    let same = (like.1 c (other_too child c apart)).0 in (
      subst (λ (l : SessionLink). AreOpen l) (sym same) are_open,
      subst (λ (l : SessionLink). IsSendersTurn l n) (sym same) turn,
      may_send_like t u child path like beside may,
    )

-- the backlog of a child at another link, below a list of about this length
backlog_like : (net : Network) (t u : SessionTree) (child c more : ℕ) → IsLike t child u → (c == child) ≡ false
    → length (list_above net (nodes_of u) c) ≤ length (list_above net (nodes_of t) c) + more
    → backlog net u c ≤ backlog net t c + more
backlog_like net t u child c more like other longer =
    let (same_link, same_count) = like.1 c other in
    let items : ℕ = length (list_above net (nodes_of u) c) in
    omega (
      arith,
      longer,
      ap (λ (l : SessionLink). length (held l.sender.state.item)) same_link,
      ap (λ count. items - count) same_count,
    )

backlogs_like : (net : Network) (t u : SessionTree) (child from more : ℕ) (path : List PathLink) → IsLike t child u
    → GoesDown net.tree.parents from path → IsBeside child path
    → length (list_of net (nodes_of u) from) ≤ length (list_of net (nodes_of t) from) + more
    → backlogs net u path ≤ backlogs net t path + more
backlogs_like net t u child from more [] like is_path beside longer = omega arith
backlogs_like net t u child from more ((c, n) ∷ path) like (is_child, _, is_path) (apart, beside) longer =
    let other = other_too child c apart in
    let first =
    backlog_like net t u child c more like other
    (omega (
      arith,
      longer,
      ap (λ (items : List ℕ). length items) (above_is net u c from is_child),
      ap (λ (items : List ℕ). length items) (above_is net t c from is_child),
    ))
    in
    let same = list_like net t u c (like.1 c other).0 like.0 in
    let rest = backlogs_like net t u child c 0 path like is_path beside (omega (arith, ap (λ (items : List ℕ). length items) same)) in
    omega (arith, first, rest)

-- a path below a node is beside it
beside_above : (parents : List (Option ℕ)) (above : ℕ) (path : List PathLink) → GoesDown parents above path → IsBeside above path
beside_above parents above [] is_path = is_path
beside_above parents above ((c, n) ∷ path) (is_child, beside, is_path) = beside

-- ---- a pass

-- a pass leaves what is beside the path, and takes an item from the backlogs
abbrev IsPassed : Network → SessionTree → List PathLink → SessionTree → Type 0
IsPassed net t path w =
    (backlogs net w path ≤ backlogs net t path - 1) × AllMaySend w path × (w.published ≡ t.published)
    × ((m : ℕ) → IsBeside m path → (w.links m ≡ t.links m) × (w.counts m ≡ t.counts m))

passed : (net : Network) (t : SessionTree) (above : ℕ) (path : List PathLink) → GoesDown net.tree.parents above path → AllMaySend t path
    → IsPassed net t path (tree_run net t (pass path))
passed net t above [] is_path may = (omega arith, may, refl, λ m beside. (refl, refl))
passed net t above ((child, n) ∷ path) (is_child, (apart, beside), is_path) (are_open, turn, may) =
    let u : SessionTree = tree_run net t (polled_exchange child n) in
    let (first, grew, open_then, turn_then) = one_less net t child above n is_child apart are_open turn in
    let (_, _, published, others) = led net t child above n is_child apart are_open turn in
    let like : IsLike t child u = (published, others) in
    let below = beside_above net.tree.parents child path is_path in
    let may_then = may_send_like t u child path like below may in
    let w : SessionTree = tree_run net u (pass path) in
    let (rest, may_last, published_last, others_last) = passed net u child path is_path may_then in
    let more : ℕ = length (list_of net (nodes_of u) child) - length (list_of net (nodes_of t) child) in
    let longer = backlogs_like net t u child child more path like is_path below (omega arith) in
    let same_link = (others_last child below).0 in
    let same_above : list_above net (nodes_of w) child ≡ list_above net (nodes_of u) child =
    above_is net w child above is_child
    ∙ list_like net u w above (others_last above beside).0 published_last
    ∙ sym (above_is net u child above is_child)
    in
    let size : ℕ = length (list_above net (nodes_of w) child) in
    let sized : size ≡ length (list_above net (nodes_of u) child) = ap (λ (items : List ℕ). length items) same_above in
    let same_first : backlog net w child ≡ backlog net u child =
    omega (
      arith,
      sized,
      ap (λ (l : SessionLink). length (held l.sender.state.item)) same_link,
      ap (λ count. size - count) (others_last child below).1,
    )
    in (
      omega (arith, first, grew, rest, longer, same_first),
      (
        subst (λ (l : SessionLink). AreOpen l) (sym same_link) open_then,
        subst (λ (l : SessionLink). IsSendersTurn l n) (sym same_link) turn_then,
        may_last,
      ),
      published_last ∙ published,
      λ m (other, beside_m). (
        (others_last m beside_m).0 ∙ (others m other).0,
        (others_last m beside_m).1 ∙ (others m other).1,
      ),
    )

pass_takes_one_down : (net : Network) (t : SessionTree) (above : ℕ) (path : List PathLink) → GoesDown net.tree.parents above path → AllMaySend t path
    → let after = tree_run net t (pass path) in
    (backlogs net after path ≤ backlogs net t path - 1) × AllMaySend after path
pass_takes_one_down net t above path is_path may =
    let (fewer, may_then, _, _) = passed net t above path is_path may in (fewer, may_then)

-- ---- passes

run_append : (net : Network) (t : SessionTree) (first second : List TreeAct) → tree_run net t (first ++ second) ≡ tree_run net (tree_run net t first) second
run_append net t [] second = refl
run_append net t (act ∷ first) second = run_append net (tree_step net t act) first second

fewer_left : (net : Network) (t : SessionTree) (above k : ℕ) (path : List PathLink) → GoesDown net.tree.parents above path → AllMaySend t path
    → backlogs net (tree_run net t (passes k path)) path ≤ backlogs net t path - k
fewer_left net t above zero path is_path may = omega arith
fewer_left net t above (suc k) path is_path may =
    let u : SessionTree = tree_run net t (pass path) in
    let (one, may_then) = pass_takes_one_down net t above path is_path may in
    let rest = fewer_left net u above k path is_path may_then in
    let led = ap (λ (w : SessionTree). backlogs net w path) (run_append net t (pass path) (passes k path)) in
    omega (arith, one, rest, led)

still_may_send : (net : Network) (t : SessionTree) (above k : ℕ) (path : List PathLink) → GoesDown net.tree.parents above path → AllMaySend t path
    → AllMaySend (tree_run net t (passes k path)) path
still_may_send net t above zero path is_path may = may
still_may_send net t above (suc k) path is_path may =
    let u : SessionTree = tree_run net t (pass path) in
    let (_, may_then) = pass_takes_one_down net t above path is_path may in
    subst (λ (w : SessionTree). AllMaySend w path) (sym (run_append net t (pass path) (passes k path)))
    (still_may_send net u above k path is_path may_then)

-- ---- new connections on a path

-- the acts of a link make the link what they make of it
acts_led : (net : Network) (child above : ℕ) (is_child : parent_at net.tree.parents child ≡ Some above) (t u : SessionTree) (link : SessionLink) (count : ℕ)
    (acts : List ConnectionAct) → IsLed t child u link count
    → IsLed t child (tree_run net u (map (at_link child) acts)) (link_run (parameters_into net child) link (map happens acts)) count
acts_led net child above is_child t u link count [] led = led
acts_led net child above is_child t u link count (act ∷ acts) led =
    acts_led net child above is_child t (tree_step net u (at_link child act)) (connection_step (parameters_into net child) link act) count acts
    (act_led net child above is_child t u link count act led)

may_connect_like : (t u : SessionTree) (child : ℕ) (path : List PathLink) → IsLike t child u → IsBeside child path → AllMayConnect t path → AllMayConnect u path
may_connect_like t u child [] like beside may = may
may_connect_like t u child ((c, n) ∷ path) like (apart, beside) (are_open, is_new, may) =
    let same = (like.1 c (other_too child c apart)).0 in (
      subst (λ (l : SessionLink). AreOpen l) (sym same) are_open,
      subst (λ (l : SessionLink). IsNew l n) (sym same) is_new,
      may_connect_like t u child path like beside may,
    )

-- all its senders may send, and no backlog grew
abbrev IsConnected : Network → SessionTree → List PathLink → SessionTree → Type 0
IsConnected net t path w =
    (backlogs net w path ≤ backlogs net t path) × AllMaySend w path × (w.published ≡ t.published)
    × ((m : ℕ) → IsBeside m path → (w.links m ≡ t.links m) × (w.counts m ≡ t.counts m))

connected : (net : Network) (by_parent : ℕ → Bool) (t : SessionTree) (above : ℕ) (path : List PathLink)
    → GoesDown net.tree.parents above path → AllMayConnect t path
    → IsConnected net t path (tree_run net t (all_connect by_parent path))
connected net by_parent t above [] is_path may = (omega arith, may, refl, λ m beside. (refl, refl))
connected net by_parent t above ((child, n) ∷ path) (is_child, (apart, beside), is_path) (are_open, is_new, may) =
    let acts : List ConnectionAct = connection_acts (by_parent child) n in
    let its : Parameters = parameters_into net child in
    let u : SessionTree = tree_run net t (map (at_link child) acts) in
    let w : SessionTree = tree_run net u (all_connect by_parent path) in
    let (its_link, its_count, published, others) =
    acts_led net child above is_child t t (t.links child) (t.counts child) acts (refl, refl, refl, λ m other. (refl, refl))
    in
    let (open_then, turn_then) = connects_to_turn its (t.links child) (by_parent child) n are_open is_new in
    let (same_delivered, no_more) = connects_calmly its (t.links child) (by_parent child) n are_open is_new in
    let like : IsLike t child u = (published, others) in
    let below = beside_above net.tree.parents child path is_path in
    let may_then = may_connect_like t u child path like below may in
    let (rest, may_last, published_last, others_last) = connected net by_parent u child path is_path may_then in
    let same_list : length (list_of net (nodes_of u) child) ≡ length (list_of net (nodes_of t) child) =
    omega (
      arith,
      below_length net u child above is_child,
      below_length net t child above is_child,
      ap (λ (l : SessionLink). length l.delivered) its_link,
      ap (λ (items : List ℕ). length items) same_delivered,
    )
    in
    let longer = backlogs_like net t u child child 0 path like is_path below (omega (arith, same_list)) in
    let same_link = (others_last child below).0 in
    let same_above : list_above net (nodes_of w) child ≡ list_above net (nodes_of t) child =
    above_is net w child above is_child
    ∙ list_like net u w above (others_last above beside).0 published_last
    ∙ list_like net t u above (others above apart).0 published
    ∙ sym (above_is net t child above is_child)
    in
    let size : ℕ = length (list_above net (nodes_of w) child) in
    let no_longer : backlog net w child ≤ backlog net t child =
    omega (
      arith,
      no_more,
      ap (λ (items : List ℕ). length items) same_above,
      ap (λ (l : SessionLink). length (held l.sender.state.item)) (same_link ∙ its_link),
      ap (λ count. size - count) ((others_last child below).1 ∙ its_count),
    )
    in
    let led : tree_run net t (all_connect by_parent ((child, n) ∷ path)) ≡ w =
    run_append net t (map (at_link child) acts) (all_connect by_parent path)
    in
    subst (λ (last : SessionTree). IsConnected net t ((child, n) ∷ path) last) (sym led) (
      omega (arith, no_longer, rest, longer),
      (
        subst (λ (l : SessionLink). AreOpen l) (sym (same_link ∙ its_link)) open_then,
        subst (λ (l : SessionLink). IsSendersTurn l n) (sym (same_link ∙ its_link)) turn_then,
        may_last,
      ),
      published_last ∙ published,
      λ m (other, beside_m). (
        (others_last m beside_m).0 ∙ (others m other).0,
        (others_last m beside_m).1 ∙ (others m other).1,
      ),
    )

-- so from any state of open ends new connections, and as many passes as there are items, leave none
hands_on_everything_down : (net : Network) (t : SessionTree) (above : ℕ) (path : List PathLink) (by_parent : ℕ → Bool)
    → GoesDown net.tree.parents above path → AllMayConnect t path
    → let after = tree_run net t (all_connect by_parent path ++ passes (backlogs net t path) path) in
    (backlogs net after path ≡ 0) × AllMaySend after path
hands_on_everything_down net t above path by_parent is_path may =
    let k : ℕ = backlogs net t path in
    let u : SessionTree = tree_run net t (all_connect by_parent path) in
    let (no_more, may_then, _, _) = connected net by_parent t above path is_path may in
    let led = run_append net t (all_connect by_parent path) (passes k path) in (
      omega (arith, no_more, fewer_left net u above k path is_path may_then, ap (λ (w : SessionTree). backlogs net w path) led),
      subst (λ (w : SessionTree). AllMaySend w path) (sym led) (still_may_send net u above k path is_path may_then),
    )

-- ---- the same of every path of a tree

pub pass_takes_one : (net : Network) (t : SessionTree) (above : ℕ) (path : List PathLink)
    → IsNetwork net → IsPath net.tree.parents above path → AllMaySend t path
    → let after = tree_run net t (pass path) in
    (backlogs net after path ≤ backlogs net t path - 1) × AllMaySend after path
pass_takes_one net t above path is_network is_path =
    pass_takes_one_down net t above path (goes_down net.tree.parents is_network.tree above path is_path)

pub hands_on_everything : (net : Network) (t : SessionTree) (above : ℕ) (path : List PathLink) (by_parent : ℕ → Bool)
    → IsNetwork net → IsPath net.tree.parents above path → AllMayConnect t path
    → let after = tree_run net t (all_connect by_parent path ++ passes (backlogs net t path) path) in
    (backlogs net after path ≡ 0) × AllMaySend after path
hands_on_everything net t above path by_parent is_network is_path =
    hands_on_everything_down net t above path by_parent (goes_down net.tree.parents is_network.tree above path is_path)
