-- A tree of nodes over connections is a tree of nodes over lines.
use Rattle.std.proofs.Common.{◌≡◌, ℕ, ◌+◌, ◌≤◌, ◌==◌, Bool, true, false, if◌then◌else◌, List, [], ◌∷◌, ◌++◌, slice_get, Some, None, Option, refl, sym, ◌∙◌, ap, subst, eqb-true, eq-eqb}
use Rattle.std.specs.Option.{option_map_or}
use mathlib.Core.Path.{fun_ext}
use Rattle.stab_frames.specs.Parameters.{Parameters}
use Rattle.stab_core.specs.LinkSetup.{CanBegin, LinkSetup}
use Rattle.stab_tree.specs.Nodes.{parent_at}
use Rattle.stab_tree.proofs.ForCallers.{holds_by_child}
use Rattle.stab_treecore.specs.Network.{Network, IsNetwork}
use Rattle.stab_treecore.specs.NodeLaws.{TreeLawAtNodes}
use Rattle.stab_line.specs.Ends.{accepts}
use Rattle.stab_line.specs.Line.{Line, LineAct, line_step, line_run}
use Rattle.stab_line.specs.Edge.{Edge, is_offer, offers_next}
use Rattle.stab_line.specs.NodeTree.{NodeTree, NodeAct, node_step, node_run, list_of, list_above, parameters_into, edge_into, with_edge, put, BeginsInto, TreeBegins}
use Rattle.stab_line.specs.NodeTree as nodes
use Rattle.stab_line.proofs.NodeTrees.{tree_obeys_law}
use Rattle.stab_line.specs.SessionLink.{SessionLink, ConnectionAct, InTurn, connection_step, link_step, item_offered, line_of}
use Rattle.stab_line.specs.SessionTree.{SessionTree, TreeAct, publishes, polls, at_link, nodes_of, offers, acts_at, tree_step, tree_run, AllInTurn}
use Rattle.stab_line.proofs.Turns.{step_in_turn}
use Rattle.stab_line.proofs.SessionLines.{NoOffers, step_is_led}

-- ---- entries at places

pub put_own : {A : Type 0} (entries : ℕ → A) (n : ℕ) → put entries n (entries n) ≡ entries
put_own entries n = fun_ext (λ m. by_same m (m == n) refl)
  where
    by_same : (m : ℕ) (same : Bool) → (m == n) ≡ same → (if same then entries n else entries m) ≡ entries m
    by_same m true same = ap entries (sym (eqb-true m n same))
    by_same m false other = refl

put_twice : {A : Type 0} (entries : ℕ → A) (n : ℕ) (first second : A) → put (put entries n first) n second ≡ put entries n second
put_twice entries n first second = fun_ext (λ m. by_same m (m == n))
  where
    by_same : (m : ℕ) (same : Bool)
        → (if same then second else (if same then first else entries m)) ≡ (if same then second else entries m)
    by_same m true = refl
    by_same m false = refl

put_here : {A : Type 0} (entries : ℕ → A) (n : ℕ) (entry : A) → put entries n entry n ≡ entry
put_here entries n entry = ap (λ same. if same then entry else entries n) (eq-eqb n n refl)

-- the lines of links, one of which is another
put_line : (links : ℕ → SessionLink) (n : ℕ) (link : SessionLink)
    → put (λ m. line_of (links m)) n (line_of link) ≡ (λ m. line_of (put links n link m))
put_line links n link = fun_ext (λ m. by_same m (m == n))
  where
    by_same : (m : ℕ) (same : Bool)
        → (if same then line_of link else line_of (links m)) ≡ line_of (if same then link else links m)
    by_same m true = refl
    by_same m false = refl

-- ---- acts at one line of the tree

pub node_run_append : (net : Network) (t : NodeTree) (first second : List NodeAct)
    → node_run net t (first ++ second) ≡ node_run net (node_run net t first) second
node_run_append net t [] second = refl
node_run_append net t (act ∷ first) second = node_run_append net (node_step net t act) first second

abbrev pub at_lines : ℕ → List LineAct → List NodeAct
at_lines child [] = []
at_lines child (act ∷ acts) = nodes.at_line child act ∷ at_lines child acts

one_line_act : (net : Network) (t : NodeTree) (child : ℕ) (act : LineAct) → is_offer act ≡ false
    → node_step net t (nodes.at_line child act)
    ≡ record t { lines = put t.lines child (line_step (parameters_into net child) (t.lines child) act) }
one_line_act net t child act no_offer =
    let p : Parameters = parameters_into net child in
    let e : Edge = edge_into net t child in
    ap (λ (is : Bool). with_edge t child (if is then e else record e { line = line_step p e.line act })) no_offer
    ∙ ap (λ (counts : ℕ → ℕ). record t { counts = counts; lines = put t.lines child (line_step p (t.lines child) act) })
    (put_own t.counts child)

pub line_acts : (net : Network) (t : NodeTree) (child : ℕ) (acts : List LineAct) → NoOffers acts
    → node_run net t (at_lines child acts)
    ≡ record t { lines = put t.lines child (line_run (parameters_into net child) (t.lines child) acts) }
line_acts net t child [] no_offers = ap (λ (lines : ℕ → Line). record t { lines = lines }) (sym (put_own t.lines child))
line_acts net t child (act ∷ acts) no_offers =
    let p : Parameters = parameters_into net child in
    let l : Line = line_step p (t.lines child) act in
    let one : NodeTree = record t { lines = put t.lines child l } in
    ap (λ s. node_run net s (at_lines child acts)) (one_line_act net t child act no_offers.0)
    ∙ line_acts net one child acts no_offers.1
    ∙ ap (λ (first : Line). record t { lines = put (put t.lines child l) child (line_run p first acts) }) (put_here t.lines child l)
    ∙ ap (λ (lines : ℕ → Line). record t { lines = lines }) (put_twice t.lines child l (line_run p l acts))

-- ---- the acts of the tree

-- some acts lead a tree of nodes from the one state to the other
abbrev pub IsNodeRun : Network → NodeTree → NodeTree → Type 0
IsNodeRun net before after = (acts : List NodeAct) × (node_run net before acts ≡ after)

poll_is_run : (net : Network) (t : SessionTree) (child : ℕ) (next : Option ℕ)
    → with_edge (nodes_of t) child (offers_next (parameters_into net child) (edge_into net (nodes_of t) child) next)
    ≡ nodes_of (offers (parameters_into net child) t child next)
poll_is_run net t child None =
    ap (λ (counts : ℕ → ℕ). record (nodes_of t) { counts = counts; lines = put (λ n. line_of (t.links n)) child (line_of (t.links child)) })
    (put_own t.counts child)
    ∙ ap (λ (lines : ℕ → Line). record (nodes_of t) { lines = lines }) (put_own (λ n. line_of (t.links n)) child)
poll_is_run net t child (Some item) =
    ap (λ (lines : ℕ → Line). record (nodes_of t) {
      counts =
          put t.counts child
          (if accepts (t.links child).sender then t.counts child + 1 else t.counts child);
      lines = lines;
    })
    (put_line t.links child (link_step (parameters_into net child) (t.links child) (item_offered item)))

act_is_run : (net : Network) (t : SessionTree) (child : ℕ) (act : ConnectionAct) (up : Option ℕ)
    → ((parent : ℕ) → up ≡ Some parent → 1 ≤ (parameters_into net child).capacity) → AllInTurn t
    → IsNodeRun net (nodes_of t) (nodes_of (acts_at (parameters_into net child) t child act up))
act_is_run net t child act None holds in_turn = ([], refl)
act_is_run net t child act (Some parent) holds in_turn =
    let p : Parameters = parameters_into net child in
    let led = step_is_led p (t.links child) act (holds parent refl) (in_turn child) in
    let lines : ℕ → Line = λ n. line_of (t.links n) in (
      at_lines child led.acts,
      line_acts net (nodes_of t) child led.acts led.no_offers
          ∙ ap (λ (l : Line). record (nodes_of t) { lines = put lines child l }) led.leads
          ∙ ap (λ (after : ℕ → Line). record (nodes_of t) { lines = after })
          (put_line t.links child (connection_step p (t.links child) act)),
    )

-- every link into a child has room for one message
abbrev pub HaveRoom : Network → Type 0
HaveRoom net = (child parent : ℕ) → parent_at net.tree.parents child ≡ Some parent → 1 ≤ (parameters_into net child).capacity

step_is_run : (net : Network) (t : SessionTree) (act : TreeAct) → HaveRoom net → AllInTurn t
    → IsNodeRun net (nodes_of t) (nodes_of (tree_step net t act))
step_is_run net t (publishes item) holds in_turn = (nodes.publishes item ∷ [], refl)
step_is_run net t (polls child) holds in_turn =
    (nodes.polls child ∷ [], poll_is_run net t child (slice_get (list_above net (nodes_of t) child) (t.counts child)))
step_is_run net t (at_link child act) holds in_turn =
    act_is_run net t child act (parent_at net.tree.parents child) (holds child) in_turn

-- ---- the links stay in turn

put_in_turn : (links : ℕ → SessionLink) (n : ℕ) (link : SessionLink) → ((m : ℕ) → InTurn (links m)) → InTurn link
    → (m : ℕ) → InTurn (put links n link m)
put_in_turn links n link in_turn is m = by_same (m == n)
  where
    by_same : (same : Bool) → InTurn (if same then link else links m)
    by_same true = is
    by_same false = in_turn m

offers_in_turn : (p : Parameters) (t : SessionTree) (child : ℕ) (next : Option ℕ) → AllInTurn t → AllInTurn (offers p t child next)
offers_in_turn p t child None in_turn = in_turn
offers_in_turn p t child (Some item) in_turn =
    put_in_turn t.links child (link_step p (t.links child) (item_offered item)) in_turn (in_turn child)

acts_in_turn : (p : Parameters) (t : SessionTree) (child : ℕ) (act : ConnectionAct) (up : Option ℕ) → AllInTurn t
    → AllInTurn (acts_at p t child act up)
acts_in_turn p t child act None in_turn = in_turn
acts_in_turn p t child act (Some parent) in_turn =
    put_in_turn t.links child (connection_step p (t.links child) act) in_turn (step_in_turn p (t.links child) act (in_turn child))

pub tree_in_turn : (net : Network) (t : SessionTree) (act : TreeAct) → AllInTurn t → AllInTurn (tree_step net t act)
tree_in_turn net t (publishes item) in_turn = in_turn
tree_in_turn net t (polls child) in_turn =
    offers_in_turn (parameters_into net child) t child (slice_get (list_above net (nodes_of t) child) (t.counts child)) in_turn
tree_in_turn net t (at_link child act) in_turn =
    acts_in_turn (parameters_into net child) t child act (parent_at net.tree.parents child) in_turn

-- ---- runs

pub run_is_run : (net : Network) (t : SessionTree) (acts : List TreeAct) → HaveRoom net → AllInTurn t
    → IsNodeRun net (nodes_of t) (nodes_of (tree_run net t acts))
run_is_run net t [] holds in_turn = ([], refl)
run_is_run net t (act ∷ acts) holds in_turn =
    let (first, leads) = step_is_run net t act holds in_turn in
    let (rest, leads_on) = run_is_run net (tree_step net t act) acts holds (tree_in_turn net t act in_turn) in
    (first ++ rest, node_run_append net (nodes_of t) first rest ∙ ap (λ s. node_run net s rest) leads ∙ leads_on)

-- a link that can begin has room
pub have_room : (net : Network) (t : NodeTree) → IsNetwork net → TreeBegins net t → HaveRoom net
have_room net t is_network begins child parent is_child =
    let b : BeginsInto net t child = begins child parent is_child in
    let can_begin : CanBegin b.link = holds_by_child CanBegin net.tree.parents net.links child b.link is_network.can_begin b.leads in
    subst (λ (p : Parameters). 1 ≤ p.capacity)
    (sym (ap (λ o. option_map_or (λ (l : LinkSetup). l.params) o (record { capacity = 0; labels = 0 })) b.leads))
    can_begin.0.some_capacity

-- so each node obeys the tree law
pub session_tree_obeys_law : (net : Network) (before : SessionTree) (acts : List TreeAct) → IsNetwork net
    → TreeBegins net (nodes_of before) → AllInTurn before
    → let after = tree_run net before acts in
    after.published ≡ net.published → TreeLawAtNodes net (list_of net (nodes_of after))
session_tree_obeys_law net before acts is_network begins in_turn all_published =
    let (node_acts, leads) = run_is_run net before acts (have_room net (nodes_of before) is_network begins) in_turn in
    subst (λ (t : NodeTree). TreeLawAtNodes net (list_of net t)) leads
    (tree_obeys_law net (nodes_of before) node_acts is_network begins (ap (λ (t : NodeTree). t.published) leads ∙ all_published))
