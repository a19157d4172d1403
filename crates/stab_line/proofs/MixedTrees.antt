-- A tree in which each link goes its own way is a tree of nodes over lines.
use Rattle.std.proofs.Common.{◌≡◌, ℕ, ◌+◌, ◌≤◌, ◌==◌, Bool, true, false, if◌then◌else◌, List, [], ◌∷◌, ◌++◌, slice_get, Some, None, Option, refl, sym, ◌∙◌, ap, subst, eqb-true}
use mathlib.Core.Path.{fun_ext}
use Rattle.stab_frames.specs.Parameters.{Parameters}
use Rattle.stab_tree.specs.Nodes.{parent_at}
use Rattle.stab_treecore.specs.Network.{Network, IsNetwork}
use Rattle.stab_treecore.specs.NodeLaws.{TreeLawAtNodes}
use Rattle.stab_line.specs.Edge.{is_offer, offers_next}
use Rattle.stab_line.specs.Ends.{accepts}
use Rattle.stab_line.specs.Line.{Line, LineAct, line_step, offer_item}
use Rattle.stab_line.specs.NodeTree.{NodeTree, TreeBegins, edge_into, list_above, list_of, node_run, parameters_into, put, with_edge}
use Rattle.stab_line.specs.NodeTree as nodes
use Rattle.stab_line.specs.MixedTree.{Way, over_line, over_connections, over_registers, WayAct, on_line, on_connections, on_registers, way_line, way_offered, way_step, is_free, KeepsTurns}
use Rattle.stab_line.specs.MixedTree.{MixedTree, MixedAct, publishes, polls, at_way, nodes_of, offered_at, offers, acts_at, mixed_step, mixed_run, AllKeepTurns}
use Rattle.stab_line.specs.Registers.{Registers, RegisterAct, is_offered, register_step}
use Rattle.stab_line.specs.Registers as registers
use Rattle.stab_line.specs.StartTree.{TreeLawOfStarts}
use Rattle.stab_line.proofs.NodeTrees.{tree_obeys_law}
use Rattle.stab_line.proofs.StartTrees.{tree_obeys_starts}
use Rattle.stab_line.proofs.RegisterLines as of_registers
use Rattle.stab_line.proofs.SessionLines.{Led}
use Rattle.stab_line.proofs.SessionLines as of_connections
use Rattle.stab_line.proofs.SessionTrees.{HaveRoom, IsNodeRun, at_lines, have_room, line_acts, node_run_append}
use Rattle.stab_line.proofs.Turns.{step_in_turn}

-- ---- one link

way_stays : (p : Parameters) (way : Way) → Led p (way_line p way) (way_line p way)
way_stays p way = record { acts = []; no_offers = tt; leads = refl }

line_led : (p : Parameters) (l : Line) (act : LineAct) (offer : Bool) → is_offer act ≡ offer
    → Led p l (if offer then l else line_step p l act)
line_led p l act true is = record { acts = []; no_offers = tt; leads = refl }
line_led p l act false is = record { acts = act ∷ []; no_offers = (is, tt); leads = refl }

registers_led : (p : Parameters) (r : Registers) (act : RegisterAct) (offer : Bool) → is_offered act ≡ offer → 1 ≤ p.capacity
    → Led p (registers.line_of p r) (registers.line_of p (if offer then r else register_step p r act))
registers_led p r act true is holds = way_stays p (over_registers r)
registers_led p r act false is holds = of_registers.step_is_led p r act holds is

way_led : (p : Parameters) (way : Way) (act : WayAct) → 1 ≤ p.capacity → KeepsTurns way
    → Led p (way_line p way) (way_line p (way_step p way act))
way_led p (over_line l) (on_line act) holds keeps = line_led p l act (is_offer act) refl
way_led p (over_line l) (on_connections act) holds keeps = way_stays p (over_line l)
way_led p (over_line l) (on_registers act) holds keeps = way_stays p (over_line l)
way_led p (over_connections t) (on_line act) holds keeps = way_stays p (over_connections t)
way_led p (over_connections t) (on_connections act) holds keeps = of_connections.step_is_led p t act holds keeps
way_led p (over_connections t) (on_registers act) holds keeps = way_stays p (over_connections t)
way_led p (over_registers r) (on_line act) holds keeps = way_stays p (over_registers r)
way_led p (over_registers r) (on_connections act) holds keeps = way_stays p (over_registers r)
way_led p (over_registers r) (on_registers act) holds keeps = registers_led p r act (is_offered act) refl holds

offered_as_line : (p : Parameters) (way : Way) (item : ℕ) → is_free way ≡ true
    → line_step p (way_line p way) (offer_item item) ≡ way_line p (way_offered p way item)
offered_as_line p (over_line l) item free = refl
offered_as_line p (over_connections t) item free = refl
offered_as_line p (over_registers r) item free = sym (of_registers.offers_as_line p r item free)

-- ---- the turns are kept

step_keeps : (p : Parameters) (way : Way) (act : WayAct) → KeepsTurns way → KeepsTurns (way_step p way act)
step_keeps p (over_line l) (on_line act) keeps = tt
step_keeps p (over_line l) (on_connections act) keeps = tt
step_keeps p (over_line l) (on_registers act) keeps = tt
step_keeps p (over_connections t) (on_line act) keeps = keeps
step_keeps p (over_connections t) (on_connections act) keeps = step_in_turn p t act keeps
step_keeps p (over_connections t) (on_registers act) keeps = keeps
step_keeps p (over_registers r) (on_line act) keeps = tt
step_keeps p (over_registers r) (on_connections act) keeps = tt
step_keeps p (over_registers r) (on_registers act) keeps = tt

offered_keeps : (p : Parameters) (way : Way) (item : ℕ) → KeepsTurns way → KeepsTurns (way_offered p way item)
offered_keeps p (over_line l) item keeps = tt
offered_keeps p (over_connections t) item keeps = keeps
offered_keeps p (over_registers r) item keeps = tt

put_keeps : (ways : ℕ → Way) (n : ℕ) (way : Way) → ((m : ℕ) → KeepsTurns (ways m)) → KeepsTurns way
    → (m : ℕ) → KeepsTurns (put ways n way m)
put_keeps ways n way keep is m = by_same (m == n)
  where
    by_same : (same : Bool) → KeepsTurns (if same then way else ways m)
    by_same true = is
    by_same false = keep m

offers_keep : (net : Network) (t : MixedTree) (child : ℕ) (next : Option ℕ) → AllKeepTurns t → AllKeepTurns (offers net t child next)
offers_keep net t child None keep = keep
offers_keep net t child (Some item) keep = by_free (is_free (t.ways child))
  where
    by_free : (free : Bool) → AllKeepTurns (if free then offered_at net t child item else t)
    by_free true =
        put_keeps t.ways child (way_offered (parameters_into net child) (t.ways child) item) keep
        (offered_keeps (parameters_into net child) (t.ways child) item (keep child))
    by_free false = keep

acts_keep : (net : Network) (t : MixedTree) (child : ℕ) (act : WayAct) (up : Option ℕ) → AllKeepTurns t
    → AllKeepTurns (acts_at net t child act up)
acts_keep net t child act None keep = keep
acts_keep net t child act (Some parent) keep =
    put_keeps t.ways child (way_step (parameters_into net child) (t.ways child) act) keep
    (step_keeps (parameters_into net child) (t.ways child) act (keep child))

tree_keeps : (net : Network) (t : MixedTree) (act : MixedAct) → AllKeepTurns t → AllKeepTurns (mixed_step net t act)
tree_keeps net t (publishes item) keep = keep
tree_keeps net t (polls child) keep =
    offers_keep net t child (slice_get (list_above net (nodes_of net t) child) (t.counts child)) keep
tree_keeps net t (at_way child act) keep = acts_keep net t child act (parent_at net.tree.parents child) keep

-- ---- the acts of the tree

-- the lines of links, one of which is another
put_way : (net : Network) (ways : ℕ → Way) (n : ℕ) (way : Way)
    → put (λ m. way_line (parameters_into net m) (ways m)) n (way_line (parameters_into net n) way)
    ≡ (λ m. way_line (parameters_into net m) (put ways n way m))
put_way net ways n way = fun_ext (λ m. by_same m (m == n) refl)
  where
    by_same : (m : ℕ) (same : Bool) → (m == n) ≡ same
        → (if same then way_line (parameters_into net n) way else way_line (parameters_into net m) (ways m))
        ≡ way_line (parameters_into net m) (if same then way else ways m)
    by_same m true same = ap (λ k. way_line (parameters_into net k) way) (sym (eqb-true m n same))
    by_same m false other = refl

poll_led : (net : Network) (t : MixedTree) (child : ℕ) (next : Option ℕ)
    → slice_get (list_above net (nodes_of net t) child) (t.counts child) ≡ next
    → IsNodeRun net (nodes_of net t) (nodes_of net (offers net t child next))
poll_led net t child None is = ([], refl)
poll_led net t child (Some item) is = by_free (is_free (t.ways child)) refl
  where
    by_free : (free : Bool) → is_free (t.ways child) ≡ free
        → IsNodeRun net (nodes_of net t) (nodes_of net (if free then offered_at net t child item else t))
    by_free false busy = ([], refl)
    by_free true free =
        let before : NodeTree = nodes_of net t in
        let way : Way = t.ways child in
        let counts : ℕ → ℕ =
        put t.counts child
        (if accepts (way_line (parameters_into net child) way).sender then t.counts child + 1 else t.counts child)
        in (
          nodes.polls child ∷ [],
          ap (λ (n : Option ℕ). with_edge before child (offers_next (parameters_into net child) (edge_into net before child) n)) is
              ∙ ap (λ (l : Line). record before { counts = counts; lines = put before.lines child l })
              (offered_as_line (parameters_into net child) way item free)
              ∙ ap (λ (lines : ℕ → Line). record before { counts = counts; lines = lines })
              (put_way net t.ways child (way_offered (parameters_into net child) way item)),
        )

act_led : (net : Network) (t : MixedTree) (child : ℕ) (act : WayAct) (up : Option ℕ)
    → ((parent : ℕ) → up ≡ Some parent → 1 ≤ (parameters_into net child).capacity) → AllKeepTurns t
    → IsNodeRun net (nodes_of net t) (nodes_of net (acts_at net t child act up))
act_led net t child act None holds keep = ([], refl)
act_led net t child act (Some parent) holds keep =
    let p : Parameters = parameters_into net child in
    let before : NodeTree = nodes_of net t in
    let led = way_led p (t.ways child) act (holds parent refl) (keep child) in (
      at_lines child led.acts,
      line_acts net before child led.acts led.no_offers
          ∙ ap (λ (l : Line). record before { lines = put before.lines child l }) led.leads
          ∙ ap (λ (lines : ℕ → Line). record before { lines = lines }) (put_way net t.ways child (way_step p (t.ways child) act)),
    )

step_is_run : (net : Network) (t : MixedTree) (act : MixedAct) → HaveRoom net → AllKeepTurns t
    → IsNodeRun net (nodes_of net t) (nodes_of net (mixed_step net t act))
step_is_run net t (publishes item) holds keep = (nodes.publishes item ∷ [], refl)
step_is_run net t (polls child) holds keep =
    poll_led net t child (slice_get (list_above net (nodes_of net t) child) (t.counts child)) refl
step_is_run net t (at_way child act) holds keep = act_led net t child act (parent_at net.tree.parents child) (holds child) keep

run_is_run : (net : Network) (t : MixedTree) (acts : List MixedAct) → HaveRoom net → AllKeepTurns t
    → IsNodeRun net (nodes_of net t) (nodes_of net (mixed_run net t acts))
run_is_run net t [] holds keep = ([], refl)
run_is_run net t (act ∷ acts) holds keep =
    let (first, leads) = step_is_run net t act holds keep in
    let (rest, leads_on) = run_is_run net (mixed_step net t act) acts holds (tree_keeps net t act keep) in
    (first ++ rest, node_run_append net (nodes_of net t) first rest ∙ ap (λ s. node_run net s rest) leads ∙ leads_on)

-- so each node obeys the tree law
pub mixed_tree_obeys_law : (net : Network) (before : MixedTree) (acts : List MixedAct) → IsNetwork net
    → TreeBegins net (nodes_of net before) → AllKeepTurns before
    → let after = mixed_run net before acts in
    after.published ≡ net.published → TreeLawAtNodes net (list_of net (nodes_of net after))
mixed_tree_obeys_law net before acts is_network begins keep all_published =
    let (node_acts, leads) = run_is_run net before acts (have_room net (nodes_of net before) is_network begins) keep in
    subst (λ (t : NodeTree). TreeLawAtNodes net (list_of net t)) leads
    (tree_obeys_law net (nodes_of net before) node_acts is_network begins
    (ap (λ (t : NodeTree). t.published) leads ∙ all_published))

-- with what was under way on each link when the count began as well
pub mixed_tree_obeys_starts : (net : Network) (before : MixedTree) (acts : List MixedAct) → IsNetwork net
    → TreeBegins net (nodes_of net before) → AllKeepTurns before
    → let after = mixed_run net before acts in
    after.published ≡ net.published → TreeLawOfStarts net (list_of net (nodes_of net after))
mixed_tree_obeys_starts net before acts is_network begins keep all_published =
    let (node_acts, leads) = run_is_run net before acts (have_room net (nodes_of net before) is_network begins) keep in
    subst (λ (t : NodeTree). TreeLawOfStarts net (list_of net t)) leads
    (tree_obeys_starts net (nodes_of net before) node_acts is_network begins
    (ap (λ (t : NodeTree). t.published) leads ∙ all_published))
