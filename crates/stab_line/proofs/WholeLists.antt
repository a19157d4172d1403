-- Along a path, a tree of whole lists is one whose lists begin where the count does.
use Rattle.std.proofs.Common.{◌≡◌, ◌<◌, ◌+◌, ◌-◌, arith, ℕ, suc, Bool, true, false, if◌then◌else◌, ◌==◌, List, [], ◌∷◌, ◌++◌, length, Option, Some, None, refl, sym, ◌∙◌, ap, ap₂, subst, eqb-true}
use Rattle.std.specs.Option.{option_map_or}
use mathlib.Core.List.{IsPrefix}
use Rattle.stab_core.specs.LinkLaw.{SharperLinkLaw}
use Rattle.stab_frames.specs.Parameters.{Parameters}
use Rattle.stab_tree.specs.Nodes.{parent_at}
use Rattle.stab_tree.specs.NodeOpenings.{opening_at}
use Rattle.stab_tree.specs.Steps.{ancestor}
use Rattle.stab_tree.proofs.ForCallers.{one_step_further}
use Rattle.stab_treecore.specs.Network.{Network, IsNetwork}
use Rattle.stab_treecore.specs.NodeLaws.{TreeLawAtNode}
use Rattle.stab_treecore.specs.SharperLaw.{SharperTreeLawAtNode}
use Rattle.stab_treecore.proofs.Replayed.{ReplaysObey}
use Rattle.stab_frames.specs.declared.frame.Frame.{Frame}
use Rattle.stab_line.specs.Acts.{IsPolled}
use Rattle.stab_line.specs.Ends.{SenderEnd}
use Rattle.stab_line.specs.Line.{Line, LineAct, line_step, after_sending, held, frame_sent}
use Rattle.stab_line.specs.Edge.{Edge, EdgeAct, edge_step, is_offer, child_polled, on_line}
use Rattle.stab_line.specs.NodeTree.{NodeTree, NodeAct, list_of, list_above, parameters_into, edge_into, with_edge, node_step, node_run, BeginsInto}
use Rattle.stab_line.specs.NodeTree.{publishes, polls, at_line}
use Rattle.stab_line.specs.WholeLists.{whole_list, whole_above, whole_edge, whole_step, whole_run, BeginsAt, PathBeginsAt}
use Rattle.stab_line.proofs.Calls.{line_after, put_here}
use Rattle.stab_line.proofs.Places.{with_front, step_past}
use Rattle.stab_line.proofs.NodeTrees.{path_obeys_law, path_obeys_sharper}

-- a tree of whole lists and one whose lists begin with the count, which are alike along the path to
-- a node
record Alike (net : Network) (past : ℕ → List ℕ) (node : ℕ) (whole part : NodeTree) : Type 0 where
  published : whole.published ≡ part.published
  lines : (steps child parent : ℕ) → ancestor net.tree.parents steps node ≡ Some child
      → parent_at net.tree.parents child ≡ Some parent → whole.lines child ≡ part.lines child
  counts : (steps child parent : ℕ) → ancestor net.tree.parents steps node ≡ Some child
      → parent_at net.tree.parents child ≡ Some parent → whole.counts child ≡ length (past parent) + part.counts child

module _ (net : Network) (past : ℕ → List ℕ) (node : ℕ) where
  abbrev parents : List (Option ℕ)
  parents = net.tree.parents

  module _ (whole part : NodeTree) (alike : Alike net past node whole part) where
    list_by : (steps n : ℕ) → ancestor parents steps node ≡ Some n → (up : Option ℕ) → parent_at parents n ≡ up
        → option_map_or (λ parent. opening_at net.openings.lists n ++ (whole.lines n).delivered) up whole.published
        ≡ option_map_or (λ parent. opening_at net.openings.lists n ++ (part.lines n).delivered) up part.published
    list_by steps n leads None is_root = alike.published
    list_by steps n leads (Some parent) is_child =
        ap (λ (l : Line). opening_at net.openings.lists n ++ l.delivered) (alike.lines steps n parent leads is_child)

    -- so the lists on the path are alike
    lists_alike : (steps n : ℕ) → ancestor parents steps node ≡ Some n → list_of net whole n ≡ list_of net part n
    lists_alike steps n leads = list_by steps n leads (parent_at parents n) refl

    module _ (steps child parent : ℕ) (leads : ancestor parents steps node ≡ Some child)
        (is_child : parent_at parents child ≡ Some parent) where
      above_alike : whole_above net past whole child ≡ past parent ++ list_above net part child
      above_alike =
          ap (λ up. option_map_or (whole_list net past whole) up []) is_child
          ∙ ap (λ list. past parent ++ list) (lists_alike (suc steps) parent (one_step_further parents steps node child parent leads is_child))
          ∙ ap (λ list. past parent ++ list) (sym (ap (λ up. option_map_or (list_of net part) up []) is_child))

      edge_alike : whole_edge net past whole child ≡ with_front (past parent) (edge_into net part child)
      edge_alike =
          ap (λ list. record { list = list; count = whole.counts child; line = whole.lines child }) above_alike
          ∙ ap₂ (λ count (line : Line). record { list = past parent ++ list_above net part child; count = count; line = line })
          (alike.counts steps child parent leads is_child) (alike.lines steps child parent leads is_child)

      module _ (place : ℕ) (act : EdgeAct) where
        abbrev of_whole : ℕ → Edge
        of_whole n = edge_step (parameters_into net n) (whole_edge net past whole n) act

        abbrev of_part : ℕ → Edge
        of_part n = edge_step (parameters_into net n) (edge_into net part n) act

        stepped_alike : of_whole child ≡ with_front (past parent) (of_part child)
        stepped_alike =
            ap (λ e. edge_step (parameters_into net child) e act) edge_alike
            ∙ step_past (parameters_into net child) (past parent) (edge_into net part child) act

        line_by : (same : Bool) → (child == place) ≡ same
            → (if same then (of_whole place).line else whole.lines child) ≡ (if same then (of_part place).line else part.lines child)
        line_by true same =
            let here : child ≡ place = eqb-true child place same in
            ap (λ n. (of_whole n).line) (sym here) ∙ ap (λ (e : Edge). e.line) stepped_alike ∙ ap (λ n. (of_part n).line) here
        line_by false other = alike.lines steps child parent leads is_child

        count_by : (same : Bool) → (child == place) ≡ same
            → (if same then (of_whole place).count else whole.counts child)
            ≡ length (past parent) + (if same then (of_part place).count else part.counts child)
        count_by true same =
            let here : child ≡ place = eqb-true child place same in
            ap (λ n. (of_whole n).count) (sym here) ∙ ap (λ (e : Edge). e.count) stepped_alike
            ∙ ap (λ n. length (past parent) + (of_part n).count) here
        count_by false other = alike.counts steps child parent leads is_child

    -- an act at the edge into one child
    at_edge : (place : ℕ) (act : EdgeAct)
        → Alike net past node
        (with_edge whole place (edge_step (parameters_into net place) (whole_edge net past whole place) act))
        (with_edge part place (edge_step (parameters_into net place) (edge_into net part place) act))
    at_edge place act =
        record {
          published = alike.published;
          lines = λ steps child parent leads is_child. line_by steps child parent leads is_child place act (child == place) refl;
          counts = λ steps child parent leads is_child. count_by steps child parent leads is_child place act (child == place) refl;
        }

  one_alike : (whole part : NodeTree) (act : NodeAct) → Alike net past node whole part
      → Alike net past node (whole_step net past whole act) (node_step net part act)
  one_alike whole part (publishes item) alike =
      record {
        published = ap (λ items. items ++ item ∷ []) alike.published;
        lines = alike.lines;
        counts = alike.counts;
      }
  one_alike whole part (polls child) alike = at_edge whole part alike child child_polled
  one_alike whole part (at_line child act) alike = at_edge whole part alike child (on_line act)

  all_alike : (whole part : NodeTree) (acts : List NodeAct) → Alike net past node whole part
      → Alike net past node (whole_run net past whole acts) (node_run net part acts)
  all_alike whole part [] alike = alike
  all_alike whole part (act ∷ acts) alike =
      all_alike (whole_step net past whole act) (node_step net part act) acts (one_alike whole part act alike)

  -- ---- where the count begins

  abbrev had_above : ℕ → List ℕ
  had_above child = option_map_or past (parent_at parents child) []

  -- the tree without what was before
  abbrev part_of : NodeTree → NodeTree
  part_of t = record t { counts = λ child. t.counts child - length (had_above child) }

  module _ (before : NodeTree) (begins : PathBeginsAt net past before node) where
    module _ (steps child parent : ℕ) (leads : ancestor parents steps node ≡ Some child)
        (is_child : parent_at parents child ≡ Some parent) where
      abbrev its : BeginsAt net past before child parent
      its = begins steps child parent leads is_child

      had : length (had_above child) ≡ length (past parent)
      had = ap (λ up. length (option_map_or past up [])) is_child

      counted : before.counts child ≡ length (past parent) + length (held (before.lines child).sender.state.item)
      counted = ap (λ (e : Edge). e.count) its.begins

      begins_into : BeginsInto net (part_of before) child
      begins_into =
          record {
            link = its.link;
            leads = its.leads;
            begins =
                ap₂ (λ count (line : Line). record { list = list_above net before child; count = count; line = line })
                (omega (arith, had, counted)) (ap (λ (e : Edge). e.line) its.begins);
            holds_first =
                subst (λ list. IsPrefix (held (before.lines child).sender.state.item) list)
                (sym (ap (λ up. option_map_or (list_of net before) up []) is_child)) its.holds;
          }

    first_alike : Alike net past node before (part_of before)
    first_alike =
        record {
          published = refl;
          lines = λ steps child parent leads is_child. refl;
          counts = λ steps child parent leads is_child.
              let same = had steps child parent leads is_child in
              let count = counted steps child parent leads is_child in
              omega (arith, same, count);
        }

-- the tree law at one node, where the count of its path begins at places of whole lists
pub whole_obeys_law : (net : Network) (past : ℕ → List ℕ) (before : NodeTree) (acts : List NodeAct) (node : ℕ) → IsNetwork net
    → PathBeginsAt net past before node → node < length net.tree.parents
    → let after = whole_run net past before acts in after.published ≡ net.published → TreeLawAtNode net (list_of net after) node
whole_obeys_law net past before acts node is_network begins is_node all_published =
    let part : NodeTree = part_of net past node before in
    let alike = all_alike net past node before part acts (first_alike net past node before begins) in
    subst (λ items. TreeLawAtNode net (λ _. items) node)
    (sym (lists_alike net past node (whole_run net past before acts) (node_run net part acts) alike 0 node refl))
    (path_obeys_law net part acts node is_network
    (λ steps child parent leads is_child. begins_into net past node before begins steps child parent leads is_child)
    is_node (sym alike.published ∙ all_published))

pub whole_obeys_sharper : ReplaysObey SharperLinkLaw → (net : Network) (past : ℕ → List ℕ) (before : NodeTree) (acts : List NodeAct)
    (node : ℕ) → IsNetwork net → PathBeginsAt net past before node → node < length net.tree.parents
    → let after = whole_run net past before acts in after.published ≡ net.published
    → SharperTreeLawAtNode net (list_of net after) node
whole_obeys_sharper obey net past before acts node is_network begins is_node all_published =
    let part : NodeTree = part_of net past node before in
    let alike = all_alike net past node before part acts (first_alike net past node before begins) in
    subst (λ items. SharperTreeLawAtNode net (λ _. items) node)
    (sym (lists_alike net past node (whole_run net past before acts) (node_run net part acts) alike 0 node refl))
    (path_obeys_sharper obey net part acts node is_network
    (λ steps child parent leads is_child. begins_into net past node before begins steps child parent leads is_child)
    is_node (sym alike.published ∙ all_published))

-- an act on the line into a child is the step of that line
whole_line_acts : (net : Network) (past : ℕ → List ℕ) (t : NodeTree) (child : ℕ) (act : LineAct) → is_offer act ≡ false
    → (whole_step net past t (at_line child act)).lines child ≡ line_step (parameters_into net child) (t.lines child) act
whole_line_acts net past t child act no_offer =
    put_here t.lines child (edge_step (parameters_into net child) (whole_edge net past t child) (on_line act)).line
    ∙ line_after (is_offer act) (parameters_into net child) (whole_edge net past t child) act no_offer

-- a poll of a whole list, and the frame that is sent then
pub whole_poll_acts : (net : Network) (past : ℕ → List ℕ) (t : NodeTree) (child count : ℕ) (after : SenderEnd) (sent : Option Frame)
    → IsPolled (whole_above net past t child) (t.counts child) (t.lines child).sender count after sent
    → let polled = whole_step net past t (polls child) in
    (polled.counts child ≡ count) × ((polled.lines child).sender ≡ after)
    × (((whole_step net past polled (at_line child frame_sent)).lines child).frames
    ≡ after_sending (parameters_into net child) (t.lines child).frames sent)
whole_poll_acts net past t child count after sent is_poll =
    let p : Parameters = parameters_into net child in
    let e : Edge = edge_step p (whole_edge net past t child) child_polled in
    let polled : NodeTree = whole_step net past t (polls child) in
    let (counted, its_sender, frames) = is_poll p (t.lines child) in
    let line : polled.lines child ≡ e.line = put_here t.lines child e.line in (
      put_here t.counts child e.count ∙ counted,
      ap (λ (l : Line). l.sender) line ∙ its_sender,
      ap (λ (l : Line). l.frames) (whole_line_acts net past polled child frame_sent refl)
          ∙ ap (λ (l : Line). (line_step p l frame_sent).frames) line ∙ frames,
    )
