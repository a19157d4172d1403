-- The whole tree of the page without its origins is the whole tree of the schedule, step by step.
use Rattle.std.proofs.Common.{◌≡◌, ℕ, zero, suc, List, [], ◌∷◌, ◌++◌, map, length, get_or, set, Option, Some, None, option_map, option_and_then, refl, ap, sym, subst, ◌∙◌, slice_get, arith}
use Rattle.std.specs.Option.{option_map_or}
use Rattle.std.proofs.lemmas.Grind.{common_steps}
use Rattle.std.proofs.lemmas.List.{map-set}
use mathlib.Core.List.{map-map}
use Rattle.stab_frames.specs.Parameters.{Parameters}
use Rattle.stab_core.specs.declared.event.Event.{Event}
use Rattle.stab_core.specs.Link.{LinkValue}
use Rattle.stab_core.specs.LinkActs.{event_of}
use Rattle.stab_core.specs.LinkSetup.{LinkSetup}
use Rattle.stab_core.specs.Step.{step}
use Rattle.stab_core.specs.Trace.{Traced, traced_step}
use Rattle.stab_core.specs.Tracer.{TracerValue}
use Rattle.stab_tree.specs.NodeOpenings.{OpeningsValue, opening_at}
use Rattle.stab_tree.specs.Nodes.{Nodes, parent_at}
use Rattle.stab_tree.proofs.ForCallers.{map-by_child}
use Rattle.stab_treecore.specs.declared.event.TreeEvent.{TreeEvent}
use Rattle.stab_tree.specs.ByChild.{by_child}
use Rattle.stab_treecore.specs.Network.{Network}
use Rattle.stab_treecore.specs.NodeLaws.{TreeLawAtNodes, most_missing, most_strays, path_garbage}
use Rattle.stab_treecore.specs.TreeLaw.{TreeLaw}
use Rattle.stab_treecore.specs.TreeReplay.{initial_tree, tree_replay}
use Rattle.stab_treecore.specs.TreeStep.{event_on, link_after, next_item, tree_step}
use Rattle.stab_treecore.specs.WholeTree.{link_into, received, source}
use Rattle.stab_page.specs.TracedTree.{TracedTree, event_at, list_above, list_at, next_at, page_network}
use Rattle.stab_page.specs.TracedTree.{traced_after, traced_into, traced_link, traced_initial_tree, traced_tree_replay}
use Rattle.stab_page.specs.TracedTree.{traced_tree_step, untraced, whole}

-- reading a mapped list
pub read_mapped : {A B : Type 0} (f : A → B) (xs : List A) (i : ℕ) (d : A) → get_or (map f xs) i (f d) ≡ f (get_or xs i d)
read_mapped f [] i d = refl
read_mapped f (x ∷ xs) zero d = refl
read_mapped f (x ∷ xs) (suc i) d = read_mapped f xs i d

-- the link into a node, without its origins
link_there : (t : TracedTree) (node : ℕ) → link_into (whole t) node ≡ option_map untraced (traced_into t node)
link_there t node = read_mapped (option_map untraced) t.links node None

-- what a node has, from the link into it
list_of_link : (opening published : List ℕ) (link : Option TracerValue)
    → option_map_or (λ (l : LinkValue). opening ++ l.state.delivered) (option_map untraced link) published
    ≡ option_map_or (λ (l : TracerValue). opening ++ l.traced.state.delivered) link published
list_of_link opening published None = refl
list_of_link opening published (Some link) = refl

pub same_list : (t : TracedTree) (node : ℕ) → received (whole t) node ≡ list_at t node
same_list t node =
    let opening = opening_at t.openings.lists node in
    ap (λ link. option_map_or (λ (l : LinkValue). opening ++ l.state.delivered) link t.published) (link_there t node)
    ∙ list_of_link opening t.published (traced_into t node)

-- what the parent of a node has
list_of_parent : (t : TracedTree) (parent : Option ℕ)
    → option_map_or (λ p. received (whole t) p) parent [] ≡ option_map_or (λ p. list_at t p) parent []
list_of_parent t None = refl
list_of_parent t (Some parent) = same_list t parent

same_above : (t : TracedTree) (child : ℕ) → source (whole t) child ≡ list_above t child
same_above t child = list_of_parent t (parent_at t.parents child)

-- the next item for a link
next_of_link : (above : List ℕ) (link : Option TracerValue)
    → option_and_then (λ (l : LinkValue). slice_get above (length l.state.offered)) (option_map untraced link)
    ≡ option_and_then (λ (l : TracerValue). slice_get above (length l.traced.state.offered)) link
next_of_link above None = refl
next_of_link above (Some link) = refl

same_next : (t : TracedTree) (child : ℕ) → next_item (whole t) child ≡ next_at t child
same_next t child =
    ap (λ link. option_and_then (λ (l : LinkValue). slice_get (source (whole t) child) (length l.state.offered)) link) (link_there t child)
    ∙ ap (λ above. option_and_then (λ (l : LinkValue). slice_get above (length l.state.offered)) (option_map untraced (traced_into t child))) (same_above t child)
    ∙ next_of_link (list_above t child) (traced_into t child)

same_event : (t : TracedTree) (e : TreeEvent) → event_on (whole t) e ≡ event_at t e
same_event t e = ap (event_of e.act) (same_next t e.child)

-- a step with origins goes through the states of the step without
same_state : (p : Parameters) (t : Traced) (e : Event) → (traced_step p t e).state ≡ step p t.state e
same_state p t e = grind (arith, common_steps)

-- a link after an event, without its origins
after_event : (e : Option Event) (link : Option TracerValue)
    → option_map untraced (option_map (traced_after e) link) ≡ option_map (link_after e) (option_map untraced link)
after_event e None = refl
after_event None (Some link) = refl
after_event (Some e) (Some link) =
    ap (λ s. Some (record { params = link.params; state = s })) (same_state link.params link.traced e)

same_step : (t : TracedTree) (e : TreeEvent) → whole (traced_tree_step t e) ≡ tree_step (whole t) e
same_step t e =
    let links : map (option_map untraced) (set t.links e.child (option_map (traced_after (event_at t e)) (traced_into t e.child)))
    ≡ set (map (option_map untraced) t.links) e.child (option_map (link_after (event_on (whole t) e)) (link_into (whole t) e.child)) =
    map-set (option_map untraced) t.links e.child (option_map (traced_after (event_at t e)) (traced_into t e.child))
    ∙ ap (λ link. set (map (option_map untraced) t.links) e.child link)
    (after_event (event_at t e) (traced_into t e.child)
    ∙ ap (λ event. option_map (link_after event) (option_map untraced (traced_into t e.child))) (sym (same_event t e))
    ∙ ap (λ link. option_map (link_after (event_on (whole t) e)) link) (sym (link_there t e.child))) in
    ap (λ (ls : List (Option LinkValue)). record { published = t.published; openings = t.openings.lists; parents = t.parents; links = ls }) links

pub same_replay : (t : TracedTree) (events : List TreeEvent) → whole (traced_tree_replay t events) ≡ tree_replay (whole t) events
same_replay t [] = refl
same_replay t (e ∷ events) =
    same_replay (traced_tree_step t e) events ∙ ap (λ now. tree_replay now events) (same_step t e)

pub same_opening : (tree : Nodes) (openings : OpeningsValue) (links : List LinkSetup) (published : List ℕ)
    → whole (traced_initial_tree tree.parents openings links published) ≡ initial_tree (page_network tree openings links published)
same_opening tree openings links published =
    ap (λ (ls : List (Option LinkValue)). record { published = published; openings = openings.lists; parents = tree.parents; links = ls })
    (map-by_child untraced tree.parents (map traced_link links) ∙ ap (by_child tree.parents) (map-map untraced traced_link links))

-- the law of all nodes speaks of their lists alone
pub law_of_lists : (net : Network) (mine others : ℕ → List ℕ) → ((node : ℕ) → others node ≡ mine node) → TreeLawAtNodes net others
    → TreeLawAtNodes net mine
law_of_lists net mine others same law =
    λ node there.
    subst (λ list. TreeLaw (most_strays net node) (most_missing net node) (path_garbage net node) net.published list) (same node) (law node there)
