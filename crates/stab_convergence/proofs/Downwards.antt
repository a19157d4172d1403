-- A schedule that takes a path one link after the other, from the root down. Each link above a
-- chosen one loses its first c + 1 items, the chosen one 2c + 1, and it and each link below put c
-- strays before what they deliver.
use Rattle.std.proofs.Common.{◌≡◌, ◌≢◌, ℕ, zero, suc, ◌+◌, ◌-◌, ◌*◌, ◌<◌, ◌≤◌, inl, inr, List, [], ◌∷◌, ◌++◌, map, length, get_or, replicate, option_map, All, Option, Some, None, refl, sym, ◌∙◌, ap, ap₂, arith, append_assoc, length-append, subst}
use Rattle.std.specs.List.{range_with_len}
use Rattle.std.specs.Option.{option_map_or}
use Rattle.std.proofs.lemmas.Bool.{cases_lt}
use Rattle.std.proofs.lemmas.List.Elements.{All-append, All-from_get_or}
use Rattle.std.proofs.lemmas.List.FromFn.{length-range_with_len, get_or-range_with_len}
use Rattle.std.proofs.lemmas.Option.{same_Some}
use Rattle.stab_frames.specs.Parameters.{Parameters, AreLawful}
use Rattle.stab_core.specs.declared.act.LinkAct.{LinkAct}
use Rattle.stab_core.specs.declared.start.Start.{Start}
use Rattle.stab_core.specs.Link.{LinkValue}
use Rattle.stab_core.specs.LinkSetup.{CanBegin, LinkSetup, setup}
use Rattle.stab_tree.specs.ByChild.{by_child}
use Rattle.stab_tree.specs.Nodes.{parent_at, root_of}
use Rattle.stab_tree.specs.NodeOpenings.{opening_at}
use Rattle.stab_tree.specs.Steps.{ancestor, depth_of}
use Rattle.stab_tree.proofs.ForCallers.{child_is_deeper, holds_by_child, holds_of_every_node, no_link_into, one_by_child, one_step_further}
use Rattle.stab_tree.proofs.Trees.{tree_depths}
use Rattle.stab_treecore.specs.declared.event.TreeEvent.{TreeEvent}
use Rattle.stab_treecore.specs.Network.{IsNetwork, Network, setup_into}
use Rattle.stab_treecore.specs.NodeLaws.{capacity_into, strays_bound}
use Rattle.stab_treecore.specs.Paths.{sum_above}
use Rattle.stab_treecore.specs.SharperLaw.{missing_without_strays}
use Rattle.stab_treecore.specs.TreeReplay.{opened, initial_tree, tree_replay}
use Rattle.stab_treecore.specs.WholeTree.{WholeTree, link_into, received}
use Rattle.stab_convergence.specs.Misses.{counting}
use Rattle.stab_convergence.proofs.FedLink.{fed_replay}
use Rattle.stab_convergence.proofs.StartKinds.{Kind, lossy, worst, strayed, start_of, lost_by, strays_of, acts_of, kind_at, kind_above, kind_chosen, kind_below, passes}
use Rattle.stab_convergence.proofs.PathSums.{depth_steps, one_of_depth, steps_on, sum_grows, sum_of_child}
use Rattle.stab_convergence.proofs.Refitted.{mapped_into, refit, refitted, refitted_into}
use Rattle.stab_convergence.proofs.TreeRuns.{on, run, tree_replay-append}

-- numbers that count up, in two parts
range_parted : (first n m : ℕ) → range_with_len first (n + m) ≡ range_with_len first n ++ range_with_len (first + n) m
range_parted first zero m =
    let f : first ≡ first + zero = omega arith in
    let n : zero + m ≡ m = omega arith in
    ap (range_with_len first) n ∙ ap (λ g. range_with_len g m) f
range_parted first (suc n) m =
    let f : first + 1 + n ≡ first + suc n = omega arith in
    let s : suc n + m ≡ suc (n + m) = omega arith in
    ap (range_with_len first) s
    ∙ ap (λ rest. first ∷ rest) (range_parted (first + 1) n m ∙ ap (λ g. range_with_len (first + 1) n ++ range_with_len g m) f)

-- all of them are above what is below the first
range_beyond : (below first n : ℕ) → below < first → All (λ x. below < x) (range_with_len first n)
range_beyond below first n lower =
    All-from_get_or (λ x. below < x) (range_with_len first n) 0
    (λ i within.
    let is = get_or-range_with_len first n i 0 (omega (arith, within, length-range_with_len first n)) in
    omega (arith, lower, is))

-- a node without an opening
pub nothing_opened : (nodes node : ℕ) → opening_at (replicate nodes []) node ≡ []
nothing_opened zero node = refl
nothing_opened (suc nodes) zero = refl
nothing_opened (suc nodes) (suc node) = nothing_opened nodes node

module _ (net : Network) (is : IsNetwork net) (node : ℕ) (steps child parent : ℕ)
    (leads : ancestor net.tree.parents steps node ≡ Some child) (is_child : parent_at net.tree.parents child ≡ Some parent) where
  abbrev parents : List (Option ℕ)
  parents = net.tree.parents

  -- the depth of the chosen link, and how many items are missing
  abbrev chosen : ℕ
  chosen = depth_of parents child

  abbrev pub missing : ℕ
  missing = missing_without_strays net parent + (2 * capacity_into net child + 1)

  -- the starts of the links
  abbrev pub start : ℕ → Parameters → Start
  start w p = start_of (kind_at chosen (depth_of parents w)) (missing + 1) p

  abbrev pub made : Network
  made = counting net (refitted start 0 parents net.links) missing

  abbrev begun : WholeTree
  begun = initial_tree made

  abbrev lost_above : ℕ → ℕ
  lost_above w = missing_without_strays net w

  -- ---- the links at their starts

  -- the link into a child, whose parameters are lawful
  record Into (w : ℕ) : Type 0 where
    params : Parameters
    lawful : AreLawful params
    capacity : capacity_into net w ≡ params.capacity
    there : link_into begun w ≡ Some (opened (setup params (start w params)))

  into : (w above : ℕ) → parent_at parents w ≡ Some above → Into w
  into w above has =
      let (link, leads_in) = one_by_child parents net.links 0 w above is.one_per_link has in
      let place : 0 + w ≡ w = omega arith in
      let refitted_link : get_or (by_child parents (refitted start 0 parents net.links)) w None ≡ Some (refit start w link) =
      refitted_into start 0 parents net.links w ∙ ap (λ n. option_map (refit start n) (setup_into net w)) place
      ∙ ap (option_map (refit start w)) leads_in in
      record {
        params = link.params;
        lawful = (holds_by_child CanBegin parents net.links w link is.can_begin leads_in).0;
        capacity = ap (λ o. option_map_or (λ (l : LinkSetup). l.params.capacity) o 0) leads_in;
        there = mapped_into opened parents (refitted start 0 parents net.links) w ∙ ap (option_map opened) refitted_link;
      }

  -- ---- the lists on the path

  -- the list of a node: the items that were not lost above the chosen link, and below it strays and
  -- then one item
  record Has (w : ℕ) (list : List ℕ) : Type 0 where
    above : depth_of parents w < chosen → list ≡ range_with_len (lost_above w) (missing + 1 - lost_above w)
    below : chosen ≤ depth_of parents w
        → (strays : List ℕ) × (list ≡ strays ++ missing ∷ []) × (length strays + strays_bound net parent ≡ strays_bound net w)
        × All (λ x. missing < x) strays

  -- what the link into the next node does to the list
  record Next (w : ℕ) (list : List ℕ) : Type 0 where
    kind : Kind
    is_kind : kind_at chosen (depth_of parents w) ≡ kind
    lost : List ℕ
    rest : List ℕ
    parts : list ≡ lost ++ rest
    size : length lost ≡ lost_by kind (capacity_into net w)
    has : Has w (range_with_len (missing + 1) (strays_of kind (capacity_into net w)) ++ rest)

  -- a node of the path
  abbrev OnPath : ℕ → Type 0
  OnPath w = (more : ℕ) × (ancestor parents more node ≡ Some w)

  module _ (w up : ℕ) (has_parent : parent_at parents w ≡ Some up) (on_path : OnPath w) (list : List ℕ) (above : Has up list) where
    abbrev c : ℕ
    c = capacity_into net w

    deeper : depth_of parents w ≡ suc (depth_of parents up)
    deeper = child_is_deeper parents is.tree w up has_parent

    chosen_deeper : chosen ≡ suc (depth_of parents parent)
    chosen_deeper = child_is_deeper parents is.tree child parent is_child

    lost_more : lost_above w ≡ c + 1 + lost_above up
    lost_more = sum_of_child parents is.tree (λ v. capacity_into net v + 1) w up has_parent

    strays_more : strays_bound net w ≡ c + strays_bound net up
    strays_more = sum_of_child parents is.tree (capacity_into net) w up has_parent

    -- above the chosen link less is lost than at it
    lost_less : depth_of parents w < chosen → lost_above w ≤ lost_above parent
    lost_less higher =
        let (more, leads_here) = on_path in
        let depths = depth_steps parents is.tree more node w leads_here in
        let chosen_depths = depth_steps parents is.tree steps node child leads in
        let at_parent = one_step_further parents steps node child parent leads is_child in
        let left : suc steps + (more - suc steps) ≡ more = omega (arith, depths, chosen_depths, higher) in
        sum_grows parents is.tree (λ v. capacity_into net v + 1) (more - suc steps) parent w
        (sym (steps_on parents (suc steps) (more - suc steps) node parent at_parent) ∙ ap (λ n. ancestor parents n node) left ∙ leads_here)

    next_above : depth_of parents w < chosen → Next w list
    next_above higher =
        let less = lost_less higher in
        let is_list : list ≡ range_with_len (lost_above up) (missing + 1 - lost_above up) = above.above (omega (arith, deeper, higher)) in
        let number : missing + 1 - lost_above up ≡ c + 1 + (missing + 1 - lost_above w) = omega (arith, lost_more, less) in
        let place : lost_above up + (c + 1) ≡ lost_above w = omega (arith, lost_more) in
        record {
          kind = lossy;
          is_kind = kind_above chosen (depth_of parents w) higher;
          lost = range_with_len (lost_above up) (c + 1);
          rest = range_with_len (lost_above w) (missing + 1 - lost_above w);
          parts =
              is_list ∙ ap (range_with_len (lost_above up)) number ∙ range_parted (lost_above up) (c + 1) (missing + 1 - lost_above w)
              ∙ ap (λ f. range_with_len (lost_above up) (c + 1) ++ range_with_len f (missing + 1 - lost_above w)) place;
          size = length-range_with_len (lost_above up) (c + 1);
          has = record { above = λ _. refl; below = λ lower. absurd (omega (arith, higher, lower)) };
        }

    next_chosen : depth_of parents w ≡ chosen → Next w list
    next_chosen same =
        let (more, leads_here) = on_path in
        let is_it : w ≡ child = one_of_depth parents is.tree more steps node w child leads_here leads same in
        let its_parent : up ≡ parent = same_Some up parent (sym has_parent ∙ ap (parent_at parents) is_it ∙ is_child) in
        let own : c ≡ capacity_into net child = ap (capacity_into net) is_it in
        let sum : lost_above up ≡ lost_above parent = ap lost_above its_parent in
        let strays_up : strays_bound net up ≡ strays_bound net parent = ap (strays_bound net) its_parent in
        let is_list : list ≡ range_with_len (lost_above up) (missing + 1 - lost_above up) = above.above (omega (arith, deeper, same)) in
        let number : missing + 1 - lost_above up ≡ 2 * c + 1 + 1 = omega (arith, own, sum) in
        let place : lost_above up + (2 * c + 1) ≡ missing = omega (arith, own, sum) in
        record {
          kind = worst;
          is_kind = kind_chosen chosen (depth_of parents w) same;
          lost = range_with_len (lost_above up) (2 * c + 1);
          rest = missing ∷ [];
          parts =
              is_list ∙ ap (range_with_len (lost_above up)) number ∙ range_parted (lost_above up) (2 * c + 1) 1
              ∙ ap (λ f. range_with_len (lost_above up) (2 * c + 1) ++ f ∷ []) place;
          size = length-range_with_len (lost_above up) (2 * c + 1);
          has =
              record {
                above = λ higher. absurd (omega (arith, same, higher));
                below =
                    λ _. (
                      range_with_len (missing + 1) c,
                      refl,
                      omega (arith, length-range_with_len (missing + 1) c, strays_more, strays_up),
                      range_beyond missing (missing + 1) c (omega arith),
                    );
              };
        }

    next_below : chosen < depth_of parents w → Next w list
    next_below lower =
        let (strays, is_list, so_many, beyond) = above.below (omega (arith, deeper, lower)) in
        let own : List ℕ = range_with_len (missing + 1) c in
        record {
          kind = strayed;
          is_kind = kind_below chosen (depth_of parents w) lower;
          lost = [];
          rest = list;
          parts = refl;
          size = refl;
          has =
              record {
                above = λ higher. absurd (omega (arith, lower, higher));
                below =
                    λ _. (
                      own ++ strays,
                      ap (λ l. own ++ l) is_list ∙ sym (append_assoc own strays (missing ∷ [])),
                      omega (arith, length-append own strays, length-range_with_len (missing + 1) c, so_many, strays_more),
                      All-append (λ x. missing < x) own strays (range_beyond missing (missing + 1) c (omega arith)) beyond,
                    );
              };
        }

    next : Next w list
    next =
        elim (cases_lt (depth_of parents w) chosen) [
          | inl higher ↦ next_above higher
          | inr not_higher ↦ elim (cases_lt chosen (depth_of parents w)) [
            | inl lower ↦ next_below lower
            | inr not_lower ↦ next_chosen (omega (arith, not_higher, not_lower))
          ]
        ]

  -- ---- the schedule

  -- a schedule after which the links below a node are still at their starts
  record At (w : ℕ) : Type 0 where
    schedule : List TreeEvent
    parents_stay : (tree_replay begun schedule).parents ≡ parents
    openings_stay : (tree_replay begun schedule).openings ≡ begun.openings
    deeper_stay : (v : ℕ) → depth_of parents w < depth_of parents v → link_into (tree_replay begun schedule) v ≡ link_into begun v
    its_list : Has w (received (tree_replay begun schedule) w)

  at_root : At (root_of parents)
  at_root =
      let root : ℕ = root_of parents in
      let no_link : link_into begun root ≡ None = no_link_into parents (map opened (refitted start 0 parents net.links)) root is.tree.root_has_none in
      let list : received begun root ≡ range_with_len 0 (missing + 1) =
      ap (λ o. option_map_or (λ (l : LinkValue). opening_at begun.openings root ++ l.state.delivered) o begun.published) no_link in
      let shallow = (tree_depths parents is.tree).root_depth in
      let none : lost_above root ≡ 0 = ap (λ d. sum_above parents (λ v. capacity_into net v + 1) d root) shallow in
      let number : missing + 1 ≡ missing + 1 - lost_above root = omega (arith, none) in
      let deep = child_is_deeper parents is.tree child parent is_child in
      record {
        schedule = [];
        parents_stay = refl;
        openings_stay = refl;
        deeper_stay = λ v deeper. refl;
        its_list =
            record {
              above = λ _. list ∙ ap₂ range_with_len (sym none) number;
              below = λ lower. absurd (omega (arith, shallow, deep, lower));
            };
      }

  at_next : (w up : ℕ) → parent_at parents w ≡ Some up → OnPath w → At up → At w
  at_next w up has_parent on_path before =
      let t : WholeTree = tree_replay begun before.schedule in
      let list : List ℕ = received t up in
      let link = into w up has_parent in
      let step = next w up has_parent on_path list before.its_list in
      let deep = child_is_deeper parents is.tree w up has_parent in
      let c : ℕ = capacity_into net w in
      let acts : List LinkAct = acts_of step.kind link.params.capacity (length step.rest) in
      let first : LinkValue = opened (setup link.params (start_of step.kind (missing + 1) link.params)) in
      let there : link_into t w ≡ Some first =
      before.deeper_stay w (omega (arith, deep)) ∙ link.there
      ∙ ap (λ k. Some (opened (setup link.params (start_of k (missing + 1) link.params)))) step.is_kind in
      let apart : up ≢ w = λ same. omega (arith, deep, ap (depth_of parents) same) in
      let ran = run t w up list first acts (ap (λ ps. parent_at ps w) before.parents_stay ∙ has_parent) apart refl there in
      let events : List TreeEvent = on w acts in
      let joined : tree_replay begun (before.schedule ++ events) ≡ tree_replay t events = tree_replay-append begun before.schedule events in
      let after : WholeTree = tree_replay t events in
      let delivered : (fed_replay list first acts).state.delivered ≡ range_with_len (missing + 1) (strays_of step.kind c) ++ step.rest =
      ap (λ l. (fed_replay l first acts).state.delivered) step.parts
      ∙ passes step.kind link.params (missing + 1) link.lawful step.lost step.rest (step.size ∙ ap (lost_by step.kind) link.capacity)
      ∙ ap (λ n. range_with_len (missing + 1) (strays_of step.kind n) ++ step.rest) (sym link.capacity) in
      let now : received after w ≡ range_with_len (missing + 1) (strays_of step.kind c) ++ step.rest =
      ap (λ o. option_map_or (λ (l : LinkValue). opening_at after.openings w ++ l.state.delivered) o after.published) ran.here
      ∙ ap (λ os. opening_at os w ++ (fed_replay list first acts).state.delivered) (ran.openings ∙ before.openings_stay)
      ∙ ap (λ o. o ++ (fed_replay list first acts).state.delivered) (nothing_opened (length parents) w)
      ∙ delivered in
      record {
        schedule = before.schedule ++ events;
        parents_stay = ap (λ s. s.parents) joined ∙ ran.parents ∙ before.parents_stay;
        openings_stay = ap (λ s. s.openings) joined ∙ ran.openings ∙ before.openings_stay;
        deeper_stay =
            λ v deeper.
            ap (λ s. link_into s v) joined
            ∙ ran.others v (λ same. omega (arith, deeper, ap (depth_of parents) same))
            ∙ before.deeper_stay v (omega (arith, deep, deeper));
        its_list = subst (Has w) (sym (ap (λ s. received s w) joined ∙ now)) step.has;
      }

  down : (w : ℕ) → w < length parents → OnPath w → At w
  down =
      holds_of_every_node parents is.tree (λ w. OnPath w → At w) (λ on_path. at_root)
      (λ w up has_parent above on_path.
      let (more, leads_here) = on_path in
      at_next w up has_parent on_path (above (suc more, one_step_further parents more node w up leads_here has_parent)))

  -- so the node has strays and then one item
  pub record Ends : Type 0 where
    pub schedule : List TreeEvent
    pub its_strays : List ℕ
    pub so_many : length its_strays ≡ strays_bound net node - strays_bound net parent
    pub unpublished : All (λ x. missing < x) its_strays
    pub has : received (tree_replay (initial_tree made) schedule) node ≡ its_strays ++ missing ∷ []

  pub ends : node < length parents → Ends
  ends is_node =
      let last = down node is_node (0, refl) in
      let depths = depth_steps parents is.tree steps node child leads in
      let (strays, is_list, so_many, beyond) = last.its_list.below (omega (arith, depths)) in
      record { schedule = last.schedule; its_strays = strays; so_many = omega (arith, so_many); unpublished = beyond; has = is_list }
