-- Where each link of a node's path has acknowledged 2c + 2 items since any state: from then on the
-- node receives exactly what waits on its path, and then what is published.
use Rattle.std.proofs.Common.{◌≡◌, inl, inr, ℕ, zero, suc, ◌<◌, List, [], ◌∷◌, ◌++◌, length, drop, Some, None, option_and_then, refl, ap, ap₂, sym, ◌∙◌, subst, arith, append_assoc}
use mathlib.Core.List.{IsPrefix}
use Rattle.std.specs.Option.{option_map_or}
use Rattle.std.proofs.lemmas.List.{length-drop, nil_from_length}
use Rattle.std.proofs.lemmas.Option.{none-some, same_Some}
use Rattle.stab_core.specs.Link.{LinkValue}
use Rattle.stab_core.proofs.ForCallers.{prefix_of_itself, prefix_of_prefix}
use Rattle.stab_tree.specs.Nodes.{Nodes, parent_at, root_of}
use Rattle.stab_tree.specs.Steps.{Reaches, ancestor}
use Rattle.stab_treecore.specs.WholeTree.{WholeTree, received}
use Rattle.stab_treecore.specs.declared.change.Change.{Change}
use Rattle.stab_treecore.specs.declared.change.Change.TheVariants.{Act, Publish, Restart, Strike}
use Rattle.stab_treecore.specs.Changes.{changes_replay}
use Rattle.stab_treecore.specs.Hits.{Spare, SpareLink}
use Rattle.stab_treecore.specs.Since.{IsState, acked_at, gained}
use Rattle.stab_treecore.proofs.Grown.{prefix_behind}
use Rattle.stab_treecore.proofs.Kept.{none_or_some, OnPath, path_up, Since}
use Rattle.stab_treecore.proofs.NodesSince.{since_spared}
use Rattle.stab_rounds.specs.TreeRounds.{IsHandedOn}
use Rattle.stab_convergence.specs.Exact.{IsExact, IsPathClean, IsWaiting}
use Rattle.stab_convergence.proofs.Settled.{Passes, passes}

-- a link that has handed on all has it all acknowledged
pub all_acked : (t : WholeTree) (w parent : ℕ) → IsHandedOn t w parent → acked_at t w ≡ length (received t parent)
all_acked t w parent (link, there, all, empty) = ap (λ o. option_map_or (λ (l : LinkValue). l.state.acked) o 0) there ∙ all

-- no fault touches a link of a path that none hits
spare_link : (s : WholeTree) (node w parent : ℕ) → OnPath s node w → parent_at s.parents w ≡ Some parent → (changes : List Change)
    → Spare s.parents node changes → SpareLink s.parents w changes
spare_link s node w parent on is_child [] spare = tt
spare_link s node w parent on is_child (Act e ∷ changes) spare = ((λ hit. hit), spare_link s node w parent on is_child changes spare.1)
spare_link s node w parent on is_child (Publish items ∷ changes) spare = ((λ hit. hit), spare_link s node w parent on is_child changes spare.1)
spare_link s node w parent on is_child (Strike child start ∷ changes) spare =
    ((λ at. spare.0 (subst (OnPath s node) (sym at) on)), spare_link s node w parent on is_child changes spare.1)
spare_link s node w parent on is_child (Restart other list ∷ changes) spare = (
  λ touched.
      elim touched [
        | inl at ↦ spare.0 (subst (OnPath s node) (sym at) on)
        | inr above ↦ spare.0 (path_up s node w other on above)
      ],
  spare_link s node w parent on is_child changes spare.1,
)

module _ (tree : Nodes) (s : WholeTree) (is : IsState tree s) (node : ℕ) (is_node : node < length s.parents) (changes : List Change)
    (spare : Spare s.parents node changes) where
  abbrev middle : WholeTree
  middle = changes_replay s changes

  module _ (is_later : IsState tree middle) (clean : IsPathClean s middle node) (later : List Change) (later_spare : Spare middle.parents node later) where
    abbrev end : WholeTree
    end = changes_replay middle later

    same_parents : middle.parents ≡ s.parents
    same_parents = (since_spared tree s changes node is is_node spare).parents_stay

    later_node : node < length middle.parents
    later_node = subst (λ ps. node < length ps) (sym same_parents) is_node

    abbrev On : ℕ → Type 0
    On = OnPath middle node

    to_end : Since middle end On On
    to_end = since_spared tree middle later node is_later later_node later_spare

    link_passes : (w parent : ℕ) → On w → parent_at middle.parents w ≡ Some parent → Passes middle end w parent
    link_passes w parent on is_child =
        let first_on : OnPath s node w = subst (λ ps. Reaches ps node w) same_parents on in
        let first_child : parent_at s.parents w ≡ Some parent = ap (λ ps. parent_at ps w) (sym same_parents) ∙ is_child in
        passes tree s changes later w parent is first_child (spare_link s node w parent first_on first_child changes spare)
        (spare_link s node w parent first_on first_child later (subst (λ ps. Spare ps node later) same_parents later_spare))
        (clean w parent first_on first_child) (to_end.lists_grow parent (path_up middle node w parent on is_child))

    abbrev published : List ℕ
    published = gained middle end (root_of middle.parents)

    -- what a node receives, where these items wait on its path
    record Receives (steps w : ℕ) : Type 0 where
      waiting : List ℕ
      on_path : IsWaiting middle steps w waiting
      at_rest : ((v parent : ℕ) → On v → parent_at middle.parents v ≡ Some parent → IsHandedOn middle v parent) → waiting ≡ []
      in_order : IsPrefix (gained middle end w) (waiting ++ published)
      all : ((v parent : ℕ) → On v → parent_at middle.parents v ≡ Some parent → IsHandedOn end v parent)
          → gained middle end w ≡ waiting ++ published

    -- so down the path
    receives : (steps w : ℕ) → On w → ancestor middle.parents steps w ≡ Some (root_of middle.parents) → Receives steps w
    receives zero w on leads =
        let root : w ≡ root_of middle.parents = same_Some w (root_of middle.parents) leads in
        let none : parent_at middle.parents (root_of middle.parents) ≡ None =
        subst (λ ps. parent_at ps (root_of ps) ≡ None) (sym is_later.parents) is_later.is_tree.root_has_none in
        let same_list : gained middle end w ≡ published = ap (gained middle end) root in
        record {
          waiting = [];
          on_path = (ap (parent_at middle.parents) root ∙ none, refl);
          at_rest = λ rest. refl;
          in_order = subst (IsPrefix (gained middle end w)) same_list (prefix_of_itself (gained middle end w));
          all = λ full. same_list;
        }
    receives (suc steps) w on leads =
        elim (none_or_some (parent_at middle.parents w)) [
          | inl none ↦ absurd (none-some (root_of middle.parents) (sym (ap (λ o. option_and_then (ancestor middle.parents steps) o) none) ∙ leads))
          | inr (parent, is_child) ↦
              let above : Receives steps parent =
              receives steps parent (path_up middle node w parent on is_child)
              (sym (ap (λ o. option_and_then (ancestor middle.parents steps) o) is_child) ∙ leads) in
              let link : Passes middle end w parent = link_passes w parent on is_child in
              let held : List ℕ = drop link.from (received middle parent) in
              record {
                waiting = held ++ above.waiting;
                on_path = (parent, link.from, above.waiting, is_child, omega (arith, link.no_earlier), omega (arith, link.no_later), refl, above.on_path);
                at_rest =
                    λ rest.
                    let acked : acked_at middle w ≡ length (received middle parent) = all_acked middle w parent (rest w parent on is_child) in
                    let none_held : held ≡ [] =
                    nil_from_length held (omega (arith, link.no_earlier, acked, length-drop link.from (received middle parent))) in
                    ap₂ (λ xs ys. xs ++ ys) none_held (above.at_rest rest);
                in_order =
                    subst (IsPrefix (gained middle end w)) (sym (append_assoc held above.waiting published))
                    (prefix_of_prefix (gained middle end w) (held ++ gained middle end parent) (held ++ (above.waiting ++ published)) link.in_order
                    (prefix_behind held (gained middle end parent) (above.waiting ++ published) above.in_order));
                all =
                    λ full.
                    link.all (all_acked end w parent (full w parent on is_child))
                    ∙ (ap (λ xs. held ++ xs) (above.all full) ∙ sym (append_assoc held above.waiting published));
              }
        ]

    reaches : Reaches middle.parents node (root_of middle.parents)
    reaches =
        subst (λ ps. node < length ps → Reaches ps node (root_of ps)) (sym is_later.parents) (is_later.is_tree.reaches_root node) later_node

    pub stays_exact : IsExact middle end node
    stays_exact =
        let has : Receives reaches.0 node = receives reaches.0 node (0, refl) reaches.1 in
        record {
          steps = reaches.0;
          waiting = has.waiting;
          on_path = has.on_path;
          at_rest = has.at_rest;
          in_order = has.in_order;
          all =
              λ full.
              has.all
              (λ w parent on is_child.
              full w parent (subst (λ ps. Reaches ps node w) (sym to_end.parents_stay) on) (ap (λ ps. parent_at ps w) to_end.parents_stay ∙ is_child));
        }
