-- What a node has gained at one moment it has gained later, too, and what is published for it is
-- what the root had for it, and then what the root publishes.
use Rattle.std.proofs.Common.{◌≡◌, ℕ, zero, suc, ◌<◌, List, [], ◌∷◌, ◌++◌, length, drop, Some, refl, sym, ap, subst, ◌∙◌, inl, inr}
use Rattle.std.specs.Option.{option_map_or}
use mathlib.Core.List.{IsPrefix}
use Rattle.stab_tree.specs.IsTree.{IsRooted}
use Rattle.stab_tree.specs.Nodes.{Nodes, parent_at, root_of}
use Rattle.stab_tree.specs.Steps.{Reaches}
use Rattle.stab_tree.proofs.ForCallers.{holds_at_every_depth}
use Rattle.stab_treecore.specs.declared.change.Change.{Change}
use Rattle.stab_treecore.specs.declared.change.Change.TheVariants.{Act, Publish, Restart, Strike}
use Rattle.stab_treecore.specs.Changes.{changes_replay}
use Rattle.stab_treecore.specs.Hits.{Spare}
use Rattle.stab_treecore.specs.Moment.{Moment, published_above, published_since}
use Rattle.stab_treecore.specs.Since.{IsState, gained, moment}
use Rattle.stab_treecore.specs.WholeTree.{WholeTree, received}
use Rattle.stab_treecore.proofs.Grown.{dropped_front, prefix_no_longer}
use Rattle.stab_treecore.proofs.Kept.{Since, Untouched, since_at_first, untouched_since}
use Rattle.stab_treecore.proofs.NodesSince.{since_spared}
use Rattle.stab_convergence.proofs.Acts.{spare_first, spare_later}
use Rattle.rignolda_convergence.specs.Reported.{roots_backlog}

-- ---- lists grow

-- no link, and the lists of a node's path
abbrev NoLink : ℕ → Type 0
NoLink w = ⊥

abbrev OnIts : WholeTree → ℕ → ℕ → Type 0
OnIts s node v = Reaches s.parents node v

module _ (tree : Nodes) (s : WholeTree) (node : ℕ) (is : IsState tree s) (is_node : node < length s.parents) where
  -- after changes that spare the node, other such changes only add to the lists of its path
  module _ (early late : List Change) (spare : Spare s.parents node (early ++ late)) where
    abbrev r : WholeTree
    r = changes_replay s early

    first : Since s r (OnIts s node) (OnIts s node)
    first = since_spared tree s early node is is_node (spare_first s.parents node early late spare)

    left_alone : (changes : List Change) → Spare s.parents node changes → Untouched r NoLink (OnIts s node) (λ w parent off. absurd off) (λ w parent link off. absurd off) changes
    left_alone [] spared = tt
    left_alone (Act e ∷ changes) spared = (spared.0, left_alone changes spared.1)
    left_alone (Publish items ∷ changes) spared = (spared.0, left_alone changes spared.1)
    left_alone (Strike child start ∷ changes) spared = ((λ off. off), left_alone changes spared.1)
    left_alone (Restart other list ∷ changes) spared =
        ((λ touches. elim touches [ inl off ↦ off | inr on ↦ spared.0 on ]), left_alone changes spared.1)

    from_there : Since r (changes_replay r late) NoLink (OnIts s node)
    from_there =
        untouched_since r NoLink (OnIts s node) (λ w parent off. absurd off) (λ w parent link off. absurd off) r late
        (since_at_first r NoLink (OnIts s node) (λ v on none. first.root_alone v on none ∙ ap root_of (sym first.parents_stay)))
        (left_alone late (spare_later s.parents node early late spare))

    -- so what was gained by then is the front of what is gained in the end
    pub gained_more : (v : ℕ) → Reaches s.parents node v → IsPrefix (gained s r v) (gained s (changes_replay r late) v)
    gained_more v on =
        let grown = first.lists_grow v on in
        let (rest, whole) = from_there.lists_grow v on in (
          rest,
          sym (dropped_front (length (received s v)) (received r v) rest (prefix_no_longer (received s v) (received r v) grown))
              ∙ ap (λ xs. drop (length (received s v)) xs) whole,
        )

  -- ---- what is published

  abbrev m : Moment
  m = moment s

  -- a node at a depth, with what its path says
  abbrev Parted : (ℕ → List ℕ) → ℕ → ℕ → Type 0
  Parted g depth w = published_above m g depth w ≡ published_above m (λ other. []) depth w ++ g (root_of s.parents)

  parted_child : (g : ℕ → List ℕ) (depth child parent : ℕ) → parent_at s.parents child ≡ Some parent → Parted g depth parent → Parted g (suc depth) child
  parted_child g zero child parent is_child above = ap (λ xs. xs ++ g (root_of s.parents)) (sym (nothing (m.backlog child)))
    where
      nothing : (xs : List ℕ) → xs ++ [] ≡ xs
      nothing [] = refl
      nothing (x ∷ xs) = ap (λ rest. x ∷ rest) (nothing xs)
  parted_child g (suc depth) child parent is_child above =
      ap (λ o. option_map_or (published_above m g (suc depth)) o []) is_child
      ∙ (above ∙ ap (λ xs. xs ++ g (root_of s.parents)) (sym (ap (λ o. option_map_or (published_above m (λ other. []) (suc depth)) o []) is_child)))

  rooted : IsRooted s.parents
  rooted = subst (λ ps. IsRooted ps) (sym is.parents) is.is_tree

  pub published_parts : (g : ℕ → List ℕ) → published_since m g node ≡ roots_backlog m node ++ g (root_of s.parents)
  published_parts g = holds_at_every_depth s.parents rooted (Parted g) refl (parted_child g) node is_node

  pub root_on_path : Reaches s.parents node (root_of s.parents)
  root_on_path = rooted.reaches_root node is_node
