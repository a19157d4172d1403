-- Drawn trees: the tree of a random job, and the parameters of its links, by the words of a
-- generator.
-- Example: Of 3 nodes with the reach 1 and the root 2, the parents are 2, 0 and nothing, whatever
-- the other words are: the ranks of the nodes are 1, 2 and 0, and each but the root has the node of
-- the rank before its own as its parent.
-- Source: this project's own, over the streams of `rand_core`.
use Rattle.std.specs.Prelude.{ℕ, zero, suc, ◌+◌, ◌-◌, ◌*◌, ◌%◌, ◌==◌, Bool, min, nat_lt, is_none}
use Rattle.std.specs.Prelude.{if◌then◌else◌, List, [], ◌∷◌, ◌++◌, length, Option, Some, None}
use Rattle.std.specs.Prelude.{is_some, slice_index_or, false, ◌&&◌}
use Rattle.std.specs.List.{list_any}
use Rattle.std.specs.Option.{option_map_or}
use Rattle.rand_core.specs.Stream.{Stream, next_u32}
use Rattle.stab_frames.specs.Parameters.{Parameters, fault_of}
use Rattle.rignolda_make.specs.declared.shape.DrawnLink.{DrawnLink}

-- the next word as a number below this one, and the words that are left
unfoldable pub below : ℕ → Stream → ℕ × Stream
below count s = ((next_u32 s).0 % count, (next_u32 s).1)

-- what is drawn for each of the first n places, one after the other, and the words that are left
unfoldable pub pieces : {X : Type 0} → (ℕ → Stream → List X × Stream) → ℕ → Stream
    → List X × Stream
pieces drawn zero s = ([], s)
pieces drawn (suc n) s =
    let before = pieces drawn n s in
    (before.0 ++ (drawn n before.1).0, (drawn n before.1).1)

-- the rank of the node at a place, in a tree with the root at `root`
abbrev pub rank_at : ℕ → ℕ → ℕ → ℕ
rank_at nodes root place = (place + nodes - root) % nodes

-- the parent of a node of this rank: one of the `reach` ranks before its own
abbrev pub parent_of_rank : ℕ → ℕ → ℕ → ℕ → Stream → Option ℕ × Stream
parent_of_rank nodes reach root zero s = (None, s)
parent_of_rank nodes reach root (suc before) s =
    let d = below (min (suc before) reach) s in
    (Some ((before - d.0 + root) % nodes), d.1)

-- the parent of the node at a place
unfoldable pub parent_drawn : ℕ → ℕ → ℕ → ℕ → Stream → List (Option ℕ) × Stream
parent_drawn nodes reach root place s =
    let parent = parent_of_rank nodes reach root (rank_at nodes root place) s in
    (parent.0 ∷ [], parent.1)

-- the parents of that many nodes
unfoldable pub parents_drawn : ℕ → Stream → List (Option ℕ) × Stream
parents_drawn nodes s =
    let reach = below nodes s in
    let root = below nodes reach.1 in
    pieces (parent_drawn nodes (1 + reach.0) root.0) nodes root.1

-- these parameters, where they are lawful, and else those of the job
abbrev pub lawful_or : Parameters → ℕ → ℕ → Parameters
lawful_or of_job capacity labels =
    if is_none (fault_of capacity labels) then record { capacity = capacity; labels = labels }
    else of_job

-- how many labels a link of this capacity has
unfoldable pub labels_drawn : Parameters → Bool → ℕ → Stream → ℕ × Stream
labels_drawn of_job are_drawn capacity s =
    if are_drawn then (2 * capacity + 2 + (below 8 s).0, (below 8 s).1) else (of_job.labels, s)

-- the link into the node at a place: one time in four with the parameters of the job
unfoldable pub link_drawn : Parameters → Bool → ℕ → Stream → DrawnLink × Stream
link_drawn of_job are_drawn child s =
    let own = below 4 s in
    let most = below of_job.capacity own.1 in
    let labels = labels_drawn of_job are_drawn (1 + most.0) most.1 in
    let params =
    if nat_lt 0 own.0 then lawful_or of_job (1 + most.0) labels.0 else of_job in
    (record { child = child; params = params; are_own = nat_lt 0 own.0 }, labels.1)

-- the link into the node at a place, where it has a parent
unfoldable pub link_if_child : Parameters → Bool → List (Option ℕ) → ℕ → Stream
    → List DrawnLink × Stream
link_if_child of_job are_drawn parents place s =
    if is_some (slice_index_or parents place None)
    then ((link_drawn of_job are_drawn place s).0 ∷ [], (link_drawn of_job are_drawn place s).1)
    else ([], s)

-- the links of a tree with these parents, in the file order of their children
unfoldable pub links_drawn : Parameters → Bool → List (Option ℕ) → Stream → List DrawnLink × Stream
links_drawn of_job are_drawn parents s =
    pieces (link_if_child of_job are_drawn parents) (length parents) s

-- the node at a place has a parent, and is one
abbrev pub is_inner : List (Option ℕ) → ℕ → Bool
is_inner parents place =
    is_some (slice_index_or parents place None)
    && list_any (λ parent. option_map_or (λ its_parent. its_parent == place) parent false) parents

-- the link at a place
abbrev pub link_at : List DrawnLink → ℕ → DrawnLink
link_at links place =
    slice_index_or links place
    (record { child = 0; params = record { capacity = 1; labels = 4 }; are_own = false })
