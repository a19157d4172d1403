-- Reading rounds that are made after changes of a network: they are such rounds of every path, so
-- every node comes back.
use Rattle.std.proofs.Common.{◌≡◌, ℕ, zero, suc, ◌<◌, ◌≤◌, List, [], ◌++◌, length, ap, sym, subst, arith}
use Rattle.std.proofs.lemmas.List.{map-append}
use Rattle.stab_core.specs.LinkLaw.{LinkLaw}
use Rattle.stab_treecore.specs.Network.{IsNetwork, Network}
use Rattle.stab_treecore.specs.TreeReplay.{initial_tree, tree_replay}
use Rattle.stab_treecore.specs.WholeTree.{WholeTree}
use Rattle.stab_treecore.specs.declared.change.Change.{Change}
use Rattle.stab_treecore.specs.declared.change.Change.TheVariants.{Act}
use Rattle.stab_treecore.specs.Changes.{Fit, changes_replay}
use Rattle.stab_treecore.specs.Hits.{Spare}
use Rattle.stab_treecore.specs.Since.{IsState, capacity_at, moment}
use Rattle.stab_treecore.proofs.Contained.{changes-append}
use Rattle.stab_treecore.proofs.Obeying.{ObeysSince}
use Rattle.stab_treecore.proofs.Running.{fit_front}
use Rattle.stab_treecore.proofs.Schedules.{schedule_state}
use Rattle.stab_rounds.specs.Kinds.{reading}
use Rattle.stab_rounds.specs.ReadingRounds.{offer, reading_from}
use Rattle.stab_rounds.specs.TreeRounds.{acts_on, IsOpen}
use Rattle.stab_rounds.specs.TreePlayed.{play_reads, reading_round_from}
use Rattle.stab_rounds.proofs.Plays.{no_close_keeps}
use Rattle.stab_rounds.proofs.PlaysReads.{reads_close_nothing, reads_of_each}
use Rattle.stab_convergence.specs.PathRounds.{acts_among, PathRounds, rounds_since}
use Rattle.stab_convergence.specs.Converged.{HasConverged}
use Rattle.stab_convergence.proofs.Acts.{acts_again, as_changes}
use Rattle.stab_convergence.proofs.Converges.{converges}

-- the rounds that are made are rounds of the path
made_rounds : (m : WholeTree) (node c : ℕ) (rounds : ℕ) → ((w : ℕ) → capacity_at m w ≤ c)
    → PathRounds reading m node rounds (as_changes (play_reads c m.parents rounds))
made_rounds m node c zero small = tt
made_rounds m node c (suc rounds) small = (
  as_changes (reading_round_from c 0 m.parents),
  as_changes (play_reads c m.parents rounds),
  map-append Act (reading_round_from c 0 m.parents) (play_reads c m.parents rounds),
  λ w parent on is_child.
      subst (λ es. 1 ≤ reading_from (capacity_at m w) offer (acts_on w es)) (sym (acts_again (reading_round_from c 0 m.parents)))
      (reads_of_each c (capacity_at m w) m.parents w parent is_child (small w)),
  made_rounds m node c rounds small,
)

pub rounds_converge : ObeysSince LinkLaw → (net : Network) (before after : List Change) (capacity rounds node : ℕ) → IsNetwork net
    → Fit (initial_tree net) (before ++ after)
    → let s = changes_replay (initial_tree net) before in
    let m = changes_replay s after in
    node < length s.parents → Spare s.parents node after → IsOpen m → ((w : ℕ) → capacity_at m w ≤ capacity)
    → rounds_since 1 (moment m) node ≤ rounds → HasConverged s (tree_replay m (play_reads capacity m.parents rounds)) node
rounds_converge obey net before after capacity rounds node is fit is_node spare is_open small enough =
    let t = initial_tree net in
    let s = changes_replay t before in
    let m = changes_replay s after in
    let es = play_reads capacity m.parents rounds in
    let first : IsState net.tree s = (schedule_state net before is (fit_front t before after fit)).is_state in
    let later : IsState net.tree m =
    subst (λ u. IsState net.tree u) (changes-append t before after) (schedule_state net (before ++ after) is fit).is_state in
    let done : tree_replay m (acts_among (as_changes es)) ≡ tree_replay m es = ap (tree_replay m) (acts_again es) in
    let opened : IsOpen (tree_replay m es) = no_close_keeps m es (reads_close_nothing capacity m.parents rounds) is_open in
    subst (λ u. HasConverged s u node) done
    (converges obey reading 1 net.tree s after (as_changes es) [] rounds node first is_node spare later
    (λ w link on there. subst (λ u. IsOpen u) (sym done) opened w link there) (λ w parent on is_child. omega arith) (made_rounds m node capacity rounds small) enough)
