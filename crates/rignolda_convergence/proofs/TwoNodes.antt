-- A root and an agent meet the premises of the law of reports.
use Rattle.std.proofs.Common.{◌≡◌, ℕ, zero, suc, ◌+◌, ◌*◌, ◌<◌, ◌≤◌, List, [], ◌∷◌, ◌++◌, length, Option, None, Some, false, refl, sym, subst, arith}
use Rattle.std.proofs.lemmas.Option.{none-some, same_Some}
use Rattle.stab_core.specs.Parameters.{AreLawful}
use Rattle.stab_core.specs.CounterExamples.{four_labels}
use Rattle.stab_core.specs.Link.{LinkValue, link_at}
use Rattle.stab_core.specs.Since.{IsBounded}
use Rattle.stab_tree.specs.IsTree.{IsRooted}
use Rattle.stab_tree.specs.Nodes.{parent_at, root_of}
use Rattle.stab_tree.specs.Steps.{Reaches, depth_of}
use Rattle.stab_treecore.specs.Changes.{changes_replay}
use Rattle.stab_treecore.specs.Moment.{fewest_since, garbage_since, missing_since, published_since}
use Rattle.stab_treecore.specs.Since.{IsState, capacity_at, gained, moment}
use Rattle.stab_treecore.specs.WholeTree.{WholeTree, link_into, received}
use Rattle.stab_rounds.specs.Kinds.{reading, rounds_among}
use Rattle.stab_rounds.specs.TreeRounds.{acts_on}
use Rattle.stab_convergence.specs.Meanwhile.{IsEnough}
use Rattle.stab_convergence.specs.PathRounds.{IsPathOpen, IsPathRound, acts_among, rounds_since}
use Rattle.stab_convergence.proofs.Acts.{acts_spare}
use Rattle.rignolda_convergence.specs.AgentTrees.{AllSayNear, FaultsEnd, agents_replay}
use Rattle.rignolda_convergence.specs.Reported.{AreAllNearSince, HasATableAbove, there_since}
use Rattle.rignolda_convergence.specs.ReportExample.{above_report, body_of, five_rounds, old_agent, one_round, root_and_agent, root_publishes, says, stray_comes, stray_link, two_nodes}

abbrev pub s : WholeTree
s = root_and_agent.tree

abbrev pub m : WholeTree
m = changes_replay s (stray_comes ++ root_publishes)

abbrev parents : List (Option ℕ)
parents = None ∷ Some 0 ∷ []

-- ---- the two nodes

only_child : (w parent : ℕ) → parent_at parents w ≡ Some parent → w ≡ 1
only_child zero parent is = absurd (none-some parent is)
only_child (suc zero) parent is = refl
only_child (suc (suc w)) parent is = absurd (none-some parent is)

its_parent : (w parent : ℕ) → parent_at parents w ≡ Some parent → 0 ≡ parent
its_parent zero parent is = absurd (none-some parent is)
its_parent (suc zero) parent is = same_Some 0 parent is
its_parent (suc (suc w)) parent is = absurd (none-some parent is)

rooted : IsRooted parents
rooted = record {
  some_node = omega arith;
  known_parents = λ w p is. subst (λ n. n < 2) (its_parent w p is) (omega arith);
  root_is_node = omega arith;
  root_has_none = refl;
  one_root = alone;
  reaches_root = reaches;
}
  where
    alone : (w : ℕ) → w < 2 → parent_at parents w ≡ None → w ≡ root_of parents
    alone zero within none = refl
    alone (suc zero) within none = absurd (none-some 0 (sym none))
    alone (suc (suc w)) within none = absurd (omega (arith, within))

    reaches : (w : ℕ) → w < 2 → Reaches parents w (root_of parents)
    reaches zero within = (0, refl)
    reaches (suc zero) within = (1, refl)
    reaches (suc (suc w)) within = absurd (omega (arith, within))

-- the tree with this link and these published items
abbrev with_link : List ℕ → LinkValue → WholeTree
with_link published link = record {
  published = published;
  openings = [] ∷ [] ∷ [];
  parents = None ∷ Some 0 ∷ [];
  links = None ∷ Some link ∷ [];
}

only_link : (P : LinkValue → Type 0) (published : List ℕ) (its : LinkValue) → P its → (w : ℕ) (link : LinkValue) → link_into (with_link published its) w ≡ Some link → P link
only_link P published its holds zero link is = absurd (none-some link is)
only_link P published its holds (suc zero) link is = subst P (same_Some its link is) holds
only_link P published its holds (suc (suc w)) link is = absurd (none-some link is)

lawful : AreLawful four_labels
lawful = record { some_capacity = omega arith; small_capacity = omega arith; enough_labels = omega arith; few_labels = omega arith }

is_state : (published : List ℕ) (its : LinkValue) → AreLawful its.params → IsBounded its.params its.state → length its.state.offered ≤ length published → IsState two_nodes (with_link published its)
is_state published its fits bounded short = record {
  is_tree = rooted;
  parents = refl;
  linked = refl;
  bounded = only_link (λ link. AreLawful link.params × IsBounded link.params link.state) published its (fits, bounded);
  within = λ w parent link is there.
      subst (λ p. length link.state.offered ≤ length (received (with_link published its) p)) (its_parent w parent is)
      (only_link (λ l. length l.state.offered ≤ length published) published its short w link there);
}

-- ---- rounds

round_of_it : IsPathRound reading m 1 one_round
round_of_it w parent on is =
    subst (λ v. 1 ≤ rounds_among reading (capacity_at m v) (acts_on v (acts_among one_round))) (sym (only_child w parent is)) (omega arith)

stays_open : IsPathOpen (changes_replay m five_rounds) 1
stays_open zero link on is = absurd (none-some link is)
stays_open (suc zero) link on is = subst (λ (l : LinkValue). l.state.closed ≡ false) (same_Some _ link is) refl
stays_open (suc (suc w)) link on is = absurd (none-some link is)

enough_rounds : rounds_since 1 (moment m) 1 ≤ 5
unfolding depth_of
enough_rounds = omega arith

pub faults_end : FaultsEnd reading 1 two_nodes s (stray_comes ++ root_publishes) five_rounds [] 1
faults_end = record {
  start = is_state [] stray_link lawful (record { lawful = record { frames = omega arith; acks = omega arith }; acked_were_offered = omega arith; one_waits_at_most = omega arith }) (omega arith);
  node_is = omega arith;
  spare = ((λ hit. hit), ((λ hit. hit), acts_spare parents 1 (acts_among (five_rounds ++ []))));
  middle =
      is_state (13 ∷ 14 ∷ 15 ∷ 16 ∷ [])
      (link_at four_labels (record { frames = []; acks = 0 ∷ []; send_label = 0; offered = []; acked = 0; recv_label = 2; delivered = 99 ∷ []; closed = false }))
      lawful (record { lawful = record { frames = omega arith; acks = omega arith }; acked_were_offered = omega arith; one_waits_at_most = omega arith }) (omega arith);
  is_open = stays_open;
  takes = λ w parent on is. omega arith;
  rounds = 5;
  are_rounds = (
    one_round,
    one_round ++ (one_round ++ (one_round ++ (one_round ++ []))),
    refl,
    round_of_it,
    (
      one_round,
      one_round ++ (one_round ++ (one_round ++ [])),
      refl,
      round_of_it,
      (
        one_round,
        one_round ++ (one_round ++ []),
        refl,
        round_of_it,
        (
          one_round,
          one_round ++ [],
          refl,
          round_of_it,
          (one_round, [], refl, round_of_it, tt),
        ),
      ),
    ),
  );
  enough = enough_rounds;
}

-- ---- numbers

there_near : AllSayNear says 1 (garbage_since (moment s) 1)
unfolding depth_of
there_near = ((omega arith, omega arith), tt)

published_near : AllSayNear says 1 (published_since (moment s) (gained s m) 1)
unfolding depth_of
published_near = ((omega arith, omega arith), ((omega arith, omega arith), ((omega arith, omega arith), ((omega arith, omega arith), tt))))

pub all_near : AreAllNearSince says 1 s m 1 old_agent
all_near = record {
  low_is = omega arith;
  number = (omega arith, omega arith);
  floor = (omega arith, omega arith);
  there = there_near;
  published = published_near;
}

-- ---- reports

pub all_came : there_since (moment s) 1 ≤ length (gained s (agents_replay says root_and_agent stray_comes).tree 1)
unfolding depth_of
all_came = omega arith

behind_missing : missing_since (moment s) 1 ≤ 3
unfolding depth_of
behind_missing = omega arith

pub table_above : HasATableAbove says 1 s m 1 ((agents_replay says root_and_agent stray_comes).agents 1).taker (body_of 13 ∷ body_of 14 ∷ body_of 15 ∷ body_of 16 ∷ [])
table_above = record {
  from = 9;
  before = above_report;
  table = record { heard = []; body = body_of 16 };
  more = [];
  published = refl;
  parts = refl;
  is_table = refl;
  enough = behind_missing;
  from_near = ((omega arith, omega arith), omega arith);
  numbered = (refl, (refl, (refl, (refl, tt))));
  heard_near = ((omega arith, omega arith), ((omega arith, omega arith), tt));
  twice = omega arith;
}

for_the_child : fewest_since (moment s) 0 + 2 * capacity_at s 1 + 2 ≤ length (published_since (moment s) (gained s m) 1)
unfolding depth_of
for_the_child = omega arith

pub enough_published : IsEnough s m 1
enough_published w parent on is =
    subst (λ v. fewest_since (moment s) parent + 2 * capacity_at s v + 2 ≤ length (published_since (moment s) (gained s m) 1)) (sym (only_child w parent is))
    (subst (λ p. fewest_since (moment s) p + 2 * capacity_at s 1 + 2 ≤ length (published_since (moment s) (gained s m) 1)) (its_parent w parent is) for_the_child)
