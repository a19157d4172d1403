use Rattle.std.proofs.Common.{◌≡◌, ℕ, List, ◌++◌, map, Some, sym, ap, subst, ◌∙◌, append_assoc}
use Rattle.std.proofs.lemmas.List.{map-append}
use mathlib.Core.List.{IsPrefix}
use Rattle.stab_tree.specs.Nodes.{root_of}
use Rattle.stab_treecore.specs.Changes.{changes_replay}
use Rattle.stab_treecore.specs.Moment.{garbage_since, missing_since, published_since, strays_since}
use Rattle.stab_treecore.specs.Since.{gained, moment}
use Rattle.stab_treecore.specs.WholeTree.{WholeTree}
use Rattle.rignolda_agent.specs.BodySpelling.{Body}
use Rattle.rignolda_agent.specs.Agents.{tell_all}
use Rattle.rignolda_agent.specs.Items.{hears_items}
use Rattle.rignolda_agent.specs.Rounds.{Rise}
use Rattle.rignolda_convergence.proofs.Complete.{complete_more, replay-append, round_more}
use Rattle.rignolda_convergence.proofs.laws.agents_come_to_the_roots_settings.Goals as goal

pub returns : goal.returns
returns c reading kind each tree start before after later node bodies at_root faults_end round enough =
    let s = start.tree in
    let m = changes_replay s before in
    let t = changes_replay m (after ++ later) in
    let all = c.nodes_converge.ensures kind each tree s before after later faults_end.rounds node faults_end.start faults_end.node_is faults_end.spare faults_end.middle faults_end.is_open faults_end.takes faults_end.are_rounds faults_end.enough in
    let same : t ≡ changes_replay s (before ++ (after ++ later)) = sym (replay-append s before (after ++ later)) in
    let published : List ℕ = published_since (moment s) (gained s m) node in
    let complete = complete_more (strays_since (moment s) node) (missing_since (moment s) node) (garbage_since (moment s) node) published all.front all.later all.complete in
    subst
    (λ (u : WholeTree). (items : List ℕ) × IsPrefix items (gained m u (root_of u.parents))
    × ((since : List Body) → map reading items ≡ map Some since → Rise round.table.number (round.more ++ since)
    → (hears_items reading (start.agents node) (gained s u node)).files ≡ tell_all at_root (bodies ++ since)))
    same (
      all.later,
      all.exact enough,
      λ since reads rise.
          let said : map reading (published ++ all.later) ≡ map Some (bodies ++ since) =
          map-append reading published all.later ∙ ap (λ xs. xs ++ map reading all.later) round.published
          ∙ ap (λ xs. map Some bodies ++ xs) reads ∙ sym (map-append Some bodies since) in
          let parts : bodies ++ since ≡ round.first ++ (round.round ++ since) =
          ap (λ (bs : List Body). bs ++ since) round.parts ∙ append_assoc round.first round.round since in
          ap (λ (xs : List ℕ). (hears_items reading (start.agents node) xs).files) all.parts
          ∙ c.two_rounds_bring_the_roots_settings.ensures reading (strays_since (moment s) node) (missing_since (moment s) node) (garbage_since (moment s) node)
          (published ++ all.later) (all.front ++ all.later) (bodies ++ since) round.first (round.round ++ since) (round.more ++ since) round.table (start.agents node) at_root
          complete said parts (round_more round.round round.more since round.table round.is_round rise) round.enough round.ready round.strays round.older,
    )
