use Rattle.std.proofs.Common.{◌≡◌, ◌≤◌, ◌++◌, length, sym, ap, subst, length-append, arith}
use Rattle.stab_treecore.specs.Changes.{changes_replay}
use Rattle.stab_treecore.specs.Moment.{garbage_since, missing_since, published_since, strays_since}
use Rattle.stab_treecore.specs.Since.{gained, moment}
use Rattle.stab_treecore.specs.WholeTree.{WholeTree}
use Rattle.stab_convergence.proofs.Clean.{has_most}
use Rattle.rignolda_convergence.specs.Reported.{there_since}
use Rattle.rignolda_convergence.proofs.Complete.{replay-append}
use Rattle.rignolda_convergence.proofs.report_laws.rounds_bring_as_many_items_as_were_there.Goals as goal

pub returns : goal.returns
returns c kind each tree s before after later node faults_end many =
    let m = changes_replay s before in
    let t = changes_replay m (after ++ later) in
    let same : t ≡ changes_replay s (before ++ (after ++ later)) = sym (replay-append s before (after ++ later)) in
    let all = c.nodes_converge.ensures kind each tree s before after later faults_end.rounds node faults_end.start faults_end.node_is faults_end.spare faults_end.middle faults_end.is_open faults_end.takes faults_end.are_rounds faults_end.enough in
    let most =
    has_most (strays_since (moment s) node) (missing_since (moment s) node) (garbage_since (moment s) node) (published_since (moment s) (gained s m) node) all.front all.complete in
    subst (λ (u : WholeTree). there_since (moment s) node ≤ length (gained s u node)) same
    (omega (arith, many, most, ap length all.parts, length-append all.front all.later))
