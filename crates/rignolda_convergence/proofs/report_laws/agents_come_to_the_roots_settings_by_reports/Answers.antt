use Rattle.std.proofs.Common.{◌≡◌, ℕ, List, [], ◌∷◌, ◌++◌, length, map, Some, refl, sym, ap, subst, ◌∙◌, append_assoc, arith}
use Rattle.std.proofs.lemmas.List.{length-map, map-append}
use Rattle.std.specs.List.{AllByRecursion}
use mathlib.Core.List.{IsPrefix}
use Rattle.stab_tree.specs.Nodes.{root_of}
use Rattle.stab_treecore.specs.Changes.{changes_replay}
use Rattle.stab_treecore.specs.Hits.{Spare}
use Rattle.stab_treecore.specs.Moment.{garbage_since, missing_since, published_since, strays_since}
use Rattle.stab_treecore.specs.Since.{gained, moment}
use Rattle.stab_treecore.specs.TreeLaw.{CompleteLaw}
use Rattle.stab_treecore.specs.WholeTree.{WholeTree}
use Rattle.stab_convergence.proofs.Acts.{spare_first}
use Rattle.rignolda_agent.specs.BodySpelling.{Body}
use Rattle.rignolda_agent.specs.Agents.{tell_all}
use Rattle.rignolda_agent.specs.Items.{SaysBehind, hears_items}
use Rattle.rignolda_agent.specs.Reports.{bodies_of}
use Rattle.rignolda_agent.specs.Rounds.{IsNear, Rise}
use Rattle.rignolda_convergence.specs.AgentTrees.{AllSayNear, SaysNear}
use Rattle.rignolda_convergence.specs.Reported.{roots_backlog}
use Rattle.rignolda_convergence.proofs.Above.{all_back, all_front, bodies_both, bodies_near, not_behind_itself, publications_near, read_at}
use Rattle.rignolda_convergence.proofs.Complete.{complete_more, replay-append}
use Rattle.rignolda_convergence.proofs.Grows.{gained_more, published_parts, root_on_path}
use Rattle.rignolda_convergence.proofs.Near.{received_near}
use Rattle.rignolda_convergence.proofs.Near as near
use Rattle.rignolda_convergence.proofs.Shifted.{shifted}
use Rattle.rignolda_convergence.proofs.report_laws.agents_come_to_the_roots_settings_by_reports.Goals as goal

pub returns : goal.returns
returns c reading kind each tree start early late after later node low bodies at_root faults_end all_near many above enough =
    let s = start.tree in
    let is = faults_end.start in
    let is_node = faults_end.node_is in
    let before = early ++ late in
    let r = changes_replay s early in
    let m = changes_replay s before in
    let t = changes_replay m (after ++ later) in
    let root = root_of s.parents in
    let table = above.table.body in
    let first = bodies_of above.before in
    let spare_before = spare_first s.parents node before (after ++ later) faults_end.spare in
    let spare_early = spare_first s.parents node early late spare_before in
    let all = c.nodes_converge.ensures kind each tree s before after later faults_end.rounds node is is_node faults_end.spare faults_end.middle faults_end.is_open faults_end.takes faults_end.are_rounds faults_end.enough in
    let same : t ≡ changes_replay s (before ++ (after ++ later)) = sym (replay-append s before (after ++ later)) in
    -- what came by the report, and then
    let came : List ℕ = gained s r node in
    let whole : changes_replay r (late ++ (after ++ later)) ≡ t =
    sym (replay-append s early (late ++ (after ++ later)))
    ∙ (ap (changes_replay s) (sym (append_assoc early late (after ++ later))) ∙ replay-append s before (after ++ later)) in
    let grown : IsPrefix came (gained s t node) =
    subst (λ (u : WholeTree). IsPrefix came (gained s u node)) whole
    (gained_more tree s node is is_node early (late ++ (after ++ later)) (subst (λ changes. Spare s.parents node changes) (append_assoc early late (after ++ later)) faults_end.spare) node (0, refl)) in
    let rest = grown.0 in
    -- what the root published
    let old : List ℕ = roots_backlog (moment s) node in
    let by_m : List ℕ = gained s m root in
    let parts_m : published_since (moment s) (gained s m) node ≡ old ++ by_m = published_parts tree s node is is_node (gained s m) in
    let parts_r : published_since (moment s) (gained s r) node ≡ old ++ gained s r root = published_parts tree s node is is_node (gained s r) in
    let near_parts : AllSayNear reading low (old ++ by_m) = subst (AllSayNear reading low) parts_m all_near.published in
    let new_near : AllSayNear reading low by_m = all_back (SaysNear reading low) old by_m near_parts in
    let old_near : AllSayNear reading low old = all_front (SaysNear reading low) old by_m near_parts in
    let root_grown : IsPrefix (gained s r root) by_m =
    subst (λ (u : WholeTree). IsPrefix (gained s r root) (gained s u root)) (sym (replay-append s early late))
    (gained_more tree s node is is_node early late spare_before root (root_on_path tree s node is is_node)) in
    let by_r_near : AllSayNear reading low (gained s r root) =
    all_front (SaysNear reading low) (gained s r root) root_grown.0 (subst (AllSayNear reading low) (sym root_grown.1) new_near) in
    let published_near : AllSayNear reading low (published_since (moment s) (gained s r) node) =
    subst (AllSayNear reading low) (sym parts_r) (near.near_behind reading low old (gained s r root) old_near by_r_near) in
    -- so what came is near
    let law = c.tree_law_from_any_state.ensures tree s early node is is_node spare_early in
    let came_near : AllSayNear reading low came =
    received_near reading low (strays_since (moment s) node) (garbage_since (moment s) node) (published_since (moment s) (gained s r) node) came law.0 law.1 all_near.there published_near in
    -- and the table is above it
    let said_near : AllByRecursion (λ b. IsNear low b.number) (bodies_of above.before ++ table ∷ above.more) =
    subst (AllByRecursion (λ b. IsNear low b.number)) above.parts (bodies_near reading low by_m bodies above.published new_near) in
    let table_bodies : first ++ table ∷ above.more ≡ (first ++ table ∷ []) ++ above.more = sym (append_assoc first (table ∷ []) above.more) in
    let up_to : AllByRecursion (λ b. IsNear low b.number) (bodies_of (above.before ++ above.table ∷ [])) =
    subst (AllByRecursion (λ b. IsNear low b.number)) (sym (bodies_both above.before (above.table ∷ [])))
    (all_front (λ b. IsNear low b.number) (first ++ table ∷ []) above.more (subst (AllByRecursion (λ b. IsNear low b.number)) table_bodies said_near)) in
    let (ready, strays, older) =
    c.a_table_is_above_what_was_heard_before_a_report.ensures.above low above.from reading (start.agents node) came above.before above.table
    all_near.low_is all_near.number all_near.floor (near.bodies_near reading low came came_near) above.from_near.0 above.from_near.1
    (publications_near low (above.before ++ above.table ∷ []) above.heard_near up_to) above.numbered above.twice in
    let published : List ℕ = published_since (moment s) (gained s m) node in
    let complete = complete_more (strays_since (moment s) node) (missing_since (moment s) node) (garbage_since (moment s) node) published all.front all.later all.complete in
    let complete_parts : CompleteLaw (strays_since (moment s) node) (missing_since (moment s) node) (garbage_since (moment s) node) (old ++ (by_m ++ all.later)) (came ++ rest) =
    subst (λ xs. CompleteLaw (strays_since (moment s) node) (missing_since (moment s) node) (garbage_since (moment s) node) (old ++ (by_m ++ all.later)) xs)
    (sym all.parts ∙ sym grown.1)
    (subst (λ xs. CompleteLaw (strays_since (moment s) node) (missing_since (moment s) node) (garbage_since (moment s) node) xs (all.front ++ all.later))
    (ap (λ xs. xs ++ all.later) parts_m ∙ append_assoc old by_m all.later) complete) in
    subst
    (λ (u : WholeTree). (items : List ℕ) × IsPrefix items (gained m u (root_of u.parents))
    × ((since : List Body) → map reading items ≡ map Some since → Rise table.number (above.more ++ since)
    → (hears_items reading (start.agents node) (gained s u node)).files ≡ tell_all at_root (bodies ++ since)))
    same (
      all.later,
      all.exact enough,
      λ since reads rise.
          let said : map reading (by_m ++ all.later) ≡ map Some (bodies ++ since) =
          map-append reading by_m all.later ∙ (ap (λ xs. xs ++ map reading all.later) above.published
          ∙ (ap (λ xs. map Some bodies ++ xs) reads ∙ sym (map-append Some bodies since))) in
          let in_parts : bodies ++ since ≡ first ++ table ∷ (above.more ++ since) =
          ap (λ (bs : List Body). bs ++ since) above.parts ∙ append_assoc first (table ∷ above.more) since in
          let at_table = read_at reading (by_m ++ all.later) first (above.more ++ since) table (said ∙ ap (map Some) in_parts) in
          let later_law =
          shifted (SaysBehind reading table.number) (strays_since (moment s) node) (missing_since (moment s) node) (length first) (garbage_since (moment s) node)
          old (by_m ++ all.later) came rest complete_parts many (omega (arith, above.enough, length-map above.before (λ p. p.body))) strays
          (not_behind_itself reading _ table at_table) in
          ap (λ (xs : List ℕ). (hears_items reading (start.agents node) xs).files) (sym grown.1)
          ∙ c.two_rounds_bring_the_roots_settings.ensures reading (length came) (length first) came (by_m ++ all.later) (came ++ rest)
          (bodies ++ since) first (table ∷ (above.more ++ since)) (above.more ++ since) table (start.agents node) at_root
          later_law said in_parts
          (record { before = []; is = refl; is_table = above.is_table; behind = tt; rise = rise })
          (omega arith) ready strays older,
    )
