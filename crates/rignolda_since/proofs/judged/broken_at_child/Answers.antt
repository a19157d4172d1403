use Rattle.std.proofs.Common.{◌≡◌, length, ℕ, List, Some, true, refl, ap, sym, ◌∙◌, arith}
use Rattle.std.proofs.lemmas.Bool.{both_ways, false≢true}
use Rattle.stab_judge.specs.Reports.{acked_at, has_ended}
use Rattle.stab_tree.specs.Nodes.{Nodes, parent_at}
use Rattle.rignolda_since.specs.ObeysSince.{above_since}
use Rattle.rignolda_since.proofs.Parts.{law_of, link_from, link_to}
use Rattle.rignolda_since.proofs.judged.broken_at_child.Goals as goal
use Rattle.rignolda_since.proofs.judged.broken_at_child.Goals.{else-has_ended-via-then-has_ended+else-acked-len, else-has_ended-via-else-has_ended}

pub returns-then-not-obeys_link_law-clause-none : goal.returns-then-not-obeys_link_law-clause-none
returns-then-not-obeys_link_law-clause-none c =
    let net = c.args.judge.now in
    let lists = c.args.lists.now in
    let r = c.args.report.now in
    let child = c.args.child in
    let parent = c.args.parent in
    let counted : acked_at r child ≡ Some c.in-Some.acked = sym c.acked_at.ensures ∙ c.in-Some.is in
    let above_is : c.deref.result.now ≡ above_since lists r child parent = c.deref.ensures.value ∙ c.in_ok-above.ensures in (
      λ yes. absurd (false≢true (sym yes)),
      λ obeys.
          absurd (both_ways _ c.if-not-obeys_link_law.true
          (c.obeys_link_law.ensures.1 (link_to net lists r child parent c.in-Some.acked c.deref.result.now above_is counted obeys.0))),
    )

pub returns-then-not-obeys_link_law-clause-broken : goal.returns-then-not-obeys_link_law-clause-broken
returns-then-not-obeys_link_law-clause-broken c =
    let net = c.args.judge.now in
    let lists = c.args.lists.now in
    let r = c.args.report.now in
    let child = c.args.child in
    let parent = c.args.parent in
    let counted : acked_at r child ≡ Some c.in-Some.acked = sym c.acked_at.ensures ∙ c.in-Some.is in
    let above_is : c.deref.result.now ≡ above_since lists r child parent = c.deref.ensures.value ∙ c.in_ok-above.ensures in (
      parent,
      c.in-Some.acked,
      ap (λ (t : Nodes). parent_at t.parents child) c.requires.same_tree ∙ c.requires.parent,
      counted,
      λ law.
          absurd (both_ways _ c.if-not-obeys_link_law.true
          (c.obeys_link_law.ensures.1 (law_of net lists r child parent c.in-Some.acked c.deref.result.now above_is counted c.in-Some.acked counted law))),
    )

pub returns-clause-none : goal.returns-clause-none
returns-clause-none c =
    let net = c.args.judge.now in
    let lists = c.args.lists.now in
    let r = c.args.report.now in
    let child = c.args.child in
    let parent = c.args.parent in
    let counted : acked_at r child ≡ Some c.in-Some.acked = sym c.acked_at.ensures ∙ c.in-Some.is in
    let above_is : c.deref.result.now ≡ above_since lists r child parent = c.deref.ensures.value ∙ c.in_ok-above.ensures in
    let handed : has_ended r parent ≡ true → acked_at r child ≡ Some (length (above_since lists r child parent)) =
    λ ended. elim c.else-has_ended.branch [
      | else-has_ended-via-then-has_ended+else-acked-len w ↦
          let all : c.in-Some.acked ≡ length (above_since lists r child parent) =
          omega (arith, w.if-acked-len.false, w.len.ensures, ap length c.in_ok-above.ensures) in
          counted ∙ ap Some all
      | else-has_ended-via-else-has_ended w ↦
          absurd (false≢true (sym w.if-has_ended.false ∙ (c.has_ended.ensures ∙ ended)))
    ] in (
      λ _. (
        link_from net lists r child parent c.in-Some.acked c.deref.result.now above_is counted
            (c.obeys_link_law.ensures.0 c.if-not-obeys_link_law.false),
        handed,
      ),
      λ _. refl,
    )
