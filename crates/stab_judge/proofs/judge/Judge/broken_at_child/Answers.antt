use Rattle.std.proofs.Common.{◌≡◌, ◌++◌, length, Some, None, IsSome, true, refl, ap, sym, ◌∙◌, subst}
use Rattle.std.proofs.lemmas.Bool.{both_ways, false≢true}
use Rattle.std.proofs.lemmas.Bool.Decides.{Decides-eqb}
use Rattle.std.proofs.lemmas.Slice.Eq.{strip_prefix_is}
use Rattle.stab_tree.specs.NodeOpenings.{opening_at}
use Rattle.stab_report.specs.Reports.{received_at, acked_at, has_ended}
use Rattle.stab_judge.proofs.First.{counted_there, law_unbroken, opened_there}
use Rattle.stab_judge.proofs.Parts.{as_above, link_from, link_to, opened, unopened}
use Rattle.stab_judge.proofs.judge.Judge.broken_at_child.Goals as goal
use Rattle.stab_judge.proofs.judge.Judge.broken_at_child.Goals.{else-has_ended-via-then-has_ended+else-acked-above, else-has_ended-via-else-has_ended}

pub returns-in_default-strip_prefix-clause-none : goal.returns-in_default-strip_prefix-clause-none
returns-in_default-strip_prefix-clause-none c =
    let never =
    unopened c.received_at-below.result.now c.opening_at.result.now _ _ c.received_at-below.ensures c.opening_at.ensures
    (strip_prefix_is Decides-eqb c.received_at-below.result.now c.opening_at.result.now None c.in_default-strip_prefix.ensures.cases) in
    (λ yes. absurd (false≢true (sym yes)), λ obeys. absurd (never obeys.0.delivered obeys.0.has))

pub returns-in_default-strip_prefix-clause-broken : goal.returns-in_default-strip_prefix-clause-broken
returns-in_default-strip_prefix-clause-broken c = (
  subst IsSome (sym c.requires.parent) refl,
  unopened c.received_at-below.result.now c.opening_at.result.now _ _ c.received_at-below.ensures c.opening_at.ensures
      (strip_prefix_is Decides-eqb c.received_at-below.result.now c.opening_at.result.now None c.in_default-strip_prefix.ensures.cases),
)

pub returns-then-not-obeys_link_law_into-clause-none : goal.returns-then-not-obeys_link_law_into-clause-none
returns-then-not-obeys_link_law_into-clause-none c =
    let net = c.args.self.now in
    let r = c.args.report.now in
    let child = c.args.child in
    let delivered = c.in-Some-strip_prefix.delivered.now in
    let counted : acked_at r child ≡ Some c.in-Some.acked = sym c.acked_at.ensures ∙ c.in-Some.is in
    let has : received_at r child ≡ opening_at net.openings.lists child ++ delivered =
    opened c.received_at-below.result.now c.opening_at.result.now delivered _ _ c.received_at-below.ensures c.opening_at.ensures
    (strip_prefix_is Decides-eqb c.received_at-below.result.now c.opening_at.result.now (Some c.in-Some-strip_prefix.delivered)
    c.in-Some-strip_prefix.ensures.cases) in (
      λ yes. absurd (false≢true (sym yes)),
      λ obeys.
          absurd (both_ways _ c.if-not-obeys_link_law_into.true
          (c.obeys_link_law_into.ensures.1
          (link_to net r child c.args.parent c.in-Some.acked c.received_at-above.result.now delivered c.received_at-above.ensures counted has obeys.0))),
    )

pub returns-then-not-obeys_link_law_into-clause-whole : goal.returns-then-not-obeys_link_law_into-clause-whole
returns-then-not-obeys_link_law_into-clause-whole c =
    let net = c.args.self.now in
    let r = c.args.report.now in
    let child = c.args.child in
    let delivered = c.in-Some-strip_prefix.delivered.now in
    let has : received_at r child ≡ opening_at net.openings.lists child ++ delivered =
    opened c.received_at-below.result.now c.opening_at.result.now delivered _ _ c.received_at-below.ensures c.opening_at.ensures
    (strip_prefix_is Decides-eqb c.received_at-below.result.now c.opening_at.result.now (Some c.in-Some-strip_prefix.delivered)
    c.in-Some-strip_prefix.ensures.cases) in
    (counted_there net r child c.in-Some.acked (sym c.acked_at.ensures ∙ c.in-Some.is), opened_there net r child delivered has)

pub returns-then-acked-above-clause-whole : goal.returns-then-acked-above-clause-whole
returns-then-acked-above-clause-whole c =
    let net = c.args.self.now in
    let r = c.args.report.now in
    let child = c.args.child in
    let parent = c.args.parent in
    let delivered = c.in-Some-strip_prefix.delivered.now in
    let counted : acked_at r child ≡ Some c.in-Some.acked = sym c.acked_at.ensures ∙ c.in-Some.is in
    let has : received_at r child ≡ opening_at net.openings.lists child ++ delivered =
    opened c.received_at-below.result.now c.opening_at.result.now delivered _ _ c.received_at-below.ensures c.opening_at.ensures
    (strip_prefix_is Decides-eqb c.received_at-below.result.now c.opening_at.result.now (Some c.in-Some-strip_prefix.delivered)
    c.in-Some-strip_prefix.ensures.cases) in (
      counted_there net r child c.in-Some.acked counted,
      opened_there net r child delivered has,
      law_unbroken net r child parent c.requires.parent
          (link_from net r child parent c.in-Some.acked c.received_at-above.result.now delivered c.received_at-above.ensures counted has
          (c.obeys_link_law_into.ensures.0 c.if-not-obeys_link_law_into.false)),
    )

pub returns-then-not-obeys_link_law_into-clause-broken : goal.returns-then-not-obeys_link_law_into-clause-broken
returns-then-not-obeys_link_law_into-clause-broken c =
    let net = c.args.self.now in
    let r = c.args.report.now in
    let child = c.args.child in
    let delivered = c.in-Some-strip_prefix.delivered.now in
    let counted : acked_at r child ≡ Some c.in-Some.acked = sym c.acked_at.ensures ∙ c.in-Some.is in
    let has : received_at r child ≡ opening_at net.openings.lists child ++ delivered =
    opened c.received_at-below.result.now c.opening_at.result.now delivered _ _ c.received_at-below.ensures c.opening_at.ensures
    (strip_prefix_is Decides-eqb c.received_at-below.result.now c.opening_at.result.now (Some c.in-Some-strip_prefix.delivered)
    c.in-Some-strip_prefix.ensures.cases) in (
      c.args.parent,
      c.in-Some.acked,
      delivered,
      c.requires.parent,
      counted,
      has,
      λ law.
          absurd (both_ways _ c.if-not-obeys_link_law_into.true
          (c.obeys_link_law_into.ensures.1
          (as_above net r child c.args.parent c.in-Some.acked c.received_at-above.result.now delivered c.received_at-above.ensures counted has law))),
    )

pub returns-clause-none : goal.returns-clause-none
returns-clause-none c =
    let net = c.args.self.now in
    let r = c.args.report.now in
    let child = c.args.child in
    let parent = c.args.parent in
    let delivered = c.in-Some-strip_prefix.delivered.now in
    let counted : acked_at r child ≡ Some c.in-Some.acked = sym c.acked_at.ensures ∙ c.in-Some.is in
    let has : received_at r child ≡ opening_at net.openings.lists child ++ delivered =
    opened c.received_at-below.result.now c.opening_at.result.now delivered _ _ c.received_at-below.ensures c.opening_at.ensures
    (strip_prefix_is Decides-eqb c.received_at-below.result.now c.opening_at.result.now (Some c.in-Some-strip_prefix.delivered)
    c.in-Some-strip_prefix.ensures.cases) in
    let handed : has_ended r parent ≡ true → acked_at r child ≡ Some (length (received_at r parent)) =
    λ ended. elim c.else-has_ended.branch [
      | else-has_ended-via-then-has_ended+else-acked-above w ↦
          counted ∙ ap Some (w.if-acked-above.false ∙ ap length c.received_at-above.ensures)
      | else-has_ended-via-else-has_ended w ↦
          absurd (false≢true (sym w.if-has_ended.false ∙ (c.has_ended.ensures ∙ ended)))
    ] in (
      λ _. (
        link_from net r child parent c.in-Some.acked c.received_at-above.result.now delivered c.received_at-above.ensures counted has
            (c.obeys_link_law_into.ensures.0 c.if-not-obeys_link_law_into.false),
        handed,
      ),
      λ _. refl,
    )
