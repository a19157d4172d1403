use Rattle.std.proofs.Common.{◌≡◌, ◌↔◌, ◌∙◌, ℕ, List, IsTrue, ap, subst}
use Rattle.stab_core.specs.LinkLaw.{SharperLinkLaw}
use Rattle.stab_core.specs.LinkState.{LinkState}
use Rattle.stab_core.specs.Replay.{start_items}
use Rattle.rignolda_verdict.proofs.link_verdicts.obeys_law.Goals as goal

pub returns : goal.returns
returns c =
    let yes = IsTrue c.obeys_sharper_link_law.result in
    let frames = start_items c.args.job.now.start in
    let its = c.args.report.now in
    let capacity = c.capacity.result in
    let offered_is : c.as_slice.result.now ≡ its.offered = c.as_slice.ensures ∙ ap (λ (s : LinkState). s.offered) c.report.view_is in
    let acked_is : c.report.inside.acked ≡ its.acked = ap (λ (s : LinkState). s.acked) c.report.view_is in
    let delivered_is : c.as_slice-2.result.now ≡ its.delivered = c.as_slice-2.ensures ∙ ap (λ (s : LinkState). s.delivered) c.report.view_is in
    subst (λ (n : ℕ). yes ↔ SharperLinkLaw n frames its.offered its.acked its.delivered) c.capacity.ensures.capacity
    (subst (λ (xs : List ℕ). yes ↔ SharperLinkLaw capacity xs its.offered its.acked its.delivered) c.requires
    (subst (λ (xs : List ℕ). yes ↔ SharperLinkLaw capacity c.args.frames.now xs its.acked its.delivered) offered_is
    (subst (λ (n : ℕ). yes ↔ SharperLinkLaw capacity c.args.frames.now c.as_slice.result.now n its.delivered) acked_is
    (subst (λ (xs : List ℕ). yes ↔ SharperLinkLaw capacity c.args.frames.now c.as_slice.result.now c.report.inside.acked xs) delivered_is
    c.obeys_sharper_link_law.ensures))))
