use Rattle.std.proofs.Common.{◌≡◌, ◌+◌, ◌∙◌, List, [], ◌∷◌, Some, ap, drop, get_or, refl, subst, sym}
use Rattle.std.proofs.lemmas.List.{drop_more}
use Rattle.stab_core.specs.Link.{LinkValue, link_at}
use Rattle.stab_core.specs.Step.{effect, step}
use Rattle.stab_core.specs.declared.event.Event.{Event}
use Rattle.stab_core.specs.declared.event.Event.TheVariants.{Offer}
use Rattle.rignolda_draw.specs.Rows.{row_of, rows_from}
use Rattle.rignolda_draw.specs.Takes.{TakesOn}
use Rattle.rignolda_draw.proofs.Taking.{Continues, begins_here, continues}
use Rattle.rignolda_draw.proofs.walk.take_events.Goals as goal

pub loop-event-init : goal.loop-event-init
loop-event-init g c = (refl, begins_here g.T.TakesRows.HasTaken c.args.to.now (rows_from c.args.link.now.params c.args.link.now.state c.args.events.now))

pub loop-event-preserved : goal.loop-event-preserved
loop-event-preserved g c =
    let H = g.T.TakesRows.HasTaken in
    let link = c.loop-event.link in
    let p = link.params in
    let s = link.state in
    let events = c.args.events.now in
    let i = c.loop-event.event-index in
    let e = get_or events i (Offer 0) in
    let rest = drop (i + 1) events in
    let all = rows_from c.args.link.now.params c.args.link.now.state events in
    let now = c.loop-event.to in
    let after = c.take_event.new.to in
    let stepped : c.take_event.new.link ≡ link_at p (step p s e) = c.in_ok-take_event.ensures.steps in (
      ap (λ (l : LinkValue). l.params) stepped ∙ c.loop-event.invariant.0,
      subst (λ (l : LinkValue). Continues H after (rows_from l.params l.state rest) c.args.to.now all) (sym stepped)
          (continues H now after c.args.to.now (row_of 0 (Some e) (effect p s e) (link_at p (step p s e)) ∷ []) (rows_from p (step p s e) rest) all
          (subst (λ (es : List Event). Continues H now (rows_from p s es) c.args.to.now all)
          (drop_more events i (Offer 0) c.loop-event-test.true) c.loop-event.invariant.1)
          (subst (λ (l : LinkValue). TakesOn H now (row_of 0 (Some e) (effect p s e) l ∷ []) after) stepped c.in_ok-take_event.ensures.row)),
    )
