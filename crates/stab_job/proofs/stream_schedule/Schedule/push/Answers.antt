use Rattle.std.proofs.Common.{◌≡◌, ◌+◌, [], ◌∷◌, ◌++◌, slice_get, Some, refl, sym, ap, ◌∙◌, subst, arith}
use Rattle.stab_job.specs.Steps.{AreKept, KeptSteps, kept_of}
use Rattle.stab_job.proofs.Named.{Looked}
use Rattle.stab_job.proofs.Kept.{one_more_kept}
use Rattle.stab_job.proofs.stream_schedule.Schedule.push.Goals as goal

pub returns : goal.returns
returns c =
    let old : KeptSteps = record { names = c.self.inside.names; count = c.self.inside.count; are_kept = c.self.inside.are_kept; kept = c.self.inside.kept.items } in
    let now : KeptSteps = record { names = c.place.new.self; count = c.self.inside.count + 1; are_kept = c.self.inside.are_kept; kept = c.keep.new.kept.items } in
    let name = c.step.inside.child.now in
    let act = c.step.inside.act in
    let place = c.in-Some.place in
    let grown : Looked old.names name now.names = c.in_ok-place.ensures.grown in
    let found : slice_get now.names place ≡ Some name = rw c.in-Some.is at c.in_ok-place.ensures.place in
    let made = c.in_ok-keep.ensures.kept ∙ ap (λ k. old.kept ++ kept_of old.are_kept (record { child = k; act = act } ∷ [])) c.new.ensures in
    λ _ keeps acts k.
    subst (λ s. AreKept keeps now (acts ++ s ∷ [])) c.step.view_is
    (one_more_kept keeps old now acts name place act grown found (omega arith) refl refl made (subst (λ s. AreKept keeps s acts) (sym c.self.view_is) k))
