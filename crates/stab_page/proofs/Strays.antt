-- Origins that explain what was delivered have no more strays than the start has frames.
use Rattle.std.proofs.Common.{◌≡◌, ℕ, ◌≤◌, List, [], ◌∷◌, ◌++◌, length, map, refl, ap, arith}
use Rattle.std.proofs.lemmas.List.{length-map}
use Rattle.stab_frames.specs.declared.frame.Frame.{Frame}
use Rattle.stab_core.specs.declared.origin.Origin.{Origin}
use Rattle.stab_core.specs.declared.origin.Origin.TheVariants.{Stray, Sent}
use Rattle.stab_core.specs.declared.start.Start.{Start}
use Rattle.stab_core.specs.Replay.{start_items}
use Rattle.stab_core.specs.Trace.{Explains}
use Rattle.stab_core.proofs.ForCallers.{few_picked, length_picked}
use Rattle.stab_page.specs.Standing.{strays_in}

-- the strays of origins in their order
counted : (strays sent : List ℕ) → strays_in (map Stray strays ++ map Sent sent) ≡ length strays
counted [] [] = refl
counted [] (place ∷ sent) = omega (arith, counted [] sent)
counted (place ∷ strays) sent = omega (arith, counted strays sent)

pub few_strays : (start : Start) (offered : List ℕ) (origins : List Origin) (delivered : List ℕ)
    → Explains (start_items start) offered origins delivered → strays_in origins ≤ length start.frames
few_strays start offered origins delivered e =
    let as_many : strays_in origins ≡ strays_in (map Stray e.stray_places ++ map Sent e.places) = ap strays_in e.in_order in
    omega (
      arith,
      as_many,
      counted e.stray_places e.places,
      length_picked (start_items start) e.stray_places e.strays e.strays_picked,
      few_picked (start_items start) e.stray_places e.strays e.strays_picked,
      length-map start.frames (λ (f : Frame). f.item),
    )
