-- What a link is set up with: its parameters, and what it begins with.
-- Example: Parameters for two links and one start make one setup, since `setups` leaves out what
-- one list has more than the other. So a call that takes two lists says of both how long they are.
-- Source: this project's profile.
use Rattle.std.specs.List.{zip}
use Rattle.std.specs.Prelude.{List, map}
use Rattle.stab_frames.specs.Parameters.{AreLawful, Parameters}
use Rattle.stab_core.specs.declared.start.Start.{Start}
use Rattle.stab_core.specs.Replay.{IsLawful}

pub record LinkSetup : Type 0 where
  pub params : Parameters
  pub start : Start

abbrev pub setup : Parameters → Start → LinkSetup
setup params start = record { params = params; start = start }

-- links of these parameters at these starts, one entry of each list for a link; what one list has
-- more than the other is left out
abbrev pub setups : List Parameters → List Start → List LinkSetup
setups params starts = map (λ link. setup link.0 link.1) (zip params starts)

-- the parameters are lawful, and a link of them can begin from the start
abbrev pub CanBegin : LinkSetup → Type 0
CanBegin link = AreLawful link.params × IsLawful link.params link.start
