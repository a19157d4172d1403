-- A state is reachable from a start when it is the replay of some event list from there.
-- Source: this project's own.
use Rattle.std.specs.Prelude.{◌≡◌, List}
use Rattle.stab_frames.specs.Parameters.{Parameters}
use Rattle.stab_core.specs.declared.event.Event.{Event}
use Rattle.stab_core.specs.declared.start.Start.{Start}
use Rattle.stab_core.specs.LinkState.{LinkState}
use Rattle.stab_core.specs.Replay.{initial, replay}

abbrev pub IsReachable : Parameters → Start → LinkState → Type 0
IsReachable p start s = (events : List Event) × (s ≡ replay p (initial start) events)
