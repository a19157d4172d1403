-- How the fields of the code that traces a link show its value: there is one origin for each queued
-- frame.
-- Source: this project's own.
use Rattle.std.specs.Prelude.{◌≡◌, length}
use Rattle.stab_core.specs.declared.tracer.Tracer.TheInside.{Inside}
use Rattle.stab_core.specs.Tracer.{TracerValue, tracer_at}

-- the state that the fields show
abbrev pub tracer_view : Inside → TracerValue
tracer_view t =
    tracer_at t.link.params (record {
      state = t.link.state;
      queued = t.queued.entries;
      origins = t.origins.items;
    })

-- there are as many origins as queued frames, and as much room for them
pub record KeepsPace (t : Inside) : Type 0 where
  pub capacity : t.queued.capacity ≡ t.link.params.capacity
  pub pace : length t.queued.entries ≡ length t.link.state.frames
