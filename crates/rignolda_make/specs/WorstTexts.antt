-- Worst texts: the text of the worst link job of these parameters.
-- Example: For capacity 1 and 4 labels a text is one if it is read as the job with the start
-- `worst_start 1 900`, which holds the frame of label 2 and item 900 and the acknowledgement 0, and
-- with the twelve events of `worst_events 1 10`, which offer 10, 11, 12 and 13.
-- Source: this project's own; the start and the events are those of the law that the bounds are the
-- least ones.
use Rattle.std.specs.Prelude.{◌≡◌, ℕ, List, Ok}
use Rattle.stab_frames.specs.Parameters.{Parameters}
use Rattle.stab_core.specs.CounterExamples.{worst_events, worst_start}
use Rattle.stab_script.specs.declared.link_job.LinkJob.{LinkJob}
use Rattle.stab_script.specs.LinkJobs.{link_job}

-- the item that the worst job offers first
abbrev pub first_item : ℕ
first_item = 10

-- the first stray of the worst job, which is larger than any item that it offers
abbrev pub first_stray : ℕ
first_stray = 900

-- the reader of link jobs reads this text as the worst job
pub record IsWorstText (p : Parameters) (text : List ℕ) : Type 0 where
  pub job : LinkJob
  pub read : link_job text ≡ Ok job
  pub same_params : job.params ≡ p
  pub same_start : job.start ≡ worst_start p.capacity first_stray
  pub same_events : job.events ≡ worst_events p.capacity first_item
