use Rattle.std.proofs.Common.{arith, string_bytes}
use Rattle.std.proofs.lemmas.Result.{IfOk-weaker}
use Rattle.std.proofs.lemmas.Str.{IsUtf8-string_bytes}
use Rattle.serde_json.specs.View.{view}
use Rattle.rignolda_make.proofs.ReadBack.{reads_as}
use Rattle.rignolda_make.proofs.link_job.link_job_text.Goals as goal

pub returns : goal.returns
returns c few =
    let made = c.in_ok-link_job_value.ensures in
    IfOk-weaker c.to_string.result _ _
    (λ text back. reads_as (string_bytes text) (view c.in_ok-link_job_value.field-0) c.args.job.now (IsUtf8-string_bytes text)
    (back (omega (arith, made.flat))) c.capacity-lawful.ensures.lawful made.capacity made.labels made.start made.events few)
    c.to_string.ensures.reads_back
