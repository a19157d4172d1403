use Rattle.std.proofs.Common.{◌≡◌, ◌∙◌, [], ap, map, string_bytes, subst}
use Rattle.clap.specs.Words.{HasKind, fault_of, is_simple, is_simple_and_free, subcommand_of}
use Rattle.stab_task.proofs.Commands.{free, refused, simple}
use Rattle.stab_task.proofs.command.matches_of.Goals as goal

pub returns-in-Ok-clause-matched : goal.returns-in-Ok-clause-matched
returns-in-Ok-clause-matched c =
    let words = map string_bytes c.args.words.now in
    let line = c.in_ok-command.ensures in
    subst (λ app. fault_of app words ≡ []) line (c.in-Ok.ensures.kinds (ap is_simple_and_free line ∙ free))

pub returns-in-Ok-clause-subcommand : goal.returns-in-Ok-clause-subcommand
returns-in-Ok-clause-subcommand c =
    let words = map string_bytes c.args.words.now in
    let line = c.in_ok-command.ensures in
    (c.in-Ok.ensures.matches (ap is_simple line ∙ simple)).1 ∙ ap (λ app. subcommand_of app words) line

pub returns-in-Err-clause-fault : goal.returns-in-Err-clause-fault
returns-in-Err-clause-fault c =
    let words = map string_bytes c.args.words.now in
    let line = c.in_ok-command.ensures in
    let kinds = c.in-Err.ensures.kinds (ap is_simple_and_free line ∙ free) in
    refused words c.in-Err.error c.refusal.result (subst (λ app. HasKind (fault_of app words) c.in-Err.error) line kinds) c.refusal.ensures.fault
