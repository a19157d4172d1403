use Rattle.std.proofs.Common.{map, rules, string_bytes}
use Rattle.stab_task.proofs.Commands.{few_words_taken}
use Rattle.std.proofs.lemmas.List.{length-map}
use Rattle.stab_task.proofs.command.parse.Goals as goal

pub returns-then-words-le1-clause-taken : goal.returns-then-words-le1-clause-taken
returns-then-words-le1-clause-taken c =
    let words = map string_bytes c.args.words.now in
    few_words_taken words (rw (length-map c.args.words.now string_bytes) (search rules))
