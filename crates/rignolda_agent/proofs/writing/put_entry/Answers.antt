use Rattle.std.proofs.Common.{arith, ◌∷◌, [], length}
use Rattle.std.proofs.lemmas.List.{length-append}
use Rattle.rignolda_agent.specs.Seen.{setting_of}
use Rattle.rignolda_agent.specs.BodySpelling.{mark, value_bytes}
use Rattle.rignolda_agent.proofs.Texts.{with_three}
use Rattle.rignolda_agent.proofs.writing.put_entry.Goals as goal

pub returns-clause-text : goal.returns-clause-text
returns-clause-text c =
    let s = setting_of c.args.entry.now in
    rw (c.put_value.ensures.text, c.put-at-2.ensures.end, c.put-at-2.ensures.text, c.put-at.ensures.end, c.put-at.ensures.text, c.mark.ensures)
    (with_three c.args.buffer.now c.args.at (mark s.value ∷ length s.key ∷ []) s.key (value_bytes s.value) (omega (arith, c.requires.room, length-append s.key (value_bytes s.value))))
