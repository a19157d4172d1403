use Rattle.std.proofs.Common.{◌∙◌, ◌++◌, List, ℕ, ap, arith, false, refl}
use Rattle.std.specs.Int.{w32, to_be_bytes}
use Rattle.rignolda_wire.specs.Said.{hello, spelling}
use Rattle.rignolda_wire.specs.Seen.{greeted}
use Rattle.rignolda_wire.specs.Writing.{with_text}
use Rattle.rignolda_wire.proofs.Texts.{one_more}
use Rattle.rignolda_wire.proofs.words.put_up.Goals as goal

pub returns-clause-text : goal.returns-clause-text
returns-clause-text c =
    let hello_text : List ℕ = spelling (hello false (greeted c.args.greeting.now)) in
    let count : List ℕ = to_be_bytes w32 c.args.reports in
    let first = c.put_hello-end.ensures in
    c.put.ensures.text ∙ ap (λ (text : List ℕ). with_text c.put_hello-end.new.buffer c.put_hello-end.result text) c.to_be_bytes.ensures
    ∙ one_more c.args.buffer.now c.put_hello-end.new.buffer (with_text c.args.buffer.now 0 (hello_text ++ count)) 0 c.put_hello-end.result hello_text (hello_text ++ count) count
    (omega arith) first.text (omega (arith, first.end)) refl refl
