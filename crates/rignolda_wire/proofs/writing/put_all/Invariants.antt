use Rattle.std.proofs.Common.{◌≡◌, ◌+◌, drop, length, map}
use Rattle.rignolda_wire.specs.Writing.{joined, with_text}
use Rattle.rignolda_wire.proofs.writing.put_all.Given as goal

-- with the texts that are left the buffer comes to what it is to come to
abbrev pub invariant-loop-text : goal.invariant-loop-text
invariant-loop-text l = record {
  text : with_text l.buffer l.at (joined (map (λ text. text.now) (drop l.text-index l.fn.texts))) ≡ with_text l.fn.buffer 0 (joined (map (λ text. text.now) l.fn.texts));
  end : l.at + length (joined (map (λ text. text.now) (drop l.text-index l.fn.texts))) ≡ length (joined (map (λ text. text.now) l.fn.texts));
}
