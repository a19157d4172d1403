use Rattle.std.proofs.Common.{◌≡◌, length, drop}
use Rattle.std.specs.Prelude.{fold}
use Rattle.rignolda_agent.specs.Checksum.{with_byte}
use Rattle.rignolda_agent.proofs.summing.checksum.Given as goal

abbrev pub invariant-loop-rest : goal.invariant-loop-rest
invariant-loop-rest l = fold with_byte l.sum l.rest ≡ fold with_byte 4294967295 l.fn.bytes

abbrev pub decreases-loop-rest : goal.decreases-loop-rest
decreases-loop-rest l = length l.rest

abbrev pub invariant-loop-byte : goal.invariant-loop-byte
invariant-loop-byte l = fold with_byte l.sum (drop l.byte-index l.byte-items) ≡ fold with_byte 4294967295 l.fn.bytes
