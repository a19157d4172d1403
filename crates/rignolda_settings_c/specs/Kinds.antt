-- The byte that says a kind of body, as it stands in front of its bytes; 0 where there is none.
use Rattle.std.specs.Prelude.{ℕ}
use Rattle.rignolda_agent.specs.declared.publisher.Next.{Next}
use Rattle.rignolda_agent.specs.declared.publisher.Next.TheVariants.{Nothing, Harmless, Changes}
use Rattle.rignolda_agent.specs.declared.publisher.Next.TheVariants.{Whole}

abbrev pub kind_byte : Next → ℕ
kind_byte Nothing = 0
kind_byte Harmless = 72
kind_byte Changes = 67
kind_byte Whole = 84
