-- What the struct means: every bit pattern means something.
use Rattle.std.specs.Prelude.{◌==◌, not}
use Rattle.rignolda_agent.specs.declared.taker.Taker.{Taker as Struct}
use Rattle.rignolda_agent.specs.Takers.{Taker}

abbrev pub taker_of : Struct → Taker
taker_of t = record {
  number = t.number;
  floor = t.floor;
  whole = not (t.whole == 0);
  in_a_round = not (t.in_a_round == 0);
}
