use Rattle.std.proofs.Common.{arith, ap, refl}
use Rattle.std.specs.Prelude.{not, ◌==◌}
use Rattle.std.proofs.lemmas.Bool.{and_from, ne_eqb}
use Rattle.rignolda_agent.specs.Numbers.{furthest, is_newer}
use Rattle.rignolda_agent.proofs.Above.{above_heard}
use Rattle.rignolda_agent.proofs.AheadOfHeard.{table_ahead}
use Rattle.rignolda_agent.proofs.laws.a_table_is_ahead_of_what_was_heard.Goals as goal

pub returns-clause-heard : goal.returns-clause-heard
returns-clause-heard c low from heard before table low_in within bodies run =
    table_ahead low from (furthest from heard) heard before table low_in within bodies (above_heard low from heard low_in within) run

pub returns-clause-none : goal.returns-clause-none
returns-clause-none c number one =
    and_from (is_newer 0 number) _ (and_from (not (number == 0)) _ (ap not (ne_eqb number 0 (λ none. omega (arith, none, one)))) refl) refl
