-- To apply what waits, merged, is to be told all of it.
use mathlib.Core.Path.{fun_ext}
use Rattle.std.proofs.Common.{◌≡◌, ℕ, Bool, true, false, List, [], ◌∷◌, Option, Some, None, refl, ◌∙◌, ap}
use Rattle.std.specs.Prelude.{if◌then◌else◌, ◌==◌}
use Rattle.std.specs.List.{fold}
use Rattle.stab_settings.specs.Tables.{Setting, Table, set_key, empty_table}
use Rattle.rignolda_agent.specs.declared.publisher.Next.{Next}
use Rattle.rignolda_agent.specs.declared.publisher.Next.TheVariants.{Nothing, Harmless, Changes, Whole}
use Rattle.rignolda_agent.specs.Waiting.{Body, Waiting, after_all_came, after_coming, applied, put, told, told_all, value_if}

put_if : (b : Bool) (value before : Option ℕ) (waits : Option (Option ℕ))
    → value_if (if b then Some value else waits) before ≡ (if b then value else value_if waits before)
put_if true value before waits = refl
put_if false value before waits = refl

-- settings that are put in the place of what waits set their keys
puts : (change : ℕ → Option (Option ℕ)) (table : Table) (settings : List Setting)
    → (λ (key : ℕ). value_if (fold put change settings key) (table key)) ≡ fold set_key (λ key. value_if (change key) (table key)) settings
puts change table [] = refl
puts change table (s ∷ settings) =
    puts (put change s) table settings
    ∙ ap (λ (t : Table). fold set_key t settings) (fun_ext (λ key. put_if (key == s.key) s.value (table key) (change key)))

one_came : (kind : Next) (w : Waiting) (table : Table) (settings : List Setting)
    → applied (after_coming w kind settings) table ≡ told kind (applied w table) settings
one_came Nothing w table settings = refl
one_came Harmless w table settings = refl
one_came Changes w table settings = puts w.change (λ key. if w.whole then None else table key) settings
one_came Whole w table settings = puts (λ key. None) empty_table settings

all_came : (w : Waiting) (bodies : List Body) (table : Table) → applied (after_all_came w bodies) table ≡ told_all (applied w table) bodies
all_came w [] table = refl
all_came w (body ∷ bodies) table =
    all_came (after_coming w body.kind body.settings) bodies table
    ∙ ap (λ t. told_all t bodies) (one_came body.kind w table body.settings)

pub each_key : (w : Waiting) (bodies : List Body) (table : Table) (key : ℕ) → applied (after_all_came w bodies) table key ≡ told_all (applied w table) bodies key
each_key w bodies table key = ap (λ t. t key) (all_came w bodies table)
