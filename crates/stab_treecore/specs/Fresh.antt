-- The item that an effect delivers, where it delivers one.
-- Source: this project's own.
use Rattle.std.specs.Prelude.{ℕ, List, [], ◌∷◌, ◌++◌, Option, Some, None}
use Rattle.stab_core.specs.declared.event.Effect.{Effect}
use Rattle.stab_core.specs.declared.event.Effect.TheVariants.{Fresh}

abbrev pub fresh_item : Effect → Option ℕ
fresh_item (Fresh item) = Some item
fresh_item _ = None

-- a list and then that item, where there is one
abbrev pub then_item : List ℕ → Option ℕ → List ℕ
then_item xs None = xs
then_item xs (Some item) = xs ++ item ∷ []
