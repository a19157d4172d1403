-- What an agent is told to do about a body, by the byte with which it begins and its number.
-- Source: this project's own.
use Rattle.std.specs.Prelude.{ℕ, ◌&&◌, not, Bool, true, false, Option, Some, None}
use Rattle.rignolda_agent.specs.declared.body.Kind.{Kind}
use Rattle.rignolda_agent.specs.Takers.{Taker, after, drops, fills, is_held, is_table, looks, takes}
use Rattle.rignolda_settings_c.specs.declared.taker.TakerHeard.{TakerHeard}

abbrev pub after_read : Taker → Option Kind → ℕ → Taker
after_read t None number = t
after_read t (Some kind) number = after t kind number

abbrev pub byte : Bool → ℕ
byte true = 1
byte false = 0

abbrev pub told : Taker → Option Kind → ℕ → TakerHeard
told t None number = record { taken = 0; drops = 0; applied = 0; fills = 0; looks = 0 }
told t (Some kind) number =
    let taken = takes t number in
    record {
      taken = byte taken;
      drops = byte (taken && drops t kind number);
      applied = byte (taken && not (is_held t number));
      fills = byte (taken && (is_table kind && fills t number));
      looks = byte (taken && (is_table kind && looks t number));
    }
