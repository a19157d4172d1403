-- Why an end is refused, as it is told: the front of a message of which the rest never comes, and
-- then the connection ends. One that was not told why hears so as well.
-- Example: That a parent has no room for more children is 'R', 'G', 'N', 'L', 2, 255, 6 in the
-- place of its hello.
-- Source: this project's own.
use Rattle.std.specs.Prelude.{Bool, ℕ, ◌==◌, ◌&&◌, if◌then◌else◌}
use Rattle.std.specs.Prelude.{List, [], ◌∷◌, Option, Some, None}
use Rattle.rignolda_wire.specs.declared.refusal.Refusal.{Refusal}
use Rattle.rignolda_wire.specs.declared.refusal.Refusal.TheVariants.{NotSaid, OtherName, NoChild}
use Rattle.rignolda_wire.specs.declared.refusal.Refusal.TheVariants.{NoParent, Calls, Certificate}
use Rattle.rignolda_wire.specs.declared.refusal.Refusal.TheVariants.{Full, Twin}
use Rattle.rignolda_wire.specs.declared.said.Expect.{Expect}
use Rattle.rignolda_wire.specs.declared.said.Expect.TheVariants.{Hello, Frames, SignedFrames}

-- the byte of a reason
abbrev pub byte_of : Refusal → ℕ
byte_of NotSaid = 0
byte_of OtherName = 1
byte_of NoChild = 2
byte_of NoParent = 3
byte_of Calls = 4
byte_of Certificate = 5
byte_of Full = 6
byte_of Twin = 7

-- the reason of a byte, which of a later release is not said
abbrev pub refusal_of : ℕ → Refusal
refusal_of byte =
    if byte == 1 then OtherName else (if byte == 2 then NoChild else (if byte == 3 then NoParent
    else (if byte == 4 then Calls else (if byte == 5 then Certificate
    else (if byte == 6 then Full else (if byte == 7 then Twin else NotSaid))))))

-- in the place of a hello: to an end that has shown no certificate no reason is said
abbrev pub told_first : Refusal → List ℕ
told_first NotSaid = 82 ∷ 71 ∷ 78 ∷ 76 ∷ 2 ∷ []
told_first why = 82 ∷ 71 ∷ 78 ∷ 76 ∷ 2 ∷ 255 ∷ byte_of why ∷ []

-- in the place of a way, behind its letter
abbrev pub told_last : ℕ → Refusal → List ℕ
told_last letter why = letter ∷ 255 ∷ byte_of why ∷ []

-- ---- what is understood

-- behind a mark that no way, no number of a table and no look has there
abbrev pub reason : List ℕ → Option Refusal
reason (mark ∷ byte ∷ []) = if mark == 255 then Some (refusal_of byte) else None
reason bytes = None

abbrev pub reason_or_none : List ℕ → Option Refusal
reason_or_none [] = Some NotSaid
reason_or_none bytes = reason bytes

abbrev pub is_look : ℕ → ℕ → ℕ → ℕ → ℕ → Bool
is_look r g n l version = r == 82 && g == 71 && n == 78 && l == 76 && version == 2

abbrev pub behind_letter : ℕ → List ℕ → Option Refusal
behind_letter letter [] = None
behind_letter letter (first ∷ why) = if first == letter then reason why else None

abbrev pub refused : Expect → List ℕ → Option Refusal
refused Hello (r ∷ g ∷ n ∷ l ∷ version ∷ why) =
    if is_look r g n l version then reason_or_none why else None
refused Frames bytes = behind_letter 87 bytes
refused SignedFrames bytes = behind_letter 86 bytes
refused expect bytes = None

-- what an end is told that expects this
abbrev pub told : Expect → Refusal → List ℕ
told Hello why = told_first why
told Frames why = told_last 87 why
told SignedFrames why = told_last 86 why
told expect why = []
