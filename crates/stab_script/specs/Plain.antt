-- Plain: the plain form, in which a link job is read off its text, token by token.
-- Example: `{"labels": 4, "capacity": 1, "events": [["offer", 7], "close"], "start": {"send": 0,
-- "recv": 0}}` has it. With a further member, with the capacity `1.0` or with the event `["close"]`
-- a text has it not.
-- Source: this project's own, over the tokens of `json`.
use Rattle.std.specs.Prelude.{◌≡◌, ◌≤◌, ◌⊎◌, ℕ, zero, suc, codes, List, [], ◌∷◌, Option}
use Rattle.std.specs.Prelude.{Some, None, IsSome}
use Rattle.std.specs.Str.Parse.{IsNumeral, digits_value}
use Rattle.json.specs.Token.{Token}
use Rattle.json.specs.Lex.{tokens}
use Rattle.json.specs.Json.{after_end_array, read_key}
use Rattle.serde_json.specs.Data.{Data}
use Rattle.stab_json.specs.Values.{most_u16, most_u32}
use Rattle.stab_script.specs.LinkJobs.{most_events}
use Rattle.stab_script.specs.Starts.{start}
use Rattle.stab_script.specs.Members.{in_member}
use Rattle.stab_script.specs.Standing.{Stands}

-- The first of the tokens `ts` are what the word says, and `rest` follows them.

-- a whole number in digits, and no more than `most`
abbrev pub IsWhole : ℕ → List Token → List Token → Type 0
IsWhole most ts rest = (text : List ℕ) × (ts ≡ Token.number text ∷ rest)
    × IsNumeral 10 text × (digits_value 10 text ≤ most)

-- as many entries as `n`, and the bracket that closes their list
abbrev pub AreEntries : (List Token → List Token → Type 0) → ℕ → List Token → List Token → Type 0
AreEntries IsEntry zero ts rest = after_end_array ts ≡ Some rest
AreEntries IsEntry (suc n) ts rest = (after_end_array ts ≡ None)
    × (later : List Token) × IsEntry ts later × AreEntries IsEntry n later rest

-- entries, however many, and that bracket
abbrev pub IsInList : (List Token → List Token → Type 0) → List Token → List Token → Type 0
IsInList IsEntry ts rest = (n : ℕ) × AreEntries IsEntry n ts rest

-- a list of such entries
abbrev pub IsList : (List Token → List Token → Type 0) → List Token → List Token → Type 0
IsList IsEntry ts rest =
    (us : List Token) × (ts ≡ Token.begin_array ∷ us) × IsInList IsEntry us rest

-- a frame
abbrev pub IsFrame : List Token → List Token → Type 0
IsFrame ts rest = (us : List Token) × (ts ≡ Token.begin_array ∷ us)
    × (vs : List Token) × IsWhole most_u16 us vs
    × (ws : List Token) × IsWhole most_u32 vs ws × (after_end_array ws ≡ Some rest)

-- an entry of the events: a word, or a list of a word and a number
abbrev pub IsEvent : List Token → List Token → Type 0
IsEvent ts rest = ((word : List ℕ) × (ts ≡ Token.string word ∷ rest))
    ⊎ ((word : List ℕ) × (us : List Token) × (ts ≡ Token.begin_array ∷ Token.string word ∷ us)
    × (vs : List Token) × IsWhole most_u32 us vs × (after_end_array vs ≡ Some rest))

-- the list of the events, no more than a job may have
abbrev pub IsEvents : List Token → List Token → Type 0
IsEvents ts rest = (us : List Token) × (ts ≡ Token.begin_array ∷ us)
    × (n : ℕ) × (n ≤ most_events) × AreEntries IsEvent n us rest

-- as many members as `n`, and the brace that closes their object
abbrev pub AreMembers : (List ℕ → List Token → List Token → Type 0) → ℕ → List Token → List Token
    → Type 0
AreMembers IsMember zero ts rest = read_key ts ≡ Some (None, rest)
AreMembers IsMember (suc n) ts rest = (name : List ℕ) × (us : List Token)
    × (read_key ts ≡ Some (Some name, us))
    × (later : List Token) × IsMember name us later × AreMembers IsMember n later rest

-- members, however many, and that brace
abbrev pub IsInObject : (List ℕ → List Token → List Token → Type 0) → List Token → List Token
    → Type 0
IsInObject IsMember ts rest = (n : ℕ) × AreMembers IsMember n ts rest

-- the member of a start that has this name
abbrev pub IsMemberOfStart : List ℕ → List Token → List Token → Type 0
IsMemberOfStart name ts rest = ((name ≡ codes "frames") × IsList IsFrame ts rest)
    ⊎ ((name ≡ codes "acks") × IsList (IsWhole most_u16) ts rest)
    ⊎ ((name ≡ codes "send") × IsWhole most_u16 ts rest)
    ⊎ ((name ≡ codes "recv") × IsWhole most_u16 ts rest)

-- an object of such members, whose value means a start
abbrev pub IsStart : List Token → List Token → Type 0
IsStart ts rest = (us : List Token) × (ts ≡ Token.begin_object ∷ us)
    × IsInObject IsMemberOfStart us rest
    × ((d : Data) → Stands in_member ts d rest → IsSome (start d))

-- the member of a link job that has this name
abbrev pub IsMemberOfJob : List ℕ → List Token → List Token → Type 0
IsMemberOfJob name ts rest = ((name ≡ codes "capacity") × IsWhole most_u16 ts rest)
    ⊎ ((name ≡ codes "labels") × IsWhole most_u16 ts rest)
    ⊎ ((name ≡ codes "start") × IsStart ts rest)
    ⊎ ((name ≡ codes "events") × IsEvents ts rest)

-- the tokens of these bytes are an object of such members alone
abbrev pub IsPlain : List ℕ → Type 0
IsPlain bytes = (us : List Token) × (tokens bytes ≡ Token.begin_object ∷ us)
    × IsInObject IsMemberOfJob us []

-- there is an answer, and after it `left` is left as it should be
abbrev pub IsRead : {A : Type 0} → Option A → List Token → List Token → Type 0
IsRead answer left rest = IsSome answer × (left ≡ rest)
