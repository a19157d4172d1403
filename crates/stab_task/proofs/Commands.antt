-- What the clauses of the command line cite of the model of `clap`.
-- The model covers this command line; the first value and the source of an argument; an error other
-- than memory comes only of refused words.
use Rattle.std.proofs.Common.{◌≡◌, ◌≢◌, ◌≤◌, ◌⊎◌, ◌∙◌, List, [], ◌∷◌, Option, Some, None, inl, inr, true, ap, refl, sym, length, arith, codes}
use Rattle.std.specs.Prelude.{find, option_and_then, option_map}
use Rattle.std.specs.Str.{bytes_eq}
use Rattle.clap.specs.Words.{HasKind, IsAmong, Kinds, Row, Text, fault_of, first_of, first_value, is_simple, is_simple_and_free, kind_of, matched_of, rows_of}
use Rattle.clap.specs.Walk.{row_of}
use Rattle.clap.specs.Facts.{Entry}
use Rattle.clap.specs.declared.error.Error.{Error}
use Rattle.clap.specs.declared.error.kind.ErrorKind.TheVariants.{OutOfMemory}
use Rattle.clap.specs.declared.parser.matches.Found.{Found}
use Rattle.clap.specs.declared.parser.matches.MatchedArg.{MatchedArg}
use Rattle.clap.specs.declared.parser.matches.ValueSource.{ValueSource}
use Rattle.clap.proofs.OnLiterals.{clap_on_literals}
use Rattle.clap.proofs.WalkLemmas.{find_row, first_value-rows}
use Rattle.stab_task.specs.CommandLine.{IsTaken, IsWordsFault, has_mixed_flag, has_trace, has_words_flag, is_from_words, source_of, stab_line}
use Rattle.stab_task.specs.declared.fault.CliFault.{CliFault}
use Rattle.stab_task.specs.declared.fault.CliFault.TheVariants.{CommandLine, Memory}

-- the model of `clap` covers this command line
pub simple : is_simple stab_line ≡ true
unfolding clap_on_literals
simple = refl

pub free : is_simple_and_free stab_line ≡ true
unfolding clap_on_literals
free = refl

-- the first value of an argument, by the rows of its matches
pub first_value_by_rows : (f : Found) (id : Text) → first_value f id ≡ first_of id (rows_of f)
first_value_by_rows f id = first_value-rows f id

-- where a value came from, by the rows of its matches
pub source_by_rows : (f : Found) (id : Text) → option_and_then (λ (a : MatchedArg). a.source) (matched_of f id) ≡ source_of id (rows_of f)
source_by_rows f id =
    go (find (λ (e : Entry). bytes_eq e.0.now id) f.entries.items)
    ∙ ap (option_and_then (λ (r : Row). r.source)) (sym (find_row f.entries.items id))
  where
    go : (o : Option Entry) → option_and_then (λ (a : MatchedArg). a.source) (option_map (λ e. e.1) o)
        ≡ option_and_then (λ (r : Row). r.source) (option_map row_of o)
    go None = refl
    go (Some e) = refl

-- the flag is found exactly where its value came from the words
pub trace_by_rows : (f : Found) (source : Option ValueSource) → source ≡ option_and_then (λ (a : MatchedArg). a.source) (matched_of f (codes "trace"))
    → is_from_words source ≡ has_trace (rows_of f)
trace_by_rows f source is = ap is_from_words (is ∙ source_by_rows f (codes "trace"))

pub words_by_rows : (f : Found) (source : Option ValueSource) → source ≡ option_and_then (λ (a : MatchedArg). a.source) (matched_of f (codes "words"))
    → is_from_words source ≡ has_words_flag (rows_of f)
words_by_rows f source is = ap is_from_words (is ∙ source_by_rows f (codes "words"))

pub mixed_by_rows : (f : Found) (source : Option ValueSource) → source ≡ option_and_then (λ (a : MatchedArg). a.source) (matched_of f (codes "mixed"))
    → is_from_words source ≡ has_mixed_flag (rows_of f)
mixed_by_rows f source is = ap is_from_words (is ∙ source_by_rows f (codes "mixed"))

-- the program's name alone is taken, and so is no word
pub few_words_taken : (words : List Text) → length words ≤ 1 → IsTaken words
unfolding clap_on_literals
few_words_taken [] few = record { matched = refl; one_kind = refl }
few_words_taken (x ∷ []) few = record { matched = refl; one_kind = refl }
few_words_taken (x ∷ y ∷ rest) few = absurd (omega arith)

-- an error that is not of memory comes only of words that are refused
pub refused : (words : List Text) (e : Error) (fault : CliFault) → HasKind (fault_of stab_line words) e
    → (fault ≡ Memory) ⊎ ((fault ≡ CommandLine) × (kind_of e ≢ OutOfMemory)) → IsWordsFault words fault
refused words e fault has (inl memory) = inl memory
refused words e fault (inl memory) (inr other) = absurd (other.1 memory)
refused words e fault (inr among) (inr other) = inr (other.0, λ taken. some (fault_of stab_line words) among taken.matched)
  where
    some : (kinds : Kinds) → IsAmong (kind_of e) kinds → kinds ≢ []
    some [] among = absurd among
    some (k ∷ ks) among = λ empty. cc
