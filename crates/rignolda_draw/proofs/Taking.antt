-- What takes rows, one part of them after the other.
use Rattle.std.proofs.Common.{◌≡◌, List, [], ◌++◌, append_assoc, append-nil, sym, subst}
use Rattle.rignolda_draw.specs.Takes.{TakesNone, TakesOn}
use Rattle.rignolda_draw.specs.declared.row.Row.{Row}

module _ {S : Type 0} (HasTaken : S → List Row → Type 0) where
  -- nothing is taken where nothing happens
  pub stays : (s : S) → TakesNone HasTaken s s
  stays s = λ earlier has. has

  -- which is to take no rows
  pub none_taken : (a b : S) → TakesNone HasTaken a b → TakesOn HasTaken a [] b
  none_taken a b none = λ earlier has. subst (HasTaken b) (sym (append-nil earlier)) (none earlier has)

  -- rows, and others after them
  pub both_taken : (a b c : S) (first second : List Row) → TakesOn HasTaken a first b → TakesOn HasTaken b second c → TakesOn HasTaken a (first ++ second) c
  both_taken a b c first second one other = λ earlier has.
      subst (HasTaken c) (append_assoc earlier first second) (other (earlier ++ first) (one earlier has))

  -- nothing, and then rows
  pub none_first : (a b c : S) (rows : List Row) → TakesNone HasTaken a b → TakesOn HasTaken b rows c → TakesOn HasTaken a rows c
  none_first a b c rows none taken = λ earlier has. taken earlier (none earlier has)

  -- what takes these rows from here on has taken all of them
  abbrev pub Continues : S → List Row → S → List Row → Type 0
  Continues now rest initial all = (end : S) → TakesOn HasTaken now rest end → TakesOn HasTaken initial all end

  -- it begins with all of them
  pub begins_here : (s : S) (all : List Row) → Continues s all s all
  begins_here s all = λ end taken. taken

  -- goes on where the first of them are taken
  pub continues : (now next initial : S) (first rest all : List Row) → Continues now (first ++ rest) initial all
      → TakesOn HasTaken now first next → Continues next rest initial all
  continues now next initial first rest all before taken = λ end later. before end (both_taken now next end first rest taken later)

  -- also where nothing was taken
  pub still_continues : (now next initial : S) (rest all : List Row) → Continues now rest initial all → TakesNone HasTaken now next
      → Continues next rest initial all
  still_continues now next initial rest all before none = λ end later. before end (none_first now next end rest none later)

  -- and ends where none are left
  pub all_taken : (now initial : S) (rest all : List Row) → Continues now rest initial all → rest ≡ [] → TakesOn HasTaken initial all now
  all_taken now initial rest all before none =
      before now (subst (λ rows. TakesOn HasTaken now rows now) (sym none) (none_taken now now (stays now)))

-- a list that had no rows is those that it takes
pub list_taken : (old new rows : List Row) → ((earlier : List Row) → old ≡ earlier → new ≡ earlier ++ rows) → old ≡ [] → new ≡ rows
list_taken old new rows taken none = taken [] none
