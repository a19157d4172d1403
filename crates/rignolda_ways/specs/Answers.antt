-- What an agent does when a candidate says its way: it takes the way that is said, of its parent
-- again or of another from then on; it keeps what it has; or it leaves its parent.
-- Example: With the bound 128 an agent says cost 10. A candidate of price 1 says cost 3 and a way
-- without that agent's name: it is taken. One that says 9 is not better, and one that says 200 has
-- no root. The parent may say 200, and is left if it says 255 or the agent's own name.
-- Source: S. Dolev, Self-Stabilization, chapter 2; names, bounds and the lack of a root are this
-- project's.
use Rattle.std.specs.Prelude.{ℕ, ◌+◌, min, Bool, true, false, not, ◌&&◌, ◌||◌}
use Rattle.std.specs.Prelude.{if◌then◌else◌, nat_lt, nat_le, Option, Some, None}
use Rattle.rignolda_ways.specs.declared.asked.Asked.{Asked}
use Rattle.rignolda_ways.specs.declared.asked.Answer.{Answer}
use Rattle.rignolda_ways.specs.declared.asked.Answer.TheVariants.{Takes, Keeps, Leaves}
use Rattle.rignolda_ways.specs.declared.asked.Reason.{Reason}
use Rattle.rignolda_ways.specs.declared.asked.Reason.TheVariants.{Circle, LongWay, NoRoot, NoBetter}

-- what the way over a candidate costs; from twice the bound on it is all the same
abbrev pub over : ℕ → ℕ → ℕ → ℕ
over none said price = min (none + none) (said + price)

-- why the way over this candidate is none for the agent, if so: it has its name, or is long
abbrev pub fault_of : ℕ → Asked → Option Reason
fault_of none a =
    if a.has_own_name then Some Circle
    else (if nat_lt (over none a.said a.price) (none + none) && nat_lt a.names none then None
    else Some LongWay)

-- an agent without a parent that may take one without a root: it has no other candidate, or no
-- children; and where it has left a circle, the name at the head of that way is the smaller one
abbrev pub is_free : Asked → Bool
is_free a = not a.has_parent && (a.is_sole || not a.has_children)
    && (not a.was_in_circle || a.head_is_smaller)

-- another candidate is taken if the way over it has a root and is better
abbrev pub compared : ℕ → Asked → Answer
compared none a =
    if is_free a then Takes
    else (if nat_le none (over none a.said a.price) then Keeps NoRoot
    else (if nat_lt (over none a.said a.price) a.own then Takes else Keeps NoBetter))

-- the parent is followed, whatever it costs
abbrev pub answered : Bool → Option Reason → Answer → Answer
answered true None other = Takes
answered true (Some why) other = Leaves why
answered false None other = other
answered false (Some why) other = Keeps why

abbrev pub answer_of : ℕ → Asked → Answer
answer_of none a = answered a.is_parent (fault_of none a) (compared none a)

-- why a candidate may not take the place of a parent that is to be left, if so
abbrev pub unfit : ℕ → Asked → Option Reason
unfit none a = unfit_by (fault_of none a)
  where
    unfit_by : Option Reason → Option Reason
    unfit_by (Some why) = Some why
    unfit_by None = if nat_le none (over none a.said a.price) then Some NoRoot else None
