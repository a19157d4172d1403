-- What the numbers of a question about a candidate's way mean, and those of its answers. A flag is
-- true at any value but 0.
-- Source: this project's own.
use Rattle.std.specs.Prelude.{ℕ, ◌+◌, ◌==◌, not, Bool, Option, Some, None}
use Rattle.rignolda_ways.specs.declared.asked.Asked.{Asked}
use Rattle.rignolda_ways.specs.declared.asked.Answer.{Answer}
use Rattle.rignolda_ways.specs.declared.asked.Answer.TheVariants.{Takes, Keeps, Leaves}
use Rattle.rignolda_ways.specs.declared.asked.Reason.{Reason}
use Rattle.rignolda_ways.specs.declared.asked.Reason.TheVariants.{Circle, LongWay, NoRoot, NoBetter}
use Rattle.rignolda_settings_c.specs.declared.ways.WayAsked.{WayAsked}

abbrev pub flag : ℕ → Bool
flag byte = not (byte == 0)

abbrev pub asked_of : WayAsked → Asked
asked_of q = record {
  said = q.said;
  price = q.price;
  names = q.names;
  has_own_name = flag q.has_own_name;
  own = q.own;
  has_parent = flag q.has_parent;
  is_parent = flag q.is_parent;
  is_sole = flag q.is_sole;
  has_children = flag q.has_children;
  was_in_circle = flag q.was_in_circle;
  head_is_smaller = flag q.head_is_smaller;
}

abbrev pub reason_code : Reason → ℕ
reason_code Circle = 1
reason_code LongWay = 2
reason_code NoRoot = 3
reason_code NoBetter = 4

-- 0 where the way is taken; why all stays as it is; or that and 4, where the parent is left
abbrev pub answer_code : Answer → ℕ
answer_code Takes = 0
answer_code (Keeps why) = reason_code why
answer_code (Leaves why) = reason_code why + 4

-- 0 where there is none
abbrev pub reason_or_none : Option Reason → ℕ
reason_or_none None = 0
reason_or_none (Some why) = reason_code why
