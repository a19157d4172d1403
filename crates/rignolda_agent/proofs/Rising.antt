-- The numbers of a run.
use Rattle.std.proofs.Common.{◌≡◌, ℕ, suc, ◌+◌, ◌^◌, ◌<◌, ◌≤◌, Bool, true, false, List, [], ◌∷◌, length, Option, Some, None, refl, ◌∙◌, ap, subst, arith}
use Rattle.std.specs.Prelude.{if◌then◌else◌, ◌==◌}
use Rattle.std.specs.List.{AllByRecursion}
use Rattle.rignolda_agent.specs.declared.publisher.Next.{Next}
use Rattle.rignolda_agent.specs.declared.publisher.Next.TheVariants.{Nothing, Harmless, Changes, Whole}
use Rattle.rignolda_agent.specs.Numbers.{next as after_number}
use Rattle.rignolda_agent.specs.Publishers.{Publisher, after_body, is_in_a_round}
use Rattle.rignolda_agent.specs.Runs.{Root, Call, asked_for, before, body, after_call, with_number, numbers, FollowEachOther}

-- a round that is asked for has no number
begun_if : (b : Bool) (n : ℕ) (p q : Publisher) → p.number ≡ n → q.number ≡ n → (if b then p else q).number ≡ n
begun_if true n p q here there = here
begun_if false n p q here there = there

asked_number : (p : Publisher) (asked : Option ℕ) → (asked_for p asked).number ≡ p.number
asked_number p None = refl
asked_number p (Some harmless) = begun_if (is_in_a_round p) p.number _ _ refl refl

abbrev number_by : Next → ℕ → ℕ
number_by Nothing n = n
number_by Harmless n = after_number n
number_by Changes n = after_number n
number_by Whole n = after_number n

number_after : (k : Next) (p : Publisher) (bytes : ℕ) → (after_body k p bytes).number ≡ number_by k p.number
number_after Nothing p bytes = refl
number_after Harmless p bytes = refl
number_after Changes p bytes = refl
number_after Whole p bytes = refl

follow : (k : Next) (n m : ℕ) (ns : List ℕ) → m ≡ number_by k n → FollowEachOther m ns → FollowEachOther n (with_number k m ns)
follow Nothing n m ns is rest = subst (λ x. FollowEachOther x ns) is rest
follow Harmless n m ns is rest = (is, rest)
follow Changes n m ns is rest = (is, rest)
follow Whole n m ns is rest = (is, rest)

pub rise : (r : Root) (calls : List Call) → FollowEachOther r.publisher.number (numbers r calls)
rise r [] = tt
rise r (c ∷ cs) =
    let is = number_after (body r c) (before r c).publisher c.bytes ∙ ap (number_by (body r c)) (asked_number r.publisher c.asked) in
    follow (body r c) r.publisher.number _ _ is (rise (after_call r c) cs)

-- there are no more numbers than calls
few_if : (k : Next) (m : ℕ) (ns : List ℕ) (most : ℕ) → length ns ≤ most → length (with_number k m ns) ≤ suc most
few_if Nothing m ns most le = omega arith
few_if Harmless m ns most le = omega arith
few_if Changes m ns most le = omega arith
few_if Whole m ns most le = omega arith

few : (r : Root) (calls : List Call) → length (numbers r calls) ≤ length calls
few r [] = omega arith
few r (c ∷ cs) = few_if (body r c) _ _ (length cs) (few (after_call r c) cs)

-- a number below the highest
one_above : (n : ℕ) → n + 1 < 2 ^ 64 → after_number n ≡ n + 1
one_above n below = ap (λ b. if b then 1 else n + 1) (not_round n below)
  where
    not_round : (n : ℕ) → n + 1 < 2 ^ 64 → (n + 1 == 18446744073709551616) ≡ false
    not_round n below = grind (arith, below)

-- numbers that follow each other, and do not begin anew
all_up_to : (n most : ℕ) (ns : List ℕ) → FollowEachOther n ns → n + length ns ≤ most → most < 2 ^ 64 → AllByRecursion (λ number. number ≤ most) ns
all_up_to n most [] follows le lt = tt
all_up_to n most (m ∷ ns) follows le lt =
    let is : m ≡ n + 1 = follows.0 ∙ one_above n (omega arith) in
    (omega arith, all_up_to m most ns follows.1 (omega arith) lt)

all_above : (base n : ℕ) (ns : List ℕ) → FollowEachOther n ns → base ≤ n → n + length ns < 2 ^ 64 → AllByRecursion (λ number. base < number) ns
all_above base n [] follows le lt = tt
all_above base n (m ∷ ns) follows le lt =
    let is : m ≡ n + 1 = follows.0 ∙ one_above n (omega arith) in
    (omega arith, all_above base m ns follows.1 (omega arith) (omega arith))

pub over_restarts : (r later : Root) (calls more : List Call)
    → r.publisher.number + length calls ≤ later.publisher.number → later.publisher.number + length more < 2 ^ 64
    → AllByRecursion (λ number. number ≤ later.publisher.number) (numbers r calls)
    × AllByRecursion (λ number. later.publisher.number < number) (numbers later more)
over_restarts r later calls more le lt =
    let few_before = few r calls in
    let few_after = few later more in (
      all_up_to r.publisher.number later.publisher.number (numbers r calls) (rise r calls) (omega arith) (omega arith),
      all_above later.publisher.number later.publisher.number (numbers later more) (rise later more) (omega arith) (omega arith),
    )
