-- What an end takes for its connection is the newest one.
use Rattle.std.proofs.Common.{◌≡◌, ℕ, ◌+◌, ◌==◌, Bool, true, false, if◌then◌else◌, List, [], ◌∷◌, refl, sym, subst, arith, eqb-true, true≢false}
use Rattle.stab_core.specs.Picks.{AllBelow}
use Rattle.stab_line.specs.Session.{has, last_number, no_session, session_on}
use Rattle.stab_line.specs.SessionNumbers.{Numbered, Call, begins, ends, message_comes, gives_turn, call_step, call_run, never_connected, IsNewest}

record Kept (s : Numbered) : Type 0 where
  below : AllBelow (s.number + 1) s.given
  newest : (n : ℕ) → has s.session n ≡ true → IsNewest s.given n

raise : (bound : ℕ) (ns : List ℕ) → AllBelow bound ns → AllBelow (bound + 1) ns
raise bound [] below = tt
raise bound (n ∷ ns) below = (omega (arith, below.0), raise bound ns below.1)

begun : (s : Numbered) (turn last : Bool) → Kept s
    → Kept (record {
      session = if last then no_session else session_on (s.number + 1) turn;
      number = if last then s.number else s.number + 1;
      given = if last then s.given else (s.number + 1) ∷ s.given;
    })
begun s turn true kept = record { below = kept.below; newest = λ n here. absurd (true≢false (sym here)) }
begun s turn false kept =
    record {
      below = (omega arith, raise (s.number + 1) s.given kept.below);
      newest = λ n here.
          subst (λ (k : ℕ). IsNewest ((s.number + 1) ∷ s.given) k) (sym (eqb-true n (s.number + 1) here))
          (record { older = s.given; given_last = refl; all_older = kept.below });
    }

ended : (s : Numbered) (here : Bool) → Kept s → Kept (record s { session = if here then no_session else s.session })
ended s true kept = record { below = kept.below; newest = λ n here. absurd (true≢false (sym here)) }
ended s false kept = kept

heard : (s : Numbered) (m : ℕ) (here : Bool) → has s.session m ≡ here → Kept s
    → Kept (record s { session = if here then session_on m true else s.session })
heard s m true here kept =
    record {
      below = kept.below;
      newest = λ n is. subst (λ (k : ℕ). IsNewest s.given k) (sym (eqb-true n m is)) (kept.newest m here);
    }
heard s m false other kept = kept

kept_by : (s : Numbered) (call : Call) → Kept s → Kept (call_step s call)
kept_by s (begins turn) kept = begun s turn (s.number == last_number) kept
kept_by s (ends n) kept = ended s (has s.session n) kept
kept_by s (message_comes n) kept = heard s n (has s.session n) refl kept
kept_by s gives_turn kept = record { below = kept.below; newest = kept.newest }

kept_in_run : (s : Numbered) (calls : List Call) → Kept s → Kept (call_run s calls)
kept_in_run s [] kept = kept
kept_in_run s (call ∷ calls) kept = kept_in_run (call_step s call) calls (kept_by s call kept)

pub newest_is_known : (calls : List Call) (n : ℕ)
    → let s = call_run never_connected calls in has s.session n ≡ true → IsNewest s.given n
newest_is_known calls n here =
    (kept_in_run never_connected calls (record { below = tt; newest = λ n here. absurd (true≢false (sym here)) })).newest n here
