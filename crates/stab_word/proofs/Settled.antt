-- From an interleaving that explains two accounts to one list of events, and to the link law between them.
use Rattle.std.proofs.Common.{◌≡◌, ℕ, List, sym, subst}
use Rattle.stab_core.specs.declared.event.Event.{Event}
use Rattle.stab_core.specs.declared.start.Start.{Start}
use Rattle.stab_core.specs.LinkLaw.{LinkLaw}
use Rattle.stab_core.specs.LinkState.{LinkState}
use Rattle.stab_core.specs.Replay.{IsLawful, initial, replay, start_items}
use Rattle.stab_frames.specs.Parameters.{AreLawful, Parameters}
use Rattle.stab_ends.specs.Accounts.{SenderAccount, ReceiverAccount}
use Rattle.stab_core.specs.LinkSetup.{LinkSetup}
use Rattle.stab_ends.specs.Agreement.{Agree}
use Rattle.stab_word.specs.Interleaving.{all_events, AnInterleavingExplains}
use Rattle.stab_word.specs.declared.view.SendStep.{SendStep}
use Rattle.stab_word.specs.declared.view.RecvStep.{RecvStep}

-- the events of its steps explain the accounts
pub explained : (g : LinkSetup) (xs : List SendStep) (sender : SenderAccount) (ys : List RecvStep) (receiver : ReceiverAccount)
    → AnInterleavingExplains g xs sender ys receiver
    → (events : List Event) × Agree (replay g.params (initial g.start) events) sender receiver
explained g xs sender ys receiver (s, interleaved, agree) = (
  all_events interleaved.steps,
  subst (λ (t : LinkState). Agree t sender receiver) interleaved.leads agree,
)

-- every replay obeys the link law
abbrev pub EveryReplayObeys : Type 0
EveryReplayObeys =
    (p : Parameters) (start : Start) (events : List Event) → AreLawful p → IsLawful p start
    → LinkLaw p.capacity (start_items start) (replay p (initial start) events).offered
    (replay p (initial start) events).acked (replay p (initial start) events).delivered

-- so the link law holds between them
pub law_between : (g : LinkSetup) (sender : SenderAccount) (receiver : ReceiverAccount) → EveryReplayObeys → g.params.capacity ≡ 1
    → AreLawful g.params → IsLawful g.params g.start
    → (events : List Event) × Agree (replay g.params (initial g.start) events) sender receiver
    → LinkLaw 1 (start_items g.start) sender.offered sender.acked receiver.delivered
law_between g sender receiver obeys one params start (events, agree) =
    subst (λ (v : ℕ × List ℕ × ℕ × List ℕ). LinkLaw v.0 (start_items g.start) v.1 v.2 v.3)
    (λ i. (one i, sym agree.offered i, sym agree.acked i, sym agree.delivered i))
    (obeys g.params g.start events params start)
