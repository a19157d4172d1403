-- An interleaving of the steps of both ends: all of them in one order, which keeps the order of
-- each end's own; and the events of a link that they stand for. A load keeps what it shows, and a
-- store loses what it finds.
-- Example: The first three steps of the worst start over two words, in docs/PROTOCOL.md: the
-- sender's end made an offer load of 10 and a load of the acknowledgement 0, the receiver's a store
-- of the acknowledgement 1. In this order they stand for `["offer", 10]`, `"recv_ack_keep"`,
-- `["lose_ack", 0]`, `"send_ack"`. With the load before the offer it is no interleaving of them,
-- since the order of the sender's own steps is not kept. With the store before the load it is one,
-- but the load does not fit: the word shows 1 by then, and not 0.
-- Source: this project's own.
use Rattle.std.specs.Prelude.{◌≡◌, true, List, [], ◌∷◌, ◌++◌}
use Rattle.stab_frames.specs.Parameters.{Parameters}
use Rattle.stab_core.specs.declared.event.Event.{Event}
use Rattle.stab_core.specs.declared.event.Event.TheVariants.{Offer, SendFrame, RecvFrame, SendAck}
use Rattle.stab_core.specs.declared.event.Event.TheVariants.{RecvAck, LoseFrame, LoseAck, Close}
use Rattle.stab_core.specs.LinkState.{LinkState, current_frame}
use Rattle.stab_core.specs.Replay.{initial, replay}
use Rattle.stab_ends.specs.Accounts.{SenderAccount, ReceiverAccount}
use Rattle.stab_core.specs.LinkSetup.{LinkSetup}
use Rattle.stab_ends.specs.Agreement.{Agree}
use Rattle.stab_word.specs.Words.{frames_of, is_closed_word, acks_of}
use Rattle.stab_word.specs.declared.words.FrameWord.TheVariants as frame
use Rattle.stab_word.specs.declared.words.AckWord.TheVariants as ack
use Rattle.stab_word.specs.declared.view.SendStep.{SendStep}
use Rattle.stab_word.specs.declared.view.SendStep.TheVariants as send_step
use Rattle.stab_word.specs.declared.view.RecvStep.{RecvStep}
use Rattle.stab_word.specs.declared.view.RecvStep.TheVariants as recv_step

-- a step of one of the two ends
pub data LinkStep : Type 0 where
  of_sender : SendStep → LinkStep
  of_receiver : RecvStep → LinkStep

-- the sender's steps among them, and the receiver's
abbrev pub sender_steps : List LinkStep → List SendStep
sender_steps [] = []
sender_steps (of_sender step ∷ steps) = step ∷ sender_steps steps
sender_steps (of_receiver step ∷ steps) = sender_steps steps

abbrev pub receiver_steps : List LinkStep → List RecvStep
receiver_steps [] = []
receiver_steps (of_sender step ∷ steps) = receiver_steps steps
receiver_steps (of_receiver step ∷ steps) = step ∷ receiver_steps steps

-- the events that a step stands for
abbrev pub events_of : LinkStep → List Event
events_of (of_sender (send_step.OfferLoad item)) = Offer item ∷ []
events_of (of_sender (send_step.FrameStore f)) = LoseFrame 0 ∷ SendFrame ∷ []
events_of (of_sender (send_step.AckLoad ack.Empty)) = []
events_of (of_sender (send_step.AckLoad (ack.Full label))) = RecvAck true ∷ []
events_of (of_sender send_step.CloseStore) = LoseFrame 0 ∷ Close ∷ []
events_of (of_receiver (recv_step.FrameLoad frame.Empty)) = []
events_of (of_receiver (recv_step.FrameLoad (frame.Full f))) = RecvFrame true ∷ []
events_of (of_receiver (recv_step.FrameLoad frame.Closed)) = []
events_of (of_receiver (recv_step.FrameLook word)) = []
events_of (of_receiver (recv_step.AckStore label)) = LoseAck 0 ∷ SendAck ∷ []

-- the events of all the steps, in their order
abbrev pub all_events : List LinkStep → List Event
all_events [] = []
all_events (step ∷ steps) = events_of step ++ all_events steps

-- a step fits the state in which it is made: a load shows what is on its way there, and a store
-- stores what its end has to send there
abbrev pub FitsState : LinkState → LinkStep → Type 0
FitsState s (of_sender (send_step.FrameStore f)) = f ≡ current_frame s
FitsState s (of_sender (send_step.AckLoad word)) = s.acks ≡ acks_of word
FitsState s (of_receiver (recv_step.FrameLoad word)) =
    (s.frames ≡ frames_of word) × (s.closed ≡ is_closed_word word)
FitsState s (of_receiver (recv_step.FrameLook word)) =
    (s.frames ≡ frames_of word) × (s.closed ≡ is_closed_word word)
FitsState s (of_receiver (recv_step.AckStore label)) = label ≡ s.recv_label
FitsState s step = Unit {0}

-- each step fits the state to which the steps before it lead from this one
abbrev pub AllFit : Parameters → LinkState → List LinkStep → Type 0
AllFit p s [] = Unit {0}
AllFit p s (step ∷ steps) = FitsState s step × AllFit p (replay p s (events_of step)) steps

-- an interleaving of these steps of the sender and of the receiver leads to this state
pub record Interleaved (g : LinkSetup) (sent : List SendStep) (received : List RecvStep)
    (s : LinkState)
    : Type 0 where
  pub steps : List LinkStep
  pub by_sender : sender_steps steps ≡ sent
  pub by_receiver : receiver_steps steps ≡ received
  pub fit : AllFit g.params (initial g.start) steps
  pub leads : s ≡ replay g.params (initial g.start) (all_events steps)

-- an interleaving of these steps leads to a state with which the accounts of both ends agree
abbrev pub AnInterleavingExplains : LinkSetup → List SendStep → SenderAccount → List RecvStep
    → ReceiverAccount
    → Type 0
AnInterleavingExplains g sent sender received receiver =
    (s : LinkState) × Interleaved g sent received s × Agree s sender receiver
