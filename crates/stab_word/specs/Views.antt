-- What the ends of a link of two words know of it, and how it changes with what they do and see. A
-- view holds the account of its end and the steps that it made, so these are what its view says.
-- Example: A sender with label 0 that offered 10 sees the acknowledgement 0: one item is
-- acknowledged and the label is 1. It sees the same word again: its item does not wait any more, so
-- nothing changes. A receiver that remembers 1 sees the frame 2=99: it remembers 2 and delivered
-- 99. Without a place for the item, `after_look` leaves it as it was.
-- Source: this project's own.
use Rattle.std.specs.Prelude.{ℕ, ◌+◌, ◌==◌, ◌&&◌, Bool, true, [], ◌∷◌, ◌++◌, length}
use Rattle.std.specs.Prelude.{slice_index, if◌then◌else◌}
use Rattle.stab_frames.specs.declared.frame.Frame.{Frame}
use Rattle.stab_frames.specs.Parameters.{next}
use Rattle.stab_ends.specs.Accounts.{SenderAccount, new_sender, new_receiver}
use Rattle.stab_core.specs.LinkSetup.{LinkSetup}
use Rattle.stab_word.specs.declared.words.FrameWord.{FrameWord}
use Rattle.stab_word.specs.declared.words.FrameWord.TheVariants as frame
use Rattle.stab_word.specs.declared.words.AckWord.{AckWord}
use Rattle.stab_word.specs.declared.words.AckWord.TheVariants as ack
use Rattle.stab_word.specs.declared.view.SendView.{SendView}
use Rattle.stab_word.specs.declared.view.RecvView.{RecvView}
use Rattle.stab_word.specs.declared.view.SendStep.{SendStep}
use Rattle.stab_word.specs.declared.view.SendStep.TheVariants as send_step
use Rattle.stab_word.specs.declared.view.RecvStep.{RecvStep}
use Rattle.stab_word.specs.declared.view.RecvStep.TheVariants as recv_step
use Rattle.stab_word.specs.declared.view.View.{View}
use Rattle.stab_word.specs.declared.view.View.TheVariants.{Opening, Sending, Receiving}
use Rattle.stab_word.specs.declared.view.View.TheVariants.{Joined, Spent}

-- ---- the views of a link, in which nothing has happened

-- the sender's and the receiver's view at the start
abbrev pub first_sender : LinkSetup → SendView
first_sender g =
    record { given = g; label = g.start.send_label; account = new_sender; steps = [] }

abbrev pub first_receiver : LinkSetup → RecvView
first_receiver g =
    record { given = g; label = g.start.recv_label; account = new_receiver; steps = [] }

-- ---- how a sender's view changes

-- the last item that was taken waits for its acknowledgement
abbrev pub is_waiting : SenderAccount → Bool
is_waiting account = length account.offered == account.acked + 1

-- the frame of the item that waits, under this label of the sender
abbrev pub waiting_frame : ℕ → SenderAccount → Frame
waiting_frame label account =
    record { label = label; item = slice_index account.offered account.acked }

abbrev pub current_frame : SendView → Frame
current_frame v = waiting_frame v.label v.account

-- it makes a step
abbrev pub sender_makes : SendView → SendStep → SendView
sender_makes v step = record v { steps = v.steps ++ step ∷ [] }

-- it takes an item
abbrev pub offered_to : SendView → ℕ → SendView
offered_to v item =
    record v {
      account = record v.account { offered = v.account.offered ++ item ∷ [] };
      steps = v.steps ++ send_step.OfferLoad item ∷ [];
    }

-- it stores its frame
abbrev pub stored_by : SendView → SendView
stored_by v = sender_makes v (send_step.FrameStore (current_frame v))

-- the item that waits is acknowledged: it counts, and the label is the next one
abbrev pub acknowledged : SendView → SendView
acknowledged v =
    record v {
      label = next v.given.params v.label;
      account = record v.account { acked = v.account.acked + 1 };
    }

-- of what it sees in the acknowledgement word only the label that it waits for counts
abbrev pub counted : SendView → AckWord → SendView
counted v ack.Empty = v
counted v (ack.Full label) =
    if is_waiting v.account && (label == v.label) then acknowledged v else v

-- it sees the acknowledgement word
abbrev pub after_ack : SendView → AckWord → SendView
after_ack v word = counted (sender_makes v (send_step.AckLoad word)) word

-- it closes the link
abbrev pub closed_by : SendView → SendView
closed_by v =
    record v {
      account = record v.account { closed = true };
      steps = v.steps ++ send_step.CloseStore ∷ [];
    }

-- ---- how a receiver's view changes

-- it makes a step
abbrev pub receiver_makes : RecvView → RecvStep → RecvView
receiver_makes v step = record v { steps = v.steps ++ step ∷ [] }

-- it stores the acknowledgement of its label
abbrev pub answered_by : RecvView → RecvView
answered_by v = receiver_makes v (recv_step.AckStore v.label)

-- it takes a frame: it remembers the label and delivers the item
abbrev pub taken_by : RecvView → Frame → RecvView
taken_by v f =
    record v {
      label = f.label;
      account = record v.account { delivered = v.account.delivered ++ f.item ∷ [] };
    }

-- it sees the close
abbrev pub close_seen_by : RecvView → RecvView
close_seen_by v = record v { account = record v.account { closed = true } }

-- of what it sees in the frame word, with a place for an item, it takes a frame exactly if the
-- label is not the one that it remembers
abbrev pub taken_from : RecvView → FrameWord → RecvView
taken_from v frame.Empty = v
taken_from v (frame.Full f) = if f.label == v.label then v else taken_by v f
taken_from v frame.Closed = close_seen_by v

-- it sees the frame word, with a place for an item
abbrev pub after_frame : RecvView → FrameWord → RecvView
after_frame v word = taken_from (receiver_makes v (recv_step.FrameLoad word)) word

-- with no place for an item it takes no frame
abbrev pub looked_at : RecvView → FrameWord → RecvView
looked_at v frame.Empty = v
looked_at v (frame.Full f) = v
looked_at v frame.Closed = close_seen_by v

-- it looks at the frame word, with no place for an item
abbrev pub after_look : RecvView → FrameWord → RecvView
after_look v word = looked_at (receiver_makes v (recv_step.FrameLook word)) word

-- ---- views of all kinds

-- the parameters and the start of a view; those of a spent one are of no account
abbrev pub no_link : LinkSetup
no_link =
    record {
      params = record { capacity = 0; labels = 0 };
      start = record { frames = []; acks = []; send_label = 0; recv_label = 0 };
    }

-- the parameters and the start
abbrev pub given_of : View → LinkSetup
given_of (Opening g) = g
given_of (Sending v) = v.given
given_of (Receiving v) = v.given
given_of (Joined v w) = v.given
given_of Spent = no_link

-- the sender's part of a view: before the split the first one
abbrev pub sender_of : View → SendView
sender_of (Opening g) = first_sender g
sender_of (Sending v) = v
sender_of (Receiving v) = first_sender v.given
sender_of (Joined v w) = v
sender_of Spent = first_sender no_link

-- the receiver's part of a view: before the split the first one
abbrev pub receiver_of : View → RecvView
receiver_of (Opening g) = first_receiver g
receiver_of (Sending v) = first_receiver v.given
receiver_of (Receiving v) = v
receiver_of (Joined v w) = w
receiver_of Spent = first_receiver no_link

-- the views of the two seats that a split of the opening seat makes
abbrev pub sender_part : View → View
sender_part v = Sending (sender_of v)

abbrev pub receiver_part : View → View
receiver_part v = Receiving (receiver_of v)

-- the view of the seat that a join of the sender's and the receiver's seat makes
abbrev pub joined : View → View → View
joined v w = Joined (sender_of v) (receiver_of w)
