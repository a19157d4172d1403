-- What contracts see of a link of two words, of its opening, of its two ends, and of what remains
-- of an end that is finished.
-- Source: this project's own.
use Rattle.std.specs.Prelude.{ℕ, List, []}
use Rattle.stab_ends.specs.Accounts.{SenderAccount, ReceiverAccount, new_sender, new_receiver}
use Rattle.stab_acts.specs.Scripts.{ActsRemaining}
use Rattle.stab_word.specs.Seats.{LinkId, SeatedSender, SeatedReceiver}
use Rattle.stab_word.specs.declared.view.SendStep.{SendStep}
use Rattle.stab_word.specs.declared.view.RecvStep.{RecvStep}

-- the sender's end: its link, its account, its label, the acts that remain, and the steps that it
-- made
pub record WordSendView : Type 0 where
  pub link : LinkId
  pub sent : SenderAccount
  pub label : ℕ
  pub acts : ActsRemaining
  pub steps : List SendStep

-- the receiver's end: its link, its account, the label that it took last, the acts that remain,
-- and the steps that it made
pub record WordRecvView : Type 0 where
  pub link : LinkId
  pub received : ReceiverAccount
  pub label : ℕ
  pub acts : ActsRemaining
  pub steps : List RecvStep

-- a finished end: its link, its account, and the steps that it made
pub record SendFinished : Type 0 where
  pub link : LinkId
  pub sent : SenderAccount
  pub steps : List SendStep

pub record RecvFinished : Type 0 where
  pub link : LinkId
  pub received : ReceiverAccount
  pub steps : List RecvStep

-- the ends that have made no call: empty accounts, the start's labels, these acts, and no step
abbrev pub new_send_end : LinkId → ActsRemaining → WordSendView
new_send_end link acts =
    record {
      link = link;
      sent = new_sender;
      label = link.given.start.send_label;
      acts = acts;
      steps = [];
    }

abbrev pub new_recv_end : LinkId → ActsRemaining → WordRecvView
new_recv_end link acts =
    record {
      link = link;
      received = new_receiver;
      label = link.given.start.recv_label;
      acts = acts;
      steps = [];
    }

-- the seats of ends with this label, this account and these steps: a seat knows what its end keeps
abbrev pub sender_seat : LinkId → ℕ → SenderAccount → List SendStep → SeatedSender
sender_seat link label account steps =
    record {
      table = link.table;
      view = record { given = link.given; label = label; account = account; steps = steps };
    }

abbrev pub receiver_seat : LinkId → ℕ → ReceiverAccount → List RecvStep → SeatedReceiver
receiver_seat link label account steps =
    record {
      table = link.table;
      view = record { given = link.given; label = label; account = account; steps = steps };
    }
