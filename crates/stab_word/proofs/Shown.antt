-- What the words and the views show of a state, and what the ends see in the words: facts that the turns share.
use Rattle.std.proofs.Common.{◌≡◌, ℕ, ◌+◌, ◌==◌, ◌&&◌, ◌++◌, Bool, true, false, if◌then◌else◌, List, [], ◌∷◌, length, slice_index, refl, sym, ◌∙◌, ap, subst, eq-eqb}
use Rattle.stab_frames.specs.declared.frame.Frame.{Frame}
use Rattle.stab_frames.specs.Parameters.{next}
use Rattle.stab_core.specs.LinkState.{LinkState, is_idle, is_holding, current_frame}
use Rattle.stab_core.specs.Step.{goes_on, sees_ack, sees_frame, takes}
use Rattle.stab_ends.specs.Accounts.{MayOffer, Waits}
use Rattle.stab_core.specs.LinkSetup.{LinkSetup}
use Rattle.stab_ends.specs.Agreement.{Agree}
use Rattle.stab_word.specs.Rule.{Shows}
use Rattle.stab_word.specs.Interleaving.{Interleaved}
use Rattle.stab_word.specs.Views as views
use Rattle.stab_word.specs.Views.{is_waiting, offered_to, acknowledged, after_ack, closed_by, taken_by, close_seen_by, after_frame, after_look, sender_makes, receiver_makes, first_sender, first_receiver, sender_part, receiver_part}
use Rattle.stab_word.specs.Words.{frames_of, is_closed_word, acks_of}
use Rattle.stab_word.specs.declared.words.FrameWord.{FrameWord}
use Rattle.stab_word.specs.declared.words.FrameWord.TheVariants as frame
use Rattle.stab_word.specs.declared.words.AckWord.{AckWord}
use Rattle.stab_word.specs.declared.words.AckWord.TheVariants as ack
use Rattle.stab_word.specs.declared.view.SendStep.{SendStep}
use Rattle.stab_word.specs.declared.view.SendStep.TheVariants as send_step
use Rattle.stab_word.specs.declared.view.RecvStep.{RecvStep}
use Rattle.stab_word.specs.declared.view.RecvStep.TheVariants as recv_step
use Rattle.stab_word.specs.declared.view.SendView.{SendView}
use Rattle.stab_word.specs.declared.view.RecvView.{RecvView}
use Rattle.stab_word.proofs.States as states

module _ (g : LinkSetup) (words : List ℕ) (x : SendView) (y : RecvView) (s : LinkState) (shows : Shows g words x y s) where
  -- an end makes a step that leaves the state
  pub sender_made : (step : SendStep) → Interleaved g (x.steps ++ step ∷ []) y.steps s → Shows g words (sender_makes x step) y s
  sender_made step interleaved =
      record {
        one_place = shows.one_place;
        interleaved = interleaved;
        in_words = shows.in_words;
        sender_given = shows.sender_given;
        receiver_given = shows.receiver_given;
        send_label = shows.send_label;
        recv_label = shows.recv_label;
        accounts = shows.accounts;
      }

  pub receiver_made : (step : RecvStep) → Interleaved g x.steps (y.steps ++ step ∷ []) s
      → Shows g words x (receiver_makes y step) s
  receiver_made step interleaved =
      record {
        one_place = shows.one_place;
        interleaved = interleaved;
        in_words = shows.in_words;
        sender_given = shows.sender_given;
        receiver_given = shows.receiver_given;
        send_label = shows.send_label;
        recv_label = shows.recv_label;
        accounts = shows.accounts;
      }

  -- a link whose sender has not closed it is open
  pub still_open : x.account.closed ≡ false → s.closed ≡ false
  still_open is_open = sym shows.accounts.closed.by_sender ∙ is_open

  pub idle_state : MayOffer x.account → is_idle s ≡ true
  idle_state may =
      eq-eqb (length s.offered) s.acked (sym (ap length shows.accounts.offered) ∙ (may.idle ∙ shows.accounts.acked))

  pub waiting_state : Waits x.account → is_holding s ≡ true
  waiting_state waits =
      eq-eqb (length s.offered) (s.acked + 1)
      (sym (ap length shows.accounts.offered) ∙ (waits.holding ∙ ap (λ n. n + 1) shows.accounts.acked))

  -- the sender's frame is the state's
  pub same_frame : views.current_frame x ≡ current_frame s
  same_frame i = record {
    label = shows.send_label i;
    item = slice_index (shows.accounts.offered i) (shows.accounts.acked i);
  }

  -- the sender waits for a label where the state does
  same_test : (label : ℕ)
      → (is_waiting x.account && (label == x.label)) ≡ (is_holding s && (label == s.send_label))
  same_test label i =
      (length (shows.accounts.offered i) == shows.accounts.acked i + 1) && (label == shows.send_label i)

  -- a state that differs in what the words show alone agrees with the same accounts
  pub accounts_stay : (t : LinkState) → t.offered ≡ s.offered → t.acked ≡ s.acked → t.delivered ≡ s.delivered
      → t.closed ≡ s.closed → Agree t x.account y.account
  accounts_stay t offered acked delivered closed =
      record {
        offered = shows.accounts.offered ∙ sym offered;
        acked = shows.accounts.acked ∙ sym acked;
        delivered = shows.accounts.delivered ∙ sym delivered;
        closed = record {
          by_sender = shows.accounts.closed.by_sender ∙ sym closed;
          by_receiver = λ seen. closed ∙ shows.accounts.closed.by_receiver seen;
        };
      }

  -- an acknowledgement that is waited for counts in the state and in the view
  ack_counts : (step : SendStep) (b : Bool)
      → Interleaved g (x.steps ++ step ∷ []) y.steps (if b then goes_on g.params s else s)
      → Shows g words (if b then acknowledged (sender_makes x step) else sender_makes x step) y
      (if b then goes_on g.params s else s)
  ack_counts step false reached = sender_made step reached
  ack_counts step true reached =
      record {
        one_place = shows.one_place;
        interleaved = reached;
        in_words = shows.in_words;
        sender_given = shows.sender_given;
        receiver_given = shows.receiver_given;
        send_label = λ i. next (shows.sender_given i).params (shows.send_label i);
        recv_label = shows.recv_label;
        accounts = record {
          offered = shows.accounts.offered;
          acked = ap (λ n. n + 1) shows.accounts.acked;
          delivered = shows.accounts.delivered;
          closed = record {
            by_sender = shows.accounts.closed.by_sender;
            by_receiver = shows.accounts.closed.by_receiver;
          };
        };
      }

  -- a frame with another label is delivered in the state and in the view
  frame_counts : (step : RecvStep) (f : Frame) (b : Bool)
      → Interleaved g x.steps (y.steps ++ step ∷ []) (if b then s else takes s f)
      → Shows g words x (if b then receiver_makes y step else taken_by (receiver_makes y step) f)
      (if b then s else takes s f)
  frame_counts step f true reached = receiver_made step reached
  frame_counts step f false reached =
      record {
        one_place = shows.one_place;
        interleaved = reached;
        in_words = shows.in_words;
        sender_given = shows.sender_given;
        receiver_given = shows.receiver_given;
        send_label = shows.send_label;
        recv_label = refl;
        accounts = record {
          offered = shows.accounts.offered;
          acked = shows.accounts.acked;
          delivered = ap (λ items. items ++ f.item ∷ []) shows.accounts.delivered;
          closed = record {
            by_sender = shows.accounts.closed.by_sender;
            by_receiver = shows.accounts.closed.by_receiver;
          };
        };
      }

  -- the receiver sees the close of a closed state
  close_seen : (step : RecvStep) → s.closed ≡ true → Interleaved g x.steps (y.steps ++ step ∷ []) s
      → Shows g words x (close_seen_by (receiver_makes y step)) s
  close_seen step closed reached =
      record {
        one_place = shows.one_place;
        interleaved = reached;
        in_words = shows.in_words;
        sender_given = shows.sender_given;
        receiver_given = shows.receiver_given;
        send_label = shows.send_label;
        recv_label = shows.recv_label;
        accounts = record {
          offered = shows.accounts.offered;
          acked = shows.accounts.acked;
          delivered = shows.accounts.delivered;
          closed = record { by_sender = shows.accounts.closed.by_sender; by_receiver = λ _. closed };
        };
      }

  -- what the sender sees in the acknowledgement word, and what the receiver sees in the frame word
  pub ack_seen : (word : AckWord) → s.closed ≡ false → s.acks ≡ acks_of word
      → (t : LinkState) × Shows g words (after_ack x word) y t
  ack_seen ack.Empty still shown =
      (s, sender_made (send_step.AckLoad ack.Empty) (states.ack_unseen g x.steps y.steps s shows.interleaved shown))
  ack_seen (ack.Full label) still shown =
      let step = send_step.AckLoad (ack.Full label) in (
        sees_ack g.params s label,
        subst (λ (b : Bool). Shows g words (if b then acknowledged (sender_makes x step) else sender_makes x step) y
            (sees_ack g.params s label))
            (sym (same_test label))
            (ack_counts step (is_holding s && (label == s.send_label))
            (states.ack_load g x.steps y.steps s shows.interleaved label still shown)),
      )

  pub frame_seen : (word : FrameWord) → s.frames ≡ frames_of word → s.closed ≡ is_closed_word word
      → (t : LinkState) × Shows g words x (after_frame y word) t
  frame_seen frame.Empty shown closed =
      (s, receiver_made (recv_step.FrameLoad frame.Empty) (states.frame_unseen g x.steps y.steps s shows.interleaved shown closed))
  frame_seen (frame.Full f) shown closed =
      let step = recv_step.FrameLoad (frame.Full f) in (
        sees_frame s f,
        subst (λ (label : ℕ). Shows g words x
            (if f.label == label then receiver_makes y step else taken_by (receiver_makes y step) f) (sees_frame s f))
            (sym shows.recv_label)
            (frame_counts step f (f.label == s.recv_label)
            (states.frame_load g x.steps y.steps s shows.interleaved f closed shown)),
      )
  frame_seen frame.Closed shown closed =
      (s, close_seen (recv_step.FrameLoad frame.Closed) closed (states.close_seen g x.steps y.steps s shows.interleaved shown closed))

  pub frame_looked_at : (word : FrameWord) → s.frames ≡ frames_of word → s.closed ≡ is_closed_word word
      → Shows g words x (after_look y word) s
  frame_looked_at frame.Empty shown closed =
      receiver_made (recv_step.FrameLook frame.Empty) (states.frame_look g x.steps y.steps s shows.interleaved frame.Empty shown closed)
  frame_looked_at (frame.Full f) shown closed =
      receiver_made (recv_step.FrameLook (frame.Full f)) (states.frame_look g x.steps y.steps s shows.interleaved (frame.Full f) shown closed)
  frame_looked_at frame.Closed shown closed =
      close_seen (recv_step.FrameLook frame.Closed) closed (states.frame_look g x.steps y.steps s shows.interleaved frame.Closed shown closed)
