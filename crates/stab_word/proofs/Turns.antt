-- Each kind of step on the words and the views: the state after it is the one that the step on states leads to.
use Rattle.std.proofs.Common.{◌≡◌, ℕ, zero, suc, ◌++◌, Bool, true, false, true≢false, List, [], ◌∷◌, slice_index, slice_set, refl, sym, ◌∙◌, ap, subst}
use lib.ListN.{get_elem?}
use mathlib.Core.Option.{some}
use Rattle.atomic_table.specs.Table.{Splits, Joins}
use Rattle.stab_frames.specs.declared.frame.Frame.{Frame}
use Rattle.stab_frames.specs.Queue.{without}
use Rattle.stab_core.specs.LinkState.{LinkState, current_frame}
use Rattle.stab_core.specs.Replay.{initial}
use Rattle.stab_ends.specs.Accounts.{MayOffer, Waits}
use Rattle.stab_core.specs.LinkSetup.{LinkSetup}
use Rattle.stab_word.specs.Rule.{Shows, RuleHolds, Keeps}
use Rattle.stab_word.specs.Views as views
use Rattle.stab_word.specs.Views.{offered_to, stored_by, after_ack, closed_by, after_frame, after_look, answered_by, first_sender, first_receiver, sender_part, receiver_part}
use Rattle.stab_word.specs.Interleaving.{Interleaved}
use Rattle.stab_word.specs.Words.{IsFrameCode, IsAckCode, frames_of, acks_of, WordsShow}
use Rattle.stab_word.specs.declared.words.FrameWord.{FrameWord}
use Rattle.stab_word.specs.declared.words.FrameWord.TheVariants as frame
use Rattle.stab_word.specs.declared.words.AckWord.{AckWord}
use Rattle.stab_word.specs.declared.words.AckWord.TheVariants as ack
use Rattle.stab_word.specs.declared.view.SendView.{SendView}
use Rattle.stab_word.specs.declared.view.RecvView.{RecvView}
use Rattle.stab_word.specs.declared.view.View.{View}
use Rattle.stab_word.specs.declared.view.View.TheVariants.{Opening, Sending, Receiving, Joined, Spent}
use Rattle.stab_word.proofs.Shown.{still_open, idle_state, waiting_state, same_frame, accounts_stay, ack_seen, frame_seen, frame_looked_at}
use Rattle.stab_word.proofs.Seating.{SendTurn, RecvTurn, opener_sits, sender_sits, other_sits, first_replaced, second_replaced, parted}
use Rattle.stab_word.proofs.States as states

-- ---- what the words show

-- a load leaves the words
kept_words : (words : List ℕ) (word : ℕ) → slice_set words word (slice_index words word) ≡ words
kept_words [] word = refl
kept_words (n ∷ words) zero = refl
kept_words (n ∷ words) (suc word) = ap (λ rest. n ∷ rest) (kept_words words word)

-- a word shows one frame, or one acknowledgement, at most
lone_frame : (word : FrameWord) → without 0 (frames_of word) ≡ []
lone_frame frame.Empty = refl
lone_frame (frame.Full f) = refl
lone_frame frame.Closed = refl

lone_ack : (word : AckWord) → without 0 (acks_of word) ≡ []
lone_ack ack.Empty = refl
lone_ack (ack.Full label) = refl

-- ---- the loads

-- the offer load
pub offer_load : (g : LinkSetup) (x : SendView) (item : ℕ) → MayOffer x.account
    → SendTurn g x 0 (λ n. n) (λ n after. after ≡ offered_to x item)
offer_load g x item may words y s shows =
    let (frame_word, ack_word, are, frames, acks) = shows.in_words in
    let t : LinkState = record s { offered = s.offered ++ item ∷ [] } in (
      offered_to x item,
      t,
      record {
        one_place = shows.one_place;
        interleaved =
            states.offer_load g x.steps y.steps s shows.interleaved item (still_open g words x y s shows may.is_open)
            (idle_state g words x y s shows may);
        in_words = (frame_word, ack_word, kept_words words 0 ∙ are, frames, acks);
        sender_given = shows.sender_given;
        receiver_given = shows.receiver_given;
        send_label = shows.send_label;
        recv_label = shows.recv_label;
        accounts = record {
          offered = ap (λ items. items ++ item ∷ []) shows.accounts.offered;
          acked = shows.accounts.acked;
          delivered = shows.accounts.delivered;
          closed = record {
            by_sender = shows.accounts.closed.by_sender;
            by_receiver = shows.accounts.closed.by_receiver;
          };
        };
      },
      refl,
    )

-- the acknowledgement load
pub ack_load : (g : LinkSetup) (x : SendView) → x.account.closed ≡ false
    → SendTurn g x 1 (λ n. n) (λ n after. (word : AckWord) × IsAckCode n word × (after ≡ after_ack x word))
ack_load g x is_open words y s shows =
    let (frame_word, ack_word, are, frames, (word, code, shown)) = shows.in_words in
    let still = still_open g words x y s shows is_open in
    let (t, seen) = ack_seen g words x y s shows word still (shown still) in
    let found : slice_index words 1 ≡ ack_word = rw are in (
      after_ack x word,
      t,
      subst (λ (ns : List ℕ). Shows g ns (after_ack x word) y t) (sym (kept_words words 1)) seen,
      (word, subst (λ (n : ℕ). IsAckCode n word) (sym found) code, refl),
    )

-- the frame load of a receiver that has a place for an item
pub frame_load : (g : LinkSetup) (y : RecvView)
    → RecvTurn g y 0 (λ n. n) (λ n after. (word : FrameWord) × IsFrameCode n word × (after ≡ after_frame y word))
frame_load g y words x s shows =
    let (frame_word, ack_word, are, (word, code, shown, closed), acks) = shows.in_words in
    let (t, seen) = frame_seen g words x y s shows word shown closed in
    let found : slice_index words 0 ≡ frame_word = rw are in (
      after_frame y word,
      t,
      subst (λ (ns : List ℕ). Shows g ns x (after_frame y word) t) (sym (kept_words words 0)) seen,
      (word, subst (λ (n : ℕ). IsFrameCode n word) (sym found) code, refl),
    )

-- the frame load of a receiver that has none
pub frame_look : (g : LinkSetup) (y : RecvView)
    → RecvTurn g y 0 (λ n. n) (λ n after. (word : FrameWord) × IsFrameCode n word × (after ≡ after_look y word))
frame_look g y words x s shows =
    let (frame_word, ack_word, are, (word, code, shown, closed), acks) = shows.in_words in
    let seen = frame_looked_at g words x y s shows word shown closed in
    let found : slice_index words 0 ≡ frame_word = rw are in (
      after_look y word,
      s,
      subst (λ (ns : List ℕ). Shows g ns x (after_look y word) s) (sym (kept_words words 0)) seen,
      (word, subst (λ (n : ℕ). IsFrameCode n word) (sym found) code, refl),
    )

-- ---- the stores

-- the frame store
pub frame_store : (g : LinkSetup) (x : SendView) (f : Frame) (n : ℕ) → IsFrameCode n (frame.Full f)
    → f ≡ views.current_frame x → Waits x.account → SendTurn g x 0 (λ _. n) (λ _ after. after ≡ stored_by x)
frame_store g x f n code current waits words y s shows =
    let (frame_word, ack_word, are, frames, acks) = shows.in_words in
    let still = still_open g words x y s shows waits.is_open in
    let lone : without 0 s.frames ≡ [] = ap (λ fs. without 0 fs) frames.2 ∙ lone_frame frames.0 in
    let t : LinkState = record s { frames = current_frame s ∷ [] } in
    let shown : t.frames ≡ f ∷ [] = ap (λ h. h ∷ []) (sym (current ∙ same_frame g words x y s shows)) in (
      stored_by x,
      t,
      record {
        one_place = shows.one_place;
        interleaved =
            states.frame_store g x.steps y.steps s shows.interleaved (views.current_frame x) (same_frame g words x y s shows) shows.one_place still
            (waiting_state g words x y s shows waits) lone;
        in_words = (n, ack_word, rw are, (frame.Full f, code, shown, still), acks);
        sender_given = shows.sender_given;
        receiver_given = shows.receiver_given;
        send_label = shows.send_label;
        recv_label = shows.recv_label;
        accounts = accounts_stay g words x y s shows t refl refl refl refl;
      },
      refl,
    )

-- the close store
pub close_store : (g : LinkSetup) (x : SendView) (n : ℕ) → IsFrameCode n frame.Closed → x.account.closed ≡ false
    → SendTurn g x 0 (λ _. n) (λ _ after. after ≡ closed_by x)
close_store g x n code is_open words y s shows =
    let (frame_word, ack_word, are, frames, acks) = shows.in_words in
    let still = still_open g words x y s shows is_open in
    let lone : without 0 s.frames ≡ [] = ap (λ fs. without 0 fs) frames.2 ∙ lone_frame frames.0 in
    let t : LinkState = record s { frames = []; closed = true } in (
      closed_by x,
      t,
      record {
        one_place = shows.one_place;
        interleaved = states.close_store g x.steps y.steps s shows.interleaved still lone;
        in_words = (
          n,
          ack_word,
          rw are,
          (frame.Closed, code, refl, refl),
          (acks.0, acks.1, λ now_open. absurd (true≢false now_open)),
        );
        sender_given = shows.sender_given;
        receiver_given = shows.receiver_given;
        send_label = shows.send_label;
        recv_label = shows.recv_label;
        accounts = record {
          offered = shows.accounts.offered;
          acked = shows.accounts.acked;
          delivered = shows.accounts.delivered;
          closed = record { by_sender = refl; by_receiver = λ _. refl };
        };
      },
      refl,
    )

-- the acknowledgement store: on a closed link the state stays
pub ack_store : (g : LinkSetup) (y : RecvView) (label n : ℕ) → IsAckCode n (ack.Full label) → label ≡ y.label
    → RecvTurn g y 1 (λ _. n) (λ _ after. after ≡ answered_by y)
ack_store g y label n code current words x s shows = by_state s.closed refl
  where
    with_acks : (labels : List ℕ) → Interleaved g x.steps (answered_by y).steps (record s { acks = labels }) → (s.closed ≡ false → labels ≡ label ∷ [])
        → Shows g (slice_set words 1 n) x (answered_by y) (record s { acks = labels })
    with_acks labels reached shown =
        let (frame_word, ack_word, are, frames, acks) = shows.in_words in
        record {
          one_place = shows.one_place;
          interleaved = reached;
          in_words = (frame_word, n, rw are, frames, (ack.Full label, code, shown));
          sender_given = shows.sender_given;
          receiver_given = shows.receiver_given;
          send_label = shows.send_label;
          recv_label = shows.recv_label;
          accounts = accounts_stay g words x y s shows (record s { acks = labels }) refl refl refl refl;
        }

    by_state : (b : Bool) → s.closed ≡ b
        → (after : RecvView) × (t : LinkState) × Shows g (slice_set words 1 n) x after t × (after ≡ answered_by y)
    by_state true closed =
        let never_open : s.closed ≡ false → s.acks ≡ label ∷ [] = λ still. absurd (true≢false (sym closed ∙ still)) in
        (answered_by y, s, with_acks s.acks (states.late_ack_store g x.steps y.steps s shows.interleaved y.label shows.recv_label closed) never_open, refl)
    by_state false still =
        let (frame_word, ack_word, are, frames, (word, was, shown)) = shows.in_words in
        let lone : without 0 s.acks ≡ [] = ap (λ labels. without 0 labels) (shown still) ∙ lone_ack word in
        let reached = states.ack_store g x.steps y.steps s shows.interleaved y.label shows.recv_label shows.one_place still lone in
        let same_label : s.recv_label ≡ label = sym (current ∙ shows.recv_label) in
        let shown_now : s.recv_label ∷ [] ≡ label ∷ [] = ap (λ l. l ∷ []) same_label in
        (answered_by y, record s { acks = s.recv_label ∷ [] }, with_acks (s.recv_label ∷ []) reached (λ _. shown_now), refl)

-- ---- the split of a seat

-- both first views show the initial state
begun : (g : LinkSetup) (words : List ℕ) → g.params.capacity ≡ 1 → WordsShow words (initial g.start)
    → Shows g words (first_sender g) (first_receiver g) (initial g.start)
begun g words one in_words =
    record {
      one_place = one;
      interleaved = states.seat_split g;
      in_words = in_words;
      sender_given = refl;
      receiver_given = refl;
      send_label = refl;
      recv_label = refl;
      accounts = record {
        offered = refl;
        acked = refl;
        delivered = refl;
        closed = record { by_sender = refl; by_receiver = λ seen. seen };
      };
    }

pub seat_split : (g h : LinkSetup) (id : ℕ)
    → Splits (Keeps g) id (Opening h) (sender_part (Opening h)) (receiver_part (Opening h))
seat_split g h id table stands at =
    let (is, first, are, one, in_words) = opener_sits g table.words table.views id h stands at in
    let two = parted table.views id (Opening h) (Sending (first_sender h)) (Receiving (first_receiver h)) first are in
    subst (RuleHolds g table.words) (sym two) (
      initial g.start,
      subst (λ (k : LinkSetup). Shows g table.words (first_sender k) (first_receiver k) (initial g.start)) (sym is)
          (begun g table.words one in_words),
    )

-- ---- the join of a seat

pub seat_join : (g : LinkSetup) (x : SendView) (y : RecvView) (id other : ℕ)
    → Joins (Keeps g) id (Sending x) other (Receiving y) (Joined x y) Spent
seat_join g x y id other table stands at apart there =
    let (v, s, first, are, shows) = sender_sits g table.words table.views id x stands at in
    let taken_in = first_replaced table.views id (Sending x) (Receiving v) (Joined x y) first are in
    let (second, same) =
    other_sits x y v other (subst (λ (views : List View). get_elem? views other ≡ some (Receiving y)) taken_in there) in
    let with_joined = slice_set table.views id (Joined x y) in
    let spent = second_replaced with_joined other (Joined x y) (Receiving v) Spent second taken_in in
    subst (RuleHolds g table.words) (sym spent) (
      s,
      subst (λ (u : RecvView). Shows g table.words x u s) same
          shows,
    )
