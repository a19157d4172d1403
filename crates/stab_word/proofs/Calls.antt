-- What each step's call of the table asks, from what is known of the table and the seat there.
use Rattle.std.proofs.Common.{◌≡◌, ℕ, ◌<◌, false, [], sym, ◌∙◌, ap, subst, arith}
use Rattle.atomic_table.specs.Seated.{TableId}
use Rattle.atomic_table.specs.Table.{Allows, Splits, Joins}
use Rattle.stab_frames.specs.declared.frame.Frame.{Frame}
use Rattle.stab_ends.specs.Accounts.{MayOffer, Waits}
use Rattle.stab_core.specs.LinkSetup.{LinkSetup}
use Rattle.stab_word.specs.Plays.{SeatView}
use Rattle.stab_word.specs.Rule.{Keeps}
use Rattle.stab_word.specs.Seats.{LinkId, SeatedSender, SeatedReceiver, link_of_sender, link_of_receiver}
use Rattle.stab_word.specs.Views.{current_frame, sender_of, receiver_of, given_of, sender_part, receiver_part, joined, offered_to, stored_by, answered_by, after_ack, closed_by, after_frame, after_look}
use Rattle.stab_word.specs.Words.{IsFrameCode, IsAckCode}
use Rattle.stab_word.specs.declared.words.FrameWord.{FrameWord}
use Rattle.stab_word.specs.declared.words.FrameWord.TheVariants as frame
use Rattle.stab_word.specs.declared.words.AckWord.{AckWord}
use Rattle.stab_word.specs.declared.words.AckWord.TheVariants as ack
use Rattle.stab_word.specs.declared.view.SendView.{SendView}
use Rattle.stab_word.specs.declared.view.RecvView.{RecvView}
use Rattle.stab_word.specs.declared.view.View.TheVariants.{Opening, Sending, Receiving, Spent}
use Rattle.stab_word.proofs.Seating.{SendTurn, RecvTurn, sender_allows, receiver_allows}
use Rattle.stab_word.proofs.Turns as turns

-- what a load or a store asks: the seat is of this table, the word is in it, and the rule allows the step
abbrev pub Asks : TableId → TableId → LinkSetup → ℕ → SeatView → ℕ → (ℕ → ℕ) → (ℕ → SeatView → Type 0) → Type 0
Asks t z g id me word f told = (t ≡ z) × (word < z.words) × Allows (Keeps g) z.slots id me word f told

abbrev pub link_id : TableId → LinkSetup → LinkId
link_id z g = record { table = z; given = g }

abbrev pub seated_sender : TableId → SeatView → SeatedSender
seated_sender t me = record { table = t; view = sender_of me.0 }

abbrev pub seated_receiver : TableId → SeatView → SeatedReceiver
seated_receiver t me = record { table = t; view = receiver_of me.0 }

-- the sender's seat, with the table t and the view me, is of the link of the table z
pub record SenderAt (link : LinkId) (seat : SeatedSender) (z t : TableId) (g : LinkSetup) (me : SeatView) : Type 0 where
  pub link_is : link_id z g ≡ link
  pub two_words : z.words ≡ 2
  pub seat_is : seated_sender t me ≡ seat
  pub sends : me ≡ (Sending (sender_of me.0), [])
  pub own : link_of_sender seat ≡ link

-- the same of the receiver's seat
pub record ReceiverAt (link : LinkId) (seat : SeatedReceiver) (z t : TableId) (g : LinkSetup) (me : SeatView) : Type 0 where
  pub link_is : link_id z g ≡ link
  pub two_words : z.words ≡ 2
  pub seat_is : seated_receiver t me ≡ seat
  pub receives : me ≡ (Receiving (receiver_of me.0), [])
  pub own : link_of_receiver seat ≡ link

-- ---- the sender's steps

module _ {link : LinkId} {seat : SeatedSender} {z t : TableId} {g : LinkSetup} {me : SeatView}
    (at : SenderAt link seat z t g me) where
  sender_view : sender_of me.0 ≡ seat.view
  sender_view = ap (λ (s : SeatedSender). s.view) at.seat_is

  -- the seat has the table of its link
  sender_table : t ≡ z
  sender_table =
      ap (λ (s : SeatedSender). s.table) at.seat_is
      ∙ (ap (λ (l : LinkId). l.table) at.own ∙ sym (ap (λ (l : LinkId). l.table) at.link_is))

  -- a turn of the sender is what a call asks
  sender_asks : (id word : ℕ) (f : ℕ → ℕ) (then : ℕ → SendView → Type 0) (told : SeatView → ℕ → SeatView → Type 0)
      → word < 2
      → ((n : ℕ) (after : SendView) → then n after → told (Sending (sender_of me.0), []) n (Sending after, []))
      → SendTurn g (sender_of me.0) word f then → Asks t z g id me word f (told me)
  sender_asks id word f then told within tells turn = (
    sender_table,
    subst (λ n. word < n) (sym at.two_words) within,
    subst (λ (m : SeatView). Allows (Keeps g) z.slots id m word f (told m)) (sym at.sends)
        (sender_allows g z.slots id (sender_of me.0) word f then (told (Sending (sender_of me.0), [])) tells turn),
  )

  pub offer_load_asks : (id item : ℕ) → MayOffer seat.view.account
      → Asks t z g id me 0 (λ n. n) (λ n after. after ≡ (Sending (offered_to (sender_of me.0) item), []))
  offer_load_asks id item may =
      sender_asks id 0 (λ n. n) (λ n after. after ≡ offered_to (sender_of me.0) item)
      (λ m n after. after ≡ (Sending (offered_to (sender_of m.0) item), [])) (omega arith)
      (λ n after is. ap (λ (v : SendView). (Sending v, [])) is)
      (turns.offer_load g (sender_of me.0) item (subst (λ (v : SendView). MayOffer v.account) (sym sender_view) may))

  pub ack_load_asks : (id : ℕ) → seat.view.account.closed ≡ false
      → Asks t z g id me 1 (λ n. n)
      (λ n after. (word : AckWord) × IsAckCode n word × (after ≡ (Sending (after_ack (sender_of me.0) word), [])))
  ack_load_asks id is_open =
      sender_asks id 1 (λ n. n)
      (λ n after. (word : AckWord) × IsAckCode n word × (after ≡ after_ack (sender_of me.0) word))
      (λ m n after. (word : AckWord) × IsAckCode n word × (after ≡ (Sending (after_ack (sender_of m.0) word), [])))
      (omega arith)
      (λ n after (word, code, is). (word, code, ap (λ (v : SendView). (Sending v, [])) is))
      (turns.ack_load g (sender_of me.0) (ap (λ (v : SendView). v.account.closed) sender_view ∙ is_open))

  pub frame_store_asks : (id : ℕ) (f : Frame) (n : ℕ) → IsFrameCode n (frame.Full f) → f ≡ current_frame seat.view
      → Waits seat.view.account
      → Asks t z g id me 0 (λ _. n) (λ _ after. after ≡ (Sending (stored_by (sender_of me.0)), []))
  frame_store_asks id f n code current waits =
      sender_asks id 0 (λ _. n) (λ _ after. after ≡ stored_by (sender_of me.0))
      (λ m _ after. after ≡ (Sending (stored_by (sender_of m.0)), [])) (omega arith)
      (λ _ after is. ap (λ (v : SendView). (Sending v, [])) is)
      (turns.frame_store g (sender_of me.0) f n code (current ∙ sym (ap current_frame sender_view))
      (subst (λ (v : SendView). Waits v.account) (sym sender_view) waits))

  pub close_store_asks : (id n : ℕ) → IsFrameCode n frame.Closed → seat.view.account.closed ≡ false
      → Asks t z g id me 0 (λ _. n) (λ _ after. after ≡ (Sending (closed_by (sender_of me.0)), []))
  close_store_asks id n code is_open =
      sender_asks id 0 (λ _. n) (λ _ after. after ≡ closed_by (sender_of me.0))
      (λ m _ after. after ≡ (Sending (closed_by (sender_of m.0)), [])) (omega arith)
      (λ _ after is. ap (λ (v : SendView). (Sending v, [])) is)
      (turns.close_store g (sender_of me.0) n code (ap (λ (v : SendView). v.account.closed) sender_view ∙ is_open))

-- ---- the receiver's steps

module _ {link : LinkId} {seat : SeatedReceiver} {z t : TableId} {g : LinkSetup} {me : SeatView}
    (at : ReceiverAt link seat z t g me) where
  receiver_view : receiver_of me.0 ≡ seat.view
  receiver_view = ap (λ (s : SeatedReceiver). s.view) at.seat_is

  -- the seat has the table of its link
  receiver_table : t ≡ z
  receiver_table =
      ap (λ (s : SeatedReceiver). s.table) at.seat_is
      ∙ (ap (λ (l : LinkId). l.table) at.own ∙ sym (ap (λ (l : LinkId). l.table) at.link_is))

  -- a turn of the receiver is what a call asks
  receiver_asks : (id word : ℕ) (f : ℕ → ℕ) (then : ℕ → RecvView → Type 0) (told : SeatView → ℕ → SeatView → Type 0)
      → word < 2
      → ((n : ℕ) (after : RecvView) → then n after → told (Receiving (receiver_of me.0), []) n (Receiving after, []))
      → RecvTurn g (receiver_of me.0) word f then → Asks t z g id me word f (told me)
  receiver_asks id word f then told within tells turn = (
    receiver_table,
    subst (λ n. word < n) (sym at.two_words) within,
    subst (λ (m : SeatView). Allows (Keeps g) z.slots id m word f (told m)) (sym at.receives)
        (receiver_allows g z.slots id (receiver_of me.0) word f then (told (Receiving (receiver_of me.0), []))
        tells turn),
  )

  pub frame_load_asks : (id : ℕ)
      → Asks t z g id me 0 (λ n. n) (λ n after. (word : FrameWord) × IsFrameCode n word
      × (after ≡ (Receiving (after_frame (receiver_of me.0) word), [])))
  frame_load_asks id =
      receiver_asks id 0 (λ n. n)
      (λ n after. (word : FrameWord) × IsFrameCode n word × (after ≡ after_frame (receiver_of me.0) word))
      (λ m n after. (word : FrameWord) × IsFrameCode n word
      × (after ≡ (Receiving (after_frame (receiver_of m.0) word), []))) (omega arith)
      (λ n after (word, code, is). (word, code, ap (λ (v : RecvView). (Receiving v, [])) is))
      (turns.frame_load g (receiver_of me.0))

  pub frame_look_asks : (id : ℕ)
      → Asks t z g id me 0 (λ n. n) (λ n after. (word : FrameWord) × IsFrameCode n word
      × (after ≡ (Receiving (after_look (receiver_of me.0) word), [])))
  frame_look_asks id =
      receiver_asks id 0 (λ n. n)
      (λ n after. (word : FrameWord) × IsFrameCode n word × (after ≡ after_look (receiver_of me.0) word))
      (λ m n after. (word : FrameWord) × IsFrameCode n word
      × (after ≡ (Receiving (after_look (receiver_of m.0) word), []))) (omega arith)
      (λ n after (word, code, is). (word, code, ap (λ (v : RecvView). (Receiving v, [])) is))
      (turns.frame_look g (receiver_of me.0))

  pub ack_store_asks : (id label n : ℕ) → IsAckCode n (ack.Full label) → label ≡ seat.view.label
      → Asks t z g id me 1 (λ _. n) (λ _ after. after ≡ (Receiving (answered_by (receiver_of me.0)), []))
  ack_store_asks id label n code current =
      receiver_asks id 1 (λ _. n) (λ _ after. after ≡ answered_by (receiver_of me.0))
      (λ m _ after. after ≡ (Receiving (answered_by (receiver_of m.0)), [])) (omega arith)
      (λ _ after is. ap (λ (v : RecvView). (Receiving v, [])) is)
      (turns.ack_store g (receiver_of me.0) label n code
      (current ∙ sym (ap (λ (v : RecvView). v.label) receiver_view)))

-- ---- the split of a seat

pub seat_split_asks : {link seat : LinkId} {z t : TableId} {g : LinkSetup} {me : SeatView} → link_id z g ≡ link → z.words ≡ 2
    → link_id t (given_of me.0) ≡ seat → me ≡ (Opening (given_of me.0), []) → seat ≡ link → (id : ℕ)
    → (t ≡ z) × (0 < z.words) × Splits (Keeps g) id me.0 (sender_part me.0) (receiver_part me.0)
seat_split_asks {link} {seat} {z} {t} {g} {me} link_is two_words seat_is opens own id = (
  ap (λ (l : LinkId). l.table) (seat_is ∙ (own ∙ sym link_is)),
  subst (λ n. 0 < n) (sym two_words) (omega arith),
  subst (λ (m : SeatView). Splits (Keeps g) id m.0 (sender_part m.0) (receiver_part m.0)) (sym opens)
      (turns.seat_split g (given_of me.0) id),
)

-- ---- the join of a seat

pub seat_join_asks : {link : LinkId} {sender : SeatedSender} {receiver : SeatedReceiver} {z t u : TableId} {g : LinkSetup}
    {me you : SeatView} → SenderAt link sender z t g me → ReceiverAt link receiver z u g you → (id other : ℕ)
    → (t ≡ z) × (u ≡ z) × (you.1 ≡ []) × (0 < z.words)
    × Joins (Keeps g) id me.0 other you.0 (joined me.0 you.0) Spent
seat_join_asks {link} {sender} {receiver} {z} {t} {u} {g} {me} {you} from into id other =
    let allowed = turns.seat_join g (sender_of me.0) (receiver_of you.0) id other in (
      sender_table from,
      receiver_table into,
      ap (λ (m : SeatView). m.1) into.receives,
      subst (λ n. 0 < n) (sym from.two_words) (omega arith),
      subst (λ (ends : SeatView × SeatView). Joins (Keeps g) id ends.0.0 other ends.1.0 (joined ends.0.0 ends.1.0) Spent)
          (λ i. (sym from.sends i, sym into.receives i)) allowed,
    )
