-- What contracts see of an end of either kind of link, and of what remains of it once it is
-- finished; and when a call over a link of two words is the call of the end inside. The kind is
-- part of what names a link, so an end that keeps its link keeps its kind.
-- Example: The end of a link with a lock has the link `locked`, whichever it is; that of a link of
-- two words names its table. So where a finished end names a table, it is not the end of a link
-- with a lock.
-- Source: this project's own.
use Rattle.std.specs.Prelude.{◌≡◌, []}
use Rattle.stab_ends.specs.Accounts.{SenderAccount, ReceiverAccount}
use Rattle.stab_acts.specs.Scripts.{ActsRemaining}
use Rattle.stab_word.specs.Ends.{WordSendView, WordRecvView}
use Rattle.stab_word.specs.Seats.{LinkId}
use Rattle.stab_run.specs.declared.any_send.AnySend.{AnySend}
use Rattle.stab_run.specs.declared.any_send.AnySend.TheVariants as send
use Rattle.stab_run.specs.declared.any_send.AnySendDone.{AnySendDone}
use Rattle.stab_run.specs.declared.any_send.AnySendDone.TheVariants as send_done
use Rattle.stab_run.specs.declared.any_recv.AnyRecv.{AnyRecv}
use Rattle.stab_run.specs.declared.any_recv.AnyRecv.TheVariants as recv
use Rattle.stab_run.specs.declared.any_recv.AnyRecvDone.{AnyRecvDone}
use Rattle.stab_run.specs.declared.any_recv.AnyRecvDone.TheVariants as recv_done

-- a link: it has a lock, or it is this link of two words
pub data AnyLinkId : Type 0 where
  locked : AnyLinkId
  of_words : LinkId → AnyLinkId

-- what is known where the sender's end of a link does not take an item that its account allows:
-- that never happens over two words, and over a lock nothing is known
abbrev pub MayRefuseOffer : AnyLinkId → Type 0
MayRefuseOffer locked = Unit {0}
MayRefuseOffer (of_words link) = ⊥

-- the sender's end: its link, its account, and the acts that remain, of which an end of a locked
-- link has none beside its lock
pub record AnySendEnd : Type 0 where
  pub link : AnyLinkId
  pub account : SenderAccount
  pub acts : ActsRemaining

-- the receiver's end: its link, its account, and the acts that remain
pub record AnyRecvEnd : Type 0 where
  pub link : AnyLinkId
  pub account : ReceiverAccount
  pub acts : ActsRemaining

-- a finished end: its link and its account
pub record AnySendFinished : Type 0 where
  pub link : AnyLinkId
  pub account : SenderAccount

pub record AnyRecvFinished : Type 0 where
  pub link : AnyLinkId
  pub account : ReceiverAccount

abbrev pub any_send_end : {R : Type 0} → AnySend R → AnySendEnd
any_send_end (send.Lock end) =
    record { link = locked; account = end.account; acts = record { outs = []; ins = [] } }
any_send_end (send.Word end) =
    record { link = of_words end.link; account = end.sent; acts = end.acts }

abbrev pub any_recv_end : {R : Type 0} → AnyRecv R → AnyRecvEnd
any_recv_end (recv.Lock end) =
    record { link = locked; account = end.account; acts = record { outs = []; ins = [] } }
any_recv_end (recv.Word end) =
    record { link = of_words end.link; account = end.received; acts = end.acts }

abbrev pub any_send_finished : AnySendDone → AnySendFinished
any_send_finished (send_done.Lock done) = record { link = locked; account = done }
any_send_finished (send_done.Word done) =
    record { link = of_words done.link; account = done.sent }

abbrev pub any_recv_finished : AnyRecvDone → AnyRecvFinished
any_recv_finished (recv_done.Lock done) = record { link = locked; account = done }
any_recv_finished (recv_done.Word done) =
    record { link = of_words done.link; account = done.received }

-- over two words a call is this call of the end inside; over a lock this says nothing
abbrev pub OfWordSend : {R : Type 0} → (WordSendView → WordSendView → Type 0)
    → AnySend R → AnySend R → Type 0
OfWordSend IsCall (send.Lock old) (send.Lock new) = Unit {0}
OfWordSend IsCall (send.Lock old) (send.Word new) = ⊥
OfWordSend IsCall (send.Word old) (send.Lock new) = ⊥
OfWordSend IsCall (send.Word old) (send.Word new) = IsCall old new

abbrev pub OfWordRecv : {R : Type 0} → (WordRecvView → WordRecvView → Type 0)
    → AnyRecv R → AnyRecv R → Type 0
OfWordRecv IsCall (recv.Lock old) (recv.Lock new) = Unit {0}
OfWordRecv IsCall (recv.Lock old) (recv.Word new) = ⊥
OfWordRecv IsCall (recv.Word old) (recv.Lock new) = ⊥
OfWordRecv IsCall (recv.Word old) (recv.Word new) = IsCall old new

-- a finished end of a link of two words made the steps that the end made before
abbrev pub SameSendSteps : {R : Type 0} → AnySend R → AnySendDone → Type 0
SameSendSteps (send.Lock end) (send_done.Lock done) = Unit {0}
SameSendSteps (send.Lock end) (send_done.Word done) = ⊥
SameSendSteps (send.Word end) (send_done.Lock done) = ⊥
SameSendSteps (send.Word end) (send_done.Word done) = done.steps ≡ end.steps

abbrev pub SameRecvSteps : {R : Type 0} → AnyRecv R → AnyRecvDone → Type 0
SameRecvSteps (recv.Lock end) (recv_done.Lock done) = Unit {0}
SameRecvSteps (recv.Lock end) (recv_done.Word done) = ⊥
SameRecvSteps (recv.Word end) (recv_done.Lock done) = ⊥
SameRecvSteps (recv.Word end) (recv_done.Word done) = done.steps ≡ end.steps
