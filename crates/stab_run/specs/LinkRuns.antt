-- A run of workers over links: what the workers leave, and what settling the links shows.
-- Source: this project's own.
use Rattle.std.specs.List.{AllZip}
use Rattle.std.specs.Prelude.{◌≡◌, ◌<◌, ℕ, List, [], ◌∷◌, map, Option, Some}
use Rattle.stab_core.specs.LinkSetup.{LinkSetup}
use Rattle.stab_ends.specs.Accounts.{SenderAccount, ReceiverAccount}
use Rattle.stab_job.specs.JobValues.{JobValue}
use Rattle.stab_run.specs.AnyEnds.{MayRefuseOffer}
use Rattle.stab_run.specs.AnyLinks.{HasReceived, HasSent, received_by, sent_by}
use Rattle.stab_run.specs.Scripted.{ScriptedRecvFinished, ScriptedSendFinished, plan}
use Rattle.stab_run.specs.Settled.{IsSettled}
use Rattle.stab_run.specs.declared.any_link.AnyLink.{AnyLink}
use Rattle.stab_lock.specs.declared.settle.SettleFault.{SettleFault}
use Rattle.stab_node.specs.declared.account.Ended.{Ended}
use Rattle.stab_node.specs.ByNode.{entry_into}
use Rattle.stab_node.specs.Runs.{IsRun}

-- of each link, with its two finished ends, this holds: the three lists are in the same order
abbrev pub AllOfEach : {L S R : Type 0} → (L → S → R → Type 0) → List L → List S → List R → Type 0
AllOfEach P [] [] [] = Unit {0}
AllOfEach P (link ∷ links) (send ∷ sends) (recv ∷ recvs) =
    P link send recv × AllOfEach P links sends recvs
AllOfEach P _ _ _ = ⊥

-- the accounts of each link are settled
abbrev pub AreSettled : List LinkSetup → List SenderAccount → List ReceiverAccount → Type 0
AreSettled links sends recvs = AllOfEach IsSettled links sends recvs

-- A link leads into this node, and this holds of its setup.
pub record HoldsInto (P : LinkSetup → Type 0) (parents : List (Option ℕ)) (links : List LinkSetup)
    (child : ℕ) : Type 0 where
  pub link : LinkSetup
  pub leads : entry_into parents links child ≡ Some link
  pub holds : P link

-- this holds of the first of these links, with the first account of each side and this reason
abbrev pub HoldsOfFirst : (LinkSetup → SenderAccount → ReceiverAccount → SettleFault → Type 0)
    → List LinkSetup → List SenderAccount → List ReceiverAccount → SettleFault → Type 0
HoldsOfFirst P (link ∷ links) (send ∷ sends) (recv ∷ recvs) why = P link send recv why
HoldsOfFirst P links sends recvs why = ⊥

-- the accounts of the links into the nodes before this one are settled
abbrev pub SettledBefore : List (Option ℕ) → List LinkSetup → List SenderAccount
    → List ReceiverAccount → ℕ → Type 0
SettledBefore parents links sends recvs node =
    (earlier : ℕ) (link : LinkSetup) (send : SenderAccount) (recv : ReceiverAccount)
    → earlier < node → entry_into parents links earlier ≡ Some link
    → entry_into parents sends earlier ≡ Some send → entry_into parents recvs earlier ≡ Some recv
    → IsSettled link send recv

-- The link into this child is the first in file order that is not settled with its two accounts:
-- this holds of it, of both accounts and of this reason.
pub record IsFirstRefused (P : LinkSetup → SenderAccount → ReceiverAccount → SettleFault → Type 0)
    (parents : List (Option ℕ)) (links : List LinkSetup) (sends : List SenderAccount)
    (recvs : List ReceiverAccount) (child : ℕ) (why : SettleFault) : Type 0 where
  pub link : LinkSetup
  pub send : SenderAccount
  pub recv : ReceiverAccount
  pub leads : entry_into parents links child ≡ Some link
  pub sent : entry_into parents sends child ≡ Some send
  pub received : entry_into parents recvs child ≡ Some recv
  pub refused : P link send recv why
  pub before : SettledBefore parents links sends recvs child

-- How many items are acknowledged on each link.
abbrev pub acked_of : SenderAccount → ℕ
acked_of send = send.acked

-- What the workers of a job leave over the ends of these links: a run of it, of which the finished
-- ends are those of the links, in their order, and had the scripts of the job to follow.
pub record IsJobRun (job : JobValue) (links : List AnyLink) (received : List (List ℕ))
    (ended : List Ended) (recvs : List ScriptedRecvFinished) (sends : List ScriptedSendFinished)
    : Type 0 where
  pub run : IsRun received_by sent_by (λ (send : ScriptedSendFinished). MayRefuseOffer send.link.id)
      job.tree.parents job.openings.lists job.items received ended recvs sends
  pub sent : AllZip HasSent links sends
  pub delivered : AllZip HasReceived links recvs
  pub send_plans : map (λ (send : ScriptedSendFinished). send.link.plan) sends
      ≡ map (plan job.turns) job.scripts
  pub recv_plans : map (λ (recv : ScriptedRecvFinished). recv.link.plan) recvs
      ≡ map (plan job.turns) job.scripts

-- The first of these links is settled with the first account of each side, and `acked` items are
-- acknowledged on it; the others are left.
pub record IsFirstSettled (acked : ℕ) (links : List LinkSetup) (sends : List SenderAccount)
    (recvs : List ReceiverAccount) (links_left : List LinkSetup) (sends_left : List SenderAccount)
    (recvs_left : List ReceiverAccount) : Type 0 where
  pub link : LinkSetup
  pub send : SenderAccount
  pub recv : ReceiverAccount
  pub the_link : links ≡ link ∷ links_left
  pub the_send : sends ≡ send ∷ sends_left
  pub the_recv : recvs ≡ recv ∷ recvs_left
  pub settled : IsSettled link send recv
  pub counts : acked ≡ send.acked
