-- What contracts see of a link of either kind, and of what belongs to it: what it was given, what
-- names it, its kind, and which ends are its own.
-- Source: this project's own.
use Rattle.std.specs.Prelude.{◌≡◌}
use Rattle.stab_acts.specs.Scripts.{Acts}
use Rattle.stab_core.specs.LinkSetup.{LinkSetup}
use Rattle.stab_ends.specs.Accounts.{SenderAccount, ReceiverAccount}
use Rattle.stab_lock.specs.declared.settle.SettleFault.{SettleFault}
use Rattle.stab_run.specs.AnyEnds.{AnyLinkId, locked, of_words}
use Rattle.stab_run.specs.Scripted.{FollowPlans, ScriptedRecvEnd, ScriptedRecvFinished}
use Rattle.stab_run.specs.Scripted.{ScriptedSendEnd, ScriptedSendFinished}
use Rattle.stab_run.specs.LinkKinds.{IsLocked, LinkKind, behind_lock, kind_for, two_words}
use Rattle.stab_run.specs.Settled.{DifferFromBook, IsSettledByScript}
use Rattle.stab_run.specs.declared.any_link.AnyLink.{AnyLink}
use Rattle.stab_run.specs.declared.any_link.AnyLink.TheVariants.{Lock, Word}
use Rattle.stab_run.specs.declared.any_link.AnyOpening.{AnyOpening}
use Rattle.stab_run.specs.declared.any_link.AnyOpening.TheVariants as opening
use Rattle.stab_run.specs.declared.links.Links.{Links}

-- its parameters and its start
abbrev pub given_to : AnyLink → LinkSetup
given_to (Lock link) = link.given
given_to (Word link) = link.given

-- what names it
abbrev pub name_of : AnyLink → AnyLinkId
name_of (Lock link) = locked
name_of (Word link) = of_words link

-- its kind
abbrev pub kind_of : AnyLink → LinkKind
kind_of (Lock link) = behind_lock
kind_of (Word link) = two_words

-- it is of the kind that a run over these links has for its parameters
abbrev pub IsOneOf : Links → AnyLink → Type 0
IsOneOf links link = kind_of link ≡ kind_for links (given_to link).params

-- a locked link has this script; a link of two words has none before it is split
abbrev pub IsScriptOf : Acts → AnyLink → Type 0
IsScriptOf script (Lock link) = link.script ≡ script
IsScriptOf script (Word link) = Unit {0}

-- this splits it
abbrev pub IsOpenedBy : AnyLink → AnyOpening → Type 0
IsOpenedBy (Lock link) opening.Lock = Unit {0}
IsOpenedBy (Lock link) (opening.Word splits) = ⊥
IsOpenedBy (Word link) opening.Lock = ⊥
IsOpenedBy (Word link) (opening.Word splits) = splits ≡ link

-- an end of either side is that of this link
abbrev pub Sends : AnyLink → ScriptedSendEnd → Type 0
Sends link end = end.link.id ≡ name_of link

abbrev pub Receives : AnyLink → ScriptedRecvEnd → Type 0
Receives link end = end.link.id ≡ name_of link

-- and so is a finished end
abbrev pub HasSent : AnyLink → ScriptedSendFinished → Type 0
HasSent link done = done.link.id ≡ name_of link

abbrev pub HasReceived : AnyLink → ScriptedRecvFinished → Type 0
HasReceived link done = done.link.id ≡ name_of link

-- the account of a finished end
abbrev pub sent_by : ScriptedSendFinished → SenderAccount
sent_by done = done.account

abbrev pub received_by : ScriptedRecvFinished → ReceiverAccount
received_by done = done.account

-- the ends of a link followed what they have to follow: those of a link of two words their plan,
-- those of a locked link its own script, by the history behind its lock
abbrev pub IsFollowed : AnyLink → ScriptedSendFinished → ScriptedRecvFinished → Type 0
IsFollowed (Lock link) send recv =
    IsSettledByScript link.given link.script send.account recv.account
IsFollowed (Word link) send recv = FollowPlans link.given send recv

-- what is known where a link of this setup is called different in a run over these links: it has
-- a lock, and the accounts differ in this way from a book of the link
abbrev pub MayDiffer : Links → LinkSetup → SenderAccount → ReceiverAccount → SettleFault → Type 0
MayDiffer links link send recv why =
    IsLocked links link × DifferFromBook link send recv why
