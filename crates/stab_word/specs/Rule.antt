-- The rule of a link of two words, which holds between any two atomic steps: the steps that its
-- ends made, in some order, lead from the link's start to a state that the words and both views
-- show.
-- Example: After step 3 of the worst start over two words, in docs/PROTOCOL.md: the words show the
-- frame 2=99 and the acknowledgement 1; the sender has label 1 and one acknowledged item; the
-- receiver remembers 1 and delivered nothing. The state after `["offer", 10]`, `"recv_ack_keep"`,
-- `["lose_ack", 0]`, `"send_ack"` is shown by these words and views. Were the acknowledgement in
-- the word 2, it would not be: before the receiver takes the frame, no state has an acknowledgement
-- 2.
-- Source: this project's own.
use Rattle.std.specs.Prelude.{◌≡◌, ℕ, List, [], ◌∷◌}
use Rattle.atomic_table.specs.Table.{State}
use Rattle.stab_core.specs.LinkState.{LinkState}
use Rattle.stab_core.specs.Replay.{initial}
use Rattle.stab_core.specs.LinkSetup.{LinkSetup}
use Rattle.stab_ends.specs.Agreement.{Agree}
use Rattle.stab_word.specs.Interleaving.{Interleaved}
use Rattle.stab_word.specs.Words.{WordsShow}
use Rattle.stab_word.specs.declared.view.SendView.{SendView}
use Rattle.stab_word.specs.declared.view.RecvView.{RecvView}
use Rattle.stab_word.specs.declared.view.View.{View}
use Rattle.stab_word.specs.declared.view.View.TheVariants.{Opening, Sending, Receiving}
use Rattle.stab_word.specs.declared.view.View.TheVariants.{Joined, Spent}

-- the words and both views show this state, to which the steps of both views lead
pub record Shows (g : LinkSetup) (words : List ℕ) (x : SendView) (y : RecvView)
    (s : LinkState) : Type 0 where
  pub one_place : g.params.capacity ≡ 1
  pub interleaved : Interleaved g x.steps y.steps s
  pub in_words : WordsShow words s
  -- both views keep the parameters and the start
  pub sender_given : x.given ≡ g
  pub receiver_given : y.given ≡ g
  -- each label belongs to its end alone
  pub send_label : x.label ≡ s.send_label
  pub recv_label : y.label ≡ s.recv_label
  -- what was offered, acknowledged and delivered is the state's; so is the sender's close, and the
  -- receiver has seen the close only where the state is closed
  pub accounts : Agree s x.account y.account

-- the words and the views of all seats keep the rule: before the split the words code the start,
-- and the view that a join has spent says nothing
abbrev pub RuleHolds : LinkSetup → List ℕ → List View → Type 0
RuleHolds g words (Opening h ∷ []) =
    (h ≡ g) × (g.params.capacity ≡ 1) × WordsShow words (initial g.start)
RuleHolds g words (Sending x ∷ Receiving y ∷ []) = (s : LinkState) × Shows g words x y s
RuleHolds g words (Joined x y ∷ Spent ∷ []) = (s : LinkState) × Shows g words x y s
RuleHolds g words views = ⊥

-- the rule, over the whole of a table without slots
abbrev pub Keeps : LinkSetup → State (Unit {0}) View → Type 0
Keeps g table = RuleHolds g table.words table.views
