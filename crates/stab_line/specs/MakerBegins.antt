-- Why the end that accepts begins: acts that break the half law where the end that makes a
-- connection has the first turn there.
-- Source: this project's own.
use Rattle.std.specs.Prelude.{true, false, List, [], ◌∷◌}
use Rattle.stab_core.specs.CounterExamples.{four_labels}
use Rattle.stab_line.specs.Ends.{new_sender, new_receiver}
use Rattle.stab_line.specs.NodeTree.{put}
use Rattle.stab_line.specs.Session.{session_on}
use Rattle.stab_line.specs.SessionLink.{SessionLink, LinkAct, link_step, item_offered, happens}
use Rattle.stab_line.specs.SessionLink.{made, accepted, sender_makes, receiver_accepts, frame_sent}
use Rattle.stab_line.specs.SessionLink.{ack_sent, frame_comes, ack_comes, no_connection}

-- the step where the sender's end begins on a connection that it makes
abbrev pub maker_step : SessionLink → LinkAct → SessionLink
maker_step t (happens (sender_makes n)) =
    record t { stage = put t.stage n (made true); at_sender = session_on n true }
maker_step t (happens (receiver_accepts n)) =
    record t { stage = put t.stage n accepted; at_receiver = session_on n false }
maker_step t act = link_step four_labels t act

-- no connection, a sender with label 0 and a receiver that remembers none of its labels
abbrev pub clean_link : SessionLink
clean_link = no_connection (new_sender 0) (new_receiver 255)

-- The first frame lies on a connection that is accepted after the next one, on which its item was
-- delivered and acknowledged already.
abbrev pub late_acts : List LinkAct
late_acts =
    item_offered 10 ∷ happens (sender_makes 0) ∷ happens frame_sent
    ∷ happens (sender_makes 1) ∷ happens frame_sent
    ∷ happens (receiver_accepts 1) ∷ happens (frame_comes 1)
    ∷ happens ack_sent ∷ happens (ack_comes 1)
    ∷ item_offered 11 ∷ happens frame_sent ∷ happens (frame_comes 1)
    ∷ happens (receiver_accepts 0) ∷ happens (frame_comes 0) ∷ []
