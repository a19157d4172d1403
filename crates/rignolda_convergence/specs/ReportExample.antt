-- A root and one agent below it. In the link is a stray whose number is ahead of the root's. The
-- agent receives it and reports; the root hears that twice, and publishes four tables.
-- Source: this project's own.
use Rattle.std.specs.Prelude.{ℕ, ◌==◌, if◌then◌else◌, List, [], ◌∷◌, ◌++◌, None, Some, false, true}
use Rattle.stab_core.specs.CounterExamples.{four_labels}
use Rattle.stab_core.specs.declared.act.LinkAct.TheVariants as act
use Rattle.stab_core.specs.Link.{LinkValue, link_at}
use Rattle.stab_core.specs.Replay.{initial}
use Rattle.stab_tree.specs.Nodes.{Nodes}
use Rattle.stab_treecore.specs.declared.change.Change.{Change}
use Rattle.stab_treecore.specs.declared.change.Change.TheVariants.{Publish}
use Rattle.stab_treecore.specs.Example.{on, struck_start}
use Rattle.rignolda_agent.specs.declared.body.Kind.TheVariants.{Table}
use Rattle.rignolda_agent.specs.BodySpelling.{Body}
use Rattle.rignolda_agent.specs.Agents.{Agent, none_set}
use Rattle.rignolda_agent.specs.Items.{Reading}
use Rattle.rignolda_agent.specs.Reports.{Publication}
use Rattle.rignolda_convergence.specs.AgentTrees.{AgentTree}

-- the link holds the stray 99
abbrev pub stray_link : LinkValue
stray_link = link_at four_labels (initial struck_start)

abbrev pub two_nodes : Nodes
two_nodes = record { names = []; parents = None ∷ Some 0 ∷ [] }

-- each item is a table, that of 99 with the number 12
abbrev pub body_of : ℕ → Body
body_of item =
    record { kind = Table; number = if item == 99 then 12 else item; settings = [] }

abbrev pub says : Reading
says item = Some (body_of item)

abbrev pub old_agent : Agent
old_agent = record {
  taker = record { number = 3; floor = 3; whole = true; in_a_round = false };
  waiting = [];
  files = none_set;
}

abbrev pub root_and_agent : AgentTree
root_and_agent = record {
  tree = record {
    published = [];
    openings = [] ∷ [] ∷ [];
    parents = None ∷ Some 0 ∷ [];
    links = None ∷ Some stray_link ∷ [];
  };
  agents = λ node. old_agent;
}

-- the agent receives the stray, and the root publishes
abbrev pub stray_comes : List Change
stray_comes = on 1 (act.RecvFrame false) ∷ []

abbrev pub root_publishes : List Change
root_publishes = Publish (13 ∷ 14 ∷ 15 ∷ 16 ∷ []) ∷ []

-- a reading round of the link
abbrev pub one_round : List Change
one_round =
    on 1 act.Offer ∷ on 1 (act.RecvFrame false) ∷ on 1 act.SendFrame ∷ on 1 (act.RecvFrame false)
    ∷ on 1 (act.RecvAck false) ∷ on 1 act.SendAck ∷ on 1 (act.RecvAck false) ∷ []

abbrev pub five_rounds : List Change
five_rounds = one_round ++ (one_round ++ (one_round ++ (one_round ++ (one_round ++ []))))

-- above the 12 of the report come 13 to 15, and then the table
abbrev pub above_report : List Publication
above_report =
    record { heard = 12 ∷ 12 ∷ []; body = body_of 13 }
    ∷ record { heard = []; body = body_of 14 } ∷ record { heard = []; body = body_of 15 } ∷ []
