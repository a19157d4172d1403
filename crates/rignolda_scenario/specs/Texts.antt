-- The lines of a scenario: of the root how many items are published, and these; of each other node
-- the step of the last fault on its path, how many items it received since, what the law allows,
-- and then what it received and what was published, both counted from that step.
-- Source: this project's own; numbers are in plain decimal, as std prints them.
use Rattle.std.specs.Prelude.{ℕ, zero, suc, List, [], ◌++◌, length, codes, slice_index_or}
use Rattle.std.specs.List.{flat_map, range_with_len}
use Rattle.stab_core.specs.Texts.{newline, number_entry, numbers_line}
use Rattle.stab_job.specs.JobValues.{JobValue}
use Rattle.stab_tree.specs.Steps.{depth_of}
use Rattle.stab_treecore.specs.WholeTree.{WholeTree, received}
use Rattle.rignolda_scenario.specs.declared.read.Scenario.{Scenario}
use Rattle.rignolda_scenario.specs.declared.step.Step.{Step}
use Rattle.rignolda_scenario.specs.Counts.{Counted, counted_over, state_after, state_since}
use Rattle.rignolda_scenario.specs.LastFault.{last_fault}

-- the lines of the root
unfoldable pub root_text : List ℕ → ℕ → List ℕ → List ℕ
root_text name since published =
    name ++ codes " since" ++ number_entry since ++ codes " published"
    ++ number_entry (length published) ++ newline ++ numbers_line (codes "items:") published

-- the words of what the law allows
unfoldable pub bounds_words : ℕ → ℕ → List ℕ
bounds_words strays missing =
    codes ", strays at most" ++ number_entry strays ++ codes ", missing among the first"
    ++ number_entry missing ++ newline

-- the lines of another node
unfoldable pub node_text : List ℕ → Counted → List ℕ
node_text name c =
    name ++ codes " since" ++ number_entry c.since ++ codes " received"
    ++ number_entry (length c.gained) ++ bounds_words c.strays c.missing
    ++ numbers_line (codes "items:") c.gained ++ numbers_line (codes "published:") c.published

-- the lines of a node at this depth, counted from the state `s`, which the step of this number left,
-- to the state `t`
abbrev pub text_over : ℕ → WholeTree → WholeTree → ℕ → List ℕ → ℕ → List ℕ
text_over since s t zero name node = root_text name since (received t node)
text_over since s t (suc depth) name node = node_text name (counted_over since s t node)

-- the lines of a node, counted from the last fault that hits it
abbrev pub lines_of : JobValue → List Step → ℕ → List ℕ
lines_of j steps node =
    text_over (last_fault j.tree.parents node steps) (state_since j steps node)
    (state_after j steps) (depth_of j.tree.parents node) (slice_index_or j.tree.names node []) node

-- the lines of each node, in file order
unfoldable pub scenario_text : Scenario → List ℕ
scenario_text s =
    flat_map (lines_of s.job s.steps) (range_with_len 0 (length s.job.tree.parents))
