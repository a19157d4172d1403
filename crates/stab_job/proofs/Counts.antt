-- Numbers of entries.
-- As many scripts as entries are made, and right numbers of entries make a job.
use Rattle.std.proofs.Common.{nat_lt, ◌≡◌, ◌≤◌, ℕ, suc, false, List, [], ◌∷◌, length, replicate, All, Option, Some, None, Result, Ok, Err, refl, sym, ap, ◌∙◌}
use Rattle.std.proofs.lemmas.Bool.{eqb-true, ltb-false, or_parts}
use Rattle.std.proofs.lemmas.List.{length-replicate}
use Rattle.stab_json.specs.Checks.{◌>>=◌}
use Rattle.stab_acts.specs.declared.fault.ScriptFault.{ScriptFault}
use Rattle.stab_script.specs.declared.script_entry.ScriptEntry.{ScriptEntry}
use Rattle.stab_script.specs.MadeScripts.{made}
use Rattle.stab_acts.specs.Scripts.{Acts, no_acts}
use Rattle.stab_frames.specs.Parameters.{Parameters, AreLawful}
use Rattle.stab_core.specs.declared.start.Start.{Start}
use Rattle.stab_core.specs.Replay.{clean_start}
use Rattle.stab_tree.specs.Nodes.{Nodes}
use Rattle.stab_treecore.specs.declared.event.TreeEvent.{TreeEvent}
use Rattle.stab_tree.specs.NodeOpenings.{FitTree, OpeningsValue, most_hold}
use Rattle.stab_job.specs.JobLinks.{are_miscounted, all_made, starts_of, scripts_of}
use Rattle.stab_job.specs.JobMembers.{Members}
use Rattle.stab_job.specs.JobValues.{IsJob, links, most_items, most_turns}
use Rattle.stab_job.specs.Jobs.{AreCounted, are_out_of_range}

-- a script before others is one more
length_more : (first : Result Acts ScriptFault) (others : Result (List Acts) ScriptFault) (n : ℕ) (scripts : List Acts)
    → ((more : List Acts) → others ≡ Ok more → length more ≡ n)
    → first >>= (λ script. others >>= (λ more. Ok (script ∷ more))) ≡ Ok scripts → length scripts ≡ suc n
length_more (Err fault) others n scripts for_others is = absurd cc
length_more (Ok script) (Err fault) n scripts for_others is = absurd cc
length_more (Ok script) (Ok more) n scripts for_others is =
    let same : script ∷ more ≡ scripts = cc in sym (ap length same) ∙ ap suc (for_others more refl)

-- where all scripts are made, there are as many as entries
length_made : (entries : List ScriptEntry) (scripts : List Acts) → all_made entries ≡ Ok scripts → length scripts ≡ length entries
length_made [] scripts is = let same : [] ≡ scripts = cc in sym (ap length same)
length_made (entry ∷ entries) scripts is = length_more (made entry) (all_made entries) (length entries) scripts (length_made entries) is

-- a list that is not miscounted has one entry for each link
pub right_number : {X : Type 0} (links : ℕ) (xs : List X) → are_miscounted links (Some xs) ≡ false → length xs ≡ links
right_number links xs right = eqb-true (length xs) links (Rattle.std.proofs.lemmas.Bool.not-false _ right)

length_scripts : (links : ℕ) (entries : Option (List ScriptEntry)) (scripts : List Acts)
    → are_miscounted links entries ≡ false → scripts_of links entries ≡ Ok scripts → length scripts ≡ links
length_scripts links None scripts right is =
    let same : replicate links no_acts ≡ scripts = cc in sym (ap length same) ∙ length-replicate links no_acts
length_scripts links (Some entries) scripts right is = length_made entries scripts is ∙ right_number links entries right

length_starts : (links : ℕ) (starts : Option (List Start)) → are_miscounted links starts ≡ false → length (starts_of links starts) ≡ links
length_starts links None right = length-replicate links clean_start
length_starts links (Some starts) right = right_number links starts right

-- where the numbers of entries are right, there is a script for each link
pub script_each : (m : Members) (t : Nodes) (n : ℕ) (scripts : List Acts)
    → AreCounted n m → n ≡ links t → scripts_of n m.scripts ≡ Ok scripts → length scripts ≡ links t
script_each m t n scripts counted each made = length_scripts n m.scripts scripts counted.one_script_each made ∙ each

-- members whose numbers of entries and turns are right are those of a job
pub parts_of_job : (m : Members) (t : Nodes) (params : List Parameters) (n : ℕ) (starts : List Start) (scripts : List Acts) (events : List TreeEvent) (openings : OpeningsValue)
    → length params ≡ links t → All AreLawful params → AreCounted (links t) m → length scripts ≡ links t → n ≡ links t → starts ≡ starts_of n m.starts → are_out_of_range m.turns ≡ false → FitTree t.parents openings → openings.hold ≤ most_hold
    → IsJob (record { params = params; tree = t; items = m.items; starts = starts; scripts = scripts; turns = m.turns; schedule = events; openings = openings })
parts_of_job m t params n starts scripts events openings params_each lawful counted script_each each are_starts in_range fit few_held = record {
  one_params_each = params_each;
  lawful_params = lawful;
  one_start_each = ap length are_starts ∙ length_starts n m.starts (rw each counted.one_start_each) ∙ each;
  one_script_each = script_each;
  openings_fit = fit;
  few_held = few_held;
  few_items = ltb-false most_items (length m.items) counted.few_items;
  some_turns = ltb-false m.turns 1 (or_parts (nat_lt m.turns 1) (nat_lt most_turns m.turns) in_range).0;
  few_turns = ltb-false most_turns m.turns (or_parts (nat_lt m.turns 1) (nat_lt most_turns m.turns) in_range).1;
}
