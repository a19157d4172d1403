-- After its last fault no step hits a node.
use Rattle.std.proofs.Common.{◌≡◌, ℕ, zero, suc, ◌-◌, ◌<◌, ◌≤◌, ◌==◌, List, [], ◌∷◌, ◌++◌, length, take, drop, Option, Some, None, option_and_then, Bool, true, false, if◌then◌else◌, refl, ap, sym, subst, ◌∙◌, append_assoc, arith, eq-eqb, inl, inr}
use Rattle.std.specs.Option.{option_map_or}
use Rattle.std.proofs.lemmas.Bool.{cases_lt}
use Rattle.stab_treecore.specs.declared.change.Change.{Change}
use Rattle.stab_treecore.specs.declared.change.Change.TheVariants.{Act, Publish, Strike, Restart}
use Rattle.stab_treecore.specs.Hits.{Spare}
use Rattle.stab_frames.specs.Parameters.{Parameters}
use Rattle.stab_rounds.specs.TreePlayed.{round_from}
use Rattle.stab_tree.specs.IsTree.{IsRooted}
use Rattle.stab_tree.specs.Links.{links_of}
use Rattle.stab_tree.specs.Nodes.{Nodes, parent_at}
use Rattle.stab_tree.specs.Steps.{Reaches, ancestor, depth_of}
use Rattle.stab_tree.proofs.Steps.{ancestor-none, ancestor-suc}
use Rattle.stab_tree.proofs.Trees.{tree_depths}
use Rattle.stab_treecore.specs.declared.event.TreeEvent.{TreeEvent}
use Rattle.rignolda_scenario.specs.declared.step.Step.{Step}
use Rattle.rignolda_scenario.specs.declared.step.Step.TheVariants.{One, Rounds, ReadingRounds}
use Rattle.rignolda_scenario.specs.LastFault.{hits, is_on_path, is_within, last_after, last_fault}
use Rattle.rignolda_scenario.specs.Played.{acts, changes_in, changes_of, reading_round_of, repeated}

-- ---- paths

-- a node that is not within `count` steps is not reached by them
not_within : (ps : List (Option ℕ)) (count other at : ℕ) → is_within ps count other at ≡ false → (k : ℕ) → k ≤ count
    → ancestor ps k at ≡ Some other → ⊥
not_within ps zero other at not k few leads =
    let here : at ≡ other = (let none : k ≡ 0 = omega (arith, few) in let leads_here = subst (λ n. ancestor ps n at ≡ Some other) none leads in cc) in
    let is : (at == other) ≡ true = eq-eqb at other here in
    (let never : true ≡ false = sym is ∙ not in cc)
not_within ps (suc count) other at not zero few leads =
    let here : at ≡ other = cc in
    let is : (at == other) ≡ true = eq-eqb at other here in
    (let never : true ≡ false = ap (λ b. if b then true else option_map_or (is_within ps count other) (parent_at ps at) false) (sym is) ∙ not in cc)
not_within ps (suc count) other at not (suc k) few leads =
    by (λ parent below. not_within ps count other parent below k (omega (arith, few))) (at == other) (parent_at ps at) refl not leads
  where
    by : ((parent : ℕ) → is_within ps count other parent ≡ false → ancestor ps k parent ≡ Some other → ⊥) → (here : Bool) (above : Option ℕ) → parent_at ps at ≡ above → (if here then true else option_map_or (is_within ps count other) above false) ≡ false
        → option_and_then (ancestor ps k) above ≡ Some other → ⊥
    by up true above is not leads = (let never : true ≡ false = not in cc)
    by up false None is not leads = (let never : None ≡ Some other = leads in cc)
    by up false (Some parent) is not leads = up parent not leads

-- a way that goes on is no longer than one to a node without a parent
no_longer : (ps : List (Option ℕ)) (depth k node root other : ℕ) → ancestor ps depth node ≡ Some root → parent_at ps root ≡ None
    → ancestor ps k node ≡ Some other → k ≤ depth
no_longer ps depth zero node root other leads ends goes = omega arith
no_longer ps zero (suc k) node root other leads ends goes =
    let here : node ≡ root = cc in
    let none : parent_at ps node ≡ None = ap (parent_at ps) here ∙ ends in
    (let never : None ≡ Some other = sym (ancestor-none ps k node none) ∙ goes in cc)
no_longer ps (suc depth) (suc k) node root other leads ends goes =
    by (λ parent to_root onward. no_longer ps depth k parent root other to_root ends onward) (parent_at ps node) refl
  where
    by : ((parent : ℕ) → ancestor ps depth parent ≡ Some root → ancestor ps k parent ≡ Some other → k ≤ depth) → (above : Option ℕ) → parent_at ps node ≡ above → suc k ≤ suc depth
    by up None is = (let never : None ≡ Some other = sym (ancestor-none ps k node is) ∙ goes in cc)
    by up (Some parent) is =
        let shorter : k ≤ depth = up parent (sym (ancestor-suc ps depth node parent is) ∙ leads)
        (sym (ancestor-suc ps k node parent is) ∙ goes) in
        omega (arith, shorter)

-- a node that is not on the path is not reached
pub not_reached : (t : Nodes) → IsRooted t.parents → (node other : ℕ) → node < length t.parents → is_on_path t.parents node other ≡ false
    → Reaches t.parents node other → ⊥
not_reached t tree node other is_node not (k, goes) =
    not_within t.parents (depth_of t.parents node) other node not k
    (no_longer t.parents (depth_of t.parents node) k node _ other ((tree_depths t.parents tree).steps node is_node) tree.root_has_none goes) goes

-- ---- changes

spare_acts : (ps : List (Option ℕ)) (node : ℕ) (events : List TreeEvent) (rest : List Change) → Spare ps node rest → Spare ps node (acts events ++ rest)
spare_acts ps node [] rest spare = spare
spare_acts ps node (e ∷ events) rest spare = ((λ never. never), spare_acts ps node events rest spare)

spare_repeated : (ps : List (Option ℕ)) (node times : ℕ) (events : List TreeEvent) (rest : List Change) → Spare ps node rest
    → Spare ps node (repeated times events ++ rest)
spare_repeated ps node zero events rest spare = spare
spare_repeated ps node (suc times) events rest spare =
    subst (Spare ps node) (sym (append_assoc (acts events) (repeated times events) rest))
    (spare_acts ps node events (repeated times events ++ rest) (spare_repeated ps node times events rest spare))

module _ (t : Nodes) (tree : IsRooted t.parents) (params : List Parameters) (node : ℕ) (is_node : node < length t.parents) where
  spare_step : (step : Step) (rest : List Change) → hits t.parents node step ≡ false → Spare t.parents node rest
      → Spare t.parents node (changes_in t.parents params step ++ rest)
  spare_step (One (Act e)) rest not spare = ((λ never. never), spare)
  spare_step (One (Publish items)) rest not spare = ((λ never. never), spare)
  spare_step (One (Strike child start)) rest not spare = (not_reached t tree node child is_node not, spare)
  spare_step (One (Restart other list)) rest not spare = (not_reached t tree node other is_node not, spare)
  spare_step (Rounds count) rest not spare = spare_repeated t.parents node count (round_from 0 t.parents) rest spare
  spare_step (ReadingRounds count) rest not spare =
      spare_repeated t.parents node count (reading_round_of (links_of t.parents) params) rest spare

  -- the last fault is no earlier than what was the last so far
  no_earlier : (steps : List Step) (count last : ℕ) → last ≤ count → last ≤ last_after t.parents node count last steps
  no_earlier [] count last few = omega arith
  no_earlier (step ∷ steps) count last few = by (λ n. no_earlier steps (suc count) n) (hits t.parents node step)
    where
      by : ((n : ℕ) → n ≤ suc count → n ≤ last_after t.parents node (suc count) n steps)
          → (b : Bool) → last ≤ last_after t.parents node (suc count) (if b then suc count else last) steps
      by rest true = omega (arith, few, rest (suc count) (omega arith))
      by rest false = rest last (omega (arith, few))

  spare_nothing : (n : ℕ) → Spare t.parents node (changes_of t.parents params (drop n []))
  spare_nothing zero = tt
  spare_nothing (suc n) = tt

  -- the steps after the last fault spare the node
  spare_after : (steps : List Step) (count last : ℕ) → last ≤ count
      → Spare t.parents node (changes_of t.parents params (drop (last_after t.parents node count last steps - count) steps))
  spare_after [] count last few = spare_nothing (last - count)
  spare_after (step ∷ steps) count last few = by (λ n. spare_after steps (suc count) n) (hits t.parents node step) refl
    where
      Good : ℕ → Type 0
      Good r = Spare t.parents node (changes_of t.parents params (drop (r - count) (step ∷ steps)))

      later : (r : ℕ) → suc count ≤ r → Spare t.parents node (changes_of t.parents params (drop (r - suc count) steps)) → Good r
      later r more spare =
          let one : r - count ≡ suc (r - suc count) = omega (arith, more) in
          subst (λ n. Spare t.parents node (changes_of t.parents params (drop n (step ∷ steps)))) (sym one) spare

      by : ((n : ℕ) → n ≤ suc count
          → Spare t.parents node (changes_of t.parents params (drop (last_after t.parents node (suc count) n steps - suc count) steps)))
          → (b : Bool) → hits t.parents node step ≡ b → Good (last_after t.parents node (suc count) (if b then suc count else last) steps)
      by rest true is =
          later (last_after t.parents node (suc count) (suc count) steps) (no_earlier steps (suc count) (suc count) (omega arith))
          (rest (suc count) (omega arith))
      by rest false is =
          let r = last_after t.parents node (suc count) last steps in
          let spare = rest last (omega (arith, few)) in
          elim (cases_lt r (suc count)) [
            | inl none ↦
                let at_once : r - suc count ≡ 0 = omega (arith, none) in
                let at_first : r - count ≡ 0 = omega (arith, none) in
                subst (λ n. Spare t.parents node (changes_of t.parents params (drop n (step ∷ steps)))) (sym at_first)
                (spare_step step (changes_of t.parents params steps) is
                (subst (λ n. Spare t.parents node (changes_of t.parents params (drop n steps))) at_once spare))
            | inr more ↦ later r (omega (arith, more)) spare
          ]

  -- and so do those after the last of all
  pub spare_since : (steps : List Step) → Spare t.parents node (changes_of t.parents params (drop (last_fault t.parents node steps) steps))
  spare_since steps =
      subst (λ n. Spare t.parents node (changes_of t.parents params (drop n steps)))
      (let same : last_fault t.parents node steps - 0 ≡ last_fault t.parents node steps = omega arith in same)
      (spare_after steps 0 0 (omega arith))

-- the changes of steps, in two parts
pub changes_of-parts : (ps : List (Option ℕ)) (params : List Parameters) (k : ℕ) (steps : List Step)
    → changes_of ps params steps ≡ changes_of ps params (take k steps) ++ changes_of ps params (drop k steps)
changes_of-parts ps params zero steps = refl
changes_of-parts ps params (suc k) [] = refl
changes_of-parts ps params (suc k) (step ∷ steps) =
    ap (λ cs. changes_in ps params step ++ cs) (changes_of-parts ps params k steps)
    ∙ sym (append_assoc (changes_in ps params step) (changes_of ps params (take k steps)) (changes_of ps params (drop k steps)))
