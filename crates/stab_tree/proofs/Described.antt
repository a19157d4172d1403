-- A value is read to a tree exactly if it describes that tree.
use Rattle.std.proofs.Common.{◌≡◌, ◌≢◌, ℕ, zero, suc, ◌<◌, ◌≤◌, Bool, true, false, not, eqb, ltb, List, [], ◌∷◌, length, get_or, slice_get, Option, Some, None, is_some, option_map, Ok, Err, ◌⊎◌, ◌↔◌, inl, inr, ⊎_elim, zero-add, refl, sym, ◌∙◌, arith}
use Rattle.std.proofs.lemmas.Bool.{cases_Bool, and_cases, eqb-false, le-ltb, ltb-false, false_from_ne_true}
use Rattle.std.proofs.lemmas.List.FromFn.{length-range_with_len, get_or-range_with_len}
use Rattle.std.proofs.lemmas.Option.{get_or_from_slice_get, slice_get_within}
use Rattle.std.proofs.lemmas.Slice.Eq.{bytes_eq-Decides}
use Rattle.std.specs.List.{list_all, range_with_len, AllPairs}
use Rattle.std.specs.Str.{bytes_eq}
use Rattle.serde_json.specs.Data.{Data}
use Rattle.stab_tree.specs.Read.{tree_of}
use Rattle.stab_tree.specs.Parents.{parent_of, parents_of, root_count, have_depths}
use Rattle.stab_tree.specs.declared.fault.TreeFault.{TreeFault}
use Rattle.stab_tree.specs.declared.fault.TreeFault.TheVariants.{Shape, TooManyNodes, BadName, SameName, UnknownParent, NoRoot, TwoRoots, Cycle}
use Rattle.stab_json.specs.Checks.{◌>>◌, ◌when◌}
use Rattle.stab_tree.specs.Describes.{IsParent, Describes, HasCycle}
use Rattle.stab_tree.specs.Entry.{Entry, entries_of, names_of}
use Rattle.stab_tree.specs.IsTree.{IsRooted, IsTree}
use Rattle.stab_tree.specs.Name.{is_name, has_same_name}
use Rattle.stab_tree.specs.Nodes.{Nodes, most_nodes, parent_at, place_of}
use Rattle.stab_tree.specs.Steps.{depth_at}
use Rattle.stab_tree.proofs.Checked.{Passed, first_parent, known_parents, length-parents_of, IsTree-from_checks}
use Rattle.stab_tree.proofs.Depths.{have_depths-all}
use Rattle.stab_tree.proofs.OwnNames.{no_same_name}
use Rattle.stab_tree.proofs.Places.{position-is, place_found}
use Rattle.stab_tree.proofs.Steps.{option_cases}
use Rattle.stab_tree.proofs.Trees.{one_root, depth_found, depth_means}

-- ---- a value whose checks have passed, but for the last

record Listed (d : Data) : Type 0 where
  entries : List Entry
  parents : List (Option ℕ)
  listed : entries_of d ≡ Some entries
  passed : Passed entries parents

-- what is read of such a value: its nodes where each has a depth, and else a cycle
tree_of-listed : (d : Data) (l : Listed d) (deep : Bool) → have_depths l.parents ≡ deep
    → tree_of d ≡ (Cycle when not deep >> Ok (record { names = names_of l.entries; parents = l.parents }))
unfolding tree_of
tree_of-listed d l deep is =
    let p = l.passed in
    rw (l.listed, le-ltb most_nodes (length l.entries) p.few, p.lawful, p.own, p.found, p.one, is) refl

-- a value is refused by an earlier check, or is such a value
listed_or : (d : Data) → Listed d ⊎ ((f : TreeFault) × (tree_of d ≡ Err f) × (f ≢ Cycle))
unfolding tree_of
listed_or d =
    elim (option_cases (entries_of d)) [
      | inl shape ↦ inr (Shape, rw shape refl, λ e. cc)
      | inr (es, listed) ↦ elim (cases_Bool (ltb most_nodes (length es))) [
        | inl many ↦ inr (TooManyNodes, rw (listed, many) refl, λ e. cc)
        | inr few ↦ elim (cases_Bool (list_all is_name (names_of es))) [
          | inr bad ↦ inr (BadName, rw (listed, few, bad) refl, λ e. cc)
          | inl lawful ↦ elim (cases_Bool (has_same_name (names_of es))) [
            | inl same ↦ inr (SameName, rw (listed, few, lawful, same) refl, λ e. cc)
            | inr own ↦ elim (option_cases (parents_of (names_of es) es)) [
              | inl unknown ↦ inr (UnknownParent, rw (listed, few, lawful, own, unknown) refl, λ e. cc)
              | inr (ps, found) ↦ elim (cases_Bool (eqb (root_count ps) 0)) [
                | inl none ↦ inr (NoRoot, rw (listed, few, lawful, own, found, none) refl, λ e. cc)
                | inr some ↦ elim (cases_Bool (ltb 1 (root_count ps))) [
                  | inl more ↦ inr (TwoRoots, rw (listed, few, lawful, own, found, some, more) refl, λ e. cc)
                  | inr one ↦
                      let at_least = eqb-false (root_count ps) 0 some in
                      inl (record {
                        entries = es;
                        parents = ps;
                        listed = listed;
                        passed = record { few = ltb-false most_nodes (length es) few; lawful = lawful; own = own; found = found; one = omega (arith, at_least, ltb-false 1 (root_count ps) one) };
                      })
                ]
              ]
            ]
          ]
        ]
      ]
    ]

-- ---- what is read is described

-- the parent that is found for an entry is its parent
IsParent-from_found : (names : List (List ℕ)) (e : Entry) (p : Option ℕ) → parent_of names e ≡ Some p → IsParent names e.parent p
IsParent-from_found names e p found =
    elim (option_cases e.parent) [
      | inl none ↦ (let here : Some None ≡ Some p = rw none at found in let same : None ≡ p = cc in rw (none, ← same) tt)
      | inr (s, named) ↦ (let here : option_map (λ place. Some place) (place_of names s) ≡ Some p = rw named at found in
          elim (option_cases (place_of names s)) [
            | inl none ↦ (let no : None ≡ Some p = rw none at here in cc)
            | inr (q, at) ↦ (let placed : Some (Some q) ≡ Some p = rw at at here in let same : Some q ≡ p = cc in
                rw (named, ← same) (place_found names s (Some q) (sym at)))
          ])
    ]

-- the parents that are found for the entries are their parents
parents_described : (names : List (List ℕ)) (es : List Entry) (ps : List (Option ℕ)) → parents_of names es ≡ Some ps → (w : ℕ) (e : Entry) → slice_get es w ≡ Some e → IsParent names e.parent (parent_at ps w)
parents_described names [] ps found w e at = cc
parents_described names (x ∷ es) ps found zero e at =
    let h = first_parent names x es ps found in
    let same : x ≡ e = cc in
    rw (h.all_are, ← same) (IsParent-from_found names x h.first h.first_is)
parents_described names (x ∷ es) ps found (suc w) e at =
    let h = first_parent names x es ps found in
    rw h.all_are (parents_described names es h.others h.others_are w e at)

Describes-listed : (d : Data) (l : Listed d) → Describes d (record { names = names_of l.entries; parents = l.parents })
Describes-listed d l = record {
  entries = l.entries;
  listed = l.listed;
  names = refl;
  number = length-parents_of (names_of l.entries) l.entries l.parents l.passed.found;
  parents = parents_described (names_of l.entries) l.entries l.parents l.passed.found;
}

-- ---- what is described is read

-- the node of a name that no other node has
place_is : (names : List (List ℕ)) (p : ℕ) (s : List ℕ) → AllPairs (λ s u. s ≢ u) names → slice_get names p ≡ Some s → place_of names s ≡ Some p
place_is names p s apart at =
    let within = slice_get_within names p s at in
    let here = get_or_from_slice_get names p s [] at in
    position-is (λ u. bytes_eq u s) names p [] within ((bytes_eq-Decides _ _).1 here)
    (λ j before. false_from_ne_true _ (λ same. apart j p [] before within ((bytes_eq-Decides _ _).0 same ∙ sym here)))

-- the parent of an entry is found
parent_is : (names : List (List ℕ)) (e : Entry) (p : Option ℕ) → AllPairs (λ s u. s ≢ u) names → IsParent names e.parent p → parent_of names e ≡ Some p
parent_is names e p apart is =
    elim (option_cases e.parent) [
      | inl none ↦ (let root : IsParent names None p = rw none at is in elim (option_cases p) [
        | inl no_parent ↦ rw (none, no_parent) refl
        | inr (q, has) ↦ (let no : IsParent names None (Some q) = rw has at root in absurd no)
      ])
      | inr (s, named) ↦ (let child : IsParent names (Some s) p = rw named at is in elim (option_cases p) [
        | inl no_parent ↦ (let no : IsParent names (Some s) None = rw no_parent at child in absurd no)
        | inr (q, has) ↦ (let at : slice_get names q ≡ Some s = rw has at child in rw (named, place_is names q s apart at, has) refl)
      ])
    ]

-- the parents of the entries are found
parents_are : (names : List (List ℕ)) (es : List Entry) (ps : List (Option ℕ)) → AllPairs (λ s u. s ≢ u) names → length ps ≡ length es → ((w : ℕ) (e : Entry) → slice_get es w ≡ Some e → IsParent names e.parent (parent_at ps w)) → parents_of names es ≡ Some ps
parents_are names [] [] apart same each = refl
parents_are names [] (p ∷ ps) apart same each = absurd (omega arith)
parents_are names (e ∷ es) [] apart same each = absurd (omega arith)
parents_are names (e ∷ es) (p ∷ ps) apart same each =
    rw (parent_is names e p apart (each 0 e refl), parents_are names es ps apart (omega arith) (λ w x at. each (suc w) x at)) refl

-- each node of a tree has a depth, so the last check passes
depths_pass : (ps : List (Option ℕ)) → IsRooted ps → have_depths ps ≡ true
depths_pass ps rooted = have_depths-all ps (λ w within. let walk = rooted.reaches_root w within in rw (depth_found ps rooted w walk.0 within walk.1).0 refl)

-- a tree that is described is read
tree_read : (d : Data) (t : Nodes) → Describes d t → IsTree t → tree_of d ≡ Ok t
tree_read d t described tree =
    let es = described.entries in
    let apart : AllPairs (λ s u. s ≢ u) (names_of es) = rw described.names at tree.own_names in
    let lawful : list_all is_name (names_of es) ≡ true = rw described.names at tree.lawful_names in
    let few : length es ≤ most_nodes = omega (arith, described.number, tree.few_nodes) in
    let each = λ (w : ℕ) (e : Entry) (at : slice_get es w ≡ Some e). rw described.names at (described.parents w e at) in
    let listed : Listed d = record {
      entries = es;
      parents = t.parents;
      listed = described.listed;
      passed = record {
        few = few;
        lawful = lawful;
        own = no_same_name (names_of es) apart;
        found = parents_are (names_of es) es t.parents apart described.number each;
        one = one_root t.parents tree.rooted;
      };
    } in
    tree_of-listed d listed true (depths_pass t.parents tree.rooted) ∙ rw (← described.names) refl

-- a tree that is read is described
tree_described : (d : Data) (t : Nodes) → tree_of d ≡ Ok t → Describes d t × IsTree t
tree_described d t read =
    elim (listed_or d) [
      | inr (f, refused, other) ↦ (let no = sym refused ∙ read in cc)
      | inl l ↦ elim (cases_Bool (have_depths l.parents)) [
        | inl deep ↦ (let h = IsTree-from_checks l.entries l.parents l.passed deep in
            let found = tree_of-listed d l true deep in
            let same : ◌≡◌ {A = Nodes} (record { names = names_of l.entries; parents = l.parents }) t = cc in
            rw (← same) (Describes-listed d l, h))
        | inr shallow ↦ (let no = tree_of-listed d l false shallow in cc)
      ]
    ]

pub trees_described : (d : Data) (t : Nodes) → (tree_of d ≡ Ok t) ↔ (Describes d t × IsTree t)
trees_described d t = (tree_described d t, λ h. tree_read d t h.0 h.1)

-- ---- a cycle

-- a test that does not pass everywhere fails somewhere
some_fails : (p : ℕ → Bool) (xs : List ℕ) → list_all p xs ≡ false → (i : ℕ) × (i < length xs) × (p (get_or xs i 0) ≡ false)
some_fails p [] fails = cc
some_fails p (x ∷ xs) fails = ⊎_elim (λ h. (0, omega arith, h)) (λ h. let more = some_fails p xs h in (suc more.0, omega arith, more.2)) (and_cases (p x) (list_all p xs) fails)

-- where not each node has a depth, some node has none
some_depthless : (ps : List (Option ℕ)) → have_depths ps ≡ false → (w : ℕ) × (w < length ps) × (depth_at ps w ≡ None)
some_depthless ps shallow =
    let at = some_fails (λ w. is_some (depth_at ps w)) (range_with_len 0 (length ps)) shallow in
    let inside : at.0 < length ps = rw length-range_with_len at at.1 in
    let lacks : is_some (depth_at ps at.0) ≡ false = rw (get_or-range_with_len 0 (length ps) at.0 0 inside, zero-add) at at.2 in
    elim (option_cases (depth_at ps at.0)) [
      | inl none ↦ (at.0, inside, none)
      | inr (k, some) ↦ (let no : is_some (Some k) ≡ false = rw some at lacks in cc)
    ]

pub cycle_found : (d : Data) → tree_of d ≡ Err Cycle → HasCycle d
cycle_found d refused =
    elim (listed_or d) [
      | inr (f, early, other) ↦ absurd (other (let same = sym early ∙ refused in cc))
      | inl l ↦ elim (cases_Bool (have_depths l.parents)) [
        | inl deep ↦ (let no = tree_of-listed d l true deep in cc)
        | inr shallow ↦ (let w = some_depthless l.parents shallow in record {
          nodes = record { names = names_of l.entries; parents = l.parents };
          described = Describes-listed d l;
          start = w.0;
          is_node = w.1;
          endless = λ k ends. let deep = (depth_means l.parents (known_parents l.passed) w.0 k w.1).1 ends in let no = sym w.2 ∙ deep in cc;
        })
      ]
    ]
