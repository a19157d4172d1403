-- The links of a whole tree after something happened to each of them.
use Rattle.std.proofs.Common.{◌≡◌, ◌≢◌, ◌==◌, ℕ, zero, suc, ◌+◌, ◌<◌, ◌≤◌, List, [], ◌∷◌, ◌++◌, length, map, get_or, set, Option, Some, None, is_some, option_map, Bool, true, false, if◌then◌else◌, refl, ap, sym, ◌∙◌, inl, inr, arith, eq-eqb, eqb-true}
use Rattle.std.proofs.lemmas.Bool.{cases_eq}
use Rattle.std.proofs.lemmas.List.{append-nil, get_or-set_other, get_or-set_same, length-set, get_or_default, same_lists}
use Rattle.std.proofs.lemmas.Option.{none-some, same_Some}
use Rattle.stab_core.specs.declared.start.Start.{Start}
use Rattle.stab_core.specs.Faults.{struck}
use Rattle.stab_core.specs.Link.{LinkValue, link_at}
use Rattle.stab_core.specs.LinkState.{LinkState}
use Rattle.stab_tree.specs.Nodes.{root_of}
use Rattle.stab_tree.specs.NodeOpenings.{opening_at}
use Rattle.stab_treecore.specs.Faults.{begun_anew, each_link, restarted_at, struck_at}
use Rattle.stab_treecore.specs.TreeInside.{IsSound}
use Rattle.stab_treecore.specs.WholeTree.{WholeTree, link_into}
use Rattle.stab_treecore.proofs.Linked.{same_kind}
use Rattle.stab_treecore.proofs.Listed.{IsListed}

-- a link, where there is one, after this happened to its state
abbrev pub then_is : (LinkState → LinkState) → Option LinkValue → Option LinkValue
then_is happens = option_map (λ l. link_at l.params (happens l.state))

-- a choice where it is known which one is taken
pub chosen : {A : Type 0} (b : Bool) (x y : A) → b ≡ true → (if b then x else y) ≡ x
chosen true x y is = refl
chosen false x y is = absurd (let never : false ≡ true = is in cc)

pub unchosen : {A : Type 0} (b : Bool) (x y : A) → b ≡ false → (if b then x else y) ≡ y
unchosen true x y is = absurd (let never : true ≡ false = is in cc)
unchosen false x y is = refl

-- different numbers are not equal
pub differ : (a b : ℕ) → a ≢ b → (a == b) ≡ false
differ a b other = by (a == b) refl
  where
    by : (answer : Bool) → (a == b) ≡ answer → (a == b) ≡ false
    by true is = absurd (other (eqb-true a b is))
    by false is = is

-- ---- the links at each place

at_place : (happens : ℕ → LinkState → LinkState) (first : ℕ) (links : List (Option LinkValue)) (w : ℕ)
    → get_or (each_link happens first links) w None ≡ then_is (happens (first + w)) (get_or links w None)
at_place happens first [] w = refl
at_place happens first (link ∷ links) zero = ap (λ n. then_is (happens n) link) (let same : first ≡ first + 0 = omega arith in same)
at_place happens first (link ∷ links) (suc w) =
    at_place happens (first + 1) links w
    ∙ ap (λ n. then_is (happens n) (get_or links w None)) (let same : first + 1 + w ≡ first + suc w = omega arith in same)

-- the link into a node is what it was, after what happens there
pub happened_at : (happens : ℕ → LinkState → LinkState) (links : List (Option LinkValue)) (w : ℕ)
    → get_or (each_link happens 0 links) w None ≡ then_is (happens w) (get_or links w None)
happened_at happens links w =
    at_place happens 0 links w ∙ ap (λ n. then_is (happens n) (get_or links w None)) (let same : 0 + w ≡ w = omega arith in same)

-- as many links
pub length-each : (happens : ℕ → LinkState → LinkState) (first : ℕ) (links : List (Option LinkValue))
    → length (each_link happens first links) ≡ length links
length-each happens first [] = refl
length-each happens first (link ∷ links) = ap suc (length-each happens (first + 1) links)

-- and at the same nodes
pub same_kinds : (happens : ℕ → LinkState → LinkState) (first : ℕ) (links : List (Option LinkValue))
    → map is_some (each_link happens first links) ≡ map is_some links
same_kinds happens first [] = refl
same_kinds happens first (None ∷ links) = ap (λ bs. false ∷ bs) (same_kinds happens (first + 1) links)
same_kinds happens first (Some link ∷ links) = ap (λ bs. true ∷ bs) (same_kinds happens (first + 1) links)

-- a link comes of one that was there
pub record CameOf (links : List (Option LinkValue)) (happens : ℕ → LinkState → LinkState) (w : ℕ) (link : LinkValue) : Type 0 where
  pub old : LinkValue
  pub there : get_or links w None ≡ Some old
  pub now : link ≡ link_at old.params (happens w old.state)

pub came_of : (links : List (Option LinkValue)) (happens : ℕ → LinkState → LinkState) (w : ℕ) (link : LinkValue)
    → get_or (each_link happens 0 links) w None ≡ Some link → CameOf links happens w link
came_of links happens w link there = from (get_or links w None) refl
  where
    from : (o : Option LinkValue) → get_or links w None ≡ o → CameOf links happens w link
    from None none =
        let never : None ≡ Some link = ap (then_is (happens w)) (sym none) ∙ (sym (happened_at happens links w) ∙ there) in
        absurd (none-some link never)
    from (Some old) is = record {
      old = old;
      there = is;
      now =
          same_Some link (link_at old.params (happens w old.state))
          (sym there ∙ (happened_at happens links w ∙ ap (then_is (happens w)) is));
    }

-- lists of links that are alike at each place
alike : (xs ys : List (Option LinkValue)) → length xs ≡ length ys → ((i : ℕ) → i < length xs → get_or xs i None ≡ get_or ys i None) → xs ≡ ys
alike xs ys as_many same =
    same_lists xs ys as_many
    (λ k d within. get_or_default xs k d None within ∙ (same k within ∙ sym (get_or_default ys k d None (omega arith))))

-- ---- a strike

struck_option : (b : Bool) (start : Start) (o : Option LinkValue)
    → then_is (λ s. if b then struck start s else s) o ≡ (if b then then_is (struck start) o else o)
struck_option true start None = refl
struck_option true start (Some l) = refl
struck_option false start None = refl
struck_option false start (Some l) = refl

set_there : (links : List (Option LinkValue)) (node i : ℕ) (after : Option LinkValue) → i < length links
    → get_or (set links node after) i None ≡ (if i == node then after else get_or links i None)
set_there links node i after within =
    elim (cases_eq i node) [
      | inl same ↦
          ap (λ w. get_or (set links node after) w None) same
          ∙ (get_or-set_same links node after None (omega (arith, within, same)) ∙ sym (chosen (i == node) after (get_or links i None) (eq-eqb i node same)))
      | inr other ↦
          get_or-set_other links node i after None other ∙ sym (unchosen (i == node) after (get_or links i None) (differ i node other))
    ]

here_or_there : (links : List (Option LinkValue)) (child i : ℕ) (start : Start)
    → (if i == child then then_is (struck start) (get_or links child None) else get_or links i None)
    ≡ (if i == child then then_is (struck start) (get_or links i None) else get_or links i None)
here_or_there links child i start =
    elim (cases_eq i child) [
      | inl same ↦ ap (λ w. if i == child then then_is (struck start) (get_or links w None) else get_or links i None) (sym same)
      | inr other ↦
          unchosen (i == child) (then_is (struck start) (get_or links child None)) (get_or links i None) (differ i child other)
          ∙ sym (unchosen (i == child) (then_is (struck start) (get_or links i None)) (get_or links i None) (differ i child other))
    ]

-- a link that is written anew at its place is struck there alone
pub strike_is : (links : List (Option LinkValue)) (child : ℕ) (start : Start) (after : Option LinkValue)
    → after ≡ then_is (struck start) (get_or links child None) → set links child after ≡ each_link (struck_at child start) 0 links
strike_is links child start after is =
    alike (set links child after) (each_link (struck_at child start) 0 links)
    (length-set links child after ∙ sym (length-each (struck_at child start) 0 links))
    (λ i within.
    set_there links child i after (omega (arith, within, length-set links child after))
    ∙ (ap (λ o. if i == child then o else get_or links i None) is
    ∙ (here_or_there links child i start
    ∙ (sym (struck_option (i == child) start (get_or links i None)) ∙ sym (happened_at (struck_at child start) links i)))))

-- ---- one link after the other

-- before this place all is done, and from there on nothing is
pub record IsDone (happens : ℕ → LinkState → LinkState) (old links : List (Option LinkValue)) (place : ℕ) : Type 0 where
  pub as_many : length links ≡ length old
  pub done : (w : ℕ) → w < place → get_or links w None ≡ then_is (happens w) (get_or old w None)
  pub left : (w : ℕ) → place ≤ w → get_or links w None ≡ get_or old w None

pub none_done : (happens : ℕ → LinkState → LinkState) (old : List (Option LinkValue)) → IsDone happens old old 0
none_done happens old = record {
  as_many = refl;
  done = λ w below. absurd (omega arith);
  left = λ w above. refl;
}

-- one more
pub one_done : (happens : ℕ → LinkState → LinkState) (old links : List (Option LinkValue)) (place : ℕ) (after : Option LinkValue)
    → place < length links → IsDone happens old links place → after ≡ then_is (happens place) (get_or links place None)
    → IsDone happens old (set links place after) (place + 1)
one_done happens old links place after within so_far is = record {
  as_many = length-set links place after ∙ so_far.as_many;
  done =
      λ w below.
      elim (cases_eq w place) [
        | inl same ↦
            ap (λ v. get_or (set links place after) v None) same
            ∙ (get_or-set_same links place after None within
            ∙ (is
            ∙ (ap (then_is (happens place)) (so_far.left place (omega arith))
            ∙ ap (λ v. then_is (happens v) (get_or old v None)) (sym same))))
        | inr other ↦ get_or-set_other links place w after None other ∙ so_far.done w (omega arith)
      ];
  left =
      λ w above.
      get_or-set_other links place w after None (λ same. absurd (omega (arith, above, same))) ∙ so_far.left w (omega arith);
}

-- and in the end all
pub all_done : (happens : ℕ → LinkState → LinkState) (old links : List (Option LinkValue)) (place : ℕ) → length links ≤ place
    → IsDone happens old links place → links ≡ each_link happens 0 old
all_done happens old links place past so_far =
    alike links (each_link happens 0 old) (so_far.as_many ∙ sym (length-each happens 0 old))
    (λ i within. so_far.done i (omega arith) ∙ sym (happened_at happens old i))

-- ---- a restart

-- what a restarted receiver delivered
anew_delivers : (receiver sender : Bool) (s : LinkState) → (begun_anew receiver sender s).delivered ≡ (if receiver then [] else s.delivered)
anew_delivers true true s = refl
anew_delivers true false s = refl
anew_delivers false true s = refl
anew_delivers false false s = refl

-- the lists beside the nodes
pub listed_restarted : (parents : List (Option ℕ)) (openings : List (List ℕ)) (links : List (Option LinkValue)) (lists : List (List ℕ)) (node : ℕ)
    (list : List ℕ) → node < length lists → node < length openings → IsListed openings links lists
    → IsListed (set openings node list) (each_link (restarted_at parents node) 0 links) (set lists node list)
listed_restarted parents openings links lists node list in_lists in_openings listed v link is =
    let came = came_of links (restarted_at parents node) v link is in
    let delivers : link.state.delivered ≡ (if v == node then [] else came.old.state.delivered) =
    ap (λ l. l.state.delivered) came.now ∙ anew_delivers (v == node) _ came.old.state in
    elim (cases_eq v node) [
      | inl same ↦
          let none : link.state.delivered ≡ [] = delivers ∙ chosen (v == node) [] came.old.state.delivered (eq-eqb v node same) in
          ap (λ w. get_or (set lists node list) w []) same
          ∙ (get_or-set_same lists node list [] in_lists
          ∙ (sym (append-nil list)
          ∙ (ap (λ xs. xs ++ []) (sym (get_or-set_same openings node list [] in_openings))
          ∙ (ap (λ w. opening_at (set openings node list) w ++ []) (sym same)
          ∙ ap (λ xs. opening_at (set openings node list) v ++ xs) (sym none)))))
      | inr other ↦
          let as_before : link.state.delivered ≡ came.old.state.delivered =
          delivers ∙ unchosen (v == node) [] came.old.state.delivered (differ v node other) in
          get_or-set_other lists node v list [] other
          ∙ (listed v came.old came.there
          ∙ (ap (λ xs. xs ++ came.old.state.delivered) (sym (get_or-set_other openings node v list [] other))
          ∙ ap (λ xs. opening_at (set openings node list) v ++ xs) (sym as_before)))
    ]

-- whole trees of these parts
abbrev pub built : List (Option ℕ) → List ℕ → List (List ℕ) → List (Option LinkValue) → WholeTree
built parents published openings links = record { published = published; openings = openings; parents = parents; links = links }

-- what the restart leaves, of these lists beside the nodes
pub sound_restarted : (published after : List ℕ) (openings : List (List ℕ)) (parents : List (Option ℕ)) (links : List (Option LinkValue))
    (lists : List (List ℕ)) (node : ℕ) (list : List ℕ) → node < length links → IsSound (built parents published openings links) lists
    → IsSound (built parents after (set openings node list) (each_link (restarted_at parents node) 0 links)) (set lists node list)
sound_restarted published after openings parents links lists node list in_links sound =
    let one_list = sound.one_list_each in
    let one_opening = sound.one_opening_each in
    let same = length-each (restarted_at parents node) 0 links in
    record {
      linked = same_kinds (restarted_at parents node) 0 links ∙ sound.linked;
      known_parents = sound.known_parents;
      root_has_none = sound.root_has_none;
      one_root = sound.one_root;
      one_opening_each = omega (arith, length-set openings node list);
      one_list_each = omega (arith, length-set lists node list);
      listed = listed_restarted parents openings links lists node list (omega arith) (omega arith) sound.listed;
    }

-- of a tree that is sound, what is published changes exactly at the root
pub published_at_root : (t : WholeTree) (lists : List (List ℕ)) (node : ℕ) (list : List ℕ) → node < length t.parents → IsSound t lists
    → (if is_some (link_into t node) then t.published else list) ≡ (if node == root_of t.parents then list else t.published)
published_at_root t lists node list is_node sound = by_link (get_or t.parents node None) refl
  where
    kind : is_some (link_into t node) ≡ is_some (get_or t.parents node None)
    kind = same_kind t.links t.parents node sound.linked

    by_link : (o : Option ℕ) → get_or t.parents node None ≡ o
        → (if is_some (link_into t node) then t.published else list) ≡ (if node == root_of t.parents then list else t.published)
    by_link None none =
        unchosen (is_some (link_into t node)) t.published list (kind ∙ ap is_some none)
        ∙ sym (chosen (node == root_of t.parents) list t.published (eq-eqb node (root_of t.parents) (sound.one_root node is_node none)))
    by_link (Some parent) there =
        chosen (is_some (link_into t node)) t.published list (kind ∙ ap is_some there)
        ∙ sym (unchosen (node == root_of t.parents) list t.published
        (differ node (root_of t.parents)
        (λ root.
        let never : None ≡ Some parent = sym (sound.root_has_none) ∙ (ap (λ v. get_or t.parents v None) (sym root) ∙ there) in
        none-some parent never)))
