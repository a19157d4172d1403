use Rattle.std.proofs.Common.{rules, ◌≡◌, ◌∙◌, List, [], ◌∷◌, ◌++◌, map, refl, ap, Option, Some, None, append_assoc}
use Rattle.std.proofs.lemmas.List.{append-nil}
use Rattle.std.specs.Prelude.{option_to_list}
use Rattle.std.specs.List.{cons_option, filter_map}
use Rattle.std.specs.Vec.Iter.{into_iter_items}
use Rattle.stab_node.proofs.columns.take_apart.Goals as goal

-- an entry that is added to a column is one fewer of those that follow
moved : {X Y : Type 0} (f : X → Y) (column : List Y) (x : X) (rest : List X) → (column ++ f x ∷ []) ++ map f rest ≡ column ++ map f (x ∷ rest)
moved f [] x rest = refl
moved f (y ∷ ys) x rest = ap (λ zs. y ∷ zs) (moved f ys x rest)

grown : {X Y : Type 0} (x : X) (rest : List X) (f : X → Y) (column : List Y) (whole : List Y) → column ++ map f (x ∷ rest) ≡ whole → (column ++ f x ∷ []) ++ map f rest ≡ whole
grown x rest f column whole so_far = moved f column x rest ∙ so_far

-- the same of an entry that may be absent
moved_one : {A : Type 0} (one : Option A) (column rest : List A) → (column ++ option_to_list one) ++ rest ≡ column ++ cons_option one rest
moved_one None column rest = ap (λ front. front ++ rest) (append-nil column)
moved_one (Some x) column rest = append_assoc column (x ∷ []) rest

grown_by_one : {A : Type 0} (one : Option A) (column rest whole : List A) → column ++ cons_option one rest ≡ whole → (column ++ option_to_list one) ++ rest ≡ whole
grown_by_one one column rest whole so_far = moved_one one column rest ∙ so_far

pub loop-account-init : goal.loop-account-init
loop-account-init g c =
    let columns = c.in_ok-columns.ensures in
    let all = c.into_iter-account-iterator.ensures.into_iter_gives in
    let rest = into_iter_items c.into_iter-account-iterator.result in
    record {
      received = ap (λ front. front ++ map (λ a. a.received.items) rest) columns.received ∙ ap (λ xs. map (λ a. a.received.items) xs) all.0;
      ended = ap (λ front. front ++ map (λ a. a.ended) rest) columns.ended ∙ ap (λ xs. map (λ a. a.ended) xs) all.0;
      recvs = ap (λ front. front ++ filter_map (λ a. a.up) rest) columns.recvs ∙ ap (λ xs. filter_map (λ a. a.up) xs) all.0;
      downs = ap (λ front. front ++ map (λ a. a.downs.items) rest) columns.downs ∙ ap (λ xs. map (λ a. a.downs.items) xs) all.0;
      left = search rules;
    }

pub loop-account-preserved : goal.loop-account-preserved
loop-account-preserved g c =
    let before = c.loop-account.invariant in
    let added = c.in_ok-push.ensures in
    let account = c.in-Some.account in
    let rest = into_iter_items c.next.new.self in
    let steps : into_iter_items c.loop-account.account-iterator ≡ account ∷ rest = search rules in
    record {
      received = rw added.received (grown account rest (λ a. a.received.items) _ _ (rw steps at before.received));
      ended = rw added.ended (grown account rest (λ a. a.ended) _ _ (rw steps at before.ended));
      recvs = rw added.recvs (grown_by_one account.up _ _ _ (rw steps at before.recvs));
      downs = rw added.downs (grown account rest (λ a. a.downs.items) _ _ (rw steps at before.downs));
      left = search rules;
    }
