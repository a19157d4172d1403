-- What is counted on the links of a tree stays so, whatever happens.
use Rattle.std.proofs.Common.{◌≡◌, ℕ, zero, suc, ◌+◌, ◌<◌, ◌≤◌, ◌==◌, ◌&&◌, Bool, true, false, if◌then◌else◌, List, [], ◌∷◌, ◌++◌, append-nil, length, length-append, slice_get, Some, None, Option, refl, sym, ◌∙◌, ap, arith, eqb-true}
use Rattle.std.specs.Option.{option_map_or}
use Rattle.std.proofs.lemmas.List.{length_push}
use Rattle.std.proofs.lemmas.Option.{none-some}
use Rattle.stab_frames.specs.declared.frame.Frame.{Frame}
use Rattle.stab_frames.specs.Parameters.{Parameters}
use Rattle.stab_core.specs.LinkState.{LinkState}
use Rattle.stab_tree.specs.NodeOpenings.{opening_at}
use Rattle.stab_tree.specs.Nodes.{parent_at}
use Rattle.stab_treecore.specs.Network.{Network}
use Rattle.stab_line.specs.Ends.{accepts, delivers}
use Rattle.stab_line.specs.Line.{held, with_taken}
use Rattle.stab_line.specs.NodeTree.{put, parameters_into, list_of, list_above}
use Rattle.stab_line.specs.Session.{has}
use Rattle.stab_line.specs.SessionLink.{SessionLink, ConnectionAct, connection_step, link_step, item_offered, line_of, is_unused, is_made, receives_frame, receives_ack}
use Rattle.stab_line.specs.SessionLink.{sender_makes, receiver_makes, stranger_makes, sender_accepts, receiver_accepts, sender_leaves, receiver_leaves, frame_sent, ack_sent, frame_comes, ack_comes, frame_lost, ack_lost, sender_closes, receiver_closes}
use Rattle.stab_line.specs.SessionTree.{SessionTree, TreeAct, publishes, polls, at_link, tree_step, tree_run, nodes_of, offers, acts_at}
use Rattle.stab_line.proofs.Lines.{Next, Work, done, waiting, item_of, offered_of, acked_of}
use Rattle.stab_exchanges.specs.TreeExchanges.{IsCounted}

-- ---- one link

of_work : (work : Work) (offered : List ℕ) (item : Option ℕ) (acked : ℕ) → offered ≡ offered_of work → item ≡ item_of work
    → acked ≡ acked_of work → (front : List ℕ) × (offered ≡ front ++ held item) × (acked ≡ length front)
of_work (done items) offered item acked its_items its_item its_count =
    (items, its_items ∙ sym (append-nil items) ∙ ap (λ i. items ++ held i) (sym its_item), its_count)
of_work (waiting items x) offered item acked its_items its_item its_count =
    (items, its_items ∙ ap (λ i. items ++ held i) (sym its_item), its_count)

pub next_counted : (s : LinkState) (t : SessionLink) → Next s (line_of t) → IsCounted t
next_counted s t there =
    of_work there.after.work t.offered t.sender.state.item t.acked (ap (λ l. l.offered) there.line)
    (ap (λ l. l.sender.state.item) there.line) (ap (λ l. l.acked) there.line)

-- what was delivered only grows
either_delivered : (either : Bool) (t u v : SessionLink) → length t.delivered ≤ length u.delivered → length t.delivered ≤ length v.delivered
    → length t.delivered ≤ length (if either then u else v).delivered
either_delivered true t u v first second = first
either_delivered false t u v first second = second

one_taken : (takes : Bool) (items : List ℕ) (item : ℕ) → length items ≤ length (with_taken takes items item)
one_taken true items item = omega (arith, length_push items item)
one_taken false items item = omega arith

frame_delivers : (t : SessionLink) (m : ℕ) (front : Option Frame) → length t.delivered ≤ length (receives_frame t m front).delivered
frame_delivers t m None = omega arith
frame_delivers t m (Some f) = one_taken (has t.at_receiver m && delivers t.receiver f) t.delivered f.item

ack_delivers : (p : Parameters) (t : SessionLink) (m : ℕ) (front : Option ℕ) → length t.delivered ≤ length (receives_ack p t m front).delivered
ack_delivers p t m None = omega arith
ack_delivers p t m (Some a) = omega arith

delivers_more : (p : Parameters) (t : SessionLink) (act : ConnectionAct) → length t.delivered ≤ length (connection_step p t act).delivered
delivers_more p t (sender_makes m) = either_delivered (is_unused (t.stage m)) t _ t (omega arith) (omega arith)
delivers_more p t (receiver_makes m) = either_delivered (is_unused (t.stage m)) t _ t (omega arith) (omega arith)
delivers_more p t (stranger_makes by_sender m) = either_delivered (is_unused (t.stage m)) t _ t (omega arith) (omega arith)
delivers_more p t (sender_accepts m) = either_delivered (is_made false (t.stage m)) t _ t (omega arith) (omega arith)
delivers_more p t (receiver_accepts m) = either_delivered (is_made true (t.stage m)) t _ t (omega arith) (omega arith)
delivers_more p t (sender_leaves m) = omega arith
delivers_more p t (receiver_leaves m) = omega arith
delivers_more p t frame_sent = omega arith
delivers_more p t ack_sent = omega arith
delivers_more p t (frame_comes m) = frame_delivers t m (slice_get (t.down m) 0)
delivers_more p t (ack_comes m) = ack_delivers p t m (slice_get (t.up m) 0)
delivers_more p t (frame_lost m place) = omega arith
delivers_more p t (ack_lost m place) = omega arith
delivers_more p t sender_closes = omega arith
delivers_more p t receiver_closes = omega arith

-- ---- the lists of a tree

put_delivers : (links : ℕ → SessionLink) (child u : ℕ) (link : SessionLink) → length (links child).delivered ≤ length link.delivered
    → length (links u).delivered ≤ length (put links child link u).delivered
put_delivers links child u link more = by_same (u == child) refl
  where
    by_same : (same : Bool) → (u == child) ≡ same → length (links u).delivered ≤ length (if same then link else links u).delivered
    by_same true same = omega (arith, more, ap (λ v. length (links v).delivered) (eqb-true u child same))
    by_same false other = omega arith

-- each list of the second tree is at least as long
abbrev Longer : SessionTree → SessionTree → Type 0
Longer t after =
    (length t.published ≤ length after.published) × ((u : ℕ) → length (t.links u).delivered ≤ length (after.links u).delivered)

polled_longer : (p : Parameters) (t : SessionTree) (child : ℕ) (next : Option ℕ) → Longer t (offers p t child next)
polled_longer p t child None = (omega arith, λ u. omega arith)
polled_longer p t child (Some item) =
    (omega arith, λ u. put_delivers t.links child u (link_step p (t.links child) (item_offered item)) (omega arith))

acted_longer : (p : Parameters) (t : SessionTree) (child : ℕ) (act : ConnectionAct) (up : Option ℕ) → Longer t (acts_at p t child act up)
acted_longer p t child act None = (omega arith, λ u. omega arith)
acted_longer p t child act (Some parent) =
    (omega arith, λ u. put_delivers t.links child u (connection_step p (t.links child) act) (delivers_more p (t.links child) act))

step_longer : (net : Network) (t : SessionTree) (a : TreeAct) → Longer t (tree_step net t a)
step_longer net t (publishes item) = (omega (arith, length_push t.published item), λ u. omega arith)
step_longer net t (polls child) = polled_longer (parameters_into net child) t child (slice_get (list_above net (nodes_of t) child) (t.counts child))
step_longer net t (at_link child act) = acted_longer (parameters_into net child) t child act (parent_at net.tree.parents child)

lists_longer : (net : Network) (t after : SessionTree) (u : ℕ) → Longer t after
    → length (list_of net (nodes_of t) u) ≤ length (list_of net (nodes_of after) u)
lists_longer net t after u (published, delivered) = by_parent (parent_at net.tree.parents u)
  where
    by_parent : (up : Option ℕ)
        → length (option_map_or (λ (_ : ℕ). opening_at net.openings.lists u ++ (t.links u).delivered) up t.published)
        ≤ length (option_map_or (λ (_ : ℕ). opening_at net.openings.lists u ++ (after.links u).delivered) up after.published)
    by_parent None = published
    by_parent (Some parent) =
        omega (
          arith,
          delivered u,
          length-append (opening_at net.openings.lists u) (t.links u).delivered,
          length-append (opening_at net.openings.lists u) (after.links u).delivered,
        )

above_longer : (net : Network) (t after : SessionTree) (w up : ℕ) → parent_at net.tree.parents w ≡ Some up → Longer t after
    → length (list_above net (nodes_of t) w) ≤ length (list_above net (nodes_of after) w)
above_longer net t after w up is_child longer =
    omega (
      arith,
      lists_longer net t after up longer,
      ap (λ o. length (option_map_or (list_of net (nodes_of t)) o [])) is_child,
      ap (λ o. length (option_map_or (list_of net (nodes_of after)) o [])) is_child,
    )

-- ---- no sender is past its list

abbrev pub AllWithin : Network → SessionTree → Type 0
AllWithin net t = (w up : ℕ) → parent_at net.tree.parents w ≡ Some up → t.counts w ≤ length (list_above net (nodes_of t) w)

below : (xs : List ℕ) (i x : ℕ) → slice_get xs i ≡ Some x → i < length xs
below [] i x is = absurd (none-some x is)
below (y ∷ xs) zero x is = omega arith
below (y ∷ xs) (suc i) x is = omega (arith, below xs i x is)

one_more_at_most : (takes : Bool) (n : ℕ) → (if takes then n + 1 else n) ≤ n + 1
one_more_at_most true n = omega arith
one_more_at_most false n = omega arith

polled_within : (net : Network) (t : SessionTree) (child : ℕ) → AllWithin net t → (next : Option ℕ)
    → slice_get (list_above net (nodes_of t) child) (t.counts child) ≡ next → AllWithin net (offers (parameters_into net child) t child next)
polled_within net t child within None is_next = within
polled_within net t child within (Some item) is_next = λ w up is_child. by_same w up is_child (w == child) refl
  where
    after : SessionTree
    after = offers (parameters_into net child) t child (Some item)

    count : ℕ
    count = if accepts (t.links child).sender then t.counts child + 1 else t.counts child

    by_same : (w up : ℕ) → parent_at net.tree.parents w ≡ Some up → (same : Bool) → (w == child) ≡ same
        → (if same then count else t.counts w) ≤ length (list_above net (nodes_of after) w)
    by_same w up is_child true same =
        omega (
          arith,
          one_more_at_most (accepts (t.links child).sender) (t.counts child),
          below (list_above net (nodes_of t) child) (t.counts child) item is_next,
          ap (λ v. length (list_above net (nodes_of t) v)) (eqb-true w child same),
          above_longer net t after w up is_child (polled_longer (parameters_into net child) t child (Some item)),
        )
    by_same w up is_child false other =
        omega (
          arith,
          within w up is_child,
          above_longer net t after w up is_child (polled_longer (parameters_into net child) t child (Some item)),
        )

same_counts : (p : Parameters) (t : SessionTree) (child : ℕ) (act : ConnectionAct) (up : Option ℕ) → (acts_at p t child act up).counts ≡ t.counts
same_counts p t child act None = refl
same_counts p t child act (Some parent) = refl

step_within : (net : Network) (t : SessionTree) (a : TreeAct) → AllWithin net t → AllWithin net (tree_step net t a)
step_within net t (publishes item) within = λ w up is_child.
    omega (arith, within w up is_child, above_longer net t (tree_step net t (publishes item)) w up is_child (step_longer net t (publishes item)))
step_within net t (polls child) within =
    polled_within net t child within (slice_get (list_above net (nodes_of t) child) (t.counts child)) refl
step_within net t (at_link child act) within = λ w up is_child.
    omega (
      arith,
      within w up is_child,
      ap (λ (counts : ℕ → ℕ). counts w) (same_counts (parameters_into net child) t child act (parent_at net.tree.parents child)),
      above_longer net t (tree_step net t (at_link child act)) w up is_child (step_longer net t (at_link child act)),
    )

pub run_within : (net : Network) (t : SessionTree) (acts : List TreeAct) → AllWithin net t → AllWithin net (tree_run net t acts)
run_within net t [] within = within
run_within net t (a ∷ acts) within = run_within net (tree_step net t a) acts (step_within net t a within)
