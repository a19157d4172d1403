-- From the accounts of the nodes to what each node received and each link handed on.
use Rattle.std.proofs.Common.{◌≡◌, ◌≤◌, ◌+◌, ℕ, zero, suc, true, List, [], ◌∷◌, ◌++◌, length, map, get_or, Option, Some, None, option_map, IfSome, All, refl, ap, sym, ◌∙◌, subst, arith}
use Rattle.std.proofs.lemmas.List.{length-map}
use Rattle.std.proofs.lemmas.List.Elements.{All-nil}
use Rattle.std.proofs.lemmas.Option.{none-some}
use Rattle.stab_ends.specs.Accounts.{ReceiverAccount, SenderAccount}
use Rattle.stab_node.specs.declared.account.Ended.{Ended}
use Rattle.stab_node.specs.declared.account.Ended.TheVariants.{Turns, Upstream}
use Rattle.stab_node.specs.Runs.{IsRun}
use Rattle.stab_node.specs.Work.{HasAll, IsServed, IsWork, OffersUnlessRefused, received_by}
use Rattle.stab_tree.specs.IsTree.{IsRooted}
use Rattle.stab_tree.specs.Nodes.{parent_at, root_of}
use Rattle.std.specs.List.{AllZip, range_with_len}
use Rattle.stab_tree.specs.ByChild.{by_child}
use Rattle.stab_tree.proofs.ForCallers.{length-by_child, no_link_into}
use Rattle.stab_node.proofs.ForCallers.{holds_of_child}
use Rattle.stab_node.proofs.Worked.{all_of_map}
use Rattle.stab_tree.specs.NodeOpenings.{opening_at}
use Rattle.stab_node.proofs.Firsts.{first_at_root, initial_at_child}
use Rattle.stab_node.specs.InitialItems.{initial_at}
use Rattle.stab_node.specs.ByNode.{ended_at, entry_into, received_at}
use Rattle.stab_node.specs.Scattering.{by_parent}

-- a node that a link leads into begins with its opening
first_below : {A : Type 0} (root : ℕ) (published : List ℕ) (openings : List (List ℕ)) (parents : List (Option ℕ)) (xs : List A) (child : ℕ) (x : A)
    (above : Option ℕ) → parent_at parents root ≡ None → parent_at parents child ≡ above → entry_into parents xs child ≡ Some x
    → initial_at root published openings child ≡ opening_at openings child
first_below root published openings parents xs child x None none is_child is =
    absurd (none-some x (sym (no_link_into parents xs child is_child) ∙ is))
first_below root published openings parents xs child x (Some parent) none is_child is =
    initial_at_child root published openings parents child parent none is_child

-- what each account gives holds of the parts of the account at each place
module _ {A X Y : Type 0} (P : ℕ → A → Type 0) (received : A → List ℕ) (up : A → Option X) (downs : A → List Y) (ended : A → Ended)
    (T : ℕ → List ℕ → Option X → List Y → Ended → Type 0)
    (each : (node : ℕ) (a : A) → P node a → T node (received a) (up a) (downs a) (ended a)) where
  at_place : (start n : ℕ) (accounts : List A) (k node : ℕ) → node ≡ start + k → (length accounts ≤ k → T node [] None [] Turns)
      → AllZip P (range_with_len start n) accounts
      → T node (get_or (map received accounts) k []) (get_or (map up accounts) k None) (get_or (map downs accounts) k [])
      (get_or (map ended accounts) k Turns)
  at_place start zero [] k node is outside all = outside (omega arith)
  at_place start zero (a ∷ accounts) k node is outside all = absurd all
  at_place start (suc n) [] k node is outside all = absurd all
  at_place start (suc n) (a ∷ accounts) zero node is outside all =
      let here : start ≡ node = omega (arith, is) in
      subst (λ place. T place (received a) (up a) (downs a) (ended a)) here (each start a all.0)
  at_place start (suc n) (a ∷ accounts) (suc k) node is outside all =
      at_place (start + 1) n accounts k node (omega (arith, is)) (λ past. outside (omega (arith, past))) all.1

module _ {A X Y : Type 0} (delivered_by : X → ReceiverAccount) (sent_by : Y → SenderAccount) (may_refuse : Y → Type 0)
    (parents : List (Option ℕ)) (openings : List (List ℕ)) (published : List ℕ)
    (received_of : A → List ℕ) (up_of : A → Option X) (downs_of : A → List Y) (ended_of : A → Ended) (accounts : List A)
    (received : List (List ℕ)) (ended : List Ended) (recvs : List X) (sends : List Y)
    (received_is : received ≡ map received_of accounts) (ended_is : ended ≡ map ended_of accounts)
    (recvs_are : by_child parents recvs ≡ map up_of accounts) (sends_are : by_parent parents sends ≡ map downs_of accounts)
    (work : AllZip (λ node a. IsWork (initial_at (root_of parents) published openings node) (received_of a) (option_map delivered_by (up_of a))
    (map sent_by (downs_of a)) (ended_of a)) (range_with_len 0 (length parents)) accounts)
    (offers : AllZip (λ node a. All (λ d. OffersUnlessRefused may_refuse (received_of a) d (sent_by d)) (downs_of a))
    (range_with_len 0 (length parents)) accounts)
    (tree : IsRooted parents) where
  -- what a node begins with
  abbrev first : ℕ → List ℕ
  first = initial_at (root_of parents) published openings

  -- the same for what was gathered
  at_node : (T : ℕ → List ℕ → Option X → List Y → Ended → Type 0) (node : ℕ)
      → ((k : ℕ) (a : A) → IsWork (first k) (received_of a) (option_map delivered_by (up_of a)) (map sent_by (downs_of a)) (ended_of a)
      → T k (received_of a) (up_of a) (downs_of a) (ended_of a))
      → (length accounts ≤ node → T node [] None [] Turns)
      → T node (received_at received node) (entry_into parents recvs node) (get_or (map downs_of accounts) node []) (ended_at ended node)
  at_node T node each outside =
      subst (λ xs. T node (get_or xs node []) (entry_into parents recvs node) (get_or (map downs_of accounts) node []) (ended_at ended node)) (sym received_is)
      (subst (λ xs. T node (get_or (map received_of accounts) node []) (get_or xs node None) (get_or (map downs_of accounts) node []) (ended_at ended node)) (sym recvs_are)
      (subst (λ xs. T node (get_or (map received_of accounts) node []) (get_or (map up_of accounts) node None) (get_or (map downs_of accounts) node []) (get_or xs node Turns)) (sym ended_is)
      (at_place _ received_of up_of downs_of ended_of T each 0 (length parents) accounts node node (omega arith) outside work)))

  -- a child received its opening, and then what the link into it delivered
  delivered_at : (child : ℕ) (recv : X) → entry_into parents recvs child ≡ Some recv
      → received_at received child ≡ opening_at openings child ++ (delivered_by recv).delivered
  delivered_at child recv there =
      at_node (λ node r u ds e. u ≡ Some recv → r ≡ first node ++ (delivered_by recv).delivered) child
      (λ node a worked is. worked.received_is ∙ ap (λ u. received_by (option_map delivered_by u) (first node)) is)
      (λ past is. absurd (none-some recv is)) there
      ∙ ap (λ begun. begun ++ (delivered_by recv).delivered)
      (first_below (root_of parents) published openings parents recvs child recv (parent_at parents child) tree.root_has_none refl there)

  -- the link into a node that ended with its upstream is closed
  upstream_at : (child : ℕ) (recv : X) → entry_into parents recvs child ≡ Some recv → ended_at ended child ≡ Upstream
      → (delivered_by recv).closed ≡ true
  upstream_at child recv =
      at_node (λ node r u ds e. u ≡ Some recv → e ≡ Upstream → (delivered_by recv).closed ≡ true) child
      (λ node a worked is upstream.
      subst (λ u. IfSome (option_map delivered_by u) (λ r. r.closed ≡ true)) is (worked.handed_on upstream).upstream)
      (λ past is. absurd (none-some recv is))

  -- what holds of each lower end of each node, with what the node received and why it ended, holds
  -- of the end of the link to each child
  at_parent : (Q : List ℕ → Ended → Y → Type 0)
      → ((node : ℕ) → All (λ d. Q (received_at received node) (ended_at ended node) d) (get_or (map downs_of accounts) node []))
      → (child parent : ℕ) (send : Y) → parent_at parents child ≡ Some parent → entry_into parents sends child ≡ Some send
      → Q (received_at received parent) (ended_at ended parent) send
  at_parent Q all child parent send is_child is =
      holds_of_child (λ node d. Q (received_at received node) (ended_at ended node) d) parents sends (map downs_of accounts) sends_are
      (λ node within. all node) child parent send is_child (tree.known_parents child parent is_child) is

  -- what a node offered on the link to its child is a prefix of what it received, and is closed
  served_at : (child parent : ℕ) (send : Y) → parent_at parents child ≡ Some parent → entry_into parents sends child ≡ Some send
      → IsServed (received_at received parent) (sent_by send)
  served_at =
      at_parent (λ r e d. IsServed r (sent_by d))
      (λ node. at_node (λ k r u ds e. All (λ d. IsServed r (sent_by d)) ds) node
      (λ node a worked. all_of_map (IsServed (received_of a)) sent_by (downs_of a) worked.served) (λ past. All-nil _))

  -- a node that ended with its upstream handed all that it received on, and all of it is
  -- acknowledged
  handed_on_at : (child parent : ℕ) (send : Y) → parent_at parents child ≡ Some parent → entry_into parents sends child ≡ Some send
      → ended_at ended parent ≡ Upstream → HasAll (received_at received parent) (sent_by send)
  handed_on_at =
      at_parent (λ r e d. e ≡ Upstream → HasAll r (sent_by d))
      (λ node. at_node (λ k r u ds e. All (λ d. e ≡ Upstream → HasAll r (sent_by d)) ds) node
      (λ node a worked k d inside upstream.
      all_of_map (HasAll (received_of a)) sent_by (downs_of a) (worked.handed_on upstream).lower k d inside) (λ past. All-nil _))

  -- a node offered all that it received, or the last item waits, unless the end may refuse it
  offers_at : (child parent : ℕ) (send : Y) → parent_at parents child ≡ Some parent → entry_into parents sends child ≡ Some send
      → OffersUnlessRefused may_refuse (received_at received parent) send (sent_by send)
  offers_at =
      at_parent (λ r e d. OffersUnlessRefused may_refuse r d (sent_by d))
      (λ node.
      subst (λ xs. All (λ d. OffersUnlessRefused may_refuse (get_or xs node []) d (sent_by d)) (get_or (map downs_of accounts) node [])) (sym received_is)
      (at_place (λ _ a. All (λ d. OffersUnlessRefused may_refuse (received_of a) d (sent_by d)) (downs_of a)) received_of up_of downs_of ended_of
      (λ k r u ds e. All (λ d. OffersUnlessRefused may_refuse r d (sent_by d)) ds) (λ node a holds. holds)
      0 (length parents) accounts node node (omega arith) (λ past. All-nil _) offers))

  -- the root has the published items
  root_at : received_at received (root_of parents) ≡ published
  root_at =
      at_node (λ node r u ds e. u ≡ None → r ≡ first node) (root_of parents)
      (λ node a worked is. worked.received_is ∙ ap (λ u. received_by (option_map delivered_by u) (first node)) is)
      (λ past. absurd (omega (arith, past, tree.root_is_node, length-map accounts up_of, ap length recvs_are, length-by_child parents recvs)))
      (no_link_into parents recvs (root_of parents) tree.root_has_none)
      ∙ first_at_root (root_of parents) published openings

  -- there is an account for each node
  counted : length accounts ≡ length parents
  counted = sym (length-map accounts up_of) ∙ (sym (ap length recvs_are) ∙ length-by_child parents recvs)

  -- so this is a run
  pub is_run : IsRun delivered_by sent_by may_refuse parents openings published received ended recvs sends
  is_run = record {
    all_received = ap length received_is ∙ (length-map accounts received_of ∙ counted);
    all_ended = ap length ended_is ∙ (length-map accounts ended_of ∙ counted);
    at_root = root_at;
    delivered = delivered_at;
    served = served_at;
    offers = offers_at;
    upstream = upstream_at;
    handed_on = handed_on_at;
  }
