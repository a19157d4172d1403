-- What the workers left and what settling showed, joined: each link of the report is explained, by
-- its own script.
use Rattle.std.proofs.Common.{◌≡◌, inl, inr, ℕ, zero, suc, true, false, List, [], ◌∷◌, get_or, length, map, Option, Some, None, refl, ap, sym, ◌∙◌, subst, arith, All}
use Rattle.std.proofs.lemmas.Bool.{false≢true}
use Rattle.std.proofs.lemmas.Option.{none-some, same_Some}
use mathlib.Core.List.{IsPrefix}
use Rattle.stab_core.specs.LinkSetup.{CanBegin, LinkSetup}
use Rattle.stab_ends.specs.Accounts.{SenderAccount}
use Rattle.stab_acts.specs.Scripts.{Acts, receiver_half, sender_half}
use Rattle.std.specs.List.{AllZip}
use Rattle.stab_job.specs.JobValues.{JobValue, network}
use Rattle.stab_node.specs.declared.account.Ended.{Ended}
use Rattle.stab_node.specs.declared.account.Ended.TheVariants.{Turns, Upstream}
use Rattle.stab_report.specs.EndedNodes.{AllHandOn}
use Rattle.stab_tree.specs.Links.{links_from, links_of}
use Rattle.stab_tree.specs.Nodes.{parent_at, root_of}
use Rattle.stab_tree.specs.ByChild.{by_child}
use Rattle.stab_treecore.specs.EdgeLaw.{EdgeLaw}
use Rattle.stab_treecore.specs.Network.{Network}
use Rattle.stab_node.proofs.ForCallers.{holds_by_child, length-by_child}
use Rattle.stab_node.specs.ByNode.{entry_into, received_at}
use Rattle.stab_word.specs.Interleaving.{AnInterleavingExplains}
use Rattle.stab_run.specs.AnyLinks.{HasSent, IsFollowed, IsOneOf, IsScriptOf, given_to, kind_of, received_by, sent_by}
use Rattle.stab_node.specs.Work.{HasOffered, OffersUnlessRefused}
use Rattle.stab_run.specs.AnyEnds.{MayRefuseOffer}
use Rattle.stab_run.specs.ByScript.{AreByLockedScript, AreByScript}
use Rattle.stab_run.specs.LinkKinds.{LinkKind, behind_lock, kind_for, two_words}
use Rattle.stab_run.specs.Settled.{IsSettled, IsSettledByScript}
use Rattle.stab_run.specs.LinkRuns.{AllOfEach, AreSettled, IsJobRun, acked_of}
use Rattle.stab_run.specs.Reports.{OnePerNode, Reported, acked_at, as_report, is_upstream}
use Rattle.stab_run.specs.Runs.{AreExplained, RootHas}
use Rattle.stab_run.specs.Scripted.{FollowPlans, IsLetThrough, LinkPlan, ScriptedRecvFinished, ScriptedSendFinished, ack_stores, frame_stores, plan}
use Rattle.stab_run.specs.declared.any_link.AnyLink.{AnyLink}
use Rattle.stab_run.specs.declared.any_link.AnyLink.TheVariants.{Lock, Word}
use Rattle.stab_run.specs.declared.links.Links.{Links}
use Rattle.stab_run.proofs.OfKinds.{IsWord}
use Rattle.stab_run.proofs.Paired.{entry_mapped, paired_entry, same_entry}
use Rattle.stab_tree.proofs.ForCallers.{no_link_into}

-- what holds of the link into a child and of its two finished ends
pub record HoldsAtChild {L S R : Type 0} (P : L → S → R → Type 0) (parents : List (Option ℕ)) (links : List L) (sends : List S) (recvs : List R)
    (child : ℕ) : Type 0 where
  pub link : L
  pub send : S
  pub recv : R
  pub leads : entry_into parents links child ≡ Some link
  pub sent : entry_into parents sends child ≡ Some send
  pub delivered : entry_into parents recvs child ≡ Some recv
  pub holds : P link send recv

-- what holds of each link holds of the link into each child
at_child : {L S R : Type 0} (P : L → S → R → Type 0) (w : ℕ) (parents : List (Option ℕ)) (links : List L) (sends : List S) (recvs : List R)
    → length links ≡ length (links_from w parents) → AllOfEach P links sends recvs
    → (child parent : ℕ) → parent_at parents child ≡ Some parent → HoldsAtChild P parents links sends recvs child
at_child P w [] links sends recvs counted all child parent is_child = absurd (none-some parent is_child)
at_child P w (None ∷ parents) links sends recvs counted all zero parent is_child = absurd (none-some parent is_child)
at_child P w (None ∷ parents) links sends recvs counted all (suc child) parent is_child =
    let below = at_child P (suc w) parents links sends recvs counted all child parent is_child in
    record {
      link = below.link;
      send = below.send;
      recv = below.recv;
      leads = below.leads;
      sent = below.sent;
      delivered = below.delivered;
      holds = below.holds;
    }
at_child P w (Some q ∷ parents) [] sends recvs counted all child parent is_child = absurd (omega arith)
at_child P w (Some q ∷ parents) (link ∷ links) [] recvs counted all child parent is_child = absurd all
at_child P w (Some q ∷ parents) (link ∷ links) (send ∷ sends) [] counted all child parent is_child = absurd all
at_child P w (Some q ∷ parents) (link ∷ links) (send ∷ sends) (recv ∷ recvs) counted all zero parent is_child =
    record { link = link; send = send; recv = recv; leads = refl; sent = refl; delivered = refl; holds = all.0 }
at_child P w (Some q ∷ parents) (link ∷ links) (send ∷ sends) (recv ∷ recvs) counted all (suc child) parent is_child =
    let below = at_child P (suc w) parents links sends recvs (omega arith) all.1 child parent is_child in
    record {
      link = below.link;
      send = below.send;
      recv = below.recv;
      leads = below.leads;
      sent = below.sent;
      delivered = below.delivered;
      holds = below.holds;
    }

-- what holds of each link and the accounts of its two ends, said of the ends
of_ends : {L S R A B : Type 0} (P : L → A → B → Type 0) (sent : S → A) (delivered : R → B) (links : List L) (sends : List S) (recvs : List R)
    → AllOfEach P links (map sent sends) (map delivered recvs) → AllOfEach (λ link send recv. P link (sent send) (delivered recv)) links sends recvs
of_ends P sent delivered [] [] [] all = tt
of_ends P sent delivered [] [] (recv ∷ recvs) all = absurd all
of_ends P sent delivered [] (send ∷ sends) recvs all = absurd all
of_ends P sent delivered (link ∷ links) [] recvs all = absurd all
of_ends P sent delivered (link ∷ links) (send ∷ sends) [] all = absurd all
of_ends P sent delivered (link ∷ links) (send ∷ sends) (recv ∷ recvs) all = (all.0, of_ends P sent delivered links sends recvs all.1)

-- a worker of which the report says that it ended with its upstream did so
ended_there : (ended : List Ended) (node : ℕ) → get_or (map is_upstream ended) node false ≡ true → get_or ended node Turns ≡ Upstream
ended_there [] node is = absurd (false≢true is)
ended_there (Upstream ∷ ended) zero is = refl
ended_there (Turns ∷ ended) zero is = absurd (false≢true is)
ended_there (one ∷ ended) (suc node) is = ended_there ended node is

-- the report of what the workers left
abbrev pub report_of : List (Option ℕ) → List (List ℕ) → List Ended → List SenderAccount → List LinkKind → Reported
report_of parents received ended sends kinds =
    record { received = received; acked = by_child parents (map acked_of sends); ended = ended; kinds = kinds }

module _ (job : JobValue) (made : List AnyLink) (received : List (List ℕ)) (ended : List Ended) (sends : List ScriptedSendFinished)
    (recvs : List ScriptedRecvFinished) (kinds : List LinkKind) (left : IsJobRun job made received ended recvs sends) where
  abbrev net : Network
  net = network job

  abbrev parents : List (Option ℕ)
  parents = job.tree.parents

  abbrev report : Reported
  report = report_of parents received ended (map sent_by sends) kinds

  -- there is one entry per node
  pub one_per_node : OnePerNode parents report
  one_per_node = record {
    received = left.run.all_received;
    acked = length-by_child parents (map acked_of (map sent_by sends));
    ended = left.run.all_ended;
  }

  -- the root has the published items
  pub root_has : parent_at parents (root_of parents) ≡ None → RootHas net report
  root_has none = record {
    received = left.run.at_root;
    acked = no_link_into parents (map acked_of (map sent_by sends)) (root_of parents) none;
  }

  module _ (counted : length net.links ≡ length (links_of parents)) (all : AreSettled net.links (map sent_by sends) (map received_by recvs)) where
    -- the ends of the link into a child are settled, and a number of items is acknowledged on it
    settled : (child parent : ℕ) → parent_at parents child ≡ Some parent
        → HoldsAtChild (λ link send recv. IsSettled link (sent_by send) (received_by recv)) parents net.links sends recvs child
    settled = at_child (λ link send recv. IsSettled link (sent_by send) (received_by recv)) 0 parents net.links sends recvs counted
        (of_ends IsSettled sent_by received_by net.links sends recvs all)

    acked_into : (child : ℕ) (send : ScriptedSendFinished) → entry_into parents sends child ≡ Some send → acked_at report.acked child ≡ Some send.account.acked
    acked_into child send there =
        entry_mapped acked_of parents (map sent_by sends) child (sent_by send) (entry_mapped sent_by parents sends child send there)

    -- each link is explained
    pub are_explained : All CanBegin net.links → AreExplained net report
    are_explained can_begin child parent is_child =
        let link = settled child parent is_child in
        let agree = link.holds.agree in
        let served = left.run.served child parent link.send is_child link.sent in
        let edge : EdgeLaw link.link.params link.link.start (received_at received parent) link.send.account.acked link.recv.account.delivered =
        record {
          events = link.holds.events;
          closed = sym agree.closed.by_sender ∙ served.closed;
          delivers = sym agree.delivered;
          counts = sym agree.acked;
          offers = subst (λ xs. IsPrefix xs (received_at received parent)) agree.offered served.offered;
        } in
        record {
          edge = record {
            link = link.link;
            leads = link.leads;
            begins = holds_by_child CanBegin parents net.links child link.link can_begin link.leads;
            acked = link.send.account.acked;
            delivered = link.recv.account.delivered;
            has = left.run.delivered child link.recv link.delivered;
            edge = edge;
          };
          counted = acked_into child link.send link.sent;
        }

    -- what a node received whose worker ended with its upstream is acknowledged
    pub hands_on : AllHandOn parents (as_report report)
    hands_on child parent is_child over =
        let link = settled child parent is_child in
        acked_into child link.send link.sent
        ∙ ap Some (left.run.handed_on child parent link.send is_child link.sent (ended_there ended parent over)).acked

-- two words are no lock, so their ends followed what they have to follow
words_followed : (link : AnyLink) (send : ScriptedSendFinished) (recv : ScriptedRecvFinished) → kind_of link ≡ two_words → IsFollowed link send recv
    → FollowPlans (given_to link) send recv
words_followed (Lock link) send recv is held = absurd (subst IsWord (sym is) tt)
words_followed (Word link) send recv is held = held

-- and no end of theirs refused an offer
words_offered : (link : AnyLink) (received : List ℕ) (send : ScriptedSendFinished) → kind_of link ≡ two_words → HasSent link send
    → OffersUnlessRefused MayRefuseOffer received send.link.id send.account → HasOffered received send.account
words_offered (Lock link) received send is named offered = absurd (subst IsWord (sym is) tt)
words_offered (Word link) received send is named (inl refuses) = absurd (subst MayRefuseOffer named refuses)
words_offered (Word link) received send is named (inr offered) = offered

-- a lock is no two words, so its history is by the script that it was given
locked_followed : (link : AnyLink) (script : Acts) (send : ScriptedSendFinished) (recv : ScriptedRecvFinished) → kind_of link ≡ behind_lock
    → IsScriptOf script link → IsFollowed link send recv → IsSettledByScript (given_to link) script send.account recv.account
locked_followed (Lock link) script send recv is has held =
    subst (λ acts. IsSettledByScript link.given acts send.account recv.account) has held
locked_followed (Word link) script send recv is has held = absurd (subst IsWord is tt)

module _ (which : Links) (job : JobValue) (made : List AnyLink) (received : List (List ℕ)) (ended : List Ended) (sends : List ScriptedSendFinished)
    (recvs : List ScriptedRecvFinished) (kinds : List LinkKind) (left : IsJobRun job made received ended recvs sends)
    (given : map given_to made ≡ (network job).links) (one_of : All (IsOneOf which) made)
    (counted : length made ≡ length (links_of job.tree.parents)) (all : AllOfEach IsFollowed made sends recvs) where
  -- each link of two words is by its own script
  pub are_by_script : AreByScript which job (report_of job.tree.parents received ended (map sent_by sends) kinds)
  are_by_script child parent link script is_child leads its_script two =
      let parents = job.tree.parents in
      let at = at_child IsFollowed 0 parents made sends recvs counted all child parent is_child in
      let same_link : given_to at.link ≡ link =
      same_Some (given_to at.link) link
      (sym (entry_mapped given_to parents made child at.link at.leads) ∙ (ap (λ ls. entry_into parents ls child) given ∙ leads)) in
      let send_plan : at.send.link.plan ≡ plan job.turns script =
      same_entry (λ (done : ScriptedSendFinished). done.link.plan) (plan job.turns) parents sends job.scripts child at.send script left.send_plans
      at.sent its_script in
      let recv_plan : at.recv.link.plan ≡ plan job.turns script =
      same_entry (λ (done : ScriptedRecvFinished). done.link.plan) (plan job.turns) parents recvs job.scripts child at.recv script left.recv_plans
      at.delivered its_script in
      let its_kind : kind_of at.link ≡ kind_for which (given_to at.link).params =
      holds_by_child (IsOneOf which) parents made child at.link one_of at.leads in
      let is_two : kind_of at.link ≡ two_words = its_kind ∙ (ap (λ (l : LinkSetup). kind_for which l.params) same_link ∙ two) in
      let kept : FollowPlans (given_to at.link) at.send at.recv = words_followed at.link at.send at.recv is_two at.holds in
      let named : HasSent at.link at.send = paired_entry HasSent parents made sends child at.link at.send left.sent at.leads at.sent in
      let sent : entry_into parents (map sent_by sends) child ≡ Some (sent_by at.send) = entry_mapped sent_by parents sends child at.send at.sent in
      let served = left.run.served child parent at.send is_child at.sent in
      record {
        sent = at.send.steps;
        received = at.recv.steps;
        sender = at.send.account;
        receiver = at.recv.account;
        explained = subst (λ g. AnInterleavingExplains g at.send.steps at.send.account at.recv.steps at.recv.account) same_link kept.explained;
        frames = subst (λ (p : LinkPlan). IsLetThrough (sender_half p.script) p.turns (frame_stores at.send.steps)) send_plan kept.frames;
        acks = subst (λ (p : LinkPlan). IsLetThrough (receiver_half p.script) p.turns (ack_stores at.recv.steps)) recv_plan kept.acks;
        offers = served.offered;
        offers_all =
            words_offered at.link (received_at received parent) at.send is_two named (left.run.offers child parent at.send is_child at.sent);
        closed = served.closed;
        delivers = left.run.delivered child at.recv at.delivered;
        counts = entry_mapped acked_of parents (map sent_by sends) child (sent_by at.send) sent;
      }

  -- so is each locked link
  pub are_by_locked_script : AllZip IsScriptOf job.scripts made
      → AreByLockedScript which job (report_of job.tree.parents received ended (map sent_by sends) kinds)
  are_by_locked_script scripts child parent link script is_child leads its_script locked =
      let parents = job.tree.parents in
      let at = at_child IsFollowed 0 parents made sends recvs counted all child parent is_child in
      let same_link : given_to at.link ≡ link =
      same_Some (given_to at.link) link
      (sym (entry_mapped given_to parents made child at.link at.leads) ∙ (ap (λ ls. entry_into parents ls child) given ∙ leads)) in
      let its_kind : kind_of at.link ≡ kind_for which (given_to at.link).params =
      holds_by_child (IsOneOf which) parents made child at.link one_of at.leads in
      let has : IsScriptOf script at.link = paired_entry IsScriptOf parents job.scripts made child script at.link scripts its_script at.leads in
      let kept : IsSettledByScript link script at.send.account at.recv.account =
      subst (λ g. IsSettledByScript g script at.send.account at.recv.account) same_link
      (locked_followed at.link script at.send at.recv (its_kind ∙ (ap (λ (l : LinkSetup). kind_for which l.params) same_link ∙ locked)) has at.holds) in
      let sent : entry_into parents (map sent_by sends) child ≡ Some (sent_by at.send) = entry_mapped sent_by parents sends child at.send at.sent in
      let served = left.run.served child parent at.send is_child at.sent in
      record {
        events = kept.events;
        sender = at.send.account;
        receiver = at.recv.account;
        agree = kept.agree;
        noted = kept.noted;
        offers = served.offered;
        closed = served.closed;
        delivers = left.run.delivered child at.recv at.delivered;
        counts = entry_mapped acked_of parents (map sent_by sends) child (sent_by at.send) sent;
      }
