-- What a node offers to a child is a prefix of its list, so the child obeys the tree law.
use Rattle.std.proofs.Common.{◌≡◌, ℕ, ◌+◌, ◌*◌, ◌≤◌, Bool, true, false, if◌then◌else◌, List, [], ◌∷◌, ◌++◌, map, length, slice_get, Some, None, Option, refl, sym, ◌∙◌, ap, subst, true≢false}
use mathlib.Core.List.{IsPrefix}
use Rattle.std.proofs.lemmas.List.{length_push}
use Rattle.stab_frames.specs.declared.frame.Frame.{Frame}
use Rattle.stab_frames.specs.Parameters.{Parameters, AreLawful}
use Rattle.stab_core.specs.LinkLaw.{LinkLaw}
use Rattle.stab_core.proofs.ForCallers.{prefix_of_grown, prefix_of_prefix, prefix_with_next}
use Rattle.stab_core.proofs.LinkLaws.{replay_link_law}
use Rattle.stab_treecore.specs.TreeLaw.{TreeLaw}
use Rattle.stab_treecore.proofs.Replayed.{ReplaysObey}
use Rattle.stab_treecore.proofs.ForCallers.{law_below, law_past_opening}
use Rattle.stab_line.specs.Ends.{SenderEnd, ReceiverEnd, accepts, offered_to}
use Rattle.stab_line.specs.Line.{Line, LineAct, line_step, line_run, held, with_taken, receives_frame, receives_ack}
use Rattle.stab_line.specs.Line.{offer_item, frame_sent, frame_comes, ack_sent, ack_comes, frame_lost, ack_lost, sender_closes, receiver_closes}
use Rattle.stab_line.specs.Edge.{Edge, EdgeAct, is_offer, offers_next, edge_step, edge_run, new_edge}
use Rattle.stab_line.specs.Edge.{list_grows, child_polled, on_line}
use Rattle.stab_line.proofs.Lines.{line_obeys}
use Rattle.stab_line.specs.Line.{start_of}
use Rattle.stab_line.specs.StartLaw.{LinkLawOfStart}
use Rattle.stab_line.proofs.StartLaws.{line_obeys_start}

-- the sender was offered the front of the list, of this length
record Kept (e : Edge) : Type 0 where
  counted : e.count ≡ length e.line.offered
  begins : IsPrefix e.line.offered e.list

-- the acts of the line among those of an edge, and what is kept
record Led (p : Parameters) (before after : Edge) : Type 0 where
  acts : List LineAct
  leads : line_run p before.line acts ≡ after.line
  kept : Kept after

run_append : (p : Parameters) (l : Line) (first second : List LineAct)
    → line_run p l (first ++ second) ≡ line_run p (line_run p l first) second
run_append p l [] second = refl
run_append p l (act ∷ first) second = run_append p (line_step p l act) first second

-- ---- acts that offer nothing

frame_offers_none : (repeated : Bool) (l : Line) (front : Option Frame)
    → (receives_frame repeated l front).offered ≡ l.offered
frame_offers_none repeated l None = refl
frame_offers_none repeated l (Some f) = refl

ack_offers_none : (p : Parameters) (repeated : Bool) (l : Line) (front : Option ℕ)
    → (receives_ack p repeated l front).offered ≡ l.offered
ack_offers_none p repeated l None = refl
ack_offers_none p repeated l (Some label) = refl

same_offered : (p : Parameters) (l : Line) (act : LineAct) → is_offer act ≡ false
    → (line_step p l act).offered ≡ l.offered
same_offered p l (offer_item item) no_offer = absurd (true≢false no_offer)
same_offered p l frame_sent no_offer = refl
same_offered p l (frame_comes repeated) no_offer = frame_offers_none repeated l (slice_get l.frames 0)
same_offered p l ack_sent no_offer = refl
same_offered p l (ack_comes repeated) no_offer = ack_offers_none p repeated l (slice_get l.acks 0)
same_offered p l (frame_lost place) no_offer = refl
same_offered p l (ack_lost place) no_offer = refl
same_offered p l sender_closes no_offer = refl
same_offered p l receiver_closes no_offer = refl

-- an act on the line that offers nothing
after_act : (p : Parameters) (e : Edge) (act : LineAct) (offers : Bool) → is_offer act ≡ offers → Kept e
    → Led p e (if offers then e else record e { line = line_step p e.line act })
after_act p e act true offers kept = record { acts = []; leads = refl; kept = kept }
after_act p e act false no_offer kept =
    let same = same_offered p e.line act no_offer in
    record {
      acts = act ∷ [];
      leads = refl;
      kept = record {
        counted = kept.counted ∙ ap (λ items. length items) (sym same);
        begins = subst (λ items. IsPrefix items e.list) (sym same) kept.begins;
      };
    }

-- ---- offers

-- an item that is next in the list was taken or not
kept_offer : (p : Parameters) (e : Edge) (item : ℕ) (taken : Bool) → slice_get e.list e.count ≡ Some item → Kept e
    → Kept (record {
      list = e.list;
      count = if taken then e.count + 1 else e.count;
      line = record e.line { sender = offered_to e.line.sender item; offered = with_taken taken e.line.offered item };
    })
kept_offer p e item false is_next kept = record { counted = kept.counted; begins = kept.begins }
kept_offer p e item true is_next kept =
    record {
      counted = ap (λ n. n + 1) kept.counted ∙ sym (length_push e.line.offered item);
      begins =
          prefix_with_next e.line.offered e.list item kept.begins
          (subst (λ n. slice_get e.list n ≡ Some item) kept.counted is_next);
    }

after_poll : (p : Parameters) (e : Edge) (front : Option ℕ) → slice_get e.list e.count ≡ front → Kept e
    → Led p e (offers_next p e front)
after_poll p e None is_next kept = record { acts = []; leads = refl; kept = kept }
after_poll p e (Some item) is_next kept =
    record {
      acts = offer_item item ∷ [];
      leads = refl;
      kept = kept_offer p e item (accepts e.line.sender) is_next kept;
    }

-- ---- runs

after_one : (p : Parameters) (e : Edge) (act : EdgeAct) → Kept e → Led p e (edge_step p e act)
after_one p e (list_grows item) kept =
    record {
      acts = [];
      leads = refl;
      kept = record {
        counted = kept.counted;
        begins = prefix_of_prefix e.line.offered e.list (e.list ++ item ∷ []) kept.begins (prefix_of_grown e.list item);
      };
    }
after_one p e child_polled kept = after_poll p e (slice_get e.list e.count) refl kept
after_one p e (on_line act) kept = after_act p e act (is_offer act) refl kept

after_run : (p : Parameters) (e : Edge) (acts : List EdgeAct) → Kept e → Led p e (edge_run p e acts)
after_run p e [] kept = record { acts = []; leads = refl; kept = kept }
after_run p e (act ∷ acts) kept =
    let one = after_one p e act kept in
    let rest = after_run p (edge_step p e act) acts one.kept in
    record {
      acts = one.acts ++ rest.acts;
      leads = run_append p e.line one.acts rest.acts ∙ ap (λ l. line_run p l rest.acts) one.leads ∙ rest.leads;
      kept = rest.kept;
    }

-- what a child is offered is a prefix of the list
pub offers_prefix : (p : Parameters) (list : List ℕ) (frames : List Frame) (acks : List ℕ) (sender : SenderEnd)
    (receiver : ReceiverEnd) (acts : List EdgeAct) → IsPrefix (held sender.state.item) list
    → let e = edge_run p (new_edge list frames acks sender receiver) acts in IsPrefix e.line.offered e.list
offers_prefix p list frames acks sender receiver acts begins =
    (after_run p (new_edge list frames acks sender receiver) acts (record { counted = refl; begins = begins })).kept.begins

-- and a law of all replays holds of what happened on the line
pub edge_obeys : (Law : ℕ → List ℕ → List ℕ → ℕ → List ℕ → Type 0) → ReplaysObey Law
    → (p : Parameters) (list : List ℕ) (frames : List Frame) (acks : List ℕ) (sender : SenderEnd)
    (receiver : ReceiverEnd) (acts : List EdgeAct) → AreLawful p → length frames ≤ p.capacity → length acks ≤ p.capacity
    → IsPrefix (held sender.state.item) list
    → let e = edge_run p (new_edge list frames acks sender receiver) acts in
    Law p.capacity (map (λ f. f.item) frames) e.line.offered e.line.acked e.line.delivered
edge_obeys Law obey p list frames acks sender receiver acts lawful few_frames few_acks begins =
    let before : Edge = new_edge list frames acks sender receiver in
    let led : Led p before (edge_run p before acts) = after_run p before acts (record { counted = refl; begins = begins }) in
    subst (λ (l : Line). Law p.capacity (map (λ f. f.item) frames) l.offered l.acked l.delivered) led.leads
    (line_obeys Law obey p frames acks sender receiver led.acts lawful few_frames few_acks)

-- so does the link law of its start
pub edge_obeys_start : (p : Parameters) (list : List ℕ) (frames : List Frame) (acks : List ℕ) (sender : SenderEnd)
    (receiver : ReceiverEnd) (acts : List EdgeAct) → AreLawful p → length frames ≤ p.capacity → length acks ≤ p.capacity
    → IsPrefix (held sender.state.item) list
    → let e = edge_run p (new_edge list frames acks sender receiver) acts in
    LinkLawOfStart (start_of frames acks sender receiver) e.line.offered e.line.acked e.line.delivered
edge_obeys_start p list frames acks sender receiver acts lawful few_frames few_acks begins =
    let before : Edge = new_edge list frames acks sender receiver in
    let led : Led p before (edge_run p before acts) = after_run p before acts (record { counted = refl; begins = begins }) in
    subst (λ (l : Line). LinkLawOfStart (start_of frames acks sender receiver) l.offered l.acked l.delivered) led.leads
    (line_obeys_start p frames acks sender receiver led.acts lawful few_frames few_acks)

-- so the child obeys the tree law where its parent does
pub child_obeys_law : (p : Parameters) (list : List ℕ) (frames : List Frame) (acks : List ℕ) (sender : SenderEnd)
    (receiver : ReceiverEnd) (acts : List EdgeAct) (most_strays most_missing : ℕ) (opening garbage published : List ℕ)
    → AreLawful p → length frames ≤ p.capacity → length acks ≤ p.capacity → IsPrefix (held sender.state.item) list
    → let e = edge_run p (new_edge list frames acks sender receiver) acts in
    TreeLaw most_strays most_missing garbage published e.list
    → TreeLaw (most_strays + p.capacity + length opening) (most_missing + (2 * p.capacity + 1))
    (opening ++ (map (λ f. f.item) frames ++ garbage)) published (opening ++ e.line.delivered)
child_obeys_law p list frames acks sender receiver acts most_strays most_missing opening garbage published lawful few_frames few_acks begins above =
    let e : Edge = edge_run p (new_edge list frames acks sender receiver) acts in
    let items : List ℕ = map (λ f. f.item) frames in
    law_past_opening (most_strays + p.capacity) opening (items ++ garbage) published e.line.delivered
    (most_missing + (2 * p.capacity + 1))
    (law_below p.capacity most_strays e.line.acked items garbage published e.list e.line.offered e.line.delivered
    (offers_prefix p list frames acks sender receiver acts begins) most_missing above
    (edge_obeys LinkLaw replay_link_law p list frames acks sender receiver acts lawful few_frames few_acks begins))
