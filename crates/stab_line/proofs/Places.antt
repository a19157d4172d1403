-- A child that begins at a place of its node's list is as one that begins at the front of the rest.
use Rattle.std.proofs.Common.{◌≡◌, ℕ, ◌+◌, ◌*◌, ◌≤◌, Bool, true, false, if◌then◌else◌, List, [], ◌∷◌, ◌++◌, map, length, take, drop, slice_get, Option, Some, None, refl, sym, ◌∙◌, ap, ap₂, subst, append_assoc, arith, length-take, take-append-drop}
use Rattle.std.proofs.Math.Seq.{drop-append_seam}
use mathlib.Core.List.{IsPrefix}
use Rattle.stab_frames.specs.declared.frame.Frame.{Frame}
use Rattle.stab_frames.specs.Parameters.{Parameters, AreLawful}
use Rattle.stab_core.specs.LinkLaw.{LinkLaw}
use Rattle.stab_core.proofs.LinkLaws.{replay_link_law}
use Rattle.stab_treecore.specs.TreeLaw.{TreeLaw}
use Rattle.stab_line.specs.Ends.{SenderEnd, ReceiverEnd, accepts}
use Rattle.stab_line.specs.Line.{Line, LineAct, line_step, held, start_of}
use Rattle.stab_line.specs.Edge.{Edge, EdgeAct, is_offer, offers_next, edge_step, edge_run, new_edge, edge_at}
use Rattle.stab_line.specs.Edge.{list_grows, child_polled, on_line}
use Rattle.stab_line.specs.StartLaw.{LinkLawOfStart}
use Rattle.stab_line.proofs.Calls.{counts_past, get_past}
use Rattle.stab_line.proofs.Edges.{offers_prefix, edge_obeys, edge_obeys_start, child_obeys_law}

-- the edge with these items before its list, which the child was not offered
abbrev pub with_front : List ℕ → Edge → Edge
with_front front e = record { list = front ++ e.list; count = length front + e.count; line = e.line }

polled_past : (p : Parameters) (front : List ℕ) (e : Edge) (next : Option ℕ)
    → offers_next p (with_front front e) next ≡ with_front front (offers_next p e next)
polled_past p front e None = refl
polled_past p front e (Some item) =
    ap (λ count. record {
      list = front ++ e.list;
      count = count;
      line = (offers_next p e (Some item)).line;
    }) (counts_past (accepts e.line.sender) (length front) e.count)

acted_past : (p : Parameters) (front : List ℕ) (e : Edge) (act : LineAct) (offers : Bool)
    → (if offers then with_front front e else record (with_front front e) { line = line_step p e.line act })
    ≡ with_front front (if offers then e else record e { line = line_step p e.line act })
acted_past p front e act true = refl
acted_past p front e act false = refl

pub step_past : (p : Parameters) (front : List ℕ) (e : Edge) (act : EdgeAct)
    → edge_step p (with_front front e) act ≡ with_front front (edge_step p e act)
step_past p front e (list_grows item) =
    ap (λ list. record { list = list; count = length front + e.count; line = e.line })
    (append_assoc front e.list (item ∷ []))
step_past p front e child_polled =
    ap (λ next. offers_next p (with_front front e) next) (get_past front e.list e.count)
    ∙ polled_past p front e (slice_get e.list e.count)
step_past p front e (on_line act) = acted_past p front e act (is_offer act)

run_past : (p : Parameters) (front : List ℕ) (e : Edge) (acts : List EdgeAct)
    → edge_run p (with_front front e) acts ≡ with_front front (edge_run p e acts)
run_past p front e [] = refl
run_past p front e (act ∷ acts) =
    ap (λ next. edge_run p next acts) (step_past p front e act) ∙ run_past p front (edge_step p e act) acts

module _ (p : Parameters) (place : ℕ) (list : List ℕ) (frames : List Frame) (acks : List ℕ) (sender : SenderEnd)
    (receiver : ReceiverEnd) (acts : List EdgeAct) (here : place ≤ length list) where
  abbrev rest : Edge
  rest = edge_run p (new_edge (drop place list) frames acks sender receiver) acts

  abbrev whole : Edge
  whole = edge_run p (edge_at place list frames acks sender receiver) acts

  front_length : length (take place list) ≡ place
  front_length = omega (arith, length-take place list)

  begins : edge_at place list frames acks sender receiver
      ≡ with_front (take place list) (new_edge (drop place list) frames acks sender receiver)
  begins =
      let first : Edge = edge_at place list frames acks sender receiver in
      ap₂ (λ items count. record { list = items; count = count; line = first.line })
      (sym (take-append-drop place list))
      (ap (λ n. n + length (held sender.state.item)) (sym front_length))

  runs : whole ≡ with_front (take place list) rest
  runs = ap (λ e. edge_run p e acts) begins ∙ run_past p (take place list) (new_edge (drop place list) frames acks sender receiver) acts

  same_line : whole.line ≡ rest.line
  same_line = ap (λ (e : Edge). e.line) runs

  same_list : drop place whole.list ≡ rest.list
  same_list =
      ap₂ drop (sym front_length) (ap (λ (e : Edge). e.list) runs)
      ∙ drop-append_seam (take place list) rest.list

  module _ (holds : IsPrefix (held sender.state.item) (drop place list)) where
    -- what the child is offered is a prefix of the list from its place on
    offered_there : IsPrefix whole.line.offered (drop place whole.list)
    offered_there =
        subst (λ (l : Line). IsPrefix l.offered (drop place whole.list)) (sym same_line)
        (subst (λ items. IsPrefix rest.line.offered items) (sym same_list)
        (offers_prefix p (drop place list) frames acks sender receiver acts holds))

    module _ (lawful : AreLawful p) (few_frames : length frames ≤ p.capacity) (few_acks : length acks ≤ p.capacity) where
      -- it gets that as the link law says
      delivered_there : LinkLaw p.capacity (map (λ f. f.item) frames) whole.line.offered whole.line.acked whole.line.delivered
      delivered_there =
          subst (λ (l : Line). LinkLaw p.capacity (map (λ f. f.item) frames) l.offered l.acked l.delivered) (sym same_line)
          (edge_obeys LinkLaw replay_link_law p (drop place list) frames acks sender receiver acts lawful few_frames few_acks holds)

      -- and as that of its start says
      delivered_of_start : LinkLawOfStart (start_of frames acks sender receiver) whole.line.offered whole.line.acked whole.line.delivered
      delivered_of_start =
          subst (λ (l : Line). LinkLawOfStart (start_of frames acks sender receiver) l.offered l.acked l.delivered) (sym same_line)
          (edge_obeys_start p (drop place list) frames acks sender receiver acts lawful few_frames few_acks holds)

      -- and the tree law, where the list from there on obeys it
      obeys_there : (most_strays most_missing : ℕ) (opening garbage published : List ℕ)
          → TreeLaw most_strays most_missing garbage published (drop place whole.list)
          → TreeLaw (most_strays + p.capacity + length opening) (most_missing + (2 * p.capacity + 1))
          (opening ++ (map (λ f. f.item) frames ++ garbage)) published (opening ++ whole.line.delivered)
      obeys_there most_strays most_missing opening garbage published above =
          subst (λ (l : Line). TreeLaw (most_strays + p.capacity + length opening) (most_missing + (2 * p.capacity + 1))
          (opening ++ (map (λ f. f.item) frames ++ garbage)) published (opening ++ l.delivered)) (sym same_line)
          (child_obeys_law p (drop place list) frames acks sender receiver acts most_strays most_missing opening garbage published
          lawful few_frames few_acks holds
          (subst (λ items. TreeLaw most_strays most_missing garbage published items) same_list above))

-- a child that was made anew at a place gets the list from there on
pub place_offers : (p : Parameters) (place : ℕ) (list : List ℕ) (frames : List Frame) (acks : List ℕ) (sender : SenderEnd)
    (receiver : ReceiverEnd) (acts : List EdgeAct) → place ≤ length list → IsPrefix (held sender.state.item) (drop place list)
    → let e = edge_run p (edge_at place list frames acks sender receiver) acts in
    IsPrefix e.line.offered (drop place e.list)
place_offers = offered_there

pub place_delivers : (p : Parameters) (place : ℕ) (list : List ℕ) (frames : List Frame) (acks : List ℕ) (sender : SenderEnd)
    (receiver : ReceiverEnd) (acts : List EdgeAct) → AreLawful p → length frames ≤ p.capacity → length acks ≤ p.capacity
    → place ≤ length list → IsPrefix (held sender.state.item) (drop place list)
    → let e = edge_run p (edge_at place list frames acks sender receiver) acts in
    LinkLaw p.capacity (map (λ f. f.item) frames) e.line.offered e.line.acked e.line.delivered
place_delivers p place list frames acks sender receiver acts lawful few_frames few_acks here holds =
    delivered_there p place list frames acks sender receiver acts here holds lawful few_frames few_acks

pub place_delivers_of_start : (p : Parameters) (place : ℕ) (list : List ℕ) (frames : List Frame) (acks : List ℕ) (sender : SenderEnd)
    (receiver : ReceiverEnd) (acts : List EdgeAct) → AreLawful p → length frames ≤ p.capacity → length acks ≤ p.capacity
    → place ≤ length list → IsPrefix (held sender.state.item) (drop place list)
    → let e = edge_run p (edge_at place list frames acks sender receiver) acts in
    LinkLawOfStart (start_of frames acks sender receiver) e.line.offered e.line.acked e.line.delivered
place_delivers_of_start p place list frames acks sender receiver acts lawful few_frames few_acks here holds =
    delivered_of_start p place list frames acks sender receiver acts here holds lawful few_frames few_acks

pub place_obeys : (p : Parameters) (place : ℕ) (list : List ℕ) (frames : List Frame) (acks : List ℕ) (sender : SenderEnd)
    (receiver : ReceiverEnd) (acts : List EdgeAct) (most_strays most_missing : ℕ) (opening garbage published : List ℕ)
    → AreLawful p → length frames ≤ p.capacity → length acks ≤ p.capacity
    → place ≤ length list → IsPrefix (held sender.state.item) (drop place list)
    → let e = edge_run p (edge_at place list frames acks sender receiver) acts in
    TreeLaw most_strays most_missing garbage published (drop place e.list)
    → TreeLaw (most_strays + p.capacity + length opening) (most_missing + (2 * p.capacity + 1))
    (opening ++ (map (λ f. f.item) frames ++ garbage)) published (opening ++ e.line.delivered)
place_obeys p place list frames acks sender receiver acts most_strays most_missing opening garbage published lawful few_frames few_acks here holds =
    obeys_there p place list frames acks sender receiver acts here holds lawful few_frames few_acks
    most_strays most_missing opening garbage published
