-- What a link makes of a list that it is offered item by item: from a lossy start it loses the
-- first items, from a strayed one it puts strays before it.
use Rattle.std.proofs.Common.{◌≡◌, ◌≢◌, ℕ, false, ◌+◌, ◌*◌, ◌<◌, ◌≤◌, inl, inr, List, [], ◌∷◌, ◌++◌, length, slice_index, slice_get, Some, refl, sym, ◌∙◌, ap, ap₂, arith, append_assoc, append-nil, length-append, zero, suc}
use Rattle.std.specs.List.{range_with_len}
use Rattle.std.proofs.lemmas.Bool.{cases_lt, eq-eqb, ne_eqb, lt-ltb, lt-leb, le-leb}
use Rattle.stab_frames.specs.declared.frame.Frame.{Frame}
use Rattle.stab_frames.specs.Parameters.{Parameters, AreLawful, next}
use Rattle.stab_core.specs.declared.act.LinkAct.{LinkAct}
use Rattle.stab_core.specs.declared.act.LinkAct.TheVariants.{Offer, SendFrame, RecvFrame, SendAck, RecvAck}
use Rattle.stab_core.specs.declared.start.Start.{Start}
use Rattle.stab_core.specs.Link.{LinkValue, link_at}
use Rattle.stab_core.specs.LinkActs.{event_of}
use Rattle.stab_core.specs.Replay.{initial, unused_label}
use Rattle.stab_core.specs.CounterExamples.{counted_frames}
use Rattle.stab_core.proofs.WorstStart.{frame}
use Rattle.stab_treecore.specs.TreeStep.{link_after}

-- a link after an act, where its offers come from this list
abbrev pub fed_step : List ℕ → LinkValue → LinkAct → LinkValue
fed_step xs link act = link_after (event_of act (slice_get xs (length link.state.offered))) link

-- and after these acts
abbrev pub fed_replay : List ℕ → LinkValue → List LinkAct → LinkValue
fed_replay xs link [] = link
fed_replay xs link (act ∷ acts) = fed_replay xs (fed_step xs link act) acts

-- ---- the starts and the acts

-- The start that loses c + 1 items, and one for each of these strays, whose items count up: at c of
-- them the worst start.
abbrev pub lossy_start : ℕ → ℕ → ℕ → Start
lossy_start c strays stray =
    record { frames = counted_frames (c + 1) stray strays; acks = range_with_len 0 c; send_label = 0; recv_label = c }

-- this many items are acknowledged by the acknowledgements of the start
abbrev pub acked_by_start : ℕ → List LinkAct
acked_by_start zero = []
acked_by_start (suc rounds) = Offer ∷ RecvAck false ∷ acked_by_start rounds

-- one item is acknowledged by the label that the receiver has
abbrev pub acked_at_once : List LinkAct
acked_at_once = SendAck ∷ Offer ∷ RecvAck false ∷ []

-- so is one before each of `rounds` strays, which the receiver takes
abbrev pub acked_by_strays : ℕ → List LinkAct
acked_by_strays zero = []
acked_by_strays (suc rounds) = SendAck ∷ Offer ∷ RecvAck false ∷ RecvFrame false ∷ acked_by_strays rounds

-- this many items are delivered and acknowledged
abbrev pub clean_rounds : ℕ → List LinkAct
clean_rounds zero = []
clean_rounds (suc rounds) = Offer ∷ SendFrame ∷ RecvFrame false ∷ SendAck ∷ RecvAck false ∷ clean_rounds rounds

-- c + 1 items and one for each stray are lost, and `more` further ones are delivered
abbrev pub lossy_acts : ℕ → ℕ → ℕ → List LinkAct
lossy_acts c strays more = acked_by_start c ++ acked_by_strays strays ++ acked_at_once ++ clean_rounds more

-- a start with strays alone
abbrev pub strayed_start : ℕ → ℕ → Start
strayed_start strays stray =
    record { frames = counted_frames 1 stray strays; acks = []; send_label = 0; recv_label = unused_label }

-- the receiver takes `count` strays
abbrev pub strays_taken : ℕ → List LinkAct
strays_taken zero = []
strays_taken (suc count) = RecvFrame false ∷ strays_taken count

-- ---- one round

-- the item after those that were offered
pub got : (done : List ℕ) (x : ℕ) (rest : List ℕ) → slice_get (done ++ x ∷ rest) (length done) ≡ Some x
got [] x rest = refl
got (y ∷ done) x rest = got done x rest

pub at_end : (done : List ℕ) (x : ℕ) → slice_index (done ++ x ∷ []) (length done) ≡ x
at_end [] x = refl
at_end (y ∷ done) x = at_end done x

one_longer : (done : List ℕ) (x : ℕ) → length (done ++ x ∷ []) ≡ length done + 1
one_longer done x = length-append done (x ∷ [])

-- acts one after the other
pub fed-append : (xs : List ℕ) (link : LinkValue) (first second : List LinkAct)
    → fed_replay xs link (first ++ second) ≡ fed_replay xs (fed_replay xs link first) second
fed-append xs link [] second = refl
fed-append xs link (act ∷ first) second = fed-append xs (fed_step xs link act) first second

module _ (p : Parameters) (xs : List ℕ) where
  -- between two rounds: all that was offered is acknowledged
  abbrev pub idle : List Frame → List ℕ → List ℕ → ℕ → ℕ → List ℕ → LinkValue
  idle frames acks done label recv_label delivered =
      link_at p (record {
        frames = frames;
        acks = acks;
        send_label = label;
        offered = done;
        acked = length done;
        recv_label = recv_label;
        delivered = delivered;
        closed = false;
      })

  -- within a round: one item more was offered, and waits
  abbrev pub holding : List Frame → List ℕ → List ℕ → ℕ → ℕ → ℕ → List ℕ → LinkValue
  holding frames acks done x label recv_label delivered =
      link_at p (record {
        frames = frames;
        acks = acks;
        send_label = label;
        offered = done ++ x ∷ [];
        acked = length done;
        recv_label = recv_label;
        delivered = delivered;
        closed = false;
      })

  item_offered : (frames : List Frame) (acks done : List ℕ) (x : ℕ) (rest : List ℕ) (label recv_label : ℕ) (delivered : List ℕ)
      → xs ≡ done ++ x ∷ rest
      → fed_step xs (idle frames acks done label recv_label delivered) Offer
      ≡ holding frames acks done x label recv_label delivered
  item_offered frames acks done x rest label recv_label delivered is =
      rw (is, got done x rest, eq-eqb (length done) (length done) refl) refl

  label_acked : (frames : List Frame) (acks done : List ℕ) (x label recv_label : ℕ) (delivered : List ℕ)
      → fed_step xs (holding frames (label ∷ acks) done x label recv_label delivered) (RecvAck false)
      ≡ idle frames acks (done ++ x ∷ []) (next p label) recv_label delivered
  label_acked frames acks done x label recv_label delivered =
      rw (eq-eqb _ _ (one_longer done x), eq-eqb label label refl)
      (ap (λ n. link_at p (record {
        frames = frames;
        acks = acks;
        send_label = next p label;
        offered = done ++ x ∷ [];
        acked = n;
        recv_label = recv_label;
        delivered = delivered;
        closed = false;
      })) (sym (one_longer done x)))

  label_answered : (frames : List Frame) (acks done : List ℕ) (label recv_label : ℕ) (delivered : List ℕ)
      → length acks < p.capacity
      → fed_step xs (idle frames acks done label recv_label delivered) SendAck
      ≡ idle frames (acks ++ recv_label ∷ []) done label recv_label delivered
  label_answered frames acks done label recv_label delivered room = rw (lt-ltb (length acks) p.capacity room) refl

  holding_answered : (frames : List Frame) (acks done : List ℕ) (x label recv_label : ℕ) (delivered : List ℕ)
      → length acks < p.capacity
      → fed_step xs (holding frames acks done x label recv_label delivered) SendAck
      ≡ holding frames (acks ++ recv_label ∷ []) done x label recv_label delivered
  holding_answered frames acks done x label recv_label delivered room = rw (lt-ltb (length acks) p.capacity room) refl

  stray_taken : (frames : List Frame) (acks done : List ℕ) (taken stray label recv_label : ℕ) (delivered : List ℕ)
      → taken ≢ recv_label
      → fed_step xs (idle (frame taken stray ∷ frames) acks done label recv_label delivered) (RecvFrame false)
      ≡ idle frames acks done label taken (delivered ++ stray ∷ [])
  stray_taken frames acks done taken stray label recv_label delivered other = rw (ne_eqb taken recv_label other) refl

  item_sent : (frames : List Frame) (acks done : List ℕ) (x label recv_label : ℕ) (delivered : List ℕ)
      → length frames < p.capacity
      → fed_step xs (holding frames acks done x label recv_label delivered) SendFrame
      ≡ holding (frames ++ frame label x ∷ []) acks done x label recv_label delivered
  item_sent frames acks done x label recv_label delivered room =
      rw (eq-eqb _ _ (one_longer done x), lt-ltb (length frames) p.capacity room, at_end done x) refl

  item_taken : (frames : List Frame) (acks done : List ℕ) (taken item x label recv_label : ℕ) (delivered : List ℕ)
      → taken ≢ recv_label
      → fed_step xs (holding (frame taken item ∷ frames) acks done x label recv_label delivered) (RecvFrame false)
      ≡ holding frames acks done x label taken (delivered ++ item ∷ [])
  item_taken frames acks done taken item x label recv_label delivered other = rw (ne_eqb taken recv_label other) refl

  -- an item that is acknowledged before it is sent
  acked_unsent : (frames : List Frame) (acks done : List ℕ) (x : ℕ) (rest : List ℕ) (label recv_label : ℕ) (delivered : List ℕ)
      → xs ≡ done ++ x ∷ rest → label + 1 < p.labels
      → fed_step xs (fed_step xs (idle frames (label ∷ acks) done label recv_label delivered) Offer) (RecvAck false)
      ≡ idle frames acks (done ++ x ∷ []) (label + 1) recv_label delivered
  acked_unsent frames acks done x rest label recv_label delivered is more =
      ap (λ l. fed_step xs l (RecvAck false)) (item_offered frames (label ∷ acks) done x rest label recv_label delivered is)
      ∙ label_acked frames acks done x label recv_label delivered
      ∙ ap (λ n. idle frames acks (done ++ x ∷ []) n recv_label delivered) (rw (lt-leb p.labels (label + 1) more) refl)

  acked_by_label : (frames : List Frame) (done : List ℕ) (x : ℕ) (rest : List ℕ) (label : ℕ) (delivered : List ℕ)
      → xs ≡ done ++ x ∷ rest → 1 ≤ p.capacity → label + 1 < p.labels
      → fed_replay xs (idle frames [] done label label delivered) acked_at_once
      ≡ idle frames [] (done ++ x ∷ []) (label + 1) label delivered
  acked_by_label frames done x rest label delivered is room more =
      ap (λ l. fed_step xs (fed_step xs l Offer) (RecvAck false)) (label_answered frames [] done label label delivered room)
      ∙ acked_unsent frames [] done x rest label label delivered is more

  -- the rounds of the start's acknowledgements
  after_start : (frames : List Frame) (done lost rest : List ℕ) (label recv_label : ℕ) (delivered : List ℕ)
      → xs ≡ done ++ (lost ++ rest) → label + length lost < p.labels
      → fed_replay xs (idle frames (range_with_len label (length lost)) done label recv_label delivered) (acked_by_start (length lost))
      ≡ idle frames [] (done ++ lost) (label + length lost) recv_label delivered
  after_start frames done [] rest label recv_label delivered is more =
      ap₂ (λ d l. idle frames [] d l recv_label delivered) (sym (append-nil done)) (omega arith)
  after_start frames done (x ∷ lost) rest label recv_label delivered is more =
      ap (λ l. fed_replay xs l (acked_by_start (length lost)))
      (acked_unsent frames (range_with_len (label + 1) (length lost)) done x (lost ++ rest) label recv_label delivered is (omega arith))
      ∙ after_start frames (done ++ x ∷ []) lost rest (label + 1) recv_label delivered
      (is ∙ sym (append_assoc done (x ∷ []) (lost ++ rest))) (omega arith)
      ∙ ap₂ (λ d l. idle frames [] d l recv_label delivered) (append_assoc done (x ∷ []) lost) (omega arith)

  -- the rounds of the strays
  after_strays : (done lost rest : List ℕ) (label stray : ℕ) (delivered : List ℕ)
      → xs ≡ done ++ (lost ++ rest) → 1 ≤ p.capacity → label + length lost < p.labels
      → fed_replay xs (idle (counted_frames (label + 1) stray (length lost)) [] done label label delivered) (acked_by_strays (length lost))
      ≡ idle [] [] (done ++ lost) (label + length lost) (label + length lost) (delivered ++ range_with_len stray (length lost))
  after_strays done [] rest label stray delivered is room more =
      rw (append-nil delivered, append-nil done) (ap (λ l. idle [] [] done l l delivered) (omega arith))
  after_strays done (x ∷ lost) rest label stray delivered is room more =
      let frames : List Frame = counted_frames (label + 1 + 1) (stray + 1) (length lost) in
      ap (λ l. fed_replay xs (fed_step xs l (RecvFrame false)) (acked_by_strays (length lost)))
      (acked_by_label (frame (label + 1) stray ∷ frames) done x (lost ++ rest) label delivered is room (omega arith))
      ∙ ap (λ l. fed_replay xs l (acked_by_strays (length lost)))
      (stray_taken frames [] (done ++ x ∷ []) (label + 1) stray (label + 1) label delivered (λ same. omega arith))
      ∙ after_strays (done ++ x ∷ []) lost rest (label + 1) (stray + 1) (delivered ++ stray ∷ [])
      (is ∙ sym (append_assoc done (x ∷ []) (lost ++ rest))) room (omega arith)
      ∙ rw (append_assoc delivered (stray ∷ []) (range_with_len (stray + 1) (length lost)), append_assoc done (x ∷ []) lost)
      (ap (λ l. idle [] [] (done ++ x ∷ lost) l l (delivered ++ stray ∷ range_with_len (stray + 1) (length lost))) (omega arith))

  -- a clean round
  round : (done : List ℕ) (x : ℕ) (rest : List ℕ) (label recv_label : ℕ) (delivered : List ℕ)
      → xs ≡ done ++ x ∷ rest → 1 ≤ p.capacity → label ≢ recv_label
      → fed_replay xs (idle [] [] done label recv_label delivered) (clean_rounds 1)
      ≡ idle [] [] (done ++ x ∷ []) (next p label) label (delivered ++ x ∷ [])
  round done x rest label recv_label delivered is room other =
      ap (λ l. fed_step xs (fed_step xs (fed_step xs (fed_step xs l SendFrame) (RecvFrame false)) SendAck) (RecvAck false))
      (item_offered [] [] done x rest label recv_label delivered is)
      ∙ ap (λ l. fed_step xs (fed_step xs (fed_step xs l (RecvFrame false)) SendAck) (RecvAck false))
      (item_sent [] [] done x label recv_label delivered room)
      ∙ ap (λ l. fed_step xs (fed_step xs l SendAck) (RecvAck false))
      (item_taken [] [] done label x x label recv_label delivered other)
      ∙ ap (λ l. fed_step xs l (RecvAck false)) (holding_answered [] [] done x label label (delivered ++ x ∷ []) room)
      ∙ label_acked [] [] done x label label (delivered ++ x ∷ [])

  -- the label after a label is another one
  next_other : (label : ℕ) → 2 ≤ p.labels → label < p.labels → (next p label ≢ label) × (next p label < p.labels)
  next_other label two within =
      elim (cases_lt (label + 1) p.labels) [
        | inl more ↦ rw (lt-leb p.labels (label + 1) more) (λ same. omega (arith, same), omega arith)
        | inr last ↦ rw (le-leb p.labels (label + 1) last) (λ same. omega (arith, same), omega arith)
      ]

  -- all that is offered was acknowledged, and this was delivered
  pub record Passed (offered delivered : List ℕ) (link : LinkValue) : Type 0 where
    pub label : ℕ
    pub recv_label : ℕ
    pub is : link ≡ idle [] [] offered label recv_label delivered

  -- clean rounds
  after_rounds : (done passed : List ℕ) (label recv_label : ℕ) (delivered : List ℕ)
      → xs ≡ done ++ passed → 1 ≤ p.capacity → 2 ≤ p.labels → label < p.labels → label ≢ recv_label
      → Passed (done ++ passed) (delivered ++ passed)
      (fed_replay xs (idle [] [] done label recv_label delivered) (clean_rounds (length passed)))
  after_rounds done [] label recv_label delivered is room two within other =
      record { label = label; recv_label = recv_label; is = rw (append-nil done, append-nil delivered) refl }
  after_rounds done (x ∷ passed) label recv_label delivered is room two within other =
      let (differs, below) = next_other label two within in
      let later = after_rounds (done ++ x ∷ []) passed (next p label) label (delivered ++ x ∷ [])
      (is ∙ sym (append_assoc done (x ∷ []) passed)) room two below differs in
      record {
        label = later.label;
        recv_label = later.recv_label;
        is =
            ap (λ l. fed_replay xs l (clean_rounds (length passed))) (round done x passed label recv_label delivered is room other)
            ∙ later.is
            ∙ ap₂ (λ d e. idle [] [] d later.label later.recv_label e) (append_assoc done (x ∷ []) passed) (append_assoc delivered (x ∷ []) passed);
      }

-- From a bad start c + 1 items are lost, and one for each stray; the rest is delivered after the
-- strays.
pub after_lossy : (p : Parameters) (strays stray : ℕ) (first more last rest : List ℕ) → AreLawful p → strays ≤ p.capacity
    → length first ≡ p.capacity → length more ≡ strays → length last ≡ 1
    → let xs = first ++ (more ++ (last ++ rest)) in
    Passed p xs xs (range_with_len stray strays ++ rest)
    (fed_replay xs (link_at p (initial (lossy_start p.capacity strays stray))) (lossy_acts p.capacity strays (length rest)))
after_lossy p strays stray first more [] rest lawful few one_c one_s one_l = absurd (omega arith)
after_lossy p strays stray first more (x ∷ y ∷ last) rest lawful few one_c one_s one_l = absurd (omega arith)
after_lossy p strays stray first more (x ∷ []) rest lawful few one_c one_s one_l =
    let c : ℕ = p.capacity in
    let xs : List ℕ = first ++ (more ++ (x ∷ rest)) in
    let frames : List Frame = counted_frames (c + 1) stray strays in
    let begin : LinkValue = link_at p (initial (lossy_start c strays stray)) in
    let labels : 2 * c + 2 ≤ p.labels = lawful.enough_labels in
    let room : 1 ≤ p.capacity = lawful.some_capacity in
    let got_strays : List ℕ = range_with_len stray strays in
    let one : fed_replay xs begin (acked_by_start c) ≡ idle p xs frames [] first c c [] =
    ap (λ n. fed_replay xs (idle p xs frames (range_with_len 0 n) [] 0 c []) (acked_by_start n)) (sym one_c)
    ∙ after_start p xs frames [] first (more ++ (x ∷ rest)) 0 c [] refl (omega arith)
    ∙ ap (λ n. idle p xs frames [] first n c []) (omega arith) in
    let two : fed_replay xs (idle p xs frames [] first c c []) (acked_by_strays strays)
    ≡ idle p xs [] [] (first ++ more) (c + strays) (c + strays) got_strays =
    ap (λ n. fed_replay xs (idle p xs (counted_frames (c + 1) stray n) [] first c c []) (acked_by_strays n)) (sym one_s)
    ∙ after_strays p xs first more (x ∷ rest) c stray [] refl room (omega arith)
    ∙ ap (λ n. idle p xs [] [] (first ++ more) (c + n) (c + n) (range_with_len stray n)) one_s in
    let parted : xs ≡ first ++ more ++ x ∷ rest = sym (append_assoc first more (x ∷ rest)) in
    let three : fed_replay xs (idle p xs [] [] (first ++ more) (c + strays) (c + strays) got_strays) acked_at_once
    ≡ idle p xs [] [] (first ++ more ++ x ∷ []) (c + strays + 1) (c + strays) got_strays =
    acked_by_label p xs [] (first ++ more) x rest (c + strays) got_strays parted room (omega arith) in
    let whole : xs ≡ first ++ more ++ x ∷ [] ++ rest = parted ∙ sym (append_assoc (first ++ more) (x ∷ []) rest) in
    let four = after_rounds p xs (first ++ more ++ x ∷ []) rest (c + strays + 1) (c + strays) got_strays whole room (omega arith) (omega arith)
    (λ same. omega (arith, same)) in
    let acts : fed_replay xs begin (lossy_acts c strays (length rest))
    ≡ fed_replay xs (idle p xs [] [] (first ++ more ++ x ∷ []) (c + strays + 1) (c + strays) got_strays) (clean_rounds (length rest)) =
    fed-append xs begin (acked_by_start c ++ acked_by_strays strays ++ acked_at_once) (clean_rounds (length rest))
    ∙ ap (λ l. fed_replay xs l (clean_rounds (length rest)))
    (fed-append xs begin (acked_by_start c ++ acked_by_strays strays) acked_at_once
    ∙ ap (λ l. fed_replay xs l acked_at_once) (fed-append xs begin (acked_by_start c) (acked_by_strays strays) ∙ ap (λ l. fed_replay xs l (acked_by_strays strays)) one ∙ two)
    ∙ three) in
    record {
      label = four.label;
      recv_label = four.recv_label;
      is = acts ∙ four.is ∙ ap (λ d. idle p xs [] [] d four.label four.recv_label (got_strays ++ rest)) (sym whole);
    }

-- ---- a link with strays alone

-- the receiver has taken the strays, and remembers no label of the sender
record Taken (p : Parameters) (xs : List ℕ) (delivered : List ℕ) (link : LinkValue) : Type 0 where
  recv_label : ℕ
  other : 0 ≢ recv_label
  is : link ≡ idle p xs [] [] [] 0 recv_label delivered

after_taken : (p : Parameters) (xs : List ℕ) (count label stray recv_label : ℕ) (delivered : List ℕ) → label ≢ recv_label → 1 ≤ label → 0 ≢ recv_label
    → Taken p xs (delivered ++ range_with_len stray count)
    (fed_replay xs (idle p xs (counted_frames label stray count) [] [] 0 recv_label delivered) (strays_taken count))
after_taken p xs zero label stray recv_label delivered differs some other =
    record { recv_label = recv_label; other = other; is = ap (idle p xs [] [] [] 0 recv_label) (sym (append-nil delivered)) }
after_taken p xs (suc count) label stray recv_label delivered differs some other =
    let rest = after_taken p xs count (label + 1) (stray + 1) label (delivered ++ stray ∷ []) (λ same. omega (arith, same)) (omega arith) (λ same. omega (arith, same, some)) in
    record {
      recv_label = rest.recv_label;
      other = rest.other;
      is =
          ap (λ l. fed_replay xs l (strays_taken count))
          (stray_taken p xs (counted_frames (label + 1) (stray + 1) count) [] [] label stray 0 recv_label delivered differs)
          ∙ rest.is ∙ ap (idle p xs [] [] [] 0 rest.recv_label) (append_assoc delivered (stray ∷ []) (range_with_len (stray + 1) count));
    }

-- From a start with strays alone all is delivered after them.
pub after_strayed : (p : Parameters) (strays stray : ℕ) (xs : List ℕ) → AreLawful p
    → Passed p xs xs (range_with_len stray strays ++ xs)
    (fed_replay xs (link_at p (initial (strayed_start strays stray))) (strays_taken strays ++ clean_rounds (length xs)))
after_strayed p strays stray xs lawful =
    let labels : 2 * p.capacity + 2 ≤ p.labels = lawful.enough_labels in
    let begin : LinkValue = link_at p (initial (strayed_start strays stray)) in
    let taken = after_taken p xs strays 1 stray unused_label [] (λ same. omega (arith, same)) (omega arith) (λ same. omega (arith, same)) in
    let rounds = after_rounds p xs [] xs 0 taken.recv_label (range_with_len stray strays) refl lawful.some_capacity (omega (arith, lawful.some_capacity)) (omega arith)
    taken.other in
    record {
      label = rounds.label;
      recv_label = rounds.recv_label;
      is =
          fed-append xs begin (strays_taken strays) (clean_rounds (length xs))
          ∙ ap (λ l. fed_replay xs l (clean_rounds (length xs))) taken.is ∙ rounds.is;
    }
