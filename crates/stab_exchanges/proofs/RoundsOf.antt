-- Each completed exchange is a reading round of the link that the connections are.
use Rattle.std.proofs.Common.{◌≡◌, ℕ, zero, suc, ◌+◌, ◌≤◌, ◌==◌, ◌&&◌, Bool, true, false, if◌then◌else◌, List, [], ◌∷◌, ◌++◌, length, drop, map, replicate, slice_get, Some, None, Option, is_some, refl, sym, ◌∙◌, ap, subst, arith, eq-eqb, eqb-true, lt-ltb, true≢false, inl, inr, ◌⊎◌}
use Rattle.std.specs.Option.{option_map_or}
use Rattle.std.proofs.lemmas.Bool.{ne_eqb}
use Rattle.std.proofs.lemmas.List.{length_push}
use Rattle.std.proofs.lemmas.Option.{none-some}
use Rattle.stab_frames.specs.declared.frame.Frame.{Frame}
use Rattle.stab_frames.specs.Parameters.{Parameters, next}
use Rattle.stab_core.specs.declared.event.Event.{Event}
use Rattle.stab_core.specs.declared.event.Event.TheVariants.{Offer, SendFrame, RecvFrame, SendAck, RecvAck}
use Rattle.stab_core.specs.LinkState.{LinkState, has_room, current_frame}
use Rattle.stab_core.specs.Replay.{replay}
use Rattle.stab_core.specs.Step.{step, takes, goes_on}
use Rattle.stab_core.proofs.Replays.{replay-append}
use Rattle.stab_rounds.specs.Played.{reading_round_with}
use Rattle.stab_rounds.specs.ReadingRounds.{Reads, offer, reading_rounds}
use Rattle.stab_rounds.specs.Rounds.{IsWithin, act_of}
use Rattle.stab_line.specs.Ends.{ReceiverEnd, new_sender, acknowledges, after_ack}
use Rattle.stab_line.specs.Line.{Line, LineAct, line_step, line_run, link_of, offer_item, held, new_count}
use Rattle.stab_line.specs.NodeTree.{put}
use Rattle.stab_line.specs.Session.{session_on, has, is_on}
use Rattle.stab_line.specs.SessionLink.{SessionLink, ConnectionAct, LinkAct, connection_step, link_step, link_run, item_offered, happens, ack_comes, InTurn, on_it, receives_ack, line_of, counted_anew}
use Rattle.stab_line.proofs.Exchanges.{put_here}
use Rattle.stab_line.proofs.Lines.{Fields, Next, Work, done, waiting, fields, line_at, stepped, IsPlain, stepped_plain}
use Rattle.stab_line.proofs.SessionLines.{NoOffers, step_is_led, few_frames, few_acks}
use Rattle.stab_line.proofs.Turns.{link_step_in_turn}
use Rattle.stab_exchanges.specs.Exchanges.{Exchange, sending, arrival, answer, exchange_after, exchanged_by, exchanges_from, completed_exchanges}
use Rattle.stab_exchanges.proofs.Counted.{is_awaited, answer_is_known, open_at_first}
use Rattle.stab_exchanges.proofs.WholeRounds.{IsLeft, reads_over, left_over, counted, counted_append, whole_counts}
use Rattle.stab_exchanges.proofs.Underway.{Answers, Kept, Underway, one_left, underway_step}

-- ---- events among which an offer changes nothing

abbrev pub Harmless : Parameters → LinkState → List Event → Type 0
Harmless p s [] = Unit {0}
Harmless p s (Offer item ∷ events) = ((other : ℕ) → step p s (Offer other) ≡ s) × Harmless p s events
Harmless p s (e ∷ events) = Harmless p (step p s e) events

pub plain_harmless : (p : Parameters) (s : LinkState) (events : List Event) → IsPlain events → Harmless p s events
plain_harmless p s [] plain = tt
plain_harmless p s (Offer item ∷ events) plain = absurd plain
plain_harmless p s (e ∷ events) plain = plain_harmless p (step p s e) events plain

harmless_append : (p : Parameters) (s : LinkState) (first second : List Event) → Harmless p s first
    → Harmless p (replay p s first) second → Harmless p s (first ++ second)
harmless_append p s [] second before after = after
harmless_append p s (Offer item ∷ first) second before after =
    (before.0, harmless_append p s first second before.1 (subst (λ u. Harmless p (replay p u first) second) (before.0 item) after))
harmless_append p s (e ∷ first) second before after = harmless_append p (step p s e) first second before after

plain_frames : (n : ℕ) (events : List Event) → IsPlain events → IsPlain (replicate n (RecvFrame false) ++ events)
plain_frames zero events plain = plain
plain_frames (suc n) events plain = plain_frames n events plain

plain_acks : (n : ℕ) (events : List Event) → IsPlain events → IsPlain (replicate n (RecvAck false) ++ events)
plain_acks zero events plain = plain
plain_acks (suc n) events plain = plain_acks n events plain

-- ---- where nothing is queued, nothing is taken

pub no_frames_taken : (p : Parameters) (s : LinkState) (n : ℕ) (events : List Event)
    → let quiet : LinkState = record s { frames = []; closed = false } in
    replay p quiet (replicate n (RecvFrame false) ++ events) ≡ replay p quiet events
no_frames_taken p s zero events = refl
no_frames_taken p s (suc n) events = no_frames_taken p s n events

pub no_acks_taken : (p : Parameters) (s : LinkState) (n : ℕ) (events : List Event)
    → let quiet : LinkState = record s { acks = []; closed = false } in
    replay p quiet (replicate n (RecvAck false) ++ events) ≡ replay p quiet events
no_acks_taken p s zero events = refl
no_acks_taken p s (suc n) events = no_acks_taken p s n events

-- so all of a round but its offer changes nothing where the sender has nothing
abbrev pub unoffered_round : ℕ → List Event
unoffered_round c =
    replicate c (RecvFrame false) ++ (SendFrame ∷ RecvFrame false
    ∷ (replicate c (RecvAck false) ++ (SendAck ∷ RecvAck false ∷ [])))

pub plain_round : (c : ℕ) → IsPlain (unoffered_round c)
plain_round c =
    plain_frames c (SendFrame ∷ RecvFrame false ∷ (replicate c (RecvAck false) ++ (SendAck ∷ RecvAck false ∷ [])))
    (plain_acks c (SendAck ∷ RecvAck false ∷ []) tt)

pub round_of_nothing : (p : Parameters) (s : LinkState) → 1 ≤ p.capacity → length s.offered ≡ s.acked
    → let quiet : LinkState = record s { frames = []; acks = []; closed = false } in
    replay p quiet (unoffered_round p.capacity) ≡ quiet
round_of_nothing p s some none_waits =
    let c : ℕ = p.capacity in
    let quiet : LinkState = record s { frames = []; acks = []; closed = false } in
    let answer_last : List Event = SendAck ∷ RecvAck false ∷ [] in
    let answers : List Event = replicate c (RecvAck false) ++ answer_last in
    let holds_none : (length s.offered == s.acked + 1) ≡ false = ne_eqb _ _ (λ same. absurd (omega (arith, same, none_waits))) in
    let room : has_room {A = ℕ} p [] ≡ true = lt-ltb 0 p.capacity (omega (arith, some)) in
    no_frames_taken p quiet c (SendFrame ∷ RecvFrame false ∷ answers)
    ∙ ap (λ holds. replay p (if holds && has_room {A = Frame} p [] then record quiet { frames = current_frame quiet ∷ [] } else quiet) (RecvFrame false ∷ answers)) holds_none
    ∙ no_acks_taken p quiet c answer_last
    ∙ ap (λ fits. replay p (if fits then record quiet { acks = s.recv_label ∷ [] } else quiet) (RecvAck false ∷ [])) room
    ∙ ap (λ holds. if holds && (s.recv_label == s.send_label) then goes_on p quiet else quiet) holds_none

-- ---- a whole round in place of the acknowledgement that comes

-- the receiver has taken the item that waits, and its acknowledgement is on the way
module _ (p : Parameters) (some : 1 ≤ p.capacity) (items : List ℕ) (item label : ℕ) (delivered : List ℕ) where
  abbrev link : List Frame → List ℕ → ℕ → ℕ → LinkState
  link frames acks send acked =
      record {
        frames = frames;
        acks = acks;
        send_label = send;
        offered = items ++ item ∷ [];
        acked = acked;
        recv_label = label;
        delivered = delivered;
        closed = false;
      }

  abbrev taken_once : LinkState
  taken_once = link [] (label ∷ []) label (length items)

  abbrev acknowledged : LinkState
  acknowledged = link [] [] (next p label) (length items + 1)

  size : length (items ++ item ∷ []) ≡ length items + 1
  size = length_push items item

  not_idle : (length (items ++ item ∷ []) == length items) ≡ false
  not_idle = ne_eqb _ _ (λ same. absurd (omega (arith, same, size)))

  is_waiting : (length (items ++ item ∷ []) == length items + 1) ≡ true
  is_waiting = eq-eqb _ _ size

  waits_no_more : (length (items ++ item ∷ []) == length items + 1 + 1) ≡ false
  waits_no_more = ne_eqb _ _ (λ same. absurd (omega (arith, same, size)))

  is_same : (label == label) ≡ true
  is_same = eq-eqb label label refl

  room : has_room {A = Frame} p [] ≡ true
  room = lt-ltb 0 p.capacity (omega (arith, some))

  room_above : has_room {A = ℕ} p [] ≡ true
  room_above = lt-ltb 0 p.capacity (omega (arith, some))

  -- a sender that holds an item takes no other
  offers_none : (other : ℕ) (events : List Event) → replay p taken_once (Offer other ∷ events) ≡ replay p taken_once events
  offers_none other events =
      ap (λ idle. replay p (if idle then record taken_once { offered = (items ++ item ∷ []) ++ other ∷ [] } else taken_once) events) not_idle

  -- the frame of the item is sent once more, and is old
  sent_again : (events : List Event) → replay p taken_once (SendFrame ∷ RecvFrame false ∷ events) ≡ replay p taken_once events
  sent_again events =
      let f : Frame = current_frame taken_once in
      ap (λ holds. replay p (if holds && has_room {A = Frame} p [] then record taken_once { frames = f ∷ [] } else taken_once) (RecvFrame false ∷ events)) is_waiting
      ∙ ap (λ fits. replay p (if fits then record taken_once { frames = f ∷ [] } else taken_once) (RecvFrame false ∷ events)) room
      ∙ ap (λ same. replay p (if same then taken_once else takes taken_once f) events) is_same

  -- the first acknowledgement that is taken is the one on the way
  one_taken : (events : List Event) → replay p taken_once (RecvAck false ∷ events) ≡ replay p acknowledged events
  one_taken events =
      let before : LinkState = record taken_once { acks = [] } in
      ap (λ holds. replay p (if holds && (label == label) then goes_on p before else before) events) is_waiting
      ∙ ap (λ same. replay p (if same then goes_on p before else before) events) is_same

  all_taken : (n : ℕ) (events : List Event) → 1 ≤ n
      → replay p taken_once (replicate n (RecvAck false) ++ events) ≡ replay p acknowledged events
  all_taken zero events positive = absurd (omega arith)
  all_taken (suc n) events positive =
      one_taken (replicate n (RecvAck false) ++ events) ∙ no_acks_taken p acknowledged n events

  -- and one that is sent once more is ignored
  answered_again : replay p acknowledged (SendAck ∷ RecvAck false ∷ []) ≡ acknowledged
  answered_again =
      ap (λ fits. replay p (if fits then record acknowledged { acks = label ∷ [] } else acknowledged) (RecvAck false ∷ [])) room_above
      ∙ ap (λ holds. if holds && (label == next p label) then goes_on p acknowledged else acknowledged) waits_no_more

  round_acknowledges : (other : ℕ) → replay p taken_once (reading_round_with p.capacity other) ≡ acknowledged
  round_acknowledges other =
      let c : ℕ = p.capacity in
      let rest : List Event = replicate c (RecvAck false) ++ (SendAck ∷ RecvAck false ∷ []) in
      offers_none other (replicate c (RecvFrame false) ++ (SendFrame ∷ RecvFrame false ∷ rest))
      ∙ no_frames_taken p taken_once c (SendFrame ∷ RecvFrame false ∷ rest)
      ∙ sent_again rest
      ∙ all_taken c (SendAck ∷ RecvAck false ∷ []) some
      ∙ answered_again

  round_is_harmless : (other : ℕ) → Harmless p taken_once (reading_round_with p.capacity other)
  round_is_harmless other = (
    λ another. offers_none another [],
    plain_harmless p taken_once (unoffered_round p.capacity) (plain_round p.capacity),
  )

-- ---- the exchange that is completed

-- what the acknowledgement that the sender waits for makes of a line
abbrev gone_on : Parameters → Line → Line
gone_on p l = record l { acks = []; sender = new_sender (next p l.sender.state.label); acked = l.acked + 1 }

-- a line with the sender's own label on the way to it, and nothing on the way to the receiver
abbrev answered_line : List Frame → List ℕ → ℕ → ℕ → List ℕ → ℕ → Bool → List ℕ → Fields
answered_line frames acks label taken items item deaf delivered =
    fields frames acks label (waiting items item) false taken deaf delivered

abbrev Completes : Parameters → ℕ → Fields → Type 0
Completes p other f =
    Next (replay p (link_of (line_at f)) (reading_round_with p.capacity other)) (gone_on p (line_at f))
    × Harmless p (link_of (line_at f)) (reading_round_with p.capacity other)

completed_at : (p : Parameters) (other label item : ℕ) (items : List ℕ) (deaf : Bool) (delivered : List ℕ) → 1 ≤ p.capacity
    → Completes p other (answered_line [] (label ∷ []) label label items item deaf delivered)
completed_at p other label item items deaf delivered some =
    let after : Fields = fields [] [] (next p label) (done (items ++ item ∷ [])) false label deaf delivered in (
      record {
        after = after;
        line = ap (λ n. record (line_at after) { acked = n }) (sym (length_push items item));
        link =
            round_acknowledges p some items item label delivered other
            ∙ ap (λ n. record (link_of (line_at after)) { acked = n }) (sym (length_push items item));
      },
      round_is_harmless p some items item label delivered other,
    )

completed_fields : (p : Parameters) (other : ℕ) (frames : List Frame) (acks : List ℕ) (label : ℕ) (work : Work) (shut : Bool) (taken : ℕ) (deaf : Bool)
    (delivered : List ℕ) → 1 ≤ p.capacity
    → let f = fields frames acks label work shut taken deaf delivered in
    frames ≡ [] → acks ≡ label ∷ [] → taken ≡ label → shut ≡ false → is_some (line_at f).sender.state.item ≡ true → Completes p other f
completed_fields p other frames acks label (done items) shut taken deaf delivered some none one known is_open holds =
    absurd (true≢false (sym holds))
completed_fields p other frames acks label (waiting items item) true taken deaf delivered some none one known is_open holds =
    absurd (true≢false is_open)
completed_fields p other frames acks label (waiting items item) false taken deaf delivered some none one known is_open holds =
    subst (λ (fs : List Frame). Completes p other (answered_line fs acks label taken items item deaf delivered)) (sym none)
    (subst (λ (labels : List ℕ). Completes p other (answered_line [] labels label taken items item deaf delivered)) (sym one)
    (subst (λ (k : ℕ). Completes p other (answered_line [] (label ∷ []) label k items item deaf delivered)) (sym known)
    (completed_at p other label item items deaf delivered some)))

one_is : {A : Type 0} (xs : List A) (x : A) → slice_get xs 0 ≡ Some x → length xs ≤ 1 → xs ≡ x ∷ []
one_is [] x is_front few = absurd (none-some x is_front)
one_is (y ∷ []) x is_front few = ap (λ o. option_map_or (λ z. z ∷ []) o (y ∷ [])) is_front
one_is (y ∷ z ∷ xs) x is_front few = absurd (omega arith)

on_this : {A : Type 0} (connection : Option ℕ) (messages : ℕ → List A) (n : ℕ) → is_on connection n ≡ true
    → on_it connection messages ≡ messages n
on_this None messages n here = absurd (true≢false (sym here))
on_this (Some m) messages n here = ap messages (sym (eqb-true n m here))

module _ (p : Parameters) (t : SessionLink) (m n a : ℕ) (in_turn : InTurn t) (kept : Kept Answers t n) (is_open : t.sender.closed ≡ false)
    (is_front : slice_get (t.up m) 0 ≡ Some a) (here : has t.at_sender m ≡ true) (same : (m == n) ≡ true) where
  -- the acknowledgement that comes is the one that the sender waits for
  goes_on_then : line_of (receives_ack p t m (Some a)) ≡ gone_on p (line_of t)
  goes_on_then =
      let left : ℕ → List ℕ = put t.up m (drop 1 (t.up m)) in
      let few : length (t.up m) ≤ 1 =
      subst (λ (labels : List ℕ). length labels ≤ 1) (on_this t.at_sender.connection t.up m here) (few_acks t in_turn t.at_sender.connection)
      in
      ap (λ (on : Bool). line_of (record t {
        up = left;
        sender = if on then after_ack p t.sender a else t.sender;
        at_sender = if on then session_on m true else t.at_sender;
        acked = if on && acknowledges t.sender a then t.acked + 1 else t.acked;
      })) here
      ∙ ap (λ (waited : Bool). line_of (record t {
        up = left;
        sender = if waited then new_sender (next p t.sender.state.label) else t.sender;
        at_sender = session_on m true;
        acked = if waited then t.acked + 1 else t.acked;
      })) (is_awaited t m n a is_front kept is_open here same)
      ∙ ap (λ (labels : List ℕ). record (gone_on p (line_of t)) { acks = labels })
      (put_here t.up m (drop 1 (t.up m)) ∙ one_left (t.up m) few)

  completed_then : (s : LinkState) → 1 ≤ p.capacity → Next s (line_of t)
      → Next (replay p s (reading_round_with p.capacity a)) (line_of (receives_ack p t m (Some a)))
      × Harmless p s (reading_round_with p.capacity a)
  completed_then s some there =
      let f : Fields = there.after in
      let line : line_of t ≡ line_at f = there.line in
      let (holds, none, its_label, known) = answer_is_known t m n a is_front kept here same in
      let acks : on_it t.at_sender.connection t.up ≡ a ∷ [] =
      one_is (on_it t.at_sender.connection t.up) a
      (ap (λ (labels : List ℕ). slice_get labels 0) (on_this t.at_sender.connection t.up m here) ∙ is_front)
      (few_acks t in_turn t.at_sender.connection)
      in
      let label : t.sender.state.label ≡ f.label = ap (λ (l : Line). l.sender.state.label) line in
      let done_then : Completes p a f =
      completed_fields p a f.frames f.acks f.label f.work f.shut f.taken f.deaf f.delivered some
      (sym (ap (λ (l : Line). l.frames) line) ∙ none)
      (sym (ap (λ (l : Line). l.acks) line) ∙ acks ∙ ap (λ k. k ∷ []) (its_label ∙ label))
      (sym (ap (λ (l : Line). l.receiver.label) line) ∙ known ∙ label)
      (sym (ap (λ (l : Line). l.sender.closed) line) ∙ is_open)
      (ap (λ (l : Line). is_some l.sender.state.item) (sym line) ∙ holds)
      in (
        record {
          after = done_then.0.after;
          line = goes_on_then ∙ ap (gone_on p) line ∙ done_then.0.line;
          link = ap (λ u. replay p u (reading_round_with p.capacity a)) there.link ∙ done_then.0.link;
        },
        subst (λ u. Harmless p u (reading_round_with p.capacity a)) (sym there.link) done_then.1,
      )

-- ---- any act of a connection

-- some events, where they lead, and how many reading rounds there are among them at least
pub record Led (p : Parameters) (r : Reads) (s : LinkState) (l : Line) (rounds : ℕ) : Type 0 where
  pub events : List Event
  pub there : Next (replay p s events) l
  pub some : rounds ≤ counted p.capacity r events
  pub harmless : Harmless p s events

abbrev one_act : Parameters → Fields → LineAct → List Event
one_act p f act = (stepped p f.frames f.acks f.label f.work f.shut f.taken f.deaf f.delivered act).events

pub act_goes : (p : Parameters) (act : LineAct) (s : LinkState) (l : Line) (there : Next s l)
    → Next (replay p s (one_act p there.after act)) (line_step p l act)
act_goes p act s l there =
    let f : Fields = there.after in
    let one = stepped p f.frames f.acks f.label f.work f.shut f.taken f.deaf f.delivered act in
    record {
      after = one.there.after;
      line = ap (λ (k : Line). line_step p k act) there.line ∙ one.there.line;
      link = ap (λ (u : LinkState). replay p u one.events) there.link ∙ one.there.link;
    }

acts_led : (p : Parameters) (r : Reads) (acts : List LineAct) → NoOffers acts → (s : LinkState) (l : Line) → Next s l
    → Led p r s (line_run p l acts) 0
acts_led p r [] no_offers s l there = record { events = []; there = there; some = omega arith; harmless = tt }
acts_led p r (act ∷ acts) no_offers s l there =
    let f : Fields = there.after in
    let events : List Event = one_act p f act in
    let rest = acts_led p r acts no_offers.1 (replay p s events) (line_step p l act) (act_goes p act s l there) in
    record {
      events = events ++ rest.events;
      there = record {
        after = rest.there.after;
        line = rest.there.line;
        link = replay-append p s events rest.events ∙ rest.there.link;
      };
      some = omega arith;
      harmless =
          harmless_append p s events rest.events
          (plain_harmless p s events
          (stepped_plain p f.frames f.acks f.label f.work f.shut f.taken f.deaf f.delivered act no_offers.0))
          rest.harmless;
    }

pub connection_led : (p : Parameters) (r : Reads) (t : SessionLink) (act : ConnectionAct) (s : LinkState) → 1 ≤ p.capacity → InTurn t
    → Next s (line_of t) → Led p r s (line_of (connection_step p t act)) 0
connection_led p r t act s some in_turn there =
    let led = step_is_led p t act some in_turn in
    subst (λ (l : Line). Led p r s l 0) led.leads (acts_led p r led.acts led.no_offers s (line_of t) there)

answer_led : (p : Parameters) (r : Reads) (t : SessionLink) (m n : ℕ) (s : LinkState) → 1 ≤ p.capacity → InTurn t → Kept Answers t n
    → t.sender.closed ≡ false → IsLeft p.capacity r → Next s (line_of t) → (front : Option ℕ) → slice_get (t.up m) 0 ≡ front
    → Led p r s (line_of (receives_ack p t m front)) 0
    → Led p r s (line_of (receives_ack p t m front)) (if (is_some front && has t.at_sender m) && (m == n) then 1 else 0)
answer_led p r t m n s some in_turn kept is_open left there None is_front otherwise = otherwise
answer_led p r t m n s some in_turn kept is_open left there (Some a) is_front otherwise =
    by_cases (has t.at_sender m) (m == n) refl refl
  where
    by_cases : (here same : Bool) → has t.at_sender m ≡ here → (m == n) ≡ same
        → Led p r s (line_of (receives_ack p t m (Some a))) (if (true && here) && same then 1 else 0)
    by_cases false same missing is = otherwise
    by_cases true false here other = otherwise
    by_cases true true here same =
        let (goes, harmless) = completed_then p t m n a in_turn kept is_open is_front here same s some there in
        record {
          events = reading_round_with p.capacity a;
          there = goes;
          some = whole_counts p.capacity a r left;
          harmless = harmless;
        }

pub exchange_led : (p : Parameters) (r : Reads) (t : SessionLink) (e : Exchange) (act : ConnectionAct) (s : LinkState) → 1 ≤ p.capacity
    → InTurn t → Underway e t → t.sender.closed ≡ false → IsLeft p.capacity r → Next s (line_of t)
    → Led p r s (line_of (connection_step p t act)) (exchanged_by t e (happens act))
exchange_led p r t sending act s some in_turn underway is_open left there = connection_led p r t act s some in_turn there
exchange_led p r t (arrival n) act s some in_turn underway is_open left there = connection_led p r t act s some in_turn there
exchange_led p r t (answer n) (ack_comes m) s some in_turn underway is_open left there =
    answer_led p r t m n s some in_turn underway is_open left there (slice_get (t.up m) 0) refl
    (connection_led p r t (ack_comes m) s some in_turn there)
exchange_led p r t (answer n) act s some in_turn underway is_open left there = connection_led p r t act s some in_turn there

-- ---- any acts of a link

-- the same, where items are offered
record Goes (p : Parameters) (r : Reads) (s : LinkState) (l : Line) (rounds : ℕ) : Type 0 where
  events : List Event
  there : Next (replay p s events) l
  some : rounds ≤ counted p.capacity r events

step_goes : (p : Parameters) (r : Reads) (t : SessionLink) (e : Exchange) (act : LinkAct) (s : LinkState) → 1 ≤ p.capacity → InTurn t
    → Underway e t → t.sender.closed ≡ false → IsLeft p.capacity r → Next s (line_of t)
    → Goes p r s (line_of (link_step p t act)) (exchanged_by t e act)
step_goes p r t e (happens act) s some in_turn underway is_open left there =
    let led = exchange_led p r t e act s some in_turn underway is_open left there in
    record { events = led.events; there = led.there; some = led.some }
step_goes p r t sending (item_offered item) s some in_turn underway is_open left there =
    record { events = one_act p there.after (offer_item item); there = act_goes p (offer_item item) s (line_of t) there; some = omega arith }
step_goes p r t (arrival n) (item_offered item) s some in_turn underway is_open left there =
    record { events = one_act p there.after (offer_item item); there = act_goes p (offer_item item) s (line_of t) there; some = omega arith }
step_goes p r t (answer n) (item_offered item) s some in_turn underway is_open left there =
    record { events = one_act p there.after (offer_item item); there = act_goes p (offer_item item) s (line_of t) there; some = omega arith }

-- as many exchanges as are completed are as many reading rounds
run_goes : (p : Parameters) (r : Reads) (t : SessionLink) (e : Exchange) (acts : List LinkAct) (s : LinkState) → 1 ≤ p.capacity → InTurn t
    → Underway e t → (link_run p t acts).sender.closed ≡ false → IsLeft p.capacity r → Next s (line_of t)
    → Goes p r s (line_of (link_run p t acts)) (exchanges_from p t e acts)
run_goes p r t e [] s some in_turn underway is_open left there = record { events = []; there = there; some = omega arith }
run_goes p r t e (act ∷ acts) s some in_turn underway is_open left there =
    let c : ℕ = p.capacity in
    let first = step_goes p r t e act s some in_turn underway (open_at_first p t (act ∷ acts) is_open) left there in
    let after : Reads = reads_over c r (map act_of first.events) in
    let rest =
    run_goes p after (link_step p t act) (exchange_after t e act) acts (replay p s first.events) some (link_step_in_turn p t act in_turn)
    (underway_step p t e act in_turn underway) is_open (left_over c r (map act_of first.events) left) first.there
    in
    record {
      events = first.events ++ rest.events;
      there = record {
        after = rest.there.after;
        line = rest.there.line;
        link = replay-append p s first.events rest.events ∙ rest.there.link;
      };
      some = let one = first.some in let more = rest.some in omega (arith, one, more, counted_append c r first.events rest.events);
    }

-- ---- a new count

-- the fields of a new count: an item that the sender holds was offered
anew : (frames : List Frame) (acks : List ℕ) (label : ℕ) (item : Option ℕ) (shut : Bool) (receiver : ReceiverEnd)
    → let l = new_count frames acks (record { state = record { label = label; item = item }; closed = shut }) receiver in
    Next (link_of l) l
anew frames acks label None shut receiver =
    record { after = fields frames acks label (done []) shut receiver.label receiver.closed []; line = refl; link = refl }
anew frames acks label (Some item) shut receiver =
    record { after = fields frames acks label (waiting [] item) shut receiver.label receiver.closed []; line = refl; link = refl }

pub completed_are_rounds : (p : Parameters) (t : SessionLink) (acts : List LinkAct) → 1 ≤ p.capacity → InTurn t
    → let before = counted_anew t in
    let after = link_run p before acts in
    after.sender.closed ≡ false
    → (events : List Event) × (replay p (link_of (line_of before)) events ≡ link_of (line_of after))
    × (completed_exchanges p before acts ≤ reading_rounds p.capacity events)
completed_are_rounds p t acts some in_turn is_open =
    let before : SessionLink = counted_anew t in
    let led =
    run_goes p offer before sending acts (link_of (line_of before)) some in_turn tt is_open tt
    (anew (line_of t).frames (line_of t).acks t.sender.state.label t.sender.state.item t.sender.closed t.receiver)
    in
    (led.events, led.there.link ∙ ap link_of (sym led.there.line), led.some)

-- from where its laws of rounds hold
pub anew_is_within : (p : Parameters) (t : SessionLink) → 1 ≤ p.capacity → InTurn t → IsWithin p (link_of (line_of (counted_anew t)))
anew_is_within p t some in_turn =
    record {
      frames = omega (arith, some, few_frames t in_turn t.at_receiver.connection);
      acks = omega (arith, some, few_acks t in_turn t.at_sender.connection);
      waits = of_item t.sender.state.item;
    }
  where
    of_item : (item : Option ℕ) → (length (held item) ≡ 0) ⊎ (length (held item) ≡ 0 + 1)
    of_item None = inl refl
    of_item (Some item) = inr refl
