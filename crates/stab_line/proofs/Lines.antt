-- A line between two ends of this library is a replay of the link.
use Rattle.std.proofs.Common.{◌≡◌, ℕ, ◌+◌, ◌≤◌, Bool, true, false, if◌then◌else◌, not, List, [], ◌∷◌, ◌++◌, map, length, slice_index, Some, None, Option, ◌==◌, ◌&&◌, refl, sym, ◌∙◌, ap, subst, true≢false, arith}
use Rattle.std.proofs.lemmas.Bool.{eq-eqb, ne_eqb}
use Rattle.std.proofs.lemmas.List.{length_push}
use Rattle.stab_frames.specs.declared.frame.Frame.{Frame}
use Rattle.stab_frames.specs.Parameters.{Parameters, AreLawful, next}
use Rattle.stab_frames.specs.Queue.{without}
use Rattle.stab_core.specs.declared.event.Event.{Event}
use Rattle.stab_core.specs.declared.event.Event.TheVariants.{Offer, SendFrame, RecvFrame, SendAck, RecvAck, LoseFrame, LoseAck}
use Rattle.stab_core.specs.LinkLaw.{LinkLaw}
use Rattle.stab_core.specs.LinkState.{LinkState, has_room}
use Rattle.stab_core.specs.Replay.{initial, replay}
use Rattle.stab_core.specs.Step.{after_front, takes, goes_on}
use Rattle.stab_core.proofs.Replays.{replay-append}
use Rattle.stab_core.proofs.LinkLaws.{replay_link_law}
use Rattle.stab_treecore.proofs.Replayed.{ReplaysObey}
use Rattle.stab_line.specs.Ends.{SenderEnd, ReceiverEnd, new_receiver}
use Rattle.stab_line.specs.Edge.{is_offer}
use Rattle.stab_line.specs.Line.{Line, LineAct, line_step, line_run, link_of, IsReplay, new_count, start_of, with_taken}
use Rattle.stab_line.specs.Line.{offer_item, frame_sent, frame_comes, ack_sent, ack_comes, frame_lost, ack_lost, sender_closes, receiver_closes}

-- what a sender was offered: all of it is acknowledged, or all but the last item
pub data Work : Type 0 where
  done : List ℕ → Work
  waiting : List ℕ → ℕ → Work

abbrev pub item_of : Work → Option ℕ
item_of (done items) = None
item_of (waiting items item) = Some item

abbrev pub offered_of : Work → List ℕ
offered_of (done items) = items
offered_of (waiting items item) = items ++ item ∷ []

abbrev pub acked_of : Work → ℕ
acked_of (done items) = length items
acked_of (waiting items item) = length items

-- the fields of a line that its acts can reach
pub record Fields : Type 0 where
  pub frames : List Frame
  pub acks : List ℕ
  pub label : ℕ
  pub work : Work
  pub shut : Bool
  pub taken : ℕ
  pub deaf : Bool
  pub delivered : List ℕ

abbrev pub fields : List Frame → List ℕ → ℕ → Work → Bool → ℕ → Bool → List ℕ → Fields
fields frames acks label work shut taken deaf delivered =
    record {
      frames = frames;
      acks = acks;
      label = label;
      work = work;
      shut = shut;
      taken = taken;
      deaf = deaf;
      delivered = delivered;
    }

-- the line of these fields
abbrev pub line_at : Fields → Line
line_at f =
    record {
      frames = f.frames;
      acks = f.acks;
      sender = record { state = record { label = f.label; item = item_of f.work }; closed = f.shut };
      receiver = record { label = f.taken; closed = f.deaf };
      offered = offered_of f.work;
      acked = acked_of f.work;
      delivered = f.delivered;
    }

-- a line, and the link that it is
pub record Next (s : LinkState) (l : Line) : Type 0 where
  pub after : Fields
  pub line : l ≡ line_at after
  pub link : s ≡ link_of (line_at after)

-- the events of an act, and where they lead
pub record Stepped (p : Parameters) (s : LinkState) (l : Line) : Type 0 where
  pub events : List Event
  pub there : Next (replay p s events) l

-- ---- numbers of items

last_item : (items : List ℕ) (item : ℕ) → slice_index (items ++ item ∷ []) (length items) ≡ item
last_item [] item = refl
last_item (x ∷ items) item = last_item items item

-- a sender that waits is holding
holding : (items : List ℕ) (item : ℕ) → (length (items ++ item ∷ []) == length items + 1) ≡ true
holding items item = eq-eqb _ _ (length_push items item)

-- ---- the acts

-- an idle and open sender takes the item
offered : (p : Parameters) (frames : List Frame) (acks : List ℕ) (label : ℕ) (items : List ℕ) (taken : ℕ) (deaf : Bool)
    (delivered : List ℕ) (item : ℕ)
    → let before = fields frames acks label (done items) false taken deaf delivered in
    Stepped p (link_of (line_at before)) (line_step p (line_at before) (offer_item item))
offered p frames acks label items taken deaf delivered item =
    let before = fields frames acks label (done items) false taken deaf delivered in
    let after = fields frames acks label (waiting items item) false taken deaf delivered in
    record {
      events = Offer item ∷ [];
      there = record {
        after = after;
        line = refl;
        link =
            ap (λ idle. if idle then link_of (line_at after) else link_of (line_at before)) (eq-eqb (length items) (length items) refl);
      };
    }

-- what has room is on the line
sent_if : (room : Bool) (s : LinkState) (frames : List Frame)
    → (if room then record s { frames = frames } else s) ≡ record s { frames = if room then frames else s.frames }
sent_if true s frames = refl
sent_if false s frames = refl

acked_if : (room : Bool) (s : LinkState) (acks : List ℕ)
    → (if room then record s { acks = acks } else s) ≡ record s { acks = if room then acks else s.acks }
acked_if true s acks = refl
acked_if false s acks = refl

-- an open sender that holds an item sends its frame
frame_goes : (p : Parameters) (frames : List Frame) (acks : List ℕ) (label : ℕ) (items : List ℕ) (item taken : ℕ)
    (deaf : Bool) (delivered : List ℕ)
    → let before = fields frames acks label (waiting items item) false taken deaf delivered in
    Stepped p (link_of (line_at before)) (line_step p (line_at before) frame_sent)
frame_goes p frames acks label items item taken deaf delivered =
    let before = fields frames acks label (waiting items item) false taken deaf delivered in
    let s : LinkState = link_of (line_at before) in
    let room : Bool = has_room p frames in
    let more : ℕ → List Frame = λ x. frames ++ record { label = label; item = x } ∷ [] in
    record {
      events = SendFrame ∷ [];
      there = record {
        after = fields (if room then more item else frames) acks label (waiting items item) false taken deaf delivered;
        line = refl;
        link =
            ap
            (λ holds. if holds && room
            then record s { frames = more (slice_index (items ++ item ∷ []) (length items)) } else s)
            (holding items item)
            ∙ ap (λ x. if room then record s { frames = more x } else s) (last_item items item)
            ∙ sent_if room s (more item);
      };
    }

-- the front frame is taken, or old
frame_seen : (old : Bool) (acks : List ℕ) (label : ℕ) (work : Work) (shut : Bool) (taken : ℕ) (delivered : List ℕ)
    (f : Frame) (rest : List Frame)
    → let before = fields rest acks label work shut taken false delivered in
    let s : LinkState = link_of (line_at before) in
    Next (if old then s else takes s f)
    (record (line_at before) {
      receiver = if not old then new_receiver f.label else record { label = taken; closed = false };
      delivered = with_taken (not old) delivered f.item;
    })
frame_seen true acks label work shut taken delivered f rest =
    record { after = fields rest acks label work shut taken false delivered; line = refl; link = refl }
frame_seen false acks label work shut taken delivered f rest =
    record {
      after = fields rest acks label work shut f.label false (delivered ++ f.item ∷ []);
      line = refl;
      link = refl;
    }

-- the front acknowledgement is the one that the sender waits for, or is not
ack_seen : (p : Parameters) (holds same : Bool) → holds ≡ true → (frames : List Frame) (rest : List ℕ) (label : ℕ)
    (items : List ℕ) (item taken : ℕ) (deaf : Bool) (delivered : List ℕ)
    → let before = fields frames rest label (waiting items item) false taken deaf delivered in
    let s : LinkState = link_of (line_at before) in
    Next (if holds && same then goes_on p s else s)
    (record (line_at before) {
      sender =
          if same
          then record { state = record { label = next p label; item = None }; closed = false }
          else record { state = record { label = label; item = Some item }; closed = false };
      acked = if same then length items + 1 else length items;
    })
ack_seen p true true is_true frames rest label items item taken deaf delivered =
    let after = fields frames rest (next p label) (done (items ++ item ∷ [])) false taken deaf delivered in
    record {
      after = after;
      line = ap (λ n. record (line_at after) { acked = n }) (sym (length_push items item));
      link = ap (λ n. record (link_of (line_at after)) { acked = n }) (sym (length_push items item));
    }
ack_seen p true false is_true frames rest label items item taken deaf delivered =
    record {
      after = fields frames rest label (waiting items item) false taken deaf delivered;
      line = refl;
      link = refl;
    }
ack_seen p false same is_true frames rest label items item taken deaf delivered = absurd (true≢false (sym is_true))

-- nothing happens to an idle sender
ack_ignored : (p : Parameters) (frames : List Frame) (rest : List ℕ) (label : ℕ) (items : List ℕ) (taken : ℕ)
    (deaf : Bool) (delivered : List ℕ) (same : Bool)
    → let before = fields frames rest label (done items) false taken deaf delivered in
    let s : LinkState = link_of (line_at before) in
    (if (length items == length items + 1) && same then goes_on p s else s) ≡ s
ack_ignored p frames rest label items taken deaf delivered same =
    let before = fields frames rest label (done items) false taken deaf delivered in
    let s : LinkState = link_of (line_at before) in
    ap (λ holds. if holds && same then goes_on p s else s) (ne_eqb (length items) (length items + 1) (λ same. absurd (omega (arith, same))))

-- nothing happened that the link sees
stays : (p : Parameters) (f : Fields) → Stepped p (link_of (line_at f)) (line_at f)
stays p f = record { events = []; there = record { after = f; line = refl; link = refl } }

-- each act is some events of the link
pub stepped : (p : Parameters) (frames : List Frame) (acks : List ℕ) (label : ℕ) (work : Work) (shut : Bool) (taken : ℕ)
    (deaf : Bool) (delivered : List ℕ) (act : LineAct)
    → let before = fields frames acks label work shut taken deaf delivered in
    Stepped p (link_of (line_at before)) (line_step p (line_at before) act)
stepped p frames acks label (done items) false taken deaf delivered (offer_item item) =
    offered p frames acks label items taken deaf delivered item
stepped p frames acks label (done items) true taken deaf delivered (offer_item item) =
    stays p (fields frames acks label (done items) true taken deaf delivered)
stepped p frames acks label (waiting items held) false taken deaf delivered (offer_item item) =
    stays p (fields frames acks label (waiting items held) false taken deaf delivered)
stepped p frames acks label (waiting items held) true taken deaf delivered (offer_item item) =
    stays p (fields frames acks label (waiting items held) true taken deaf delivered)
stepped p frames acks label (done items) false taken deaf delivered frame_sent =
    stays p (fields frames acks label (done items) false taken deaf delivered)
stepped p frames acks label (done items) true taken deaf delivered frame_sent =
    stays p (fields frames acks label (done items) true taken deaf delivered)
stepped p frames acks label (waiting items held) true taken deaf delivered frame_sent =
    stays p (fields frames acks label (waiting items held) true taken deaf delivered)
stepped p frames acks label (waiting items held) false taken deaf delivered frame_sent =
    frame_goes p frames acks label items held taken deaf delivered
stepped p [] acks label work shut taken deaf delivered (frame_comes repeated) =
    stays p (fields [] acks label work shut taken deaf delivered)
stepped p (f ∷ frames) acks label work shut taken true delivered (frame_comes true) =
    stays p (fields (f ∷ frames) acks label work shut taken true delivered)
stepped p (f ∷ frames) acks label work shut taken true delivered (frame_comes false) =
    record {
      events = LoseFrame 0 ∷ [];
      there = record {
        after = fields frames acks label work shut taken true delivered;
        line = refl;
        link = refl;
      };
    }
stepped p (f ∷ frames) acks label work shut taken false delivered (frame_comes repeated) =
    record {
      events = RecvFrame repeated ∷ [];
      there =
          frame_seen (f.label == taken) acks label work shut taken delivered f (after_front repeated (f ∷ frames));
    }
stepped p frames acks label work shut taken true delivered ack_sent =
    stays p (fields frames acks label work shut taken true delivered)
stepped p frames acks label work shut taken false delivered ack_sent =
    let before = fields frames acks label work shut taken false delivered in
    let room : Bool = has_room p acks in
    record {
      events = SendAck ∷ [];
      there = record {
        after = fields frames (if room then acks ++ taken ∷ [] else acks) label work shut taken false delivered;
        line = refl;
        link = acked_if room (link_of (line_at before)) (acks ++ taken ∷ []);
      };
    }
stepped p frames [] label work shut taken deaf delivered (ack_comes repeated) =
    stays p (fields frames [] label work shut taken deaf delivered)
stepped p frames (a ∷ acks) label work true taken deaf delivered (ack_comes true) =
    stays p (fields frames (a ∷ acks) label work true taken deaf delivered)
stepped p frames (a ∷ acks) label work true taken deaf delivered (ack_comes false) =
    record {
      events = LoseAck 0 ∷ [];
      there = record {
        after = fields frames acks label work true taken deaf delivered;
        line = refl;
        link = refl;
      };
    }
stepped p frames (a ∷ acks) label (done items) false taken deaf delivered (ack_comes repeated) =
    let rest : List ℕ = after_front repeated (a ∷ acks) in
    record {
      events = RecvAck repeated ∷ [];
      there = record {
        after = fields frames rest label (done items) false taken deaf delivered;
        line = refl;
        link = ack_ignored p frames rest label items taken deaf delivered (a == label);
      };
    }
stepped p frames (a ∷ acks) label (waiting items held) false taken deaf delivered (ack_comes repeated) =
    record {
      events = RecvAck repeated ∷ [];
      there =
          ack_seen p (length (items ++ held ∷ []) == length items + 1) (a == label) (holding items held) frames
          (after_front repeated (a ∷ acks)) label items held taken deaf delivered;
    }
stepped p frames acks label work shut taken deaf delivered (frame_lost place) =
    record {
      events = LoseFrame place ∷ [];
      there = record {
        after = fields (without place frames) acks label work shut taken deaf delivered;
        line = refl;
        link = refl;
      };
    }
stepped p frames acks label work shut taken deaf delivered (ack_lost place) =
    record {
      events = LoseAck place ∷ [];
      there = record {
        after = fields frames (without place acks) label work shut taken deaf delivered;
        line = refl;
        link = refl;
      };
    }
stepped p frames acks label work shut taken deaf delivered sender_closes =
    record {
      events = [];
      there = record {
        after = fields frames acks label work true taken deaf delivered;
        line = refl;
        link = refl;
      };
    }
stepped p frames acks label work shut taken deaf delivered receiver_closes =
    record {
      events = [];
      there = record {
        after = fields frames acks label work shut taken true delivered;
        line = refl;
        link = refl;
      };
    }

-- no event is an offer
abbrev pub IsPlain : List Event → Type 0
IsPlain [] = Unit {0}
IsPlain (Offer item ∷ events) = ⊥
IsPlain (e ∷ events) = IsPlain events

-- and of an act that offers nothing no event is
pub stepped_plain : (p : Parameters) (frames : List Frame) (acks : List ℕ) (label : ℕ) (work : Work) (shut : Bool) (taken : ℕ)
    (deaf : Bool) (delivered : List ℕ) (act : LineAct) → is_offer act ≡ false
    → IsPlain (stepped p frames acks label work shut taken deaf delivered act).events
unfolding stepped frame_goes stays
stepped_plain p frames acks label work shut taken deaf delivered (offer_item item) no_offer = absurd (true≢false no_offer)
stepped_plain p frames acks label (done items) false taken deaf delivered frame_sent no_offer = tt
stepped_plain p frames acks label (done items) true taken deaf delivered frame_sent no_offer = tt
stepped_plain p frames acks label (waiting items held) true taken deaf delivered frame_sent no_offer = tt
stepped_plain p frames acks label (waiting items held) false taken deaf delivered frame_sent no_offer = tt
stepped_plain p [] acks label work shut taken deaf delivered (frame_comes repeated) no_offer = tt
stepped_plain p (f ∷ frames) acks label work shut taken true delivered (frame_comes true) no_offer = tt
stepped_plain p (f ∷ frames) acks label work shut taken true delivered (frame_comes false) no_offer = tt
stepped_plain p (f ∷ frames) acks label work shut taken false delivered (frame_comes repeated) no_offer = tt
stepped_plain p frames acks label work shut taken true delivered ack_sent no_offer = tt
stepped_plain p frames acks label work shut taken false delivered ack_sent no_offer = tt
stepped_plain p frames [] label work shut taken deaf delivered (ack_comes repeated) no_offer = tt
stepped_plain p frames (a ∷ acks) label work true taken deaf delivered (ack_comes true) no_offer = tt
stepped_plain p frames (a ∷ acks) label work true taken deaf delivered (ack_comes false) no_offer = tt
stepped_plain p frames (a ∷ acks) label (done items) false taken deaf delivered (ack_comes repeated) no_offer = tt
stepped_plain p frames (a ∷ acks) label (waiting items held) false taken deaf delivered (ack_comes repeated) no_offer = tt
stepped_plain p frames acks label work shut taken deaf delivered (frame_lost place) no_offer = tt
stepped_plain p frames acks label work shut taken deaf delivered (ack_lost place) no_offer = tt
stepped_plain p frames acks label work shut taken deaf delivered sender_closes no_offer = tt
stepped_plain p frames acks label work shut taken deaf delivered receiver_closes no_offer = tt

-- so is every list of acts
run_is_replay : (p : Parameters) (f : Fields) (acts : List LineAct)
    → IsReplay p (link_of (line_at f)) (link_of (line_run p (line_at f) acts))
run_is_replay p f [] = ([], refl)
run_is_replay p f (act ∷ acts) =
    let one = stepped p f.frames f.acks f.label f.work f.shut f.taken f.deaf f.delivered act in
    let (events, leads) = run_is_replay p one.there.after acts in (
      one.events ++ events,
      replay-append p (link_of (line_at f)) one.events events
          ∙ ap (λ s. replay p s events) one.there.link
          ∙ leads
          ∙ ap (λ l. link_of (line_run p l acts)) (sym one.there.line),
    )

-- a new count: an item that the sender holds is offered first
count_is_replay : (p : Parameters) (frames : List Frame) (acks : List ℕ) (label : ℕ) (item : Option ℕ) (shut : Bool)
    (receiver : ReceiverEnd) (acts : List LineAct)
    → let sender : SenderEnd = record { state = record { label = label; item = item }; closed = shut } in
    IsReplay p (initial (start_of frames acks sender receiver))
    (link_of (line_run p (new_count frames acks sender receiver) acts))
count_is_replay p frames acks label None shut receiver acts =
    run_is_replay p (fields frames acks label (done []) shut receiver.label receiver.closed []) acts
count_is_replay p frames acks label (Some item) shut receiver acts =
    let (events, leads) =
    run_is_replay p (fields frames acks label (waiting [] item) shut receiver.label receiver.closed []) acts
    in
    (Offer item ∷ events, leads)

pub line_is_replay : (p : Parameters) (frames : List Frame) (acks : List ℕ) (sender : SenderEnd)
    (receiver : ReceiverEnd) (acts : List LineAct)
    → IsReplay p (initial (start_of frames acks sender receiver))
    (link_of (line_run p (new_count frames acks sender receiver) acts))
line_is_replay p frames acks sender receiver acts =
    count_is_replay p frames acks sender.state.label sender.state.item sender.closed receiver acts

-- so a law of all replays holds of a line whose parameters are lawful and which held at most c
-- messages each way
pub line_obeys : (Law : ℕ → List ℕ → List ℕ → ℕ → List ℕ → Type 0) → ReplaysObey Law
    → (p : Parameters) (frames : List Frame) (acks : List ℕ) (sender : SenderEnd)
    (receiver : ReceiverEnd) (acts : List LineAct) → AreLawful p → length frames ≤ p.capacity
    → length acks ≤ p.capacity → let l = line_run p (new_count frames acks sender receiver) acts in
    Law p.capacity (map (λ f. f.item) frames) l.offered l.acked l.delivered
line_obeys Law obey p frames acks sender receiver acts lawful few_frames few_acks =
    let (events, leads) = line_is_replay p frames acks sender receiver acts in
    subst (λ (s : LinkState). Law p.capacity (map (λ f. f.item) frames) s.offered s.acked s.delivered) leads
    (obey p (start_of frames acks sender receiver) events lawful
    (record { frames = few_frames; acks = few_acks }))

-- as the link law does
pub line_obeys_law : (p : Parameters) (frames : List Frame) (acks : List ℕ) (sender : SenderEnd)
    (receiver : ReceiverEnd) (acts : List LineAct) → AreLawful p → length frames ≤ p.capacity
    → length acks ≤ p.capacity → let l = line_run p (new_count frames acks sender receiver) acts in
    LinkLaw p.capacity (map (λ f. f.item) frames) l.offered l.acked l.delivered
line_obeys_law = line_obeys LinkLaw replay_link_law
