-- Two registers are a line that holds one message each way.
use Rattle.std.proofs.Common.{◌≡◌, ℕ, ◌≤◌, Bool, true, false, if◌then◌else◌, List, [], ◌∷◌, ◌++◌, map, length, Some, None, Option, refl, sym, ◌∙◌, ap, subst, arith, lt-ltb, is_none, true≢false}
use Rattle.stab_frames.specs.declared.frame.Frame.{Frame}
use Rattle.stab_frames.specs.Parameters.{Parameters, AreLawful}
use Rattle.stab_core.specs.LinkLaw.{LinkLaw, LinkLawWithin}
use Rattle.stab_line.specs.Ends.{SenderEnd, ReceiverEnd, accepts, frame_to_send, ack_to_send, offered_to}
use Rattle.stab_line.specs.Line.{Line, LineAct, line_step, line_run, with_taken, after_sending, new_count, start_of}
use Rattle.stab_line.specs.Line as line
use Rattle.stab_line.specs.StartLaw.{LinkLawOfStart}
use Rattle.stab_line.proofs.Lines.{line_obeys_law}
use Rattle.stab_line.proofs.SessionLines.{Led, NoOffers}
use Rattle.stab_line.proofs.StartLaws.{line_obeys_start, within_start}
use Rattle.stab_line.specs.Registers.{Registers, RegisterAct, is_offered, register_step, register_run, set_to, shown, line_of, new_registers, where_free}
use Rattle.stab_line.specs.Registers.{item_offered, sets_frame, gets_frame, is_given_frame, sets_ack, gets_ack, is_given_ack, frame_deleted, ack_deleted, sender_closes, receiver_closes}

-- acts of the line that offer nothing, where the line is led by them
led_by : {p : Parameters} {before after : Line} (acts : List LineAct) → NoOffers acts → line_run p before acts ≡ after → Led p before after
led_by acts no_offers leads = record { acts = acts; no_offers = no_offers; leads = leads }

stays : (p : Parameters) (l : Line) → Led p l l
stays p l = led_by [] tt refl

-- an empty line has room
room : (p : Parameters) {A : Type 0} (x : A) → 1 ≤ p.capacity → after_sending p [] (Some x) ≡ x ∷ []
room p x holds = ap (λ fits. if fits then x ∷ [] else []) (lt-ltb 0 p.capacity (omega (arith, holds)))

-- what a register showed is lost, and what is set goes
sets_frame_is : (p : Parameters) (l : Line) (before sent : Option Frame) → 1 ≤ p.capacity → frame_to_send l.sender ≡ sent
    → Led p (record l { frames = shown before }) (record l { frames = shown (set_to before sent) })
sets_frame_is p l before None holds is_sent = stays p (record l { frames = shown before })
sets_frame_is p l None (Some f) holds is_sent =
    led_by (line.frame_sent ∷ []) (refl, tt)
    (ap (λ (frames : List Frame). record l { frames = frames })
    (ap (λ sent. after_sending p [] sent) is_sent ∙ room p f holds))
sets_frame_is p l (Some old) (Some f) holds is_sent =
    led_by (line.frame_lost 0 ∷ line.frame_sent ∷ []) (refl, (refl, tt))
    (ap (λ (frames : List Frame). record l { frames = frames })
    (ap (λ sent. after_sending p [] sent) is_sent ∙ room p f holds))

sets_ack_is : (p : Parameters) (l : Line) (before sent : Option ℕ) → 1 ≤ p.capacity → ack_to_send l.receiver ≡ sent
    → Led p (record l { acks = shown before }) (record l { acks = shown (set_to before sent) })
sets_ack_is p l before None holds is_sent = stays p (record l { acks = shown before })
sets_ack_is p l None (Some label) holds is_sent =
    led_by (line.ack_sent ∷ []) (refl, tt)
    (ap (λ (acks : List ℕ). record l { acks = acks }) (ap (λ sent. after_sending p [] sent) is_sent ∙ room p label holds))
sets_ack_is p l (Some old) (Some label) holds is_sent =
    led_by (line.ack_lost 0 ∷ line.ack_sent ∷ []) (refl, (refl, tt))
    (ap (λ (acks : List ℕ). record l { acks = acks }) (ap (λ sent. after_sending p [] sent) is_sent ∙ room p label holds))

frame_is_lost : (p : Parameters) (l : Line) (before : Option Frame)
    → Led p (record l { frames = shown before }) (record l { frames = [] })
frame_is_lost p l None = stays p (record l { frames = [] })
frame_is_lost p l (Some f) = led_by (line.frame_lost 0 ∷ []) (refl, tt) refl

ack_is_lost : (p : Parameters) (l : Line) (before : Option ℕ)
    → Led p (record l { acks = shown before }) (record l { acks = [] })
ack_is_lost p l None = stays p (record l { acks = [] })
ack_is_lost p l (Some label) = led_by (line.ack_lost 0 ∷ []) (refl, tt) refl

-- ---- a get counts as given at once

gets_frame_is : (p : Parameters) (r : Registers) (ack_got : Option ℕ) (front : Option Frame)
    → Led p (line_of p (record r { frame = front; frame_got = None; ack_got = ack_got }))
    (line_of p (record r { frame = front; frame_got = front; ack_got = ack_got }))
gets_frame_is p r ack_got None = stays p (line_of p (record r { frame = None; frame_got = None; ack_got = ack_got }))
gets_frame_is p r None (Some f) = led_by (line.frame_comes true ∷ []) (refl, tt) refl
gets_frame_is p r (Some label) (Some f) = led_by (line.frame_comes true ∷ []) (refl, tt) refl

gets_ack_is : (p : Parameters) (r : Registers) (frame_got : Option Frame) (front : Option ℕ)
    → Led p (line_of p (record r { ack = front; ack_got = None; frame_got = frame_got }))
    (line_of p (record r { ack = front; ack_got = front; frame_got = frame_got }))
gets_ack_is p r frame_got None = stays p (line_of p (record r { ack = None; ack_got = None; frame_got = frame_got }))
gets_ack_is p r None (Some label) = led_by (line.ack_comes true ∷ []) (refl, tt) refl
gets_ack_is p r (Some f) (Some label) = led_by (line.ack_comes true ∷ []) (refl, tt) refl

-- ---- the steps

-- an offer to a sender's end that has got nothing
offer_is : (p : Parameters) (r : Registers) (ack_got : Option ℕ) (frame_got : Option Frame) (item : ℕ) → is_none ack_got ≡ true
    → let before : Registers = record r { ack_got = ack_got; frame_got = frame_got } in
    line_of p (register_step p before (item_offered item)) ≡ line_step p (line_of p before) (line.offer_item item)
offer_is p r (Some label) frame_got item free = absurd (true≢false (sym free))
offer_is p r None None item free = refl
offer_is p r None (Some f) item free = refl

pub offers_as_line : (p : Parameters) (r : Registers) (item : ℕ) → is_none r.ack_got ≡ true
    → line_of p (register_step p r (item_offered item)) ≡ line_step p (line_of p r) (line.offer_item item)
offers_as_line p r item free = offer_is p r r.ack_got r.frame_got item free

step_is : (p : Parameters) (r : Registers) (ack_got : Option ℕ) (frame_got : Option Frame) (act : RegisterAct)
    → 1 ≤ p.capacity → is_offered act ≡ false
    → let before : Registers = record r { ack_got = ack_got; frame_got = frame_got } in
    Led p (line_of p before) (line_of p (register_step p before act))
step_is p r ack_got frame_got (item_offered item) holds no_offer = absurd (true≢false no_offer)
step_is p r (Some label) frame_got sets_frame holds no_offer =
    stays p (line_of p (record r { ack_got = Some label; frame_got = frame_got }))
step_is p r None None sets_frame holds no_offer =
    sets_frame_is p (line_of p (record r { ack_got = None; frame_got = None })) r.frame (frame_to_send r.sender) holds refl
step_is p r None (Some f) sets_frame holds no_offer =
    sets_frame_is p (line_of p (record r { ack_got = None; frame_got = Some f })) r.frame (frame_to_send r.sender) holds refl
step_is p r ack_got (Some f) gets_frame holds no_offer =
    stays p (line_of p (record r { ack_got = ack_got; frame_got = Some f }))
step_is p r ack_got None gets_frame holds no_offer = gets_frame_is p r ack_got r.frame
step_is p r ack_got None is_given_frame holds no_offer = stays p (line_of p (record r { ack_got = ack_got; frame_got = None }))
step_is p r ack_got (Some f) is_given_frame holds no_offer =
    stays p (line_of p (record r { ack_got = ack_got; frame_got = Some f }))
step_is p r ack_got (Some f) sets_ack holds no_offer =
    stays p (line_of p (record r { ack_got = ack_got; frame_got = Some f }))
step_is p r None None sets_ack holds no_offer =
    sets_ack_is p (line_of p (record r { ack_got = None; frame_got = None })) r.ack (ack_to_send r.receiver) holds refl
step_is p r (Some label) None sets_ack holds no_offer =
    sets_ack_is p (line_of p (record r { ack_got = Some label; frame_got = None })) r.ack (ack_to_send r.receiver) holds refl
step_is p r (Some label) frame_got gets_ack holds no_offer =
    stays p (line_of p (record r { ack_got = Some label; frame_got = frame_got }))
step_is p r None frame_got gets_ack holds no_offer = gets_ack_is p r frame_got r.ack
step_is p r None None is_given_ack holds no_offer = stays p (line_of p (record r { ack_got = None; frame_got = None }))
step_is p r None (Some f) is_given_ack holds no_offer = stays p (line_of p (record r { ack_got = None; frame_got = Some f }))
step_is p r (Some label) None is_given_ack holds no_offer =
    stays p (line_of p (record r { ack_got = Some label; frame_got = None }))
step_is p r (Some label) (Some f) is_given_ack holds no_offer =
    stays p (line_of p (record r { ack_got = Some label; frame_got = Some f }))
step_is p r None None frame_deleted holds no_offer =
    frame_is_lost p (line_of p (record r { ack_got = None; frame_got = None })) r.frame
step_is p r None (Some f) frame_deleted holds no_offer =
    frame_is_lost p (line_of p (record r { ack_got = None; frame_got = Some f })) r.frame
step_is p r (Some label) None frame_deleted holds no_offer =
    frame_is_lost p (line_of p (record r { ack_got = Some label; frame_got = None })) r.frame
step_is p r (Some label) (Some f) frame_deleted holds no_offer =
    frame_is_lost p (line_of p (record r { ack_got = Some label; frame_got = Some f })) r.frame
step_is p r None None ack_deleted holds no_offer =
    ack_is_lost p (line_of p (record r { ack_got = None; frame_got = None })) r.ack
step_is p r None (Some f) ack_deleted holds no_offer =
    ack_is_lost p (line_of p (record r { ack_got = None; frame_got = Some f })) r.ack
step_is p r (Some label) None ack_deleted holds no_offer =
    ack_is_lost p (line_of p (record r { ack_got = Some label; frame_got = None })) r.ack
step_is p r (Some label) (Some f) ack_deleted holds no_offer =
    ack_is_lost p (line_of p (record r { ack_got = Some label; frame_got = Some f })) r.ack
step_is p r (Some label) frame_got sender_closes holds no_offer =
    stays p (line_of p (record r { ack_got = Some label; frame_got = frame_got }))
step_is p r None None sender_closes holds no_offer = led_by (line.sender_closes ∷ []) (refl, tt) refl
step_is p r None (Some f) sender_closes holds no_offer = led_by (line.sender_closes ∷ []) (refl, tt) refl
step_is p r ack_got (Some f) receiver_closes holds no_offer =
    stays p (line_of p (record r { ack_got = ack_got; frame_got = Some f }))
step_is p r None None receiver_closes holds no_offer = led_by (line.receiver_closes ∷ []) (refl, tt) refl
step_is p r (Some label) None receiver_closes holds no_offer = led_by (line.receiver_closes ∷ []) (refl, tt) refl

-- each step that offers nothing is some acts of the line
pub step_is_led : (p : Parameters) (r : Registers) (act : RegisterAct) → 1 ≤ p.capacity → is_offered act ≡ false
    → Led p (line_of p r) (line_of p (register_step p r act))
step_is_led p r act holds no_offer = step_is p r r.ack_got r.frame_got act holds no_offer

-- some acts lead a line from the one state to the other
abbrev IsLineRun : Parameters → Line → Line → Type 0
IsLineRun p before after = (acts : List LineAct) × (line_run p before acts ≡ after)

offer_is_run : (p : Parameters) (r : Registers) (got : Option ℕ) (item : ℕ) → r.ack_got ≡ got
    → IsLineRun p (line_of p r) (line_of p (where_free got r (record r {
      sender = offered_to r.sender item;
      offered = with_taken (accepts r.sender) r.offered item;
    })))
offer_is_run p r (Some label) item is = ([], refl)
offer_is_run p r None item is = (
  line.offer_item item ∷ [],
  sym (offers_as_line p r item (ap is_none is))
      ∙ ap (λ (got : Option ℕ). line_of p (where_free got r (record r {
        sender = offered_to r.sender item;
        offered = with_taken (accepts r.sender) r.offered item;
      }))) is,
)

any_step : (p : Parameters) (r : Registers) (act : RegisterAct) → 1 ≤ p.capacity → (offered : Bool) → is_offered act ≡ offered
    → IsLineRun p (line_of p r) (line_of p (register_step p r act))
any_step p r act holds false no_offer = let led = step_is_led p r act holds no_offer in (led.acts, led.leads)
any_step p r (item_offered item) holds true is = offer_is_run p r r.ack_got item refl
any_step p r sets_frame holds true is = absurd (true≢false (sym is))
any_step p r gets_frame holds true is = absurd (true≢false (sym is))
any_step p r is_given_frame holds true is = absurd (true≢false (sym is))
any_step p r sets_ack holds true is = absurd (true≢false (sym is))
any_step p r gets_ack holds true is = absurd (true≢false (sym is))
any_step p r is_given_ack holds true is = absurd (true≢false (sym is))
any_step p r frame_deleted holds true is = absurd (true≢false (sym is))
any_step p r ack_deleted holds true is = absurd (true≢false (sym is))
any_step p r sender_closes holds true is = absurd (true≢false (sym is))
any_step p r receiver_closes holds true is = absurd (true≢false (sym is))

-- ---- runs

run_append : (p : Parameters) (l : Line) (first second : List LineAct)
    → line_run p l (first ++ second) ≡ line_run p (line_run p l first) second
run_append p l [] second = refl
run_append p l (act ∷ first) second = run_append p (line_step p l act) first second

pub registers_are_line : (p : Parameters) (r : Registers) (acts : List RegisterAct) → 1 ≤ p.capacity
    → (line_acts : List LineAct) × (line_run p (line_of p r) line_acts ≡ line_of p (register_run p r acts))
registers_are_line p r [] holds = ([], refl)
registers_are_line p r (act ∷ acts) holds =
    let (first, leads) = any_step p r act holds (is_offered act) refl in
    let (rest, leads_on) = registers_are_line p (register_step p r act) acts holds in
    (first ++ rest, run_append p (line_of p r) first rest ∙ ap (λ l. line_run p l rest) leads ∙ leads_on)

-- ---- the link law

one_at_most : {A : Type 0} (x : Option A) → length (shown x) ≤ 1
one_at_most None = omega arith
one_at_most (Some x) = omega arith

pub registers_obey_law : (p : Parameters) (frame : Option Frame) (ack : Option ℕ) (sender : SenderEnd) (receiver : ReceiverEnd)
    (acts : List RegisterAct) → AreLawful p
    → let after = line_of p (register_run p (new_registers frame ack sender receiver) acts) in
    LinkLaw p.capacity (map (λ f. f.item) (shown frame)) after.offered after.acked after.delivered
registers_obey_law p frame ack sender receiver acts lawful =
    let holds : 1 ≤ p.capacity = lawful.some_capacity in
    let (line_acts, leads) = registers_are_line p (new_registers frame ack sender receiver) acts holds in
    subst (λ (l : Line). LinkLaw p.capacity (map (λ f. f.item) (shown frame)) l.offered l.acked l.delivered) leads
    (line_obeys_law p (shown frame) (shown ack) sender receiver line_acts lawful
    (omega (arith, holds, one_at_most frame)) (omega (arith, holds, one_at_most ack)))

-- and the law of their start
pub registers_obey_start : (p : Parameters) (frame : Option Frame) (ack : Option ℕ) (sender : SenderEnd) (receiver : ReceiverEnd)
    (acts : List RegisterAct) → AreLawful p
    → let after = line_of p (register_run p (new_registers frame ack sender receiver) acts) in
    LinkLawOfStart (start_of (shown frame) (shown ack) sender receiver) after.offered after.acked after.delivered
registers_obey_start p frame ack sender receiver acts lawful =
    let holds : 1 ≤ p.capacity = lawful.some_capacity in
    let (line_acts, leads) = registers_are_line p (new_registers frame ack sender receiver) acts holds in
    subst (λ (l : Line). LinkLawOfStart (start_of (shown frame) (shown ack) sender receiver) l.offered l.acked l.delivered) leads
    (line_obeys_start p (shown frame) (shown ack) sender receiver line_acts lawful
    (omega (arith, holds, one_at_most frame)) (omega (arith, holds, one_at_most ack)))

pub empty_obey_start : (p : Parameters) (sender : SenderEnd) (receiver : ReceiverEnd) (acts : List RegisterAct) → AreLawful p
    → let after = line_of p (register_run p (new_registers None None sender receiver) acts) in
    LinkLawWithin 0 1 [] after.offered after.acked after.delivered
empty_obey_start p sender receiver acts lawful =
    let after : Line = line_of p (register_run p (new_registers None None sender receiver) acts) in
    within_start (start_of [] [] sender receiver) 0 1 after.offered after.acked after.delivered (omega arith) (omega arith)
    (registers_obey_start p None None sender receiver acts lawful)
