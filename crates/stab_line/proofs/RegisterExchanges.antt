-- What comes of an exchange of a link in two registers, from any state of two open ends.
use Rattle.std.proofs.Common.{◌≡◌, ℕ, ◌+◌, ◌==◌, not, Bool, false, if◌then◌else◌, [], ◌∷◌, Some, None, Option, sym, ◌∙◌, ap}
use Rattle.stab_frames.specs.declared.frame.Frame.{Frame}
use Rattle.stab_frames.specs.Parameters.{Parameters, next}
use Rattle.stab_line.specs.Ends.{ReceiverEnd, new_sender, new_receiver}
use Rattle.stab_line.specs.Line.{with_taken}
use Rattle.stab_line.specs.Progress.{register_exchange}
use Rattle.stab_line.specs.Registers.{Registers, register_run, sets_ack, gets_ack, is_given_ack}
use Rattle.stab_line.proofs.Exchanges.{itself, holding, remembers}

module _ (p : Parameters) (r : Registers) (label item remembered : ℕ) where
  abbrev frame : Frame
  frame = record { label = label; item = item }

  abbrev ready : Registers
  ready = record r { sender = holding label item; receiver = new_receiver remembered; ack_got = None; frame_got = None }

  abbrev taken : Registers
  taken =
      record ready {
        frame = Some frame;
        receiver = new_receiver label;
        delivered = with_taken (not (label == remembered)) r.delivered item;
      }

  abbrev done : Registers
  done = record taken { ack = Some label; sender = new_sender (next p label); acked = r.acked + 1 }

  exchanged : register_run p ready register_exchange ≡ done
  exchanged =
      ap (λ (after : ReceiverEnd). register_run p (record taken { receiver = after }) (sets_ack ∷ gets_ack ∷ is_given_ack ∷ []))
      (remembers label remembered item)
      ∙ ap (λ (same : Bool). record done {
        sender = if same then new_sender (next p label) else holding label item;
        acked = if same then r.acked + 1 else r.acked;
      }) (itself label)

is_ready : (r : Registers) (item : ℕ) → r.sender.closed ≡ false → r.receiver.closed ≡ false → r.ack_got ≡ None → r.frame_got ≡ None
    → r.sender.state.item ≡ Some item
    → record r { sender = holding r.sender.state.label item; receiver = new_receiver r.receiver.label; ack_got = None; frame_got = None } ≡ r
is_ready r item sender_open receiver_open no_ack no_frame holds =
    let label : ℕ = r.sender.state.label in
    ap (λ (got : Option ℕ). record r { sender = holding label item; receiver = new_receiver r.receiver.label; ack_got = got; frame_got = None }) (sym no_ack)
    ∙ ap (λ (got : Option Frame). record r { sender = holding label item; receiver = new_receiver r.receiver.label; frame_got = got }) (sym no_frame)
    ∙ ap (λ (closed : Bool). record r { sender = holding label item; receiver = record { label = r.receiver.label; closed = closed } }) (sym receiver_open)
    ∙ ap (λ (closed : Bool). record r { sender = record { state = record { label = label; item = Some item }; closed = closed } }) (sym sender_open)
    ∙ ap (λ (held : Option ℕ). record r { sender = record r.sender { state = record { label = label; item = held } } }) (sym holds)

pub registers_acknowledge : (p : Parameters) (r : Registers) (item : ℕ)
    → r.sender.closed ≡ false → r.receiver.closed ≡ false → r.ack_got ≡ None → r.frame_got ≡ None → r.sender.state.item ≡ Some item
    → let after = register_run p r register_exchange in
    let label : ℕ = r.sender.state.label in
    (after.acked ≡ r.acked + 1) × (after.sender ≡ new_sender (next p label))
    × (after.receiver ≡ new_receiver label)
    × (after.delivered ≡ with_taken (not (label == r.receiver.label)) r.delivered item)
registers_acknowledge p r item sender_open receiver_open no_ack no_frame holds =
    let led : register_run p r register_exchange ≡ done p r r.sender.state.label item r.receiver.label =
    ap (λ (u : Registers). register_run p u register_exchange)
    (sym (is_ready r item sender_open receiver_open no_ack no_frame holds))
    ∙ exchanged p r r.sender.state.label item r.receiver.label
    in (
      ap (λ (u : Registers). u.acked) led,
      ap (λ (u : Registers). u.sender) led,
      ap (λ (u : Registers). u.receiver) led,
      ap (λ (u : Registers). u.delivered) led,
    )
