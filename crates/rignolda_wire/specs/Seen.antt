-- What a function of the code returned, as the definitions see it.
use Rattle.std.specs.Prelude.{◌≡◌, ◌<◌, ℕ, List, get_or, true, false, Result, Ok, Err}
use Rattle.rignolda_wire.specs.declared.fault.Fault.{Fault}
use Rattle.rignolda_wire.specs.declared.said.Frame.{Frame}
use Rattle.rignolda_wire.specs.declared.said.FrameHead.{FrameHead}
use Rattle.rignolda_wire.specs.declared.said.Greeting.{Greeting}
use Rattle.rignolda_wire.specs.declared.said.Message.{Message}
use Rattle.rignolda_wire.specs.declared.said.Message.TheVariants as messages
use Rattle.rignolda_wire.specs.declared.said.NumberedWay.{NumberedWay}
use Rattle.rignolda_wire.specs.declared.said.Reference.{Reference}
use Rattle.rignolda_wire.specs.declared.said.SignedFrame.{SignedFrame}
use Rattle.rignolda_wire.specs.declared.said.SignedReference.{SignedReference}
use Rattle.rignolda_wire.specs.declared.said.Way.{Way}
use Rattle.rignolda_wire.specs.Said.{Framed, Greeted, Numbered, Referred, Routed, Said, Signed, ack}
use Rattle.rignolda_wire.specs.Said.{asks, filler, frame, goodbye, hello, lacks, numbered, refers}
use Rattle.rignolda_wire.specs.Said.{refers_signed, report, signed, way}
use Rattle.rignolda_wire.specs.Said as said
use Rattle.rignolda_wire.specs.Words.{Headed}

-- each is a byte
abbrev pub AreBytes : List ℕ → Type 0
AreBytes bytes = (i : ℕ) → get_or bytes i 0 < 256

-- what was returned, seen by view, is what reading gives
abbrev pub Reads : {X Y : Type 0} → (X → Y) → Result X Fault → Result Y Fault → Type 0
Reads view (Ok x) read = read ≡ Ok (view x)
Reads view (Err fault) read = read ≡ Err fault

-- wherever the bytes lie
abbrev pub greeted : Greeting → Greeted
greeted g = record {
  version = g.version;
  life = g.life;
  label = g.label;
  from = g.from.now;
  to = g.to.now;
}

abbrev pub routed : Way → Routed
routed w = record { cost = w.cost; names = w.names.now }

abbrev pub framed : Frame → Framed
framed f = record { label = f.label; item = f.item; body = f.body.now }

abbrev pub headed : FrameHead → Headed
headed h = record { label = h.label; item = h.item; len = h.len }

abbrev pub referred : Reference → Referred
referred r = record {
  label = r.label;
  item = r.item;
  len = r.len;
  head = r.head.now;
  digest = r.digest.now;
}

abbrev pub numbering : NumberedWay → Numbered
numbering n = record { number = n.number; route = routed n.way }

abbrev pub signing : SignedFrame → Signed
signing f = record {
  label = f.label;
  item = f.item;
  signature = f.signature.now;
  body = f.body.now;
}

abbrev pub signing_reference : SignedReference → said.SignedReference
signing_reference r = record { reference = referred r.reference; signature = r.signature.now }

abbrev pub said_of : Message → Said
said_of (messages.Hello g) = hello false (greeted g)
said_of (messages.Look g) = hello true (greeted g)
said_of (messages.Way w) = way (routed w)
said_of (messages.Frame f) = frame (framed f)
said_of (messages.Reference r) = refers (referred r)
said_of messages.ReportRequest = asks
said_of (messages.Ack label) = ack label
said_of (messages.Lacks label) = lacks label
said_of (messages.Report text) = report text.now
said_of messages.Goodbye = goodbye
said_of (messages.NumberedWay n) = numbered (numbering n)
said_of (messages.SignedFrame f) = signed (signing f)
said_of (messages.SignedReference r) = refers_signed (signing_reference r)
said_of (messages.Filler label) = filler label
