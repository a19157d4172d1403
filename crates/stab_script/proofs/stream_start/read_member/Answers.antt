use Rattle.std.proofs.Common.{refl, arith}
use Rattle.stab_script.proofs.Members.{has_frames, has_acks, has_send, has_recv}
use Rattle.stab_script.proofs.Plain.{no_some, frames_form, acks_form, send_form, recv_form}
use Rattle.stab_script.proofs.stream_start.read_member.Goals as goal

pub returns-in-Some-clause-value : goal.returns-in-Some-clause-value
returns-in-Some-clause-value c =
    let old = c.args.parts.now in
    let lists = rw c.in-Some.is at c.in_ok-frames-in-frames.ensures.value in
    λ yes depth some.
    let first = lists depth some in
    rw c.from_vec.ensures (first.0, first.1, λ ms has. rw c.in-frames.is (has_frames old.frames old.acks old.send old.recv first.0 ms has c.in-Some.frames.items first.2))

pub returns-in-Some-2-clause-value : goal.returns-in-Some-2-clause-value
returns-in-Some-2-clause-value c =
    let old = c.args.parts.now in
    let lists = rw c.in-Some-2.is at c.in_ok-acks-in-acks.ensures.value in
    λ yes depth some.
    let first = lists depth some in
    rw c.from_vec-in-acks.ensures (first.0, first.1, λ ms has. rw c.in-acks.is (has_acks old.frames old.acks old.send old.recv first.0 ms has c.in-Some-2.acks.items first.2))

pub returns-in-Some-next-clause-value : goal.returns-in-Some-next-clause-value
returns-in-Some-next-clause-value c =
    let old = c.args.parts.now in
    λ yes depth some.
    let first = c.in-Some-next.ensures.value depth (omega (arith, some)) in
    (first.0, first.1, λ ms has. rw c.in-send.is (has_send old.frames old.acks old.send old.recv first.0 ms has c.in-Some-next.send first.2))

pub returns-in-Some-next-2-clause-value : goal.returns-in-Some-next-2-clause-value
returns-in-Some-next-2-clause-value c =
    let old = c.args.parts.now in
    λ yes depth some.
    let first = c.in-Some-next-2.ensures.value depth (omega (arith, some)) in
    (first.0, first.1, λ ms has. rw c.in-recv.is (has_recv old.frames old.acks old.send old.recv first.0 ms has c.in-Some-next-2.recv first.2))

pub returns-in_default-2-clause-plain : goal.returns-in_default-2-clause-plain
returns-in_default-2-clause-plain c = λ rest p. absurd (no_some c.in_default-2.is (c.in_ok-frames-in-frames.ensures.plain rest (frames_form c.args.name.now c.args.reader.now rest c.in-frames.is p)).0)

pub returns-in-Some-clause-plain : goal.returns-in-Some-clause-plain
returns-in-Some-clause-plain c = λ rest p. (refl, (c.in_ok-frames-in-frames.ensures.plain rest (frames_form c.args.name.now c.args.reader.now rest c.in-frames.is p)).1)

pub returns-in_default-3-clause-plain : goal.returns-in_default-3-clause-plain
returns-in_default-3-clause-plain c = λ rest p. absurd (no_some c.in_default-3.is (c.in_ok-acks-in-acks.ensures.plain rest (acks_form c.args.name.now c.args.reader.now rest c.in-acks.is p)).0)

pub returns-in-Some-2-clause-plain : goal.returns-in-Some-2-clause-plain
returns-in-Some-2-clause-plain c = λ rest p. (refl, (c.in_ok-acks-in-acks.ensures.plain rest (acks_form c.args.name.now c.args.reader.now rest c.in-acks.is p)).1)

pub returns-in_default-next-clause-plain : goal.returns-in_default-next-clause-plain
returns-in_default-next-clause-plain c = λ rest p.
    let never = (c.in_default-next.ensures.plain rest (send_form c.args.name.now c.args.reader.now rest c.in-send.is p)).0 in
    absurd (cc)

pub returns-in-Some-next-clause-plain : goal.returns-in-Some-next-clause-plain
returns-in-Some-next-clause-plain c = λ rest p. (refl, (c.in-Some-next.ensures.plain rest (send_form c.args.name.now c.args.reader.now rest c.in-send.is p)).1)

pub returns-in_default-next-2-clause-plain : goal.returns-in_default-next-2-clause-plain
returns-in_default-next-2-clause-plain c = λ rest p.
    let never = (c.in_default-next-2.ensures.plain rest (recv_form c.args.name.now c.args.reader.now rest c.in-recv.is p)).0 in
    absurd (cc)

pub returns-in-Some-next-2-clause-plain : goal.returns-in-Some-next-2-clause-plain
returns-in-Some-next-2-clause-plain c = λ rest p. (refl, (c.in-Some-next-2.ensures.plain rest (recv_form c.args.name.now c.args.reader.now rest c.in-recv.is p)).1)
