use Rattle.std.proofs.Common.{[], ◌++◌, ◌∙◌, ap, arith, codes, refl, subst, sym}
use Rattle.std.specs.List.{flat_map}
use Rattle.stab_core.specs.Texts.{number_entry}
use Rattle.stab_report.specs.Lines.{Shows}
use Rattle.stab_report.proofs.Nodes.{one_line_items, shows_items}
use Rattle.rignolda_verdict.specs.LinkTexts.{frame_numbers, label_or_zero}
use Rattle.rignolda_verdict.proofs.LinkTexts.{after_acked, after_delivered, after_frames, after_acks, after_offered, after_recv_label, after_send_label}
use Rattle.rignolda_verdict.proofs.LinkTexts.{closed_cut, closed_told, closed_words, first_of_eight, frames_cut, frames_line_of, labels_are_items}
use Rattle.rignolda_verdict.proofs.LinkTexts.{number_cut, numbers_cut, one_line_closed, one_line_frames, one_line_number, same_label, same_link, shows_frames}
use Rattle.rignolda_verdict.proofs.link_read.shown_link.Goals as goal

-- each line is cut off, and shows what is read of it
pub returns : goal.returns
returns c s small is =
    let delivered =
    c.cut_line.ensures (codes "delivered:" ++ flat_map number_entry s.delivered) (after_delivered s)
    (one_line_items (codes "delivered:") s.delivered refl) (first_of_eight s c.args.text.now is) in
    let offered =
    c.cut_line-2.ensures (codes "offered:" ++ flat_map number_entry s.offered) (after_offered s)
    (one_line_items (codes "offered:") s.offered refl)
    (numbers_cut (codes "offered:") s.offered c.cut_line.result.1.now (after_offered s) delivered.1) in
    let acked =
    c.cut_line-3.ensures (codes "acked:" ++ number_entry s.acked) (after_acked s) (one_line_number (codes "acked:") s.acked refl)
    (number_cut (codes "acked:") s.acked c.cut_line-2.result.1.now (after_acked s) offered.1) in
    let send_label =
    c.cut_line-4.ensures (codes "send label:" ++ number_entry s.send_label) (after_send_label s)
    (one_line_number (codes "send label:") s.send_label refl)
    (number_cut (codes "send label:") s.send_label c.cut_line-3.result.1.now (after_send_label s) acked.1) in
    let recv_label =
    c.cut_line-5.ensures (codes "recv label:" ++ number_entry s.recv_label) (after_recv_label s)
    (one_line_number (codes "recv label:") s.recv_label refl)
    (number_cut (codes "recv label:") s.recv_label c.cut_line-4.result.1.now (after_recv_label s) send_label.1) in
    let frames =
    c.cut_line-6.ensures (frames_line_of s.frames) (after_frames s) (one_line_frames s.frames)
    (frames_cut s.frames c.cut_line-5.result.1.now (after_frames s) recv_label.1) in
    let acks =
    c.cut_line-7.ensures (codes "acks:" ++ flat_map number_entry s.acks) (after_acks s) (one_line_items (codes "acks:") s.acks refl)
    (numbers_cut (codes "acks:") s.acks c.cut_line-6.result.1.now (after_acks s) frames.1) in
    let closed =
    c.cut_line-8.ensures (closed_words s.closed) [] (one_line_closed s.closed) (closed_cut s.closed c.cut_line-7.result.1.now acks.1) in
    same_link _ s
    (c.in_ok-frames_of.ensures s.frames small.frames
    (subst (λ line. Shows line (flat_map frame_numbers s.frames)) (sym frames.0) (shows_frames (codes "frames:") s.frames refl small.frames)))
    (c.in_ok-labels_of.ensures s.acks small.acks
    (subst (λ line. Shows line s.acks) (sym acks.0) (shows_items (codes "acks:") s.acks refl (labels_are_items s.acks small.acks))))
    (c.label_of.ensures
    ∙ ap label_or_zero (c.number_of-2.ensures (codes "send label:") s.send_label (omega (arith, small.send_label)) send_label.0)
    ∙ same_label s.send_label small.send_label)
    (c.in_ok-items_of-2.ensures s.offered
    (subst (λ line. Shows line s.offered) (sym offered.0) (shows_items (codes "offered:") s.offered refl small.offered)))
    (c.number_of.ensures (codes "acked:") s.acked small.acked acked.0)
    (c.label_of-2.ensures
    ∙ ap label_or_zero (c.number_of-3.ensures (codes "recv label:") s.recv_label (omega (arith, small.recv_label)) recv_label.0)
    ∙ same_label s.recv_label small.recv_label)
    (c.in_ok-items_of.ensures s.delivered
    (subst (λ line. Shows line s.delivered) (sym delivered.0) (shows_items (codes "delivered:") s.delivered refl small.delivered)))
    (closed_told c.cut_line-8.result.0.now s.closed c.is_closed.result closed.0 c.is_closed.ensures.closed c.is_closed.ensures.open)
