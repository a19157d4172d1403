use Rattle.std.proofs.Common.{map}
use Rattle.stab_page.specs.Codes.{event_of, start_of}
use Rattle.stab_page.specs.PageLink.{parameters}
use Rattle.stab_page.proofs.export.stab_page_report.Goals as goal

pub returns-then-not-is_accepted-clause-law : goal.returns-then-not-is_accepted-clause-law
returns-then-not-is_accepted-clause-law c =
    c.every_state_obeys_the_link_law.ensures.law (parameters c.args.capacity c.args.labels)
    (start_of c.args.frames.now c.args.acks.now c.args.send_label c.args.recv_label) (map event_of c.args.events.now)

pub returns-clause-law : goal.returns-clause-law
returns-clause-law c =
    c.every_state_obeys_the_link_law.ensures.law (parameters c.args.capacity c.args.labels)
    (start_of c.args.frames.now c.args.acks.now c.args.send_label c.args.recv_label) (map event_of c.args.events.now)
