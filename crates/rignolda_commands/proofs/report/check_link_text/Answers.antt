use Rattle.rignolda_commands.proofs.report.check_link_text.Goals as goal

-- the text that is that of no link
pub returns-in-Err-clause-fault : goal.returns-in-Err-clause-fault
returns-in-Err-clause-fault c = λ input begun.
    c.unread_link.ensures.fault input c.args.text.now c.args.job.now begun c.in-Err.ensures.refused
