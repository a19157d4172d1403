use Rattle.stab_script.proofs.Leads.{link_leads_on}
use Rattle.stab_script.proofs.stepped.LinkTakesEvents.take.Goals as goal

pub returns : goal.returns
returns c = link_leads_on c.args.self.now c.apply.new.self c.args.event c.in_ok-apply.field-0 c.in_ok-apply.ensures.steps
