use Rattle.stab_script.proofs.Leads.{tracer_leads_on}
use Rattle.stab_script.proofs.stepped.TracerTakesEvents.take.Goals as goal

pub returns : goal.returns
returns c = tracer_leads_on c.args.self.now c.apply.new.self c.args.event c.in_ok-apply.ensures
