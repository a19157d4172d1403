use Rattle.std.proofs.Common.{Option, option_map, sym, ap, ◌∙◌, Bor}
use Rattle.serde_json.specs.View.{view}
use Rattle.serde_json.specs.declared.value.Value.TheVariants.{the_data}
use Rattle.rignolda_commands.proofs.Values.{same_scenario}
use Rattle.rignolda_commands.proofs.job.scenario_of.Goals as goal

pub returns-in-Some : goal.returns-in-Some
returns-in-Some c = record {
  scenario = same_scenario c.args.bytes.now (view c.in-Some.value.now) c.scenario_of_value.result
      (sym (ap (λ (o : Option (Bor the_data)). option_map (λ lent. view lent.now) o) c.in-Some.is) ∙ c.requires)
      c.scenario_of_value.ensures.scenario;
}
