use Rattle.std.proofs.Common.{map}
use Rattle.rignolda_agent.proofs.NotBehind.{heard_all, started_all}
use Rattle.rignolda_agent.proofs.report_laws.no_number_that_was_heard_is_ahead.Goals as goal

pub returns-clause-heard : goal.returns-clause-heard
returns-clause-heard c low reading agent items low_in number floor all =
    heard_all low agent (map reading items) low_in number floor all

pub returns-clause-started : goal.returns-clause-started
returns-clause-started c = started_all
