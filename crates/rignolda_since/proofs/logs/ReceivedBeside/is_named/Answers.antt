use Rattle.std.proofs.Common.{◌≡◌, rules}
use Rattle.std.specs.Str.{bytes_eq}
use Rattle.rignolda_since.specs.Logs.{the_lists}
use Rattle.rignolda_since.proofs.Lists.{by_case}
use Rattle.rignolda_since.proofs.logs.ReceivedBeside.is_named.Goals as goal

pub returns : goal.returns
returns c =
    let is : bytes_eq c.args.name.now the_lists ≡ c.eq.result = search rules in
    by_case c.eq.result c.args.name.now is
