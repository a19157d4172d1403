use Rattle.std.proofs.Common.{false}
use Rattle.rignolda_agent.proofs.KeyBytes.{in_table}
use Rattle.rignolda_agent.proofs.keys.is_key_byte.Goals as goal

pub returns : goal.returns
returns c = in_table c.args.byte false c.ranges.byte.fits
