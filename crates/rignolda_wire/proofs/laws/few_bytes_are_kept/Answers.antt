use Rattle.rignolda_wire.proofs.Signed.{codec_message}
use Rattle.rignolda_wire.proofs.laws.few_bytes_are_kept.Goals as goal

pub returns : goal.returns
returns c expect bytes are waits = (codec_message expect).few bytes are waits
