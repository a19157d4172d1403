use Rattle.rignolda_wire.proofs.Signed.{codec_message}
use Rattle.rignolda_wire.proofs.laws.what_is_refused_stays_refused.Goals as goal

pub returns : goal.returns
returns c expect bytes more fault are refused other = (codec_message expect).lasts bytes more fault are refused other
