use Rattle.std.proofs.Common.{◌≡◌, [], ap, ◌∙◌, sym, subst, drop, length, refl}
use Rattle.std.specs.List.{flat_map}
use Rattle.std.proofs.lemmas.List.{drop_at}
use Rattle.rignolda_agent.specs.Seen.{AreEntries}
use Rattle.rignolda_agent.specs.BodySpelling.{entry_bytes, head_bytes}
use Rattle.rignolda_agent.proofs.Again.{each_again}
use Rattle.rignolda_agent.proofs.Spelled.{body_spelled}
use Rattle.rignolda_agent.proofs.body_laws.entries_are_read_in_turn.Goals as goal

pub returns : goal.returns
returns c bytes b are read =
    let (is, text) = body_spelled bytes b are read in
    let head = head_bytes b.kind b.number (length b.settings) in
    let rest : drop (length head) bytes ≡ flat_map entry_bytes b.settings =
    ap (drop (length head)) text ∙ drop_at head (flat_map entry_bytes b.settings) (length head) refl in
    subst (AreEntries b.settings) (sym rest) (each_again b.kind [] b.settings is.settings)
