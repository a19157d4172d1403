use Rattle.std.proofs.Common.{Some, string_bytes, sym, ap, ◌∙◌}
use Rattle.std.specs.Str.{bytes_eq}
use Rattle.stab_tree.proofs.Places.{position-map}
use Rattle.stab_tree.proofs.names.find.Goals as goal

pub returns-in_err-place : goal.returns-in_err-place
returns-in_err-place c =
    let mapped = position-map (λ s. bytes_eq s c.args.name.now) string_bytes c.args.names.now in
    c.from_residual.ensures ∙ sym (c.in_err-place.was) ∙ c.first_place.ensures ∙ sym mapped

pub returns : goal.returns
returns c =
    let mapped = position-map (λ s. bytes_eq s c.args.name.now) string_bytes c.args.names.now in
    ap Some c.new.ensures ∙ sym (c.in_ok-place.was) ∙ c.first_place.ensures ∙ sym mapped
