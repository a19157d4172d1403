use Rattle.std.proofs.Common.{◌++◌, ◌∙◌, [], ap, append_assoc, string_bytes}
use Rattle.std.specs.List.{flat_map}
use Rattle.stab_core.specs.Texts.{number_entry, numbers_line}
use Rattle.rignolda_scenario.proofs.Marking.{line_of_two}
use Rattle.rignolda_scenario.proofs.text.push_two_lists.Goals as goal

pub returns : goal.returns
returns c =
    let old = string_bytes c.args.text.now in
    let label = c.args.label.now in
    let first = flat_map number_entry c.args.first.now in
    let second = numbers_line [] c.args.second.now in
    c.in_ok-push_items_line.ensures
    ∙ (ap (λ bytes. bytes ++ second) (c.in_ok-push_items.ensures ∙ ap (λ bytes. bytes ++ first) c.in_ok-push_str.ensures.bytes)
    ∙ (ap (λ bytes. bytes ++ second) (append_assoc old label first)
    ∙ (append_assoc old (label ++ first) second
    ∙ ap (λ bytes. old ++ bytes) (line_of_two label c.args.first.now c.args.second.now))))
