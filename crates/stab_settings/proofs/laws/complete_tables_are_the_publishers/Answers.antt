use Rattle.std.proofs.Common.{inl, length, ap, arith, sym, ◌∙◌}
use Rattle.std.proofs.Math.Seq.{take-length}
use Rattle.std.proofs.lemmas.List.Sums.{fold-append}
use Rattle.stab_settings.specs.Tables.{apply_item, apply_items}
use Rattle.stab_settings.proofs.Overwritten.{items_same}
use Rattle.stab_settings.proofs.Tables.{same_tables}
use Rattle.stab_settings.proofs.laws.complete_tables_are_the_publishers.Goals as goal

pub returns : goal.returns
returns c reading keys most_strays most_missing first after garbage published received later at_root at_node law refresh earlier key in_use =
    let same =
    same_tables reading keys most_strays most_missing (length published) first after garbage published received law.0 at_root at_node
    law.1 law.1.taken_picked.in_list law.2 (omega arith) refresh earlier refresh.in_list key in_use
    ∙ ap (λ items. apply_items reading at_root items key) (take-length published) in
    ap (λ table. table key) (fold-append (apply_item reading) at_node received later)
    ∙ (items_same reading key later (apply_items reading at_node received) (apply_items reading at_root published) (inl same)
    ∙ sym (ap (λ table. table key) (fold-append (apply_item reading) at_root published later)))
