-- The table of a node that lacks no item from a bound on up to some number of published items.
use Rattle.std.proofs.Common.{◌≡◌, ℕ, ◌-◌, ◌≤◌, List, ◌++◌, take, length, slice_index, sym, ◌∙◌, ap, append_assoc, arith}
use Rattle.std.specs.List.{range_with_len}
use Rattle.std.proofs.lemmas.List.{map-append}
use Rattle.stab_core.proofs.ForCallers.{at_places}
use Rattle.stab_core.specs.Picks.{AllBelow}
use Rattle.stab_treecore.specs.TreeLaw.{HalfTreeLawAt}
use Rattle.stab_settings.specs.Tables.{Table, Reading, apply_items}
use Rattle.stab_settings.specs.Refreshes.{IsRefresh, SameBeside}
use Rattle.stab_settings.proofs.Suffixes.{AllBetween, ends_with_all}
use Rattle.stab_settings.proofs.Overwritten.{items_between, set_by_one, ends_same, first_items_end}

-- the received list ends with the published items from a bound on, where none of them is missing
received_end : (most_strays from bound : ℕ) (garbage published received places : List ℕ) → HalfTreeLawAt most_strays garbage published received places
    → AllBelow bound places → AllBetween from bound places → (before : List ℕ) × (received ≡ before ++ items_between published from bound)
received_end most_strays from bound garbage published received places half below all =
    let ends = ends_with_all 0 from bound places half.taken_picked.rising below (omega arith) all in
    let taken : half.taken ≡ at_places published ends.0 ++ items_between published from bound =
    half.taken_picked.the_items ∙ (ap (at_places published) ends.1 ∙ map-append (λ i. slice_index published i) ends.0 (range_with_len from (bound - from))) in (
      half.strays ++ at_places published ends.0,
      half.parts ∙ (ap (λ xs. half.strays ++ xs) taken ∙ sym (append_assoc half.strays (at_places published ends.0) (items_between published from bound))),
    )

-- so its table is that of the first published items, as many as the node has come to
pub same_tables : (reading : Reading) (keys : List ℕ) (most_strays from bound first after : ℕ) (garbage published received places : List ℕ) (at_root at_node : Table)
    → HalfTreeLawAt most_strays garbage published received places → AllBelow bound places → AllBetween from bound places → bound ≤ length published
    → IsRefresh reading keys published first after → from ≤ first → after ≤ bound
    → SameBeside keys (apply_items reading at_node received) (apply_items reading at_root (take bound published))
same_tables reading keys most_strays from bound first after garbage published received places at_root at_node half below all within refresh earlier later key in_use =
    let set = refresh.all_set key in_use in
    let node = received_end most_strays from bound garbage published received places half below all in
    let root = first_items_end published from bound (omega (arith, set.from_first, set.before_end)) within in
    ap (λ xs. apply_items reading at_node xs key) node.1
    ∙ (ends_same reading key node.0 (at_places published (range_with_len 0 from)) (items_between published from bound) at_node at_root (set_by_one reading published first after key from bound set earlier later)
    ∙ sym (ap (λ xs. apply_items reading at_root xs key) root))
