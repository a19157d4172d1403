use Rattle.std.proofs.Common.{◌≡◌, ◌++◌, ◌∙◌, ℕ, List, ap, sym, string_bytes}
use Rattle.std.specs.List.{flat_map, range_with_len}
use Rattle.stab_report.specs.Texts.{lines_at}
use Rattle.stab_treecore.proofs.ForCallers.{next_place}
use Rattle.stab_report.proofs.text.text_of.Goals as goal

pub loop-place-preserved : goal.loop-place-preserved
loop-place-preserved g c =
    let lines : ℕ → List ℕ = lines_at c.args.tree.now (g.R.Entries.report c.args.report.now) c.args.says_so in
    let so_far : string_bytes c.loop-place.text ≡ flat_map lines (range_with_len 0 c.loop-place.place) = c.loop-place.invariant in
    let pushed : string_bytes c.push_node.new.text ≡ string_bytes c.loop-place.text ++ lines c.loop-place.place =
    c.in_ok-push_node.ensures ∙ ap (λ node. string_bytes c.loop-place.text ++ lines node) c.new.ensures in
    pushed ∙ (ap (λ bytes. bytes ++ lines c.loop-place.place) so_far ∙ sym (next_place lines c.loop-place.place))
