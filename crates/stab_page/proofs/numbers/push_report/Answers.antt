use Rattle.std.proofs.Common.{map}
use Rattle.stab_page.specs.Report.{effect_number, item_numbers, length_numbers, queue_numbers, single_numbers}
use Rattle.stab_page.proofs.Lists.{five_added}
use Rattle.stab_page.proofs.numbers.push_report.Goals as goal

pub returns-clause-numbers : goal.returns-clause-numbers
returns-clause-numbers c =
    let t = c.args.link.now.traced in
    five_added c.args.out.now.items (single_numbers t) (length_numbers t c.args.had.now) (queue_numbers t) (item_numbers t)
    (map effect_number c.args.had.now) c.push_single.new.out.items c.push_lengths.new.out.items c.push_queues.new.out.items
    c.push_items.new.out.items c.push_effects.new.out.items c.push_single.ensures.numbers c.push_lengths.ensures.numbers
    c.push_queues.ensures.numbers c.push_items.ensures.numbers c.push_effects.ensures.numbers
