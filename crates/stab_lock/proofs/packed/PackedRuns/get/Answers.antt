use Rattle.std.proofs.Common.{◌∙◌, ◌<◌, ◌≤◌, List, ℕ, length, ap, subst, slice_get, slice_index}
use Rattle.stab_lock.specs.CodesInside.{expand}
use Rattle.stab_lock.proofs.Marks.{found_in_block, numbers_in_block}
use Rattle.stab_lock.proofs.packed.PackedRuns.get.Goals as goal

pub event_in_codes-requires : goal.event_in_codes-requires
event_in_codes-requires c =
    let marks : List ℕ = c.self.inside.marks.items in
    let within : c.block_of-block.result < length marks =
    subst (λ (xs : List ℕ). c.block_of-block.result < length xs) c.as_slice.ensures.value c.block_of-block.ensures.block
    in
    numbers_in_block c.self.inside.codes.items c.deref.result.now c.self.inside.numbers.items c.as_slice-2.result.now marks
    c.self.inside.starts.items c.self.inside.count c.block_of-block.result c.index.result.now c.deref.ensures.value
    c.as_slice-2.ensures.value c.self.invariant within c.index.ensures

pub returns : goal.returns
returns c =
    let marks : List ℕ = c.self.inside.marks.items in
    let within : c.block_of-block.result < length marks =
    subst (λ (xs : List ℕ). c.block_of-block.result < length xs) c.as_slice.ensures.value c.block_of-block.ensures.block
    in
    let begins : slice_index marks c.block_of-block.result ≤ c.args.place =
    subst (λ (xs : List ℕ). slice_index xs c.block_of-block.result ≤ c.args.place) c.as_slice.ensures.value c.block_of-block.ensures.begins
    in
    found_in_block c.self.inside.codes.items c.deref.result.now c.self.inside.numbers.items c.as_slice-2.result.now marks
    c.self.inside.starts.items c.self.inside.count c.block_of-block.result c.index.result.now c.deref.ensures.value
    c.as_slice-2.ensures.value c.self.invariant within c.index.ensures c.args.place c.index-2.result.now
    c.event_in_codes.result c.index-2.ensures begins c.event_in_codes.ensures
    ∙ ap (λ v. slice_get (expand v.runs) c.args.place) c.self.view_is
