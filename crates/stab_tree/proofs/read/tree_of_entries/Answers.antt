use Rattle.std.proofs.Common.{◌≡◌, map, string_bytes}
use Rattle.std.proofs.lemmas.Bool.{ltb-false}
use Rattle.stab_tree.specs.Entry.{names_of}
use Rattle.stab_tree.proofs.Checked.{Passed, few_parents, known_parents, IsTree-from_checks}
use Rattle.stab_tree.proofs.read.tree_of_entries.Goals as goal
use Rattle.stab_tree.proofs.read.tree_of_entries.Goals.{After-as_slice-2}

-- what the checks up to the number of roots have shown
passed : (c : After-as_slice-2) → Passed c.args.entries.now c.in_ok-parents.parents.items
passed c =
    let named = c.in_ok-check_names.ensures in
    let names : map string_bytes c.as_slice.result.now ≡ names_of c.args.entries.now = rw c.as_slice.ensures.value c.in_ok-names.ensures in
    record {
      few = ltb-false _ _ named.few;
      lawful = named.lawful;
      own = named.own;
      found = rw names at c.in_ok-parents.ensures.ok.found;
      one = c.in_ok-parents.ensures.ok.one_root;
    }

pub read_depths-requires-clause-few : goal.read_depths-requires-clause-few
read_depths-requires-clause-few c = rw c.as_slice-2.ensures.value (few_parents (passed c))

pub read_depths-requires-clause-known : goal.read_depths-requires-clause-known
read_depths-requires-clause-known c = rw c.as_slice-2.ensures.value (known_parents (passed c))

pub first_root-root-requires : goal.first_root-root-requires
first_root-root-requires c =
    rw c.as_slice-3.ensures.value (few_parents (passed (goal.at.first_root-root-requires c).After-as_slice-2))

pub from_parts-requires : goal.from_parts-requires
from_parts-requires c =
    let so_far = passed (goal.at.from_parts-requires c).After-as_slice-2 in
    let names : map string_bytes c.in_ok-names.names.items ≡ names_of c.args.entries.now = c.in_ok-names.ensures in
    record {
      tree = rw names (IsTree-from_checks _ _ so_far (rw c.as_slice-2.ensures.value at c.in_ok-depths.ensures.found));
      depths_are = rw c.as_slice-2.ensures.value at c.in_ok-depths.ensures.each;
      root_is = rw (← c.as_slice-3.ensures.value) c.first_root-root.ensures;
    }
