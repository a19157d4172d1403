use Rattle.std.proofs.Common.{◌+◌, ◌++◌, length, sym, ◌∙◌, subst, arith}
use Rattle.std.proofs.lemmas.List.{get_or-append-add, get_or_append_left, length-append}
use Rattle.stab_settings.specs.Refreshes.{Sets}
use Rattle.stab_settings.proofs.laws.a_table_is_a_refresh.Goals as goal

pub returns : goal.returns
returns c reading keys before table rest sets = record {
  in_list = omega (arith, length-append before (table ++ rest), length-append table rest);
  all_set =
      λ key in_use.
      let set = sets key in_use in
      let within = set.before_end in
      record {
        place = length before + set.place;
        from_first = omega arith;
        before_end = omega arith;
        sets =
            subst (λ item. Sets (reading item) key)
            (sym (get_or-append-add before (table ++ rest) set.place 0 ∙ get_or_append_left table rest 0 set.place within)) set.sets;
      };
}
