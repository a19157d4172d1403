use Rattle.std.proofs.Common.{rules, ◌≡◌, ◌∙◌, ◌++◌, [], ◌∷◌, refl, ap, sym, subst, length, replicate}
use Rattle.stab_lock.specs.CodesInside.{expand, all_parts, part_of, unpack}
use Rattle.stab_lock.specs.History.{IsLast}
use Rattle.stab_lock.proofs.Codes.{all_parts-append}
use Rattle.stab_lock.proofs.Marks.{events_more, packed_more, packed_joined}
use Rattle.stab_lock.proofs.packed.PackedRuns.push.Goals as goal
use Rattle.stab_lock.proofs.packed.PackedRuns.push.Goals.{then-not-join_last, else-not-join_last}

pub invariant_of-self : goal.invariant_of-self
invariant_of-self c =
    let differs : IsLast c.args.run.event (expand (unpack c.self.inside.numbers.items 0 (all_parts c.self.inside.codes.items))) → ⊥ =
    subst (λ v. IsLast c.args.run.event (expand v.runs) → ⊥) (sym c.self.view_is) c.requires.differs
    in
    let start : c.len-start.result ≡ length c.self.inside.numbers.items = search rules in
    elim c.if-not-join_last.branch [
      | then-not-join_last w ↦
          let none : c.join_last.new.codes.items ≡ c.self.inside.codes.items = search rules in
          let place : w.len-place.result ≡ length c.self.inside.codes.items = search rules in
          rw (w.self-inside-is, w.push_reserved.ensures.items, w.of.ensures, c.of-part.ensures.kind, w.mark.ensures.items, w.mark-then-not-join_last.ensures.items, none, place, start, c.add_count.ensures.items)
          (packed_more c.self.inside.codes.items (c.self.inside.codes.items ++ (part_of c.args.run ∷ []) ∷ []) c.self.inside.numbers.items
          c.add_event.new.numbers.items c.self.inside.marks.items c.self.inside.starts.items c.self.inside.count c.args.run c.self.invariant
          c.add_event.ensures.items c.add_event.ensures.found c.requires.some
          (all_parts-append c.self.inside.codes.items ((part_of c.args.run ∷ []) ∷ [])) refl differs)
      | else-not-join_last w ↦
          rw (w.self-inside-is, c.add_count.ensures.items)
          (packed_joined c.self.inside.codes.items c.join_last.new.codes.items c.self.inside.numbers.items
          c.add_event.new.numbers.items c.self.inside.marks.items c.self.inside.starts.items c.self.inside.count c.args.run c.self.invariant
          c.add_event.ensures.items c.add_event.ensures.found c.requires.some
          (w.if-not-join_last.ensures.joined.0 ∙ ap (λ p. all_parts c.self.inside.codes.items ++ p ∷ []) c.of-part.ensures.kind)
          w.if-not-join_last.ensures.joined.1 w.if-not-join_last.ensures.joined.2 differs)
    ]

pub returns-clause-events : goal.returns-clause-events
returns-clause-events c =
    elim c.if-not-join_last.branch [
      | then-not-join_last w ↦
          let none : c.join_last.new.codes.items ≡ c.self.inside.codes.items = search rules in
          rw (w.self-inside-is, w.push_reserved.ensures.items, w.of.ensures, c.of-part.ensures.kind, none, c.add_count.ensures.items)
          (events_more c.self.inside.codes.items (c.self.inside.codes.items ++ (part_of c.args.run ∷ []) ∷ []) c.self.inside.numbers.items
          c.add_event.new.numbers.items c.self.inside.marks.items c.self.inside.starts.items c.self.inside.count c.args.run c.self.invariant
          c.add_event.ensures.items c.add_event.ensures.found c.requires.some
          (all_parts-append c.self.inside.codes.items ((part_of c.args.run ∷ []) ∷ []))
          ∙ ap (λ v. expand v.runs ++ replicate c.args.run.count c.args.run.event) c.self.view_is)
      | else-not-join_last w ↦
          rw (w.self-inside-is, c.add_count.ensures.items)
          (events_more c.self.inside.codes.items c.join_last.new.codes.items c.self.inside.numbers.items
          c.add_event.new.numbers.items c.self.inside.marks.items c.self.inside.starts.items c.self.inside.count c.args.run c.self.invariant
          c.add_event.ensures.items c.add_event.ensures.found c.requires.some
          (w.if-not-join_last.ensures.joined.0 ∙ ap (λ p. all_parts c.self.inside.codes.items ++ p ∷ []) c.of-part.ensures.kind)
          ∙ ap (λ v. expand v.runs ++ replicate c.args.run.count c.args.run.event) c.self.view_is)
    ]
