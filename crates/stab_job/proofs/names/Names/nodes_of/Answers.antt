use Rattle.std.proofs.Common.{◌≡◌, ℕ, ◌<◌, [], ◌∷◌, ◌++◌, length, get_or, Some, sym, ap, ◌∙◌, arith, below_more}
use Rattle.std.proofs.Math.Seq.{get_or-append_seam}
use Rattle.std.proofs.lemmas.List.{get_or_append_left, length-append}
use Rattle.std.proofs.lemmas.Option.{get_or_from_slice_get}
use Rattle.stab_tree.specs.Nodes.{place_of}
use Rattle.stab_job.proofs.names.Names.nodes_of.Goals as goal

pub each-preserved : goal.each-preserved
each-preserved c =
    let of_tree = c.args.tree.now.names in
    let names = c.args.self.now in
    let l = c.each in
    let old = l.nodes.items in
    let node = c.in-Some.node in
    let now = c.push.new.self.items in
    let added : now ≡ old ++ node ∷ [] = c.in_ok-push.ensures.items in
    let its_name : get_or names l.place [] ≡ c.at.result.now = get_or_from_slice_get names l.place c.at.result.now [] c.at.ensures in
    let found : place_of of_tree c.at.result.now ≡ Some node = sym c.find.ensures.value ∙ c.in-Some.is in
    let last : get_or now l.place 0 ≡ node =
    ap (λ xs. get_or xs l.place 0) added ∙ ap (λ k. get_or (old ++ node ∷ []) k 0) (sym l.invariant.0) ∙ get_or-append_seam old node [] 0 in (
      omega (arith, ap length added, length-append old (node ∷ []), l.invariant.0),
      below_more _ _
          (λ k before. l.invariant.1 k before ∙ ap Some (sym (ap (λ xs. get_or xs k 0) added ∙ get_or_append_left old (node ∷ []) 0 k (omega (arith, before, l.invariant.0)))))
          (ap (place_of of_tree) its_name ∙ found ∙ ap Some (sym last)),
    )
