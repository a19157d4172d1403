use Rattle.std.proofs.Common.{◌≡◌, string_bytes, ap, ◌∙◌, rules}
use Rattle.serde_json.specs.Data.{put}
use Rattle.serde_json.specs.View.{view, members_view}
use Rattle.serde_json.proofs.Views.{members_view-insert_entry}
use Rattle.stab_job.proofs.value.insert.Goals as goal

pub returns : goal.returns
returns c =
    let old = c.args.members.now.entries in
    let copied : string_bytes c.in_ok-key.key ≡ c.args.name.now = search rules in
    ap members_view c.in_ok-insert.ensures.entries ∙ members_view-insert_entry old c.in_ok-key.key c.args.member ∙ ap (λ name. put name (view c.args.member) (members_view old)) copied
