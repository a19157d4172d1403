-- Of which kinds the links are that a report keeps.
-- Source: this project's own.
use Rattle.std.specs.Prelude.{List, [], map}
use Rattle.stab_run.specs.AnyLinks.{kind_of}
use Rattle.stab_run.specs.LinkKinds.{LinkKind}
use Rattle.stab_run.specs.declared.kept_links.KeptLinks.{KeptLinks}
use Rattle.stab_run.specs.declared.kept_links.KeptLinks.TheVariants.{None, Kept}

-- the kind of each link that a report keeps, in file order of the children
abbrev pub kinds_of : KeptLinks → List LinkKind
kinds_of None = []
kinds_of (Kept links) = map kind_of links.value.items
