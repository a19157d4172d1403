-- The finding that is added is the one whose matter this is.
use Rattle.std.proofs.Common.{refl, ◌∙◌, ap, ◌++◌, ◌∷◌, [], rules}
use Rattle.rignolda_findings.proofs.notes.Notes.add.Goals as goal

pub returns-clause-added : goal.returns-clause-added
returns-clause-added c room =
    record {
      finding = record { matter = c.args.matter; line = c.in_ok-line.line };
      of_matter = refl;
      behind = search rules;
      same_omitted = search rules;
    }
