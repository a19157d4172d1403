use Rattle.std.proofs.Common.{refl}
use Rattle.rignolda_wire.specs.Reading.{candidate_at, child_at, counted_at, fourth_at, frame_at, greeting_at, hello_at, letter_at, limited_at, name_at, name_len_at, names_at, numbered_at, numbering_candidate_at, parent_at, reference_at, signed_at, signed_reference_at, signing_parent_at, version_at, way_at}
use Rattle.rignolda_wire.proofs.examples.spelled_out.Goals as goal

pub returns-clause-hellos : goal.returns-clause-hellos
unfolding hello_at letter_at fourth_at greeting_at version_at name_at name_len_at candidate_at parent_at child_at way_at names_at frame_at reference_at counted_at limited_at numbering_candidate_at signing_parent_at numbered_at signed_at signed_reference_at
returns-clause-hellos c = (refl, refl, refl, refl, refl, refl)

pub returns-clause-parents : goal.returns-clause-parents
unfolding hello_at letter_at fourth_at greeting_at version_at name_at name_len_at candidate_at parent_at child_at way_at names_at frame_at reference_at counted_at limited_at numbering_candidate_at signing_parent_at numbered_at signed_at signed_reference_at
returns-clause-parents c = (refl, refl, refl, refl, refl, refl)

pub returns-clause-signed : goal.returns-clause-signed
unfolding hello_at letter_at fourth_at greeting_at version_at name_at name_len_at candidate_at parent_at child_at way_at names_at frame_at reference_at counted_at limited_at numbering_candidate_at signing_parent_at numbered_at signed_at signed_reference_at
returns-clause-signed c = (refl, refl, refl, refl, refl, refl)

pub returns-clause-signed_references : goal.returns-clause-signed_references
returns-clause-signed_references c = refl

pub returns-clause-children : goal.returns-clause-children
unfolding hello_at letter_at fourth_at greeting_at version_at name_at name_len_at candidate_at parent_at child_at way_at names_at frame_at reference_at counted_at limited_at numbering_candidate_at signing_parent_at numbered_at signed_at signed_reference_at
returns-clause-children c = (refl, refl, refl, refl)

pub returns-clause-refusals : goal.returns-clause-refusals
unfolding hello_at letter_at fourth_at greeting_at version_at name_at name_len_at candidate_at parent_at child_at way_at names_at frame_at reference_at counted_at limited_at numbering_candidate_at signing_parent_at numbered_at signed_at signed_reference_at
returns-clause-refusals c = (refl, refl, refl, refl, refl)
