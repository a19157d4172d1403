use Rattle.std.proofs.Common.{refl}
use Rattle.rignolda_wire.specs.Reading.{candidate_at, child_at, counted_at, fourth_at, frame_at, greeting_at, hello_at, letter_at, limited_at, name_at, name_len_at, names_at, numbered_at, numbering_candidate_at, parent_at, reference_at, signed_at, signed_reference_at, signing_parent_at, version_at, way_at}
use Rattle.rignolda_wire.proofs.examples.faults_worked_out.Goals as goal

pub returns-clause-hellos : goal.returns-clause-hellos
unfolding hello_at letter_at fourth_at greeting_at version_at name_at name_len_at candidate_at parent_at child_at way_at names_at frame_at reference_at counted_at limited_at numbering_candidate_at signing_parent_at numbered_at signed_at signed_reference_at
returns-clause-hellos c = (refl, refl, refl, refl, refl)

pub returns-clause-names : goal.returns-clause-names
unfolding hello_at letter_at fourth_at greeting_at version_at name_at name_len_at candidate_at parent_at child_at way_at names_at frame_at reference_at counted_at limited_at numbering_candidate_at signing_parent_at numbered_at signed_at signed_reference_at
returns-clause-names c = (refl, refl, refl, refl, refl)

pub returns-clause-lengths : goal.returns-clause-lengths
unfolding hello_at letter_at fourth_at greeting_at version_at name_at name_len_at candidate_at parent_at child_at way_at names_at frame_at reference_at counted_at limited_at numbering_candidate_at signing_parent_at numbered_at signed_at signed_reference_at
returns-clause-lengths c = (refl, refl, refl, refl, refl, refl, refl, refl, refl, refl, refl)

pub returns-clause-others : goal.returns-clause-others
unfolding hello_at letter_at fourth_at greeting_at version_at name_at name_len_at candidate_at parent_at child_at way_at names_at frame_at reference_at counted_at limited_at numbering_candidate_at signing_parent_at numbered_at signed_at signed_reference_at
returns-clause-others c = (refl, refl, refl, refl, refl, refl, refl)
