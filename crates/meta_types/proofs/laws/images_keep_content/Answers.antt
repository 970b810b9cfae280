use Rattle.meta_types.proofs.WorkedScripts.{an_image_keeps_its_content, a_cycle_goes, a_cycle_under_an_image_stays, only_reference_keys_reference}
use Rattle.meta_types.proofs.laws.images_keep_content.Goals as goal

-- computed
pub returns-clause-an_image_keeps_its_content : goal.returns-clause-an_image_keeps_its_content
returns-clause-an_image_keeps_its_content c = an_image_keeps_its_content

-- computed
pub returns-clause-a_cycle_goes : goal.returns-clause-a_cycle_goes
returns-clause-a_cycle_goes c = a_cycle_goes

-- computed
pub returns-clause-a_cycle_under_an_image_stays : goal.returns-clause-a_cycle_under_an_image_stays
returns-clause-a_cycle_under_an_image_stays c = a_cycle_under_an_image_stays

-- computed
pub returns-clause-only_reference_keys_reference : goal.returns-clause-only_reference_keys_reference
returns-clause-only_reference_keys_reference c = only_reference_keys_reference
