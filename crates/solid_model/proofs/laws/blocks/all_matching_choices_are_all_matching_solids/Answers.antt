use Rattle.solid_model.proofs.BlockChoices.{all_solids_of_blocks}
use Rattle.solid_model.proofs.laws.blocks.all_matching_choices_are_all_matching_solids.Goals as goal

pub returns : goal.returns
returns c = all_solids_of_blocks
