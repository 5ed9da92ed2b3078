use Rattle.solid_model.proofs.ConstantOnBlocks.{flat_unless_virtual, some_fullness, same_in_joined, empty_in_outside}
use Rattle.solid_model.proofs.PseudoEdges.{edges_are_pseudo}
use Rattle.solid_model.proofs.laws.blocks.matching_solids_are_constant_on_blocks.Goals as goal

pub returns-clause-counted : goal.returns-clause-counted
returns-clause-counted c = some_fullness

pub returns-clause-edges : goal.returns-clause-edges
returns-clause-edges c = edges_are_pseudo

pub returns-clause-faces : goal.returns-clause-faces
returns-clause-faces c = flat_unless_virtual

pub returns-clause-joined : goal.returns-clause-joined
returns-clause-joined c = same_in_joined

pub returns-clause-outside : goal.returns-clause-outside
returns-clause-outside c = empty_in_outside
