use Rattle.face_laws.proofs.CornersOnGrid.{plane_on_grid, corner_on_grid}
use Rattle.face_laws.proofs.laws.corners_are_grid_points.Goals as goal

pub returns-clause-planes : goal.returns-clause-planes
returns-clause-planes c = plane_on_grid

pub returns-clause-corners : goal.returns-clause-corners
returns-clause-corners c = corner_on_grid
