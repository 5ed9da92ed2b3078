use Rattle.face_laws.proofs.FaceEdges.{edge_under, edge_over, edge_on_left, edge_on_right}
use Rattle.face_laws.proofs.laws.faces_end_at_edges.Goals as goal

pub returns-clause-above : goal.returns-clause-above
returns-clause-above c = edge_under

pub returns-clause-below : goal.returns-clause-below
returns-clause-below c = edge_over

pub returns-clause-right : goal.returns-clause-right
returns-clause-right c = edge_on_left

pub returns-clause-left : goal.returns-clause-left
returns-clause-left c = edge_on_right
