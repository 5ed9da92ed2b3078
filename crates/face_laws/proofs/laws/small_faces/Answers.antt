use Rattle.std.proofs.Common.{refl}
use Rattle.face_laws.proofs.CubeFaces.{cube_faces}
use Rattle.face_laws.proofs.PlateFaces.{pierced_loops_are, twice_pierced_loops_are}
use Rattle.face_laws.proofs.VoidFace.{void_loops_are}
use Rattle.face_laws.proofs.laws.small_faces.Goals as goal

pub returns-clause-cube : goal.returns-clause-cube
returns-clause-cube c = cube_faces

pub returns-clause-order : goal.returns-clause-order
returns-clause-order c = ((refl, (refl, (refl, tt))), ((refl, (refl, tt)), ((refl, tt), (tt, tt))))

pub returns-clause-void : goal.returns-clause-void
returns-clause-void c = void_loops_are

pub returns-clause-hole : goal.returns-clause-hole
returns-clause-hole c = pierced_loops_are

pub returns-clause-holes : goal.returns-clause-holes
returns-clause-holes c = twice_pierced_loops_are
