-- The first faces are told.
use Rattle.std.proofs.Common.{◌≡◌, ◌++◌, take}
use Rattle.std.specs.List.{flat_map}
use Rattle.report.specs.Texts.{face_text}
use Rattle.report.proofs.solid.push_faces.Given as goal

abbrev pub invariant-loop-face : goal.invariant-loop-face
invariant-loop-face l = l.text.items ≡ l.initial.text.items ++ flat_map (face_text l.decimals) (take l.face-index l.faces)
