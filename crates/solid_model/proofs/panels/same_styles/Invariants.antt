-- So far the styles are the same exactly where it says so.
use Rattle.std.specs.Prelude.{◌≡◌, ◌↔◌, IsTrue, take}
use Rattle.solid_model.proofs.panels.same_styles.Given as goal

abbrev pub invariant-loop-at : goal.invariant-loop-at
invariant-loop-at l = IsTrue l.same ↔ (take l.at l.styles ≡ take l.at l.others)
