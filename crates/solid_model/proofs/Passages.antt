-- Chains of cells that cross no walls.
use Rattle.std.proofs.Common.{inl, inr}
use Rattle.solid_model.specs.declared.cell.Axis.{Axis}
use Rattle.solid_model.specs.declared.cell.Cell.{Cell}
use Rattle.lemmas.specs.Chains.{Reaches}
use Rattle.solid_model.specs.WalledBoxes.{Sizes, Walls, Passes, LeadsOut}
use Rattle.lemmas.proofs.Chains.{reaches-onward, reaches-back}

-- a step leads back
pub passes-back : (wall : Walls) (n m : Cell) → Passes wall n m → Passes wall m n
passes-back wall n m (a, inl h) = (a, inr h)
passes-back wall n m (a, inr h) = (a, inl h)

-- and so does a chain
pub passages-back : (wall : Walls) (n m : Cell) → Reaches (Passes wall) n m → Reaches (Passes wall) m n
passages-back wall = reaches-back (Passes wall) (passes-back wall)

-- from the end of a chain whose beginning leads out, a chain leads out too
pub passages-leads_out : (sizes : Sizes) (wall : Walls) (n m : Cell) → Reaches (Passes wall) n m → LeadsOut sizes wall n → LeadsOut sizes wall m
passages-leads_out sizes wall n m chain (o, onward, out) =
    (o, reaches-onward (Passes wall) m n o (passages-back wall n m chain) onward, out)

-- a step passes where there are fewer walls
pub passes-past_fewer : (v w : Walls) → ((a : Axis) (n : Cell) → w a n → v a n) → (n m : Cell) → Passes v n m → Passes w n m
passes-past_fewer v w fewer n m (a, inl (e, no_wall)) = (a, inl (e, λ h. no_wall (fewer a n h)))
passes-past_fewer v w fewer n m (a, inr (e, no_wall)) = (a, inr (e, λ h. no_wall (fewer a m h)))
