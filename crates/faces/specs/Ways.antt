-- Ways to go in a plane, as headings.
use Rattle.std.specs.Prelude.{ℕ, zero, suc}
use Rattle.faces.specs.declared.way.Way.{Way}
use Rattle.faces.specs.declared.way.Way.TheVariants.{Right, Up, Left, Down}
use Rattle.solid_model.specs.Rounds.{Heading, East, North, West, South}

-- the heading of whoever goes so
abbrev pub heading_of : Way → Heading
heading_of Right = East
heading_of Up = North
heading_of Left = West
heading_of Down = South

-- the headings are numbered
abbrev pub heading_number : Heading → ℕ
heading_number East = 0
heading_number North = 1
heading_number West = 2
heading_number South = 3

-- the heading with a number
abbrev pub heading_at : ℕ → Heading
heading_at zero = East
heading_at (suc zero) = North
heading_at (suc (suc zero)) = West
heading_at (suc (suc (suc k))) = South
