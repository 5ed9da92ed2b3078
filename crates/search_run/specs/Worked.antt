-- What a worker does at its seats.
use Rattle.std.specs.Prelude.{◌≡◌, List, [], ◌∷◌, ◌++◌}
use Rattle.steal_pool.specs.Accounts.{Piece}
use Rattle.steal_pool.specs.Seats.{ThiefState, SeatState, opened_owner, opened_thief}

-- some were added
abbrev pub Adds : List Piece → List Piece → Type 0
Adds before after = (more : List Piece) × (after ≡ before ++ more)

-- each steals from the same deque, and what it stole was added
abbrev pub StealsOn : List ThiefState → List ThiefState → Type 0
StealsOn [] [] = Unit {0}
StealsOn [] (u ∷ us) = ⊥
StealsOn (t ∷ ts) [] = ⊥
StealsOn (t ∷ ts) (u ∷ us) = (opened_thief u ≡ opened_thief t) × Adds t.taken u.taken × StealsOn ts us

-- it is the same seat, and what was put, taken and stolen was added
pub record HasWorked (before after : SeatState) : Type 0 where
  pub owner : opened_owner after.owner ≡ opened_owner before.owner
  pub put : Adds before.owner.put after.owner.put
  pub taken : Adds before.owner.taken after.owner.taken
  pub stolen : StealsOn before.thieves after.thieves

-- wherever the seat had been at work before, it still is the same, and more was added
abbrev pub WorksOn : SeatState → SeatState → Type 0
WorksOn before after = (first : SeatState) → HasWorked first before → HasWorked first after
