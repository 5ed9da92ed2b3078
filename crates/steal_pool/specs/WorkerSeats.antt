-- What a clause sees of a worker's seat.
use Rattle.steal_pool.specs.declared.seat.WorkerSeat.{WorkerSeat}
use Rattle.steal_pool.specs.Seats.{SeatState, as_opened}

abbrev pub state_of : WorkerSeat → SeatState
state_of s = record { owner = s.owner; thieves = s.thieves.items }

-- which seat of which pool it is, whatever it has put, taken and stolen
abbrev pub seat_of : WorkerSeat → SeatState
seat_of s = as_opened (state_of s)
