-- What a clause says of the seats of a pool.
use Rattle.std.specs.Prelude.{◌≡◌, ◌+◌, ◌-◌, ℕ, List, [], ◌∷◌, ◌++◌, length, map}
use Rattle.std.specs.declared.alloc.Global.{Global}
use Rattle.steal_pool.specs.declared.rule.Account.{Account}
use Rattle.steal_pool.specs.Accounts.{Piece, account}
use Rattle.lemmas.specs.Counts.{total, times_among}

-- which deque it is
abbrev pub Deque : Type 0
Deque = (ℕ × ℕ) × Global

-- the seat that owns a deque: how many first puts are sure, its parts, and what it put and took, in order
pub record OwnerState : Type 0 where
  pub deque : Deque
  pub capacity : ℕ
  pub parts : ℕ
  pub put : List Piece
  pub taken : List Piece

-- a seat that steals from a deque: its parts, and what it stole, in order
pub record ThiefState : Type 0 where
  pub deque : Deque
  pub parts : ℕ
  pub taken : List Piece

abbrev pub owner_account : OwnerState → Account
owner_account s = account s.parts s.put s.taken

abbrev pub thief_account : ThiefState → Account
thief_account s = account s.parts [] s.taken

pub record SeatState : Type 0 where
  pub owner : OwnerState
  pub thieves : List ThiefState

-- the seats as a pool is opened

abbrev pub new_thief : Deque → ThiefState
new_thief d = record { deque = d; parts = 1; taken = [] }

-- the seat that owns the deque d, and steals from each of the others
abbrev pub new_seat : ℕ → Deque → List Deque → SeatState
new_seat capacity d others = record {
  owner = record { deque = d; capacity = capacity; parts = 64 - length others; put = []; taken = [] };
  thieves = map new_thief others;
}

-- a seat for each deque of the second list, where the deques of the first come before them
abbrev pub seats_after : ℕ → List Deque → List Deque → List SeatState
seats_after capacity before [] = []
seats_after capacity before (d ∷ after) = new_seat capacity d (before ++ after) ∷ seats_after capacity (before ++ d ∷ []) after

-- seat k owns deque k, and steals from each other deque, in the order of the deques; nothing was put or taken
abbrev pub new_seats : ℕ → List Deque → List SeatState
new_seats capacity deques = seats_after capacity [] deques

-- which seat it is, whatever was put and taken: the seat as it was when the pool was opened

abbrev pub opened_owner : OwnerState → OwnerState
opened_owner s = record { deque = s.deque; capacity = s.capacity; parts = s.parts; put = []; taken = [] }

abbrev pub opened_thief : ThiefState → ThiefState
opened_thief t = record { deque = t.deque; parts = t.parts; taken = [] }

abbrev pub as_opened : SeatState → SeatState
as_opened s = record { owner = opened_owner s.owner; thieves = map opened_thief s.thieves }

-- what all seats put, took and stole

abbrev pub put_by : (Piece → ℕ) → SeatState → ℕ
put_by h s = total h s.owner.put

abbrev pub taken_by : (Piece → ℕ) → SeatState → ℕ
taken_by h s = total h s.owner.taken + total (λ t. total h t.taken) s.thieves

-- how often a piece was put, over all seats
abbrev pub times_put : Piece → List SeatState → ℕ
times_put piece seats = total (λ s. times_among piece s.owner.put) seats

-- how often it was taken or stolen, over all seats
abbrev pub times_taken : Piece → List SeatState → ℕ
times_taken piece seats = total (λ s. times_among piece s.owner.taken + total (λ t. times_among piece t.taken) s.thieves) seats

-- seats that meet a newcomer

-- the seat has one more that steals from it, and one at the newcomer's deque d
abbrev pub grown : Deque → SeatState → SeatState
grown d s = record {
  owner = record { deque = s.owner.deque; capacity = s.owner.capacity; parts = s.owner.parts - 1; put = s.owner.put; taken = s.owner.taken };
  thieves = s.thieves ++ new_thief d ∷ [];
}

-- the newcomer steals from each seat
abbrev pub new_thieves : List SeatState → List ThiefState
new_thieves seats = map (λ s. new_thief s.owner.deque) seats

-- seats that leave the last one

-- an owner takes in one that stole from it
abbrev pub absorbed : OwnerState → ThiefState → OwnerState
absorbed o t = record { deque = o.deque; capacity = o.capacity; parts = o.parts + t.parts; put = o.put; taken = o.taken ++ t.taken }

abbrev pub absorbed_last : OwnerState → List ThiefState → OwnerState
absorbed_last o [] = o
absorbed_last o (t ∷ []) = absorbed o t
absorbed_last o (t ∷ u ∷ ts) = absorbed_last o (u ∷ ts)

abbrev pub without_last : List ThiefState → List ThiefState
without_last [] = []
without_last (t ∷ []) = []
without_last (t ∷ u ∷ ts) = t ∷ without_last (u ∷ ts)

-- the last one of the list steals from the deque d
abbrev pub EndsAt : Deque → List ThiefState → Type 0
EndsAt d ts = (front : List ThiefState) × (t : ThiefState) × (ts ≡ front ++ t ∷ []) × (t.deque ≡ d) × (t.parts ≡ 1)

-- the seat takes in one that stole from it, and loses its last thief
abbrev pub shrunk : SeatState → ThiefState → SeatState
shrunk s t = record { owner = absorbed s.owner t; thieves = without_last s.thieves }

-- each seat's last thief steals from the deque d, and the k-th thief of the list from the k-th seat
abbrev pub AreMet : Deque → List SeatState → List ThiefState → Type 0
AreMet d [] [] = Unit {0}
AreMet d [] (t ∷ ts) = ⊥
AreMet d (s ∷ ss) [] = ⊥
AreMet d (s ∷ ss) (t ∷ ts) = (t.deque ≡ s.owner.deque) × EndsAt d s.thieves × AreMet d ss ts

-- the seats, once the last one's thieves and their own at its deque have come back
abbrev pub parted_seats : List SeatState → List ThiefState → List SeatState
parted_seats [] ts = []
parted_seats (s ∷ ss) [] = s ∷ ss
parted_seats (s ∷ ss) (t ∷ ts) = shrunk s t ∷ parted_seats ss ts

-- and the owner of the last one's deque
abbrev pub parted_owner : OwnerState → List SeatState → OwnerState
parted_owner o [] = o
parted_owner o (s ∷ ss) = parted_owner (absorbed_last o s.thieves) ss
