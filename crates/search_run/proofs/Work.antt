-- Work adds up.
use Rattle.std.proofs.Common.{◌≡◌, ◌<◌, ◌≤◌, ℕ, zero, suc, List, [], ◌∷◌, ◌++◌, length, get_or, set, Option, Some, None, Result, Ok, Err, MatchOption, MatchResult, refl, sym, ◌∙◌, ap, subst, append-nil, append_assoc, arith}
use Rattle.steal_pool.specs.Accounts.{Piece, Held, WasFirst}
use Rattle.steal_pool.specs.Seats.{OwnerState, ThiefState, SeatState, owner_account, thief_account, opened_owner, opened_thief}
use Rattle.search_run.specs.Worked.{Adds, StealsOn, HasWorked, WorksOn}

adds_none : (xs : List Piece) → Adds xs xs
adds_none xs = ([], sym (append-nil xs))

adds_on : (xs ys zs : List Piece) → Adds xs ys → Adds ys zs → Adds xs zs
adds_on xs ys zs (more, e) (rest, f) = (more ++ rest, f ∙ ap (λ l. l ++ rest) e ∙ append_assoc xs more rest)

pub steals_none : (ts : List ThiefState) → StealsOn ts ts
steals_none [] = tt
steals_none (t ∷ ts) = (refl, adds_none t.taken, steals_none ts)

steals_on : (ts us vs : List ThiefState) → StealsOn ts us → StealsOn us vs → StealsOn ts vs
steals_on [] [] [] h k = tt
steals_on [] [] (v ∷ vs) h k = absurd k
steals_on [] (u ∷ us) vs h k = absurd h
steals_on (t ∷ ts) [] vs h k = absurd h
steals_on (t ∷ ts) (u ∷ us) [] h k = absurd k
steals_on (t ∷ ts) (u ∷ us) (v ∷ vs) (e, a, h) (f, b, k) = (f ∙ e, adds_on t.taken u.taken v.taken a b, steals_on ts us vs h k)

pub steals_long : (ts us : List ThiefState) → StealsOn ts us → length us ≡ length ts
steals_long [] [] h = refl
steals_long [] (u ∷ us) h = absurd h
steals_long (t ∷ ts) [] h = absurd h
steals_long (t ∷ ts) (u ∷ us) h = ap suc (steals_long ts us h.2)

-- one of them steals
steals_at : (ts us : List ThiefState) (i : ℕ) (d v : ThiefState) → StealsOn ts us → i < length us → opened_thief v ≡ opened_thief (get_or us i d)
    → Adds (get_or us i d).taken v.taken → StealsOn ts (set us i v)
steals_at [] [] i d v h l e a = absurd (omega (arith, l))
steals_at [] (u ∷ us) i d v h l e a = absurd h
steals_at (t ∷ ts) [] i d v h l e a = absurd h
steals_at (t ∷ ts) (u ∷ us) zero d v (f, b, h) l e a = (e ∙ f, adds_on t.taken u.taken v.taken b a, h)
steals_at (t ∷ ts) (u ∷ us) (suc i) d v (f, b, h) l e a = (f, b, steals_at ts us i d v h (omega (arith, l)) e a)

-- what a thief's call answers
abbrev pub Stole : ThiefState → ThiefState → Option Piece → Type 0
Stole t u r = MatchOption r ((u ≡ t) × Held [] (thief_account t))
    (λ piece. (u ≡ record { deque = t.deque; parts = t.parts; taken = t.taken ++ piece ∷ [] }) × WasFirst (piece ∷ []) (thief_account t))

adds_stolen : (t u : ThiefState) (r : Option Piece) → Stole t u r → Adds t.taken u.taken
adds_stolen t u None h = subst (λ (v : ThiefState). Adds t.taken v.taken) (sym h.0) (adds_none t.taken)
adds_stolen t u (Some piece) h = (piece ∷ [], ap (λ (v : ThiefState). v.taken) h.0)

pub stole_at : (ts us : List ThiefState) (i : ℕ) (d v : ThiefState) (r : Option Piece) → StealsOn ts us → i < length us → opened_thief v ≡ opened_thief (get_or us i d)
    → Stole (get_or us i d) v r → StealsOn ts (set us i v)
stole_at ts us i d v r h l e s = steals_at ts us i d v h l e (adds_stolen (get_or us i d) v r s)

-- nothing was done
pub worked_none : (s : SeatState) → HasWorked s s
worked_none s = record { owner = refl; put = adds_none s.owner.put; taken = adds_none s.owner.taken; stolen = steals_none s.thieves }

-- and then more
worked_on : (r s t : SeatState) → HasWorked r s → HasWorked s t → HasWorked r t
worked_on r s t h k = record {
  owner = k.owner ∙ h.owner;
  put = adds_on r.owner.put s.owner.put t.owner.put h.put k.put;
  taken = adds_on r.owner.taken s.owner.taken t.owner.taken h.taken k.taken;
  stolen = steals_on r.thieves s.thieves t.thieves h.stolen k.stolen;
}

pub works_by : (s t : SeatState) → HasWorked s t → WorksOn s t
works_by s t k first h = worked_on first s t h k

-- what an owner's calls answer
abbrev pub Took : OwnerState → OwnerState → Option Piece → Type 0
Took o n r = MatchOption r ((n ≡ o) × Held [] (owner_account o))
    (λ piece. (n ≡ record { deque = o.deque; capacity = o.capacity; parts = o.parts; put = o.put; taken = o.taken ++ piece ∷ [] }) × WasFirst (piece ∷ []) (owner_account o))

abbrev pub Gave : {A : Type 0} → OwnerState → OwnerState → Piece → Result A Piece → Type 0
Gave o n piece r = MatchResult r (λ _. n ≡ record { deque = o.deque; capacity = o.capacity; parts = o.parts; put = o.put ++ piece ∷ []; taken = o.taken })
    (λ back. (back ≡ piece) × (n ≡ o) × (o.capacity ≤ length o.put))

module _ (o n : OwnerState) (ts : List ThiefState) where
  abbrev before : SeatState
  before = record { owner = o; thieves = ts }

  abbrev after : SeatState
  after = record { owner = n; thieves = ts }

  same : n ≡ o → HasWorked before after
  same e = subst (λ (m : OwnerState). HasWorked before (record { owner = m; thieves = ts })) (sym e) (worked_none before)

  took_one : (r : Option Piece) → Took o n r → HasWorked before after
  took_one None h = same h.0
  took_one (Some piece) h = record {
    owner = ap opened_owner h.0;
    put = ([], ap (λ (m : OwnerState). m.put) h.0 ∙ sym (append-nil o.put));
    taken = (piece ∷ [], ap (λ (m : OwnerState). m.taken) h.0);
    stolen = steals_none ts;
  }

  gave_one : {A : Type 0} (piece : Piece) (r : Result A Piece) → Gave o n piece r → HasWorked before after
  gave_one piece (Ok _) h = record {
    owner = ap opened_owner h;
    put = (piece ∷ [], ap (λ (m : OwnerState). m.put) h);
    taken = ([], ap (λ (m : OwnerState). m.taken) h ∙ sym (append-nil o.taken));
    stolen = steals_none ts;
  }
  gave_one piece (Err back) h = same h.1

  pub took : (r : Option Piece) → Took o n r → WorksOn before after
  took r h = works_by before after (took_one r h)

  pub gave : {A : Type 0} (piece : Piece) (r : Result A Piece) → Gave o n piece r → WorksOn before after
  gave piece r h = works_by before after (gave_one piece r h)

-- some of the others' pieces were stolen
pub stole : (o : OwnerState) (ts us : List ThiefState) → StealsOn ts us → WorksOn (record { owner = o; thieves = ts }) (record { owner = o; thieves = us })
stole o ts us h = works_by (record { owner = o; thieves = ts }) (record { owner = o; thieves = us })
    (record { owner = refl; put = adds_none o.put; taken = adds_none o.taken; stolen = h })
