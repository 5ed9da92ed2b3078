-- Lists of seats, seat by seat.
use Rattle.std.proofs.Common.{◌≡◌, ℕ, zero, suc, ◌-◌, ◌<◌, List, [], ◌∷◌, ◌++◌, length, length-append, map, get_or, set, sym, refl, ap, ◌∙◌, subst, append_assoc, arith}
use Rattle.lemmas.specs.Lists.{Each}
use Rattle.steal_pool.specs.Seats.{Deque, OwnerState, ThiefState, SeatState, absorbed, absorbed_last, without_last, EndsAt, shrunk, AreMet, parted_seats}

abbrev pub head_or : {A : Type 0} → A → List A → A
head_or d [] = d
head_or d (x ∷ xs) = x

abbrev pub tail_of : {A : Type 0} → List A → List A
tail_of [] = []
tail_of (x ∷ xs) = xs

-- a list that is looked at from the place i on, and changed there
pub at_seam : {A B : Type 0} (f : A → B) (xs : List A) (ys zs : List B) (i : ℕ) (d : A) → map f xs ≡ ys ++ zs → length ys ≡ i → i < length xs
    → (rest : List B) × (zs ≡ f (get_or xs i d) ∷ rest) × ((y : A) → map f (set xs i y) ≡ (ys ++ f y ∷ []) ++ rest)
at_seam f [] ys zs i d e l less = absurd (omega arith)
at_seam f (x ∷ xs) [] zs zero d e l less = (map f xs, sym e, λ y. refl)
at_seam f (x ∷ xs) [] zs (suc i) d e l less = absurd (omega arith)
at_seam f (x ∷ xs) (b ∷ ys) zs zero d e l less = absurd (omega arith)
at_seam f (x ∷ xs) (b ∷ ys) zs (suc i) d e l less =
    let rec = at_seam f xs ys zs i d (ap tail_of e) (omega arith) (omega arith) in
    let first : f x ≡ b = ap (head_or b) e in
    (rec.0, rec.1, λ y t. first t ∷ rec.2 y t)

pub each-middle : {A : Type 0} (P : A → Type 0) (xs : List A) (y : A) (zs : List A) → Each P (xs ++ y ∷ zs) → P y
each-middle P [] y zs h = h.0
each-middle P (x ∷ xs) y zs h = each-middle P xs y zs h.1

pub map-snoc : {A B : Type 0} (f : A → B) (xs : List A) (y : A) → map f (xs ++ y ∷ []) ≡ map f xs ++ f y ∷ []
map-snoc f [] y = refl
map-snoc f (x ∷ xs) y = ap (λ zs. f x ∷ zs) (map-snoc f xs y)

pub none_left : {A : Type 0} (xs : List A) → length xs ≡ 0 → xs ≡ []
none_left [] e = refl
none_left (x ∷ xs) e = absurd (omega arith)

pub without_last-snoc : (ts : List ThiefState) (t : ThiefState) → without_last (ts ++ t ∷ []) ≡ ts
without_last-snoc [] t = refl
without_last-snoc (u ∷ []) t = refl
without_last-snoc (u ∷ v ∷ ts) t = ap (λ ys. u ∷ ys) (without_last-snoc (v ∷ ts) t)

pub absorbed_last-snoc : (o : OwnerState) (ts : List ThiefState) (t : ThiefState) → absorbed_last o (ts ++ t ∷ []) ≡ absorbed o t
absorbed_last-snoc o [] t = refl
absorbed_last-snoc o (u ∷ []) t = refl
absorbed_last-snoc o (u ∷ v ∷ ts) t = absorbed_last-snoc o (v ∷ ts) t

pub absorbed_last-deque : (o : OwnerState) (ts : List ThiefState) → (absorbed_last o ts).deque ≡ o.deque
absorbed_last-deque o [] = refl
absorbed_last-deque o (t ∷ []) = refl
absorbed_last-deque o (t ∷ u ∷ ts) = absorbed_last-deque o (u ∷ ts)

pub met_next : (d : Deque) (rest : List SeatState) (s : SeatState) (more : List SeatState) (left : List ThiefState) (t : ThiefState) (others : List ThiefState)
    → rest ≡ s ∷ more → left ≡ t ∷ others → AreMet d rest left → (t.deque ≡ s.owner.deque) × EndsAt d s.thieves × AreMet d more others
met_next d rest s more left t others e f met = subst (λ ts. AreMet d (s ∷ more) ts) f (subst (λ ss. AreMet d ss left) e met)

pub never_met : (d : Deque) (rest : List SeatState) (s : SeatState) (more : List SeatState) (left : List ThiefState)
    → rest ≡ s ∷ more → length left ≡ 0 → AreMet d rest left → ⊥
never_met d rest s more [] e f met = subst (λ ss. AreMet d ss []) e met
never_met d rest s more (t ∷ ts) e f met = omega arith

pub seats_next : (first rest : List SeatState) (s : SeatState) (more : List SeatState) (left : List ThiefState) (t : ThiefState) (others : List ThiefState) (all : List SeatState)
    → rest ≡ s ∷ more → left ≡ t ∷ others → all ≡ first ++ parted_seats rest left → all ≡ (first ++ shrunk s t ∷ []) ++ parted_seats more others
seats_next first rest s more left t others all e f h = h ∙ (λ i. first ++ parted_seats (e i) (f i)) ∙ sym (append_assoc first (shrunk s t ∷ []) (parted_seats more others))

pub seats_end : (first rest : List SeatState) (left : List ThiefState) (now : List SeatState) (n : ℕ) → now ≡ first ++ rest → length first ≡ n → length now ≡ n → rest ≡ []
seats_end first rest left now n e l m = none_left rest (let q = ap length e in omega (arith, length-append first rest))

pub owner_next : (o now new : OwnerState) (first : List SeatState) (s : SeatState)
    → ◌≡◌ {A = OwnerState} now (record { deque = o.deque; capacity = o.capacity; parts = o.parts - length first; put = o.put; taken = o.taken })
    → ◌≡◌ {A = OwnerState} new (record { deque = now.deque; capacity = now.capacity; parts = now.parts - 1; put = now.put; taken = now.taken })
    → ◌≡◌ {A = OwnerState} new (record { deque = o.deque; capacity = o.capacity; parts = o.parts - length (first ++ s ∷ []); put = o.put; taken = o.taken })
owner_next o now new first s e f =
    let one_less : (o.parts - length first) - 1 ≡ o.parts - length (first ++ s ∷ []) = omega (arith, length-append first (s ∷ [])) in
    f ∙ (λ i. record { deque = (e i).deque; capacity = (e i).capacity; parts = (e i).parts - 1; put = (e i).put; taken = (e i).taken })
    ∙ (λ i. record { deque = o.deque; capacity = o.capacity; parts = one_less i; put = o.put; taken = o.taken })
