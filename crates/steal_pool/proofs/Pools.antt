-- The seats of a pool: one more, and one less.
use Rattle.std.proofs.Common.{◌≡◌, ℕ, suc, ◌+◌, ◌-◌, ◌<◌, ◌≤◌, List, [], ◌∷◌, ◌++◌, length, length-append, map, sym, refl, ap, ◌∙◌, append_assoc, arith}
use Rattle.lemmas.specs.Lists.{Each}
use Rattle.lemmas.proofs.Lists.{total-append, total_push}
use Rattle.lemmas.specs.Counts.{total}
use Rattle.steal_pool.specs.Accounts.{Piece}
use Rattle.steal_pool.specs.Seats.{Deque, OwnerState, ThiefState, SeatState, new_thief, opened_thief, new_seat, seats_after, new_seats, as_opened, grown, absorbed_last, without_last, EndsAt, shrunk, AreMet, parted_seats, parted_owner, new_thieves, taken_by, put_by}
use Rattle.steal_pool.proofs.SeatLists.{head_or, tail_of, map-snoc, none_left, without_last-snoc, absorbed_last-snoc}

-- a seat of one deque more
grown_seat : (capacity : ℕ) (x d : Deque) (others : List Deque) → new_seat capacity x (others ++ d ∷ []) ≡ grown d (new_seat capacity x others)
grown_seat capacity x d others =
    let less : 64 - length (others ++ d ∷ []) ≡ (64 - length others) - 1 = omega (arith, length-append others (d ∷ [])) in
    let more = map-snoc new_thief others d in
    λ i. record { owner = record { deque = x; capacity = capacity; parts = less i; put = []; taken = [] }; thieves = more i }

grown_after : (capacity : ℕ) (before after : List Deque) (d : Deque)
    → seats_after capacity before (after ++ d ∷ []) ≡ map (grown d) (seats_after capacity before after) ++ new_seat capacity d (before ++ after) ∷ []
grown_after capacity before [] d = λ i. new_seat capacity d (before ++ []) ∷ []
grown_after capacity before (x ∷ after) d =
    let first = ap (new_seat capacity x) (sym (append_assoc before after (d ∷ []))) ∙ grown_seat capacity x d (before ++ after) in
    let last = ap (new_seat capacity d) (append_assoc before (x ∷ []) after) in
    let rest = grown_after capacity (before ++ x ∷ []) after d ∙ ap (λ s. map (grown d) (seats_after capacity (before ++ x ∷ []) after) ++ s ∷ []) last in
    λ i. first i ∷ rest i

pub grown_pool : (capacity : ℕ) (deques : List Deque) (d : Deque) → new_seats capacity (deques ++ d ∷ []) ≡ map (grown d) (new_seats capacity deques) ++ new_seat capacity d deques ∷ []
grown_pool capacity deques d = grown_after capacity [] deques d

length-after : (capacity : ℕ) (before after : List Deque) → length (seats_after capacity before after) ≡ length after
length-after capacity before [] = refl
length-after capacity before (d ∷ after) = ap suc (length-after capacity (before ++ d ∷ []) after)

pub length-seats : (capacity : ℕ) (deques : List Deque) → length (new_seats capacity deques) ≡ length deques
length-seats capacity deques = length-after capacity [] deques

new_thieves-after : (capacity : ℕ) (before after : List Deque) → new_thieves (seats_after capacity before after) ≡ map new_thief after
new_thieves-after capacity before [] = refl
new_thieves-after capacity before (d ∷ after) = ap (λ ts. new_thief d ∷ ts) (new_thieves-after capacity (before ++ d ∷ []) after)

pub new_thieves-seats : (capacity : ℕ) (deques : List Deque) → new_thieves (new_seats capacity deques) ≡ map new_thief deques
new_thieves-seats capacity deques = new_thieves-after capacity [] deques

parts_after : (capacity n : ℕ) (before after : List Deque) → n ≡ length before + length after → n ≤ 64 → Each (λ (s : SeatState). s.owner.parts + n ≡ 65) (seats_after capacity before after)
parts_after capacity n before [] e few = tt
parts_after capacity n before (d ∷ after) e few =
    (omega (arith, length-append before after), parts_after capacity n (before ++ d ∷ []) after (omega (arith, length-append before (d ∷ []))) few)

pub parts-seats : (capacity : ℕ) (deques : List Deque) → length deques ≤ 64 → Each (λ (s : SeatState). s.owner.parts + length deques ≡ 65) (new_seats capacity deques)
parts-seats capacity deques few = parts_after capacity (length deques) [] deques (omega arith) few

pub each-weaker : {A : Type 0} (P Q : A → Type 0) (xs : List A) → ((x : A) → P x → Q x) → Each P xs → Each Q xs
each-weaker P Q [] f h = tt
each-weaker P Q (x ∷ xs) f h = (f x h.0, each-weaker P Q xs f h.1)

pub snoc-same : {A : Type 0} (xs ys : List A) (x y : A) → xs ++ x ∷ [] ≡ ys ++ y ∷ [] → (xs ≡ ys) × (x ≡ y)
snoc-same [] [] x y e = (refl, ap (head_or x) e)
snoc-same [] (b ∷ ys) x y e = absurd (let l = ap length e in omega (arith, length-append ys (y ∷ [])))
snoc-same (a ∷ xs) [] x y e = absurd (let l = ap length e in omega (arith, length-append xs (x ∷ [])))
snoc-same (a ∷ xs) (b ∷ ys) x y e = let rec = snoc-same xs ys x y (ap tail_of e) in let first : a ≡ b = ap (head_or a) e in ((λ i. first i ∷ rec.0 i), rec.1)

pub snoc-view : {A : Type 0} (xs : List A) → 0 < length xs → (front : List A) × (x : A) × (xs ≡ front ++ x ∷ [])
snoc-view [] less = absurd (omega arith)
snoc-view (x ∷ []) less = ([], x, refl)
snoc-view (x ∷ y ∷ xs) less = let rec = snoc-view (y ∷ xs) (omega arith) in (x ∷ rec.0, rec.1, ap (λ zs. x ∷ zs) rec.2)

ends-from : (d : Deque) (ts ns : List ThiefState) → map opened_thief ts ≡ ns ++ new_thief d ∷ [] → EndsAt d ts
ends-from d [] ns e = absurd (let l = ap length e in omega (arith, length-append ns (new_thief d ∷ [])))
ends-from d (t ∷ ts) [] e = let none = none_left ts (let l = ap length e in omega (arith, length-thieves ts)) in
    ([], t, (λ i. t ∷ none i), ap (λ (x : ThiefState). x.deque) (ap (head_or (new_thief d)) e), ap (λ (x : ThiefState). x.parts) (ap (head_or (new_thief d)) e))
  where
    length-thieves : (ts : List ThiefState) → length (map opened_thief ts) ≡ length ts
    length-thieves [] = refl
    length-thieves (t ∷ ts) = ap suc (length-thieves ts)
ends-from d (t ∷ ts) (n ∷ ns) e = let rec = ends-from d ts ns (ap tail_of e) in (t ∷ rec.0, rec.1, ap (λ zs. t ∷ zs) rec.2, rec.3, rec.4)

pub met-from : (d : Deque) (ss ns : List SeatState) (ts : List ThiefState) → map as_opened ss ≡ map (grown d) ns → map opened_thief ts ≡ new_thieves ns → AreMet d ss ts
met-from d [] [] [] e f = tt
met-from d [] [] (t ∷ ts) e f = absurd (let l = ap length f in omega arith)
met-from d [] (n ∷ ns) ts e f = absurd (let l = ap length e in omega arith)
met-from d (s ∷ ss) [] ts e f = absurd (let l = ap length e in omega arith)
met-from d (s ∷ ss) (n ∷ ns) [] e f = absurd (let l = ap length f in omega arith)
met-from d (s ∷ ss) (n ∷ ns) (t ∷ ts) e f =
    let here : as_opened s ≡ grown d n = ap (head_or (as_opened s)) e in
    let thief : opened_thief t ≡ new_thief n.owner.deque = ap (head_or (opened_thief t)) f in (
      ap (λ (x : ThiefState). x.deque) thief ∙ sym (ap (λ (x : SeatState). x.owner.deque) here),
      ends-from d s.thieves n.thieves (ap (λ (x : SeatState). x.thieves) here),
      met-from d ss ns ts (ap tail_of e) (ap tail_of f),
    )

without_last-map : (ts : List ThiefState) → map opened_thief (without_last ts) ≡ without_last (map opened_thief ts)
without_last-map [] = refl
without_last-map (t ∷ []) = refl
without_last-map (t ∷ u ∷ ts) = ap (λ zs. opened_thief t ∷ zs) (without_last-map (u ∷ ts))

shrunk_seat : (d : Deque) (s n : SeatState) (t : ThiefState) → t.parts ≡ 1 → 0 < n.owner.parts → as_opened s ≡ grown d n → as_opened (shrunk s t) ≡ n
shrunk_seat d s n t one some_part e =
    let o : ◌≡◌ {A = OwnerState} (as_opened s).owner (grown d n).owner = ap (λ (x : SeatState). x.owner) e in
    let parts : s.owner.parts + t.parts ≡ n.owner.parts = let p = ap (λ (x : OwnerState). x.parts) o in omega arith in
    let thieves = without_last-map s.thieves ∙ ap (λ (x : SeatState). without_last x.thieves) e ∙ without_last-snoc n.thieves (new_thief d) in
    λ i. record { owner = record { deque = (o i).deque; capacity = (o i).capacity; parts = parts i; put = (o i).put; taken = (o i).taken }; thieves = thieves i }

pub opened-back : (d : Deque) (ss ns : List SeatState) (ts : List ThiefState) → map as_opened ss ≡ map (grown d) ns → map opened_thief ts ≡ new_thieves ns
    → Each (λ (s : SeatState). 0 < s.owner.parts) ns → map as_opened (parted_seats ss ts) ≡ ns
opened-back d [] [] ts e f parts = refl
opened-back d [] (n ∷ ns) ts e f parts = absurd (let l = ap length e in omega arith)
opened-back d (s ∷ ss) [] ts e f parts = absurd (let l = ap length e in omega arith)
opened-back d (s ∷ ss) (n ∷ ns) [] e f parts = absurd (let l = ap length f in omega arith)
opened-back d (s ∷ ss) (n ∷ ns) (t ∷ ts) e f parts =
    let first = shrunk_seat d s n t (ap (λ (x : ThiefState). x.parts) (ap (head_or (opened_thief t)) f)) parts.0 (ap (head_or (as_opened s)) e) in
    let rest = opened-back d ss ns ts (ap tail_of e) (ap tail_of f) parts.1 in
    λ i. first i ∷ rest i

pub parted-put : (ss : List SeatState) (ts : List ThiefState) → map (λ s. s.owner.put) (parted_seats ss ts) ≡ map (λ s. s.owner.put) ss
parted-put [] ts = refl
parted-put (s ∷ ss) [] = refl
parted-put (s ∷ ss) (t ∷ ts) = ap (λ zs. s.owner.put ∷ zs) (parted-put ss ts)

absorbed_last-put : (o : OwnerState) (ts : List ThiefState) → (absorbed_last o ts).put ≡ o.put
absorbed_last-put o [] = refl
absorbed_last-put o (t ∷ []) = refl
absorbed_last-put o (t ∷ u ∷ ts) = absorbed_last-put o (u ∷ ts)

pub parted_owner-put : (o : OwnerState) (ss : List SeatState) → (parted_owner o ss).put ≡ o.put
parted_owner-put o [] = refl
parted_owner-put o (s ∷ ss) = parted_owner-put (absorbed_last o s.thieves) ss ∙ absorbed_last-put o s.thieves

absorbed_last-parts : (d : Deque) (o : OwnerState) (ts : List ThiefState) → EndsAt d ts → (absorbed_last o ts).parts ≡ o.parts + 1
absorbed_last-parts d o ts ends =
    let e = ap (λ (x : OwnerState). x.parts) (ap (absorbed_last o) ends.2 ∙ absorbed_last-snoc o ends.0 ends.1) in
    omega (arith, e, ends.4)

pub parted_owner-parts : (d : Deque) (o : OwnerState) (ss : List SeatState) (ts : List ThiefState) → AreMet d ss ts → (parted_owner o ss).parts ≡ o.parts + length ss
parted_owner-parts d o [] ts met = omega arith
parted_owner-parts d o (s ∷ ss) [] met = absurd met
parted_owner-parts d o (s ∷ ss) (t ∷ ts) met =
    let ends = met.1 in
    let one = absorbed_last-parts d o s.thieves ends in
    let rest = parted_owner-parts d (absorbed_last o s.thieves) ss ts met.2 in
    omega arith

last_weights : (h : Piece → ℕ) (o : OwnerState) (ts : List ThiefState)
    → total h (absorbed_last o ts).taken + total (λ (t : ThiefState). total h t.taken) (without_last ts) ≡ total h o.taken + total (λ (t : ThiefState). total h t.taken) ts
last_weights h o [] = refl
last_weights h o (t ∷ []) = omega (arith, total-append h o.taken t.taken)
last_weights h o (t ∷ u ∷ ts) = let e = last_weights h o (u ∷ ts) in omega arith

pub parted_weights : (h : Piece → ℕ) (d : Deque) (o : OwnerState) (ss : List SeatState) (ts : List ThiefState) → AreMet d ss ts
    → total (taken_by h) (parted_seats ss ts) + total h (parted_owner o ss).taken ≡ (total (taken_by h) ss + total h o.taken) + total (λ (t : ThiefState). total h t.taken) ts
parted_weights h d o [] [] met = omega arith
parted_weights h d o [] (t ∷ ts) met = absurd met
parted_weights h d o (s ∷ ss) [] met = absurd met
parted_weights h d o (s ∷ ss) (t ∷ ts) met =
    let one = last_weights h o s.thieves in
    let rest = parted_weights h d (absorbed_last o s.thieves) ss ts met.2 in
    omega (arith, total-append h s.owner.taken t.taken)

total-map : {A B : Type 0} (f : B → ℕ) (g : A → B) (xs : List A) → total f (map g xs) ≡ total (λ x. f (g x)) xs
total-map f g [] = refl
total-map f g (x ∷ xs) = let e = total-map f g xs in omega arith

pub parted-put_by : (f : List Piece → ℕ) (ss : List SeatState) (ts : List ThiefState) → total (λ (s : SeatState). f s.owner.put) (parted_seats ss ts) ≡ total (λ (s : SeatState). f s.owner.put) ss
parted-put_by f ss ts = sym (total-map f (λ (s : SeatState). s.owner.put) (parted_seats ss ts)) ∙ ap (total f) (parted-put ss ts) ∙ total-map f (λ (s : SeatState). s.owner.put) ss

-- what is known of the last seat, and of the ones before it
pub record IsLast (capacity : ℕ) (ss : List SeatState) (s : SeatState) : Type 0 where
  pub front : List Deque
  pub few : length front < 64
  pub before : map as_opened ss ≡ map (grown s.owner.deque) (new_seats capacity front)
  pub thieves : map opened_thief s.thieves ≡ new_thieves (new_seats capacity front)
  pub parts : s.owner.parts + length ss ≡ 64

pub last_seat : (capacity : ℕ) (deques : List Deque) (ss : List SeatState) (s : SeatState) → length deques ≤ 64 → map as_opened (ss ++ s ∷ []) ≡ new_seats capacity deques → IsLast capacity ss s
last_seat capacity deques ss s few e =
    let l : length ss + 1 ≡ length deques = (let q = ap length e in omega (arith, length-opened ss, length-opened (ss ++ s ∷ []), length-append ss (s ∷ []), length-seats capacity deques)) in
    let v = snoc-view deques (omega arith) in
    let front = v.0 in
    let d = v.1 in
    let both = snoc-same (map as_opened ss) (map (grown d) (new_seats capacity front)) (as_opened s) (new_seat capacity d front)
    (sym (map-snoc as_opened ss s) ∙ e ∙ ap (new_seats capacity) v.2 ∙ grown_pool capacity front d) in
    let same : d ≡ s.owner.deque = sym (ap (λ (x : SeatState). x.owner.deque) both.1) in
    let parts : s.owner.parts ≡ 64 - length front = ap (λ (x : SeatState). x.owner.parts) both.1 in
    let count = ap length v.2 in
    record {
      front = front;
      few = omega (arith, length-append front (d ∷ []));
      before = both.0 ∙ ap (λ x. map (grown x) (new_seats capacity front)) same;
      thieves = ap (λ (x : SeatState). x.thieves) both.1 ∙ sym (new_thieves-seats capacity front);
      parts = omega (arith, length-append front (d ∷ []));
    }
  where
    length-opened : (ss : List SeatState) → length (map as_opened ss) ≡ length ss
    length-opened [] = refl
    length-opened (s ∷ ss) = ap suc (length-opened ss)

pub last_met : (capacity : ℕ) (ss : List SeatState) (s : SeatState) → IsLast capacity ss s → AreMet s.owner.deque ss s.thieves
last_met capacity ss s is = met-from s.owner.deque ss (new_seats capacity is.front) s.thieves is.before is.thieves

pub last_parted : (capacity : ℕ) (ss : List SeatState) (s : SeatState) (is : IsLast capacity ss s) → map as_opened (parted_seats ss s.thieves) ≡ new_seats capacity is.front
last_parted capacity ss s is = opened-back s.owner.deque ss (new_seats capacity is.front) s.thieves is.before is.thieves
    (each-weaker (λ (x : SeatState). x.owner.parts + length is.front ≡ 65) (λ (x : SeatState). 0 < x.owner.parts) (new_seats capacity is.front) (λ x p. let few = is.few in omega arith) (parts-seats capacity is.front (let few = is.few in omega arith)))

-- the sums, once the last seat has gone
pub last_weights_out : (h : Piece → ℕ) (ss : List SeatState) (s : SeatState) (more left begun : List Piece) (put taken : ℕ) → AreMet s.owner.deque ss s.thieves
    → total h s.owner.put ≡ total h (parted_owner s.owner ss).taken + total h more
    → (put + total (taken_by h) (ss ++ s ∷ [])) + total h begun ≡ (taken + total (put_by h) (ss ++ s ∷ [])) + total h left
    → (put + total (taken_by h) (parted_seats ss s.thieves)) + total h begun ≡ (taken + total (put_by h) (parted_seats ss s.thieves)) + total h (left ++ more)
last_weights_out h ss s more left begun put taken met drained e =
    let w = parted_weights h s.owner.deque s.owner ss s.thieves met in
    let p = parted-put_by (total h) ss s.thieves in
    omega (arith, total_push (taken_by h) ss s, total_push (put_by h) ss s, total-append h left more)

pub added : (capacity n : ℕ) (deques : List Deque) (o : OwnerState) (d : Deque) (ss : List SeatState) (new : OwnerState) (thieves : List ThiefState)
    → ss ≡ new_seats capacity deques → (o.capacity ≡ capacity) × (o.parts ≡ 64) × (o.put ≡ []) × (o.taken ≡ []) → n ≡ length deques
    → ◌≡◌ {A = OwnerState} new (record { deque = o.deque; capacity = o.capacity; parts = o.parts - n; put = o.put; taken = o.taken })
    → thieves ≡ new_thieves ss → d ≡ o.deque
    → map (grown o.deque) ss ++ record { owner = new; thieves = thieves } ∷ [] ≡ new_seats capacity (deques ++ d ∷ [])
added capacity n deques o d ss new thieves e begun count is known same =
    let parts : new.parts ≡ 64 - length deques = (let p = ap (λ (x : OwnerState). x.parts) is in let q = begun.1 in omega arith) in
    let all = known ∙ ap new_thieves e ∙ new_thieves-seats capacity deques in
    let last : ◌≡◌ {A = SeatState} (record { owner = new; thieves = thieves }) (new_seat capacity o.deque deques) =
    λ i. record { owner = record { deque = (is i).deque; capacity = (ap (λ (x : OwnerState). x.capacity) is ∙ begun.0) i; parts = parts i; put = (ap (λ (x : OwnerState). x.put) is ∙ begun.2) i; taken = (ap (λ (x : OwnerState). x.taken) is ∙ begun.3) i }; thieves = all i } in
    (λ i. map (grown o.deque) (e i) ++ last i ∷ []) ∙ sym (grown_pool capacity deques o.deque) ∙ ap (λ x. new_seats capacity (deques ++ x ∷ [])) (sym same)

opened_thieves : (others : List Deque) → map opened_thief (map new_thief others) ≡ map new_thief others
opened_thieves [] = refl
opened_thieves (d ∷ ds) = ap (λ ts. new_thief d ∷ ts) (opened_thieves ds)

opened_after : (capacity : ℕ) (before after : List Deque) → map as_opened (seats_after capacity before after) ≡ seats_after capacity before after
opened_after capacity before [] = refl
opened_after capacity before (d ∷ after) = let thieves = opened_thieves (before ++ after) in let rest = opened_after capacity (before ++ d ∷ []) after in
    λ i. record { owner = (new_seat capacity d (before ++ after)).owner; thieves = thieves i } ∷ rest i

pub opened_seats : (capacity : ℕ) (deques : List Deque) → map as_opened (new_seats capacity deques) ≡ new_seats capacity deques
opened_seats capacity deques = opened_after capacity [] deques
