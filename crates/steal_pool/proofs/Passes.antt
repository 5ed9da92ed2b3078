-- Each step of a pass keeps the rule.
use Rattle.std.proofs.Common.{◌≡◌, ℕ, zero, suc, ◌+◌, ◌-◌, ◌<◌, List, [], ◌∷◌, ◌++◌, length, length-append, set, sym, refl, ap, ◌∙◌, subst, append_assoc, drop, arith}
use mathlib.Core.Option.{some, some-ne-none, some-injective}
use lib.ListN.{get_elem?}
use Rattle.std.proofs.Math.Seq.{drop-append_seam}
use Rattle.crossbeam_deque.specs.Tasks.{Pushes, Takes, Finds, FindsFew, Forks, Merges, Learns}
use Rattle.crossbeam_deque.proofs.Lists.{at_longer}
use Rattle.steal_pool.specs.declared.rule.Account.{Account}
use Rattle.steal_pool.specs.Seats.{Deque, OwnerState}
use Rattle.steal_pool.specs.Accounts.{Piece, account, HoldsTheLast, Balanced, Held, WasFirst, IsSettled}
use Rattle.steal_pool.proofs.Sums.{total_set, idle_set, idle_snoc, elem_le, alone}
use Rattle.lemmas.proofs.Lists.{total-append, total_push}
use Rattle.lemmas.specs.Counts.{total}

-- what the owner put stays, whichever pass changes and keeps what it put
owner_stays : (views : List Account) (port : ℕ) (v w : Account) → get_elem? views port ≡ some v → w.put ≡ v.put → (owner : Account) → get_elem? views 0 ≡ some owner
    → (new : Account) × (get_elem? (set views port w) 0 ≡ some new) × (new.put ≡ owner.put)
owner_stays [] port v w at same owner first = absurd (some-ne-none owner (sym first))
owner_stays (x ∷ xs) zero v w at same owner first = (w, refl, same ∙ ap (λ (y : Account). y.put) (sym (some-injective _ _ at) ∙ some-injective _ _ first))
owner_stays (x ∷ xs) (suc p) v w at same owner first = (owner, first, refl)

order_stays : (items : List Piece) (views : List Account) (port : ℕ) (v w : Account) → get_elem? views port ≡ some v → w.put ≡ v.put
    → HoldsTheLast items views → HoldsTheLast items (set views port w)
order_stays items views port v w at same order = let new = owner_stays views port v w at same order.0 order.2 in (new.0, order.1, new.1, new.2 ∙ order.3)

order_taken : (xs items : List Piece) (views : List Account) → HoldsTheLast (xs ++ items) views → HoldsTheLast items views
order_taken xs items views order = (order.0, order.1 ++ xs, order.2, order.3 ∙ sym (append_assoc order.1 xs items))

order_put : (xs items : List Piece) (views : List Account) (v w : Account) → get_elem? views 0 ≡ some v → w.put ≡ v.put ++ xs
    → HoldsTheLast items views → HoldsTheLast (items ++ xs) (set views 0 w)
order_put xs items [] v w at e order = absurd (some-ne-none v (sym at))
order_put xs items (x ∷ views) v w at e order =
    let same : v.put ≡ order.0.put = ap (λ (y : Account). y.put) (sym (some-injective _ _ at) ∙ some-injective _ _ order.2) in
    (w, order.1, refl, e ∙ ap (λ (ys : List Piece). ys ++ xs) (same ∙ order.3) ∙ append_assoc order.1 items xs)

order_snoc : (items : List Piece) (views : List Account) (w : Account) → HoldsTheLast items views → HoldsTheLast items (views ++ w ∷ [])
order_snoc items views w order = (order.0, order.1, at_longer views (w ∷ []) 0 order.0 order.2, order.3)

pub begins : Balanced [] (account 64 [] [] ∷ [])
begins = record {
  parts = refl;
  sums = λ h. refl;
  idle = λ j u at none. absurd (omega (arith, starts j u at));
  order = (account 64 [] [], [], refl, refl);
}
  where
    starts : (j : ℕ) (u : Account) → get_elem? (account 64 [] [] ∷ []) j ≡ some u → u.parts ≡ 64
    starts zero u at = sym (ap (λ (y : Account). y.parts) (some-injective _ _ at))
    starts (suc j) u at = absurd (some-ne-none u (sym at))

-- the first pass is the owner's
pub puts : (port : ℕ) (v : Account) (xs : List Piece) → port ≡ 0 → 0 < v.parts → Pushes Balanced port v xs (λ w. w ≡ account v.parts (v.put ++ xs) v.taken)
puts port v xs first some_part items views b at = let w : Account = account v.parts (v.put ++ xs) v.taken in (
  w,
  record {
    parts = let s = total_set (λ u. u.parts) views port v w at in let p = b.parts in omega arith;
    sums = λ h.
        let s = total_set (λ u. total h u.put) views port v w at in
        let t = total_set (λ u. total h u.taken) views port v w at in
        let p = b.sums h in
        omega (arith, total-append h v.put xs, total-append h items xs);
    idle = idle_set views port w (λ none. absurd (omega arith)) b.idle;
    order = subst (λ (p : ℕ). HoldsTheLast (items ++ xs) (set views p w)) (sym first)
        (order_put xs items views v w (subst (λ (p : ℕ). get_elem? views p ≡ some v) first at) refl b.order);
  },
  refl,
)

pub takes : (port : ℕ) (v : Account) → 0 < v.parts → Takes Balanced port v 1 (λ xs w. (w ≡ account v.parts v.put (v.taken ++ xs)) × WasFirst xs v)
takes port v some_part xs items views _ _ b at = let w : Account = account v.parts v.put (v.taken ++ xs) in (
  w,
  record {
    parts = let s = total_set (λ u. u.parts) views port v w at in let p = b.parts in omega arith;
    sums = λ h.
        let s = total_set (λ u. total h u.put) views port v w at in
        let t = total_set (λ u. total h u.taken) views port v w at in
        let p = b.sums h in
        omega (arith, total-append h v.taken xs, total-append h xs items);
    idle = idle_set views port w (λ none. absurd (omega arith)) b.idle;
    order = order_stays items views port v w at refl (order_taken xs items views b.order);
  },
  (refl, (items, (port, views, b, at))),
)

pub finds : (port : ℕ) (v : Account) → Finds Balanced port v (Held [] v)
finds port v views b at = (port, views, b, at)

pub finds_few : (port : ℕ) (v : Account) → FindsFew Balanced 0 port v (Held [] v)
finds_few port v [] views few b at = (port, views, b, at)
finds_few port v (x ∷ xs) views few b at = absurd (omega arith)

pub forks : (port : ℕ) (v : Account) → 1 < v.parts → Forks Balanced port v (account (v.parts - 1) v.put v.taken) (account 1 [] [])
forks port v two items views b at =
    let w : Account = account (v.parts - 1) v.put v.taken in
    let new : Account = account 1 [] [] in
    let vs = set views port w in
    record {
      parts = let s = total_set (λ u. u.parts) views port v w at in let t = total_push (λ u. u.parts) vs new in let p = b.parts in omega arith;
      sums = λ h.
          let s = total_set (λ u. total h u.put) views port v w at in
          let t = total_set (λ u. total h u.taken) views port v w at in
          let q = total_push (λ u. total h u.put) vs new in
          let r = total_push (λ u. total h u.taken) vs new in
          let p = b.sums h in
          omega arith;
      idle = idle_snoc vs new (λ none. absurd (omega arith)) (idle_set views port w (λ none. absurd (omega arith)) b.idle);
      order = order_snoc items vs new (order_stays items views port v w at refl b.order);
    }

-- the pass that ends has put nothing
pub merges : (port : ℕ) (v : Account) (other : ℕ) (u : Account) → 0 < v.parts → u.put ≡ []
    → Merges Balanced port v other u (account (v.parts + u.parts) v.put (v.taken ++ u.taken)) (account 0 [] [])
merges port v other u some_part nothing items views b at two at' =
    let w : Account = account (v.parts + u.parts) v.put (v.taken ++ u.taken) in
    let z : Account = account 0 [] [] in
    let vs = set views port w in
    record {
      parts = let s = total_set (λ y. y.parts) views port v w at in let t = total_set (λ y. y.parts) vs other u z at' in let p = b.parts in omega arith;
      sums = λ h.
          let s = total_set (λ y. total h y.put) views port v w at in
          let t = total_set (λ y. total h y.put) vs other u z at' in
          let q = total_set (λ y. total h y.taken) views port v w at in
          let r = total_set (λ y. total h y.taken) vs other u z at' in
          let p = b.sums h in
          omega (arith, ap (total h) nothing, total-append h v.taken u.taken);
      idle = idle_set vs other z (λ none. (refl, refl)) (idle_set views port w (λ none. absurd (omega arith)) b.idle);
      order = order_stays items vs other u z at' (sym nothing) (order_stays items views port v w at refl b.order);
    }

pub learns : (port : ℕ) (v : Account) → v.parts ≡ 64 → Learns Balanced port v (IsSettled v)
learns port v whole items views b at h =
    let p = b.parts in
    let q = b.sums h in
    let put = alone (λ u. total h u.put) views port v at (omega arith) (λ j u there none. ap (total h) (b.idle j u there none).0) in
    let taken = alone (λ u. total h u.taken) views port v at (omega arith) (λ j u there none. ap (total h) (b.idle j u there none).1) in
    omega arith

pub emptied : (v : Account) → v.parts ≡ 64 → Held [] v → IsSettled v []
emptied v whole e = learns e.0 v whole [] e.1 e.2 e.3

-- a pass that has all parts, where there is a piece, is the owner's
owns : (items : List Piece) (views : List Account) (port : ℕ) (v : Account) → v.parts ≡ 64 → Balanced items views → get_elem? views port ≡ some v → 0 < length items
    → (gone : List Piece) × (v.put ≡ gone ++ items)
owns items [] port v whole b at more = absurd (some-ne-none b.order.0 (sym b.order.2))
owns items (x ∷ views) zero v whole b at more = (b.order.1, ap (λ (y : Account). y.put) (sym (some-injective _ _ at) ∙ some-injective _ _ b.order.2) ∙ b.order.3)
owns items (x ∷ views) (suc p) v whole b at more =
    let le = elem_le (λ y. y.parts) views p v at in
    let none : x.parts ≡ 0 = omega (arith, b.parts) in
    let put = ap length (sym (b.idle 0 x refl none).0 ∙ ap (λ (y : Account). y.put) (some-injective _ _ b.order.2) ∙ b.order.3) in
    absurd (omega (arith, put, length-append b.order.1 items))

pub ones : (xs : List Piece) → total (λ _. 1) xs ≡ length xs
ones [] = refl
ones (x ∷ xs) = let e = ones xs in omega arith

pub settled_length : (v : Account) (items : List Piece) → IsSettled v items → length v.put ≡ length v.taken + length items
settled_length v items s = let e = s (λ _. 1) in omega (arith, ones v.put, ones v.taken, ones items)

pub settled_none : (v : Account) (items : List Piece) → length items ≡ 0 → IsSettled v items → IsSettled v []
settled_none v [] none s = s
settled_none v (x ∷ xs) none s = absurd (omega arith)

pub settled_again : (u v : Account) (items : List Piece) → v ≡ u → IsSettled v items → IsSettled u items
settled_again u v items e s = subst (λ (y : Account). IsSettled y items) e s

-- of what was moved so far it is settled that it is all
pub settled_moved : (now : OwnerState) (more : List Piece) → IsSettled (account now.parts now.put (now.taken ++ more)) [] → (h : Piece → ℕ) → total h now.put ≡ total h now.taken + total h more
settled_moved now more s h = let e = s h in omega (arith, total-append h now.taken more)

pub seen : (now : OwnerState) (d : Deque) (r : ℕ) (v : Account) (more : List Piece) → d ≡ now.deque → r ≡ now.capacity → v ≡ account now.parts now.put (now.taken ++ more)
    → ◌≡◌ {A = OwnerState} (record { deque = d; capacity = r; parts = v.parts; put = v.put; taken = v.taken }) (record { deque = now.deque; capacity = now.capacity; parts = now.parts; put = now.put; taken = now.taken ++ more })
seen now d r v more p q e = λ i. record { deque = p i; capacity = q i; parts = (e i).parts; put = (e i).put; taken = (e i).taken }

-- one more fits
pub has_room : (v : Account) (items : List Piece) (taken more : List Piece) → IsSettled v items → 0 < length items → v.taken ≡ taken ++ more → length more < length v.put
has_room v items taken more s more_than_none e = let l = settled_length v items s in let q = ap length e in omega (arith, length-append taken more)

-- where one pass has all parts, it takes what it put in the order in which it put it
pub next_put : (v : Account) (piece : Piece) → v.parts ≡ 64 → WasFirst (piece ∷ []) v → (rest : List Piece) × (drop (length v.taken) v.put ≡ piece ∷ rest)
next_put v piece whole (items, (port, views, b, at)) =
    let held = piece ∷ items in
    let put = owns held views port v whole b at (omega arith) in
    let settled = settled_length v held (learns port v whole held views b at) in
    let gone : length v.taken ≡ length put.0 = (let all = ap length put.1 in omega (arith, settled, all, length-append put.0 held)) in
    (items, (λ i. drop (gone i) (put.1 i)) ∙ drop-append_seam put.0 held)
