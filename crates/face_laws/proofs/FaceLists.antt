-- A solid has one list of faces.
use Rattle.std.proofs.Common.{◌≡◌, ◌⊎◌, inl, inr, Bool, ◌&&◌, ◌||◌, nat_eq, nat_lt, ℕ, ◌<◌, List, [], ◌∷◌, ℤ, ◌<ℤ◌, int_lt, Decides, subst, arith}
use Rattle.std.specs.Ordering.{int_eq}
use Rattle.std.proofs.lemmas.Bool.{false≢true}
use Rattle.std.proofs.lemmas.Bool.Decides.{Decides-int_eq, Decides-and, Decides-or, Decides-ltb, Decides-eqb}
use Rattle.std.proofs.lemmas.Int.{ints}
use Rattle.solid_model.specs.declared.cell.Cell.{Cell}
use Rattle.solid_model.specs.declared.face.Out.{Out}
use Rattle.solid_model.specs.Faces.{is_boundary, place, IsLoopOf, starts_before, StartsBefore, AreLoopsOf, FaceParts, IsFaceAt, out_number, first_loop, is_face_before, FaceBefore, AreFacesOf}
use Rattle.lemmas.specs.Lists.{Member}
use Rattle.solid_model.specs.Rounds.{Spot}
use Rattle.solid_model.proofs.CellOrder.{before_one_way, Decides-int_lt}
use Rattle.lemmas.proofs.Lists.{IsWithin, each-at, same_ascending}

-- ---- loops

-- of two loops no more than one starts before the other
starts_one_way : (l m : List Cell) → StartsBefore l m → StartsBefore m l → ⊥
starts_one_way [] m h k = absurd (false≢true h)
starts_one_way (c ∷ cs) [] h k = absurd (false≢true h)
starts_one_way (c ∷ cs) (d ∷ ds) h k = before_one_way c d h k

module _ (squares : Spot → Bool) (there : Spot → Cell) (q : Spot) where
  -- each loop of one list is in the other
  loops_within : (ls ms : List (List Cell)) → AreLoopsOf squares there q ls → AreLoopsOf squares there q ms → IsWithin ls ms
  loops_within ls ms h k l among = k.complete l (each-at (IsLoopOf squares there q) ls l h.each among)

  -- a face has one list of loops
  pub one_list_of_loops : (ls ms : List (List Cell)) → AreLoopsOf squares there q ls → AreLoopsOf squares there q ms → ls ≡ ms
  one_list_of_loops ls ms h k =
      same_ascending StartsBefore starts_one_way ls ms h.ordered k.ordered (loops_within ls ms h k) (loops_within ms ls k h)

-- ---- faces

-- a pair comes before another one, by its numbers, or else by what comes after them
abbrev pub LiesFirst : ℕ → ℕ → ℤ → ℤ → Type 0 → Type 0
LiesFirst a b x y S = (a < b) ⊎ ((a ≡ b) × ((x <ℤ y) ⊎ ((x ≡ y) × S)))

lies_first_one_way : (a b : ℕ) (x y : ℤ) (S T : Type 0) → (S → T → ⊥) → LiesFirst a b x y S → LiesFirst b a y x T → ⊥
lies_first_one_way a b x y S T one (inl l) (inl m) = omega arith
lies_first_one_way a b x y S T one (inl l) (inr (e, rest)) = omega arith
lies_first_one_way a b x y S T one (inr (e, rest)) (inl m) = omega arith
lies_first_one_way a b x y S T one (inr (e, inl l)) (inr (f, inl m)) = omega (arith, ints)
lies_first_one_way a b x y S T one (inr (e, inl l)) (inr (f, inr (g, t))) = omega (arith, ints)
lies_first_one_way a b x y S T one (inr (e, inr (g, s))) (inr (f, inl m)) = omega (arith, ints)
lies_first_one_way a b x y S T one (inr (e, inr (g, s))) (inr (f, inr (h, t))) = one s t

-- the test for the order of faces is right
pub Decides-is_face_before : (f g : FaceParts)
    → Decides (is_face_before f g)
    (LiesFirst (out_number f.out) (out_number g.out) f.at g.at (StartsBefore (first_loop f.loops) (first_loop g.loops)))
Decides-is_face_before f g =
    let starts : Bool = starts_before (first_loop f.loops) (first_loop g.loops) in
    Decides-or (nat_lt (out_number f.out) (out_number g.out))
    (nat_eq (out_number f.out) (out_number g.out) && (int_lt f.at g.at || (int_eq f.at g.at && starts)))
    (Decides-ltb (out_number f.out) (out_number g.out))
    (Decides-and (nat_eq (out_number f.out) (out_number g.out)) (int_lt f.at g.at || (int_eq f.at g.at && starts))
    (Decides-eqb (out_number f.out) (out_number g.out))
    (Decides-or (int_lt f.at g.at) (int_eq f.at g.at && starts) (Decides-int_lt f.at g.at)
    (Decides-and (int_eq f.at g.at) starts (Decides-int_eq f.at g.at) (λ s. s, λ s. s))))

-- of two faces no more than one comes before the other
face_one_way : (f g : FaceParts) → FaceBefore f g → FaceBefore g f → ⊥
face_one_way f g h k = lies_first_one_way (out_number f.out) (out_number g.out) f.at g.at
    (StartsBefore (first_loop f.loops) (first_loop g.loops)) (StartsBefore (first_loop g.loops) (first_loop f.loops))
    (starts_one_way (first_loop f.loops) (first_loop g.loops)) ((Decides-is_face_before f g).0 h)
    ((Decides-is_face_before g f).0 k)

-- a boundary square has one face in its plane
same_face : (full : Cell → Bool) (q : Spot) (f g : FaceParts) → g.out ≡ f.out → g.at ≡ f.at → IsFaceAt full q f
    → IsFaceAt full q g → g ≡ f
same_face full q f g out at h k =
    let there : AreLoopsOf (is_boundary full f.out f.at) (place f.out f.at) q g.loops =
    subst (λ (x : Out × ℤ). AreLoopsOf (is_boundary full x.0 x.1) (place x.0 x.1) q g.loops) (λ i. (out i, at i)) k.1 in
    let loops : g.loops ≡ f.loops = one_list_of_loops (is_boundary full f.out f.at)
    (place f.out f.at) q g.loops f.loops there h.1 in
    λ i. record { out = out i; at = at i; loops = loops i }

-- each face of one list is in the other
faces_within : (full : Cell → Bool) (fs gs : List FaceParts) → AreFacesOf full fs → AreFacesOf full gs → IsWithin fs gs
faces_within full fs gs h k f among =
    let (q, is) = each-at (λ e. (q : Spot) × IsFaceAt full q e) fs f h.each among in
    let (g, in_gs, out, at, is_too) = k.complete f.out f.at q is.0 in
    subst (Member gs) (same_face full q f g out at is is_too) in_gs

-- a solid has one list of faces
pub one_list_of_faces : (full : Cell → Bool) (fs gs : List FaceParts) → AreFacesOf full fs → AreFacesOf full gs → fs ≡ gs
one_list_of_faces full fs gs h k =
    same_ascending FaceBefore face_one_way fs gs h.ordered k.ordered (faces_within full fs gs h k) (faces_within full gs fs k h)
