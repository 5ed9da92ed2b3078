-- The blocks of a cube, counted by its cubelets: each number is had, first by a cubelet before which only smaller numbers stand.
use Rattle.std.proofs.Common.{◌≡◌, ◌⊎◌, inl, inr, Bool, true, false, ◌&&◌, ◌==◌, ℕ, zero, suc, ◌+◌, ◌<◌, List, [], ◌∷◌, length, if◌then◌else◌, refl, ap, sym, subst, ◌∙◌, arith}
use Rattle.std.proofs.lemmas.Bool.{both_ways, and_parts, and_from}
use Rattle.std.proofs.lemmas.Int.{ints}
use Rattle.solid_model.specs.declared.cell.Axis.TheVariants.{X, Y, Z}
use Rattle.solid_model.specs.Cells.{cell_at}
use Rattle.lemmas.specs.Lists.{Member, Ascends}
use Rattle.solid_model.specs.Orders.{ComesBefore}
use Rattle.solid_model.proofs.CellOrder.{LiesBefore, before-lies, before_one_way, not_before_itself}
use Rattle.lemmas.proofs.Lists.{each-at, member-filter, member-from_filter}
use Rattle.drawing_maker.specs.declared.cube.Kind.{Kind}
use Rattle.drawing_maker.specs.declared.cube.Kind.TheVariants.{UnitCube, HollowCube, EightVoids}
use Rattle.drawing_maker.specs.Cubes.{Cubelet, cube_side, cubelets_in, is_void}
use Rattle.made_laws.specs.RowBlocks.{void_cubelets, block_count, same_cubelet, cubelet_place, cubelet_block}
use Rattle.made_laws.proofs.RowCubelets.{hole, void_is, no_hole_first}
use Rattle.drawing_maker.proofs.RowUnion.{has_side}
use Rattle.drawing_maker.proofs.Cubelets.{IsInside, member-cubelets_in, member-from_cubelets_in}

-- ---- two names of one cubelet

cubelets_same : (a b : Cubelet) → same_cubelet a b ≡ true → a ≡ b
cubelets_same a b e =
    let outer = and_parts (a.x == b.x) (a.y == b.y && a.z == b.z) e in
    let inner = and_parts (a.y == b.y) (a.z == b.z) outer.1 in
    let p : a.x ≡ b.x = grind (arith, outer) in
    let q : a.y ≡ b.y = grind (arith, inner) in
    let r : a.z ≡ b.z = grind (arith, inner) in
    λ t. record { x = p t; y = q t; z = r t }

own_name : (a : Cubelet) → same_cubelet a a ≡ true
own_name a = and_from (a.x == a.x) (a.y == a.y && a.z == a.z) (grind arith) (and_from (a.y == a.y) (a.z == a.z) (grind arith) (grind arith))

by_name : (a b : Cubelet) → a ≡ b → same_cubelet a b ≡ true
by_name a b e = ap (λ c. same_cubelet a c) (sym e) ∙ own_name a

-- ---- places in a list of cubelets

abbrev pub CubeletBefore : Cubelet → Cubelet → Type 0
CubeletBefore a b = ComesBefore (cell_at a.x a.y a.z) (cell_at b.x b.y b.z)

not_itself : (a : Cubelet) → CubeletBefore a a → ⊥
not_itself a = not_before_itself (cell_at a.x a.y a.z)

one_way : (a b : Cubelet) → CubeletBefore a b → CubeletBefore b a → ⊥
one_way a b = before_one_way (cell_at a.x a.y a.z) (cell_at b.x b.y b.z)

-- what a list has has one of its places
place_below : (cubelets : List Cubelet) (c : Cubelet) → Member cubelets c → cubelet_place cubelets c < length cubelets
place_below [] c k = absurd k
place_below (s ∷ cubelets) c k = by (same_cubelet s c) refl k (place_below cubelets c)
  where
    by : (b : Bool) → same_cubelet s c ≡ b → (s ≡ c) ⊎ Member cubelets c → (Member cubelets c → cubelet_place cubelets c < length cubelets)
        → (if b then 0 else 1 + cubelet_place cubelets c) < length (s ∷ cubelets)
    by true e m rest = omega arith
    by false e (inl same) rest = absurd (both_ways (same_cubelet s c) e (by_name s c same))
    by false e (inr m) rest = let l = rest m in omega arith

-- no two of them have one place
pub one_place : (cubelets : List Cubelet) (c d : Cubelet) → Member cubelets c → Member cubelets d → cubelet_place cubelets c ≡ cubelet_place cubelets d → c ≡ d
one_place [] c d k l e = absurd k
one_place (s ∷ cubelets) c d k l e = by (same_cubelet s c) (same_cubelet s d) refl refl e (one_place cubelets c d)
  where
    later : (x : Cubelet) → same_cubelet s x ≡ false → Member (s ∷ cubelets) x → Member cubelets x
    later x other (inl same) = absurd (both_ways (same_cubelet s x) other (by_name s x same))
    later x other (inr m) = m

    by : (a b : Bool) → same_cubelet s c ≡ a → same_cubelet s d ≡ b
        → (if a then 0 else 1 + cubelet_place cubelets c) ≡ (if b then 0 else 1 + cubelet_place cubelets d)
        → (Member cubelets c → Member cubelets d → cubelet_place cubelets c ≡ cubelet_place cubelets d → c ≡ d) → c ≡ d
    by true true p q f rest = sym (cubelets_same s c p) ∙ cubelets_same s d q
    by true false p q f rest = absurd (omega arith)
    by false true p q f rest = absurd (omega arith)
    by false false p q f rest = rest (later c p k) (later d q l) (omega arith)

-- in an ascending list earlier cubelets have earlier places
place_earlier : (cubelets : List Cubelet) → Ascends CubeletBefore cubelets → (c d : Cubelet) → Member cubelets c → Member cubelets d → CubeletBefore c d
    → cubelet_place cubelets c < cubelet_place cubelets d
place_earlier [] ascends c d k l before = absurd k
place_earlier (s ∷ cubelets) ascends c d k l before = by (same_cubelet s c) (same_cubelet s d) refl refl k l (λ m n. place_earlier cubelets ascends.1 c d m n before)
  where
    by : (a b : Bool) → same_cubelet s c ≡ a → same_cubelet s d ≡ b → (s ≡ c) ⊎ Member cubelets c → (s ≡ d) ⊎ Member cubelets d
        → (Member cubelets c → Member cubelets d → cubelet_place cubelets c < cubelet_place cubelets d)
        → (if a then 0 else 1 + cubelet_place cubelets c) < (if b then 0 else 1 + cubelet_place cubelets d)
    by true true p q m n rest = absurd (not_itself d (subst (λ x. CubeletBefore x d) (sym (cubelets_same s c p) ∙ cubelets_same s d q) before))
    by true false p q m n rest = omega arith
    by false b p q (inl same) n rest = absurd (both_ways (same_cubelet s c) p (by_name s c same))
    by false true p q (inr m) n rest =
        absurd (one_way c d before (subst (λ x. CubeletBefore x c) (cubelets_same s d q) (each-at (CubeletBefore s) cubelets c ascends.0 m)))
    by false false p q (inr m) (inl same) rest = absurd (both_ways (same_cubelet s d) q (by_name s d same))
    by false false p q (inr m) (inr n) rest = let l = rest m n in omega arith

-- and each place is that of a cubelet
place_behind : (s c : Cubelet) (cubelets : List Cubelet) (j : ℕ) → CubeletBefore s c → cubelet_place cubelets c ≡ j → cubelet_place (s ∷ cubelets) c ≡ suc j
place_behind s c cubelets j before e = by (same_cubelet s c) refl
  where
    by : (b : Bool) → same_cubelet s c ≡ b → (if b then 0 else 1 + cubelet_place cubelets c) ≡ suc j
    by true p = absurd (not_itself s (subst (CubeletBefore s) (sym (cubelets_same s c p)) before))
    by false p = omega (arith, e)

cubelet_there : (cubelets : List Cubelet) → Ascends CubeletBefore cubelets → (j : ℕ) → j < length cubelets → (c : Cubelet) × Member cubelets c × (cubelet_place cubelets c ≡ j)
cubelet_there [] ascends j l = absurd (omega arith)
cubelet_there (s ∷ cubelets) ascends zero l = (s, inl refl, ap (λ (b : Bool). if b then 0 else 1 + cubelet_place cubelets s) (own_name s))
cubelet_there (s ∷ cubelets) ascends (suc j) l =
    let rest = cubelet_there cubelets ascends.1 j (omega arith) in
    (rest.0, inr rest.1, place_behind s rest.0 cubelets j (each-at (CubeletBefore s) cubelets rest.0 ascends.0 rest.1) rest.2)

-- ---- the voids of a kind

voids_ascend : (kind : Kind) → Ascends CubeletBefore (void_cubelets kind)
voids_ascend UnitCube = tt
voids_ascend HollowCube = (tt, tt)
voids_ascend EightVoids = (
  (refl, (refl, (refl, (refl, (refl, (refl, (refl, tt))))))),
  (
    (refl, (refl, (refl, (refl, (refl, (refl, tt)))))),
    (
      (refl, (refl, (refl, (refl, (refl, tt))))),
      ((refl, (refl, (refl, (refl, tt)))), ((refl, (refl, (refl, tt))), ((refl, (refl, tt)), ((refl, tt), (tt, tt))))),
    ),
  ),
)

pub member-voids : (kind : Kind) (s : Cubelet) → IsInside (cube_side kind) s → is_void kind s ≡ true → Member (void_cubelets kind) s
member-voids kind s inside e = member-filter (is_void kind) (cubelets_in (cube_side kind)) s (member-cubelets_in (cube_side kind) s inside) e

-- ---- blocks

void_block : (kind : Kind) (s : Cubelet) → is_void kind s ≡ true → cubelet_block kind s ≡ 1 + cubelet_place (void_cubelets kind) s
void_block kind s e = ap (λ (b : Bool). if b then 1 + cubelet_place (void_cubelets kind) s else 0) e

pub full_block : (kind : Kind) (s : Cubelet) → is_void kind s ≡ false → cubelet_block kind s ≡ 0
full_block kind s e = ap (λ (b : Bool). if b then 1 + cubelet_place (void_cubelets kind) s else 0) e

pub block_below : (kind : Kind) (s : Cubelet) → IsInside (cube_side kind) s → cubelet_block kind s < block_count kind
block_below kind s inside = by (is_void kind s) refl
  where
    by : (b : Bool) → is_void kind s ≡ b → cubelet_block kind s < block_count kind
    by true e = let l = place_below (void_cubelets kind) s (member-voids kind s inside e) in omega (arith, void_block kind s e, l)
    by false e = omega (arith, full_block kind s e)

-- two cubelets of one block are one, or both are full
pub one_or_full : (kind : Kind) (s t : Cubelet) → IsInside (cube_side kind) s → IsInside (cube_side kind) t → cubelet_block kind s ≡ cubelet_block kind t
    → (s ≡ t) ⊎ ((is_void kind s ≡ false) × (is_void kind t ≡ false))
one_or_full kind s t inside inside_too same = by (is_void kind s) (is_void kind t) refl refl
  where
    by : (a b : Bool) → is_void kind s ≡ a → is_void kind t ≡ b → (s ≡ t) ⊎ ((is_void kind s ≡ false) × (is_void kind t ≡ false))
    by true true e f = inl (one_place (void_cubelets kind) s t (member-voids kind s inside e) (member-voids kind t inside_too f)
        (omega (arith, same, void_block kind s e, void_block kind t f)))
    by true false e f = absurd (omega (arith, same, void_block kind s e, full_block kind t f))
    by false true e f = absurd (omega (arith, same, full_block kind s e, void_block kind t f))
    by false false e f = inr (e, f)

-- the first cubelet of a block: those before it are of earlier blocks
pub record IsFirstOf (kind : Kind) (l : ℕ) (s : Cubelet) : Type 0 where
  pub inside : IsInside (cube_side kind) s
  pub is : cubelet_block kind s ≡ l
  pub earlier : (t : Cubelet) → IsInside (cube_side kind) t → CubeletBefore t s → cubelet_block kind t < l

pub first_of_block : (kind : Kind) (l : ℕ) → l < block_count kind → (s : Cubelet) × IsFirstOf kind l s
first_of_block kind zero less = (
  first,
  record {
    inside = inside;
    is = full_block kind first (void_is kind first ∙ ap (λ b. b && (hole kind 0 && hole kind 0)) (no_hole_first kind));
    earlier = λ t at before. absurd (none t (before-lies _ _ before));
  },
)
  where
    first : Cubelet
    first = record { x = 0; y = 0; z = 0 }

    inside : IsInside (cube_side kind) first
    inside X = has_side kind
    inside Y = has_side kind
    inside Z = has_side kind

    none : (t : Cubelet) → LiesBefore (cell_at t.x t.y t.z) (cell_at 0 0 0) → ⊥
    none t (inl l) = omega (arith, ints, l)
    none t (inr (e, inl l)) = omega (arith, ints, l)
    none t (inr (e, inr (f, l))) = omega (arith, ints, l)
first_of_block kind (suc j) less =
    let c = cubelet_there (void_cubelets kind) (voids_ascend kind) j (omega arith) in
    (c.0, first c.0 c.1 c.2)
  where
    first : (c : Cubelet) → Member (void_cubelets kind) c → cubelet_place (void_cubelets kind) c ≡ j → IsFirstOf kind (suc j) c
    first c m e =
        let own = member-from_filter (is_void kind) (cubelets_in (cube_side kind)) c m in
        record {
          inside = member-from_cubelets_in (cube_side kind) c own.0;
          is = void_block kind c own.1 ∙ omega (arith, e);
          earlier = λ t at before. by t at before (is_void kind t) refl;
        }
      where
        by : (t : Cubelet) → IsInside (cube_side kind) t → CubeletBefore t c → (b : Bool) → is_void kind t ≡ b → cubelet_block kind t < suc j
        by t at before true f =
            let l = place_earlier (void_cubelets kind) (voids_ascend kind) t c (member-voids kind t at f) m before in
            omega (arith, void_block kind t f, l, e)
        by t at before false f = omega (arith, full_block kind t f)
