-- Which values the blocks of a cube may have in a live prefix that decides all of them: the block of its full cells is full, and
-- of the voids that lie behind one another in a view not all are full.
use Rattle.std.proofs.Common.{◌≡◌, Bool, true, false, ◌&&◌, not, nat_lt, inl, inr, ℕ, suc, ◌-◌, ◌<◌, List, [], ◌∷◌, map, get_or, IsTrue, refl, ap, ◌∙◌, arith}
use Rattle.std.proofs.lemmas.Bool.{and_parts, and_from, not-true, ltb-true}
use Rattle.std.specs.List.{list_all, flat_map, range_with_len}
use Rattle.lemmas.specs.Lists.{Member}
use Rattle.solid_model.specs.declared.frame.View.{View}
use Rattle.solid_model.specs.declared.frame.View.TheVariants.{Front, Top, Side}
use Rattle.drawing_maker.specs.declared.cube.Kind.{Kind}
use Rattle.drawing_maker.specs.declared.cube.Kind.TheVariants.{UnitCube, HollowCube, EightVoids}
use Rattle.drawing_maker.specs.declared.cube.Cube.{Cube}
use Rattle.drawing_maker.specs.Cubes.{Cubelet, cube_side, is_void}
use Rattle.made_laws.specs.RowBlocks.{block_count, cubelet_block}
use Rattle.lemmas.proofs.Ranges.{member-range}
use Rattle.lemmas.proofs.Tests.{passes_all}
use Rattle.made_laws.proofs.Parts.{PartRule, passing}

-- ---- columns of cubelets

-- the column of a cube that a view shows so many places to the right and upwards
pub record CubeletColumn : Type 0 where
  pub view : View
  pub right : ℕ
  pub up : ℕ

-- the cubelet that a view shows there, so many places along the axis of sight
abbrev pub cubelet_in : View → ℕ → ℕ → ℕ → Cubelet
cubelet_in Front right up k = record { x = right; y = k; z = up }
cubelet_in Top right up k = record { x = right; y = up; z = k }
cubelet_in Side right up k = record { x = k; y = right; z = up }

-- the blocks of a column's cubelets
abbrev pub column_blocks : Kind → CubeletColumn → List ℕ
column_blocks kind q = map (λ k. cubelet_block kind (cubelet_in q.view q.right q.up k)) (range_with_len 0 (cube_side kind))

-- the places of voids along an axis
abbrev pub void_places : Kind → List ℕ
void_places UnitCube = []
void_places HollowCube = 1 ∷ []
void_places EightVoids = 1 ∷ 3 ∷ []

-- all columns with a void
abbrev pub void_columns : Kind → List CubeletColumn
void_columns kind = flat_map (λ (v : View). flat_map (λ (i : ℕ). map (λ (j : ℕ). record { view = v; right = i; up = j }) (void_places kind)) (void_places kind))
    (Front ∷ Top ∷ Side ∷ [])

-- ---- allowed values

-- values say that a block is full
abbrev pub says_full : List Bool → ℕ → Bool
says_full v k = get_or v k false

-- they say that these are full, and of each of these lists not all
abbrev pub allows_by : List (List ℕ) → List Bool → Bool
allows_by columns v = says_full v 0 && list_all (λ blocks. not (list_all (says_full v) blocks)) columns

abbrev pub allowed_values : Kind → List Bool → Bool
allowed_values kind = allows_by (map (column_blocks kind) (void_columns kind))

-- what is asked of a cube
abbrev pub rule_of : Cube → PartRule
rule_of p = record { size = block_count p.kind; allows = allowed_values p.kind }

-- ---- how many there are

-- the voids of a cube with eight of them by their numbers, in columns along y, along z and along x
eight_columns : map (column_blocks EightVoids) (void_columns EightVoids)
    ≡ (0 ∷ 1 ∷ 0 ∷ 3 ∷ 0 ∷ []) ∷ (0 ∷ 5 ∷ 0 ∷ 7 ∷ 0 ∷ []) ∷ (0 ∷ 2 ∷ 0 ∷ 4 ∷ 0 ∷ []) ∷ (0 ∷ 6 ∷ 0 ∷ 8 ∷ 0 ∷ [])
    ∷ (0 ∷ 1 ∷ 0 ∷ 5 ∷ 0 ∷ []) ∷ (0 ∷ 3 ∷ 0 ∷ 7 ∷ 0 ∷ []) ∷ (0 ∷ 2 ∷ 0 ∷ 6 ∷ 0 ∷ []) ∷ (0 ∷ 4 ∷ 0 ∷ 8 ∷ 0 ∷ [])
    ∷ (0 ∷ 1 ∷ 0 ∷ 2 ∷ 0 ∷ []) ∷ (0 ∷ 5 ∷ 0 ∷ 6 ∷ 0 ∷ []) ∷ (0 ∷ 3 ∷ 0 ∷ 4 ∷ 0 ∷ []) ∷ (0 ∷ 7 ∷ 0 ∷ 8 ∷ 0 ∷ []) ∷ []
eight_columns = refl

pub one_of_unit_cubes : passing 1 (allowed_values UnitCube) ≡ 1
one_of_unit_cubes = refl

pub one_of_hollow_cubes : passing 2 (allowed_values HollowCube) ≡ 1
one_of_hollow_cubes = refl

-- the sets of corners of a cube of which no two stand along one edge
pub few_of_eight_voids : passing 9 (allowed_values EightVoids) ≡ 35
few_of_eight_voids = ap (λ columns. passing 9 (allows_by columns)) eight_columns ∙ refl

-- ---- tests on lists

pub all_images_pass : {A B : Type 0} (f : A → B) (test : B → Bool) (xs : List A) → ((x : A) → Member xs x → test (f x) ≡ true) → list_all test (map f xs) ≡ true
all_images_pass f test [] each = refl
all_images_pass f test (x ∷ xs) each = and_from _ _ (each x (inl refl)) (all_images_pass f test xs (λ y k. each y (inr k)))

-- ---- what such columns are like

-- the places of a cube of this kind along an axis
abbrev pub places_in : Kind → List ℕ
places_in kind = range_with_len 0 (cube_side kind)

-- no void lies in a column
abbrev pub is_solid_column : Kind → View → ℕ → ℕ → Bool
is_solid_column kind v right up = list_all (λ k. not (is_void kind (cubelet_in v right up k))) (places_in kind)

pub no_void_in : (kind : Kind) (v : View) (right up m : ℕ) → is_solid_column kind v right up ≡ true → m < cube_side kind → is_void kind (cubelet_in v right up m) ≡ false
no_void_in kind v right up m e l = not-true (is_void kind (cubelet_in v right up m))
    (passes_all (λ k. not (is_void kind (cubelet_in v right up k))) (places_in kind) m e (member-range (cube_side kind) 0 m (omega arith) (omega arith)))

-- the last column of the lowest row is one
pub last_is_solid : (kind : Kind) → is_solid_column kind Front 0 (cube_side kind - 1) ≡ true
last_is_solid UnitCube = refl
last_is_solid HollowCube = refl
last_is_solid EightVoids = refl

-- a column with a void: it has one at the place 1, and the column beside it upwards has none
abbrev is_void_column : Kind → CubeletColumn → Bool
is_void_column kind q = (nat_lt q.right (cube_side kind) && nat_lt (suc q.up) (cube_side kind))
    && (is_void kind (cubelet_in q.view q.right q.up 1) && is_solid_column kind q.view q.right (suc q.up))

are_void_columns : (kind : Kind) → IsTrue (list_all (is_void_column kind) (void_columns kind))
are_void_columns UnitCube = refl
are_void_columns HollowCube = refl
are_void_columns EightVoids = refl

pub record IsVoidColumn (kind : Kind) (q : CubeletColumn) : Type 0 where
  pub right : q.right < cube_side kind
  pub up : suc q.up < cube_side kind
  pub void : is_void kind (cubelet_in q.view q.right q.up 1) ≡ true
  pub beside : is_solid_column kind q.view q.right (suc q.up) ≡ true

pub each_void_column : (kind : Kind) (q : CubeletColumn) → Member (void_columns kind) q → IsVoidColumn kind q
each_void_column kind q k =
    let in_right = nat_lt q.right (cube_side kind) in
    let in_up = nat_lt (suc q.up) (cube_side kind) in
    let void = is_void kind (cubelet_in q.view q.right q.up 1) in
    let beside = is_solid_column kind q.view q.right (suc q.up) in
    let both = and_parts (in_right && in_up) (void && beside) (passes_all (is_void_column kind) (void_columns kind) q (are_void_columns kind) k) in
    let places = and_parts in_right in_up both.0 in
    let kinds = and_parts void beside both.1 in
    record { right = ltb-true q.right (cube_side kind) places.0; up = ltb-true (suc q.up) (cube_side kind) places.1; void = kinds.0; beside = kinds.1 }
