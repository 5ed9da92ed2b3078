-- The places of a box's cells in a list of all of them.
use Rattle.std.proofs.Common.{◌≡◌, ◌⊎◌, inl, inr, Bool, true, false, if◌then◌else◌, ℕ, zero, suc, ◌+◌, ◌*◌, ◌/◌, ◌%◌, ◌<◌, ◌≤◌, ℤ, pos, negsuc, ◌<ℤ◌, IsTrue, refl, ap, sym, subst, ◌∙◌, arith}
use Rattle.std.proofs.lemmas.Bool.{false≢true}
use Rattle.std.proofs.lemmas.Int.{ints}
use Rattle.std.proofs.lemmas.Nat.{mul-le, mod-mul-add, div-mul-add, div-add-mod', div_below, mod_below}
use Rattle.solid_model.specs.declared.cell.Axis.{Axis}
use Rattle.solid_model.specs.declared.cell.Axis.TheVariants.{X, Y, Z}
use Rattle.solid_model.specs.declared.cell.Cell.{Cell}
use Rattle.solid_model.specs.declared.per_axis.PerAxis.{PerAxis}
use Rattle.solid_model.specs.Cells.{coordinate, cell_at}
use Rattle.solid_model.specs.Orders.{ComesBefore}
use Rattle.solid_model.specs.PerAxis.{numbers_of, cell_of, numbered, AreFew}
use Rattle.solid_model.specs.WalledBoxes.{Sizes, is_below, is_within, box_place, box_count, same_axis, face_sizes}
use Rattle.solid_model.specs.Kept.{edge_sizes}
use Rattle.solid_model.proofs.BoxCells.{place-below, within-below, below-within}
use Rattle.solid_model.proofs.CellOrder.{LiesBefore, before-lies, one_or_before}
use Rattle.lemmas.proofs.Concatenations.{within_product}

-- ---- how far they go

-- the first two products, and all of them, are small where the sizes are
pub layers_small : (sizes : Sizes) → AreFew sizes → sizes Z * sizes Y ≤ 1048576
layers_small sizes few = mul-le (sizes Z) (sizes Y) 1024 1024 (few Z) (few Y)

-- and all cells are
pub cells_small : (sizes : Sizes) → AreFew sizes → box_count sizes ≤ 1073741824
cells_small sizes few = mul-le (sizes Z * sizes Y) (sizes X) 1048576 1024 (layers_small sizes few) (few X)

module _ (sizes : Sizes) (x y z : ℕ) (at_x : x < sizes X) (at_y : y < sizes Y) (at_z : z < sizes Z) where
  -- a row is one of all rows,
  pub row_there : z * sizes Y + y < sizes Z * sizes Y
  row_there = within_product z (sizes Z) y (sizes Y) at_z at_y

  -- and a cell's place one of all places
  pub place_there : box_place sizes (cell_at x y z) < box_count sizes
  place_there = within_product (z * sizes Y + y) (sizes Z * sizes Y) x (sizes X) row_there at_x

-- ---- cells of a box, by their numbers

-- a number that is below a size
pub record IsNumber (n : ℕ) (k : ℤ) : Type 0 where
  pub number : ℕ
  pub is : k ≡ pos number
  pub less : number < n

-- a coordinate of the box is such a number,
pub number_below : (n : ℕ) (k : ℤ) → is_below n k ≡ true → IsNumber n k
number_below n (pos k) below = record { number = k; is = refl; less = place-below n (pos k) below }
number_below n (negsuc k) below = absurd (false≢true below)

-- and such a number is a coordinate of the box
pub below_number : (n k : ℕ) → k < n → is_below n (pos k) ≡ true
below_number n k less = grind (arith, less)

-- the numbers of a cell of the box
pub record IsCellOfBox (sizes : Sizes) (n : Cell) : Type 0 where
  pub x : IsNumber (sizes X) n.x
  pub y : IsNumber (sizes Y) n.y
  pub z : IsNumber (sizes Z) n.z

-- a cell of the box has such numbers,
pub cell_of_box : (sizes : Sizes) (n : Cell) → is_within sizes n ≡ true → IsCellOfBox sizes n
cell_of_box sizes n within = record {
  x = number_below (sizes X) n.x (within-below sizes n within X);
  y = number_below (sizes Y) n.y (within-below sizes n within Y);
  z = number_below (sizes Z) n.z (within-below sizes n within Z);
}

-- and a cell with such numbers is one of the box
pub within_box : (sizes : Sizes) (x y z : ℕ) → x < sizes X → y < sizes Y → z < sizes Z → is_within sizes (cell_at x y z) ≡ true
within_box sizes x y z at_x at_y at_z = below-within sizes (cell_at x y z) below
  where
    below : (a : Axis) → is_below (sizes a) (coordinate a (cell_at x y z)) ≡ true
    below X = below_number (sizes X) x at_x
    below Y = below_number (sizes Y) y at_y
    below Z = below_number (sizes Z) z at_z

-- ---- one cell a place

-- a number of two digits has one pair of them
one_pair : (a b c d w : ℕ) → b < w → d < w → a * w + b ≡ c * w + d → (a ≡ c) × (b ≡ d)
one_pair a b c d w l m e = (
  sym (div-mul-add a w b l) ∙ ap (λ n. n / w) e ∙ div-mul-add c w d m,
  sym (mod-mul-add a w b l) ∙ ap (λ n. n % w) e ∙ mod-mul-add c w d m,
)

-- two cells of the box with one place are one cell
pub one_cell : (sizes : Sizes) (n m : Cell) → is_within sizes n ≡ true → is_within sizes m ≡ true → box_place sizes n ≡ box_place sizes m → n ≡ m
one_cell sizes n m n_in m_in e = one (cell_of_box sizes n n_in) (cell_of_box sizes m m_in)
  where
    one : IsCellOfBox sizes n → IsCellOfBox sizes m → n ≡ m
    one a b =
        let same : box_place sizes (cell_at a.x.number a.y.number a.z.number) ≡ box_place sizes (cell_at b.x.number b.y.number b.z.number) =
        (λ t. box_place sizes (record { x = sym a.x.is t; y = sym a.y.is t; z = sym a.z.is t })) ∙ e
        ∙ (λ t. box_place sizes (record { x = b.x.is t; y = b.y.is t; z = b.z.is t })) in
        let rows = one_pair _ _ _ _ (sizes X) a.x.less b.x.less same in
        let layers = one_pair _ _ _ _ (sizes Y) a.y.less b.y.less rows.0 in
        λ t. record {
          x = (a.x.is ∙ ap pos rows.1 ∙ sym b.x.is) t;
          y = (a.y.is ∙ ap pos layers.1 ∙ sym b.y.is) t;
          z = (a.z.is ∙ ap pos layers.0 ∙ sym b.z.is) t;
        }

-- a cell of the box has one of the places
pub cell_there : (sizes : Sizes) (n : Cell) → is_within sizes n ≡ true → box_place sizes n < box_count sizes
cell_there sizes n n_in =
    let a = cell_of_box sizes n n_in in
    subst (λ p. p < box_count sizes) (λ t. box_place sizes (record { x = sym a.x.is t; y = sym a.y.is t; z = sym a.z.is t }))
    (place_there sizes a.x.number a.y.number a.z.number a.x.less a.y.less a.z.less)

-- ---- a cell a place

-- the cell with a place
abbrev pub cell_of_place : Sizes → ℕ → Cell
cell_of_place sizes p = cell_at (p % sizes X) (p / sizes X % sizes Y) (p / sizes X / sizes Y)

-- it is one of the box,
pub cell_of_place-within : (sizes : Sizes) (p : ℕ) → p < box_count sizes → is_within sizes (cell_of_place sizes p) ≡ true
cell_of_place-within sizes p below = within_box sizes _ _ _ (mod_below p (sizes X) some_columns)
    (mod_below (p / sizes X) (sizes Y) some_rows) (div_below (p / sizes X) (sizes Y) (sizes Z) some_rows row_below)
  where
    some_columns : 0 < sizes X
    some_columns = by (sizes X) refl
      where
        by : (k : ℕ) → sizes X ≡ k → 0 < k
        by zero e = let none = subst (λ k. p < sizes Z * sizes Y * k) e below in absurd (omega arith)
        by (suc k) e = omega arith

    row_below : p / sizes X < sizes Z * sizes Y
    row_below = div_below p (sizes X) (sizes Z * sizes Y) some_columns below

    some_rows : 0 < sizes Y
    some_rows = by (sizes Y) refl
      where
        by : (k : ℕ) → sizes Y ≡ k → 0 < k
        by zero e = let none = subst (λ k. p / sizes X < sizes Z * k) e row_below in absurd (omega arith)
        by (suc k) e = omega arith

-- has the place,
pub cell_of_place-there : (sizes : Sizes) (p : ℕ) → box_place sizes (cell_of_place sizes p) ≡ p
cell_of_place-there sizes p = ap (λ k. k * sizes X + p % sizes X) (div-add-mod' (p / sizes X) (sizes Y)) ∙ div-add-mod' p (sizes X)

-- and is the only such cell of the box
pub cell_of_place-own : (sizes : Sizes) (n : Cell) → is_within sizes n ≡ true → cell_of_place sizes (box_place sizes n) ≡ n
cell_of_place-own sizes n n_in = one_cell sizes _ n (cell_of_place-within sizes _ (cell_there sizes n n_in)) n_in (cell_of_place-there sizes _)

-- ---- the order of places

-- a place in an earlier row comes earlier
place_in_earlier_row : (a b c d w : ℕ) → a < c → b < w → a * w + b < c * w + d
place_in_earlier_row a b c d w earlier within = let end = within_product a c b w earlier within in omega arith

-- of two cells of a box the one that comes before the other has the earlier place
pub before_earlier : (sizes : Sizes) (n m : Cell) → is_within sizes n ≡ true → is_within sizes m ≡ true → ComesBefore n m
    → box_place sizes n < box_place sizes m
before_earlier sizes n m n_in m_in before = by (before-lies n m before)
  where
    a : IsCellOfBox sizes n
    a = cell_of_box sizes n n_in

    b : IsCellOfBox sizes m
    b = cell_of_box sizes m m_in

    w : ℕ
    w = sizes X

    h : ℕ
    h = sizes Y

    smaller : {s t : ℕ} {k l : ℤ} (i : IsNumber s k) (j : IsNumber t l) → k <ℤ l → i.number < j.number
    smaller i j l = omega (arith, ints, i.is, j.is)

    same : {s t : ℕ} {k l : ℤ} (i : IsNumber s k) (j : IsNumber t l) → k ≡ l → i.number ≡ j.number
    same i j e = omega (arith, ints, i.is, j.is)

    numbered_less : (a.z.number * h + a.y.number) * w + a.x.number < (b.z.number * h + b.y.number) * w + b.x.number
        → box_place sizes n < box_place sizes m
    numbered_less less =
        subst (λ k. k < box_place sizes m) (λ t. box_place sizes (record { x = sym a.x.is t; y = sym a.y.is t; z = sym a.z.is t }))
        (subst (λ k. box_place sizes (cell_at a.x.number a.y.number a.z.number) < k)
        (λ t. box_place sizes (record { x = sym b.x.is t; y = sym b.y.is t; z = sym b.z.is t })) less)

    by_rows : a.z.number * h + a.y.number < b.z.number * h + b.y.number → box_place sizes n < box_place sizes m
    by_rows earlier = numbered_less (place_in_earlier_row _ a.x.number _ b.x.number w earlier a.x.less)

    by : LiesBefore n m → box_place sizes n < box_place sizes m
    by (inl l) = by_rows (place_in_earlier_row _ a.y.number _ b.y.number h (smaller a.z b.z l) a.y.less)
    by (inr (same_z, inl l)) =
        let less = smaller a.y b.y l in
        by_rows (subst (λ k. a.z.number * h + a.y.number < k * h + b.y.number) (same a.z b.z same_z) (omega arith))
    by (inr (same_z, inr (same_y, l))) =
        let less = smaller a.x b.x l in
        let layer = same a.z b.z same_z in let rows = same a.y b.y same_y in
        numbered_less (subst (λ k. (a.z.number * h + a.y.number) * w + a.x.number < k * w + b.x.number) (λ t. layer t * h + rows t) (omega arith))

-- and the one with the earlier place comes before the other
pub earlier_before : (sizes : Sizes) (n m : Cell) → is_within sizes n ≡ true → is_within sizes m ≡ true
    → box_place sizes n < box_place sizes m → ComesBefore n m
earlier_before sizes n m n_in m_in earlier = by (one_or_before n m)
  where
    by : (n ≡ m) ⊎ (ComesBefore n m ⊎ ComesBefore m n) → ComesBefore n m
    by (inl e) = let same = ap (box_place sizes) e in absurd (omega arith)
    by (inr (inl before)) = before
    by (inr (inr after)) = let later = before_earlier sizes m n m_in n_in after in absurd (omega arith)

-- ---- the edges and faces of a box's cells

-- the sizes of the box of edges along an axis, from one more than the cells have along each axis
pub numbered_edges : (sizes : Sizes) (a : Axis) (points : Sizes) → ((b : Axis) → points b ≡ suc (sizes b)) → numbered a (sizes a) points ≡ edge_sizes sizes a
numbered_edges sizes a points more = λ t b. by a b t
  where
    by : (c : Axis) (b : Axis) → numbered c (sizes c) points b ≡ edge_sizes sizes c b
    by X X = refl
    by X Y = more Y
    by X Z = more Z
    by Y X = more X
    by Y Y = refl
    by Y Z = more Z
    by Z X = more X
    by Z Y = more Y
    by Z Z = refl

-- the sizes of the box of faces across an axis, from one more than the cells have along it
pub numbered_faces : (sizes : Sizes) (a : Axis) (k : ℕ) → k ≡ suc (sizes a) → numbered a k sizes ≡ face_sizes sizes a
numbered_faces sizes a k more = λ t b. by a k more b t
  where
    by : (c : Axis) (l : ℕ) → l ≡ suc (sizes c) → (b : Axis) → numbered c l sizes b ≡ face_sizes sizes c b
    by X l e X = e
    by X l e Y = refl
    by X l e Z = refl
    by Y l e X = refl
    by Y l e Y = e
    by Y l e Z = refl
    by Z l e X = refl
    by Z l e Y = refl
    by Z l e Z = e

-- from a grid's sizes they are few
pub few_edges : (sizes : Sizes) → ((a : Axis) → sizes a ≤ 63) → (a : Axis) → AreFew (edge_sizes sizes a)
few_edges sizes few a b = by (same_axis a b)
  where
    by : (s : Bool) → (if s then sizes b else suc (sizes b)) ≤ 1024
    by true = omega (arith, few b)
    by false = omega (arith, few b)

-- and so are the faces
pub few_faces : (sizes : Sizes) → ((a : Axis) → sizes a ≤ 63) → (a b : Axis) → face_sizes sizes a b ≤ 64
few_faces sizes few a b = by (same_axis a b)
  where
    by : (s : Bool) → (if s then suc (sizes b) else sizes b) ≤ 64
    by true = omega (arith, few b)
    by false = omega (arith, few b)

-- the numbers of a cell of the box
pub record HasNumbersBelow (sizes : Sizes) (n : PerAxis) : Type 0 where
  pub x : n.x < sizes X
  pub y : n.y < sizes Y
  pub z : n.z < sizes Z

-- the numbers that are kept of a cell of the box are below its sizes
pub numbers_below : (sizes : Sizes) (n : PerAxis) → IsTrue (is_within sizes (cell_of n)) → HasNumbersBelow sizes n
numbers_below sizes n within = record {
  x = place-below (sizes X) (pos n.x) (within-below sizes (cell_of n) within X);
  y = place-below (sizes Y) (pos n.y) (within-below sizes (cell_of n) within Y);
  z = place-below (sizes Z) (pos n.z) (within-below sizes (cell_of n) within Z);
}

-- of a box with few cells they are few
pub few_numbers : (sizes : Sizes) → AreFew sizes → (n : PerAxis) → IsTrue (is_within sizes (cell_of n)) → AreFew (numbers_of n)
few_numbers sizes few n within = at (numbers_below sizes n within)
  where
    at : HasNumbersBelow sizes n → AreFew (numbers_of n)
    at less X = omega (arith, few X, less.x)
    at less Y = omega (arith, few Y, less.y)
    at less Z = omega (arith, few Z, less.z)
