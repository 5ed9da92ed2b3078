-- Facts of the order of cells, and of the stated form of a solid.
use Rattle.std.proofs.Common.{◌≡◌, ◌⊎◌, inl, inr, Bool, true, false, ◌&&◌, ◌||◌, List, [], ◌∷◌, ℤ, ◌<ℤ◌, int_lt, Decides, refl, sym, ◌∙◌, ap, subst, arith}
use Rattle.std.specs.Ordering.{int_eq}
use Rattle.std.proofs.lemmas.Int.{ints, by_lt_z}
use Rattle.std.proofs.lemmas.Bool.Decides.{Decides-int_eq, Decides-and, Decides-or}
use Rattle.solid_model.specs.declared.cell.Cell.{Cell}
use Rattle.solid_model.specs.Cells.{same_cell, is_full, SameCells}
use Rattle.lemmas.specs.Lists.{Member}
use Rattle.solid_model.specs.Orders.{is_before, ComesBefore, IsInStatedForm}
use Rattle.lemmas.proofs.Lists.{each-at, each-from, same_ascending}
use Rattle.solid_model.proofs.Fullness.{same_coordinates, same_cells-members}

-- ---- the order of cells

-- the test for the smaller of two coordinates is right
pub Decides-int_lt : (x y : ℤ) → Decides (int_lt x y) (x <ℤ y)
Decides-int_lt x y = (λ e. grind (arith, ints), λ h. grind (arith, ints))

-- a lies before b: by z, then y, then x
abbrev pub LiesBefore : Cell → Cell → Type 0
LiesBefore a b = (a.z <ℤ b.z) ⊎ ((a.z ≡ b.z) × ((a.y <ℤ b.y) ⊎ ((a.y ≡ b.y) × (a.x <ℤ b.x))))

-- the test for the order is right
pub Decides-is_before : (a b : Cell) → Decides (is_before a b) (LiesBefore a b)
Decides-is_before a b =
    Decides-or (int_lt a.z b.z) (int_eq a.z b.z && (int_lt a.y b.y || (int_eq a.y b.y && int_lt a.x b.x))) (Decides-int_lt a.z b.z)
    (Decides-and (int_eq a.z b.z) (int_lt a.y b.y || (int_eq a.y b.y && int_lt a.x b.x)) (Decides-int_eq a.z b.z)
    (Decides-or (int_lt a.y b.y) (int_eq a.y b.y && int_lt a.x b.x) (Decides-int_lt a.y b.y)
    (Decides-and (int_eq a.y b.y) (int_lt a.x b.x) (Decides-int_eq a.y b.y) (Decides-int_lt a.x b.x))))

-- what passes the test lies before
pub before-lies : (a b : Cell) → ComesBefore a b → LiesBefore a b
before-lies a b = (Decides-is_before a b).0

-- what lies before passes the test
pub lies-before : (a b : Cell) → LiesBefore a b → ComesBefore a b
lies-before a b = (Decides-is_before a b).1

-- of two cells no more than one lies before the other
lies_one_way : (a b : Cell) → LiesBefore a b → LiesBefore b a → ⊥
lies_one_way a b h k = grind (arith, ints)

-- what lies before a cell lies before whatever lies after it
lies_onward : (a b c : Cell) → LiesBefore a b → LiesBefore b c → LiesBefore a c
lies_onward a b c h k = grind (arith, ints)

-- of two cells no more than one comes before the other
pub before_one_way : (a b : Cell) → ComesBefore a b → ComesBefore b a → ⊥
before_one_way a b h k = lies_one_way a b (before-lies a b h) (before-lies b a k)

-- no cell comes before itself
pub not_before_itself : (a : Cell) → ComesBefore a a → ⊥
not_before_itself a h = before_one_way a a h h

-- what comes before a cell comes before whatever comes after it
pub before_onward : (a b c : Cell) → ComesBefore a b → ComesBefore b c → ComesBefore a c
before_onward a b c h k = lies-before a c (lies_onward a b c (before-lies a b h) (before-lies b c k))

-- of two coordinates one is smaller, unless they are one
pub one_or_less : (x y : ℤ) → (x ≡ y) ⊎ ((x <ℤ y) ⊎ (y <ℤ x))
one_or_less x y = by_lt_z x y (λ l. inr (inl l)) (λ l. by_lt_z y x (λ m. inr (inr m)) (λ m. inl (omega (arith, ints))))

-- of two cells one comes before the other, unless they are one
pub one_or_before : (a b : Cell) → (a ≡ b) ⊎ (ComesBefore a b ⊎ ComesBefore b a)
one_or_before a b = by_z (one_or_less a.z b.z)
  where
    by_x : a.z ≡ b.z → a.y ≡ b.y → (a.x ≡ b.x) ⊎ ((a.x <ℤ b.x) ⊎ (b.x <ℤ a.x)) → (a ≡ b) ⊎ (ComesBefore a b ⊎ ComesBefore b a)
    by_x p q (inl r) = inl (same_coordinates a b r q p)
    by_x p q (inr (inl l)) = inr (inl (lies-before a b (inr (p, inr (q, l)))))
    by_x p q (inr (inr l)) = inr (inr (lies-before b a (inr (sym p, inr (sym q, l)))))

    by_y : a.z ≡ b.z → (a.y ≡ b.y) ⊎ ((a.y <ℤ b.y) ⊎ (b.y <ℤ a.y)) → (a ≡ b) ⊎ (ComesBefore a b ⊎ ComesBefore b a)
    by_y p (inl q) = by_x p q (one_or_less a.x b.x)
    by_y p (inr (inl l)) = inr (inl (lies-before a b (inr (p, inl l))))
    by_y p (inr (inr l)) = inr (inr (lies-before b a (inr (sym p, inl l))))

    by_z : (a.z ≡ b.z) ⊎ ((a.z <ℤ b.z) ⊎ (b.z <ℤ a.z)) → (a ≡ b) ⊎ (ComesBefore a b ⊎ ComesBefore b a)
    by_z (inl p) = by_y p (one_or_less a.y b.y)
    by_z (inr (inl l)) = inr (inl (lies-before a b (inl l)))
    by_z (inr (inr l)) = inr (inr (lies-before b a (inl l)))

-- ---- the stated form

-- two lists in the stated form that give one solid are one list
pub one_list : (s t : List Cell) → IsInStatedForm s → IsInStatedForm t → SameCells s t → s ≡ t
one_list s t h k same = same_ascending ComesBefore before_one_way s t h k (same_cells-members s t same) (same_cells-members t s (λ c. sym (same c)))

-- a list in the stated form that gives the solid
abbrev pub StatedFormOf : List Cell → Type 0
StatedFormOf s = (t : List Cell) × IsInStatedForm t × SameCells s t

-- the stated form of one more cell, put in its place
with_cell : (c : Cell) (t : List Cell) → IsInStatedForm t → StatedFormOf (c ∷ t)
with_cell c [] h = (c ∷ [], (tt, tt), λ b. refl)
with_cell c (x ∷ xs) h = place (one_or_before c x) (with_cell c xs h.1)
  where
    place : (c ≡ x) ⊎ (ComesBefore c x ⊎ ComesBefore x c) → StatedFormOf (c ∷ xs) → StatedFormOf (c ∷ x ∷ xs)
    place (inl e) rest = (x ∷ xs, h, λ b. subst (λ d. (same_cell d b || (same_cell x b || is_full xs b)) ≡ (same_cell x b || is_full xs b)) (sym e) (twice (same_cell x b) (is_full xs b)))
      where
        twice : (p q : Bool) → (p || (p || q)) ≡ (p || q)
        twice true q = refl
        twice false q = refl
    place (inr (inl l)) rest = (c ∷ x ∷ xs, ((l, each-from (ComesBefore c) xs (λ b k. before_onward c x b l (each-at (ComesBefore x) xs b h.0 k))), h), λ b. refl)
    place (inr (inr l)) (u, stated, same) = (x ∷ u, (each-from (ComesBefore x) u (λ b k. after b (same_cells-members u (c ∷ xs) (λ d. sym (same d)) b k)), stated), λ b. turned b)
      where
        after : (b : Cell) → Member (c ∷ xs) b → ComesBefore x b
        after b (inl e) = subst (ComesBefore x) e l
        after b (inr k) = each-at (ComesBefore x) xs b h.0 k

        swapped : (p q r : Bool) → (p || (q || r)) ≡ (q || (p || r))
        swapped true true r = refl
        swapped true false r = refl
        swapped false q r = refl

        turned : (b : Cell) → is_full (c ∷ x ∷ xs) b ≡ is_full (x ∷ u) b
        turned b = swapped (same_cell c b) (same_cell x b) (is_full xs b) ∙ ap (λ p. same_cell x b || p) (same b)

-- every list of cells gives the same solid as some list in the stated form
pub stated_form : (s : List Cell) → StatedFormOf s
stated_form [] = ([], tt, λ b. refl)
stated_form (c ∷ cs) =
    let rest = stated_form cs in
    let whole = with_cell c rest.0 rest.1 in
    (whole.0, whole.1, λ b. ap (λ p. same_cell c b || p) (rest.2 b) ∙ whole.2 b)
