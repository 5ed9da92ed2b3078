-- Items that are numbered by their first cells: choices of them come in the order of the cells that they fill, which determine
-- them, and each list of cells that is the same throughout an item, and empty outside, is what some choice fills.
use Rattle.std.proofs.Common.{◌≡◌, inl, inr, Bool, true, false, ℕ, zero, suc, ◌+◌, ◌<◌, List, [], ◌∷◌, ◌++◌, length, get_or, Option, Some, None, refl, ap, sym, subst, ◌∙◌, arith}
use Rattle.std.proofs.lemmas.List.{length-append, length-map, get_or-map, get_or_append_left, get_or_push, ext_get_or}
use Rattle.solid_model.specs.Choices.{ChoicePrecedes, is_chosen, cells_of_choice}
use Rattle.solid_model.specs.WalledBoxes.{Sizes, is_within, box_place, Walls, number_at, IsEarlier, AreEnclosed}
use Rattle.solid_model.proofs.BoxPlaces.{cell_of_place, cell_of_place-within, cell_of_place-there, cell_there, earlier_before}
use Rattle.lemmas.proofs.Decisions.{holds_below_next}

-- ---- first cells

-- There are n items, and each has a first cell: what stands before it is in no item, or in an earlier one.
pub record AreInOrder (items : List (Option ℕ)) (n : ℕ) : Type 0 where
  pub below : (p k : ℕ) → p < length items → get_or items p None ≡ Some k → k < n
  pub first : (k : ℕ) → k < n → (p : ℕ) × (p < length items) × (get_or items p None ≡ Some k)
      × ((q : ℕ) → q < p → IsEarlier k (get_or items q None))

-- the enclosed components of a box are
pub enclosed_in_order : (sizes : Sizes) (wall : Walls) (numbers : List (Option ℕ)) (count : ℕ) → AreEnclosed sizes wall numbers count
    → AreInOrder numbers count
enclosed_in_order sizes wall numbers count are = record {
  below = λ p k l e. are.below (cell_of_place sizes p) k (within p l) (at_place p ∙ e);
  first = λ k l.
      let (n, n_in, is, none) = are.first k l in
      let n_there : box_place sizes n < length numbers = subst (λ c. box_place sizes n < c) (sym are.listed) (cell_there sizes n n_in) in (
        box_place sizes n,
        n_there,
        is,
        λ q earlier.
            let q_in = within q (omega arith) in
            subst (IsEarlier k) (at_place q) (none (cell_of_place sizes q) q_in
            (earlier_before sizes (cell_of_place sizes q) n q_in n_in
            (subst (λ r. r < box_place sizes n) (sym (cell_of_place-there sizes q)) earlier))),
      );
}
  where
    within : (p : ℕ) → p < length numbers → is_within sizes (cell_of_place sizes p) ≡ true
    within p l = cell_of_place-within sizes p (subst (λ c. p < c) are.listed l)

    at_place : (p : ℕ) → number_at sizes numbers (cell_of_place sizes p) ≡ get_or numbers p None
    at_place p = ap (λ q. get_or numbers q None) (cell_of_place-there sizes p)

-- ---- the first place at which two choices differ

-- the first is full there, the second empty, and before it they are the same
pub record DifferAt (xs ys : List Bool) (p : ℕ) : Type 0 where
  pub within : p < length xs
  pub full : get_or xs p false ≡ true
  pub empty : get_or ys p false ≡ false
  pub same : (q : ℕ) → q < p → get_or xs q false ≡ get_or ys q false

-- where one precedes the other there is such a place
pub precedes-differ : (xs ys : List Bool) → ChoicePrecedes xs ys → (p : ℕ) × DifferAt xs ys p
precedes-differ [] ys h = absurd h
precedes-differ (x ∷ xs) [] h = absurd h
precedes-differ (x ∷ xs) (y ∷ ys) (inl (full, empty)) =
    (0, record { within = omega arith; full = full; empty = empty; same = λ q l. absurd (omega arith) })
precedes-differ (x ∷ xs) (y ∷ ys) (inr (e, rest)) =
    let (p, d) = precedes-differ xs ys rest in
    (suc p, record { within = (let l = d.within in omega arith); full = d.full; empty = d.empty; same = same p d.same })
  where
    same : (p : ℕ) → ((q : ℕ) → q < p → get_or xs q false ≡ get_or ys q false) → (q : ℕ) → q < suc p
        → get_or (x ∷ xs) q false ≡ get_or (y ∷ ys) q false
    same p before zero l = e
    same p before (suc q) l = before q (omega arith)

-- and where there is one, it does
pub differ-precedes : (xs ys : List Bool) (p : ℕ) → length xs ≡ length ys → DifferAt xs ys p → ChoicePrecedes xs ys
differ-precedes [] ys p long d = absurd (let l = d.within in omega arith)
differ-precedes (x ∷ xs) [] p long d = absurd (let e : suc (length xs) ≡ 0 = long in omega arith)
differ-precedes (x ∷ xs) (y ∷ ys) zero long d = inl (d.full, d.empty)
differ-precedes (x ∷ xs) (y ∷ ys) (suc p) long d = inr (
  d.same 0 (omega arith),
  differ-precedes xs ys p (omega (arith, long)) (record {
    within = (let l = d.within in omega arith);
    full = d.full;
    empty = d.empty;
    same = λ q l. d.same (suc q) (omega arith);
  }),
)

-- ---- choices of items in order

-- as many cells as the items' list has
pub length-cells_of_choice : (items : List (Option ℕ)) (choice : List Bool) → length (cells_of_choice items choice) ≡ length items
length-cells_of_choice items choice = length-map items (is_chosen choice)

-- what a choice fills at a place
filled_at : (items : List (Option ℕ)) (choice : List Bool) (p : ℕ) → p < length items
    → get_or (cells_of_choice items choice) p false ≡ is_chosen choice (get_or items p None)
filled_at items choice p l = get_or-map (is_chosen choice) items p None false l

-- a list of cells that is the same throughout each item, and empty outside
pub record IsConstant (items : List (Option ℕ)) (cells : List Bool) : Type 0 where
  pub listed : length cells ≡ length items
  pub same : (p q k : ℕ) → p < length items → q < length items → get_or items p None ≡ Some k → get_or items q None ≡ Some k
      → get_or cells p false ≡ get_or cells q false
  pub empty : (p : ℕ) → p < length items → get_or items p None ≡ None → get_or cells p false ≡ false

module _ (items : List (Option ℕ)) (n : ℕ) (order : AreInOrder items n) where
  -- choices come in the order of the cells that they fill
  pub cells_precede : (choice other : List Bool) → length choice ≡ n → ChoicePrecedes choice other
      → ChoicePrecedes (cells_of_choice items choice) (cells_of_choice items other)
  cells_precede choice other long precedes = by (precedes-differ choice other precedes)
    where
      by : (k : ℕ) × DifferAt choice other k → ChoicePrecedes (cells_of_choice items choice) (cells_of_choice items other)
      by (k, d) =
          let (p, p_in, is, none) = order.first k (subst (λ m. k < m) long d.within) in
          differ-precedes (cells_of_choice items choice) (cells_of_choice items other) p
          (length-cells_of_choice items choice ∙ sym (length-cells_of_choice items other)) (record {
            within = subst (λ m. p < m) (sym (length-cells_of_choice items choice)) p_in;
            full = filled_at items choice p p_in ∙ ap (is_chosen choice) is ∙ d.full;
            empty = filled_at items other p p_in ∙ ap (is_chosen other) is ∙ d.empty;
            same = λ q l.
                let q_in : q < length items = omega arith in
                filled_at items choice q q_in ∙ earlier (get_or items q None) (none q l) ∙ sym (filled_at items other q q_in);
          })
        where
          earlier : (x : Option ℕ) → IsEarlier k x → is_chosen choice x ≡ is_chosen other x
          earlier None h = refl
          earlier (Some j) h = d.same j h

  -- the cells that it fills determine a choice
  pub one_choice : (choice other : List Bool) → length choice ≡ n → length other ≡ n
      → cells_of_choice items choice ≡ cells_of_choice items other → choice ≡ other
  one_choice choice other long long_too same = ext_get_or false choice other (long ∙ sym long_too) (λ k l.
      let (p, p_in, is, none) = order.first k (subst (λ m. k < m) long l) in
      ap (is_chosen choice) (sym is) ∙ sym (filled_at items choice p p_in) ∙ ap (λ cells. get_or cells p false) same
      ∙ filled_at items other p p_in ∙ ap (is_chosen other) is)

  module _ (cells : List Bool) (constant : IsConstant items cells) where
    -- a choice of the first so many items, read off their first cells
    record IsReadOff (m : ℕ) (choice : List Bool) : Type 0 where
      long : length choice ≡ m
      each : (k p : ℕ) → k < m → p < length items → get_or items p None ≡ Some k → get_or choice k false ≡ get_or cells p false

    read_off : (m : ℕ) → ((k : ℕ) → k < m → k < n) → (choice : List Bool) × IsReadOff m choice
    read_off zero within = ([], record { long = refl; each = λ k p l. absurd (omega arith) })
    read_off (suc m) within =
        let (choice, so_far) = read_off m (λ k l. within k (omega arith)) in
        let (first, first_in, is, none) = order.first m (within m (omega arith)) in
        let more = choice ++ get_or cells first false ∷ [] in (
          more,
          record {
            long = length-append choice (get_or cells first false ∷ []) ∙ ap (λ c. c + 1) so_far.long ∙ omega arith;
            each = λ k p l p_in. holds_below_next (λ j. get_or items p None ≡ Some j → get_or more j false ≡ get_or cells p false) m
                (λ j j_in f. get_or_append_left choice (get_or cells first false ∷ []) false j (subst (λ c. j < c) (sym so_far.long) j_in)
                ∙ so_far.each j p j_in p_in f)
                (λ f. get_or_push choice (get_or cells first false) false m so_far.long ∙ constant.same first p m first_in p_in is f) k l;
          },
        )

    -- is what some choice fills
    pub choice_of_cells : (choice : List Bool) × (length choice ≡ n) × (cells_of_choice items choice ≡ cells)
    choice_of_cells =
        let (choice, read) = read_off n (λ k l. l) in (
          choice,
          read.long,
          ext_get_or false (cells_of_choice items choice) cells (length-cells_of_choice items choice ∙ sym constant.listed) (λ p l.
              let p_in : p < length items = subst (λ c. p < c) (length-cells_of_choice items choice) l in
              filled_at items choice p p_in ∙ at choice read p p_in (get_or items p None) refl),
        )
      where
        at : (choice : List Bool) → IsReadOff n choice → (p : ℕ) → p < length items → (x : Option ℕ) → get_or items p None ≡ x
            → is_chosen choice x ≡ get_or cells p false
        at choice read p p_in None e = sym (constant.empty p p_in e)
        at choice read p p_in (Some k) e = read.each k p (order.below p k p_in e) p_in e
