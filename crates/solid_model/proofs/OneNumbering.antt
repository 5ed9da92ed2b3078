-- The enclosed components of a box are numbered in one way.
use Rattle.std.proofs.Common.{◌≡◌, ◌⊎◌, inl, inr, true, ℕ, zero, suc, ◌<◌, ◌≤◌, List, get_or, Option, Some, None, refl, ap, sym, subst, ◌∙◌, arith}
use Rattle.std.proofs.lemmas.Bool.{cases_lt}
use Rattle.std.proofs.lemmas.List.{ext_get_or}
use Rattle.std.proofs.lemmas.Option.{none-some, same_Some}
use Rattle.solid_model.specs.declared.cell.Cell.{Cell}
use Rattle.solid_model.specs.Orders.{ComesBefore}
use Rattle.solid_model.specs.WalledBoxes.{Sizes, is_within, box_place, box_count, Walls, LeadsOut, number_at, IsEarlier, AreEnclosed}
use Rattle.solid_model.proofs.BoxPlaces.{cell_there, cell_of_place, cell_of_place-within, cell_of_place-there, before_earlier}
use Rattle.solid_model.proofs.CellOrder.{one_or_before}

module _ (sizes : Sizes) (wall : Walls) (numbers others : List (Option ℕ)) (count many : ℕ)
    (are : AreEnclosed sizes wall numbers count) (are_too : AreEnclosed sizes wall others many) where
  -- Where all earlier cells have one number in both lists, a cell's second number isn't the greater one: the first cell of its
  -- first number, by the second list, would be an earlier cell of the same enclosed component, with another number there.
  not_greater : (n : Cell) → is_within sizes n ≡ true
      → ((m : Cell) → is_within sizes m ≡ true → ComesBefore m n → number_at sizes numbers m ≡ number_at sizes others m)
      → (k l : ℕ) → number_at sizes numbers n ≡ Some k → number_at sizes others n ≡ Some l → k < l → ⊥
  not_greater n n_in before k l e f less = by first.0 first.1 first.2 first.3 (one_or_before first.0 n)
    where
      first : (m : Cell) × (is_within sizes m ≡ true) × (number_at sizes others m ≡ Some k)
          × ((o : Cell) → is_within sizes o ≡ true → ComesBefore o m → IsEarlier k (number_at sizes others o))
      first = are_too.first k (let below = are_too.below n l n_in f in omega arith)

      by : (m : Cell) → is_within sizes m ≡ true → number_at sizes others m ≡ Some k
          → ((o : Cell) → is_within sizes o ≡ true → ComesBefore o m → IsEarlier k (number_at sizes others o))
          → (m ≡ n) ⊎ (ComesBefore m n ⊎ ComesBefore n m) → ⊥
      by m m_in is none (inl same) = let one = same_Some k l (sym is ∙ ap (number_at sizes others) same ∙ f) in omega arith
      by m m_in is none (inr (inl earlier)) =
          let stays : LeadsOut sizes wall n → ⊥ = λ out. none-some k (sym ((are.outside n n_in).1 out) ∙ e) in
          let joined = (are.joined n m n_in m_in stays).0 (e ∙ sym is ∙ sym (before m m_in earlier)) in
          let one = same_Some k l (sym is ∙ sym ((are_too.joined n m n_in m_in stays).1 joined) ∙ f) in omega arith
      by m m_in is none (inr (inr later)) = let less_too : l < k = subst (IsEarlier k) f (none n n_in later) in omega arith

-- Two numberings agree on a cell where they do on all earlier ones.
agree_after : (sizes : Sizes) (wall : Walls) (numbers others : List (Option ℕ)) (count many : ℕ)
    → AreEnclosed sizes wall numbers count → AreEnclosed sizes wall others many → (n : Cell) → is_within sizes n ≡ true
    → ((m : Cell) → is_within sizes m ≡ true → ComesBefore m n → number_at sizes numbers m ≡ number_at sizes others m)
    → number_at sizes numbers n ≡ number_at sizes others n
agree_after sizes wall numbers others count many are are_too n n_in before = by (number_at sizes numbers n) (number_at sizes others n) refl refl
  where
    by : (x y : Option ℕ) → number_at sizes numbers n ≡ x → number_at sizes others n ≡ y → number_at sizes numbers n ≡ number_at sizes others n
    by None y e f = e ∙ sym ((are_too.outside n n_in).1 ((are.outside n n_in).0 e))
    by (Some k) None e f = (are.outside n n_in).1 ((are_too.outside n n_in).0 f) ∙ sym f
    by (Some k) (Some l) e f = elim (cases_lt k l) as (λ _. number_at sizes numbers n ≡ number_at sizes others n) [
      | inl less ↦ absurd (not_greater sizes wall numbers others count many are are_too n n_in before k l e f less)
      | inr least ↦ elim (cases_lt l k) as (λ _. number_at sizes numbers n ≡ number_at sizes others n) [
        | inl less ↦ absurd (not_greater sizes wall others numbers many count are_too are n n_in
            (λ m m_in earlier. sym (before m m_in earlier)) l k f e less)
        | inr most ↦ (let same : k ≡ l = omega arith in e ∙ ap Some same ∙ sym f)
      ]
    ]

-- so there are no more enclosed components by one than by the other
no_more : (sizes : Sizes) (wall : Walls) (numbers others : List (Option ℕ)) (count many : ℕ)
    → AreEnclosed sizes wall numbers count → AreEnclosed sizes wall others many
    → ((n : Cell) → is_within sizes n ≡ true → number_at sizes numbers n ≡ number_at sizes others n) → many ≤ count
no_more sizes wall numbers others count many are are_too same = elim (cases_lt count many) as (λ _. many ≤ count) [
  | inl less ↦ (let first = are_too.first count less in
      let below = are.below first.0 count first.1 (same first.0 first.1 ∙ first.2) in absurd (omega arith))
  | inr most ↦ most
]

-- The enclosed components of a box are numbered in one way.
pub one_numbering : (sizes : Sizes) (wall : Walls) (numbers others : List (Option ℕ)) (count many : ℕ)
    → AreEnclosed sizes wall numbers count → AreEnclosed sizes wall others many → (numbers ≡ others) × (count ≡ many)
one_numbering sizes wall numbers others count many are are_too = (
  ext_get_or None numbers others (are.listed ∙ sym are_too.listed) (λ p l.
      let p_in = cell_of_place-within sizes p (subst (λ c. p < c) are.listed l) in
      subst (λ q. get_or numbers q None ≡ get_or others q None) (cell_of_place-there sizes p) (same (cell_of_place sizes p) p_in)),
  (let most = no_more sizes wall numbers others count many are are_too same in
      let least = no_more sizes wall others numbers many count are_too are (λ n n_in. sym (same n n_in)) in omega arith),
)
  where
    same_up_to : (p : ℕ) (n : Cell) → is_within sizes n ≡ true → box_place sizes n < p → number_at sizes numbers n ≡ number_at sizes others n
    same_up_to zero n n_in l = absurd (omega arith)
    same_up_to (suc p) n n_in l = agree_after sizes wall numbers others count many are are_too n n_in (λ m m_in earlier.
        let place = before_earlier sizes m n m_in n_in earlier in same_up_to p m m_in (omega arith))

    same : (n : Cell) → is_within sizes n ≡ true → number_at sizes numbers n ≡ number_at sizes others n
    same n n_in = same_up_to (box_count sizes) n n_in (cell_there sizes n n_in)
