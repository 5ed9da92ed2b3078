-- It can't be that the enclosed components of a box have no numbering.
use Rattle.std.proofs.Common.{◌≡◌, ◌↔◌, ℕ, ◌<◌, List, length, get_or, Option, None, sym, subst, subst₂, ◌∙◌, ap}
use Rattle.lemmas.specs.Chains.{Reaches}
use Rattle.solid_model.specs.WalledBoxes.{Sizes, box_place, box_count, Walls, Passes, LeadsOut, number_at, AreEnclosed}
use Rattle.solid_model.proofs.BoxPlaces.{cell_there, cell_of_place, cell_of_place-within, cell_of_place-there, cell_of_place-own, before_earlier}
use Rattle.lemmas.proofs.Chains.{reaches-itself, reaches-onward}
use Rattle.lemmas.proofs.Decisions.{IsDecided, never_undecided, never_none}
use Rattle.solid_model.proofs.NumberedPlaces.{AreNumbered, numbers_of_decided}
use Rattle.solid_model.proofs.Passages.{passages-back, passages-leads_out}

module _ (sizes : Sizes) (wall : Walls) where
  -- a place whose cell leads out, and places whose cells are joined
  abbrev Out : ℕ → Type 0
  Out p = LeadsOut sizes wall (cell_of_place sizes p)

  abbrev Same : ℕ → ℕ → Type 0
  Same p q = Reaches (Passes wall) (cell_of_place sizes p) (cell_of_place sizes q)

  -- the numbers of the places are those of the enclosed components
  enclosed_of_numbered : (numbers : List (Option ℕ)) (count : ℕ) → AreNumbered Out Same (box_count sizes) numbers count
      → AreEnclosed sizes wall numbers count
  enclosed_of_numbered numbers count numbered = record {
    listed = numbered.listed;
    outside = λ n n_in. subst (λ c. (number_at sizes numbers n ≡ None) ↔ LeadsOut sizes wall c) (cell_of_place-own sizes n n_in)
        (numbered.outside (box_place sizes n) (cell_there sizes n n_in));
    joined = λ n m n_in m_in stays.
        let n_own = cell_of_place-own sizes n n_in in
        let m_own = cell_of_place-own sizes m m_in in
        let own = numbered.joined (box_place sizes n) (box_place sizes m) (cell_there sizes n n_in) (cell_there sizes m m_in)
        (λ out. stays (subst (LeadsOut sizes wall) n_own out)) in
        subst₂ (λ c d. (number_at sizes numbers n ≡ number_at sizes numbers m) ↔ Reaches (Passes wall) c d) n_own m_own own;
    below = λ n k n_in.
        let n_there : box_place sizes n < length numbers = subst (λ c. box_place sizes n < c) (sym numbered.listed) (cell_there sizes n n_in) in
        numbered.order.below (box_place sizes n) k n_there;
    first = λ k l.
        let (p, p_in, is, none) = numbered.order.first k l in
        let within = cell_of_place-within sizes p (subst (λ c. p < c) numbered.listed p_in) in
        let there = cell_of_place-there sizes p in (
          cell_of_place sizes p,
          within,
          ap (λ q. get_or numbers q None) there ∙ is,
          λ m m_in before.
              let earlier = before_earlier sizes m (cell_of_place sizes p) m_in within before in
              none (box_place sizes m) (subst (λ q. box_place sizes m < q) there earlier),
        );
  }

  -- all that a numbering asks of a place and of the others
  abbrev IsDecidedAt : ℕ → Type 0
  IsDecidedAt p = IsDecided (Out p) × ((q : ℕ) → q < box_count sizes → IsDecided (Same p q))

  never_undecided_at : (p : ℕ) → (IsDecidedAt p → ⊥) → ⊥
  never_undecided_at p none = never_undecided (Out p) (λ out.
      never_none (λ q. IsDecided (Same p q)) (λ q. never_undecided (Same p q)) (box_count sizes) (λ same. none (out, same)))

  -- It can't be that the enclosed components of a box have no numbering.
  pub some_numbering : ((numbers : List (Option ℕ)) (count : ℕ) → AreEnclosed sizes wall numbers count → ⊥) → ⊥
  some_numbering none = never_none IsDecidedAt never_undecided_at (box_count sizes) (λ decided.
      let (numbers, count, numbered) = numbers_of_decided Out Same
      (λ p. reaches-itself (Passes wall) (cell_of_place sizes p))
      (λ p q. passages-back wall (cell_of_place sizes p) (cell_of_place sizes q))
      (λ p q r. reaches-onward (Passes wall) (cell_of_place sizes p) (cell_of_place sizes q) (cell_of_place sizes r))
      (λ p q. passages-leads_out sizes wall (cell_of_place sizes p) (cell_of_place sizes q))
      (box_count sizes) (record { out = λ p l. (decided p l).0; same = λ p q l m. (decided p l).1 q m }) in
      none numbers count (enclosed_of_numbered numbers count numbered))
