-- What is found of the ways between nodes, told of the box's cells.
use Rattle.std.proofs.Common.{◌≡◌, Bool, ℕ, zero, suc, ◌-◌, ◌<◌, List, Option, Some, None, IsTrue, refl, ap, sym, subst, ◌∙◌, arith}
use Rattle.solid_model.specs.declared.cell.Axis.{Axis}
use Rattle.solid_model.specs.declared.cell.Cell.{Cell}
use Rattle.solid_model.specs.WalledBoxes.{Sizes, is_within, box_place, AreEnclosed}
use Rattle.solid_model.proofs.BoxPlaces.{one_cell}
use Rattle.lemmas.proofs.Chains.{same_chains}
use Rattle.flood.specs.Graph.{component, AreComponents}
use Rattle.flood.specs.Passages.{PassageParts, StepsAlong}
use Rattle.flood.specs.Ring.{ring_count, ring_place, RingStep, ArePassages, enclosed_of, AreEnclosedNumbers}
use Rattle.flood.proofs.RingPassages.{Standing, steps_iff_ring}
use Rattle.flood.proofs.RingComponents.{enclosed_of_components}

module _ (sizes : Sizes) (stands : Axis → Cell → Bool) (g : PassageParts) (are : ArePassages sizes stands g) where
  -- the components of the nodes, by their numbers among the enclosed ones, are the enclosed components
  pub components_enclosed : (numbers : List ℕ) (count : ℕ) → AreComponents (StepsAlong g) g.count numbers count
      → (enclosed : List (Option ℕ)) → AreEnclosedNumbers sizes (component numbers) enclosed
      → AreEnclosed sizes (Standing stands) enclosed (count - 1)
  components_enclosed numbers count found enclosed told =
      enclosed_of_components sizes (Standing stands) numbers count ring enclosed told.listed told.each
    where
      ring : AreComponents (RingStep sizes (Standing stands)) (ring_count sizes) numbers count
      ring = record {
        listed = found.listed ∙ are.count;
        joined = λ a b l k.
            let joined = found.joined a b (subst (λ c. a < c) (sym are.count) l) (subst (λ c. b < c) (sym are.count) k) in
            let chains = same_chains (StepsAlong g) (RingStep sizes (Standing stands)) (steps_iff_ring sizes stands g are) a b in
            (λ same. chains.0 (joined.0 same), λ reaches. joined.1 (chains.1 reaches));
        below = λ a l. found.below a (subst (λ c. a < c) (sym are.count) l);
        first = λ k l. let f = found.first k l in (f.0, subst (λ c. f.0 < c) are.count f.1, f.2, f.3);
      }

-- ---- enclosed components, told one by one

-- the number is that of the cell which has this place
abbrev pub IsEnclosedAt : Sizes → (ℕ → ℕ) → ℕ → Option ℕ → Type 0
IsEnclosedAt sizes component p enclosed = (n : Cell) → IsTrue (is_within sizes n) → box_place sizes n ≡ p → enclosed ≡ enclosed_of (component (ring_place sizes n))

-- that of a cell's component is
pub enclosed_at : (sizes : Sizes) (component : ℕ → ℕ) (m : Cell) (p : ℕ) (enclosed : Option ℕ) → IsTrue (is_within sizes m) → p ≡ box_place sizes m
    → enclosed ≡ enclosed_of (component (ring_place sizes m)) → IsEnclosedAt sizes component p enclosed
enclosed_at sizes component m p enclosed m_in there is n n_in e =
    is ∙ ap (λ c. enclosed_of (component (ring_place sizes c))) (one_cell sizes m n m_in n_in (sym there ∙ sym e))

-- one less than a component's number, if it isn't the first
pub enclosed_below : (k : ℕ) (enclosed : Option ℕ) → (k ≡ 0 → enclosed ≡ None) → (0 < k → enclosed ≡ Some (k - 1)) → enclosed ≡ enclosed_of k
enclosed_below zero enclosed none some = none refl
enclosed_below (suc k) enclosed none some = some (omega arith) ∙ ap Some (omega arith)
