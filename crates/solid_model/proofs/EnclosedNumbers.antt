-- The enclosed components of a box: of walls that stand in the same places, and their numbers.
use Rattle.std.proofs.Common.{◌≡◌, ◌↔◌, ℕ, ◌<◌, List, get_or, Option, Some, None, IsTrue, ap, subst, ◌∙◌}
use Rattle.solid_model.specs.declared.cell.Axis.{Axis}
use Rattle.solid_model.specs.declared.cell.Cell.{Cell}
use Rattle.lemmas.specs.Chains.{Reaches}
use Rattle.lemmas.specs.Lists.{Each}
use Rattle.solid_model.specs.WalledBoxes.{Sizes, is_within, Walls, Passes, LeadsOut, number_at, AreEnclosed, IsEarlier}
use Rattle.solid_model.proofs.BoxPlaces.{cell_of_place, cell_of_place-within, cell_of_place-there}
use Rattle.lemmas.proofs.Chains.{same_chains}
use Rattle.lemmas.proofs.ListPlaces.{member-place}
use Rattle.lemmas.proofs.Lists.{each-from}
use Rattle.solid_model.proofs.Passages.{passes-past_fewer}

-- where a wall of v stands, one of w does, and the other way round
module _ (sizes : Sizes) (v w : Walls) (same : (a : Axis) (n : Cell) → v a n ↔ w a n) where
  same_passages : (n m : Cell) → Reaches (Passes v) n m ↔ Reaches (Passes w) n m
  same_passages = same_chains (Passes v) (Passes w) (λ n m. (
    passes-past_fewer v w (λ a o. (same a o).1) n m,
    passes-past_fewer w v (λ a o. (same a o).0) n m,
  ))

  same_lead_out : (n : Cell) → LeadsOut sizes v n ↔ LeadsOut sizes w n
  same_lead_out n = (
    λ (m, chain, out). (m, (same_passages n m).0 chain, out),
    λ (m, chain, out). (m, (same_passages n m).1 chain, out),
  )

  -- so the enclosed components are the same
  pub enclosed_between_same : (numbers : List (Option ℕ)) (count : ℕ) → AreEnclosed sizes v numbers count → AreEnclosed sizes w numbers count
  enclosed_between_same numbers count are = record {
    listed = are.listed;
    outside = λ n n_in. let own = are.outside n n_in in let leads = same_lead_out n in
        (λ none. leads.0 (own.0 none), λ out. own.1 (leads.1 out));
    joined = λ n m n_in m_in stays.
        let own = are.joined n m n_in m_in (λ out. stays ((same_lead_out n).0 out)) in let chains = same_passages n m in
        (λ e. chains.0 (own.0 e), λ chain. own.1 (chains.1 chain));
    below = are.below;
    first = are.first;
  }

-- all numbers are below their count
pub enclosed_numbers-below : (sizes : Sizes) (wall : Walls) (numbers : List (Option ℕ)) (count : ℕ) → AreEnclosed sizes wall numbers count
    → Each (IsEarlier count) numbers
enclosed_numbers-below sizes wall numbers count are = each-from (IsEarlier count) numbers (λ x member.
    let (p, p_in, there) = member-place numbers x member in
    at p (cell_of_place-within sizes p (subst (λ c. p < c) are.listed p_in)) x
    (ap (λ q. get_or numbers q None) (cell_of_place-there sizes p) ∙ there None))
  where
    at : (p : ℕ) → IsTrue (is_within sizes (cell_of_place sizes p)) → (x : Option ℕ)
        → number_at sizes numbers (cell_of_place sizes p) ≡ x → IsEarlier count x
    at p within None e = tt
    at p within (Some k) e = are.below (cell_of_place sizes p) k within e
