-- What is known of blocks, more and less: whatever lives under more decisions lives under fewer.
use Rattle.std.proofs.Common.{◌⊎◌, ◌≡◌, ◌==◌, Bool, true, false, not, ℕ, zero, suc, List, [], ◌∷◌, ◌++◌, ℤ, pos, ◌-ℤ◌, Option, Some, None, if◌then◌else◌, inl, inr, refl, ap, sym, ◌∙◌}
use Rattle.std.proofs.lemmas.Bool.{eqb-true, eq-eqb}
use Rattle.std.proofs.lemmas.Option.{none-some}
use Rattle.solid_model.specs.declared.cell.Cell.{Cell}
use Rattle.solid_model.specs.declared.decision.Decision.{Decision}
use Rattle.solid_model.specs.declared.line_id.LineId.{LineId}
use Rattle.solid_model.specs.Blocks.{ProblemParts, block_at}
use Rattle.solid_model.specs.Demands.{said_by, known_in, known_cell, known_column, AgreesWith, CanBeMet, AllMet}
use Rattle.solid_model.specs.Forcing.{known_with, known_by, IsLess, cell_beside, CanBeMetWith, IsExcluded, IsForced, Lives, IsStable, LivesBeyond, IsImplied}

-- ---- more and less

pub less_self : (known : ℕ → Option Bool) → IsLess known known
less_self known block value e = e

pub less_on : (a b c : ℕ → Option Bool) → IsLess a b → IsLess b c → IsLess a c
less_on a b c f g block value e = g block value (f block value e)

-- what a prefix says, whatever begins with it says too
pub said_less : (prefix rest : List Bool) → IsLess (said_by prefix) (said_by (prefix ++ rest))
said_less [] rest k value e = absurd (none-some value e)
said_less (x ∷ prefix) rest zero value e = e
said_less (x ∷ prefix) rest (suc k) value e = said_less prefix rest k value e

-- a decision says what it decides,
pub known_new : (known : ℕ → Option Bool) (d : Decision) → known_with known d d.block ≡ Some d.full
known_new known d = let same : (d.block == d.block) ≡ true = eq-eqb d.block d.block refl in rw same refl

-- leaves the rest as it was, where its block was undecided,
pub less_with : (known : ℕ → Option Bool) (d : Decision) → known d.block ≡ None → IsLess known (known_with known d)
less_with known d undecided block value e = at (d.block == block) refl
  where
    at : (b : Bool) → (d.block == block) ≡ b → (if b then Some d.full else known block) ≡ Some value
    at false f = e
    at true f = absurd (none-some value (sym undecided ∙ ap known (eqb-true d.block block f) ∙ e))

-- and is nothing new to what says it
pub with_less : (known more : ℕ → Option Bool) (d : Decision) → IsLess known more → more d.block ≡ Some d.full → IsLess (known_with known d) more
with_less known more d less said block value = at (d.block == block) refl
  where
    at : (b : Bool) → (d.block == block) ≡ b → (if b then Some d.full else known block) ≡ Some value → more block ≡ Some value
    at false f e = less block value e
    at true f e = (let same : block ≡ d.block = sym (eqb-true d.block block f) in ap more same) ∙ said ∙ e

-- it can be taken on both sides
pub both_with : (known more : ℕ → Option Bool) (d : Decision) → IsLess known more → more d.block ≡ None → IsLess (known_with known d) (known_with more d)
both_with known more d less undecided =
    with_less known (known_with more d) d (less_on known more (known_with more d) less (less_with more d undecided)) (known_new more d)

module _ (p : ProblemParts) where
  -- what is known of a cell is known with more too,
  cell_less : (known more : ℕ → Option Bool) → IsLess known more → (n : Cell) (value : Bool)
      → known_cell p.blocks known n ≡ Some value → known_cell p.blocks more n ≡ Some value
  cell_less known more less n value = by (block_at p.blocks n)
    where
      by : (block : Option ℕ) → known_in known block ≡ Some value → known_in more block ≡ Some value
      by None e = e
      by (Some b) e = less b value e

  -- so more columns agree with less
  agrees_less : (known more : ℕ → Option Bool) → IsLess known more → (l : LineId) (j : ℤ) (column : ℤ → Bool)
      → AgreesWith (known_column p.grid (known_cell p.blocks more) l j) column → AgreesWith (known_column p.grid (known_cell p.blocks known) l j) column
  agrees_less known more less l j column agrees k value e = agrees k value (cell_less known more less _ value e)

  -- and more lines can be met,
  pub met_less : (known more : ℕ → Option Bool) → IsLess known more → (l : LineId) → CanBeMet p more l → CanBeMet p known l
  met_less known more less l (after, before, agrees, agrees_too, draws) =
      (after, before, agrees_less known more less l (pos l.at) after agrees, agrees_less known more less l (pos l.at -ℤ pos 1) before agrees_too, draws)

  -- with a value in a cell too
  pub met_with_less : (known more : ℕ → Option Bool) → IsLess known more → (l : LineId) (of_after : Bool) (k : ℤ) (value : Bool)
      → CanBeMetWith p more l of_after k value → CanBeMetWith p known l of_after k value
  met_with_less known more less l of_after k value (after, before, agrees, agrees_too, is, draws) = (
    after,
    before,
    agrees_less known more less l (pos l.at) after agrees,
    agrees_less known more less l (pos l.at -ℤ pos 1) before agrees_too,
    is,
    draws,
  )

  -- what is excluded stays so under more decisions
  pub excluded_more : (known more : ℕ → Option Bool) → IsLess known more → (block : ℕ) (value : Bool) → more block ≡ None
      → IsExcluded p known block value → IsExcluded p more block value
  excluded_more known more less block value undecided (_, l, has, (of_after, k, at, none)) =
      (undecided, l, has, (of_after, k, at, λ met. none (met_with_less known more less l of_after k value met)))

  -- a line that can be met gives each decided cell its value
  pub met_value : (known : ℕ → Option Bool) (l : LineId) (of_after : Bool) (k : ℤ) (block : ℕ) (value : Bool)
      → block_at p.blocks (cell_beside p.grid l of_after k) ≡ Some block → known block ≡ Some value → CanBeMet p known l → CanBeMetWith p known l of_after k value
  met_value known l true k block value at said (after, before, agrees, agrees_too, draws) =
      (after, before, agrees, agrees_too, agrees k value (ap (known_in known) at ∙ said), draws)
  met_value known l false k block value at said (after, before, agrees, agrees_too, draws) =
      (after, before, agrees, agrees_too, agrees_too k value (ap (known_in known) at ∙ said), draws)

  -- so where every line can be met, no block has a value that is excluded under fewer decisions
  pub not_excluded : (known more : ℕ → Option Bool) → IsLess known more → AllMet p more → (block : ℕ) (value : Bool)
      → more block ≡ Some value → IsExcluded p known block value → ⊥
  not_excluded known more less met block value said (_, l, has, (of_after, k, at, none)) =
      none (met_with_less known more less l of_after k value (met_value more l of_after k block value at said (met l has)))

  -- ---- what lives

  -- after a forced decision it lives still
  pub lives_on : (known : ℕ → Option Bool) (d : Decision) → Lives p known → IsExcluded p known d.block (not d.full) → Lives p (known_with known d)
  lives_on known d lives excluded chain forced = lives (d ∷ chain) (excluded, forced)

  -- Under more decisions, which live, a decision that fewer force is had already, or is taken too. The opposite one they can't
  -- have: it is excluded, and their lines can be met.
  one_beyond : (known more : ℕ → Option Bool) (d : Decision) → IsLess known more → Lives p more → IsExcluded p known d.block (not d.full)
      → LivesBeyond p (known_with known d) more
  one_beyond known more d less lives excluded = by (more d.block) refl
    where
      opposite : (v f : Bool) → (v ≡ f) ⊎ (v ≡ not f)
      opposite true true = inl refl
      opposite true false = inr refl
      opposite false true = inr refl
      opposite false false = inl refl

      by : (said : Option Bool) → more d.block ≡ said → LivesBeyond p (known_with known d) more
      by None undecided = (
        known_with more d,
        both_with known more d less undecided,
        less_with more d undecided,
        lives_on more d lives (excluded_more known more less d.block (not d.full) undecided excluded),
      )
      by (Some v) said = elim (opposite v d.full) as (λ _. LivesBeyond p (known_with known d) more) [
        | inl same ↦ (more, with_less known more d less (said ∙ ap Some same), less_self more, lives)
        | inr other ↦ absurd (not_excluded known more less (lives [] tt) d.block (not d.full) (said ∙ ap Some other) excluded)
      ]

  -- so along a forcing chain
  pub beyond : (chain : List Decision) (known more : ℕ → Option Bool) → IsLess known more → Lives p more → IsForced p known chain
      → LivesBeyond p (known_by known chain) more
  beyond [] known more less lives forced = (more, less, less_self more, lives)
  beyond (d ∷ ds) known more less lives (excluded, forced) =
      let (most, above, within, on) = one_beyond known more d less lives excluded in
      let (last, a, w, l) = beyond ds (known_with known d) most above on forced in
      (last, a, less_on more most last within w, l)

  -- whatever lives under more decisions lives under fewer
  pub lives_less : (known more : ℕ → Option Bool) → IsLess known more → Lives p more → Lives p known
  lives_less known more less lives chain forced l has =
      let (most, above, _, on) = beyond chain known more less lives forced in
      met_less (known_by known chain) most above l (on [] tt l has)

  -- ---- where nothing is excluded

  -- every forcing chain is empty
  pub stable_lives : (known : ℕ → Option Bool) → IsStable p known → Lives p known
  stable_lives known stable [] forced = stable.met
  stable_lives known stable (d ∷ ds) (excluded, forced) = absurd (stable.none d.block (not d.full) excluded)

  -- a forcing chain takes nothing back
  pub less_chain : (known : ℕ → Option Bool) (chain : List Decision) → IsForced p known chain → IsLess known (known_by known chain)
  less_chain known [] forced = less_self known
  less_chain known (d ∷ ds) (excluded, forced) =
      less_on known (known_with known d) (known_by (known_with known d) ds) (less_with known d excluded.0) (less_chain (known_with known d) ds forced)

  -- so whatever a forcing chain leads from lives, where it ends with nothing excluded and every line met
  pub chain_lives : (known : ℕ → Option Bool) (chain : List Decision) → IsForced p known chain → IsStable p (known_by known chain) → Lives p known
  chain_lives known chain forced stable = lives_less known (known_by known chain) (less_chain known chain forced) (stable_lives (known_by known chain) stable)

  -- and what it adds is implied
  pub chain_implied : (known : ℕ → Option Bool) (chain : List Decision) → IsForced p known chain → IsImplied p known (known_by known chain)
  chain_implied known chain forced more less lives = beyond chain known more less lives forced
