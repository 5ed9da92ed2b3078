-- Which decisions are forced is computed, where the blocks are numbered in the grid's own box.
use Rattle.std.proofs.Common.{◌↔◌, ◌≡◌, inl, inr, Bool, true, false, not, ℕ, ◌<◌, List, [], ◌∷◌, ℤ, pos, negsuc, ◌-ℤ◌, Option, Some, None, IsTrue, if◌then◌else◌, refl, ap, sym, subst, ◌∙◌, arith}
use Rattle.std.specs.List.{flat_map, range_with_len}
use Rattle.std.proofs.lemmas.Bool.{false≢true, cases_lt}
use Rattle.std.proofs.lemmas.Int.{ints}
use Rattle.std.proofs.lemmas.Option.{none-some}
use Rattle.column_laws.proofs.AllLines.{lines_are_there, lines_are_listed}
use Rattle.column_laws.proofs.MetLines.{AreSized, none_beyond, column_beyond}
use Rattle.column_laws.proofs.SightLines.{drawing_computed}
use Rattle.column_laws.proofs.WithValue.{agrees_from, agrees_to, beyond_with}
use Rattle.solid_model.specs.declared.decision.Decision.{Decision}
use Rattle.solid_model.specs.declared.line_id.LineId.{LineId}
use Rattle.solid_model.specs.Blocks.{ProblemParts, block_at}
use Rattle.solid_model.specs.Demands.{line_style, lines_of, known_in, known_cell, known_after, known_before}
use Rattle.solid_model.specs.Forcing.{place_beside, cell_beside, CanBeMetWith, LineExcludes, IsExcluded, with_value, can_be_met_with, forced_if, forced_in, forced_at, forced_on, all_forced}
use Rattle.solid_model.specs.Frames.{frame_of}
use Rattle.solid_model.specs.GridBox.{grid_sizes}
use Rattle.lemmas.specs.Lists.{Member}
use Rattle.lemmas.proofs.Concatenations.{member-flat_map, member-from_flat_map}
use Rattle.lemmas.proofs.Lists.{member-append, member-append_left, member-append_right}
use Rattle.lemmas.proofs.Ranges.{member-range, member-from_range}

module _ (p : ProblemParts) (sized : AreSized p) (known : ℕ → Option Bool) (l : LineId) where
  abbrev depths : ℕ
  depths = grid_sizes p.grid (frame_of l.view).away.axis

  abbrev after : ℤ → Option Bool
  after = known_after p.grid (known_cell p.blocks known) l

  abbrev before : ℤ → Option Bool
  before = known_before p.grid (known_cell p.blocks known) l

  -- a line can be met with a value in an undecided cell exactly where the test says so
  pub met_with_computed : (of_after : Bool) (depth : ℕ) (value : Bool) → depth < depths → known_cell p.blocks known (cell_beside p.grid l of_after (pos depth)) ≡ None
      → IsTrue (can_be_met_with p known l of_after depth value) ↔ CanBeMetWith p known l of_after (pos depth) value
  met_with_computed true depth value few none =
      let drawn = drawing_computed (with_value depth value after) before depths (beyond_with depth value after depths few (column_beyond p sized known l (pos l.at)))
      (column_beyond p sized known l (pos l.at -ℤ pos 1)) (line_style p.grid l) in (
        λ e. let (a, b, agrees, agrees_too, draws) = drawn.0 e in let both = agrees_from depth value after a none agrees in (a, b, both.0, agrees_too, both.1, draws),
        λ (a, b, agrees, agrees_too, is, draws). drawn.1 (a, b, agrees_to depth value after a agrees is, agrees_too, draws),
      )
  met_with_computed false depth value few none =
      let drawn = drawing_computed after (with_value depth value before) depths (column_beyond p sized known l (pos l.at))
      (beyond_with depth value before depths few (column_beyond p sized known l (pos l.at -ℤ pos 1))) (line_style p.grid l) in (
        λ e. let (a, b, agrees, agrees_too, draws) = drawn.0 e in let both = agrees_from depth value before b none agrees_too in (a, b, agrees, both.0, both.1, draws),
        λ (a, b, agrees, agrees_too, is, draws). drawn.1 (a, b, agrees, agrees_to depth value before b agrees_too is, draws),
      )

  -- the line forces a decision: its block is undecided, and the other value excluded
  abbrev Forces : Decision → Type 0
  Forces d = (known d.block ≡ None) × LineExcludes p known l d.block (not d.full)

  -- ---- one cell

  module _ (of_after : Bool) (depth : ℕ) (few : depth < depths) where
    abbrev can : Bool → Bool
    can = can_be_met_with p known l of_after depth

    abbrev cell_block : Option ℕ
    cell_block = block_at p.blocks (cell_beside p.grid l of_after (pos depth))

    module _ (block : ℕ) (at : cell_block ≡ Some block) (none : known block ≡ None) where
      computed : (value : Bool) → IsTrue (can value) ↔ CanBeMetWith p known l of_after (pos depth) value
      computed value = met_with_computed of_after depth value few (ap (known_in known) at ∙ none)

      -- a value with which the test fails is excluded
      pub out_with : (value : Bool) → can value ≡ false → LineExcludes p known l block value
      out_with value cannot = (of_after, pos depth, at, λ met. false≢true (sym cannot ∙ (computed value).1 met))

      -- a decision that it forces
      forced_once : (d : Decision) → Member (forced_if block can None) d → Forces d
      forced_once d = by (can false) (can true) refl refl
        where
          by : (f t : Bool) → can false ≡ f → can true ≡ t
              → Member (if not f then record { block = block; full = true } ∷ [] else (if not t then record { block = block; full = false } ∷ [] else [])) d → Forces d
          by false t f_is t_is (inl e) = subst Forces e (none, out_with false f_is)
          by false t f_is t_is (inr m) = absurd m
          by true false f_is t_is (inl e) = subst Forces e (none, out_with true t_is)
          by true false f_is t_is (inr m) = absurd m
          by true true f_is t_is m = absurd m

      -- there is one where a value can't be
      some_forced : (value : Bool) → (CanBeMetWith p known l of_after (pos depth) value → ⊥) → (d : Decision) × Member (forced_if block can None) d
      some_forced value out = by (can false) (can true) refl refl
        where
          meets : (v : Bool) → can false ≡ true → can true ≡ true → can v ≡ true
          meets true f_is t_is = t_is
          meets false f_is t_is = f_is

          by : (f t : Bool) → can false ≡ f → can true ≡ t
              → (d : Decision) × Member (if not f then record { block = block; full = true } ∷ [] else (if not t then record { block = block; full = false } ∷ [] else [])) d
          by false t f_is t_is = (record { block = block; full = true }, inl refl)
          by true false f_is t_is = (record { block = block; full = false }, inl refl)
          by true true f_is t_is = absurd (out ((computed value).0 (meets value f_is t_is)))

    at_forces : (d : Decision) → Member (forced_at p known l of_after depth) d → Forces d
    at_forces d = by cell_block refl
      where
        by : (block : Option ℕ) → cell_block ≡ block → Member (forced_in block known can) d → Forces d
        by None at m = absurd m
        by (Some b) at m = on (known b) refl m
          where
            on : (said : Option Bool) → known b ≡ said → Member (forced_if b can said) d → Forces d
            on (Some v) said m = absurd m
            on None none m = forced_once b at none d m

    forces_at : (block : ℕ) (value : Bool) → cell_block ≡ Some block → known block ≡ None → (CanBeMetWith p known l of_after (pos depth) value → ⊥)
        → (d : Decision) × Member (forced_at p known l of_after depth) d
    forces_at block value at none out = subst (λ b. (d : Decision) × Member (forced_in b known can) d) (sym at)
        (subst (λ said. (d : Decision) × Member (forced_if block can said) d) (sym none) (some_forced block at none value out))

  -- ---- one line

  abbrev side : Bool → List Decision
  side of_after = flat_map (forced_at p known l of_after) (range_with_len 0 depths)

  on_forces : (d : Decision) → Member (forced_on p known l) d → Forces d
  on_forces d m = elim (member-append (side true) (side false) d m) as (λ _. Forces d) [ inl k ↦ from true k | inr k ↦ from false k ]
    where
      from : (of_after : Bool) → Member (side of_after) d → Forces d
      from of_after k =
          let (depth, place, found) = member-from_flat_map (forced_at p known l of_after) (range_with_len 0 depths) d k in
          at_forces of_after depth (omega (arith, (member-from_range depths 0 depth place).1)) d found

  forces_on : (block : ℕ) (value : Bool) → known block ≡ None → LineExcludes p known l block value → (d : Decision) × Member (forced_on p known l) d
  forces_on block value none (of_after, negsuc k, at, out) =
      absurd (none-some block (sym (none_beyond p sized l (place_beside l of_after) (negsuc k) (λ r. let low = r.0 in omega (arith, ints))) ∙ at))
  forces_on block value none (of_after, pos k, at, out) = elim (cases_lt k depths) as (λ _. (d : Decision) × Member (forced_on p known l) d) [
    | inl few ↦ (let (d, m) = forces_at of_after k few block value at none out in
        (d, within of_after d (member-flat_map (forced_at p known l of_after) (range_with_len 0 depths) k d (member-range depths 0 k (omega arith) (omega arith)) m)))
    | inr far ↦ absurd (none-some block (sym (none_beyond p sized l (place_beside l of_after) (pos k) (λ r. let high = r.1 in omega (arith, ints))) ∙ at))
  ]
    where
      within : (of_after : Bool) (d : Decision) → Member (side of_after) d → Member (forced_on p known l) d
      within true d m = member-append_left (side true) (side false) d m
      within false d m = member-append_right (side true) (side false) d m

-- ---- all lines

module _ (p : ProblemParts) (sized : AreSized p) (known : ℕ → Option Bool) where
  -- the opposite of each that is listed is excluded
  pub listed_excluded : (d : Decision) → Member (all_forced p known) d → IsExcluded p known d.block (not d.full)
  listed_excluded d m =
      let (l, place, found) = member-from_flat_map (forced_on p known) (lines_of p.grid) d m in
      let forces = on_forces p sized known l d found in
      (forces.0, l, lines_are_there p.grid l place, forces.1)

  -- and where something is excluded one is listed
  pub excluded_listed : (block : ℕ) (value : Bool) → IsExcluded p known block value → (d : Decision) × Member (all_forced p known) d
  excluded_listed block value (none, l, has, out) =
      let (d, m) = forces_on p sized known l block value none out in
      (d, member-flat_map (forced_on p known) (lines_of p.grid) l d (lines_are_listed p.grid l has) m)
