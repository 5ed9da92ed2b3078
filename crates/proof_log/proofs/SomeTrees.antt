-- Whatever is known, a tree goes on: so what is written begins a log.
use Rattle.std.proofs.Common.{◌≡◌, ◌≢◌, ◌⊎◌, inl, inr, Bool, true, false, ℕ, zero, suc, ◌<◌, ◌≤◌, nat_lt, List, [], ◌∷◌, Option, Some, None, IsTrue, refl, ap, sym, subst, ◌∙◌, arith}
use Rattle.std.proofs.lemmas.Bool.{and_from, both_ways, cases_lt, lt-ltb}
use Rattle.std.proofs.lemmas.Option.{none-some}
use Rattle.column_laws.proofs.AllLines.{lines_are_there, lines_are_listed}
use Rattle.column_laws.proofs.MetLines.{AreSized, met_computed}
use Rattle.column_laws.specs.Undecided.{undecided}
use Rattle.completeness_logs.specs.declared.entry.LinePlace.{LinePlace}
use Rattle.completeness_logs.specs.Logs.{KnownBlocks, with_block, LogTree, IsTreeUnder, tree_entries}
use Rattle.completeness_logs.specs.Logs.LogTree.{fails, whole, splits}
use Rattle.completeness_logs.specs.LogTexts.{has_short_numbers, is_short_entry}
use Rattle.line_demands.proofs.ColumnPlaces.{line_within}
use Rattle.lemmas.specs.Lists.{Member, Each}
use Rattle.lemmas.proofs.Lists.{each-append}
use Rattle.proof_log.proofs.Lighter.{one_less}
use Rattle.solid_model.specs.declared.cell.Axis.{Axis}
use Rattle.solid_model.specs.declared.line_id.LineId.{LineId}
use Rattle.solid_model.specs.Blocks.{ProblemParts}
use Rattle.solid_model.specs.Demands.{has_line, lines_of, AllMet, CanBeMet, can_be_met}
use Rattle.solid_model.specs.GridBox.{grid_sizes, axis_across, axis_along}

-- the first that doesn't pass, or all do
first_failing : {A : Type 0} (test : A → Bool) (xs : List A) → ((x : A) × Member xs x × (test x ≡ false)) ⊎ ((x : A) → Member xs x → test x ≡ true)
first_failing test [] = inr (λ x m. absurd m)
first_failing test (x ∷ xs) = by (test x) refl (first_failing test xs)
  where
    by : (b : Bool) → test x ≡ b → ((y : _) × Member xs y × (test y ≡ false)) ⊎ ((y : _) → Member xs y → test y ≡ true)
        → ((y : _) × Member (x ∷ xs) y × (test y ≡ false)) ⊎ ((y : _) → Member (x ∷ xs) y → test y ≡ true)
    by false e rest = inl (x, inl refl, e)
    by true e (inl (y, m, f)) = inl (y, inr m, f)
    by true e (inr all) = inr (λ y m. elim m as (λ _. test y ≡ true) [ inl f ↦ subst (λ z. test z ≡ true) f e | inr k ↦ all y k ])

-- some block is undecided, or none is
some_undecided : (known : KnownBlocks) (n : ℕ) → ((block : ℕ) × (block < n) × (known block ≡ None)) ⊎ ((block : ℕ) → block < n → known block ≢ None)
some_undecided known zero = inr (λ block l. absurd (omega (arith, l)))
some_undecided known (suc n) = by (known n) refl (some_undecided known n)
  where
    by : (o : Option Bool) → known n ≡ o → ((block : ℕ) × (block < n) × (known block ≡ None)) ⊎ ((block : ℕ) → block < n → known block ≢ None)
        → ((block : ℕ) × (block < suc n) × (known block ≡ None)) ⊎ ((block : ℕ) → block < suc n → known block ≢ None)
    by None e rest = inl (n, omega arith, e)
    by (Some v) e (inl (block, l, f)) = inl (block, omega (arith, l), f)
    by (Some v) e (inr all) = inr (λ block l none. elim (cases_lt block n) as (λ _. ⊥) [
      | inl m ↦ all block m none
      | inr m ↦ none-some v (sym none ∙ ap known (let h : block ≡ n = omega (arith, l, m) in h) ∙ e)
    ])

-- a tree under what is known, whose numbers are short
abbrev pub ShortTree : ProblemParts → KnownBlocks → Type 0
ShortTree p known = (t : LogTree) × IsTreeUnder p known t × Each (λ e. IsTrue (is_short_entry e)) (tree_entries t)

module _ (p : ProblemParts) (sized : AreSized p) (sizes : (a : Axis) → grid_sizes p.grid a ≤ 63) (count : p.blocks.count ≤ 65535) where
  abbrev spot_of : LineId → LinePlace
  spot_of l = record { view = l.view; upright = l.upright; at = l.at; cell = l.cell }

  short_spot : (l : LineId) → IsTrue (has_line p.grid l) → IsTrue (has_short_numbers (spot_of l))
  short_spot l has =
      let within = line_within p.grid l has in
      let f = sizes (axis_across l.view l.upright) in
      let g = sizes (axis_along l.view l.upright) in
      and_from (nat_lt l.at 10000000000) (nat_lt l.cell 10000000000)
      (lt-ltb l.at 10000000000 (omega (arith, within.0, f))) (lt-ltb l.cell 10000000000 (omega (arith, within.1, g)))

  -- a line that can't be met, or all can
  met_or_lost : (known : KnownBlocks) → ((l : LineId) × IsTrue (has_line p.grid l) × (CanBeMet p known l → ⊥)) ⊎ AllMet p known
  met_or_lost known = by (first_failing (can_be_met p known) (lines_of p.grid))
    where
      by : ((l : LineId) × Member (lines_of p.grid) l × (can_be_met p known l ≡ false)) ⊎ ((l : LineId) → Member (lines_of p.grid) l → can_be_met p known l ≡ true)
          → ((l : LineId) × IsTrue (has_line p.grid l) × (CanBeMet p known l → ⊥)) ⊎ AllMet p known
      by (inl (l, m, e)) = inl (l, lines_are_there p.grid l m, λ met. both_ways (can_be_met p known l) e ((met_computed p sized known l).1 met))
      by (inr all) = inr (λ l has. (met_computed p sized known l).0 (all l (lines_are_listed p.grid l has)))

  -- with all decided
  leaf : (known : KnownBlocks) → ((block : ℕ) → block < p.blocks.count → known block ≢ None) → ShortTree p known
  leaf known all = by (met_or_lost known)
    where
      by : ((l : LineId) × IsTrue (has_line p.grid l) × (CanBeMet p known l → ⊥)) ⊎ AllMet p known → ShortTree p known
      by (inl (l, has, lost)) = (fails (spot_of l), (has, lost), (short_spot l has, tt))
      by (inr met) = (whole, (all, met), (refl, tt))

  less_left : (known : KnownBlocks) (left : ℕ) (block : ℕ) (full : Bool) → undecided known p.blocks.count ≤ suc left → block < p.blocks.count → known block ≡ None
      → undecided (with_block known block full) p.blocks.count ≤ left
  less_left known left block full few there none = let e = one_less known (record { block = block; full = full }) none p.blocks.count there in omega (arith, e, few)

  branch : (known : KnownBlocks) (block : ℕ) → block < p.blocks.count → known block ≡ None
      → ShortTree p (with_block known block true) → ShortTree p (with_block known block false) → ShortTree p known
  branch known block there none (t, is, short) (u, too, brief) =
      (splits block t u, ((there, none), is, too), (lt-ltb block 10000000000 (omega (arith, there, count)), each-append _ (tree_entries t) (tree_entries u) short brief))

  pub some_tree : (left : ℕ) (known : KnownBlocks) → undecided known p.blocks.count ≤ left → ShortTree p known
  some_tree zero known few = by (some_undecided known p.blocks.count)
    where
      by : ((block : ℕ) × (block < p.blocks.count) × (known block ≡ None)) ⊎ ((block : ℕ) → block < p.blocks.count → known block ≢ None) → ShortTree p known
      by (inl (block, there, none)) = absurd (let e = one_less known (record { block = block; full = true }) none p.blocks.count there in omega (arith, e, few))
      by (inr all) = leaf known all
  some_tree (suc left) known few = by (some_undecided known p.blocks.count) (λ k l. some_tree left k l)
    where
      by : ((block : ℕ) × (block < p.blocks.count) × (known block ≡ None)) ⊎ ((block : ℕ) → block < p.blocks.count → known block ≢ None)
          → ((k : KnownBlocks) → undecided k p.blocks.count ≤ left → ShortTree p k) → ShortTree p known
      by (inl (block, there, none)) again = branch known block there none
          (again (with_block known block true) (less_left known left block true few there none))
          (again (with_block known block false) (less_left known left block false few there none))
      by (inr all) again = leaf known all
