-- Lines that exclude nothing, or are still to be looked at.
use Rattle.std.proofs.Common.{◌⊎◌, ◌≡◌, ◌==◌, Bool, true, false, ℕ, zero, suc, ◌<◌, ◌≤◌, ◌+◌, List, [], ◌∷◌, ◌++◌, ◌%◌, length, take, drop, slice_get, ℤ, pos, negsuc, ◌-ℤ◌, Option, Some, None, IsTrue, if◌then◌else◌, ◌||◌, inl, inr, refl, ap, sym, subst, ◌∙◌, append_assoc, arith}
use Rattle.std.specs.Prelude.{IfSome}
use Rattle.std.specs.List.{range_with_len}
use Rattle.std.proofs.lemmas.Bool.{eqb-true, eq-eqb, both_ways, cases_lt, or_left, or_right}
use Rattle.std.proofs.lemmas.List.{append-nil, length-append, length-take-le, take-append-drop}
use Rattle.std.proofs.lemmas.List.Folds.{list_any_at}
use Rattle.std.proofs.lemmas.List.FromFn.{length-range_with_len, get_or-range_with_len}
use Rattle.std.proofs.lemmas.Option.{none-some, same_Some, slice_get_within, get_or_from_slice_get}
use Rattle.line_demands.specs.Free.{LeavesFree, LeaveFreeBut}
use Rattle.line_demands.specs.Touching.{is_of, block_beside, touches, lines_touching}
use Rattle.column_laws.proofs.AllLines.{lines_are_listed, lines_are_there}
use Rattle.line_demands.proofs.Gathering.{block_below}
use Rattle.propagate.specs.Closing.{Awaits, IsHandled}
use Rattle.line_demands.specs.Excluding.{ExcludesOpen}
use Rattle.propagate.specs.Forced.{IsCalm}
use Rattle.solid_model.proofs.DecidedMore.{decided_push}
use Rattle.propagate.proofs.Chains.{at_before}
use Rattle.line_demands.proofs.LineCells.{none_before, none_behind}
use Rattle.solid_model.specs.declared.decision.Decision.{Decision}
use Rattle.solid_model.specs.declared.line_id.LineId.{LineId}
use Rattle.solid_model.specs.Blocks.{ProblemParts, IsBlocksOf, block_at}
use Rattle.solid_model.specs.Columns.{ColumnsDraw}
use Rattle.lemmas.specs.Bits.{is_set}
use Rattle.solid_model.specs.Decisions.{decided_by, AreDecisions}
use Rattle.solid_model.specs.Demands.{has_line, line_style, lines_of, known_in, known_cell, known_after, known_before, AgreesWith, AllMet, CanBeMet}
use Rattle.solid_model.specs.Forcing.{known_with, cell_beside, IsLess}
use Rattle.solid_model.specs.Frames.{frame_of}
use Rattle.solid_model.specs.GridBox.{grid_sizes}
use Rattle.lemmas.specs.Lists.{Member}
use Rattle.lemmas.proofs.Lists.{member-filter, member-from_filter}
use Rattle.lemmas.proofs.ListPlaces.{member-at}
use Rattle.solid_model.proofs.Lives.{less_with, met_less}

-- ---- lines and decisions

module _ (p : ProblemParts) (blocks : IsBlocksOf p.grid p.blocks) (l : LineId) where
  abbrev depths : ℕ
  depths = grid_sizes p.grid (frame_of l.view).away.axis

  -- a line with a cell of a block beside it touches the block
  pub touches_by : (block : ℕ) (of_after : Bool) (k : ℤ) → block_at p.blocks (cell_beside p.grid l of_after k) ≡ Some block → touches p block l ≡ true
  touches_by block of_after (negsuc k) at = absurd (none-some block (sym (none_before p blocks l of_after k) ∙ at))
  touches_by block of_after (pos k) at = elim (cases_lt k depths) as (λ _. touches p block l ≡ true) [
    | inl m ↦ list_any_at here (range_with_len 0 depths) k 0 (let e = length-range_with_len 0 depths in omega arith)
        (ap here (get_or-range_with_len 0 depths k 0 m ∙ (let e : 0 + k ≡ k = omega arith in e)) ∙ one of_after at)
    | inr far ↦ absurd (none-some block (sym (none_behind p blocks l of_after k far) ∙ at))
  ]
    where
      here : ℕ → Bool
      here n = is_of block (block_beside p l (pos l.at) n) || is_of block (block_beside p l (pos l.at -ℤ pos 1) n)

      one : (of_after : Bool) → block_at p.blocks (cell_beside p.grid l of_after (pos k)) ≡ Some block → here k ≡ true
      one true at = or_left _ _ (ap (is_of block) at ∙ eq-eqb block block refl)
      one false at = or_right (is_of block (block_beside p l (pos l.at) k)) _ (ap (is_of block) at ∙ eq-eqb block block refl)

  -- what is known of a cell beside it stays, where it doesn't touch the decision's block
  module _ (known : ℕ → Option Bool) (d : Decision) (apart : touches p d.block l ≡ false) where
    cell_same : (of_after : Bool) (k : ℤ) → known_cell p.blocks (known_with known d) (cell_beside p.grid l of_after k) ≡ known_cell p.blocks known (cell_beside p.grid l of_after k)
    cell_same of_after k = by (block_at p.blocks (cell_beside p.grid l of_after k)) refl
      where
        by : (block : Option ℕ) → block_at p.blocks (cell_beside p.grid l of_after k) ≡ block → known_in (known_with known d) block ≡ known_in known block
        by None at = refl
        by (Some b) at = on (d.block == b) refl
          where
            on : (c : Bool) → (d.block == b) ≡ c → (if c then Some d.full else known b) ≡ known b
            on false e = refl
            on true e = absurd (both_ways (touches p d.block l) apart (touches_by d.block of_after k (at ∙ ap Some (sym (eqb-true d.block b e)))))

    after_same : known_after p.grid (known_cell p.blocks (known_with known d)) l ≡ known_after p.grid (known_cell p.blocks known) l
    after_same t k = cell_same true k t

    before_same : known_before p.grid (known_cell p.blocks (known_with known d)) l ≡ known_before p.grid (known_cell p.blocks known) l
    before_same t k = cell_same false k t

    abbrev MetWith : (ℤ → Option Bool) → (ℤ → Option Bool) → Bool → ℤ → Bool → Type 0
    MetWith a b of_after k value = (after before : ℤ → Bool) × AgreesWith a after × AgreesWith b before × ((if of_after then after k else before k) ≡ value) × ColumnsDraw after before (line_style p.grid l)

    -- so it excludes nothing more
    calm_same : IsCalm p known l → IsCalm p (known_with known d) l
    calm_same calm block value (undecided, (of_after, k, at, out)) = calm block value (
      fewer block undecided,
      (
        of_after,
        k,
        at,
        λ with. out
            (subst (λ a. MetWith a (known_before p.grid (known_cell p.blocks (known_with known d)) l) of_after k value) (sym after_same)
            (subst (λ b. MetWith (known_after p.grid (known_cell p.blocks known) l) b of_after k value) (sym before_same) with)),
      ),
    )
      where
        fewer : (block : ℕ) → known_with known d block ≡ None → known block ≡ None
        fewer block = on (d.block == block)
          where
            on : (c : Bool) → (if c then Some d.full else known block) ≡ None → known block ≡ None
            on false e = e
            on true e = absurd (none-some d.full (sym e))

-- ---- what a line excludes

-- a value of a block that is there, and which the line touches
pub excluded_there : (p : ProblemParts) → IsBlocksOf p.grid p.blocks → (known : ℕ → Option Bool) (l : LineId) (block : ℕ) (value : Bool) → ExcludesOpen p known l block value
    → (block < p.blocks.count) × (touches p block l ≡ true)
excluded_there p blocks known l block value (none, (of_after, k, at, out)) =
    (subst (λ r. IfSome r (λ b. b < p.blocks.count)) at (block_below p blocks (cell_beside p.grid l of_after k)), touches_by p blocks l block of_after k at)

-- none where it leaves the cells beside it free
pub free_calm : (p : ProblemParts) → IsBlocksOf p.grid p.blocks → (known : ℕ → Option Bool) (l : LineId) → LeavesFree p known l → IsCalm p known l
free_calm p blocks known l free block value (none, (of_after, negsuc k, at, out)) = absurd (none-some block (sym (none_before p blocks l of_after k) ∙ at))
free_calm p blocks known l free block value (none, (of_after, pos k, at, out)) = out (free of_after k value (ap (known_in known) at ∙ none))

-- ---- a decision more

pub at_push : {A : Type 0} (xs : List A) (x : A) → slice_get (xs ++ x ∷ []) (length xs) ≡ Some x
at_push [] x = refl
at_push (y ∷ ys) x = at_push ys x

module _ (p : ProblemParts) (blocks : IsBlocksOf p.grid p.blocks) (ds : List Decision) (d : Decision) (undecided : decided_by ds d.block ≡ None) where
  -- a line that touches the new decision's block is to be looked at,
  pub awaits_new : (from : ℕ) → from ≤ length ds → (l : LineId) → touches p d.block l ≡ true → Awaits p (ds ++ d ∷ []) from l
  awaits_new from few l e = (length ds, few, d, at_push ds d, e)

  -- each other one excludes nothing more,
  pub calm_apart : (l : LineId) → touches p d.block l ≡ false → IsCalm p (decided_by ds) l → IsCalm p (decided_by (ds ++ d ∷ [])) l
  calm_apart l apart calm = subst (λ known. IsCalm p known l) (sym (decided_push ds d undecided)) (calm_same p blocks l (decided_by ds) d apart calm)

  -- so all stay handled
  pub handled_on : (from : ℕ) → from ≤ length ds → (l : LineId) → IsHandled p ds from l → IsHandled p (ds ++ d ∷ []) from l
  handled_on from few l (inr (j, above, e, at, touch)) = inr (j, above, e, at_before ds (d ∷ []) j e at, touch)
  handled_on from few l (inl calm) = by (touches p d.block l) refl
    where
      by : (b : Bool) → touches p d.block l ≡ b → IsHandled p (ds ++ d ∷ []) from l
      by true e = inr (awaits_new from few l e)
      by false e = inl (calm_apart l e calm)

-- ---- decisions since

module _ (p : ProblemParts) (blocks : IsBlocksOf p.grid p.blocks) (l : LineId) where
  -- a line stays handled,
  handled_since : (from : ℕ) (ds more : List Decision) → AreDecisions p.blocks.count (ds ++ more) → from ≤ length ds → IsHandled p ds from l → IsHandled p (ds ++ more) from l
  handled_since from ds [] each few handled = subst (λ (xs : List Decision). IsHandled p xs from l) (sym (append-nil ds)) handled
  handled_since from ds (d ∷ more) each few handled =
      let longer : (ds ++ d ∷ []) ++ more ≡ ds ++ d ∷ more = append_assoc ds (d ∷ []) more in
      subst (λ (xs : List Decision). IsHandled p xs from l) longer
      (handled_since from (ds ++ d ∷ []) more (subst (AreDecisions p.blocks.count) (sym longer) each) (omega (arith, length-append ds (d ∷ []), few))
      (handled_on p blocks ds d (each ds more d refl).1 from few l handled))

  -- and one that can be met could be before
  met_since : (ds more : List Decision) → AreDecisions p.blocks.count (ds ++ more) → CanBeMet p (decided_by (ds ++ more)) l → CanBeMet p (decided_by ds) l
  met_since ds [] each met = subst (λ (xs : List Decision). CanBeMet p (decided_by xs) l) (append-nil ds) met
  met_since ds (d ∷ more) each met =
      let longer : (ds ++ d ∷ []) ++ more ≡ ds ++ d ∷ more = append_assoc ds (d ∷ []) more in
      let undecided = (each ds more d refl).1 in
      met_less p (decided_by ds) (decided_by (ds ++ d ∷ [])) (subst (IsLess (decided_by ds)) (sym (decided_push ds d undecided)) (less_with (decided_by ds) d undecided)) l
      (met_since (ds ++ d ∷ []) more (subst (AreDecisions p.blocks.count) (sym longer) each) (subst (λ (xs : List Decision). CanBeMet p (decided_by xs) l) (sym longer) met))

  -- so a line of which it was told that it leaves the cells beside it free is handled beyond the decision
  pub free_handled : (ds : List Decision) → AreDecisions p.blocks.count ds → AllMet p (decided_by ds) → (at block doubts place : ℕ) → at < length ds
      → (d : Decision) × (slice_get ds at ≡ Some d) × (d.block ≡ block) → ((d : Decision) → slice_get ds at ≡ Some d → LeaveFreeBut p (decided_by (take (at + 1) ds)) d.block doubts)
      → slice_get (lines_touching p block) place ≡ Some l → is_set doubts (place % 64) ≡ false → IsHandled p ds (at + 1) l
  free_handled ds each met at block doubts place within (d, taken, is) told there off =
      let split : take (at + 1) ds ++ drop (at + 1) ds ≡ ds = take-append-drop (at + 1) ds in
      let parts = subst (AreDecisions p.blocks.count) (sym split) each in
      let listed : Member (lines_touching p block) l = subst (Member (lines_touching p block)) (get_or_from_slice_get (lines_touching p block) place l l there)
      (member-at (lines_touching p block) place l (slice_get_within (lines_touching p block) place l there)) in
      let can = met l (lines_are_there p.grid l (member-from_filter (touches p block) (lines_of p.grid) l listed).0) in
      let could = met_since (take (at + 1) ds) (drop (at + 1) ds) parts (subst (λ (xs : List Decision). CanBeMet p (decided_by xs) l) (sym split) can) in
      let calm = free_calm p blocks (decided_by (take (at + 1) ds)) l (told d taken place l (subst (λ b. slice_get (lines_touching p b) place ≡ Some l) (sym is) there) off could) in
      subst (λ (xs : List Decision). IsHandled p xs (at + 1) l) split
      (handled_since (at + 1) (take (at + 1) ds) (drop (at + 1) ds) parts (omega (arith, length-take-le (at + 1) ds (omega (arith, within)))) (inl calm))

-- ---- looking at lines one after another

slice_get_below : {A : Type 0} (xs : List A) (k : ℕ) (x : A) → slice_get xs k ≡ Some x → k < length xs
slice_get_below [] k x e = absurd (none-some x e)
slice_get_below (y ∷ xs) zero x e = omega arith
slice_get_below (y ∷ xs) (suc k) x e = omega (arith, slice_get_below xs k x e)

member_here : {A : Type 0} (xs : List A) (k : ℕ) (x m : A) → slice_get xs k ≡ Some x → Member (drop k xs) m → (x ≡ m) ⊎ Member (drop (suc k) xs) m
member_here [] k x m e h = absurd (none-some x e)
member_here (y ∷ xs) zero x m e (inl f) = inl (sym (same_Some y x e) ∙ f)
member_here (y ∷ xs) zero x m e (inr h) = inr h
member_here (y ∷ xs) (suc k) x m e h = member_here xs k x m e h

pub none_left : {A : Type 0} (xs : List A) (k : ℕ) (m : A) → length xs ≤ k → Member (drop k xs) m → ⊥
none_left [] zero m l h = absurd h
none_left [] (suc k) m l h = absurd h
none_left (x ∷ xs) zero m l h = absurd (let z : length (x ∷ xs) ≤ 0 = l in omega arith)
none_left (x ∷ xs) (suc k) m l h = none_left xs k m (omega arith) h

-- a line that was handled up to a decision is handled beyond it, or touches its block
pub handled_past : (p : ProblemParts) (ds : List Decision) (at : ℕ) (d : Decision) → slice_get ds at ≡ Some d → (l : LineId) → IsTrue (has_line p.grid l)
    → IsHandled p ds at l → IsHandled p ds (at + 1) l ⊎ Member (lines_touching p d.block) l
handled_past p ds at d there l has (inl calm) = inl (inl calm)
handled_past p ds at d there l has (inr (j, above, e, is, touch)) = elim (cases_lt at j) as (λ _. IsHandled p ds (at + 1) l ⊎ Member (lines_touching p d.block) l) [
  | inl more ↦ inl (inr (j, omega arith, e, is, touch))
  | inr less ↦ (let same : j ≡ at = omega arith in
      let one : e ≡ d = same_Some e d (sym is ∙ ap (slice_get ds) same ∙ there) in
      inr (member-filter (touches p d.block) (lines_of p.grid) l (lines_are_listed p.grid l has) (subst (λ (f : Decision). touches p f.block l ≡ true) one touch)))
]

-- where no decision is left, a handled line excludes nothing
pub handled_calm : (p : ProblemParts) (ds : List Decision) (at : ℕ) → length ds ≤ at → (l : LineId) → IsHandled p ds at l → IsCalm p (decided_by ds) l
handled_calm p ds at long l (inl calm) = calm
handled_calm p ds at long l (inr (j, above, e, is, touch)) = absurd (let m = slice_get_below ds j e is in omega arith)

-- one line of a list more is looked at
pub left_after : (p : ProblemParts) (Q : LineId → Type 0) (now new : List Decision) (from k : ℕ) (lines : List LineId) (line : LineId) → slice_get lines k ≡ Some line
    → ((m : LineId) → IsTrue (has_line p.grid m) → Q m → IsHandled p now from m ⊎ Member (drop k lines) m)
    → ((m : LineId) → IsHandled p now from m → IsHandled p new from m) → IsHandled p new from line
    → (m : LineId) → IsTrue (has_line p.grid m) → Q m → IsHandled p new from m ⊎ Member (drop (k + 1) lines) m
left_after p Q now new from k lines line there left kept done m has h = by (left m has h)
  where
    by : IsHandled p now from m ⊎ Member (drop k lines) m → IsHandled p new from m ⊎ Member (drop (k + 1) lines) m
    by (inl handled) = inl (kept m handled)
    by (inr rest) = elim (member_here lines k line m there rest) as (λ _. IsHandled p new from m ⊎ Member (drop (k + 1) lines) m) [
      | inl same ↦ inl (subst (IsHandled p new from) same done)
      | inr more ↦ inr (let next : suc k ≡ k + 1 = omega arith in subst (λ n. Member (drop n lines) m) next more)
    ]
