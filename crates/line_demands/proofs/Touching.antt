-- The lines that are listed with a block are those that touch it.
use Rattle.std.proofs.Common.{◌≡◌, inl, inr, Bool, true, false, if◌then◌else◌, ◌||◌, ◌==◌, ℕ, suc, ◌+◌, ◌<◌, ℤ, pos, ◌-ℤ◌, List, [], ◌∷◌, ◌++◌, length, map, get_or, refl, ap, ap₂, sym, subst, ◌∙◌, arith}
use Rattle.std.specs.List.{list_any, filter, range_with_len}
use Rattle.std.proofs.lemmas.Bool.{cases_Bool, cases_lt, and_right, and_left, le-ltb, false≢true, both_ways}
use Rattle.std.proofs.lemmas.List.{get_or_append_left, get_or_default}
use Rattle.std.proofs.lemmas.List.Folds.{list_any_none, list_any_at}
use Rattle.std.proofs.lemmas.List.FromFn.{length-range_with_len, get_or-range_with_len}
use Rattle.std.proofs.Math.Seq.{get_or-append_seam}
use Rattle.line_demands.specs.declared.known.KnownColumn.{KnownColumn}
use Rattle.line_demands.specs.declared.lines.Beside.{Beside}
use Rattle.line_demands.specs.declared.spans.Span.{Span}
use Rattle.line_demands.specs.Touching.{is_of}
use Rattle.line_demands.specs.Plans.{is_listed}
use Rattle.line_demands.specs.Gathered.{block_of_column, AreGatheredTo, AreTouchedTo, no_side, hits}
use Rattle.line_demands.specs.KeptColumns.{column_count, IsColumnOf, AreSides}
use Rattle.line_demands.specs.Touching.{block_beside, touches, lines_touching}
use Rattle.line_demands.proofs.CellsBeside.{none_at}
use Rattle.line_demands.proofs.ColumnPlaces.{number_inside}
use Rattle.line_demands.proofs.KeptColumns.{same_shown, in_width, in_height}
use Rattle.line_demands.proofs.Planned.{block_own}
use Rattle.solid_model.specs.declared.line_id.LineId.{LineId}
use Rattle.solid_model.specs.Blocks.{ProblemParts, IsBlocksOf, block_at}
use Rattle.solid_model.specs.Demands.{box_cell_in}
use Rattle.solid_model.specs.Frames.{frame_of}
use Rattle.solid_model.specs.WalledBoxes.{is_below}
use Rattle.solid_model.specs.GridBox.{grid_sizes, axis_along, axis_across}
use Rattle.lemmas.specs.Counts.{one_if, times_listed}

-- ---- lists

not_there : (b : ℕ) (xs : List ℕ) → times_listed b xs ≡ 0 → is_listed b xs ≡ false
not_there b [] none = refl
not_there b (x ∷ xs) none =
    let e : times_listed b (x ∷ xs) ≡ one_if (x == b) + times_listed b xs = refl in
    elim (cases_Bool (x == b)) as (λ _. ((x == b) || is_listed b xs) ≡ false) [
      | inl is ↦ absurd (let f = ap one_if is in omega arith)
      | inr off ↦ ap (λ t. t || is_listed b xs) off ∙ not_there b xs (let f = ap one_if off in omega arith)
    ]

no_times : (b : ℕ) (xs : List ℕ) → is_listed b xs ≡ false → times_listed b xs ≡ 0
no_times b [] off = refl
no_times b (x ∷ xs) off =
    let e : times_listed b (x ∷ xs) ≡ one_if (x == b) + times_listed b xs = refl in
    let parts = both_off (x == b) (is_listed b xs) off in
    let f = ap one_if parts.0 in let g = no_times b xs parts.1 in omega arith
  where
    both_off : (s t : Bool) → (s || t) ≡ false → (s ≡ false) × (t ≡ false)
    both_off true t o = absurd (false≢true (sym o))
    both_off false t o = (refl, o)

either_any : (f g : ℕ → Bool) (xs : List ℕ) → list_any (λ k. f k || g k) xs ≡ (list_any f xs || list_any g xs)
either_any f g [] = refl
either_any f g (x ∷ xs) = ap (λ t. (f x || g x) || t) (either_any f g xs) ∙ swap (f x) (g x) (list_any f xs) (list_any g xs)
  where
    swap : (a b c d : Bool) → ((a || b) || (c || d)) ≡ ((a || c) || (b || d))
    swap true b c d = refl
    swap false true true d = refl
    swap false true false d = refl
    swap false false c d = refl

-- of some items, numbered, those that a test of the numbers keeps are those that a test of what stands for them keeps
kept_items : {A B : Type 0} (p : B → Bool) (item : A → B) (xs : List A) (q : ℕ → Bool) (get : ℕ → B) (a : ℕ)
    → ((i : ℕ) (d : A) → i < length xs → (q (a + i) ≡ p (item (get_or xs i d))) × (get (a + i) ≡ item (get_or xs i d)))
    → map get (filter q (range_with_len a (length xs))) ≡ filter p (map item xs)
kept_items p item [] q get a same = refl
kept_items {A} {B} p item (x ∷ xs) q get a same =
    let rest = kept_items p item xs q get (a + 1) (λ i d l. let e : a + 1 + i ≡ a + suc i = omega arith in let at = same (suc i) d (omega arith) in (ap q e ∙ at.0, ap get e ∙ at.1)) in
    let e : a ≡ a + 0 = omega arith in
    let at = same 0 x (omega arith) in
    ap (λ (t : Bool). map get (if t then a ∷ filter q (range_with_len (a + 1) (length xs)) else filter q (range_with_len (a + 1) (length xs)))) (ap q e ∙ at.0)
    ∙ by (p (item x)) rest (ap get e ∙ at.1)
  where
    by : (t : Bool) → map get (filter q (range_with_len (a + 1) (length xs))) ≡ filter p (map item xs) → get a ≡ item x
        → map get (if t then a ∷ filter q (range_with_len (a + 1) (length xs)) else filter q (range_with_len (a + 1) (length xs)))
        ≡ (if t then item x ∷ filter p (map item xs) else filter p (map item xs))
    by true r f = ap₂ (λ (y : B) ys. y ∷ ys) f r
    by false r f = r

module _ (p : ProblemParts) (blocks : IsBlocksOf p.grid p.blocks) (spans : List (List Span)) (columns : List KnownColumn) (on : List (List ℕ))
    (gathered : AreGatheredTo p (column_count (grid_sizes p.grid)) spans columns on) where
  -- the blocks of a column beside a line
  there_beside : (b : ℕ) (l : LineId) (j : ℤ) (c : ℕ) → l.cell < grid_sizes p.grid (axis_along l.view l.upright) → IsColumnOf (grid_sizes p.grid) l j c
      → is_listed b (get_or (on ++ [] ∷ []) c []) ≡ list_any (λ k. is_of b (block_beside p l j k)) (range_with_len 0 (grid_sizes p.grid (frame_of l.view).away.axis))
  there_beside b l j c cell (inr beyond) =
      ap (is_listed b) (ap (λ n. get_or (on ++ [] ∷ []) n []) (beyond.1 ∙ sym gathered.count_on) ∙ get_or-append_seam on [] [] [])
      ∙ sym (list_any_none (λ k. is_of b (block_beside p l j k)) (range_with_len 0 (grid_sizes p.grid (frame_of l.view).away.axis))
      (λ i d m. ap (is_of b) (none_at p blocks l j _ (and_left (is_below (grid_sizes p.grid (axis_across l.view l.upright)) j) _ beyond.0))))
  there_beside b l j c cell (inl at) = elim (cases_Bool (is_listed b (get_or on c []))) as (λ _. is_listed b (get_or (on ++ [] ∷ []) c []) ≡ list_any f depths) [
    | inl some ↦ listed ∙ some ∙ sym (elim (cases_Bool (list_any f depths)) as (λ _. list_any f depths ≡ true) [
      | inl any ↦ any
      | inr none ↦ absurd (both_ways (is_listed b (get_or on c [])) (not_there b (get_or on c []) ((gathered.which c b [] inside).1 (λ k. same k ∙ each none k))) some)
    ])
    | inr off ↦ listed ∙ off ∙ sym (list_any_none f depths (λ i d m. sym (same _) ∙ (gathered.which c b [] inside).0 (zero off) _))
  ]
    where
      f : ℕ → Bool
      f k = is_of b (block_beside p l j k)

      depths : List ℕ
      depths = range_with_len 0 (grid_sizes p.grid (frame_of l.view).away.axis)

      inside : c < column_count (grid_sizes p.grid)
      inside = subst (λ n. n < column_count (grid_sizes p.grid)) (sym at.3) (number_inside (grid_sizes p.grid) l.view _ _
          (in_width (grid_sizes p.grid) l.view l.upright at.0 l.cell at.2 cell) (in_height (grid_sizes p.grid) l.view l.upright at.0 l.cell at.2 cell))

      listed : is_listed b (get_or (on ++ [] ∷ []) c []) ≡ is_listed b (get_or on c [])
      listed = ap (is_listed b) (get_or_append_left on ([] ∷ []) [] c (let e = gathered.count_on in let g : c < column_count (grid_sizes p.grid) = inside in omega arith))

      same : (k : ℕ) → is_of b (block_of_column p c k) ≡ f k
      same k = ap (λ n. is_of b (block_of_column p n k)) at.3
          ∙ ap (is_of b) (block_own p blocks spans columns on gathered l.view _ _ k (in_width (grid_sizes p.grid) l.view l.upright at.0 l.cell at.2 cell) (in_height (grid_sizes p.grid) l.view l.upright at.0 l.cell at.2 cell))
          ∙ ap (λ n. is_of b (block_at p.blocks n)) (same_shown (grid_sizes p.grid) l.view l.upright at.0 l.cell (pos k)
          ∙ ap (λ x. box_cell_in (grid_sizes p.grid) (frame_of l.view) l.upright (pos l.cell) x (pos k)) (sym at.1))

      each : list_any f depths ≡ false → (k : ℕ) → f k ≡ false
      each none k = elim (cases_lt k (grid_sizes p.grid (frame_of l.view).away.axis)) as (λ _. f k ≡ false) [
        | inl m ↦ elim (cases_Bool (f k)) as (λ _. f k ≡ false) [
          | inl is ↦ absurd (both_ways (list_any f depths) none (list_any_at f depths k 0 (let e = length-range_with_len 0 (grid_sizes p.grid (frame_of l.view).away.axis) in omega arith)
              (ap f (get_or-range_with_len 0 (grid_sizes p.grid (frame_of l.view).away.axis) k 0 m ∙ (let e : 0 + k ≡ k = omega arith in e)) ∙ is)))
          | inr off ↦ off
        ]
        | inr far ↦ ap (is_of b) (none_at p blocks l j (pos k) (and_right (is_below (grid_sizes p.grid (axis_across l.view l.upright)) j) _ (le-ltb k (grid_sizes p.grid (frame_of l.view).away.axis) far)))
      ]

      zero : is_listed b (get_or on c []) ≡ false → times_listed b (get_or on c []) ≡ 0
      zero off = no_times b (get_or on c []) off

  module _ (sides : List Beside) (lines : AreSides p sides) (touched : List (List ℕ)) (listed : AreTouchedTo sides (on ++ [] ∷ []) p.blocks.count (length sides) touched) where
    pub touched_exact : (b : ℕ) (ls : List ℕ) (d : Beside) → b < length spans → map (λ i. (get_or sides i d).line) (get_or touched b ls) ≡ lines_touching p b
    touched_exact b ls d l = ap (map (λ i. (get_or sides i d).line)) (listed.lists b ls (let e = gathered.count in omega arith))
        ∙ kept_items (touches p b) (λ (s : Beside). s.line) sides (hits sides (on ++ [] ∷ []) b) (λ i. (get_or sides i d).line) 0 (λ i e m. (hit i e m, item i e m))
        ∙ ap (filter (touches p b)) lines.listed
      where
        item : (i : ℕ) (e : Beside) → i < length sides → (get_or sides (0 + i) d).line ≡ (get_or sides i e).line
        item i e m = (let zero_in : 0 + i ≡ i = omega arith in ap (λ n. (get_or sides n d).line) zero_in) ∙ ap (λ (s : Beside). s.line) (get_or_default sides i d e m)

        hit : (i : ℕ) (d : Beside) → i < length sides → hits sides (on ++ [] ∷ []) b (0 + i) ≡ touches p b (get_or sides i d).line
        hit i d m =
            let s = get_or sides i d in
            let is = lines.each i d m in
            let same = get_or_default sides i no_side d m in
            let zero_in : 0 + i ≡ i = omega arith in
            ap (hits sides (on ++ [] ∷ []) b) zero_in
            ∙ ap (λ (x : Beside). is_listed b (get_or (on ++ [] ∷ []) x.after []) || is_listed b (get_or (on ++ [] ∷ []) x.before [])) same
            ∙ ap₂ ◌||◌ (there_beside b s.line (pos s.line.at) s.after is.cell is.after) (there_beside b s.line (pos s.line.at -ℤ pos 1) s.before is.cell is.before)
            ∙ sym (either_any (λ k. is_of b (block_beside p s.line (pos s.line.at) k)) (λ k. is_of b (block_beside p s.line (pos s.line.at -ℤ pos 1) k)) (range_with_len 0 (grid_sizes p.grid (frame_of s.line.view).away.axis)))
