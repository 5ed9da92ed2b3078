-- A row of made cubes has few live prefixes, and few of full length.
use Rattle.std.proofs.Common.{◌≡◌, ◌+◌, ◌<◌, ◌≤◌, Bool, true, false, not, ℕ, zero, suc, ◌-◌, List, [], ◌∷◌, ◌++◌, length, take, drop, map, Some, IsTrue, refl, ap, sym, subst, ◌∙◌, append_assoc, arith}
use Rattle.std.specs.List.{list_all}
use Rattle.std.proofs.lemmas.Bool.{false≢true, and_from, false_from_ne_true, not_from_false}
use Rattle.std.proofs.lemmas.List.{get_or-drop, get_or-take, drop-drop, length-drop, length-take-le}
use Rattle.std.proofs.lemmas.Option.{slice_get-get_or}
use Rattle.solid_model.specs.declared.frame.View.TheVariants.{Front}
use Rattle.solid_model.specs.Blocks.{ProblemParts}
use Rattle.solid_model.specs.Demands.{said_by}
use Rattle.solid_model.specs.Forcing.{IsLive, is_live}
use Rattle.lemmas.specs.Lists.{Member}
use Rattle.solid_model.specs.Tree.{live_count, live_below}
use Rattle.lemmas.proofs.Lists.{member-map}
use Rattle.column_laws.proofs.LiveComputed.{live_computed}
use Rattle.drawing_maker.specs.declared.cube.Cube.{Cube}
use Rattle.drawing_maker.specs.Made.{made_cubes}
use Rattle.drawing_maker.specs.Cubes.{cube_side}
use Rattle.made_laws.specs.RowBlocks.{block_count, cubelet_block, row_block_count}
use Rattle.made_laws.proofs.CountsOfRows.{most_in_row, few_prefixes_of_made, few_solids_of_made}
use Rattle.made_laws.proofs.DemandedBlocks.{sum_with}
use Rattle.made_laws.proofs.DemandedCells.{first_not_empty, voids_not_full}
use Rattle.made_laws.proofs.DemandedColumns.{IsProblemOf}
use Rattle.made_laws.proofs.DemandedCubes.{CubeletColumn, cubelet_in, column_blocks, void_columns, says_full, allowed_values, rule_of, all_images_pass, places_in, no_void_in, last_is_solid, each_void_column}
use Rattle.made_laws.proofs.DemandedPlaces.{around}
use Rattle.lemmas.proofs.Ranges.{member-range}
use Rattle.lemmas.proofs.Tests.{passes_all}
use Rattle.drawing_maker.proofs.RowUnion.{has_side}
use Rattle.made_laws.proofs.Parts.{Fits, all_sizes, live_in_parts, whole_in_parts}

-- ---- what a prefix says of a part of it

module _ (prefix : List Bool) (from size : ℕ) (decided : from + size ≤ length prefix) where
  -- the values of the part
  abbrev values : List Bool
  values = take size (drop from prefix)

  -- each of them is what the prefix says
  said_at : (k : ℕ) → k < size → said_by prefix (from + k) ≡ Some (says_full values k)
  said_at k l =
      slice_get-get_or prefix (from + k) false (omega arith)
      ∙ ap Some (sym (get_or-take size (drop from prefix) k false l ∙ get_or-drop from prefix k false))

  full_within : (xs : List Bool) (k : ℕ) → says_full xs k ≡ true → k < length xs
  full_within [] k e = absurd (false≢true e)
  full_within (x ∷ xs) zero e = omega arith
  full_within (x ∷ xs) (suc k) e = omega (arith, full_within xs k e)

  -- one that is full is within it
  said_full : (k : ℕ) → says_full values k ≡ true → said_by prefix (from + k) ≡ Some true
  said_full k e =
      said_at k (omega (arith, full_within values k e, length-take-le size (drop from prefix) (omega (arith, length-drop from prefix))))
      ∙ ap Some e

-- ---- one cube

module _ (before : List Cube) (p : Cube) (behind : List Cube) (q : ProblemParts) (is : IsProblemOf (around before p behind) q)
    (prefix : List Bool) (live : IsLive q prefix) (decided : row_block_count before + block_count p.kind ≤ length prefix) where
  -- the values of the cube's blocks
  abbrev own_values : List Bool
  own_values = values prefix (row_block_count before) (block_count p.kind) decided

  said_own : (k : ℕ) → k < block_count p.kind → said_by prefix (row_block_count before + k) ≡ Some (says_full own_values k)
  said_own = said_at prefix (row_block_count before) (block_count p.kind) decided

  -- the block of its full cells is full,
  first_is_full : says_full own_values 0 ≡ true
  first_is_full = by (says_full own_values 0) refl
    where
      by : (b : Bool) → says_full own_values 0 ≡ b → says_full own_values 0 ≡ true
      by true e = e
      by false e =
          let side = has_side p.kind in
          let last = cube_side p.kind - 1 in
          absurd (first_not_empty before p behind q is Front 0 last side (omega arith) prefix live (omega arith)
          (λ m l. no_void_in p.kind Front 0 last m (last_is_solid p.kind) l) (said_own 0 (omega arith) ∙ ap Some e))

  -- and of each column with a void not all blocks are
  not_all_full : (c : CubeletColumn) → Member (void_columns p.kind) c → not (list_all (says_full own_values) (column_blocks p.kind c)) ≡ true
  not_all_full c k = not_from_false (list_all (says_full own_values) (column_blocks p.kind c))
      (false_from_ne_true (list_all (says_full own_values) (column_blocks p.kind c)) (λ full.
      let is_column = each_void_column p.kind c k in
      voids_not_full before p behind q is c.view c.right c.up is_column.right (omega (arith, is_column.up)) prefix live is_column.up is_column.void
      (λ m l. no_void_in p.kind c.view c.right (suc c.up) m is_column.beside l)
      (said_own 0 (omega arith) ∙ ap Some first_is_full)
      (λ m l. said_full prefix (row_block_count before) (block_count p.kind) decided (cubelet_block p.kind (cubelet_in c.view c.right c.up m))
      (passes_all (says_full own_values) (column_blocks p.kind c) (cubelet_block p.kind (cubelet_in c.view c.right c.up m)) full
      (member-map (λ m. cubelet_block p.kind (cubelet_in c.view c.right c.up m)) (places_in p.kind) m (member-range (cube_side p.kind) 0 m (omega arith) (omega arith)))))))

  pub values_allowed : allowed_values p.kind own_values ≡ true
  values_allowed = and_from (says_full own_values 0) (list_all (λ blocks. not (list_all (says_full own_values) blocks)) (map (column_blocks p.kind) (void_columns p.kind)))
      first_is_full (all_images_pass (column_blocks p.kind) (λ blocks. not (list_all (says_full own_values) blocks)) (void_columns p.kind) not_all_full)

-- ---- the whole row

sizes_of_rules : (ps : List Cube) → all_sizes (map rule_of ps) ≡ row_block_count ps
sizes_of_rules [] = refl
sizes_of_rules (p ∷ ps) = ap (λ n. block_count p.kind + n) (sizes_of_rules ps) ∙ sym (sum_with p ps)

blocks_of_both : (before behind : List Cube) → row_block_count (before ++ behind) ≡ row_block_count before + row_block_count behind
blocks_of_both [] behind = omega arith
blocks_of_both (p ∷ before) behind = omega (arith, sum_with p (before ++ behind), sum_with p before, blocks_of_both before behind)

module _ (ps : List Cube) (q : ProblemParts) (is : IsProblemOf ps q) (prefix : List Bool) (live : IsLive q prefix) where
  -- from each cube on, a live prefix fits the rules
  fits_from : (before behind : List Cube) → before ++ behind ≡ ps → Fits (map rule_of behind) (drop (row_block_count before) prefix)
  fits_from before [] e = tt
  fits_from before (p ∷ behind) e = λ long.
      let decided : row_block_count before + block_count p.kind ≤ length prefix = omega (arith, long, length-drop (row_block_count before) prefix) in
      let moved : (before ++ p ∷ []) ++ behind ≡ ps = append_assoc before (p ∷ []) behind ∙ e in
      let counted : row_block_count (before ++ p ∷ []) ≡ row_block_count before + block_count p.kind = omega (arith, blocks_of_both before (p ∷ []), sum_with p []) in (
        values_allowed before p behind q (subst (λ qs. IsProblemOf qs q) (sym e) is) prefix live decided,
        subst (Fits (map rule_of behind)) (ap (λ n. drop n prefix) counted ∙ sym (drop-drop (block_count p.kind) (row_block_count before) prefix)) (fits_from (before ++ p ∷ []) behind moved),
      )

module _ (ps : List Cube) (q : ProblemParts) (is : IsProblemOf ps q) where
  all_fit : (prefix : List Bool) → IsTrue (is_live q prefix) → Fits (map rule_of ps) prefix
  all_fit prefix e = fits_from ps q is prefix ((live_computed q is.blocks prefix).0 e) [] ps refl

  count_is : all_sizes (map rule_of ps) ≡ q.blocks.count
  count_is = sizes_of_rules ps ∙ sym is.count

  -- its live prefixes are at most as many as the rules of its cubes allow,
  pub live_in_row : live_count (is_live q) q.blocks.count [] ≤ most_in_row 1 ps
  live_in_row = live_in_parts (is_live q) (map rule_of ps) q.blocks.count count_is all_fit

  -- and so are those of full length
  pub whole_in_row : length (live_below (is_live q) q.blocks.count []) ≤ most_in_row 0 ps
  whole_in_row = whole_in_parts (is_live q) (map rule_of ps) q.blocks.count count_is all_fit

-- ---- the cubes of a number

module _ (n : ℕ) (q : ProblemParts) (is : IsProblemOf (made_cubes n) q) where
  pub few_live : live_count (is_live q) q.blocks.count [] ≤ 1000000
  few_live = omega (arith, live_in_row (made_cubes n) q is, few_prefixes_of_made n)

  pub few_solids : length (live_below (is_live q) q.blocks.count []) ≤ 4096
  few_solids = omega (arith, whole_in_row (made_cubes n) q is, few_solids_of_made n)
