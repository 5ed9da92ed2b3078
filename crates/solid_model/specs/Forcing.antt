-- Which decisions the lines of a grid force, and which prefixes are live. What lives is said of anything that is known of
-- the blocks, and not of prefixes alone: so one lemma, that what lives under more decisions lives under fewer, carries that
-- the tree is closed, that it reaches each matching solid, and that one chain tells it.
use Rattle.std.specs.Prelude.{◌≡◌, ◌==◌, Bool, true, false, not, ◌&&◌, ℕ, zero, suc, ◌≤◌, nat_le, List, [], ◌∷◌, ◌++◌, length, map, ℤ, pos, negsuc, ◌-ℤ◌, Option, Some, None, IsTrue, if◌then◌else◌}
use Rattle.std.specs.List.{flat_map, list_all, range_with_len}
use Rattle.solid_model.specs.declared.cell.Cell.{Cell}
use Rattle.solid_model.specs.declared.decision.Decision.{Decision}
use Rattle.solid_model.specs.declared.line_id.LineId.{LineId}
use Rattle.solid_model.specs.Blocks.{ProblemParts, block_at}
use Rattle.solid_model.specs.Columns.{ColumnsDraw}
use Rattle.solid_model.specs.Demands.{has_line, line_style, lines_of, said_by, known_cell, box_cell_in, known_after, known_before, AgreesWith, AllMet, can_draw, can_be_met}
use Rattle.solid_model.specs.Frames.{frame_of}
use Rattle.solid_model.specs.GridBox.{grid_sizes}
use Rattle.solid_model.specs.Panels.{GridParts}

-- ---- decisions

-- what is known of the blocks with a decision more,
abbrev pub known_with : (ℕ → Option Bool) → Decision → ℕ → Option Bool
known_with known d block = if d.block == block then Some d.full else known block

-- and with some more, one after another
abbrev pub known_by : (ℕ → Option Bool) → List Decision → ℕ → Option Bool
known_by known [] = known
known_by known (d ∷ ds) = known_by (known_with known d) ds

-- whatever is known of a block is known with more too
abbrev pub IsLess : (ℕ → Option Bool) → (ℕ → Option Bool) → Type 0
IsLess known more = (block : ℕ) (value : Bool) → known block ≡ Some value → more block ≡ Some value

-- ---- cells beside a line

-- the place across a line of the column after it, or of the one before it
abbrev pub place_beside : LineId → Bool → ℤ
place_beside l true = pos l.at
place_beside l false = pos l.at -ℤ pos 1

-- the cell of that column at a depth
abbrev pub cell_beside : GridParts → LineId → Bool → ℤ → Cell
cell_beside g l of_after k = box_cell_in (grid_sizes g) (frame_of l.view) l.upright (pos l.cell) (place_beside l of_after) k

-- Some pair of columns beside a line that agrees with every decided cell, and has this value in this cell, draws its style.
abbrev pub CanBeMetWith : ProblemParts → (ℕ → Option Bool) → LineId → Bool → ℤ → Bool → Type 0
CanBeMetWith p known l of_after k value = (after before : ℤ → Bool)
    × AgreesWith (known_after p.grid (known_cell p.blocks known) l) after × AgreesWith (known_before p.grid (known_cell p.blocks known) l) before
    × ((if of_after then after k else before k) ≡ value) × ColumnsDraw after before (line_style p.grid l)

-- ---- forced decisions

-- A line excludes a value of a block: it can't be met with that value in some cell of the block beside it.
abbrev pub LineExcludes : ProblemParts → (ℕ → Option Bool) → LineId → ℕ → Bool → Type 0
LineExcludes p known l block value = (of_after : Bool) × (k : ℤ)
    × (block_at p.blocks (cell_beside p.grid l of_after k) ≡ Some block) × (CanBeMetWith p known l of_after k value → ⊥)

-- some line excludes a value of an undecided block
abbrev pub IsExcluded : ProblemParts → (ℕ → Option Bool) → ℕ → Bool → Type 0
IsExcluded p known block value = (known block ≡ None) × (l : LineId) × IsTrue (has_line p.grid l) × LineExcludes p known l block value

-- A forcing chain: each decision gives an undecided block the opposite of a value that the decisions before it exclude.
abbrev pub IsForced : ProblemParts → (ℕ → Option Bool) → List Decision → Type 0
IsForced p known [] = Unit {0}
IsForced p known (d ∷ ds) = IsExcluded p known d.block (not d.full) × IsForced p (known_with known d) ds

-- under every forcing chain every line can still be met
abbrev pub Lives : ProblemParts → (ℕ → Option Bool) → Type 0
Lives p known = (chain : List Decision) → IsForced p known chain → AllMet p (known_by known chain)

-- every line can be met, and nothing is excluded
pub record IsStable (p : ProblemParts) (known : ℕ → Option Bool) : Type 0 where
  pub met : AllMet p known
  pub none : (block : ℕ) (value : Bool) → IsExcluded p known block value → ⊥

-- A prefix says for some of the first blocks whether they are full. It is live where under every forcing chain from it every line
-- can still be met.
pub record IsLive (p : ProblemParts) (prefix : List Bool) : Type 0 where
  pub short : length prefix ≤ p.blocks.count
  pub lives : Lives p (said_by prefix)

-- what says at least so much as both, and lives
abbrev pub LivesBeyond : ProblemParts → (ℕ → Option Bool) → (ℕ → Option Bool) → Type 0
LivesBeyond p known more = (most : ℕ → Option Bool) × IsLess known most × IsLess more most × Lives p most

-- Whatever lives and says the one can go on to what says the other too, and lives.
abbrev pub IsImplied : ProblemParts → (ℕ → Option Bool) → (ℕ → Option Bool) → Type 0
IsImplied p known implied = (more : ℕ → Option Bool) → IsLess known more → Lives p more → LivesBeyond p implied more

-- ---- the same, computed

-- what is known of a column, with a value at a depth,
abbrev pub with_value : ℕ → Bool → (ℤ → Option Bool) → ℤ → Option Bool
with_value depth value known (pos k) = if k == depth then Some value else known (pos k)
with_value depth value known (negsuc k) = known (negsuc k)

-- where it is this column
abbrev pub with_value_if : Bool → ℕ → Bool → (ℤ → Option Bool) → ℤ → Option Bool
with_value_if this depth value known = if this then with_value depth value known else known

-- the depths of the columns beside a line
abbrev pub depths_at : GridParts → LineId → List ℕ
depths_at g l = range_with_len 0 (grid_sizes g (frame_of l.view).away.axis)

-- the line can be met with a value in an undecided cell beside it
abbrev pub can_be_met_with : ProblemParts → (ℕ → Option Bool) → LineId → Bool → ℕ → Bool → Bool
can_be_met_with p known l of_after depth value = can_draw (line_style p.grid l)
    (map (λ k. record {
      after = with_value_if of_after depth value (known_after p.grid (known_cell p.blocks known) l) (pos k);
      before = with_value_if (not of_after) depth value (known_before p.grid (known_cell p.blocks known) l) (pos k);
    }) (depths_at p.grid l))

-- The decision on a block that a line forces by one of its cells, which can have some values: where the block is undecided, it
-- is the opposite of a value that can't be.
abbrev pub forced_if : ℕ → (Bool → Bool) → Option Bool → List Decision
forced_if block can (Some value) = []
forced_if block can None = if not (can false) then record { block = block; full = true } ∷ [] else
    (if not (can true) then record { block = block; full = false } ∷ [] else [])

-- where the cell has a block
abbrev pub forced_in : Option ℕ → (ℕ → Option Bool) → (Bool → Bool) → List Decision
forced_in None known can = []
forced_in (Some block) known can = forced_if block can (known block)

-- what a cell beside a line forces
abbrev pub forced_at : ProblemParts → (ℕ → Option Bool) → LineId → Bool → ℕ → List Decision
forced_at p known l of_after depth = forced_in (block_at p.blocks (cell_beside p.grid l of_after (pos depth))) known (can_be_met_with p known l of_after depth)

-- the decisions that a line forces
abbrev pub forced_on : ProblemParts → (ℕ → Option Bool) → LineId → List Decision
forced_on p known l = flat_map (forced_at p known l true) (depths_at p.grid l) ++ flat_map (forced_at p known l false) (depths_at p.grid l)

-- all that are forced
abbrev pub all_forced : ProblemParts → (ℕ → Option Bool) → List Decision
all_forced p known = flat_map (forced_on p known) (lines_of p.grid)

-- the first of some decisions, and those that it leads to
abbrev pub chain_on : (Decision → List Decision) → List Decision → List Decision
chain_on on [] = []
chain_on on (d ∷ others) = d ∷ on d

-- a forcing chain of at most so many: each time the first decision that is forced
abbrev pub forced_chain : ProblemParts → ℕ → (ℕ → Option Bool) → List Decision
forced_chain p zero known = []
forced_chain p (suc more) known = chain_on (λ d. forced_chain p more (known_with known d)) (all_forced p known)

-- what is known at the end of one that can't be longer
abbrev pub known_closed : ProblemParts → (ℕ → Option Bool) → ℕ → Option Bool
known_closed p known = known_by known (forced_chain p p.blocks.count known)

-- a prefix is live: it needs no other forcing chain
abbrev pub is_live : ProblemParts → List Bool → Bool
is_live p prefix = nat_le (length prefix) p.blocks.count && list_all (can_be_met p (known_closed p (said_by prefix))) (lines_of p.grid)
