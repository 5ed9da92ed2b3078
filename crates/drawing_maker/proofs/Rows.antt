-- Rows of cubes: where each stands along an axis, and its parts there. No two cubes share a coordinate.
use Rattle.std.proofs.Common.{◌≡◌, ⊎_elim, inl, inr, ℕ, ◌+◌, ◌*◌, ◌<◌, ◌≤◌, List, ◌∷◌, ℤ, pos, ◌≤ℤ◌, ◌<ℤ◌, arith}
use Rattle.std.proofs.Math.Nat.{mul-le-mul_left}
use Rattle.std.proofs.lemmas.Bool.{cases_lt}
use Rattle.std.proofs.lemmas.Int.{ints}
use Rattle.lemmas.specs.Lists.{Member, Each, Ascends}
use Rattle.lemmas.proofs.Lists.{ascends-members}
use Rattle.drawing_maker.specs.declared.cube.Cube.{Cube}
use Rattle.drawing_maker.specs.Cubes.{cube_side}

-- where a cube ends
abbrev pub end_of : Cube → ℕ
end_of p = p.origin + p.scale * cube_side p.kind

-- p ends before q begins
abbrev pub EndsBefore : Cube → Cube → Type 0
EndsBefore p q = end_of p < q.origin

-- cubes in a row: each has some size, and ends before those behind it begin
pub record IsRow (ps : List Cube) : Type 0 where
  pub sized : Each (λ p. 0 < p.scale) ps
  pub ordered : Ascends EndsBefore ps

-- without the first one they are a row too
pub row_behind : (p : Cube) (ps : List Cube) → IsRow (p ∷ ps) → IsRow ps
row_behind p ps row = record { sized = row.sized.1; ordered = row.ordered.1 }

-- z lies in the cube along an axis
abbrev pub Spans : Cube → ℤ → Type 0
Spans p z = (pos p.origin ≤ℤ z) × (z <ℤ pos (end_of p))

-- z lies in one of its parts
abbrev pub LiesInPart : Cube → ℕ → ℤ → Type 0
LiesInPart p k z = (pos (p.origin + p.scale * k) ≤ℤ z) × (z <ℤ pos (p.origin + p.scale * (k + 1)))

-- places keep their order where they are enlarged
pub scaled : (p : Cube) (j k : ℕ) → j ≤ k → p.scale * j ≤ p.scale * k
scaled p j k l = mul-le-mul_left p.scale l

-- what lies in a part lies in the cube
pub part_spans : (p : Cube) (k : ℕ) (z : ℤ) → k < cube_side p.kind → LiesInPart p k z → Spans p z
part_spans p k z l at =
    let e = scaled p (k + 1) (cube_side p.kind) (omega arith) in
    (omega (arith, ints, at.0), omega (arith, ints, at.1, e))

-- and in one part alone
pub one_part : (p : Cube) (j k : ℕ) (z : ℤ) → LiesInPart p j z → LiesInPart p k z → j ≡ k
one_part p j k z at too = elim (cases_lt j k) as (λ _. j ≡ k) [
  | inl l ↦ absurd (let e = scaled p (j + 1) k (omega arith) in omega (arith, ints, at.1, too.0, e))
  | inr l ↦ (elim (cases_lt k j) as (λ _. j ≡ k) [
    | inl m ↦ absurd (let e = scaled p (k + 1) j (omega arith) in omega (arith, ints, at.0, too.1, e))
    | inr m ↦ omega arith
  ])
]

module _ (ps : List Cube) (row : IsRow ps) where
  -- cubes that share a coordinate are one
  pub one_cube : (p q : Cube) (z : ℤ) → Member ps p → Member ps q → Spans p z → Spans q z → p ≡ q
  one_cube p q z k l at too = ⊎_elim (λ e. e)
      (λ apart. absurd (⊎_elim {C = ⊥} (λ h. omega (arith, ints, at.1, too.0)) (λ h. omega (arith, ints, at.0, too.1)) apart))
      (ascends-members EndsBefore ps p q row.ordered k l)

  -- so are cubes that begin at one coordinate
  pub one_origin : (p q : Cube) → Member ps p → Member ps q → p.origin ≡ q.origin → p ≡ q
  one_origin p q k l same = ⊎_elim (λ e. e)
      (λ apart. absurd (⊎_elim {C = ⊥} (λ h. omega arith) (λ h. omega arith) apart))
      (ascends-members EndsBefore ps p q row.ordered k l)
