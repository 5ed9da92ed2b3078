-- What is told of a cell, and of a line by its two columns.
use Rattle.std.proofs.Common.{◌≡◌, ◌↔◌, inl, inr, Bool, true, false, not, ℕ, pos, Option, Some, None, IsTrue, refl, subst}
use Rattle.std.proofs.lemmas.Bool.{false≢true}
use Rattle.line_demands.specs.declared.known.KnownColumn.{KnownColumn}
use Rattle.line_demands.specs.declared.seen.SeenLine.{SeenLine}
use Rattle.line_demands.specs.Doubted.{CanDrawWith}
use Rattle.line_demands.specs.Seen.{IsSeen, column_of}
use Rattle.line_demands.specs.Excluding.{ExcludesAt, ExcludesBeside}
use Rattle.line_demands.proofs.LineCells.{cells_to, cells_from}
use Rattle.solid_model.specs.declared.line_id.LineId.{LineId}
use Rattle.solid_model.specs.Blocks.{ProblemParts, IsBlocksOf, block_at}
use Rattle.solid_model.specs.Forcing.{cell_beside, LineExcludes}
use Rattle.solid_model.specs.Known.{known_bits}
use Rattle.lemmas.proofs.Truth.{never_both, not_from_never}

module _ (p : ProblemParts) (s : SeenLine) (a : Bool) (k block : ℕ) (value r : Bool) (column beyond : KnownColumn) (e : column ≡ column_of s a) (f : beyond ≡ column_of s (not a)) where
  abbrev Draws : KnownColumn → KnownColumn → Type 0
  Draws x y = CanDrawWith (known_bits x.full x.may) (known_bits y.full y.may) s.style k value

  pub cell_told : block_at p.blocks (cell_beside p.grid s.line a (pos k)) ≡ Some block → known_bits column.full column.may (pos k) ≡ None
      → (IsTrue r ↔ Draws column beyond) → IsTrue (not r) ↔ ExcludesAt p s a k block value
  cell_told at none told =
      let forth : Draws column beyond → Draws (column_of s a) (column_of s (not a)) = λ d. subst (λ y. Draws (column_of s a) y) f (subst (λ x. Draws x beyond) e d) in
      let back : Draws (column_of s a) (column_of s (not a)) → Draws column beyond = λ d. subst (λ x. Draws x beyond) (sym_of e) (subst (λ y. Draws (column_of s a) y) (sym_of f) d) in (
        (λ t. (at, subst (λ (x : KnownColumn). known_bits x.full x.may (pos k) ≡ None) e none, λ with. never_both r (told.1 (back with)) t)),
        (λ ex. not_from_never r (λ t. ex.2 (forth (told.0 t)))),
      )
    where
      sym_of : {x y : KnownColumn} → x ≡ y → y ≡ x
      sym_of {x} g = subst (λ z. z ≡ x) g refl

module _ (p : ProblemParts) (blocks : IsBlocksOf p.grid p.blocks) (known : ℕ → Option Bool) (s : SeenLine) (seen : IsSeen p known s) (l : LineId) (is : s.line ≡ l) (block : ℕ) (value : Bool) (none : known block ≡ None) where
  on : LineExcludes p known s.line block value → LineExcludes p known l block value
  on h = subst (λ m. LineExcludes p known m block value) is h

  off : LineExcludes p known l block value → LineExcludes p known s.line block value
  off h = subst (λ m. LineExcludes p known m block value) (subst (λ z. z ≡ s.line) is refl) h

  pub first_told : (r : Bool) → r ≡ true → (IsTrue r ↔ ExcludesBeside p s true block value) → IsTrue r ↔ LineExcludes p known l block value
  first_told r is_true told = ((λ t. on (cells_to p blocks known s seen true block value (told.0 t)).1), (λ _. is_true))

  pub second_told : (r q : Bool) → r ≡ false → (IsTrue r ↔ ExcludesBeside p s true block value) → (IsTrue q ↔ ExcludesBeside p s false block value) → IsTrue q ↔ LineExcludes p known l block value
  second_told r q is_false told too = (
    (λ t. on (cells_to p blocks known s seen false block value (too.0 t)).1),
    (λ ex. elim (cells_from p blocks known s seen block value (none, off ex)) as (λ _. IsTrue q) [
      | inl h ↦ absurd (false≢true (subst (λ b. b ≡ true) is_false (told.1 h)))
      | inr h ↦ too.1 h
    ]),
  )
