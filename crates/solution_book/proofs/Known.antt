-- A step that only adds to what is published keeps the rule.
use Rattle.std.proofs.Common.{◌≡◌, ◌≢◌, ◌≤◌, ◌+◌, ℕ, [], Option, Some, None, refl, sym, ◌∙◌, subst, ⊎_elim, append-nil, arith}
use mathlib.Core.Option.{some}
use lib.ListN.{get_elem?}
use Rattle.crossbeam_utils.specs.Register.{Admits, TurnsAt, Turns}
use Rattle.atomic_table.proofs.Lists.{at_set, at_snoc}
use Rattle.solution_book.specs.Editions.{EditionParts, ReaderParts, knows_nothing, Begins, Looked}
use Rattle.solution_book.specs.Rule.{Keeps, Sees}
use Rattle.solution_book.proofs.Pages.{starts_on}

-- an edition goes on from itself
pub begins_itself : (e : EditionParts) → Begins e (Some e)
begins_itself e = (refl, ([], sym (append-nil e.solids)))

-- what goes on from an edition goes on from what that one goes on from
pub begins_on : (later e : EditionParts) (known : Option EditionParts) → Begins later (Some e) → Begins e known → Begins later known
begins_on later e None h k = tt
begins_on later e (Some v) (same, (more, longer)) (same', (rest, starts)) =
    (same ∙ same', starts_on later.solids e.solids v.solids (more, longer) (rest, starts))

-- a step from one edition to one that goes on from it
pub grows : (seat : ℕ) (v : ReaderParts) (e later : EditionParts) → Begins later (Some e) → TurnsAt Keeps seat v e later Sees
grows seat v e later longer views h at =
    let after : ReaderParts = record { edition = Some later; looks = v.looks + 1 } in (
      after,
      (λ j u is. ⊎_elim (λ (t : (j ≡ seat) × (after ≡ u)). subst (λ (k : ReaderParts). Begins later k.edition) t.1 (begins_itself later))
          (λ (t : (j ≢ seat) × (get_elem? views j ≡ some u)). begins_on later e u.edition longer (h j u t.1)) (at_set views seat j after u is)),
      (refl, begins_on later e v.edition longer (h seat v at)),
    )

-- a step that changes nothing
pub looks : (seat : ℕ) (v : ReaderParts) → Turns Keeps seat v (λ e. e) Sees
looks seat v e = grows seat v e e (begins_itself e)

-- a new reader, which knows nothing
pub admits : Admits Keeps knows_nothing
admits e views h seat v at = ⊎_elim (h seat v) (λ (is : knows_nothing ≡ v). subst (λ (k : ReaderParts). Begins e k.edition) is tt) (at_snoc views knows_nothing v seat at)

module _ (before after : ReaderParts) (seen : EditionParts) where
  -- what goes on from what is known after a look goes on from what was known before it
  pub known_before : Looked before after seen → (e : EditionParts) → Begins e after.edition → Begins e before.edition
  known_before look e begins = begins_on e seen before.edition (subst (Begins e) look.known begins) look.begins

  -- a look after so many is one more
  pub looks_on : (n : ℕ) → n ≤ before.looks → Looked before after seen → n ≤ after.looks
  looks_on n no_fewer look = omega (arith, no_fewer, look.looked)

module _ (first before after : ReaderParts) (seen : EditionParts) where
  -- and a look from where they began
  pub looked_since : ((e : EditionParts) → Begins e before.edition → Begins e first.edition) → first.looks ≤ before.looks → Looked before after seen → Looked first after seen
  looked_since since no_fewer look = record { known = look.known; begins = since seen look.begins; looked = omega (arith, no_fewer, look.looked); kept = look.kept }
