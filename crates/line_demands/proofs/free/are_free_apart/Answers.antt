-- Beside a column that can begin at two depths, or at a certain one at which the other doesn't have to.
use Rattle.std.proofs.Common.{◌≢◌, ◌==◌, inl, inr, ℕ, ◌<◌, ◌^◌, rules, sym, ◌∙◌}
use Rattle.std.proofs.lemmas.Bool.{cases_Bool, eqb-true, eqb-false, not-true}
use Rattle.line_demands.specs.Doubted.{CanDrawWith, IsFree}
use Rattle.line_demands.proofs.FreeApart.{free_beside, free_off}
use Rattle.line_demands.proofs.free.are_free_apart.Goals as goal
use Rattle.solid_model.specs.declared.segment.Style.TheVariants.{Solid}
use Rattle.solid_model.specs.Known.{known_bits, LiesWithin}
use Rattle.lemmas.proofs.WordBits.{zeros}

-- the nearest depths at which two columns can begin differ, and the farthest ones
free_ends : (fa ma fb mb : ℕ) → LiesWithin fa ma → LiesWithin fb mb → fa < 2 ^ 64 → ma < 2 ^ 64 → fb < 2 ^ 64 → mb < 2 ^ 64 → zeros ma ≢ zeros mb → zeros fa ≢ zeros fb
    → IsFree (known_bits fa ma) (known_bits fb mb) Solid
free_ends fa ma fb mb a_within b_within l m n o nearest farthest k v none = elim (cases_Bool (zeros fb == zeros mb)) as (λ _. CanDrawWith (known_bits fa ma) (known_bits fb mb) Solid k v) [
  | inl same ↦ (let certain = eqb-true (zeros fb) (zeros mb) same in free_off fa ma fb mb a_within b_within l m n o (λ e. nearest (e ∙ certain)) farthest k v none)
  | inr two ↦ free_beside fa ma fb mb a_within b_within l m n o (eqb-false (zeros fb) (zeros mb) two) k v none
]

pub returns-then-nearest_before-farthest_before : goal.returns-then-nearest_before-farthest_before
returns-then-nearest_before-farthest_before c = λ _.
    let a = c.args.after in
    let b = c.args.before in (
      free_beside a.full a.may b.full b.may c.requires.after c.requires.before (search rules) (search rules) (search rules) (search rules) (λ e. c.if-nearest_before-farthest_before.true (sym e)),
      free_beside b.full b.may a.full a.may c.requires.before c.requires.after (search rules) (search rules) (search rules) (search rules) (λ e. c.if-nearest-farthest.true (sym e)),
    )

pub returns-then-nearest-nearest_before : goal.returns-then-nearest-nearest_before
returns-then-nearest-nearest_before c = λ yes.
    let a = c.args.after in
    let b = c.args.before in
    let farthest = eqb-false (zeros a.full) (zeros b.full) (not-true (zeros a.full == zeros b.full) yes) in (
      free_ends a.full a.may b.full b.may c.requires.after c.requires.before (search rules) (search rules) (search rules) (search rules) c.if-nearest-nearest_before.true farthest,
      free_ends b.full b.may a.full a.may c.requires.before c.requires.after (search rules) (search rules) (search rules) (search rules) (λ e. c.if-nearest-nearest_before.true (sym e)) (λ e. farthest (sym e)),
    )
