-- What is left of the columns, or the columns themselves.
use Rattle.std.proofs.Common.{ℕ, Option, sym, subst}
use Rattle.lemmas.specs.Bits.{bits}
use Rattle.solid_model.specs.Columns.{ColumnsDraw}
use Rattle.fit_lanes.specs.Cuts.{HasOnlyKept, IsLeftOf}
use Rattle.fit_lanes.proofs.cuts.style_between.Goals as goal

pub returns-in-Some : goal.returns-in-Some
returns-in-Some c = subst (λ (o : Option ℕ). HasOnlyKept o c.args.after.0 → HasOnlyKept o c.args.before.0 → (a b : ℕ) → IsLeftOf o c.args.after.0 a → IsLeftOf o c.args.before.0 b
    → ColumnsDraw (bits a) (bits b) c.left_style.result) (sym c.in-Some.is)
    (λ after before a b of_after of_before. c.left_style.ensures c.in-Some.field-0 a b after before of_after of_before) c.requires.after c.requires.before

pub returns-in-None : goal.returns-in-None
returns-in-None c a b = subst (λ (o : Option ℕ). IsLeftOf o c.args.after.0 a → IsLeftOf o c.args.before.0 b → ColumnsDraw (bits a) (bits b) c.style_of.result) (sym c.in-None.is)
    (λ after before. subst (λ (n : ℕ). ColumnsDraw (bits n) (bits b) c.style_of.result) (sym after)
    (subst (λ (n : ℕ). ColumnsDraw (bits c.args.after.0) (bits n) c.style_of.result) (sym before) c.style_of.ensures))
