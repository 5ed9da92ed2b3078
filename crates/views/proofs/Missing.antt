-- Which view is lacked, by which are missing.
use Rattle.std.proofs.Common.{◌≡◌, ◌≢◌, ◌+◌, ◌≤◌, ◌<◌, Bool, true, false, not, List, Option, Some, None, MatchOption, refl, sym, ap, ◌∙◌, arith}
use Rattle.std.specs.Option.{is_some}
use Rattle.std.proofs.lemmas.Bool.{false≢true}
use mir.Val.{bool_byte}
use Rattle.solid_model.specs.declared.frame.View.{View}
use Rattle.solid_model.specs.declared.frame.View.TheVariants.{Front, Top, Side}
use Rattle.solid_model.specs.Drawings.{same_view, IsEmptyView, IsShown, LacksView}
use Rattle.solid_model.specs.Line.{Line}
use Rattle.solid_model.specs.Runs.{ViewRuns}
use Rattle.solid_model.proofs.Sheets.{same_view-true, same_view-itself}
use Rattle.solid_model.proofs.Views.{in_each_view}
use Rattle.views.specs.Missing.{TellsMissing}

-- a view without runs is missing
pub missing_of : (ls : List Line) (v : View) (view : Option ViewRuns) (missing : Bool) → is_some view ≡ not missing
    → MatchOption view (IsEmptyView ls v) (λ (_ : ViewRuns). IsEmptyView ls v → ⊥) → TellsMissing ls v missing
missing_of ls v None true e empty = empty
missing_of ls v None false e empty = absurd (false≢true e)
missing_of ls v (Some runs) true e shown = absurd (false≢true (sym e))
missing_of ls v (Some runs) false e shown = shown

module _ (ls : List Line) where
  -- where no view but one is empty, of two views one shows something
  all_but : (m : View) → ((v : View) → v ≢ m → IsEmptyView ls v → ⊥) → IsShown true ls
  all_but m shown v w differ first second = by (same_view v m) refl
    where
      by : (t : Bool) → same_view v m ≡ t → ⊥
      by true e = shown w (λ same. differ (same_view-true v m e ∙ sym same)) second
      by false e = shown v (λ same. false≢true (sym e ∙ ap (λ u. same_view u m) same ∙ same_view-itself m)) first

  -- no more views are missing than may be: none is lacked
  pub none_lacked : (two front top side : Bool) → (bool_byte front + bool_byte top) + bool_byte side ≤ bool_byte two
      → TellsMissing ls Front front → TellsMissing ls Top top → TellsMissing ls Side side → IsShown two ls
  none_lacked false false false false few f t s = in_each_view (λ v. IsEmptyView ls v → ⊥) f t s
  none_lacked false true top side few f t s = absurd (omega arith)
  none_lacked false false true side few f t s = absurd (omega arith)
  none_lacked false false false true few f t s = absurd (omega arith)
  none_lacked true true false false few f t s = all_but Front (in_each_view (λ v. v ≢ Front → IsEmptyView ls v → ⊥) (λ n. absurd (n refl)) (λ _. t) (λ _. s))
  none_lacked true false true false few f t s = all_but Top (in_each_view (λ v. v ≢ Top → IsEmptyView ls v → ⊥) (λ _. f) (λ n. absurd (n refl)) (λ _. s))
  none_lacked true false false side few f t s = all_but Side (in_each_view (λ v. v ≢ Side → IsEmptyView ls v → ⊥) (λ _. f) (λ _. t) (λ n. absurd (n refl)))
  none_lacked true true true side few f t s = absurd (omega arith)
  none_lacked true true false true few f t s = absurd (omega arith)
  none_lacked true false true true few f t s = absurd (omega arith)

  -- more are: the first of them is lacked
  pub front_lacked : (two top side : Bool) → bool_byte two < (1 + bool_byte top) + bool_byte side
      → IsEmptyView ls Front → TellsMissing ls Top top → TellsMissing ls Side side → LacksView two ls Front
  front_lacked false top side many f t s = f
  front_lacked true true side many f t s = (f, Top, (λ p. cc), t)
  front_lacked true false true many f t s = (f, Side, (λ p. cc), s)
  front_lacked true false false many f t s = absurd (omega arith)

  pub top_lacked : (two side : Bool) → bool_byte two < (0 + 1) + bool_byte side
      → (IsEmptyView ls Front → ⊥) → IsEmptyView ls Top → TellsMissing ls Side side → LacksView two ls Top
  top_lacked false side many f t s = (f, t)
  top_lacked true true many f t s = ((f, t), Side, (λ p. cc), s)
  top_lacked true false many f t s = absurd (omega arith)

  pub side_lacked : (two side : Bool) → bool_byte two < (0 + 0) + bool_byte side
      → (IsEmptyView ls Front → ⊥) → (IsEmptyView ls Top → ⊥) → TellsMissing ls Side side → LacksView two ls Side
  side_lacked false true many f t s = (f, t, s)
  side_lacked false false many f t s = absurd (omega arith)
  side_lacked true side many f t s = absurd (by side many)
    where
      by : (side : Bool) → bool_byte true < (0 + 0) + bool_byte side → ⊥
      by true many = omega arith
      by false many = omega arith
