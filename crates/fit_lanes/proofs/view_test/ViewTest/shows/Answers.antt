-- What is drawn of a choice tells whether its solids show the layer.
use Rattle.std.proofs.Common.{◌≡◌, true, false, Option, subst}
use Rattle.std.specs.Prelude.{MatchOption}
use Rattle.std.proofs.lemmas.Result.{IfOk-weaker}
use Rattle.fit_lanes.specs.Drawn.{bytes_along}
use Rattle.fit_lanes.specs.Tests.{LayerAsked, TellsLayer}
use Rattle.fit_lanes.specs.Wanted.{TellsPlaced}
use Rattle.fit_lanes.proofs.AllTold.{line_tells, none_tells, still_of}
use Rattle.fit_lanes.proofs.view_test.ViewTest.shows.Goals as goal

-- what is told of an option that is this one
told_of : {A : Type 0} (o p : Option A) (P : Type 0) (Q : A → Type 0) → o ≡ p → MatchOption o P Q → MatchOption p P Q
told_of o p P Q is told = subst (λ q. MatchOption q P Q) is told

pub returns-in_default-clause-told : goal.returns-in_default-clause-told
returns-in_default-clause-told c = subst (λ (a : LayerAsked). TellsLayer a c.args.choice.now false) c.self.view_is
    (none_tells c.self.inside.wanted.asked _ (still_of _ _ _ _ c.self.invariant.0 c.draw.ensures.same) c.args.choice.now c.draw.ensures.drawn true
    (told_of _ _ _ _ c.in_default.is c.first_line.ensures))

pub returns-in_default-first_line-clause-told : goal.returns-in_default-first_line-clause-told
returns-in_default-first_line-clause-told c = subst (λ (a : LayerAsked). TellsLayer a c.args.choice.now false) c.self.view_is
    (none_tells c.self.inside.wanted.asked _ (still_of _ _ _ _ c.self.invariant.0 c.draw.ensures.same) c.args.choice.now c.draw.ensures.drawn false
    (told_of _ _ _ _ c.in_default-first_line.is c.first_line-2.ensures))

pub returns-clause-told : goal.returns-clause-told
returns-clause-told c = IfOk-weaker c.is_told_at.result _ _ (λ told tells.
    let a : LayerAsked = c.self.inside.wanted.asked in
    let right = told_of _ _ _ _ c.in-Some.is c.first_line.ensures in
    let up = told_of _ _ _ _ c.in-Some-first_line.is c.first_line-2.ensures in
    subst (λ (b : LayerAsked). TellsLayer b c.args.choice.now told) c.self.view_is
    (line_tells a _ (still_of _ _ _ _ c.self.invariant.0 c.draw.ensures.same) c.self.invariant.1 c.args.choice.now c.draw.ensures.drawn
    c.in-Some.right c.in-Some-first_line.up right up told
    (subst (λ bytes. TellsPlaced (record { asked = a; right = c.in-Some.right; up = c.in-Some-first_line.up }) bytes (bytes_along true c.draw.new.self) told) c.bytes-level.ensures
    (subst (λ bytes. TellsPlaced (record { asked = a; right = c.in-Some.right; up = c.in-Some-first_line.up }) c.bytes-level.result.now bytes told) c.bytes-upright.ensures tells)))) c.is_told_at.ensures.told
