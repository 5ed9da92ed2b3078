-- The depth of the gap, along the sight.
use Rattle.std.proofs.Common.{◌≡◌, Option, w64, SFits, rules, sym, subst, ◌∙◌, arith}
use Rattle.std.specs.Prelude.{MatchOption}
use Rattle.std.proofs.lemmas.Int.{to_z-of_z}
use Rattle.solid_model.specs.Frames.{IsFrame}
use Rattle.solid_model.specs.Grid.{gaps_along}
use Rattle.solid_model.specs.GridPlaces.{number_on}
use Rattle.solid_model.specs.Panels.{coordinates_of}
use Rattle.six_views.specs.SightFrames.{sight_frame}
use Rattle.six_views.proofs.Turned.{sights_are_frames}
use Rattle.fit_lanes.specs.Cuts.{AreKept}
use Rattle.fit_lanes.proofs.cuts.kept_depths.Goals as goal

-- what is told of an option that is this one
told_of : {A : Type 0} (o p : Option A) (P : Type 0) (Q : A → Type 0) → o ≡ p → MatchOption o P Q → MatchOption p P Q
told_of o p P Q is told = subst (λ q. MatchOption q P Q) is told

pub cut_gap-requires : goal.cut_gap-requires
cut_gap-requires c = subst IsFrame (sym c.sight_frame-frame.ensures) (sights_are_frames c.args.layer)

pub number_on-first-requires : goal.number_on-first-requires
number_on-first-requires c =
    let at : SFits w64 c.args.cut.at = search rules in
    let left = told_of _ _ _ _ c.in-Some.is (rw (to_z-of_z w64 c.args.cut.at at, c.sight_frame-frame.ensures) at c.cut_gap.ensures) in
    let few = c.known.ensures.kept.2.few (sight_frame c.args.layer).away.axis in
    omega (arith, left.within)

pub returns : goal.returns
returns c =
    let x = c.args.layer in let coordinates = coordinates_of c.args.grid.now in
    let at : SFits w64 c.args.cut.at = search rules in
    let left = told_of _ _ _ _ c.in-Some.is (rw (to_z-of_z w64 c.args.cut.at at, c.sight_frame-frame.ensures) at c.cut_gap.ensures) in
    let first : c.number_on-first.result ≡ number_on (gaps_along coordinates) (sight_frame x).away c.in-Some.gap = c.number_on-first.ensures.same
    ∙ (λ t. number_on (c.sizes-sizes.ensures.sizes t) (c.sight_frame-frame.ensures t).away c.in-Some.gap) in
    let deep : c.along.result ≡ gaps_along coordinates (sight_frame x).away.axis = c.along.ensures ∙ (λ t. c.sizes-sizes.ensures.sizes t (c.sight_frame-frame.ensures t).away.axis) in
    record {
      fits = search rules;
      gap = c.in-Some.gap;
      left_from = left;
      bits = subst (λ n. AreKept c.args.cut.area n (gaps_along coordinates (sight_frame x).away.axis) c.kept_bits.result) first
          (subst (λ n. AreKept c.args.cut.area c.number_on-first.result n c.kept_bits.result) deep c.kept_bits.ensures);
    }
