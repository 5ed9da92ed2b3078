-- Lines and ends are those of the turned grid, and the bytes those of the wanted styles.
use Rattle.std.proofs.Common.{◌≡◌, ◌≤◌, ℕ, List, length, ℤ, ◌<ℤ◌, ap, sym, subst, ◌∙◌}
use Rattle.std.specs.Prelude.{MatchOption}
use Rattle.lemmas.specs.Lists.{Ascends}
use Rattle.solid_model.specs.declared.cell.Axis.{Axis}
use Rattle.solid_model.specs.declared.frame.Direction.{Direction}
use Rattle.solid_model.specs.declared.frame.Frame.{Frame}
use Rattle.solid_model.specs.declared.runs.Run.{Run}
use Rattle.solid_model.specs.Frames.{along, across}
use Rattle.solid_model.specs.Grid.{gaps_along}
use Rattle.solid_model.specs.Panels.{coordinates_of}
use Rattle.solid_model.specs.PerAxis.{numbers_of}
use Rattle.solid_model.specs.Runs.{runs_along}
use Rattle.solid_model.specs.Segments.{along_of, across_of}
use Rattle.dxf_entities.specs.declared.layer.Layer.{Layer}
use Rattle.six_views.specs.SightFrames.{sight_frame}
use Rattle.six_views.specs.Turned.{turned_coordinates}
use Rattle.fit_lanes.specs.Points.{ArePointBytes}
use Rattle.fit_lanes.specs.Sights.{width, height}
use Rattle.fit_lanes.specs.Wanted.{turned_lines, turned_ends, AreWantedStyles, AreNeverShown}
use Rattle.fit_lanes.proofs.GridFacts.{some, turned_ordered, turned_few}
use Rattle.fit_lanes.proofs.WantedBytes.{bytes_wanted}
use Rattle.fit_lanes.proofs.wanted.wanted_bytes.Goals as goal

-- the axis of a direction of the view's frame
axis_is : (x : Layer) (which : Frame → Direction) (frame : Frame) (d : Direction) → frame ≡ sight_frame x → d ≡ which frame → d.axis ≡ (which (sight_frame x)).axis
axis_is x which frame d same is = ap (λ (e : Direction). e.axis) is ∙ ap (λ (f : Frame). (which f).axis) same

-- how many cells there are along it
size_is : (x : Layer) (which : Frame → Direction) (frame : Frame) (sizes others : Axis → ℕ) (n : ℕ) → frame ≡ sight_frame x → sizes ≡ others → n ≡ sizes (which frame).axis
    → n ≡ others (which (sight_frame x)).axis
size_is x which frame sizes others n same same_sizes is = is ∙ (λ t. same_sizes t (which (same t)).axis)

pub wanted_styles-requires-clause-lines : goal.wanted_styles-requires-clause-lines
wanted_styles-requires-clause-lines c =
    subst (Ascends ◌<ℤ◌) (sym (c.deref.ensures.value ∙ c.in_ok-lines.ensures)) (turned_ordered c.args.grid.now c.known.ensures.kept c.args.layer c.across.result.axis)

pub wanted_styles-requires-clause-ends : goal.wanted_styles-requires-clause-ends
wanted_styles-requires-clause-ends c =
    subst (Ascends ◌<ℤ◌) (sym (c.deref-2.ensures.value ∙ c.in_ok-ends.ensures)) (turned_ordered c.args.grid.now c.known.ensures.kept c.args.layer c.along.result.axis)

pub wanted_styles-requires-clause-few_lines : goal.wanted_styles-requires-clause-few_lines
wanted_styles-requires-clause-few_lines c =
    subst (λ (zs : List ℤ). length zs ≤ 64) (sym (c.deref.ensures.value ∙ c.in_ok-lines.ensures)) (turned_few c.args.grid.now c.known.ensures.kept c.args.layer c.across.result.axis)

pub wanted_styles-requires-clause-few_ends : goal.wanted_styles-requires-clause-few_ends
wanted_styles-requires-clause-few_ends c =
    subst (λ (zs : List ℤ). length zs ≤ 64) (sym (c.deref-2.ensures.value ∙ c.in_ok-ends.ensures)) (turned_few c.args.grid.now c.known.ensures.kept c.args.layer c.along.result.axis)

pub returns-in-Some : goal.returns-in-Some
returns-in-Some c =
    let x = c.args.layer in let u = c.args.upright in let coordinates = coordinates_of c.args.grid.now in
    let styles = c.in-Some.styles.items in let bytes = c.in_ok-point_bytes-in-Some.field-0.items in
    let lines : c.deref.result.now ≡ turned_lines coordinates x u = c.deref.ensures.value ∙ c.in_ok-lines.ensures
    ∙ ap (turned_coordinates x coordinates) (axis_is x (λ f. across f u) c.sight_frame-frame.result c.across.result c.sight_frame-frame.ensures c.across.ensures) in
    let ends : c.deref-2.result.now ≡ turned_ends coordinates x u = c.deref-2.ensures.value ∙ c.in_ok-ends.ensures
    ∙ ap (turned_coordinates x coordinates) (axis_is x (λ f. along f u) c.sight_frame-frame.result c.along.result c.sight_frame-frame.ensures c.along.ensures) in
    let shown : c.as_slice-shown.result.now ≡ runs_along u c.args.shown.now = c.as_slice-shown.ensures.same ∙ c.along-2.ensures in
    let wide : c.along-width.result ≡ width x (gaps_along coordinates) = size_is x (λ f. f.right) c.sight_frame-frame.result (numbers_of c.sizes-sizes.result) (gaps_along coordinates) _
    c.sight_frame-frame.ensures c.sizes-sizes.ensures.sizes c.along-width.ensures in
    let high : c.along-height.result ≡ height x (gaps_along coordinates) = size_is x (λ f. f.up) c.sight_frame-frame.result (numbers_of c.sizes-sizes.result) (gaps_along coordinates) _
    c.sight_frame-frame.ensures c.sizes-sizes.ensures.sizes c.along-height.ensures in
    let line = c.across_of-line.ensures in let end = c.across_of-end.ensures in
    let right = c.args.right in let up = c.args.up in
    let told = subst (λ o. MatchOption o (AreNeverShown c.deref.result.now c.deref-2.result.now c.across_of-line.result c.across_of-end.result c.as_slice-shown.result.now)
    (λ v. AreWantedStyles c.deref.result.now c.deref-2.result.now c.across_of-line.result c.across_of-end.result c.as_slice-shown.result.now v.items)) c.in-Some.is c.in_ok-styles.ensures in
    let at = subst (λ (m : ℕ). AreWantedStyles c.deref.result.now c.deref-2.result.now m (along_of u right up) c.as_slice-shown.result.now styles) line
    (subst (λ (n : ℕ). AreWantedStyles c.deref.result.now c.deref-2.result.now c.across_of-line.result n c.as_slice-shown.result.now styles) end told) in
    let are = subst (λ (ls : List ℤ). AreWantedStyles ls (turned_ends coordinates x u) (across_of u right up) (along_of u right up) (runs_along u c.args.shown.now) styles) lines
    (subst (λ (es : List ℤ). AreWantedStyles c.deref.result.now es (across_of u right up) (along_of u right up) (runs_along u c.args.shown.now) styles) ends
    (subst (λ (rs : List Run). AreWantedStyles c.deref.result.now c.deref-2.result.now (across_of u right up) (along_of u right up) rs styles) shown at)) in
    bytes_wanted x coordinates (some c.args.grid.now c.known.ensures.kept) u c.args.shown.now right up styles bytes are
    (subst (λ xs. ArePointBytes (width x (gaps_along coordinates)) (height x (gaps_along coordinates)) u xs bytes) c.deref-in-Some.ensures.value
    (subst (λ n. ArePointBytes n (height x (gaps_along coordinates)) u c.deref-in-Some.result.now bytes) wide
    (subst (λ n. ArePointBytes c.along-width.result n u c.deref-in-Some.result.now bytes) high c.in_ok-point_bytes-in-Some.ensures)))
