-- Lines and ends are those of the turned grid, and the styles those of the turned solid.
use Rattle.std.proofs.Common.{◌*◌, ◌-◌, List, length, ℤ, ◌<ℤ◌, ap, sym, subst, ◌∙◌}
use Rattle.lemmas.specs.Lists.{Ascends}
use Rattle.solid_model.specs.declared.runs.Run.{Run}
use Rattle.solid_model.specs.declared.segment.Style.{Style}
use Rattle.solid_model.specs.Frames.{frame_of, along, across}
use Rattle.solid_model.specs.Panels.{coordinates_of}
use Rattle.solid_model.specs.PerAxis.{numbers_of}
use Rattle.solid_model.specs.Runs.{run_style}
use Rattle.redraw.specs.GridRuns.{AreRunsOn}
use Rattle.six_views.specs.Turned.{turned_coordinates}
use Rattle.six_views.proofs.SeenRuns.{places_seen, runs_seen, count_seen}
use Rattle.six_views.proofs.TurnedGrid.{counts-turned}
use Rattle.six_views.proofs.seen.runs_along.Goals as goal

pub runs_on-requires-clause-lines : goal.runs_on-requires-clause-lines
runs_on-requires-clause-lines c =
    let coordinates = coordinates_of c.args.grid.now in
    subst (Ascends ◌<ℤ◌) (sym (c.deref.ensures.value ∙ c.in_ok-lines.ensures))
    ((counts-turned c.args.layer coordinates (numbers_of c.counts_of.result) c.counts_of.ensures.counts).ordered c.across.result.axis)

pub runs_on-requires-clause-ends : goal.runs_on-requires-clause-ends
runs_on-requires-clause-ends c =
    let coordinates = coordinates_of c.args.grid.now in
    subst (Ascends ◌<ℤ◌) (sym (c.deref-2.ensures.value ∙ c.in_ok-ends.ensures))
    ((counts-turned c.args.layer coordinates (numbers_of c.counts_of.result) c.counts_of.ensures.counts).ordered c.along.result.axis)

pub runs_on-requires-clause-count : goal.runs_on-requires-clause-count
runs_on-requires-clause-count c =
    let x = c.args.layer in
    let counts = numbers_of c.counts_of.result in
    let coordinates = coordinates_of c.args.grid.now in
    let drawn = c.in_ok-styles.ensures in
    let lines = c.deref.ensures.value ∙ c.in_ok-lines.ensures
    ∙ places_seen x coordinates (λ f. across f c.args.upright) c.frame-frame.result c.across.result c.frame-frame.ensures c.across.ensures in
    let ends = c.deref-2.ensures.value ∙ c.in_ok-ends.ensures
    ∙ places_seen x coordinates (λ f. along f c.args.upright) c.frame-frame.result c.along.result c.frame-frame.ensures c.along.ensures in
    ap length c.deref-3.ensures.value
    ∙ count_seen x counts coordinates c.counts_of.ensures.counts c.args.columns.now c.args.upright c.in_ok-styles.styles.items drawn c.requires
    ∙ sym (λ t. length (lines t) * (length (ends t) - 1))

pub returns : goal.returns
returns c = λ chosen s are union j z.
    let x = c.args.layer in
    let counts = numbers_of c.counts_of.result in
    let coordinates = coordinates_of c.args.grid.now in
    let drawn = c.in_ok-styles.ensures in
    let lines = c.deref.ensures.value ∙ c.in_ok-lines.ensures
    ∙ places_seen x coordinates (λ f. across f c.args.upright) c.frame-frame.result c.across.result c.frame-frame.ensures c.across.ensures in
    let ends = c.deref-2.ensures.value ∙ c.in_ok-ends.ensures
    ∙ places_seen x coordinates (λ f. along f c.args.upright) c.frame-frame.result c.along.result c.frame-frame.ensures c.along.ensures in
    let rs = c.in_ok-runs_on.field-0.items in
    let own_lines = turned_coordinates x coordinates (across (frame_of x.view) c.args.upright).axis in
    let on = subst (λ (es : List ℤ). AreRunsOn own_lines es c.in_ok-styles.styles.items rs) ends
    (subst (λ (ls : List ℤ). AreRunsOn ls c.deref-2.result.now c.in_ok-styles.styles.items rs) lines
    (subst (λ (ss : List Style). AreRunsOn c.deref.result.now c.deref-2.result.now ss rs) c.deref-3.ensures.value c.in_ok-runs_on.ensures)) in
    ap (λ (runs : List Run). run_style runs j z) c.new.ensures
    ∙ runs_seen x counts coordinates c.counts_of.ensures.counts c.args.columns.now c.args.upright c.in_ok-styles.styles.items drawn chosen are s union rs on j z
