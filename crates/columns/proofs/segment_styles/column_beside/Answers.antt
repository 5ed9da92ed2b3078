-- The column stands in the list where the line isn't the last one.
use Rattle.std.proofs.Common.{◌≡◌, ◌+◌, ◌*◌, ap, ap₂, ◌∙◌, arith}
use Rattle.solid_model.specs.declared.frame.Direction.{Direction}
use Rattle.solid_model.specs.Frames.{across}
use Rattle.solid_model.specs.PerAxis.{numbers_of}
use Rattle.solid_model.specs.Segments.{across_of, along_of}
use Rattle.columns.proofs.GridStyles.{column_within}
use Rattle.columns.proofs.segment_styles.column_beside.Goals as goal

pub bounds-columns-up : goal.bounds-columns-up
bounds-columns-up c =
    let sizes = numbers_of c.args.sizes in
    let size : c.along.result ≡ sizes (across c.args.frame c.args.upright).axis = c.along.ensures ∙ ap (λ (d : Direction). sizes d.axis) c.across.ensures in
    let within = column_within c.args.frame sizes c.args.upright c.args.start c.args.line c.requires.start (omega (arith, size)) in
    let place : c.places-right.result.1 * c.along-then-line-along.result + c.places-right.result.0
    ≡ along_of c.args.upright c.args.line c.args.start * sizes c.args.frame.right.axis + across_of c.args.upright c.args.line c.args.start =
    ap₂ ◌+◌ (ap₂ ◌*◌ c.places-right.ensures.up c.along-then-line-along.ensures) c.places-right.ensures.right in
    omega (arith, place, within, c.requires.count)
