-- What is seen of one span more.
use Rattle.std.proofs.Common.{◌≡◌, ◌&&◌, Bool, true, false, nat_lt, List, None, take, get_or, refl, ap, sym, ◌∙◌}
use Rattle.std.proofs.lemmas.List.{take_more}
use Rattle.solid_model.specs.GridPlaces.{number_on}
use Rattle.solid_model.specs.PerAxis.{numbers_of}
use Rattle.cell_rows.specs.declared.span.Span.{Span}
use Rattle.cell_rows.specs.Spans.{is_filled}
use Rattle.lemmas.specs.Bits.{is_set}
use Rattle.fit_lanes.specs.Cuts.{keeps}
use Rattle.fit_lanes.proofs.SightRows.{seen_more}
use Rattle.fit_lanes.proofs.sights.seen_spans.Goals as goal

all_of : (s t u : Bool) → (s && (t && u)) ≡ ((s && t) && u)
all_of true t u = refl
all_of false t u = refl

pub loop-span-preserved : goal.loop-span-preserved
loop-span-preserved c choice k =
    let sizes = numbers_of c.args.sizes in
    let n = number_on sizes c.args.away k in
    let spans = c.args.spans.now in
    let i = c.loop-span.span-index in
    let one : Span = get_or spans i (record { block = None; cells = 0 }) in
    let within : Bool = keeps c.args.kept k && nat_lt k (sizes c.args.away.axis) in
    let seen : Span = record { block = one.block; cells = c.kept_cells-cells.result } in
    c.in_ok-put_seen.ensures choice k
    ∙ seen_more choice (take i spans) c.loop-span.seen.items one seen k n within (λ _. one.block)
    (c.kept_cells-cells.ensures k ∙ ap (λ b. keeps c.args.kept k && b) (c.seen_row-row.ensures k) ∙ all_of (keeps c.args.kept k) (nat_lt k (sizes c.args.away.axis)) (is_set one.cells n)) (c.loop-span.invariant choice k)
    ∙ ap (λ (xs : List Span). within && is_filled choice xs n) (sym (take_more spans i (record { block = None; cells = 0 }) c.loop-span-test.true))
