-- The row of the view's cells stands at its place, and what is seen of it is their column.
use Rattle.std.proofs.Common.{◌≡◌, ◌&&◌, ◌<◌, ◌≤◌, nat_lt, Bool, true, ℕ, List, [], slice_index_or, Option, pos, ap, sym, subst, ◌∙◌, arith}
use Rattle.std.proofs.lemmas.Result.{IfOk-weaker}
use Rattle.cell_rows.specs.declared.span.Span.{Span}
use Rattle.cell_rows.specs.Spans.{is_filled, AreRowSpans}
use Rattle.solid_model.specs.declared.cell.Axis.{Axis}
use Rattle.solid_model.specs.declared.cell.Cell.{Cell}
use Rattle.solid_model.specs.declared.frame.Frame.{Frame}
use Rattle.solid_model.specs.declared.per_axis.PerAxis.{PerAxis}
use Rattle.solid_model.specs.Blocks.{BlockNumbers}
use Rattle.solid_model.specs.Choices.{cells_of_choice}
use Rattle.solid_model.specs.GridPlaces.{number_on, grid_cell_in}
use Rattle.solid_model.specs.PerAxis.{numbers_of, cell_of, numbered}
use Rattle.solid_model.specs.WalledBoxes.{is_within, box_place, box_count}
use Rattle.column_laws.specs.GridColumns.{grid_column}
use Rattle.dxf_entities.specs.declared.layer.Layer.{Layer}
use Rattle.six_views.specs.SightFrames.{sight_frame}
use Rattle.fit_lanes.specs.Cuts.{keeps}
use Rattle.fit_lanes.proofs.SightRows.{first_cell, row_within, column_seen, few_numbered}
use Rattle.fit_lanes.proofs.sights.sight.Goals as goal

-- the first cell of the row, in the view's own frame
first_in : (x : Layer) (frame : Frame) (sizes : PerAxis) (i j : ℕ) (cell n : PerAxis) → frame ≡ sight_frame x → numbers_of cell ≡ grid_cell_in frame (numbers_of sizes) i j 0
    → numbers_of n ≡ numbered frame.away.axis 0 (numbers_of cell) → numbers_of n ≡ numbered (sight_frame x).away.axis 0 (grid_cell_in (sight_frame x) (numbers_of sizes) i j 0)
first_in x frame sizes i j cell n e same is = is ∙ ap (numbered frame.away.axis 0) same ∙ (λ t. numbered (e t).away.axis 0 (grid_cell_in (e t) (numbers_of sizes) i j 0))

-- the box of rows
rows_in : (x : Layer) (frame : Frame) (sizes ends : PerAxis) → frame ≡ sight_frame x → numbers_of ends ≡ numbered frame.away.axis 1 (numbers_of sizes)
    → numbers_of ends ≡ numbered (sight_frame x).away.axis 1 (numbers_of sizes)
rows_in x frame sizes ends e is = is ∙ (λ t. numbered (e t).away.axis 1 (numbers_of sizes))

-- in a box of these sizes, whose rows are those of blocks
abbrev Within : Layer → ℕ → ℕ → PerAxis → Type 0
Within x i j sizes = (n : PerAxis) → numbers_of n ≡ numbered (sight_frame x).away.axis 0 (grid_cell_in (sight_frame x) (numbers_of sizes) i j 0)
    → i < numbers_of sizes (sight_frame x).right.axis → j < numbers_of sizes (sight_frame x).up.axis → numbers_of sizes (sight_frame x).away.axis ≤ 63
    → is_within (numbered (sight_frame x).away.axis 1 (numbers_of sizes)) (cell_of n) ≡ true

within : (x : Layer) (b : BlockNumbers) (i j : ℕ) → Within x i j b.sizes
within x b i j n first l m few =
    subst (λ c. is_within (numbered (sight_frame x).away.axis 1 (numbers_of b.sizes)) c ≡ true) (sym (first_cell x b n i j first)) (row_within x b n i j first l m few)

abbrev Seen : Layer → Option ℕ → BlockNumbers → ℕ → ℕ → PerAxis → Type 0
Seen x kept b i j sizes = (n : PerAxis) → numbers_of n ≡ numbered (sight_frame x).away.axis 0 (grid_cell_in (sight_frame x) (numbers_of sizes) i j 0)
    → i < numbers_of sizes (sight_frame x).right.axis → j < numbers_of sizes (sight_frame x).up.axis → numbers_of sizes (sight_frame x).away.axis ≤ 63
    → (rows : List (List Span)) → AreRowSpans b (sight_frame x).away.axis rows → (spans : List Span)
    → ((choice : List Bool) (k : ℕ) → is_filled choice spans k ≡ ((keeps kept k && nat_lt k (numbers_of sizes (sight_frame x).away.axis))
    && is_filled choice (slice_index_or rows (box_place (numbered (sight_frame x).away.axis 1 (numbers_of sizes)) (cell_of n)) []) (number_on (numbers_of sizes) (sight_frame x).away k)))
    → (choice : List Bool) (k : ℕ) → is_filled choice spans k ≡ (keeps kept k && grid_column (sight_frame x) (numbers_of sizes) (cells_of_choice b.numbers choice) i j (pos k))

seen : (x : Layer) (kept : Option ℕ) (b : BlockNumbers) (i j : ℕ) → Seen x kept b i j b.sizes
seen x kept b i j n first l m few rows of spans are = column_seen x b n i j first l m few kept rows of spans
    (λ choice k. are choice k ∙ ap (λ (c : Cell). (keeps kept k && nat_lt k (numbers_of b.sizes (sight_frame x).away.axis))
    && is_filled choice (slice_index_or rows (box_place (numbered (sight_frame x).away.axis 1 (numbers_of b.sizes)) c) []) (number_on (numbers_of b.sizes) (sight_frame x).away k))
    (first_cell x b n i j first))

pub place-place-requires-clause-few : goal.place-place-requires-clause-few
place-place-requires-clause-few c a = subst (λ (n : Axis → ℕ). n a ≤ 1024) (sym c.numbered.ensures)
    (let few = few_numbered c.sight_frame-frame.result.away.axis (numbers_of c.args.sizes) c.requires.few a in omega arith)

pub place-place-requires-clause-within : goal.place-place-requires-clause-within
place-place-requires-clause-within c =
    let x = c.args.layer in
    let first = first_in x c.sight_frame-frame.result c.args.sizes c.args.right c.args.up c.cell_in.result c.numbered-cell.result c.sight_frame-frame.ensures c.cell_in.ensures.same c.numbered-cell.ensures in
    subst (λ (n : Axis → ℕ). is_within n (cell_of c.numbered-cell.result) ≡ true) (sym (rows_in x c.sight_frame-frame.result c.args.sizes c.numbered.result c.sight_frame-frame.ensures c.numbered.ensures))
    (subst (Within x c.args.right c.args.up) (sym c.requires.sizes) (within x c.args.rows.now c.args.right c.args.up) c.numbered-cell.result first c.requires.right c.requires.up
    (c.requires.few (sight_frame x).away.axis))

pub row-requires : goal.row-requires
row-requires c =
    let axis = c.sight_frame-frame.result.away.axis in
    let boxed : box_count (numbers_of c.numbered.result) ≡ box_count (numbered axis 1 (numbers_of c.args.rows.now.sizes)) = ap box_count (c.numbered.ensures
    ∙ ap (λ (s : PerAxis). numbered axis 1 (numbers_of s)) c.requires.sizes) in
    omega (arith, boxed, c.along.ensures.spans.listed [], c.place-place.ensures.there)

pub returns : goal.returns
returns c = IfOk-weaker c.seen_spans.result _ _ (λ spans told.
    let x = c.args.layer in
    let e = c.sight_frame-frame.ensures in
    let axis = c.sight_frame-frame.result.away.axis in
    let rows : List (List Span) = c.along.result.now in
    let first = first_in x c.sight_frame-frame.result c.args.sizes c.args.right c.args.up c.cell_in.result c.numbered-cell.result e c.cell_in.ensures.same c.numbered-cell.ensures in
    let boxed = rows_in x c.sight_frame-frame.result c.args.sizes c.numbered.result e c.numbered.ensures in
    let place : c.place-place.result ≡ box_place (numbered (sight_frame x).away.axis 1 (numbers_of c.args.sizes)) (cell_of c.numbered-cell.result) =
    c.place-place.ensures.place ∙ ap (λ (n : Axis → ℕ). box_place n (cell_of c.numbered-cell.result)) boxed in
    let row : c.row.result.now ≡ slice_index_or rows (box_place (numbered (sight_frame x).away.axis 1 (numbers_of c.args.sizes)) (cell_of c.numbered-cell.result)) [] =
    c.row.ensures ∙ ap (λ p. slice_index_or rows p []) place in
    subst (Seen x c.args.kept c.args.rows.now c.args.right c.args.up) (sym c.requires.sizes) (seen x c.args.kept c.args.rows.now c.args.right c.args.up) c.numbered-cell.result first c.requires.right c.requires.up
    (c.requires.few (sight_frame x).away.axis) rows (subst (λ (a : Axis). AreRowSpans c.args.rows.now a rows) (λ t. (e t).away.axis) c.along.ensures.spans) spans.items
    (λ choice k. told choice k ∙ (λ t. (keeps c.args.kept k && nat_lt k (numbers_of c.args.sizes (e t).away.axis)) && is_filled choice (row t) (number_on (numbers_of c.args.sizes) (e t).away k)))) c.seen_spans.ensures
