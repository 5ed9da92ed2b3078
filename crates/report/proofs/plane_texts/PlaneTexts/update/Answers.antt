-- The lines of all sides are those of the union.
use Rattle.std.proofs.Common.{ℕ, sym, ap, subst, ◌∙◌}
use Rattle.solid_model.specs.Grid.{Coordinates, gaps_along}
use Rattle.lemmas.specs.Lists.{Each}
use Rattle.lemmas.proofs.Lists.{each-weaker}
use Rattle.solid_model.specs.Marks.{is_marked}
use Rattle.solid_model.specs.Panels.{coordinates_of}
use Rattle.report.specs.PlaneTexts.{AreLines, AreLinesUnlessChanged, GridLines, listed}
use Rattle.report.proofs.PlaneLines.{lines_of_rows, unchanged_lines, lines_of_all}
use Rattle.report.proofs.plane_texts.PlaneTexts.update.Goals as goal

pub follow-changed-requires : goal.follow-changed-requires
follow-changed-requires c =
    c.self.invariant.sized ∙ ap gaps_along (ap listed c.self.view_is ∙ c.in_ok-put_on.ensures.0) ∙ sym c.requires.sizes

pub put_all-requires-clause-each : goal.put_all-requires-clause-each
put_all-requires-clause-each c =
    let same = ap listed c.self.view_is ∙ c.in_ok-put_on.ensures.0 in
    let decimals = ap (λ (g : GridLines). g.decimals) c.self.view_is ∙ c.in_ok-put_on.ensures.1 in
    let changed = c.follow-changed.result in
    let full = is_marked c.args.cells.now in
    let coordinates = coordinates_of c.args.grid.now in
    subst (Each (AreLinesUnlessChanged c.args.decimals coordinates full changed)) (sym (ap (λ v. v.items) c.replace-planes.ensures.value))
    (each-weaker (AreLines c.args.decimals coordinates (is_marked c.self.inside.rows)) (AreLinesUnlessChanged c.args.decimals coordinates full changed)
    c.self.inside.planes.items (unchanged_lines c.args.decimals coordinates c.args.cells.now c.self.inside.rows changed c.follow-changed.ensures.beside)
    (subst (λ (k : ℕ). Each (AreLines k coordinates (is_marked c.self.inside.rows)) c.self.inside.planes.items) decimals
    (subst (λ (k : Coordinates). Each (AreLines c.self.inside.decimals k (is_marked c.self.inside.rows)) c.self.inside.planes.items) same
    c.self.invariant.each)))

pub invariant_of-self : goal.invariant_of-self
invariant_of-self c =
    let coordinates = coordinates_of c.args.grid.now in
    let kept : GridLines = record {
      decimals = c.self.inside.decimals;
      xs = c.self.inside.xs.items;
      ys = c.self.inside.ys.items;
      zs = c.self.inside.zs.items;
      rows = c.self.inside.rows;
      planes = c.self.inside.planes.items;
    } in
    lines_of_rows kept c.follow-changed.new.self c.replace-planes.new.dest.items c.args.decimals coordinates c.args.cells.now
    (ap listed c.self.view_is ∙ c.in_ok-put_on.ensures.0) (ap (λ (g : GridLines). g.decimals) c.self.view_is ∙ c.in_ok-put_on.ensures.1)
    c.follow-changed.ensures.same c.requires.sizes
    (subst (Each (AreLines c.args.decimals coordinates (is_marked c.args.cells.now)))
    (sym (ap (λ v. v.items) c.replace-planes.ensures.after ∙ c.new.ensures.items)) tt)

pub invariant_of-self-2 : goal.invariant_of-self-2
invariant_of-self-2 c =
    let kept : GridLines = record {
      decimals = c.self.inside.decimals;
      xs = c.self.inside.xs.items;
      ys = c.self.inside.ys.items;
      zs = c.self.inside.zs.items;
      rows = c.self.inside.rows;
      planes = c.self.inside.planes.items;
    } in
    lines_of_rows kept c.follow-changed.new.self c.put_all.new.planes.items c.args.decimals (coordinates_of c.args.grid.now) c.args.cells.now
    (ap listed c.self.view_is ∙ c.in_ok-put_on.ensures.0) (ap (λ (g : GridLines). g.decimals) c.self.view_is ∙ c.in_ok-put_on.ensures.1)
    c.follow-changed.ensures.same c.requires.sizes c.in_ok-put_all.ensures.each

pub returns : goal.returns
returns c =
    let (drawing, is_drawing, is_grid) = c.known.ensures.kept in
    lines_of_all c.args.decimals (coordinates_of c.args.grid.now) c.args.cells.now c.requires.sizes (λ a. (is_grid.coordinates a).ordered)
    c.put_all.new.planes.items c.in_ok-put_all.ensures
