-- The words are those of the box, and the flood over them reaches what leads out.
use Rattle.std.proofs.Common.{◌≡◌, ◌≤◌, length, IsTrue, ap, sym, subst, ◌∙◌, arith}
use Rattle.std.proofs.lemmas.List.{with_items_is}
use Rattle.std.proofs.lemmas.Nat.{mul-le}
use Rattle.solid_model.specs.declared.cell.Axis.TheVariants.{Y, Z}
use Rattle.solid_model.specs.Marks.{AreMarksOf}
use Rattle.solid_model.specs.PerAxis.{numbers_of}
use Rattle.solid_model.specs.WalledBoxes.{Sizes}
use Rattle.flood.specs.RowFlood.{ways_of, FloodsRows}
use Rattle.flood.specs.RowWords.{is_in_rows}
use Rattle.flood.proofs.RowLeads.{leading_marked}
use Rattle.flood.proofs.leading.leading_out.Goals as goal

pub flood_rows-requires : goal.flood_rows-requires
flood_rows-requires g c =
    let sizes = g.W.Walls.sizes c.args.walls.now in
    let rows = ap length c.as_mut_slice.ensures.value ∙ c.in_ok-reached.ensures.listed in
    let own : (a : _) → numbers_of c.sizes-sizes.result a ≡ sizes a = λ a t. c.sizes-sizes.ensures.sizes t a in
    let few_rows = subst (λ n. n ≤ 1022) (own Y) (c.sizes-sizes.ensures.few Y) in
    let few_layers = subst (λ n. n ≤ 1022) (own Z) (c.sizes-sizes.ensures.few Z) in
    let few = mul-le (sizes Z) (sizes Y) 1022 1022 few_layers few_rows in
    record {
      count = record {
        few = omega (arith, rows, few);
        layer = let l = c.sizes-sizes.ensures.few Y in omega arith;
        along = c.in_ok-row_words.ensures.listed ∙ sym rows;
        beside = c.in_ok-row_words-2.ensures.listed ∙ sym rows;
        behind = c.in_ok-row_words-3.ensures.listed ∙ sym rows;
      };
    }

pub returns : goal.returns
returns g c =
    let sizes = g.W.Walls.sizes c.args.walls.now in
    let rows = c.flood_rows.new.reached in
    let marks = c.in_ok-marks.marks in
    let w = ways_of record { layer = c.sizes-sizes.result.y; along = c.in_ok-row_words.field-0; beside = c.in_ok-row_words-2.field-0; behind = c.in_ok-row_words-3.field-0 } in
    let kept : c.as_slice.result.now ≡ rows =
    c.as_slice.ensures.value ∙ with_items_is c.in_ok-reached.reached rows (c.flood_rows.auto.reached ∙ c.as_mut_slice.ensures.len) in
    leading_marked sizes (g.W.Walls.stands c.args.walls.now) w (λ t. c.sizes-sizes.ensures.sizes t Y)
    c.in_ok-row_words.ensures c.in_ok-row_words-2.ensures c.in_ok-row_words-3.ensures c.in_ok-reached.reached.items rows c.in_ok-reached.ensures
    (subst (λ first. FloodsRows w first rows) c.as_mut_slice.ensures.value c.flood_rows.ensures) marks
    (subst (λ (s : Sizes). AreMarksOf s (λ n. IsTrue (is_in_rows s rows n)) marks) c.sizes-sizes.ensures.sizes
    (subst (λ words. AreMarksOf (numbers_of c.sizes-sizes.result) (λ n. IsTrue (is_in_rows (numbers_of c.sizes-sizes.result) words n)) marks) kept c.in_ok-marks.ensures))
