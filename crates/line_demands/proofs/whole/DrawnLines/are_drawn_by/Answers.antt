-- The bytes are compared.
use Rattle.std.proofs.Common.{◌≡◌, ◌<◌, ℕ, length, get_or, sym, ap, subst, ◌∙◌, arith}
use Rattle.std.proofs.lemmas.Bool.Decides.{Decides-eqb}
use Rattle.std.proofs.lemmas.List.{take_at}
use Rattle.std.proofs.lemmas.Slice.Eq.{slice_eq-Decides}
use Rattle.column_lanes.specs.Styles.{IsStyleByte}
use Rattle.lemmas.specs.Bits.{bits}
use Rattle.line_demands.specs.WholeChoices.{ArePackedOf}
use Rattle.line_demands.proofs.WholeBytes.{bytes_draw, drawn_bytes}
use Rattle.line_demands.proofs.whole.DrawnLines.are_drawn_by.Goals as goal

pub returns-clause-drawn : goal.returns-clause-drawn
returns-clause-drawn c =
    let columns = c.args.columns.now in
    let sides = c.args.sides.now in
    let lines = c.args.self.now in
    let numbers = lines.numbers.items in
    let after = c.pack.new.after in
    let before = c.pack.new.before in
    let out = c.styles.new.out in
    let packed : ArePackedOf columns sides numbers (length numbers) after before =
    subst (λ ns. ArePackedOf columns sides ns (length ns) after before) c.as_slice.ensures.value c.pack.ensures in
    let after_is : c.as_slice-2.result.now ≡ after = c.as_slice-2.ensures.value ∙ take_at after _ lines.after.len (c.pack.auto.after ∙ c.as_mut_slice.ensures.len) in
    let before_is : c.as_slice-3.result.now ≡ before = c.as_slice-3.ensures.value ∙ take_at before _ lines.before.len (c.pack.auto.before ∙ c.as_mut_slice-2.ensures.len) in
    let out_is : c.as_slice-4.result.now ≡ out = c.as_slice-4.ensures.value ∙ take_at out _ lines.drawn.len (c.styles.auto.out ∙ c.as_mut_slice-3.ensures.len) in
    let count : length c.as_slice-2.result.now ≡ length numbers =
    ap length after_is ∙ c.pack.auto.after ∙ ap length c.as_mut_slice.ensures.value ∙ c.requires.lines.after_count in
    let styled : (k : ℕ) → k < length numbers → IsStyleByte (get_or out k 0) (bits (get_or after k 0)) (bits (get_or before k 0)) =
    λ k l. rw (sym after_is, sym before_is) (c.styles.ensures k (omega (arith, count, l))) in
    let same = slice_eq-Decides Decides-eqb c.as_slice-4.result.now c.as_slice-5.result.now c.eq.result c.eq.ensures in (
      λ draws. bytes_draw columns sides numbers after before out lines.wanted.items packed styled c.requires.lines.wanted_is
          (sym out_is ∙ same.0 draws ∙ c.as_slice-5.ensures.value),
      λ all. same.1 (out_is ∙ drawn_bytes columns sides numbers after before out lines.wanted.items packed styled c.requires.lines.wanted_is
          (c.styles.auto.out ∙ ap length c.as_mut_slice-3.ensures.value ∙ c.requires.lines.drawn_count) c.requires.lines.wanted_count all ∙ sym c.as_slice-5.ensures.value),
    )
