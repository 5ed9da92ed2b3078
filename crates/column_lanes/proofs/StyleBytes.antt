-- The bytes of styles.
use Rattle.std.proofs.Common.{◌≡◌, refl, arith}
use Rattle.solid_model.specs.declared.segment.Style.{Style}
use Rattle.solid_model.specs.declared.segment.Style.TheVariants.{Blank, Dashed, Solid}
use Rattle.column_lanes.specs.Styles.{style_byte}

-- styles with the same byte are the same
pub same_style : (s t : Style) → style_byte s ≡ style_byte t → s ≡ t
same_style Blank Blank e = refl
same_style Blank Dashed e = absurd (omega (arith, e))
same_style Blank Solid e = absurd (omega (arith, e))
same_style Dashed Blank e = absurd (omega (arith, e))
same_style Dashed Dashed e = refl
same_style Dashed Solid e = absurd (omega (arith, e))
same_style Solid Blank e = absurd (omega (arith, e))
same_style Solid Dashed e = absurd (omega (arith, e))
same_style Solid Solid e = refl
