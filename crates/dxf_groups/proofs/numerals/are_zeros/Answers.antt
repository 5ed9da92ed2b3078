-- Each digit is 0 just where the number is.
use Rattle.std.proofs.Common.{rules, tests, ◌≡◌}
use Rattle.std.specs.List.{list_all}
use Rattle.std.proofs.lemmas.Iterator.{YieldsList-from_slice}
use Rattle.std.proofs.lemmas.Iterator.Search.{all_from_yields_List}
use Rattle.dxf_groups.proofs.NumeralDigits.{is_zero, zeros_value, value_zeros}
use Rattle.dxf_groups.proofs.numerals.are_zeros.Goals as goal

pub returns : goal.returns
returns c =
    let ds = c.args.digits.now in
    let same : c.all.result ≡ list_all is_zero ds =
    all_from_yields_List is_zero _ _ c.all.result c.all.ensures.ran (YieldsList-from_slice ds cc)
    (λ x b q k. search (rules, tests)) in
    rw same (zeros_value ds, value_zeros ds c.requires)
