-- The first pair that is given, or the fault before it.
use Rattle.std.proofs.Common.{◌≡◌, Err, true, rules, w32, FitsSigned, sym, ap, subst, ◌∙◌}
use Rattle.std.proofs.lemmas.Int.{to_z-of_z}
use Rattle.std.proofs.lemmas.Result.{err_from_is_err_and}
use Rattle.dxf_groups.specs.Groups.{is_given, wanted_on}
use Rattle.dxf_groups.specs.Pairs.{ended}
use Rattle.dxf_groups.specs.ReadPairs.{IsReading, pairs_at}
use Rattle.dxf_groups.proofs.WantedPairs.{given_is_kept, read_given}
use Rattle.dxf_groups.proofs.pairs.pair_from.Given.{Over}
use Rattle.dxf_groups.proofs.pairs.pair_from.Goals.{After-pair_at}
use Rattle.dxf_groups.proofs.pairs.pair_from.Goals as goal

pub returns-in_err-read-clause-read : goal.returns-in_err-read-clause-read
returns-in_err-read-clause-read g c =
    let wanted = g.T.CodeTest.wanted c.args.test.now in
    let all = wanted_on wanted (pairs_at c.args.text.now c.args.start c.args.line) in
    let q = err_from_is_err_and c.from_residual.result c.from_residual.ensures.1 in
    let is : c.from_residual.result ≡ Err c.in_err-read.field-0.0 = cc in
    let fault : all ≡ ended (Err c.in_err-read.field-0.0) =
    c.loop-read.invariant.passed ∙ ap (wanted_on wanted) c.in_err-read.ensures in
    subst (IsReading c.args.text.now all) (sym is) fault

-- the code of the pair is one that is given
code_given : (g : Over) (c : After-pair_at g) → is_given (g.T.CodeTest.wanted c.args.test.now) c.pair_at.result.pair.code ≡ true
code_given g c =
    let fits : FitsSigned w32 c.in_ok-read.read.code = search rules in
    ap (is_given (g.T.CodeTest.wanted c.args.test.now)) (c.pair_at.ensures.code ∙ sym (to_z-of_z _ _ fits))
    ∙ sym c.is_given.ensures ∙ c.if-is_given.true

pub returns-then-is_given-clause-read : goal.returns-then-is_given-clause-read
returns-then-is_given-clause-read g c =
    read_given (g.T.CodeTest.wanted c.args.test.now) c.args.text.now (pairs_at c.args.text.now c.args.start c.args.line)
    (pairs_at c.args.text.now c.loop-read.place.start c.loop-read.place.line) c.pair_at.result
    c.loop-read.invariant.passed c.pair_at.ensures.read (code_given g c)

pub returns-then-is_given-clause-kept : goal.returns-then-is_given-clause-kept
returns-then-is_given-clause-kept g c =
    given_is_kept (g.T.CodeTest.wanted c.args.test.now) c.pair_at.result.pair.code (code_given g c)
