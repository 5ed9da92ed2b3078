-- One solid more is told, or begins to be.
use Rattle.std.proofs.Common.{◌≡◌, ◌≤◌, ◌+◌, ◌++◌, ℕ, List, Bool, Some, suc, take, length, refl, subst, subst₂, arith}
use Rattle.std.proofs.lemmas.List.{take_all}
use Rattle.std.proofs.lemmas.Option.{slice_get_read}
use Rattle.std.proofs.lemmas.Result.{err_from_is_err_and}
use Rattle.std.specs.List.{slice_get}
use Rattle.recon_run.specs.Answers.{TellsSolid, TellsSolids}
use Rattle.recon_run.proofs.Filled.{filled_at, filled_count, tells_more}
use Rattle.recon_run.proofs.TextByText.{refused_after, rose_since}
use Rattle.solid_model.specs.declared.cell.Cell.{Cell}
use Rattle.tv_base.proofs.Told.{appends_both}
use Rattle.tv_base.specs.Faults.{Rose}
use Rattle.recon_run.proofs.all_solids.write_solids.Goals as goal

pub loop-place-preserved : goal.loop-place-preserved
loop-place-preserved g c =
    let texts = c.args.texts.now in let choices = c.args.choices.now in let place = c.loop-place.place in
    let choice = c.index-choices-place.result in let d = texts.decimals in
    let at : slice_get choices place ≡ Some choice = slice_get_read choices (length choices) place choice refl c.loop-place-test.true c.index-choices-place.is in
    let (sized, later, tells) = c.loop-place.invariant in (
      c.in_ok-write_solid.ensures.sizes,
      (let since = c.in_ok-write_solid.ensures.later in omega (arith, later, since)),
      λ solids are.
          let (s, there, one) = filled_at texts.problem choices solids are place choice at in
          let (text, told, appends) = tells solids are in
          let (more, next, goes_on) = c.in_ok-write_solid.ensures.ends s one in (
            text ++ more,
            subst (λ n. TellsSolids d 1 (take n choices) (take n solids) (text ++ more)) (let e : suc place ≡ place + 1 = omega arith in e)
                (tells_more d 1 choices solids place choice s text more at there told
                (subst (λ n. TellsSolid d n choice s more) (let e : place + 1 ≡ 1 + place = omega arith in e) next)),
            appends_both _ _ _ text more appends goes_on,
          ),
    )

pub returns-in_err-write_solid-clause-ends : goal.returns-in_err-write_solid-clause-ends
returns-in_err-write_solid-clause-ends g c solids are =
    let texts = c.args.texts.now in let choices = c.args.choices.now in let place = c.loop-place.place in
    let choice = c.index-choices-place.result in let d = texts.decimals in
    let at : slice_get choices place ≡ Some choice = slice_get_read choices (length choices) place choice refl c.loop-place-test.true c.index-choices-place.is in
    let (s, there, one) = filled_at texts.problem choices solids are place choice at in
    let (sized, later, tells) = c.loop-place.invariant in let (text, told, appends) = tells solids are in
    let first = g.K.Sink.faults c.args.sink.now in let mid = g.K.Sink.faults c.loop-place.sink in let last = g.K.Sink.faults c.write_solid.new.sink in
    let failed = err_from_is_err_and c.from_residual.result c.from_residual.ensures.1 in
    rw (failed.1, failed.2) (refused_after (TellsSolid d (place + 1) choice s) (TellsSolids d 1 choices solids) (TellsSolid d (place + 1) choice s)
    (λ begun. (n : ℕ) × TellsSolids d 1 (take n choices) (take n solids) begun) text (g.K.Sink.held c.args.sink.now) (g.K.Sink.held c.loop-place.sink)
    (g.K.Sink.held c.write_solid.new.sink) (Rose mid last) (Rose first last) appends (rose_since first mid last later)
    (λ more next. (
      suc place,
      tells_more d 1 choices solids place choice s text more at there told
          (subst (λ n. TellsSolid d n choice s more) (let e : place + 1 ≡ 1 + place = omega arith in e) next),
    ))
    (place, told) c.in_err-write_solid.field-0.0 (c.in_err-write_solid.ensures.ends s one))

pub returns-clause-ends : goal.returns-clause-ends
returns-clause-ends g c solids are =
    let texts = c.args.texts.now in let choices = c.args.choices.now in let place = c.loop-place.place in
    let (sized, later, tells) = c.loop-place.invariant in let (text, told, appends) = tells solids are in
    let past : length choices ≤ place = omega (arith, c.loop-place-test.false) in
    let past_too : length solids ≤ place = (let many = filled_count texts.problem choices solids are in omega (arith, past, many)) in (
      text,
      subst₂ (λ (cs : List (List Bool)) (ss : List (List Cell)). TellsSolids texts.decimals 1 cs ss text) (take_all place choices past) (take_all place solids past_too) told,
      appends,
    )
