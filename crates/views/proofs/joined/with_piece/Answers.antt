use Rattle.std.proofs.Common.{◌≡◌, [], ◌∷◌, ◌++◌, sym, ◌∙◌, subst, arith, rules}
use Rattle.std.proofs.lemmas.Int.{ints}
use Rattle.std.proofs.lemmas.List.{append-nil, nil_from_length}
use Rattle.solid_model.specs.Runs.{AreRuns}
use Rattle.views.specs.Joined.{EndBy}
use Rattle.views.proofs.Joining.{with_none, with_first, with_apart, with_joined}
use Rattle.views.proofs.joined.with_piece.Goals as goal
use Rattle.views.proofs.joined.with_piece.Goals.{in-None+in_ok-push-in-None, in-Some+in_ok-push-in-Some, in-Some-2+in_ok-push-in-Some-2+in_ok-push-in-Some-2-2}

pub returns-then-piece : goal.returns-then-piece
returns-then-piece c = with_none c.args.runs.items c.args.piece c.requires.runs (omega (arith, ints))

pub returns : goal.returns
returns c =
    let p = c.args.piece in
    let front = c.pop.new.self.items in
    elim c.match-pop.branch [
      | in-None+in_ok-push-in-None w ↦
          let none : c.args.runs.items ≡ [] = nil_from_length c.args.runs.items (search rules) in
          let no_front : front ≡ [] = sym (append-nil front) ∙ sym w.in-None.ensures.items ∙ none in
          rw (w.runs-is, w.in_ok-push-in-None.ensures.items, w.run_of.ensures, none, no_front) (with_first p (omega (arith, ints)) c.requires.drawn)
      | in-Some+in_ok-push-in-Some w ↦
          let last = w.in-Some.last in
          let split : c.args.runs.items ≡ front ++ last ∷ [] = w.in-Some.ensures.items in
          rw (w.runs-is, w.in_ok-push-in-Some.ensures.items, w.as_far_as.ensures, split)
          (with_joined front last p (subst AreRuns split c.requires.runs) (omega (arith, ints)) (sym w.goes_on.ensures ∙ w.if-goes_on.true))
      | in-Some-2+in_ok-push-in-Some-2+in_ok-push-in-Some-2-2 w ↦
          let last = w.in-Some.last in
          let split : c.args.runs.items ≡ front ++ last ∷ [] = w.in-Some.ensures.items in
          rw (w.runs-is, w.in_ok-push-in-Some-2-2.ensures.items, w.in_ok-push-in-Some-2.ensures.items, w.run_of-in-Some-2.ensures, split)
          (with_apart front last p (subst AreRuns split c.requires.runs) (omega (arith, ints)) (subst (EndBy p.at p.from) split c.requires.before) c.requires.drawn
          (sym w.goes_on.ensures ∙ w.if-goes_on.false))
    ]
