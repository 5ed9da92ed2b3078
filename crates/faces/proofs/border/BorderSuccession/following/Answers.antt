-- The number of the side that follows.
use Rattle.std.proofs.Common.{◌∙◌, ap, sym, subst}
use Rattle.faces.specs.PlaneSquares.{is_there}
use Rattle.solid_model.specs.Rounds.{following}
use Rattle.faces.proofs.BorderNumbers.{IsBorderAt, told_number, following_inside, numbers_one_to_one}
use Rattle.faces.proofs.border.BorderSuccession.following.Goals as goal

pub returns-clause-next : goal.returns-clause-next
returns-clause-next c =
    let b = c.args.self.now in
    c.number.ensures
    ∙ told_number b.up_first c.side_after.result _ (c.side_after.ensures.side ∙ ap (following (is_there b.squares.now)) c.side.ensures)

pub returns-clause-inside : goal.returns-clause-inside
returns-clause-inside c =
    let b = c.args.self.now in
    subst (IsBorderAt b.squares.now b.up_first) (sym (returns-clause-next c)) (following_inside b.squares.now b.up_first c.args.node c.requires)

pub returns-clause-one_to_one : goal.returns-clause-one_to_one
returns-clause-one_to_one c = numbers_one_to_one c.args.self.now.squares.now c.args.self.now.up_first
