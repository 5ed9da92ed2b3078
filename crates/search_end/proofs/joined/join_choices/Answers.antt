-- Those that are added are new.
use Rattle.std.proofs.Common.{◌≡◌, ◌-◌, ◌++◌, List, Bool, length, take, ◌∙◌, ap, rules}
use Rattle.solid_model.specs.Solutions.{IsSolutionOf}
use Rattle.search_end.specs.Answers.{new_ones}
use Rattle.search_end.proofs.JoinedLists.{joined_few, joined_once, joined_each, joined_covers}
use Rattle.search_end.proofs.joined.join_choices.Goals as goal

pub returns-clause-solutions : goal.returns-clause-solutions
returns-clause-solutions c p own others =
    let first = c.args.first.items in
    let left : c.in_ok-left.left.items ≡ take (c.args.most - length first) (new_ones first c.args.list.now) = search rules in
    let is = c.in_ok-append.ensures.items ∙ ap (λ (l : List (List Bool)). first ++ l) left in (
      record {
        each = joined_each first c.args.list.now c.args.most c.requires.few c.append.new.self.items is (IsSolutionOf p) own.each others.each;
        once = joined_once first c.args.list.now c.args.most c.requires.few c.append.new.self.items is own.once others.once;
      },
      joined_few first c.args.list.now c.args.most c.requires.few c.append.new.self.items is,
    )

pub returns-clause-covers : goal.returns-clause-covers
returns-clause-covers c =
    let first = c.args.first.items in
    let left : c.in_ok-left.left.items ≡ take (c.args.most - length first) (new_ones first c.args.list.now) = search rules in
    let is = c.in_ok-append.ensures.items ∙ ap (λ (l : List (List Bool)). first ++ l) left in
    joined_covers first c.args.list.now c.args.most c.requires.few c.append.new.self.items is
