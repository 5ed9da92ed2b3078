-- The choices of one tale more.
use Rattle.std.proofs.Common.{◌≡◌, take, get_or, sym, subst, rules}
use Rattle.std.proofs.lemmas.List.{take_more}
use Rattle.lemmas.specs.Lists.{Each}
use Rattle.lemmas.proofs.Lists.{each-at, each-push, each-weaker}
use Rattle.lemmas.proofs.ListPlaces.{member-at}
use Rattle.solid_model.specs.Blocks.{ProblemParts}
use Rattle.solid_model.specs.Solutions.{AreSolutions}
use Rattle.search_end.specs.Handed.{AreFewSolutions}
use Rattle.session_run.specs.Session.{AreAmong}
use Rattle.session_run.proofs.Listed.{listed_more}
use Rattle.session_run.proofs.tales.told_choices.Goals as goal

pub join_choices-requires-clause-few : goal.join_choices-requires-clause-few
join_choices-requires-clause-few c = let (p, each) = c.requires in (c.loop-tale.invariant.solutions p each).1

pub loop-tale-preserved : goal.loop-tale-preserved
loop-tale-preserved c =
    let most = c.args.most in
    let tales = c.args.tales.now in
    let at = c.loop-tale.tale-index in
    let here = c.loop-tale-test.true in
    let tale = get_or tales at c.tale-item.result in
    let last : c.as_slice.result.now ≡ tale.last.items = search rules in
    let before = c.loop-tale.told.items in
    let told = c.in_ok-told.told.items in
    let so_far = c.loop-tale.invariant in
    let joined = c.in_ok-told.ensures in
    let solutions : (p : ProblemParts) → Each (λ t. AreSolutions p t.last.items) tales → AreFewSolutions p most told = λ p each.
    joined.solutions p (so_far.solutions p each).0
    (subst (AreSolutions p) (sym last) (each-at (λ t. AreSolutions p t.last.items) tales tale each (member-at tales at c.tale-item.result here))) in
    let few = (solutions c.requires.0 c.requires.1).1 in
    record {
      solutions = solutions;
      all = subst (Each (λ t. AreAmong most told t.last.items)) (sym (take_more tales at c.tale-item.result here))
          (each-push (λ t. AreAmong most told t.last.items) (take at tales) tale
          (each-weaker (λ t. AreAmong most before t.last.items) (λ t. AreAmong most told t.last.items) (take at tales)
          (λ t. listed_more most before told t.last.items joined.begins few) so_far.all)
          (subst (AreAmong most told) last joined.covers));
    }
