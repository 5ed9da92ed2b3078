use Rattle.std.proofs.Common.{◌≡◌, List, [], ◌∷◌, ◌++◌, Some, fold, sym, ◌∙◌, ap, subst}
use Rattle.solution_book.specs.Editions.{EditionParts, Begins}
use Rattle.solution_book.proofs.Known.{grows}
use Rattle.solution_book.proofs.writer.publish_one.Goals as goal

pub publish_as-requires : goal.publish_as-requires
publish_as-requires g c next is =
    let pending = c.in-Ok.ensures.pending ∙ ap (λ (l : List EditionParts). l ++ c.args.next ∷ []) c.requires.none in
    let same : next ≡ c.args.next = is ∙ ap (fold (λ _ (o : EditionParts). o) c.append.new.self.desk.shown.value) pending in
    let shown : c.append.new.self.desk.shown.value ≡ c.args.pen.desk.shown.value = ap (λ d. d.shown.value) c.in-Ok.ensures.desk in
    grows _ _ c.append.new.self.desk.shown.value next (subst (λ (n : EditionParts). Begins n (Some c.append.new.self.desk.shown.value)) (sym same)
    (subst (λ (e : EditionParts). Begins c.args.next (Some e)) (sym shown) c.requires.longer))
