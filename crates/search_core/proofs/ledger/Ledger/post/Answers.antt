-- What was to be the first piece is it.
use Rattle.std.proofs.Common.{◌≡◌, ◌<◌, ◌++◌, ℕ, List, length, sym, ◌∙◌, ap, subst}
use Rattle.lemmas.specs.Lists.{Each}
use Rattle.lemmas.proofs.Lists.{each-append}
use Rattle.prefix_tree.specs.Places.{StandsAt}
use Rattle.search_core.specs.declared.ledger.Placed.{Placed}
use Rattle.search_core.specs.Postings.{placed_or}
use Rattle.search_core.specs.Frontier.{count_without, passed, first_or}
use Rattle.search_core.proofs.FirstPieces.{each-passed, first-of_both}
use Rattle.search_core.proofs.ledger.Ledger.post.Goals as goal

pub returns-clause-first : goal.returns-clause-first
returns-clause-first c =
    let b = c.args.self.now in
    let rest = c.args.posting.rest.items in
    let first : Placed = placed_or b.first c.args.posting.first in
    let renewed : c.renew.new.placed ≡ first = c.renew.ensures in
    let left : List ℕ = passed (count_without b.frontier.counts c.args.piece) b.frontier.ahead in
    let ahead : c.put_all.new.frontier.ahead ≡ left ++ rest = c.put_all.ensures.ahead ∙ ap (λ (ks : List ℕ). ks ++ c.as_slice.result.now) c.take.ensures.ahead ∙ ap (λ (ks : List ℕ). left ++ ks) c.as_slice.ensures.value in
    record {
      stands = subst (λ (f : Placed). StandsAt b.prefixes f.prefix f.place) (sym renewed) c.requires.first;
      is = subst (λ (f : Placed). first_or f.place c.put_all.new.frontier.ahead ≡ f.place) (sym renewed)
          (ap (first_or first.place) ahead ∙ ap (λ (k : ℕ). first_or k (left ++ rest)) c.requires.next ∙ first-of_both b.first.place left rest ∙ sym c.requires.next);
      ahead = subst (Each (λ k. k < length b.prefixes)) (sym ahead)
          (each-append (λ k. k < length b.prefixes) left rest (each-passed (λ k. k < length b.prefixes) (count_without b.frontier.counts c.args.piece) b.frontier.ahead c.requires.known.ahead) c.requires.rest);
    }
