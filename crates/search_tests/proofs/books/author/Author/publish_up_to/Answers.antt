use Rattle.std.proofs.Common.{◌-◌, sym, subst}
use Rattle.solution_book.specs.Editions.{BookParts}
use Rattle.search_tests.specs.Authors.{IsAuthor}
use Rattle.search_tests.proofs.Authors.{next_starts, next_once}
use Rattle.search_tests.proofs.books.author.Author.publish_up_to.Goals as goal

pub publish-requires-clause-once : goal.publish-requires-clause-once
publish-requires-clause-once g c =
    next_once record { book = c.self.inside.writer; solids = c.self.inside.solids.items } c.self.invariant c.published-from.result (c.max.result - c.published-from.result) c.deref.result.now
    c.published-from.ensures.published c.deref.ensures.value

pub invariant_of-self-2 : goal.invariant_of-self-2
invariant_of-self-2 g c =
    subst (λ (b : BookParts). IsAuthor record { book = b; solids = c.self.inside.solids.items }) (sym c.in_ok-receipt.ensures.2) record {
      solved = c.self.invariant.solved;
      first =
          next_starts record { book = c.self.inside.writer; solids = c.self.inside.solids.items } c.self.invariant c.published-from.result (c.max.result - c.published-from.result) c.deref.result.now
          c.published-from.ensures.published c.deref.ensures.value;
    }
