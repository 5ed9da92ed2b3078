-- What an author publishes next.
use Rattle.std.proofs.Common.{◌≡◌, ◌≢◌, ℕ, Bool, List, ◌++◌, length, take, drop, sym, ap, subst, ◌∙◌, append_assoc}
use Rattle.std.proofs.Math.Seq.{drop-append_seam}
use Rattle.std.proofs.lemmas.List.{take-append-drop}
use Rattle.lemmas.specs.Lists.{Ascends}
use Rattle.lemmas.proofs.Lists.{ascends-append_left}
use Rattle.solution_book.specs.Editions.{StartsWith}
use Rattle.search_tests.specs.Authors.{AuthorParts, IsAuthor}

-- the published ones and so many of those after them
module _ (a : AuthorParts) (is : IsAuthor a) (from k : ℕ) (list : List (List Bool)) (past : from ≡ length a.book.edition.solids) (all : list ≡ a.solids) where
  abbrev published : List (List Bool)
  published = a.book.edition.solids

  -- are the first ones
  pub next_starts : StartsWith a.solids (published ++ take k (drop from list))
  next_starts =
      let rest : List (List Bool) = is.first.0 in
      let whole : a.solids ≡ published ++ rest = is.first.1 in
      let same : drop from list ≡ drop (length published) a.solids = λ i. drop (past i) (all i) in
      let left : drop from list ≡ rest = same ∙ ap (drop (length published)) whole ∙ drop-append_seam published rest in (
        drop k rest,
        whole ∙ ap (λ l. published ++ l) (sym (take-append-drop k rest)) ∙ sym (append_assoc published (take k rest) (drop k rest))
            ∙ ap (λ l. (published ++ take k l) ++ drop k rest) (sym left),
      )

  -- so none of them stands twice
  pub next_once : Ascends ◌≢◌ (published ++ take k (drop from list))
  next_once = ascends-append_left ◌≢◌ (published ++ take k (drop from list)) next_starts.0 (subst (Ascends ◌≢◌) next_starts.1 is.solved.once)
