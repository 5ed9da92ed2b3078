-- What is published of what a desk has found are solutions, and stays a beginning of it.
use Rattle.std.proofs.Common.{◌≡◌, ◌≢◌, Bool, ℕ, List, [], ◌-◌, ◌++◌, append-nil, length, take, drop, sym, ◌∙◌, ap, subst}
use Rattle.std.proofs.Math.Seq.{drop-append_seam}
use Rattle.solid_model.specs.Blocks.{IsBlocksOf}
use Rattle.lemmas.specs.Lists.{Each, Ascends}
use Rattle.solid_model.specs.Reports.{Report}
use Rattle.solid_model.specs.Solutions.{IsSolutionOf}
use Rattle.lemmas.proofs.Lists.{each-append_right}
use Rattle.search_core.specs.declared.desk.Reported.{Reported}
use Rattle.search_core.specs.declared.desk.Reported.TheVariants.{Taken, Stranger, Stop, Gone}
use Rattle.search_core.specs.Desk.{DeskParts, IsDesk}
use Rattle.search_core.specs.Reported.{IsReported}
use Rattle.solution_book.specs.Editions.{EditionParts, StartsWith}
use Rattle.solution_book.proofs.Pages.{starts_on}
use Rattle.search_run.specs.Shared.{IsShared}
use Rattle.search_end.proofs.AnswerLists.{part_whole}
use Rattle.search_end.proofs.DeskFound.{found_solutions, found_once, found_grows}

-- and goes on with what follows its beginning
starts_split : (xs ys : List (List Bool)) → StartsWith xs ys → (n : ℕ) → n ≡ length ys → xs ≡ ys ++ drop n xs
starts_split xs ys (rest, e) n same =
    let left : drop n xs ≡ rest = ap (λ (k : ℕ). drop k xs) same ∙ ap (drop (length ys)) e ∙ drop-append_seam ys rest in
    e ∙ ap (λ l. ys ++ l) (sym left)

module _ (d : DeskParts) (desk : IsDesk d) (blocks : IsBlocksOf d.problem.grid d.problem.blocks) where
  -- a report leaves what is published a beginning of what is found
  pub noted : (after : DeskParts) (r : Report) (e : EditionParts) (answer : Reported) → IsReported d r after answer
      → IsShared record { desk = d; edition = e } → IsShared record { desk = after; edition = e }
  noted after r e (Taken rest) (takes, taken, handed) h = record {
    problem = h.problem ∙ sym taken.problem;
    begins = starts_on after.found d.found e.solids (found_grows d desk blocks after r taken) h.begins;
  }
  noted after r e Stranger (a, same) h = subst (λ (x : DeskParts). IsShared record { desk = x; edition = e }) (sym same) h
  noted after r e Stop (a, b, same) h = subst (λ (x : DeskParts). IsShared record { desk = x; edition = e }) (sym same) h
  noted after r e Gone (a, b, c, same) h = subst (λ (x : DeskParts). IsShared record { desk = x; edition = e }) (sym same) h

-- of what is found, where so many are published, the others aren't
module _ (d : DeskParts) (e : EditionParts) (h : IsShared record { desk = d; edition = e }) (n : ℕ) (count : n ≡ length e.solids) where
  abbrev pub others : List (List Bool)
  others = take (length d.found - n) (drop n d.found)

  split : d.found ≡ e.solids ++ others
  split = starts_split d.found e.solids h.begins n count ∙ ap (λ l. e.solids ++ l) (sym (part_whole n d.found))

  module _ (desk : IsDesk d) (blocks : IsBlocksOf d.problem.grid d.problem.blocks) where
    pub others_each : Each (IsSolutionOf e.problem) others
    others_each = each-append_right (IsSolutionOf e.problem) e.solids others (subst (Each (IsSolutionOf e.problem)) split
        (subst (λ p. Each (IsSolutionOf p) d.found) (sym h.problem) (found_solutions d desk blocks)))

    pub others_once : Ascends ◌≢◌ (e.solids ++ others)
    others_once = subst (Ascends ◌≢◌) split (found_once d desk blocks)

  -- once they are, all is published
  pub others_shared : (f : EditionParts) → f ≡ record { problem = e.problem; solids = e.solids ++ others } → IsShared record { desk = d; edition = f }
  others_shared f same = subst (λ (x : EditionParts). IsShared record { desk = d; edition = x }) (sym same)
      (record { problem = h.problem; begins = ([], split ∙ sym (append-nil (e.solids ++ others))) })
