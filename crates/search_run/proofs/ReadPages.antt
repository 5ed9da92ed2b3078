-- What is handed out of a book is the beginning of what was seen of it.
use Rattle.std.proofs.Common.{◌≡◌, ◌≤◌, ◌-◌, Bool, ℕ, List, [], ◌++◌, length, take, drop, Some, refl, sym, ◌∙◌, ap, subst, append_assoc, take-append-drop, arith, length-append, length-take}
use Rattle.std.proofs.Math.Seq.{drop-append_seam}
use Rattle.solid_model.specs.Blocks.{ProblemParts}
use Rattle.solid_model.specs.Solutions.{AreSolutions}
use Rattle.solution_book.specs.Editions.{EditionParts, ReaderParts, Begins, Looked}
use Rattle.solution_book.proofs.Pages.{starts_on}
use Rattle.search_run.specs.HandedOut.{IsReadUpTo}
use Rattle.search_end.proofs.PageCalls.{solutions_left}

-- what was handed out are solutions
pub read_solutions : (p : ProblemParts) (known : ReaderParts) (handed : List (List Bool)) → IsReadUpTo p known handed → AreSolutions p handed
read_solutions p known handed h =
    solutions_left p handed h.begins.0 (subst (AreSolutions p) h.begins.1 (subst (λ q. AreSolutions q h.edition.solids) h.problem h.kept))

-- with the next part of an edition that is seen later too
pub read_on : (p : ProblemParts) (known now : ReaderParts) (handed part : List (List Bool)) (e : EditionParts) (from most : ℕ) → IsReadUpTo p known handed
    → Looked known now e → from ≡ length handed → part ≡ take most (drop from e.solids) → IsReadUpTo p now (handed ++ part)
read_on p known now handed part e from most h look at is =
    let begins : Begins e (Some h.edition) = subst (Begins e) h.seen look.begins in
    let starts = starts_on e.solids h.edition.solids handed begins.1 h.begins in
    let rest : List (List Bool) = starts.0 in
    let left : drop from e.solids ≡ rest = ap (λ (k : ℕ). drop k e.solids) at ∙ ap (drop (length handed)) starts.1 ∙ drop-append_seam handed rest in
    record {
      edition = e;
      seen = look.known;
      problem = begins.0 ∙ h.problem;
      kept = look.kept;
      begins = (
        drop most rest,
        starts.1 ∙ ap (λ l. handed ++ l) (sym (take-append-drop most rest)) ∙ sym (append_assoc handed (take most rest) (drop most rest))
            ∙ ap (λ l. (handed ++ l) ++ drop most rest) (sym (is ∙ ap (take most) left)),
      );
    }

-- and they are no longer together than the part had room for
pub within_room : (n most from : ℕ) (handed part list : List (List Bool)) → part ≡ take most (drop from list) → most ≤ n - length handed → length handed ≤ n
    → length (handed ++ part) ≤ n
within_room n most from handed part list is room few =
    omega (arith, ap length is, length-take most (drop from list), length-append handed part, room, few)

-- at first nothing was
pub read_first : (p : ProblemParts) (known now : ReaderParts) (e : EditionParts) → Looked known now e → e.problem ≡ p → IsReadUpTo p now []
read_first p known now e look same = record { edition = e; seen = look.known; problem = same; kept = look.kept; begins = (e.solids, refl) }
