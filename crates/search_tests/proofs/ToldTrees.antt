-- Tests that a text tells make trees.
use Rattle.std.proofs.Common.{◌≡◌, Bool, true, false, ℕ, ◌+◌, ◌*◌, ◌==◌, List, [], ◌∷◌, ◌++◌, length, slice_index_or, nat_le, IsTrue, sym, length-append, arith}
use Rattle.std.proofs.lemmas.Bool.{and_parts, and_from, and_left, leb-true, le-leb}
use Rattle.solid_model.specs.Tree.{IsTree}
use Rattle.search_tests.specs.Words.{lets, is_let}

lets_beginning : (text : List ℕ) (place : ℕ) (values rest : List Bool) → IsTrue (lets text place (values ++ rest)) → IsTrue (lets text place values)
lets_beginning text place [] [] h = h
lets_beginning text place [] (true ∷ rest) h = (and_parts _ _ h).0
lets_beginning text place [] (false ∷ rest) h = (and_parts _ _ h).0
lets_beginning text place (true ∷ values) rest h = let p = and_parts _ _ h in and_from _ _ p.0 (lets_beginning text (2 * place + 1) values rest p.1)
lets_beginning text place (false ∷ values) rest h = let p = and_parts _ _ h in and_from _ _ p.0 (lets_beginning text (2 * place + 2) values rest p.1)

pub told_tree : (n : ℕ) (text : List ℕ) → IsTree (is_let n text) n
told_tree n text = record {
  short = λ prefix h. leb-true (length prefix) n (and_parts (nat_le (length prefix) n) (lets text 0 prefix) h).0;
  closed = λ prefix rest h.
      let p = and_parts (nat_le (length (prefix ++ rest)) n) (lets text 0 (prefix ++ rest)) h in
      and_from (nat_le (length prefix) n) (lets text 0 prefix)
      (le-leb (length prefix) n (omega (arith, leb-true (length (prefix ++ rest)) n p.0, length-append prefix rest)))
      (lets_beginning text 0 prefix rest p.1);
}

-- where there is no '#', nothing is let on
pub none_let : (text : List ℕ) (place : ℕ) (values : List Bool) → (slice_index_or text place 0 == 35) ≡ false → false ≡ lets text place values
none_let text place [] e = sym e
none_let text place (true ∷ values) e = sym (and_left (slice_index_or text place 0 == 35) (lets text (2 * place + 1) values) e)
none_let text place (false ∷ values) e = sym (and_left (slice_index_or text place 0 == 35) (lets text (2 * place + 2) values) e)
