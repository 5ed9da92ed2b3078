-- Pieces of a text, one after another.
use Rattle.std.proofs.Common.{refl, ℕ, ◌+◌, List, [], ◌++◌, length, take, Option, None, Some, Result, Ok, Err, OnErr, sym, ap, ◌∙◌, append_assoc, length-append, arith}
use Rattle.std.proofs.Math.Seq.{take-append-add}
use Rattle.std.proofs.lemmas.List.{append-nil, take-append-le}
use Rattle.std.specs.Io.KnownBytes.{Appends}
use Rattle.tv_base.proofs.Told.{appends_both}
use Rattle.tv_base.specs.Pieces.{AppendsPrefix, WritesOn}

appends_nothing : (a : Option (List ℕ)) → Appends a a []
appends_nothing None = tt
appends_nothing (Some bytes) = sym (append-nil bytes)

-- where nothing was written all is left
pub nothing_written : (a : Option (List ℕ)) (text : List ℕ) → WritesOn a a text text
nothing_written a text = ([], appends_nothing a, refl)

-- what is put behind what is left is put behind the text
pub written_more : (a b : Option (List ℕ)) (text rest more : List ℕ) → WritesOn a b text rest → WritesOn a b (text ++ more) (rest ++ more)
written_more a b text rest more (written, appends, is) = (written, appends, ap (λ xs. xs ++ more) is ∙ append_assoc written rest more)

-- one writing after another
pub written_on : (a b c : Option (List ℕ)) (text mid rest : List ℕ) → WritesOn a b text mid → WritesOn b c mid rest → WritesOn a c text rest
written_on a b c text mid rest (first, appends, is) (second, goes_on, so) = (
  first ++ second,
  appends_both a b c first second appends goes_on,
  is ∙ ap (λ xs. first ++ xs) so ∙ sym (append_assoc first second rest),
)

-- so where what is left was written on with something behind it, the text was with that behind it
pub written_next : (a b c : Option (List ℕ)) (text piece next rest : List ℕ) → WritesOn a b text piece → WritesOn b c (piece ++ next) rest
    → WritesOn a c (text ++ next) rest
written_next a b c text piece next rest on onward = written_on a b c (text ++ next) (piece ++ next) rest (written_more a b text piece next on) onward

-- after a writing, a prefix of what is left is a prefix of the text
pub prefix_written : (a b c : Option (List ℕ)) (text rest : List ℕ) → WritesOn a b text rest → AppendsPrefix b c rest → AppendsPrefix a c text
prefix_written a b c text rest (written, appends, is) (n, few, more) = (
  length written + n,
  (let long = length-append written rest in let same = ap length is in omega (arith, few, long, same)),
  rw is (rw (take-append-add written rest n) (appends_both a b c written (take n rest) appends more)),
)

-- a prefix of a text is one of a longer text
pub prefix_longer : (a b : Option (List ℕ)) (text more : List ℕ) → AppendsPrefix a b text → AppendsPrefix a b (text ++ more)
prefix_longer a b text more (n, few, appends) = (
  n,
  (let long = length-append text more in omega (arith, few, long)),
  rw (take-append-le n text more few) appends,
)

-- and nothing is a prefix of any
pub no_prefix : (a : Option (List ℕ)) (text : List ℕ) → AppendsPrefix a a text
no_prefix a text = (0, omega arith, appends_nothing a)

-- where all that is left is written, the whole text is
pub last_written : (a b c : Option (List ℕ)) (text rest : List ℕ) → WritesOn a b text rest → Appends b c rest → Appends a c text
last_written a b c text rest (written, appends, is) more = rw is (appends_both a b c written rest appends more)

-- and where none of it is, a prefix of the text was written
pub left_over : (a b : Option (List ℕ)) (text rest : List ℕ) → WritesOn a b text rest → AppendsPrefix a b text
left_over a b text rest on = prefix_written a b b text rest on (no_prefix b rest)

-- what holds holds at an error
pub at_error : {T E P : Type 0} (r : Result T E) → P → OnErr r P
at_error (Ok x) p = tt
at_error (Err e) p = p
