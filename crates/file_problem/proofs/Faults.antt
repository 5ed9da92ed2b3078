-- When an input has a fault, and when it has none.
use Rattle.std.proofs.Common.{◌≡◌, refl, inl, inr, ◌≤◌, Bool, true, false, List, length, Some, None, Result, Ok, Err, sym, subst, ap, ◌∙◌, arith}
use Rattle.dxf_entities.specs.declared.layer_line.LayerLine.{LayerLine}
use Rattle.dxf_entities.specs.Apart.{lines_read}
use Rattle.dxf_entities.proofs.TextFaults.{reads_are_not_long}
use Rattle.file_problem.specs.Inputs.{HasFineAxis, HasNoCut, Input, IsFaultAfter, IsFaultOfLines, IsFileFault, HasNoFault, HasProblem, form_of}
use Rattle.file_problem.specs.Cuts.{first_uncut}
use Rattle.file_problem.proofs.Grids.{one_too_fine, none_too_fine, one_grid, coordinates_from_grid}
use Rattle.file_problem.proofs.Problems.{one_block_count}
use Rattle.solid_model.specs.declared.fault.Fault.{Fault}
use Rattle.solid_model.specs.declared.fault.Fault.TheVariants.{EmptyView, NoCut, TooFine, TooLong, TooManyBlocks}
use Rattle.solid_model.specs.declared.frame.View.{View}
use Rattle.solid_model.specs.declared.frame.View.TheVariants.{Front, Top, Side}
use Rattle.solid_model.specs.Blocks.{IsBlocksOf, ProblemParts}
use Rattle.solid_model.specs.Drawings.{drawing_of, IsEmptyView, IsShown, IsFirstEmptyView, LacksView}
use Rattle.solid_model.specs.Line.{Line}
use Rattle.solid_model.specs.Limits.{most_blocks}
use Rattle.solid_model.specs.Panels.{GridParts, coordinates_of, IsGridOf}

-- the first empty view is empty
first_is_empty : (ls : List Line) (v : View) → IsFirstEmptyView ls v → IsEmptyView ls v
first_is_empty ls Front empty = empty
first_is_empty ls Top empty = empty.1
first_is_empty ls Side empty = empty.2

-- where as many views show something as are asked for, none is lacked
shown_not_lacked : (two : Bool) (ls : List Line) (v : View) → IsShown two ls → LacksView two ls v → ⊥
shown_not_lacked false ls v shown lacks = shown v (first_is_empty ls v lacks)
shown_not_lacked true ls v shown (first, w, differs, empty) = shown v w (λ same. differs (sym same)) (first_is_empty ls v first) empty

-- lines have at most one first empty view
one_empty_view : (ls : List Line) (v w : View) → IsFirstEmptyView ls v → IsFirstEmptyView ls w → v ≡ w
one_empty_view ls Front Front a b = refl
one_empty_view ls Front Top a b = absurd (b.0 a)
one_empty_view ls Front Side a b = absurd (b.0 a)
one_empty_view ls Top Front a b = absurd (a.0 b)
one_empty_view ls Top Top a b = refl
one_empty_view ls Top Side a b = absurd (b.1 a.1)
one_empty_view ls Side Front a b = absurd (a.0 b)
one_empty_view ls Side Top a b = absurd (a.1 b.1)
one_empty_view ls Side Side a b = refl

-- so they lack at most one
one_lacked : (two : Bool) (ls : List Line) (v w : View) → LacksView two ls v → LacksView two ls w → v ≡ w
one_lacked false ls v w a b = one_empty_view ls v w a b
one_lacked true ls v w a b = one_empty_view ls v w a.0 b.0

-- a drawing with a grid has no axis that is too fine
not_fine : (two : Bool) (ls : List Line) (g : GridParts) → IsGridOf (drawing_of ls) g → (f : Fault) → HasFineAxis two ls f → ⊥
not_fine two ls g grid f (_, a, count, fine, _) =
    none_too_fine (drawing_of ls) (coordinates_of g) (coordinates_from_grid (drawing_of ls) g grid) a count fine

-- the fault of lines is one
one_lines_fault : (two : Bool) (ls : List Line) (f g : Fault) → IsFaultOfLines two ls f → IsFaultOfLines two ls g → f ≡ g
one_lines_fault two ls f g (inl p) (inl q) = p.2 ∙ ap EmptyView (one_lacked two ls p.0 q.0 p.1 q.1) ∙ sym q.2
one_lines_fault two ls f g (inl p) (inr (inl q)) = absurd (shown_not_lacked two ls p.0 q.0 p.1)
one_lines_fault two ls f g (inl p) (inr (inr q)) = absurd (shown_not_lacked two ls p.0 q.0 p.1)
one_lines_fault two ls f g (inr (inl p)) (inl q) = absurd (shown_not_lacked two ls q.0 p.0 q.1)
one_lines_fault two ls f g (inr (inr p)) (inl q) = absurd (shown_not_lacked two ls q.0 p.0 q.1)
one_lines_fault two ls f g (inr (inl (shown, a, count, fine, is))) (inr (inl (shown_too, b, other, fine_too, is_too))) =
    let one = one_too_fine (drawing_of ls) a b count other fine fine_too in
    is ∙ (λ t. TooFine (one.0 t) (one.1 t)) ∙ sym is_too
one_lines_fault two ls f g (inr (inl p)) (inr (inr (shown, grid, is_grid, count, many, is))) = absurd (not_fine two ls grid is_grid f p)
one_lines_fault two ls f g (inr (inr (shown, grid, is_grid, count, many, is))) (inr (inl q)) = absurd (not_fine two ls grid is_grid g q)
one_lines_fault two ls f g (inr (inr (shown, grid, is_grid, count, (numbers, are, many), is))) (inr (inr (shown_too, other, is_other, count_too, (others, are_too, many_too), is_too))) =
    let same = one_grid (drawing_of ls) grid other is_grid is_other in
    is ∙ ap TooManyBlocks (one_block_count grid other same numbers others count count_too are are_too).1 ∙ sym is_too

-- lines with a problem have no fault
module _ (two : Bool) (ls : List Line) (p : ProblemParts) (shown : IsShown two ls) (grid : IsGridOf (drawing_of ls) p.grid)
    (blocks : IsBlocksOf p.grid p.blocks) (few : p.blocks.count ≤ most_blocks) where
  no_lines_fault : (f : Fault) → IsFaultOfLines two ls f → ⊥
  no_lines_fault f (inl empty) = shown_not_lacked two ls empty.0 shown empty.1
  no_lines_fault f (inr (inl fine)) = not_fine two ls p.grid grid f fine
  no_lines_fault f (inr (inr (shown_too, other, is_other, many, (others, are, above), is))) =
      let same = one_grid (drawing_of ls) other p.grid is_other grid in
      let counted = (one_block_count other p.grid same others p.blocks.numbers many p.blocks.count are blocks.blocks).1 in
      omega (arith, above, few, counted)

-- where a plane doesn't cut they have none
cut_no_lines_fault : (two : Bool) (ls : List Line) (others : List LayerLine) (f g : Fault) → HasNoCut two ls others g → IsFaultOfLines two ls f → ⊥
cut_no_lines_fault two ls others f g has fault = no_lines_fault two ls has.problem has.shown has.grid has.blocks has.few f fault

-- a plane of two grids of a drawing is one
one_uncut : {A : Type 0} (m n : A) → Some m ≡ Some n → m ≡ n
one_uncut m n e = cc

one_no_cut : (two : Bool) (ls : List Line) (others : List LayerLine) (f g : Fault) → HasNoCut two ls others f → HasNoCut two ls others g → f ≡ g
one_no_cut two ls others f g has has_too =
    let same = one_grid (drawing_of ls) has.problem.grid has_too.problem.grid has.grid has_too.grid in
    let line = one_uncut has.line has_too.line (sym has.first ∙ (ap (λ g. first_uncut g others) same ∙ has_too.first)) in
    has.is ∙ (ap NoCut line ∙ sym has_too.is)

-- the fault of what a file reads as is one
one_fault_after : (two : Bool) (r : Result (List Line × List LayerLine) Fault) (f g : Fault) → IsFaultAfter two r f → IsFaultAfter two r g → f ≡ g
one_fault_after two (Err found) f g p q = p ∙ sym q
one_fault_after two (Ok read) f g (inl p) (inl q) = one_lines_fault two read.0 f g p q
one_fault_after two (Ok read) f g (inl p) (inr q) = absurd (cut_no_lines_fault two read.0 read.1 f g q p)
one_fault_after two (Ok read) f g (inr p) (inl q) = absurd (cut_no_lines_fault two read.0 read.1 g f p q)
one_fault_after two (Ok read) f g (inr p) (inr q) = one_no_cut two read.0 read.1 f g p q

-- an input has at most one first fault
pub one_fault : (t : Input) (f g : Fault) → IsFileFault t f → IsFileFault t g → f ≡ g
one_fault t f g (inl p) (inl q) = p.1 ∙ sym q.1
one_fault t f g (inl p) (inr q) = absurd (omega (arith, p.0, q.0))
one_fault t f g (inr p) (inl q) = absurd (omega (arith, p.0, q.0))
one_fault t f g (inr p) (inr q) = one_fault_after t.two (lines_read (form_of t) t.bytes) f g p.1 q.1

-- a file that isn't too long has the fault of what it reads as
pub file_fault : (t : Input) (r : Result (List Line × List LayerLine) Fault) (f : Fault) → length t.bytes ≤ t.most → lines_read (form_of t) t.bytes ≡ r → IsFaultAfter t.two r f → IsFileFault t f
file_fault t r f short reads after = inr (short, subst (λ r. IsFaultAfter t.two r f) (sym reads) after)

-- an input with a problem has no fault
pub no_fault : {t : Input} {p : ProblemParts} → HasProblem t p → HasNoFault t
no_fault has f (inl long) = let short = has.short in absurd (omega (arith, long.0))
no_fault {t} {p} has f (inr read) = by (subst (λ r. IsFaultAfter t.two r f) has.reads read.1)
  where
    by : IsFaultAfter t.two (Ok (has.lines, has.further)) f → ⊥
    by (inl fault) = no_lines_fault t.two has.lines p has.shown has.grid has.blocks has.few f fault
    by (inr uncut) =
        let same = one_grid (drawing_of has.lines) uncut.problem.grid p.grid uncut.grid has.grid in
        let none : Some uncut.line ≡ None = sym uncut.first ∙ (ap (λ g. first_uncut g has.further) same ∙ has.cuts) in cc

-- no fault of lines is that their file is too long,
lines_are_not_long : (two : Bool) (ls : List Line) → IsFaultOfLines two ls TooLong → ⊥
lines_are_not_long two ls (inl (v, empty, is)) = cc
lines_are_not_long two ls (inr (inl (shown, a, count, fine, is))) = cc
lines_are_not_long two ls (inr (inr (shown, g, grid, count, many, is))) = cc

-- nor is it one of an input that isn't
pub short_is_not_long : (t : Input) → length t.bytes ≤ t.most → IsFileFault t TooLong → ⊥
short_is_not_long t short (inl long) = absurd (omega (arith, long.0))
short_is_not_long t short (inr read) = by (lines_read (form_of t) t.bytes) refl read.1
  where
    by : (r : Result (List Line × List LayerLine) Fault) → lines_read (form_of t) t.bytes ≡ r → IsFaultAfter t.two r TooLong → ⊥
    by (Err found) is after = reads_are_not_long (form_of t) t.bytes (is ∙ ap Err (sym after))
    by (Ok read) is (inl lines) = lines_are_not_long t.two read.0 lines
    by (Ok read) is (inr uncut) = let no : TooLong ≡ NoCut uncut.line = uncut.is in cc
