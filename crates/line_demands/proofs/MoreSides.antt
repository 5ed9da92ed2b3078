-- Lines are listed one after another, and marked as lines that can be met.
use Rattle.std.proofs.Common.{◌≡◌, Bool, true, false, ℕ, ◌+◌, ◌*◌, ◌≤◌, List, [], ◌∷◌, ◌++◌, replicate, map, append_assoc, if◌then◌else◌, ap, sym, subst, ◌∙◌, arith}
use Rattle.std.specs.Prelude.{All}
use Rattle.std.specs.List.{flat_map, range_with_len}
use Rattle.std.proofs.lemmas.Grind.{flat_map-append}
use Rattle.std.proofs.lemmas.List.{length_push, length-replicate, get_or-replicate, map-append, append-nil}
use Rattle.std.proofs.lemmas.List.Elements.{All-push}
use Rattle.std.proofs.lemmas.List.Folds.{sum_by-replicate}
use Rattle.std.proofs.lemmas.List.FromFn.{map-range_with_len_more}
use Rattle.line_demands.specs.declared.lines.Beside.{Beside}
use Rattle.line_demands.specs.Gathered.{AreMoreSides}
use Rattle.line_demands.specs.Lines.{AreMarked}
use Rattle.line_demands.specs.KeptColumns.{IsBeside, AreSides}
use Rattle.line_demands.proofs.ListParts.{range_more}
use Rattle.solid_model.specs.declared.line_id.LineId.{LineId}
use Rattle.solid_model.specs.Blocks.{ProblemParts}
use Rattle.solid_model.specs.declared.frame.View.{View}
use Rattle.solid_model.specs.declared.frame.View.TheVariants.{Front, Top, Side}
use Rattle.solid_model.specs.Demands.{lines_along, lines_in, lines_of}
use Rattle.solid_model.specs.Wire.{is_drawn_view}
use Rattle.lemmas.specs.Counts.{one_if, times_listed}

module _ (p : ProblemParts) where
  pub no_sides : (old : List Beside) → AreMoreSides p [] 0 old old
  no_sides old = record { listed = sym (append-nil (map (λ b. b.line) old)); each = λ all. all; few = (omega arith) }

  pub sides_both : (xs ys : List LineId) (a b : ℕ) (old half new : List Beside) → AreMoreSides p xs a old half → AreMoreSides p ys b half new → AreMoreSides p (xs ++ ys) (a + b) old new
  sides_both xs ys a b old half new first second = record {
    listed = second.listed ∙ ap (λ ls. ls ++ ys) first.listed ∙ append_assoc (map (λ c. c.line) old) xs ys;
    each = λ all. second.each (first.each all);
    few = (let e = first.few in let f = second.few in omega arith);
  }

  one_side : (old : List Beside) (b : Beside) → IsBeside p b → AreMoreSides p (b.line ∷ []) 1 old (old ++ b ∷ [])
  one_side old b is = record {
    listed = map-append (λ c. c.line) old (b ∷ []);
    each = λ all. All-push (IsBeside p) old b all is;
    few = (let e = length_push old b in omega arith);
  }

  -- one line more at a position
  pub line_more : (f : ℕ → LineId) (n : ℕ) (old half : List Beside) (b : Beside) → AreMoreSides p (map f (range_with_len 0 n)) n old half → IsBeside p b → b.line ≡ f n
      → AreMoreSides p (map f (range_with_len 0 (n + 1))) (n + 1) old (half ++ b ∷ [])
  line_more f n old half b so_far is same = subst (λ ls. AreMoreSides p ls (n + 1) old (half ++ b ∷ []))
      (ap (λ l. map f (range_with_len 0 n) ++ l ∷ []) same ∙ sym (map-range_with_len_more f 0 n n (omega arith)))
      (sides_both (map f (range_with_len 0 n)) (b.line ∷ []) n 1 old half (half ++ b ∷ []) so_far (one_side half b is))

  -- one position more
  pub lines_more : (f : ℕ → List LineId) (n : ℕ) (old half new : List Beside) → AreMoreSides p (flat_map f (range_with_len 0 n)) (n * 63) old half → AreMoreSides p (f n) 63 half new
      → AreMoreSides p (flat_map f (range_with_len 0 (n + 1))) (n * 63 + 63) old new
  lines_more f n old half new so_far more = subst (λ ls. AreMoreSides p ls (n * 63 + 63) old new)
      (ap (λ ls. flat_map f (range_with_len 0 n) ++ ls) (sym (append-nil (f n))) ∙ sym (flat_map-append f (range_with_len 0 n) (n ∷ []))
      ∙ ap (flat_map f) (sym (range_more 0 n n (omega arith))))
      (sides_both (flat_map f (range_with_len 0 n)) (f n) (n * 63) 63 old half new so_far more)

  pub fewer : (xs : List LineId) (a b : ℕ) (old new : List Beside) → a ≤ b → AreMoreSides p xs a old new → AreMoreSides p xs b old new
  fewer xs a b old new l more = record { listed = more.listed; each = more.each; few = (let e = more.few in omega arith) }

-- so many marks of lines that can be met
pub all_marked_met : (n : ℕ) → AreMarked (replicate n true) []
all_marked_met n = record {
  once = λ i l. ap (λ b. times_listed i [] + one_if b) (get_or-replicate n i true false (omega (arith, l, length-replicate n true)));
  below = λ k d l. absurd (omega arith);
  counted = let e = sum_by-replicate one_if n true in let f = length-replicate n true in omega arith;
}

-- the level and the upright lines of a view that shows something
pub view_listed : (p : ProblemParts) (v : View) → is_drawn_view p.grid v ≡ true → (old half new : List Beside)
    → AreMoreSides p (lines_along p.grid v false) 4032 old half → AreMoreSides p (lines_along p.grid v true) 4032 half new → AreMoreSides p (lines_in p.grid v) 8064 old new
view_listed p v shown old half new level upright =
    subst (λ (t : Bool). AreMoreSides p (if t then (lines_along p.grid v false ++ lines_along p.grid v true) else []) 8064 old new) (sym shown)
    (sides_both p (lines_along p.grid v false) (lines_along p.grid v true) 4032 4032 old half new level upright)

-- the lines of the three views, one after another
pub all_listed : (p : ProblemParts) (a b c d : List Beside) → a ≡ []
    → AreMoreSides p (lines_in p.grid Front) 8064 a b → AreMoreSides p (lines_in p.grid Top) 8064 b c → AreMoreSides p (lines_in p.grid Side) 8064 c d → AreSides p d
all_listed p a b c d empty front top side =
    let rest = sides_both p (lines_in p.grid Top) (lines_in p.grid Side) 8064 8064 b c d top side in
    let all = sides_both p (lines_in p.grid Front) (lines_in p.grid Top ++ lines_in p.grid Side) 8064 16128 a b d front rest in
    record {
      listed = all.listed ∙ ap (λ bs. map (λ x. x.line) bs ++ lines_of p.grid) empty;
      each = all.each (subst (All (IsBeside p)) (sym empty) (λ k x l. absurd (omega arith)));
    }
