-- Where a way stands, it is known whether the prefix is live.
use Rattle.std.proofs.Common.{◌≡◌, Bool, true, false, ℕ, ◌≤◌, List, length, is_some, ap, sym, subst, ◌∙◌, arith}
use Rattle.std.proofs.lemmas.Bool.{false_from_ne_true}
use Rattle.std.proofs.lemmas.Option.{slice_get-get_or}
use Rattle.column_laws.proofs.LiveComputed.{live_computed}
use Rattle.solid_model.specs.declared.decision.Decision.{Decision}
use Rattle.solid_model.specs.Blocks.{ProblemParts, IsBlocksOf}
use Rattle.solid_model.specs.Decisions.{decided_by, AreOnAll, PartialParts}
use Rattle.solid_model.specs.Forcing.{is_live}
use Rattle.search_tree.specs.BlockPaths.{IsClosure, AreMarks, IsPath}
use Rattle.search_tree.proofs.Implied.{closure_lives}
use Rattle.search_tree.proofs.Marked.{dead_here}

-- the decisions that close a whole prefix are on all blocks
pub all_decided : (p : ProblemParts) (values : List Bool) → length values ≡ p.blocks.count → (decisions : List Decision)
    → IsClosure p values (decided_by decisions) → AreOnAll p.blocks.count decisions
all_decided p values whole decisions closure block there =
    ap is_some (closure.says block _ (slice_get-get_or values block false (omega arith)))

module _ (p : ProblemParts) (blocks : IsBlocksOf p.grid p.blocks) (values : List Bool) (within : length values ≤ p.blocks.count) (decisions : List Decision) where
  -- a prefix that is closed is live,
  pub live_here : IsClosure p values (decided_by decisions) → is_live p values ≡ true
  live_here closure = (live_computed p blocks values).1 record { short = within; lives = closure_lives p values (decided_by decisions) closure }

  -- and one without a mark isn't
  pub not_live_here : (marks : List ℕ) → AreMarks p values decisions marks → length marks ≤ length values → is_live p values ≡ false
  not_live_here marks are few = false_from_ne_true (is_live p values) (λ live. dead_here p values decisions marks are few ((live_computed p blocks values).0 live).lives)

-- a step of the way: the values and the marks change, and what there is room for stays
pub path_on : (partial next : PartialParts) (blocks : ℕ) (values now : List Bool) (marks new_marks : List ℕ) (room space high tall : ℕ)
    → IsPath partial blocks values marks room high → length now ≤ blocks → space ≡ room → tall ≡ high → next.problem ≡ partial.problem
    → AreMarks partial.problem now next.decisions new_marks → IsPath next blocks now new_marks space tall
path_on partial next blocks values now marks new_marks room space high tall kept within same_room same_high same are = record {
  marked = subst (λ p. AreMarks p now next.decisions new_marks) (sym same) are;
  count = kept.count ∙ ap (λ p. p.blocks.count) (sym same);
  few = kept.few;
  within = within;
  roomy = omega (arith, kept.roomy, same_room);
  roomy_marks = omega (arith, kept.roomy_marks, same_high);
  parts = subst (λ (p : ProblemParts). IsBlocksOf p.grid p.blocks) (sym same) kept.parts;
}
