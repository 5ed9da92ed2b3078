-- Lines that follow are the lines of trees.
use Rattle.std.proofs.Common.{◌≡◌, Bool, true, false, ℕ, List, [], ◌∷◌, ◌++◌, append_assoc, append-nil, refl, ap, sym, ◌∙◌, subst}
use Rattle.solid_model.specs.Blocks.{ProblemParts}
use Rattle.completeness_logs.specs.Logs.{KnownBlocks, with_block, LogTree, tree_entries, IsTreeUnder, listed_choices, IsRightEntry, AreTreesUnder, listed_along}
use Rattle.completeness_logs.specs.declared.entry.LogEntry.{LogEntry}
use Rattle.completeness_logs.specs.declared.entry.LogEntry.TheVariants.{Fail, Whole, Force, Split}
use Rattle.completeness_logs.specs.Logs.LogTree.{fails, whole, forces, splits}

module _ (p : ProblemParts) where
  -- the lines of a tree, and then what follows
  pub tree_follows : (t : LogTree) (known : KnownBlocks) (rest : List KnownBlocks) (entries : List LogEntry) → IsTreeUnder p known t → AreTreesUnder p rest entries → AreTreesUnder p (known ∷ rest) (tree_entries t ++ entries)
  tree_follows (fails l) known rest entries is f = (is, f)
  tree_follows whole known rest entries is f = (is, f)
  tree_follows (forces block full l t) known rest entries (open_, shows, is) f = ((open_, shows), tree_follows t (with_block known block full) rest entries is f)
  tree_follows (splits block t u) known rest entries (open_, is, too) f = (
    open_,
    subst (λ xs. AreTreesUnder p (with_block known block true ∷ with_block known block false ∷ rest) xs) (sym (append_assoc (tree_entries t) (tree_entries u) entries))
        (tree_follows t (with_block known block true) (with_block known block false ∷ rest) (tree_entries u ++ entries) is (tree_follows u (with_block known block false) rest entries too f)),
  )

  pub tree_listed : (t : LogTree) (known : KnownBlocks) (rest : List KnownBlocks) (entries : List LogEntry) → listed_along p (known ∷ rest) (tree_entries t ++ entries) ≡ listed_choices p known t ++ listed_along p rest entries
  tree_listed (fails l) known rest entries = refl
  tree_listed whole known rest entries = refl
  tree_listed (forces block full l t) known rest entries = tree_listed t (with_block known block full) rest entries
  tree_listed (splits block t u) known rest entries =
      ap (λ xs. listed_along p (with_block known block true ∷ with_block known block false ∷ rest) xs) (append_assoc (tree_entries t) (tree_entries u) entries)
      ∙ tree_listed t (with_block known block true) (with_block known block false ∷ rest) (tree_entries u ++ entries)
      ∙ ap (λ xs. listed_choices p (with_block known block true) t ++ xs) (tree_listed u (with_block known block false) rest entries)
      ∙ sym (append_assoc (listed_choices p (with_block known block true) t) (listed_choices p (with_block known block false) u) (listed_along p rest entries))

  -- trees under each of the decisions
  abbrev AreTrees : List KnownBlocks → List LogTree → Type 0
  AreTrees [] [] = Unit {0}
  AreTrees (known ∷ rest) (t ∷ ts) = IsTreeUnder p known t × AreTrees rest ts
  AreTrees _ _ = ⊥

  abbrev all_entries : List LogTree → List LogEntry
  all_entries [] = []
  all_entries (t ∷ ts) = tree_entries t ++ all_entries ts

  -- what follows is the lines of trees
  pub record AreTreesOf (knowns : List KnownBlocks) (entries : List LogEntry) : Type 0 where
    trees : List LogTree
    are : AreTrees knowns trees
    lines : entries ≡ all_entries trees

  forced : (known : KnownBlocks) (rest : List KnownBlocks) (block : ℕ) (full : Bool) (l : _) (entries : List LogEntry) → IsRightEntry p known (Force block full l)
      → AreTreesOf (with_block known block full ∷ rest) entries → AreTreesOf (known ∷ rest) (Force block full l ∷ entries)
  forced known rest block full l entries (open_, shows) a = by a.trees a.are a.lines
    where
      by : (ts : List LogTree) → AreTrees (with_block known block full ∷ rest) ts → entries ≡ all_entries ts → AreTreesOf (known ∷ rest) (Force block full l ∷ entries)
      by [] are e = absurd are
      by (t ∷ ts) (is, are) e = record { trees = forces block full l t ∷ ts; are = ((open_, shows, is), are); lines = ap (λ xs. Force block full l ∷ xs) e }

  split : (known : KnownBlocks) (rest : List KnownBlocks) (block : ℕ) (entries : List LogEntry) → IsRightEntry p known (Split block)
      → AreTreesOf (with_block known block true ∷ with_block known block false ∷ rest) entries → AreTreesOf (known ∷ rest) (Split block ∷ entries)
  split known rest block entries open_ a = by a.trees a.are a.lines
    where
      by : (ts : List LogTree) → AreTrees (with_block known block true ∷ with_block known block false ∷ rest) ts → entries ≡ all_entries ts → AreTreesOf (known ∷ rest) (Split block ∷ entries)
      by [] are e = absurd are
      by (t ∷ []) (is, are) e = absurd are
      by (t ∷ u ∷ ts) (is, both) e = record {
        trees = splits block t u ∷ ts;
        are = ((open_, is, both.0), both.1);
        lines = ap (λ xs. Split block ∷ xs) (e ∙ sym (append_assoc (tree_entries t) (tree_entries u) (all_entries ts)));
      }

  pub follows_trees : (entries : List LogEntry) (knowns : List KnownBlocks) → AreTreesUnder p knowns entries → AreTreesOf knowns entries
  follows_trees [] [] f = record { trees = []; are = tt; lines = refl }
  follows_trees [] (known ∷ rest) f = absurd f
  follows_trees (s ∷ entries) [] f = absurd f
  follows_trees (Fail l ∷ entries) (known ∷ rest) (right, f) =
      let a = follows_trees entries rest f in record { trees = fails l ∷ a.trees; are = (right, a.are); lines = ap (λ xs. Fail l ∷ xs) a.lines }
  follows_trees (Whole ∷ entries) (known ∷ rest) (right, f) =
      let a = follows_trees entries rest f in record { trees = whole ∷ a.trees; are = (right, a.are); lines = ap (λ xs. Whole ∷ xs) a.lines }
  follows_trees (Force block full l ∷ entries) (known ∷ rest) (right, f) = forced known rest block full l entries right (follows_trees entries (with_block known block full ∷ rest) f)
  follows_trees (Split block ∷ entries) (known ∷ rest) (right, f) = split known rest block entries right (follows_trees entries (with_block known block true ∷ with_block known block false ∷ rest) f)

  -- so what follows one state of decisions is the lines of a tree
  pub follows_tree : (known : KnownBlocks) (entries : List LogEntry) → AreTreesUnder p (known ∷ []) entries → (t : LogTree) × IsTreeUnder p known t × (entries ≡ tree_entries t)
  follows_tree known entries f = by (follows_trees entries (known ∷ []) f)
    where
      by : AreTreesOf (known ∷ []) entries → (t : LogTree) × IsTreeUnder p known t × (entries ≡ tree_entries t)
      by a = at a.trees a.are a.lines
        where
          at : (ts : List LogTree) → AreTrees (known ∷ []) ts → entries ≡ all_entries ts → (t : LogTree) × IsTreeUnder p known t × (entries ≡ tree_entries t)
          at [] are e = absurd are
          at (t ∷ []) (is, are) e = (t, is, e ∙ append-nil (tree_entries t))
          at (t ∷ u ∷ ts) (is, are) e = absurd are
