-- The tree is complete: the live prefixes of full length that begin with a prefix are all choices that begin with it and match.
use Rattle.std.proofs.Common.{◌≡◌, Bool, true, false, ℕ, zero, suc, ◌+◌, ◌<◌, List, [], ◌∷◌, ◌++◌, length, Option, IsTrue, refl, sym, ◌∙◌, ap, subst, length-append, arith}
use Rattle.std.proofs.lemmas.Bool.{both_ways}
use Rattle.solid_model.specs.declared.cell.Cell.{Cell}
use Rattle.solid_model.specs.declared.segment.Segment.{Segment}
use Rattle.solid_model.specs.declared.segment.Style.{Style}
use Rattle.solid_model.specs.Blocks.{AreBlocksOf}
use Rattle.solid_model.specs.Choices.{AreChoicesThat, IsMatchingChoice, AreSolidsOfChoices}
use Rattle.solid_model.specs.Matching.{AreSolidsOf}
use Rattle.solid_model.specs.Panels.{GridParts, coordinates_of, IsGridOf}
use Rattle.solid_model.specs.Tree.{PrefixTest, KeepsMatching, live_below}
use Rattle.solid_model.proofs.BlockChoices.{all_solids_of_blocks}
use Rattle.solid_model.proofs.ChoicesInOrder.{From, choices-both, choices-one, choices-all}
use Rattle.solid_model.proofs.PrefixTree.{live_below_none, live_below_more, live_below_whole}

module _ (matches : List Bool → Type 0) (live : PrefixTest) (n : ℕ) (keeps : KeepsMatching live n matches) where
  -- those of full length below a prefix are all matching choices that begin with it
  abbrev IsComplete : List Bool → Type 0
  IsComplete prefix = AreChoicesThat (From matches prefix) n (live_below live n prefix)

  -- with a dead prefix no matching choice begins
  complete-dead : (prefix : List Bool) → live prefix ≡ false → IsComplete prefix
  complete-dead prefix dead = rw (live_below_none live n prefix dead keeps.tree.closed) (record {
    each = tt;
    ordered = tt;
    complete = λ choice long from.
        let (rest, e) = from.0 in
        absurd (both_ways (live prefix) dead (keeps.reached prefix rest (ap length (sym e) ∙ long) (subst matches e from.1)));
  })

  -- one of full length is the only choice that begins with it
  complete-whole : (prefix : List Bool) → IsTrue (live prefix) → length prefix ≡ n → IsComplete prefix
  complete-whole prefix lives whole =
      rw (live_below_whole live n prefix lives whole)
      (subst (λ m. AreChoicesThat (From matches prefix) m (prefix ∷ [])) whole (choices-one matches prefix (keeps.ends prefix whole lives)))

  -- with values left, they are those of both sides
  complete-more : (prefix : List Bool) → IsTrue (live prefix) → length prefix < n
      → IsComplete (prefix ++ true ∷ []) → IsComplete (prefix ++ false ∷ []) → IsComplete prefix
  complete-more prefix lives more full empty =
      rw (live_below_more live n prefix lives more)
      (choices-both matches prefix n (live_below live n (prefix ++ true ∷ [])) (live_below live n (prefix ++ false ∷ [])) more full empty)

  -- of full length,
  step_whole : (prefix : List Bool) → length prefix ≡ n → (t : Bool) → live prefix ≡ t → IsComplete prefix
  step_whole prefix whole false dead = complete-dead prefix dead
  step_whole prefix whole true lives = complete-whole prefix lives whole

  -- and with values left
  step_more : (prefix : List Bool) → length prefix < n → (t : Bool) → live prefix ≡ t
      → ((value : Bool) → IsComplete (prefix ++ value ∷ [])) → IsComplete prefix
  step_more prefix more false dead sides = complete-dead prefix dead
  step_more prefix more true lives sides = complete-more prefix lives more (sides true) (sides false)

  -- so it holds of every prefix, by the number of values left
  complete : (left : ℕ) (prefix : List Bool) → length prefix + left ≡ n → IsComplete prefix
  complete zero prefix long = step_whole prefix (omega (arith, long)) (live prefix) refl
  complete (suc left) prefix long = step_more prefix (omega (arith, long)) (live prefix) refl
      (λ value. complete left (prefix ++ value ∷ []) (omega (arith, long, length-append prefix (value ∷ []))))

  -- all of full length are all matching choices
  pub complete_tree : AreChoicesThat matches n (live_below live n [])
  complete_tree = choices-all matches n (live_below live n []) (complete n [] (omega arith))

-- and so, choice by choice, all matching solids
pub complete_solids : (drawing : Segment → Style) (g : GridParts) → IsGridOf drawing g → (blocks : List (Option ℕ)) (count : ℕ) → AreBlocksOf g blocks count
    → (live : PrefixTest) → KeepsMatching live count (IsMatchingChoice drawing (coordinates_of g) blocks)
    → (ss : List (List Cell)) × AreSolidsOf drawing ss × AreSolidsOfChoices (coordinates_of g) blocks count (live_below live count []) ss
complete_solids drawing g grid blocks count are live keeps =
    all_solids_of_blocks drawing g grid blocks count are (live_below live count [])
    (complete_tree (IsMatchingChoice drawing (coordinates_of g) blocks) live count keeps)
