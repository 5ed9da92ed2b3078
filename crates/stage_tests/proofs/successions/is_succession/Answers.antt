-- Where each node is told to be followed by one of which it is the leader, two nodes have two followers.
use Rattle.std.proofs.Common.{◌≡◌, ◌<◌, ◌==◌, not, IsTrue, inl, inr, ℕ, List, length, get_or, ◌∙◌, sym, ap}
use Rattle.std.proofs.lemmas.Bool.{both_ways}
use Rattle.rounds.specs.Succession.{IsInside, IsSuccession}
use Rattle.stage_tests.specs.Tables.{follower, has_follower, IsTold}

told : (followers leaders : List ℕ) → ((a : ℕ) → a < length followers → IsTold followers leaders a)
    → IsSuccession (length followers) (has_follower followers) (follower followers)
told followers leaders h = record {
  kept = λ a on. let t = tells a on in (t.0, t.1);
  one_to_one = λ a b on also e. sym (tells a on).2 ∙ ap (λ n. get_or leaders n 10) e ∙ (tells b also).2;
}
  where
    tells : (a : ℕ) → IsInside (length followers) (has_follower followers) a
        → (follower followers a < length followers) × IsTrue (has_follower followers (follower followers a))
        × (get_or leaders (follower followers a) 10 ≡ a)
    tells a on = elim (h a on.0) [
      | inl none ↦ absurd (both_ways (has_follower followers a) (ap (λ n. not (n == 10)) none) on.1)
      | inr t ↦ t
    ]
