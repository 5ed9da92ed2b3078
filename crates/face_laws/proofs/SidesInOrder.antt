-- Sides, one following another.
use Rattle.std.proofs.Common.{◌≡◌, ◌⊎◌, inl, inr, Bool, ℕ, zero, suc, ◌<◌, IsTrue, refl, sym, ◌∙◌, ap, subst, arith}
use Rattle.lemmas.specs.Lists.{Member}
use Rattle.solid_model.specs.Rounds.{Spot, Side, is_border, following, further, sides_from, round_sides}
use Rattle.face_laws.proofs.Turns.{following_border}

module _ (squares : Spot → Bool) where
  -- of the sides from a side on, each is followed by one of them, or by the one that comes next
  pub member-following : (n : ℕ) (x t : Side) → Member (sides_from squares n x) t
      → Member (sides_from squares n x) (following squares t) ⊎ (further squares n x ≡ following squares t)
  member-following zero x t m = absurd m
  member-following (suc zero) x t (inl e) = inr (ap (following squares) e)
  member-following (suc zero) x t (inr m) = absurd m
  member-following (suc (suc n)) x t (inl e) = inl (inr (inl (ap (following squares) e)))
  member-following (suc (suc n)) x t (inr m) =
      elim (member-following (suc n) (following squares x) t m) as
      (λ _. Member (sides_from squares (suc (suc n)) x) (following squares t) ⊎
      (further squares (suc (suc n)) x ≡ following squares t)) [
        | inl l ↦ inl (inr l)
        | inr e ↦ inr e
      ]

  -- each but the first follows one of them
  pub member-before : (n : ℕ) (x t : Side) → Member (sides_from squares n x) t
      → (x ≡ t) ⊎ ((r : Side) × Member (sides_from squares n x) r × (following squares r ≡ t))
  member-before zero x t m = absurd m
  member-before (suc n) x t (inl e) = inl e
  member-before (suc n) x t (inr m) =
      elim (member-before n (following squares x) t m) as
      (λ _. (x ≡ t) ⊎ ((r : Side) × Member (sides_from squares (suc n) x) r × (following squares r ≡ t))) [
        | inl e ↦ inr (x, inl refl, e)
        | inr l ↦ inr (l.0, inr l.1, l.2)
      ]

  -- and the one that comes next follows one of them
  pub next_after : (n : ℕ) (x : Side)
      → (r : Side) × Member (sides_from squares (suc n) x) r × (following squares r ≡ further squares (suc n) x)
  next_after zero x = (x, inl refl, refl)
  next_after (suc n) x = let l = next_after n (following squares x) in (l.0, inr l.1, l.2)

  -- from each of them the one that comes next is come to
  pub member-comes : (n : ℕ) (x t : Side) → Member (sides_from squares n x) t
      → (j : ℕ) × (further squares j t ≡ further squares n x)
  member-comes zero x t m = absurd m
  member-comes (suc n) x t (inl e) = (suc n, ap (further squares (suc n)) (sym e))
  member-comes (suc n) x t (inr m) = member-comes n (following squares x) t m

  -- each that comes earlier is one of them
  pub earlier-member : (k n : ℕ) (x : Side) → k < n → Member (sides_from squares n x) (further squares k x)
  earlier-member k zero x l = absurd (omega arith)
  earlier-member zero (suc n) x l = inl refl
  earlier-member (suc k) (suc n) x l = inr (earlier-member k n (following squares x) (omega arith))

  -- and each of them comes earlier
  pub member-earlier : (n : ℕ) (x t : Side) → Member (sides_from squares n x) t → (k : ℕ) × (k < n) × (further squares k x ≡ t)
  member-earlier zero x t m = absurd m
  member-earlier (suc n) x t (inl e) = (zero, omega arith, e)
  member-earlier (suc n) x t (inr m) = let l = member-earlier n (following squares x) t m in (suc l.0, omega (arith, l.1), l.2)

  -- from border on all are border
  pub member-border : (n : ℕ) (x t : Side) → IsTrue (is_border squares x) → Member (sides_from squares n x) t
      → IsTrue (is_border squares t)
  member-border zero x t border m = absurd m
  member-border (suc n) x t border (inl e) = subst (λ (y : Side). IsTrue (is_border squares y)) e border
  member-border (suc n) x t border (inr m) = member-border n (following squares x) t (following_border squares x border) m

  -- ---- rounds

  module _ (s : Side) (n : ℕ) (back : further squares n (following squares s) ≡ s) where
    -- what follows a side of the round is on it
    pub round-following : (t : Side) → Member (round_sides squares s n) t → Member (round_sides squares s n) (following squares t)
    round-following t on = elim (member-following (suc n) s t on) as
        (λ _. Member (round_sides squares s n) (following squares t)) [
          | inl l ↦ l
          | inr e ↦ inl (sym back ∙ e)
        ]

    -- and so is what comes later
    pub round-further : (j : ℕ) (t : Side) → Member (round_sides squares s n) t
        → Member (round_sides squares s n) (further squares j t)
    round-further zero t on = on
    round-further (suc j) t on = round-further j (following squares t) (round-following t on)

    -- each side of the round follows one
    pub round-before : (t : Side) → Member (round_sides squares s n) t
        → (r : Side) × Member (round_sides squares s n) r × (following squares r ≡ t)
    round-before t on = elim (member-before (suc n) s t on) as
        (λ _. (r : Side) × Member (round_sides squares s n) r × (following squares r ≡ t)) [
          | inl e ↦ (let l = next_after n s in (l.0, l.1, l.2 ∙ back ∙ e))
          | inr l ↦ l
        ]

    -- from each the first is come to
    pub round-comes : (t : Side) → Member (round_sides squares s n) t → (j : ℕ) × (further squares j t ≡ s)
    round-comes t on = let l = member-comes (suc n) s t on in (l.0, l.1 ∙ back)
