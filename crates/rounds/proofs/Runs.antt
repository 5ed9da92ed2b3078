-- Runs: nodes that follow one another.
use Rattle.std.proofs.Common.{◌≡◌, ◌≢◌, inl, inr, ℕ, zero, suc, ◌<◌, [], ◌∷◌, ◌++◌, length, refl, sym, ap, subst, ◌∙◌, arith}
use Rattle.lemmas.specs.Lists.{Member, Ascends}
use Rattle.lemmas.proofs.Lists.{each-at}
use Rattle.rounds.specs.Succession.{node_ahead, run}

-- so many steps on from the next node are one more from the node
pub node_ahead-next : (next : ℕ → ℕ) (n a : ℕ) → node_ahead next n (next a) ≡ node_ahead next (suc n) a
node_ahead-next next zero a = refl
node_ahead-next next (suc n) a = ap next (node_ahead-next next n a)

-- one node more
pub run-push : (next : ℕ → ℕ) (n a : ℕ) → run next (suc n) a ≡ run next n a ++ node_ahead next n a ∷ []
run-push next zero a = refl
run-push next (suc n) a =
    ap (λ rest. a ∷ rest) (run-push next n (next a) ∙ ap (λ b. run next n (next a) ++ b ∷ []) (node_ahead-next next n a))

-- there are so many
pub length-run : (next : ℕ → ℕ) (n a : ℕ) → length (run next n a) ≡ n
length-run next zero a = refl
length-run next (suc n) a = ap suc (length-run next n (next a))

-- what stands fewer steps on is a member
pub member-node_ahead : (next : ℕ → ℕ) (n k a : ℕ) → k < n → Member (run next n a) (node_ahead next k a)
member-node_ahead next zero k a l = absurd (omega arith)
member-node_ahead next (suc n) zero a l = inl refl
member-node_ahead next (suc n) (suc k) a l =
    let later = member-node_ahead next n k (next a) (omega arith) in
    inr (subst (Member (run next n (next a))) (node_ahead-next next k a) later)

-- and each member stands fewer steps on
pub member-run : (next : ℕ → ℕ) (n a b : ℕ) → Member (run next n a) b → (k : ℕ) × (k < n) × (node_ahead next k a ≡ b)
member-run next zero a b m = absurd m
member-run next (suc n) a b (inl e) = (0, omega arith, e)
member-run next (suc n) a b (inr m) =
    let p = member-run next n (next a) b m in (suc p.0, omega arith, sym (node_ahead-next next p.0 a) ∙ p.2)

-- where no node stands on a run twice, fewer steps lead to another node
pub node_ahead-apart : (next : ℕ → ℕ) (n j k a : ℕ) → Ascends ◌≢◌ (run next n a) → j < k → k < n
    → node_ahead next j a ≢ node_ahead next k a
node_ahead-apart next zero j k a once l m = absurd (omega arith)
node_ahead-apart next (suc n) j zero a once l m = absurd (omega arith)
node_ahead-apart next (suc n) zero (suc k) a once l m = λ e.
    let later = member-node_ahead next n k (next a) (omega arith) in
    each-at (λ b. a ≢ b) (run next n (next a)) (node_ahead next k (next a)) once.0 later (e ∙ sym (node_ahead-next next k a))
node_ahead-apart next (suc n) (suc j) (suc k) a once l m = λ e.
    node_ahead-apart next n j k (next a) once.1 (omega arith) (omega arith) (node_ahead-next next j a ∙ e ∙ sym (node_ahead-next next k a))
