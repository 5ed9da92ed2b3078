-- Three coordinates, one after another, are a corner.
use Rattle.std.proofs.Common.{rules, ◌≡◌, ℕ, List, [], ◌∷◌, ◌++◌, ℤ, w64, refl, ap, ◌∙◌, append_assoc}
use Rattle.std.proofs.lemmas.Int.{to_z-of_z}
use Rattle.decimal_texts.specs.Decimals.{decimal_text}
use Rattle.report.proofs.solid.push_corner.Goals as goal

one_after_another : (t x y z : List ℕ) (blank comma : ℕ)
    → t ++ blank ∷ x ++ comma ∷ y ++ comma ∷ z ≡ t ++ (blank ∷ [] ++ x ++ comma ∷ [] ++ y ++ comma ∷ [] ++ z)
one_after_another t x y z blank comma = simp append_assoc refl

pub returns : goal.returns
returns c =
    let corner = c.args.corner in
    let printed : ℤ → List ℕ = decimal_text c.args.decimals in
    let x = ap (λ (i : ℤ). c.args.text.now.items ++ 32 ∷ printed i) (to_z-of_z w64 corner.x (search rules)) in
    let y = ap (λ (i : ℤ). c.push_coordinate.new.text.items ++ 44 ∷ printed i) (to_z-of_z w64 corner.y (search rules)) in
    let z = ap (λ (i : ℤ). c.push_coordinate-2.new.text.items ++ 44 ∷ printed i) (to_z-of_z w64 corner.z (search rules)) in
    c.in_ok-push_coordinate-3.ensures ∙ z
    ∙ ap (λ (t : List ℕ). t ++ 44 ∷ printed corner.z) (c.in_ok-push_coordinate-2.ensures ∙ y)
    ∙ ap (λ (t : List ℕ). t ++ 44 ∷ printed corner.y ++ 44 ∷ printed corner.z) (c.in_ok-push_coordinate.ensures ∙ x)
    ∙ one_after_another _ (printed corner.x) (printed corner.y) (printed corner.z) 32 44
