-- A face of one square.
use Rattle.std.proofs.Common.{◌≡◌, inl, Bool, true, List, [], ◌∷◌, map, ℤ, IsTrue, refl, sym, ◌∙◌, ap, subst}
use Rattle.solid_model.specs.declared.cell.Cell.{Cell}
use Rattle.solid_model.specs.declared.face.Out.{Out}
use Rattle.solid_model.specs.Faces.{place, BeginsLeast, AreLoopsOf}
use Rattle.lemmas.specs.Lists.{Member}
use Rattle.solid_model.specs.Rounds.{Spot, Heading, East, North, West, South, left_square, IsRound, round_sides, round_corners, AreJoined}
use Rattle.face_laws.proofs.BoundarySquares.{border_left}
use Rattle.face_laws.proofs.ListedLoops.{listed_complete}
use Rattle.face_laws.proofs.SameSides.{is_among, Decides-is_among}
use Rattle.face_laws.proofs.SomeLoop.{side_of, side_of-own}

-- what holds of the four headings holds of each
pub in_each_heading : (P : Heading → Type 0) → P East → P North → P West → P South → (h : Heading) → P h
in_each_heading P e n w s East = e
in_each_heading P e n w s North = n
in_each_heading P e n w s West = w
in_each_heading P e n w s South = s

-- The one square q in a plane is gone round in four sides, from the one that comes down on its left.
pub record IsLone (squares : Spot → Bool) (q : Spot) : Type 0 where
  pub is_round : IsRound squares (side_of South q) 3
  pub joined : AreJoined squares q (left_square (side_of South q))
  pub on : (h : Heading) → is_among (round_sides squares (side_of South q) 3) (side_of h q) ≡ true

module _ (squares : Spot → Bool) (out : Out) (at : ℤ) (q : Spot) (only : (p : Spot) → IsTrue (squares p) → p ≡ q)
    (lone : IsLone squares q) where
  -- its face has one loop
  pub lone_loops : (loop : List Cell) → loop ≡ map (place out at) (round_corners squares (side_of South q) 3) → BeginsLeast loop
      → AreLoopsOf squares (place out at) q (loop ∷ [])
  lone_loops loop e begins = record {
    each = ((side_of South q, 3, lone.is_round, lone.joined, e, begins), tt);
    ordered = (tt, tt);
    complete = listed_complete squares out at q (loop ∷ []) (λ r border _. (
      loop,
      inl refl,
      record {
        start = side_of South q;
        length = 3;
        is_round = lone.is_round;
        is = e;
        begins = begins;
        on = subst (Member (round_sides squares (side_of South q) 3))
            (ap (side_of r.heading) (sym (only (left_square r) (border_left squares r border))) ∙ side_of-own r)
            ((Decides-is_among (round_sides squares (side_of South q) 3) (side_of r.heading q)).0 (lone.on r.heading));
      },
    ));
  }
