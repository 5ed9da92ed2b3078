-- One more is put.
use Rattle.std.proofs.Common.{◌≡◌, ◌<◌, ◌+◌, ◌++◌, ◌∷◌, [], ℕ, List, take, length, get_or, sym, ◌∙◌, ap, arith}
use Rattle.std.proofs.lemmas.List.{append_assoc, take_more}
use Rattle.search_core.specs.Frontier.{count_of}
use Rattle.search_core.proofs.FrontierPlaces.{times_in-append, counted_once_more}
use Rattle.search_core.proofs.ledger.put_all.Goals as goal
use Rattle.lemmas.specs.Counts.{times_listed}

pub loop-place-preserved : goal.loop-place-preserved
loop-place-preserved c =
    let i = c.loop-place.invariant in
    let at = c.loop-place.place-index in
    let rest = c.args.rest.now in
    let l : at < length rest = omega arith in
    let more : take (at + 1) rest ≡ take at rest ++ get_or rest at 0 ∷ [] = take_more rest at 0 l in
    record {
      put = c.put.ensures.put ∙ ap (λ (v : List ℕ). v ++ get_or rest at 0 ∷ []) i.put ∙ append_assoc c.args.frontier.now.put (take at rest) (get_or rest at 0 ∷ []) ∙ ap (λ (v : List ℕ). c.args.frontier.now.put ++ v) (sym more);
      ahead = c.put.ensures.ahead ∙ ap (λ (v : List ℕ). v ++ get_or rest at 0 ∷ []) i.ahead ∙ append_assoc c.args.frontier.now.ahead (take at rest) (get_or rest at 0 ∷ []) ∙ ap (λ (v : List ℕ). c.args.frontier.now.ahead ++ v) (sym more);
      counts = λ k. (
          let tail : times_listed k (take (at + 1) rest) ≡ times_listed k (take at rest) + times_listed k (get_or rest at 0 ∷ []) = ap (times_listed k) more ∙ times_in-append k (take at rest) (get_or rest at 0 ∷ []) in
          let once : count_of c.put.new.self.counts k ≡ count_of c.loop-place.frontier.counts k + times_listed k (get_or rest at 0 ∷ []) = c.put.ensures.counts k ∙ counted_once_more k (get_or rest at 0) (count_of c.loop-place.frontier.counts k) in
          omega (arith, i.counts k));
      places = c.put.ensures.places ∙ i.places;
      capacity = c.put.ensures.capacity ∙ i.capacity;
    }
