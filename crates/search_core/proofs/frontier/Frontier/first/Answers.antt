-- The first that isn't passed over is counted, and what is counted was put no earlier.
use Rattle.std.proofs.Common.{◌≡◌, ◌<◌, ℕ, length, get_or, sym, ◌∙◌, ap, subst, arith}
use Rattle.std.proofs.lemmas.List.{get_or_read, drop_more}
use Rattle.search_core.specs.Frontier.{FrontierParts, IsFirstPut, count_of, first_or}
use Rattle.search_core.proofs.frontier.Frontier.first.Goals as goal

pub returns-then-self-len : goal.returns-then-self-len
returns-then-self-len c =
    let put = c.self.inside.put.items in
    let counts = c.self.inside.counts.items in
    let first = c.self.inside.first in
    let l : first < length put = omega arith in
    let is : c.index.result.now ≡ get_or put first 0 = get_or_read put first c.index.result.now l c.index.ensures 0 in
    let counted : 0 < count_of counts (get_or put first 0) = c.self.invariant.there l in
    let found : IsFirstPut put counts c.index.result.now = record {
      at = first;
      within = l;
      is = is;
      counted = subst (λ (k : ℕ). 0 < count_of counts k) (let e : get_or put first 0 ≡ c.index.result.now = cc in e) counted;
      behind = c.self.invariant.behind;
    } in
    record {
      first = subst (λ (v : FrontierParts). IsFirstPut v.put v.counts c.index.result.now) c.self.view_is found;
      ahead = λ d. ap (λ (v : FrontierParts). first_or d v.ahead) (sym c.self.view_is) ∙ ap (first_or d) (drop_more put first 0 l) ∙ sym is;
    }
