use Rattle.std.proofs.Common.{◌≡◌, ◌<◌, ◌≤◌, ◌/◌, ◌%◌, ◌-◌, ◌*◌, ℕ, List, Bool, [], length, map, get_or, sym, ap, subst, ◌∙◌, arith}
use Rattle.std.proofs.lemmas.List.{length-map}
use Rattle.std.specs.Vec.{vec_len}
use Rattle.std.specs.Arc.{arc_value}
use Rattle.solution_book.proofs.Parts.{batch_at, within_full, full_at, within_last, last_at}
use Rattle.solution_book.proofs.solids.Solids.get.Goals as goal

module _ (c : goal.After-deref-then-batch-len-2) where
  within : c.args.place / 256 < length (arc_value c.self.inside.full).items
  within = omega (arith, c.if-batch-len.true, c.len.ensures, ap vec_len c.deref.ensures, (arc_value c.self.inside.full).ok.0)

  batch : c.deref-then-batch-len-2.result.now ≡ get_or (map (λ b. arc_value b) (arc_value c.self.inside.full).items) (c.args.place / 256) []
  batch = batch_at (λ b. arc_value b) (arc_value c.self.inside.full).items (c.args.place / 256) c.index.result.now c.deref-then-batch-len-2.result.now within
      (c.index.ensures ∙ ap (λ v. get_or v.items (c.args.place / 256) c.index.result.now) c.deref-then-batch-len.ensures) c.deref-then-batch-len-2.ensures

  listed : c.args.place / 256 < length (map (λ b. arc_value b) (arc_value c.self.inside.full).items)
  listed = omega (arith, within, length-map (arc_value c.self.inside.full).items (λ b. arc_value b))

pub get-requires : goal.get-requires
get-requires c = subst (λ (b : List (List Bool)). c.args.place % 256 < length b) (sym (batch c)) (within_full _ c.self.inside.last _ c.args.place c.self.invariant (listed c))

pub returns-then-batch-len : goal.returns-then-batch-len
returns-then-batch-len c = c.get.ensures ∙ ap (λ (b : List (List Bool)). get_or b (c.args.place % 256) []) (batch c.before)
    ∙ full_at _ c.self.inside.last _ c.args.place c.self.invariant (listed c.before) ∙ ap (λ (l : List (List Bool)). get_or l c.args.place []) c.self.view_is

module _ (c : goal.After-len-2) where
  all : c.len-2.result ≡ length (map (λ b. arc_value b) (arc_value c.self.inside.full).items)
  all = omega (arith, c.len-2.ensures, ap vec_len c.deref-2.ensures, (arc_value c.self.inside.full).ok.0, length-map (arc_value c.self.inside.full).items (λ b. arc_value b))

  past : length (map (λ b. arc_value b) (arc_value c.self.inside.full).items) ≤ c.args.place / 256
  past = omega (arith, all, c.if-batch-len.false, c.len.ensures, ap vec_len c.deref.ensures, c.len-2.ensures, ap vec_len c.deref-2.ensures)

pub get-requires-2 : goal.get-requires-2
get-requires-2 c = subst (λ (n : ℕ). c.args.place - n * 256 < length c.self.inside.last) (sym (all c))
    (within_last _ c.self.inside.last _ c.args.place c.self.invariant (past c) (subst (λ (l : List (List Bool)). c.args.place < length l) (sym c.self.view_is) c.requires))

pub returns : goal.returns
returns c = c.get-2.ensures ∙ ap (λ (n : ℕ). get_or c.self.inside.last (c.args.place - n * 256) []) (all c.before)
    ∙ last_at _ c.self.inside.last _ c.args.place c.self.invariant (past c.before) ∙ ap (λ (l : List (List Bool)). get_or l c.args.place []) c.self.view_is
