use Rattle.std.proofs.Common.{◌≡◌, ◌-◌, ◌≤◌, ◌++◌, length, take, drop, sym, ap, ◌∙◌, arith}
use Rattle.std.proofs.lemmas.List.{take_rest, drop-drop}
use Rattle.tv_base.proofs.Told.{copied_and_left}
use Rattle.tv_base.proofs.mem_source.MemSourceSource.read.Goals as goal

pub returns-clause-bytes : goal.returns-clause-bytes
returns-clause-bytes c =
    let at = c.self.inside.at in
    let bytes = c.self.inside.bytes.items in
    let count = c.copy_prefix-count.result in
    let buffer = c.copy_prefix-count.new.buffer in
    let from_is : take (length c.deref-2.result.now - at) (drop at c.deref-2.result.now) ≡ drop at bytes = take_rest c.deref-2.result.now at ∙ ap (drop at) c.deref-2.ensures.value in
    let copied : buffer ≡ take count (drop at bytes) ++ drop count c.args.buffer.now = rw from_is at c.copy_prefix-count.ensures.copied in
    let within : count ≤ length (drop at bytes) = omega (arith, rw from_is at c.copy_prefix-count.ensures.count) in
    ap (λ s. s.left) (sym c.self.view_is) ∙ copied_and_left (drop at bytes) c.args.buffer.now buffer count within copied ∙ ap (λ ys. take count buffer ++ ys) (drop-drop count at bytes)
