-- The parts of the line, one behind another.
use Rattle.std.proofs.Common.{◌≡◌, ◌++◌, w64, to_z, of_z, ◌+ℤ◌, ◌∙◌, codes, rules}
use Rattle.std.proofs.lemmas.Int.{to_z-of_z}
use Rattle.solid_model.specs.declared.runs.Run.{Run}
use Rattle.solid_model.specs.Frames.{layer_name}
use Rattle.solid_model.specs.Line.{Line}
use Rattle.solid_model.specs.Segments.{along_of, across_of}
use Rattle.redraw.specs.Files.{run_line}
use Rattle.redraw.specs.Plain.{pair_text, linetype_name}
use Rattle.redraw.proofs.Texts.{point_text, line_pushed}
use Rattle.redraw.proofs.text.push_run.Goals as goal

pub returns : goal.returns
returns c =
    let place = c.args.place in
    let r : Run = c.args.run.now in
    let l : Line = run_line place.view c.args.upright place.right place.up c.args.run.now in
    let first : c.push_pair.new.text.items ≡ c.args.text.now.items ++ pair_text (codes "0") (codes "LINE") = c.in_ok-push_pair.ensures in
    let layer : c.push_pair-2.new.text.items ≡ c.push_pair.new.text.items ++ pair_text (codes "8") (layer_name l.of) = search rules in
    let linetype : c.push_pair-3.new.text.items ≡ c.push_pair-2.new.text.items ++ pair_text (codes "6") (linetype_name l.style) = search rules in
    let at : to_z w64 (of_z w64 r.at) ≡ r.at = to_z-of_z w64 r.at (search rules) in
    let begins : to_z w64 (of_z w64 r.from) ≡ r.from = to_z-of_z w64 r.from (search rules) in
    let ends : to_z w64 (of_z w64 r.to) ≡ r.to = to_z-of_z w64 r.to (search rules) in
    let x0 : c.point-from.result.0 ≡ l.x0 =
    c.point-from.ensures.x ∙ (λ t. across_of c.args.upright (at t) (begins t) +ℤ place.right) in
    let y0 : c.point-from.result.1 ≡ l.y0 =
    c.point-from.ensures.y ∙ (λ t. along_of c.args.upright (at t) (begins t) +ℤ place.up) in
    let x1 : c.point-to.result.0 ≡ l.x1 =
    c.point-to.ensures.x ∙ (λ t. across_of c.args.upright (at t) (ends t) +ℤ place.right) in
    let y1 : c.point-to.result.1 ≡ l.y1 =
    c.point-to.ensures.y ∙ (λ t. along_of c.args.upright (at t) (ends t) +ℤ place.up) in
    let from : c.push_point.new.text.items ≡ c.push_pair-3.new.text.items ++ point_text c.args.decimals (codes "10") (codes "20") (codes "30") l.x0 l.y0 =
    c.in_ok-push_point.ensures ∙ (λ t. c.push_pair-3.new.text.items ++ point_text c.args.decimals (codes "10") (codes "20") (codes "30") (x0 t) (y0 t)) in
    let to : c.push_point-2.new.text.items ≡ c.push_point.new.text.items ++ point_text c.args.decimals (codes "11") (codes "21") (codes "31") l.x1 l.y1 =
    c.in_ok-push_point-2.ensures ∙ (λ t. c.push_point.new.text.items ++ point_text c.args.decimals (codes "11") (codes "21") (codes "31") (x1 t) (y1 t)) in
    line_pushed c.args.decimals l _ _ _ _ _ _ first layer linetype from to
