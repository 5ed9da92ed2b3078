-- Pairs that don't count tell nothing.
use Rattle.std.proofs.Common.{◌≡◌, ℕ, Bool, true, false, not, ◌||◌, List, [], ◌∷◌, Some, None, Result, Ok, Err, refl, sym, ap, ◌∙◌}
use Rattle.std.specs.Option.{option_map, option_or}
use Rattle.std.proofs.lemmas.Bool.{or_parts}
use Rattle.solid_model.specs.declared.fault.Fault.{Fault}
use Rattle.dxf_groups.specs.Groups.{is_wanted}
use Rattle.dxf_groups.specs.Pairs.{TextPair}
use Rattle.dxf_entities.specs.declared.counting.Counting.{Counting}
use Rattle.dxf_entities.specs.declared.counting.Counting.TheVariants as counting
use Rattle.dxf_entities.specs.declared.facts.Facts.{Facts}
use Rattle.dxf_entities.specs.declared.layer_facts.LayerFacts.{LayerFacts}
use Rattle.dxf_entities.specs.declared.open.Open.{Open}
use Rattle.dxf_entities.specs.declared.open.Open.TheVariants.{Passed, Layer, Entity}
use Rattle.dxf_entities.specs.declared.shape.Shape.{Shape}
use Rattle.dxf_entities.specs.declared.shape.Shape.TheVariants as shape
use Rattle.dxf_entities.specs.declared.named.Named.TheVariants.{Unread}
use Rattle.dxf_entities.specs.Counting.{counts, is_one_of}
use Rattle.dxf_entities.specs.Entries.{has_code, closes_application, own_pairs, first_value}
use Rattle.dxf_entities.specs.Forms.{FormParts}
use Rattle.dxf_entities.specs.Names.{layer_on, linetype_of}
use Rattle.dxf_entities.specs.Reading.{Progress, with_layer}
use Rattle.dxf_entities.specs.Resuming.{with_fact, with_layer_fact, entry_closed}
use Rattle.dxf_entities.specs.Shapes.{more_shape}
use Rattle.dxf_entities.proofs.OwnFacts.{or_nothing, own_layer_facts}

-- the code of a pair that doesn't count is none of those that do
none_of : (p : TextPair) (c : ℕ) (cs : List ℕ) → is_one_of (c ∷ cs) p.code ≡ false
    → (has_code c p ≡ false) × (is_one_of cs p.code ≡ false)
none_of p c cs = or_parts (has_code c p) (is_one_of cs p.code)

-- and it isn't 0
pub uncounted : (c : Counting) (p : TextPair) → is_wanted (counts c) p.code ≡ false
    → (has_code 0 p ≡ false) × (counts c p.code ≡ false)
uncounted c p = or_parts (has_code 0 p) (counts c p.code)

-- what an entry closes with is the same with a pair before the others
abbrev pub TellsNothing : TextPair → Open → Bool → Progress → Type 0
TellsNothing p entry inside s = (ps : List TextPair) → entry_closed entry inside (p ∷ ps) s ≡ entry_closed entry inside ps s

-- any pair tells nothing of an entry that is passed over,
pub passed_tells : (p : TextPair) (entry : Open) (inside : Bool) (s : Progress) → entry ≡ Passed → TellsNothing p entry inside s
passed_tells p entry inside s is = λ ps.
    ap (λ e. entry_closed e inside (p ∷ ps) s) is ∙ sym (ap (λ e. entry_closed e inside ps s) is)

-- nor of a layer that isn't read,
unread_closes : (f : LayerFacts) (inside : Bool) (ps : List TextPair) (s : Progress) → f.name ≡ Some Unread
    → entry_closed (Layer f) inside ps s ≡ Ok (with_layer (Some Unread) None s)
unread_closes f inside ps s unread =
    ap (λ (all : LayerFacts). Ok (with_layer all.name all.linetype s)) (own_layer_facts s.form inside ps f)
    ∙ ap (λ name. Ok (with_layer (option_or name (option_map (layer_on s.form) (first_value 2 (own_pairs inside ps))))
    (option_or f.linetype (option_map linetype_of (first_value 6 (own_pairs inside ps)))) s)) unread

pub unread_tells : (p : TextPair) (entry : Open) (f : LayerFacts) (inside : Bool) (s : Progress) → entry ≡ Layer f → f.name ≡ Some Unread
    → TellsNothing p entry inside s
unread_tells p entry f inside s is unread = λ ps.
    ap (λ e. entry_closed e inside (p ∷ ps) s) is ∙ unread_closes f inside (p ∷ ps) s unread
    ∙ sym (ap (λ e. entry_closed e inside ps s) is ∙ unread_closes f inside ps s unread)

-- nor one that belongs to an application and isn't its end,
pub inside_tells : (p : TextPair) (entry : Open) (inside : Bool) (s : Progress) → inside ≡ true
    → counts counting.Application p.code ≡ false → TellsNothing p entry inside s
inside_tells p entry inside s is other = λ ps. ap (λ b. entry_closed entry b (p ∷ ps) s) is ∙ by entry ps ∙ sym (ap (λ b. entry_closed entry b ps s) is)
  where
    still : closes_application p ≡ false
    still = rw ((none_of p 102 [] other).0) refl

    by : (e : Open) (ps : List TextPair) → entry_closed e true (p ∷ ps) s ≡ entry_closed e true ps s
    by Passed ps = refl
    by (Layer f) ps = ap (λ b. entry_closed (Layer f) (not b) ps s) still
    by (Entity f) ps = ap (λ b. entry_closed (Entity f) (not b) ps s) still

-- nor of a layer, with a code that doesn't count,
same_layer_facts : (form : FormParts) (p : TextPair) (f : LayerFacts) → has_code 2 p ≡ false → has_code 6 p ≡ false
    → with_layer_fact form p f ≡ f
same_layer_facts form p f no_name no_linetype =
    rw (no_name, no_linetype) (λ i. record { name = or_nothing f.name i; linetype = or_nothing f.linetype i })

pub layer_tells : (p : TextPair) (entry : Open) (f : LayerFacts) (inside : Bool) (s : Progress) → entry ≡ Layer f → inside ≡ false
    → counts counting.Layer p.code ≡ false → TellsNothing p entry inside s
layer_tells p entry f inside s is outside other = λ ps.
    ap (λ e. entry_closed e inside (p ∷ ps) s) is ∙ (ap (λ b. entry_closed (Layer f) b (p ∷ ps) s) outside
    ∙ (rw no_application (ap (λ (g : LayerFacts). entry_closed (Layer g) false ps s) same)
    ∙ sym (ap (λ b. entry_closed (Layer f) b ps s) outside))) ∙ sym (ap (λ e. entry_closed e inside ps s) is)
  where
    no_name : (has_code 2 p ≡ false) × (is_one_of (6 ∷ 102 ∷ []) p.code ≡ false)
    no_name = none_of p 2 (6 ∷ 102 ∷ []) other

    no_linetype : (has_code 6 p ≡ false) × (is_one_of (102 ∷ []) p.code ≡ false)
    no_linetype = none_of p 6 (102 ∷ []) no_name.1

    no_application : has_code 102 p ≡ false
    no_application = (none_of p 102 [] no_linetype.1).0

    same : with_layer_fact s.form p f ≡ f
    same = same_layer_facts s.form p f no_name.0 no_linetype.0

-- and nor of an entity
same_shape : (decimals line : ℕ) (p : TextPair) → has_code 10 p ≡ false → has_code 11 p ≡ false → has_code 20 p ≡ false
    → has_code 21 p ≡ false → has_code 42 p ≡ false → has_code 70 p ≡ false
    → (read : Result Shape Fault) → more_shape decimals line p read ≡ read
same_shape decimals line p no_x0 no_x1 no_y0 no_y1 no_bulge no_flags (Err e) = refl
same_shape decimals line p no_x0 no_x1 no_y0 no_y1 no_bulge no_flags (Ok (shape.Line c)) = rw (no_x0, no_y0, no_x1, no_y1) refl
same_shape decimals line p no_x0 no_x1 no_y0 no_y1 no_bulge no_flags (Ok (shape.Polyline o)) =
    rw (no_x0, no_y0, no_bulge, no_flags) refl
same_shape decimals line p no_x0 no_x1 no_y0 no_y1 no_bulge no_flags (Ok shape.Nothing) = refl

same_facts : (form : FormParts) (p : TextPair) (f : Facts) → has_code 6 p ≡ false → has_code 8 p ≡ false → has_code 67 p ≡ false
    → more_shape form.decimals f.line p f.shape ≡ f.shape → with_fact form p f ≡ f
same_facts form p f no_linetype no_layer no_paper same =
    rw (no_linetype, no_layer, no_paper) (λ i. record f {
      layer = or_nothing f.layer i;
      paper = or_nothing f.paper i;
      linetype = or_nothing f.linetype i;
      shape = same i;
    })

pub entity_tells : (p : TextPair) (entry : Open) (f : Facts) (inside : Bool) (s : Progress) → entry ≡ Entity f → inside ≡ false
    → counts counting.Entity p.code ≡ false → TellsNothing p entry inside s
entity_tells p entry f inside s is outside other = λ ps.
    ap (λ e. entry_closed e inside (p ∷ ps) s) is ∙ (ap (λ b. entry_closed (Entity f) b (p ∷ ps) s) outside
    ∙ (rw (c102.0) (ap (λ (g : Facts). entry_closed (Entity g) false ps s) same)
    ∙ sym (ap (λ b. entry_closed (Entity f) b ps s) outside))) ∙ sym (ap (λ e. entry_closed e inside ps s) is)
  where
    pen : (is_one_of (6 ∷ 8 ∷ 67 ∷ []) p.code ≡ false)
        × ((is_one_of (10 ∷ 11 ∷ 20 ∷ 21 ∷ []) p.code || (is_one_of (42 ∷ 70 ∷ []) p.code || is_one_of (102 ∷ []) p.code)) ≡ false)
    pen = or_parts (is_one_of (6 ∷ 8 ∷ 67 ∷ []) p.code) _ other

    point : (is_one_of (10 ∷ 11 ∷ 20 ∷ 21 ∷ []) p.code ≡ false)
        × ((is_one_of (42 ∷ 70 ∷ []) p.code || is_one_of (102 ∷ []) p.code) ≡ false)
    point = or_parts (is_one_of (10 ∷ 11 ∷ 20 ∷ 21 ∷ []) p.code) _ pen.1

    outline : (is_one_of (42 ∷ 70 ∷ []) p.code ≡ false) × (is_one_of (102 ∷ []) p.code ≡ false)
    outline = or_parts (is_one_of (42 ∷ 70 ∷ []) p.code) _ point.1

    c6 : (has_code 6 p ≡ false) × (is_one_of (8 ∷ 67 ∷ []) p.code ≡ false)
    c6 = none_of p 6 (8 ∷ 67 ∷ []) pen.0

    c8 : (has_code 8 p ≡ false) × (is_one_of (67 ∷ []) p.code ≡ false)
    c8 = none_of p 8 (67 ∷ []) c6.1

    c67 : (has_code 67 p ≡ false) × (is_one_of [] p.code ≡ false)
    c67 = none_of p 67 [] c8.1

    c10 : (has_code 10 p ≡ false) × (is_one_of (11 ∷ 20 ∷ 21 ∷ []) p.code ≡ false)
    c10 = none_of p 10 (11 ∷ 20 ∷ 21 ∷ []) point.0

    c11 : (has_code 11 p ≡ false) × (is_one_of (20 ∷ 21 ∷ []) p.code ≡ false)
    c11 = none_of p 11 (20 ∷ 21 ∷ []) c10.1

    c20 : (has_code 20 p ≡ false) × (is_one_of (21 ∷ []) p.code ≡ false)
    c20 = none_of p 20 (21 ∷ []) c11.1

    c21 : (has_code 21 p ≡ false) × (is_one_of [] p.code ≡ false)
    c21 = none_of p 21 [] c20.1

    c42 : (has_code 42 p ≡ false) × (is_one_of (70 ∷ []) p.code ≡ false)
    c42 = none_of p 42 (70 ∷ []) outline.0

    c70 : (has_code 70 p ≡ false) × (is_one_of [] p.code ≡ false)
    c70 = none_of p 70 [] c42.1

    c102 : (has_code 102 p ≡ false) × (is_one_of [] p.code ≡ false)
    c102 = none_of p 102 [] outline.1

    same : with_fact s.form p f ≡ f
    same = same_facts s.form p f c6.0 c8.0 c67.0
        (same_shape s.form.decimals f.line p c10.0 c11.0 c20.0 c21.0 c42.0 c70.0 f.shape)
