-- What counts of an entry, pair by pair and all at once.
use Rattle.std.proofs.Common.{◌≡◌, ℕ, Bool, true, false, not, List, [], ◌∷◌, Option, Some, None, Result, Ok, Err, if◌then◌else◌, refl, sym, ap, ◌∙◌}
use Rattle.std.specs.Option.{option_map, option_or, unwrap_or}
use Rattle.solid_model.specs.declared.fault.Fault.{Fault}
use Rattle.dxf_entities.specs.declared.layer.Layer.{Layer}
use Rattle.dxf_groups.specs.Pairs.{TextPair}
use Rattle.dxf_entities.specs.declared.facts.Facts.{Facts}
use Rattle.dxf_entities.specs.declared.layer_facts.LayerFacts.{LayerFacts}
use Rattle.dxf_entities.specs.declared.kind.Kind.TheVariants.{Other}
use Rattle.dxf_entities.specs.declared.linetype.Linetype.{Linetype}
use Rattle.dxf_entities.specs.declared.named.Named.{Named}
use Rattle.dxf_entities.specs.declared.named.Named.TheVariants.{Unread, Shows, Misnamed}
use Rattle.dxf_entities.specs.Entries.{has_code, own_pairs, first_value, opens_application, closes_application}
use Rattle.dxf_entities.specs.Judging.{is_on_paper, is_one, drawn_by, judged, lines_by, misnamed, pen_of, pen_on}
use Rattle.dxf_entities.specs.Forms.{FormParts}
use Rattle.dxf_entities.specs.Names.{layer_on, linetype_of}
use Rattle.dxf_entities.specs.Resuming.{or_first, with_fact, with_layer_fact, with_own}
use Rattle.dxf_entities.specs.Shapes.{with_shape, known_shape}
use Rattle.dxf_entities.specs.Steps.{◌>>=◌}
use Rattle.dxf_entities.specs.declared.layer_line.LayerLine.{LayerLine}

-- what is known, or else nothing
pub or_nothing : {A : Type 0} (known : Option A) → option_or known None ≡ known
or_nothing (Some x) = refl
or_nothing None = refl

-- what is known, or else what the first pair with a code tells
first_of_more : {A : Type 0} (code : ℕ) (meaning : List ℕ → A) (p : TextPair)
    (own : List TextPair) (known : Option A)
    → option_or (or_first code meaning p known) (option_map meaning (first_value code own))
    ≡ option_or known (option_map meaning (first_value code (p ∷ own)))
first_of_more code meaning p own (Some x) = refl
first_of_more code meaning p own None = by (has_code code p)
  where
    by : (b : Bool)
        → option_or (if b then Some (meaning p.value) else None) (option_map meaning (first_value code own))
        ≡ option_map meaning (if b then Some p.value else first_value code own)
    by true = refl
    by false = refl

-- no more pairs are looked at
bind_ok : {A : Type 0} (r : Result A Fault) → (r >>= Ok) ≡ r
bind_ok (Ok x) = refl
bind_ok (Err e) = refl

-- one after another
pub bind_bind : {A B C : Type 0} (r : Result A Fault) (f : A → Result B Fault) (g : B → Result C Fault)
    → ((r >>= f) >>= g) ≡ (r >>= λ x. f x >>= g)
bind_bind (Ok x) f g = refl
bind_bind (Err e) f g = refl

-- what counts of an entity with these pairs of its own
abbrev pub with_facts : FormParts → List TextPair → Facts → Facts
with_facts form own f = record f {
  layer = option_or f.layer (option_map (layer_on form) (first_value 8 own));
  paper = option_or f.paper (option_map is_one (first_value 67 own));
  linetype = option_or f.linetype (option_map linetype_of (first_value 6 own));
  shape = f.shape >>= known_shape form.decimals f.line own;
}

-- with no pairs nothing more counts
no_facts : (form : FormParts) (f : Facts) → with_facts form [] f ≡ f
no_facts form f = λ i. record f {
  layer = or_nothing f.layer i;
  paper = or_nothing f.paper i;
  linetype = or_nothing f.linetype i;
  shape = bind_ok f.shape i;
}

-- one more pair, and then the others
more_facts : (form : FormParts) (p : TextPair) (own : List TextPair) (f : Facts)
    → with_facts form own (with_fact form p f) ≡ with_facts form (p ∷ own) f
more_facts form p own f = λ i. record f {
  layer = first_of_more 8 (layer_on form) p own f.layer i;
  paper = first_of_more 67 is_one p own f.paper i;
  linetype = first_of_more 6 linetype_of p own f.linetype i;
  shape = bind_bind f.shape (with_shape form.decimals f.line p) (known_shape form.decimals f.line own) i;
}

-- what counts of a layer's entry with these pairs of its own
abbrev pub with_layer_facts : FormParts → List TextPair → LayerFacts → LayerFacts
with_layer_facts form own f = record {
  name = option_or f.name (option_map (layer_on form) (first_value 2 own));
  linetype = option_or f.linetype (option_map linetype_of (first_value 6 own));
}

-- with no pairs nothing more counts
no_layer_facts : (form : FormParts) (f : LayerFacts) → with_layer_facts form [] f ≡ f
no_layer_facts form f = λ i. record { name = or_nothing f.name i; linetype = or_nothing f.linetype i }

-- one more pair, and then the others
more_layer_facts : (form : FormParts) (p : TextPair) (own : List TextPair) (f : LayerFacts)
    → with_layer_facts form own (with_layer_fact form p f) ≡ with_layer_facts form (p ∷ own) f
more_layer_facts form p own f = λ i. record {
  name = first_of_more 2 (layer_on form) p own f.name i;
  linetype = first_of_more 6 linetype_of p own f.linetype i;
}

-- what is found pair by pair is found of an entry's own pairs
module _ {F : Type 0} (with : TextPair → F → F) (all : List TextPair → F → F) (none : (f : F) → all [] f ≡ f)
    (more : (p : TextPair) (own : List TextPair) (f : F) → all own (with p f) ≡ all (p ∷ own) f)
  where
    found : (inside : Bool) (ps : List TextPair) (f : F)
        → with_own with inside ps f ≡ all (own_pairs inside ps) f
    found true [] f = sym (none f)
    found false [] f = sym (none f)
    found true (p ∷ ps) f = found (not (closes_application p)) ps f
    found false (p ∷ ps) f = by (opens_application p) (found true ps f) (found false ps (with p f))
      where
        by : (b : Bool) → with_own with true ps f ≡ all (own_pairs true ps) f
            → with_own with false ps (with p f) ≡ all (own_pairs false ps) (with p f)
            → (if b then with_own with true ps f else with_own with false ps (with p f))
            ≡ all (if b then own_pairs true ps else p ∷ own_pairs false ps) f
        by true inside outside = inside
        by false inside outside = outside ∙ more p (own_pairs false ps) f

-- so are the facts of an entity
pub own_facts : (form : FormParts) (inside : Bool) (ps : List TextPair) (f : Facts)
    → with_own (with_fact form) inside ps f ≡ with_facts form (own_pairs inside ps) f
own_facts form =
    found (with_fact form) (with_facts form) (no_facts form) (more_facts form)

-- and those of a layer's entry
pub own_layer_facts : (form : FormParts) (inside : Bool) (ps : List TextPair) (f : LayerFacts)
    → with_own (with_layer_fact form) inside ps f ≡ with_layer_facts form (own_pairs inside ps) f
own_layer_facts form = found (with_layer_fact form) (with_layer_facts form) (no_layer_facts form) (more_layer_facts form)

-- an entity that stands on a layer that isn't read is passed over
pub elsewhere : (layers : Layer → Option Linetype) (lines : List LayerLine) (f : Facts) → f.layer ≡ Some Unread
    → judged layers lines f ≡ Ok lines
unfolding drawn_by
elsewhere layers lines f e =
    ap (λ layer. pen_on (unwrap_or layer Unread) layers f >>= lines_by f lines) e

-- no layer that is read, or paper space: what is no geometry is passed over in each case
no_geometry_on : (name : Named) (layers : Layer → Option Linetype) (f : Facts)
    → f.kind ≡ Other → pen_on name layers f ≡ Ok None
no_geometry_on Unread layers f e = refl
no_geometry_on (Shows layer) layers f e = by (is_on_paper f.paper)
  where
    by : (b : Bool) → (if b then Ok None else pen_of f.kind (layers layer) layer f) ≡ Ok None
    by true = refl
    by false = ap (λ kind. pen_of kind (layers layer) layer f) e
no_geometry_on Misnamed layers f e = by (is_on_paper f.paper)
  where
    by : (b : Bool) → (if b then Ok None else misnamed f.kind f.line) ≡ Ok None
    by true = refl
    by false = ap (λ kind. misnamed kind f.line) e

-- as is one that is no geometry
pub no_geometry : (layers : Layer → Option Linetype) (lines : List LayerLine) (f : Facts) → f.kind ≡ Other
    → judged layers lines f ≡ Ok lines
unfolding drawn_by
no_geometry layers lines f e =
    ap (λ pen. pen >>= lines_by f lines) (no_geometry_on (unwrap_or f.layer Unread) layers f e)
