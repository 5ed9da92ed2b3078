-- Views of lines that are missing.
use Rattle.std.specs.Prelude.{Bool, true, false, List}
use Rattle.solid_model.specs.declared.frame.View.{View}
use Rattle.solid_model.specs.Drawings.{IsEmptyView}
use Rattle.solid_model.specs.Line.{Line}

-- it is told whether a view is missing: whether lines show nothing of it
abbrev pub TellsMissing : List Line → View → Bool → Type 0
TellsMissing ls v true = IsEmptyView ls v
TellsMissing ls v false = IsEmptyView ls v → ⊥
