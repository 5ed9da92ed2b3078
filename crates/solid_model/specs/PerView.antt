-- What belongs to each view.
use Rattle.solid_model.specs.declared.frame.View.{View}
use Rattle.solid_model.specs.declared.frame.View.TheVariants.{Front, Top, Side}
use Rattle.solid_model.specs.declared.per_view.PerView.{PerView}

-- what belongs to a view
abbrev pub of_view : {A : Type 0} → View → PerView A → A
of_view Front p = p.front
of_view Top p = p.top
of_view Side p = p.side
