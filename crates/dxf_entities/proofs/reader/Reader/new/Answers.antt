-- A reader that has read nothing.
use Rattle.std.proofs.Common.{false, refl}
use Rattle.dxf_entities.specs.declared.place.Place.TheVariants.{Outside}
use Rattle.dxf_entities.specs.declared.open.Open.TheVariants.{Passed}
use Rattle.dxf_entities.proofs.Resumes.{begins}
use Rattle.dxf_entities.proofs.reader.Reader.new.Goals as goal

pub returns : goal.returns
returns c =
    begins c.args.form (record {
      alloc = c.args.alloc;
      form = c.args.form;
      place =
          Outside;
      layers = c.new.result;
      lines = c.new-2.result;
      entry = Passed;
      in_application = false;
    }) refl
    (λ i. record { form = c.args.form; place = Outside; layers = λ l. c.new.ensures l i; lines = c.new-2.ensures.items i })
