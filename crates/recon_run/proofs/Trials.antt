-- The file that is made from a number has no fault, and its search passes no limit.
use Rattle.std.proofs.Common.{◌≡◌, false, refl, [], ℕ, ◌≤◌, List, Bool, length, Ok, ap, sym, subst, ◌∙◌, arith}
use Rattle.dxf_entities.specs.Reading.{read_of}
use Rattle.dxf_entities.specs.declared.layer_set.LayerSet.TheVariants.{Main}
use Rattle.dxf_entities.proofs.KeptLines.{none_further_in_three_views, three_views_are_read}
use Rattle.dxf_entities.proofs.NearPoints.{ok_value}
use Rattle.drawing_maker.specs.Made.{made_solid}
use Rattle.made_laws.proofs.MadeFiles.{made_file_reads_back}
use Rattle.made_laws.proofs.MadeLimits.{few_made_blocks, few_made_choices, few_made_nodes, made_blocks_are, made_problem}
use Rattle.made_laws.proofs.SomeMadeGrid.{made_grid_is}
use Rattle.redraw.specs.Files.{IsFileOf}
use Rattle.file_problem.specs.Inputs.{HasNoFault, HasProblem, Input}
use Rattle.recon_run.specs.Answers.{IsTried, first_volume, made_drawing}
use Rattle.recon_run.specs.Owed.{drawing_profile, input_of}
use Rattle.recon_run.specs.Searched.{FillSolids}
use Rattle.file_problem.proofs.Faults.{no_fault}
use Rattle.recon_run.proofs.Filled.{filled_count}
use Rattle.recon_run.proofs.Solved.{all, whole_allowed, whole_filled}
use Rattle.report.specs.Texts.{trial_text}
use Rattle.solid_model.specs.declared.cell.Cell.{Cell}
use Rattle.solid_model.specs.declared.ended.EndKind.{EndKind}
use Rattle.solid_model.specs.declared.ended.EndKind.TheVariants.{Whole, CutNodes, CutSolids}
use Rattle.solid_model.specs.declared.segment.Segment.{Segment}
use Rattle.solid_model.specs.declared.segment.Style.{Style}
use Rattle.solid_model.specs.Blocks.{ProblemParts}
use Rattle.solid_model.specs.Forcing.{is_live}
use Rattle.solid_model.specs.Drawings.{drawing_of}
use Rattle.solid_model.specs.Limits.{most_file_bytes}
use Rattle.solid_model.specs.Line.{Line}
use Rattle.solid_model.specs.Matching.{AreSolidsOf}
use Rattle.solid_model.specs.Panels.{IsGridOf}
use Rattle.solid_model.specs.SearchEnds.{EndsAs}
use Rattle.solid_model.specs.Search.{default_limits}

module _ (n : ℕ) (t : List ℕ) (file : IsFileOf 0 (made_solid n) t) where
  abbrev pub input : Input
  input = input_of (drawing_profile Main 0 false) t

  -- the lines that are read draw the made drawing
  drawn : (lines : List Line) → read_of 0 t ≡ Ok lines → drawing_of lines ≡ made_drawing n
  drawn lines reads =
      let (back, same) = made_file_reads_back n t file in
      ap drawing_of (ok_value lines back.lines (sym reads ∙ back.reads)) ∙ (λ i segment. same segment i)

  read_alone : {p : ProblemParts} (has : HasProblem input p) → read_of 0 t ≡ Ok has.lines
  read_alone has = (none_further_in_three_views 0 t has.lines has.further has.reads).0

  -- it isn't too long,
  pub made_is_short : length t ≤ most_file_bytes
  made_is_short = (made_file_reads_back n t file).0.short

  -- it has a problem, that of the made drawing,
  pub made_has_problem : HasProblem input (made_problem n)
  made_has_problem =
      let (back, same) = made_file_reads_back n t file in
      record {
        short = back.short;
        lines = back.lines;
        further = [];
        reads = three_views_are_read 0 t back.lines back.reads;
        shown = back.shown;
        grid = subst (λ (d : Segment → Style). IsGridOf d (made_problem n).grid) (sym (drawn back.lines back.reads)) (made_grid_is n);
        blocks = made_blocks_are n;
        few = few_made_blocks n (made_problem n).grid (made_grid_is n) (made_problem n).blocks.numbers (made_problem n).blocks.count (made_blocks_are n).blocks;
        cuts = refl;
      }

  -- and no fault
  pub made_is_faultless : HasNoFault input
  made_is_faultless = no_fault made_has_problem

  -- the figures of its search are those of the made drawing's
  pub figures_are : (p : ProblemParts) → HasProblem input p → (kind : EndKind) (opened : ℕ) (choices : List (List Bool))
      → EndsAs (is_live p) p.blocks.count default_limits kind opened choices → (text : List ℕ)
      → ((solids : List (List Cell)) → FillSolids p choices solids → text ≡ trial_text n p.blocks.count (length choices) opened (first_volume solids)) → IsTried n text
  figures_are p has Whole opened choices ends text told =
      let (solids, all_are, filled) = all default_limits input p has in
      let fills = whole_filled default_limits input p has opened choices ends in
      let many = filled_count p choices solids fills in
      record {
        problem = p;
        grid = subst (λ (d : Segment → Style). IsGridOf d p.grid) (drawn has.lines (read_alone has)) has.grid;
        blocks = has.blocks;
        solids = solids;
        all = subst (λ (d : Segment → Style). AreSolidsOf d solids) (drawn has.lines (read_alone has)) all_are;
        allows = whole_allowed default_limits input p has opened choices ends;
        told = told solids fills ∙ (λ i. trial_text n p.blocks.count (many i) (ends.2 i) (first_volume solids));
      }
  figures_are p has CutNodes opened choices (many, counted, are, few) text told =
      let grid = subst (λ (d : Segment → Style). IsGridOf d p.grid) (drawn has.lines (read_alone has)) has.grid in
      let within = few_made_nodes n p grid has.blocks in absurd (omega (arith, many, counted))
  figures_are p has CutSolids opened choices (many, counted, are, as_asked) text told =
      let grid = subst (λ (d : Segment → Style). IsGridOf d p.grid) (drawn has.lines (read_alone has)) has.grid in
      let within = few_made_choices n p grid has.blocks in absurd (omega (arith, many))
