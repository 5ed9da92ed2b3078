-- The commands, and what each is asked to do. Jobs are read from the list of commands, so that what is said of words is said
-- once for all of them, and a further command is a further row. A command's number is one option more, which must be there
-- and is written without a name.
use Rattle.std.specs.Prelude.{ℕ, ◌≤◌, ◌++◌, Bool, List, [], ◌∷◌, Option, Some, None, if◌then◌else◌, codes, option_map}
use Rattle.std.specs.Str.{bytes_eq}
use Rattle.solid_model.specs.Limits.{most_decimals, most_node_limit, most_solid_limit}
use Rattle.solid_model.specs.Search.{SearchLimits, default_limits}
use Rattle.words.specs.declared.job.Job.{Job}
use Rattle.words.specs.declared.job.Job.TheVariants as job
use Rattle.words.specs.Words.{Field, Table, Text, Use, is_used, number_name, number_or, taken}

-- ---- what commands take

-- the most workers of a search
abbrev pub most_workers : ℕ
most_workers = 64

-- `--workers`, how many work at a search
abbrev pub workers_field : Field
workers_field = record { name = codes "workers"; range = Some (record { least = 1; most = most_workers }) }

-- `--nodes`, the limit of live prefixes
abbrev pub nodes_field : Field
nodes_field = record { name = codes "nodes"; range = Some (record { least = 1; most = most_node_limit }) }

-- `--solids`, the limit of solids
abbrev pub solids_field : Field
solids_field = record { name = codes "solids"; range = Some (record { least = 1; most = most_solid_limit }) }

-- `--pages`, whether solids are told while they are found; it has no value
abbrev pub pages_field : Field
pages_field = record { name = codes "pages"; range = None }

-- `--decimals`, how many decimals the coordinates of a drawing have
abbrev pub decimals_field : Field
decimals_field = record { name = codes "decimals"; range = Some (record { least = 0; most = most_decimals }) }

-- `--two-views`, whether one view of a drawing may show nothing; it has no value
abbrev pub two_views_field : Field
two_views_field = record { name = codes "two-views"; range = None }

-- `--sections`, whether further views and sections are read too; it has no value
abbrev pub sections_field : Field
sections_field = record { name = codes "sections"; range = None }

-- what each command takes that reads a drawing
abbrev pub reading_fields : List Field
reading_fields = two_views_field ∷ []

-- and what those take that can read sections
abbrev pub sections_fields : List Field
sections_fields = two_views_field ∷ sections_field ∷ []

-- the options of a search within limits
abbrev pub search_fields : List Field
search_fields = workers_field ∷ nodes_field ∷ solids_field ∷ []

-- what `solve` takes: these, pages, decimals and how a drawing is read, and no number
abbrev pub solve_table : Table
solve_table = record { options = search_fields ++ pages_field ∷ decimals_field ∷ sections_fields; number = None }

-- what a search for one solid takes: these options, and the number of the solid, counted from 1
abbrev pub one_table : List Field → Table
one_table options = record { options = options; number = Some (record { least = 1; most = most_solid_limit }) }

-- what `redraw` takes: the options of a search, decimals and how a drawing is read
abbrev pub redraw_table : Table
redraw_table = one_table (search_fields ++ decimals_field ∷ sections_fields)

-- what `stl` takes: those of a search, and how a drawing is read
abbrev pub stl_table : Table
stl_table = one_table (search_fields ++ sections_fields)

-- what `prove` takes: the same, and no number
abbrev pub prove_table : Table
prove_table = record { options = search_fields ++ reading_fields; number = None }

-- what `check` takes: how a drawing is read
abbrev pub check_table : Table
check_table = record { options = sections_fields; number = None }

-- what `ask` takes: what `prove` does
abbrev pub ask_table : Table
ask_table = prove_table

-- what `blocks` takes: decimals and how a drawing is read
abbrev pub blocks_table : Table
blocks_table = record { options = decimals_field ∷ reading_fields; number = None }

-- what `make` takes: no option, and any number of 64 bits
abbrev pub make_table : Table
make_table = record { options = []; number = Some (record { least = 0; most = 18446744073709551615 }) }

-- what `trial` takes: how many work at its search, and such a number
abbrev pub trial_table : Table
trial_table = record { options = workers_field ∷ []; number = Some (record { least = 0; most = 18446744073709551615 }) }

-- ---- what they are asked

-- one worker, where the words say nothing else
abbrev pub workers_in : List Use → ℕ
workers_in us = number_or us (codes "workers") 1

-- a search within 1,000,000 live prefixes and 4,096 solids, where the words say nothing else
abbrev pub limits_in : List Use → SearchLimits
limits_in us = record { nodes = number_or us (codes "nodes") default_limits.nodes; solids = number_or us (codes "solids") default_limits.solids }

-- pages are asked for
abbrev pub pages_in : List Use → Bool
pages_in us = is_used (codes "pages") us

-- one view may show nothing
abbrev pub two_views_in : List Use → Bool
two_views_in us = is_used (codes "two-views") us

-- sections are read
abbrev pub sections_in : List Use → Bool
sections_in us = is_used (codes "sections") us

-- the number that stands there
abbrev pub number_in : List Use → ℕ
number_in us = number_or us number_name 1

-- coordinates have no decimals, where the words say nothing else
abbrev pub decimals_in : List Use → ℕ
decimals_in us = number_or us (codes "decimals") 0

-- a command: its name, what it takes, and the job that its words say
pub record Command : Type 0 where
  pub name : Text
  pub table : Table
  pub job : List Use → Job

-- all of them
abbrev pub commands : List Command
commands = record { name = codes "solve"; table = solve_table; job = λ us. job.Solve (workers_in us) (limits_in us) (pages_in us) (decimals_in us) (two_views_in us) (sections_in us) }
    ∷ record { name = codes "redraw"; table = redraw_table; job = λ us. job.Redraw (number_in us) (workers_in us) (limits_in us) (decimals_in us) (two_views_in us) (sections_in us) }
    ∷ record { name = codes "stl"; table = stl_table; job = λ us. job.Stl (number_in us) (workers_in us) (limits_in us) (two_views_in us) (sections_in us) }
    ∷ record { name = codes "prove"; table = prove_table; job = λ us. job.Prove (workers_in us) (limits_in us) (two_views_in us) }
    ∷ record { name = codes "check"; table = check_table; job = λ us. job.Check (two_views_in us) (sections_in us) }
    ∷ record { name = codes "ask"; table = ask_table; job = λ us. job.Ask (workers_in us) (limits_in us) (two_views_in us) }
    ∷ record { name = codes "blocks"; table = blocks_table; job = λ us. job.Blocks (decimals_in us) (two_views_in us) }
    ∷ record { name = codes "make"; table = make_table; job = λ us. job.Make (number_in us) }
    ∷ record { name = codes "trial"; table = trial_table; job = λ us. job.Trial (number_in us) (workers_in us) } ∷ []

-- the job that the words after a command's name say, where the command takes them
abbrev pub command_said : Command → List Text → Option Job
command_said c words = option_map c.job (taken c.table words)

-- the same of the command that is called so among these
abbrev pub said_among : List Command → Text → List Text → Option Job
said_among [] name words = None
said_among (c ∷ cs) name words = if bytes_eq name c.name then command_said c words else said_among cs name words

-- the job that the words say, where they are taken: the first is the command's name
abbrev pub job_said : List Text → Option Job
job_said [] = None
job_said (name ∷ words) = said_among commands name words

-- so many may work at a search
abbrev pub AreWorkers : ℕ → Type 0
AreWorkers workers = (1 ≤ workers) × (workers ≤ most_workers)

-- the numbers that a job asks for can be met: it counts solids from 1, as many work at it as may, coordinates have no more
-- decimals than they may, and a log lists no more solids than it may
abbrev pub IsCounted : Job → Type 0
IsCounted (job.Solve workers limits pages decimals two sections) = AreWorkers workers × (decimals ≤ most_decimals)
IsCounted (job.Redraw which workers limits decimals two sections) = (1 ≤ which) × AreWorkers workers × (decimals ≤ most_decimals)
IsCounted (job.Stl which workers limits two sections) = (1 ≤ which) × AreWorkers workers
IsCounted (job.Prove workers limits two) = AreWorkers workers × (limits.solids ≤ most_solid_limit)
IsCounted (job.Check two sections) = Unit {0}
IsCounted (job.Ask workers limits two) = AreWorkers workers
IsCounted (job.Blocks decimals two) = decimals ≤ most_decimals
IsCounted (job.Make n) = Unit {0}
IsCounted (job.Trial n workers) = AreWorkers workers
