-- What the words of a command line ask for.
use Rattle.std.specs.Prelude.{◌≡◌, ℕ, not, List, [], ◌∷◌, Option, None, codes, map, string_bytes, true, false, String, option_map, option_and_then}
use Rattle.std.specs.declared.alloc.Global.{Global}
use Rattle.clap.specs.Words.{App, first_of, first_value, matches_of, new_app, with_rule}
use Rattle.clap.specs.Faults.{fault_of}
use Rattle.clap.specs.Kinds.{IsAmong, Kinds}
use Rattle.clap.specs.declared.error.kind.ErrorKind.TheVariants.{DisplayHelp}
use Rattle.clap.specs.Walk.{Row}
use Rattle.clap.specs.declared.parser.matches.Found.{Found}
use Rattle.pr_tool_words.specs.Lawful.{Text, fabric_named, is_true, number_in}
use Rattle.pr_tool_words.specs.Shape.{place, option, option_or, flag}
use Rattle.pr_lens_tool.specs.Asked.{Asked}
use Rattle.pr_lens_tool.specs.Tasks.{Said, form_of, module_named, task_of}

-- pipelens TASK FILE [SECOND] [--fabric F] [--narrow] [--samples N] [--json] [--csv] [--no-warnings] [--name MODULE] [--signed NAME,..] [--seed N] [--from T] [--to T]
unfoldable pub app : App
app =
    with_rule (with_rule (with_rule (with_rule (with_rule (with_rule (with_rule (with_rule (with_rule (with_rule (with_rule (with_rule (with_rule (with_rule (new_app (codes "pipelens")) (place (codes "task") true)) (place (codes "file") true))
    (place (codes "second") false)) (option_or (codes "fabric") (codes "base"))) (flag (codes "narrow"))) (option_or (codes "samples") (codes "1000"))) (flag (codes "json"))) (flag (codes "csv"))) (flag (codes "no-warnings"))) (option_or (codes "name") (codes "pipeline"))) (option (codes "signed"))) (option_or (codes "seed") (codes "1")))
    (option_or (codes "from") (codes "0"))) (option_or (codes "to") (codes "18446744073709551615"))

-- a number of 64 bits
abbrev pub long_in : Text → Option ℕ
long_in = number_in 0 18446744073709551615

-- the value that each name has, if any: those of the options, where all are lawful, also of those that the task has no use for
abbrev pub said_from : (Text → Option Text) → Option Said
said_from value =
    option_and_then (λ b. option_and_then (λ n. option_and_then (λ m. option_and_then (λ k. option_and_then (λ a. option_map (λ z. record {
      fabric = b;
      narrowed = is_true (value (codes "narrow"));
      samples = n;
      json = is_true (value (codes "json"));
      warnings = not (is_true (value (codes "no-warnings")));
      name = m;
      manner = record { form = form_of (is_true (value (codes "csv"))); signed = value (codes "signed") };
      seed = k;
      window = record { from = a; to = z };
    }) (option_and_then long_in (value (codes "to")))) (option_and_then long_in (value (codes "from")))) (option_and_then (number_in 0 4294967295) (value (codes "seed"))))
    (option_and_then module_named (value (codes "name")))) (option_and_then (number_in 0 4294967295) (value (codes "samples")))) (option_and_then fabric_named (value (codes "fabric")))

-- the task with its file
abbrev pub asked_from : (Text → Option Text) → Option Asked
asked_from value =
    option_and_then (λ said. option_and_then (λ t. option_map (λ file. record {
      target = record { file = file; fabric = said.fabric; narrowed = said.narrowed };
      task = t;
    }) (value (codes "file"))) (option_and_then (λ name. task_of name (value (codes "second")) said) (value (codes "task")))) (said_from value)

abbrev pub said_of : Found → Option Said
said_of f = said_from (first_value f)

abbrev pub asked_of : Found → Option Asked
asked_of f = asked_from (first_value f)

abbrev pub asked_rows : List Row → Option Asked
asked_rows rows = asked_from (λ name. first_of name rows)

-- unless the command line has a fault with the words
abbrev pub asked_without : Kinds → Option Asked → Option Asked
asked_without [] asked = asked
asked_without (kind ∷ kinds) asked = None

-- all words, the program's name first
unfoldable pub asked_words : List Text → Option Asked
asked_words words = asked_without (fault_of app words) (asked_rows (matches_of app words))

abbrev pub asked_by : List (String Global) → Option Asked
asked_by words = asked_words (map string_bytes words)

-- ---- what may be wrong with the words; that they ask for the help counts as a fault, and the first one decides
unfoldable pub faults_in : List (String Global) → Kinds
faults_in words = fault_of app (map string_bytes words)

-- they may ask for the help
abbrev pub MayAskForHelp : List (String Global) → Type 0
MayAskForHelp words = IsAmong DisplayHelp (faults_in words)

-- they do
abbrev pub AskForHelp : List (String Global) → Type 0
AskForHelp words = faults_in words ≡ DisplayHelp ∷ []
