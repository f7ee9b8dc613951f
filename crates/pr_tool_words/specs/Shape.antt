-- The command line as the parser of the words is told it.
use Rattle.std.specs.Prelude.{ℕ, Bool, List, [], ◌∷◌, Some, codes, true, false}
use Rattle.clap.specs.Words.{App, Rule, new_app, new_rule, with_rule}
use Rattle.clap.specs.declared.builder.action.ArgAction.TheVariants.{SetTrue}

abbrev pub place : List ℕ → Bool → Rule
place name required = record (new_rule name) { required = required }

abbrev pub option : List ℕ → Rule
option name = record (new_rule name) { long = Some name }

abbrev pub option_or : List ℕ → List ℕ → Rule
option_or name usual = record (option name) { defaults = usual ∷ [] }

abbrev pub flag : List ℕ → Rule
flag name = record (option name) { action = Some SetTrue }

abbrev pub with_places : App → App
with_places app = with_rule (with_rule (with_rule app (place (codes "mode") true)) (place (codes "first") false)) (place (codes "second") false)

abbrev pub with_options : App → App
with_options app =
    with_rule (with_rule (with_rule (with_rule app (option_or (codes "stripes") (codes "16"))) (option (codes "stall"))) (option_or (codes "fabric") (codes "base"))) (flag (codes "narrow"))

-- piperench MODE [FIRST] [SECOND] [--stripes P] [--stall FILE] [--fabric F] [--narrow]
unfoldable pub app : App
app = with_options (with_places (new_app (codes "piperench")))
