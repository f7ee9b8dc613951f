-- What is told of a broken rule of scope.
use Rattle.std.specs.Prelude.{ℕ, ◌+◌, ◌-◌, ◌==◌, ◌&&◌, Bool, true, false, List, [], ◌++◌, Option, None, Some, codes, decimal, is_some, nat_le, if◌then◌else◌}
use Rattle.std.specs.List.{list_any}
use Rattle.pr_lang.specs.declared.tokens.Kind.{Kind}
use Rattle.pr_lang.specs.declared.tokens.Kind.TheVariants.{Mark}
use Rattle.pr_lang.specs.declared.tokens.Symbol.TheVariants.{OpenCurly, At, ShiftLeft, ShiftRight}
use Rattle.pr_lang.specs.declared.tokens.Token.{Token}
use Rattle.pr_scope_names.specs.declared.rules.Rule.{Rule}
use Rattle.pr_scope_names.specs.declared.rules.Rule.TheVariants as rule
use Rattle.pr_scope_names.specs.Outcomes.{number_of}
use Rattle.pr_lens_source.specs.declared.sources.Span.{Span}
use Rattle.pr_lens_source.specs.Kinds.{is_input, is_minus, is_name, is_open_round}
use Rattle.pr_lens_source.specs.Tokens.{kind_of}
use Rattle.pr_lens_names.specs.declared.names.Introduction.{Introduction}
use Rattle.pr_lens_names.specs.Brackets.{parts_in}
use Rattle.pr_lens_names.specs.Instances.{instance_text, last_number}
use Rattle.pr_lens_names.specs.Names.{introduced_text, introduction_of, introduction_text}
use Rattle.pr_lens_names.specs.Pieces.{token_text}
use Rattle.pr_lens_rules.specs.Uses.{again_text, another_kind_text, early_text}

-- the rule in words
unfoldable pub rule_text : Rule → List ℕ
rule_text rule.Introduced = codes "while a name is visible it has one kind, and each instance of it is introduced once"
rule_text rule.Assigned = codes "an instance of a stream is assigned before it is used; in the body of a `rec` its own instance stands only before `@`"
rule_text rule.Kinds = codes "a constant, table, index or function that is used is visible and has that kind; a table has an index behind it, the others have none; a constant expression uses no stream; a visible name before `@` is a stream"
rule_text rule.Calls = codes "a call gives as many arguments as the function has parameters, and functions call one another at most 32 deep"
rule_text rule.Steps = codes "each step of a constant expression is a number from 0 to 18446744073709551615"
rule_text rule.Divisors = codes "a constant expression divides by nothing that is 0"
rule_text rule.Entries = codes "the index of a table is below its length"
rule_text rule.Bounds = codes "a declared width is 1 to 128; in `a{h..l}` h is not below l; a delay is at most 256, and at least 1 on the own name of a `rec`; a constant shift is by at most 128"
rule_text rule.Recurrences = codes "the initial value of a `rec` fits its declared width, and its body calls no function that has `@` or `rec` in it or in what it calls"
rule_text rule.Ends = codes "there is at least one input and at least one output"

-- ---- calls
unfoldable pub deep_text : List ℕ
deep_text = codes "It leads through more than 32 functions: write the inner ones out, or use a loop.\n"

abbrev pub parameter_text : ℕ → List ℕ
parameter_text params = if params == 1 then codes " parameter" else codes " parameters"

unfoldable pub params_text : ℕ → ℕ → List ℕ
params_text params given = codes "It has " ++ decimal params ++ parameter_text params ++ codes ", and this call gives " ++ decimal given ++ codes ".\n"

-- how many parameters a function has, and how many arguments a call gives
unfoldable pub counts_text : ℕ → ℕ → List ℕ
counts_text params given = if params == given then deep_text else params_text params given

abbrev pub call_by : List ℕ → List Token → ℕ → ℕ → Option Introduction → List ℕ
call_by text tokens token given None = codes "`signed` is there from the beginning.\n" ++ counts_text 1 given
call_by text tokens token given (Some introduction) =
    introduction_text text tokens token introduction ++ counts_text (parts_in tokens (introduction.token + 1)) given

unfoldable pub call_text : List ℕ → List Token → List Span → ℕ → List ℕ
call_text text tokens spans token = call_by text tokens token (parts_in tokens (token + 1)) (introduction_of text tokens spans token)

-- ---- constants
abbrev pub below_text : Bool → List ℕ
below_text true = codes "Constants are never below 0: write a negative one modulo a power of two, as in `256 - 2`, which is -2 in 8 bits.\n"
below_text false = codes "Multiply or add in a stream of a greater width, or split the constant.\n"

unfoldable pub step_text : List ℕ → List Token → ℕ → List ℕ
step_text text tokens token =
    codes "The step at " ++ token_text text tokens token ++ codes " leaves the numbers of 64 bits.\n" ++ below_text (is_minus (kind_of tokens token))

unfoldable pub divisor_text : List ℕ
divisor_text = codes "The divisor is 0.\nIn a loop, see whether it is 0 in the first turn.\n"

-- ---- tables
-- how many entries a table has
unfoldable pub entries_text : ℕ → List ℕ
entries_text entries =
    if nat_le entries 1 then codes "It has one entry, with the index 0.\n" else codes "It has " ++ decimal entries ++ codes " entries, 0 to " ++ decimal (entries - 1) ++ codes ".\n"

abbrev pub table_text : List ℕ → List Token → ℕ → Option Introduction → List ℕ
table_text text tokens token None = []
table_text text tokens token (Some introduction) =
    introduction_text text tokens token introduction ++ entries_text (parts_in tokens (introduction.token + 2))

-- where the index is no number
abbrev pub last_turn_text : Bool → List ℕ
last_turn_text true = []
last_turn_text false = codes "See whether the loop ends one turn too late: `for i in 0..n` ends with n - 1.\n"

unfoldable pub entry_text : List ℕ → List Token → List Span → ℕ → List ℕ
entry_text text tokens spans token =
    instance_text text tokens token
    ++ codes " is none of the table's entries.\n"
    ++ table_text text tokens token (introduction_of text tokens spans token)
    ++ last_turn_text (is_some (last_number tokens (token + 2)))

-- ---- bounds
unfoldable pub bounds_text : Kind → List ℕ
bounds_text (Mark OpenCurly) = codes "The slice's first place is below its second one.\nThe high place comes first, as in `a{7..0}`.\n"
bounds_text (Mark At) = codes "The delay is longer than 256 samples, or it is 0 on the own name of a recurrence.\nFor longer delays assign the delayed stream to a name, and delay that.\n"
bounds_text (Mark ShiftLeft) = codes "The shift is by more than 128 bits.\n"
bounds_text (Mark ShiftRight) = codes "The shift is by more than 128 bits.\n"
bounds_text _ = codes "A width is at least 1 bit and at most 128 bits.\nA wider number is kept in two streams.\n"

-- ---- recurrences
-- a function is called at a token
abbrev pub is_call : List Token → ℕ → Bool
is_call tokens token = is_name (kind_of tokens token) && is_open_round (kind_of tokens (token + 1))

unfoldable pub past_text : List ℕ
past_text = codes "It has a past of its own, and is called in the body of a recurrence.\nCall it before, and assign what it gives to a name that the body uses.\n"

unfoldable pub initial_text : List ℕ
initial_text = codes "The initial value does not fit the declared width.\nDeclare a greater width, or take the value modulo 2 to its width.\n"

unfoldable pub recurrence_text : List ℕ → List Token → List Span → ℕ → List ℕ
recurrence_text text tokens spans token =
    if is_call tokens token then introduced_text text tokens token (introduction_of text tokens spans token) ++ past_text else initial_text

-- ---- inputs and outputs
-- the program has an input
unfoldable pub has_input : List Token → List Span → Bool
has_input tokens spans = list_any (λ (s : Span). is_input (kind_of tokens s.first)) spans

unfoldable pub ends_text : Bool → List ℕ
ends_text true = codes "The program has no output.\nSay what is to be written, as in `output y = x;`.\n"
ends_text false = codes "The program has no input.\nSay what is read, as in `input x:8;`: without samples there is nothing to count time by.\n"

-- ---- the whole
-- what is wrong at a token where this rule is broken, and what to do
unfoldable pub broken_text : List ℕ → List Token → List Span → Rule → ℕ → List ℕ
broken_text text tokens spans rule.Introduced token = again_text text tokens spans token
broken_text text tokens spans rule.Assigned token = early_text text tokens spans token
broken_text text tokens spans rule.Kinds token = another_kind_text text tokens spans token
broken_text text tokens spans rule.Calls token = call_text text tokens spans token
broken_text text tokens spans rule.Steps token = step_text text tokens token
broken_text text tokens spans rule.Divisors token = divisor_text
broken_text text tokens spans rule.Entries token = entry_text text tokens spans token
broken_text text tokens spans rule.Bounds token = bounds_text (kind_of tokens token)
broken_text text tokens spans rule.Recurrences token = recurrence_text text tokens spans token
broken_text text tokens spans rule.Ends token = ends_text (has_input tokens spans)

unfoldable pub number_text : Rule → List ℕ
number_text broken = codes "Rule " ++ decimal (number_of broken) ++ codes ": " ++ rule_text broken ++ codes ".\n"

-- with the rule in words behind it
unfoldable pub offence_text : List ℕ → List Token → List Span → Rule → ℕ → List ℕ
offence_text text tokens spans broken token = broken_text text tokens spans broken token ++ number_text broken
