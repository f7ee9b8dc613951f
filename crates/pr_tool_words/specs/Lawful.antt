-- What the words of a command line ask for.
use Rattle.std.specs.Prelude.{◌==◌, ◌&&◌, ◌||◌, ℕ, Bool, false, List, [], ◌∷◌, ◌++◌, drop, Option, Some, None, find, codes, decimal, nat_le, bytes_eq, unwrap_or, option_map, option_and_then, if◌then◌else◌}
use Rattle.std.specs.List.{list_any, before_first, after_first}
use Rattle.std.specs.Option.{option_map_or}
use Rattle.std.specs.Str.Parse.{digits_value}
use Rattle.pr_base.specs.declared.fabrics.Fabric.{Fabric}

abbrev pub Text : Type 0
Text = List ℕ

-- ---- what a word is

-- a plain word, `--`, `--NAME` or `--NAME=VALUE`, or another word that begins with a hyphen
pub data Kind : Type 0 where
  Plain : Kind
  Rest : Kind
  Long : (name : Text) (value : Option Text) → Kind
  Other : Kind

abbrev pub is_equals : ℕ → Bool
is_equals b = b == 61

abbrev pub value_after_equals : Text → Option Text
value_after_equals text = if list_any is_equals text then Some (after_first is_equals text) else None

-- the word `-`, a byte, and more bytes
abbrev pub kind_after_hyphen : ℕ → Text → Kind
kind_after_hyphen b [] = if b == 45 then Rest else Other
kind_after_hyphen b (x ∷ more) = if b == 45 then Long (before_first is_equals (x ∷ more)) (value_after_equals (x ∷ more)) else Other

abbrev pub kind_of : Text → Kind
kind_of [] = Plain
kind_of (a ∷ []) = Plain
kind_of (a ∷ b ∷ more) = if a == 45 then kind_after_hyphen b more else Plain

-- ---- which value each option and each place has

-- values, each with the name of its option or its place
abbrev pub Given : Type 0
Given = List (Text × Text)

abbrev pub places : List Text
places = codes "mode" ∷ codes "first" ∷ codes "second" ∷ []

-- the option has a value
abbrev pub has_value : Text → Bool
has_value name = bytes_eq name (codes "stripes") || (bytes_eq name (codes "stall") || bytes_eq name (codes "fabric"))

abbrev pub also : Text → Text → Option Given → Option Given
also name value = option_map (λ given. (name, value) ∷ given)

-- each word has its place
abbrev pub placed : List Text → List Text → Option Given
placed left [] = Some []
placed [] (word ∷ words) = None
placed (place ∷ left) (word ∷ words) = also place word (placed left words)

-- one word, where `next` reads the words after it by the places that are left and the option that waits for its value, and
-- `rest` takes them as plain
abbrev pub given_at : Kind → List Text → Option Text → Text → (List Text → Option Text → Option Given) → Option Given → Option Given
given_at Plain left (Some option) word next rest = also option word (next left None)
given_at Plain [] None word next rest = None
given_at Plain (place ∷ left) None word next rest = also place word (next left None)
given_at Rest left None word next rest = rest
given_at (Long name None) left None word next rest =
    if has_value name then next left (Some name)
    else if bytes_eq name (codes "narrow") then also (codes "narrow") (codes "true") (next left None) else None
given_at (Long name (Some value)) left None word next rest = if has_value name then also name value (next left None) else None
given_at _ left waiting word next rest = None

-- the words, by the places that are left and the option that waits for its value
abbrev pub given_by : List Text → Option Text → List Text → Option Given
given_by left None [] = Some []
given_by left (Some option) [] = None
given_by left waiting (word ∷ words) =
    given_at (kind_of word) left waiting word (λ l w. given_by l w words) (placed left words)

abbrev pub has_name : Given → Text → Bool
has_name given name = list_any (λ p. bytes_eq p.0 name) given

-- these after those that are known, where no name comes twice
abbrev pub gathered : Given → Given → Option Given
gathered known [] = Some known
gathered known (p ∷ more) = if has_name known p.0 then None else gathered (known ++ p ∷ []) more

abbrev pub value_of : Text → Given → Option Text
value_of name given = option_map (λ p. p.1) (find (λ p. bytes_eq p.0 name) given)

abbrev pub is_true : Option Text → Bool
is_true value = option_map_or (λ text. bytes_eq text (codes "true")) value false

-- what the words say
pub record Said : Type 0 where
  pub mode : Text
  pub first : Option Text
  pub second : Option Text
  pub stripes : Text
  pub stall : Option Text
  pub fabric : Text
  pub narrow : Bool

abbrev pub said_with : Given → Text → Said
said_with given mode = record {
  mode = mode;
  first = value_of (codes "first") given;
  second = value_of (codes "second") given;
  stripes = unwrap_or (value_of (codes "stripes") given) (codes "16");
  stall = value_of (codes "stall") given;
  fabric = unwrap_or (value_of (codes "fabric") given) (codes "base");
  narrow = is_true (value_of (codes "narrow") given);
}

-- a mode is there
abbrev pub said_of : Given → Option Said
said_of given = option_map (said_with given) (value_of (codes "mode") given)

-- all words, the program's name first
unfoldable pub said_by : List Text → Option Said
said_by words = option_and_then said_of (option_and_then (gathered []) (given_by places None (drop 1 words)))

-- ---- what they ask for

-- the number of which the text is the decimal digits
unfoldable pub number_in : ℕ → ℕ → Text → Option ℕ
number_in least greatest text =
    let n = digits_value 10 text in
    if bytes_eq (decimal n) text && (nat_le least n && nat_le n greatest) then Some n else None

pub data Task : Type 0 where
  Run : (program samples : Text) → Task
  Trace : (program samples : Text) → Task
  Compile : (program : Text) → Task
  Exec : (configuration samples : Text) → Task
  Eval : (program samples : Text) → Task
  Show : (configuration : Text) → Task
  Gen : (turns : ℕ) → Task
  Migrate : (configuration : Text) → Task
  Share : (list : Text) → Task
  Checkpoint : (program samples : Text) → Task
  Move : (checkpoint samples : Text) → Task
  Extend : (checkpoint samples : Text) → Task

abbrev pub one_file : Text → Text → Option Task
one_file mode file =
    if bytes_eq mode (codes "compile") then Some (Compile file)
    else if bytes_eq mode (codes "show") then Some (Show file)
    else if bytes_eq mode (codes "gen") then option_map Gen (number_in 1 1000 file)
    else if bytes_eq mode (codes "migrate") then Some (Migrate file)
    else if bytes_eq mode (codes "share") then Some (Share file)
    else None

abbrev pub two_files : Text → Text → Text → Option Task
two_files mode first samples =
    if bytes_eq mode (codes "run") then Some (Run first samples)
    else if bytes_eq mode (codes "trace") then Some (Trace first samples)
    else if bytes_eq mode (codes "exec") then Some (Exec first samples)
    else if bytes_eq mode (codes "eval") then Some (Eval first samples)
    else if bytes_eq mode (codes "checkpoint") then Some (Checkpoint first samples)
    else if bytes_eq mode (codes "move") then Some (Move first samples)
    else if bytes_eq mode (codes "extend") then Some (Extend first samples)
    else None

abbrev pub task_of : Text → Option Text → Option Text → Option Task
task_of mode (Some first) None = one_file mode first
task_of mode (Some first) (Some second) = two_files mode first second
task_of mode None second = None

abbrev pub fabric_named : Text → Option Fabric
fabric_named name =
    if bytes_eq name (codes "base") then Some Fabric.Base
    else if bytes_eq name (codes "wide") then Some Fabric.Wide
    else None

-- what a command line asks for
pub record Order : Type 0 where
  pub task : Task
  pub stripes : ℕ
  pub stall : Option Text
  pub fabric : Fabric
  pub narrow : Bool

abbrev pub order_with : Said → Task → ℕ → Fabric → Order
order_with said task stripes fabric = record { task = task; stripes = stripes; stall = said.stall; fabric = fabric; narrow = said.narrow }

-- the values of all options are lawful, also of those that the mode has no use for
unfoldable pub asked_of : Said → Option Order
asked_of said =
    option_and_then (λ task. option_and_then (λ stripes. option_map (order_with said task stripes) (fabric_named said.fabric))
    (number_in 2 256 said.stripes)) (task_of said.mode said.first said.second)

-- all words, the program's name first: what they ask for, where they are a lawful command line
unfoldable pub lawful_words : List Text → Option Order
lawful_words words = option_and_then asked_of (said_by words)
