-- A file is good for what it is read as, or it is refused; and so a source gives a configuration, or is refused.
use Rattle.std.proofs.Common.{◌≡◌, ◌⊎◌, ◌==◌, ◌≤◌, ℕ, Bool, true, false, if◌then◌else◌, Option, Some, None, List, length, slice_index, inl, inr, refl, arith}
use Rattle.std.proofs.lemmas.Bool.{cases_lt}
use Rattle.pr_base.specs.declared.caps.Cap.{Cap}
use Rattle.pr_base.specs.Fabrics.{columns, registers}
use Rattle.pr_lang.specs.declared.trees.Program.{Program}
use Rattle.pr_conf.specs.Shape.{Shape}
use Rattle.pr_code.specs.Spelling.{format_1, IsFile}
use Rattle.pr_code.specs.Fabrics.{names_wide}
use Rattle.pr_code.specs.Reading.{words_of_bytes}
use Rattle.pr_code.specs.Marks.{IsMark, bad_mark, count_read, shape_marked}
use Rattle.pr_code.specs.Rules.{format_of, bad_word, shape_read}
use Rattle.pr_code.proofs.FileLemmas.{AreBytes, file_sound, file_of, widest_of}
use Rattle.pr_code.proofs.MarkLemmas.{mark_sound}
use Rattle.pr_compile_front.specs.Refusals.{HasWidths}
use Rattle.pr_compile.specs.Configured.{IsCompiled}
use Rattle.pr_compile_verdicts.proofs.Cases.{cases_option}
use Rattle.pr_compile_verdicts.proofs.Fronts.{some_widths_of}
use Rattle.pr_compile_verdicts.proofs.Texts.{some_text_configuration}
use Rattle.pr_tool_answers.specs.declared.answers.Answer.{Answer}
use Rattle.pr_tool_modes.specs.declared.targets.Target.{Target}
use Rattle.pr_tool_modes.specs.Checkpoints.{IsBadMark, IsResumable, file_in, broken_mark}
use Rattle.pr_tool_modes.specs.Configurations.{IsBadConfiguration, IsLoadable, broken_in, broken_answer, columns_of, registers_of, configuration_in}
use Rattle.pr_tool_modes.specs.Files.{IsRefusedFile}
use Rattle.pr_tool_modes.specs.Programs.{IsBadProgram, IsUncompiled, HasProgram, front_answer, compile_answer}
use Rattle.pr_tool_modes.specs.Sources.{ConfSource, File, Text, IsOnFabric, IsGood, IsRefusedSource}
use Rattle.pr_tool_laws.specs.Bytes.{HaveBytes}

abbrev pub Files : Type 0
Files = List ℕ → Option (List ℕ)

-- ---- one file
-- the file of this name has a text that is good
pub record HasGood (limit : ℕ) (Good : List ℕ → Type 0) (files : Files) (name : List ℕ) : Type 0 where
  pub text : List ℕ
  pub file : files name ≡ Some text
  pub short : length text ≤ limit
  pub good : Good text

abbrev pub GoodOr : (List ℕ → Type 0) → (List ℕ → Answer → Type 0) → List ℕ → Type 0
GoodOr Good reasons text = Good text ⊎ ((a : Answer) × reasons text a)

module _ (limit : ℕ) (cap : Cap) (Good : List ℕ → Type 0) (reasons : List ℕ → Answer → Type 0) (files : Files) (name : List ℕ) where
  there_verdict : (text : List ℕ) → files name ≡ Some text → (length text ≤ limit → GoodOr Good reasons text) → HasGood limit Good files name ⊎ ((a : Answer) × IsRefusedFile limit cap reasons files name a)
  there_verdict text file reads = elim (cases_lt limit (length text)) [
    | inl long ↦ inr (Answer.Limit cap, inr (inl (refl, record { text = text; file = file; long = long })))
    | inr short ↦ elim (reads short) [
      | inl good ↦ inl (record { text = text; file = file; short = short; good = good })
      | inr refused ↦ inr (refused.0, inr (inr (record { text = text; file = file; short = short; refused = refused.1 })))
    ]
  ]

  pub file_verdict : ((text : List ℕ) → files name ≡ Some text → length text ≤ limit → GoodOr Good reasons text) → HasGood limit Good files name ⊎ ((a : Answer) × IsRefusedFile limit cap reasons files name a)
  file_verdict reads = by_text (files name) refl where
    by_text : (o : Option (List ℕ)) → files name ≡ o → HasGood limit Good files name ⊎ ((a : Answer) × IsRefusedFile limit cap reasons files name a)
    by_text None is = inr (Answer.ReadFault, inl (refl, is))
    by_text (Some text) is = there_verdict text is (reads text is)

-- ---- configuration files and checkpoints
record Bounds (N P : ℕ) : Type 0 where
  n1 : 1 ≤ N
  n64 : N ≤ 64
  p2 : 2 ≤ P
  p16 : P ≤ 16

bounds : (b : Bool) → Bounds (if b then 32 else 16) (if b then 16 else 8)
bounds true = record { n1 = omega arith; n64 = omega arith; p2 = omega arith; p16 = omega arith }
bounds false = record { n1 = omega arith; n64 = omega arith; p2 = omega arith; p16 = omega arith }

file_read : (N P : ℕ) (bytes : List ℕ) → Bounds N P → AreBytes bytes → bad_word N P bytes ≡ None → IsFile N P (shape_read N bytes) bytes
unfolding bad_word shape_read
file_read N P bytes b fits none =
    let first = slice_index (words_of_bytes bytes) 0 == format_1.mark in
    file_of first N P (shape_read N bytes) bytes (file_sound (format_of bytes) N P bytes b.n1 b.n64 b.p2 b.p16 (widest_of first) fits none).file

loadable_or : (bytes : List ℕ) → AreBytes bytes → GoodOr (λ text. IsLoadable (columns_of text) (registers_of text) (configuration_in text) text) IsBadConfiguration bytes
loadable_or bytes fits = elim (cases_option (broken_in bytes)) [
  | inl none ↦ inl (record { columns = refl; registers = refl; good = none; read = refl; is = file_read (columns_of bytes) (registers_of bytes) bytes (bounds (names_wide bytes)) fits none })
  | inr broken ↦ inr (broken_answer broken.0, record { word = broken.0; first = broken.1; answers = refl })
]

mark_read : (N P : ℕ) (bytes : List ℕ) → Bounds N P → AreBytes bytes → bad_mark N P bytes ≡ None → IsMark N P (count_read bytes) (shape_marked N bytes) bytes
unfolding shape_marked
mark_read N P bytes b fits none = mark_sound N P bytes b.n1 b.n64 b.p2 b.p16 fits none

abbrev pub IsMarkOf : List ℕ → Type 0
IsMarkOf bytes = IsResumable (columns_of (file_in bytes)) (registers_of (file_in bytes)) (count_read bytes) (shape_marked (columns_of (file_in bytes)) bytes) bytes

pub resumable_or : (bytes : List ℕ) → AreBytes bytes → GoodOr IsMarkOf IsBadMark bytes
resumable_or bytes fits = elim (cases_option (broken_mark bytes)) [
  | inl none ↦ inl (record { columns = refl; registers = refl; good = none; counted = refl; read = refl; is = mark_read (columns_of (file_in bytes)) (registers_of (file_in bytes)) bytes (bounds (names_wide (file_in bytes))) fits none })
  | inr broken ↦ inr (broken_answer broken.0, record { word = broken.0; first = broken.1; answers = refl })
]

-- ---- sources
abbrev pub GoodSource : Files → ConfSource → Type 0
GoodSource files source = IsGood (Some files) source ⊎ ((a : Answer) × IsRefusedSource files source a)

pub file_source : (files : Files) → HaveBytes files → (name : List ℕ) → GoodSource files (File name)
file_source files bytes name = elim (file_verdict 16777216 Cap.ConfigBytes (λ text. IsLoadable (columns_of text) (registers_of text) (configuration_in text) text) IsBadConfiguration files name (λ text is short. loadable_or text (bytes name text is))) [
  | inl good ↦ inl (record { N = columns_of good.text; P = registers_of good.text; conf = configuration_in good.text; gives = record { bytes = good.text; file = good.file; short = good.short; loadable = good.good } })
  | inr refused ↦ inr refused
]

abbrev pub OnFabric : Files → List ℕ → Target → Shape → Type 0
OnFabric files name target conf = IsOnFabric (Some files) name target (columns target.fabric) (registers target.fabric) conf

-- the program of a file, on the fabric of the target
pub text_source : (files : Files) (name : List ℕ) (target : Target) → ((conf : Shape) × OnFabric files name target conf) ⊎ ((a : Answer) × IsRefusedSource files (Text name target) a)
text_source files name target =
    let N = columns target.fabric in
    let P = registers target.fabric in
    elim (file_verdict 1048576 Cap.ProgramBytes (λ text. (conf : Shape) × IsCompiled N P target.narrowed text conf) (IsUncompiled N P target.narrowed) files name (λ text is short. uncompiled_or N P text short)) [
      | inl good ↦ inl (good.good.0, record { columns_are = refl; registers_are = refl; has = record { text = good.text; file = good.file; short = good.short; is = good.good.1 } })
      | inr refused ↦ inr refused
    ] where
      uncompiled_or : (N P : ℕ) (text : List ℕ) → length text ≤ 1048576 → GoodOr (λ t. (conf : Shape) × IsCompiled N P target.narrowed t conf) (IsUncompiled N P target.narrowed) text
      uncompiled_or N P text short = elim (some_text_configuration N P target.narrowed text short) [
        | inl conf ↦ inl conf
        | inr refused ↦ inr (compile_answer refused.0, record { fault = refused.0; refused = refused.1; answers = refl })
      ]

pub text_good : (files : Files) (name : List ℕ) (target : Target) → GoodSource files (Text name target)
text_good files name target = elim (text_source files name target) [
  | inl conf ↦ inl (record { N = columns target.fabric; P = registers target.fabric; conf = conf.0; gives = conf.1 })
  | inr refused ↦ inr refused
]

-- the program of a file, up to its widths
pub record FoundProgram (files : Files) (name : List ℕ) : Type 0 where
  pub program : Program
  pub widths : List ℕ
  pub has : HasProgram (Some files) name program widths

abbrev pub HasSomeWidths : List ℕ → Type 0
HasSomeWidths text = (program : Program) × (widths : List ℕ) × HasWidths text program widths

bad_or : (text : List ℕ) → length text ≤ 1048576 → GoodOr HasSomeWidths IsBadProgram text
bad_or text short = elim (some_widths_of text short) [
  | inl has ↦ inl has
  | inr refused ↦ inr (front_answer refused.0, record { fault = refused.0; refused = refused.1; answers = refl })
]

pub program_verdict : (files : Files) (name : List ℕ) → FoundProgram files name ⊎ ((a : Answer) × IsRefusedFile 1048576 Cap.ProgramBytes IsBadProgram files name a)
program_verdict files name = elim (file_verdict 1048576 Cap.ProgramBytes HasSomeWidths IsBadProgram files name (λ text is short. bad_or text short)) [
  | inl good ↦ inl (record { program = good.good.0; widths = good.good.1; has = record { text = good.text; file = good.file; short = good.short; has = good.good.2 } })
  | inr refused ↦ inr refused
]
