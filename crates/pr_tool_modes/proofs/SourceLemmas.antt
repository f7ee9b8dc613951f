-- What comes of the file of a source, and the verdict on it.
use Rattle.std.proofs.Common.{◌≡◌, ◌⊎◌, ◌≤◌, ◌∙◌, ℕ, Bool, List, length, Option, Some, refl, sym, ap, subst, inl, inr}
use Rattle.pr_base.specs.Fabrics.{columns, registers}
use Rattle.pr_base.specs.declared.caps.Cap.{Cap}
use Rattle.pr_code.specs.Marks.{count_read, shape_marked}
use Rattle.pr_conf.specs.Shape.{Shape}
use Rattle.pr_compile.specs.Configured.{IsCompiled}
use Rattle.pr_edge.specs.Files.{Told, HasReadCause}
use Rattle.pr_tool_answers.specs.declared.answers.Answer.{Answer}
use Rattle.pr_tool_answers.specs.Owed.{IsOwed}
use Rattle.pr_tool_modes.specs.declared.targets.Target.{Target}
use Rattle.pr_tool_modes.specs.Files.{IsText, IsFileRefusal}
use Rattle.pr_tool_modes.specs.Configurations.{IsBadConfiguration, broken_in, columns_of, configuration_in}
use Rattle.pr_tool_modes.specs.Checkpoints.{IsBadMark, file_in, broken_mark}
use Rattle.pr_tool_modes.specs.Programs.{HasCompiled, IsUncompiled}
use Rattle.pr_tool_modes.specs.Sources.{ConfSource, File, Text, Mark, name_in, IsOnFabric, Gives, IsSourceRefusal, IsRefusedSource}
use Rattle.pr_tool_modes.proofs.CompileLaws.{one_compiled}
use Rattle.pr_tool_modes.proofs.ReasonLemmas.{IsKind, word_refuses, one_word, never_word, compile_refuses, one_uncompiled, never_uncompiled}
use Rattle.pr_tool_modes.proofs.FileLemmas.{refusal_owed, one_refused, never_refused, refusal_kind}

-- ---- from the parts of a read
-- a text that was read is refused, or memory was wanting
pub text_refusal : (limit : ℕ) (cap : Cap) (reasons : List ℕ → Answer → Type 0) (told : Told) (name text : List ℕ) (before now : ℕ) (a : Answer) → IsText told name text → length text ≤ limit → reasons text a ⊎ (a ≡ Answer.Memory)
    → IsFileRefusal limit cap reasons told name before now a
text_refusal limit cap reasons told name text before now a file short (inl is) = inr (record { text = text; file = file; short = short; refused = is })
text_refusal limit cap reasons told name text before now a file short (inr memory) = inl (inr (inr memory))

-- a text that was read is compiled, for the fabric of a target
pub has_compiled : (told : Told) (name text : List ℕ) (N P : ℕ) (narrowed : Bool) (conf : Shape) → IsText told name text → length text ≤ 1048576 → IsCompiled N P narrowed text conf → HasCompiled told name N P narrowed conf
has_compiled told name text N P narrowed conf file short is = record { text = text; file = file; short = short; is = is }

pub on_fabric : (told : Told) (name : List ℕ) (target : Target) (N P : ℕ) (conf : Shape) → N ≡ columns target.fabric → P ≡ registers target.fabric → HasCompiled told name N P target.narrowed conf
    → IsOnFabric told name target N P conf
on_fabric told name target N P conf columns_are registers_are has = record { columns_are = columns_are; registers_are = registers_are; has = has }

-- ---- the verdict
pub source_owed : (files : List ℕ → Option (List ℕ)) (source : ConfSource) (sb sn ob on : ℕ) (a : Answer) → IsSourceRefusal (Some files) source sb sn a → IsOwed (IsRefusedSource files source) sb sn ob on a
source_owed files (File name) sb sn ob on a is = refusal_owed 16777216 Cap.ConfigBytes IsBadConfiguration files name sb sn ob on a is
source_owed files (Mark name count) sb sn ob on a is = refusal_owed 16777216 Cap.ConfigBytes IsBadMark files name sb sn ob on a is
source_owed files (Text name target) sb sn ob on a is = refusal_owed 1048576 Cap.ProgramBytes (IsUncompiled (columns target.fabric) (registers target.fabric) target.narrowed) files name sb sn ob on a is

pub one_source : (files : List ℕ → Option (List ℕ)) (source : ConfSource) (a b : Answer) → IsRefusedSource files source a → IsRefusedSource files source b → a ≡ b
one_source files (File name) a b is by = one_refused 16777216 Cap.ConfigBytes IsBadConfiguration files name (λ bytes p q x y. one_word (broken_in bytes) p q x y) a b is by
one_source files (Mark name count) a b is by = one_refused 16777216 Cap.ConfigBytes IsBadMark files name (λ bytes p q x y. one_word (broken_mark bytes) p q x y) a b is by
one_source files (Text name target) a b is by =
    one_refused 1048576 Cap.ProgramBytes (IsUncompiled (columns target.fabric) (registers target.fabric) target.narrowed) files name (one_uncompiled (columns target.fabric) (registers target.fabric) target.narrowed) a b is by

-- a compiled program, by its target
pub of_fabric : (told : Told) (name : List ℕ) (target : Target) (N P : ℕ) (conf : Shape) → IsOnFabric told name target N P conf → HasCompiled told name (columns target.fabric) (registers target.fabric) target.narrowed conf
of_fabric told name target N P conf is =
    subst (λ (n : ℕ). HasCompiled told name n (registers target.fabric) target.narrowed conf) is.columns_are (subst (λ (p : ℕ). HasCompiled told name N p target.narrowed conf) is.registers_are is.has)

pub never_source : (files : List ℕ → Option (List ℕ)) (source : ConfSource) (a : Answer) (N P : ℕ) (conf : Shape) → Gives (Some files) source N P conf → IsRefusedSource files source a → ⊥
never_source files (File name) a N P conf gives is =
    never_refused 16777216 Cap.ConfigBytes IsBadConfiguration files name a gives.bytes is gives.file gives.short (never_word (broken_in gives.bytes) a gives.loadable.good)
never_source files (Mark name count) a N P conf gives is =
    never_refused 16777216 Cap.ConfigBytes IsBadMark files name a gives.bytes is gives.file gives.short (never_word (broken_mark gives.bytes) a gives.resumable.good)
never_source files (Text name target) a N P conf gives is =
    let has = of_fabric (Some files) name target N P conf gives in
    never_refused 1048576 Cap.ProgramBytes (IsUncompiled (columns target.fabric) (registers target.fabric) target.narrowed) files name a has.text is has.file has.short (never_uncompiled (columns target.fabric) (registers target.fabric) target.narrowed has.text a conf has.is)

-- a source gives one configuration at most
pub one_conf : (files : List ℕ → Option (List ℕ)) (source : ConfSource) (N P M Q : ℕ) (c d : Shape) → Gives (Some files) source N P c → Gives (Some files) source M Q d → c ≡ d
one_conf files (File name) N P M Q c d is by =
    let same : is.bytes ≡ by.bytes = (let both : Some is.bytes ≡ Some by.bytes = sym is.file ∙ by.file in cc) in
    is.loadable.read ∙ (ap configuration_in same ∙ sym by.loadable.read)
one_conf files (Mark name count) N P M Q c d is by =
    let same : is.bytes ≡ by.bytes = (let both : Some is.bytes ≡ Some by.bytes = sym is.file ∙ by.file in cc) in
    is.resumable.read ∙ (ap (λ (bytes : List ℕ). shape_marked (columns_of (file_in bytes)) bytes) same ∙ sym by.resumable.read)
one_conf files (Text name target) N P M Q c d is by =
    let one = of_fabric (Some files) name target N P c is in
    let other = of_fabric (Some files) name target M Q d by in
    let same : other.text ≡ one.text = (let both : Some other.text ≡ Some one.text = sym other.file ∙ one.file in cc) in
    one_compiled (columns target.fabric) (registers target.fabric) target.narrowed one.text c d one.is (subst (λ (t : List ℕ). IsCompiled (columns target.fabric) (registers target.fabric) target.narrowed t d) same other.is)

-- ---- what a refusal answers
pub source_kind : (told : Told) (source : ConfSource) (before now : ℕ) (a : Answer) → IsSourceRefusal told source before now a → IsKind (HasReadCause told (name_in source) before now) a
source_kind told (File name) before now a is = refusal_kind 16777216 Cap.ConfigBytes IsBadConfiguration told name before now a refl (λ bytes h. word_refuses (broken_in bytes) a h) is
source_kind told (Mark name count) before now a is = refusal_kind 16777216 Cap.ConfigBytes IsBadMark told name before now a refl (λ bytes h. word_refuses (broken_mark bytes) a h) is
source_kind told (Text name target) before now a is =
    refusal_kind 1048576 Cap.ProgramBytes (IsUncompiled (columns target.fabric) (registers target.fabric) target.narrowed) told name before now a refl (λ text h. compile_refuses (columns target.fabric) (registers target.fabric) target.narrowed text a h) is

-- ---- checkpoints
-- a checkpoint has one count
pub one_count : (files : List ℕ → Option (List ℕ)) (name : List ℕ) (m n N P M Q : ℕ) (c d : Shape) → Gives (Some files) (Mark name m) N P c → Gives (Some files) (Mark name n) M Q d → m ≡ n
one_count files name m n N P M Q c d is by =
    let same : is.bytes ≡ by.bytes = (let both : Some is.bytes ≡ Some by.bytes = sym is.file ∙ by.file in cc) in
    is.resumable.counted ∙ (ap count_read same ∙ sym by.resumable.counted)
