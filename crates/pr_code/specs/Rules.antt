-- The rules that the words of a file keep, one for each word and in their order, and the first word that breaks its rule.
use Rattle.std.specs.Prelude.{ℕ, zero, suc, ◌+◌, ◌-◌, ◌*◌, ◌/◌, ◌%◌, ◌^◌, ◌==◌, ◌&&◌, ◌||◌, Bool, true, false, not, nat_lt, nat_le, List, [], ◌∷◌, ◌++◌, length, drop, replicate, slice_index, Option, None, Some, if◌then◌else◌}
use Rattle.pr_base.specs.Numbers.{slices_of}
use Rattle.pr_conf.specs.declared.stages.Site.{Site}
use Rattle.pr_conf.specs.Shape.{Shape}
use Rattle.pr_conf.specs.Rules.{is_lawful_source, is_lawful_tap, bytes_in, site_of}
use Rattle.pr_code.specs.declared.formats.Format.{Format}
use Rattle.pr_code.specs.Spelling.{format_1, format_2, source_word, tap_word}
use Rattle.pr_code.specs.Reading.{words_of_bytes, source_of, tap_of, c_kind, stage_flags, before_pes, column_length, stage_length, output_length, inputs_part, inputs_of, outputs_part, stages_part, shape_in}

-- the number of a rule, and the place of the word that breaks it
pub record Broken : Type 0 where
  pub rule : ℕ
  pub place : ℕ

-- the number of the rule that a word breaks, if it breaks one
abbrev pub Rule : Type 0
Rule = ℕ → Option ℕ

abbrev pub demand : ℕ → Bool → Option ℕ
demand rule true = None
demand rule false = Some rule

abbrev pub broken_at : ℕ → Option ℕ → Option Broken → Option Broken
broken_at place None later = later
broken_at place (Some rule) later = Some (record { rule = rule; place = place })

-- the first word that breaks its rule, where the first of them has this place; rule 1 where there is no such word
abbrev pub first_broken : List Rule → ℕ → List ℕ → Option Broken
first_broken [] place words = None
first_broken (rule ∷ rules) place [] = Some (record { rule = 1; place = place })
first_broken (rule ∷ rules) place (w ∷ words) = broken_at place (rule w) (first_broken rules (place + 1) words)

-- ---- rules 2, 3 and 4: the head

abbrev pub is_count : ℕ → ℕ → Bool
is_count most n = nat_lt 0 n && nat_le n most

abbrev pub count_rule : ℕ → Rule
count_rule most w = demand 4 (is_count most w)

abbrev pub head_rules : Format → ℕ → ℕ → List Rule
head_rules f N P =
    (λ w. demand 2 (w == f.mark))
    ∷ (λ w. demand 3 (w == N * 0x10000 + P))
    ∷ count_rule 32768
    ∷ []

-- ---- rule 4: the inputs, whose bytes are no more than the columns

-- the widths, where those before them have so many bytes
abbrev pub width_rules : ℕ → ℕ → ℕ → ℕ → List ℕ → List Rule
width_rules widest N zero used words = []
width_rules widest N (suc count) used words =
    (λ w. demand 4 (is_count widest w && nat_le (used + slices_of w) N))
    ∷ width_rules widest N count (used + slices_of (slice_index words 0)) (drop 1 words)

abbrev pub input_rules : Format → ℕ → List ℕ → List Rule
input_rules f N words = count_rule N ∷ width_rules f.widest N (slice_index words 0) 0 (drop 1 words)

-- ---- rules 4 and 5: the outputs

-- the word is that of a tap that the fabric has
abbrev pub is_tap : ℕ → ℕ → ℕ → Bool
is_tap N P w = (tap_word (tap_of w) == w) && is_lawful_tap N P (tap_of w)

abbrev pub tap_rule : ℕ → ℕ → Rule
tap_rule N P w = demand 5 (is_tap N P w)

abbrev pub output_rules : ℕ → ℕ → ℕ → List ℕ → List Rule
output_rules widest N P words = count_rule widest ∷ replicate (slices_of (slice_index words 0)) (tap_rule N P)

abbrev pub outputs_rules : ℕ → ℕ → ℕ → ℕ → List ℕ → List Rule
outputs_rules widest N P zero words = []
outputs_rules widest N P (suc count) words =
    output_rules widest N P words ++ outputs_rules widest N P count (drop (output_length words) words)

abbrev pub all_output_rules : Format → ℕ → ℕ → List ℕ → List Rule
all_output_rules f N P words = count_rule 64 ∷ outputs_rules f.widest N P (slice_index words 0) (drop 1 words)

-- ---- rules 6 and 8: the stages

-- the half of a word is that of a source that is allowed at the site
abbrev pub is_source : Site → ℕ → Bool
is_source site half = (source_word (source_of half) == half) && is_lawful_source site (source_of half)

-- both halves are
abbrev pub are_sources : Site → ℕ → Bool
are_sources site w = is_source site (w / 0x10000) && is_source site (w % 0x10000)

-- C: none or the carry-in, with nothing in the fields of its bit, or a bit from 0 to 7
abbrev pub is_choice_of_c : ℕ → ℕ → Bool
is_choice_of_c second w =
    if c_kind w == 1
    then nat_lt (w % 16) 8
    else ((c_kind w == 0 || c_kind w == 2) && (w % 16 == 0) && (second % 0x10000 == 0))

-- the carry-in: no column is below column 0, and C serves only where it is a bit
abbrev pub is_carry : Site → ℕ → ℕ → Bool
is_carry site third cin = nat_lt cin 2 || (cin == 2 && nat_lt 0 site.col) || (cin == 3 && c_kind third == 1)

abbrev pub are_choices : Site → ℕ → ℕ → Bool
are_choices site third w =
    nat_lt (w / 0x10000) site.registers
    && nat_lt (w / 0x1000 % 16) 3
    && is_carry site third (w / 0x100 % 16)
    && nat_lt (w / 16 % 16) 3
    && nat_lt (w % 16) 8

abbrev pub sources_rule : Site → Rule
sources_rule site w = demand 6 (are_sources site w)

abbrev pub choice_rule : ℕ → Rule
choice_rule second w = demand 6 (is_choice_of_c second w)

-- a stage with a map has no words of a processing element whose words are all 0
abbrev pub is_needless : Bool → ℕ → ℕ → ℕ → ℕ → Bool
is_needless packed first second third fourth = packed && (first == 0) && (second == 0) && (third == 0) && (fourth == 0)

abbrev pub last_rule : Bool → Site → ℕ → ℕ → ℕ → Rule
last_rule packed site first second third w =
    if are_choices site third w then demand 8 (not (is_needless packed first second third w)) else Some 6

-- a processing element at a site
abbrev pub pe_rules : Bool → Site → List ℕ → List Rule
pe_rules packed site words =
    sources_rule site
    ∷ sources_rule site
    ∷ choice_rule (slice_index words 1)
    ∷ last_rule packed site (slice_index words 0) (slice_index words 1) (slice_index words 2)
    ∷ []

-- the processing element of a column, where its words stand in the file
abbrev pub column_rules : Bool → Site → Bool → List ℕ → List Rule
column_rules packed site stands words = if stands then pe_rules packed site words else []

-- the columns from the site's on
abbrev pub pes_rules : Bool → Site → List Bool → List ℕ → List Rule
pes_rules packed site [] words = []
pes_rules packed site (flag ∷ flags) words =
    column_rules packed site flag words ++ pes_rules packed (record site { col = site.col + 1 }) flags (drop (column_length flag) words)

-- a map has no bit of a column from N on
abbrev pub map_rules : ℕ → List Rule
map_rules N =
    if nat_le N 32
    then (λ w. demand 8 (nat_lt w (2 ^ N))) ∷ []
    else (λ w. None) ∷ (λ w. demand 8 (nat_lt w (2 ^ (N - 32)))) ∷ []

abbrev pub before_rules : Bool → ℕ → List Rule
before_rules packed N = if packed then map_rules N else []

abbrev pub stage_rules : Bool → ℕ → Site → List ℕ → List Rule
stage_rules packed N site words = before_rules packed N ++ pes_rules packed site (stage_flags packed N words) (drop (before_pes packed N) words)

-- so many stages, the first of them with this number
abbrev pub stages_rules : Bool → ℕ → ℕ → ℕ → ℕ → ℕ → List ℕ → List Rule
stages_rules packed N P bus stage zero words = []
stages_rules packed N P bus stage (suc count) words =
    stage_rules packed N (site_of N P bus stage) words ++ stages_rules packed N P bus (stage + 1) count (drop (stage_length packed N words) words)

-- ---- a file

abbrev pub rules_in : Format → ℕ → ℕ → List ℕ → List Rule
rules_in f N P words =
    head_rules f N P
    ++ (input_rules f N (inputs_part words)
    ++ (all_output_rules f N P (outputs_part words)
    ++ stages_rules f.packed N P (bytes_in (inputs_of words)) 0 (slice_index words 2) (stages_part words)))

abbrev pub or_else : Option Broken → Option Broken → Option Broken
or_else None later = later
or_else (Some broken) later = Some broken

-- rule 7: no byte follows the last word of so many
abbrev pub broken_end : ℕ → List ℕ → Option Broken
broken_end count bytes = if length bytes == 4 * count then None else Some (record { rule = 7; place = count })

-- the first word that breaks a rule, of a file whose words from a place on are a configuration's
abbrev pub bad_from : Format → ℕ → ℕ → ℕ → List ℕ → Option Broken
bad_from f N P place bytes =
    let words = drop place (words_of_bytes bytes) in
    let rules = rules_in f N P words in
    or_else (first_broken rules place words) (broken_end (place + length rules) bytes)

-- the format that a file is read by
abbrev pub format_of : List ℕ → Format
format_of bytes = if slice_index (words_of_bytes bytes) 0 == format_1.mark then format_1 else format_2

unfoldable pub bad_word : ℕ → ℕ → List ℕ → Option Broken
bad_word N P bytes = bad_from (format_of bytes) N P 0 bytes

-- the configuration that a file reads as in its format, for so many columns
unfoldable pub shape_read : ℕ → List ℕ → Shape
shape_read N bytes = shape_in (format_of bytes).packed N (words_of_bytes bytes)
