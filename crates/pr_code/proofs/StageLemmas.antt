-- Stages that are read, column by column.
use Rattle.std.proofs.Common.{◌≡◌, ℕ, zero, suc, ◌+◌, ◌-◌, ◌*◌, ◌/◌, ◌%◌, ◌^◌, ◌≤◌, ◌==◌, Bool, true, false, List, [], ◌∷◌, length, drop, replicate, slice_index, refl, sym, ap, ◌∙◌, arith, Option, None, Some, Result, Err, nat_le}
use Rattle.std.proofs.lemmas.List.{drop-drop, length-append}
use Rattle.std.proofs.Math.Nat.{one-le-pow}
use Rattle.pr_conf.specs.declared.stages.Site.{Site}
use Rattle.pr_conf.specs.declared.pes.Pe.{Pe}
use Rattle.pr_code.specs.declared.faults.CodeFault.{CodeFault}
use Rattle.pr_code.specs.Outcome.{Reads}
use Rattle.pr_conf.specs.Rules.{site_of}
use Rattle.pr_code.specs.Reading.{pe_of, pe_from, flags_of, column_of, column_length, pes_of, pes_length, map_length, before_pes, stage_flags, stage_of, stage_length, stages_of, stages_length}
use Rattle.pr_code.specs.Rules.{Rule, Broken, first_broken, sources_rule, choice_rule, last_rule, pe_rules, column_rules, pes_rules, map_rules, before_rules, stage_rules, stages_rules}
use Rattle.pr_code.proofs.BreakLemmas.{breaks_first, keeps_first, keeps, kept, part_refused, part_breaks, part_keeps}

-- ---- one processing element

-- a word that keeps its rule
abbrev pub Took : Rule → ℕ → ℕ → List ℕ → Type 0
Took rule place w all = (first_broken (rule ∷ []) place (drop place all) ≡ None) × (drop place all ≡ w ∷ drop (place + 1) all)

took_step : (rule : Rule) (more : List Rule) (place w : ℕ) (all : List ℕ) → Took rule place w all → first_broken (rule ∷ more) place (drop place all) ≡ first_broken more (place + 1) (drop (place + 1) all)
took_step rule more place w all took = keeps rule more place (drop place all) w (drop (place + 1) all) took.1 (kept rule place (drop place all) w (drop (place + 1) all) took.1 took.0)

-- the rules of a processing element that are left after its first words
abbrev pub rules_1 : Bool → Site → List ℕ → List Rule
rules_1 packed site words = sources_rule site ∷ choice_rule (slice_index words 1) ∷ last_rule packed site (slice_index words 0) (slice_index words 1) (slice_index words 2) ∷ []

abbrev pub rules_2 : Bool → Site → List ℕ → List Rule
rules_2 packed site words = last_rule packed site (slice_index words 0) (slice_index words 1) (slice_index words 2) ∷ []

abbrev pub whole_pe : Bool → Site → ℕ → List ℕ → Option Broken
whole_pe packed site place all = first_broken (pe_rules packed site (drop place all)) place (drop place all)

pub pe_1 : (packed : Bool) (site : Site) (place : ℕ) (all : List ℕ) → whole_pe packed site place all ≡ first_broken (sources_rule site ∷ rules_1 packed site (drop place all)) place (drop place all)
pe_1 packed site place all = refl

pub pe_2 : (packed : Bool) (site : Site) (place a : ℕ) (all : List ℕ) → Took (sources_rule site) place a all → whole_pe packed site place all ≡ first_broken (rules_1 packed site (drop place all)) (place + 1) (drop (place + 1) all)
pe_2 packed site place a all first = took_step (sources_rule site) (rules_1 packed site (drop place all)) place a all first

pub pe_3 : (packed : Bool) (site : Site) (place a b : ℕ) (all : List ℕ) → Took (sources_rule site) place a all → Took (sources_rule site) (place + 1) b all → whole_pe packed site place all ≡ first_broken (choice_rule b ∷ rules_2 packed site (drop place all)) (place + 2) (drop (place + 2) all)
pe_3 packed site place a b all first second =
    let words = drop place all in
    let is : slice_index words 1 ≡ b = ap (λ t. slice_index t 1) (first.1 ∙ ap (λ t. a ∷ t) second.1) in
    let on : place + 1 + 1 ≡ place + 2 = omega arith in
    let step = took_step (sources_rule site) (choice_rule (slice_index words 1) ∷ rules_2 packed site words) (place + 1) b all second in
    pe_2 packed site place a all first ∙ (step ∙ (ap (λ k. first_broken (choice_rule (slice_index words 1) ∷ rules_2 packed site words) k (drop k all)) on
    ∙ ap (λ k. first_broken (choice_rule k ∷ rules_2 packed site words) (place + 2) (drop (place + 2) all)) is))

words_are : (place a b c : ℕ) (all : List ℕ) → drop place all ≡ a ∷ drop (place + 1) all → drop (place + 1) all ≡ b ∷ drop (place + 1 + 1) all → drop (place + 2) all ≡ c ∷ drop (place + 2 + 1) all → drop place all ≡ a ∷ b ∷ c ∷ drop (place + 3) all
words_are place a b c all e0 e1 e2 =
    let on : place + 1 + 1 ≡ place + 2 = omega arith in
    let on' : place + 2 + 1 ≡ place + 3 = omega arith in
    e0 ∙ ap (λ t. a ∷ t) (e1 ∙ ap (λ t. b ∷ t) (ap (λ k. drop k all) on ∙ (e2 ∙ ap (λ k. c ∷ drop k all) on')))

pub pe_4 : (packed : Bool) (site : Site) (place a b c : ℕ) (all : List ℕ) → Took (sources_rule site) place a all → Took (sources_rule site) (place + 1) b all → Took (choice_rule b) (place + 2) c all → whole_pe packed site place all ≡ first_broken (last_rule packed site a b c ∷ []) (place + 3) (drop (place + 3) all)
pe_4 packed site place a b c all first second third =
    let words = drop place all in
    let are = words_are place a b c all first.1 second.1 third.1 in
    let on : place + 2 + 1 ≡ place + 3 = omega arith in
    let step = took_step (choice_rule b) (rules_2 packed site words) (place + 2) c all third in
    pe_3 packed site place a b all first second ∙ (step ∙ (ap (λ k. first_broken (rules_2 packed site words) k (drop k all)) on
    ∙ ap (λ t. first_broken (rules_2 packed site t) (place + 3) (drop (place + 3) all)) are))

-- a word of a processing element that is refused
pub pe_refused : (r : Result Pe CodeFault) (e : CodeFault) (packed : Bool) (site : Site) (place : ℕ) (all : List ℕ) (rule : Rule) (rest : List Rule) (at : ℕ) (P : ℕ → Type 0) → whole_pe packed site place all ≡ first_broken (rule ∷ rest) at (drop at all) → (x : CodeFault) × (r ≡ Err x) × (x ≡ e) → Reads {X = ℕ} (Err e) (first_broken (rule ∷ []) at (drop at all)) P → Reads r (whole_pe packed site place all) (λ pe. pe ≡ pe_of (drop place all))
pe_refused r e packed site place all rule rest at P left p h =
    part_refused r e (first_broken (rule ∷ []) at (drop at all)) (whole_pe packed site place all) P (λ pe. pe ≡ pe_of (drop place all)) p h
    (λ x b. left ∙ breaks_first (rule ∷ []) rest at (drop at all) x b)

-- all four are taken
pub pe_taken : (packed : Bool) (site : Site) (place a b c d : ℕ) (all : List ℕ) → Took (sources_rule site) place a all → Took (sources_rule site) (place + 1) b all → Took (choice_rule b) (place + 2) c all → Took (last_rule packed site a b c) (place + 3) d all → (whole_pe packed site place all ≡ None) × (pe_from a b c d ≡ pe_of (drop place all))
pe_taken packed site place a b c d all first second third fourth =
    let are = words_are place a b c all first.1 second.1 third.1 ∙ ap (λ t. a ∷ b ∷ c ∷ t) fourth.1 in
    (pe_4 packed site place a b c all first second third ∙ fourth.0, ap pe_of (sym are))

-- ---- the columns of a stage

pub flags_step : (n m marks : ℕ) → n ≡ suc m → flags_of n marks ≡ (marks % 2 == 1) ∷ flags_of m (marks / 2)
flags_step n m marks e = ap (λ k. flags_of k marks) e

pub length-column_rules : (packed : Bool) (site : Site) (flag : Bool) (words : List ℕ) → length (column_rules packed site flag words) ≡ column_length flag
length-column_rules packed site true words = refl
length-column_rules packed site false words = refl

-- what is left of the columns, before and after one of them
pub column_refused : (packed : Bool) (site : Site) (flag : Bool) (flags left : List Bool) (place : ℕ) (words : List ℕ) (whole : Option Broken) → left ≡ flag ∷ flags → first_broken (pes_rules packed site left words) place words ≡ whole → (x : Broken) → first_broken (column_rules packed site flag words) place words ≡ Some x → whole ≡ Some x
column_refused packed site flag flags left place words whole e h x b =
    part_breaks _ (column_rules packed site flag words) _ place words whole (ap (λ t. pes_rules packed site t words) e) h x b

pub column_kept : (packed : Bool) (site : Site) (flag : Bool) (flags left : List Bool) (at next : ℕ) (all : List ℕ) (whole : Option Broken) → left ≡ flag ∷ flags → next ≡ at + column_length flag → first_broken (column_rules packed site flag (drop at all)) at (drop at all) ≡ None → first_broken (pes_rules packed site left (drop at all)) at (drop at all) ≡ whole → first_broken (pes_rules packed (record site { col = site.col + 1 }) flags (drop next all)) next (drop next all) ≡ whole
column_kept packed site flag flags left at next all whole e is b h =
    let count = length-column_rules packed site flag (drop at all) in
    let move : drop (column_length flag) (drop at all) ≡ drop (at + column_length flag) all = drop-drop (column_length flag) at all in
    let rest = part_keeps _ (column_rules packed site flag (drop at all)) _ at (drop at all) whole (ap (λ t. pes_rules packed site t (drop at all)) e) h b in
    rw (is, ← move) (rw count at rest)

pub column_found : (flag : Bool) (flags left : List Bool) (at next : ℕ) (all : List ℕ) → left ≡ flag ∷ flags → next ≡ at + column_length flag → pes_of left (drop at all) ≡ column_of flag (drop at all) ∷ pes_of flags (drop next all)
column_found flag flags left at next all e is =
    let move : drop (column_length flag) (drop at all) ≡ drop (at + column_length flag) all = drop-drop (column_length flag) at all in
    ap (λ t. pes_of t (drop at all)) e ∙ ap (λ t. column_of flag (drop at all) ∷ pes_of flags t) (move ∙ ap (λ k. drop k all) (sym is))

pub column_next : (flag : Bool) (flags left : List Bool) (at next whole : ℕ) → left ≡ flag ∷ flags → next ≡ at + column_length flag → at + pes_length left ≡ whole → next + pes_length flags ≡ whole
column_next flag flags left at next whole e is h =
    let more : pes_length left ≡ column_length flag + pes_length flags = ap pes_length e in
    omega (arith, more, is, h)

pub column_few : (flag : Bool) → column_length flag ≤ 4
column_few true = omega arith
column_few false = omega arith

-- ---- stages

-- marks of every column
pub all_flags : (n k : ℕ) → n ≤ k → flags_of n (2 ^ k - 1) ≡ replicate n true
all_flags zero k h = refl
all_flags (suc n) zero h = absurd (omega arith)
all_flags (suc n) (suc k) h =
    let twice : 2 ^ suc k ≡ 2 ^ k * 2 = omega arith in
    let some : 1 ≤ 2 ^ k = one-le-pow k 2 (omega arith) in
    let odd : (2 ^ suc k - 1) % 2 ≡ 1 = omega (arith, twice, some) in
    let half : (2 ^ suc k - 1) / 2 ≡ 2 ^ k - 1 = omega (arith, twice, some) in
    rw (odd, half) (ap (λ t. true ∷ t) (all_flags n k (omega arith)))

-- without a map the words of every column stand there
pub plain_marks : (packed : Bool) (N place : ℕ) (words : List ℕ) → N ≤ 64 → packed ≡ false → (first_broken (before_rules packed N) place words ≡ None) × ((flags_of N 18446744073709551615 ≡ stage_flags packed N words) × (place ≡ place + before_pes packed N))
plain_marks true N place words few h = absurd cc
plain_marks false N place words few h = (refl, (all_flags N 64 few, omega arith))

-- what is left of the stages, before and after one of them
pub length-pes_rules : (packed : Bool) (site : Site) (flags : List Bool) (words : List ℕ) → length (pes_rules packed site flags words) ≡ pes_length flags
length-pes_rules packed site [] words = refl
length-pes_rules packed site (flag ∷ flags) words =
    length-append (column_rules packed site flag words) (pes_rules packed (record site { col = site.col + 1 }) flags (drop (column_length flag) words))
    ∙ (ap (λ k. k + length (pes_rules packed (record site { col = site.col + 1 }) flags (drop (column_length flag) words))) (length-column_rules packed site flag words)
    ∙ ap (λ k. column_length flag + k) (length-pes_rules packed (record site { col = site.col + 1 }) flags (drop (column_length flag) words)))

length-map_rules : (N : ℕ) (b : Bool) → b ≡ nat_le N 32 → length (map_rules N) ≡ map_length N
length-map_rules N true e = rw (← e) refl
length-map_rules N false e = rw (← e) refl

pub length-before_rules : (packed : Bool) (N : ℕ) → length (before_rules packed N) ≡ before_pes packed N
length-before_rules true N = length-map_rules N (nat_le N 32) refl
length-before_rules false N = refl

pub length-stage_rules : (packed : Bool) (N : ℕ) (site : Site) (words : List ℕ) → length (stage_rules packed N site words) ≡ stage_length packed N words
length-stage_rules packed N site words =
    length-append (before_rules packed N) (pes_rules packed site (stage_flags packed N words) (drop (before_pes packed N) words))
    ∙ (ap (λ k. k + length (pes_rules packed site (stage_flags packed N words) (drop (before_pes packed N) words))) (length-before_rules packed N)
    ∙ ap (λ k. before_pes packed N + k) (length-pes_rules packed site (stage_flags packed N words) (drop (before_pes packed N) words)))

pub stage_refused : (packed : Bool) (N P bus stage n m place : ℕ) (words : List ℕ) (whole : Option Broken) → n ≡ suc m → first_broken (stages_rules packed N P bus stage n words) place words ≡ whole → (x : Broken) → first_broken (stage_rules packed N (site_of N P bus stage) words) place words ≡ Some x → whole ≡ Some x
stage_refused packed N P bus stage n m place words whole e h x b =
    part_breaks _ (stage_rules packed N (site_of N P bus stage) words) _ place words whole (ap (λ k. stages_rules packed N P bus stage k words) e) h x b

pub stage_kept : (packed : Bool) (N P bus stage n m at next : ℕ) (all : List ℕ) (whole : Option Broken) → n ≡ suc m → next ≡ at + stage_length packed N (drop at all) → first_broken (stage_rules packed N (site_of N P bus stage) (drop at all)) at (drop at all) ≡ None → first_broken (stages_rules packed N P bus stage n (drop at all)) at (drop at all) ≡ whole → first_broken (stages_rules packed N P bus (stage + 1) m (drop next all)) next (drop next all) ≡ whole
stage_kept packed N P bus stage n m at next all whole e is b h =
    let words = drop at all in
    let count = length-stage_rules packed N (site_of N P bus stage) words in
    let move : drop (stage_length packed N words) words ≡ drop (at + stage_length packed N words) all = drop-drop (stage_length packed N words) at all in
    let rest = part_keeps _ (stage_rules packed N (site_of N P bus stage) words) _ at words whole (ap (λ k. stages_rules packed N P bus stage k words) e) h b in
    rw (is, ← move) (rw count at rest)

pub stage_found : (packed : Bool) (N n m at next : ℕ) (all : List ℕ) → n ≡ suc m → next ≡ at + stage_length packed N (drop at all) → stages_of packed N n (drop at all) ≡ stage_of packed N (drop at all) ∷ stages_of packed N m (drop next all)
stage_found packed N n m at next all e is =
    let words = drop at all in
    let move : drop (stage_length packed N words) words ≡ drop (at + stage_length packed N words) all = drop-drop (stage_length packed N words) at all in
    ap (λ k. stages_of packed N k words) e ∙ ap (λ t. stage_of packed N words ∷ stages_of packed N m t) (move ∙ ap (λ k. drop k all) (sym is))

pub stage_next : (packed : Bool) (N n m at next whole : ℕ) (all : List ℕ) → n ≡ suc m → next ≡ at + stage_length packed N (drop at all) → at + stages_length packed N n (drop at all) ≡ whole → next + stages_length packed N m (drop next all) ≡ whole
stage_next packed N n m at next whole all e is h =
    let words = drop at all in
    let move : drop (stage_length packed N words) words ≡ drop next all = drop-drop (stage_length packed N words) at all ∙ ap (λ k. drop k all) (sym is) in
    let more : stages_length packed N n words ≡ stage_length packed N words + stages_length packed N m (drop next all) = ap (λ k. stages_length packed N k words) e ∙ ap (λ t. stage_length packed N words + stages_length packed N m t) move in
    omega (arith, more, is, h)

few_before : (packed : Bool) (N : ℕ) (b : Bool) → b ≡ nat_le N 32 → before_pes packed N ≤ 2
few_before true N true e = rw (← e) (omega arith)
few_before true N false e = rw (← e) (omega arith)
few_before false N b e = omega arith

-- a stage whose map and processing elements are taken
pub stage_taken : (packed : Bool) (N : ℕ) (site : Site) (place next end marks : ℕ) (pes : List Pe) (all : List ℕ) → site.columns ≡ N → N ≤ 64 → (first_broken (before_rules packed N) place (drop place all) ≡ None) × ((flags_of N marks ≡ stage_flags packed N (drop place all)) × (next ≡ place + before_pes packed N)) → (first_broken (pes_rules packed site (flags_of site.columns marks) (drop next all)) next (drop next all) ≡ None) × ((pes ≡ pes_of (flags_of site.columns marks) (drop next all)) × (length pes ≡ site.columns) × (end ≡ next + pes_length (flags_of site.columns marks)) × (end ≤ next + 4 * site.columns)) → (first_broken (stage_rules packed N site (drop place all)) place (drop place all) ≡ None) × ((pes ≡ stage_of packed N (drop place all)) × (end ≡ place + stage_length packed N (drop place all)) × (end ≤ place + 258))
stage_taken packed N site place next end marks pes all columns few before rest =
    let words = drop place all in
    let flags : flags_of site.columns marks ≡ stage_flags packed N words = ap (λ k. flags_of k marks) columns ∙ before.1.0 in
    let count = length-before_rules packed N in
    let move : drop (before_pes packed N) words ≡ drop next all = drop-drop (before_pes packed N) place all ∙ ap (λ k. drop k all) (sym before.1.1) in
    let kept : first_broken (stage_rules packed N site words) place words ≡ first_broken (pes_rules packed site (stage_flags packed N words) (drop (before_pes packed N) words)) (place + length (before_rules packed N)) (drop (length (before_rules packed N)) words) = keeps_first (before_rules packed N) (pes_rules packed site (stage_flags packed N words) (drop (before_pes packed N) words)) place words before.0 in
    let none : first_broken (pes_rules packed site (stage_flags packed N words) (drop (before_pes packed N) words)) (place + length (before_rules packed N)) (drop (length (before_rules packed N)) words) ≡ None = rw (count, move, ← before.1.1, ← flags) rest.0 in
    let small = few_before packed N (nat_le N 32) refl in
    let long : pes_length (flags_of site.columns marks) ≡ pes_length (stage_flags packed N words) = ap pes_length flags in
    (kept ∙ none, (rest.1.0 ∙ (ap (λ t. pes_of t (drop next all)) flags ∙ ap (pes_of (stage_flags packed N words)) (sym move)), omega (arith, rest.1.2, before.1.1, long), omega (arith, rest.1.3, before.1.1, small, few, columns)))
