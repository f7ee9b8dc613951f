-- The programs of a list as they are made ready.
use Rattle.std.proofs.Common.{◌≡◌, ◌≤◌, ◌+◌, ◌∙◌, ◌&&◌, ℕ, zero, suc, Bool, true, false, cond, List, [], ◌∷◌, ◌++◌, length, map, take, filter, Option, Some, None, slice_get, option_map, decimal, refl, sym, ap, subst, arith, inl, inr}
use Rattle.std.specs.Prelude.{nat_le, bytes_eq, ⊤}
use Rattle.std.specs.Str.Parse.{digits_value}
use Rattle.std.proofs.lemmas.Bool.{and_parts, leb-true}
use Rattle.std.specs.Str.{is_utf8}
use Rattle.pr_base.specs.declared.caps.Cap.{Cap}
use Rattle.pr_edge.specs.Files.{Told}
use Rattle.pr_conf.specs.Shape.{Shape}
use Rattle.pr_samples.specs.Feed.{name_of}
use Rattle.pr_samples.specs.Lines.{words_of, without_return, begins_apart}
use Rattle.pr_share.specs.Items.{conf_in, IsReady, AreReady, names_of, IsNoneOf}
use Rattle.pr_tool_share.specs.Entries.{Entry, entry_of, entry_by, counts, list_lines, IsListed}
use Rattle.pr_tool_words.specs.Lawful.{number_in}
use Rattle.pr_tool_answers.specs.declared.answers.Answer.{Answer}
use Rattle.pr_tool_modes.specs.Files.{ShowsFault}
use Rattle.pr_tool_modes.specs.Sources.{Gives, IsSourceRefusal}
use Rattle.pr_tool_modes.proofs.FileLemmas.{unread_earlier}
use Rattle.pr_tool_share.specs.Lists.{source_in, part_answer, IsProgramRefusal, IsNoSamples, AreCompiled}
use Rattle.pr_tool_share.specs.Items.{Item, IsItemOf, AreItemsOf}

-- ---- quotas
-- a number is no less than the least
number_least : (least greatest n : ℕ) (text : List ℕ) → number_in least greatest text ≡ Some n → least ≤ n
unfolding number_in
number_least least greatest n text is = go _ refl is
  where
    m : ℕ
    m = digits_value 10 text

    go : (b : Bool) → (bytes_eq (decimal m) text && (nat_le least m && nat_le m greatest)) ≡ b → cond b (Some m) None ≡ Some n → least ≤ n
    go false e some = absurd (let no : None ≡ Some n = some in cc)
    go true e some =
        let parts = and_parts (bytes_eq (decimal m) text) _ e in
        let range = and_parts (nat_le least m) _ parts.1 in
        let same : m ≡ n = cc in
        subst (λ (x : ℕ). least ≤ x) same (leb-true _ _ range.0)

abbrev pub HaveLeast : List Entry → Type 0
HaveLeast [] = ⊤
HaveLeast (entry ∷ entries) = (1 ≤ entry.quota) × HaveLeast entries

some_quota : (program samples : List ℕ) (q : Option ℕ) (entry : Entry) → ((n : ℕ) → q ≡ Some n → 1 ≤ n) → (b : Bool)
    → cond b (option_map (λ (n : ℕ). record { program = program; samples = samples; quota = n }) q) None ≡ Some entry → 1 ≤ entry.quota
some_quota program samples None entry least true is = absurd (cc)
some_quota program samples (Some n) entry least true is = let same : n ≡ entry.quota = (let both : Some (record { program = program; samples = samples; quota = n }) ≡ Some entry = is in cc) in subst (λ (m : ℕ). 1 ≤ m) same (least n refl)
some_quota program samples q entry least false is = absurd (cc)

words_quota : (words : List (List ℕ)) (entry : Entry) → entry_by words ≡ Some entry → 1 ≤ entry.quota
words_quota [] entry is = absurd (cc)
words_quota (program ∷ []) entry is = absurd (cc)
words_quota (program ∷ samples ∷ []) entry is = absurd (cc)
words_quota (program ∷ samples ∷ quota ∷ []) entry is = some_quota program samples (number_in 1 1000000 quota) entry (λ n e. number_least 1 1000000 n quota e) (is_utf8 program && is_utf8 samples) is
words_quota (program ∷ samples ∷ quota ∷ more ∷ words) entry is = absurd (cc)

line_quota : (line : List ℕ) (entry : Entry) → entry_of line ≡ Some entry → 1 ≤ entry.quota
line_quota line entry is = by_test (begins_apart (without_return line)) is
  where
    by_test : (b : Bool) → cond b None (entry_by (words_of (without_return line))) ≡ Some entry → 1 ≤ entry.quota
    by_test true e = absurd (cc)
    by_test false e = words_quota (words_of (without_return line)) entry e

lines_quota : (lines : List (List ℕ)) (entries : List Entry) → map entry_of lines ≡ map (λ (e : Entry). Some e) entries → HaveLeast entries
lines_quota lines [] is = tt
lines_quota [] (entry ∷ entries) is = absurd (cc)
lines_quota (line ∷ lines) (entry ∷ entries) is =
    let head : entry_of line ≡ Some entry = cc in
    let tail : map entry_of lines ≡ map (λ (e : Entry). Some e) entries = cc in
    (line_quota line entry head, lines_quota lines entries tail)

pub listed_quotas : (text : List ℕ) (entries : List Entry) → IsListed text entries → HaveLeast entries
listed_quotas text entries listed = lines_quota (filter counts (list_lines text)) entries listed.say.entries_are

-- ---- one program after another
pub items_more : (told : Told) (entries : List Entry) (items : List Item) (i : ℕ) (entry : Entry) (item : Item) → AreItemsOf told (take i entries) items → slice_get entries i ≡ Some entry → IsItemOf told entry item → AreItemsOf told (take (suc i) entries) (items ++ item ∷ [])
items_more told [] items i entry item are here is = absurd (let no = here in cc)
items_more told (e ∷ entries) [] zero entry item are here is = let same : e ≡ entry = cc in (subst (λ (x : Entry). IsItemOf told x item) (sym same) is, tt)
items_more told (e ∷ entries) (x ∷ items) zero entry item are here is = absurd are
items_more told (e ∷ entries) [] (suc i) entry item are here is = absurd are
items_more told (e ∷ entries) (x ∷ items) (suc i) entry item are here is = (are.0, items_more told entries items i entry item are.1 here is)

source_earlier : (told : Told) (entry : Entry) (before mid now : ℕ) (a : Answer) → before ≤ mid → IsSourceRefusal told (source_in entry) mid now a → IsSourceRefusal told (source_in entry) before now a
source_earlier told entry before mid now a le (inl unread) = inl (unread_earlier 1048576 Cap.ProgramBytes told entry.program before mid now a le unread)
source_earlier told entry before mid now a le (inr refused) = inr refused

-- the program after those that are ready is refused
pub refused_at : (told : Told) (before mid now : ℕ) (entries : List Entry) (items : List Item) (k i : ℕ) (entry : Entry) (cause : Answer) → AreItemsOf told (take i entries) items → slice_get entries i ≡ Some entry → before ≤ mid
    → IsSourceRefusal told (source_in entry) mid now cause → IsProgramRefusal told before now k entries (part_answer (k + i) cause)
refused_at told before mid now [] items k i entry cause are here le is = absurd (let no = here in cc)
refused_at told before mid now (e ∷ entries) items k zero entry cause are here le is =
    let same : entry ≡ e = cc in
    inl (record {
      cause = cause;
      refused = source_earlier told e before mid now cause le (subst (λ (x : Entry). IsSourceRefusal told (source_in x) mid now cause) same is);
      answers = ap (λ (n : ℕ). part_answer n cause) (omega arith);
    })
refused_at told before mid now (e ∷ entries) [] k (suc i) entry cause are here le is = absurd are
refused_at told before mid now (e ∷ entries) (x ∷ items) k (suc i) entry cause are here le is =
    let n : k + 1 + i ≡ k + suc i = omega arith in
    inr (
      record { N = 16; P = 8; conf = are.0.conf; gives = are.0.compiled },
      subst (λ (m : ℕ). IsProgramRefusal told before now (k + 1) entries (part_answer m cause)) n (refused_at told before mid now entries items (k + 1) i entry cause are.1 here le is),
    )

-- a read of one failed, and the answer shows it
pub part_shown : (k before now : ℕ) (cause : Answer) → ShowsFault before now cause → ShowsFault before now (part_answer k cause)
part_shown k before now cause (inl is) = inl (ap (part_answer k) is)
part_shown k before now cause (inr same) = inr same

-- one was refused after other files were read
pub program_earlier : (told : Told) (before mid now k : ℕ) (entries : List Entry) (a : Answer) → before ≤ mid → IsProgramRefusal told mid now k entries a → IsProgramRefusal told before now k entries a
program_earlier told before mid now k [] a le is = absurd is
program_earlier told before mid now k (entry ∷ entries) a le (inl part) = inl (record { cause = part.cause; refused = source_earlier told entry before mid now part.cause le part.refused; answers = part.answers })
program_earlier told before mid now k (entry ∷ entries) a le (inr later) = inr (later.0, program_earlier told before mid now (k + 1) entries a le later.1)

-- ---- all programs
pub length-items : (told : Told) (entries : List Entry) (items : List Item) → AreItemsOf told entries items → length items ≡ length entries
length-items told [] [] are = refl
length-items told [] (item ∷ items) are = absurd are
length-items told (entry ∷ entries) [] are = absurd are
length-items told (entry ∷ entries) (item ∷ items) are = ap suc (length-items told entries items are.1)

ready_item : (told : Told) (entry : Entry) (item : Item) → IsItemOf told entry item → 1 ≤ entry.quota → IsReady item
ready_item told entry item is least = record {
  parked = is.parked.some;
  fresh = is.parked.opened.fresh;
  inputs = is.parked.opened.inputs ∙ ap (λ (c : Shape). c.inputs) (sym is.parked.conf_is);
  quota = subst (λ (n : ℕ). 1 ≤ n) (sym is.parked.quota) least;
  ended = is.parked.ended;
}

-- what holds of the first and of each of the others
each_of : {X : Type 0} (P : X → Type 0) (x : X) (xs : List X) → P x → ((i : ℕ) (y : X) → slice_get xs i ≡ Some y → P y) → (i : ℕ) (y : X) → slice_get (x ∷ xs) i ≡ Some y → P y
each_of P x xs first others zero y e = let same : x ≡ y = cc in subst P same first
each_of P x xs first others (suc i) y e = others i y e

pub are_ready : (told : Told) (entries : List Entry) (items : List Item) → AreItemsOf told entries items → HaveLeast entries → AreReady items
are_ready told [] [] are least = λ i item e. absurd (let no = e in cc)
are_ready told [] (item ∷ items) are least = absurd are
are_ready told (entry ∷ entries) [] are least = absurd are
are_ready told (entry ∷ entries) (item ∷ items) are least = each_of (λ (x : Item). IsReady x) item items (ready_item told entry item are.0 least.0) (are_ready told entries items are.1 least.1)

-- their configurations
abbrev pub confs_of : List Item → List Shape
confs_of items = map (λ (item : Item). conf_in item.parked) items

pub are_compiled : (told : Told) (entries : List Entry) (items : List Item) → AreItemsOf told entries items → AreCompiled told entries (confs_of items)
are_compiled told [] [] are = tt
are_compiled told [] (item ∷ items) are = absurd are
are_compiled told (entry ∷ entries) [] are = absurd are
are_compiled told (entry ∷ entries) (item ∷ items) are = (subst (λ (c : Shape). Gives told (source_in entry) 16 8 c) (sym are.0.parked.conf_is) are.0.compiled, are_compiled told entries items are.1)

-- ---- names
-- no feed reads a file of this name
pub items_unnamed : (told : Told) (entries : List Entry) (items : List Item) (q : List ℕ) → AreItemsOf told entries items → IsNoSamples entries q → IsNoneOf (names_of items) q
items_unnamed told [] [] q are none i name here = absurd (let z = here in cc)
items_unnamed told [] (item ∷ items) q are none i name here = absurd are
items_unnamed told (entry ∷ entries) [] q are none i name here = absurd are
items_unnamed told (entry ∷ entries) (item ∷ items) q are none zero name here = λ is.
    let same : name_of item.feed ≡ name = cc in
    none zero entry refl (is ∙ (sym same ∙ are.0.parked.opened.file))
items_unnamed told (entry ∷ entries) (item ∷ items) q are none (suc i) name here = items_unnamed told entries items q are.1 (λ j. none (suc j)) i name here
