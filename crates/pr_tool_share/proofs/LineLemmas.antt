-- What the programs of a list have written.
use Rattle.std.proofs.Common.{◌≡◌, ◌≤◌, ◌∙◌, ◌^◌, not, ℕ, suc, Bool, true, false, cond, List, All, [], ◌∷◌, ◌++◌, length, take, drop, Option, Some, None, slice_get, is_some, unwrap_or, refl, sym, ap, ap₂, subst, arith, true≢false}
use Rattle.std.specs.List.{count_by}
use Rattle.std.specs.Simd.Lanes.{zip2}
use Rattle.std.proofs.Math.Seq.{take-length}
use Rattle.std.proofs.lemmas.List.{take-append-drop, take_all, append-nil}
use Rattle.std.proofs.lemmas.List.Elements.{All-take, All-nil, All-cons}
use Rattle.pr_base.specs.Rows.{IsRow}
use Rattle.pr_edge.specs.Count.{RoseBy}
use Rattle.pr_edge.specs.Files.{Told}
use Rattle.pr_conf.specs.Shape.{Shape}
use Rattle.pr_conf.specs.Through.{result_numbers}
use Rattle.pr_compile.specs.Meant.{IsMeant}
use Rattle.pr_lang.specs.declared.trees.Program.{Program}
use Rattle.pr_samples.specs.declared.feed.Feed.{Feed}
use Rattle.pr_samples.specs.declared.feed.Got.{Got}
use Rattle.pr_samples.specs.Fed.{Fed, fed_text, fed_lines}
use Rattle.pr_samples.specs.Lines.{lines_of, words_of, without_return}
use Rattle.pr_samples.specs.Feed.{name_of, given_of, fed}
use Rattle.pr_samples.specs.Got.{is_sample}
use Rattle.pr_run.specs.Turns.{EndsBy, MayFollow}
use Rattle.pr_share.specs.Fed.{HasFed}
use Rattle.pr_share.specs.Turns.{pieces}
use Rattle.pr_share.specs.Items.{conf_in, Given, part_of, parts_of, has_failed, read_faults, MayBecome, MayAllBecome}
use Rattle.pr_tool_share.specs.Entries.{Entry}
use Rattle.pr_share_text.specs.Text.{Part, HaveQuotas, share_text}
use Rattle.pr_share_text.proofs.RoundLaws.{own_lines}
use Rattle.pr_tool_modes.specs.Programs.{inputs_of, HasProgram}
use Rattle.pr_tool_modes.specs.Ready.{IsFeedOf}
use Rattle.pr_tool_modes.specs.Samples.{fed_at_most, fed_in}
use Rattle.pr_tool_modes.specs.Sources.{Gives}
use Rattle.pr_tool_modes.proofs.CompileLaws.{is_meant}
use Rattle.pr_tool_modes.proofs.FedLemmas.{fed_rows}
use Rattle.pr_tool_modes.proofs.SourceLemmas.{of_fabric}
use Rattle.pr_tool_share.specs.Lists.{HasList, base, source_in}
use Rattle.pr_tool_share.specs.Items.{Item, IsItemOf, AreItemsOf}
use Rattle.pr_tool_share.specs.Lines.{samples_of, IsPartOf, ArePartsOf, HaveLines}
use Rattle.pr_tool_share.proofs.ItemLemmas.{HaveLeast, listed_quotas}
use Rattle.pr_tool_share.proofs.EndLemmas.{feed_fed, first_fed, count-cons}

-- ---- the program of an entry
-- what it means
pub record IsProgramOf (files : List ℕ → Option (List ℕ)) (entry : Entry) (conf : Shape) : Type 0 where
  pub program : Program
  pub widths : List ℕ
  pub has : HasProgram (Some files) entry.program program widths
  pub means : IsMeant 16 8 program conf

pub program_in : (files : List ℕ → Option (List ℕ)) (entry : Entry) (conf : Shape) → Gives (Some files) (source_in entry) 16 8 conf → IsProgramOf files entry conf
program_in files entry conf gives =
    let has = of_fabric (Some files) entry.program base 16 8 conf gives in
    let c = has.is in
    record {
      program = c.program;
      widths = c.widths;
      has = record { text = has.text; file = has.file; short = has.short; has = c.has };
      means = is_meant 16 8 false has.text c.program c.widths conf (omega arith) c.has c;
    }

-- a file without bytes has no samples
pub no_samples : (widths : List ℕ) → (fed_in widths []).samples ≡ []
unfolding fed_at_most fed_text fed_lines lines_of words_of without_return
no_samples widths = refl

-- what a program with this quota and these results is in the text
abbrev part_with : ℕ → List (List ℕ) → Part
part_with quota rows = record { quota = quota; rows = rows }

-- ---- the samples of one program
-- all its samples
abbrev pub all_of : (List ℕ → Option (List ℕ)) → Item → List (List ℕ)
all_of files first = (fed_in (conf_in first.parked).inputs (unwrap_or (files (name_of first.feed)) [])).samples

-- those that it was given and may come to be given
abbrev pub whole_by : (List ℕ → Option (List ℕ)) → Item → Given → Bool → Given
whole_by files first given more = record { rows = cond more (all_of files first) given.rows; last = given.last }

abbrev pub whole_of : (List ℕ → Option (List ℕ)) → Item → Given → Given
whole_of files first given = whole_by files first given (is_sample given.last)

-- its feed gave these
pub record WasFed (files : List ℕ → Option (List ℕ)) (first : Item) (given : Given) : Type 0 where
  pub feed : Feed
  pub fed : HasFed first.feed (Some files) feed given.rows given.last

module _ (files : List ℕ → Option (List ℕ)) (entry : Entry) (first : Item) (given : Given) (is : IsItemOf (Some files) entry first) (was : WasFed files first given) where
  abbrev widths : List ℕ
  widths = (conf_in first.parked).inputs

  opened : IsFeedOf (2 ^ 40) widths entry.samples first.feed
  opened = subst (λ (c : Shape). IsFeedOf (2 ^ 40) c.inputs entry.samples first.feed) (sym is.parked.conf_is) is.parked.opened

  -- what is given is the front of all
  file_front : (file : List ℕ) → files (name_of first.feed) ≡ Some file → given.rows ≡ take (length given.rows) (fed_in widths file).samples
  file_front file e =
      (was.fed.samples file e).front
      ∙ ap₂ (λ (n : ℕ) (k : Fed). take n k.samples) was.fed.count (first_fed widths entry.samples first.feed file opened)

  -- and all of it where no read failed and no more may follow
  over_all : (file : List ℕ) → files (name_of first.feed) ≡ Some file → given_of was.feed ≡ length (fed was.feed file).samples → given.rows ≡ (fed_in widths file).samples
  over_all file e count =
      let same = feed_fed widths entry.samples first.feed was.feed file opened was.fed.file in
      let all : length given.rows ≡ length (fed_in widths file).samples = sym was.fed.count ∙ (count ∙ ap (λ (k : Fed). length k.samples) same) in
      file_front file e ∙ take_all (length given.rows) (fed_in widths file).samples (omega (arith, all))

  ended_all : (file : List ℕ) → files (name_of first.feed) ≡ Some file → (last : Got) → EndsBy last was.feed file → is_sample last ≡ false → has_failed (Some files) first.feed last ≡ false → given.rows ≡ (fed_in widths file).samples
  ended_all file e Got.Sample ends over good = absurd (true≢false over)
  ended_all file e Got.End ends over good = over_all file e ends.all
  ended_all file e (Got.BadSample line) ends over good = over_all file e ends.all
  ended_all file e (Got.Limit cap) ends over good = over_all file e ends.all
  ended_all file e Got.ReadFault ends over good = absurd (true≢false (sym (ap (λ (o : Option (List ℕ)). not (not (is_some o))) e) ∙ good))

  pub given_front : given.rows ≡ take (length given.rows) (all_of files first)
  given_front = elim (files (name_of first.feed)) as (λ o. files (name_of first.feed) ≡ o → given.rows ≡ take (length given.rows) (fed_in widths (unwrap_or o [])).samples) [
    | None ↦ λ e. (let none = (was.fed.missing e).1 in none ∙ sym (ap (λ (xs : List (List ℕ)). take (length xs) (fed_in widths []).samples) none))
    | Some file ↦ λ e. file_front file e
  ] refl

  pub given_all : is_sample given.last ≡ false → has_failed (Some files) first.feed given.last ≡ false → given.rows ≡ all_of files first
  given_all over good = elim (files (name_of first.feed)) as (λ o. files (name_of first.feed) ≡ o → given.rows ≡ (fed_in widths (unwrap_or o [])).samples) [
    | None ↦ λ e. (was.fed.missing e).1 ∙ sym (no_samples widths)
    | Some file ↦ λ e. ended_all file e given.last (was.fed.samples file e).ends over good
  ] refl

  -- what may come to be given
  pub whole_front : (whole_of files first given).rows ≡ take (length (whole_of files first given).rows) (all_of files first)
  whole_front = by_test (is_sample given.last)
    where
      by_test : (b : Bool) → cond b (all_of files first) given.rows ≡ take (length (cond b (all_of files first) given.rows)) (all_of files first)
      by_test true = sym (take-length (all_of files first))
      by_test false = given_front

  pub whole_all : has_failed (Some files) first.feed given.last ≡ false → (whole_of files first given).rows ≡ all_of files first
  whole_all good = by_test (is_sample given.last) refl
    where
      by_test : (b : Bool) → is_sample given.last ≡ b → cond b (all_of files first) given.rows ≡ all_of files first
      by_test true e = refl
      by_test false e = given_all e good

  follows : (last : Got) (more : List (List ℕ)) → is_sample last ≡ true → MayFollow last more
  follows Got.Sample more e = tt
  follows Got.End more e = absurd (true≢false (sym e))
  follows (Got.BadSample line) more e = absurd (true≢false (sym e))
  follows Got.ReadFault more e = absurd (true≢false (sym e))
  follows (Got.Limit cap) more e = absurd (true≢false (sym e))

  no_more : (last : Got) → MayFollow last []
  no_more Got.Sample = tt
  no_more Got.End = refl
  no_more (Got.BadSample line) = refl
  no_more Got.ReadFault = refl
  no_more (Got.Limit cap) = refl

  pub may_become : MayBecome given (whole_of files first given)
  may_become = by_test (is_sample given.last) refl
    where
      by_test : (b : Bool) → is_sample given.last ≡ b → MayBecome given (whole_by files first given b)
      by_test true e = record {
        more = drop (length given.rows) (all_of files first);
        rows = sym (ap (λ (xs : List (List ℕ)). xs ++ drop (length given.rows) (all_of files first)) given_front ∙ take-append-drop (length given.rows) (all_of files first));
        follow = follows given.last (drop (length given.rows) (all_of files first)) e;
      }
      by_test false e = record { more = []; rows = sym (append-nil given.rows); follow = no_more given.last }

  -- ---- its lines
  pub part_is : IsPartOf files entry (has_failed (Some files) first.feed given.last) (part_of first (whole_of files first given).rows)
  part_is =
      let p = program_in files entry is.conf is.compiled in
      let rows = (whole_of files first given).rows in
      let inputs : widths ≡ inputs_of p.program = ap (λ (c : Shape). c.inputs) is.parked.conf_is ∙ p.means.inputs in
      let all : all_of files first ≡ samples_of files entry p.program = ap₂ (λ (ws : List ℕ) (name : List ℕ). (fed_in ws (unwrap_or (files name) [])).samples) inputs is.parked.opened.file in
      let first_rows : rows ≡ take (length rows) (samples_of files entry p.program) = whole_front ∙ ap (take (length rows)) all in
      let lawful_all : All (IsRow is.conf.inputs) (samples_of files entry p.program) = subst (λ (ws : List ℕ). All (IsRow ws) (samples_of files entry p.program)) (sym p.means.inputs) (fed_rows (2 ^ 40) (inputs_of p.program) (unwrap_or (files entry.samples) [])) in
      let lawful : All (IsRow is.conf.inputs) rows = subst (All (IsRow is.conf.inputs)) (sym first_rows) (All-take (IsRow is.conf.inputs) (length rows) (samples_of files entry p.program) lawful_all) in
      record {
        program = p.program;
        widths = p.widths;
        has = p.has;
        rows = rows;
        first = first_rows;
        all = λ good. whole_all good ∙ all;
        is = ap₂ part_with is.parked.quota
            (ap (λ (c : Shape). result_numbers 16 8 c (pieces c rows)) is.parked.conf_is ∙ p.means.numbers rows lawful);
      }

-- ---- all programs
abbrev pub failed_in : (List ℕ → Option (List ℕ)) → List Item → List Given → List Bool
failed_in files firsts givens = zip2 (λ (first : Item) (given : Given). has_failed (Some files) first.feed given.last) firsts givens

abbrev pub wholes_in : (List ℕ → Option (List ℕ)) → List Item → List Given → List Given
wholes_in files firsts givens = zip2 (whole_of files) firsts givens

abbrev pub WereFed : (List ℕ → Option (List ℕ)) → List Item → List Given → Type 0
WereFed files firsts givens = (i : ℕ) (first : Item) (given : Given) → slice_get firsts i ≡ Some first → slice_get givens i ≡ Some given → WasFed files first given

pub are_parts : (files : List ℕ → Option (List ℕ)) (entries : List Entry) (firsts : List Item) (givens : List Given) → AreItemsOf (Some files) entries firsts → length givens ≡ length firsts → WereFed files firsts givens
    → ArePartsOf files entries (failed_in files firsts givens) (parts_of firsts (wholes_in files firsts givens))
are_parts files [] [] givens are n fed = tt
are_parts files [] (first ∷ firsts) givens are n fed = absurd are
are_parts files (entry ∷ entries) [] givens are n fed = absurd are
are_parts files (entry ∷ entries) (first ∷ firsts) [] are n fed = absurd (omega (arith, n))
are_parts files (entry ∷ entries) (first ∷ firsts) (given ∷ givens) are n fed =
    (part_is files entry first given are.0 (fed 0 first given refl refl), are_parts files entries firsts givens are.1 (omega (arith, n)) (λ i. fed (suc i)))

pub may_all : (files : List ℕ → Option (List ℕ)) (entries : List Entry) (firsts : List Item) (givens : List Given) → AreItemsOf (Some files) entries firsts → length givens ≡ length firsts → WereFed files firsts givens
    → MayAllBecome givens (wholes_in files firsts givens)
may_all files [] [] [] are n fed = tt
may_all files [] [] (given ∷ givens) are n fed = absurd (omega (arith, n))
may_all files [] (first ∷ firsts) givens are n fed = absurd are
may_all files (entry ∷ entries) [] givens are n fed = absurd are
may_all files (entry ∷ entries) (first ∷ firsts) [] are n fed = absurd (omega (arith, n))
may_all files (entry ∷ entries) (first ∷ firsts) (given ∷ givens) are n fed =
    (may_become files entry first given are.0 (fed 0 first given refl refl), may_all files entries firsts givens are.1 (omega (arith, n)) (λ i. fed (suc i)))

-- nothing more may come where all samples have ended
pub same_wholes : (files : List ℕ → Option (List ℕ)) (firsts : List Item) (givens : List Given) → length givens ≡ length firsts → ((i : ℕ) (given : Given) → slice_get givens i ≡ Some given → is_sample given.last ≡ false) → wholes_in files firsts givens ≡ givens
same_wholes files [] [] n over = refl
same_wholes files [] (given ∷ givens) n over = absurd (omega (arith, n))
same_wholes files (first ∷ firsts) [] n over = absurd (omega (arith, n))
same_wholes files (first ∷ firsts) (given ∷ givens) n over =
    ap₂ (λ (b : Bool) (gs : List Given). whole_by files first given b ∷ gs) (over 0 given refl) (same_wholes files firsts givens (omega (arith, n)) (λ i. over (suc i)))

pub have_quotas : (told : Told) (entries : List Entry) (firsts : List Item) (givens : List Given) → AreItemsOf told entries firsts → HaveLeast entries → HaveQuotas (parts_of firsts givens)
have_quotas told [] [] givens are least = tt
have_quotas told [] (first ∷ firsts) givens are least = absurd are
have_quotas told (entry ∷ entries) [] givens are least = absurd are
have_quotas told (entry ∷ entries) (first ∷ firsts) [] are least = tt
have_quotas told (entry ∷ entries) (first ∷ firsts) (given ∷ givens) are least = (subst (λ (n : ℕ). 1 ≤ n) (sym are.0.parked.quota) least.0, have_quotas told entries firsts givens are.1 least.1)

-- none of these is true
none_counted : (bs : List Bool) → count_by (λ (f : Bool). f) bs ≡ 0 → All (λ (f : Bool). f ≡ false) bs
none_counted [] none = All-nil (λ (f : Bool). f ≡ false)
none_counted (true ∷ bs) none = absurd (let n = count-cons true bs in omega (arith, n, none))
none_counted (false ∷ bs) none = All-cons (λ (f : Bool). f ≡ false) false bs refl (none_counted bs (let n = count-cons false bs in omega (arith, n, none)))

-- the text, whole or its first bytes
module _ (files : List ℕ → Option (List ℕ)) (list : List ℕ) (entries : List Entry) (firsts : List Item) (givens : List Given) (put : List ℕ → Type 0) (has : HasList (Some files) list entries) (are : AreItemsOf (Some files) entries firsts)
    (n : length givens ≡ length firsts) (fed : WereFed files firsts givens) where
  pub have_lines : (before start now : ℕ) → before ≤ start → RoseBy start now (read_faults (Some files) firsts givens) → put (share_text (parts_of firsts (wholes_in files firsts givens))) → HaveLines files list before now put
  have_lines before start now le rose text =
      let parts = parts_of firsts (wholes_in files firsts givens) in
      let few : RoseBy before now (count_by (λ (f : Bool). f) (failed_in files firsts givens)) = omega (arith, le, rose) in
      record {
        entries = entries;
        has = has;
        failed = failed_in files firsts givens;
        parts = parts;
        parts_are = are_parts files entries firsts givens are n fed;
        few = few;
        none = λ steady. none_counted (failed_in files firsts givens) (omega (arith, few, steady));
        text = text;
        alone = λ k part e. own_lines parts k part (have_quotas (Some files) entries firsts (wholes_in files firsts givens) are (listed_quotas has.text entries has.listed)) e;
      }
