-- What programs are in the text, and the reads that failed.
use Rattle.std.proofs.Common.{◌≡◌, ℕ, zero, suc, ◌+◌, ◌≤◌, ltb, cond, true, false, Bool, not, List, [], ◌∷◌, ◌++◌, length, map, Some, None, is_some, slice_get, refl, sym, ap, ◌∙◌, subst, arith, true≢false, inl, inr}
use Rattle.std.specs.List.{count_by}
use Rattle.std.specs.Simd.Lanes.{zip2}
use Rattle.std.proofs.Math.ListN.{set}
use Rattle.std.proofs.lemmas.Bool.{cases_lt, lt-ltb, ltb-true, cond-true}
use Rattle.std.proofs.lemmas.List.{length-map, map-append}
use Rattle.std.proofs.lemmas.Simd.{length-zip2}
use Rattle.pr_base.specs.Rows.{row_bytes, row_numbers}
use Rattle.pr_edge.specs.Count.{RoseBy}
use Rattle.pr_edge.specs.Files.{Told, IsMissing, HasReadCause}
use Rattle.pr_samples.specs.declared.feed.Feed.{Feed}
use Rattle.pr_samples.specs.declared.feed.Got.{Got}
use Rattle.pr_samples.specs.Feed.{name_of}
use Rattle.pr_conf.specs.Shape.{Shape}
use Rattle.pr_conf.specs.Through.{output_widths, results_of, result_numbers}
use Rattle.pr_conf.specs.After.{conf_after}
use Rattle.pr_conf.proofs.AfterLaws.{results_after, outputs_after}
use Rattle.pr_share_text.specs.Text.{Part, HaveQuotas}
use Rattle.pr_share.specs.declared.items.ShareItem.{ShareItem}
use Rattle.pr_share.specs.Turns.{pieces}
use Rattle.pr_share.specs.Items.{conf_in, turn_rows, Given, part_of, parts_of, has_failed, read_faults}
use Rattle.pr_share.proofs.ListFacts.{zip_at, zip_set, zip_map, count_set, count_none}
use Rattle.pr_share.proofs.Shown.{length-results}

-- ---- results of further samples
pub pieces-append : (c : Shape) (xs ys : List (List ℕ)) → pieces c (xs ++ ys) ≡ pieces c xs ++ pieces c ys
pieces-append c xs ys = map-append (row_bytes c.inputs) xs ys

further_numbers : (N P : ℕ) (c : Shape) (xs ys : List (List ℕ)) → result_numbers N P c (xs ++ ys) ≡ result_numbers N P c xs ++ result_numbers N P (conf_after N P c xs) ys
further_numbers N P c xs ys =
    let f = row_numbers (output_widths c) in
    ap (map f) (results_after N P c xs ys)
    ∙ (map-append f (results_of N P c xs) (results_of N P (conf_after N P c xs) ys)
    ∙ ap (λ os. result_numbers N P c xs ++ map (row_numbers (map (λ o. o.width) os)) (results_of N P (conf_after N P c xs) ys)) (sym (outputs_after N P c xs)))

-- the results of further samples are those of the configuration after the earlier ones
pub more_results : (N P : ℕ) (c : Shape) (rows more : List (List ℕ)) → result_numbers N P c (pieces c (rows ++ more)) ≡ result_numbers N P c (pieces c rows) ++ result_numbers N P (conf_after N P c (pieces c rows)) (pieces c more)
more_results N P c rows more = ap (result_numbers N P c) (pieces-append c rows more) ∙ further_numbers N P c (pieces c rows) (pieces c more)

-- as many results as samples
pub part_rows : {N P : ℕ} (first : ShareItem N P) (rows : List (List ℕ)) → length (part_of first rows).rows ≡ length rows
part_rows {N} {P} first rows = length-results N P (conf_in first.parked) (pieces (conf_in first.parked) rows) ∙ length-map rows (row_bytes (conf_in first.parked).inputs)

pub length-turn : {N P : ℕ} (first : ShareItem N P) (rows more : List (List ℕ)) → length (turn_rows first rows more) ≡ length more
length-turn {N} {P} first rows more =
    length-results N P (conf_after N P (conf_in first.parked) (pieces (conf_in first.parked) rows)) (pieces (conf_in first.parked) more)
    ∙ length-map more (row_bytes (conf_in first.parked).inputs)

-- ---- all parts
pub parts_at : {N P : ℕ} (firsts : List (ShareItem N P)) (givens : List Given) (i : ℕ) (first : ShareItem N P) (given : Given) → slice_get firsts i ≡ Some first → slice_get givens i ≡ Some given
    → slice_get (parts_of firsts givens) i ≡ Some (part_of first given.rows)
parts_at {N} {P} firsts givens i first given a b = zip_at (λ (x : ShareItem N P) (g : Given). part_of x g.rows) firsts givens i first given a b

pub length-parts : {N P : ℕ} (firsts : List (ShareItem N P)) (givens : List Given) → length givens ≡ length firsts → length (parts_of firsts givens) ≡ length firsts
length-parts {N} {P} firsts givens h = length-zip2 (λ (x : ShareItem N P) (g : Given). part_of x g.rows) firsts givens (sym h)

pub parts_set : {N P : ℕ} (firsts : List (ShareItem N P)) (givens : List Given) (k : ℕ) (first : ShareItem N P) (given : Given) → slice_get firsts k ≡ Some first
    → parts_of firsts (set givens k given) ≡ set (parts_of firsts givens) k (part_of first given.rows)
parts_set {N} {P} firsts givens k first given a = zip_set (λ (x : ShareItem N P) (g : Given). part_of x g.rows) firsts givens k first given a

zip_quotas : {X Y : Type 0} (f : X → Y → Part) (q : X → ℕ) → ((x : X) (y : Y) → (f x y).quota ≡ q x) → (xs : List X) (ys zs : List Y) → length zs ≡ length ys → HaveQuotas (zip2 f xs ys) → HaveQuotas (zip2 f xs zs)
zip_quotas f q e [] ys zs l h = tt
zip_quotas f q e (x ∷ xs) ys [] l h = tt
zip_quotas f q e (x ∷ xs) [] (z ∷ zs) l h = absurd (omega (arith, l))
zip_quotas f q e (x ∷ xs) (y ∷ ys) (z ∷ zs) l h = (subst (λ n. 1 ≤ n) (e x y ∙ sym (e x z)) h.0, zip_quotas f q e xs ys zs (omega (arith, l)) h.1)

-- other samples change no quota
pub quotas_same : {N P : ℕ} (firsts : List (ShareItem N P)) (givens wholes : List Given) → length wholes ≡ length givens → HaveQuotas (parts_of firsts givens) → HaveQuotas (parts_of firsts wholes)
quotas_same {N} {P} firsts givens wholes l h = zip_quotas (λ (x : ShareItem N P) (g : Given). part_of x g.rows) (λ (x : ShareItem N P). x.quota) (λ x g. refl) firsts givens wholes l h

map_quotas : {X Y : Type 0} (f : X → Y → Part) (g : X → Y) (xs : List X) → ((i : ℕ) (x : X) → slice_get xs i ≡ Some x → 1 ≤ (f x (g x)).quota) → HaveQuotas (zip2 f xs (map g xs))
map_quotas f g [] h = tt
map_quotas f g (x ∷ xs) h = (h 0 x refl, map_quotas f g xs (λ i y e. h (suc i) y e))

pub quotas_first : {N P : ℕ} (firsts : List (ShareItem N P)) (g : ShareItem N P → Given) → ((i : ℕ) (x : ShareItem N P) → slice_get firsts i ≡ Some x → 1 ≤ x.quota) → HaveQuotas (parts_of firsts (map g firsts))
quotas_first {N} {P} firsts g h = map_quotas (λ (x : ShareItem N P) (y : Given). part_of x y.rows) g firsts h

pub quotas_set : (parts : List Part) (k : ℕ) (part more : Part) → slice_get parts k ≡ Some part → more.quota ≡ part.quota → HaveQuotas parts → HaveQuotas (set parts k more)
quotas_set [] k part more e q h = h
quotas_set (first ∷ parts) zero part more e q h = let is : first ≡ part = cc in (subst (λ n. 1 ≤ n) (ap (λ (x : Part). x.quota) is ∙ sym q) h.0, h.1)
quotas_set (first ∷ parts) (suc k) part more e q h = (h.0, quotas_set parts k part more e q h.1)

-- ---- turns
-- the number of turns of a program, in round r before the turn of number k, and before the next
pub turns_other : (r k i : ℕ) → (i ≡ k → ⊥) → cond (ltb i (k + 1)) (r + 1) r ≡ cond (ltb i k) (r + 1) r
turns_other r k i h = ap (λ b. cond b (r + 1) r) (same_test (ltb i k) refl)
  where
    not_less : (b : Bool) → ltb i (k + 1) ≡ b → ltb i k ≡ false → ltb i (k + 1) ≡ ltb i k
    not_less false e f = e ∙ sym f
    not_less true e f = let l = ltb-true i (k + 1) e in let m = lt-ltb i k (elim (cases_lt i k) [ inl x ↦ x | inr x ↦ absurd (h (omega arith)) ]) in absurd (true≢false (sym m ∙ f))

    same_test : (b : Bool) → ltb i k ≡ b → ltb i (k + 1) ≡ ltb i k
    same_test true e = let l = ltb-true i k e in lt-ltb i (k + 1) (omega arith) ∙ sym e
    same_test false e = not_less (ltb i (k + 1)) refl e

pub turns_this : (r k : ℕ) → cond (ltb k (k + 1)) (r + 1) r ≡ r + 1
turns_this r k = cond-true (ltb k (k + 1)) (r + 1) r (lt-ltb k (k + 1) (omega arith))

pub turns_yet : (r k : ℕ) → cond (ltb k k) (r + 1) r ≡ r
turns_yet r k = by_test (ltb k k) refl
  where
    by_test : (b : Bool) → ltb k k ≡ b → cond b (r + 1) r ≡ r
    by_test true e = let l = ltb-true k k e in absurd (omega arith)
    by_test false e = refl

pub turns_none : (r i : ℕ) → cond (ltb i 0) (r + 1) r ≡ r
turns_none r i = by_test (ltb i 0) refl
  where
    by_test : (b : Bool) → ltb i 0 ≡ b → cond b (r + 1) r ≡ r
    by_test true e = let l = ltb-true i 0 e in absurd (omega arith)
    by_test false e = refl

-- ---- reads that failed
pub failed_parts : (told : Told) (f : Feed) (last : Got) → has_failed told f last ≡ true → (last ≡ Got.ReadFault) × (IsMissing told (name_of f) → ⊥)
failed_parts told f Got.Sample e = absurd (true≢false (sym e))
failed_parts told f Got.End e = absurd (true≢false (sym e))
failed_parts told f (Got.BadSample line) e = absurd (true≢false (sym e))
failed_parts None f Got.ReadFault e = (refl, λ h. h)
failed_parts (Some files) f Got.ReadFault e = (refl, λ h. absurd (true≢false (sym e ∙ ap (λ o. not (not (is_some o))) h)))
failed_parts told f (Got.Limit cap) e = absurd (true≢false (sym e))

-- a count that rose by a number rises by one more where a read failed
pub rose_more : (told : Told) (f : Feed) (last : Got) (first before now n : ℕ) → RoseBy first before n → before ≤ now → (last ≡ Got.ReadFault → HasReadCause told (name_of f) before now)
    → RoseBy first now (n + cond (has_failed told f last) 1 0)
rose_more told f last first before now n rose later cause = by_test (has_failed told f last) refl
  where
    by_test : (b : Bool) → has_failed told f last ≡ b → RoseBy first now (n + cond b 1 0)
    by_test false e = omega (arith, rose, later)
    by_test true e =
        let p = failed_parts told f last e in
        elim (cause p.0) [ inl lost ↦ absurd (p.1 lost) | inr more ↦ omega (arith, rose, more) ]

pub faults_set : {N P : ℕ} (told : Told) (firsts : List (ShareItem N P)) (givens : List Given) (k : ℕ) (first : ShareItem N P) (old new : Given) → slice_get firsts k ≡ Some first → slice_get givens k ≡ Some old
    → has_failed told first.feed old.last ≡ false → read_faults told firsts (set givens k new) ≡ read_faults told firsts givens + cond (has_failed told first.feed new.last) 1 0
faults_set {N} {P} told firsts givens k first old new a b none =
    let f : ShareItem N P → Given → Bool = λ x g. has_failed told x.feed g.last in
    ap (count_by (λ t. t)) (zip_set f firsts givens k first new a)
    ∙ count_set (zip2 f firsts givens) k (f first new) (zip_at f firsts givens k first old a b ∙ ap (λ t. Some t) none)

pub no_faults : {N P : ℕ} (told : Told) (firsts : List (ShareItem N P)) (g : ShareItem N P → Given) → ((x : ShareItem N P) → (g x).last ≡ Got.Sample) → read_faults told firsts (map g firsts) ≡ 0
no_faults {N} {P} told firsts g h =
    let f : ShareItem N P → Given → Bool = λ x y. has_failed told x.feed y.last in
    ap (count_by (λ t. t)) (zip_map f g firsts) ∙ count_none (λ x. f x (g x)) firsts (λ x. ap (has_failed told x.feed) (h x))
