-- The machine was asked one event more, and the lines of the results that were taken are written.
use Rattle.std.proofs.Common.{◌≡◌, ℕ, ◌+◌, ◌-◌, ◌<◌, ◌≤◌, Bool, true, false, cond, ltb, List, [], ◌∷◌, ◌++◌, length, get_or, map, take, drop, Option, Some, None, slice_get, refl, sym, ap, ◌∙◌, arith, append-nil, subst}
use Rattle.std.proofs.lemmas.Bool.{cond-true, cond_both}
use Rattle.std.proofs.lemmas.Grind.{flat_map-append}
use Rattle.std.proofs.lemmas.List.{take_more, take_all, take-append-drop, take-append-le, take-map, length-map, get_or-map}
use Rattle.std.proofs.lemmas.List.Concat.{flat_map-cons}
use Rattle.std.proofs.lemmas.List.Sums.{count_by-le-length}
use Rattle.std.proofs.lemmas.Option.{get_or_from_slice_get, slice_get_within}
use Rattle.pr_base.specs.Rows.{row_line, row_numbers}
use Rattle.pr_edge.specs.Tape.{Tape, Appends, AppendsFront}
use Rattle.pr_edge.proofs.Appending.{Appends-append}
use Rattle.pr_conf_pipeline.proofs.RowLaws.{length-rows}
use Rattle.pr_conf_pipeline.proofs.ResumeLaws.{take-through}
use Rattle.pr_machine_account.specs.Account.{Account, Offer, Take, Cycle, account, left, done, stalled, entered}
use Rattle.pr_machine_account.specs.Replies.{taken_now}
use Rattle.pr_machine_account.proofs.AccountLaws.{account_push, lawful}
use Rattle.pr_conf.specs.Shape.{Shape}
use Rattle.pr_conf.specs.Through.{steps_of, tapped, output_widths, results_of, result_numbers}
use Rattle.pr_machine.specs.Stands.{Stands, History}
use Rattle.pr_run.proofs.Lines.{front_after, front_longer}
use Rattle.pr_run_script.proofs.RunLaws.{offered_account}
use Rattle.pr_share_text.specs.Text.{mark, marked}
use Rattle.pr_share.specs.Turns.{Going, Setting, stages_of, taken_text, offered_text, HasShown}

-- the line of a result
abbrev pub marked_line : Setting → List ℕ → List ℕ
marked_line s bytes = mark s.number ++ row_line (row_numbers (output_widths s.conf) bytes)

pub marked-append : (k : ℕ) (xs ys : List (List ℕ)) → marked k (xs ++ ys) ≡ marked k xs ++ marked k ys
marked-append k xs ys = flat_map-append (λ (row : List ℕ). mark k ++ row_line row) xs ys

marked_one : (k : ℕ) (row : List ℕ) → marked k (row ∷ []) ≡ mark k ++ row_line row
marked_one k row = flat_map-cons (λ (r : List ℕ). mark k ++ row_line r) row [] ∙ append-nil (mark k ++ row_line row)

-- ---- a take
taken_parts : (b : Bool) (o : Option (List ℕ)) (x : List ℕ) → cond b o None ≡ Some x → (b ≡ true) × (o ≡ Some x)
taken_parts true o x e = (refl, e)
taken_parts false o x e = absurd (let z = e in cc)

module _ (N P : ℕ) (s : Setting) (h : History) (bytes : List ℕ) (is : taken_now (steps_of N P s.conf) (stages_of s) (tapped N s.conf) (account (stages_of s) s.stripes h) ≡ Some bytes) where
  parts : (ltb (account (stages_of s) s.stripes h).taken (left (stages_of s) (account (stages_of s) s.stripes h)) ≡ true)
      × (slice_get (results_of N P s.conf (account (stages_of s) s.stripes h).offered) (account (stages_of s) s.stripes h).taken ≡ Some bytes)
  parts = taken_parts (ltb (account (stages_of s) s.stripes h).taken (left (stages_of s) (account (stages_of s) s.stripes h))) (slice_get (results_of N P s.conf (account (stages_of s) s.stripes h).offered) (account (stages_of s) s.stripes h).taken) bytes is

  pub account_take : account (stages_of s) s.stripes (h ++ Take ∷ []) ≡ record (account (stages_of s) s.stripes h) { taken = (account (stages_of s) s.stripes h).taken + 1 }
  account_take = account_push (stages_of s) s.stripes h Take ∙ cond-true (ltb (account (stages_of s) s.stripes h).taken (left (stages_of s) (account (stages_of s) s.stripes h))) _ _ parts.0

  pub take_text : taken_text N P s (h ++ Take ∷ []) ≡ taken_text N P s h ++ marked_line s bytes
  take_text =
      let a = account (stages_of s) s.stripes h in
      let f = row_numbers (output_widths s.conf) in
      let results = results_of N P s.conf a.offered in
      let rows = result_numbers N P s.conf a.offered in
      let here = slice_get_within results a.taken bytes parts.1 in
      let one : get_or rows a.taken [] ≡ f bytes = get_or-map f results a.taken [] [] here ∙ ap f (get_or_from_slice_get results a.taken bytes [] parts.1) in
      ap (λ (b : Account (List ℕ)). marked s.number (take b.taken (result_numbers N P s.conf b.offered))) account_take
      ∙ (ap (marked s.number) (take_more rows a.taken [] (let n = length-map results f in omega (arith, here)))
      ∙ (marked-append s.number (take a.taken rows) (get_or rows a.taken [] ∷ [])
      ∙ ap (λ xs. marked s.number (take a.taken rows) ++ xs) (ap (λ row. marked s.number (row ∷ [])) one ∙ marked_one s.number (f bytes))))

  pub take_offered : (account (stages_of s) s.stripes (h ++ Take ∷ [])).offered ≡ (account (stages_of s) s.stripes h).offered
  take_offered = ap (λ (b : Account (List ℕ)). b.offered) account_take

  pub shown_take : (m m' : Going N P) (t t' : Tape) → HasShown s m t h → Stands m' s.conf s.stripes (h ++ Take ∷ []) → Appends t t' (marked_line s bytes) → HasShown s m' t' (h ++ Take ∷ [])
  shown_take m m' t t' d stands line = record { stands = stands; text = rw take_text (Appends-append s.tape t t' _ _ d.text line) }

  pub front_take : (m : Going N P) (t t' : Tape) → HasShown s m t h → AppendsFront t t' (marked_line s bytes) → AppendsFront s.tape t' (offered_text N P s h)
  front_take m t t' d line =
      let a = account (stages_of s) s.stripes h in
      let rows = result_numbers N P s.conf a.offered in
      let so_far : taken_text N P s (h ++ Take ∷ []) ≡ marked s.number (take (a.taken + 1) rows) = ap (λ (b : Account (List ℕ)). marked s.number (take b.taken (result_numbers N P s.conf b.offered))) account_take in
      let all : marked s.number (take (a.taken + 1) rows) ++ marked s.number (drop (a.taken + 1) rows) ≡ marked s.number rows =
      sym (marked-append s.number (take (a.taken + 1) rows) (drop (a.taken + 1) rows)) ∙ ap (marked s.number) (take-append-drop (a.taken + 1) rows) in
      let front = front_after s.tape t t' _ _ d.text line in
      let whole = front_longer s.tape t' (taken_text N P s h ++ marked_line s bytes) (marked s.number (drop (a.taken + 1) rows)) front in
      rw (sym take_text, so_far, all) at whole

-- ---- the other events
few_taken : (v p : ℕ) (h : History) → 0 < v → (account v p h).taken ≤ length (account v p h).offered
unfolding done
few_taken v p h hv =
    let a = account v p h in
    let l = lawful v p h hv in
    let n = count_by-le-length (λ e. ltb (e + (v - 1)) a.time) a.entries in
    omega (arith, l.taken, l.few, n)

-- the first results are those of the first samples
first_results : (N P : ℕ) (c : Shape) (j : ℕ) (xs ys : List (List ℕ)) → j ≤ length xs → take j (result_numbers N P c (xs ++ ys)) ≡ take j (result_numbers N P c xs)
first_results N P c j xs ys h =
    let f = row_numbers (output_widths c) in
    take-map f j (results_of N P c (xs ++ ys))
    ∙ (ap (map f) (take-through (steps_of N P c) (length c.stages) (tapped N c) j (xs ++ ys) ∙ (ap (results_of N P c) (take-append-le j xs ys h) ∙ sym (take-through (steps_of N P c) (length c.stages) (tapped N c) j xs)))
    ∙ sym (take-map f j (results_of N P c xs)))

pub offer_text : (N P : ℕ) (s : Setting) (h : History) (x : List ℕ) → 0 < stages_of s → ltb (length (account (stages_of s) s.stripes h).offered - length (account (stages_of s) s.stripes h).entries) 16 ≡ true
    → taken_text N P s (h ++ Offer x ∷ []) ≡ taken_text N P s h
offer_text N P s h x hv room =
    let a = account (stages_of s) s.stripes h in
    ap (λ (b : Account (List ℕ)). marked s.number (take b.taken (result_numbers N P s.conf b.offered))) (offered_account (stages_of s) s.stripes h x room)
    ∙ ap (marked s.number) (first_results N P s.conf a.taken a.offered (x ∷ []) (few_taken (stages_of s) s.stripes h hv))

pub cycle_text : (N P : ℕ) (s : Setting) (h : History) → taken_text N P s (h ++ Cycle ∷ []) ≡ taken_text N P s h
cycle_text N P s h =
    let v = stages_of s in
    let a = account v s.stripes h in
    let text : Account (List ℕ) → List ℕ = λ b. marked s.number (take b.taken (result_numbers N P s.conf b.offered)) in
    ap text (account_push v s.stripes h Cycle)
    ∙ cond_both (stalled v s.stripes a) a (record a { entries = entered v s.stripes a; time = a.time + 1 }) (λ b. text b ≡ text a) (λ e. refl) (λ e. refl)

-- ---- all results were taken
pub length-results : (N P : ℕ) (c : Shape) (xs : List (List ℕ)) → length (result_numbers N P c xs) ≡ length xs
length-results N P c xs =
    length-map (results_of N P c xs) (row_numbers (output_widths c)) ∙ (length-map _ (tapped N c) ∙ length-rows (steps_of N P c) (length c.stages) xs)

pub all_taken_text : (N P : ℕ) (s : Setting) (h : History) → (account (stages_of s) s.stripes h).taken ≡ length (account (stages_of s) s.stripes h).offered → taken_text N P s h ≡ offered_text N P s h
all_taken_text N P s h e =
    let a = account (stages_of s) s.stripes h in
    let n = length-results N P s.conf a.offered in
    ap (marked s.number) (take_all a.taken (result_numbers N P s.conf a.offered) (omega arith))

-- ---- the line that was put
pub line_is : (s : Setting) (number : ℕ) (widths bytes : List ℕ) (t t' : Tape) → s.number ≡ number → widths ≡ output_widths s.conf → Appends t t' (mark number ++ row_line (row_numbers widths bytes)) → Appends t t' (marked_line s bytes)
line_is s number widths bytes t t' e f h = subst (λ n. Appends t t' (mark n ++ row_line (row_numbers (output_widths s.conf) bytes))) (sym e) (subst (λ ws. Appends t t' (mark number ++ row_line (row_numbers ws bytes))) f h)

pub front_is : (s : Setting) (number : ℕ) (widths bytes : List ℕ) (t t' : Tape) → s.number ≡ number → widths ≡ output_widths s.conf → AppendsFront t t' (mark number ++ row_line (row_numbers widths bytes)) → AppendsFront t t' (marked_line s bytes)
front_is s number widths bytes t t' e f h = subst (λ n. AppendsFront t t' (mark n ++ row_line (row_numbers (output_widths s.conf) bytes))) (sym e) (subst (λ ws. AppendsFront t t' (mark number ++ row_line (row_numbers ws bytes))) f h)
