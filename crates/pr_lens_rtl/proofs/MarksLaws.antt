-- The marks of a configuration: with a marked vector all is marked that its assignment reads.
use Rattle.std.proofs.Common.{◌≡◌, ◌<◌, ◌≤◌, ◌⊎◌, ℕ, zero, suc, ◌+◌, ◌-◌, ◌*◌, ◌==◌, ◌||◌, Bool, true, false, List, [], ◌∷◌, ◌++◌, length, get_or, set, replicate, refl, sym, ap, subst, ◌∙◌, arith, if◌then◌else◌, inl, inr}
use Rattle.std.specs.List.{list_all}
use Rattle.std.proofs.lemmas.List.{length-set, get_or-set_same, get_or-set_other, length-replicate}
use Rattle.std.proofs.lemmas.Bool.{and_parts}
use Rattle.std.proofs.lemmas.Bool.Decides.{nat_tests}
use Rattle.pr_base.specs.declared.choices.Next.{Next}
use Rattle.pr_conf.specs.declared.pes.Pe.{Pe}
use Rattle.pr_conf.specs.declared.outputs.Tap.{Tap}
use Rattle.pr_conf.specs.Shape.{Shape}
use Rattle.pr_conf.specs.Rules.{IsLawful, is_lawful_tap, is_lawful_output, bytes_in}
use Rattle.pr_lens_rtl.specs.declared.vectors.Part.{Part}
use Rattle.pr_lens_rtl.specs.declared.vectors.Net.{Net}
use Rattle.pr_lens_rtl.specs.Verilog.{Expr, Assign}
use Rattle.pr_lens_rtl.specs.Module.{read, read_valid, next_expr, pes_wires, enabled, state_registers, passed_expr, passed_registers, row_registers, stage_registers, stages_wires, stages_registers, hand_wires, tap_expr, tap_wires, taps_of, last_of, module_of}
use Rattle.pr_lens_rtl.specs.Kept.{reads, place, is_root, is_kept, marked, all_marked, needed, next_marked, nexts_marked, stage_needed, stages_needed, marks_of, AreIn, AreClosed, IsClosed}
use Rattle.pr_code.specs.Spelling.{has_bytes, have_tap_bytes, has_pe_bytes}
use Rattle.pr_lens_rtl.proofs.PeLaws.{place_below}
use Rattle.pr_lens_rtl.proofs.ClockLaws.{AreStages}
use Rattle.pr_lens_rtl.proofs.TraceLaws.{are_stages, outputs_taps}
use Rattle.pr_lens_rtl.proofs.KeptLaws.{Below, Rise, IsWire, IsRegister, rise_from, rise_to}
use Rattle.pr_lens_rtl.proofs.OrderLaws.{rows_small, pes_rise, stages_rise, rows_rise, all_rise}

-- ---- one mark
set_more : (l : List Bool) (i j : ℕ) → get_or l j false ≡ true → get_or (set l i true) j false ≡ true
set_more [] i j h = h
set_more (x ∷ l) zero zero h = refl
set_more (x ∷ l) zero (suc j) h = h
set_more (x ∷ l) (suc i) zero h = h
set_more (x ∷ l) (suc i) (suc j) h = set_more l i j h

or_more : (a b c : Bool) → (b ≡ true → c ≡ true) → (a || b) ≡ true → (a || c) ≡ true
or_more true b c f h = refl
or_more false b c f h = f h

or_true : (a : Bool) → (a || true) ≡ true
or_true true = refl
or_true false = refl

kept_more : (marks : List Bool) (m n : Net) → is_kept marks n ≡ true → is_kept (marked marks m) n ≡ true
kept_more marks m n h = go (is_root m)
  where
    go : (b : Bool) → is_kept (if b then marks else set marks (place m) true) n ≡ true
    go true = h
    go false = or_more (is_root n) _ _ (set_more marks (place m) (place n)) h

kept_now : (marks : List Bool) (n : Net) → (is_root n ≡ true) ⊎ (place n < length marks) → is_kept (marked marks n) n ≡ true
kept_now marks n (inl r) = ap (λ q. q || get_or (marked marks n) (place n) false) r
kept_now marks n (inr l) = go (is_root n) refl
  where
    go : (b : Bool) → is_root n ≡ b → is_kept (if b then marks else set marks (place n) true) n ≡ true
    go true r = ap (λ q. q || get_or marks (place n) false) r
    go false r = ap (λ q. is_root n || q) (get_or-set_same marks (place n) true false l) ∙ or_true (is_root n)

kept_other : (marks : List Bool) (m n : Net) → (is_root m ≡ true) ⊎ (place m < place n) → is_kept (marked marks m) n ≡ is_kept marks n
kept_other marks m n (inl r) = ap (λ b. is_kept (if b then marks else set marks (place m) true) n) r
kept_other marks m n (inr l) = go (is_root m)
  where
    go : (b : Bool) → is_kept (if b then marks else set marks (place m) true) n ≡ is_kept marks n
    go true = refl
    go false = ap (λ q. is_root n || q) (get_or-set_other marks (place m) (place n) true false (λ e. omega (arith, l, e)))

marked_length : (marks : List Bool) (n : Net) → length (marked marks n) ≡ length marks
marked_length marks n = go (is_root n)
  where
    go : (b : Bool) → length (if b then marks else set marks (place n) true) ≡ length marks
    go true = refl
    go false = length-set marks (place n) true

-- ---- marks of what is read
-- each is always kept, or stands below a place
abbrev pub Fine : ℕ → List Net → Type 0
Fine q [] = Unit {0}
Fine q (n ∷ ns) = ((is_root n ≡ true) ⊎ (place n < q)) × Fine q ns

fine_or : (p q : ℕ) (n : Net) → p ≤ q → (is_root n ≡ true) ⊎ (place n < p) → (is_root n ≡ true) ⊎ (place n < q)
fine_or p q n l (inl r) = inl r
fine_or p q n l (inr b) = inr (omega (arith, l, b))

fine_more : (p q : ℕ) (ns : List Net) → p ≤ q → Fine p ns → Fine q ns
fine_more p q [] l h = tt
fine_more p q (n ∷ ns) l h = (fine_or p q n l h.0, fine_more p q ns l h.1)

below_fine : (q : ℕ) (ns : List Net) → Below q ns → Fine (suc q) ns
below_fine q [] h = tt
below_fine q (n ∷ ns) h = (inr (omega (arith, h.0)), below_fine q ns h.1)

all_more : (marks : List Bool) (ns : List Net) (n : Net) → is_kept marks n ≡ true → is_kept (all_marked marks ns) n ≡ true
all_more marks [] n h = h
all_more marks (m ∷ ns) n h = all_more (marked marks m) ns n (kept_more marks m n h)

all_length : (marks : List Bool) (ns : List Net) → length (all_marked marks ns) ≡ length marks
all_length marks [] = refl
all_length marks (n ∷ ns) = all_length (marked marks n) ns ∙ marked_length marks n

all_now : (marks : List Bool) (ns : List Net) → Fine (length marks) ns → AreIn (is_kept (all_marked marks ns)) ns
all_now marks [] h = tt
all_now marks (n ∷ ns) h = (
  all_more (marked marks n) ns n (kept_now marks n h.0),
  all_now (marked marks n) ns (subst (λ q. Fine q ns) (sym (marked_length marks n)) h.1),
)

all_other : (marks : List Bool) (ns : List Net) (q : ℕ) (m : Net) → Fine q ns → q ≤ place m → is_kept (all_marked marks ns) m ≡ is_kept marks m
all_other marks [] q m h l = refl
all_other marks (n ∷ ns) q m h l = all_other (marked marks n) ns q m h.1 l ∙ kept_other marks n m (fine_or q (place m) n l h.0)

-- ---- marks of a list of assignments
abbrev pub IsFine : Assign → Type 0
IsFine a = Fine (suc (place a.net)) (reads a.expr)

rise_end : (Q : Assign → Type 0) (lo hi : ℕ) (xs : List Assign) → Rise Q lo hi xs → lo ≤ hi
rise_end Q lo hi [] r = r
rise_end Q lo hi (a ∷ rest) r = let e = rise_end Q (suc (place a.net)) hi rest r.2 in omega (arith, e, r.0)

wires_fine : (lo hi : ℕ) (xs : List Assign) → Rise IsWire lo hi xs → Rise IsFine lo hi xs
wires_fine lo hi [] r = r
wires_fine lo hi (a ∷ rest) r = (r.0, below_fine (place a.net) (reads a.expr) r.1.1, wires_fine (suc (place a.net)) hi rest r.2)

step_marks : Bool → List Bool → Assign → List Bool
step_marks b marks a = if b then all_marked marks (reads a.expr) else marks

step_more : (b : Bool) (marks : List Bool) (a : Assign) (n : Net) → is_kept marks n ≡ true → is_kept (step_marks b marks a) n ≡ true
unfolding step_marks
step_more true marks a n h = all_more marks (reads a.expr) n h
step_more false marks a n h = h

step_length : (b : Bool) (marks : List Bool) (a : Assign) → length (step_marks b marks a) ≡ length marks
unfolding step_marks
step_length true marks a = all_length marks (reads a.expr)
step_length false marks a = refl

step_other : (b : Bool) (marks : List Bool) (a : Assign) (m : Net) → IsFine a → suc (place a.net) ≤ place m → is_kept (step_marks b marks a) m ≡ is_kept marks m
unfolding step_marks
step_other true marks a m f l = all_other marks (reads a.expr) (suc (place a.net)) m f l
step_other false marks a m f l = refl

needed_more : (xs : List Assign) (marks : List Bool) (n : Net) → is_kept marks n ≡ true → is_kept (needed xs marks) n ≡ true
unfolding step_marks
needed_more [] marks n h = h
needed_more (a ∷ rest) marks n h = step_more (is_kept (needed rest marks) a.net) (needed rest marks) a n (needed_more rest marks n h)

needed_length : (xs : List Assign) (marks : List Bool) → length (needed xs marks) ≡ length marks
unfolding step_marks
needed_length [] marks = refl
needed_length (a ∷ rest) marks = step_length (is_kept (needed rest marks) a.net) (needed rest marks) a ∙ needed_length rest marks

needed_other : (xs : List Assign) (lo hi : ℕ) (marks : List Bool) (m : Net) → Rise IsFine lo hi xs → hi ≤ place m → is_kept (needed xs marks) m ≡ is_kept marks m
unfolding step_marks
needed_other [] lo hi marks m r l = refl
needed_other (a ∷ rest) lo hi marks m r l =
    step_other (is_kept (needed rest marks) a.net) (needed rest marks) a m r.1 (let e = rise_end IsFine (suc (place a.net)) hi rest r.2 in omega (arith, e, l))
    ∙ needed_other rest (suc (place a.net)) hi marks m r.2 l

in_more : (K L : Net → Bool) (ns : List Net) → ((n : Net) → K n ≡ true → L n ≡ true) → AreIn K ns → AreIn L ns
in_more K L [] f h = tt
in_more K L (n ∷ ns) f h = (f n h.0, in_more K L ns f h.1)

-- marks that are set further down leave a list closed
closed_more : (Q : Assign → Type 0) (K L : Net → Bool) (lo hi : ℕ) (xs : List Assign) → ((n : Net) → K n ≡ true → L n ≡ true) → ((m : Net) → lo ≤ place m → L m ≡ K m)
    → Rise Q lo hi xs → AreClosed K xs → AreClosed L xs
closed_more Q K L lo hi [] f g r h = tt
closed_more Q K L lo hi (a ∷ rest) f g r h = (
  λ k. in_more K L (reads a.expr) f (h.0 (sym (g a.net r.0) ∙ k)),
  closed_more Q K L (suc (place a.net)) hi rest f (λ m l. g m (omega (arith, r.0, l))) r.2 h.1,
)

needed_closed : (xs : List Assign) (lo hi : ℕ) (marks : List Bool) → Rise IsFine lo hi xs → hi ≤ length marks → AreClosed (is_kept (needed xs marks)) xs
needed_closed [] lo hi marks r l = tt
needed_closed (a ∷ rest) lo hi marks r l = go (is_kept (needed rest marks) a.net) refl (needed_closed rest (suc (place a.net)) hi marks r.2 l)
  where
    later : List Bool
    later = needed rest marks

    within : suc (place a.net) ≤ length (needed rest marks)
    within = let e = rise_end IsFine (suc (place a.net)) hi rest r.2 in let f = needed_length rest marks in omega (arith, e, f, l)

    go : (b : Bool) → is_kept (needed rest marks) a.net ≡ b → AreClosed (is_kept (needed rest marks)) rest
        → AreClosed (is_kept (if b then all_marked (needed rest marks) (reads a.expr) else needed rest marks)) (a ∷ rest)
    go true e h = (
      λ k. all_now (needed rest marks) (reads a.expr) (fine_more (suc (place a.net)) (length (needed rest marks)) (reads a.expr) within r.1),
      closed_more IsFine (is_kept (needed rest marks)) (is_kept (all_marked (needed rest marks) (reads a.expr))) (suc (place a.net)) hi rest
          (λ n q. all_more (needed rest marks) (reads a.expr) n q) (λ m q. all_other (needed rest marks) (reads a.expr) (suc (place a.net)) m r.1 q) r.2 h,
    )
    go false e h = (λ k. absurd (cc), h)

-- ---- what a state becomes
next_more : (next : Next) (s col : ℕ) (marks : List Bool) (n : Net) → is_kept marks n ≡ true → is_kept (next_marked next s col marks) n ≡ true
next_more Next.Keep s col marks n h = h
next_more Next.Output s col marks n h = kept_more marks (Net.Of Part.Output s col) n h
next_more Next.A s col marks n h = kept_more marks (Net.Of Part.A s col) n h

next_length : (next : Next) (s col : ℕ) (marks : List Bool) → length (next_marked next s col marks) ≡ length marks
next_length Next.Keep s col marks = refl
next_length Next.Output s col marks = marked_length marks (Net.Of Part.Output s col)
next_length Next.A s col marks = marked_length marks (Net.Of Part.A s col)

next_other : (next : Next) (s col : ℕ) (marks : List Bool) (m : Net) → col < 64 → s * 2048 + 578 ≤ place m → is_kept (next_marked next s col marks) m ≡ is_kept marks m
next_other Next.Keep s col marks m c l = refl
next_other Next.Output s col marks m c l = kept_other marks (Net.Of Part.Output s col) m (inr (omega (arith, c, l)))
next_other Next.A s col marks m c l = kept_other marks (Net.Of Part.A s col) m (inr (omega (arith, c, l)))

nexts_more : (s col : ℕ) (pes : List Pe) (marks : List Bool) (n : Net) → is_kept marks n ≡ true → is_kept (nexts_marked s col pes marks) n ≡ true
nexts_more s col [] marks n h = h
nexts_more s col (pe ∷ pes) marks n h = next_more pe.next s col (nexts_marked s (suc col) pes marks) n (nexts_more s (suc col) pes marks n h)

nexts_length : (s col : ℕ) (pes : List Pe) (marks : List Bool) → length (nexts_marked s col pes marks) ≡ length marks
nexts_length s col [] marks = refl
nexts_length s col (pe ∷ pes) marks = next_length pe.next s col (nexts_marked s (suc col) pes marks) ∙ nexts_length s (suc col) pes marks

nexts_other : (s col : ℕ) (pes : List Pe) (marks : List Bool) (m : Net) → col + length pes ≤ 64 → s * 2048 + 578 ≤ place m → is_kept (nexts_marked s col pes marks) m ≡ is_kept marks m
nexts_other s col [] marks m c l = refl
nexts_other s col (pe ∷ pes) marks m c l = next_other pe.next s col (nexts_marked s (suc col) pes marks) m (omega (arith, c)) l ∙ nexts_other s (suc col) pes marks m (omega (arith, c)) l

root_kept : (marks : List Bool) (n : Net) → is_root n ≡ true → is_kept marks n ≡ true
root_kept marks n r = ap (λ q. q || get_or marks (place n) false) r

valid_root : (s : ℕ) → is_root (read_valid s) ≡ true
valid_root zero = refl
valid_root (suc s) = refl

states_closed : (s col : ℕ) (pes : List Pe) (marks last : List Bool) → ((n : Net) → is_kept (nexts_marked s col pes marks) n ≡ true → is_kept last n ≡ true)
    → s * 2048 + 578 ≤ length marks → col + length pes ≤ 64 → AreClosed (is_kept last) (state_registers s col pes)
states_closed s col [] marks last f l c = tt
states_closed s col (pe ∷ pes) marks last f l c = (
  λ k. closed pe.next k f,
  states_closed s (suc col) pes marks last (λ n h. f n (next_more pe.next s col (nexts_marked s (suc col) pes marks) n h)) l (omega (arith, c)),
)
  where
    rest : List Bool
    rest = nexts_marked s (suc col) pes marks

    long : length (nexts_marked s (suc col) pes marks) ≡ length marks
    long = nexts_length s (suc col) pes marks

    valid : is_kept last (read_valid s) ≡ true
    valid = root_kept last (read_valid s) (valid_root s)

    closed : (next : Next) → is_kept last (Net.Of Part.State s col) ≡ true → ((n : Net) → is_kept (next_marked next s col (nexts_marked s (suc col) pes marks)) n ≡ true → is_kept last n ≡ true)
        → AreIn (is_kept last) (Net.Reset ∷ Net.InReady ∷ read_valid s ∷ ((reads (next_expr next s col) ++ (Net.Of Part.State s col ∷ [])) ++ (Net.Of Part.State s col ∷ [])))
    closed Next.Keep k g = (refl, (refl, (valid, (k, (k, (k, tt))))))
    closed Next.Output k g = (refl, (refl, (valid, (g (Net.Of Part.Output s col) (kept_now (nexts_marked s (suc col) pes marks) (Net.Of Part.Output s col) (inr (omega (arith, long, l, c)))), (k, (k, tt))))))
    closed Next.A k g = (refl, (refl, (valid, (g (Net.Of Part.A s col) (kept_now (nexts_marked s (suc col) pes marks) (Net.Of Part.A s col) (inr (omega (arith, long, l, c)))), (k, (k, tt))))))

-- ---- the rows
passed_fine : (s reg col at : ℕ) (pe : Pe) → col < 64 → IsFine (enabled (Net.Of Part.Row s at) (passed_expr s reg col at pe))
passed_fine s reg col at pe c = go (pe.write == reg) (s == 0) refl
  where
    go : (a b : Bool) → (s == 0) ≡ b → Fine (suc (s * 2048 + 2 + (576 + at))) (Net.InReady ∷ (reads (if a then read Part.Output s col else if b then Expr.Byte 0 else read Part.Row (s - 1) at) ++ (Net.Of Part.Row s at ∷ [])))
    go true b e = (inl refl, (inr (omega (arith, c)), (inr (omega arith), tt)))
    go false true e = (inl refl, (inr (omega arith), tt))
    go false false e = (inl refl, (inr (let far : 0 < s = grind (arith, nat_tests) in omega (arith, far)), (inr (omega arith), tt)))

AreFine : List Assign → Type 0
AreFine [] = Unit {0}
AreFine (a ∷ rest) = IsFine a × AreFine rest

are_both : (xs ys : List Assign) → AreFine xs → AreFine ys → AreFine (xs ++ ys)
unfolding AreFine
are_both [] ys h k = k
are_both (x ∷ xs) ys h k = (h.0, are_both xs ys h.1 k)

rise_fine : (Q : Assign → Type 0) (lo hi : ℕ) (xs : List Assign) → Rise Q lo hi xs → AreFine xs → Rise IsFine lo hi xs
unfolding AreFine
rise_fine Q lo hi [] r h = r
rise_fine Q lo hi (a ∷ rest) r h = (r.0, h.0, rise_fine Q (suc (place a.net)) hi rest r.2 h.1)

bank_fine : (s reg col at : ℕ) (pes : List Pe) → col + length pes ≤ 64 → AreFine (passed_registers s reg col at pes)
unfolding AreFine
bank_fine s reg col at [] c = tt
bank_fine s reg col at (pe ∷ pes) c = (passed_fine s reg col at pe (omega (arith, c)), bank_fine s reg (suc col) (suc at) pes (omega (arith, c)))

rows_fine : (N s count : ℕ) (pes : List Pe) → length pes ≤ 64 → AreFine (row_registers N s count pes)
unfolding AreFine
rows_fine N s zero pes c = tt
rows_fine N s (suc count) pes c = are_both (row_registers N s count pes) (passed_registers s (suc count) 0 (count * N) pes) (rows_fine N s count pes c) (bank_fine s (suc count) 0 (count * N) pes (omega (arith, c)))

closed_both : (K : Net → Bool) (xs ys : List Assign) → AreClosed K xs → AreClosed K ys → AreClosed K (xs ++ ys)
closed_both K [] ys h k = k
closed_both K (x ∷ xs) ys h k = (h.0, closed_both K xs ys h.1 k)

-- ---- the stages
module _ (N P bus : ℕ) (columns : N ≤ 64) (registers : P ≤ 16) where
  module _ (s : ℕ) (pes : List Pe) (long : length pes ≡ N) (marks : List Bool) (room : suc s * 2048 ≤ length marks) where
    rows : Rise IsFine (s * 2048 + 578) (suc s * 2048) (row_registers N s (P - 1) pes)
    rows =
        let most = rows_small N P columns registers in
        rise_fine IsRegister (s * 2048 + 578) (suc s * 2048) (row_registers N s (P - 1) pes)
        (rise_to IsRegister (s * 2048 + 578) (s * 2048 + 578 + (P - 1) * N) (suc s * 2048) (row_registers N s (P - 1) pes) (rows_rise N P bus columns registers s (P - 1) pes long) (omega (arith, most)))
        (rows_fine N s (P - 1) pes (omega (arith, long)))

    abbrev by_rows : List Bool
    by_rows = needed (row_registers N s (P - 1) pes) marks

    abbrev by_nexts : List Bool
    by_nexts = nexts_marked s 0 pes by_rows

    nexts_long : length by_nexts ≡ length marks
    nexts_long = nexts_length s 0 pes by_rows ∙ needed_length (row_registers N s (P - 1) pes) marks

    module _ (wires : Rise IsWire (s * 2048 + 66) (s * 2048 + 578) (pes_wires N s 0 pes)) where
      abbrev by_wires : List Bool
      by_wires = needed (pes_wires N s 0 pes) by_nexts

      fine_wires : Rise IsFine (s * 2048 + 66) (s * 2048 + 578) (pes_wires N s 0 pes)
      fine_wires = wires_fine (s * 2048 + 66) (s * 2048 + 578) (pes_wires N s 0 pes) wires

      last_more : (n : Net) → is_kept by_nexts n ≡ true → is_kept by_wires n ≡ true
      last_more n h = needed_more (pes_wires N s 0 pes) by_nexts n h

      stage_more : (n : Net) → is_kept marks n ≡ true → is_kept by_wires n ≡ true
      stage_more n h = last_more n (nexts_more s 0 pes by_rows n (needed_more (row_registers N s (P - 1) pes) marks n h))

      -- what stands above the wires
      rows_other : (m : Net) → s * 2048 + 578 ≤ place m → is_kept by_wires m ≡ is_kept by_rows m
      rows_other m l = needed_other (pes_wires N s 0 pes) (s * 2048 + 66) (s * 2048 + 578) by_nexts m fine_wires l ∙ nexts_other s 0 pes by_rows m (omega (arith, long)) l

      stage_other : (m : Net) → suc s * 2048 ≤ place m → is_kept by_wires m ≡ is_kept marks m
      stage_other m l = rows_other m (omega (arith, l)) ∙ needed_other (row_registers N s (P - 1) pes) (s * 2048 + 578) (suc s * 2048) marks m rows l

      wires_closed : AreClosed (is_kept by_wires) (pes_wires N s 0 pes)
      wires_closed = needed_closed (pes_wires N s 0 pes) (s * 2048 + 66) (s * 2048 + 578) by_nexts fine_wires (let e = nexts_long in omega (arith, e, room))

      rows_closed : AreClosed (is_kept by_wires) (row_registers N s (P - 1) pes)
      rows_closed =
          closed_more IsFine (is_kept by_rows) (is_kept by_wires) (s * 2048 + 578) (suc s * 2048) (row_registers N s (P - 1) pes)
          (λ n h. last_more n (nexts_more s 0 pes by_rows n h)) rows_other rows (needed_closed (row_registers N s (P - 1) pes) (s * 2048 + 578) (suc s * 2048) marks rows room)

      registers_closed : AreClosed (is_kept by_wires) (stage_registers N P s pes)
      registers_closed = (
        λ k. (refl, (refl, (root_kept by_wires (read_valid s) (valid_root s), (refl, tt)))),
        closed_both (is_kept by_wires) (state_registers s 0 pes) (row_registers N s (P - 1) pes)
            (states_closed s 0 pes by_rows by_wires last_more (let e = needed_length (row_registers N s (P - 1) pes) marks in omega (arith, e, room)) (omega (arith, long))) rows_closed,
      )

  record AreMarked (s : ℕ) (stages : List (List Pe)) (marks : List Bool) : Type 0 where
    pub long : length (stages_needed N P s stages marks) ≡ length marks
    pub more : (n : Net) → is_kept marks n ≡ true → is_kept (stages_needed N P s stages marks) n ≡ true
    pub wires_in : AreClosed (is_kept (stages_needed N P s stages marks)) (stages_wires N s stages)
    pub registers_in : AreClosed (is_kept (stages_needed N P s stages marks)) (stages_registers N P s stages)

  stages_closed : (s : ℕ) (stages : List (List Pe)) (marks : List Bool) → AreStages N P bus s stages → (s + length stages) * 2048 ≤ length marks → AreMarked s stages marks
  stages_closed s [] marks are room = record { long = refl; more = λ n h. h; wires_in = tt; registers_in = tt }
  stages_closed s (pes ∷ stages) marks are room =
      let above = stages_closed (suc s) stages marks are.1 (omega (arith, room)) in
      let next = stages_needed N P (suc s) stages marks in
      let long : length pes ≡ N = are.0.long in
      let fits : suc s * 2048 ≤ length next = let e = above.long in omega (arith, e, room) in
      let wires : Rise IsWire (s * 2048 + 66) (s * 2048 + 578) (pes_wires N s 0 pes) =
      rise_from IsWire (s * 2048 + 66) (s * 2048 + 66 + 0 * 8) (s * 2048 + 578) (pes_wires N s 0 pes) (omega arith)
      (rise_to IsWire (s * 2048 + 66 + 0 * 8) (s * 2048 + 66 + (0 + length pes) * 8) (s * 2048 + 578) (pes_wires N s 0 pes) (pes_rise N P bus columns registers s 0 pes are.0.lawful) (omega (arith, long))) in
      let last = stage_needed N P s pes next in
      let more = stage_more s pes long next fits wires in
      let other = stage_other s pes long next fits wires in
      record {
        long = needed_length (pes_wires N s 0 pes) (nexts_marked s 0 pes (needed (row_registers N s (P - 1) pes) next)) ∙ nexts_long s pes long next fits ∙ above.long;
        more = λ n h. more n (above.more n h);
        wires_in = closed_both (is_kept last) (pes_wires N s 0 pes) (stages_wires N (suc s) stages) (wires_closed s pes long next fits wires)
            (closed_more IsWire (is_kept next) (is_kept last) (suc s * 2048 + 1) ((suc s + length stages) * 2048 + 1) (stages_wires N (suc s) stages) more (λ m l. other m (omega (arith, l)))
            (stages_rise N P bus columns registers (suc s) stages are.1) above.wires_in);
        registers_in = closed_both (is_kept last) (stage_registers N P s pes) (stages_registers N P (suc s) stages) (registers_closed s pes long next fits wires)
            (closed_more IsRegister (is_kept next) (is_kept last) (suc s * 2048 + 1) ((suc s + length stages) * 2048 + 1) (stages_registers N P (suc s) stages) more (λ m l. other m (omega (arith, l)))
            (all_rise N P bus columns registers (suc s) stages are.1) above.registers_in);
      }

  -- ---- the outputs
  taps_closed : (last k : ℕ) (taps : List Tap) (marks : List Bool) (K : Net → Bool) → list_all (is_lawful_tap N P) taps ≡ true → suc last * 2048 ≤ length marks
      → ((n : Net) → is_kept (needed (tap_wires N last k taps) marks) n ≡ true → K n ≡ true) → AreClosed K (tap_wires N last k taps)
  taps_closed last k [] marks K l room f = tt
  taps_closed last k (tap ∷ taps) marks K l room f =
      let both = and_parts (is_lawful_tap N P tap) (list_all (is_lawful_tap N P) taps) l in
      let rest = needed (tap_wires N last (suc k) taps) marks in (
        λ q. in_more (is_kept (all_marked rest (reads (tap_expr N last tap)))) K (reads (tap_expr N last tap)) f (all_now rest (reads (tap_expr N last tap)) (tap_fine tap both.0)),
        taps_closed last (suc k) taps marks K both.1 room (λ n h. f n (all_more rest (reads (tap_expr N last tap)) n h)),
      )
    where
      tap_fine : (tap : Tap) → is_lawful_tap N P tap ≡ true → Fine (length (needed (tap_wires N last (suc k) taps) marks)) (reads (tap_expr N last tap))
      tap_fine (Tap.Const b) l = tt
      tap_fine (Tap.Reg col reg) l =
          let c : col < N = grind (arith, nat_tests) in
          let r : 0 < reg = grind (arith, nat_tests) in
          let p : reg < P = grind (arith, nat_tests) in
          let at = place_below N P col reg c r p in
          let most = rows_small N P columns registers in
          let e = needed_length (tap_wires N last (suc k) taps) marks in
          (inr (omega (arith, at, most, e, room)), tt)

pub closed_law : (N P : ℕ) (c : Shape) → IsLawful N P c → has_bytes c ≡ true → IsClosed (is_kept (marks_of N P c)) (module_of N P c)
unfolding marks_of module_of
closed_law N P c lawful bytes =
    let are = are_stages N P (bytes_in c.inputs) 0 c.stages lawful.columns lawful.registers lawful.stages (and_parts (list_all have_tap_bytes c.outputs) (list_all (list_all has_pe_bytes) c.stages) bytes).1 in
    let taps = outputs_taps N P c.outputs (and_parts _ (list_all (is_lawful_output N P) c.outputs) lawful.outputs).1 in
    let empty = replicate (length c.stages * 2048) false in
    let marks = needed (tap_wires N (last_of c) 0 (taps_of c)) empty in
    let size : length empty ≡ length c.stages * 2048 = length-replicate (length c.stages * 2048) false in
    let long : length marks ≡ length c.stages * 2048 = needed_length (tap_wires N (last_of c) 0 (taps_of c)) empty ∙ size in
    let all = stages_closed N P (bytes_in c.inputs) lawful.most_columns lawful.most_registers 0 c.stages marks are (omega (arith, long)) in
    let K = is_kept (stages_needed N P 0 c.stages marks) in
    record {
      roots = λ n r. root_kept (stages_needed N P 0 c.stages marks) n r;
      wires = closed_both K (stages_wires N 0 c.stages) (hand_wires (last_of c) ++ tap_wires N (last_of c) 0 (taps_of c)) all.wires_in (
        λ k. (refl, (refl, tt)),
        (
          λ k. (refl, tt),
          taps_closed N P (bytes_in c.inputs) lawful.most_columns lawful.most_registers (last_of c) 0 (taps_of c) empty K taps (let s = lawful.some in omega (arith, s, size)) all.more,
        ),
      );
      registers = all.registers_in;
    }
