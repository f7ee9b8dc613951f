-- What a run says of its file, its faults and its numbers.
use Rattle.std.proofs.Common.{◌≡◌, ℕ, List, [], length, sym, ap, ◌∙◌, subst, arith}
use Rattle.std.proofs.lemmas.List.{length-map}
use Rattle.pr_control.specs.Counts.{cycles_of}
use Rattle.pr_base.specs.Rows.{row_bytes}
use Rattle.pr_edge.specs.Tape.{Tape}
use Rattle.pr_edge.specs.Files.{IsMissing, HasReadCause, View}
use Rattle.pr_samples.specs.declared.feed.Feed.{Feed}
use Rattle.pr_samples.specs.declared.feed.Got.{Got}
use Rattle.pr_samples.specs.Feed.{name_of, widths_of, given_of, Tells}
use Rattle.pr_machine_account.specs.Account.{account}
use Rattle.pr_machine.specs.Stands.{History}
use Rattle.pr_run_script.specs.Script.{Held, script}
use Rattle.pr_run_script.specs.Counts.{cycles_in}
use Rattle.pr_run_script.proofs.WholeLaws.{whole, counted}
use Rattle.pr_run.specs.declared.ending.RunEnd.{RunEnd}
use Rattle.pr_run.specs.Setting.{Setting, IsSet, stages_of, pieces}
use Rattle.pr_run.specs.Turns.{Going, EndsBy, IsUnread}
use Rattle.pr_run.specs.Runs.{Ran, EndsRun, IsFault, IsCounted, HasNumbers, events_of}

-- ---- the file
pub says_ends : {N P : ℕ} (s : Setting) (m : Going N P) (f : Feed) (now : View) (t : Tape) (result : RunEnd) → Ran s m f now t result → (file : List ℕ) → Tells s.shelf.told (name_of s.feed) file → EndsRun result f file
says_ends s m f now t (RunEnd.Done cycles stalls results) r file tells = subst (λ (got : Got). EndsBy got f file) r.answer.0 (r.read.samples file tells).ends
says_ends s m f now t (RunEnd.BadSample line) r file tells = subst (λ (got : Got). EndsBy got f file) r.answer.0 (r.read.samples file tells).ends
says_ends s m f now t RunEnd.ReadFault r file tells = subst (λ (got : Got). EndsBy got f file) r.answer.0 (r.read.samples file tells).ends
says_ends s m f now t RunEnd.WriteFault r file tells = tt
says_ends s m f now t (RunEnd.Limit cap) r file tells = subst (λ (got : Got). EndsBy got f file) r.answer.0 (r.read.samples file tells).ends

fault_of : {N P : ℕ} (s : Setting) (m : Going N P) (f : Feed) (now : View) (t : Tape) (result : RunEnd) → (r : Ran s m f now t result) → IsUnread r.last f → IsFault result
fault_of s m f now t (RunEnd.Done cycles stalls results) r u = subst (λ (got : Got). IsUnread got f) r.answer.0 u
fault_of s m f now t (RunEnd.BadSample line) r u = subst (λ (got : Got). IsUnread got f) r.answer.0 u
fault_of s m f now t RunEnd.ReadFault r u = tt
fault_of s m f now t RunEnd.WriteFault r u = tt
fault_of s m f now t (RunEnd.Limit cap) r u = subst (λ (got : Got). IsUnread got f) r.answer.0 u

pub says_missing : {N P : ℕ} (s : Setting) (m : Going N P) (f : Feed) (now : View) (t : Tape) (result : RunEnd) → Ran s m f now t result → IsMissing s.shelf.told (name_of s.feed) → IsFault result × (given_of f ≡ 0)
says_missing s m f now t result r lost =
    let missing = r.read.missing lost in
    (fault_of s m f now t result r missing.0, r.read.count ∙ ap length missing.1)

pub says_read_fault : {N P : ℕ} (s : Setting) (m : Going N P) (f : Feed) (now : View) (t : Tape) (result : RunEnd) → Ran s m f now t result → result ≡ RunEnd.ReadFault
    → HasReadCause s.shelf.told (name_of s.feed) s.shelf.faults now.faults
says_read_fault s m f now t result r e = let q = subst (λ (x : RunEnd). Ran s m f now t x) e r in q.read.cause q.answer.0

-- ---- the numbers
numbers_free : (s : Setting) (xs : List (List ℕ)) (h : History) (a b c : ℕ) → IsSet s → s.stall ≡ [] → h ≡ events_of s xs → HasNumbers s h a b c
    → (a ≡ cycles_of (stages_of s) s.stripes (length xs)) × (b ≡ 0) × (c ≡ length xs)
numbers_free s xs h a b c set free is n =
    let v = stages_of s in
    let none : List Held = [] in
    let e : h ≡ script v s.stripes xs [] = is ∙ ap (script v s.stripes xs) free in
    let exact = counted v s.stripes xs set.some set.two in
    let w = whole v s.stripes xs none set.some set.two in
    let time : (account v s.stripes h).time ≡ cycles_of v s.stripes (length xs) = ap (λ (x : History). (account v s.stripes x).time) e ∙ exact.time in
    let asked : cycles_in h ≡ cycles_of v s.stripes (length xs) = ap cycles_in e ∙ exact.cycles in
    (n.cycles ∙ time, omega (arith, n.stalls, asked, time), n.results ∙ (ap (λ (x : History). (account v s.stripes x).taken) e ∙ w.taken))

pub says_counted : {N P : ℕ} (s : Setting) (m : Going N P) (f : Feed) (now : View) (t : Tape) (result : RunEnd) → IsSet s → s.stall ≡ [] → Ran s m f now t result → IsCounted (stages_of s) s.stripes (given_of f) result
says_counted s m f now t (RunEnd.Done a b c) set free r =
    let n = numbers_free s (pieces s r.rows) r.history a b c set free r.answer.1.events r.answer.2 in
    let count : length (pieces s r.rows) ≡ given_of f = length-map r.rows (row_bytes (widths_of s.feed)) ∙ sym r.read.count in
    (n.0 ∙ ap (cycles_of (stages_of s) s.stripes) count, n.1, n.2 ∙ count)
says_counted s m f now t (RunEnd.BadSample line) set free r = tt
says_counted s m f now t RunEnd.ReadFault set free r = tt
says_counted s m f now t RunEnd.WriteFault set free r = tt
says_counted s m f now t (RunEnd.Limit cap) set free r = tt
