-- After the script of a run nothing is under way.
use Rattle.std.proofs.Common.{◌≡◌, ◌≢◌, ◌<◌, ◌≤◌, ◌-◌, ℕ, List, length, drop, refl, sym, ap, ◌∙◌, arith, subst}
use Rattle.std.proofs.lemmas.List.{take_all, drop_all, length-map}
use Rattle.pr_edge.specs.Tape.{Tape}
use Rattle.pr_samples.specs.declared.feed.Feed.{Feed}
use Rattle.pr_samples.specs.Feed.{given_of, widths_of}
use Rattle.pr_machine_account.specs.Account.{Account, account, left, below}
use Rattle.pr_machine_account.proofs.AccountLaws.{lawful, done_below}
use Rattle.pr_machine_account.proofs.ReplyLaws.{left_inside, length-through}
use Rattle.pr_machine_account.proofs.FlowLaws.{below_few}
use Rattle.pr_base.specs.Rows.{row_bytes}
use Rattle.pr_conf.specs.Shape.{Shape}
use Rattle.pr_conf.specs.Through.{steps_of, tapped, results_of}
use Rattle.pr_machine.specs.Stands.{Stands, History, account_of}
use Rattle.pr_run_script.specs.Script.{Held, script}
use Rattle.pr_run_script.proofs.WholeLaws.{whole}
use Rattle.pr_run.specs.declared.ending.RunEnd.{RunEnd}
use Rattle.pr_edge.specs.Files.{View}
use Rattle.pr_run.specs.Setting.{Setting, IsSet, stages_of, pieces}
use Rattle.pr_run.specs.Turns.{Going}
use Rattle.pr_run.specs.Runs.{Ran, events_of}
use Rattle.pr_move.specs.Still.{IsStill}

-- all of these samples were offered, have entered, have left and were taken
pub record IsThrough {R : Type 0} (v : ℕ) (a : Account R) (xs : List R) : Type 0 where
  pub offered : a.offered ≡ xs
  pub entered : length a.entries ≡ length xs
  pub left : left v a ≡ length xs
  pub taken : a.taken ≡ length xs

pub through_script : {R : Type 0} (v p : ℕ) (xs : List R) (stall : List Held) → 0 < v → 2 ≤ p → IsThrough v (account v p (script v p xs stall)) xs
through_script {R} v p xs stall hv hp =
    let a = account v p (script v p xs stall) in
    let w = whole v p xs stall hv hp in
    let l = lawful v p (script v p xs stall) hv in
    let inside = left_inside v p a l in
    let size : length a.offered ≡ length xs = ap length w.offered in
    let taken = w.taken in
    let few = l.taken in
    let entries = l.few in
    let counted : left v a ≡ below (a.time - (v - 1)) a.entries = done_below (v - 1) a.time a.entries in
    let most = below_few (a.time - (v - 1)) a.entries in
    record {
      offered = w.offered;
      entered = omega arith;
      left = omega arith;
      taken = taken;
    }

pub record IsFinal {N P : ℕ} (m : Going N P) (count : ℕ) : Type 0 where
  pub still : IsStill m
  pub left : m.parts.left ≡ count

pub final_of : {N P : ℕ} (m : Going N P) (c : Shape) (p : ℕ) (h : History) (xs : List (List ℕ)) → Stands m c p h → IsThrough (length c.stages) (account_of c p h) xs → IsFinal m (length xs)
final_of {N} {P} m c p h xs stands t =
    let a = account_of c p h in
    let v = length c.stages in
    let rows = results_of N P c a.offered in
    let entered : m.parts.entered ≡ length xs = stands.parts.entered ∙ t.entered in
    let gone : m.parts.left ≡ length xs = stands.parts.gone ∙ t.left in
    let size : length a.offered ≡ length xs = ap length t.offered in
    let many : length rows ≡ length a.offered = length-through (steps_of N P c) v (tapped N c) a.offered in
    record {
      still = record {
        left = entered ∙ sym gone;
        input = ap length (stands.parts.input ∙ drop_all (length a.entries) a.offered (omega (arith, size, t.entered)));
        output = ap length (stands.parts.output
            ∙ (ap (λ (ys : List (List ℕ)). drop a.taken ys) (take_all (left v a) rows (omega (arith, many, size, t.left)))
            ∙ drop_all a.taken rows (omega (arith, many, size, t.taken))));
      };
      left = gone;
    }

-- at every answer but a write fault the script is over
script_of : {N P : ℕ} (s : Setting) (m : Going N P) (f : Feed) (now : View) (t : Tape) (end : RunEnd) (r : Ran s m f now t end) → end ≢ RunEnd.WriteFault → r.history ≡ events_of s (pieces s r.rows)
script_of s m f now t (RunEnd.Done cycles stalls results) r h = r.answer.1.events
script_of s m f now t (RunEnd.BadSample line) r h = r.answer.1.events
script_of s m f now t RunEnd.ReadFault r h = r.answer.1.events
script_of s m f now t RunEnd.WriteFault r h = absurd (h refl)
script_of s m f now t (RunEnd.Limit cap) r h = r.answer.1.events

pub final_run : {N P : ℕ} (s : Setting) (m : Going N P) (f : Feed) (now : View) (t : Tape) (end : RunEnd) → IsSet s → Ran s m f now t end → end ≢ RunEnd.WriteFault → IsFinal m (given_of f)
final_run {N} {P} s m f now t end set r h =
    let xs = pieces s r.rows in
    let stands : Stands m s.conf s.stripes (script (stages_of s) s.stripes xs s.stall) = subst (λ (k : History). Stands m s.conf s.stripes k) (script_of s m f now t end r h) r.stands in
    let count : length xs ≡ given_of f = length-map r.rows (row_bytes (widths_of s.feed)) ∙ sym r.read.count in
    subst (λ (n : ℕ). IsFinal m n) count (final_of m s.conf s.stripes (script (stages_of s) s.stripes xs s.stall) xs stands (through_script (stages_of s) s.stripes xs s.stall set.some set.two))
