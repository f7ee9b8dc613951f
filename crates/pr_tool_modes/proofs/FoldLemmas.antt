-- From a run whose results are dropped to its checkpoint.
use Rattle.std.proofs.Common.{◌≡◌, ◌≤◌, ◌<◌, ◌+◌, ◌∙◌, ℕ, false, List, length, Result, Err, IfErr, sym, subst, inl}
use Rattle.std.proofs.lemmas.List.{length-map}
use Rattle.pr_base.specs.Rows.{row_bytes}
use Rattle.pr_code.specs.Marks.{IsMark}
use Rattle.pr_conf.specs.Shape.{Shape}
use Rattle.pr_conf.specs.After.{conf_after}
use Rattle.pr_machine.specs.Stands.{Stands, History, account_of}
use Rattle.pr_edge.specs.Tape.{untold}
use Rattle.pr_move.proofs.StillLemmas.{through_script, final_of}
use Rattle.pr_run_script.specs.Script.{Held}
use Rattle.pr_edge.specs.Files.{View}
use Rattle.pr_run.specs.Turns.{Going}
use Rattle.pr_samples.specs.Fed.{End}
use Rattle.pr_tool_answers.specs.declared.answers.Answer.{Answer}
use Rattle.pr_tool_modes.specs.Executions.{IsLater}
use Rattle.pr_tool_modes.specs.Jobs.{Job, IsNoStall}
use Rattle.pr_tool_modes.specs.Runs.{Course, course, events_on, HasAll}
use Rattle.pr_tool_modes.specs.Samples.{pieces}
use Rattle.pr_tool_modes.specs.Sources.{most_in}
use Rattle.pr_tool_modes.specs.Stalls.{HasStall}
use Rattle.pr_tool_modes.specs.Folds.{HasMarked, HasRunFor, IsUnasked, IsUnfolded}

-- the machine stands for the whole script of a run on these samples, and so its checkpoint is the one after them
pub marked : {N P : ℕ} (r : Course) (m : Going N P) (rows : List (List ℕ)) (h : History) (before : ℕ) (bytes : List ℕ) → 0 < length r.conf.stages → 2 ≤ r.stripes → Stands m r.conf r.stripes h → h ≡ events_on r rows → HasAll r rows End
    → ((c : Shape) (p : ℕ) (g : History) → Stands m c p g → IsMark N P (before + m.parts.left) (conf_after N P c (account_of c p g).offered) bytes) → HasMarked N P r before bytes
marked {N} {P} r m rows h before bytes some two stands events all mark =
    let xs = pieces r.conf rows in
    let on : Stands m r.conf r.stripes (events_on r rows) = subst (λ (g : History). Stands m r.conf r.stripes g) events stands in
    let through = through_script (length r.conf.stages) r.stripes xs r.turns some two in
    let final = final_of m r.conf r.stripes (events_on r rows) xs on through in
    let count : m.parts.left ≡ length rows = final.left ∙ length-map rows (row_bytes r.conf.inputs) in
    let is = mark r.conf r.stripes (events_on r rows) on in
    record {
      rows = rows;
      all = all;
      mark = subst (λ (n : ℕ). IsMark N P (before + n) (conf_after N P r.conf xs) bytes) count
          (subst (λ (ys : List (List ℕ)). IsMark N P (before + m.parts.left) (conf_after N P r.conf ys) bytes) through.offered is);
    }

-- no samples were asked for, and the call ends so
pub unasked_for : {T : Type 0} (r : Result T Answer) (a : Answer) (c : Shape) (j : Job) (before now : View) → (b : Answer) × (r ≡ Err b) × (b ≡ a) → IsUnasked j before now a → IfErr r (IsUnfolded c j before now)
unasked_for {T} r a c j before now exit unasked =
    subst (λ (o : Result T Answer). IfErr o (IsUnfolded c j before now)) (sym exit.1) (inl (subst (λ (o : Answer). IsUnasked j before now o) (sym exit.2) unasked))

-- what came of the samples of a machine, a feed and a stall text is said of the job that asked for them
pub run_for : (end : Course → Type 0) (c conf : Shape) (j : Job) (stripes most : ℕ) (name : List ℕ) (turns : List Held) (before start now : View)
    → conf ≡ c → stripes ≡ j.stripes → most ≡ most_in j.source → name ≡ j.second → HasStall before.told j.stall turns → IsLater (IsNoStall j) before start
    → end (course conf stripes turns false most name start now untold untold) → HasRunFor (IsNoStall j) c j before now end
run_for end c conf j stripes most name turns before start now shaped striped bound named stall later came =
    let of_shape = subst (λ (x : Shape). end (course x stripes turns false most name start now untold untold)) shaped came in
    let of_stripes = subst (λ (x : ℕ). end (course c x turns false most name start now untold untold)) striped of_shape in
    let of_bound = subst (λ (x : ℕ). end (course c j.stripes turns false x name start now untold untold)) bound of_stripes in
    let of_name = subst (λ (x : List ℕ). end (course c j.stripes turns false (most_in j.source) x start now untold untold)) named of_bound in
    record { turns = turns; stall = stall; start = start; later = later; came = of_name }
