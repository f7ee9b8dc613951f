-- From the run of a machine to the run of a configuration on the samples of a file.
use Rattle.std.proofs.Common.{◌≡◌, ◌⊎◌, ◌≤◌, ◌^◌, ℕ, Bool, true, false, List, [], ◌++◌, length, take, drop, map, Some, refl, sym, ap, ap₂, ◌∙◌, subst, arith, append-nil, inl, inr}
use Rattle.std.proofs.lemmas.List.{map-append, take-append-drop, take_all, drop_all}
use Rattle.pr_base.specs.Rows.{row_bytes}
use Rattle.pr_edge.specs.Files.{HasReadCause, View}
use Rattle.pr_edge.specs.Tape.{Tape, Appends, AppendsFront}
use Rattle.pr_samples.specs.declared.feed.Feed.{Feed}
use Rattle.pr_samples.specs.declared.feed.Got.{Got}
use Rattle.pr_samples.specs.declared.stall.Stall.{Stall}
use Rattle.pr_samples.specs.Fed.{Ending, End, BadSample, Limit, fed_of, fed_within}
use Rattle.pr_samples.specs.Feed.{name_of, widths_of, most_of, place_of, fed, SameFile, Tells, IsOver}
use Rattle.pr_machine.specs.Stands.{History, conf_of, stripes_of}
use Rattle.pr_conf.specs.Shape.{Shape}
use Rattle.pr_run_script.specs.Script.{Held, most_cycles}
use Rattle.pr_run_script.specs.Counts.{IsPrefix, cycles_in}
use Rattle.pr_run.specs.declared.ending.RunEnd.{RunEnd}
use Rattle.pr_run.specs.Setting.{Setting, IsSet, setting_of, stall_turns}
use Rattle.pr_run.specs.Setting.{pieces as pieces_in}
use Rattle.pr_run.specs.Turns.{Going, HasRead, EndsBy, IsUnread, MayFollow}
use Rattle.pr_run.specs.Runs.{IsWhole as WholeRun, IsStopped as StoppedRun, Ran, IsAnswer, lines_of, events_of}
use Rattle.pr_run.proofs.NextSamples.{follows_nil}
use Rattle.pr_run.proofs.WholeRuns.{set_of}
use Rattle.pr_tool_modes.specs.Samples.{fed_at_most, fed_to, pieces}
use Rattle.pr_tool_modes.specs.Ready.{IsReady}
use Rattle.pr_tool_modes.specs.Unlogged.{without_log}
use Rattle.pr_tool_modes.specs.Runs.{Course, course, answer_by, events_on, text_on, results_on, ends_well, HasAll, IsWhole, IsBroken, IsBegun, IsStopped, IsEnd, IsRun}
use Rattle.pr_tool_modes.proofs.UnloggedLemmas.{run_is_results, gains_first}

-- ---- the samples
pub fed_is : (widths ws : List ℕ) (limit most bound : ℕ) (file : List ℕ) → ws ≡ widths → limit ≡ 2 ^ 44 → most ≡ bound → fed_of ws limit most file ≡ fed_at_most bound widths file
unfolding fed_at_most
fed_is widths ws limit most bound file w l m = ap (λ (x : List ℕ). fed_of x limit most file) w ∙ (ap (λ (n : ℕ). fed_of widths n most file) l ∙ ap (λ (n : ℕ). fed_of widths (2 ^ 44) n file) m)

reached_is : (widths ws : List ℕ) (limit most bound place reach : ℕ) (file : List ℕ) → ws ≡ widths → limit ≡ 2 ^ 44 → most ≡ bound → place ≡ reach → fed_within ws limit most file place ≡ fed_to bound widths file reach
unfolding fed_to
reached_is widths ws limit most bound place reach file w l m p =
    ap (λ (x : List ℕ). fed_within x limit most file place) w
    ∙ (ap (λ (n : ℕ). fed_within widths n most file place) l
    ∙ (ap (λ (n : ℕ). fed_within widths (2 ^ 44) n file place) m
    ∙ ap (λ (n : ℕ). fed_within widths (2 ^ 44) bound file n) p))

-- ---- a run that was made ready
-- a machine, a stall text, whether the log is asked for, a feed, what the shelf shows and the sink tells before the run and after it
pub record Begun (N P : ℕ) : Type 0 where
  pub machine : Going N P
  pub stall : Stall
  pub log : Bool
  pub feed : Feed
  pub start : View
  pub now : View
  pub old : Tape
  pub new : Tape
  pub ready : IsReady machine feed stall (most_of feed) (name_of feed)

abbrev pub setting : {N P : ℕ} → Begun N P → Setting
setting b = setting_of b.machine b.stall b.feed b.start b.old b.log

abbrev pub course_of : {N P : ℕ} → Begun N P → Course
course_of b = course (conf_of b.machine) (stripes_of b.machine) (stall_turns b.stall) b.log (most_of b.feed) (name_of b.feed) b.start b.now b.old b.new

widths_same : {N P : ℕ} (b : Begun N P) → widths_of b.feed ≡ (conf_of b.machine).inputs
widths_same b = b.ready.opened.inputs

set : {N P : ℕ} (b : Begun N P) → IsSet (setting b)
set b = set_of b.machine b.stall b.feed b.start b.old b.log (widths_same b) b.ready.few b.ready.opened.fresh.few

-- the samples as bytes are the same
pieces_same : {N P : ℕ} (b : Begun N P) (rows : List (List ℕ)) → pieces_in (setting b) rows ≡ pieces (conf_of b.machine) rows
pieces_same b rows = ap (λ (ws : List ℕ). map (row_bytes ws) rows) (widths_same b)

events_same : {N P : ℕ} (b : Begun N P) (rows : List (List ℕ)) → events_of (setting b) (pieces_in (setting b) rows) ≡ events_on (course_of b) rows
events_same b rows = ap (λ (xs : List (List ℕ)). events_of (setting b) xs) (pieces_same b rows)

lines_same : {N P : ℕ} (b : Begun N P) (rows : List (List ℕ)) (good : Bool) → lines_of N P (setting b) (pieces_in (setting b) rows) good ≡ text_on N P (course_of b) rows good
lines_same {N} {P} b rows good = ap (λ (xs : List (List ℕ)). lines_of N P (setting b) xs good) (pieces_same b rows)

results_same : {N P : ℕ} (b : Begun N P) (rows : List (List ℕ)) (good : Bool) → without_log b.log (text_on N P (course_of b) rows good) ≡ results_on N P (course_of b) rows
results_same {N} {P} b rows good =
    let c = conf_of b.machine in
    run_is_results N P b.log c (stripes_of b.machine) (pieces c rows) (stall_turns b.stall) good (set b).some (set b).two

-- the samples of the file are those of the feed, also as it is after the run
first_fed : {N P : ℕ} (b : Begun N P) (file : List ℕ) → fed b.feed file ≡ fed_at_most (most_of b.feed) (conf_of b.machine).inputs file
first_fed b file = fed_is (conf_of b.machine).inputs b.feed.widths.items b.feed.limit b.feed.most b.feed.most file (widths_same b) b.ready.opened.limit refl

last_fed : {N P : ℕ} (b : Begun N P) (f : Feed) → SameFile b.feed f → (file : List ℕ) → fed f file ≡ fed_at_most (most_of b.feed) (conf_of b.machine).inputs file
last_fed b f same file = fed_is (conf_of b.machine).inputs f.widths.items f.limit f.most b.feed.most file (same.widths ∙ widths_same b) (same.limit ∙ b.ready.opened.limit) same.most

rows_first : {N P : ℕ} (b : Begun N P) (f : Feed) (rows : List (List ℕ)) (last : Got) → HasRead (setting b) f b.now rows last → (file : List ℕ) → Tells b.start.told (name_of b.feed) file
    → rows ≡ take (length rows) (fed_at_most (most_of b.feed) (conf_of b.machine).inputs file).samples
rows_first b f rows last read file tells =
    (read.samples file tells).first ∙ ap₂ (λ (n : ℕ) (xs : List (List ℕ)). take n xs) read.count (ap (λ k. k.samples) (first_fed b file))

rows_all : {N P : ℕ} (b : Begun N P) (f : Feed) (rows : List (List ℕ)) (last : Got) (ending : Ending) → HasRead (setting b) f b.now rows last → (file : List ℕ) → Tells b.start.told (name_of b.feed) file
    → IsOver f file ending → rows ≡ (fed_at_most (most_of b.feed) (conf_of b.machine).inputs file).samples
rows_all b f rows last ending read file tells over =
    let same = last_fed b f read.file file in
    let count : length rows ≡ length (fed_at_most (most_of b.feed) (conf_of b.machine).inputs file).samples = sym read.count ∙ (over.all ∙ ap (λ k. length k.samples) same) in
    rows_first b f rows last read file tells ∙ take_all (length rows) (fed_at_most (most_of b.feed) (conf_of b.machine).inputs file).samples (omega (arith, count))

all_of : {N P : ℕ} (b : Begun N P) (f : Feed) (rows : List (List ℕ)) (last : Got) (ending : Ending) → HasRead (setting b) f b.now rows last → (IsUnread last f → ⊥)
    → ((file : List ℕ) → EndsBy last f file → IsOver f file ending) → HasAll (course_of b) rows ending
all_of b f rows last ending read unread over = record {
  there = λ lost. unread (read.missing lost).0;
  steady = read.steady (λ fault. unread (subst (λ (got : Got). IsUnread got f) (sym fault) tt));
  all = λ file tells. rows_all b f rows last ending read file tells (over file (read.samples file tells).ends);
  ends = λ file tells. sym (ap (λ k. k.ending) (last_fed b f read.file file)) ∙ (over file (read.samples file tells).ends).ends;
}

-- ---- how it ended
whole_of : {N P : ℕ} (b : Begun N P) (rows : List (List ℕ)) (h : History) (good : Bool) → WholeRun N P (setting b) rows h b.new good → IsWhole N P (course_of b) rows h good
whole_of {N} {P} b rows h good w =
    let text : Appends b.old b.new (text_on N P (course_of b) rows good) = subst (λ (t : List ℕ). Appends b.old b.new t) (lines_same b rows good) w.text in
    record {
      events = w.events ∙ events_same b rows;
      text = text;
      results = record { text = text_on N P (course_of b) rows good; gained = text; are = results_same b rows good };
    }

broken_of : {N P : ℕ} (b : Begun N P) (f : Feed) (rows : List (List ℕ)) → HasRead (setting b) f b.now rows Got.ReadFault → IsBroken (course_of b) rows
broken_of b f rows read = record {
  cause = read.cause refl;
  reached = λ reach before after file tells. (
      let place : Some (place_of f) ≡ Some reach = sym (read.reached (before ∙ ap (λ (n : ℕ). Some n) (sym b.ready.opened.fresh.bytes.0))) ∙ after in
      let is : place_of f ≡ reach = cc in
      sym read.count ∙ ((read.samples file tells).ends
      ∙ ap (λ k. length k.samples) (reached_is (conf_of b.machine).inputs f.widths.items f.limit f.most b.feed.most f.place reach file (read.file.widths ∙ widths_same b) (read.file.limit ∙ b.ready.opened.limit) read.file.most is))
      );
}

-- where more samples may follow, all samples are those that were read and further ones
begun_on : {N P : ℕ} (b : Begun N P) (rows more : List (List ℕ)) (last : Got) (h : History) (good : Bool) (stopped : StoppedRun N P (setting b) rows last h b.new) → (stopped.closing ≡ true → good ≡ true)
    → MayFollow last (pieces_in (setting b) more) → IsBegun N P (course_of b) (rows ++ more) h good
begun_on {N} {P} b rows more last h good stopped well follow =
    let parts : pieces_in (setting b) rows ++ pieces_in (setting b) more ≡ pieces_in (setting b) (rows ++ more) = sym (map-append (row_bytes (widths_of b.feed)) rows more) in
    let text : AppendsFront b.old b.new (text_on N P (course_of b) (rows ++ more) good) =
    subst (λ (t : List ℕ). AppendsFront b.old b.new t) (ap (λ (xs : List (List ℕ)). lines_of N P (setting b) xs good) parts ∙ lines_same b (rows ++ more) good) (stopped.front (pieces_in (setting b) more) good follow well) in
    record {
      events = subst (λ (w : History). IsPrefix h w) (ap (λ (xs : List (List ℕ)). events_of (setting b) xs) parts ∙ events_same b (rows ++ more)) (stopped.events (pieces_in (setting b) more) follow);
      text = text;
      results = gains_first b.log b.old b.new (text_on N P (course_of b) (rows ++ more) good) (results_on N P (course_of b) (rows ++ more)) (results_same b (rows ++ more) good) text;
    }

-- nothing follows the last sample
none_left : {N P : ℕ} (b : Begun N P) (f : Feed) (rows : List (List ℕ)) (last : Got) (ending : Ending) → HasRead (setting b) f b.now rows last → (file : List ℕ) → Tells b.start.told (name_of b.feed) file
    → IsOver f file ending → pieces_in (setting b) (drop (length rows) (fed_at_most (most_of b.feed) (conf_of b.machine).inputs file).samples) ≡ []
none_left b f rows last ending read file tells over =
    let count = ap length (rows_all b f rows last ending read file tells over) in
    ap (λ (xs : List (List ℕ)). map (row_bytes (widths_of b.feed)) xs) (drop_all (length rows) (fed_at_most (most_of b.feed) (conf_of b.machine).inputs file).samples (omega (arith, count)))

follows : {N P : ℕ} (b : Begun N P) (f : Feed) (rows : List (List ℕ)) (last : Got) → HasRead (setting b) f b.now rows last
    → HasReadCause b.start.told (name_of b.feed) b.start.faults b.now.faults
    ⊎ ((file : List ℕ) → Tells b.start.told (name_of b.feed) file → MayFollow last (pieces_in (setting b) (drop (length rows) (fed_at_most (most_of b.feed) (conf_of b.machine).inputs file).samples)))
follows b f rows Got.Sample read = inr (λ file tells. tt)
follows b f rows Got.End read = inr (λ file tells. none_left b f rows Got.End End read file tells (read.samples file tells).ends)
follows b f rows (Got.BadSample line) read = inr (λ file tells. none_left b f rows (Got.BadSample line) (BadSample line) read file tells (read.samples file tells).ends)
follows b f rows (Got.Limit cap) read = inr (λ file tells. none_left b f rows (Got.Limit cap) (Limit cap) read file tells (read.samples file tells).ends)
follows b f rows Got.ReadFault read = inl (read.cause refl)

-- where the log's last line was begun, the samples are all and good
over_of : {N P : ℕ} (b : Begun N P) (f : Feed) (rows : List (List ℕ)) (last : Got) (h : History) → HasRead (setting b) f b.now rows last → (stopped : StoppedRun N P (setting b) rows last h b.new) → stopped.closing ≡ true
    → HasAll (course_of b) rows End × (h ≡ events_on (course_of b) rows)
over_of b f rows last h read stopped closing =
    let over = stopped.over closing in
    (all_of b f rows last End read (λ u. subst (λ (got : Got). IsUnread got f) over.0 u) (λ file ends. subst (λ (got : Got). EndsBy got f file) over.0 ends), over.1 ∙ events_same b rows)

well_of : {N P : ℕ} (b : Begun N P) (f : Feed) (rows : List (List ℕ)) (last : Got) (h : History) → HasRead (setting b) f b.now rows last → (stopped : StoppedRun N P (setting b) rows last h b.new) → (file : List ℕ) → Tells b.start.told (name_of b.feed) file
    → stopped.closing ≡ true → ends_well (fed_at_most (most_of b.feed) (conf_of b.machine).inputs file).ending ≡ true
well_of b f rows last h read stopped file tells closing =
    ap ends_well ((over_of b f rows last h read stopped closing).0.ends file tells)

all_begun : {N P : ℕ} (b : Begun N P) (f : Feed) (rows : List (List ℕ)) (last : Got) (h : History) → HasRead (setting b) f b.now rows last → StoppedRun N P (setting b) rows last h b.new
    → HasReadCause b.start.told (name_of b.feed) b.start.faults b.now.faults
    ⊎ ((file : List ℕ) → Tells b.start.told (name_of b.feed) file → MayFollow last (pieces_in (setting b) (drop (length rows) (fed_at_most (most_of b.feed) (conf_of b.machine).inputs file).samples)))
    → HasReadCause b.start.told (name_of b.feed) b.start.faults b.now.faults
    ⊎ ((file : List ℕ) → Tells b.start.told (name_of b.feed) file → IsBegun N P (course_of b) (fed_at_most (most_of b.feed) (conf_of b.machine).inputs file).samples h (ends_well (fed_at_most (most_of b.feed) (conf_of b.machine).inputs file).ending))
all_begun b f rows last h read stopped (inl cause) = inl cause
all_begun {N} {P} b f rows last h read stopped (inr follow) = inr (λ file tells. (
    let all = (fed_at_most (most_of b.feed) (conf_of b.machine).inputs file).samples in
    let good = ends_well (fed_at_most (most_of b.feed) (conf_of b.machine).inputs file).ending in
    let parts : rows ++ drop (length rows) all ≡ all = ap (λ (xs : List (List ℕ)). xs ++ drop (length rows) all) (rows_first b f rows last read file tells) ∙ take-append-drop (length rows) all in
    subst (λ (xs : List (List ℕ)). IsBegun N P (course_of b) xs h good) parts (begun_on b rows (drop (length rows) all) last h good stopped (well_of b f rows last h read stopped file tells) (follow file tells))
    ))

stopped_of : {N P : ℕ} (b : Begun N P) (f : Feed) (rows : List (List ℕ)) (last : Got) (h : History) → HasRead (setting b) f b.now rows last → StoppedRun N P (setting b) rows last h b.new → IsStopped N P (course_of b) rows h
stopped_of {N} {P} b f rows last h read stopped = record {
  closing = stopped.closing;
  text = stopped.text;
  over = over_of b f rows last h read stopped;
  begun = subst (λ (xs : List (List ℕ)). IsBegun N P (course_of b) xs h stopped.closing) (append-nil rows) (begun_on b rows [] last h stopped.closing stopped (λ closing. closing) (follows_nil last));
  all = all_begun b f rows last h read stopped (follows b f rows last read);
}

end_of : {N P : ℕ} (b : Begun N P) (f : Feed) (rows : List (List ℕ)) (last : Got) (h : History) (end : RunEnd) → HasRead (setting b) f b.now rows last → IsAnswer N P (setting b) rows last h b.new end
    → IsEnd N P (course_of b) rows h (answer_by end)
end_of b f rows last h (RunEnd.Done cycles stalls results) read answer =
    (all_of b f rows last End read (λ u. subst (λ (got : Got). IsUnread got f) answer.0 u) (λ file ends. subst (λ (got : Got). EndsBy got f file) answer.0 ends), whole_of b rows h true answer.1)
end_of b f rows last h (RunEnd.BadSample line) read answer =
    (all_of b f rows last (BadSample line) read (λ u. subst (λ (got : Got). IsUnread got f) answer.0 u) (λ file ends. subst (λ (got : Got). EndsBy got f file) answer.0 ends), whole_of b rows h false answer.1)
end_of b f rows last h (RunEnd.Limit cap) read answer =
    (all_of b f rows last (Limit cap) read (λ u. subst (λ (got : Got). IsUnread got f) answer.0 u) (λ file ends. subst (λ (got : Got). EndsBy got f file) answer.0 ends), whole_of b rows h false answer.1)
end_of b f rows last h RunEnd.ReadFault read answer =
    (broken_of b f rows (subst (λ (got : Got). HasRead (setting b) f b.now rows got) answer.0 read), whole_of b rows h false answer.1)
end_of b f rows last h RunEnd.WriteFault read answer = stopped_of b f rows last h read answer

pub run_of : {N P : ℕ} (b : Begun N P) (m : Going N P) (f : Feed) (end : RunEnd) → Ran (setting b) m f b.now b.new end → IsRun (course_of b) m (answer_by end)
run_of b m f end ran = record {
  rows = ran.rows;
  history = ran.history;
  stands = ran.stands;
  first = λ file tells. rows_first b f ran.rows ran.last ran.read file tells;
  unread = λ lost. (ran.read.missing lost).1;
  cycles = subst (λ (n : ℕ). cycles_in ran.history ≤ most_cycles (length (conf_of b.machine).stages) (stripes_of b.machine) (stall_turns b.stall) n) ran.read.count ran.cycles;
  end = end_of b f ran.rows ran.last ran.history end ran.read ran.answer;
}

-- ---- by its parts
pub course_same : (c d : Shape) (p q : ℕ) (turns us : List Held) (log : Bool) (most bound : ℕ) (name second : List ℕ) (start now : View) (old new : Tape) → c ≡ d → p ≡ q → turns ≡ us → most ≡ bound → name ≡ second
    → course c p turns log most name start now old new ≡ course d q us log bound second start now old new
course_same c d p q turns us log most bound name second start now old new a b e f g =
    ap (λ (x : Shape). course x p turns log most name start now old new) a
    ∙ (ap (λ (x : ℕ). course d x turns log most name start now old new) b
    ∙ (ap (λ (x : List Held). course d q x log most name start now old new) e
    ∙ (ap (λ (x : ℕ). course d q us log x name start now old new) f
    ∙ ap (λ (x : List ℕ). course d q us log bound x start now old new) g)))
