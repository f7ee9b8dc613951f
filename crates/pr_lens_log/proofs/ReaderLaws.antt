-- Logs that are read piece by piece.
use Rattle.std.proofs.Common.{◌≡◌, ◌≢◌, ◌+◌, ◌-◌, ◌<◌, ◌≤◌, ◌++◌, ◌∷◌, ◌∙◌, [], ℕ, List, Option, Some, None, length, take, drop, get_or, inl, inr, refl, sym, ap, subst, arith, append_assoc, length-append, length-drop}
use Rattle.std.specs.Prelude.{slice_range, IfErr, OnOk, Result, Ok, Err, Vec}
use Rattle.std.specs.declared.alloc.Global.{Global}
use Rattle.std.proofs.lemmas.Bool.{cases_eq, cases_lt}
use Rattle.std.proofs.Math.Seq.{take-add}
use Rattle.std.proofs.lemmas.List.{append-nil, drop-append-le, drop_all, get_or-append_right, get_or-drop, get_or-take, get_or_append_left, length-take-le, nil_from_length, take-append-drop, take_rest}
use Rattle.pr_lens_text.specs.Places.{HasNoEnd, IsEndBefore}
use Rattle.pr_lens_log.specs.declared.excerpts.Choice.{Choice}
use Rattle.pr_lens_log.specs.declared.excerpts.Excerpt.{Excerpt}
use Rattle.pr_lens_log.specs.declared.lines.Logged.{Logged}
use Rattle.pr_lens_log.specs.declared.logs.Log.{Log}
use Rattle.pr_lens_log.specs.declared.logs.LogFault.{LogFault}
use Rattle.pr_lens_log.specs.declared.logs.LogFault.TheVariants.{BadLine, Memory, NoCycle}
use Rattle.pr_lens_log.specs.declared.readers.Reader.{Reader}
use Rattle.pr_lens_log.specs.declared.totals.Totals.{Totals}
use Rattle.pr_lens_log.specs.declared.windows.Part.{Part}
use Rattle.pr_lens_log.specs.Excerpts.{AreTotals, IsExcerpt, first_in, most, stripes_to}
use Rattle.pr_lens_log.specs.Pasts.{IsPast}
use Rattle.pr_lens_log.specs.Windows.{part_in}
use Rattle.pr_lens_log.specs.Lines.{IsCycleLine, IsEndLine, IsResultLine}
use Rattle.pr_lens_log.specs.Logs.{AreDrawn, HasTale, IsBadAt, IsKept, IsLineFault, IsLineOf, IsLogAnswer, IsLogOf, IsTaken, IsUnlawful, TakesLine, Tale, TellsNoCycle, TellsTo, adds, counts, keeps, most_line_bytes, nothing, one_more, with_cycle}
use Rattle.pr_lens_log.specs.Readers.{HasRead, HasReadAll, HasRoom, HasTaken, IsAtLine}
use Rattle.pr_lens_log.proofs.ExcerptLaws.{most_more, past_cut, slice_same}
use Rattle.pr_lens_log.proofs.LineLaws.{end_is_other, result_is_other}

-- ---- what holds of a call that went well, or failed
pub on_ok : {A E : Type 0} (r : Result A E) (P Q : Type 0) → OnOk r P → (P → Q) → OnOk r Q
on_ok (Ok x) P Q h f = f h
on_ok (Err e) P Q h f = tt

pub on_both : {A E : Type 0} (r : Result A E) (P Q R : Type 0) → OnOk r P → OnOk r Q → (P → Q → R) → OnOk r R
on_both (Ok x) P Q R h k f = f h k
on_both (Err e) P Q R h k f = tt

pub if_err : {A E : Type 0} (r : Result A E) (P Q : E → Type 0) → IfErr r P → ((e : E) → P e → Q e) → IfErr r Q
if_err (Ok x) P Q h f = tt
if_err (Err e) P Q h f = f e h

-- ---- a text that goes on
module _ (text more : List ℕ) where
  -- a line that ends within the text has a line feed
  feed_before : (lines to : ℕ) (tale : Tale) → TellsTo text lines to tale → to < length text → IsEndBefore text to
  feed_before lines to tale nothing less = inl refl
  feed_before lines to tale (one_more before line short takes) less = elim line.ends [ inl end ↦ absurd (omega (arith, end, less)) | inr feed ↦ inr feed ]

  line_more : (from to : ℕ) → IsLineOf text from to → get_or text (to - 1) 0 ≡ 10 → IsLineOf (text ++ more) from to
  line_more from to line feed = record {
    some = line.some;
    within = omega (arith, line.within, length-append text more);
    none = λ k low high is. line.none k low high (sym (get_or_append_left text more 0 k (omega (arith, high, line.within))) ∙ is);
    ends = inr (get_or_append_left text more 0 (to - 1) (omega (arith, line.some, line.within)) ∙ feed);
  }

  -- its first lines tell the same
  pub tells_more : (lines to : ℕ) (tale : Tale) → TellsTo text lines to tale → IsEndBefore text to → TellsTo (text ++ more) lines to tale
  tells_more lines to tale nothing begins = nothing
  tells_more lines to tale (one_more {lines = l} {from = f} {to = t} {before = b} {after = a} before line short takes) begins =
      let some = line.some in
      let within = line.within in
      let feed : get_or text (t - 1) 0 ≡ 10 = elim begins [ inl zero ↦ absurd (omega (arith, zero, some)) | inr ten ↦ ten ] in
      one_more (tells_more l f b before (feed_before l f b before (omega (arith, some, within)))) (line_more f t line feed) short
      (subst (λ (s : List ℕ). TakesLine s b a) (sym (slice_same text more f t within)) takes)

-- ---- the stripes that are drawn
few_stripes : (configured : Option (ℕ × ℕ)) → AreDrawn configured → stripes_to configured ≤ 256
few_stripes None drawn = omega arith
few_stripes (Some (stage, stripe)) drawn = omega (arith, drawn.1)

few_taken : (line : List ℕ) (before after : Tale) → TakesLine line before after → most stripes_to before.cycles ≤ 256 → most stripes_to after.cycles ≤ 256
few_taken line before after (adds {logged = logged} is drawn) few =
    let one = few_stripes logged.turn.configured drawn in
    let all = most_more stripes_to before.cycles logged in
    omega (arith, one, all, few)
few_taken line before after (counts is other) few = few
few_taken line before after (keeps is other) few = few

pub few_told : (text : List ℕ) (lines to : ℕ) (tale : Tale) → TellsTo text lines to tale → most stripes_to tale.cycles ≤ 256
few_told text lines to tale nothing = omega arith
few_told text lines to tale (one_more {lines = l} {from = f} {before = b} {after = a} before line short takes) = few_taken (slice_range text f to) b a takes (few_told text l f b before)

-- ---- a line more
module _ (choice : Choice) (line : List ℕ) (tale : Tale) (log : Log) where
  pub taken_end : IsEndLine line → HasTale choice 256 tale log → IsTaken choice line tale log
  taken_end is has = record { after = tale; takes = keeps is (end_is_other line is); has = has }

  pub taken_result : (old : Log) → IsResultLine line → HasTale choice 256 tale old → log.totals ≡ record old.totals { results = old.totals.results + 1 } → log.excerpt ≡ old.excerpt
      → IsTaken choice line tale log
  taken_result old is has totals excerpt = record {
    after = record { cycles = tale.cycles; written = tale.written; results = tale.results + 1 };
    takes = counts is (result_is_other line is);
    has = record {
      totals = subst (λ (t : Totals). AreTotals tale.cycles (tale.results + 1) t) (sym totals) (record {
        count = has.totals.count;
        results_are = ap (λ n. n + 1) has.totals.results_are;
        first = has.totals.first;
        last = has.totals.last;
        stages = has.totals.stages;
        stripes = has.totals.stripes;
      });
      excerpt = subst (λ (e : Excerpt). IsExcerpt choice 256 tale.cycles tale.written e) (sym excerpt) has.excerpt;
    };
  }

  pub taken_cycle : (logged : Logged) (results : ℕ) → IsCycleLine line logged → AreDrawn logged.turn.configured → results ≡ tale.results
      → AreTotals (tale.cycles ++ logged ∷ []) results log.totals → IsExcerpt choice 256 (tale.cycles ++ logged ∷ []) (tale.written ++ results ∷ []) log.excerpt
      → IsTaken choice line tale log
  taken_cycle logged results is drawn same totals excerpt = record {
    after = with_cycle tale logged;
    takes = adds is drawn;
    has = record {
      totals = subst (λ (n : ℕ). AreTotals (tale.cycles ++ logged ∷ []) n log.totals) same totals;
      excerpt = subst (λ (n : ℕ). IsExcerpt choice 256 (tale.cycles ++ logged ∷ []) (tale.written ++ n ∷ []) log.excerpt) same excerpt;
    };
  }

module _ (text : List ℕ) (from to : ℕ) (r : Reader) (at : IsAtLine text from to r) where
  -- the pending line came into the log
  pub line_taken : (log : Log) → IsTaken r.choice r.pending.items at.taken.tale log → HasTaken r.choice text (r.lines + 1) to log
  line_taken log taken = record {
    tale = taken.after;
    tells = one_more at.taken.tells at.line at.short (subst (λ (s : List ℕ). TakesLine s at.taken.tale taken.after) at.pending taken.takes);
    has = taken.has;
  }

  -- or it is none of a log
  pub line_bad : IsUnlawful r.pending.items → IsBadAt text (r.lines + 1)
  line_bad wrong = record {
    before = r.lines;
    from = from;
    to = to;
    told = at.taken.tale;
    tells = at.taken.tells;
    here = at.line;
    wrong = inr (subst (λ (s : List ℕ). IsUnlawful s) at.pending wrong);
    number = refl;
  }

-- a text with such a line is no log
pub line_answer : (text : List ℕ) (f : LogFault) → IsLineFault text f → IsLogAnswer text f
line_answer text NoCycle h = absurd h
line_answer text (BadLine line) h = h
line_answer text (Memory e) h = h

-- ---- a line that goes on
-- it ends in this text, with at least so many bytes before its end
record EndsPast (text : List ℕ) (from least : ℕ) : Type 0 where
  pub to : ℕ
  pub line : IsLineOf text from to
  pub far : least ≤ to

-- it ends with this line feed
ends_here : (front more : List ℕ) (from : ℕ) → from < length front → HasNoEnd front from (length front - 1) → get_or front (length front - 1) 0 ≡ 10 → EndsPast (front ++ more) from (length front)
ends_here front more from some free feed = record {
  to = length front;
  line = record {
    some = some;
    within = omega (arith, length-append front more);
    none = λ k low high is. free k low high (sym (get_or_append_left front more 0 k (omega (arith, high))) ∙ is);
    ends = inr (get_or_append_left front more 0 (length front - 1) (omega (arith, some)) ∙ feed);
  };
  far = omega arith;
}

-- it goes on to the next line feed, or to the end
goes_on : (more front : List ℕ) (from : ℕ) → from < length front → HasNoEnd front from (length front) → EndsPast (front ++ more) from (length front)
goes_on [] front from some free = subst (λ (t : List ℕ). EndsPast t from (length front)) (sym (append-nil front)) (record {
  to = length front;
  line = record { some = some; within = omega arith; none = λ k low high is. free k low (omega (arith, high)) is; ends = inl refl };
  far = omega arith;
})
goes_on (x ∷ xs) front from some free =
    let one : List ℕ = front ++ x ∷ [] in
    let size : length one ≡ length front + 1 = length-append front (x ∷ []) in
    let none : length front - length front ≡ 0 = omega arith in
    let place : length one - 1 ≡ length front = omega (arith, size) in
    let last : get_or one (length front) 0 ≡ x = get_or-append_right front (x ∷ []) (length front) (length front) 0 refl (omega arith) ∙ ap (λ n. get_or (x ∷ []) n 0) none in
    let inside : from < length one = omega (arith, some, size) in
    let before : (k : ℕ) → from ≤ k → k < length front → get_or one k 0 ≢ 10 = λ k low high is. free k low high (sym (get_or_append_left front (x ∷ []) 0 k high) ∙ is) in
    let e : EndsPast (one ++ xs) from (length one) = elim (cases_eq x 10) [
      | inl feed ↦ ends_here one xs from inside (λ k low high. before k low (omega (arith, high, size))) (ap (λ n. get_or one n 0) place ∙ (last ∙ feed))
      | inr other ↦ goes_on xs one from inside (λ k low high is. elim (cases_lt k (length front)) [
        | inl less ↦ before k low less is
        | inr most ↦ (let here : k ≡ length front = omega (arith, most, high, size) in other (sym last ∙ (ap (λ n. get_or one n 0) (sym here) ∙ is)))
      ])
    ] in
    subst (λ (t : List ℕ). EndsPast t from (length front)) (append_assoc front (x ∷ []) xs) (record { to = e.to; line = e.line; far = omega (arith, e.far, size) })

line_end : (more front : List ℕ) (from : ℕ) → from < length front → HasNoEnd front from (length front - 1) → EndsPast (front ++ more) from (length front)
line_end more front from some free = elim (cases_eq (get_or front (length front - 1) 0) 10) [
  | inl feed ↦ ends_here front more from some free feed
  | inr last ↦ goes_on more front from some (λ k low high is. elim (cases_lt k (length front - 1)) [
    | inl less ↦ free k low less is
    | inr most ↦ (let place : k ≡ length front - 1 = omega (arith, most, high) in last (ap (λ n. get_or front n 0) (sym place) ∙ is))
  ])
]

-- ---- bytes of a line more
module _ (text bytes : List ℕ) (old : Reader) (h : HasRead text old) (some : 0 < length bytes) (none : HasNoEnd bytes 0 (length bytes - 1)) where
  abbrev whole : List ℕ
  whole = text ++ bytes

  size : length whole ≡ length text + length bytes
  size = length-append text bytes

  whole_at : (k : ℕ) → k < length whole → (k < length text → get_or text k 0 ≢ 10) → (k < length whole - 1) → get_or whole k 0 ≢ 10
  whole_at k less before inside is = elim (cases_lt k (length text)) [
    | inl low ↦ before low (sym (get_or_append_left text bytes 0 k low) ∙ is)
    | inr high ↦ none (k - length text) (omega arith) (omega (arith, size, inside, high)) (sym (get_or-append_right text bytes (length text) k 0 refl high) ∙ is)
  ]

  whole_none : HasNoEnd whole h.from (length whole - 1)
  whole_none k low high is = whole_at k (omega (arith, high)) (λ less. h.none k low less) high is

  last_is : get_or whole (length whole - 1) 0 ≡ get_or bytes (length bytes - 1) 0
  last_is =
      let place : length whole - 1 - length text ≡ length bytes - 1 = omega (arith, size, some) in
      get_or-append_right text bytes (length text) (length whole - 1) 0 refl (omega (arith, size, some)) ∙ ap (λ n. get_or bytes n 0) place

  whole_tells : (more : List ℕ) → TellsTo (whole ++ more) old.lines h.from h.taken.tale
  whole_tells more = subst (λ (t : List ℕ). TellsTo t old.lines h.from h.taken.tale) (sym (append_assoc text bytes more)) (tells_more text (bytes ++ more) old.lines h.from h.taken.tale h.taken.tells h.begins)

  whole_begins : IsEndBefore whole h.from
  whole_begins = elim (cases_lt 0 h.from) [
    | inl less ↦ inr (elim h.begins [
      | inl zero ↦ absurd (omega (arith, zero, less))
      | inr feed ↦ get_or_append_left text bytes 0 (h.from - 1) (omega (arith, less, h.within)) ∙ feed
    ])
    | inr least ↦ inl (omega arith)
  ]

  pending_size : length old.pending.items ≡ length text - h.from
  pending_size = ap length h.pending ∙ length-drop h.from text

  -- with them the line has too many bytes, wherever it ends
  pub put_long : (more : List ℕ) → most_line_bytes < length old.pending.items + length bytes → IsBadAt (whole ++ more) (old.lines + 1)
  put_long more long =
      let e = line_end more whole h.from (omega (arith, h.within, size, some)) whole_none in
      record {
        before = old.lines;
        from = h.from;
        to = e.to;
        told = h.taken.tale;
        tells = whole_tells more;
        here = e.line;
        wrong = inl (omega (arith, long, pending_size, size, e.far, h.within));
        number = refl;
      }

  module _ (mid : Reader) (choice : mid.choice ≡ old.choice) (lines : mid.lines ≡ old.lines) (log : mid.log ≡ old.log) (pending : mid.pending.items ≡ old.pending.items ++ bytes)
      (fits : length old.pending.items + length bytes ≤ most_line_bytes) where
    whole_pending : mid.pending.items ≡ drop h.from whole
    whole_pending = pending ∙ (ap (λ (s : List ℕ). s ++ bytes) h.pending ∙ sym (drop-append-le h.from text bytes h.within))

    whole_short : length whole ≤ h.from + most_line_bytes
    whole_short = omega (arith, fits, pending_size, size, h.within)

    whole_taken : (more : List ℕ) → HasTaken mid.choice (whole ++ more) mid.lines h.from mid.log
    whole_taken more = record {
      tale = h.taken.tale;
      tells = subst (λ (n : ℕ). TellsTo (whole ++ more) n h.from h.taken.tale) (sym lines) (whole_tells more);
      has = subst (λ (l : Log). HasTale mid.choice 256 h.taken.tale l) (sym log) (subst (λ (c : Choice). HasTale c 256 h.taken.tale old.log) (sym choice) h.taken.has);
    }

    -- they have no line feed
    pub put_open : get_or bytes (length bytes - 1) 0 ≢ 10 → HasRead whole mid
    put_open last = record {
      from = h.from;
      within = omega (arith, h.within, size);
      begins = whole_begins;
      taken = subst (λ (t : List ℕ). HasTaken mid.choice t mid.lines h.from mid.log) (append-nil whole) (whole_taken []);
      short = whole_short;
      pending = whole_pending;
      none = λ k low high is. elim (cases_lt k (length whole - 1)) [
        | inl less ↦ whole_none k low less is
        | inr most ↦ (let place : k ≡ length whole - 1 = omega (arith, most, high) in last (sym last_is ∙ (ap (λ n. get_or whole n 0) (sym place) ∙ is)))
      ];
    }

    -- they end with one, whatever follows
    pub put_line : (more : List ℕ) → get_or bytes (length bytes - 1) 0 ≡ 10 → IsAtLine (whole ++ more) h.from (length whole) mid
    put_line more feed =
        let inside : h.from < length whole = omega (arith, h.within, size, some) in
        record {
          taken = whole_taken more;
          line = record {
            some = inside;
            within = omega (arith, length-append whole more);
            none = λ k low high is. whole_none k low high (sym (get_or_append_left whole more 0 k (omega (arith, high))) ∙ is);
            ends = inr (get_or_append_left whole more 0 (length whole - 1) (omega (arith, inside)) ∙ (last_is ∙ feed));
          };
          short = whole_short;
          pending = whole_pending ∙ (sym (take_rest whole h.from) ∙ sym (slice_same whole more h.from (length whole) (omega arith)));
        }

    pub put_last : get_or bytes (length bytes - 1) 0 ≡ 10 → IsAtLine whole h.from (length whole) mid
    put_last feed = subst (λ (t : List ℕ). IsAtLine t h.from (length whole) mid) (append-nil whole) (put_line [] feed)

    pub put_done : (new : Reader) → get_or bytes (length bytes - 1) 0 ≡ 10 → HasTaken new.choice whole new.lines (length whole) new.log → new.pending.items ≡ [] → HasRead whole new
    put_done new feed taken empty = record {
      from = length whole;
      within = omega arith;
      begins = inr (last_is ∙ feed);
      taken = taken;
      short = omega arith;
      pending = empty ∙ sym (drop_all (length whole) whole (omega arith));
      none = λ k low high is. absurd (omega (arith, low, high));
    }

-- ---- the end of a text
module _ (text : List ℕ) (r : Reader) (h : HasRead text r) where
  pub end_empty : length r.pending.items ≡ 0 → HasReadAll text r
  end_empty empty =
      let there : h.from ≡ length text = omega (arith, empty, ap length h.pending, length-drop h.from text, h.within) in
      record { taken = subst (λ (n : ℕ). HasTaken r.choice text r.lines n r.log) there h.taken }

  pub end_pending : 0 < length r.pending.items → IsAtLine text h.from (length text) r
  end_pending some = record {
    taken = h.taken;
    line = record {
      some = omega (arith, some, ap length h.pending, length-drop h.from text);
      within = omega arith;
      none = λ k low high is. h.none k low (omega (arith, high)) is;
      ends = inl refl;
    };
    short = h.short;
    pending = h.pending ∙ sym (take_rest text h.from);
  }

-- ---- whole logs
module _ (choice : Choice) (text : List ℕ) (lines : ℕ) (log : Log) (h : HasTaken choice text lines (length text) log) where
  pub no_cycle_told : log.totals.count ≡ 0 → TellsNoCycle text
  no_cycle_told none = record {
    lines = lines;
    told = h.tale;
    tells = h.tells;
    none = nil_from_length h.tale.cycles (omega (arith, none, h.has.totals.count));
  }

  pub log_told : (new : Log) → (log.totals.count ≡ 0 → ⊥) → ((tale : Tale) → most stripes_to tale.cycles ≤ 256 → HasTale choice 256 tale log → IsKept choice tale new) → IsLogOf choice text new
  log_told new some kept =
      let count = h.has.totals.count in
      record {
        tale = h.tale;
        is = record { some = omega (arith, some, count); lines = lines; tells = h.tells };
        kept = kept h.tale (few_told text lines (length text) h.tale h.tells) h.has;
      }

-- only the stripes that are named are looked at
pub cut_told : (choice : Choice) (tale : Tale) (old new : Log) → most stripes_to tale.cycles ≤ 256 → HasTale choice 256 tale old
    → new.totals ≡ old.totals → new.excerpt.part ≡ old.excerpt.part → new.excerpt.cycles ≡ old.excerpt.cycles → new.excerpt.written ≡ old.excerpt.written
    → new.excerpt.past.board.stages.items ≡ take old.totals.stripes old.excerpt.past.board.stages.items
    → new.excerpt.past.entered ≡ old.excerpt.past.entered → new.excerpt.past.left ≡ old.excerpt.past.left → IsKept choice tale new
cut_told choice tale old new few h totals part cycles written board entered left =
    let stripes = h.totals.stripes in
    record {
      totals = subst (λ (t : Totals). AreTotals tale.cycles tale.results t) (sym totals) h.totals;
      excerpt = record {
        even = h.excerpt.even;
        part = part ∙ h.excerpt.part;
        past = subst (λ (p : Part). IsPast (most stripes_to tale.cycles) (take p.start tale.cycles) new.excerpt.past) (sym part)
            (past_cut 256 (most stripes_to tale.cycles) (take old.excerpt.part.start tale.cycles) old.excerpt.past new.excerpt.past few h.excerpt.past
            (board ∙ ap (λ n. take n old.excerpt.past.board.stages.items) stripes) entered left);
        cycles_are = ap (λ (v : Vec Logged Global). v.items) cycles ∙ (h.excerpt.cycles_are ∙ ap (λ (p : Part). first_in choice.most (part_in p tale.cycles)) (sym part));
        written_are = ap (λ (v : Vec ℕ Global). v.items) written ∙ (h.excerpt.written_are ∙ ap (λ (p : Part). first_in choice.most (slice_range tale.written p.start p.end)) (sym part));
      };
    }

-- ---- pieces, line by line
pub room_less : (r : Reader) (m n : ℕ) → n ≤ m → HasRoom r m → HasRoom r n
room_less r m n le h = record { few = h.few; room = omega (arith, h.room, le) }

module _ (piece : List ℕ) (start next : ℕ) (line : IsLineOf piece start next) where
  abbrev bytes_of_line : List ℕ
  bytes_of_line = slice_range piece start next

  line_size : length bytes_of_line ≡ next - start
  line_size =
      let within = line.within in
      let some = line.some in
      length-take-le (next - start) (drop start piece) (omega (arith, within, some, length-drop start piece))

  pub line_some : 0 < length bytes_of_line
  line_some = omega (arith, line_size, line.some)

  pub line_open : HasNoEnd bytes_of_line 0 (length bytes_of_line - 1)
  line_open k low high is =
      let size = line_size in
      let some = line.some in
      line.none (start + k) (omega arith) (omega (arith, high, size, some))
      (sym (get_or-take (next - start) (drop start piece) k 0 (omega (arith, high, size)) ∙ get_or-drop start piece k 0) ∙ is)

  pub line_joins : take start piece ++ bytes_of_line ≡ take next piece
  line_joins =
      let some = line.some in
      let place : start + (next - start) ≡ next = omega (arith, some) in
      sym (take-add start (next - start) piece) ∙ ap (λ n. take n piece) place

  pub read_joins : (text : List ℕ) → text ++ take start piece ++ bytes_of_line ≡ text ++ take next piece
  read_joins text = append_assoc text (take start piece) bytes_of_line ∙ ap (λ (l : List ℕ). text ++ l) line_joins

  pub bad_joins : (text more : List ℕ) → text ++ take start piece ++ bytes_of_line ++ (drop next piece ++ more) ≡ text ++ piece ++ more
  bad_joins text more =
      ap (λ (l : List ℕ). l ++ (drop next piece ++ more)) (read_joins text)
      ∙ (sym (append_assoc (text ++ take next piece) (drop next piece) more)
      ∙ ap (λ (l : List ℕ). l ++ more) (append_assoc text (take next piece) (drop next piece) ∙ ap (λ (l : List ℕ). text ++ l) (take-append-drop next piece)))
