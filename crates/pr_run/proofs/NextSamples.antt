-- A feed was asked once more.
use Rattle.std.proofs.Common.{◌≡◌, ◌≢◌, ℕ, ◌+◌, ◌≤◌, true, false, List, [], ◌∷◌, ◌++◌, length, take, Some, refl, sym, ap, ◌∙◌, subst, arith, inl, inr, true≢false, slice_get}
use Rattle.std.proofs.lemmas.List.{take_more, length-append}
use Rattle.std.proofs.lemmas.Option.{get_or_from_slice_get, slice_get_within}
use Rattle.pr_edge.specs.Files.{Told, IsMissing, HasReadCause, View}
use Rattle.pr_samples.specs.declared.feed.Feed.{Feed}
use Rattle.pr_samples.specs.declared.feed.Got.{Got}
use Rattle.pr_samples.specs.Fed.{Fed, fed_of}
use Rattle.pr_samples.specs.Feed.{name_of, widths_of, given_of, place_of, reads_nothing, SameFile, Tells, fed, StandsFor, Gives}
use Rattle.pr_samples.specs.Got.{is_sample, given_by}
use Rattle.pr_run.specs.Setting.{Setting}
use Rattle.pr_run.specs.Turns.{IsRead, IsUnread, HasRead, MayFollow}

-- what a feed answered, and what it and its shelf then are
pub record IsNext (f f' : Feed) (now now' : View) (numbers : List ℕ) (got : Got) : Type 0 where
  pub told : (file : List ℕ) → Tells now.told (name_of f) file → StandsFor f file → Gives got (given_of f) f' numbers file
  pub given : given_of f' ≡ given_of f + given_by got
  pub file : SameFile f f'
  pub cause : got ≡ Got.ReadFault → HasReadCause now.told (name_of f) now.faults now'.faults
  pub missing : IsMissing now.told (name_of f) → reads_nothing f → got ≡ Got.ReadFault
  pub steady : got ≢ Got.ReadFault → now'.faults ≡ now.faults
  pub later : now.faults ≤ now'.faults
  pub same : now'.told ≡ now.told
  pub reached : now.reach (name_of f) ≡ Some (place_of f) → now'.reach (name_of f) ≡ Some (place_of f')
  pub others : (q : List ℕ) → q ≢ name_of f → now'.reach q ≡ now.reach q

-- the samples that a feed gave, after an answer with these numbers
abbrev pub rows_after : Got → List (List ℕ) → List ℕ → List (List ℕ)
rows_after Got.Sample rows numbers = rows ++ numbers ∷ []
rows_after Got.End rows numbers = rows
rows_after (Got.BadSample line) rows numbers = rows
rows_after Got.ReadFault rows numbers = rows
rows_after (Got.Limit cap) rows numbers = rows

pub same_file : (a b c : Feed) → SameFile a b → SameFile b c → SameFile a c
same_file a b c h g = record { name = g.name ∙ h.name; widths = g.widths ∙ h.widths; limit = g.limit ∙ h.limit; most = g.most ∙ h.most }

pub fed_same : (a b : Feed) (file : List ℕ) → SameFile a b → fed b file ≡ fed a file
fed_same a b file h =
    ap (λ ws. fed_of ws b.limit b.most file) h.widths
    ∙ (ap (λ n. fed_of (widths_of a) n b.most file) h.limit ∙ ap (λ n. fed_of (widths_of a) a.limit n file) h.most)

-- the numbers that a sample gave
pub more_rows : (rows samples : List (List ℕ)) (g : ℕ) (numbers : List ℕ) → rows ≡ take g samples → slice_get samples g ≡ Some numbers → rows ++ numbers ∷ [] ≡ take (g + 1) samples
more_rows rows samples g numbers first e =
    ap (λ xs. xs ++ numbers ∷ []) first
    ∙ (ap (λ x. take g samples ++ x ∷ []) (sym (get_or_from_slice_get samples g numbers [] e)) ∙ sym (take_more samples g [] (slice_get_within samples g numbers e)))

pub none_more : (rows samples : List (List ℕ)) (g g' : ℕ) → rows ≡ take g samples → g' ≡ g + 0 → rows ≡ take g' samples
none_more rows samples g g' first e = first ∙ ap (λ n. take n samples) (omega (arith, e))

read_more : (s : Setting) (f f' : Feed) (file : List ℕ) (rows : List (List ℕ)) (numbers : List ℕ) (got : Got) → SameFile s.feed f → SameFile f f' → given_of f' ≡ given_of f + given_by got
    → IsRead s f file rows Got.Sample → Gives got (given_of f) f' numbers file → IsRead s f' file (rows_after got rows numbers) got
read_more s f f' file rows numbers Got.Sample old new given h g =
    let all = fed_same s.feed f' file (same_file s.feed f f' old new) in
    record {
      first = more_rows rows (fed s.feed file).samples (given_of f) numbers h.first (sym (ap (λ (x : Fed). slice_get x.samples (given_of f)) all) ∙ g.sample)
          ∙ ap (λ n. take n (fed s.feed file).samples) (sym given);
      ends = g.stands;
    }
read_more s f f' file rows numbers Got.End old new given h g = record { first = none_more rows (fed s.feed file).samples (given_of f) (given_of f') h.first given; ends = g }
read_more s f f' file rows numbers (Got.BadSample line) old new given h g = record { first = none_more rows (fed s.feed file).samples (given_of f) (given_of f') h.first given; ends = g }
read_more s f f' file rows numbers Got.ReadFault old new given h g = record { first = none_more rows (fed s.feed file).samples (given_of f) (given_of f') h.first given; ends = g }
read_more s f f' file rows numbers (Got.Limit cap) old new given h g = record { first = none_more rows (fed s.feed file).samples (given_of f) (given_of f') h.first given; ends = g }

pub count_more : (rows : List (List ℕ)) (numbers : List ℕ) (got : Got) (g g' : ℕ) → g ≡ length rows → g' ≡ g + given_by got → g' ≡ length (rows_after got rows numbers)
count_more rows numbers Got.Sample g g' e h = let n = length-append rows (numbers ∷ []) in omega (arith, e, h, n)
count_more rows numbers Got.End g g' e h = omega (arith, e, h)
count_more rows numbers (Got.BadSample line) g g' e h = omega (arith, e, h)
count_more rows numbers Got.ReadFault g g' e h = omega (arith, e, h)
count_more rows numbers (Got.Limit cap) g g' e h = omega (arith, e, h)

-- a cause of a later call is one of both together
pub cause_earlier : (told : Told) (name : List ℕ) (a b n : ℕ) → a ≤ b → HasReadCause told name b n → HasReadCause told name a n
cause_earlier told name a b n h (inl missing) = inl missing
cause_earlier told name a b n h (inr rose) = inr (omega (arith, h, rose))

pub has_next : (s : Setting) (f f' : Feed) (now now' : View) (rows : List (List ℕ)) (numbers : List ℕ) (got : Got) → HasRead s f now rows Got.Sample → IsNext f f' now now' numbers got
    → HasRead s f' now' (rows_after got rows numbers) got
has_next s f f' now now' rows numbers got h n =
    let name : name_of f ≡ name_of s.feed = h.file.name in
    record {
      file = same_file s.feed f f' h.file n.file;
      count = count_more rows numbers got (given_of f) (given_of f') h.count n.given;
      samples = λ file tells.
          (let r = h.samples file tells in
          let now_tells = subst (λ (x : List ℕ). Tells now.told x file) (sym name) (subst (λ (t : Told). Tells t (name_of s.feed) file) (sym h.told) tells) in
          read_more s f f' file rows numbers got h.file n.file n.given r (n.told file now_tells r.ends));
      missing = λ lost.
          (let m = h.missing lost in
          let now_lost = subst (λ (x : List ℕ). IsMissing now.told x) (sym name) (subst (λ (t : Told). IsMissing t (name_of s.feed)) (sym h.told) lost) in
          subst (λ (g : Got). IsUnread g f' × (rows_after g rows numbers ≡ [])) (sym (n.missing now_lost m.0)) (tt, m.1));
      told = n.same ∙ h.told;
      cause = λ e. cause_earlier s.shelf.told (name_of s.feed) s.shelf.faults now.faults now'.faults h.later
          (subst (λ (x : List ℕ). HasReadCause s.shelf.told x now.faults now'.faults) name (subst (λ (t : Told). HasReadCause t (name_of f) now.faults now'.faults) h.told (n.cause e)));
      steady = λ other. n.steady other ∙ h.steady (λ e. let z = e in cc);
      later = (let a = h.later in let b = n.later in omega arith);
      reached = λ e.
          subst (λ (x : List ℕ). now'.reach x ≡ Some (place_of f')) name (n.reached (subst (λ (x : List ℕ). now.reach x ≡ Some (place_of f)) (sym name) (h.reached e)));
      others = λ q other. n.others q (λ e. other (e ∙ name)) ∙ h.others q other;
    }

-- nothing follows other answers than samples
pub nothing_follows : (got : Got) (more : List (List ℕ)) → is_sample got ≡ false → MayFollow got more → more ≡ []
nothing_follows Got.Sample more e h = absurd (true≢false e)
nothing_follows Got.End more e h = h
nothing_follows (Got.BadSample line) more e h = h
nothing_follows Got.ReadFault more e h = h
nothing_follows (Got.Limit cap) more e h = h

pub follows_nil : (got : Got) → MayFollow got []
follows_nil Got.Sample = tt
follows_nil Got.End = refl
follows_nil (Got.BadSample line) = refl
follows_nil Got.ReadFault = refl
follows_nil (Got.Limit cap) = refl

pub is_sample_end : (got : Got) → is_sample got ≡ true → got ≡ Got.Sample
is_sample_end Got.Sample e = refl
is_sample_end Got.End e = absurd (true≢false (sym e))
is_sample_end (Got.BadSample line) e = absurd (true≢false (sym e))
is_sample_end Got.ReadFault e = absurd (true≢false (sym e))
is_sample_end (Got.Limit cap) e = absurd (true≢false (sym e))

pub rows_end : (got : Got) (rows : List (List ℕ)) (numbers : List ℕ) → is_sample got ≡ false → rows_after got rows numbers ≡ rows
rows_end Got.Sample rows numbers e = absurd (true≢false e)
rows_end Got.End rows numbers e = refl
rows_end (Got.BadSample line) rows numbers e = refl
rows_end Got.ReadFault rows numbers e = refl
rows_end (Got.Limit cap) rows numbers e = refl
