-- A feed was asked once more.
use Rattle.std.proofs.Common.{◌≡◌, ℕ, ◌+◌, List, [], take, sym, ap, ◌∙◌, subst}
use Rattle.pr_edge.specs.Files.{Told, IsMissing, View}
use Rattle.pr_samples.specs.declared.feed.Feed.{Feed}
use Rattle.pr_samples.specs.declared.feed.Got.{Got}
use Rattle.pr_samples.specs.Fed.{Fed}
use Rattle.pr_samples.specs.Feed.{name_of, given_of, SameFile, Tells, fed, Gives}
use Rattle.pr_samples.specs.Got.{given_by}
use Rattle.std.proofs.Common.{slice_get}
use Rattle.pr_run.specs.Turns.{IsUnread}
use Rattle.pr_run.proofs.NextSamples.{IsNext, rows_after, same_file, fed_same, more_rows, none_more, count_more}
use Rattle.pr_share.specs.Fed.{IsFedBy, HasFed}

fed_more : (first f f' : Feed) (file : List ℕ) (rows : List (List ℕ)) (numbers : List ℕ) (got : Got) → SameFile first f → SameFile f f' → given_of f' ≡ given_of f + given_by got
    → IsFedBy first f file rows Got.Sample → Gives got (given_of f) f' numbers file → IsFedBy first f' file (rows_after got rows numbers) got
fed_more first f f' file rows numbers Got.Sample old new given h g =
    let all = fed_same first f' file (same_file first f f' old new) in
    record {
      front = more_rows rows (fed first file).samples (given_of f) numbers h.front (sym (ap (λ (x : Fed). slice_get x.samples (given_of f)) all) ∙ g.sample)
          ∙ ap (λ n. take n (fed first file).samples) (sym given);
      ends = g.stands;
    }
fed_more first f f' file rows numbers Got.End old new given h g = record { front = none_more rows (fed first file).samples (given_of f) (given_of f') h.front given; ends = g }
fed_more first f f' file rows numbers (Got.BadSample line) old new given h g = record { front = none_more rows (fed first file).samples (given_of f) (given_of f') h.front given; ends = g }
fed_more first f f' file rows numbers Got.ReadFault old new given h g = record { front = none_more rows (fed first file).samples (given_of f) (given_of f') h.front given; ends = g }
fed_more first f f' file rows numbers (Got.Limit cap) old new given h g = record { front = none_more rows (fed first file).samples (given_of f) (given_of f') h.front given; ends = g }

pub next_fed : (first f f' : Feed) (now now' : View) (rows : List (List ℕ)) (numbers : List ℕ) (got : Got) → HasFed first now.told f rows Got.Sample → IsNext f f' now now' numbers got
    → HasFed first now'.told f' (rows_after got rows numbers) got
next_fed first f f' now now' rows numbers got h n =
    let name : name_of f ≡ name_of first = h.file.name in
    record {
      file = same_file first f f' h.file n.file;
      count = count_more rows numbers got (given_of f) (given_of f') h.count n.given;
      samples = λ file tells.
          (let before = subst (λ (t : Told). Tells t (name_of first) file) n.same tells in
          let r = h.samples file before in
          fed_more first f f' file rows numbers got h.file n.file n.given r (n.told file (subst (λ (x : List ℕ). Tells now.told x file) (sym name) before) r.ends));
      missing = λ lost.
          (let before = subst (λ (t : Told). IsMissing t (name_of first)) n.same lost in
          let m = h.missing before in
          subst (λ (g : Got). IsUnread g f' × (rows_after g rows numbers ≡ [])) (sym (n.missing (subst (λ (x : List ℕ). IsMissing now.told x) (sym name) before) m.0)) (tt, m.1));
    }
