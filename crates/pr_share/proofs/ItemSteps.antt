-- One turn of a program, from the parked configuration to the parked configuration.
use Rattle.std.proofs.Common.{◌≡◌, ℕ, true, false, List, ◌++◌, length, map, Option, Some, None, is_some, refl, sym, ap, ◌∙◌, subst, arith, true≢false}
use Rattle.pr_base.specs.Rows.{row_bytes}
use Rattle.pr_edge.specs.Files.{Told, HasReadCause}
use Rattle.pr_edge.specs.Tape.{Tape, Appends, AppendsFront}
use Rattle.pr_samples.specs.declared.feed.Feed.{Feed}
use Rattle.pr_samples.specs.declared.feed.Got.{Got}
use Rattle.pr_samples.specs.Feed.{name_of, widths_of}
use Rattle.pr_samples.specs.Got.{is_sample}
use Rattle.pr_machine_account.specs.Account.{account}
use Rattle.pr_conf.specs.Shape.{Shape}
use Rattle.pr_conf.specs.Through.{result_numbers}
use Rattle.pr_conf.specs.After.{conf_after}
use Rattle.pr_conf.proofs.AfterLaws.{inputs_after, further_after}
use Rattle.pr_machine.specs.declared.parking.Parked.{Parked}
use Rattle.pr_machine.specs.Parking.{parked_conf}
use Rattle.pr_share_text.specs.Text.{marked}
use Rattle.pr_share.specs.declared.items.ShareItem.{ShareItem}
use Rattle.pr_share.specs.Fed.{HasFed}
use Rattle.pr_share.specs.Turns.{Going, Setting, pieces, IsTurned, IsCut}
use Rattle.pr_share.specs.Items.{conf_in, last_of, ended_after, HasTaken, turn_text, world, IsTurn, IsHalf}
use Rattle.pr_share.proofs.Parts.{pieces-append}

last_same : (last : Got) → last_of (ended_after last) ≡ last
last_same Got.Sample = refl
last_same Got.End = refl
last_same (Got.BadSample line) = refl
last_same Got.ReadFault = refl
last_same (Got.Limit cap) = refl

ended_no_sample : (last : Got) → is_some (ended_after last) ≡ true → is_sample (last_of (ended_after last)) ≡ false
ended_no_sample Got.Sample e = absurd (true≢false (sym e))
ended_no_sample Got.End e = refl
ended_no_sample (Got.BadSample line) e = refl
ended_no_sample Got.ReadFault e = refl
ended_no_sample (Got.Limit cap) e = refl

none_sample : (last : Got) → ended_after last ≡ None → is_sample last ≡ true
none_sample Got.Sample e = refl
none_sample Got.End e = absurd (let z = e in cc)
none_sample (Got.BadSample line) e = absurd (let z = e in cc)
none_sample Got.ReadFault e = absurd (let z = e in cc)
none_sample (Got.Limit cap) e = absurd (let z = e in cc)

-- the configuration that was taken out
pub parked_is : {N P : ℕ} (o taken : Option (Parked N P)) (parked : Parked N P) → taken ≡ o → taken ≡ Some parked → parked_conf parked ≡ conf_in o
parked_is o taken parked e f = sym (ap conf_in (sym e ∙ f))

pub inputs_are : {N P : ℕ} (told : Told) (first old : ShareItem N P) (rows : List (List ℕ)) (conf : Shape) → HasTaken told first old rows → conf ≡ conf_in old.parked → widths_of old.feed ≡ conf.inputs
inputs_are {N} {P} told first old rows conf h is =
    h.fed.file.widths ∙ (h.inputs ∙ sym (ap (λ (c : Shape). c.inputs) (is ∙ h.conf) ∙ inputs_after N P (conf_in first.parked) (pieces (conf_in first.parked) rows)))

pub fed_yet : {N P : ℕ} (told : Told) (first old : ShareItem N P) (rows : List (List ℕ)) → HasTaken told first old rows → old.ended ≡ None → HasFed first.feed told old.feed rows Got.Sample
fed_yet told first old rows h e = subst (λ (o : Option Got). HasFed first.feed told old.feed rows (last_of o)) e h.fed

-- the turn's setting
abbrev pub turn_setting : {N P : ℕ} → ShareItem N P → List (List ℕ) → Shape → ℕ → ℕ → Tape → Setting
turn_setting first rows conf stripes number t = record { conf = conf; stripes = stripes; number = number; first = first.feed; earlier = rows; tape = t }

module _ {N P : ℕ} (told : Told) (first old : ShareItem N P) (rows : List (List ℕ)) (number stripes : ℕ) (t t' : Tape) (h : HasTaken told first old rows) (conf : Shape) (is : conf ≡ conf_in old.parked) where
  conf_is : conf ≡ conf_after N P (conf_in first.parked) (pieces (conf_in first.parked) rows)
  conf_is = is ∙ h.conf

  same_pieces : (xs : List (List ℕ)) → pieces conf xs ≡ pieces (conf_in first.parked) xs
  same_pieces xs = ap (λ ws. map (row_bytes ws) xs) (ap (λ (c : Shape). c.inputs) conf_is ∙ inputs_after N P (conf_in first.parked) (pieces (conf_in first.parked) rows))

  -- the lines of the turn are those of the configuration as it was at first
  same_lines : (xs : List (List ℕ)) → marked number (result_numbers N P conf (pieces conf xs)) ≡ turn_text number first rows xs
  same_lines xs = ap (λ ps. marked number (result_numbers N P conf ps)) (same_pieces xs) ∙ ap (λ (x : Shape). marked number (result_numbers N P x (pieces (conf_in first.parked) xs))) conf_is

  module _ (m : Going N P) (f : Feed) (last : Got) (b b' : ℕ) (turned : IsTurned (turn_setting first rows conf stripes number t) m f told t' old.quota last) (parked : Parked N P)
      (stays : parked_conf parked ≡ conf_after N P conf (account (length conf.stages) stripes turned.history).offered) (cause : last ≡ Got.ReadFault → HasReadCause told (name_of first.feed) b b') where
    conf_now : parked_conf parked ≡ conf_after N P (conf_in first.parked) (pieces (conf_in first.parked) (rows ++ turned.rows))
    conf_now =
        let c = conf_in first.parked in
        stays
        ∙ (ap (conf_after N P conf) (turned.offered ∙ same_pieces turned.rows)
        ∙ (ap (λ (x : Shape). conf_after N P x (pieces c turned.rows)) conf_is
        ∙ (further_after N P c (pieces c rows) (pieces c turned.rows) ∙ ap (conf_after N P c) (sym (pieces-append c rows turned.rows)))))

    pub turn_item : IsTurn first (record { parked = Some parked; feed = f; quota = old.quota; ended = ended_after last }) rows number (world told b t) (world told b' t')
    turn_item = record {
      more = turned.rows;
      taken = record {
        some = refl;
        conf = conf_now;
        fed = subst (λ (g : Got). HasFed first.feed told f (rows ++ turned.rows) g) (sym (last_same last)) turned.fed;
        inputs = h.inputs;
        quota = h.quota;
        least = h.least;
        most = h.most;
        ended = ended_no_sample last;
      };
      few = (let q = h.quota in let a = turned.few in omega arith);
      full = λ e. turned.full (none_sample last e) ∙ h.quota;
      text = subst (λ (xs : List ℕ). Appends t t' xs) (same_lines turned.rows) turned.text;
      cause = λ e. cause (sym (last_same last) ∙ e);
    }

  -- a write failed in the turn
  pub half_item : (f : Feed) (b b' : ℕ) → old.ended ≡ None → IsCut N P (turn_setting first rows conf stripes number t) f told t' old.quota b b'
      → IsHalf first (record { parked = None; feed = f; quota = old.quota; ended = old.ended }) rows number (world told b t) (world told b' t')
  half_item f b b' going cut = record {
    more = cut.rows;
    last = cut.last;
    broken = record { parked = refl; fed = cut.fed; quota = h.quota; ended = going };
    few = (let q = h.quota in let a = cut.few in omega arith);
    text = subst (λ (xs : List ℕ). AppendsFront t t' xs) (same_lines cut.rows) cut.text;
    cause = cut.cause;
  }
