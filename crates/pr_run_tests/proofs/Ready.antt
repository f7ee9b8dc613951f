-- Programs that can begin.
use Rattle.std.proofs.Common.{◌≡◌, ◌≤◌, ◌^◌, ℕ, zero, suc, List, [], ◌∷◌, Option, Some, None, slice_get, unwrap_or, refl, sym, ap, ◌∙◌, subst, arith}
use Rattle.pr_conf.specs.declared.configurations.Configuration.{Configuration}
use Rattle.pr_machine.specs.declared.parking.Parked.{Parked}
use Rattle.pr_samples.specs.declared.feed.Feed.{Feed}
use Rattle.pr_samples.specs.declared.feed.Got.{Got}
use Rattle.pr_samples.specs.Feed.{widths_of, most_of, given_of, reads_nothing, StandsFor}
use Rattle.pr_share.specs.declared.items.ShareItem.{ShareItem}
use Rattle.pr_share.specs.Items.{IsReady, AreReady}

-- one that has a configuration, and the feed of its inputs
pub is_ready : {N P : ℕ} (parked : Parked N P) (conf : Configuration N P) (feed : Feed) (quota : ℕ) → parked.conf ≡ conf → widths_of feed ≡ conf.inputs.items → most_of feed ≡ 2 ^ 40 → reads_nothing feed × (given_of feed ≡ 0) → ((file : List ℕ) → StandsFor feed file) → 1 ≤ quota → IsReady record { parked = Some parked; feed = feed; quota = quota; ended = None }
is_ready {N} {P} parked conf feed quota same widths most start stands some = record {
  parked = refl;
  fresh = record { bytes = start.0; samples = start.1; few = omega (arith, most); stands = stands };
  inputs = widths ∙ sym (ap (λ (c : Configuration N P). c.inputs.items) same);
  quota = some;
  ended = refl;
}

pub both_ready : {N P : ℕ} (a b : ShareItem N P) → IsReady a → IsReady b → AreReady (a ∷ b ∷ [])
both_ready {N} {P} a b h k zero item e = subst (λ (x : ShareItem N P). IsReady x) (ap (λ (o : Option (ShareItem N P)). unwrap_or o a) e) h
both_ready {N} {P} a b h k (suc zero) item e = subst (λ (x : ShareItem N P). IsReady x) (ap (λ (o : Option (ShareItem N P)). unwrap_or o b) e) k
both_ready {N} {P} a b h k (suc (suc i)) item e = absurd (let z = e in cc)
