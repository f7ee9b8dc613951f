use Rattle.std.proofs.Common.{◌∙◌, List, ap₂, refl}
use Rattle.pr_scope_names.specs.declared.streams.Instance.{Instance}
use Rattle.pr_lens_origins.specs.declared.spots.Spot.{Spot}
use Rattle.pr_lens_origins.specs.Origins.{streams_from}
use Rattle.pr_lens_origins.proofs.streams.origins_of.Goals as goal

pub returns-in-Ok : goal.returns-in-Ok
returns-in-Ok c = record {
  tally = c.in-Ok.tally;
  is = c.in-Ok.ensures.tally;
  streams = c.in_ok-streams-in-Ok.ensures ∙ ap₂ (λ (is : List Instance) (ss : List Spot). streams_from 0 is ss) c.deref.ensures.value (c.deref-in-Ok.ensures.value ∙ c.in_ok-spots.ensures);
  owners = refl;
}
