-- What a program costs, by the passes.
use Rattle.std.proofs.Common.{◌≡◌, ◌∙◌, ℕ, Bool, List, length, map, sym, ap}
use Rattle.std.proofs.lemmas.List.{length-map}
use Rattle.std.proofs.lemmas.Simd.{map-map}
use Rattle.pr_flat.specs.Shape.{equation_shape}
use Rattle.pr_conf.specs.declared.configurations.Configuration.{Configuration}
use Rattle.pr_conf.specs.declared.stages.Stage.{Stage}
use Rattle.pr_conf.specs.Configuration.{pes_of, shape_of}
use Rattle.pr_compile_front.specs.declared.fronts.Front.{Front}
use Rattle.pr_compile_front.specs.Passed.{IsPassed}
use Rattle.pr_compile.specs.Configured.{IsConfiguredBy, HasUnitsBy}
use Rattle.pr_lens_origins.specs.Spots.{spots_of}
use Rattle.pr_lens_shares.specs.Shares.{AreSharesOrNone}
use Rattle.pr_lens_cost.specs.declared.amounts.Cost.{Cost}
use Rattle.pr_lens_cost.specs.Costs.{IsCost, stage_cost}

pub cost_is : (N P : ℕ) (narrow : Bool) (text : List ℕ) (front : Front) (conf : Configuration N P) (listed : List (Stage N)) (cost : Cost) → IsPassed text front
    → IsConfiguredBy N P narrow front.scoped.program front.widths (shape_of conf) → HasUnitsBy narrow front.scoped.program front.widths cost.units
    → cost.equations ≡ length front.flat.equations.items → AreSharesOrNone N narrow front.scoped.program front.widths 10 cost.shares.items → cost.spots.items ≡ spots_of text front.scoped.program → listed ≡ conf.stages.items → cost.stages.items ≡ map (λ s. stage_cost (pes_of s)) listed → IsCost N P narrow text cost
cost_is N P narrow text front conf listed cost passed configured units equations shares stand same stages = record {
  equations = record {
    program = front.scoped.program;
    widths = front.widths;
    has = passed.widths;
    is = equations ∙ (sym (length-map front.flat.equations.items equation_shape) ∙ ap length passed.flat.equations);
  };
  units = record { program = front.scoped.program; widths = front.widths; has = passed.widths; are = units };
  shares = record { program = front.scoped.program; widths = front.widths; has = passed.widths; are = shares; stand = stand };
  conf = shape_of conf;
  compiled = record { program = front.scoped.program; widths = front.widths; has = passed.widths; configured = configured };
  stages = stages ∙ (ap (map (λ s. stage_cost (pes_of s))) same ∙ sym (map-map stage_cost (λ s. pes_of s) conf.stages.items));
}
