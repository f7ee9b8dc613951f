use Rattle.std.proofs.Common.{◌≡◌, drop}
use Rattle.pr_lens_items.specs.Steps.{params_names, params_widths, params_end}
use Rattle.pr_lens_items.proofs.point_items.parameters.Given as goal

abbrev pub invariant-loop-param : goal.invariant-loop-param
invariant-loop-param l = record {
  names : params_names (drop l.param-index l.params) l.end l.own.names.items ≡ params_names l.params l.fn.at l.fn.own.names.items;
  widths : params_widths (drop l.param-index l.params) l.end l.own.widths.items ≡ params_widths l.params l.fn.at l.fn.own.widths.items;
  fixeds : l.own.fixeds.items ≡ l.fn.own.fixeds.items;
  end_is : params_end (drop l.param-index l.params) l.end ≡ params_end l.params l.fn.at;
}
