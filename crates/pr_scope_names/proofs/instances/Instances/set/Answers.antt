use Rattle.std.proofs.Common.{◌≡◌, ◌∙◌, ℕ, List, Some, option_map, ap, sym, subst, rules}
use Rattle.std.proofs.lemmas.Result.{on_ok_weaker, on_err_weaker}
use Rattle.pr_scope_names.specs.Names.{at_hash, instances_in, placed_in}
use Rattle.pr_scope_names.proofs.Maps.{read_of}
use Rattle.pr_scope_names.proofs.Placing.{put-instance, put-same, written}
use Rattle.pr_scope_names.proofs.instances.Instances.set.Goals as goal

pub returns-in-Some-clause-set : goal.returns-in-Some-clause-set
returns-in-Some-clause-set g c =
    let was = placed_in c.in-Some.places.now in
    let here : instances_in c.args.self.now c.args.name.now ≡ Some was = subst (λ (bs : List ℕ). instances_in c.args.self.now bs ≡ Some was) c.as_bytes.ensures (ap (option_map placed_in) (sym c.in-Some.ensures.value)) in
    let is = written c.as_bytes.result.now c.args.name.now c.args.self.now.map (c.get_mut.follows.lender c.set.new.self) c.set.new.self c.as_bytes.ensures ((c.get_mut.follows.holds c.set.new.self).3 (search rules)) in
    on_ok_weaker c.set.result (λ e. put-instance c.args.name.now c.args.place c.args.what (instances_in c.args.self.now) _ (Some was) (placed_in c.set.new.self) here is e) c.set.ensures.set

pub returns-in-Some-clause-same : goal.returns-in-Some-clause-same
returns-in-Some-clause-same g c =
    let was = placed_in c.in-Some.places.now in
    let here : instances_in c.args.self.now c.args.name.now ≡ Some was = subst (λ (bs : List ℕ). instances_in c.args.self.now bs ≡ Some was) c.as_bytes.ensures (ap (option_map placed_in) (sym c.in-Some.ensures.value)) in
    let is = written c.as_bytes.result.now c.args.name.now c.args.self.now.map (c.get_mut.follows.lender c.set.new.self) c.set.new.self c.as_bytes.ensures ((c.get_mut.follows.holds c.set.new.self).3 (search rules)) in
    on_err_weaker c.set.result (λ e. put-same c.args.name.now (instances_in c.args.self.now) _ was (placed_in c.set.new.self) here is e) c.set.ensures.same

pub returns-in-None-clause-same : goal.returns-in-None-clause-same
returns-in-None-clause-same g c =
    on_err_weaker c.begin.result (λ e. e ∙ ap (λ m. read_of placed_in (at_hash m)) c.get_mut.follows.holds-at-none) c.begin.ensures.same
