use Rattle.std.proofs.Common.{ℕ, ◌≡◌, ◌<◌, ◌+◌, ◌++◌, length, drop, get_or, ap, sym, subst, ◌∙◌, arith}
use Rattle.pr_cut_units.specs.Groups.{Holds}
use Rattle.pr_cut_plan.specs.Parts.{end_of, AreParts, part_groups, parts_groups, parts_end}
use Rattle.pr_cut_plan.proofs.GroupLemmas.{parts_next, parts_step, end_next}
use Rattle.pr_cut_plan.proofs.groups.push_parts.Goals as goal

pub loop-part-preserved : goal.loop-part-preserved
loop-part-preserved c =
    let units = c.args.units.now in
    let all = c.args.holds.now in
    let i = c.loop-part.part-index in
    let from = c.loop-part.from in
    let x = c.part-item.result in
    let inv = c.loop-part.invariant in
    let lt : i < length all = omega arith in
    let next : c.in_ok-from.from ≡ end_of (get_or all i x) = c.in_ok-from.ensures.next ∙ ap (λ (h : Holds). end_of h) c.part-item.is in
    let step = c.in_ok-from.ensures.groups ∙ ap (λ (h : Holds). c.loop-part.groups.items ++ part_groups units from h) c.part-item.is in
    record {
      parts = subst (λ (n : ℕ). AreParts units n (drop (i + 1) all)) (sym next) (parts_next units from i all x lt inv.parts).1;
      groups = ap (λ (n : ℕ). c.push_part.new.groups.items ++ parts_groups units n (drop (i + 1) all)) next ∙ parts_step units from i all x c.args.groups.now.items c.loop-part.groups.items c.push_part.new.groups.items (c.args.groups.now.items ++ parts_groups units 0 all) lt step inv.groups;
      end = ap (λ (n : ℕ). parts_end n (drop (i + 1) all)) next ∙ end_next from i all x lt ∙ inv.end;
    }
