use Rattle.std.proofs.Common.{◌≡◌, ◌+◌, ◌-◌, ◌<◌, true, get_or, nat_lt, refl, ap, ◌∙◌, arith}
use Rattle.pr_conf.specs.declared.pes.Source.{Source}
use Rattle.pr_stripe_columns.proofs.StepLaws.{any_pe}
use Rattle.pr_stripe_prepared.specs.Elements.{c_source}
use Rattle.pr_stripe_prepared.specs.Gather.{seen_byte}
use Rattle.pr_stripe_prepared.specs.Places.{is_suited}
use Rattle.pr_stripe_prepared.proofs.PrepareLaws.{choice, below, above, is_below, is_above}
use Rattle.pr_stripe_prepared.proofs.preparing.prepare.Goals as goal

abbrev none : Source
none = Source.Const 0

pub gather_of-requires-clause-suited : goal.gather_of-requires-clause-suited
gather_of-requires-clause-suited c = λ k d l.
    let n = c.args.registers in
    let pes = c.args.pes.now in
    let suited = c.are_given.ensures c.if-not-are_given.false in
    ap (is_suited n) (c.both_sources.ensures k d any_pe l)
    ∙ choice (λ s. is_suited n s ≡ true) (nat_lt k 16) (get_or pes k any_pe).a (get_or pes (k - 16) any_pe).hi
    (λ h. (suited k any_pe (is_below k h)).a) (λ h. let up = is_above k h in (suited (k - 16) any_pe (omega arith)).hi)

pub gather_of-requires-2-clause-suited : goal.gather_of-requires-2-clause-suited
gather_of-requires-2-clause-suited c = λ k d l.
    let n = c.args.registers in
    let pes = c.args.pes.now in
    let suited = c.are_given.ensures c.if-not-are_given.false in
    ap (is_suited n) (c.rest_sources.ensures k d any_pe l)
    ∙ choice (λ s. is_suited n s ≡ true) (nat_lt k 16) (get_or pes k any_pe).lo (c_source (get_or pes (k - 16) any_pe).c)
    (λ h. (suited k any_pe (is_below k h)).lo) (λ h. let up = is_above k h in (suited (k - 16) any_pe (omega arith)).c)

pub returns : goal.returns
returns c =
    let n = c.args.registers in
    let pes = c.args.pes.now in
    let suited = c.are_given.ensures c.if-not-are_given.false in
    record {
      long = c.requires.pes;
      reads = λ k d l.
          let s = suited k d l in
          let pe = get_or pes k d in
          let at : k < 32 = omega arith in
          let up : 16 + k < 32 = omega arith in
          let down : 16 + k - 16 ≡ k = omega arith in
          let of_a = below k pe.a _ _ (c.both_sources.ensures k none d at) l in
          let of_hi = above (16 + k) _ _ _ (c.both_sources.ensures (16 + k) none d up) (omega arith) ∙ ap (λ j. (get_or pes j d).hi) down in
          let of_c = above (16 + k) _ _ _ (c.rest_sources.ensures (16 + k) none d up) (omega arith) ∙ ap (λ j. c_source (get_or pes j d).c) down in
          let of_lo = below k pe.lo _ _ (c.rest_sources.ensures k none d at) l in
          record {
            a = λ row st made. c.in_ok-both.ensures.gives k none row st made at ∙ ap (seen_byte row st made) of_a;
            hi = λ row st made. c.in_ok-both.ensures.gives (16 + k) none row st made up ∙ ap (seen_byte row st made) of_hi;
            lo = λ row st made. c.in_ok-rest.ensures.gives k none row st made at ∙ ap (seen_byte row st made) of_lo;
            c = λ row st made. c.in_ok-rest.ensures.gives (16 + k) none row st made up ∙ ap (seen_byte row st made) of_c;
            shift = c.shift_row.ensures.each k d l;
            few = s.shift;
            unshifted = λ h. (c.any_rest.ensures h k d l).0;
            read = s.bit;
            bit = c.c_row.ensures.each k d l;
            unread = λ h. (c.any_rest.ensures h k d l).1;
            carry = c.c_carry_row.ensures.each k d l;
            uncarried = λ h. c.any_carry.ensures h k d l;
          };
      makes = λ k d l.
          record {
            off = c.tables.ensures k d l;
            on = c.tables-2.ensures k d l;
            without = λ h. c.any_c.ensures h k d l;
            sums = c.sum_row.ensures.each k d l;
            none = λ h. c.any_sum.ensures h k d l;
            low = λ e. (c.low_row.ensures e).each k d l;
            tests = λ e. (c.zero_row.ensures e).each k d l;
            cin = c.carry_row.ensures.each k d l;
            takes_c = c.from_c_row.ensures.each k d l;
            mask = c.mask_row.ensures.each k d l;
            to_output = c.output_row.ensures.each k d l;
            to_a = c.a_row.ensures.each k d l;
            keeps = λ h. c.any_state.ensures h k d l;
          };
      ordered = λ k d l. c.are_ordered.ensures c.if-not-are_ordered.false k d l;
      marks = c.in_ok-marks.ensures.each;
      reach = refl;
      marks_row = c.in_ok-marks.ensures.long;
      output_row = c.output_row.ensures.long;
      a_row = c.a_row.ensures.long;
    }
