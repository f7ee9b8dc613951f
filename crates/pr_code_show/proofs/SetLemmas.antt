-- A processing element whose words are all 0.
use Rattle.std.proofs.Common.{◌≡◌, ◌==◌, ◌∙◌, Bool, true, false, not, refl, sym, ap, arith, true≢false, eqb-true}
use Rattle.std.specs.List.{list_all}
use Rattle.std.proofs.lemmas.Bool.{and_parts, true_from_ne_false}
use Rattle.pr_base.specs.declared.choices.Mode.{Mode}
use Rattle.pr_base.specs.declared.choices.Carry.{Carry}
use Rattle.pr_base.specs.declared.choices.Next.{Next}
use Rattle.pr_conf.specs.declared.pes.Source.{Source}
use Rattle.pr_conf.specs.declared.pes.Bit.{Bit}
use Rattle.pr_conf.specs.declared.pes.Pe.{Pe}
use Rattle.pr_code.specs.Spelling.{source_word, c_choice, next_number, carry_number, mode_number, a_word, lo_word, table_word, write_word, pe_words, is_set}

-- what stands in a column that is not in use
abbrev pub unused : Pe
unused = record {
  a = Source.Const 0;
  hi = Source.Const 0;
  lo = Source.Const 0;
  shift = 0;
  c = Bit.None;
  table = 0;
  mode = Mode.Plain;
  cin = Carry.Zero;
  mask = 0;
  next = Next.Keep;
  init = 0;
  write = 0;
}

source_zero : (s : Source) → source_word s ≡ 0 → s ≡ Source.Const 0
source_zero (Source.Const k) e = ap Source.Const e
source_zero (Source.Prev col reg) e = absurd (omega arith)
source_zero (Source.Here col) e = absurd (omega arith)
source_zero (Source.State col) e = absurd (omega arith)
source_zero (Source.Bus place) e = absurd (omega arith)

c_zero : (c : Bit) → c_choice c ≡ 0 → c ≡ Bit.None
c_zero Bit.None e = refl
c_zero (Bit.Of source place) e = absurd (omega arith)
c_zero Bit.CarryIn e = absurd (omega arith)

next_zero : (n : Next) → next_number n ≡ 0 → n ≡ Next.Keep
next_zero Next.Keep e = refl
next_zero Next.Output e = absurd (omega arith)
next_zero Next.A e = absurd (omega arith)

carry_zero : (n : Carry) → carry_number n ≡ 0 → n ≡ Carry.Zero
carry_zero Carry.Zero e = refl
carry_zero Carry.One e = absurd (omega arith)
carry_zero Carry.Chain e = absurd (omega arith)
carry_zero Carry.FromC e = absurd (omega arith)

mode_zero : (n : Mode) → mode_number n ≡ 0 → n ≡ Mode.Plain
mode_zero Mode.Plain e = refl
mode_zero Mode.Sum e = absurd (omega arith)
mode_zero Mode.Zero e = absurd (omega arith)

-- all four words are 0
zero_words : (pe : Pe) → a_word pe ≡ 0 → lo_word pe ≡ 0 → table_word pe ≡ 0 → write_word pe ≡ 0 → pe ≡ unused
zero_words pe first second third fourth =
    let a = source_zero pe.a (omega arith) in
    let hi = source_zero pe.hi (omega arith) in
    let lo = source_zero pe.lo (omega arith) in
    let c = c_zero pe.c (omega arith) in
    let mode = mode_zero pe.mode (omega arith) in
    let cin = carry_zero pe.cin (omega arith) in
    let next = next_zero pe.next (omega arith) in
    let shift : pe.shift ≡ 0 = omega arith in
    let table : pe.table ≡ 0 = omega arith in
    let mask : pe.mask ≡ 0 = omega arith in
    let init : pe.init ≡ 0 = omega arith in
    let write : pe.write ≡ 0 = omega arith in
    λ i. record {
      a = a i;
      hi = hi i;
      lo = lo i;
      shift = shift i;
      c = c i;
      table = table i;
      mode = mode i;
      cin = cin i;
      mask = mask i;
      next = next i;
      init = init i;
      write = write i;
    }

unused_from : (pe : Pe) → is_set pe ≡ false → pe ≡ unused
unfolding is_set pe_words
unused_from pe e =
    let all : list_all (λ w. w == 0) (pe_words pe) ≡ true = true_from_ne_false _ (λ f. true≢false (sym (ap not f) ∙ e)) in
    let one = and_parts (a_word pe == 0) _ all in
    let two = and_parts (lo_word pe == 0) _ one.1 in
    let three = and_parts (table_word pe == 0) _ two.1 in
    let four = and_parts (write_word pe == 0) _ three.1 in
    zero_words pe (eqb-true _ _ one.0) (eqb-true _ _ two.0) (eqb-true _ _ three.0) (eqb-true _ _ four.0)

is_set-unused : is_set unused ≡ false
unfolding is_set pe_words
is_set-unused = refl

-- a test whether a processing element is another than the unused one
pub set_is : (pe : Pe) (b : Bool) → (b ≡ false → pe ≡ unused) → (pe ≡ unused → b ≡ false) → b ≡ is_set pe
set_is pe b same zero = go (is_set pe) refl
  where
    go : (s : Bool) → is_set pe ≡ s → b ≡ s
    go false e = zero (unused_from pe e)
    go true e = true_from_ne_false b (λ f. true≢false (sym e ∙ ap is_set (same f) ∙ is_set-unused))
