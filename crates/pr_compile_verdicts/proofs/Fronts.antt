-- A text has a program with equations and widths, or a point up to the widths refuses it.
use Rattle.std.proofs.Common.{◌≡◌, ◌⊎◌, ◌≤◌, ℕ, Bool, true, false, cond, nat_lt, Option, Some, None, List, length, inl, inr, refl, sym, subst, arith}
use Rattle.std.proofs.lemmas.Bool.{cases_lt}
use Rattle.pr_base.specs.declared.caps.Cap.{Cap}
use Rattle.pr_lang.specs.declared.trees.Program.{Program}
use Rattle.pr_lang.specs.Word.{words_of}
use Rattle.pr_lang.specs.Grammar.{TheProgram}
use Rattle.pr_lang.specs.Is.{Is}
use Rattle.pr_lang.specs.Machine.{first_wrong}
use Rattle.pr_lang.specs.Load.{first_deep}
use Rattle.pr_lang.specs.Tree.{Tree}
use Rattle.pr_lang.specs.Syntax.{Refusal, AtToken, TooDeep, earlier, refusal_of}
use Rattle.pr_parse.proofs.Main.{some_program}
use Rattle.pr_scope.specs.Walk as scope
use Rattle.pr_scope.specs.Walk.{offence}
use Rattle.pr_scope_facts.proofs.FlatLaw.{program-flat}
use Rattle.pr_scope_facts.specs.Numbers.{IsFlatProgram, HasNumbers}
use Rattle.pr_expand_spec.specs.Programs.{equations_of}
use Rattle.pr_compile_front.specs.declared.faults.FrontFault.{FrontFault}
use Rattle.pr_compile_front.specs.declared.faults.FrontFault.TheVariants as fault
use Rattle.pr_compile_front.specs.Refusals.{IsRead, IsKept, IsMade, HasWidths, IsRefusal}
use Rattle.pr_compile_verdicts.specs.Verdicts.{SomeOf}
use Rattle.pr_compile_verdicts.proofs.Widths.{some_widths}
use Rattle.pr_compile_verdicts.proofs.ShortPrograms.{numbers-short}
use Rattle.pr_compile_verdicts.proofs.Layers.{row_of}
use Rattle.pr_compile_verdicts.proofs.Programs.{realised}
use Rattle.pr_compile_verdicts.proofs.Tokens.{text-words}

-- ---- from the text to a program
-- a program of a text, whose equations have constants of 64 bits
pub record Read (text : List ℕ) : Type 0 where
  pub program : Program
  pub read : IsRead text program
  pub numbers : HasNumbers (equations_of program)

none_earlier : (deep wrong : Option ℕ) → earlier deep wrong ≡ None → wrong ≡ None
none_earlier None None is = refl
none_earlier None (Some w) is = cc
none_earlier (Some d) None is = cc
none_earlier (Some d) (Some w) is = by_test (nat_lt w d) is where
  by_test : (b : Bool) → cond b (Some (AtToken w)) (Some TooDeep) ≡ None → Some w ≡ None
  by_test true is = cc
  by_test false is = cc

read_of : (text : List ℕ) → length text ≤ 1048576 → refusal_of text ≡ None → Read text
read_of text short good =
    let words = text-words text short in
    let tree = some_program (words_of text) (none_earlier (first_deep (words_of text)) (first_wrong (words_of text)) good) in
    let row = realised TheProgram (words_of text) tree.0 tree.1 words in
    let program : Program = record { items = row_of row.all (let few = row.few in let most = words.few in omega (arith, few, most)) } in
    record {
      program = program;
      read = record { is = subst (λ (t : Tree). Is TheProgram (words_of text) t) (sym row.is) tree.1; good = good };
      numbers = numbers-short program row.fact;
    }

-- ---- and on to the widths of its equations
pub record Passed (text : List ℕ) : Type 0 where
  pub program : Program
  pub widths : List ℕ
  pub has : HasWidths text program widths
  pub flat : IsFlatProgram (equations_of program)

abbrev Front : List ℕ → Type 0
Front text = Passed text ⊎ ((e : FrontFault) × IsRefusal text e)

made_front : (text : List ℕ) (r : Read text) → IsMade text r.program → IsFlatProgram (equations_of r.program) → Front text
made_front text r made flat = elim (some_widths (equations_of r.program).equations (equations_of r.program).outputs flat) [
  | inl widths ↦ inl (record { program = r.program; widths = widths.0; has = record { made = made; are = widths.1 }; flat = flat })
  | inr without ↦ inr (fault.NoWidth without.0, record { program = r.program; made = made; without = without.1 })
]

kept_front : (text : List ℕ) (r : Read text) → IsKept text r.program → Front text
kept_front text r kept = elim (cases_lt 16384 (length (equations_of r.program).equations)) [
  | inl many ↦ inr (fault.Limit Cap.Equations, record { program = r.program; kept = kept; many = many })
  | inr few ↦ made_front text r (record { kept = kept; few = few }) (program-flat r.program kept.lawful few r.numbers)
]

read_front : (text : List ℕ) (r : Read text) (o : Option scope.Refusal) → offence r.program ≡ o → Front text
read_front text r None is = kept_front text r (record { read = r.read; lawful = is })
read_front text r (Some scope.too_long) is = inr (fault.Limit Cap.Turns, record { program = r.program; read = r.read; offends = is })
read_front text r (Some (scope.broken rule item)) is = inr (fault.Scope rule item, record { program = r.program; read = r.read; offends = is })

text_front : (text : List ℕ) → length text ≤ 1048576 → (o : Option Refusal) → refusal_of text ≡ o → Front text
text_front text short None is = (let r = read_of text short is in read_front text r (offence r.program) refl)
text_front text short (Some (AtToken token)) is = inr (fault.Syntax token, is)
text_front text short (Some TooDeep) is = inr (fault.Limit Cap.Nesting, is)

pub some_front : (text : List ℕ) → length text ≤ 1048576 → Passed text ⊎ ((e : FrontFault) × IsRefusal text e)
some_front text short = text_front text short (refusal_of text) refl

-- the two points at which a text is looked at, as they are told
pub some_read : (text : List ℕ) → length text ≤ 1048576 → SomeOf (IsRead text) (λ (r : Refusal). refusal_of text ≡ Some r)
some_read text short = by_refusal (refusal_of text) refl where
  by_refusal : (o : Option Refusal) → refusal_of text ≡ o → SomeOf (IsRead text) (λ (r : Refusal). refusal_of text ≡ Some r)
  by_refusal None good = (let r = read_of text short good in inl (r.program, r.read))
  by_refusal (Some refusal) is = inr (refusal, is)

pub some_widths_of : (text : List ℕ) → length text ≤ 1048576 → ((program : Program) × (widths : List ℕ) × HasWidths text program widths) ⊎ ((e : FrontFault) × IsRefusal text e)
some_widths_of text short = elim (some_front text short) [ inl p ↦ inl (p.program, p.widths, p.has) | inr refused ↦ inr refused ]
