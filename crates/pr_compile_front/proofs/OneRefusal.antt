-- A text has one refusal at most; and none, one tree and one list of widths where its equations have widths.
use Rattle.std.proofs.Common.{◌≡◌, ◌<◌, ◌≤◌, ◌∙◌, ℕ, List, length, Option, Some, None, refl, sym, ap, subst, arith}
use Rattle.pr_base.specs.declared.caps.Cap.{Cap}
use Rattle.pr_lang.specs.Word.{words_of}
use Rattle.pr_lang.specs.Shape.{program_shape}
use Rattle.pr_lang.specs.Syntax.{AtToken, TooDeep}
use Rattle.pr_lang.specs.Syntax.{Refusal as TokenRefusal, refusal_of as token_refused}
use Rattle.pr_lang.specs.declared.trees.Program.{Program}
use Rattle.pr_parse.proofs.Main.{one_program}
use Rattle.pr_scope.specs.Walk.{Refusal, too_long, broken, offence}
use Rattle.pr_flat.specs.Shape.{EquationShape}
use Rattle.pr_flat.specs.Widths.{AreWidths, IsFirstWithout}
use Rattle.pr_flat.proofs.WidthsUnique.{AreWidths-unique, AreWidths-none_without, IsFirstWithout-unique}
use Rattle.pr_expand_spec.specs.Programs.{Flattened, equations_of}
use Rattle.pr_scope_facts.proofs.FlatLaw.{program-ordered}
use Rattle.pr_lang_same_tree.proofs.Walks.{same-offence}
use Rattle.pr_lang_same_tree.proofs.Makings.{same-equations}
use Rattle.pr_compile_front.specs.declared.faults.FrontFault.{FrontFault}
use Rattle.pr_compile_front.specs.declared.faults.FrontFault.TheVariants as fault
use Rattle.pr_compile_front.specs.Refusals.{IsRead, HasWidths, IsRefusal}

-- ---- tokens
-- the fault that the refusal of a token is
abbrev token_fault : TokenRefusal → FrontFault
token_fault (AtToken token) = fault.Syntax token
token_fault TooDeep = fault.Limit Cap.Nesting

never_read : {A : Type 0} (text : List ℕ) (program : Program) (r : TokenRefusal) → token_refused text ≡ Some r → IsRead text program → A
never_read text program r is read = absurd (let no : None ≡ Some r = sym read.good ∙ is in cc)

is_token : (text : List ℕ) (r : TokenRefusal) (e : FrontFault) → token_refused text ≡ Some r → IsRefusal text e → e ≡ token_fault r
is_token text r (fault.Syntax token) is refused = (let both : Some r ≡ Some (AtToken token) = sym is ∙ refused in let same : r ≡ AtToken token = cc in ap token_fault (sym same))
is_token text r (fault.Limit Cap.Nesting) is refused = (let both : Some r ≡ Some TooDeep = sym is ∙ refused in let same : r ≡ TooDeep = cc in ap token_fault (sym same))
is_token text r (fault.Limit Cap.Turns) is refused = never_read text refused.program r is refused.read
is_token text r (fault.Limit Cap.Equations) is refused = never_read text refused.program r is refused.kept.read
is_token text r (fault.Scope rule item) is refused = never_read text refused.program r is refused.read
is_token text r (fault.NoWidth equation) is refused = never_read text refused.program r is refused.made.kept.read
is_token text r e is refused = absurd refused

-- ---- the points after the tokens
-- the fault that an offence is
abbrev offence_fault : Refusal → FrontFault
offence_fault too_long = fault.Limit Cap.Turns
offence_fault (broken rule item) = fault.Scope rule item

-- a point after the tokens refuses this program so
data RefusesAt (p : Program) : FrontFault → Type 0 where
  offends : (r : Refusal) → offence p ≡ Some r → RefusesAt p (offence_fault r)
  many : offence p ≡ None → 16384 < length (equations_of p).equations → RefusesAt p (fault.Limit Cap.Equations)
  lacks : (n : ℕ) → offence p ≡ None → length (equations_of p).equations ≤ 16384 → IsFirstWithout (equations_of p).equations n → RefusesAt p (fault.NoWidth n)

same-tree : (text : List ℕ) (p q : Program) → IsRead text p → IsRead text q → program_shape p ≡ program_shape q
same-tree text p q one other = one_program (words_of text) (program_shape p) (program_shape q) one.is other.is

-- the program of a text
is_read : (text : List ℕ) (e : FrontFault) → token_refused text ≡ None → IsRefusal text e → (p : Program) × IsRead text p
is_read text (fault.Syntax token) good refused = absurd (let no : None ≡ Some (AtToken token) = sym good ∙ refused in cc)
is_read text (fault.Limit Cap.Nesting) good refused = absurd (let no : None ≡ Some TooDeep = sym good ∙ refused in cc)
is_read text (fault.Limit Cap.Turns) good refused = (refused.program, refused.read)
is_read text (fault.Limit Cap.Equations) good refused = (refused.program, refused.kept.read)
is_read text (fault.Scope rule item) good refused = (refused.program, refused.read)
is_read text (fault.NoWidth equation) good refused = (refused.program, refused.made.kept.read)
is_read text e good refused = absurd refused

-- what refuses the text refuses each program that it is the text of
module _ (text : List ℕ) (p : Program) (read : IsRead text p) where
  offence-of : (q : Program) → IsRead text q → offence p ≡ offence q
  offence-of q other = same-offence p q (same-tree text p q read other)

  equations-of : (q : Program) → IsRead text q → (equations_of q).equations ≡ (equations_of p).equations
  equations-of q other = ap (λ (f : Flattened). f.equations) (same-equations q p (same-tree text q p other read))

  refuses : (e : FrontFault) → IsRefusal text e → RefusesAt p e
  refuses (fault.Syntax token) refused = absurd (let no : None ≡ Some (AtToken token) = sym read.good ∙ refused in cc)
  refuses (fault.Limit Cap.Nesting) refused = absurd (let no : None ≡ Some TooDeep = sym read.good ∙ refused in cc)
  refuses (fault.Limit Cap.Turns) refused = offends too_long (offence-of refused.program refused.read ∙ refused.offends)
  refuses (fault.Scope rule item) refused = offends (broken rule item) (offence-of refused.program refused.read ∙ refused.offends)
  refuses (fault.Limit Cap.Equations) refused =
      let same = equations-of refused.program refused.kept.read in
      many (offence-of refused.program refused.kept.read ∙ refused.kept.lawful) (subst (λ (es : List EquationShape). 16384 < length es) same refused.many)
  refuses (fault.NoWidth n) refused =
      let same = equations-of refused.program refused.made.kept.read in
      lacks n (offence-of refused.program refused.made.kept.read ∙ refused.made.kept.lawful) (subst (λ (es : List EquationShape). length es ≤ 16384) same refused.made.few) (subst (λ (es : List EquationShape). IsFirstWithout es n) same refused.without)
  refuses e refused = absurd refused

-- one point refuses a program
one-point : (p : Program) (e f : FrontFault) → RefusesAt p e → RefusesAt p f → e ≡ f
one-point p e f (offends r is) (offends s by) = let both : Some r ≡ Some s = sym is ∙ by in let same : r ≡ s = cc in ap offence_fault same
one-point p e f (offends r is) (many none more) = absurd (let no : None ≡ Some r = sym none ∙ is in cc)
one-point p e f (offends r is) (lacks n none few without) = absurd (let no : None ≡ Some r = sym none ∙ is in cc)
one-point p e f (many none more) (offends s by) = absurd (let no : None ≡ Some s = sym none ∙ by in cc)
one-point p e f (many none more) (many also less) = refl
one-point p e f (many none more) (lacks n also few without) = absurd (omega (arith, more, few))
one-point p e f (lacks n none few without) (offends s by) = absurd (let no : None ≡ Some s = sym none ∙ by in cc)
one-point p e f (lacks n none few without) (many also more) = absurd (omega (arith, more, few))
one-point p e f (lacks n none few without) (lacks m also less other) = ap fault.NoWidth (IsFirstWithout-unique (equations_of p).equations m n (program-ordered p none) other without)

no-point : (p : Program) (e : FrontFault) (widths : List ℕ) → offence p ≡ None → length (equations_of p).equations ≤ 16384 → AreWidths (equations_of p).equations widths → RefusesAt p e → ⊥
no-point p e widths none few are (offends r is) = let no : None ≡ Some r = sym none ∙ is in cc
no-point p e widths none few are (many also more) = omega (arith, more, few)
no-point p e widths none few are (lacks n also less without) = AreWidths-none_without (equations_of p).equations widths n (program-ordered p none) are without

-- ---- the law
pub one-refusal : (text : List ℕ) (e f : FrontFault) → IsRefusal text e → IsRefusal text f → e ≡ f
one-refusal text e f first second = by_tokens (token_refused text) refl where
  by_tokens : (o : Option TokenRefusal) → token_refused text ≡ o → e ≡ f
  by_tokens (Some r) is = is_token text r e is first ∙ sym (is_token text r f is second)
  by_tokens None good = let p = is_read text e good first in one-point p.0 e f (refuses text p.0 p.1 e first) (refuses text p.0 p.1 f second)

pub no-refusal : (text : List ℕ) (e : FrontFault) (p : Program) (widths : List ℕ) → IsRefusal text e → HasWidths text p widths → ⊥
no-refusal text e p widths refused has = no-point p e widths has.made.kept.lawful has.made.few has.are (refuses text p has.made.kept.read e refused)

pub one-tree : (text : List ℕ) (p q : Program) (v w : List ℕ) → HasWidths text p v → HasWidths text q w → program_shape p ≡ program_shape q
one-tree text p q v w one other = same-tree text p q one.made.kept.read other.made.kept.read

pub one-widths : (text : List ℕ) (p q : Program) (v w : List ℕ) → HasWidths text p v → HasWidths text q w → v ≡ w
one-widths text p q v w one other =
    let same = equations-of text p one.made.kept.read q other.made.kept.read in
    let are : AreWidths (equations_of p).equations w = subst (λ (es : List EquationShape). AreWidths es w) same other.are in
    AreWidths-unique (equations_of p).equations w v (program-ordered p one.made.kept.lawful) are one.are
