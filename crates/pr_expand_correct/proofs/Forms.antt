-- Operands as an operation reads them, beside the forms of the streams that they match.
use Rattle.std.proofs.Common.{◌≡◌, ◌∙◌, ◌≤◌, ℕ, Bool, true, false, cond, nat_le, List, [], ◌∷◌, map, Option, Some, None, refl, sym, ap, ap₂, subst}
use Rattle.std.specs.List.{AllZip}
use Rattle.std.proofs.lemmas.Bool.{and_parts, leb-true}
use Rattle.pr_flat.specs.declared.equations.Op.{Op}
use Rattle.pr_flat.specs.declared.equations.Op.TheVariants.{Cat, Choose, Delay, Fit, Input, LeftBy, Rec, RightBy, Slice}
use Rattle.pr_flat.specs.declared.forms.Form.{Form}
use Rattle.pr_flat.specs.Forms.{Stream}
use Rattle.pr_flat.specs.Rows.{takes, gives_signed, natural_width}
use Rattle.pr_flat.specs.Facts.{is_width}
use Rattle.pr_flat.specs.Widths.{operand_forms, settled_width, width_in}
use Rattle.pr_lang_meaning.specs.Streams.{assigned, fitted, form_of, operated, operate_on}
use Rattle.pr_expand_spec.specs.declared.givens.Given.{Given}
use Rattle.pr_expand_spec.specs.Making.{given_signed, given_operand, kinds_read, is_signed}
use Rattle.pr_expand_correct.proofs.Related.{Matches, given_form}

-- an operation of which the rows of operators tell the width and the kind
abbrev pub is_operator : Op → Bool
is_operator Input = false
is_operator (Delay c) = false
is_operator (Rec init first) = false
is_operator op = true

-- the forms of operands as they were given, and as the operation reads them
abbrev forms_given : List ℕ → List Given → List Form
forms_given widths gs = map (given_form widths) gs

abbrev forms_read : List ℕ → Op → List Given → List Form
forms_read widths op gs = operand_forms widths (map given_operand gs) (kinds_read op (map given_signed gs))

plain-forms : (widths : List ℕ) (gs : List Given) → operand_forms widths (map given_operand gs) (map given_signed gs) ≡ forms_given widths gs
plain-forms widths [] = refl
plain-forms widths (g ∷ gs) = ap (λ fs. given_form widths g ∷ fs) (plain-forms widths gs)

takes-read : (widths : List ℕ) (op : Op) (gs : List Given) → takes op (forms_read widths op gs) ≡ takes op (forms_given widths gs)
takes-read widths Cat gs = refl
takes-read widths (Delay c) gs = refl
takes-read widths LeftBy gs = refl
takes-read widths RightBy gs = refl
takes-read widths Choose [] = refl
takes-read widths Choose (a ∷ []) = refl
takes-read widths Choose (a ∷ b ∷ []) = refl
takes-read widths Choose (a ∷ b ∷ c ∷ []) = refl
takes-read widths Choose (a ∷ b ∷ c ∷ d ∷ gs) = refl
takes-read widths (Slice high low) [] = refl
takes-read widths (Slice high low) (a ∷ []) = refl
takes-read widths (Slice high low) (a ∷ b ∷ gs) = refl
takes-read widths op gs = ap (takes op) (plain-forms widths gs)

width-read : (widths : List ℕ) (op : Op) (gs : List Given) → natural_width op (forms_read widths op gs) ≡ natural_width op (forms_given widths gs)
width-read widths Cat [] = refl
width-read widths Cat (a ∷ []) = refl
width-read widths Cat (a ∷ b ∷ []) = refl
width-read widths Cat (a ∷ b ∷ c ∷ gs) = refl
width-read widths (Delay d) [] = refl
width-read widths (Delay d) (a ∷ []) = refl
width-read widths (Delay d) (a ∷ b ∷ gs) = refl
width-read widths LeftBy [] = refl
width-read widths LeftBy (a ∷ []) = refl
width-read widths LeftBy (a ∷ b ∷ []) = refl
width-read widths LeftBy (a ∷ b ∷ c ∷ gs) = refl
width-read widths RightBy [] = refl
width-read widths RightBy (a ∷ []) = refl
width-read widths RightBy (a ∷ b ∷ []) = refl
width-read widths RightBy (a ∷ b ∷ c ∷ gs) = refl
width-read widths Choose [] = refl
width-read widths Choose (a ∷ []) = refl
width-read widths Choose (a ∷ b ∷ []) = refl
width-read widths Choose (a ∷ b ∷ c ∷ []) = refl
width-read widths Choose (a ∷ b ∷ c ∷ d ∷ gs) = refl
width-read widths (Slice high low) [] = refl
width-read widths (Slice high low) (a ∷ []) = refl
width-read widths (Slice high low) (a ∷ b ∷ gs) = refl
width-read widths op gs = ap (natural_width op) (plain-forms widths gs)

-- whether the result is signed turns on no width
signed-given : (widths : List ℕ) (op : Op) (gs : List Given) → gives_signed op (forms_given widths gs) ≡ is_signed op (map given_signed gs)
signed-given widths Fit [] = refl
signed-given widths Fit (a ∷ []) = refl
signed-given widths Fit (a ∷ b ∷ gs) = refl
signed-given widths op [] = refl
signed-given widths op (a ∷ []) = refl
signed-given widths op (a ∷ b ∷ []) = refl
signed-given widths op (a ∷ b ∷ c ∷ []) = refl
signed-given widths op (a ∷ b ∷ c ∷ d ∷ gs) = refl

signed-read : (op : Op) (kinds : List Bool) → is_operator op ≡ true → is_signed op (kinds_read op kinds) ≡ is_signed op kinds
signed-read Cat [] is = refl
signed-read Cat (a ∷ []) is = refl
signed-read Cat (a ∷ b ∷ ks) is = refl
signed-read (Slice high low) [] is = refl
signed-read (Slice high low) (a ∷ []) is = refl
signed-read (Slice high low) (a ∷ b ∷ ks) is = refl
signed-read LeftBy [] is = refl
signed-read LeftBy (a ∷ []) is = refl
signed-read LeftBy (a ∷ b ∷ []) is = refl
signed-read LeftBy (a ∷ b ∷ c ∷ ks) is = refl
signed-read RightBy [] is = refl
signed-read RightBy (a ∷ []) is = refl
signed-read RightBy (a ∷ b ∷ []) is = refl
signed-read RightBy (a ∷ b ∷ c ∷ ks) is = refl
signed-read Choose [] is = refl
signed-read Choose (a ∷ []) is = refl
signed-read Choose (a ∷ b ∷ []) is = refl
signed-read Choose (a ∷ b ∷ c ∷ []) is = refl
signed-read Choose (a ∷ b ∷ c ∷ d ∷ ks) is = refl
signed-read (Delay c) kinds is = cc
signed-read op kinds is = refl

pub same-forms-given : (widths : List ℕ) (gs : List Given) (ss : List Stream) → AllZip (Matches widths) gs ss → map form_of ss ≡ forms_given widths gs
same-forms-given widths [] [] match = refl
same-forms-given widths [] (s ∷ ss) match = absurd match
same-forms-given widths (g ∷ gs) [] match = absurd match
same-forms-given widths (g ∷ gs) (s ∷ ss) match = ap₂ (λ (f : Form) fs. f ∷ fs) match.0.form (same-forms-given widths gs ss match.1)

-- ---- an operator's width, and its stream under a declared width or without one
abbrev pub IsLawful : Option ℕ → Type 0
IsLawful None = Unit {0}
IsLawful (Some w) = is_width w ≡ true

-- a stream of this kind and width
pub record HasForm (signed : Bool) (w : ℕ) (s : Stream) : Type 0 where
  pub form : s.form ≡ record { signed = signed; width = w }
  pub greatest : s.form.width ≤ 128

-- a stream where there is a width, and then of it
abbrev pub Settled : Bool → Option ℕ → Option Stream → Type 0
Settled signed None None = Unit {0}
Settled signed (Some w) (Some s) = HasForm signed w s
Settled signed None (Some s) = ⊥
Settled signed (Some w) None = ⊥

settled-natural : (c : Bool) (s : Stream) → nat_le s.form.width 128 ≡ c → Settled s.form.signed (cond c (Some s.form.width) None) (cond c (Some s) None)
settled-natural true s is = record { form = refl; greatest = leb-true s.form.width 128 is }
settled-natural false s is = tt

settled-declared : (w : ℕ) (s : Stream) (c : Bool) → is_width w ≡ true → is_width w ≡ c → Settled s.form.signed (Some w) (cond c (Some (fitted w s)) None)
settled-declared w s true lawful is = record { form = refl; greatest = leb-true w 128 (and_parts (nat_le 1 w) (nat_le w 128) lawful).1 }
settled-declared w s false lawful is = cc

settled-none : (d : Option ℕ) (signed : Bool) → Settled signed None (assigned d None)
settled-none None signed = tt
settled-none (Some w) signed = none_of (is_width w) where
  none_of : (c : Bool) → Settled signed None (cond c None None)
  none_of true = tt
  none_of false = tt

settled-taken : (d : Option ℕ) (t : Bool) (s : Stream) → IsLawful d → Settled s.form.signed (cond t (settled_width d s.form.width) None) (assigned d (cond t (Some s) None))
settled-taken d false s lawful = settled-none d s.form.signed
settled-taken None true s lawful = settled-natural (nat_le s.form.width 128) s refl
settled-taken (Some w) true s lawful = settled-declared w s (is_width w) lawful refl

-- the equation of an operator has a width exactly where its stream has one
pub settled-operator : (widths : List ℕ) (m : ℕ) (op : Op) (d : Option ℕ) (gs : List Given) (ss : List Stream) → is_operator op ≡ true → IsLawful d → AllZip (Matches widths) gs ss → Settled (is_signed op (kinds_read op (map given_signed gs))) (width_in widths (record { op = op; args = map given_operand gs; declared = d; kinds = kinds_read op (map given_signed gs) })) (assigned d (operate_on m op ss))
settled-operator widths m op d gs ss is lawful match =
    let forms = same-forms-given widths gs ss match in
    let signs : gives_signed op (map form_of ss) ≡ is_signed op (kinds_read op (map given_signed gs)) = ap (gives_signed op) forms ∙ signed-given widths op gs ∙ sym (signed-read op (map given_signed gs) is) in
    let taken : takes op (map form_of ss) ≡ takes op (forms_read widths op gs) = ap (takes op) forms ∙ sym (takes-read widths op gs) in
    let natural : natural_width op (map form_of ss) ≡ natural_width op (forms_read widths op gs) = ap (natural_width op) forms ∙ sym (width-read widths op gs) in
    let here : Settled (gives_signed op (map form_of ss)) (cond (takes op (map form_of ss)) (settled_width d (natural_width op (map form_of ss))) None) (assigned d (operate_on m op ss)) = settled-taken d (takes op (map form_of ss)) (operated m op ss) lawful in
    let P : Bool → Bool → ℕ → Type 0 = λ b t n. Settled b (cond t (settled_width d n) None) (assigned d (operate_on m op ss)) in
    subst (λ b. P b (takes op (forms_read widths op gs)) (natural_width op (forms_read widths op gs))) signs (subst (λ t. P (gives_signed op (map form_of ss)) t (natural_width op (forms_read widths op gs))) taken (subst (λ n. P (gives_signed op (map form_of ss)) (takes op (map form_of ss)) n) natural here))
