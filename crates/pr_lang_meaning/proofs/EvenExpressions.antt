-- What an expression means at some places is settled by the streams that it reads, at these places: their forms and their numbers.
use Rattle.std.proofs.Common.{◌≡◌, ℕ, List, [], ◌∷◌, map, Option, Some, None, Bool, true, false, refl, sym, ap, ap₂, subst, ◌∙◌, ◌||◌}
use Rattle.std.specs.Option.{option_and_then, IfSome}
use Rattle.std.specs.Result.{result_ok}
use Rattle.std.specs.List.{list_any, AllZip}
use Rattle.std.proofs.lemmas.Bool.{or_parts}
use Rattle.pr_lang.specs.declared.trees.BinOp.{BinOp}
use Rattle.std.specs.Global.{Box}
use Rattle.pr_lang.specs.declared.trees.Expr as expressions
use Rattle.pr_lang.specs.declared.trees.Expr.{Expr, map-Expr}
use Rattle.pr_lang.specs.declared.trees.Expr.TheVariants.{Paren}
use Rattle.pr_lang.specs.declared.trees.Expr.TheOpen.{Expr-F}
use Rattle.pr_lang.specs.declared.trees.Expr.TheFolds.{fold-Expr, fold-roll-Expr, ind-Expr}
use Rattle.pr_scope_names.specs.declared.names.Static.{Static}
use Rattle.pr_scope_names.specs.Constants.{read, constant_of, place_of}
use Rattle.pr_flat.specs.declared.equations.Op.{Op}
use Rattle.pr_flat.specs.declared.equations.Op.TheVariants as op
use Rattle.pr_flat.specs.declared.forms.Form.{Form}
use Rattle.pr_flat.specs.Forms.{Stream}
use Rattle.pr_lang_meaning.specs.Streams.{Sources, constant_stream, all_parts, operate}
use Rattle.pr_lang_meaning.specs.Expressions.{Function, Visible, Meaning, Sense, referred, operator, constant_shift, combined, unsigned, signed, beside, concatenated, senses, meaning_step, sense_step, sense_of, meaning}
use Rattle.pr_lang_meaning.proofs.Pairs.{Both, both-and_then, same-and_then, same-map}
use Rattle.pr_lang_meaning.proofs.Agreeing.{Agree, FirstBelow, SecondBelow, AgreeSources, AgreeNow, AgreePast, agree-constant, both-all_parts, both-operate}

-- a function makes streams that agree of streams that agree
abbrev pub IsEvenFunction : (ℕ → ℕ → Type 0) → Function → Type 0
IsEvenFunction P f = (m k : ℕ) → FirstBelow P m → SecondBelow P k → (ss ts : List Stream) → AllZip (Agree P) ss ts → Both (Agree P) (f m ss) (f k ts)

abbrev pub AreEven : (ℕ → ℕ → Type 0) → Visible → Type 0
AreEven P v = (name : List ℕ) → IfSome (v.functions name) (IsEvenFunction P)

abbrev pub IsEven : (ℕ → ℕ → Type 0) → Meaning → Type 0
IsEven P f = (v : Visible) → AreEven P v → (m k : ℕ) → FirstBelow P m → SecondBelow P k → (a b : Sources) → AgreeSources P a b → Both (Agree P) (f v m a) (f v k b)

even-referred : (P : ℕ → ℕ → Type 0) (m k : ℕ) → FirstBelow P m → SecondBelow P k → (static : Option Static) (place : Option ℕ) (a b : Option Stream) → Both (Agree P) a b → Both (Agree P) (referred static place m a) (referred static place k b)
even-referred P m k left right None place a b are = are
even-referred P m k left right (Some static) place a b are = same-map (Agree P) (constant_stream m) (constant_stream k) (result_ok (read (Some static) place)) (λ n. agree-constant P m k n left right)

even-combined : (P : ℕ → ℕ → Type 0) (m k : ℕ) → FirstBelow P m → SecondBelow P k → (o : BinOp) (shift : Option Op) (a b c d : Option Stream) → Both (Agree P) a c → Both (Agree P) b d → Both (Agree P) (combined m o shift a b) (combined k o shift c d)
even-combined P m k left right o None a b c d first second = both-operate P m k (operator o) (a ∷ b ∷ []) (c ∷ d ∷ []) left right (first, (second, tt))
even-combined P m k left right o (Some shift) a b c d first second = both-operate P m k shift (a ∷ []) (c ∷ []) left right (first, tt)

pub agree-signed : (P : ℕ → ℕ → Type 0) (s t : Stream) → Agree P s t → Agree P (signed s) (signed t)
agree-signed P s t are = record { forms = ap (λ (f : Form). record { signed = true; width = f.width }) are.forms; numbers = are.numbers }

agree-unsigned : (P : ℕ → ℕ → Type 0) (s t : Stream) → Agree P s t → Agree P (unsigned s) (unsigned t)
agree-unsigned P s t are = record { forms = ap (λ (f : Form). record { signed = false; width = f.width }) are.forms; numbers = are.numbers }

even-beside : (P : ℕ → ℕ → Type 0) (m k : ℕ) → FirstBelow P m → SecondBelow P k → (a b : Option Stream) (ss ts : List Stream) → Both (Agree P) a b → AllZip (Agree P) ss ts → Both (Agree P) (beside m a ss) (beside k b ts)
even-beside P m k left right a b [] [] above are = above
even-beside P m k left right a b [] (t ∷ ts) above are = absurd are
even-beside P m k left right a b (s ∷ ss) [] above are = absurd are
even-beside P m k left right a b (s ∷ ss) (t ∷ ts) above are = even-beside P m k left right (operate m op.Cat (a ∷ Some s ∷ [])) (operate k op.Cat (b ∷ Some t ∷ [])) ss ts (both-operate P m k op.Cat (a ∷ Some s ∷ []) (b ∷ Some t ∷ []) left right (above, (are.0, tt))) are.1

even-concatenated : (P : ℕ → ℕ → Type 0) (m k : ℕ) → FirstBelow P m → SecondBelow P k → (ss ts : List Stream) → AllZip (Agree P) ss ts → Both (Agree P) (concatenated m ss) (concatenated k ts)
even-concatenated P m k left right [] [] are = agree-constant P m k 0 left right
even-concatenated P m k left right [] (t ∷ ts) are = absurd are
even-concatenated P m k left right (s ∷ ss) [] are = absurd are
even-concatenated P m k left right (s ∷ ss) (t ∷ ts) are = even-beside P m k left right (Some (unsigned s)) (Some (unsigned t)) ss ts (agree-unsigned P s t are.0) are.1

even-called : (P : ℕ → ℕ → Type 0) (m k : ℕ) → FirstBelow P m → SecondBelow P k → (f : Option Function) (ss ts : List Stream) → IfSome f (IsEvenFunction P) → AllZip (Agree P) ss ts → Both (Agree P) (option_and_then (λ (g : Function). g m ss) f) (option_and_then (λ (g : Function). g k ts) f)
even-called P m k left right None ss ts even are = tt
even-called P m k left right (Some f) ss ts even are = even m k left right ss ts are

-- ---- what an expression looks back at
-- Whether an expression reads what a sample's own place does not settle: whether it calls a function of which this is
-- said by name and, where delays count, whether it has a delay.
abbrev pub looks_step : Bool → (List ℕ → Bool) → Expr-F Bool → Bool
looks_step delays past (Expr-F.Number n) = false
looks_step delays past (Expr-F.Refer r) = false
looks_step delays past (Expr-F.Delay r d) = delays
looks_step delays past (Expr-F.Slice e high low) = e.value
looks_step delays past (Expr-F.Not e) = e.value
looks_step delays past (Expr-F.Binary o e f) = e.value || f.value
looks_step delays past (Expr-F.Choose c e f) = c.value || (e.value || f.value)
looks_step delays past (Expr-F.Call name args) = past name || list_any (λ b. b) args.items
looks_step delays past (Expr-F.Cat parts) = list_any (λ b. b) parts.items
looks_step delays past (Expr-F.Paren e) = e.value

abbrev pub looks_back : Bool → (List ℕ → Bool) → Expr → Bool
looks_back delays past = fold-Expr Bool (looks_step delays past)

-- the functions of which it is not said are even
abbrev pub AreEvenBut : (ℕ → ℕ → Type 0) → (List ℕ → Bool) → Visible → Type 0
AreEvenBut P past v = (name : List ℕ) → past name ≡ false → IfSome (v.functions name) (IsEvenFunction P)

-- earlier samples have to agree only where delays are allowed
abbrev pub IsEvenBut : (ℕ → ℕ → Type 0) → Bool → (List ℕ → Bool) → Meaning → Type 0
IsEvenBut P delays past f = (v : Visible) → AreEvenBut P past v → (m k : ℕ) → FirstBelow P m → SecondBelow P k → (a b : Sources) → AgreeNow P a b → (delays ≡ false → AgreePast P a b) → Both (Agree P) (f v m a) (f v k b)

abbrev EvenWhere : (ℕ → ℕ → Type 0) → Bool → (List ℕ → Bool) → Expr → Type 0
EvenWhere P delays past e = looks_back delays past e ≡ false → IsEvenBut P delays past (meaning e)

-- an expression, beside the fact that it is even
abbrev Proved : (ℕ → ℕ → Type 0) → Bool → (List ℕ → Bool) → Type 0
Proved P delays past = (e : Expr) × EvenWhere P delays past e

even-senses : (P : ℕ → ℕ → Type 0) (delays : Bool) (past : List ℕ → Bool) (es : List (Proved P delays past)) → list_any (λ b. b) (map (looks_back delays past) (map (λ (p : Proved P delays past). p.0) es)) ≡ false → (v : Visible) → AreEvenBut P past v → (m k : ℕ) → FirstBelow P m → SecondBelow P k → (a b : Sources) → AgreeNow P a b → (delays ≡ false → AgreePast P a b) → AllZip (Both (Agree P)) (senses (map sense_of (map (λ (p : Proved P delays past). p.0) es)) v m a) (senses (map sense_of (map (λ (p : Proved P delays past). p.0) es)) v k b)
even-senses P delays past [] calm v even m k left right a b now before = tt
even-senses P delays past (e ∷ es) calm v even m k left right a b now before =
    let calm_parts = or_parts (looks_back delays past e.0) (list_any (λ b. b) (map (looks_back delays past) (map (λ (p : Proved P delays past). p.0) es))) calm in
    (e.1 calm_parts.0 v even m k left right a b now before, even-senses P delays past es calm_parts.1 v even m k left right a b now before)

-- one layer, whose parts are even
even-step : (P : ℕ → ℕ → Type 0) (delays : Bool) (past : List ℕ → Bool) (y : Expr-F (Proved P delays past)) → looks_step delays past (map-Expr Expr Bool (looks_back delays past) (map-Expr (Proved P delays past) Expr (λ p. p.0) y)) ≡ false → IsEvenBut P delays past (meaning_step (map-Expr Expr Sense sense_of (map-Expr (Proved P delays past) Expr (λ p. p.0) y)))
even-step P delays past (Expr-F.Number n) calm v even m k left right a b now before = agree-constant P m k n left right
even-step P delays past (Expr-F.Refer r) calm v even m k left right a b now before = same-and_then (Agree P) (λ place. referred (v.known r.name) place m (a.now r.name place)) (λ place. referred (v.known r.name) place k (b.now r.name place)) (result_ok (place_of r v.known)) (λ place. even-referred P m k left right (v.known r.name) place (a.now r.name place) (b.now r.name place) (now r.name place))
even-step P delays past (Expr-F.Delay r d) calm v even m k left right a b now before = same-and_then (Agree P) (λ place. option_and_then (a.past r.name place) (result_ok (constant_of d v.known))) (λ place. option_and_then (b.past r.name place) (result_ok (constant_of d v.known))) (result_ok (place_of r v.known)) (λ place. same-and_then (Agree P) (a.past r.name place) (b.past r.name place) (result_ok (constant_of d v.known)) (λ n. before calm r.name place n))
even-step P delays past (Expr-F.Slice e high low) calm v even m k left right a b now before =
    let here = e.value.1 calm v even m k left right a b now before in
    let s = meaning e.value.0 v m a in
    let t = meaning e.value.0 v k b in
    same-and_then (Agree P) (λ h. option_and_then (λ l. operate m (op.Slice h l) (s ∷ [])) (result_ok (constant_of low v.known))) (λ h. option_and_then (λ l. operate k (op.Slice h l) (t ∷ [])) (result_ok (constant_of low v.known))) (result_ok (constant_of high v.known)) (λ h.
    same-and_then (Agree P) (λ l. operate m (op.Slice h l) (s ∷ [])) (λ l. operate k (op.Slice h l) (t ∷ [])) (result_ok (constant_of low v.known)) (λ l.
    both-operate P m k (op.Slice h l) (s ∷ []) (t ∷ []) left right (here, tt)))
even-step P delays past (Expr-F.Not e) calm v even m k left right a b now before = both-operate P m k op.Not (meaning e.value.0 v m a ∷ []) (meaning e.value.0 v k b ∷ []) left right (e.value.1 calm v even m k left right a b now before, tt)
even-step P delays past (Expr-F.Binary o e f) calm v even m k left right a b now before =
    let both = or_parts (looks_back delays past e.value.0) (looks_back delays past f.value.0) calm in
    even-combined P m k left right o (constant_shift o ((sense_of f.value.0).amount v.known)) (meaning e.value.0 v m a) (meaning f.value.0 v m a) (meaning e.value.0 v k b) (meaning f.value.0 v k b) (e.value.1 both.0 v even m k left right a b now before) (f.value.1 both.1 v even m k left right a b now before)
even-step P delays past (Expr-F.Choose c e f) calm v even m k left right a b now before =
    let all = or_parts (looks_back delays past c.value.0) (looks_back delays past e.value.0 || looks_back delays past f.value.0) calm in
    let both = or_parts (looks_back delays past e.value.0) (looks_back delays past f.value.0) all.1 in
    both-operate P m k op.Choose (meaning c.value.0 v m a ∷ meaning e.value.0 v m a ∷ meaning f.value.0 v m a ∷ []) (meaning c.value.0 v k b ∷ meaning e.value.0 v k b ∷ meaning f.value.0 v k b ∷ []) left right (c.value.1 all.0 v even m k left right a b now before, (e.value.1 both.0 v even m k left right a b now before, (f.value.1 both.1 v even m k left right a b now before, tt)))
even-step P delays past (Expr-F.Call name args) calm v even m k left right a b now before =
    let rest = or_parts (past name) (list_any (λ b. b) (map (looks_back delays past) (map (λ (p : Proved P delays past). p.0) args.items))) calm in
    let s = senses (map sense_of (map (λ (p : Proved P delays past). p.0) args.items)) v m a in
    let t = senses (map sense_of (map (λ (p : Proved P delays past). p.0) args.items)) v k b in
    both-and_then (AllZip (Agree P)) (Agree P) (λ ss. option_and_then (λ (f : Function). f m ss) (v.functions name)) (λ ss. option_and_then (λ (f : Function). f k ss) (v.functions name)) (all_parts s) (all_parts t) (both-all_parts P s t (even-senses P delays past args.items rest.1 v even m k left right a b now before)) (λ ss ts is. even-called P m k left right (v.functions name) ss ts (even name rest.0) is)
even-step P delays past (Expr-F.Cat parts) calm v even m k left right a b now before =
    let s = senses (map sense_of (map (λ (p : Proved P delays past). p.0) parts.items)) v m a in
    let t = senses (map sense_of (map (λ (p : Proved P delays past). p.0) parts.items)) v k b in
    both-and_then (AllZip (Agree P)) (Agree P) (concatenated m) (concatenated k) (all_parts s) (all_parts t) (both-all_parts P s t (even-senses P delays past parts.items calm v even m k left right a b now before)) (even-concatenated P m k left right)
even-step P delays past (Expr-F.Paren e) calm v even m k left right a b now before = e.value.1 calm v even m k left right a b now before

-- What an expression that does not look back means at a place is settled there. With delays allowed, what its delays read
-- has to agree too; the functions that it calls are those that do not look back.
pub even-where : (P : ℕ → ℕ → Type 0) (delays : Bool) (past : List ℕ → Bool) (e : Expr) → looks_back delays past e ≡ false → IsEvenBut P delays past (meaning e)
even-where P delays past = ind-Expr (EvenWhere P delays past) (λ x y is calm.
    let layer : looks_step delays past (map-Expr Expr Bool (looks_back delays past) x) ≡ false → IsEvenBut P delays past (meaning_step (map-Expr Expr Sense sense_of x)) = subst (λ z. looks_step delays past (map-Expr Expr Bool (looks_back delays past) z) ≡ false → IsEvenBut P delays past (meaning_step (map-Expr Expr Sense sense_of z))) is (even-step P delays past y) in
    subst (λ (s : Sense). IsEvenBut P delays past s.meaning) (sym (fold-roll-Expr Sense sense_step x)) (layer (sym (fold-roll-Expr Bool (looks_step delays past) x) ∙ calm)))

-- ---- where nothing counts, no expression looks back
abbrev Never : List ℕ → Bool
Never name = false

abbrev NeverLooks : Expr → Type 0
NeverLooks e = looks_back false Never e ≡ false

never-any : (es : List ((e : Expr) × NeverLooks e)) → list_any (λ b. b) (map (looks_back false Never) (map (λ e. e.0) es)) ≡ false
never-any [] = refl
never-any (e ∷ es) = ap₂ (λ x y. x || y) e.1 (never-any es)

never-step : (y : Expr-F ((e : Expr) × NeverLooks e)) → looks_step false Never (map-Expr Expr Bool (looks_back false Never) (map-Expr ((e : Expr) × NeverLooks e) Expr (λ e. e.0) y)) ≡ false
never-step (Expr-F.Number n) = refl
never-step (Expr-F.Refer r) = refl
never-step (Expr-F.Delay r d) = refl
never-step (Expr-F.Slice e high low) = e.value.1
never-step (Expr-F.Not e) = e.value.1
never-step (Expr-F.Binary o e f) = ap₂ (λ x y. x || y) e.value.1 f.value.1
never-step (Expr-F.Choose c e f) = ap₂ (λ x y. x || y) c.value.1 (ap₂ (λ x y. x || y) e.value.1 f.value.1)
never-step (Expr-F.Call name args) = never-any args.items
never-step (Expr-F.Cat parts) = never-any parts.items
never-step (Expr-F.Paren e) = e.value.1

never-looks : (e : Expr) → NeverLooks e
never-looks = ind-Expr NeverLooks (λ x y is. fold-roll-Expr Bool (looks_step false Never) x ∙ subst (λ z. looks_step false Never (map-Expr Expr Bool (looks_back false Never) z) ≡ false) is (never-step y))

-- and where all functions are even, every expression is
pub even-meaning : (P : ℕ → ℕ → Type 0) (e : Expr) → IsEven P (meaning e)
even-meaning P e v even m k left right a b are = even-where P false Never e (never-looks e) v (λ name calm. even name) m k left right a b are.now (λ allowed. are.past)

-- parentheses change nothing
pub same-paren : (inner : Box Expr) → meaning (Paren inner) ≡ meaning inner.value
unfolding expressions.roll-Expr denote.Hole.Carrier.roll
same-paren inner = ap (λ (s : Sense). s.meaning) (fold-roll-Expr Sense sense_step (Expr-F.Paren inner))
