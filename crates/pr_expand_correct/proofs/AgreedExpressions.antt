-- The equations of an expression have widths where what it means has one.
use Rattle.std.proofs.Common.{◌≡◌, ◌∙◌, ◌⊎◌, ℕ, suc, Bool, true, false, ◌||◌, nat_le, is_none, List, [], ◌∷◌, map, length, Option, Some, None, option_map, unwrap_or, Ok, refl, sym, ap, subst, arith, inl, inr}
use Rattle.std.specs.Option.{option_and_then}
use Rattle.std.specs.Result.{result_ok}
use Rattle.std.specs.Global.{Box}
use Rattle.std.proofs.lemmas.Bool.{true≢false, le-leb}
use Rattle.std.proofs.lemmas.List.{length-map}
use Rattle.pr_lang.specs.declared.trees.BinOp.{BinOp}
use Rattle.pr_lang.specs.declared.trees.BinOp.TheVariants as binary
use Rattle.pr_lang.specs.declared.trees.Fixed.{Fixed}
use Rattle.pr_lang.specs.declared.trees.Ref.{Ref}
use Rattle.pr_lang.specs.declared.trees.Expr.{Expr, map-Expr, roll-Expr}
use Rattle.pr_lang.specs.declared.trees.Expr.TheOpen.{Expr-F}
use Rattle.pr_lang.specs.declared.trees.Expr.TheFolds.{fold-roll-Expr, ind-Expr}
use Rattle.pr_scope_names.specs.declared.counts.Count.{Count}
use Rattle.pr_scope_names.specs.declared.names.Static.TheVariants as static
use Rattle.pr_scope_names.specs.Names.{Known}
use Rattle.pr_scope_names.specs.Constants.{constant_of, place_of}
use Rattle.pr_scope_names.specs.Amounts.{Amount, amount_of}
use Rattle.pr_scope.specs.Expressions.{Reading, reading, reading_step, walk_step, walk_of, past_step, past_of, pasts_of, is_past}
use Rattle.pr_flat.specs.declared.equations.Operand.TheVariants.{Const}
use Rattle.pr_flat.specs.declared.equations.Op.{Op}
use Rattle.pr_flat.specs.declared.equations.Op.TheVariants as op
use Rattle.pr_flat.specs.Forms.{Stream}
use Rattle.pr_lang_meaning.specs.Streams.{Bound, all_parts, constant_stream, delayed, operate, part, sources, assigned}
use Rattle.pr_lang_meaning.specs.Expressions.{Function, Sense, operator, constant_shift, sense_of, sense_step, meaning_step}
use Rattle.pr_lang_meaning.specs.Expressions as meant
use Rattle.pr_expand_spec.specs.declared.givens.Given.{Given}
use Rattle.pr_expand_spec.specs.Making.{Equations, Expanded, made, constant, with_equation}
use Rattle.pr_expand_spec.specs.Expressions.{AllExpanded, Inlined, ExprPlan, all_made, apply, declared_at_operator, place, plan_of, plan_step}
use Rattle.pr_expand_spec.specs.Expressions as made_by
use Rattle.pr_scope_facts.proofs.Appending.{declared-with}
use Rattle.pr_scope_facts.proofs.Statics.{SameKnown, same-static, same-unknown, same-number, same-amount, constant-meant, constant-made, place-meant, place-made}
use Rattle.pr_scope_facts.proofs.InvertedExpressions.{StaticUse, StreamUse, ReferWalk, DelayWalk, ShiftWalk, PairWalk, BinaryWalk, CallWalk, AllWalk, refer-inverted, delay-inverted, slice-inverted, binary-inverted, choose-inverted, parts-inverted, call-inverted}
use Rattle.pr_scope_facts.proofs.Inductions.{plan_amount, sense_amount}
use Rattle.pr_expand_correct.proofs.Related.{Agrees, AllAgree, Scenery}
use Rattle.pr_expand_correct.proofs.Forms.{IsLawful, is_operator}
use Rattle.pr_expand_correct.proofs.Combining.{agrees-operator, agrees-no_parts, agrees-part_more, agrees-call}
use Rattle.pr_expand_correct.proofs.Concatenations.{IsShapedWhere, all_parts-shaped, beside_all, unsigned_first, agrees-chain, agrees-unsigned, agrees-one_part, shaped-unsigned, meant-concatenated}
use Rattle.pr_expand_correct.proofs.Texts.{Setting, seen_by_meaning, seen_by_equations, FitsIn, IsCalmIn, IsReady, under, PlanAgrees, ready-part, ready-more, ready-keeps, calm-part, implied-false, agrees-same, agrees-part, agrees-constant, agrees-named, agrees-earlier}

-- wherever its names are known, an expression's equations agree with its meaning
abbrev pub ExpressionAgrees : Expr → Type 0
ExpressionAgrees e = (t : Setting) (es : Equations) (c d : Count) (width : Option ℕ) → walk_of e t.walk t.streaming t.scene c ≡ Ok d → IsReady t (past_of e t.walk) es → IsLawful width → PlanAgrees (plan_of e) (sense_of e) (past_of e t.walk) t es width

abbrev Proved : Type 0
Proved = (e : Expr) × ExpressionAgrees e

abbrev exprs : List Proved → List Expr
exprs ps = map (λ (p : Proved). p.0) ps

pub agrees-calmer : {X : Type 0} (own : Option ℕ) (calm less : Type 0) (fits : X → List ℕ → Type 0) (old : Equations) (m : Expanded) (f : X → Option Stream) → (less → calm) → Agrees own calm fits old m f → Agrees own less fits old m f
agrees-calmer own calm less fits old m f implied agrees = record {
  grown = record { appends = agrees.grown.appends; formed = agrees.grown.formed; calm_kept = λ is. agrees.grown.calm_kept (implied is) };
  within = agrees.within;
  found = agrees.found;
  extended = agrees.extended;
}

-- ---- parts
pub or-first : (a b c : Bool) → ((a || b) ≡ true → c ≡ true) → a ≡ true → c ≡ true
or-first a b c implied is = implied (ap (λ x. x || b) is)

pub or-rest : (a b c : Bool) → ((a || b) ≡ true → c ≡ true) → b ≡ true → c ≡ true
or-rest true b c implied is = implied refl
or-rest false b c implied is = implied is

agrees-parts : (t : Setting) (past : Bool) (ps : List Proved) (es : Equations) (c d : Count) → AllWalk (exprs ps) t.walk t.streaming t.scene c d → IsReady t past es → (pasts_of (map past_of (exprs ps)) t.walk ≡ true → past ≡ true) → AllAgree t.own (IsCalmIn t past) (FitsIn t) es (all_made (map plan_of (exprs ps)) (seen_by_equations t) t.standings es) (λ (x : Scenery). all_parts (meant.senses (map sense_of (exprs ps)) (seen_by_meaning t) x.samples (sources x.samples x.env)))
agrees-parts t past [] es c d walks ready implied = agrees-no_parts t.own (IsCalmIn t past) (FitsIn t) es ready.formed
agrees-parts t past (p ∷ ps) es c d walks ready implied =
    let here = past_of p.0 t.walk in
    let rest = pasts_of (map past_of (exprs ps)) t.walk in
    let first_implied : here ≡ true → past ≡ true = or-first here rest past implied in
    let m = (plan_of p.0).making (seen_by_equations t) t.standings es in
    let f : Scenery → Option Stream = λ x. meant.meaning p.0 (seen_by_meaning t) x.samples (sources x.samples x.env) in
    let whole = p.1 t es c walks.0 None walks.1 (ready-part t past here es first_implied ready) tt in
    let one = agrees-calmer t.own (IsCalmIn t here) (IsCalmIn t past) (FitsIn t) es m (λ x. part (f x)) (calm-part t past here first_implied) (agrees-part t.own (IsCalmIn t here) (FitsIn t) es (plan_of p.0).is_operator m f whole) in
    let others = agrees-parts t past ps m.equations walks.0 d walks.2 (ready-more t past es m.equations (IsCalmIn t past) one.grown ready) (or-rest here rest past implied) in
    agrees-part_more t.own (IsCalmIn t past) (FitsIn t) es m (all_made (map plan_of (exprs ps)) (seen_by_equations t) t.standings m.equations) (λ x. part (f x)) (λ x. all_parts (meant.senses (map sense_of (exprs ps)) (seen_by_meaning t) x.samples (sources x.samples x.env))) (ready-keeps t past es ready) one others

pub declared-apply : (o : Op) (all : AllExpanded) (width : Option ℕ) → declared_at_operator true width (apply o all) ≡ with_equation o all.given width all.equations
declared-apply o all None = refl
declared-apply o all (Some w) = declared-with w o all.given all.equations

agrees-applied : (t : Setting) (past : Bool) (es : Equations) (width : Option ℕ) (all : AllExpanded) (os : Scenery → List (Option Stream)) (o : Op) → is_operator o ≡ true → IsLawful width → IsReady t past es → AllAgree t.own (IsCalmIn t past) (FitsIn t) es all (λ x. all_parts (os x)) → Agrees t.own (IsCalmIn t past) (FitsIn t) es (declared_at_operator true width (apply o all)) (λ (x : Scenery). under true width (operate x.samples o (os x)))
agrees-applied t past es width all os o is lawful ready agrees =
    let f : Scenery → Option Stream = λ x. under true width (operate x.samples o (os x)) in
    agrees-same t.own (IsCalmIn t past) (FitsIn t) es (with_equation o all.given width all.equations) (declared_at_operator true width (apply o all)) f f (declared-apply o all width) (λ x. refl) (agrees-operator t.own (IsCalmIn t past) (FitsIn t) es all (λ x. all_parts (os x)) (λ (x : Scenery). x.samples) o width (ready-keeps t past es ready) agrees is lawful)

-- ---- amounts
pub shift-made : (walk known : Known) → SameKnown walk known → (o : BinOp) (b : Expr) → constant_shift o ((plan_of b).amount known) ≡ constant_shift o (amount_of b walk)
shift-made walk known same o b = ap (constant_shift o) (ap (λ (f : Amount). f known) (plan_amount b) ∙ same-amount walk known same b)

pub shift-meant : (walk known : Known) → SameKnown walk known → (o : BinOp) (b : Expr) → constant_shift o ((sense_of b).amount known) ≡ constant_shift o (amount_of b walk)
shift-meant walk known same o b = ap (constant_shift o) (ap (λ (f : Amount). f known) (sense_amount b) ∙ same-amount walk known same b)

pub operators-operate : (o : BinOp) → is_operator (operator o) ≡ true
operators-operate binary.Add = refl
operators-operate o = refl

pub shifts-operate : (n : ℕ) (o : Op) → (o ≡ op.Left n) ⊎ (o ≡ op.Right n) → is_operator o ≡ true
shifts-operate n o (inl left) = ap is_operator left
shifts-operate n o (inr right) = ap is_operator right

-- ---- names
agrees-refer : (t : Setting) (es : Equations) (r : Ref) → IsReady t false es → ReferWalk r t.walk t.streaming t.scene → Agrees t.own (IsCalmIn t false) (FitsIn t) es (made_by.referred (t.known r.name) (place r t.known) (t.standings r.name (place r t.known)) es) (λ (x : Scenery). option_and_then (λ at. meant.referred (t.known r.name) at x.samples (option_map (λ (b : Bound). b.stream) (x.env r.name at))) (result_ok (place_of r t.known)))
agrees-refer t es r ready walk = by_use walk.use_of where
  same : SameKnown t.walk t.known
  same = ready.visible.same

  meant_of : Scenery → Option Stream
  meant_of x = option_and_then (λ at. meant.referred (t.known r.name) at x.samples (option_map (λ (b : Bound). b.stream) (x.env r.name at))) (result_ok (place_of r t.known))

  by_use : StaticUse t.walk r.name walk.index ⊎ StreamUse t.walk t.streaming t.scene r.name walk.index → Agrees t.own (IsCalmIn t false) (FitsIn t) es (made_by.referred (t.known r.name) (place r t.known) (t.standings r.name (place r t.known)) es) meant_of
  by_use (inl u) =
      let known_as = same-static t.walk t.known same r.name u.static u.is in
      let reads = same-number t.walk t.known same r.name u.static walk.index u.number u.is u.reads in
      let m = made es (Const u.number) false in
      let made_as : made_by.referred (t.known r.name) (place r t.known) (t.standings r.name (place r t.known)) es ≡ m =
      (λ i. made_by.referred (known_as i) (place-made t.walk t.known same r walk.index walk.placed i) (t.standings r.name (place r t.known)) es) ∙ ap (λ q. made es (Const (unwrap_or (result_ok q) 0)) false) reads in
      let meant_as : (x : Scenery) → meant_of x ≡ Some (constant_stream x.samples u.number) = λ x.
      (λ i. option_and_then (λ at. meant.referred (known_as i) at x.samples (option_map (λ (b : Bound). b.stream) (x.env r.name at))) (place-meant t.walk t.known same r walk.index walk.placed i)) ∙ ap (λ q. option_map (constant_stream x.samples) (result_ok q)) reads in
      agrees-same t.own (IsCalmIn t false) (FitsIn t) es m (made_by.referred (t.known r.name) (place r t.known) (t.standings r.name (place r t.known)) es) (λ (x : Scenery). Some (constant_stream x.samples u.number)) meant_of made_as meant_as (agrees-constant t.own (IsCalmIn t false) (FitsIn t) es u.number (λ (x : Scenery). x.samples) ready.formed)
  by_use (inr u) =
      let unknown = same-unknown t.walk t.known same r.name u.unknown in
      let m = made_by.referred None walk.index (t.standings r.name walk.index) es in
      let f : Scenery → Option Stream = λ x. option_map (λ (b : Bound). b.stream) (x.env r.name walk.index) in
      let made_as : made_by.referred (t.known r.name) (place r t.known) (t.standings r.name (place r t.known)) es ≡ m =
      (λ i. made_by.referred (unknown i) (place-made t.walk t.known same r walk.index walk.placed i) (t.standings r.name (place-made t.walk t.known same r walk.index walk.placed i)) es) in
      let meant_as : (x : Scenery) → meant_of x ≡ f x = λ x.
      (λ i. option_and_then (λ at. meant.referred (unknown i) at x.samples (option_map (λ (b : Bound). b.stream) (x.env r.name at))) (place-meant t.walk t.known same r walk.index walk.placed i)) in
      agrees-same t.own (IsCalmIn t false) (FitsIn t) es m (made_by.referred (t.known r.name) (place r t.known) (t.standings r.name (place r t.known)) es) f meant_of made_as meant_as (agrees-named t false es (IsCalmIn t false) ready r.name walk.index (t.standings r.name walk.index) refl u.there u.other)

agrees-delay : (t : Setting) (es : Equations) (r : Ref) (k : Fixed) → IsReady t true es → DelayWalk r k t.walk t.streaming t.scene → Agrees t.own (IsCalmIn t true) (FitsIn t) es (made_by.earlier (constant k t.known) (t.standings r.name (place r t.known)) es) (λ (x : Scenery). option_and_then (λ at. option_and_then (λ n. option_map (delayed x.samples n) (x.env r.name at)) (result_ok (constant_of k t.known))) (result_ok (place_of r t.known)))
agrees-delay t es r k ready walk =
    let same = ready.visible.same in
    let f : Scenery → Option Stream = λ x. option_map (delayed x.samples walk.amount) (x.env r.name walk.index) in
    let g : Scenery → Option Stream = λ x. option_and_then (λ at. option_and_then (λ n. option_map (delayed x.samples n) (x.env r.name at)) (result_ok (constant_of k t.known))) (result_ok (place_of r t.known)) in
    let made_as : made_by.earlier (constant k t.known) (t.standings r.name (place r t.known)) es ≡ made_by.earlier walk.amount (t.standings r.name walk.index) es = λ i. made_by.earlier (constant-made t.walk t.known same k walk.amount walk.amount_is i) (t.standings r.name (place-made t.walk t.known same r walk.index walk.placed i)) es in
    let meant_as : (x : Scenery) → g x ≡ f x = λ x i. option_and_then (λ at. option_and_then (λ n. option_map (delayed x.samples n) (x.env r.name at)) (constant-meant t.walk t.known same k walk.amount walk.amount_is i)) (place-meant t.walk t.known same r walk.index walk.placed i) in
    agrees-same t.own (IsCalmIn t true) (FitsIn t) es (made_by.earlier walk.amount (t.standings r.name walk.index) es) (made_by.earlier (constant k t.known) (t.standings r.name (place r t.known)) es) f g made_as meant_as (agrees-earlier t es (IsCalmIn t true) ready r.name walk.index walk.amount (t.standings r.name walk.index) refl walk.greatest walk.past_of)

-- ---- calls
pub given-length : (ps : List ExprPlan) (v : made_by.Visible) (env : made_by.Streams) (es : Equations) → length (all_made ps v env es).given ≡ length ps
given-length [] v env es = refl
given-length (p ∷ ps) v env es = ap suc (given-length ps v env (p.making v env es).equations)

-- a call, of which the walk tells the function
agrees-called : (t : Setting) (past : Bool) (name : List ℕ) (ps : List Proved) (es : Equations) (c : Count) → IsReady t past es → (is_past (t.walk name) ≡ true → past ≡ true) → (pasts_of (map past_of (exprs ps)) t.walk ≡ true → past ≡ true) → CallWalk name (exprs ps) t.walk t.streaming t.scene c → Agrees t.own (IsCalmIn t past) (FitsIn t) es (made_by.called (made_by.function_of (t.known name) (t.inlined name)) (all_made (map plan_of (exprs ps)) (seen_by_equations t) t.standings es)) (λ (x : Scenery). option_and_then (λ ss. option_and_then (λ (f : Function). f x.samples ss) (t.meanings name)) (all_parts (meant.senses (map sense_of (exprs ps)) (seen_by_meaning t) x.samples (sources x.samples x.env))))
agrees-called t past name ps es c ready implied parts_implied walk =
    let all = all_made (map plan_of (exprs ps)) (seen_by_equations t) t.standings es in
    let os : Scenery → Option (List Stream) = λ x. all_parts (meant.senses (map sense_of (exprs ps)) (seen_by_meaning t) x.samples (sources x.samples x.env)) in
    let callable = ready.visible.calls name walk.callee walk.is in
    let f = callable.function in
    let m = callable.making all.given all.equations in
    let args = agrees-parts t past ps es c walk.between walk.parts ready parts_implied in
    let long : length all.given ≡ walk.callee.params = given-length (map plan_of (exprs ps)) (seen_by_equations t) t.standings es ∙ length-map (exprs ps) plan_of ∙ walk.may.count in
    let body = callable.does.agrees t.own lone all.given all.equations args.grown.formed long args.within in
    let called_as : made_by.called (made_by.function_of (t.known name) (t.inlined name)) all ≡ m = λ i. made_by.called (made_by.function_of (same-static t.walk t.known ready.visible.same name (static.Function walk.callee) walk.is i) (callable.inlined_is i)) all in
    let meant_as : (x : Scenery) → option_and_then (λ ss. option_and_then (λ (f : Function). f x.samples ss) (t.meanings name)) (os x) ≡ option_and_then (f x.samples) (os x) = λ x i. option_and_then (λ ss. option_and_then (λ (f : Function). f x.samples ss) (callable.meant_is i)) (os x) in
    agrees-same t.own (IsCalmIn t past) (FitsIn t) es m (made_by.called (made_by.function_of (t.known name) (t.inlined name)) all) (λ (x : Scenery). option_and_then (f x.samples) (os x)) (λ (x : Scenery). option_and_then (λ ss. option_and_then (λ (f : Function). f x.samples ss) (t.meanings name)) (os x)) called_as meant_as (agrees-call t.own (IsCalmIn t past) (walk.callee.past ≡ false) (FitsIn t) es all m (λ (x : Scenery). x.samples) os f (ready-keeps t past es ready) quieter args body) where
      looks : walk.callee.past ≡ true → past ≡ true
      looks is = implied (ap is_past walk.is ∙ is)

      lone : walk.callee.past ≡ true → t.own ≡ None
      lone is = ready.clear.lone (looks is) (outside (is_none t.scene.own) refl) where
        outside : (b : Bool) → is_none t.scene.own ≡ b → is_none t.scene.own ≡ true
        outside true same = same
        outside false same = absurd (true≢false (sym is ∙ walk.may.calm same))

      quieter : IsCalmIn t past → walk.callee.past ≡ false
      quieter (inl none) = implied-false walk.callee.past past looks none
      quieter (inr body) = walk.may.calm body

-- ---- parts beside one another
agrees-cat : (t : Setting) (past : Bool) (width : Option ℕ) (ps : List Proved) (es : Equations) (c d : Count) → AllWalk (exprs ps) t.walk t.streaming t.scene c d → IsReady t past es → (pasts_of (map past_of (exprs ps)) t.walk ≡ true → past ≡ true) → IsLawful width → Agrees t.own (IsCalmIn t past) (FitsIn t) es (declared_at_operator (nat_le 2 (length (map plan_of (exprs ps)))) width (made_by.concatenated (all_made (map plan_of (exprs ps)) (seen_by_equations t) t.standings es).given (all_made (map plan_of (exprs ps)) (seen_by_equations t) t.standings es).equations)) (λ (x : Scenery). under (nat_le 2 (length (map plan_of (exprs ps)))) width (option_and_then (meant.concatenated x.samples) (all_parts (meant.senses (map sense_of (exprs ps)) (seen_by_meaning t) x.samples (sources x.samples x.env)))))
agrees-cat t past width [] es c d walks ready implied lawful = agrees-constant t.own (IsCalmIn t past) (FitsIn t) es 0 (λ (x : Scenery). x.samples) ready.formed
agrees-cat t past width (p ∷ []) es c d walks ready implied lawful =
    let m = (plan_of p.0).making (seen_by_equations t) t.standings es in
    agrees-one_part t.own (IsCalmIn t past) (FitsIn t) es m.equations m.given (λ (x : Scenery). x.samples) (λ x. all_parts (meant.senses (map sense_of (exprs (p ∷ []))) (seen_by_meaning t) x.samples (sources x.samples x.env))) (agrees-parts t past (p ∷ []) es c d walks ready implied)
agrees-cat t past width (p ∷ q ∷ ps) es c d walks ready implied lawful =
    let parts : List Proved = p ∷ q ∷ ps in
    let all = all_made (map plan_of (exprs parts)) (seen_by_equations t) t.standings es in
    let os : Scenery → List (Option Stream) = λ x. meant.senses (map sense_of (exprs parts)) (seen_by_meaning t) x.samples (sources x.samples x.env) in
    let first = (plan_of p.0).making (seen_by_equations t) t.standings es in
    let second = (plan_of q.0).making (seen_by_equations t) t.standings first.equations in
    let rest = all_made (map plan_of (exprs ps)) (seen_by_equations t) t.standings second.equations in
    let read : Given = record { operand = first.given.operand; signed = false } in
    let long : length (second.given ∷ rest.given) ≡ suc (length (exprs ps)) = ap suc (given-length (map plan_of (exprs ps)) (seen_by_equations t) t.standings second.equations ∙ length-map (exprs ps) plan_of) in
    let count : (x : Scenery) → length (os x) ≡ suc (suc (length (exprs ps))) = λ x. length-map (map sense_of (exprs parts)) (λ (s : Sense). s.meaning (seen_by_meaning t) x.samples (sources x.samples x.env)) ∙ length-map (exprs parts) sense_of in
    let shaped : (x : Scenery) → IsShapedWhere (suc (suc (length rest.given))) (all_parts (os x)) = λ x. subst (λ n. IsShapedWhere n (all_parts (os x))) (count x ∙ sym (ap suc long)) (all_parts-shaped (os x)) in
    let chain = agrees-chain t.own (IsCalmIn t past) (FitsIn t) es (λ (x : Scenery). x.samples) width (ready-keeps t past es ready) lawful rest.given all.equations read second.given (λ x. option_map unsigned_first (all_parts (os x))) (λ x. shaped-unsigned (suc (suc (length rest.given))) (all_parts (os x)) (shaped x)) (agrees-unsigned t.own (IsCalmIn t past) (FitsIn t) es all.equations first.given (second.given ∷ rest.given) (λ x. all_parts (os x)) (agrees-parts t past parts es c d walks ready implied)) in
    let m = made_by.concatenated all.given all.equations in
    let meant_as : (x : Scenery) → assigned width (option_and_then (meant.concatenated x.samples) (all_parts (os x))) ≡ assigned width (option_and_then (beside_all x.samples) (option_map unsigned_first (all_parts (os x)))) = λ x. ap (assigned width) (meant-concatenated x.samples (suc (length rest.given)) (all_parts (os x)) (shaped x)) in
    let whole = agrees-same t.own (IsCalmIn t past) (FitsIn t) es (declared_at_operator true width m) (declared_at_operator true width m) (λ (x : Scenery). assigned width (option_and_then (beside_all x.samples) (option_map unsigned_first (all_parts (os x))))) (λ (x : Scenery). assigned width (option_and_then (meant.concatenated x.samples) (all_parts (os x)))) refl meant_as chain in
    subst (λ b. Agrees t.own (IsCalmIn t past) (FitsIn t) es (declared_at_operator b width m) (λ (x : Scenery). under b width (option_and_then (meant.concatenated x.samples) (all_parts (os x))))) (sym (le-leb 2 (length (map plan_of (exprs parts))) (omega arith))) whole

-- ---- one layer, whose parts agree
abbrev LayerAgrees : Expr-F Expr → Type 0
LayerAgrees x = (t : Setting) (es : Equations) (c d : Count) (width : Option ℕ) → walk_step (map-Expr Expr Reading reading x) t.walk t.streaming t.scene c ≡ Ok d → IsReady t (past_step (map-Expr Expr (Known → Bool) past_of x) t.walk) es → IsLawful width → PlanAgrees (plan_step (map-Expr Expr ExprPlan plan_of x)) (sense_step (map-Expr Expr Sense sense_of x)) (past_step (map-Expr Expr (Known → Bool) past_of x) t.walk) t es width

pub one-of-one : (a : Bool) → (a || false) ≡ true → a ≡ true
one-of-one true is = refl
one-of-one false is = is

pub two-of-two : (a b : Bool) → (a || (b || false)) ≡ true → (a || b) ≡ true
two-of-two true b is = refl
two-of-two false b is = one-of-one b is

pub three-of-three : (a b c : Bool) → (a || (b || (c || false))) ≡ true → ((a || b) || c) ≡ true
three-of-three true b c is = refl
three-of-three false b c is = two-of-two b c is

pub first-of-two : (a b : Bool) → (a || false) ≡ true → (a || b) ≡ true
first-of-two true b is = refl
first-of-two false b is = cc

agrees-slice : (e : Box Proved) (high low : Fixed) → LayerAgrees (map-Expr Proved Expr (λ p. p.0) (Expr-F.Slice e high low))
agrees-slice e high low t es c d width walked ready lawful =
    let past = past_of e.value.0 t.walk in
    let walk = slice-inverted e.value.0 high low t.walk t.streaming t.scene c d walked in
    let same = ready.visible.same in
    let all = all_made (plan_of e.value.0 ∷ []) (seen_by_equations t) t.standings es in
    let os : Scenery → List (Option Stream) = λ x. meant.meaning e.value.0 (seen_by_meaning t) x.samples (sources x.samples x.env) ∷ [] in
    let made_as : Op → Expanded = λ o. declared_at_operator true width (apply o all) in
    let high_made = constant-made t.walk t.known same high walk.from walk.high_is in
    let low_made = constant-made t.walk t.known same low walk.to walk.low_is in
    let high_meant = constant-meant t.walk t.known same high walk.from walk.high_is in
    let low_meant = constant-meant t.walk t.known same low walk.to walk.low_is in
    let f : Scenery → Option Stream = λ x. under true width (option_and_then (λ h. option_and_then (λ l. operate x.samples (op.Slice h l) (os x)) (result_ok (constant_of low t.known))) (result_ok (constant_of high t.known))) in
    let args = agrees-parts t past (e.value ∷ []) es c d (d, walk.part, refl) ready (one-of-one past) in
    agrees-same t.own (IsCalmIn t past) (FitsIn t) es (made_as (op.Slice walk.from walk.to)) (made_as (op.Slice (constant high t.known) (constant low t.known))) (λ (x : Scenery). under true width (operate x.samples (op.Slice walk.from walk.to) (os x))) f (λ i. made_as (op.Slice (high_made i) (low_made i))) (λ x i. under true width (option_and_then (λ h. option_and_then (λ l. operate x.samples (op.Slice h l) (os x)) (low_meant i)) (high_meant i))) (agrees-applied t past es width all os (op.Slice walk.from walk.to) refl lawful ready args)

agrees-binary : (o : BinOp) (a b : Box Proved) → LayerAgrees (map-Expr Proved Expr (λ p. p.0) (Expr-F.Binary o a b))
agrees-binary o a b t es c d width walked ready lawful = by_shift walk.rest where
  past : Bool
  past = past_of a.value.0 t.walk || past_of b.value.0 t.walk

  walk : BinaryWalk o a.value.0 b.value.0 t.walk t.streaming t.scene c d
  walk = binary-inverted o a.value.0 b.value.0 t.walk t.streaming t.scene c d walked

  same : SameKnown t.walk t.known
  same = ready.visible.same

  made_as : Option Op → Expanded
  made_as k = declared_at_operator true width (made_by.combined o k (plan_of a.value.0) (plan_of b.value.0) (seen_by_equations t) t.standings es)

  left : Scenery → Option Stream
  left x = meant.meaning a.value.0 (seen_by_meaning t) x.samples (sources x.samples x.env)

  right : Scenery → Option Stream
  right x = meant.meaning b.value.0 (seen_by_meaning t) x.samples (sources x.samples x.env)

  meant_as : Option Op → Scenery → Option Stream
  meant_as k x = under true width (meant.combined x.samples o k (left x) (right x))

  by : (k : Option Op) → constant_shift o (amount_of b.value.0 t.walk) ≡ k → Agrees t.own (IsCalmIn t past) (FitsIn t) es (made_as k) (meant_as k) → Agrees t.own (IsCalmIn t past) (FitsIn t) es (made_as (constant_shift o ((plan_of b.value.0).amount t.known))) (meant_as (constant_shift o ((sense_of b.value.0).amount t.known)))
  by k is agrees = agrees-same t.own (IsCalmIn t past) (FitsIn t) es (made_as k) (made_as (constant_shift o ((plan_of b.value.0).amount t.known))) (meant_as k) (meant_as (constant_shift o ((sense_of b.value.0).amount t.known))) (ap made_as (shift-made t.walk t.known same o b.value.0 ∙ is)) (λ x. ap (λ q. meant_as q x) (shift-meant t.walk t.known same o b.value.0 ∙ is)) agrees

  by_shift : ShiftWalk o b.value.0 t.walk ⊎ PairWalk o b.value.0 t.walk t.streaming t.scene walk.between d → Agrees t.own (IsCalmIn t past) (FitsIn t) es (made_as (constant_shift o ((plan_of b.value.0).amount t.known))) (meant_as (constant_shift o ((sense_of b.value.0).amount t.known)))
  by_shift (inl shift) =
      let args = agrees-parts t past (a.value ∷ []) es c walk.between (walk.between, walk.first, refl) ready (first-of-two (past_of a.value.0 t.walk) (past_of b.value.0 t.walk)) in
      by (Some shift.shift) shift.shift_is (agrees-applied t past es width (all_made (plan_of a.value.0 ∷ []) (seen_by_equations t) t.standings es) (λ x. left x ∷ []) shift.shift (shifts-operate shift.amount shift.shift shift.which) lawful ready args)
  by_shift (inr pair) =
      let args = agrees-parts t past (a.value ∷ b.value ∷ []) es c d (walk.between, walk.first, (d, pair.part, refl)) ready (two-of-two (past_of a.value.0 t.walk) (past_of b.value.0 t.walk)) in
      by None pair.no_shift (agrees-applied t past es width (all_made (plan_of a.value.0 ∷ plan_of b.value.0 ∷ []) (seen_by_equations t) t.standings es) (λ x. left x ∷ right x ∷ []) (operator o) (operators-operate o) lawful ready args)

agrees-layer : (y : Expr-F Proved) → LayerAgrees (map-Expr Proved Expr (λ p. p.0) y)
agrees-layer (Expr-F.Number n) t es c d width walked ready lawful = agrees-constant t.own (IsCalmIn t false) (FitsIn t) es n (λ (x : Scenery). x.samples) ready.formed
agrees-layer (Expr-F.Refer r) t es c d width walked ready lawful = agrees-refer t es r ready (refer-inverted r t.walk t.streaming t.scene c d walked)
agrees-layer (Expr-F.Delay r k) t es c d width walked ready lawful = agrees-delay t es r k ready (delay-inverted r k t.walk t.streaming t.scene c d walked)
agrees-layer (Expr-F.Slice e high low) t es c d width walked ready lawful = agrees-slice e high low t es c d width walked ready lawful
agrees-layer (Expr-F.Not e) t es c d width walked ready lawful =
    let past = past_of e.value.0 t.walk in
    let args = agrees-parts t past (e.value ∷ []) es c d (d, walked, refl) ready (one-of-one past) in
    agrees-applied t past es width (all_made (plan_of e.value.0 ∷ []) (seen_by_equations t) t.standings es) (λ (x : Scenery). meant.meaning e.value.0 (seen_by_meaning t) x.samples (sources x.samples x.env) ∷ []) op.Not refl lawful ready args
agrees-layer (Expr-F.Binary o a b) t es c d width walked ready lawful = agrees-binary o a b t es c d width walked ready lawful
agrees-layer (Expr-F.Choose e a b) t es c d width walked ready lawful =
    let test = past_of e.value.0 t.walk in
    let first = past_of a.value.0 t.walk in
    let other = past_of b.value.0 t.walk in
    let walk = choose-inverted e.value.0 a.value.0 b.value.0 t.walk t.streaming t.scene c d walked in
    let f : Proved → Scenery → Option Stream = λ p x. meant.meaning p.0 (seen_by_meaning t) x.samples (sources x.samples x.env) in
    let args = agrees-parts t ((test || first) || other) (e.value ∷ a.value ∷ b.value ∷ []) es c d (walk.after_test, walk.test, (walk.after_first, walk.first, (d, walk.other, refl))) ready (three-of-three test first other) in
    agrees-applied t ((test || first) || other) es width (all_made (plan_of e.value.0 ∷ plan_of a.value.0 ∷ plan_of b.value.0 ∷ []) (seen_by_equations t) t.standings es) (λ x. f e.value x ∷ f a.value x ∷ f b.value x ∷ []) op.Choose refl lawful ready args
agrees-layer (Expr-F.Call name args) t es c d width walked ready lawful =
    let of_name = is_past (t.walk name) in
    let of_args = pasts_of (map past_of (exprs args.items)) t.walk in
    agrees-called t (of_name || of_args) name args.items es c ready (λ is. ap (λ b. b || of_args) is) (or-rest of_name of_args (of_name || of_args) (λ is. is)) (call-inverted name (exprs args.items) t.walk t.streaming t.scene c d walked)
agrees-layer (Expr-F.Cat parts) t es c d width walked ready lawful = agrees-cat t (pasts_of (map past_of (exprs parts.items)) t.walk) width parts.items es c d (parts-inverted (exprs parts.items) t.walk t.streaming t.scene c d walked) ready (λ is. is) lawful
agrees-layer (Expr-F.Paren e) t es c d width walked ready lawful = e.value.1 t es c d width walked ready lawful

-- an expression's equations agree with its meaning
pub expression-agrees : (e : Expr) → ExpressionAgrees e
expression-agrees = ind-Expr ExpressionAgrees (λ x y is t es c d width walk ready lawful.
    let layer : LayerAgrees x = subst LayerAgrees is (agrees-layer y) in
    let walked : walk_step (map-Expr Expr Reading reading x) t.walk t.streaming t.scene c ≡ Ok d = ap (λ (r : Reading). r.walk t.walk t.streaming t.scene c) (sym (fold-roll-Expr Reading reading_step x)) ∙ walk in
    let pasts = fold-roll-Expr (Known → Bool) past_step x in
    let P : ExprPlan → Sense → (Known → Bool) → Type 0 = λ p s past. IsReady t (past t.walk) es → PlanAgrees p s (past t.walk) t es width in
    let here : P (plan_step (map-Expr Expr ExprPlan plan_of x)) (sense_step (map-Expr Expr Sense sense_of x)) (past_step (map-Expr Expr (Known → Bool) past_of x)) = λ set. layer t es c d width walked set lawful in
    subst (λ p. P p (sense_of (roll-Expr x)) (past_of (roll-Expr x))) (sym (fold-roll-Expr ExprPlan plan_step x)) (subst (λ s. P (plan_step (map-Expr Expr ExprPlan plan_of x)) s (past_of (roll-Expr x))) (sym (fold-roll-Expr Sense sense_step x)) (subst (P (plan_step (map-Expr Expr ExprPlan plan_of x)) (sense_step (map-Expr Expr Sense sense_of x))) (sym pasts) here)) ready)
