-- What the walk, the meaning and the equations have made so far, side by side: the same names, a fact of each stream that is assigned, and a
-- fact of each function.
use Rattle.std.proofs.Common.{◌≡◌, ◌∙◌, ℕ, Bool, true, false, cond, ◌&&◌, ◌||◌, List, Option, Some, None, bytes_eq, codes, refl, sym, ap, subst}
use Rattle.std.specs.Cmp.Lexicographic.{bytes_decides}
use Rattle.std.proofs.lemmas.Bool.{false≢true}
use Rattle.std.proofs.lemmas.Option.{none-some}
use Rattle.pr_lang.specs.declared.trees.Param.{Param}
use Rattle.pr_scope_names.specs.declared.names.Callee.{Callee}
use Rattle.pr_scope_names.specs.declared.names.Static.{Static}
use Rattle.pr_scope_names.specs.declared.names.Static.TheVariants.{Constant, Function, Index, Table}
use Rattle.pr_scope_names.specs.Names.{Known, Streaming, bind, built_in, held, same_place}
use Rattle.pr_lang_meaning.specs.Streams as meaning
use Rattle.pr_lang_meaning.specs.Streams.{Bound, with_bound}
use Rattle.pr_lang_meaning.specs.Expressions as meaning_expressions
use Rattle.pr_lang_meaning.specs.Statements.{with_known}
use Rattle.pr_lang_meaning.specs.Programs as meaning_programs
use Rattle.pr_lang_meaning.specs.Programs.{function_at}
use Rattle.pr_expand_spec.specs.declared.givens.Standing.{Standing}
use Rattle.pr_expand_spec.specs.Expressions as equations
use Rattle.pr_expand_spec.specs.Statements.{with_index, with_standing}
use Rattle.pr_expand_spec.specs.Programs as equations_programs
use Rattle.pr_scope_facts.proofs.Statics.{SameKnown, plain, same-bind, same-built_in, same-function, same-index}
use Rattle.pr_scope_facts.proofs.InvertedStatements.{Introduces}

-- ---- streams
-- what an instance stands for on both sides, and a fact of it
pub record Stands (S : Bound → Standing → Type 0) (b : Option Bound) (s : Option Standing) : Type 0 where
  pub bound : Bound
  pub standing : Standing
  pub meant : b ≡ Some bound
  pub made : s ≡ Some standing
  pub fact : S bound standing

-- each instance that is assigned stands for something of which the fact holds
pub record SameStreams (S : Bound → Standing → Type 0) (streams : Streaming) (env : meaning.Streams) (made : equations.Streams) : Type 0 where
  pub at : (name : List ℕ) (index : Option ℕ) → held (streams name) index ≡ true → Stands S (env name index) (made name index)

pub streams-none : (S : Bound → Standing → Type 0) (env : meaning.Streams) (made : equations.Streams) → SameStreams S (λ name. None) env made
streams-none S env made = record { at = λ name index h. absurd (false≢true h) }

pub streams-weaker : (S T : Bound → Standing → Type 0) → ((b : Bound) (s : Standing) → S b s → T b s) → (streams : Streaming) (env : meaning.Streams) (made : equations.Streams) → SameStreams S streams env made → SameStreams T streams env made
streams-weaker S T weaker streams env made same = record {
  at = λ name index h. let t = same.at name index h in record { bound = t.bound; standing = t.standing; meant = t.meant; made = t.made; fact = weaker t.bound t.standing t.fact };
}

-- the instance itself, or one that was there
stands-choice : (S : Bound → Standing → Type 0) (here : Bool) (b : Bound) (s : Standing) (o : Option Bound) (p : Option Standing) → S b s → (here ≡ false → Stands S o p) → Stands S (cond here (Some b) o) (cond here (Some s) p)
stands-choice S true b s o p fact old = record { bound = b; standing = s; meant = refl; made = refl; fact = fact }
stands-choice S false b s o p fact old = old refl

-- an instance other than the new one was there before
held-before : (same : Bool) (place index : Option ℕ) (own o : Option (Option ℕ → Bool)) → (same && same_place place index) ≡ false → (same ≡ true → own ≡ o) → held (cond same (Some (λ q. same_place place q || held own q)) o) index ≡ true → held o index ≡ true
held-before false place index own o other is h = h
held-before true place index own o other is h = subst (λ x. held x index ≡ true) (is refl) (sym (ap (λ x. x || held own index) other) ∙ h)

pub streams-introduced : (S : Bound → Standing → Type 0) (name : List ℕ) (index : Option ℕ) (known : Known) (streams after : Streaming) (env : meaning.Streams) (made : equations.Streams) (b : Bound) (s : Standing) → Introduces name index known streams after → S b s → SameStreams S streams env made → SameStreams S after (with_bound name index b env) (with_standing name index s made)
streams-introduced S name index known streams after env made b s new fact same = record {
  at = λ q r h. stands-choice S (bytes_eq name q && same_place index r) b s (env q r) (made q r) fact (λ other. same.at q r (held-before (bytes_eq name q) index r (streams name) (streams q) other (λ y. ap streams ((bytes_decides name q).0 y)) (sym (ap (λ (t : Streaming). held (t q) r) new.now) ∙ h)));
}

-- ---- names
-- what a function is on both sides, and a fact of it
pub record Works (F : Callee → meaning_expressions.Function → equations.Inlined → Type 0) (f : Callee) (g : Option meaning_expressions.Function) (h : Option equations.Inlined) : Type 0 where
  pub function : meaning_expressions.Function
  pub inlined : equations.Inlined
  pub meant : g ≡ Some function
  pub made : h ≡ Some inlined
  pub fact : F f function inlined

pub record SameVisible (F : Callee → meaning_expressions.Function → equations.Inlined → Type 0) (known : Known) (v : meaning_expressions.Visible) (made : equations.Visible) : Type 0 where
  pub meant : SameKnown known v.known
  pub same : made.known ≡ v.known
  pub functions : (name : List ℕ) (f : Callee) → known name ≡ Some (Function f) → Works F f (v.functions name) (made.functions name)

-- the equations' names, too
pub visible-made : (F : Callee → meaning_expressions.Function → equations.Inlined → Type 0) (known : Known) (v : meaning_expressions.Visible) (made : equations.Visible) → SameVisible F known v made → SameKnown known made.known
visible-made F known v made same = subst (SameKnown known) (sym same.same) same.meant

pub visible-weaker : (F G : Callee → meaning_expressions.Function → equations.Inlined → Type 0) → ((f : Callee) (g : meaning_expressions.Function) (h : equations.Inlined) → F f g h → G f g h) → (known : Known) (v : meaning_expressions.Visible) (made : equations.Visible) → SameVisible F known v made → SameVisible G known v made
visible-weaker F G weaker known v made same = record {
  meant = same.meant;
  same = same.same;
  functions = λ name f is. let t = same.functions name f is in record { function = t.function; inlined = t.inlined; meant = t.meant; made = t.made; fact = weaker f t.function t.inlined t.fact };
}

-- a constant, a table or an index
abbrev pub is_function : Static → Bool
is_function (Function f) = true
is_function s = false

abbrev is_some_function : Option Static → Bool
is_some_function None = false
is_some_function (Some s) = is_function s

-- what is introduced is no function
other-function : (here : Bool) (s : Static) (o : Option Static) (f : Callee) → is_function s ≡ false → cond here (Some s) o ≡ Some (Function f) → o ≡ Some (Function f)
other-function true s o f none is = absurd (false≢true (sym none ∙ ap is_some_function is))
other-function false s o f none is = is

pub visible-index : (F : Callee → meaning_expressions.Function → equations.Inlined → Type 0) (known : Known) (v : meaning_expressions.Visible) (made : equations.Visible) (index : List ℕ) (at : ℕ) → SameVisible F known v made → SameVisible F (bind index (Index at) known) (with_known index at v) (with_index index at made)
visible-index F known v made index at same = record {
  meant = same-index known v.known same.meant index at;
  same = ap (λ (k : Known). bind index (Index at) k) same.same;
  functions = λ q f is. same.functions q f (other-function (bytes_eq index q) (Index at) (known q) f refl is);
}

plain-static : (s : Static) → is_function s ≡ false → plain s ≡ s
plain-static (Constant n) none = refl
plain-static (Index n) none = refl
plain-static (Table ns) none = refl
plain-static (Function f) none = absurd (false≢true (sym none))

pub visible-static : (F : Callee → meaning_expressions.Function → equations.Inlined → Type 0) (known : Known) (v : meaning_expressions.Visible) (made : equations.Visible) (name : List ℕ) (s : Static) → is_function s ≡ false → SameVisible F known v made → SameVisible F (bind name s known) (record { known = bind name s v.known; functions = v.functions }) (record { known = bind name s made.known; functions = made.functions })
visible-static F known v made name s plainly same = record {
  meant = subst (λ x. SameKnown (bind name s known) (bind name x v.known)) (plain-static s plainly) (same-bind known v.known same.meant name s);
  same = ap (λ (k : Known). bind name s k) same.same;
  functions = λ q f is. same.functions q f (other-function (bytes_eq name q) s (known q) f plainly is);
}

abbrev callee_in : Callee → Option Static → Callee
callee_in f (Some (Function g)) = g
callee_in f o = f

-- the function itself, or one that was visible before
works-choice : (F : Callee → meaning_expressions.Function → equations.Inlined → Type 0) (here : Bool) (f e : Callee) (g : meaning_expressions.Function) (h : equations.Inlined) (o : Option Static) (gs : Option meaning_expressions.Function) (hs : Option equations.Inlined) → F f g h → cond here (Some (Function f)) o ≡ Some (Function e) → (o ≡ Some (Function e) → Works F e gs hs) → Works F e (cond here (Some g) gs) (cond here (Some h) hs)
works-choice F true f e g h o gs hs fact is old = record { function = g; inlined = h; meant = refl; made = refl; fact = subst (λ x. F x g h) (ap (callee_in f) is) fact }
works-choice F false f e g h o gs hs fact is old = old is

pub visible-function : (F : Callee → meaning_expressions.Function → equations.Inlined → Type 0) (known : Known) (v : meaning_expressions.Visible) (made : equations.Visible) (name : List ℕ) (at : ℕ) (params : List Param) (f : Callee) (g : meaning_expressions.Function) (h : equations.Inlined) → plain (Function f) ≡ function_at at params → F f g h → SameVisible F known v made → SameVisible F (bind name (Function f) known) (record { known = bind name (function_at at params) v.known; functions = bind name g v.functions }) (record { known = bind name (function_at at params) made.known; functions = bind name h made.functions })
visible-function F known v made name at params f g h is fact same = record {
  meant = same-function known v.known same.meant name at params f is;
  same = ap (λ (k : Known). bind name (function_at at params) k) same.same;
  functions = λ q e found. works-choice F (bytes_eq name q) f e g h (known q) (v.functions q) (made.functions q) fact found (same.functions q e);
}

-- what `signed` is to its callers
abbrev pub signed_callee : Callee
signed_callee = record { item = None; params = 1; turns = 0; depth = 0; past = false }

pub visible-first : (F : Callee → meaning_expressions.Function → equations.Inlined → Type 0) → F signed_callee meaning_programs.signed_function equations_programs.signed_function → SameVisible F built_in meaning_programs.at_first equations_programs.start.visible
unfolding built_in
visible-first F fact = record {
  meant = same-built_in;
  same = refl;
  functions = λ q f is. works-choice F (bytes_eq (codes "signed") q) signed_callee f meaning_programs.signed_function equations_programs.signed_function None None None fact is (λ none. absurd (none-some (Function f) none));
}
