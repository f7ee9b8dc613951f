-- How what equations give and what the text means stand to one another, where the equations have some widths.
use Rattle.std.proofs.Common.{◌≡◌, ◌<◌, ◌≤◌, ◌⊎◌, ℕ, Bool, true, false, List, [], ◌∷◌, length, slice_index, Option, Some, None, is_some, is_none}
use Rattle.std.specs.List.{AllZip}
use Rattle.pr_scope_names.specs.declared.names.Callee.{Callee}
use Rattle.pr_scope_names.specs.declared.names.Static.TheVariants as static
use Rattle.pr_scope_names.specs.declared.streams.Instance.{Instance}
use Rattle.pr_scope_names.specs.Names.{Known, Streaming, held}
use Rattle.pr_flat.specs.declared.equations.Operand.{Operand}
use Rattle.pr_flat.specs.declared.equations.Operand.TheVariants.{Const, Eq, Past}
use Rattle.pr_flat.specs.declared.equations.Op.TheVariants.{Delay, Rec}
use Rattle.pr_flat.specs.declared.forms.Form.{Form}
use Rattle.pr_flat.specs.Forms.{Stream}
use Rattle.pr_flat.specs.Shape.{EquationShape, EachEquation}
use Rattle.pr_flat.specs.Facts.{is_rec}
use Rattle.pr_flat.specs.Widths.{operand_width, width_in, is_open, AgreeBelow, IsLeast}
use Rattle.pr_scope.specs.Expressions.{is_instance}
use Rattle.pr_lang_meaning.specs.Streams.{Bound, Streams}
use Rattle.pr_lang_meaning.specs.Expressions.{Function}
use Rattle.pr_expand_spec.specs.declared.givens.Given.{Given}
use Rattle.pr_expand_spec.specs.declared.givens.Standing.{Standing}
use Rattle.pr_expand_spec.specs.declared.givens.Standing.TheVariants as standing
use Rattle.pr_expand_spec.specs.Making.{Equations, Expanded}
use Rattle.pr_expand_spec.specs.Expressions as made
use Rattle.pr_scope_facts.proofs.Statics.{SameKnown}
use Rattle.pr_scope_facts.proofs.Appending.{Appends}
use Rattle.pr_scope_facts.proofs.NoRecurrence.{IsCalm}

-- ---- equations and their widths
-- every equation so far has its width among these
pub record Have (equations : List EquationShape) (widths : List ℕ) : Type 0 where
  pub each : EachEquation equations (λ i e. is_open e ≡ false → width_in widths e ≡ Some (slice_index widths i))
  pub recurrences : EachEquation equations (λ i e. (init first : ℕ) → is_open e ≡ true → e.op ≡ Rec init first → IsLeast equations i init first widths)

-- what is given while n equations stand: an earlier equation, or the past of the recurrence in work
abbrev pub IsWithin : ℕ → Option ℕ → Operand → Type 0
IsWithin n own (Const c) = Unit {0}
IsWithin n own (Eq i) = i < n
IsWithin n own (Past rec k) = own ≡ Some rec

-- what an equation among n reads: another, the past of one, or the past of the recurrence in work
abbrev pub IsRead : ℕ → Option ℕ → Operand → Type 0
IsRead n own (Const c) = Unit {0}
IsRead n own (Eq i) = i < n
IsRead n own (Past rec k) = (rec < n) ⊎ (own ≡ Some rec)

abbrev pub AreRead : ℕ → Option ℕ → List Operand → Type 0
AreRead n own [] = Unit {0}
AreRead n own (a ∷ args) = IsRead n own a × AreRead n own args

-- a delay has no declared width, and reads its operand as a number
pub record IsPlain (e : EquationShape) : Type 0 where
  pub declared : e.declared ≡ None
  pub kinds : e.kinds ≡ false ∷ []

-- the equations so far, while this recurrence is in work
pub record AreFormed (own : Option ℕ) (equations : List EquationShape) : Type 0 where
  pub reads : EachEquation equations (λ i e. AreRead (length equations) own e.args)
  pub delays : EachEquation equations (λ i e. (c : ℕ) → e.op ≡ Delay c → IsPlain e)
  pub bodies : EachEquation equations (λ i e. (init first : ℕ) → e.op ≡ Rec init first → first ≤ i)

abbrev pub AreWithin : ℕ → Option ℕ → List Given → Type 0
AreWithin n own [] = Unit {0}
AreWithin n own (g ∷ gs) = IsWithin n own g.operand × AreWithin n own gs

-- other widths, for the equations from one number to another alone
pub record AreSameOutside (from to : ℕ) (widths others : List ℕ) : Type 0 where
  pub below : AgreeBelow from widths others
  pub above : (i : ℕ) → to ≤ i → slice_index others i ≡ slice_index widths i

-- the same widths where n equations look
pub record AreKept (n : ℕ) (own : Option ℕ) (widths others : List ℕ) : Type 0 where
  pub below : AgreeBelow n widths others
  pub past : (rec : ℕ) → own ≡ Some rec → slice_index others rec ≡ slice_index widths rec

-- the recurrence in work gets a number that is not below n
abbrev pub IsAhead : ℕ → Option ℕ → Type 0
IsAhead n own = (rec : ℕ) → own ≡ Some rec → n ≤ rec

-- ---- what is given for a stream
abbrev pub given_form : List ℕ → Given → Form
given_form widths g = record { signed = g.signed; width = operand_width widths g.operand }

pub record Matches (widths : List ℕ) (g : Given) (s : Stream) : Type 0 where
  pub form : s.form ≡ given_form widths g
  pub greatest : s.form.width ≤ 128

-- there is a stream, and what is given matches it
pub record IsFound (widths : List ℕ) (g : Given) (o : Option Stream) : Type 0 where
  pub stream : Stream
  pub is : o ≡ Some stream
  pub matches : Matches widths g stream

-- widths for the equations from some on, where those before keep theirs
pub record AreExtended (old new : List EquationShape) (widths : List ℕ) : Type 0 where
  pub others : List ℕ
  pub same : AreSameOutside (length old) (length new) widths others
  pub have : Have new others

-- what making adds: equations that read what stands before them, and no recurrence where it is calm
pub record IsGrown (own : Option ℕ) (calm : Type 0) (old new : List EquationShape) : Type 0 where
  pub appends : Appends old new
  pub formed : AreFormed own new
  pub calm_kept : calm → EachEquation new (λ i e. length old ≤ i → is_rec e.op ≡ false)

-- What making gives beside what is meant, which depends on some x, as the streams that names stand for. Where x has its forms (`fits`) and all
-- equations have widths there is a stream, and what is given matches it; and where there is a stream, the equations have widths.
pub record Agrees {X : Type 0} (own : Option ℕ) (calm : Type 0) (fits : X → List ℕ → Type 0) (old : List EquationShape) (made : Expanded) (meant : X → Option Stream) : Type 0 where
  pub grown : IsGrown own calm old made.equations
  pub within : IsWithin (length made.equations) own made.given.operand
  pub found : (x : X) (widths : List ℕ) → fits x widths → Have made.equations widths → IsFound widths made.given (meant x)
  pub extended : (x : X) (widths : List ℕ) (s : Stream) → fits x widths → Have old widths → IsAhead (length made.equations) own → meant x ≡ Some s → AreExtended old made.equations widths

pub record AreFound (widths : List ℕ) (gs : List Given) (o : Option (List Stream)) : Type 0 where
  pub streams : List Stream
  pub are : o ≡ Some streams
  pub match : AllZip (Matches widths) gs streams

-- the same for parts, one after the other
pub record AllAgree {X : Type 0} (own : Option ℕ) (calm : Type 0) (fits : X → List ℕ → Type 0) (old : List EquationShape) (made : made.AllExpanded) (meant : X → Option (List Stream)) : Type 0 where
  pub grown : IsGrown own calm old made.equations
  pub within : AreWithin (length made.equations) own made.given
  pub found : (x : X) (widths : List ℕ) → fits x widths → Have made.equations widths → AreFound widths made.given (meant x)
  pub extended : (x : X) (widths : List ℕ) (ss : List Stream) → fits x widths → Have old widths → IsAhead (length made.equations) own → meant x ≡ Some ss → AreExtended old made.equations widths

-- ---- what names stand for
pub record IsStream (widths : List ℕ) (b : Bound) (g : Given) (init : ℕ) : Type 0 where
  pub init_same : init ≡ b.init
  pub matches : Matches widths g b.stream

pub record IsOwn (widths : List ℕ) (b : Bound) (rec : ℕ) : Type 0 where
  pub form : b.stream.form ≡ record { signed = false; width = slice_index widths rec }
  pub greatest : b.stream.form.width ≤ 128

-- what a name stands for in the meaning, and what in the equations
abbrev pub StandsFor : List ℕ → Option Bound → Option Standing → Type 0
StandsFor widths None None = Unit {0}
StandsFor widths (Some b) (Some (standing.Stream g init)) = IsStream widths b g init
StandsFor widths (Some b) (Some (standing.Own rec)) = IsOwn widths b rec
StandsFor widths None (Some s) = ⊥
StandsFor widths (Some b) None = ⊥

-- so many samples, and the streams that names stand for
pub record Scenery : Type 0 where
  pub samples : ℕ
  pub env : Streams

-- Names stand for streams of these forms; the instances that are assigned do, and that of the recurrence in work.
pub record Fits (streaming : Streaming) (instance : Option Instance) (standings : made.Streams) (x : Scenery) (widths : List ℕ) : Type 0 where
  pub stands : (name : List ℕ) (place : Option ℕ) → StandsFor widths (x.env name place) (standings name place)
  pub assigned : (name : List ℕ) (place : Option ℕ) → held (streaming name) place ≡ true → is_some (x.env name place) ≡ true
  pub own : (name : List ℕ) (place : Option ℕ) → is_instance instance name place ≡ true → is_some (x.env name place) ≡ true

-- among n equations; streams read the past of the recurrence `seen` alone, and the one in work is `own`
abbrev pub IsStanding : ℕ → Option ℕ → Option ℕ → Option Standing → Type 0
IsStanding n seen own None = Unit {0}
IsStanding n seen own (Some (standing.Stream g init)) = IsWithin n seen g.operand
IsStanding n seen own (Some (standing.Own rec)) = own ≡ Some rec

-- only the instance of the recurrence in work stands for itself
pub record AreStanding (n : ℕ) (seen own : Option ℕ) (instance : Option Instance) (standings : made.Streams) : Type 0 where
  pub each : (name : List ℕ) (place : Option ℕ) → IsStanding n seen own (standings name place)
  pub alone : (name : List ℕ) (place : Option ℕ) (rec : ℕ) → standings name place ≡ Some (standing.Own rec) → is_instance instance name place ≡ true

-- Streams that read the past of a recurrence stand for names only in the body of a function which has no past itself.
-- In a text with a past a recurrence is in work only where its instance is known.
pub record IsClear (past : Bool) (seen own : Option ℕ) (instance : Option Instance) : Type 0 where
  pub seen_own : (seen ≡ None) ⊎ (seen ≡ own)
  pub unseen : past ≡ true → seen ≡ None
  pub lone : past ≡ true → is_none instance ≡ true → own ≡ None

-- ---- functions
-- so many samples, and the arguments' streams
pub record Arguments : Type 0 where
  pub samples : ℕ
  pub streams : List Stream

-- a call makes what is meant, where a function with a past is called in no recurrence
pub record IsFunction (past : Bool) (params : ℕ) (meant : Function) (inlined : made.Inlined) : Type 0 where
  pub calm : past ≡ false → IsCalm inlined
  pub agrees : (own : Option ℕ) → (past ≡ true → own ≡ None) → (args : List Given) (equations : Equations) → AreFormed own equations → length args ≡ params → AreWithin (length equations) own args → Agrees own (past ≡ false) (λ (x : Arguments) widths. AllZip (Matches widths) args x.streams) equations (inlined args equations) (λ (x : Arguments). meant x.samples x.streams)

pub record IsCallable (f : Callee) (meant : Option Function) (inlined : Option made.Inlined) : Type 0 where
  pub function : Function
  pub making : made.Inlined
  pub meant_is : meant ≡ Some function
  pub inlined_is : inlined ≡ Some making
  pub does : IsFunction f.past f.params function making

-- what is visible to the walk, to the meaning and to the equations
pub record AreVisible (walk known : Known) (meant : List ℕ → Option Function) (inlined : List ℕ → Option made.Inlined) : Type 0 where
  pub same : SameKnown walk known
  pub calls : (name : List ℕ) (f : Callee) → walk name ≡ Some (static.Function f) → IsCallable f (meant name) (inlined name)
