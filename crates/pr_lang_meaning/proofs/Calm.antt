-- Functions that do not look back: what such a function makes at a place is settled by its arguments there.
use Rattle.std.proofs.Common.{◌≡◌, ℕ, ◌-◌, ◌<◌, Bool, true, false, List, [], ◌∷◌, map, get_or, Option, sym, ◌∙◌, ap, subst, arith, cond, nat_le, option_map}
use Rattle.std.specs.Option.{option_and_then}
use Rattle.std.specs.Result.{result_ok}
use Rattle.std.specs.List.{list_any}
use Rattle.std.proofs.lemmas.Bool.{or_parts, true≢false}
use Rattle.pr_lang.specs.declared.trees.Expr.{Expr}
use Rattle.pr_lang.specs.declared.trees.Stmt.{Stmt, map-Stmt}
use Rattle.pr_lang.specs.declared.trees.Stmt.TheOpen.{Stmt-F}
use Rattle.pr_lang.specs.declared.trees.Stmt.TheFolds.{fold-Stmt, fold-roll-Stmt, ind-Stmt}
use Rattle.pr_lang.specs.declared.trees.Param.{Param}
use Rattle.pr_scope_names.specs.Constants.{constant_of}
use Rattle.pr_flat.specs.Forms.{Stream}
use Rattle.pr_lang_meaning.specs.Streams.{Bound, Streams, no_streams, delayed, sources, assigned}
use Rattle.pr_lang_meaning.specs.Expressions.{Visible, meaning}
use Rattle.pr_lang_meaning.specs.Statements.{Change, in_turn, with_known, turns, stmt_step, change_of, changes_of}
use Rattle.pr_lang_meaning.specs.Programs.{with_arguments, function_of}
use Rattle.pr_lang_meaning.proofs.Pairs.{Both, both-and_then, both-map, same-and_then, same-map}
use Rattle.pr_lang_meaning.proofs.Agreeing.{Agree, FirstBelow, SecondBelow, AgreeBound, AgreeStreams, AgreeNow, AgreeSources, both-assigned, delayed-number}
use Rattle.pr_lang_meaning.proofs.EvenExpressions.{IsEvenFunction, AreEvenBut, looks_back, even-where}
use Rattle.pr_lang_meaning.proofs.EvenStatements.{both-let, both-turns}
use Rattle.pr_lang_meaning.proofs.EvenPrograms.{even-arguments}

-- ---- one place of a list, beside a list of one number
abbrev pub At : ℕ → ℕ → ℕ → Type 0
At n i j = (i ≡ n) × (j ≡ 0)

pub first_at : (n m : ℕ) → n < m → FirstBelow (At n) m
first_at n m low i j is = omega (arith, low, is.0)

pub second_at : (n : ℕ) → SecondBelow (At n) 1
second_at n i j is = omega (arith, is.1)

pub agree-at : (n : ℕ) (s t : Stream) → s.form ≡ t.form → get_or s.numbers n 0 ≡ get_or t.numbers 0 0 → Agree (At n) s t
agree-at n s t forms number = record { forms = forms; numbers = λ i j is. ap (λ q. get_or s.numbers q 0) is.0 ∙ number ∙ sym (ap (λ q. get_or t.numbers q 0) is.1) }

-- ---- statements
abbrev pub stmt_looks_step : (List ℕ → Bool) → Stmt-F Bool → Bool
stmt_looks_step past (Stmt-F.Let target width e) = looks_back true past e
stmt_looks_step past (Stmt-F.Rec target width init e) = true
stmt_looks_step past (Stmt-F.For index low high body) = list_any (λ b. b) body.items

-- whether a statement looks back, where `past` says which functions do
abbrev pub stmt_looks_back : (List ℕ → Bool) → Stmt → Bool
stmt_looks_back past = fold-Stmt Bool (stmt_looks_step past)

abbrev pub stmts_look_back : (List ℕ → Bool) → List Stmt → Bool
stmts_look_back past ss = list_any (λ b. b) (map (stmt_looks_back past) ss)

abbrev IsCalmChange : (ℕ → ℕ → Type 0) → (List ℕ → Bool) → Change → Type 0
IsCalmChange P past f = (v : Visible) → AreEvenBut P past v → (m k : ℕ) → FirstBelow P m → SecondBelow P k → (a b : Streams) → AgreeStreams P a b → Both (AgreeStreams P) (f v m a) (f v k b)

now-sources : (P : ℕ → ℕ → Type 0) (m k : ℕ) (a b : Streams) → AgreeStreams P a b → AgreeNow P (sources m a) (sources k b)
now-sources P m k a b are name place = both-map (AgreeBound P) (Agree P) (λ (c : Bound). c.stream) (λ (c : Bound). c.stream) (a name place) (b name place) (are name place) (λ c d is. is.stream)

calm-value : (P : ℕ → ℕ → Type 0) (past : List ℕ → Bool) (e : Expr) → looks_back true past e ≡ false → (v : Visible) → AreEvenBut P past v → (m k : ℕ) → FirstBelow P m → SecondBelow P k → (a b : Streams) → AgreeStreams P a b → Both (Agree P) (meaning e v m (sources m a)) (meaning e v k (sources k b))
calm-value P past e calm v even m k left right a b are = even-where P true past e calm v even m k left right (sources m a) (sources k b) (now-sources P m k a b are) (λ allowed. absurd (true≢false allowed))

abbrev CalmWhere : (ℕ → ℕ → Type 0) → (List ℕ → Bool) → Stmt → Type 0
CalmWhere P past s = stmt_looks_back past s ≡ false → IsCalmChange P past (change_of s)

abbrev Proved : (ℕ → ℕ → Type 0) → (List ℕ → Bool) → Type 0
Proved P past = (s : Stmt) × CalmWhere P past s

calm-in_turn : (P : ℕ → ℕ → Type 0) (past : List ℕ → Bool) (ss : List (Proved P past)) → list_any (λ b. b) (map (stmt_looks_back past) (map (λ (s : Proved P past). s.0) ss)) ≡ false → IsCalmChange P past (in_turn (map change_of (map (λ (s : Proved P past). s.0) ss)))
calm-in_turn P past [] calm v even m k left right a b are = are
calm-in_turn P past (s ∷ ss) calm v even m k left right a b are =
    let rest = map change_of (map (λ (s : Proved P past). s.0) ss) in
    let calm_parts = or_parts (stmt_looks_back past s.0) (list_any (λ b. b) (map (stmt_looks_back past) (map (λ (s : Proved P past). s.0) ss))) calm in
    both-and_then (AgreeStreams P) (AgreeStreams P) (in_turn rest v m) (in_turn rest v k) (change_of s.0 v m a) (change_of s.0 v k b) (s.1 calm_parts.0 v even m k left right a b are) (calm-in_turn P past ss calm_parts.1 v even m k left right)

calm-step : (P : ℕ → ℕ → Type 0) (past : List ℕ → Bool) (y : Stmt-F (Proved P past)) → stmt_looks_step past (map-Stmt Stmt Bool (stmt_looks_back past) (map-Stmt (Proved P past) Stmt (λ s. s.0) y)) ≡ false → IsCalmChange P past (stmt_step (map-Stmt Stmt Change change_of (map-Stmt (Proved P past) Stmt (λ s. s.0) y)))
calm-step P past (Stmt-F.Let target width e) calm v even m k left right a b are = both-let P target width e v m k a b (calm-value P past e calm v even m k left right a b are) are
calm-step P past (Stmt-F.Rec target width init e) calm v even m k left right a b are = absurd (true≢false calm)
calm-step P past (Stmt-F.For index low high body) calm v even m k left right a b are =
    let within = in_turn (map change_of (map (λ (s : Proved P past). s.0) body.items)) in
    let f : ℕ → Streams → Option Streams = λ at. within (with_known index at v) m in
    let g : ℕ → Streams → Option Streams = λ at. within (with_known index at v) k in
    same-and_then (AgreeStreams P) (λ from. option_and_then (λ to. turns (to - from) from f a) (result_ok (constant_of high v.known))) (λ from. option_and_then (λ to. turns (to - from) from g b) (result_ok (constant_of high v.known))) (result_ok (constant_of low v.known)) (λ from.
    same-and_then (AgreeStreams P) (λ to. turns (to - from) from f a) (λ to. turns (to - from) from g b) (result_ok (constant_of high v.known)) (λ to.
    both-turns P (to - from) f g (λ at. calm-in_turn P past body.items calm (with_known index at v) even m k left right) from a b are))

calm-change : (P : ℕ → ℕ → Type 0) (past : List ℕ → Bool) (s : Stmt) → CalmWhere P past s
calm-change P past = ind-Stmt (CalmWhere P past) (λ x y is calm.
    let layer : stmt_looks_step past (map-Stmt Stmt Bool (stmt_looks_back past) x) ≡ false → IsCalmChange P past (stmt_step (map-Stmt Stmt Change change_of x)) = subst (λ z. stmt_looks_step past (map-Stmt Stmt Bool (stmt_looks_back past) z) ≡ false → IsCalmChange P past (stmt_step (map-Stmt Stmt Change change_of z))) is (calm-step P past y) in
    subst (IsCalmChange P past) (sym (fold-roll-Stmt Change stmt_step x)) (layer (sym (fold-roll-Stmt Bool (stmt_looks_step past) x) ∙ calm)))

calm-changes : (P : ℕ → ℕ → Type 0) (past : List ℕ → Bool) (ss : List Stmt) → stmts_look_back past ss ≡ false → IsCalmChange P past (changes_of ss)
calm-changes P past [] calm v even m k left right a b are = are
calm-changes P past (s ∷ ss) calm v even m k left right a b are =
    let calm_parts = or_parts (stmt_looks_back past s) (stmts_look_back past ss) calm in
    both-and_then (AgreeStreams P) (AgreeStreams P) (changes_of ss v m) (changes_of ss v k) (change_of s v m a) (change_of s v k b) (calm-change P past s calm_parts.0 v even m k left right a b are) (calm-changes P past ss calm_parts.1 v even m k left right)

-- ---- functions
pub calm-function : (P : ℕ → ℕ → Type 0) (past : List ℕ → Bool) (params : List Param) (width : Option ℕ) (body : List Stmt) (result : Expr) (v : Visible) → AreEvenBut P past v → stmts_look_back past body ≡ false → looks_back true past result ≡ false → IsEvenFunction P (function_of params width body result v)
calm-function P past params width body result v even calm_body calm_result m k left right ss ts args =
    both-and_then (AgreeStreams P) (Agree P) (λ env. option_and_then (λ locals. assigned width (meaning result v m (sources m locals))) (changes_of body v m env)) (λ env. option_and_then (λ locals. assigned width (meaning result v k (sources k locals))) (changes_of body v k env)) (with_arguments params ss no_streams) (with_arguments params ts no_streams) (even-arguments P params ss ts no_streams no_streams args (λ name place. tt)) (λ a b are.
    both-and_then (AgreeStreams P) (Agree P) (λ locals. assigned width (meaning result v m (sources m locals))) (λ locals. assigned width (meaning result v k (sources k locals))) (changes_of body v m a) (changes_of body v k b) (calm-changes P past body calm_body v even m k left right a b are) (λ c d is.
    both-assigned P width (meaning result v m (sources m c)) (meaning result v k (sources k d)) (calm-value P past result calm_result v even m k left right c d is)))

-- ---- what an expression reads at one sample
-- m samples, beside streams of one number that are cut out of them at sample n
pub agree-sources-at : (m n : ℕ) (env : Streams) (one : Bound → Stream) (before : ℕ → Bound → Stream) → n < m → ((b : Bound) → b.stream.form ≡ (one b).form) → ((b : Bound) → get_or b.stream.numbers n 0 ≡ get_or (one b).numbers 0 0) → ((k : ℕ) (b : Bound) → b.stream.form ≡ (before k b).form) → ((k : ℕ) (b : Bound) → cond (nat_le k n) (get_or b.stream.numbers (n - k) 0) b.init ≡ get_or (before k b).numbers 0 0) → AgreeSources (At n) (sources m env) (record { now = λ name place. option_map one (env name place); past = λ name place k. option_map (before k) (env name place) })
agree-sources-at m n env one before low form number form_before number_before = record {
  now = λ name place. same-map (Agree (At n)) (λ (b : Bound). b.stream) one (env name place) (λ b. agree-at n b.stream (one b) (form b) (number b));
  past = λ name place k. same-map (Agree (At n)) (delayed m k) (before k) (env name place) (λ b. agree-at n (delayed m k b) (before k b) (form_before k b) (delayed-number m k n b low ∙ number_before k b));
}
