-- What is left of lists, one part more.
use Rattle.std.proofs.Common.{◌≡◌, ◌∙◌, ◌+◌, ◌-◌, ◌<◌, ◌++◌, ◌∷◌, [], ℕ, true, false, List, length, map, drop, get_or, refl, sym, ap, inl, inr, arith, append_assoc, append-nil}
use Rattle.std.proofs.lemmas.Bool.{cases_lt, lt-ltb, cond-false}
use Rattle.std.proofs.lemmas.List.{map-append, at_drop_more}
use Rattle.pr_lang.specs.declared.trees.Expr.{Expr}
use Rattle.pr_lang.specs.declared.trees.Stmt.{Stmt}
use Rattle.pr_lang.specs.Tree.{Tree}
use Rattle.pr_lang.specs.Shape.{expr_shape}
use Rattle.pr_lens_items.specs.Cuts.{is_out, both, all_onto, Statement, statement, stmts_left}

-- ---- lists that grow while another one is gone through
pub opens : {X Y : Type 0} (f : List X → Y) (xs : List X) (i : ℕ) (x : X) (y : Y) → i < length xs → x ≡ get_or xs i x → f (x ∷ drop (i + 1) xs) ≡ y → f (drop i xs) ≡ y
opens {X} {Y} f xs i x y within there is = at_drop_more f xs i x within ∙ (ap (λ (z : X). f (z ∷ drop (i + 1) xs)) (sym there) ∙ is)

pub grown : {X : Type 0} (shape : X → Tree) (kept news : List X) (new : X) (t : Tree) (rest after whole : List Tree) → news ≡ kept ++ new ∷ [] → shape new ≡ t → rest ≡ t ∷ after → map shape kept ++ rest ≡ whole → map shape news ++ after ≡ whole
grown {X} shape kept news new t rest after whole is same opened all =
    ap (λ (xs : List X). map shape xs ++ after) is
    ∙ (ap (λ (ts : List Tree). ts ++ after) (map-append shape kept (new ∷ []))
    ∙ (append_assoc (map shape kept) (shape new ∷ []) after
    ∙ (ap (λ (u : Tree). map shape kept ++ (u ∷ after)) same
    ∙ (ap (λ (ts : List Tree). map shape kept ++ ts) (sym opened) ∙ all))))

pub all_kept : (kept rest whole : List Tree) → rest ≡ [] → kept ++ rest ≡ whole → kept ≡ whole
all_kept kept rest whole none all = sym (append-nil kept) ∙ (ap (λ (ts : List Tree). kept ++ ts) (sym none) ∙ all)

-- ---- parts, the last one first
all_onto-push : (us : List Tree) (u t : Tree) → all_onto (us ++ u ∷ []) t ≡ all_onto us (both u t)
all_onto-push [] u t = refl
all_onto-push (v ∷ us) u t = ap (λ (w : Tree). both v w) (all_onto-push us u t)

pub one_back : (es rest : List Expr) (e : Expr) (t whole : Tree) → es ≡ rest ++ e ∷ [] → all_onto (map expr_shape es) t ≡ whole → all_onto (map expr_shape rest) (both (expr_shape e) t) ≡ whole
one_back es rest e t whole is onto =
    sym (all_onto-push (map expr_shape rest) (expr_shape e) t)
    ∙ (ap (λ (ts : List Tree). all_onto ts t) (sym (map-append expr_shape rest (e ∷ [])))
    ∙ (ap (λ (xs : List Expr). all_onto (map expr_shape xs) t) (sym is) ∙ onto))

-- ---- statements
-- where no frame is kept the points do not matter
pub stmts_same : (ss : List Statement) (values others frames last : ℕ) → (0 < frames → values ≡ others) → stmts_left ss values frames last ≡ stmts_left ss others frames last
stmts_same [] values others frames last same = refl
stmts_same (s ∷ ss) values others frames last same = elim (cases_lt frames 2) [
  | inl out ↦ (let none : is_out frames ≡ true = lt-ltb frames 2 out in rw none)
  | inr more ↦ ap (λ (v : ℕ). stmts_left (s ∷ ss) v frames last) (same (omega (arith, more)))
]

pub stmt_kept : (steps : List Stmt) (i : ℕ) (step : Stmt) (values frames last next others end : ℕ) → i < length steps → step ≡ get_or steps i step → is_out frames ≡ false → others ≡ frames - 1 - (statement step).frames → (0 < others → next ≡ values - (statement step).values) → end ≡ last
    → stmts_left (map statement (drop i steps)) values frames last ≡ (statement step).left values (frames - 1) last ∷ stmts_left (map statement (drop (i + 1) steps)) next others end
stmt_kept steps i step values frames last next others end within there in_frames others_are next_is end_is =
    opens (λ (ss : List Stmt). stmts_left (map statement ss) values frames last) steps i step _ within there
    (cond-false (is_out frames) [] ((statement step).left values (frames - 1) last ∷ stmts_left (map statement (drop (i + 1) steps)) (values - (statement step).values) (frames - 1 - (statement step).frames) last) in_frames
    ∙ ap (λ (ts : List Tree). (statement step).left values (frames - 1) last ∷ ts) (
    ap (λ (f : ℕ). stmts_left (map statement (drop (i + 1) steps)) (values - (statement step).values) f last) (sym others_are)
    ∙ (stmts_same (map statement (drop (i + 1) steps)) (values - (statement step).values) next others last (λ more. sym (next_is more))
    ∙ ap (λ (l : ℕ). stmts_left (map statement (drop (i + 1) steps)) next others l) (sym end_is))))
