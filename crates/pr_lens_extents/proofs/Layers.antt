-- What is known of calls and of parts beside one another, and what they do with a name.
use Rattle.std.proofs.Common.{◌≡◌, ◌∙◌, ℕ, List, Option, Vec, Global, map, sym, ap}
use Rattle.pr_lang.specs.declared.trees.Expr as expressions
use Rattle.pr_lang.specs.declared.trees.Expr.{Expr}
use Rattle.pr_lang.specs.declared.trees.Expr.TheVariants.{Call, Cat}
use Rattle.pr_lang.specs.declared.trees.Expr.TheOpen.{Expr-F}
use Rattle.pr_lang.specs.declared.trees.Expr.TheFolds.{fold-roll-Expr}
use Rattle.pr_lens_extents.specs.Scenes.{Seen}
use Rattle.pr_lens_extents.specs.Parameters.{Use, any_signs, call_signs, signs_of, use_of, use_step}
use Rattle.pr_lens_extents.specs.Expressions.{Reading, all_verdicts, call_verdicts, called, concatenated, extent_of, reading_of, reading_step, verdicts_of}

call_read : (name : List ℕ) (args : Vec Expr Global) (seen : Seen) → extent_of (Call name args) seen ≡ called name (map reading_of args.items) seen
unfolding expressions.roll-Expr denote.Hole.Carrier.roll
call_read name args seen = ap (λ (r : Reading). r.extent seen) (fold-roll-Expr Reading reading_step (Expr-F.Call name args))

cat_read : (parts : Vec Expr Global) (seen : Seen) → extent_of (Cat parts) seen ≡ concatenated (map reading_of parts.items) seen
unfolding expressions.roll-Expr denote.Hole.Carrier.roll
cat_read parts seen = ap (λ (r : Reading). r.extent seen) (fold-roll-Expr Reading reading_step (Expr-F.Cat parts))

pub call_is : (e : Expr) (name : List ℕ) (args : Vec Expr Global) (lent : List Expr) (seen : Seen) → e ≡ Call name args → lent ≡ args.items → called name (map reading_of lent) seen ≡ extent_of e seen
call_is e name args lent seen is all =
    ap (λ (es : List Expr). called name (map reading_of es) seen) all ∙ sym (ap (λ (x : Expr). extent_of x seen) is ∙ call_read name args seen)

pub cat_is : (e : Expr) (parts : Vec Expr Global) (lent : List Expr) (seen : Seen) → e ≡ Cat parts → lent ≡ parts.items → concatenated (map reading_of lent) seen ≡ extent_of e seen
cat_is e parts lent seen is all =
    ap (λ (es : List Expr). concatenated (map reading_of es) seen) all ∙ sym (ap (λ (x : Expr). extent_of x seen) is ∙ cat_read parts seen)

call_read_verdicts : (name : List ℕ) (args : Vec Expr Global) (seen : Option Seen) → verdicts_of (Call name args) seen ≡ call_verdicts name (map reading_of args.items) seen
unfolding expressions.roll-Expr denote.Hole.Carrier.roll
call_read_verdicts name args seen = ap (λ (r : Reading). r.verdicts seen) (fold-roll-Expr Reading reading_step (Expr-F.Call name args))

cat_verdicts : (parts : Vec Expr Global) (seen : Option Seen) → verdicts_of (Cat parts) seen ≡ all_verdicts (map reading_of parts.items) seen
unfolding expressions.roll-Expr denote.Hole.Carrier.roll
cat_verdicts parts seen = ap (λ (r : Reading). r.verdicts seen) (fold-roll-Expr Reading reading_step (Expr-F.Cat parts))

pub call_verdicts_are : (e : Expr) (name : List ℕ) (args : Vec Expr Global) (lent : List Expr) (seen : Option Seen) → e ≡ Call name args → lent ≡ args.items → call_verdicts name (map reading_of lent) seen ≡ verdicts_of e seen
call_verdicts_are e name args lent seen is all =
    ap (λ (es : List Expr). call_verdicts name (map reading_of es) seen) all ∙ sym (ap (λ (x : Expr). verdicts_of x seen) is ∙ call_read_verdicts name args seen)

pub cat_verdicts_are : (e : Expr) (parts : Vec Expr Global) (lent : List Expr) (seen : Option Seen) → e ≡ Cat parts → lent ≡ parts.items → all_verdicts (map reading_of lent) seen ≡ verdicts_of e seen
cat_verdicts_are e parts lent seen is all =
    ap (λ (es : List Expr). all_verdicts (map reading_of es) seen) all ∙ sym (ap (λ (x : Expr). verdicts_of x seen) is ∙ cat_verdicts parts seen)

-- ---- what an expression does with a name
call_used : (function : List ℕ) (args : Vec Expr Global) (name : List ℕ) (seen : Seen) → signs_of (Call function args) name seen ≡ call_signs function (map use_of args.items) name seen
unfolding expressions.roll-Expr denote.Hole.Carrier.roll
call_used function args name seen = ap (λ (u : Use). u.signs name seen) (fold-roll-Expr Use use_step (Expr-F.Call function args))

cat_used : (parts : Vec Expr Global) (name : List ℕ) (seen : Seen) → signs_of (Cat parts) name seen ≡ any_signs (map use_of parts.items) name seen
unfolding expressions.roll-Expr denote.Hole.Carrier.roll
cat_used parts name seen = ap (λ (u : Use). u.signs name seen) (fold-roll-Expr Use use_step (Expr-F.Cat parts))

pub call_signs_are : (e : Expr) (function : List ℕ) (args : Vec Expr Global) (lent : List Expr) (name : List ℕ) (seen : Seen) → e ≡ Call function args → lent ≡ args.items → call_signs function (map use_of lent) name seen ≡ signs_of e name seen
call_signs_are e function args lent name seen is all =
    ap (λ (es : List Expr). call_signs function (map use_of es) name seen) all ∙ sym (ap (λ (x : Expr). signs_of x name seen) is ∙ call_used function args name seen)

pub cat_signs_are : (e : Expr) (parts : Vec Expr Global) (lent : List Expr) (name : List ℕ) (seen : Seen) → e ≡ Cat parts → lent ≡ parts.items → any_signs (map use_of lent) name seen ≡ signs_of e name seen
cat_signs_are e parts lent name seen is all =
    ap (λ (es : List Expr). any_signs (map use_of es) name seen) all ∙ sym (ap (λ (x : Expr). signs_of x name seen) is ∙ cat_used parts name seen)
