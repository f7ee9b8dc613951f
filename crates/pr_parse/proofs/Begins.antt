-- What a part can begin with.
use Rattle.std.proofs.Common.{◌≡◌, ℕ, Some, List, [], ◌∷◌, refl, ◌∙◌}
use Rattle.std.specs.Prelude.{slice_range}
use Rattle.pr_lang.specs.declared.tokens.Keyword.TheVariants.{Input}
use Rattle.pr_lang.specs.declared.tokens.Symbol.TheVariants.{Colon}
use Rattle.pr_lang.specs.declared.tokens.Kind.{Kind}
use Rattle.pr_lang.specs.declared.tokens.Kind.TheVariants as kind
use Rattle.pr_lang.specs.declared.tokens.Token.{Token}
use Rattle.pr_lang.specs.Word.{words, word_by}
use Rattle.pr_lang.specs.Grammar.{Part, rule, then, TheItem, TheStmt, TheParam, TheExpr, level, FixedSums}
use Rattle.pr_lang.specs.Machine.{next, begins}
use Rattle.pr_parse.specs.Kinds.{first_kind, starts_item, starts_stmt, starts_param, starts_expr, starts_fixed}
use Rattle.pr_parse.proofs.Look.{in_tags, first_tags, begins_rule, begins_alone}

item_at : (bytes : List ℕ) (k : Kind) → in_tags (first_tags TheItem) (Some (word_by bytes k)) ≡ starts_item k
item_at bytes kind.Name = refl
item_at bytes (kind.Number n) = refl
item_at bytes (kind.Word Input) = refl
item_at bytes (kind.Word _) = refl
item_at bytes (kind.Mark Colon) = refl
item_at bytes (kind.Mark _) = refl
item_at bytes kind.End = refl
item_at bytes kind.Bad = refl

item_next : (text : List ℕ) (ks : List Token) → in_tags (first_tags TheItem) (next (words text ks)) ≡ starts_item (first_kind ks)
item_next text [] = refl
item_next text (t ∷ ts) = item_at (slice_range text t.start t.end) t.kind

pub begins_then_item : (q : Part) (text : List ℕ) (ks : List Token) → begins (then (rule TheItem) q) (words text ks) ≡ starts_item (first_kind ks)
begins_then_item q text ks = begins_rule TheItem q (next (words text ks)) refl ∙ item_next text ks

stmt_at : (bytes : List ℕ) (k : Kind) → in_tags (first_tags TheStmt) (Some (word_by bytes k)) ≡ starts_stmt k
stmt_at bytes kind.Name = refl
stmt_at bytes (kind.Number n) = refl
stmt_at bytes (kind.Word Input) = refl
stmt_at bytes (kind.Word _) = refl
stmt_at bytes (kind.Mark Colon) = refl
stmt_at bytes (kind.Mark _) = refl
stmt_at bytes kind.End = refl
stmt_at bytes kind.Bad = refl

stmt_next : (text : List ℕ) (ks : List Token) → in_tags (first_tags TheStmt) (next (words text ks)) ≡ starts_stmt (first_kind ks)
stmt_next text [] = refl
stmt_next text (t ∷ ts) = stmt_at (slice_range text t.start t.end) t.kind

pub begins_then_stmt : (q : Part) (text : List ℕ) (ks : List Token) → begins (then (rule TheStmt) q) (words text ks) ≡ starts_stmt (first_kind ks)
begins_then_stmt q text ks = begins_rule TheStmt q (next (words text ks)) refl ∙ stmt_next text ks

param_at : (bytes : List ℕ) (k : Kind) → in_tags (first_tags TheParam) (Some (word_by bytes k)) ≡ starts_param k
param_at bytes kind.Name = refl
param_at bytes (kind.Number n) = refl
param_at bytes (kind.Word Input) = refl
param_at bytes (kind.Word _) = refl
param_at bytes (kind.Mark Colon) = refl
param_at bytes (kind.Mark _) = refl
param_at bytes kind.End = refl
param_at bytes kind.Bad = refl

param_next : (text : List ℕ) (ks : List Token) → in_tags (first_tags TheParam) (next (words text ks)) ≡ starts_param (first_kind ks)
param_next text [] = refl
param_next text (t ∷ ts) = param_at (slice_range text t.start t.end) t.kind

pub begins_then_param : (q : Part) (text : List ℕ) (ks : List Token) → begins (then (rule TheParam) q) (words text ks) ≡ starts_param (first_kind ks)
begins_then_param q text ks = begins_rule TheParam q (next (words text ks)) refl ∙ param_next text ks

expr_at : (bytes : List ℕ) (k : Kind) → in_tags (first_tags TheExpr) (Some (word_by bytes k)) ≡ starts_expr k
expr_at bytes kind.Name = refl
expr_at bytes (kind.Number n) = refl
expr_at bytes (kind.Word Input) = refl
expr_at bytes (kind.Word _) = refl
expr_at bytes (kind.Mark Colon) = refl
expr_at bytes (kind.Mark _) = refl
expr_at bytes kind.End = refl
expr_at bytes kind.Bad = refl

expr_next : (text : List ℕ) (ks : List Token) → in_tags (first_tags TheExpr) (next (words text ks)) ≡ starts_expr (first_kind ks)
expr_next text [] = refl
expr_next text (t ∷ ts) = expr_at (slice_range text t.start t.end) t.kind

pub begins_then_expr : (q : Part) (text : List ℕ) (ks : List Token) → begins (then (rule TheExpr) q) (words text ks) ≡ starts_expr (first_kind ks)
begins_then_expr q text ks = begins_rule TheExpr q (next (words text ks)) refl ∙ expr_next text ks

fixed_at : (bytes : List ℕ) (k : Kind) → in_tags (first_tags (level FixedSums)) (Some (word_by bytes k)) ≡ starts_fixed k
fixed_at bytes kind.Name = refl
fixed_at bytes (kind.Number n) = refl
fixed_at bytes (kind.Word Input) = refl
fixed_at bytes (kind.Word _) = refl
fixed_at bytes (kind.Mark Colon) = refl
fixed_at bytes (kind.Mark _) = refl
fixed_at bytes kind.End = refl
fixed_at bytes kind.Bad = refl

fixed_next : (text : List ℕ) (ks : List Token) → in_tags (first_tags (level FixedSums)) (next (words text ks)) ≡ starts_fixed (first_kind ks)
fixed_next text [] = refl
fixed_next text (t ∷ ts) = fixed_at (slice_range text t.start t.end) t.kind

pub begins_then_fixed : (q : Part) (text : List ℕ) (ks : List Token) → begins (then (rule (level FixedSums)) q) (words text ks) ≡ starts_fixed (first_kind ks)
begins_then_fixed q text ks = begins_rule (level FixedSums) q (next (words text ks)) refl ∙ fixed_next text ks

pub begins_fixed : (text : List ℕ) (ks : List Token) → begins (rule (level FixedSums)) (words text ks) ≡ starts_fixed (first_kind ks)
begins_fixed text ks = begins_alone (level FixedSums) (next (words text ks)) ∙ fixed_next text ks
