-- The equations of a program whose numbers have 64 bits have constants of 64 bits.
use Rattle.std.proofs.Common.{◌≡◌, ◌+◌, ◌^◌, ◌<◌, ℕ, true, false, ◌&&◌, bytes_eq, codes, List, [], ◌∷◌, map, Option, None, Some, refl, ◌∙◌}
use Rattle.std.specs.List.{list_all, AllByRecursion}
use Rattle.std.proofs.lemmas.Bool.{and_from}
use Rattle.std.proofs.lemmas.List.Folds.{list_all-append}
use Rattle.pr_lang.specs.declared.trees.Fixed.{Fixed}
use Rattle.pr_lang.specs.declared.trees.Expr.{Expr}
use Rattle.pr_lang.specs.declared.trees.Stmt.{Stmt}
use Rattle.pr_lang.specs.declared.trees.Param.{Param}
use Rattle.pr_lang.specs.declared.trees.Item.{Item}
use Rattle.pr_lang.specs.declared.trees.Item.TheVariants as item
use Rattle.pr_lang.specs.declared.trees.Program.{Program}
use Rattle.std.specs.Global.{Vec}
use Rattle.pr_scope_names.specs.declared.names.Static.TheVariants.{Constant, Table, Function}
use Rattle.pr_scope_names.specs.Names.{Known, built_in}
use Rattle.pr_flat.specs.declared.equations.Op.TheVariants as op
use Rattle.pr_lang_meaning.specs.Programs.{function_at}
use Rattle.pr_expand_spec.specs.Making.{with_equation, constant}
use Rattle.pr_expand_spec.specs.Expressions.{assigned}
use Rattle.pr_expand_spec.specs.Programs.{World, start, input_width, inlined, signed_function, item_change, items_change, equations_of}
use Rattle.pr_scope_facts.specs.Numbers.{is_number, have_numbers}
use Rattle.pr_compile_verdicts.proofs.Shorts.{ShortKnown, bind-short, known-more, ShortStatic, ShortFixed, constant-short, ShortInlined, ShortVisible, ShortExpr, ShortStmt, ShortProgress, with-short, assigned-short, named-short, inlined-short, signed-short}

-- what the items so far have made
pub record ShortWorld (w : World) : Type 0 where
  pub visible : ShortVisible w.visible
  pub progress : ShortProgress w.progress
  pub outputs : list_all is_number w.outputs ≡ true

abbrev pub ShortItem : Item → Type 0
ShortItem i = (at : ℕ) (w : World) → ShortWorld w → ShortWorld (item_change at i w)

pub input-short : (name : List ℕ) (width : ℕ) → ShortItem (item.Input name width)
input-short name width at w short = record {
  visible = short.visible;
  progress = named-short name None w.progress.streams (with_equation op.Input [] (Some (input_width width)) w.progress.equations) short.progress.streams (with-short op.Input [] (Some (input_width width)) w.progress.equations tt short.progress.equations);
  outputs = short.outputs;
}

pub output-short : (name : List ℕ) (width : Option ℕ) (e : Expr) → ShortExpr e → ShortItem (item.Output name width e)
output-short name width e value at w short =
    let m = assigned width e w.visible w.progress.streams w.progress.equations in
    let made = assigned-short width e value w.visible short.visible w.progress.streams short.progress.streams w.progress.equations short.progress.equations in
    record {
      visible = short.visible;
      progress = named-short name None w.progress.streams m short.progress.streams made;
      outputs = list_all-append is_number w.outputs (m.given.operand ∷ []) ∙ and_from (list_all is_number w.outputs) (is_number m.given.operand && true) short.outputs (and_from (is_number m.given.operand) true made.given refl);
    }

pub constant-item-short : (name : List ℕ) (f : Fixed) → ShortFixed f → ShortItem (item.Const name f)
constant-item-short name f value at w short = record {
  visible = record { known = known-more w.visible.known name (Constant (constant f w.visible.known)) (constant-short f value w.visible.known short.visible.known) short.visible.known; functions = short.visible.functions };
  progress = short.progress;
  outputs = short.outputs;
}

entries-short : (fs : List Fixed) → AllByRecursion ShortFixed fs → (known : Known) → ShortKnown known → AllByRecursion (λ n. n < 2 ^ 64) (map (λ f. constant f known) fs)
entries-short [] all known seen = tt
entries-short (f ∷ fs) all known seen = (constant-short f all.0 known seen, entries-short fs all.1 known seen)

pub table-short : (name : List ℕ) (values : Vec Fixed) → AllByRecursion ShortFixed values.items → ShortItem (item.Table name values)
table-short name values all at w short = record {
  visible = record { known = known-more w.visible.known name (Table (map (λ f. constant f w.visible.known) values.items)) (entries-short values.items all w.visible.known short.visible.known) short.visible.known; functions = short.visible.functions };
  progress = short.progress;
  outputs = short.outputs;
}

pub function-item-short : (name : List ℕ) (params : Vec Param) (width : Option ℕ) (body : Vec Stmt) (result : Expr) → AllByRecursion ShortStmt body.items → ShortExpr result → ShortItem (item.Function name params width body result)
function-item-short name params width body result stmts value at w short = record {
  visible = record {
    known = known-more w.visible.known name (function_at at params.items) tt short.visible.known;
    functions = λ q. bind-short ShortInlined (bytes_eq name q) (inlined params.items width body.items result w.visible) (w.visible.functions q) (inlined-short params.items width body.items result w.visible stmts value short.visible) (short.visible.functions q);
  };
  progress = short.progress;
  outputs = short.outputs;
}

pub step-item-short : (s : Stmt) → ShortStmt s → ShortItem (item.Step s)
step-item-short s value at w short = record { visible = short.visible; progress = value w.visible short.visible w.progress short.progress; outputs = short.outputs }

-- ---- a program
start-known : ShortKnown built_in
unfolding built_in
start-known = record { at = λ q. bind-short ShortStatic (bytes_eq (codes "signed") q) (Function (record { item = None; params = 1; turns = 0; depth = 0; past = false })) None tt tt }

start-short : ShortWorld start
start-short = record {
  visible = record { known = start-known; functions = λ q. bind-short ShortInlined (bytes_eq (codes "signed") q) signed_function None signed-short tt };
  progress = record { streams = record { at = λ q r. tt }; equations = refl };
  outputs = refl;
}

items-short : (items : List Item) → AllByRecursion ShortItem items → (at : ℕ) (w : World) → ShortWorld w → ShortWorld (items_change at items w)
items-short [] all at w short = short
items-short (i ∷ items) all at w short = items-short items all.1 (at + 1) (item_change at i w) (all.0 at w short)

pub numbers-short : (program : Program) → AllByRecursion ShortItem program.items.items → have_numbers (equations_of program).equations (equations_of program).outputs ≡ true
numbers-short program all =
    let w = items_change 0 program.items.items start in
    let short = items-short program.items.items all 0 start start-short in
    and_from _ (list_all is_number w.outputs) short.progress.equations short.outputs
