-- The definitions, computed on small texts.
use Rattle.std.proofs.Common.{◌≡◌, ◌++◌, Some, None, [], ◌∷◌, replicate, refl}
use Rattle.std.specs.Prelude.{codes}
use Rattle.std.specs.Fmt.{digits}
use Rattle.pr_lang.specs.declared.tokens.Keyword.TheVariants.{Let}
use Rattle.pr_lang.specs.declared.tokens.Symbol.TheVariants.{Assign, Plus, LessEqual}
use Rattle.pr_lang.specs.declared.tokens.Kind.TheVariants.{Name, Number, Word, Mark, End, Bad}
use Rattle.pr_lang.specs.Tokens.{tokens_of, tokens_from, token}
use Rattle.pr_lang.specs.Word.{words_of}
use Rattle.pr_lang.specs.Machine.{first_wrong, left_over, moved, meet, meet_rule}
use Rattle.pr_lang.specs.Syntax.{refusal_of, AtToken, TooDeep}
use Rattle.pr_lang.specs.Tree as tree
use Rattle.pr_lang.specs.Printed.{printed}
use Rattle.pr_lang.specs.Is.{name_tree, number_tree, sign_tree}

tokens_with_places : tokens_of (codes "x//\n<=0x1f") ≡ token Name 0 1 ∷ token (Mark LessEqual) 4 2 ∷ token (Number 31) 6 4 ∷ token End 10 0 ∷ []
unfolding tokens_from
tokens_with_places = refl

tokens_until_bad : tokens_of (codes "let x = 08x;") ≡ token (Word Let) 0 3 ∷ token Name 4 1 ∷ token (Mark Assign) 6 1 ∷ token Bad 8 2 ∷ []
unfolding tokens_from
tokens_until_bad = refl

wrong_end : first_wrong (words_of (codes "input a:")) ≡ Some 3
unfolding tokens_from first_wrong left_over moved meet meet_rule
wrong_end = refl

wrong_chain : first_wrong (words_of (codes "output y = a < b < c;")) ≡ Some 6
unfolding tokens_from first_wrong left_over moved meet meet_rule
wrong_chain = refl

wrong_number : first_wrong (words_of (codes "let x = 08x;")) ≡ Some 3
unfolding tokens_from first_wrong left_over moved meet meet_rule
wrong_number = refl

wrong_body : first_wrong (words_of (codes "rec s = 0 by;")) ≡ Some 5
unfolding tokens_from first_wrong left_over moved meet meet_rule
wrong_body = refl

wrong_param : first_wrong (words_of (codes "fn f(a,) { return a; }")) ≡ Some 5
unfolding tokens_from first_wrong left_over moved meet meet_rule
wrong_param = refl

wrong_entry : first_wrong (words_of (codes "const c = [];")) ≡ Some 4
unfolding tokens_from first_wrong left_over moved meet meet_rule
wrong_entry = refl

none_wrong : first_wrong (words_of (codes "input x:8;\noutput y:10 = x + x@1{3..0} ? f(x, ~x) : cat(x, c[2] * 3);")) ≡ None
unfolding tokens_from first_wrong left_over moved meet meet_rule
none_wrong = refl

-- 257 opening parentheses, and 256
too_deep : refusal_of (codes "output y = " ++ replicate 257 40) ≡ Some TooDeep
unfolding tokens_from first_wrong left_over moved meet meet_rule
too_deep = refl

not_too_deep : refusal_of (codes "output y = " ++ replicate 256 40) ≡ Some (AtToken 259)
unfolding tokens_from first_wrong left_over moved meet meet_rule
not_too_deep = refl

two_lines : printed (tree.more (tree.more tree.none (tree.input (name_tree (codes "x")) (number_tree 8))) (tree.output (name_tree (codes "y")) (tree.width (number_tree 10)) (tree.binary (sign_tree Plus) (tree.refer (name_tree (codes "x")) tree.no_index) (tree.delay (tree.refer (name_tree (codes "x")) tree.no_index) (number_tree 1)))))
    ≡ codes "input x : 8 ;\noutput y : 10 = x + x @ 1 ;\n"
unfolding digits
two_lines = refl
