-- What a rule derives is what its tree spells.
use Rattle.std.proofs.Common.{◌≡◌, Bool, true, false, List, [], ◌∷◌, ◌++◌, refl, sym, ap, ap₂, ◌∙◌, append_assoc}
use Rattle.std.proofs.lemmas.Bool.{true≢false}
use Rattle.pr_lang.specs.declared.tokens.Keyword.TheVariants.{Output, Const, Fn, Return, Let, Rec, By, For, Within, Cat}
use Rattle.pr_lang.specs.declared.tokens.Symbol.TheVariants.{Colon, Semi, Assign, OpenRound, CloseRound, OpenSquare, CloseSquare, OpenCurly, CloseCurly, Comma, Dots, At, Ask, Tilde}
use Rattle.pr_lang.specs.Word.{Word, named, keyword, symbol}
use Rattle.pr_lang.specs.Grammar.{Rule, TheProgram, Block, Items, Stmts, member, Listed, Params, element, Level, Ors, operand}
use Rattle.pr_lang.specs.Tree.{Tree}
use Rattle.pr_lang.specs.Is.{Is}
use Rattle.pr_lang.specs.Is as is
use Rattle.pr_lang.specs.Printed.{spelling}

-- all rules but that of programs, which ends in End
abbrev pub inner : Rule → Bool
inner TheProgram = false
inner _ = true

pub inner_member : (b : Block) → inner (member b) ≡ true
inner_member Items = refl
inner_member Stmts = refl

inner_element : (c : Listed) → inner (element c) ≡ true
inner_element Params = refl
inner_element _ = refl

inner_operand : (v : Level) → inner (operand v) ≡ true
inner_operand Ors = refl
inner_operand _ = refl

pub spelled : {r : Rule} {ks : List Word} {t : Tree} → Is r ks t → inner r ≡ true → ks ≡ spelling t
spelled is.no_more h = refl
spelled (is.one_more {b = b} d e) h = ap₂ (λ x y. x ++ y) (spelled d refl) (spelled e (inner_member b))
spelled (is.only_one {c = c} d) h = spelled d (inner_element c)
spelled (is.also_one {c = c} d e) h = ap₂ (λ x y. x ++ symbol Comma ∷ y) (spelled d refl) (spelled e (inner_element c))
spelled is.no_list h = refl
spelled (is.a_list d) h = spelled d refl
spelled is.no_width h = refl
spelled is.a_width h = refl
spelled is.no_index h = refl
spelled (is.an_index d) h = ap (λ x. symbol OpenSquare ∷ (x ++ symbol CloseSquare ∷ [])) (spelled d refl)
spelled (is.program d) h = absurd (true≢false (sym h))
spelled is.input h = refl
spelled (is.output {x = x} w e) h = ap₂ (λ ws es. keyword Output ∷ named x ∷ (ws ++ symbol Assign ∷ (es ++ symbol Semi ∷ []))) (spelled w refl) (spelled e refl)
spelled (is.const {x = x} c) h = ap (λ cs. keyword Const ∷ named x ∷ symbol Assign ∷ (cs ++ symbol Semi ∷ [])) (spelled c refl)
spelled (is.table {x = x} {cs = cs} l) h =
    ap (λ y. keyword Const ∷ named x ∷ symbol Assign ∷ symbol OpenSquare ∷ y) (sym (append_assoc cs (symbol CloseSquare ∷ []) (symbol Semi ∷ [])) ∙ ap (λ y. (y ++ symbol CloseSquare ∷ []) ++ symbol Semi ∷ []) (spelled l refl))
spelled (is.function {x = x} {ps = ps} {ws = ws} {b = b} {e = e} p w bs es) h =
    let F : List Word → List Word → List Word → List Word → List Word = λ i j k l. keyword Fn ∷ named x ∷ symbol OpenRound ∷ (i ++ symbol CloseRound ∷ (j ++ symbol OpenCurly ∷ (k ++ keyword Return ∷ (l ++ symbol Semi ∷ symbol CloseCurly ∷ [])))) in
    ap₂ (λ k l. F ps ws k l) (spelled bs refl) (spelled es refl) ∙ ap₂ (λ i j. F i j (spelling b) (spelling e)) (spelled p refl) (spelled w refl)
spelled (is.step d) h = spelled d refl
spelled (is.param {x = x} w) h = ap (λ ws. named x ∷ ws) (spelled w refl)
spelled (is.let_stmt {rs = rs} {w = w} {e = e} r ws es) h =
    let F : List Word → List Word → List Word → List Word = λ i j k. keyword Let ∷ (i ++ (j ++ symbol Assign ∷ (k ++ symbol Semi ∷ []))) in
    ap₂ (λ j k. F rs j k) (spelled ws refl) (spelled es refl) ∙ ap (λ i. F i (spelling w) (spelling e)) (spelled r refl)
spelled (is.rec_stmt {rs = rs} {ws = ws} {c = c} {e = e} r w cs es) h =
    let F : List Word → List Word → List Word → List Word → List Word = λ i j k l. keyword Rec ∷ (i ++ (j ++ symbol Assign ∷ (k ++ keyword By ∷ (l ++ symbol Semi ∷ [])))) in
    ap₂ (λ k l. F rs ws k l) (spelled cs refl) (spelled es refl) ∙ ap₂ (λ i j. F i j (spelling c) (spelling e)) (spelled r refl) (spelled w refl)
spelled (is.for_stmt {x = x} {cs = cs} {d = d} {b = b} c ds bs) h =
    let F : List Word → List Word → List Word → List Word = λ i j k. keyword For ∷ named x ∷ keyword Within ∷ (i ++ symbol Dots ∷ (j ++ symbol OpenCurly ∷ (k ++ symbol CloseCurly ∷ []))) in
    ap₂ (λ j k. F cs j k) (spelled ds refl) (spelled bs refl) ∙ ap (λ i. F i (spelling d) (spelling b)) (spelled c refl)
spelled (is.target {x = x} i) h = ap (λ js. named x ∷ js) (spelled i refl)
spelled (is.no_choice d) h = spelled d refl
spelled (is.choice {cs = cs} {a = a} {b = b} c ys bs) h =
    let F : List Word → List Word → List Word → List Word = λ i j k. i ++ symbol Ask ∷ (j ++ symbol Colon ∷ k) in
    ap₂ (λ j k. F cs j k) (spelled ys refl) (spelled bs refl) ∙ ap (λ i. F i (spelling a) (spelling b)) (spelled c refl)
spelled (is.one_operand {v = v} d) h = spelled d (inner_operand v)
spelled (is.one_operator {v = v} {s = s} a i b) h = ap₂ (λ x y. x ++ symbol s ∷ y) (spelled a refl) (spelled b (inner_operand v))
spelled (is.no_comparison d) h = spelled d refl
spelled (is.comparison {s = s} a i b) h = ap₂ (λ x y. x ++ symbol s ∷ y) (spelled a refl) (spelled b refl)
spelled (is.tilde d) h = ap (λ x. symbol Tilde ∷ x) (spelled d refl)
spelled (is.no_prefix d) h = spelled d refl
spelled (is.no_postfix d) h = spelled d refl
spelled (is.sliced {ks = ks} {h = h} {l = l} d hs ls) i =
    let F : List Word → List Word → List Word → List Word = λ x y z. x ++ symbol OpenCurly ∷ (y ++ symbol Dots ∷ (z ++ symbol CloseCurly ∷ [])) in
    ap₂ (λ y z. F ks y z) (spelled hs refl) (spelled ls refl) ∙ ap (λ x. F x (spelling h) (spelling l)) (spelled d refl)
spelled is.number h = refl
spelled (is.paren d) h = ap (λ x. symbol OpenRound ∷ (x ++ symbol CloseRound ∷ [])) (spelled d refl)
spelled (is.cat l) h = ap (λ x. keyword Cat ∷ symbol OpenRound ∷ (x ++ symbol CloseRound ∷ [])) (spelled l refl)
spelled (is.call {x = x} l) h = ap (λ y. named x ∷ symbol OpenRound ∷ (y ++ symbol CloseRound ∷ [])) (spelled l refl)
spelled (is.refer {x = x} i) h = ap (λ js. named x ∷ js) (spelled i refl)
spelled (is.delayed {x = x} i d) h = ap₂ (λ js ds. named x ∷ (js ++ symbol At ∷ ds)) (spelled i refl) (spelled d refl)
spelled is.fixed_number h = refl
spelled (is.fixed_paren d) h = ap (λ x. symbol OpenRound ∷ (x ++ symbol CloseRound ∷ [])) (spelled d refl)
spelled (is.fixed_refer {x = x} i) h = ap (λ js. named x ∷ js) (spelled i refl)
