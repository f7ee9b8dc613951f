-- What the grammar's relation says, the parts derive.
use Rattle.std.proofs.Common.{◌≡◌, ℕ, Bool, true, false, ◌||◌, nat_eq, List, [], ◌∷◌, ◌++◌, inl, inr, refl, sym, ap, subst, ◌∙◌, append_assoc, eq-eqb}
use Rattle.std.proofs.lemmas.List.{append-nil}
use Rattle.pr_lang.specs.declared.tokens.Symbol.{Symbol}
use Rattle.pr_lang.specs.declared.tokens.Keyword.TheVariants.{Const}
use Rattle.pr_lang.specs.declared.tokens.Symbol.TheVariants.{Comma, Dots, OpenCurly, CloseCurly, OpenSquare, CloseSquare, Assign, Semi}
use Rattle.pr_lang.specs.Word.{Word, named, keyword, symbol, symbol_tag, among}
use Rattle.pr_lang.specs.Grammar.{Rule, Part, AnyOf, ListOf, MaybeListOf, ThePostfix, TheItem, Entries, comparisons, Block, member, Listed, element, Level, level, signs, operand, rule, then, many, fixed}
use Rattle.pr_lang.specs.Word.{one_of}
use Rattle.pr_lang.specs.Tree.{Tree}
use Rattle.pr_lang.specs.Tree as tree
use Rattle.pr_lang.specs.Is.{Is, IsSign}
use Rattle.pr_lang.specs.Is as is
use Rattle.pr_parse.specs.Derive.{Derives, IsToken, IsRule, IsMade, IsThen, IsFirst, IsSecond, IsAbsent, IsThere, IsLast, IsRepeated}

move : {p : Part} {ks ls : List Word} {ts us : List Tree} → ks ≡ ls → Derives p ks ts us → Derives p ls ts us
move {p} {ks} {ls} {ts} {us} e d = subst (λ l. Derives p l ts us) e d

-- a part that derives nothing may follow
then_nothing : {p q : Part} {ks : List Word} {ts us vs : List Tree} → Derives p ks ts us → Derives q [] us vs → Derives (then p q) ks ts vs
then_nothing {p} {q} {ks} {ts} {us} {vs} d e = subst (λ l. Derives (then p q) l ts vs) (append-nil ks) (IsThen d e)

is_among : (ss : List Symbol) (s : Symbol) → IsSign ss s → among (symbol_tag s) ss ≡ true
is_among [] s h = absurd h
is_among (t ∷ ts) s (inl e) = ap (λ b. b || among (symbol_tag s) ts) (eq-eqb (symbol_tag s) (symbol_tag t) (ap symbol_tag e))
is_among (t ∷ ts) s (inr h) = either_way (nat_eq (symbol_tag s) (symbol_tag t)) (among (symbol_tag s) ts) (is_among ts s h)
  where
    either_way : (a b : Bool) → b ≡ true → (a || b) ≡ true
    either_way true b h = refl
    either_way false b h = h

many_snoc : {p : Part} {ks ls : List Word} {ts us vs : List Tree} → Derives (many p) ks ts us → Derives p ls us vs → Derives (many p) (ks ++ ls) ts vs
many_snoc {ls = ls} IsLast e = move (append-nil ls) (IsRepeated e IsLast)
many_snoc {p = p} {ls = ls} (IsRepeated {ks = k1} {ls = k2} d f) e = move (sym (append_assoc k1 k2 ls)) (IsRepeated d (many_snoc f e))

then_snoc : {p q : Part} {ks ls : List Word} {ts us vs : List Tree} → Derives (then p (many q)) ks ts us → Derives q ls us vs → Derives (then p (many q)) (ks ++ ls) ts vs
then_snoc {p = p} {q = q} {ls = ls} (IsThen {ks = k1} {ls = k2} d f) e = move (sym (append_assoc k1 k2 ls)) (IsThen d (many_snoc f e))

list_snoc : {p b c q : Part} {ks ls : List Word} {ts us vs : List Tree} → Derives (then p (then b (then c (many q)))) ks ts us → Derives q ls us vs → Derives (then p (then b (then c (many q)))) (ks ++ ls) ts vs
list_snoc {p = p} {b = b} {c = c} {q = q} {ls = ls} (IsThen {ks = k1} {ls = k2} d (IsThen {ks = k3} {ls = k4} f g)) e =
    move (ap (λ l. k1 ++ l) (sym (append_assoc k3 k4 ls)) ∙ sym (append_assoc k1 (k3 ++ k4) ls)) (IsThen d (IsThen f (then_snoc g e)))

block_snoc : {b : Block} {ks ls : List Word} {l t : Tree} {ts : List Tree} → Derives (rule (AnyOf b)) ks ts (l ∷ ts) → Derives (rule (member b)) ls (l ∷ ts) (t ∷ l ∷ ts) → Derives (rule (AnyOf b)) (ks ++ ls) ts (tree.more l t ∷ ts)
block_snoc (IsRule d) e = IsRule (then_snoc d (then_nothing e IsMade))

listed_snoc : {c : Listed} {ks ls : List Word} {l t : Tree} {ts : List Tree} → Derives (rule (ListOf c)) ks ts (l ∷ ts) → Derives (rule (element c)) ls (tree.word (symbol Comma) ∷ l ∷ ts) (t ∷ tree.word (symbol Comma) ∷ l ∷ ts) → Derives (rule (ListOf c)) (ks ++ symbol Comma ∷ ls) ts (tree.also l t ∷ ts)
listed_snoc (IsRule d) e = IsRule (list_snoc d (IsThen (IsToken refl) (then_nothing e IsMade)))

level_snoc : {v : Level} {s : Symbol} {ks ls : List Word} {l t : Tree} {ts : List Tree} → Derives (rule (level v)) ks ts (l ∷ ts) → IsSign (signs v) s → Derives (rule (operand v)) ls (tree.word (symbol s) ∷ l ∷ ts) (t ∷ tree.word (symbol s) ∷ l ∷ ts) → Derives (rule (level v)) (ks ++ symbol s ∷ ls) ts (tree.binary (tree.word (symbol s)) l t ∷ ts)
level_snoc {v = v} {s = s} (IsRule d) h e = IsRule (then_snoc d (IsThen (IsToken {p = one_of (signs v)} (is_among (signs v) s h)) (then_nothing e IsMade)))

postfix_snoc : {ks hs ls : List Word} {a h l : Tree} {ts : List Tree} → Derives (rule ThePostfix) ks ts (a ∷ ts) → Derives fixed hs (tree.word (symbol OpenCurly) ∷ a ∷ ts) (h ∷ tree.word (symbol OpenCurly) ∷ a ∷ ts) → Derives fixed ls (tree.word (symbol Dots) ∷ h ∷ tree.word (symbol OpenCurly) ∷ a ∷ ts) (l ∷ tree.word (symbol Dots) ∷ h ∷ tree.word (symbol OpenCurly) ∷ a ∷ ts) → Derives (rule ThePostfix) (ks ++ symbol OpenCurly ∷ (hs ++ symbol Dots ∷ (ls ++ symbol CloseCurly ∷ []))) ts (tree.slice a h l ∷ ts)
postfix_snoc (IsRule d) h l = IsRule (then_snoc d (IsThen (IsToken refl) (IsThen h (IsThen (IsToken refl) (IsThen l (IsThen (IsToken refl) IsMade))))))

-- a list that is begun without its front
maybe_list : {c : Listed} {ks : List Word} {ts us : List Tree} → Derives (rule (ListOf c)) ks ts us → Derives (rule (MaybeListOf c)) ks ts us
maybe_list (IsRule (IsThen d e)) = IsRule (IsThen d (IsThere e))

table_derived : (x : List ℕ) (cs : List Word) (l : Tree) (ts : List Tree) → Derives (rule (ListOf Entries)) cs (tree.word (symbol OpenSquare) ∷ tree.word (symbol Assign) ∷ is.name_tree x ∷ tree.word (keyword Const) ∷ ts) (l ∷ tree.word (symbol OpenSquare) ∷ tree.word (symbol Assign) ∷ is.name_tree x ∷ tree.word (keyword Const) ∷ ts)
    → Derives (rule TheItem) (keyword Const ∷ named x ∷ symbol Assign ∷ symbol OpenSquare ∷ (cs ++ symbol CloseSquare ∷ symbol Semi ∷ [])) ts (tree.const (is.name_tree x) (tree.table l) ∷ ts)
table_derived x cs l ts d =
    let P : List Word → Type 0 = λ y. Derives (rule TheItem) (keyword Const ∷ named x ∷ symbol Assign ∷ symbol OpenSquare ∷ y) ts (tree.const (is.name_tree x) (tree.table l) ∷ ts) in
    subst P (append_assoc cs (symbol CloseSquare ∷ []) (symbol Semi ∷ [])) (IsRule (IsSecond (IsSecond (IsFirst (IsThen (IsToken refl) (IsThen (IsToken refl) (IsThen (IsToken refl) (IsThen (IsSecond (IsThen (IsToken refl) (IsThen d (IsThen (IsToken refl) IsMade)))) (IsThen (IsToken refl) IsMade)))))))))

pub derived : (r : Rule) (ks : List Word) (t : Tree) → Is r ks t → (ts : List Tree) → Derives (rule r) ks ts (t ∷ ts)
derived _ _ _ is.no_more ts = IsRule (IsThen IsMade IsLast)
derived _ _ _ (is.one_more d e) ts = block_snoc (derived _ _ _ d ts) (derived _ _ _ e _)
derived _ _ _ (is.only_one d) ts = IsRule (IsThen IsMade (then_nothing (derived _ _ _ d _) (IsThen IsMade IsLast)))
derived _ _ _ (is.also_one d e) ts = listed_snoc (derived _ _ _ d ts) (derived _ _ _ e _)
derived _ _ _ is.no_list ts = IsRule (IsThen IsMade IsAbsent)
derived _ _ _ (is.a_list d) ts = maybe_list (derived _ _ _ d ts)
derived _ _ _ is.no_width ts = IsRule (IsThen IsMade IsAbsent)
derived _ _ _ is.a_width ts = IsRule (IsThen IsMade (IsThere (IsThen (IsToken refl) (IsThen (IsToken refl) IsMade))))
derived _ _ _ is.no_index ts = IsRule (IsThen IsMade IsAbsent)
derived _ _ _ (is.an_index d) ts = IsRule (IsThen IsMade (IsThere (IsThen (IsToken refl) (IsThen (derived _ _ _ d _) (IsThen (IsToken refl) IsMade)))))
derived _ _ _ (is.program d) ts = IsRule (IsThen (derived _ _ _ d ts) (IsThen (IsToken refl) IsMade))
derived _ _ _ is.input ts = IsRule (IsFirst (IsThen (IsToken refl) (IsThen (IsToken refl) (IsThen (IsToken refl) (IsThen (IsToken refl) (IsThen (IsToken refl) IsMade))))))
derived _ _ _ (is.output w e) ts = IsRule (IsSecond (IsFirst (IsThen (IsToken refl) (IsThen (IsToken refl) (IsThen (derived _ _ _ w _) (IsThen (IsToken refl) (IsThen (derived _ _ _ e _) (IsThen (IsToken refl) IsMade))))))))
derived _ _ _ (is.const c) ts = IsRule (IsSecond (IsSecond (IsFirst (IsThen (IsToken refl) (IsThen (IsToken refl) (IsThen (IsToken refl) (IsThen (IsFirst (derived _ _ _ c _)) (IsThen (IsToken refl) IsMade))))))))
derived _ _ _ (is.table {x = x} {cs = cs} c) ts = table_derived x cs _ ts (derived _ _ _ c _)
derived _ _ _ (is.function p w b e) ts = IsRule (IsSecond (IsSecond (IsSecond (IsFirst (IsThen (IsToken refl) (IsThen (IsToken refl) (IsThen (IsToken refl) (IsThen (derived _ _ _ p _) (IsThen (IsToken refl) (IsThen (derived _ _ _ w _) (IsThen (IsToken refl) (IsThen (derived _ _ _ b _) (IsThen (IsToken refl) (IsThen (derived _ _ _ e _) (IsThen (IsToken refl) (IsThen (IsToken refl) IsMade))))))))))))))))
derived _ _ _ (is.step d) ts = IsRule (IsSecond (IsSecond (IsSecond (IsSecond (derived _ _ _ d ts)))))
derived _ _ _ (is.param w) ts = IsRule (IsThen (IsToken refl) (then_nothing (derived _ _ _ w _) IsMade))
derived _ _ _ (is.let_stmt r w e) ts = IsRule (IsFirst (IsThen (IsToken refl) (IsThen (derived _ _ _ r _) (IsThen (derived _ _ _ w _) (IsThen (IsToken refl) (IsThen (derived _ _ _ e _) (IsThen (IsToken refl) IsMade)))))))
derived _ _ _ (is.rec_stmt r w c e) ts = IsRule (IsSecond (IsFirst (IsThen (IsToken refl) (IsThen (derived _ _ _ r _) (IsThen (derived _ _ _ w _) (IsThen (IsToken refl) (IsThen (derived _ _ _ c _) (IsThen (IsToken refl) (IsThen (derived _ _ _ e _) (IsThen (IsToken refl) IsMade))))))))))
derived _ _ _ (is.for_stmt c d b) ts = IsRule (IsSecond (IsSecond (IsThen (IsToken refl) (IsThen (IsToken refl) (IsThen (IsToken refl) (IsThen (derived _ _ _ c _) (IsThen (IsToken refl) (IsThen (derived _ _ _ d _) (IsThen (IsToken refl) (IsThen (derived _ _ _ b _) (IsThen (IsToken refl) IsMade)))))))))))
derived _ _ _ (is.target i) ts = IsRule (IsThen (IsToken refl) (then_nothing (derived _ _ _ i _) IsMade))
derived _ _ _ (is.no_choice d) ts = IsRule (then_nothing (derived _ _ _ d ts) IsAbsent)
derived _ _ _ (is.choice c a b) ts = IsRule (IsThen (derived _ _ _ c ts) (IsThere (IsThen (IsToken refl) (IsThen (derived _ _ _ a _) (IsThen (IsToken refl) (then_nothing (derived _ _ _ b _) IsMade))))))
derived _ _ _ (is.one_operand d) ts = IsRule (then_nothing (derived _ _ _ d ts) IsLast)
derived _ _ _ (is.one_operator d h e) ts = level_snoc (derived _ _ _ d ts) h (derived _ _ _ e _)
derived _ _ _ (is.no_comparison d) ts = IsRule (then_nothing (derived _ _ _ d ts) IsAbsent)
derived _ _ _ (is.comparison {s = s} d h e) ts = IsRule (IsThen (derived _ _ _ d ts) (IsThere (IsThen (IsToken (is_among comparisons s h)) (then_nothing (derived _ _ _ e _) IsMade))))
derived _ _ _ (is.tilde d) ts = IsRule (IsFirst (IsThen (IsToken refl) (then_nothing (derived _ _ _ d _) IsMade)))
derived _ _ _ (is.no_prefix d) ts = IsRule (IsSecond (derived _ _ _ d ts))
derived _ _ _ (is.no_postfix d) ts = IsRule (then_nothing (derived _ _ _ d ts) IsLast)
derived _ _ _ (is.sliced d h l) ts = postfix_snoc (derived _ _ _ d ts) (derived _ _ _ h _) (derived _ _ _ l _)
derived _ _ _ is.number ts = IsRule (IsFirst (IsToken refl))
derived _ _ _ (is.paren d) ts = IsRule (IsSecond (IsFirst (IsThen (IsToken refl) (IsThen (derived _ _ _ d _) (IsThen (IsToken refl) IsMade)))))
derived _ _ _ (is.cat d) ts = IsRule (IsSecond (IsSecond (IsFirst (IsThen (IsToken refl) (IsThen (IsToken refl) (IsThen (derived _ _ _ d _) (IsThen (IsToken refl) IsMade)))))))
derived _ _ _ (is.call d) ts = IsRule (IsSecond (IsSecond (IsSecond (IsThen (IsToken refl) (IsFirst (IsThen (IsToken refl) (IsThen (derived _ _ _ d _) (IsThen (IsToken refl) IsMade))))))))
derived _ _ _ (is.refer i) ts = IsRule (IsSecond (IsSecond (IsSecond (IsThen (IsToken refl) (IsSecond (then_nothing (derived _ _ _ i _) (IsThen IsMade IsAbsent)))))))
derived _ _ _ (is.delayed i d) ts = IsRule (IsSecond (IsSecond (IsSecond (IsThen (IsToken refl) (IsSecond (IsThen (derived _ _ _ i _) (IsThen IsMade (IsThere (IsThen (IsToken refl) (then_nothing (derived _ _ _ d _) IsMade))))))))))
derived _ _ _ is.fixed_number ts = IsRule (IsFirst (IsToken refl))
derived _ _ _ (is.fixed_paren d) ts = IsRule (IsSecond (IsFirst (IsThen (IsToken refl) (IsThen (derived _ _ _ d _) (IsThen (IsToken refl) IsMade)))))
derived _ _ _ (is.fixed_refer i) ts = IsRule (IsSecond (IsSecond (IsThen (IsToken refl) (then_nothing (derived _ _ _ i _) IsMade))))
