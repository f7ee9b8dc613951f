-- What the parts derive, the grammar's relation says too.
use Rattle.std.proofs.Common.{◌≡◌, ℕ, ◌<◌, Bool, true, false, ◌||◌, nat_eq, get_or, List, [], ◌∷◌, ◌++◌, inl, inr, refl, sym, ap, subst, ◌∙◌, append_assoc, arith}
use Rattle.std.proofs.lemmas.List.{append-nil}
use Rattle.std.proofs.lemmas.Bool.{eqb-true}
use Rattle.pr_lang.specs.declared.tokens.Keyword.{Keyword}
use Rattle.pr_lang.specs.declared.tokens.Keyword.TheVariants.{Input, Output, Const, Fn, Return, Let, Rec, By, For, Within, Cat}
use Rattle.pr_lang.specs.declared.tokens.Symbol.{Symbol}
use Rattle.pr_lang.specs.declared.tokens.Symbol.TheVariants.{Colon, Semi, Assign, OpenRound, CloseRound, OpenSquare, CloseSquare, OpenCurly, CloseCurly, Comma, Dots, At, Ask, Plus, Minus, Star, Slash, Percent, Amp, Bar, Caret, Tilde, ShiftLeft, ShiftRight, Equal, NotEqual, Less, LessEqual, Greater, GreaterEqual}
use Rattle.pr_lang.specs.Word.{Word, named, numbered, keyword, symbol, ending, broken, tag, keyword_tag, symbol_tag, among, Pattern, any_name, any_number, the_end, this_keyword, this_symbol, one_of, fits}
use Rattle.pr_lang.specs.Grammar.{Rule, Action, Part, right, TheProgram, AnyOf, ListOf, MaybeListOf, TheWidth, TheIndex, TheItem, TheParam, TheStmt, TheTarget, TheExpr, level, TheCompare, ThePrefix, ThePostfix, ThePrimary, TheFixedPrimary, Block, member, Listed, element, Level, signs, operand, token, rule, make, then, or, maybe, many, Append, AppendAfterComma, MakeBinary, MakeSlice, mark, fixed, ◌⨟◌}
use Rattle.pr_lang.specs.Tree.{Tree}
use Rattle.pr_lang.specs.Tree as tree
use Rattle.pr_lang.specs.Is.{Is, IsSign, Fixed}
use Rattle.pr_lang.specs.Is as is
use Rattle.pr_parse.specs.Run.{act}
use Rattle.pr_parse.specs.Derive.{Derives, IsToken, IsRule, IsMade, IsThen, IsFirst, IsSecond, IsAbsent, IsThere, IsLast, IsRepeated}

-- ---- a word is known by its number, but for names and numbers

abbrev all_keywords : List Keyword
all_keywords = Input ∷ Output ∷ Const ∷ Fn ∷ Return ∷ Let ∷ Rec ∷ By ∷ For ∷ Within ∷ Cat ∷ []

abbrev all_symbols : List Symbol
all_symbols = Colon ∷ Semi ∷ Assign ∷ OpenRound ∷ CloseRound ∷ OpenSquare ∷ CloseSquare ∷ OpenCurly ∷ CloseCurly ∷ Comma ∷ Dots ∷ At ∷ Ask ∷ Plus ∷ Minus ∷ Star ∷ Slash ∷ Percent ∷ Amp ∷ Bar ∷ Caret ∷ Tilde ∷ ShiftLeft ∷ ShiftRight ∷ Equal ∷ NotEqual ∷ Less ∷ LessEqual ∷ Greater ∷ GreaterEqual ∷ []

abbrev all_words : List Word
all_words = broken ∷ broken ∷ ending ∷ broken ∷ keyword Input ∷ keyword Output ∷ keyword Const ∷ keyword Fn ∷ keyword Return ∷ keyword Let ∷ keyword Rec ∷ keyword By ∷ keyword For ∷ keyword Within ∷ keyword Cat ∷ symbol Colon ∷ symbol Semi ∷ symbol Assign ∷ symbol OpenRound ∷ symbol CloseRound ∷ symbol OpenSquare ∷ symbol CloseSquare ∷ symbol OpenCurly ∷ symbol CloseCurly ∷ symbol Comma ∷ symbol Dots ∷ symbol At ∷ symbol Ask ∷ symbol Plus ∷ symbol Minus ∷ symbol Star ∷ symbol Slash ∷ symbol Percent ∷ symbol Amp ∷ symbol Bar ∷ symbol Caret ∷ symbol Tilde ∷ symbol ShiftLeft ∷ symbol ShiftRight ∷ symbol Equal ∷ symbol NotEqual ∷ symbol Less ∷ symbol LessEqual ∷ symbol Greater ∷ symbol GreaterEqual ∷ []

keyword_back : (k : Keyword) → get_or all_words (keyword_tag k) broken ≡ keyword k
keyword_back Input = refl
keyword_back _ = refl

symbol_back : (s : Symbol) → get_or all_words (symbol_tag s) broken ≡ symbol s
symbol_back Colon = refl
symbol_back _ = refl

word_back : (w : Word) → 1 < tag w → get_or all_words (tag w) broken ≡ w
word_back (named x) h = absurd (omega arith)
word_back (numbered n) h = absurd (omega arith)
word_back ending h = refl
word_back broken h = refl
word_back (keyword k) h = keyword_back k
word_back (symbol s) h = symbol_back s

pub same_word : (v w : Word) → 1 < tag v → nat_eq (tag w) (tag v) ≡ true → w ≡ v
same_word v w h e =
    let t : tag w ≡ tag v = eqb-true (tag w) (tag v) e in
    sym (word_back w (omega arith)) ∙ ap (λ n. get_or all_words n broken) t ∙ word_back v h

keyword_above : (k : Keyword) → 1 < keyword_tag k
keyword_above Input = omega arith
keyword_above _ = omega arith

pub symbol_above : (s : Symbol) → 1 < symbol_tag s
symbol_above Colon = omega arith
symbol_above _ = omega arith

name_only : (w : Word) → nat_eq (tag w) 0 ≡ true → (x : List ℕ) × (w ≡ named x)
name_only (named x) h = (x, refl)
name_only (numbered n) h = absurd cc
name_only ending h = absurd cc
name_only broken h = absurd cc
name_only (keyword k) h = let e = eqb-true (keyword_tag k) 0 h in absurd (omega (arith, keyword_above k))
name_only (symbol s) h = let e = eqb-true (symbol_tag s) 0 h in absurd (omega (arith, symbol_above s))

number_only : (w : Word) → nat_eq (tag w) 1 ≡ true → (n : ℕ) × (w ≡ numbered n)
number_only (named x) h = absurd cc
number_only (numbered n) h = (n, refl)
number_only ending h = absurd cc
number_only broken h = absurd cc
number_only (keyword k) h = let e = eqb-true (keyword_tag k) 1 h in absurd (omega (arith, keyword_above k))
number_only (symbol s) h = let e = eqb-true (symbol_tag s) 1 h in absurd (omega (arith, symbol_above s))

sign_only : (ss : List Symbol) (w : Word) → among (tag w) ss ≡ true → (s : Symbol) × (w ≡ symbol s) × IsSign ss s
sign_only [] w h = absurd cc
sign_only (t ∷ ts) w h = go (nat_eq (tag w) (symbol_tag t)) refl (λ g. sign_only ts w g) h
  where
    go : (b : Bool) → nat_eq (tag w) (symbol_tag t) ≡ b → (among (tag w) ts ≡ true → (s : Symbol) × (w ≡ symbol s) × IsSign ts s) → (b || among (tag w) ts) ≡ true → (s : Symbol) × (w ≡ symbol s) × IsSign (t ∷ ts) s
    go true e ih g = (t, same_word (symbol t) w (symbol_above t) e, inl refl)
    go false e ih g = let r = ih g in (r.0, r.1, inr r.2)

-- ---- a derivation in which every rule within is said by the relation

pub data Shown : Part → List Word → List Tree → List Tree → Type 0 where
  SEnd : {ts : List Tree} → Shown (token the_end) (ending ∷ []) ts (tree.word ending ∷ ts)
  SKey : {k : Keyword} {ts : List Tree} → Shown (token (this_keyword k)) (keyword k ∷ []) ts (tree.word (keyword k) ∷ ts)
  SMark : {s : Symbol} {ts : List Tree} → Shown (token (this_symbol s)) (symbol s ∷ []) ts (tree.word (symbol s) ∷ ts)
  SName : {x : List ℕ} {ts : List Tree} → Shown (token any_name) (named x ∷ []) ts (tree.word (named x) ∷ ts)
  SNumber : {n : ℕ} {ts : List Tree} → Shown (token any_number) (numbered n ∷ []) ts (tree.word (numbered n) ∷ ts)
  SSign : {ss : List Symbol} {s : Symbol} {ts : List Tree} → IsSign ss s → Shown (token (one_of ss)) (symbol s ∷ []) ts (tree.word (symbol s) ∷ ts)
  SRule : {r : Rule} {ks : List Word} {t : Tree} {ts : List Tree} → Is r ks t → Shown (rule r) ks ts (t ∷ ts)
  SMade : {a : Action} {ts : List Tree} → Shown (make a) [] ts (act a ts)
  SThen : {p q : Part} {ks ls : List Word} {ts us vs : List Tree} → Shown p ks ts us → Shown q ls us vs → Shown (then p q) (ks ++ ls) ts vs
  SFirst : {p q : Part} {ks : List Word} {ts us : List Tree} → Shown p ks ts us → Shown (or p q) ks ts us
  SSecond : {p q : Part} {ks : List Word} {ts us : List Tree} → Shown q ks ts us → Shown (or p q) ks ts us
  SAbsent : {p : Part} {ts : List Tree} → Shown (maybe p) [] ts ts
  SThere : {p : Part} {ks : List Word} {ts us : List Tree} → Shown p ks ts us → Shown (maybe p) ks ts us
  SLast : {p : Part} {ts : List Tree} → Shown (many p) [] ts ts
  SRepeated : {p : Part} {ks ls : List Word} {ts us vs : List Tree} → Shown p ks ts us → Shown (many p) ls us vs → Shown (many p) (ks ++ ls) ts vs

-- one tree more, and what it is
pub data Got : Rule → List Word → List Tree → List Tree → Type 0 where
  got : {r : Rule} {ks : List Word} {t : Tree} {ts : List Tree} → Is r ks t → Got r ks ts (t ∷ ts)

along : {r : Rule} {ks ls : List Word} {t : Tree} → ks ≡ ls → Is r ls t → Is r ks t
along {r} {ks} {ls} {t} e d = subst (λ l. Is r l t) (sym e) d

end_nil : {r : Rule} {ks : List Word} {t : Tree} → Is r ks t → Is r (ks ++ []) t
end_nil {r} {ks} {t} d = along (append-nil ks) d

-- ---- the rules that repeat

module _ (b : Block) (r : Rule) (more_of : (ks ls : List Word) (l t : Tree) → Is (AnyOf b) ks l → Is r ls t → Is (AnyOf b) (ks ++ ls) (tree.more l t)) where
  close_block : (ks ls : List Word) (l : Tree) (ts us : List Tree) → Is (AnyOf b) ks l → Shown (many (rule r ⨟ make Append)) ls (l ∷ ts) us → Got (AnyOf b) (ks ++ ls) ts us
  close_block ks _ l ts us d SLast = got (end_nil d)
  close_block ks _ l ts us d (SRepeated {ls = more} (SThen {ks = ms} (SRule e) SMade) rest) =
      let g = close_block (ks ++ ms) more _ ts us (more_of _ _ _ _ d e) rest in subst (λ x. Got (AnyOf b) x ts us) (append_assoc ks ms more ∙ ap (λ x. ks ++ (x ++ more)) (sym (append-nil ms))) g

module _ (c : Listed) (r : Rule) (more_of : (ks ls : List Word) (l t : Tree) → Is (ListOf c) ks l → Is r ls t → Is (ListOf c) (ks ++ symbol Comma ∷ ls) (tree.also l t)) where
  close_list : (ks ls : List Word) (l : Tree) (ts us : List Tree) → Is (ListOf c) ks l → Shown (many (mark Comma ⨟ rule r ⨟ make AppendAfterComma)) ls (l ∷ ts) us → Got (ListOf c) (ks ++ ls) ts us
  close_list ks _ l ts us d SLast = got (end_nil d)
  close_list ks _ l ts us d (SRepeated {ls = more} (SThen SMark (SThen {ks = ms} (SRule e) SMade)) rest) =
      let g = close_list (ks ++ symbol Comma ∷ ms) more _ ts us (more_of _ _ _ _ d e) rest in subst (λ x. Got (ListOf c) x ts us) (append_assoc ks (symbol Comma ∷ ms) more ∙ ap (λ x. ks ++ (symbol Comma ∷ (x ++ more))) (sym (append-nil ms))) g

module _ (v : Level) (ss : List Symbol) (r : Rule) (more_of : (s : Symbol) (ks ls : List Word) (l t : Tree) → Is (level v) ks l → IsSign ss s → Is r ls t → Is (level v) (ks ++ symbol s ∷ ls) (tree.binary (is.sign_tree s) l t)) where
  close_level : (ks ls : List Word) (l : Tree) (ts us : List Tree) → Is (level v) ks l → Shown (many (token (one_of ss) ⨟ rule r ⨟ make MakeBinary)) ls (l ∷ ts) us → Got (level v) (ks ++ ls) ts us
  close_level ks _ l ts us d SLast = got (end_nil d)
  close_level ks _ l ts us d (SRepeated {ls = more} (SThen (SSign {s = s} h) (SThen {ks = ms} (SRule e) SMade)) rest) =
      let g = close_level (ks ++ symbol s ∷ ms) more _ ts us (more_of _ _ _ _ _ d h e) rest in subst (λ x. Got (level v) x ts us) (append_assoc ks (symbol s ∷ ms) more ∙ ap (λ x. ks ++ (symbol s ∷ (x ++ more))) (sym (append-nil ms))) g

close_slices : (ks ls : List Word) (l : Tree) (ts us : List Tree) → Is ThePostfix ks l → Shown (many (mark OpenCurly ⨟ fixed ⨟ mark Dots ⨟ fixed ⨟ mark CloseCurly ⨟ make MakeSlice)) ls (l ∷ ts) us → Got ThePostfix (ks ++ ls) ts us
close_slices ks _ l ts us d SLast = got (end_nil d)
close_slices ks _ l ts us d (SRepeated {ls = more} (SThen SMark (SThen {ks = hs} (SRule h) (SThen SMark (SThen {ks = ms} (SRule e) (SThen SMark SMade))))) rest) =
    let piece : List Word = symbol OpenCurly ∷ (hs ++ symbol Dots ∷ (ms ++ symbol CloseCurly ∷ [])) in
    let g = close_slices (ks ++ piece) more _ ts us (is.sliced d h e) rest in
    subst (λ x. Got ThePostfix x ts us) (append_assoc ks piece more) g

-- ---- each rule

close_item : (ks : List Word) (ts us : List Tree) → Shown (right TheItem) ks ts us → Got TheItem ks ts us
close_item _ ts _ (SFirst (SThen SKey (SThen SName (SThen SMark (SThen SNumber (SThen SMark SMade)))))) = got is.input
close_item _ ts _ (SSecond (SFirst (SThen SKey (SThen SName (SThen (SRule w) (SThen SMark (SThen (SRule e) (SThen SMark SMade)))))))) = got (is.output w e)
close_item _ ts _ (SSecond (SSecond (SFirst (SThen SKey (SThen SName (SThen SMark (SThen (SFirst (SRule c)) (SThen SMark SMade)))))))) = got (is.const c)
close_item _ ts _ (SSecond (SSecond (SFirst (SThen SKey (SThen (SName {x = x}) (SThen SMark (SThen (SSecond (SThen SMark (SThen {ks = cs} (SRule c) (SThen SMark SMade)))) (SThen SMark SMade)))))))) = got (along (ap (λ y. keyword Const ∷ named x ∷ symbol Assign ∷ symbol OpenSquare ∷ y) (append_assoc cs (symbol CloseSquare ∷ []) (symbol Semi ∷ []))) (is.table c))
close_item _ ts _ (SSecond (SSecond (SSecond (SFirst (SThen SKey (SThen SName (SThen SMark (SThen (SRule p) (SThen SMark (SThen (SRule w) (SThen SMark (SThen (SRule b) (SThen SKey (SThen (SRule e) (SThen SMark (SThen SMark SMade)))))))))))))))) = got (is.function p w b e)
close_item _ ts _ (SSecond (SSecond (SSecond (SSecond (SRule s))))) = got (is.step s)

close_stmt : (ks : List Word) (ts us : List Tree) → Shown (right TheStmt) ks ts us → Got TheStmt ks ts us
close_stmt _ ts _ (SFirst (SThen SKey (SThen (SRule r) (SThen (SRule w) (SThen SMark (SThen (SRule e) (SThen SMark SMade))))))) = got (is.let_stmt r w e)
close_stmt _ ts _ (SSecond (SFirst (SThen SKey (SThen (SRule r) (SThen (SRule w) (SThen SMark (SThen (SRule c) (SThen SKey (SThen (SRule e) (SThen SMark SMade)))))))))) = got (is.rec_stmt r w c e)
close_stmt _ ts _ (SSecond (SSecond (SThen SKey (SThen SName (SThen SKey (SThen (SRule c) (SThen SMark (SThen (SRule d) (SThen SMark (SThen (SRule b) (SThen SMark SMade))))))))))) = got (is.for_stmt c d b)

close_primary : (ks : List Word) (ts us : List Tree) → Shown (right ThePrimary) ks ts us → Got ThePrimary ks ts us
close_primary _ ts _ (SFirst SNumber) = got is.number
close_primary _ ts _ (SSecond (SFirst (SThen SMark (SThen (SRule e) (SThen SMark SMade))))) = got (is.paren e)
close_primary _ ts _ (SSecond (SSecond (SFirst (SThen SKey (SThen SMark (SThen (SRule l) (SThen SMark SMade))))))) = got (is.cat l)
close_primary _ ts _ (SSecond (SSecond (SSecond (SThen SName (SFirst (SThen SMark (SThen (SRule l) (SThen SMark SMade)))))))) = got (is.call l)
close_primary _ ts _ (SSecond (SSecond (SSecond (SThen (SName {x = x}) (SSecond (SThen {ks = js} (SRule i) (SThen SMade SAbsent))))))) = got (along (ap (λ y. named x ∷ y) (append-nil js)) (is.refer i))
close_primary _ ts _ (SSecond (SSecond (SSecond (SThen (SName {x = x}) (SSecond (SThen {ks = js} (SRule i) (SThen SMade (SThere (SThen SMark (SThen {ks = ds} (SRule d) SMade)))))))))) = got (along (ap (λ y. named x ∷ (js ++ symbol At ∷ y)) (append-nil ds)) (is.delayed i d))

close_fixed : (ks : List Word) (ts us : List Tree) → Shown (right TheFixedPrimary) ks ts us → Got TheFixedPrimary ks ts us
close_fixed _ ts _ (SFirst SNumber) = got is.fixed_number
close_fixed _ ts _ (SSecond (SFirst (SThen SMark (SThen (SRule e) (SThen SMark SMade))))) = got (is.fixed_paren e)
close_fixed _ ts _ (SSecond (SSecond (SThen (SName {x = x}) (SThen {ks = js} (SRule i) SMade)))) = got (along (ap (λ y. named x ∷ y) (append-nil js)) (is.fixed_refer i))

maybe_list : {c : Listed} {ks : List Word} {ts us : List Tree} → Got (ListOf c) ks ts us → Got (MaybeListOf c) ks ts us
maybe_list (got d) = got (is.a_list d)

close : (r : Rule) (ks : List Word) (ts us : List Tree) → Shown (right r) ks ts us → Got r ks ts us
close TheProgram _ ts _ (SThen (SRule l) (SThen SEnd SMade)) = got (is.program l)
close (AnyOf b) _ ts _ (SThen SMade rest) = close_block b (member b) (λ ks ls l t d e. is.one_more d e) [] _ _ ts _ is.no_more rest
close (ListOf c) _ ts _ (SThen SMade (SThen {ks = ks} (SRule e) (SThen SMade rest))) = close_list c (element c) (λ ks ls l t d e. is.also_one d e) ks _ _ ts _ (is.only_one e) rest
close (MaybeListOf c) _ ts _ (SThen SMade SAbsent) = got is.no_list
close (MaybeListOf c) _ ts _ (SThen SMade (SThere (SThen {ks = ks} (SRule e) (SThen SMade rest)))) = maybe_list (close_list c (element c) (λ ks ls l t d e. is.also_one d e) ks _ _ ts _ (is.only_one e) rest)
close TheWidth _ ts _ (SThen SMade SAbsent) = got is.no_width
close TheWidth _ ts _ (SThen SMade (SThere (SThen SMark (SThen SNumber SMade)))) = got is.a_width
close TheIndex _ ts _ (SThen SMade SAbsent) = got is.no_index
close TheIndex _ ts _ (SThen SMade (SThere (SThen SMark (SThen (SRule i) (SThen SMark SMade))))) = got (is.an_index i)
close TheItem ks ts us d = close_item ks ts us d
close TheParam _ ts _ (SThen (SName {x = x}) (SThen {ks = ws} (SRule w) SMade)) = got (along (ap (λ y. named x ∷ y) (append-nil ws)) (is.param w))
close TheStmt ks ts us d = close_stmt ks ts us d
close TheTarget _ ts _ (SThen (SName {x = x}) (SThen {ks = js} (SRule i) SMade)) = got (along (ap (λ y. named x ∷ y) (append-nil js)) (is.target i))
close TheExpr _ ts _ (SThen (SRule d) SAbsent) = got (end_nil (is.no_choice d))
close TheExpr _ ts _ (SThen {ks = cs} (SRule c) (SThere (SThen SMark (SThen {ks = ys} (SRule a) (SThen SMark (SThen {ks = bs} (SRule b) SMade)))))) = got (along (ap (λ x. cs ++ symbol Ask ∷ (ys ++ symbol Colon ∷ x)) (append-nil bs)) (is.choice c a b))
close (level v) _ ts _ (SThen {ks = ks} (SRule d) rest) = close_level v (signs v) (operand v) (λ s ks ls l t d h e. is.one_operator d h e) ks _ _ ts _ (is.one_operand d) rest
close TheCompare _ ts _ (SThen (SRule d) SAbsent) = got (end_nil (is.no_comparison d))
close TheCompare _ ts _ (SThen {ks = ks} (SRule d) (SThere (SThen (SSign {s = s} h) (SThen {ks = ms} (SRule e) SMade)))) = got (along (ap (λ x. ks ++ symbol s ∷ x) (append-nil ms)) (is.comparison d h e))
close ThePrefix _ ts _ (SFirst (SThen SMark (SThen (SRule d) SMade))) = got (end_nil (is.tilde d))
close ThePrefix _ ts _ (SSecond (SRule d)) = got (is.no_prefix d)
close ThePostfix _ ts _ (SThen {ks = ks} (SRule d) rest) = close_slices ks _ _ ts _ (is.no_postfix d) rest
close ThePrimary ks ts us d = close_primary ks ts us d
close TheFixedPrimary ks ts us d = close_fixed ks ts us d

shown_rule : {r : Rule} {ks : List Word} {ts us : List Tree} → Got r ks ts us → Shown (rule r) ks ts us
shown_rule (got d) = SRule d

shown_token : (p : Pattern) (w : Word) (ts : List Tree) → fits p w ≡ true → Shown (token p) (w ∷ []) ts (tree.word w ∷ ts)
shown_token any_name w ts h = let r = name_only w h in subst (λ v. Shown (token any_name) (v ∷ []) ts (tree.word v ∷ ts)) (sym r.1) SName
shown_token any_number w ts h = let r = number_only w h in subst (λ v. Shown (token any_number) (v ∷ []) ts (tree.word v ∷ ts)) (sym r.1) SNumber
shown_token the_end w ts h = subst (λ x. Shown (token the_end) (x ∷ []) ts (tree.word x ∷ ts)) (sym (same_word ending w (omega arith) h)) SEnd
shown_token (this_keyword k) w ts h = subst (λ x. Shown (token (this_keyword k)) (x ∷ []) ts (tree.word x ∷ ts)) (sym (same_word (keyword k) w (keyword_above k) h)) SKey
shown_token (this_symbol s) w ts h = subst (λ x. Shown (token (this_symbol s)) (x ∷ []) ts (tree.word x ∷ ts)) (sym (same_word (symbol s) w (symbol_above s) h)) SMark
shown_token (one_of ss) w ts h = let r = sign_only ss w h in subst (λ v. Shown (token (one_of ss)) (v ∷ []) ts (tree.word v ∷ ts)) (sym r.1) (SSign r.2)

pub shown : (p : Part) (ks : List Word) (ts us : List Tree) → Derives p ks ts us → Shown p ks ts us
shown _ _ _ _ (IsToken {p = p} {k = k} {ts = ts} h) = shown_token p k ts h
shown _ _ _ _ (IsRule {r = r} d) = shown_rule (close r _ _ _ (shown _ _ _ _ d))
shown _ _ _ _ IsMade = SMade
shown _ _ _ _ (IsThen d e) = SThen (shown _ _ _ _ d) (shown _ _ _ _ e)
shown _ _ _ _ (IsFirst d) = SFirst (shown _ _ _ _ d)
shown _ _ _ _ (IsSecond d) = SSecond (shown _ _ _ _ d)
shown _ _ _ _ IsAbsent = SAbsent
shown _ _ _ _ (IsThere d) = SThere (shown _ _ _ _ d)
shown _ _ _ _ IsLast = SLast
shown _ _ _ _ (IsRepeated d e) = SRepeated (shown _ _ _ _ d) (shown _ _ _ _ e)

pub got_of_shown : {r : Rule} {ks : List Word} {ts us : List Tree} → Shown (rule r) ks ts us → Got r ks ts us
got_of_shown (SRule d) = got d

-- a rule's derivation is the relation, with one tree more
pub typed : (r : Rule) (ks : List Word) (ts us : List Tree) → Derives (rule r) ks ts us → Got r ks ts us
typed r ks ts us d = got_of_shown (shown (rule r) ks ts us d)
