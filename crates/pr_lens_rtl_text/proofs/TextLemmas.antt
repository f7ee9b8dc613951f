-- Texts of expressions and of assignments.
use Rattle.std.proofs.Common.{◌≡◌, ◌<◌, ◌≤◌, ◌+◌, ◌++◌, ◌∙◌, ℕ, Bool, true, false, List, [], ◌∷◌, codes, decimal, length, take, get_or, refl, sym, ap, append-nil, append_assoc, if◌then◌else◌}
use Rattle.std.proofs.lemmas.Grind.{flat_map-append}
use Rattle.std.proofs.lemmas.List.{map_more, take_all}
use Rattle.pr_lens_rtl.specs.declared.vectors.Net.{Net}
use Rattle.pr_lens_rtl.specs.Verilog.{Expr, Assign}
use Rattle.pr_lens_rtl.specs.Kept.{is_kept, kept_of}
use Rattle.pr_lens_rtl_terms.specs.declared.terms.Atom.{Atom}
use Rattle.pr_lens_rtl_terms.specs.declared.terms.Sign.{Sign}
use Rattle.pr_lens_rtl_terms.specs.declared.terms.Change.{Change}
use Rattle.pr_lens_rtl_terms.specs.declared.terms.Line.{Line}
use Rattle.pr_lens_rtl_text.specs.declared.lines.Way.{Way}
use Rattle.pr_lens_rtl_terms.specs.Terms.{assign_of, assigns_of, atom_expr, change_expr, flag_expr, two_expr}
use Rattle.pr_lens_rtl_text.specs.Notes.{Comments}
use Rattle.pr_lens_rtl_text.specs.Printed.{expr_text, kept_text, line_text, lines_text, net_text}
use Rattle.pr_lens_rtl_text.specs.Signs.{between_text, sign_text}

-- an atom has no parentheses
pub atom_is : (whole : Bool) (a : Atom) → expr_text whole (atom_expr a) ≡ expr_text false (atom_expr a)
atom_is whole (Atom.Byte k) = refl
atom_is whole (Atom.Bit b) = refl
atom_is whole (Atom.Read n) = refl
atom_is whole (Atom.Pick n k) = refl
atom_is whole (Atom.Low n k) = refl
atom_is whole (Atom.Wide n) = refl

pub two_is : (whole : Bool) (sign : Sign) (x y : Expr) → expr_text whole (two_expr sign x y) ≡ between_text whole (sign_text sign) (expr_text false x) (expr_text false y)
two_is whole Sign.And x y = refl
two_is whole Sign.Or x y = refl
two_is whole Sign.Xor x y = refl
two_is whole Sign.Plus x y = refl

pub not_two_is : (whole : Bool) (sign : Sign) (x y : Expr)
    → expr_text whole (Expr.Not (two_expr sign x y)) ≡ codes "~" ++ between_text false (sign_text sign) (expr_text false x) (expr_text false y)
not_two_is whole Sign.And x y = refl
not_two_is whole Sign.Or x y = refl
not_two_is whole Sign.Xor x y = refl
not_two_is whole Sign.Plus x y = refl

-- ---- assignments that are written
kept_step : (b : Bool) (a : Assign) (xs ys : List Assign) → (if b then a ∷ (xs ++ ys) else xs ++ ys) ≡ (if b then a ∷ xs else xs) ++ ys
kept_step true a xs ys = refl
kept_step false a xs ys = refl

kept_both : (K : Net → Bool) (xs ys : List Assign) → kept_of K (xs ++ ys) ≡ kept_of K xs ++ kept_of K ys
kept_both K [] ys = refl
kept_both K (a ∷ rest) ys = ap (λ z. if K a.net then a ∷ z else z) (kept_both K rest ys) ∙ kept_step (K a.net) a (kept_of K rest) (kept_of K ys)

pub text_none : (note : Comments) (way : Way) (marks : List Bool) → kept_text note way marks [] ≡ []
unfolding kept_text
text_none note way marks = refl

pub text_both : (note : Comments) (way : Way) (marks : List Bool) (xs ys : List Assign) → kept_text note way marks (xs ++ ys) ≡ kept_text note way marks xs ++ kept_text note way marks ys
unfolding kept_text
text_both note way marks xs ys = ap (lines_text note way) (kept_both (is_kept marks) xs ys) ∙ flat_map-append (line_text note way) (kept_of (is_kept marks) xs) (kept_of (is_kept marks) ys)

kept_yes : (K : Net → Bool) (a : Assign) (b : Bool) → b ≡ K a.net → b ≡ true → kept_of K (a ∷ []) ≡ a ∷ []
kept_yes K a b e h = ap (λ q. if q then a ∷ [] else []) (sym e ∙ h)

kept_no : (K : Net → Bool) (a : Assign) (b : Bool) → b ≡ K a.net → b ≡ false → kept_of K (a ∷ []) ≡ []
kept_no K a b e h = ap (λ q. if q then a ∷ [] else []) (sym e ∙ h)

pub text_yes : (note : Comments) (way : Way) (marks : List Bool) (a : Assign) (b : Bool) → b ≡ is_kept marks a.net → b ≡ true → kept_text note way marks (a ∷ []) ≡ line_text note way a
unfolding kept_text
text_yes note way marks a b e h = ap (lines_text note way) (kept_yes (is_kept marks) a b e h) ∙ append-nil (line_text note way a)

pub text_no : (note : Comments) (way : Way) (marks : List Bool) (a : Assign) (b : Bool) → b ≡ is_kept marks a.net → b ≡ false → kept_text note way marks (a ∷ []) ≡ []
unfolding kept_text
text_no note way marks a b e h = ap (lines_text note way) (kept_no (is_kept marks) a b e h)

-- ---- pieces
pub two_pieces : (t a b : List ℕ) {p n : List ℕ} → p ≡ t ++ a → n ≡ p ++ b → n ≡ t ++ (a ++ b)
two_pieces t a b e f = f ∙ ap (λ x. x ++ b) e ∙ append_assoc t a b

-- one line more
pub lines_more : (note : Comments) (way : Way) (marks : List Bool) (lines : List Line) (i : ℕ) (d : Line) (start text : List ℕ) → i < length lines → text ≡ start ++ kept_text note way marks (assigns_of (take i lines))
    → text ++ kept_text note way marks (assign_of (get_or lines i d) ∷ []) ≡ start ++ kept_text note way marks (assigns_of (take (i + 1) lines))
lines_more note way marks lines i d start text lt h =
    let front = assigns_of (take i lines) in
    let one = assign_of (get_or lines i d) in
    ap (λ z. z ++ kept_text note way marks (one ∷ [])) h
    ∙ append_assoc start (kept_text note way marks front) (kept_text note way marks (one ∷ []))
    ∙ ap (λ z. start ++ z) (sym (text_both note way marks front (one ∷ [])))
    ∙ ap (λ z. start ++ kept_text note way marks z) (sym (map_more assign_of lines i d lt))

pub lines_begun : (note : Comments) (way : Way) (marks : List Bool) (lines : List Line) (start : List ℕ) → start ≡ start ++ kept_text note way marks (assigns_of (take 0 lines))
lines_begun note way marks lines start = sym (ap (λ z. start ++ z) (text_none note way marks) ∙ append-nil start)

pub lines_done : (note : Comments) (way : Way) (marks : List Bool) (lines : List Line) (i : ℕ) (start text : List ℕ) → length lines ≤ i → text ≡ start ++ kept_text note way marks (assigns_of (take i lines))
    → text ≡ start ++ kept_text note way marks (assigns_of lines)
lines_done note way marks lines i start text le h = h ∙ ap (λ z. start ++ kept_text note way marks (assigns_of z)) (take_all i lines le)

pub flag_pieces : (t a r b o z : List ℕ) → t ++ a ++ r ++ b ++ o ++ z ≡ t ++ (a ++ r ++ b ++ o ++ z)
flag_pieces t a r b o z = simp append_assoc

pub change_pieces_flat : (t a d b p e o z : List ℕ) → t ++ a ++ d ++ b ++ p ++ e ++ o ++ z ≡ t ++ (a ++ (d ++ b ++ p ++ e ++ o ++ z))
change_pieces_flat t a d b p e o z = simp append_assoc

-- the text of a flag, in fewer pieces
pub flag_is : (read own : Net) → expr_text true (flag_expr read own) ≡ codes "reset ? 1'b0 : (in_ready ? " ++ net_text read ++ codes " : " ++ net_text own ++ codes ")"
flag_is read own = append-nil (codes "reset ? 1'b0 : (in_ready ? " ++ net_text read ++ codes " : " ++ net_text own ++ codes ")")

change_shape : (d c e p z k o : List ℕ) → ((d ++ c) ++ (e ++ p ++ z ++ k ++ o ++ z)) ++ [] ≡ d ++ (c ++ e) ++ p ++ (z ++ k) ++ o ++ z
change_shape d c e p z k o = append-nil ((d ++ c) ++ (e ++ p ++ z ++ k ++ o ++ z)) ∙ simp append_assoc

-- the text of a state, in fewer pieces
pub change_is : (c : Change) → expr_text true (change_expr c)
    ≡ codes "reset ? 8'd" ++ (decimal c.first ++ codes " : (in_ready ? (" ++ (net_text c.read ++ codes " ? " ++ net_text c.next ++ codes " : " ++ net_text c.own) ++ codes ") : " ++ net_text c.own ++ codes ")")
change_is c = ap (λ z. codes "reset ? 8'd" ++ z)
    (change_shape (decimal c.first) (codes " : ") (codes "(in_ready ? (") (net_text c.read ++ codes " ? " ++ net_text c.next ++ codes " : " ++ net_text c.own) (codes ")") (codes " : ") (net_text c.own))
