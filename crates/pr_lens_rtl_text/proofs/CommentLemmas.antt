-- Texts that differ in comments alone.
use Rattle.std.proofs.Common.{◌≡◌, ◌==◌, ◌∙◌, ℕ, Bool, true, false, List, [], ◌∷◌, ◌++◌, Option, None, Some, codes, refl, sym, ap, append-nil, append_assoc, if◌then◌else◌}
use Rattle.std.specs.List.{list_all}
use Rattle.std.proofs.lemmas.Bool.{and_parts, false≢true, ne_eqb}
use Rattle.pr_lens_rtl.specs.Verilog.{Assign, Module}
use Rattle.pr_lens_rtl_text.specs.declared.lines.Way.{Way}
use Rattle.pr_lens_rtl_names.specs.declared.names.Side.{Side}
use Rattle.pr_lens_rtl_text.specs.declared.ports.Port.{Port}
use Rattle.pr_lens_rtl_text.specs.Notes.{Comments, is_note_byte, tail_text}
use Rattle.pr_lens_rtl_text.specs.Printed.{declared_text, expr_text, line_text, lines_text, wire_text}
use Rattle.pr_lens_rtl_text.specs.Modules.{head_text, module_text}
use Rattle.pr_lens_rtl_text.specs.Ports.{ports_text, side_lines}
use Rattle.pr_lens_rtl_text.specs.Uncommented.{Reading, behind, known, uncommented, uncommented_from}

-- ---- texts that are alike wherever they stand
abbrev pub Alike : List ℕ → List ℕ → Type 0
Alike a b = (reading : Reading) (rest : List ℕ) → uncommented_from reading (a ++ rest) ≡ uncommented_from reading (b ++ rest)

-- what follows a text
follow : (xs ys zs : List ℕ) → ((reading : Reading) → uncommented_from reading ys ≡ uncommented_from reading zs) → (reading : Reading) → uncommented_from reading (xs ++ ys) ≡ uncommented_from reading (xs ++ zs)
follow [] ys zs h reading = h reading
follow (x ∷ xs) ys zs h reading = ap (λ z. known reading x ++ z) (follow xs ys zs h (behind reading x))

same : (a : List ℕ) → Alike a a
same a reading rest = refl

both : (a b c d : List ℕ) → Alike a b → Alike c d → Alike (a ++ c) (b ++ d)
both a b c d h k reading rest =
    ap (uncommented_from reading) (append_assoc a c rest)
    ∙ h reading (c ++ rest)
    ∙ follow b (c ++ rest) (d ++ rest) (λ r. k r rest) reading
    ∙ ap (uncommented_from reading) (sym (append_assoc b d rest))

-- ---- a comment
no_feed : (c : ℕ) → is_note_byte c ≡ true → (c == 10) ≡ false
no_feed c h = ne_eqb c 10 (λ e. false≢true (ap is_note_byte (sym e) ∙ h))

in_comment : (label rest : List ℕ) → list_all is_note_byte label ≡ true → uncommented_from Reading.Comment (label ++ 10 ∷ rest) ≡ 10 ∷ uncommented_from Reading.Code rest
in_comment [] rest h = refl
in_comment (c ∷ cs) rest h =
    let parts = and_parts (is_note_byte c) (list_all is_note_byte cs) h in
    ap (λ b. (if b then 10 ∷ [] else []) ++ uncommented_from (if b then Reading.Code else Reading.Comment) (cs ++ 10 ∷ rest)) (no_feed c parts.0)
    ∙ in_comment cs rest parts.1

-- the end of a line, with a comment and without
ends : (label : List ℕ) (b : Bool) → list_all is_note_byte label ≡ b → (reading : Reading) (rest : List ℕ)
    → uncommented_from reading (59 ∷ ((if b then codes " // " ++ label else []) ++ 10 ∷ rest)) ≡ uncommented_from reading (59 ∷ 10 ∷ rest)
ends label false h reading rest = refl
ends label true h Reading.Code rest = ap (λ z. 59 ∷ z) (in_comment label rest h)
ends label true h Reading.Space rest = ap (λ z. 32 ∷ 59 ∷ z) (in_comment label rest h)
ends label true h Reading.Slash rest = ap (λ z. 47 ∷ 59 ∷ z) (in_comment label rest h)
ends label true h Reading.Both rest = ap (λ z. 32 ∷ 47 ∷ 59 ∷ z) (in_comment label rest h)
ends label true h Reading.Comment rest = in_comment label rest h

tail_ends : (label : Option (List ℕ)) (reading : Reading) (rest : List ℕ) → uncommented_from reading (59 ∷ (tail_text label ++ 10 ∷ rest)) ≡ uncommented_from reading (59 ∷ 10 ∷ rest)
tail_ends None reading rest = refl
tail_ends (Some label) reading rest = ends label (list_all is_note_byte label) refl reading rest

-- ---- lines
tail_pieces : (f s t e rest : List ℕ) → (f ++ s ++ t ++ e) ++ rest ≡ f ++ (s ++ (t ++ (e ++ rest)))
tail_pieces f s t e rest = simp append_assoc

tail_alike : (front : List ℕ) (one other : Option (List ℕ)) → Alike (front ++ codes ";" ++ tail_text one ++ codes "\n") (front ++ codes ";" ++ tail_text other ++ codes "\n")
tail_alike front one other reading rest =
    ap (uncommented_from reading) (tail_pieces front (codes ";") (tail_text one) (codes "\n") rest)
    ∙ follow front (59 ∷ (tail_text one ++ 10 ∷ rest)) (59 ∷ (tail_text other ++ 10 ∷ rest)) (λ r. tail_ends one r rest ∙ sym (tail_ends other r rest)) reading
    ∙ ap (uncommented_from reading) (sym (tail_pieces front (codes ";") (tail_text other) (codes "\n") rest))

line_alike : (one other : Comments) (way : Way) (a : Assign) → Alike (line_text one way a) (line_text other way a)
line_alike one other Way.Wire a = tail_alike (wire_text a.net ++ codes " = " ++ expr_text true a.expr) (one a.net) (other a.net)
line_alike one other Way.Declared a = tail_alike (declared_text (codes "reg ") a.net) (one a.net) (other a.net)
line_alike one other Way.Clocked a = same (line_text one Way.Clocked a)

lines_alike : (one other : Comments) (way : Way) (assigns : List Assign) → Alike (lines_text one way assigns) (lines_text other way assigns)
lines_alike one other way [] = same []
lines_alike one other way (a ∷ rest) = both (line_text one way a) (line_text other way a) (lines_text one way rest) (lines_text other way rest) (line_alike one other way a) (lines_alike one other way rest)

-- ---- the whole module
pub modules_alike : (one other : Comments) (name : List ℕ) (inputs outputs : List Port) (m : Module) → uncommented (module_text one name inputs outputs m) ≡ uncommented (module_text other name inputs outputs m)
unfolding module_text
modules_alike one other name inputs outputs m =
    let h = head_text name ++ ports_text Side.Input inputs ++ ports_text Side.Output outputs ++ codes "\n);\n" ++ side_lines Side.Input 0 inputs in
    let D = λ (note : Comments). lines_text note Way.Declared m.registers in
    let W = λ (note : Comments). lines_text note Way.Wire m.wires in
    let C = λ (note : Comments). lines_text note Way.Clocked m.registers in
    let o = side_lines Side.Output 0 outputs in
    let k = codes "always @(posedge clock) begin\n" in
    let e = codes "end\nendmodule\n" in
    let declared = both h h (D one) (D other) (same h) (lines_alike one other Way.Declared m.registers) in
    let wires = both (h ++ D one) (h ++ D other) (W one) (W other) declared (lines_alike one other Way.Wire m.wires) in
    let outs = both (h ++ D one ++ W one) (h ++ D other ++ W other) o o wires (same o) in
    let begun = both (h ++ D one ++ W one ++ o) (h ++ D other ++ W other ++ o) k k outs (same k) in
    let clocked = both (h ++ D one ++ W one ++ o ++ k) (h ++ D other ++ W other ++ o ++ k) (C one) (C other) begun (lines_alike one other Way.Clocked m.registers) in
    let all = both (h ++ D one ++ W one ++ o ++ k ++ C one) (h ++ D other ++ W other ++ o ++ k ++ C other) e e clocked (same e) in
    ap (uncommented_from Reading.Code) (sym (append-nil (h ++ D one ++ W one ++ o ++ k ++ C one ++ e)))
    ∙ all Reading.Code []
    ∙ ap (uncommented_from Reading.Code) (append-nil (h ++ D other ++ W other ++ o ++ k ++ C other ++ e))
