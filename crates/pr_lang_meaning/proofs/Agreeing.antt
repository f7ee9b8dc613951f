-- Streams that have the same form and agree at some places, and what the operators make of them.
use Rattle.std.proofs.Common.{◌≡◌, ℕ, ◌-◌, ◌^◌, ◌<◌, ◌≤◌, Bool, true, false, cond, ◌&&◌, nat_le, List, [], ◌∷◌, ◌++◌, map, replicate, get_or, Option, Some, None, option_map, pos, ◌-ℤ◌, refl, sym, ◌∙◌, ap, ap₂, subst, arith, inl, inr}
use Rattle.std.specs.List.{AllZip}
use Rattle.std.proofs.lemmas.Bool.{cases_lt, cond-true, cond-false, lt-leb, le-leb}
use Rattle.std.proofs.lemmas.Nat.{pow_pos}
use Rattle.std.proofs.lemmas.List.{get_or_append_left, get_or-append_right, get_or-replicate, get_or-take, length-replicate}
use Rattle.std.proofs.lemmas.List.FromFn.{get_or-map-range_with_len}
use Rattle.std.proofs.Math.ListN.{get_or-map}
use Rattle.std.proofs.Math.Nat.{mod-eq_of_lt}
use Rattle.pr_flat.specs.declared.equations.Op.{Op}
use Rattle.pr_flat.specs.declared.forms.Form.{Form}
use Rattle.pr_flat.specs.Forms.{Stream, value, residue}
use Rattle.pr_flat.specs.Rows.{takes, natural_form, natural_number}
use Rattle.pr_flat.specs.Facts.{is_width}
use Rattle.pr_lang_meaning.specs.Streams.{Bound, Streams, Sources, sources, delayed, constant_stream, fitted, within_greatest, part, all_parts, assigned, form_of, point_at, operated, operate_on, operate}
use Rattle.pr_lang_meaning.proofs.Pairs.{Both, both-and_then, both-map, both-cond, both-choice, each-map}

-- The same form, and the same numbers: P i j says that place i of the first is looked at beside place j of the second. So one
-- relation serves the first places of both (`First`), and a whole list beside its number at one place.
pub record Agree (P : ℕ → ℕ → Type 0) (s t : Stream) : Type 0 where
  pub forms : s.form ≡ t.form
  pub numbers : (i j : ℕ) → P i j → get_or s.numbers i 0 ≡ get_or t.numbers j 0

-- all of these places of the first are below m, and all of those of the second
abbrev pub FirstBelow : (ℕ → ℕ → Type 0) → ℕ → Type 0
FirstBelow P m = (i j : ℕ) → P i j → i < m

abbrev pub SecondBelow : (ℕ → ℕ → Type 0) → ℕ → Type 0
SecondBelow P k = (i j : ℕ) → P i j → j < k

-- the first so many places
abbrev pub First : ℕ → ℕ → ℕ → Type 0
First p i j = (i ≡ j) × (i < p)

pub first_below : (p m : ℕ) → p ≤ m → FirstBelow (First p) m
first_below p m low i j is = omega (arith, is.1)

pub second_below : (p k : ℕ) → p ≤ k → SecondBelow (First p) k
second_below p k low i j is = omega (arith, is.0, is.1)

pub agree-first : (p : ℕ) (s t : Stream) → s.form ≡ t.form → ((n : ℕ) → n < p → get_or s.numbers n 0 ≡ get_or t.numbers n 0) → Agree (First p) s t
agree-first p s t forms numbers = record { forms = forms; numbers = λ i j is. subst (λ n. get_or s.numbers i 0 ≡ get_or t.numbers n 0) is.0 (numbers i is.1) }

pub at-first : (p : ℕ) (s t : Stream) → Agree (First p) s t → (n : ℕ) → n < p → get_or s.numbers n 0 ≡ get_or t.numbers n 0
at-first p s t are n low = are.numbers n n (refl, low)

pub agree-constant : (P : ℕ → ℕ → Type 0) (m k n : ℕ) → FirstBelow P m → SecondBelow P k → Agree P (constant_stream m n) (constant_stream k n)
agree-constant P m k n left right = record {
  forms = refl;
  numbers = λ i j is. get_or-replicate m i n 0 (left i j is) ∙ sym (get_or-replicate k j n 0 (right i j is));
}

-- ---- the number 0 is 0 in every form
otherwise : {A : Type 0} (s c : Bool) (x y : A) → c ≡ false → cond (s && c) x y ≡ y
otherwise true c x y fails = ap (λ d. cond d x y) fails
otherwise false c x y fails = refl

value-zero : (f : Form) → value f 0 ≡ pos 0
unfolding value
value-zero f = otherwise f.signed (nat_le (2 ^ (f.width - 1)) 0) (pos 0 -ℤ pos (2 ^ f.width)) (pos 0) (lt-leb (2 ^ (f.width - 1)) 0 (pow_pos (f.width - 1)))

residue-zero : (w : ℕ) → residue w (pos 0) ≡ 0
unfolding residue
residue-zero w = mod-eq_of_lt (pow_pos w)

residue-value-zero : (w : ℕ) (f : Form) → residue w (value f 0) ≡ 0
residue-value-zero w f = ap (residue w) (value-zero f) ∙ residue-zero w

-- a number that is fitted is reduced
pub fitted-number : (w : ℕ) (s : Stream) (n : ℕ) → get_or (fitted w s).numbers n 0 ≡ residue w (value s.form (get_or s.numbers n 0))
fitted-number w s n = subst (λ d. get_or (fitted w s).numbers n d ≡ residue w (value s.form (get_or s.numbers n 0))) (residue-value-zero w s.form) (get_or-map (λ x. residue w (value s.form x)) s.numbers n 0)

pub agree-fitted : (P : ℕ → ℕ → Type 0) (w : ℕ) (s t : Stream) → Agree P s t → Agree P (fitted w s) (fitted w t)
agree-fitted P w s t are = record {
  forms = ap (λ (f : Form). record { signed = f.signed; width = w }) are.forms;
  numbers = λ i j is. fitted-number w s i ∙ ap₂ (λ (f : Form) (x : ℕ). residue w (value f x)) are.forms (are.numbers i j is) ∙ sym (fitted-number w t j);
}

-- ---- operators
pub both-part : (P : ℕ → ℕ → Type 0) (a b : Option Stream) → Both (Agree P) a b → Both (Agree P) (part a) (part b)
both-part P a b are = both-and_then (Agree P) (Agree P) within_greatest within_greatest a b are (λ s t is. both-cond (Agree P) s t (nat_le s.form.width 128) (nat_le t.form.width 128) (ap (λ (f : Form). nat_le f.width 128) is.forms) is)

pub both-all_parts : (P : ℕ → ℕ → Type 0) (xs ys : List (Option Stream)) → AllZip (Both (Agree P)) xs ys → Both (AllZip (Agree P)) (all_parts xs) (all_parts ys)
both-all_parts P [] [] are = tt
both-all_parts P [] (y ∷ ys) are = absurd are
both-all_parts P (x ∷ xs) [] are = absurd are
both-all_parts P (x ∷ xs) (y ∷ ys) are = both-and_then (Agree P) (AllZip (Agree P)) (λ s. option_map (λ ss. s ∷ ss) (all_parts xs)) (λ s. option_map (λ ss. s ∷ ss) (all_parts ys)) (part x) (part y) (both-part P x y are.0) (λ s t is. both-map (AllZip (Agree P)) (AllZip (Agree P)) (λ ss. s ∷ ss) (λ ss. t ∷ ss) (all_parts xs) (all_parts ys) (both-all_parts P xs ys are.1) (λ ss ts rest. (is, rest)))

pub both-assigned : (P : ℕ → ℕ → Type 0) (width : Option ℕ) (a b : Option Stream) → Both (Agree P) a b → Both (Agree P) (assigned width a) (assigned width b)
both-assigned P None a b are = both-part P a b are
both-assigned P (Some w) a b are = both-choice (Agree P) (option_map (fitted w) a) None (option_map (fitted w) b) None (is_width w) (both-map (Agree P) (Agree P) (fitted w) (fitted w) a b are (agree-fitted P w)) tt

pub same-forms : (P : ℕ → ℕ → Type 0) (ss ts : List Stream) → AllZip (Agree P) ss ts → map form_of ss ≡ map form_of ts
same-forms P = each-map (Agree P) form_of form_of (λ s t is. is.forms)

same-points : (P : ℕ → ℕ → Type 0) (i j : ℕ) → P i j → (ss ts : List Stream) → AllZip (Agree P) ss ts → map (point_at i) ss ≡ map (point_at j) ts
same-points P i j at = each-map (Agree P) (point_at i) (point_at j) (λ s t is. ap₂ (λ (f : Form) (x : ℕ). record { form = f; number = x }) is.forms (is.numbers i j at))

agree-operated : (P : ℕ → ℕ → Type 0) (m k : ℕ) (op : Op) (ss ts : List Stream) → FirstBelow P m → SecondBelow P k → AllZip (Agree P) ss ts → Agree P (operated m op ss) (operated k op ts)
agree-operated P m k op ss ts left right are = record {
  forms = ap (natural_form op) (same-forms P ss ts are);
  numbers = λ i j is. get_or-map-range_with_len (λ n. natural_number op (map (point_at n) ss)) 0 m i i 0 (left i j is) (omega arith)
      ∙ ap (natural_number op) (same-points P i j is ss ts are)
      ∙ sym (get_or-map-range_with_len (λ n. natural_number op (map (point_at n) ts)) 0 k j j 0 (right i j is) (omega arith));
}

-- an operator, place by place
pub both-operate : (P : ℕ → ℕ → Type 0) (m k : ℕ) (op : Op) (xs ys : List (Option Stream)) → FirstBelow P m → SecondBelow P k → AllZip (Both (Agree P)) xs ys → Both (Agree P) (operate m op xs) (operate k op ys)
both-operate P m k op xs ys left right are = both-and_then (AllZip (Agree P)) (Agree P) (operate_on m op) (operate_on k op) (all_parts xs) (all_parts ys) (both-all_parts P xs ys are) (λ ss ts is. both-cond (Agree P) (operated m op ss) (operated k op ts) (takes op (map form_of ss)) (takes op (map form_of ts)) (ap (takes op) (same-forms P ss ts is)) (agree-operated P m k op ss ts left right is))

-- ---- what names stand for
pub record AgreeBound (P : ℕ → ℕ → Type 0) (b c : Bound) : Type 0 where
  pub init : b.init ≡ c.init
  pub stream : Agree P b.stream c.stream

abbrev pub AgreeStreams : (ℕ → ℕ → Type 0) → Streams → Streams → Type 0
AgreeStreams P a b = (name : List ℕ) (place : Option ℕ) → Both (AgreeBound P) (a name place) (b name place)

abbrev pub AgreeNow : (ℕ → ℕ → Type 0) → Sources → Sources → Type 0
AgreeNow P a b = (name : List ℕ) (place : Option ℕ) → Both (Agree P) (a.now name place) (b.now name place)

abbrev pub AgreePast : (ℕ → ℕ → Type 0) → Sources → Sources → Type 0
AgreePast P a b = (name : List ℕ) (place : Option ℕ) (k : ℕ) → Both (Agree P) (a.past name place k) (b.past name place k)

pub record AgreeSources (P : ℕ → ℕ → Type 0) (a b : Sources) : Type 0 where
  pub now : AgreeNow P a b
  pub past : AgreePast P a b

-- so many times a number, and then a list
behind-front : (k c : ℕ) (xs : List ℕ) (n : ℕ) → get_or (replicate k c ++ xs) n 0 ≡ cond (nat_le k n) (get_or xs (n - k) 0) c
behind-front k c xs n = elim (cases_lt n k) [
  | inl low ↦ get_or_append_left (replicate k c) xs 0 n (omega (arith, low, length-replicate k c)) ∙ get_or-replicate k n c 0 low ∙ sym (cond-false (nat_le k n) (get_or xs (n - k) 0) c (lt-leb k n low))
  | inr high ↦ get_or-append_right (replicate k c) xs k n 0 (length-replicate k c) high ∙ sym (cond-true (nat_le k n) (get_or xs (n - k) 0) c (le-leb k n high))
]

-- so many samples earlier, or what stands before the first sample
pub delayed-number : (m k n : ℕ) (b : Bound) → n < m → get_or (delayed m k b).numbers n 0 ≡ cond (nat_le k n) (get_or b.stream.numbers (n - k) 0) b.init
delayed-number m k n b low = get_or-take m (replicate k b.init ++ b.stream.numbers) n 0 low ∙ behind-front k b.init b.stream.numbers n

agree-delayed : (p m k d : ℕ) (b c : Bound) → p ≤ m → p ≤ k → AgreeBound (First p) b c → Agree (First p) (delayed m d b) (delayed k d c)
agree-delayed p m k d b c left right are = agree-first p (delayed m d b) (delayed k d c) are.stream.forms (λ n low.
    delayed-number m d n b (omega (arith, low, left))
    ∙ ap₂ (λ x y. cond (nat_le d n) x y) (at-first p b.stream c.stream are.stream (n - d) (omega (arith, low))) are.init
    ∙ sym (delayed-number k d n c (omega (arith, low, right))))

pub agree-sources : (p m k : ℕ) (a b : Streams) → p ≤ m → p ≤ k → AgreeStreams (First p) a b → AgreeSources (First p) (sources m a) (sources k b)
agree-sources p m k a b left right are = record {
  now = λ name place. both-map (AgreeBound (First p)) (Agree (First p)) (λ (c : Bound). c.stream) (λ (c : Bound). c.stream) (a name place) (b name place) (are name place) (λ c d is. is.stream);
  past = λ name place n. both-map (AgreeBound (First p)) (Agree (First p)) (delayed m n) (delayed k n) (a name place) (b name place) (are name place) (λ c d is. agree-delayed p m k n c d left right is);
}
