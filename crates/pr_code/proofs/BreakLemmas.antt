-- The first word that breaks its rule, of rules one part after another.
use Rattle.std.proofs.Common.{◌≡◌, ℕ, suc, ◌+◌, Bool, true, false, List, [], ◌∷◌, ◌++◌, length, drop, refl, sym, ap, ◌∙◌, arith, Option, None, Some, Result, Err}
use Rattle.pr_code.specs.declared.faults.CodeFault.{CodeFault}
use Rattle.pr_code.specs.Rules.{Rule, Broken, demand, broken_at, first_broken, or_else}
use Rattle.pr_code.specs.Outcome.{Reads}

or_else-after : (place : ℕ) (r : Option ℕ) (a b : Option Broken) → broken_at place r (or_else a b) ≡ or_else (broken_at place r a) b
or_else-after place None a b = refl
or_else-after place (Some n) a b = refl

pub broken-append : (a b : List Rule) (place : ℕ) (words : List ℕ) → first_broken (a ++ b) place words ≡ or_else (first_broken a place words) (first_broken b (place + length a) (drop (length a) words))
broken-append [] b place words = let e : place + 0 ≡ place = omega arith in ap (λ p. first_broken b p words) (sym e)
broken-append (r ∷ a) b place [] = refl
broken-append (r ∷ a) b place (w ∷ words) =
    let e : place + suc (length a) ≡ (place + 1) + length a = omega arith in
    ap (λ t. broken_at place (r w) t) (broken-append a b (place + 1) words ∙ ap (λ p. or_else (first_broken a (place + 1) words) (first_broken b p (drop (length a) words))) (sym e))
    ∙ or_else-after place (r w) (first_broken a (place + 1) words) (first_broken b (place + suc (length a)) (drop (length a) words))

-- the first part breaks a rule, or keeps all
pub breaks_first : (a b : List Rule) (place : ℕ) (words : List ℕ) (x : Broken) → first_broken a place words ≡ Some x → first_broken (a ++ b) place words ≡ Some x
breaks_first a b place words x h = broken-append a b place words ∙ ap (λ t. or_else t (first_broken b (place + length a) (drop (length a) words))) h

pub keeps_first : (a b : List Rule) (place : ℕ) (words : List ℕ) → first_broken a place words ≡ None → first_broken (a ++ b) place words ≡ first_broken b (place + length a) (drop (length a) words)
keeps_first a b place words h = broken-append a b place words ∙ ap (λ t. or_else t (first_broken b (place + length a) (drop (length a) words))) h

-- one word: it is not there, it breaks its rule, or it keeps it
pub misses : (r : Rule) (rules : List Rule) (place : ℕ) (words : List ℕ) → words ≡ [] → first_broken (r ∷ rules) place words ≡ Some (record { rule = 1; place = place })
misses r rules place words e = ap (first_broken (r ∷ rules) place) e

pub breaks : (r : Rule) (rules : List Rule) (place : ℕ) (words : List ℕ) (w : ℕ) (rest : List ℕ) (n : ℕ) → words ≡ w ∷ rest → r w ≡ Some n → first_broken (r ∷ rules) place words ≡ Some (record { rule = n; place = place })
breaks r rules place words w rest n e b = ap (first_broken (r ∷ rules) place) e ∙ ap (λ t. broken_at place t (first_broken rules (place + 1) rest)) b

pub keeps : (r : Rule) (rules : List Rule) (place : ℕ) (words : List ℕ) (w : ℕ) (rest : List ℕ) → words ≡ w ∷ rest → r w ≡ None → first_broken (r ∷ rules) place words ≡ first_broken rules (place + 1) rest
keeps r rules place words w rest e b = ap (first_broken (r ∷ rules) place) e ∙ ap (λ t. broken_at place t (first_broken rules (place + 1) rest)) b

-- a refusal that is passed on
pub passes_on : {X Y : Type 0} (e : CodeFault) (a b : Option Broken) (P : X → Type 0) (Q : Y → Type 0) → Reads (Err e) a P → ((x : Broken) → a ≡ Some x → b ≡ Some x) → Reads (Err e) b Q
passes_on (CodeFault.BadConfig rule place) a b P Q h f = f (record { rule = rule; place = place }) h
passes_on (CodeFault.Memory m) a b P Q h f = tt

-- what a refusal says, where its words are those of the rules of the whole
pub refused : {Y : Type 0} (r : Result Y CodeFault) (e : CodeFault) (rule place : ℕ) (b : Option Broken) (Q : Y → Type 0) → (x : CodeFault) × (r ≡ Err x) × (x ≡ e) → e ≡ CodeFault.BadConfig rule place → b ≡ Some (record { rule = rule; place = place }) → Reads r b Q
refused r e rule place b Q p bad h = rw (p.1, p.2, bad) h

-- the same of a part, whose first broken word is that of the whole
pub part_refused : {X Y : Type 0} (r : Result Y CodeFault) (e : CodeFault) (a b : Option Broken) (P : X → Type 0) (Q : Y → Type 0) → (x : CodeFault) × (r ≡ Err x) × (x ≡ e) → Reads {X = X} (Err e) a P → ((x : Broken) → a ≡ Some x → b ≡ Some x) → Reads r b Q
part_refused r e a b P Q p h f = rw (p.1, p.2) (passes_on e a b P Q h f)

-- one rule of those that are left: no word is there, the word breaks it, or keeps it
pub step_misses : (rules later : List Rule) (r : Rule) (place : ℕ) (words : List ℕ) (whole : Option Broken) → rules ≡ r ∷ later → words ≡ [] → first_broken rules place words ≡ whole → whole ≡ Some (record { rule = 1; place = place })
step_misses rules later r place words whole e none h = sym h ∙ (ap (λ t. first_broken t place words) e ∙ misses r later place words none)

pub step_breaks : (rules later : List Rule) (r : Rule) (place : ℕ) (words : List ℕ) (w : ℕ) (rest : List ℕ) (n : ℕ) (whole : Option Broken) → rules ≡ r ∷ later → words ≡ w ∷ rest → r w ≡ Some n → first_broken rules place words ≡ whole → whole ≡ Some (record { rule = n; place = place })
step_breaks rules later r place words w rest n whole e is b h = sym h ∙ (ap (λ t. first_broken t place words) e ∙ breaks r later place words w rest n is b)

pub step_keeps : (rules later : List Rule) (r : Rule) (place : ℕ) (words : List ℕ) (w : ℕ) (rest : List ℕ) (whole : Option Broken) → rules ≡ r ∷ later → words ≡ w ∷ rest → r w ≡ None → first_broken rules place words ≡ whole → first_broken later (place + 1) rest ≡ whole
step_keeps rules later r place words w rest whole e is b h = sym (keeps r later place words w rest is b) ∙ (sym (ap (λ t. first_broken t place words) e) ∙ h)

pub demanded : (rule : ℕ) (b : Bool) → b ≡ true → demand rule b ≡ None
demanded rule b h = ap (demand rule) h

pub not_demanded : (rule : ℕ) (b : Bool) → b ≡ false → demand rule b ≡ Some rule
not_demanded rule b h = ap (demand rule) h

-- a demand that is met
pub met : (rule : ℕ) (b : Bool) → demand rule b ≡ None → b ≡ true
met rule true h = refl
met rule false h = absurd cc

kept_of : (place : ℕ) (r : Option ℕ) → broken_at place r None ≡ None → r ≡ None
kept_of place None h = refl
kept_of place (Some n) h = absurd cc

-- the rule of a word that broke none
pub kept : (r : Rule) (place : ℕ) (words : List ℕ) (w : ℕ) (rest : List ℕ) → words ≡ w ∷ rest → first_broken (r ∷ []) place words ≡ None → r w ≡ None
kept r place words w rest e h = kept_of place (r w) (sym (ap (first_broken (r ∷ []) place) e) ∙ h)

-- the first part of the rules that are left: a word of it breaks one, or they are kept
pub part_breaks : (rules first later : List Rule) (place : ℕ) (words : List ℕ) (whole : Option Broken) → rules ≡ first ++ later → first_broken rules place words ≡ whole → (x : Broken) → first_broken first place words ≡ Some x → whole ≡ Some x
part_breaks rules first later place words whole e h x b = sym h ∙ (ap (λ t. first_broken t place words) e ∙ breaks_first first later place words x b)

pub part_keeps : (rules first later : List Rule) (place : ℕ) (words : List ℕ) (whole : Option Broken) → rules ≡ first ++ later → first_broken rules place words ≡ whole → first_broken first place words ≡ None → first_broken later (place + length first) (drop (length first) words) ≡ whole
part_keeps rules first later place words whole e h b = sym (keeps_first first later place words b) ∙ (sym (ap (λ t. first_broken t place words) e) ∙ h)
