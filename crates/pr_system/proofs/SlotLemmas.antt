-- The slot of a name, before and after a read.
use Rattle.std.proofs.Common.{◌≡◌, ℕ, zero, suc, ◌<◌, true, List, [], ◌∷◌, length, get_or, slice_set, Option, Some, None, is_some, string_bytes, refl, ap, ◌∙◌, inl, inr, arith}
use Rattle.std.proofs.lemmas.Slice.Eq.{slice_eq-Decides}
use Rattle.std.proofs.lemmas.Bool.Decides.{Decides-eqb}
use Rattle.pr_system.specs.declared.slots.Slot.{Slot}
use Rattle.pr_system.specs.Slots.{has_name, slot_in, IsFirst, NoneBefore, IsSlotFor, IsTakenOut, IsRead, IsReadOn}

tail_of : {F : Type 0} (s : Slot F) (ss : List (Slot F)) (name : List ℕ) (i : ℕ) → NoneBefore (s ∷ ss) name (suc i) → NoneBefore ss name i
tail_of s ss name i h = λ k d lt. h (suc k) d (omega (arith, lt))

slot_in-first : {F : Type 0} (slots : List (Slot F)) (name : List ℕ) (i : ℕ) (d : Slot F) → i < length slots → NoneBefore slots name i
    → has_name name (get_or slots i d) ≡ true → slot_in slots name ≡ Some (get_or slots i d)
slot_in-first [] name i d lt h here = absurd (omega (arith, lt))
slot_in-first (s ∷ ss) name zero d lt h here = rw here refl
slot_in-first (s ∷ ss) name (suc i) d lt h here = rw (h 0 d (omega arith)) (slot_in-first ss name i d (omega (arith, lt)) (tail_of s ss name i h) here)

pub slot_in-none : {F : Type 0} (slots : List (Slot F)) (name : List ℕ) → NoneBefore slots name (length slots) → slot_in slots name ≡ None
slot_in-none [] name h = refl
slot_in-none (s ∷ ss) name h = rw (h 0 s (omega arith)) (slot_in-none ss name (tail_of s ss name (length ss) h))

-- a name that has a first slot has a slot
pub slot_in-some : {F : Type 0} (slots : List (Slot F)) (name : List ℕ) (i : ℕ) → IsFirst slots name i → is_some (slot_in slots name) ≡ true
slot_in-some [] name i h = absurd (omega (arith, h.within))
slot_in-some (s ∷ ss) name zero h = rw (h.here s) refl
slot_in-some (s ∷ ss) name (suc i) h = rw (h.before 0 s (omega arith))
    (slot_in-some ss name i (record { within = omega (arith, h.within); here = λ d. h.here d; before = tail_of s ss name i h.before }))

slot_in-set : {F : Type 0} (slots : List (Slot F)) (name : List ℕ) (i : ℕ) (d v : Slot F) → i < length slots → NoneBefore slots name i
    → has_name name v ≡ true → slot_in (slice_set slots i v) name ≡ Some v
slot_in-set [] name i d v lt h here = absurd (omega (arith, lt))
slot_in-set (s ∷ ss) name zero d v lt h here = rw here refl
slot_in-set (s ∷ ss) name (suc i) d v lt h here = rw (h 0 d (omega arith)) (slot_in-set ss name i d v (omega (arith, lt)) (tail_of s ss name i h) here)

before_of : {F : Type 0} (slots : List (Slot F)) (name : List ℕ) (i : ℕ) → i < length slots → IsSlotFor slots name i → NoneBefore slots name i
before_of slots name i lt (inl first) = first.before
before_of slots name i lt (inr none) = λ k d less. none k d (omega (arith, less, lt))

the_name : {F : Type 0} (s : Slot F) (name : List ℕ) → string_bytes s.name ≡ name → has_name name s ≡ true
the_name s name e = (slice_eq-Decides Decides-eqb (string_bytes s.name) name _ refl).1 e

-- a slot that was taken out, read and put back
pub read_on : {F : Type 0} (left : F → Option (List ℕ)) (slots rest : List (Slot F)) (name : List ℕ) (i place count : ℕ) (before after : Slot F) (bytes : List ℕ)
    → i < length slots → IsSlotFor slots name i → IsTakenOut slots rest i before → IsRead left before after name place count bytes
    → IsReadOn left slots (slice_set rest i after) name place count bytes
read_on left slots rest name i place count before after bytes lt for out read =
    let set = ap (λ ss. slot_in ss name) (out.rest after) ∙ slot_in-set slots name i after after lt (before_of slots name i lt for) (the_name after name read.stands.named) in
    record {
      slot = rw set read.stands;
      gave = rw set (elim for [
        | inl first ↦ rw (slot_in-first slots name i before lt first.before (first.here before), ← out.slot) read
        | inr none ↦ rw (slot_in-none slots name none) tt
      ]);
    }
