-- All instances of a program, some at a time.
use Rattle.std.proofs.Common.{◌≡◌, ◌∙◌, ◌+◌, ◌*◌, ◌-◌, ◌<◌, ◌≤◌, ℕ, true, false, is_some, List, [], ◌++◌, drop, length, min, take, Option, None, refl, sym, ap, subst, arith}
use Rattle.std.specs.List.{slice_range}
use Rattle.std.proofs.lemmas.Bool.{false_from_ne_true, le-leb, leb-true}
use Rattle.std.proofs.lemmas.List.{length-take, take-append-drop}
use Rattle.std.proofs.lemmas.List.Folds.{drop_split}
use Rattle.std.proofs.Math.Seq.{take-add}
use Rattle.pr_lang.specs.declared.trees.Item.{Item}
use Rattle.pr_lang.specs.declared.trees.Program.{Program}
use Rattle.pr_scope_names.specs.declared.streams.Instance.{Instance}
use Rattle.pr_scope_names.specs.Names.{built_in}
use Rattle.pr_scope.specs.Walk.{items_walk, offence, program_walk, refusal_of, start, turns_after}
use Rattle.pr_flat.specs.Shape.{EquationShape}
use Rattle.pr_lang_meaning.specs.Programs as meant
use Rattle.pr_lang_meaning.specs.Programs.{has_widths}
use Rattle.pr_expand_spec.specs.Programs.{equations_of}
use Rattle.pr_probe.specs.Instances.{items_listing}
use Rattle.pr_probe.specs.Probes.{AreNamed, HaveNames}
use Rattle.pr_probe.proofs.Meaning.{outputs_of}
use Rattle.pr_lens_probe.specs.Asked.{CanAsk, CanAskAll, IsPart}
use Rattle.pr_lens_probe.specs.Fresh.{is_within}
use Rattle.pr_lens_probe.specs.Given.{AreGiven}
use Rattle.pr_lens_probe.specs.Kinds.{has_room}
use Rattle.pr_lens_probe.proofs.Answered.{streams-none}
use Rattle.pr_lens_probe.proofs.Given.{equations-as}

-- none of them
pub given-none : (program : Program) → offence program ≡ None → has_widths program ≡ true → turns_after (program_walk program) ≤ 65536 → AreGiven program [] []
given-none program none has turns = record {
  are = refl;
  lawful = record { given = refl; outside = λ rec i depends other. refl };
  streams = λ xs.
      let s = streams-none program none has turns xs in
      record { outputs = s.0; streams = []; has = s.1; match = record { wide = λ widths are. tt; lists = λ widths are samples. tt } };
}

pub part-long : (is : List Instance) (at end size : ℕ) → end ≤ at + size → length (slice_range is at end) ≤ size
part-long is at end size low =
    let long : length (take (end - at) (drop at is)) ≡ min (end - at) (length (drop at is)) = length-take (end - at) (drop at is) in
    omega (arith, long, low)

-- a part
pub can-part : (program : Program) (most size at end : ℕ) (is : List Instance) → at ≤ end → end ≤ at + size → CanAskAll program most is size → CanAsk program most (slice_range is at end)
can-part program most size at end is ordered low can = record {
  lawful = can.lawful;
  widths = can.widths;
  turns = omega (arith, part-long is at end size low, can.turns);
  among = record {
    before = take at is;
    after = drop end is;
    are = sym can.all ∙ (sym (take-append-drop at is) ∙ ap (λ (l : List Instance). take at is ++ l) (drop_split is at end ordered));
  };
  named = subst (AreNamed (is_within most)) can.all can.named;
  statics = can.statics;
}

-- the instances up to its end
pub part-more : (is : List Instance) (at end : ℕ) → at ≤ end → take at is ++ slice_range is at end ≡ take end is
part-more is at end ordered = sym (take-add at (end - at) is) ∙ ap (λ n. take n is) (let whole : at + (end - at) ≡ end = omega (arith, ordered) in whole)

-- fewer at a time
pub can-fewer : (program : Program) (most size fewer : ℕ) (is : List Instance) → 0 < fewer → turns_after (program_walk program) + fewer ≤ 65536 → CanAskAll program most is size → CanAskAll program most is fewer
can-fewer program most size fewer is some turns can = record {
  lawful = can.lawful;
  widths = can.widths;
  few = can.few;
  some = some;
  turns = turns;
  all = can.all;
  named = can.named;
  statics = can.statics;
}

-- of a program with the same items
pub can-all-as : (p q : Program) → p.items.items ≡ q.items.items → (most size : ℕ) (is : List Instance) → CanAskAll p most is size → CanAskAll q most is size
can-all-as p q same most size is can = record {
  lawful = ap (λ (l : List Item). refusal_of (items_walk 0 l start)) (sym same) ∙ can.lawful;
  widths = ap (λ (l : List Item). is_some (outputs_of (meant.items_change [] 0 l meant.start))) (sym same) ∙ can.widths;
  few = subst (λ (es : List EquationShape). length es ≤ 16384) (equations-as p q same) can.few;
  some = can.some;
  turns = subst (λ (l : List Item). turns_after (items_walk 0 l start) + size ≤ 65536) same can.turns;
  all = can.all ∙ ap (λ (l : List Item). items_listing 0 l built_in) same;
  named = can.named;
  statics = subst (HaveNames (is_within most)) same can.statics;
}

-- where two equations are left, and where they are not
pub has-room : (program : Program) (size : ℕ) → 0 < size → length (equations_of program).equations + 2 * size ≤ 16384 → has_room program ≡ true
has-room program size some few = le-leb (length (equations_of program).equations + 2) 16384 (omega (arith, some, few))

pub no-room : (program : Program) → 16384 < length (equations_of program).equations + 2 → has_room program ≡ false
no-room program many = false_from_ne_true (has_room program) (λ has. omega (arith, many, leb-true (length (equations_of program).equations + 2) 16384 has))

-- the same size of parts, where turns and equations are counted otherwise
pub part-as : (turns count equations made : ℕ) (part : Option ℕ) → turns ≡ count → equations ≡ made → IsPart turns equations part → IsPart count made part
part-as turns count equations made part a b is = subst (λ n. IsPart n made part) a (subst (λ n. IsPart turns n part) b is)
