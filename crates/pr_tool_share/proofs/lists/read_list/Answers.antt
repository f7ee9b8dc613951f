use Rattle.std.proofs.Common.{◌≡◌, ◌≤◌, ◌<◌, ◌+◌, ◌∷◌, [], ℕ, List, length, map, sym, ap, ◌∙◌, subst, rules, arith, inl, inr}
use Rattle.std.proofs.lemmas.List.{map-append, length-map}
use Rattle.pr_tool_share.specs.declared.entries.Line.{Line}
use Rattle.pr_tool_share.specs.Entries.{Entry, entry_in, IsBadAt}
use Rattle.pr_tool_share.specs.EntryLines.{IsLine}
use Rattle.pr_tool_share.proofs.ListReading.{IsRead, read_blank, read_program, read_wrong, read_bare, read_all, line_in}
use Rattle.pr_tool_share.proofs.lists.read_list.Goals.{in_default-via-in-Program+else-len-lt-MOST_PROGRAMS, in_default-via-in_default}
use Rattle.pr_tool_share.proofs.lists.read_list.Goals as goal

pub returns-in_default-clause-bad : goal.returns-in_default-clause-bad
returns-in_default-clause-bad c = λ n e.
    let text = c.args.text.now in
    let line = c.split_line.result.0.now in
    let items = c.loop-rest.entries.items in
    let said = c.in_ok-line_of.ensures in
    let wrong = read_wrong text c.loop-rest.rest.now line c.split_line.result.1.now (map entry_in items) c.loop-rest.number c.loop-rest.invariant c.split_line.ensures.lines c.split_line.ensures.shorter in
    subst (λ (m : ℕ). IsBadAt text m) (ap line_in e) (elim c.in_default.branch [
      | in_default-via-in-Program+else-len-lt-MOST_PROGRAMS w ↦
          (let is = subst (λ (s : Line). IsLine line s) w.in-Program.is said in
          let few = c.loop-rest.invariant.say.few in
          let same = length-map items entry_in in
          let full : length (map entry_in items) ≡ 8 = omega (arith, few, same, w.len.ensures, w.if-len-lt-MOST_PROGRAMS.false) in
          wrong is.0 (inr full))
      | in_default-via-in_default w ↦
          (let is = subst (λ (s : Line). IsLine line s) w.in_default.is said in
          wrong is.0 (inl is.1))
    ])

pub loop-rest-preserved-in-Blank : goal.loop-rest-preserved-in-Blank
loop-rest-preserved-in-Blank c =
    let line = c.split_line.result.0.now in
    read_blank c.args.text.now c.loop-rest.rest.now line c.split_line.result.1.now (map entry_in c.loop-rest.entries.items) c.loop-rest.number c.loop-rest.invariant c.split_line.ensures.lines c.split_line.ensures.shorter
    (subst (λ (s : Line). IsLine line s) c.in-Blank.is c.in_ok-line_of.ensures)

pub loop-rest-preserved : goal.loop-rest-preserved
loop-rest-preserved c =
    let text = c.args.text.now in
    let line = c.split_line.result.0.now in
    let after = c.split_line.result.1.now in
    let items = c.loop-rest.entries.items in
    let entry = c.in-Program.entry in
    let is = subst (λ (s : Line). IsLine line s) c.in-Program.is c.in_ok-line_of.ensures in
    let same = length-map items entry_in in
    let few : length (map entry_in items) < 8 = omega (arith, same, c.len.ensures, c.if-len-lt-MOST_PROGRAMS.true) in
    let read = read_program text c.loop-rest.rest.now line after (map entry_in items) c.loop-rest.number c.loop-rest.invariant c.split_line.ensures.lines c.split_line.ensures.shorter (entry_in entry) is.0 is.1 few in
    subst (λ (es : List Entry). IsRead text after es (c.loop-rest.number + 1)) (sym (ap (map entry_in) c.in_ok-push-in-Program.ensures.items ∙ map-append entry_in items (entry ∷ []))) read

pub returns-then-is_empty-clause-bad : goal.returns-then-is_empty-clause-bad
returns-then-is_empty-clause-bad c = λ n e.
    let items = c.loop-rest.entries.items in
    let end : length c.loop-rest.rest.now ≡ 0 = search (rules, arith) in
    let bare : length items ≡ 0 = search (rules, arith) in
    subst (λ (m : ℕ). IsBadAt c.args.text.now m) (ap line_in e) (read_bare c.args.text.now c.loop-rest.rest.now (map entry_in items) c.loop-rest.number end (length-map items entry_in ∙ bare) c.loop-rest.invariant)

pub returns-clause-listed : goal.returns-clause-listed
returns-clause-listed c =
    let items = c.loop-rest.entries.items in
    let end : length c.loop-rest.rest.now ≡ 0 = search (rules, arith) in
    let some : 1 ≤ length items = search (rules, arith) in
    let same = length-map items entry_in in
    read_all c.args.text.now c.loop-rest.rest.now (map entry_in items) c.loop-rest.number end (omega (arith, same, some)) c.loop-rest.invariant
