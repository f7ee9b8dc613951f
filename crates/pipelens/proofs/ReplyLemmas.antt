-- Replies that are settled.
use Rattle.std.proofs.Common.{◌≡◌, ◌∙◌, Bool, true, false, cond, List, Option, Some, None, Ok, Err, String, Vec, Global, refl, sym, ap, subst}
use Rattle.pr_system.specs.declared.gathering.Finished.{Finished}
use Rattle.pr_system.specs.declared.words.WordsFault.{WordsFault}
use Rattle.pr_system.specs.Words.{Given}
use Rattle.pr_tool_answers.specs.declared.answers.Answer.{Answer}
use Rattle.pr_lens_tool.specs.declared.outcomes.Outcome.{Outcome}
use Rattle.pr_lens_tool.specs.declared.outcomes.Outcome.TheVariants.{Plain}
use Rattle.pr_lens_tool.specs.declared.outcomes.Reply.{Reply}
use Rattle.pr_lens_tool.specs.Asked.{Asked}
use Rattle.pr_lens_tool.specs.Orders.{asked_by}
use Rattle.pr_lens_tool.specs.Replies.{HasLine, HasOwnLine}
use Rattle.pr_system.specs.Gathering.{are_through}
use Rattle.pipelens.specs.Settled.{plain_reply, settled}
use Rattle.pipelens.specs.Ends.{asked_in}

-- ---- a reply that is an outcome alone
fault_line : (asked : Option Asked) → HasLine asked (plain_reply (Plain Answer.WriteFault))
fault_line None = refl
fault_line (Some order) = refl

memory_line : (asked : Option Asked) → HasLine asked (plain_reply (Plain Answer.Memory))
memory_line None = refl
memory_line (Some order) = refl

-- ---- what a call comes to
by_test : (P : Reply → Type 0) (reply : Reply) (through : Bool) → P reply → P (plain_reply (Plain Answer.WriteFault)) → P (cond through reply (plain_reply (Plain Answer.WriteFault)))
by_test P reply true one other = one
by_test P reply false one other = other

pub settled_line : {W : Type 0} (asked : Option Asked) (reply result : Reply) (last : Option (Finished W)) → result ≡ settled reply last → HasLine asked reply → HasLine asked result
settled_line asked reply result last is line = subst (HasLine asked) (sym is) (by_test (HasLine asked) reply (are_through last) line (fault_line asked))

pub refused_line : (asked : Option Asked) (outcome : Outcome) (result : Reply) → outcome ≡ Plain Answer.Memory → result ≡ plain_reply outcome → HasLine asked result
refused_line asked outcome result memory is = subst (HasLine asked) (sym is) (subst (λ (o : Outcome). HasLine asked (plain_reply o)) (sym memory) (memory_line asked))

-- ---- its own line
pub settled_own : {W : Type 0} (asked : Option Asked) (reply result : Reply) (last : Option (Finished W)) → result ≡ settled reply last → HasOwnLine asked reply → HasOwnLine asked result
settled_own asked reply result last is own = subst (HasOwnLine asked) (sym is) (by_test (HasOwnLine asked) reply (are_through last) own refl)

pub refused_own : (asked : Option Asked) (outcome : Outcome) (result : Reply) → outcome ≡ Plain Answer.Memory → result ≡ plain_reply outcome → HasOwnLine asked result
refused_own asked outcome result memory is = subst (HasOwnLine asked) (sym is) (subst (λ (o : Outcome). HasOwnLine asked (plain_reply o)) (sym memory) refl)

-- ---- words, and why they cannot be had
pub asked_is : (given : Given) (words : Vec (String Global) Global) (list : List (String Global)) → given ≡ Ok words → list ≡ words.items → asked_by list ≡ asked_in given
asked_is given words list is same = ap asked_by same ∙ sym (ap asked_in is)

pub bare_line : (given : Given) (fault : WordsFault) (outcome : Outcome) (result : Reply) → given ≡ Err fault → result ≡ plain_reply outcome → HasLine (asked_in given) result
bare_line given fault outcome result is same = subst (λ (a : Option Asked). HasLine a result) (sym (ap asked_in is)) (subst (HasLine None) (sym same) refl)

pub bare_own : (given : Given) (fault : WordsFault) (outcome : Outcome) (result : Reply) → given ≡ Err fault → result ≡ plain_reply outcome → HasOwnLine (asked_in given) result
bare_own given fault outcome result is same = subst (λ (a : Option Asked). HasOwnLine a result) (sym (ap asked_in is)) (subst (HasOwnLine None) (sym same) refl)
