-- Calls, by what the words ask for.
use Rattle.std.proofs.Common.{◌≡◌, ◌∙◌, ℕ, List, Option, Some, None, Result, Ok, String, Vec, Global, inl, inr, refl, sym, ap, subst}
use Rattle.std.specs.Prelude.{IfOk, option_and_then, option_map}
use Rattle.std.specs.declared.alloc.AllocError.{AllocError}
use Rattle.pr_tool_answers.specs.declared.answers.Answer.{Answer}
use Rattle.pr_lens_signals.specs.Calls.{Call}
use Rattle.pr_lens_tool.specs.declared.outcomes.Outcome.{Outcome}
use Rattle.pr_lens_tool.specs.declared.outcomes.Outcome.TheVariants.{Plain, Usage}
use Rattle.pr_lens_tool.specs.Asked.{Asked}
use Rattle.pr_lens_tool.specs.declared.outcomes.Reply.{Reply}
use Rattle.pr_base.specs.declared.fabrics.Fabric.{Fabric}
use Rattle.pr_tool.specs.declared.notes.Bounds.{Bounds}
use Rattle.pr_lens_tool.specs.Outcomes.{line_by}
use Rattle.pr_lens_tool.specs.Programs.{bounds_for}
use Rattle.pr_lens_tool.specs.Replies.{HasLine, HasOwnLine, bounds_asked, line_for}
use Rattle.pr_lens_tool.specs.Orders.{AskForHelp, MayAskForHelp, asked_by}
use Rattle.pr_lens_tool.specs.Calls.{IsCalled, IsCalledBy, IsFollowed, EndsWith, Helps}

module _ (c : Call) (result : Outcome) (words : List (String Global)) where
  pub called_followed : (order : Asked) → asked_by words ≡ Some order → IsFollowed order c result → IsCalled words c result
  called_followed order is followed = subst (λ (o : Option Asked). IsCalledBy o words c result) (sym is) (inl followed)

  pub called_help : asked_by words ≡ None → MayAskForHelp words → Helps c result → IsCalled words c result
  called_help is asks helps = subst (λ (o : Option Asked). IsCalledBy o words c result) (sym is) (inl (asks, helps))

  pub called_usage : asked_by words ≡ None → (AskForHelp words → ⊥) → EndsWith Usage c result → IsCalled words c result
  called_usage is unasked usage = subst (λ (o : Option Asked). IsCalledBy o words c result) (sym is) (inr (inl (unasked, usage)))

  memory : (o : Option Asked) → EndsWith (Plain Answer.Memory) c result → IsCalledBy o words c result
  memory None ends = inr (inr ends)
  memory (Some order) ends = inr ends

  pub called_memory : EndsWith (Plain Answer.Memory) c result → IsCalled words c result
  called_memory ends = memory (asked_by words) ends

-- the line of a reply to an order
pub has_line : (asked : Option Asked) (order : Asked) (reply : Reply) (outcome : Outcome) → asked ≡ Some order → reply.outcome ≡ outcome
    → IfOk reply.line (λ line. option_map (λ v. v.items) line ≡ line_for order outcome) → HasLine asked reply
has_line asked order reply outcome is same line =
    subst (λ (o : Option Asked). HasLine o reply) (sym is) (subst (λ (x : Outcome). IfOk reply.line (λ line. option_map (λ v. v.items) line ≡ line_for order x)) (sym same) line)

no_line : (asked : Option Asked) → option_and_then (λ a. line_for a (Plain Answer.Memory)) asked ≡ None
no_line None = refl
no_line (Some order) = refl

-- no line stands in place of that of want of memory
pub has_none : (asked : Option Asked) (reply : Reply) → reply.outcome ≡ Plain Answer.Memory → reply.line ≡ Ok None → HasLine asked reply
has_none asked reply is none =
    subst (λ (r : Result (Option (Vec ℕ Global)) AllocError). IfOk r (λ line. option_map (λ v. v.items) line ≡ option_and_then (λ a. line_for a reply.outcome) asked)) (sym none)
    (subst (λ (x : Outcome). None ≡ option_and_then (λ a. line_for a x) asked) (sym is) (sym (no_line asked)))

-- nor where nothing was asked
pub has_none_unasked : (asked : Option Asked) (reply : Reply) → asked ≡ None → reply.line ≡ Ok None → HasLine asked reply
has_none_unasked asked reply is none =
    subst (λ (o : Option Asked). HasLine o reply) (sym is)
    (subst (λ (r : Result (Option (Vec ℕ Global)) AllocError). IfOk r (λ line. option_map (λ v. v.items) line ≡ None)) (sym none) refl)

-- ---- the outcome's own line
-- of a reply to an order
pub has_own : (asked : Option Asked) (order : Asked) (reply : Reply) → asked ≡ Some order → reply.bounds ≡ bounds_for order.target.fabric → HasOwnLine asked reply
has_own asked order reply is bounds = ap (λ (b : Bounds). line_by b reply.outcome) (bounds ∙ sym (ap bounds_asked is))

-- where nothing was asked
pub has_own_unasked : (asked : Option Asked) (reply : Reply) → asked ≡ None → reply.bounds ≡ bounds_for Fabric.Base → HasOwnLine asked reply
has_own_unasked asked reply is bounds = ap (λ (b : Bounds). line_by b reply.outcome) (bounds ∙ sym (ap bounds_asked is))

-- that of want of memory tells no limit
pub has_own_memory : (asked : Option Asked) (reply : Reply) → reply.outcome ≡ Plain Answer.Memory → HasOwnLine asked reply
has_own_memory asked reply is = ap (line_by reply.bounds) is ∙ sym (ap (line_by (bounds_asked asked)) is)
