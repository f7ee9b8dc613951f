-- The message of an explanation.
use Rattle.std.proofs.Common.{◌≡◌, ℕ, Bool, List, [], length, min, sym, subst}
use Rattle.pr_lang.specs.declared.tokens.Token.{Token}
use Rattle.pr_lang.specs.Tokens.{tokens_of}
use Rattle.pr_compile.specs.declared.faults.CompileFault.{CompileFault}
use Rattle.pr_lens_source.specs.declared.sources.Span.{Span}
use Rattle.pr_lens_source.specs.Items.{AreItems}
use Rattle.pr_lens_why.specs.declared.explaining.Explanation.{Explanation}
use Rattle.pr_lens_why.specs.Messages.{Tells}
use Rattle.pr_lens_why.specs.Verdicts.{IsMessage}

pub message_of : (N P : ℕ) (narrowed : Bool) (text : List ℕ) (e : Explanation) (tokens : List Token) (spans : List Span) (fault : CompileFault) (told : ℕ) (old new : List ℕ)
    → tokens ≡ tokens_of text → AreItems tokens 0 spans → e.fault ≡ fault → e.token ≡ min told (length (tokens_of text)) → old ≡ [] → e.message.items ≡ new
    → Tells N P narrowed text tokens spans fault told old new → IsMessage N P narrowed text e
message_of N P narrowed text e tokens spans fault told old new is items fault_is token none message tells =
    let of_tokens = subst (λ (ts : List Token). Tells N P narrowed text ts spans fault told old new) is tells in
    let of_fault = subst (λ (f : CompileFault). Tells N P narrowed text (tokens_of text) spans f told old new) (sym fault_is) of_tokens in
    let of_old = subst (λ (bytes : List ℕ). Tells N P narrowed text (tokens_of text) spans e.fault told bytes new) none of_fault in
    record {
      spans = spans;
      items = subst (λ (ts : List Token). AreItems ts 0 spans) is items;
      told = told;
      token = token;
      tells = subst (λ (bytes : List ℕ). Tells N P narrowed text (tokens_of text) spans e.fault told [] bytes) (sym message) of_old;
    }
