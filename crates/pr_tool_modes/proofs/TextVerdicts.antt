-- What comes of a text of a configuration, and the verdict on it.
use Rattle.std.proofs.Common.{◌≡◌, ℕ, true, List, Option, Some, None, refl, sym, ◌∙◌, subst, inl, inr, true≢false}
use Rattle.pr_edge.specs.Count.{Rose}
use Rattle.pr_edge.specs.Files.{Told}
use Rattle.pr_edge.specs.Tape.{Tape}
use Rattle.pr_conf.specs.Shape.{Shape}
use Rattle.pr_tool_answers.specs.declared.answers.Answer.{Answer}
use Rattle.pr_tool_answers.specs.Owed.{IsOwed}
use Rattle.pr_tool_answers.proofs.OwedLemmas.{owed_by}
use Rattle.pr_tool_modes.specs.declared.texts.Form.{Form}
use Rattle.pr_tool_modes.specs.Calls.{Call}
use Rattle.pr_tool_modes.specs.Sources.{ConfSource, Gives, IsGood, IsSourceRefusal, IsRefusedSource}
use Rattle.pr_tool_modes.specs.Texts.{text_in, IsPut, IsTexted, AreTextBytes, IsTextVerdict}
use Rattle.pr_tool_modes.proofs.ReasonLemmas.{refuses, IsKind, kind_never, kind_fault}
use Rattle.pr_tool_modes.proofs.SourceLemmas.{source_owed, source_kind, one_source, never_source}
use Rattle.pr_tool_modes.proofs.RunVerdicts.{untold_rose}

put_owed : (files : List ℕ → Option (List ℕ)) (source : ConfSource) (text : List ℕ) (old new : Tape) (sb sn ob on : ℕ) (a : Answer) → IsGood (Some files) source → IsPut text old new ob on a → IsOwed (IsTextVerdict files source) sb sn ob on a
put_owed files source text old new sb sn ob on Answer.Ok good put = inl (inr (refl, good))
put_owed files source text old new sb sn ob on Answer.WriteFault good put = inr (inr (inl (refl, put.1)))
put_owed files source text old new sb sn ob on Answer.Memory good put = inr (inr (inr refl))
put_owed files source text old new sb sn ob on a good put = absurd put

pub text_owed : (files : List ℕ → Option (List ℕ)) (form : Form) (source : ConfSource) (k : Call) (a : Answer) → k.before.told ≡ Some files → IsTexted form source k a
    → IsOwed (IsTextVerdict files source) k.before.faults k.now.faults k.out_before k.out_now a
text_owed files form source k a told (inl none) =
    owed_by (IsRefusedSource files source) (IsTextVerdict files source) k.before.faults k.now.faults k.out_before k.out_now a inl
    (source_owed files source k.before.faults k.now.faults k.out_before k.out_now a (subst (λ (t : Told). IsSourceRefusal t source k.before.faults k.now.faults a) told none.cause))
text_owed files form source k a told (inr has) =
    put_owed files source (text_in form has.N has.P has.conf) k.old k.new k.before.faults k.now.faults k.out_before k.out_now a
    (record { N = has.N; P = has.P; conf = has.conf; gives = subst (λ (t : Told). Gives t source has.N has.P has.conf) told has.gives }) has.put

-- it has one verdict at most
pub one_text : (files : List ℕ → Option (List ℕ)) (source : ConfSource) (a b : Answer) → IsTextVerdict files source a → IsTextVerdict files source b → a ≡ b
one_text files source a b (inl is) (inl by) = one_source files source a b is by
one_text files source a b (inl is) (inr by) = absurd (never_source files source a by.1.N by.1.P by.1.conf by.1.gives is)
one_text files source a b (inr is) (inl by) = absurd (never_source files source b is.1.N is.1.P is.1.conf is.1.gives by)
one_text files source a b (inr is) (inr by) = is.0 ∙ sym by.0

-- ---- single answers
text_put_fault : (text : List ℕ) (old new : Tape) (ob on : ℕ) (a : Answer) → IsPut text old new ob on a → a ≡ Answer.ReadFault → ⊥
text_put_fault text old new ob on a put is = subst (λ (o : Answer). IsPut text old new ob on o) is put

pub text_fault : (form : Form) (source : ConfSource) (k : Call) (a : Answer) → IsTexted form source k a → a ≡ Answer.ReadFault → k.before.told ≡ None → Rose k.before.faults k.now.faults
text_fault form source k a (inl none) is untold = untold_rose k.before.told _ _ _ (kind_fault _ a (source_kind k.before.told source k.before.faults k.now.faults a none.cause) is) untold
text_fault form source k a (inr has) is untold = absurd (text_put_fault _ _ _ _ _ a has.put is)

pub text_memory : (form : Form) (source : ConfSource) (k : Call) (a : Answer) → IsTexted form source k a → a ≡ Answer.Memory → k.new ≡ k.old
text_memory form source k a (inl none) is = none.unwritten
text_memory form source k a (inr has) is = subst (λ (o : Answer). IsPut (text_in form has.N has.P has.conf) k.old k.new k.out_before k.out_now o) is has.put

pub text_write : (form : Form) (source : ConfSource) (k : Call) (a : Answer) → IsTexted form source k a → a ≡ Answer.WriteFault → Rose k.out_before k.out_now
text_write form source k a (inl none) is = absurd (kind_never _ a Answer.WriteFault (source_kind k.before.told source k.before.faults k.now.faults a none.cause) is refl (λ e. cc) (λ e. cc))
text_write form source k a (inr has) is = (subst (λ (o : Answer). IsPut (text_in form has.N has.P has.conf) k.old k.new k.out_before k.out_now o) is has.put).1

pub text_usage : (form : Form) (source : ConfSource) (k : Call) (a : Answer) → IsTexted form source k a → a ≡ Answer.Usage → ⊥
text_usage form source k a (inl none) is = kind_never _ a Answer.Usage (source_kind k.before.told source k.before.faults k.now.faults a none.cause) is refl (λ e. cc) (λ e. cc)
text_usage form source k a (inr has) is = subst (λ (o : Answer). IsPut (text_in form has.N has.P has.conf) k.old k.new k.out_before k.out_now o) is has.put

-- ---- what is written
-- nothing, where there is no configuration
refused_bytes : (files : List ℕ → Option (List ℕ)) (form : Form) (source : ConfSource) (k : Call) (a : Answer) → refuses a ≡ true → k.new ≡ k.old → AreTextBytes files form source k a
refused_bytes files form source k Answer.Ok is same = absurd (true≢false (sym is))
refused_bytes files form source k Answer.WriteFault is same = absurd (true≢false (sym is))
refused_bytes files form source k a is same = same

kind_bytes : (files : List ℕ → Option (List ℕ)) (form : Form) (source : ConfSource) (k : Call) (cause : Type 0) (a : Answer) → IsKind cause a → k.new ≡ k.old → AreTextBytes files form source k a
kind_bytes files form source k cause a (inl refused) same = refused_bytes files form source k a refused same
kind_bytes files form source k cause a (inr (inl read)) same = subst (AreTextBytes files form source k) (sym read.0) same
kind_bytes files form source k cause a (inr (inr memory)) same = subst (AreTextBytes files form source k) (sym memory) same

put_bytes : (files : List ℕ → Option (List ℕ)) (form : Form) (source : ConfSource) (k : Call) (a : Answer) (N P : ℕ) (conf : Shape) → Gives (Some files) source N P conf → IsPut (text_in form N P conf) k.old k.new k.out_before k.out_now a
    → AreTextBytes files form source k a
put_bytes files form source k Answer.Ok N P conf gives put = record { N = N; P = P; conf = conf; gives = gives; text = put }
put_bytes files form source k Answer.WriteFault N P conf gives put = record { N = N; P = P; conf = conf; gives = gives; text = put.0 }
put_bytes files form source k Answer.Memory N P conf gives put = put
put_bytes files form source k a N P conf gives put = absurd put

pub text_bytes : (files : List ℕ → Option (List ℕ)) (form : Form) (source : ConfSource) (k : Call) (a : Answer) → k.before.told ≡ Some files → IsTexted form source k a → AreTextBytes files form source k a
text_bytes files form source k a told (inl none) = kind_bytes files form source k _ a (source_kind k.before.told source k.before.faults k.now.faults a none.cause) none.unwritten
text_bytes files form source k a told (inr has) = put_bytes files form source k a has.N has.P has.conf (subst (λ (t : Told). Gives t source has.N has.P has.conf) told has.gives) has.put
