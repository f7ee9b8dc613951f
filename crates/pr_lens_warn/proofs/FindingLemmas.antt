-- Warnings that are told one after the other.
use Rattle.std.proofs.Common.{◌+◌, ◌<◌, ◌≤◌, ℕ, Bool, List, length, get_or, drop, refl, sym, subst}
use Rattle.std.proofs.lemmas.List.{at_drop_more, drop_all}
use Rattle.pr_lang.specs.declared.tokens.Token.{Token}
use Rattle.pr_lens_warn.specs.declared.remarks.Warning.{Warning}
use Rattle.pr_lens_warn.specs.Findings.{AreTold, IsTold}

module _ (json : Bool) (name text : List ℕ) (tokens : List Token) (ws : List Warning) where
  -- what tells the warnings from one on tells them all
  pub record TellsRest (at : ℕ) (old now : List ℕ) : Type 0 where
    pub rest : (new : List ℕ) → AreTold json name text tokens (drop at ws) now new → AreTold json name text tokens ws old new

  pub told_first : (old : List ℕ) → TellsRest 0 old old
  told_first old = record { rest = λ new told. told }

  pub told_more : (at : ℕ) (d : Warning) (old now next : List ℕ) → at < length ws → TellsRest at old now → IsTold json name text tokens (get_or ws at d) now next → TellsRest (at + 1) old next
  told_more at d old now next less tells one = record {
    rest = λ new told. tells.rest new (subst (λ (rest : List Warning). AreTold json name text tokens rest now new) (sym (at_drop_more (λ (xs : List Warning). xs) ws at d less))
        (record { between = next; one = one; other = told }));
  }

  pub told_all : (at : ℕ) (old now : List ℕ) → length ws ≤ at → TellsRest at old now → AreTold json name text tokens ws old now
  told_all at old now past tells = tells.rest now (subst (λ (rest : List Warning). AreTold json name text tokens rest now now) (sym (drop_all at ws past)) refl)
