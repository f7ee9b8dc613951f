-- The points of expressions: how a part is walked that begins at a token.
use Rattle.std.specs.Prelude.{ℕ, ◌≡◌, ◌++◌, ◌∷◌, [], List, Option, Some, None}
use Rattle.pr_lang.specs.declared.trees.Fixed.{Fixed}
use Rattle.pr_lang.specs.declared.trees.Fixed.TheOpen.{Fixed-F}
use Rattle.pr_lang.specs.declared.trees.Fixed.TheFolds.{fold-Fixed}
use Rattle.pr_lang.specs.declared.trees.Ref.{Ref}
use Rattle.pr_lang.specs.declared.trees.Expr.{Expr}
use Rattle.pr_lang.specs.declared.trees.Expr.TheOpen.{Expr-F}
use Rattle.pr_lang.specs.declared.trees.Expr.TheFolds.{fold-Expr}
use Rattle.pr_lens_items.specs.Tokens.{later}

-- of a part that begins at a token, the points behind those that were seen before, and the token behind it
pub record Walk : Type 0 where
  pub points : ℕ → List ℕ → List ℕ
  pub end : ℕ → ℕ

-- a number or a name is a point itself
abbrev pub one_token : Walk
one_token = record { points = λ at seen. seen ++ at ∷ []; end = λ at. later at 1 }

-- in brackets
abbrev pub within : Walk → Walk
within w = record { points = λ at seen. w.points (later at 1) seen; end = λ at. later (w.end (later at 1)) 1 }

-- a name with an index, the name's point behind those of the index
abbrev pub indexed : Walk → Walk
indexed w = record { points = λ at seen. w.points (later at 2) seen ++ at ∷ []; end = λ at. later (w.end (later at 2)) 1 }

-- two operands with their operator, whose point is behind theirs
abbrev pub operated : Walk → Walk → Walk
operated one other = record {
  points = λ at seen. other.points (later (one.end at) 1) (one.points at seen) ++ one.end at ∷ [];
  end = λ at. other.end (later (one.end at) 1);
}

abbrev pub fixed_layer : Fixed-F Walk → Walk
fixed_layer (Fixed-F.Number n) = one_token
fixed_layer (Fixed-F.Refer x None) = one_token
fixed_layer (Fixed-F.Refer x (Some i)) = indexed i.value
fixed_layer (Fixed-F.Binary op one other) = operated one.value other.value
fixed_layer (Fixed-F.Paren inner) = within inner.value

abbrev pub fixed_walk : Fixed → Walk
fixed_walk = fold-Fixed Walk fixed_layer

-- a name with its index, without the name's own point
abbrev pub index_walk : Option Fixed → Walk
index_walk None = record { points = λ at seen. seen; end = λ at. later at 1 }
index_walk (Some i) = record {
  points = λ at seen. (fixed_walk i).points (later at 2) seen;
  end = λ at. later ((fixed_walk i).end (later at 2)) 1;
}

-- a name with its index, the name's point last
abbrev pub refer_walk : Ref → Walk
refer_walk r = record {
  points = λ at seen. (index_walk r.index).points at seen ++ at ∷ [];
  end = λ at. (index_walk r.index).end at;
}

-- bounds in curly brackets, whose point is the bracket
abbrev pub bounds_walk : Walk → Walk → Walk
bounds_walk high low = record {
  points = λ at seen. low.points (later (high.end (later at 1)) 1) (high.points (later at 1) seen) ++ at ∷ [];
  end = λ at. later (low.end (later (high.end (later at 1)) 1)) 1;
}

abbrev pub slice_walk : Walk → Walk → Walk
slice_walk inner bounds = record {
  points = λ at seen. bounds.points (inner.end at) (inner.points at seen);
  end = λ at. bounds.end (inner.end at);
}

abbrev pub not_walk : Walk → Walk
not_walk inner = record { points = λ at seen. inner.points (later at 1) seen ++ at ∷ []; end = λ at. inner.end (later at 1) }

abbrev pub choose_walk : Walk → Walk → Walk → Walk
choose_walk condition one other = record {
  points = λ at seen.
      other.points (later (one.end (later (condition.end at) 1)) 1)
      (one.points (later (condition.end at) 1) (condition.points at seen)) ++ condition.end at ∷ [];
  end = λ at. other.end (later (one.end (later (condition.end at) 1)) 1);
}

-- parts, each with a bracket or a comma before it, of which the first is this token
abbrev pub parts_points : List Walk → ℕ → List ℕ → List ℕ
parts_points [] sign seen = seen
parts_points (w ∷ ws) sign seen = parts_points ws (w.end (later sign 1)) (w.points (later sign 1) seen)

-- the token behind the last of them
abbrev pub parts_end : List Walk → ℕ → ℕ
parts_end [] sign = sign
parts_end (w ∷ ws) sign = parts_end ws (w.end (later sign 1))

-- the closing bracket, where the last part ends here
abbrev pub closing : List Walk → ℕ → ℕ
closing [] end = later end 1
closing (w ∷ ws) end = end

-- a name or word with parts in brackets, whose point is last
abbrev pub whole_walk : List Walk → Walk
whole_walk ws = record {
  points = λ at seen. parts_points ws (later at 1) seen ++ at ∷ [];
  end = λ at. later (closing ws (parts_end ws (later at 1))) 1;
}

abbrev pub expr_layer : Expr-F Walk → Walk
expr_layer (Expr-F.Number n) = one_token
expr_layer (Expr-F.Refer r) = refer_walk r
expr_layer (Expr-F.Delay r back) = operated (refer_walk r) (fixed_walk back)
expr_layer (Expr-F.Slice inner high low) = slice_walk inner.value (bounds_walk (fixed_walk high) (fixed_walk low))
expr_layer (Expr-F.Not inner) = not_walk inner.value
expr_layer (Expr-F.Binary op one other) = operated one.value other.value
expr_layer (Expr-F.Choose condition one other) = choose_walk condition.value one.value other.value
expr_layer (Expr-F.Call x parts) = whole_walk parts.items
expr_layer (Expr-F.Cat parts) = whole_walk parts.items
expr_layer (Expr-F.Paren inner) = within inner.value

abbrev pub expr_walk : Expr → Walk
expr_walk = fold-Expr Walk expr_layer

-- a step lists what a walk says
pub record Lists (w : Walk) (at : ℕ) (before after : List ℕ) (end : ℕ) : Type 0 where
  pub points : after ≡ w.points at before
  pub end_is : end ≡ w.end at

-- the same of parts
pub record ListsParts (ws : List Walk) (sign : ℕ) (before after : List ℕ) (end : ℕ) : Type 0 where
  pub points : after ≡ parts_points ws sign before
  pub end_is : end ≡ parts_end ws sign

-- a step lists one point
pub record IsListed (point end : ℕ) (before after : List ℕ) (token : ℕ) : Type 0 where
  pub points : after ≡ before ++ point ∷ []
  pub token_is : token ≡ end
