use Rattle.std.proofs.Common.{◌≡◌, ◌≤◌, ◌<◌, ◌+◌, ◌-◌, ℕ, min, List, ◌∷◌, length, set, take, sym, ◌∙◌, ap₂, subst, arith}
use Rattle.std.specs.List.{All}
use Rattle.std.proofs.lemmas.List.Elements.{All-append, All-drop, All-get_or, All-same, All-set, All-take}
use Rattle.pr_source.proofs.Latest.{turned, kept-more}
use Rattle.pr_source.proofs.recent.Recent.keep.Goals as goal

pub returns-clause-kept : goal.returns-clause-kept
returns-clause-kept c =
    let xs = c.args.self.now.rows.items in
    let n = c.args.self.now.rows.len in
    let row = c.args.row.now in
    let some : 1 ≤ length xs = c.args.self.now.some in
    let tie : n ≡ length xs = omega (arith, c.args.self.now.rows.ok) in
    let rows : set c.rotate_right.new.self.items 0 c.swap.new.x ≡ row ∷ take (n - 1) xs = ap₂ (λ (r : List ℕ) (ys : List (List ℕ)). set ys 0 r) c.swap.ensures.x_after c.rotate_right.ensures.items ∙ turned xs n row row tie (omega arith) in
    let count : c.min-self.result ≡ min (c.args.self.now.filled + 1) n = omega (arith, c.min-self.ensures, c.len.ensures, c.rotate_right.ensures.len) in
    ap₂ (λ (k : ℕ) (ys : List (List ℕ)). take k ys) count rows ∙ subst (λ (k : ℕ). take (min (c.args.self.now.filled + 1) k) (row ∷ take (k - 1) xs) ≡ take (length xs) (row ∷ take c.args.self.now.filled xs)) (sym tie) (kept-more (length xs) c.args.self.now.filled row xs some c.args.self.now.within)

pub returns-clause-size : goal.returns-clause-size
returns-clause-size c size all is =
    let xs = c.args.self.now.rows.items in
    let n = c.args.self.now.rows.len in
    let P : List ℕ → Type 0 = λ r. length r ≡ size in
    All-set P c.rotate_right.new.self.items 0 c.swap.new.x (subst P (sym c.swap.ensures.x_after) is) (All-same P _ _ c.rotate_right.ensures.items (All-append P _ _ (All-drop P (n - 1) xs all) (All-take P (n - 1) xs all)))

pub returns-clause-room : goal.returns-clause-room
returns-clause-room c size all =
    let xs = c.args.self.now.rows.items in
    let n = c.args.self.now.rows.len in
    let P : List ℕ → Type 0 = λ r. length r ≡ size in
    let all_turned : All P c.rotate_right.new.self.items = All-same P _ _ c.rotate_right.ensures.items (All-append P _ _ (All-drop P (n - 1) xs all) (All-take P (n - 1) xs all)) in
    let within : 0 < length c.rotate_right.new.self.items = omega (arith, c.args.self.now.some, c.args.self.now.rows.ok, c.rotate_right.new.self.ok, c.rotate_right.ensures.len) in
    subst P (sym (c.swap.ensures.y_after ∙ c.index_mut.ensures.value)) (All-get_or P c.rotate_right.new.self.items 0 c.index_mut.result.now within all_turned)
