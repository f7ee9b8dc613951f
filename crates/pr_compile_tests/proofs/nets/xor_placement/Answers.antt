use Rattle.std.proofs.Common.{◌≡◌, [], ◌∷◌, List, map, ap, ◌∙◌}
use Rattle.pr_place.specs.declared.placements.Home.{Home}
use Rattle.pr_place.specs.Placements.{HomeShape, home_shape}
use Rattle.pr_compile_tests.specs.Nets.{home, xor_placement}
use Rattle.pr_compile_tests.proofs.nets.xor_placement.Goals as goal

three : (hs : List Home) (a b c : Home) (x y z : HomeShape) → hs ≡ a ∷ b ∷ c ∷ [] → home_shape a ≡ x → home_shape b ≡ y → home_shape c ≡ z → map home_shape hs ≡ x ∷ y ∷ z ∷ []
three hs a b c x y z e p q r = let computed : map home_shape (a ∷ b ∷ c ∷ []) ≡ x ∷ y ∷ z ∷ [] = cc in ap (map home_shape) e ∙ computed

pub returns : goal.returns
unfolding xor_placement
returns c =
    let homes = three c.in_ok-homes.homes.items _ _ _ (home 0 0 (1 ∷ [])) (home 0 1 (1 ∷ [])) (home 1 0 (2 ∷ [])) c.in_ok-homes.ensures.items c.in_ok-home_of.ensures c.in_ok-home_of-2.ensures c.in_ok-home_of-3.ensures in
    cc
