-- The parser's walk over all words, against the values that the definition gives.
use Rattle.std.proofs.Common.{◌≡◌, ◌++◌, ◌+◌, ◌∙◌, ℕ, Bool, true, false, cond, List, [], ◌∷◌, codes, min, Option, Some, None, option_map, is_some, refl, sym, ap, subst}
use Rattle.std.specs.Prelude.{bytes_eq, find, fold, option_and_then, ⊤}
use Rattle.std.specs.Str.{IsUtf8}
use Rattle.std.specs.Option.{option_map_or}
use Rattle.std.proofs.Padding.{cond_same}
use Rattle.std.proofs.lemmas.Slice.Eq.{bytes_eq-Decides}
use Rattle.clap.specs.Facts.{explicit_source}
use Rattle.clap.specs.Lexer.{usize_max}
use Rattle.clap.specs.Walk.{Held, Row, Rule, Walk, Outcome, idle, option, next, trailing, value, waits, done, after_flag, arg_by_long, finished, flag_met, long_met, option_met, positional, reacted, settled, settled_rows, takes_values, used, walked, with_default}
use Rattle.clap.specs.Kinds.{Kinds, or_else}
use Rattle.clap.specs.Faults.{check_fault, defaults_fault, long_fault, option_fault, positional_fault, react_fault, settle_fault, step_fault, stray_fault, turn_fault, use_fault, walk_fault}
use Rattle.clap.specs.Takes.{is_given}
use Rattle.clap.specs.declared.error.kind.ErrorKind.TheVariants as kind
use Rattle.pr_tool_words.specs.Lawful.{Text, Given, Kind, Plain, Rest, Long, Other, also, gathered, given_at, given_by, has_name, has_value, kind_of, placed, places}
use Rattle.pr_tool_words.proofs.KindLemmas.{IsOfKind, IsPlainWord, IsLongWord, is_of_kind}
use Rattle.pr_tool_words.proofs.RowLemmas.{row, rows, is_some-find, seen-defaults, seen-rows}
use Rattle.pr_tool_words.proofs.TurnLemmas.{Fails, fails_first, or_else-assoc, ours, held, stands, Puts, IsValued, IsFlag, ArePlaces, IsOurs, use_of_new, use_of_known, rows_of_new, IsClear, clear_none, clear_pending, doomed_pending, place_passes, place_fails, to_place, walked_after_dashes, turn_by, walked_by, turn_fails, dashes_fault, dashes_meet, plain_fault, plain_meets, value_meets, long_faults, long_meets, other_fails}

-- each word is UTF-8
abbrev pub AreTexts : List Text → Type 0
AreTexts [] = ⊤
AreTexts (word ∷ words) = IsUtf8 word × AreTexts words

-- ---- the end

abbrev end_fault : List Rule → Held → Kinds
end_fault c h = or_else (settle_fault c false h) (or_else (defaults_fault (settled c h).rows c) (check_fault (ours c) (finished c h) false))

-- the faults from here on
abbrev pub tail_fault : List Rule → Walk → List Text → Kinds
tail_fault c w words = or_else (walk_fault (ours c) [] w words) (end_fault c (fold (walked c []) w words).held)

-- the rows at the end
abbrev pub tail_rows : List Rule → Walk → List Text → List Row
tail_rows c w words = finished c (fold (walked c []) w words).held

-- a mode is there, and the values are kept, or it is not
abbrev pub Ends : Bool → List Rule → Given → Kinds → List Row → Type 0
Ends true c given ks rs = (ks ≡ []) × (rs ≡ fold with_default (rows c given) c)
Ends false c given ks rs = Fails ks

-- the parser keeps just these values, or fails where there are none
abbrev pub Agrees : List Rule → Option Given → Kinds → List Row → Type 0
Agrees c None ks rs = Fails ks
Agrees c (Some given) ks rs = Ends (has_name given (codes "mode")) c given ks rs

abbrev pub Agreed : List Rule → Option Given → Walk → List Text → Type 0
Agreed c o w words = Agrees c o (tail_fault c w words) (tail_rows c w words)

-- ---- one turn more

tail_next : (c : List Rule) (w : Walk) (word : Text) (words : List Text)
    → tail_fault c w (word ∷ words) ≡ or_else (turn_fault (ours c) [] w word) (tail_fault c (walked c [] w word) words)
unfolding walk_fault
tail_next c w word words = or_else-assoc (turn_fault (ours c) [] w word) _ _

agreed_next : (c : List Rule) (o : Option Given) (w after : Walk) (word : Text) (words : List Text)
    → turn_fault (ours c) [] w word ≡ [] → walked c [] w word ≡ after → Agreed c o after words → Agreed c o w (word ∷ words)
agreed_next c o w after word words none moved h =
    let faults : tail_fault c w (word ∷ words) ≡ tail_fault c after words =
    tail_next c w word words ∙ ap (λ ks. or_else ks (tail_fault c (walked c [] w word) words)) none ∙ ap (λ v. tail_fault c v words) moved in
    let left : tail_rows c w (word ∷ words) ≡ tail_rows c after words = ap (λ v. tail_rows c v words) moved in
    subst (λ ks. Agrees c o ks (tail_rows c w (word ∷ words))) (sym faults) (subst (λ rs. Agrees c o (tail_fault c after words) rs) (sym left) h)

fails_turn : (c : List Rule) (w : Walk) (word : Text) (words : List Text) → Fails (turn_fault (ours c) [] w word) → Fails (tail_fault c w (word ∷ words))
fails_turn c w word words fails = subst Fails (sym (tail_next c w word words)) (fails_first _ _ fails)

-- ---- no words left

fails_end : (c : List Rule) (w : Walk) → Fails (settle_fault c false w.held) → Fails (tail_fault c w [])
unfolding walk_fault
fails_end c w fails = fails_first _ _ fails

mode_given : (c : List Rule) → IsOurs c → (given : Given) → is_given (codes "mode") (fold with_default (rows c given) c) ≡ has_name given (codes "mode")
mode_given c is given =
    ap (λ o. option_map_or (λ (r : Row). explicit_source r.source) o false)
    (seen-defaults (codes "mode") c (rows c given) ∙ is.unset _ ∙ seen-rows c given (codes "mode"))
    ∙ go (find (λ p. bytes_eq p.0 (codes "mode")) given) ∙ is_some-find (λ p. bytes_eq p.0 (codes "mode")) given
  where
    go : (o : Option (Text × Text)) → option_map_or (λ (r : Row). explicit_source r.source) (option_map (row c) o) false ≡ is_some o
    go None = refl
    go (Some p) = refl

agreed_end : (c : List Rule) → IsOurs c → (given : Given) (w : Walk) → settle_fault c false w.held ≡ [] → settled_rows c w.held.pending w.held.rows ≡ rows c given
    → Agreed c (Some given) w []
unfolding walk_fault
agreed_end c is given w passes kept =
    let faults : end_fault c w.held ≡ cond (has_name given (codes "mode")) [] (kind.MissingRequiredArgument ∷ []) =
    (λ i. or_else (passes i) (or_else (is.defaults (settled_rows c w.held.pending w.held.rows) i) (check_fault (ours c) (fold with_default (kept i) c) false)))
    ∙ is.check (fold with_default (rows c given) c) ∙ ap (λ b. cond b [] (kind.MissingRequiredArgument ∷ [])) (mode_given c is given) in
    go (has_name given (codes "mode")) (end_fault c w.held) (finished c w.held) faults (ap (λ rs. fold with_default rs c) kept)
  where
    go : (b : Bool) (ks : Kinds) (rs : List Row) → ks ≡ cond b [] (kind.MissingRequiredArgument ∷ []) → rs ≡ fold with_default (rows c given) c → Ends b c given ks rs
    go true ks rs e left = (e, left)
    go false ks rs e left = subst Fails (sym e) tt

-- ---- what is pending is one value too many

stray : (c : List Rule) (position : ℕ) (h : Held) → ArePlaces c position [] → Fails (step_fault (ours c) position h value)
stray c position h none = subst Fails (sym (ap (λ o. option_map_or (λ (a : Rule). positional_fault c false a h) o (stray_fault (ours c))) none)) tt

module _ (c : List Rule) (rs : List Row) (pending : Option (Text × List Text)) (fails : Fails (settle_fault c false (held rs pending))) where
  value_fails : (position : ℕ) (left : List Text) → ArePlaces c position left → Fails (step_fault (ours c) position (held rs pending) value)
  value_fails position [] none = stray c position (held rs pending) none
  value_fails position (name ∷ left) there = place_fails c position name there.0 rs pending fails

  pub doomed_after_dashes : (position : ℕ) (left : List Text) → ArePlaces c position left → (waiting : Rattle.clap.specs.Walk.Waiting) (words : List Text)
      → Fails (tail_fault c (stands rs pending waiting position true) words)
  doomed_after_dashes position left there waiting [] = fails_end c (stands rs pending waiting position true) fails
  doomed_after_dashes position left there waiting (word ∷ words) =
      fails_turn c (stands rs pending waiting position true) word words (value_fails position left there)

  pub long_doomed : (o : Option Rule) (v : Option Text) → Fails (long_fault c false o v (held rs pending))
  long_doomed None v = tt
  long_doomed (Some a) (Some v) = go (takes_values a)
    where
      go : (b : Bool) → Fails (cond b (option_fault c false a (Some v) (held rs pending)) (kind.TooManyValues ∷ []))
      go true = fails_first _ _ fails
      go false = tt
  long_doomed (Some a) None = go (takes_values a)
    where
      go : (b : Bool) → Fails (cond b (option_fault c false a None (held rs pending)) (react_fault c false a [] (held rs pending)))
      go true = fails
      go false = fails_first _ _ fails

  -- `--` passes, whatever waits
  after_dashes_doomed : (position : ℕ) (left : List Text) → ArePlaces c position left → (waiting : Rattle.clap.specs.Walk.Waiting) (word : Text) (words : List Text) → IsOfKind Rest word
      → Fails (tail_fault c (stands rs pending waiting position false) (word ∷ words))
  after_dashes_doomed position left there waiting word words is =
      agreed_next c None (stands rs pending waiting position false) (stands rs pending waiting position true) word words
      (turn_by c rs pending waiting position word [] (held rs pending, trailing position) (dashes_fault c word is (held rs pending)) (dashes_meet c word is (held rs pending) waiting position))
      (walked_by c rs pending waiting position word [] (held rs pending, trailing position) (dashes_fault c word is (held rs pending)) (dashes_meet c word is (held rs pending) waiting position))
      (doomed_after_dashes position left there waiting words)

  pub doomed : IsOurs c → (position : ℕ) (left : List Text) → ArePlaces c position left → (words : List Text) → AreTexts words → Fails (tail_fault c (stands rs pending idle position false) words)
  doomed is position left there [] texts = fails_end c (stands rs pending idle position false) fails
  doomed is position left there (word ∷ words) texts = go (kind_of word) (is_of_kind word)
    where
      go : (k : Kind) → IsOfKind k word → Fails (tail_fault c (stands rs pending idle position false) (word ∷ words))
      go Plain plain =
          fails_turn c (stands rs pending idle position false) word words
          (subst Fails (sym (turn_by c rs pending idle position word [] (held rs pending, value) (plain_fault c word plain (held rs pending)) (plain_meets c word plain (held rs pending) idle position)))
          (value_fails position left there))
      go Rest dashes = after_dashes_doomed position left there idle word words dashes
      go (Long name v) long =
          fails_turn c (stands rs pending idle position false) word words
          (turn_fails c rs pending idle position word (subst Fails (sym (long_faults c name v word long (held rs pending))) (long_doomed (arg_by_long c name) v)))
      go Other other = fails_turn c (stands rs pending idle position false) word words (turn_fails c rs pending idle position word (other_fails c is word other texts.0 rs pending))

-- ---- one value more

gathered_also : (given : Given) (name v : Text) (o : Option Given)
    → option_and_then (gathered given) (also name v o) ≡ cond (has_name given name) None (option_and_then (gathered (given ++ (name, v) ∷ [])) o)
gathered_also given name v None = sym (cond_same (has_name given name) None None None refl refl)
gathered_also given name v (Some more) = refl

-- a value of a known name fails, and one of a new name is kept
agreed_also : (c : List Rule) (given : Given) (name v : Text) (o : Option Given) (w : Walk) (words : List Text)
    → (has_name given name ≡ true → Fails (tail_fault c w words))
    → (has_name given name ≡ false → Agreed c (option_and_then (gathered (given ++ (name, v) ∷ [])) o) w words)
    → Agreed c (option_and_then (gathered given) (also name v o)) w words
agreed_also c given name v o w words known new = subst (λ x. Agreed c x w words) (sym (gathered_also given name v o)) (go (has_name given name) refl)
  where
    go : (b : Bool) → has_name given name ≡ b → Agreed c (cond b None (option_and_then (gathered (given ++ (name, v) ∷ [])) o)) w words
    go true e = known e
    go false e = new e

-- the words after `--`
after_dashes : (c : List Rule) → IsOurs c → (words : List Text) (left : List Text) (position : ℕ) → ArePlaces c position left
    → (given : Given) (rs : List Row) (pending : Option (Text × List Text)) (waiting : Rattle.clap.specs.Walk.Waiting) → IsClear c given rs pending
    → Agreed c (option_and_then (gathered given) (placed left words)) (stands rs pending waiting position true) words
after_dashes c is [] [] position there given rs pending waiting clear = agreed_end c is given (stands rs pending waiting position true) clear.passes clear.rows
after_dashes c is [] (name ∷ left) position there given rs pending waiting clear = agreed_end c is given (stands rs pending waiting position true) clear.passes clear.rows
after_dashes c is (word ∷ words) [] position there given rs pending waiting clear =
    fails_turn c (stands rs pending waiting position true) word words (stray c position (held rs pending) there)
after_dashes c is (word ∷ words) (name ∷ left) position there given rs pending waiting clear =
    let put = there.0.one word in
    let w = stands rs pending waiting position true in
    let after = stands (rows c given) (Some (name, word ∷ [])) idle (min (position + 1) usize_max) true in
    let none : turn_fault (ours c) [] w word ≡ [] = place_passes c position name there.0 rs pending clear.passes in
    let moved : walked c [] w word ≡ after =
    walked_after_dashes c rs pending waiting position word ∙ to_place c position name there.0 rs pending word waiting true
    ∙ ap (λ r. stands r (Some (name, word ∷ [])) idle (min (position + 1) usize_max) true) clear.rows in
    agreed_also c given name word (placed left words) w (word ∷ words)
    (λ known. agreed_next c None w after word words none moved
    (doomed_after_dashes c (rows c given) (Some (name, word ∷ [])) (doomed_pending c given there.0.a name word put known) (min (position + 1) usize_max) left there.1 idle words))
    (λ new. agreed_next c (option_and_then (gathered (given ++ (name, word) ∷ [])) (placed left words)) w after word words none moved
    (after_dashes c is words left (min (position + 1) usize_max) there.1 (given ++ (name, word) ∷ []) (rows c given) (Some (name, word ∷ [])) idle
    (clear_pending c given there.0.a name word put new)))

-- ---- the words before `--`

-- nothing waits for a value
abbrev Idles : List Rule → List Text → Type 0
Idles c words = (left : List Text) (position : ℕ) → ArePlaces c position left → (given : Given) (rs : List Row) (pending : Option (Text × List Text)) → IsClear c given rs pending
    → Agreed c (option_and_then (gathered given) (given_by left None words)) (stands rs pending idle position false) words

-- an option waits for its value
abbrev Waits : List Rule → List Text → Type 0
Waits c words = (left : List Text) (position : ℕ) → ArePlaces c position left → (given : Given) (name : Text) → IsValued c name
    → Agreed c (option_and_then (gathered given) (given_by left (Some name) words)) (stands (rows c given) (Some (name, [])) (option name) position false) words

record Holds (c : List Rule) (words : List Text) : Type 0 where
  idles : Idles c words
  waits : Waits c words

module _ (c : List Rule) (is : IsOurs c) (word : Text) (utf8 : IsUtf8 word) (words : List Text) (texts : AreTexts words) (more : Holds c words)
    (position : ℕ) (given : Given) where
  module _ (rs : List Row) (pending : Option (Text × List Text)) (clear : IsClear c given rs pending) where
    abbrev h : Held
    h = held rs pending

    abbrev w : Walk
    w = stands rs pending idle position false

    idle_plain : (left : List Text) → ArePlaces c position left → IsPlainWord word
        → Agreed c (option_and_then (gathered given) (given_at Plain left None word (λ l v. given_by l v words) (placed left words))) w (word ∷ words)
    idle_plain [] there plain =
        fails_turn c w word words
        (subst Fails (sym (turn_by c rs pending idle position word [] (h, value) (plain_fault c word plain h) (plain_meets c word plain h idle position)))
        (stray c position h there))
    idle_plain (name ∷ left) there plain =
        let put = there.0.one word in
        let after = stands (rows c given) (Some (name, word ∷ [])) idle (min (position + 1) usize_max) false in
        let none : turn_fault (ours c) [] w word ≡ [] =
        turn_by c rs pending idle position word [] (h, value) (plain_fault c word plain h) (plain_meets c word plain h idle position)
        ∙ place_passes c position name there.0 rs pending clear.passes in
        let moved : walked c [] w word ≡ after =
        walked_by c rs pending idle position word [] (h, value) (plain_fault c word plain h) (plain_meets c word plain h idle position)
        ∙ to_place c position name there.0 rs pending word idle false
        ∙ ap (λ r. stands r (Some (name, word ∷ [])) idle (min (position + 1) usize_max) false) clear.rows in
        agreed_also c given name word (given_by left None words) w (word ∷ words)
        (λ known. agreed_next c None w after word words none moved
        (doomed c (rows c given) (Some (name, word ∷ [])) (doomed_pending c given there.0.a name word put known) is (min (position + 1) usize_max) left there.1 words texts))
        (λ new. agreed_next c (option_and_then (gathered (given ++ (name, word) ∷ [])) (given_by left None words)) w after word words none moved
        (more.idles left (min (position + 1) usize_max) there.1 (given ++ (name, word) ∷ []) (rows c given) (Some (name, word ∷ []))
        (clear_pending c given there.0.a name word put new)))

    -- an option that has its value
    idle_put : (left : List Text) → ArePlaces c position left → (name : Text) (v : Option Text) → IsLongWord name v word
        → (key : Text) (a : Rule) (values : List Text) (got : Text) → Puts c a key values got
        → long_fault c false (arg_by_long c name) v h ≡ react_fault c false a values h
        → long_met c (arg_by_long c name) v h ≡ (reacted c a values h, done)
        → Agreed c (option_and_then (gathered given) (also key got (given_by left None words))) w (word ∷ words)
    idle_put left there name v long key a values got put fault met =
        let after = stands (rows c (given ++ (key, got) ∷ [])) None idle position false in
        let faults : Rattle.clap.specs.Faults.other_fault (ours c) None word h ≡ use_fault false a values (rows c given) =
        long_faults c name v word long h ∙ fault ∙ (λ i. or_else (clear.passes i) (use_fault false a values (clear.rows i))) in
        agreed_also c given key got (given_by left None words) w (word ∷ words)
        (λ known. fails_turn c w word words (turn_fails c rs pending idle position word (subst Fails (sym faults) (use_of_known c given a key values got put known))))
        (λ new.
        let kept : reacted c a values h ≡ held (rows c (given ++ (key, got) ∷ [])) None =
        (λ i. held (used a values (clear.rows i)) None) ∙ ap (λ r. held r None) (rows_of_new c given a key values got put new) in
        let meets = long_meets c name v word long h idle position ∙ ap (λ m. after_flag c idle word m.0 m.1) (met ∙ ap (λ k. (k, done)) kept) in
        let free = faults ∙ use_of_new c given a key values got put new in
        agreed_next c (option_and_then (gathered (given ++ (key, got) ∷ [])) (given_by left None words)) w after word words
        (turn_by c rs pending idle position word [] (held (rows c (given ++ (key, got) ∷ [])) None, next idle) free meets)
        (walked_by c rs pending idle position word [] (held (rows c (given ++ (key, got) ∷ [])) None, next idle) free meets)
        (more.idles left position there (given ++ (key, got) ∷ []) (rows c (given ++ (key, got) ∷ [])) None (clear_none c (given ++ (key, got) ∷ []))))

    -- an option whose value is to come
    idle_opens : (left : List Text) → ArePlaces c position left → (name : Text) → IsLongWord name None word → IsValued c name
        → Agreed c (option_and_then (gathered given) (given_by left (Some name) words)) w (word ∷ words)
    idle_opens left there name long valued =
        let free : Rattle.clap.specs.Faults.other_fault (ours c) None word h ≡ [] =
        long_faults c name None word long h ∙ (λ i. long_fault c false (valued.by_long i) None h)
        ∙ ap (λ b. cond b (settle_fault c false h) (react_fault c false valued.a [] h)) valued.takes ∙ clear.passes in
        let met : long_met c (arg_by_long c name) None h ≡ (held (rows c given) (Some (name, [])), waits name) =
        (λ i. long_met c (valued.by_long i) None h)
        ∙ ap (λ b. cond b (option_met c valued.a None h) (flag_met c valued.a None h)) valued.takes
        ∙ (λ i. (held (clear.rows i) (Some (valued.id i, [])), waits (valued.id i))) in
        let meets = long_meets c name None word long h idle position ∙ ap (λ m. after_flag c idle word m.0 m.1) met in
        agreed_next c (option_and_then (gathered given) (given_by left (Some name) words)) w (stands (rows c given) (Some (name, [])) (option name) position false) word words
        (turn_by c rs pending idle position word [] (held (rows c given) (Some (name, [])), next (option name)) free meets)
        (walked_by c rs pending idle position word [] (held (rows c given) (Some (name, [])), next (option name)) free meets)
        (more.waits left position there given name valued)

    idle_fails : (name : Text) (v : Option Text) → IsLongWord name v word → Fails (long_fault c false (arg_by_long c name) v h) → Fails (tail_fault c w (word ∷ words))
    idle_fails name v long fails = fails_turn c w word words (turn_fails c rs pending idle position word (subst Fails (sym (long_faults c name v word long h)) fails))

    -- `--NAME`
    idle_alone : (left : List Text) → ArePlaces c position left → (name : Text) → IsLongWord name None word
        → Agreed c (option_and_then (gathered given) (given_at (Long name None) left None word (λ l v. given_by l v words) (placed left words))) w (word ∷ words)
    idle_alone left there name long = go (has_value name) refl (bytes_eq name (codes "narrow")) refl
      where
        flag : IsFlag c (codes "narrow")
        flag = is.flag

        is_flag : bytes_eq name (codes "narrow") ≡ true → arg_by_long c name ≡ Some flag.a
        is_flag e = ap (arg_by_long c) ((bytes_eq-Decides name (codes "narrow")).0 e) ∙ flag.by_long

        go : (b : Bool) → has_value name ≡ b → (n : Bool) → bytes_eq name (codes "narrow") ≡ n
            → Agreed c (option_and_then (gathered given) (cond b (given_by left (Some name) words) (cond n (also (codes "narrow") (codes "true") (given_by left None words)) None)))
            w (word ∷ words)
        go true e n e2 = idle_opens left there name long (is.valued name e)
        go false e true e2 =
            idle_put left there name None long (codes "narrow") flag.a [] (codes "true") flag.puts
            ((λ i. long_fault c false (is_flag e2 i) None h) ∙ ap (λ b. cond b (option_fault c false flag.a None h) (react_fault c false flag.a [] h)) flag.takes)
            ((λ i. long_met c (is_flag e2 i) None h) ∙ ap (λ b. cond b (option_met c flag.a None h) (flag_met c flag.a None h)) flag.takes)
        go false e false e2 = idle_fails name None long (is.unknown name e e2 None h)

    -- `--NAME=VALUE`
    idle_joined : (left : List Text) → ArePlaces c position left → (name v : Text) → IsLongWord name (Some v) word
        → Agreed c (option_and_then (gathered given) (given_at (Long name (Some v)) left None word (λ l x. given_by l x words) (placed left words))) w (word ∷ words)
    idle_joined left there name v long = go (has_value name) refl (bytes_eq name (codes "narrow")) refl
      where
        flag : IsFlag c (codes "narrow")
        flag = is.flag

        is_flag : bytes_eq name (codes "narrow") ≡ true → arg_by_long c name ≡ Some flag.a
        is_flag e = ap (arg_by_long c) ((bytes_eq-Decides name (codes "narrow")).0 e) ∙ flag.by_long

        valued_put : (o : IsValued c name) → Agreed c (option_and_then (gathered given) (also name v (given_by left None words))) w (word ∷ words)
        valued_put o =
            idle_put left there name (Some v) long name o.a (v ∷ []) v (o.one v)
            ((λ i. long_fault c false (o.by_long i) (Some v) h) ∙ ap (λ b. cond b (option_fault c false o.a (Some v) h) (kind.TooManyValues ∷ [])) o.takes)
            ((λ i. long_met c (o.by_long i) (Some v) h) ∙ ap (λ b. cond b (option_met c o.a (Some v) h) (flag_met c o.a (Some v) h)) o.takes)

        go : (b : Bool) → has_value name ≡ b → (n : Bool) → bytes_eq name (codes "narrow") ≡ n
            → Agreed c (option_and_then (gathered given) (cond b (also name v (given_by left None words)) None)) w (word ∷ words)
        go true e n e2 = valued_put (is.valued name e)
        go false e true e2 =
            idle_fails name (Some v) long
            (subst Fails (sym ((λ i. long_fault c false (is_flag e2 i) (Some v) h) ∙ ap (λ b. cond b (option_fault c false flag.a (Some v) h) (kind.TooManyValues ∷ [])) flag.takes)) tt)
        go false e false e2 = idle_fails name (Some v) long (is.unknown name e e2 (Some v) h)

    idle_next : (left : List Text) → ArePlaces c position left → Agreed c (option_and_then (gathered given) (given_by left None (word ∷ words))) w (word ∷ words)
    idle_next left there = go (kind_of word) (is_of_kind word)
      where
        go : (k : Kind) → IsOfKind k word → Agreed c (option_and_then (gathered given) (given_at k left None word (λ l v. given_by l v words) (placed left words))) w (word ∷ words)
        go Plain plain = idle_plain left there plain
        go Rest dashes =
            agreed_next c (option_and_then (gathered given) (placed left words)) w (stands rs pending idle position true) word words
            (turn_by c rs pending idle position word [] (h, trailing position) (dashes_fault c word dashes h) (dashes_meet c word dashes h idle position))
            (walked_by c rs pending idle position word [] (h, trailing position) (dashes_fault c word dashes h) (dashes_meet c word dashes h idle position))
            (after_dashes c is words left position there given rs pending idle clear)
        go (Long name None) long = idle_alone left there name long
        go (Long name (Some v)) long = idle_joined left there name v long
        go Other other = fails_turn c w word words (turn_fails c rs pending idle position word (other_fails c is word other utf8 rs pending))

  module _ (name : Text) (valued : IsValued c name) where
    opened : Option (Text × List Text)
    opened = Some (name, [])

    open_fails : Fails (settle_fault c false (held (rows c given) (Some (name, []))))
    open_fails = subst Fails (sym (ap (λ o. option_map_or (λ (b : Rule). use_fault false b [] (rows c given)) o []) (valued.one []).by_id)) (valued.none (rows c given))

    wait_plain : (left : List Text) → ArePlaces c position left → IsPlainWord word
        → Agreed c (option_and_then (gathered given) (also name word (given_by left None words))) (stands (rows c given) (Some (name, [])) (option name) position false) (word ∷ words)
    wait_plain left there plain =
        let w = stands (rows c given) (Some (name, [])) (option name) position false in
        let h = held (rows c given) (Some (name, [])) in
        let after = stands (rows c given) (Some (name, word ∷ [])) idle position false in
        let meets = plain_meets c word plain h (option name) position ∙ value_meets c name valued (rows c given) word in
        let none = turn_by c (rows c given) (Some (name, [])) (option name) position word [] (held (rows c given) (Some (name, word ∷ [])), next idle) (plain_fault c word plain h) meets in
        let moved = walked_by c (rows c given) (Some (name, [])) (option name) position word [] (held (rows c given) (Some (name, word ∷ [])), next idle) (plain_fault c word plain h) meets in
        agreed_also c given name word (given_by left None words) w (word ∷ words)
        (λ known. agreed_next c None w after word words none moved
        (doomed c (rows c given) (Some (name, word ∷ [])) (doomed_pending c given valued.a name word (valued.one word) known) is position left there words texts))
        (λ new. agreed_next c (option_and_then (gathered (given ++ (name, word) ∷ [])) (given_by left None words)) w after word words none moved
        (more.idles left position there (given ++ (name, word) ∷ []) (rows c given) (Some (name, word ∷ []))
        (clear_pending c given valued.a name word (valued.one word) new)))

    wait_next : (left : List Text) → ArePlaces c position left
        → Agreed c (option_and_then (gathered given) (given_by left (Some name) (word ∷ words))) (stands (rows c given) (Some (name, [])) (option name) position false) (word ∷ words)
    wait_next left there = go (kind_of word) (is_of_kind word)
      where
        long : (other : Text) (v : Option Text) → IsLongWord other v word
            → Fails (tail_fault c (stands (rows c given) (Some (name, [])) (option name) position false) (word ∷ words))
        long other v at =
            fails_turn c (stands (rows c given) (Some (name, [])) (option name) position false) word words
            (turn_fails c (rows c given) (Some (name, [])) (option name) position word
            (subst Fails (sym (long_faults c other v word at (held (rows c given) (Some (name, []))))) (long_doomed c (rows c given) (Some (name, [])) open_fails (arg_by_long c other) v)))

        go : (k : Kind) → IsOfKind k word
            → Agreed c (option_and_then (gathered given) (given_at k left (Some name) word (λ l v. given_by l v words) (placed left words)))
            (stands (rows c given) (Some (name, [])) (option name) position false) (word ∷ words)
        go Plain plain = wait_plain left there plain
        go Rest dashes = after_dashes_doomed c (rows c given) (Some (name, [])) open_fails position left there (option name) word words dashes
        go (Long other None) at = long other None at
        go (Long other (Some v)) at = long other (Some v) at
        go Other other =
            fails_turn c (stands (rows c given) (Some (name, [])) (option name) position false) word words
            (turn_fails c (rows c given) (Some (name, [])) (option name) position word (other_fails c is word other utf8 (rows c given) (Some (name, []))))

holds : (c : List Rule) → IsOurs c → (words : List Text) → AreTexts words → Holds c words
holds c is [] texts = record {
  idles = λ left position there given rs pending clear. agreed_end c is given (stands rs pending idle position false) clear.passes clear.rows;
  waits = λ left position there given name valued.
      fails_end c (stands (rows c given) (Some (name, [])) (option name) position false)
      (subst Fails (sym (ap (λ o. option_map_or (λ (b : Rule). use_fault false b [] (rows c given)) o []) (valued.one []).by_id)) (valued.none (rows c given)));
}
holds c is (word ∷ words) texts =
    let more = holds c is words texts.1 in
    record {
      idles = λ left position there given rs pending clear. idle_next c is word texts.0 words texts.1 more position given rs pending clear left there;
      waits = λ left position there given name valued. wait_next c is word texts.0 words texts.1 more position given name valued left there;
    }

-- the parser keeps the values that the words give, or fails where they give none
pub walk_agrees : (c : List Rule) → IsOurs c → (words : List Text) → AreTexts words
    → Agreed c (option_and_then (gathered []) (given_by places None words)) (stands [] None idle 1 false) words
walk_agrees c is words texts = (holds c is words texts).idles places 1 is.places [] [] None (clear_none c [])
