-- The streams of instances, and their names.
use Rattle.std.proofs.Common.{◌≡◌, ◌+◌, ◌-◌, ◌<◌, ℕ, Bool, true, not, ◌||◌, List, [], ◌∷◌, ◌++◌, drop, get_or, length, length-drop, Option, Some, None, IfSome, append_assoc, refl, sym, ap, ap₂, ◌∙◌, subst, arith}
use Rattle.std.specs.Prelude.{bytes_eq, IfNone, Vec, vec_len}
use Rattle.std.specs.declared.alloc.Global.{Global}
use Rattle.std.specs.List.{position}
use Rattle.std.specs.Simd.Lanes.{zip2}
use Rattle.std.proofs.lemmas.List.{at_drop_more, get_or-drop, length-map}
use Rattle.std.proofs.lemmas.Simd.{get_or-zip2, length-zip2}
use Rattle.pr_flat.specs.declared.equations.Operand.{Operand}
use Rattle.pr_flat.specs.Shape.{shapes_of}
use Rattle.pr_flat.specs.Widths.{operand_width}
use Rattle.pr_lang.specs.declared.trees.Program.{Program}
use Rattle.pr_probe.specs.Instances.{instances_of}
use Rattle.pr_scope_names.specs.declared.streams.Instance.{Instance}
use Rattle.pr_width.specs.Reads.{is_within}
use Rattle.pr_lens_probe.proofs.Wide.{output-within}
use Rattle.pr_lens_tracks.specs.declared.looks.Look.{Look}
use Rattle.pr_lens_tracks.specs.declared.looks.Track.{Track}
use Rattle.pr_lens_tracks.specs.declared.pens.Pen.{Pen}
use Rattle.pr_lens_tracks.specs.Texts.{HasWritten}
use Rattle.pr_lens_tracks.specs.Names.{has_name, names_in, unknown_in}
use Rattle.pr_lens_signals.specs.declared.probing.Showing.{Showing}
use Rattle.pr_lens_signals.specs.Manners.{AreKnown, AreNamed, IsForeign, IsUnknownOf, Manner, foreign_in, has_instance, look_with, track_of}
use Rattle.pr_lens_signals.specs.Reading.{all_looks, all_widths, front_of, IsPen, IsReady, tracks_in}

-- ---- widths
-- an output of a program that shows its instances
pub shown-within : (s : Showing) (place : ℕ) (d : Operand) → IsReady s → place < length s.probed.flat.outputs.items → is_within (length s.widths) (get_or s.probed.flat.outputs.items place d) ≡ true
shown-within s place d ready below =
    let count : length s.widths ≡ length (shapes_of s.probed.flat.equations.items) = ready.widths.count ∙ sym (ap length ready.equations) in
    subst (λ (n : ℕ). is_within n (get_or s.probed.flat.outputs.items place d) ≡ true) (sym count)
    (output-within (length (shapes_of s.probed.flat.equations.items)) s.probed.flat.outputs.items place d s.probed.flat.lawful.given below)

pub widths-long : (s : Showing) → IsReady s → length (drop (front_of s) (all_widths s)) ≡ length s.probed.instances.items
widths-long s ready =
    let all : length (all_widths s) ≡ length s.probed.flat.outputs.items = length-map s.probed.flat.outputs.items (operand_width s.widths) in
    let cut : length (drop (front_of s) (all_widths s)) ≡ length (all_widths s) - front_of s = length-drop (front_of s) (all_widths s) in
    omega (arith, all, cut, ready.front, s.probed.flat.outputs.ok.0, s.probed.instances.ok.0)

kinds-long : (s : Showing) → IsReady s → length s.probed.kinds.items ≡ length s.probed.instances.items
kinds-long s ready = omega (arith, ready.kinds, s.probed.kinds.ok.0, s.probed.instances.ok.0)

pub looks-long : (s : Showing) → IsReady s → length (all_looks s) ≡ length s.probed.instances.items
looks-long s ready = length-zip2 look_with s.probed.kinds.items (drop (front_of s) (all_widths s)) (kinds-long s ready ∙ sym (widths-long s ready)) ∙ kinds-long s ready

-- how an instance is shown
pub look-is : (s : Showing) (place : ℕ) (kind c : Bool) (width e : ℕ) (d : Look) → IsReady s → place < length s.probed.instances.items → kind ≡ get_or s.probed.kinds.items place c → width ≡ get_or (all_widths s) (front_of s + place) e → look_with kind width ≡ get_or (all_looks s) place d
look-is s place kind c width e d ready below is wide =
    ap₂ look_with is (wide ∙ sym (get_or-drop (front_of s) (all_widths s) place e))
    ∙ sym (get_or-zip2 look_with s.probed.kinds.items (drop (front_of s) (all_widths s)) place c e d (omega (arith, below, kinds-long s ready)) (omega (arith, below, widths-long s ready)))

pub tracks-long : (signed : Option (List ℕ)) (s : Showing) → IsReady s → length (tracks_in signed s) ≡ length s.probed.instances.items
tracks-long signed s ready = length-zip2 (track_of signed) s.probed.instances.items (all_looks s) (sym (looks-long s ready))

-- a pen for them
pub pen-is : (signed : Option (List ℕ)) (s : Showing) (pen : Pen) (tracks : Vec Track Global) → IsReady s → tracks.items ≡ tracks_in signed s → pen.tracks ≡ tracks → vec_len pen.before ≡ vec_len tracks → HasWritten [] pen → IsPen s pen
pen-is signed s pen tracks ready are same before none =
    let size : length tracks.items ≡ length s.probed.instances.items = ap length are ∙ tracks-long signed s ready in
    let long : vec_len tracks ≡ vec_len s.probed.instances = omega (arith, size, tracks.ok.0, s.probed.instances.ok.0) in
    record { tracks = ap (λ (v : Vec Track Global). vec_len v) same ∙ long; before = before ∙ long; none = none }

-- one stream more
pub track-put : (f : Instance → Look → Track) (instances : List Instance) (looks : List Look) (at : ℕ) (tracks : List Track) (i : Instance) (look : Look) (t : Track) → at < length instances → length looks ≡ length instances → i ≡ get_or instances at i → look ≡ get_or looks at look
    → t ≡ f i look → tracks ++ drop at (zip2 f instances looks) ≡ zip2 f instances looks → (tracks ++ t ∷ []) ++ drop (at + 1) (zip2 f instances looks) ≡ zip2 f instances looks
track-put f instances looks at tracks i look t below long is shown made before =
    let whole = zip2 f instances looks in
    let rest = drop (at + 1) whole in
    let size : length whole ≡ length instances = length-zip2 f instances looks (sym long) in
    let here : get_or whole at t ≡ t =
    get_or-zip2 f instances looks at i look t below (omega (arith, below, long)) ∙ (ap₂ f (sym is) (sym shown) ∙ sym made) in
    append_assoc tracks (t ∷ []) rest
    ∙ (ap (λ (ts : List Track). tracks ++ ts) (ap (λ (x : Track). x ∷ rest) (sym here) ∙ sym (at_drop_more (λ (ts : List Track). ts) whole at t (omega (arith, size, below)))) ∙ before)

-- ---- names
pub found-by : (r whole : Option ℕ) → r ≡ whole → IfSome r (λ place. whole ≡ Some place)
found-by None whole is = tt
found-by (Some place) whole is = sym is

pub none-by : (r whole : Option ℕ) → r ≡ whole → IfNone r (whole ≡ None)
none-by None whole is = sym is
none-by (Some place) whole is = tt

names-same : (signed : Option (List ℕ)) (instances : List Instance) (looks : List Look) → length looks ≡ length instances → (name : List ℕ) → has_name (zip2 (track_of signed) instances looks) name ≡ has_instance instances name
names-same signed [] looks long name = refl
names-same signed (i ∷ is) [] long name = absurd (let no : 0 ≡ length (i ∷ is) = long in omega (arith, no))
names-same signed (i ∷ is) (w ∷ ws) long name =
    ap (λ (b : Bool). bytes_eq i.name name || b) (names-same signed is ws (let more : length (w ∷ ws) ≡ length (i ∷ is) = long in omega (arith, more)) name)

unknown-same : (signed : Option (List ℕ)) (instances : List Instance) (looks : List Look) → length looks ≡ length instances → (list : List ℕ) → unknown_in (zip2 (track_of signed) instances looks) list ≡ foreign_in instances list
unknown-same signed instances looks long list = λ j. position (λ n. not (names-same signed instances looks long n j)) (names_in list)

module _ (manner : Manner) (program : Program) (s : Showing) (ready : IsReady s) (instances : s.probed.instances.items ≡ instances_of program) (tracks : List Track) (are : tracks ≡ tracks_in manner.signed s) where
  unknown-is : (list : List ℕ) → unknown_in tracks list ≡ foreign_in (instances_of program) list
  unknown-is list =
      ap (λ (ts : List Track). unknown_in ts list) are
      ∙ (unknown-same manner.signed s.probed.instances.items (all_looks s) (looks-long s ready) list ∙ ap (λ (is : List Instance). foreign_in is list) instances)

  pub foreign-is : (signed : Option (List ℕ)) (place : ℕ) → manner.signed ≡ signed → IsUnknownOf signed tracks place → IsForeign manner program place
  foreign-is None place given is = absurd is
  foreign-is (Some list) place given is = record { list = list; given = given; is = sym (unknown-is list) ∙ is }

  named-by : (signed : Option (List ℕ)) → AreKnown signed tracks → IfSome signed (λ list. foreign_in (instances_of program) list ≡ None)
  named-by None known = tt
  named-by (Some list) known = sym (unknown-is list) ∙ known

  pub named-are : AreKnown manner.signed tracks → AreNamed manner program
  named-are known = named-by manner.signed known
