-- How the streams of a program are shown.
use Rattle.std.specs.Prelude.{◌≡◌, ℕ, Bool, not, ◌&&◌, ◌||◌, List, Option, Some, None, IfSome, bytes_eq, option_map}
use Rattle.std.specs.List.{list_any, position}
use Rattle.std.specs.Simd.Lanes.{zip2}
use Rattle.pr_lang.specs.declared.trees.Program.{Program}
use Rattle.pr_scope_names.specs.declared.streams.Instance.{Instance}
use Rattle.pr_flat.specs.Forms.{Stream}
use Rattle.pr_probe.specs.Instances.{instances_of}
use Rattle.pr_lens_probe.specs.Kinds.{has_room, is_signed}
use Rattle.pr_lens_tracks.specs.declared.looks.Form.{Form}
use Rattle.pr_lens_tracks.specs.declared.looks.Look.{Look}
use Rattle.pr_lens_tracks.specs.declared.looks.Track.{Track}
use Rattle.pr_lens_tracks.specs.Names.{is_listed, names_in, unknown_in}
use Rattle.pr_lens_signals.specs.declared.tracks.Style.{Style}

-- the kind of the text, and the list of the names that are shown as two's complement in any case, where there is one
pub record Manner : Type 0 where
  pub form : Form
  pub signed : Option (List ℕ)

abbrev pub manner_of : Style → Manner
manner_of style = record { form = style.form; signed = option_map (λ s. s.now) style.signed }

abbrev pub look_with : Bool → ℕ → Look
look_with signed width = record { width = width; signed = signed }

-- how a stream of a program is shown by itself: a signed one as two's complement, where its kind is told
abbrev pub look_in : Program → Stream → Look
look_in program s = look_with (has_room program && is_signed s) s.form.width

-- An instance whose stream is shown so. It is shown as two's complement in any case where its name is listed
abbrev pub track_of : Option (List ℕ) → Instance → Look → Track
track_of signed i look = record {
  name = i.name;
  index = i.index;
  look = look_with (look.signed || is_listed signed i.name) look.width;
}

abbrev pub tracks_of : Option (List ℕ) → List Instance → List Look → List Track
tracks_of signed instances looks = zip2 (track_of signed) instances looks

-- whether an instance has the name
abbrev pub has_instance : List Instance → List ℕ → Bool
has_instance instances name = list_any (λ i. bytes_eq i.name name) instances

-- the place of the first name of a list that no instance has
abbrev pub foreign_in : List Instance → List ℕ → Option ℕ
foreign_in instances list = position (λ n. not (has_instance instances n)) (names_in list)

-- the same of streams as they are shown
abbrev pub IsUnknownOf : Option (List ℕ) → List Track → ℕ → Type 0
IsUnknownOf None tracks place = ⊥
IsUnknownOf (Some list) tracks place = unknown_in tracks list ≡ Some place

abbrev pub AreKnown : Option (List ℕ) → List Track → Type 0
AreKnown signed tracks = IfSome signed (λ list. unknown_in tracks list ≡ None)

-- each name of the list is one of the program's streams
abbrev pub AreNamed : Manner → Program → Type 0
AreNamed manner program = IfSome manner.signed (λ list. foreign_in (instances_of program) list ≡ None)

-- the first name of the list that is none stands at this place
pub record IsForeign (manner : Manner) (program : Program) (place : ℕ) : Type 0 where
  pub list : List ℕ
  pub given : manner.signed ≡ Some list
  pub is : foreign_in (instances_of program) list ≡ Some place
