-- Lines that are written while samples are read.
use Rattle.std.specs.Prelude.{◌≡◌, ◌-◌, ◌^◌, ◌≤◌, ⊤, ℕ, List, [], drop, map, take, Option, vec_len}
use Rattle.std.specs.List.{All}
use Rattle.std.specs.Simd.Lanes.{zip2}
use Rattle.pr_edge.specs.Count.{Rose}
use Rattle.pr_edge.specs.Files.{Told}
use Rattle.pr_lang.specs.declared.trees.Program.{Program}
use Rattle.pr_base.specs.Rows.{IsRow}
use Rattle.pr_flat.specs.Shape.{shapes_of}
use Rattle.pr_flat.specs.Values.{input_widths}
use Rattle.pr_flat.specs.Widths.{AreWidths, operand_width}
use Rattle.pr_expand_spec.specs.Programs.{equations_of}
use Rattle.pr_probe.specs.Instances.{instances_of}
use Rattle.pr_source.specs.Outputs.{given_all}
use Rattle.pr_run.specs.Setting.{IsFresh}
use Rattle.pr_samples.specs.declared.feed.Feed.{Feed}
use Rattle.pr_samples.specs.declared.feed.Got.{Got}
use Rattle.pr_samples.specs.Feed.{widths_of, limit_of, most_of, fed, ReadsOn}
use Rattle.pr_tool_answers.specs.declared.answers.Answer.{Answer}
use Rattle.pr_tool_modes.specs.Evaluations.{AreAll}
use Rattle.pr_lens_probe.specs.Given.{HaveKinds}
use Rattle.pr_lens_probe.specs.Shown.{Shows}
use Rattle.pr_lens_tracks.specs.declared.pens.Pen.{Pen}
use Rattle.pr_lens_tracks.specs.declared.looks.Look.{Look}
use Rattle.pr_lens_tracks.specs.declared.looks.Track.{Track}
use Rattle.pr_lens_tracks.specs.Texts.{HasWritten}
use Rattle.pr_lens_signals.specs.Manners.{AreNamed, Manner, look_with, tracks_of}
use Rattle.pr_lens_signals.specs.declared.probing.Showing.{Showing}

-- the instances of a program are shown behind its outputs, with their kinds, and these are the widths of its equations
pub record IsShowing (program : Program) (s : Showing) : Type 0 where
  pub shows : Shows program s.probed
  pub kinds : HaveKinds program (instances_of program) s.probed.kinds.items
  pub widths : AreWidths (equations_of program).equations s.widths

-- how many outputs stand before the instances
abbrev pub front_of : Showing → ℕ
front_of s = vec_len s.probed.flat.outputs - vec_len s.probed.instances

-- its equations, their widths, no more instances than outputs, and a kind for each instance
pub record IsReady (s : Showing) : Type 0 where
  pub equations : shapes_of s.probed.flat.equations.items ≡ (equations_of s.probed.scoped.program).equations
  pub widths : AreWidths (equations_of s.probed.scoped.program).equations s.widths
  pub front : vec_len s.probed.instances ≤ vec_len s.probed.flat.outputs
  pub kinds : vec_len s.probed.kinds ≡ vec_len s.probed.instances

-- the widths of all outputs
abbrev pub all_widths : Showing → List ℕ
all_widths s = map (operand_width s.widths) s.probed.flat.outputs.items

-- how the instances are shown by themselves
abbrev pub all_looks : Showing → List Look
all_looks s = zip2 look_with s.probed.kinds.items (drop (front_of s) (all_widths s))

abbrev pub tracks_in : Option (List ℕ) → Showing → List Track
tracks_in signed s = tracks_of signed s.probed.instances.items (all_looks s)

-- a pen that wrote nothing yet has a stream, and room for a number, for each instance
pub record IsPen (s : Showing) (pen : Pen) : Type 0 where
  pub tracks : vec_len pen.tracks ≡ vec_len s.probed.instances
  pub before : vec_len pen.before ≡ vec_len s.probed.instances
  pub none : HasWritten [] pen

-- a program shows its instances, and a pen writes them in this manner
pub record IsSetUp (manner : Manner) (program : Program) (s : Showing) (pen : Pen) : Type 0 where
  pub showing : IsShowing program s
  pub named : AreNamed manner program
  pub form : pen.form ≡ manner.form
  pub tracks : pen.tracks.items ≡ tracks_in manner.signed s

-- rows without so many numbers at their front
abbrev pub cut_rows : ℕ → List (List ℕ) → List (List ℕ)
cut_rows front rows = map (drop front) rows

-- a feed that was not asked yet, with inputs of these widths, over a file of any length
pub record IsLongFeed (widths : List ℕ) (feed : Feed) : Type 0 where
  pub fresh : IsFresh feed
  pub inputs : widths_of feed ≡ widths
  pub limit : limit_of feed ≡ 2 ^ 44
  pub most : most_of feed ≡ 2 ^ 40

-- these are the first samples that such a feed gives of a file
abbrev pub AreFirst : Feed → List ℕ → List (List ℕ) → Type 0
AreFirst feed file samples = (k : ℕ) × (samples ≡ take k (fed feed file).samples)

-- each sample has a number for each input
abbrev pub AreLawful : Showing → List (List ℕ) → Type 0
AreLawful s samples = All (IsRow (input_widths (shapes_of s.probed.flat.equations.items))) samples

-- the numbers of the instances at each of these samples, as the equations give them
abbrev pub instance_rows : Showing → List (List ℕ) → List (List ℕ)
instance_rows s samples = cut_rows (front_of s) (given_all (shapes_of s.probed.flat.equations.items) s.probed.flat.outputs.items s.widths samples)

-- a feed was read to its end, and the rows on all samples of each file that begins so are put
pub record HasEnded (told : Told) (s : Showing) (first now : Feed) (end : Got) (Put : List (List ℕ) → Type 0) : Type 0 where
  pub samples : List (List ℕ)
  pub lawful : AreLawful s samples
  pub reads : ReadsOn told [] first now (λ file. AreAll first file samples end)
  pub text : Put (instance_rows s samples)

-- a feed was read so far, and the rows on these first samples of each file that begins so are put
pub record HasBegun (told : Told) (s : Showing) (first now : Feed) (Put : List (List ℕ) → Type 0) : Type 0 where
  pub samples : List (List ℕ)
  pub lawful : AreLawful s samples
  pub reads : ReadsOn told [] first now (λ file. AreFirst first file samples)
  pub text : Put (instance_rows s samples)

-- why a line was not written whole
abbrev pub IsWriteCause : ℕ → ℕ → Answer → Type 0
IsWriteCause before now Answer.WriteFault = Rose before now
IsWriteCause before now Answer.Memory = ⊤
IsWriteCause before now answer = ⊥
