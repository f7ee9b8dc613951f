-- The streams that names stand for, and operators on whole streams.
use Rattle.std.specs.Prelude.{ℕ, false, cond, ◌&&◌, nat_le, List, [], ◌∷◌, ◌++◌, map, take, replicate, get_or, Option, Some, None, option_map, bytes_eq}
use Rattle.std.specs.Option.{option_and_then}
use Rattle.pr_flat.specs.declared.equations.Op.{Op}
use Rattle.pr_flat.specs.declared.forms.Form.{Form}
use Rattle.pr_flat.specs.declared.forms.Point.{Point}
use Rattle.pr_flat.specs.Forms.{Stream, value, residue, number_width, numbers_by}
use Rattle.pr_flat.specs.Rows.{takes, natural_form, natural_number}
use Rattle.pr_flat.specs.Facts.{is_width}
use Rattle.pr_scope_names.specs.Names.{same_place}

-- a stream, and the number that stands before its first one
pub record Bound : Type 0 where
  pub init : ℕ
  pub stream : Stream

-- what each stream instance stands for: a name alone, or a name with an index
abbrev pub Streams : Type 0
Streams = List ℕ → Option ℕ → Option Bound

abbrev pub no_streams : Streams
no_streams = λ name place. None

abbrev pub with_bound : List ℕ → Option ℕ → Bound → Streams → Streams
with_bound name place b env = λ q r. cond (bytes_eq name q && same_place place r) (Some b) (env q r)

-- a name that is assigned is 0 before its first sample
abbrev pub with_stream : List ℕ → Option ℕ → Stream → Streams → Streams
with_stream name place s env = with_bound name place (record { init = 0; stream = s }) env

-- what an expression reads of a stream instance: its numbers, and those of so many samples earlier
pub record Sources : Type 0 where
  pub now : List ℕ → Option ℕ → Option Stream
  pub past : List ℕ → Option ℕ → ℕ → Option Stream

-- k times the number before the first one, then the stream's own, cut to m numbers
abbrev pub delayed : ℕ → ℕ → Bound → Stream
delayed m k b = record { form = b.stream.form; numbers = take m (replicate k b.init ++ b.stream.numbers) }

abbrev pub sources : ℕ → Streams → Sources
sources m env = record { now = λ name place. option_map (λ (b : Bound). b.stream) (env name place); past = λ name place k. option_map (delayed m k) (env name place) }

-- the same number at each of m samples
abbrev pub constant_stream : ℕ → ℕ → Stream
constant_stream m n = record { form = record { signed = false; width = number_width n }; numbers = replicate m n }

-- the same values modulo 2 to the power of w
abbrev pub fitted : ℕ → Stream → Stream
fitted w s = record { form = record { signed = s.form.signed; width = w }; numbers = map (λ n. residue w (value s.form n)) s.numbers }

-- a stream that an operator, a call or a name without declared width takes is at most 128 bits wide
abbrev pub within_greatest : Stream → Option Stream
within_greatest s = cond (nat_le s.form.width 128) (Some s) None

abbrev pub part : Option Stream → Option Stream
part s = option_and_then within_greatest s

-- all parts, or none where one is none
abbrev pub all_parts : List (Option Stream) → Option (List Stream)
all_parts [] = Some []
all_parts (o ∷ os) = option_and_then (λ s. option_map (λ ss. s ∷ ss) (all_parts os)) (part o)

-- what is assigned: the declared width counts where there is one; no stream has a width outside 1 to 128
abbrev pub assigned : Option ℕ → Option Stream → Option Stream
assigned None s = part s
assigned (Some w) s = cond (is_width w) (option_map (fitted w) s) None

abbrev pub form_of : Stream → Form
form_of s = s.form

abbrev pub point_at : ℕ → Stream → Point
point_at n s = record { form = s.form; number = get_or s.numbers n 0 }

-- an operator on streams of m numbers, place by place
abbrev pub operated : ℕ → Op → List Stream → Stream
operated m op ss = record { form = natural_form op (map form_of ss); numbers = numbers_by m (λ n. natural_number op (map (point_at n) ss)) }

abbrev pub operate_on : ℕ → Op → List Stream → Option Stream
operate_on m op ss = cond (takes op (map form_of ss)) (Some (operated m op ss)) None

abbrev pub operate : ℕ → Op → List (Option Stream) → Option Stream
operate m op parts = option_and_then (operate_on m op) (all_parts parts)
