-- The labels of streams.
use Rattle.std.specs.Prelude.{ℕ, List, ◌++◌, codes, decimal}
use Rattle.pr_lens_origins.specs.declared.streams.Stream.{Stream}
use Rattle.pr_lens_origins.specs.Origins.{stream_text}

-- a stream with the line of its name, as in `line 12, s[3]`
abbrev pub label_of : Stream → List ℕ
label_of stream = codes "line " ++ decimal stream.spot.line ++ codes ", " ++ stream_text stream
