-- What a feed answers.
use Rattle.std.specs.Prelude.{ℕ, Bool, true, false, if◌then◌else◌}
use Rattle.pr_samples.specs.declared.feed.Got.{Got}

-- a sample is given
abbrev pub is_sample : Got → Bool
is_sample Got.Sample = true
is_sample Got.End = false
is_sample (Got.BadSample line) = false
is_sample Got.ReadFault = false
is_sample (Got.Limit cap) = false

-- the number of samples that are given
abbrev pub given_by : Got → ℕ
given_by got = if is_sample got then 1 else 0
