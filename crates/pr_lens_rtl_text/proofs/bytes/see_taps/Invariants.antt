use Rattle.std.proofs.Common.{◌≡◌, true, take}
use Rattle.std.specs.List.{list_all}
use Rattle.pr_code.specs.Spelling.{has_tap_byte}
use Rattle.pr_lens_rtl_text.proofs.bytes.see_taps.Given as goal

abbrev pub invariant-loop-tap : goal.invariant-loop-tap
invariant-loop-tap l = list_all has_tap_byte (take l.tap-index l.taps) ≡ true
