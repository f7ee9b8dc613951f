use Rattle.std.proofs.Common.{codes}
use Rattle.std.proofs.lemmas.Result.{on_ok_weaker}
use Rattle.pr_lens_tracks.specs.Waves.{time_text, variables_text, wave_head}
use Rattle.pr_lens_text.proofs.PutLemmas.{five_put}
use Rattle.pr_lens_tracks.proofs.waves.put_wave_head.Goals as goal

pub returns : goal.returns
unfolding wave_head
returns c = on_ok_weaker c.put_time.result
    (λ h. five_put c.args.text.now.items (codes "$comment the named streams of a program, a step of time for each sample $end\n") (codes "$timescale 1 ns $end\n$scope module program $end\n") (variables_text 0 c.args.tracks.now)
    (codes "$upscope $end\n$enddefinitions $end\n") (time_text 0) c.in_ok-put.ensures c.in_ok-put-2.ensures c.in_ok-put_variables.ensures c.in_ok-put-3.ensures h)
    c.put_time.ensures
