-- The text of a bench.
use Rattle.std.specs.Prelude.{ℕ, List, ◌++◌, codes, decimal, length}
use Rattle.pr_lang.specs.declared.trees.Program.{Program}
use Rattle.pr_lang_meaning.specs.Programs.{out}
use Rattle.pr_lens_bench.specs.declared.pieces.Piece.{Piece}
use Rattle.pr_lens_bench.specs.declared.texts.Design.{Design}
use Rattle.pr_lens_bench.specs.Pieces.{pieces_text}
use Rattle.pr_lens_bench.specs.Cells.{rows_text}

-- how many samples were offered and how many results taken; of a hundred clocks in how many a sample is offered, and a
-- result taken; and what decides it
unfoldable pub head_text : (seed count : ℕ) → List ℕ
head_text seed count =
    codes "`timescale 1ns/1ps\n/* verilator lint_off WIDTH */\nmodule bench;\n"
    ++ codes "  reg clock = 0, reset = 1, in_valid = 0, out_ready = 0, failed = 0;\n  wire in_ready, out_valid;\n"
    ++ codes "  reg [31:0] clocks = 0, offered = 0, taken = 0, valid = 70, ready = 70, given = 0;\n  reg [31:0] count = 32'd"
    ++ decimal count ++ codes ", dice = 32'd" ++ decimal seed ++ codes ";\n"

-- the module, up to its numbers
unfoldable pub module_text : List ℕ → List ℕ
module_text name =
    codes "  " ++ name ++ codes " dut (\n    .clock(clock),\n    .reset(reset),\n    .in_valid(in_valid),\n"
    ++ codes "    .in_ready(in_ready),\n    .out_valid(out_valid),\n    .out_ready(out_ready)"

-- the words of a simulator's call may change what decides
unfoldable pub begin_text : List ℕ
begin_text =
    codes ");\n  initial begin\n    given = $value$plusargs(\"seed=%d\", dice);\n"
    ++ codes "    given = $value$plusargs(\"valid=%d\", valid);\n    given = $value$plusargs(\"ready=%d\", ready);\n"

unfoldable pub drive_text : List ℕ
drive_text =
    codes "  end\n  always #5 clock = ~clock;\n  // Inputs change between two rising edges.\n  always @(negedge clock) begin\n"
    ++ codes "    clocks = clocks + 1;\n    if (clocks == 3) reset = 0;\n    if (clocks > 3) begin\n"
    ++ codes "      dice = dice * 32'd1664525 + 32'd1013904223;\n"
    ++ codes "      in_valid = offered < count && (dice >> 16) % 100 < valid;\n"
    ++ codes "      dice = dice * 32'd1664525 + 32'd1013904223;\n      out_ready = (dice >> 16) % 100 < ready;\n    end\n"

unfoldable pub look_text : List ℕ
look_text =
    codes "  end\n  // At a rising edge, a result is taken as it stands before it.\n"
    ++ codes "  always @(posedge clock) if (!reset && !failed) begin\n    if (out_valid && out_ready) begin\n"

unfoldable pub end_text : List ℕ
end_text =
    codes "      taken = taken + 1;\n    end\n    if (in_valid && in_ready) offered = offered + 1;\n    if (failed) $finish;\n"
    ++ codes "    else if (taken == count) begin\n      $display(\"%0d results, all as expected\", taken);\n      $finish;\n"
    ++ codes "    end else if (clocks > 200 * count + 200000) begin\n"
    ++ codes "      $display(\"only %0d of %0d results came\", taken, count);\n      $finish;\n    end\n  end\nendmodule\n"

-- what stands before the lines of so many samples, and behind them
unfoldable pub before_text : Design → ℕ → List ℕ
before_text design count =
    head_text design.seed count ++ pieces_text Piece.Sample count design.inputs.items ++ pieces_text Piece.Wanted count design.outputs.items
    ++ module_text design.name.items ++ pieces_text Piece.Link count design.inputs.items ++ pieces_text Piece.Link count design.outputs.items
    ++ begin_text

unfoldable pub behind_text : Design → List ℕ
behind_text design =
    drive_text ++ pieces_text Piece.Offer 0 design.inputs.items ++ look_text ++ pieces_text Piece.Check 0 design.outputs.items ++ end_text

-- the lines of samples, and the whole
abbrev pub lines_text : Design → (samples results : List (List ℕ)) → List ℕ
lines_text design samples results = rows_text design.inputs.items design.outputs.items 0 samples results

abbrev pub bench_text : Design → (samples results : List (List ℕ)) → List ℕ
bench_text design samples results = before_text design (length samples) ++ lines_text design samples results ++ behind_text design

-- the same of samples and what a program means on them
abbrev pub lines_on : Program → Design → List (List ℕ) → List ℕ
lines_on program design samples = lines_text design samples (out program samples)

abbrev pub bench_on : Program → Design → List (List ℕ) → List ℕ
bench_on program design samples = bench_text design samples (out program samples)
