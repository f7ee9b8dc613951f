-- The names of ports.
use Rattle.std.specs.Prelude.{◌≡◌, ℕ, ◌==◌, ◌||◌, ◌&&◌, Bool, true, false, List, [], ◌∷◌, ◌++◌, Option, Some, None, codes, take, length, nat_le, bytes_eq, if◌then◌else◌, option_to_list}
use Rattle.std.specs.List.{flat_map, list_all}
use Rattle.pr_lang.specs.Spelling.{is_name_byte}
use Rattle.pr_lang.specs.declared.trees.Item.{Item}
use Rattle.pr_lang.specs.declared.trees.Item.TheVariants as item
use Rattle.pr_lens_rtl_names.specs.declared.names.Side.{Side}

-- ---- words that no port may have
-- the words of Verilog and of SystemVerilog, with a space before and behind each
unfoldable pub language_text : List ℕ
language_text =
    codes " accept_on alias always always_comb always_ff always_latch and assert assign assume automatic before "
    ++ codes "begin bind bins binsof bit break buf bufif0 bufif1 byte case casex casez cell chandle checker class "
    ++ codes "clocking cmos config const constraint context continue cover covergroup coverpoint cross deassign "
    ++ codes "default defparam design disable dist do edge else end endcase endchecker endclass endclocking endconfig "
    ++ codes "endfunction endgenerate endgroup endinterface endmodule endpackage endprimitive endprogram endproperty "
    ++ codes "endsequence endspecify endtable endtask enum event eventually expect export extends extern final "
    ++ codes "first_match for force foreach forever fork forkjoin function generate genvar global highz0 highz1 if "
    ++ codes "iff ifnone ignore_bins illegal_bins implements implies import incdir include initial inout input inside "
    ++ codes "instance int integer interconnect interface intersect join join_any join_none large let liblist library "
    ++ codes "local localparam logic longint macromodule matches medium modport module nand negedge nettype new "
    ++ codes "nexttime nmos nor noshowcancelled not notif0 notif1 null or output package packed parameter pmos "
    ++ codes "posedge primitive priority program property protected pull0 pull1 pulldown pullup pulsestyle_ondetect "
    ++ codes "pulsestyle_onevent pure rand randc randcase randsequence rcmos real realtime ref reg reject_on release "
    ++ codes "repeat restrict return rnmos rpmos rtran rtranif0 rtranif1 s_always s_eventually s_nexttime s_until "
    ++ codes "s_until_with scalared sequence shortint shortreal showcancelled signed small soft solve specify "
    ++ codes "specparam static string strong strong0 strong1 struct super supply0 supply1 sync_accept_on "
    ++ codes "sync_reject_on table tagged task this throughout time timeprecision timeunit tran tranif0 tranif1 tri "
    ++ codes "tri0 tri1 triand trior trireg type typedef union unique unique0 unsigned until until_with untyped use "
    ++ codes "uwire var vectored virtual void wait wait_order wand weak weak0 weak1 while wildcard wire with within "
    ++ codes "wor xnor xor "

-- those of the handshake, and the name of the module of a test bench
unfoldable pub handshake_text : List ℕ
handshake_text = codes " bench clock in_ready in_valid out_ready out_valid reset "

-- a text begins with another one, and a text occurs in another one
abbrev pub begins : (text front : List ℕ) → Bool
begins text front = nat_le (length front) (length text) && bytes_eq (take (length front) text) front

abbrev pub occurs : (text piece : List ℕ) → Bool
occurs [] piece = false
occurs (c ∷ cs) piece = begins (c ∷ cs) piece || occurs cs piece

abbrev pub spaced : List ℕ → List ℕ
spaced name = 32 ∷ (name ++ 32 ∷ [])

abbrev pub is_reserved : List ℕ → Bool
is_reserved name = occurs language_text (spaced name)

abbrev pub is_handshake : List ℕ → Bool
is_handshake name = occurs handshake_text (spaced name)

abbrev pub is_word : List ℕ → Bool
is_word name = is_reserved name || is_handshake name

-- a name without the underscores at its end
abbrev pub stem_behind : ℕ → List ℕ → List ℕ
stem_behind c [] = if c == 95 then [] else c ∷ []
stem_behind c (d ∷ ds) = c ∷ (d ∷ ds)

abbrev pub stem : List ℕ → List ℕ
stem [] = []
stem (c ∷ cs) = stem_behind c (stem cs)

-- such a word, also with underscores behind it, gets one more: so names stay distinct
abbrev pub port_name : List ℕ → List ℕ
port_name name = if is_word (stem name) then name ++ 95 ∷ [] else name

-- ---- the names of a program
-- letters, digits and underscores
abbrev pub IsName : List ℕ → Type 0
IsName name = list_all is_name_byte name ≡ true

abbrev pub name_in : Side → Item → Option (List ℕ)
name_in Side.Input (item.Input name width) = Some name
name_in Side.Output (item.Output name width value) = Some name
name_in side other = None

abbrev pub names_in : Side → List Item → List (List ℕ)
names_in side items = flat_map (λ i. option_to_list (name_in side i)) items
