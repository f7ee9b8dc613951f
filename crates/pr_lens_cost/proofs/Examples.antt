-- Parts of the object of a cost, computed.
use Rattle.std.proofs.Common.{◌≡◌, refl, codes, true, false, Some, None}
use Rattle.std.specs.Fmt.{digits}
use Rattle.pr_base.specs.declared.fabrics.Fabric.{Fabric}
use Rattle.pr_lens_cost.specs.Objects.{other_way, run_object, setting_text, stage_object, way_member}

setting : setting_text (record { fabric = Fabric.Wide; narrowed = true; samples = 7 }) ≡ codes "{\"fabric\":\"wide\",\"narrowed\":true,\"columns\":32"
unfolding digits setting_text
setting = refl

-- the program is refused the other way
refused : other_way None ≡ codes ",\"other_way\":null"
refused = refl

accepted : other_way (Some (record { narrowed = false; units = 95; stages = 21 })) ≡ codes ",\"other_way\":{\"narrowed\":false,\"units\":95,\"stages\":21}"
unfolding digits way_member
accepted = refl

-- only the first of a list has no comma before it
first_stage : stage_object (0, record { cells = 2; writes = 2; states = 0 }) ≡ codes "{\"columns\":2,\"registers\":2,\"states\":0}"
unfolding digits stage_object
first_stage = refl

second_run : run_object (1, record { stripes = 3; rate = record { samples = 2; cycles = 5 }; cycles = 12 }) ≡ codes ",{\"stripes\":3,\"rate\":{\"samples\":2,\"cycles\":5},\"cycles\":12}"
unfolding digits run_object
second_run = refl
