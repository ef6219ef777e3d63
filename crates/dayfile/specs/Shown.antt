-- What a layer and a fault are printed as.
use Rattle.std.specs.Prelude.{List, ℕ, ◌++◌, codes, decimal}
use Rattle.dayfile.specs.declared.fault.Layer.{Layer}
use Rattle.dayfile.specs.declared.fault.Layer.TheVariants as layer
use Rattle.dayfile.specs.declared.fault.Fault.{Fault}
use Rattle.dayfile.specs.Faults.{tells, expects}

abbrev pub layer_name : Layer → List ℕ
layer_name layer.File = codes "file"
layer_name layer.Record = codes "record"
layer_name layer.Memo = codes "memo"

-- the layer, the number and the place, and what was expected there
abbrev pub fault_text : Fault → List ℕ
fault_text fault =
    let told = tells fault in
    layer_name told.layer ++ codes " " ++ decimal told.number ++ codes " at " ++ decimal told.place ++ codes " " ++ expects fault
