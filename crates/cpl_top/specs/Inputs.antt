-- A grid, a namelist and a state, as the commands of the coupled run read them.
use Rattle.std.specs.Prelude.{ℕ, List, Bool}
use Rattle.cpl_io.specs.Files.{Files}
use Rattle.cpl_top.specs.Limits.{limit_of}
use Rattle.cpl_top.specs.Reads.{Reads, Ask, AreBytes}
use Rattle.cpl_top.specs.declared.inputs.Inputs.{Inputs}
use Rattle.cpl_top.specs.declared.status.Which.TheVariants as which

-- the three files are read in this order, and then the tree goes on by their bytes
abbrev pub ask_inputs : List ℕ → List ℕ → List ℕ → (List ℕ → List ℕ → List ℕ → Reads) → Reads
ask_inputs grid names start rest =
    Ask which.Grid grid (limit_of which.Grid) (λ grid_bytes.
    Ask which.Names names (limit_of which.Names) (λ names_bytes.
    Ask which.Start start (limit_of which.Start) (λ start_bytes. rest grid_bytes names_bytes start_bytes)))

-- the bytes of the three
pub record AreInputs (told : Bool) (files : Files) (grid names start : List ℕ) (inputs : Inputs) : Type 0 where
  pub grid_bytes : AreBytes told files grid (limit_of which.Grid) inputs.grid.items
  pub names_bytes : AreBytes told files names (limit_of which.Names) inputs.names.items
  pub start_bytes : AreBytes told files start (limit_of which.Start) inputs.start.items
