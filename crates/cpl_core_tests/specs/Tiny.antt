-- A wiring of two pieces and one edge.
use Rattle.std.specs.Prelude.{[], ◌∷◌, pos}
use Rattle.cpl_core.specs.declared.wiring.Act.TheVariants.{Post, Take, Compute}
use Rattle.cpl_core.specs.declared.wiring.Wires.{Wires}

-- piece 0 posts the lists 7 and 8 on edge 0 and then computes, and piece 1 takes both
abbrev pub tiny : Wires
tiny = record {
  channels = record { from = 0; to = 1; len = 1; values = (pos 7 ∷ []) ∷ (pos 8 ∷ []) ∷ [] } ∷ [];
  scripts = (Post 0 ∷ Post 0 ∷ Compute ∷ []) ∷ (Take 0 ∷ Take 0 ∷ []) ∷ [];
}
