-- The places of a window, as the program keeps them.
use Rattle.std.specs.Prelude.{ℕ, List, [], ◌∷◌}
use Rattle.cpl_combine.specs.declared.places.Places.{Places}

-- section by section
abbrev pub lists_of : Places → List (List ℕ)
lists_of it =
    it.cells ∷ it.cells ∷ it.cells ∷ it.cells ∷ it.cells ∷ it.parts ∷ it.ice ∷ it.ice
    ∷ it.water ∷ it.water ∷ it.water ∷ it.faces ∷ it.to_ice ∷ it.to_ocean ∷ []
