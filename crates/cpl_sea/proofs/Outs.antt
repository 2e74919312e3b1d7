-- What moves out of a cell is what its faces see.
use Rattle.std.proofs.Common.{◌≡◌, refl, ap, ℕ, ◌<◌}
use Rattle.cpl_ice.specs.declared.parts.Salty.{Salty}
use Rattle.cpl_transport.specs.Salts.{joined, turned}
use Rattle.cpl_sea.specs.declared.links.SideFace.{SideFace}
use Rattle.cpl_sea.specs.declared.links.SideFace.TheVariants.{Alone, First, Second}
use Rattle.cpl_sea.specs.declared.links.CellFaces.{CellFaces}
use Rattle.cpl_sea.specs.Links.{seen_flow}
use Rattle.cpl_sea.specs.Passes.{AreSidesWithin, IsSideWithin, out_of}

module _ (count : ℕ) (g h : ℕ → Salty) (same : (f : ℕ) → f < count → g f ≡ h f) where
  seen_same : (side : SideFace) → IsSideWithin count side → seen_flow g side ≡ seen_flow h side
  seen_same Alone within = refl
  seen_same (First f) within = same f within
  seen_same (Second f) within = ap turned (same f within)

  pub out_same : (faces : CellFaces) → AreSidesWithin count faces → out_of g faces ≡ out_of h faces
  out_same faces within =
      let west = seen_same faces.west within.west in
      let east = seen_same faces.east within.east in
      let south = seen_same faces.south within.south in
      let north = seen_same faces.north within.north in
      λ i. joined (joined (west i) (east i)) (joined (south i) (north i))
