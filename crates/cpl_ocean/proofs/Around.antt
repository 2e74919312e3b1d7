-- What lies around a cell, in fields of one shape.
use Rattle.std.proofs.Common.{◌≡◌, refl, ap, ℕ, ◌+◌, ◌-◌, ◌≤◌, arith, Bool, true, false}
use Rattle.std.specs.Prelude.{nat_lt, if◌then◌else◌}
use Rattle.cpl_mosaic.specs.Sides.{opposite}
use Rattle.cpl_mosaic.specs.declared.parts.Side.{Side}
use Rattle.cpl_mosaic.specs.declared.parts.Side.TheVariants.{W, E, S, N}
use Rattle.cpl_field.specs.Spots.{FieldNumbers, Spot, CellAt, HoleAt, IsSpot, IsSameShape, out_from}
use Rattle.cpl_field.proofs.Out.{out_stands}
use Rattle.cpl_ocean.specs.Flows.{behind, beyond, is_wet}

-- it has one name
pub out_same : (f g : FieldNumbers) → IsSameShape f g → (i j : ℕ) (side : Side) (d : ℕ) → out_from g i j side d ≡ out_from f i j side d
out_same f g same i j W d = refl
out_same f g same i j E d = ap (λ n. if nat_lt (i + d) n then CellAt (i + d) j else HoleAt E j (i + d + 1 - n)) same.nx
out_same f g same i j S d = refl
out_same f g same i j N d = ap (λ n. if nat_lt (j + d) n then CellAt i (j + d) else HoleAt N i (j + d + 1 - n)) same.ny

-- it is a cell or a hole
pub out_on : (f : FieldNumbers) (i j : ℕ) (side : Side) (d : ℕ) → IsSpot f (CellAt i j) → 1 ≤ d → d ≤ f.width → IsSpot f (out_from f i j side d)
out_on f i j side d on some most = let out = out_stands f i j side d on some most in out.on

-- a spot of one is a spot of the other
pub spot_same : (f g : FieldNumbers) → IsSameShape f g → (spot : Spot) → IsSpot f spot → IsSpot g spot
spot_same f g same (CellAt i j) on = let nx = same.nx in let ny = same.ny in (omega arith, omega arith)
spot_same f g same (HoleAt W k depth) on = let ny = same.ny in let width = same.width in (omega arith, omega arith, omega arith)
spot_same f g same (HoleAt E k depth) on = let ny = same.ny in let width = same.width in (omega arith, omega arith, omega arith)
spot_same f g same (HoleAt S k depth) on = let nx = same.nx in let width = same.width in (omega arith, omega arith, omega arith)
spot_same f g same (HoleAt N k depth) on = let nx = same.nx in let width = same.width in (omega arith, omega arith, omega arith)

-- what holds of each of two holds of the one that a test picks
pub choose : (P : Spot → Type 0) (b : Bool) (one other : Spot) → (b ≡ true → P one) → (b ≡ false → P other) → P (if b then one else other)
choose P true one other first second = first refl
choose P false one other first second = second refl

-- and so is what lies behind a cell, and beyond what lies across its side
pub behind_on : (area : FieldNumbers) → area.width ≡ 2 → (i j : ℕ) (side : Side) → IsSpot area (CellAt i j) → IsSpot area (behind area i j side)
behind_on area width i j side on =
    let far = out_from area i j (opposite side) 1 in
    choose (IsSpot area) (is_wet area far) far (CellAt i j) (λ wet. out_on area i j (opposite side) 1 on (omega arith) (omega arith)) (λ dry. on)

pub beyond_on : (area : FieldNumbers) → area.width ≡ 2 → (i j : ℕ) (side : Side) → IsSpot area (CellAt i j) → IsSpot area (beyond area i j side)
beyond_on area width i j side on =
    let far = out_from area i j side 2 in
    choose (IsSpot area) (is_wet area far) far (out_from area i j side 1) (λ wet. out_on area i j side 2 on (omega arith) (omega arith)) (λ dry. out_on area i j side 1 on (omega arith) (omega arith))
