-- Cells of a column after the vertical exchange.
use Rattle.std.proofs.Common.{◌≡◌, subst, ℕ, suc}
use Rattle.cpl_ice.specs.declared.parts.Salty.{Salty}
use Rattle.cpl_transport.specs.Cells.{mixed_cell, passed_cell}
use Rattle.cpl_transport.specs.Salts.{joined, without}

-- a cell below the top one has what passes down out of the one above it, and not what passes down out of it
pub mixed_below : (mix layers : ℕ) (column : ℕ → Salty) (layer k : ℕ) → suc k ≡ layer
    → without (joined (column layer) (passed_cell mix layers column k)) (passed_cell mix layers column layer) ≡ mixed_cell mix layers column layer
mixed_below mix layers column layer k e =
    let P = λ (l : ℕ). without (joined (column l) (passed_cell mix layers column k)) (passed_cell mix layers column l) ≡ mixed_cell mix layers column l in
    subst P e (λ _. mixed_cell mix layers column (suc k))
