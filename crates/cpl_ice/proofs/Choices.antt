-- Cells that a test chooses.
use Rattle.std.proofs.Common.{◌≡◌, sym, subst, ℕ}
use Rattle.std.specs.Prelude.{Bool, true, false, ◌==◌, if◌then◌else◌}
use Rattle.std.proofs.lemmas.Bool.{ne_eqb}
use Rattle.std.proofs.Common.{eq-eqb}
use Rattle.cpl_ice.specs.declared.cell.IceCell.{IceCell}

pub chosen : (b : Bool) (cell x y : IceCell) → b ≡ true → cell ≡ x → cell ≡ (if b then x else y)
chosen b cell x y e same =
    let P = λ (t : Bool). cell ≡ (if t then x else y) in
    subst P (sym e) same

pub refused : (b : Bool) (cell x y : IceCell) → b ≡ false → cell ≡ y → cell ≡ (if b then x else y)
refused b cell x y e same =
    let P = λ (t : Bool). cell ≡ (if t then x else y) in
    subst P (sym e) same

pub chosen_by : (m n : ℕ) (cell x y : IceCell) → m ≡ n → cell ≡ x → cell ≡ (if m == n then x else y)
chosen_by m n cell x y e same = chosen (m == n) cell x y (eq-eqb m n e) same

pub refused_by : (m n : ℕ) (cell x y : IceCell) → (m ≡ n → ⊥) → cell ≡ y → cell ≡ (if m == n then x else y)
refused_by m n cell x y e same = refused (m == n) cell x y (ne_eqb m n e) same
