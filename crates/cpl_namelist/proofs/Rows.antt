-- What holds of each row of the table.
use Rattle.std.proofs.Common.{◌≡◌, ℕ, zero, suc, ◌≤◌, List, [], ◌∷◌, map, Bool, true, false, get_or, refl, arith}
use Rattle.std.specs.Prelude.{◌&&◌, nat_le}
use Rattle.std.specs.List.{list_all}
use Rattle.std.proofs.lemmas.Bool.{leb-true}
use Rattle.cpl_namelist.specs.declared.table.Row.{Row}
use Rattle.cpl_namelist.specs.Table.{format, row_at, no_row}

both_true : (a b : Bool) → (a && b) ≡ true → (a ≡ true) × (b ≡ true)
both_true true true e = (refl, refl)
both_true true false e = (refl, e)
both_true false b e = absurd cc

small_at : (rows : List Row) (place : ℕ) → list_all (λ row. nat_le row.count 12) rows ≡ true → (get_or rows place no_row).count ≤ 12
small_at [] place e = omega arith
small_at (row ∷ rows) zero e = leb-true row.count 12 (both_true (nat_le row.count 12) (list_all (λ row. nat_le row.count 12) rows) e).0
small_at (row ∷ rows) (suc place) e = small_at rows place (both_true (nat_le row.count 12) (list_all (λ row. nat_le row.count 12) rows) e).1

-- a row holds at most twelve values
pub row_small : (place : ℕ) → (row_at place).count ≤ 12
unfolding row_at
row_small place = small_at (map (λ entry. entry.row) format) place refl
