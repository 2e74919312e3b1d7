-- Cells with water, heat and salt: how much may leave them, and what the layers of a column exchange.
use Rattle.std.specs.Prelude.{ℕ, ◌^◌, ℤ, pos, ◌-ℤ◌, ◌≤ℤ◌}
use Rattle.cpl_ice.specs.declared.parts.Salty.{Salty}
use Rattle.cpl_transport.specs.Mixing.{exchanged, mixed, passed}

-- no more than four small numbers together
abbrev pub IsFew : ℤ → Type 0
IsFew x = ((pos 0 -ℤ pos (2 ^ 62)) ≤ℤ x) × (x ≤ℤ pos (2 ^ 62))

pub record AreFew (it : Salty) : Type 0 where
  pub water : IsFew it.water
  pub heat : IsFew it.heat
  pub salt : IsFew it.salt

-- what a layer and the one below it exchange
abbrev pub exchanged_cells : (mix : ℕ) → (upper lower : Salty) → Salty
exchanged_cells mix upper lower = record {
  water = exchanged mix upper.water lower.water;
  heat = exchanged mix upper.heat lower.heat;
  salt = exchanged mix upper.salt lower.salt;
}

-- what passes down out of a layer of a column, of water, heat and salt
abbrev pub passed_cell : (mix layers : ℕ) → (column : ℕ → Salty) → ℕ → Salty
passed_cell mix layers column layer = record {
  water = passed mix layers (λ l. (column l).water) layer;
  heat = passed mix layers (λ l. (column l).heat) layer;
  salt = passed mix layers (λ l. (column l).salt) layer;
}

-- a layer of a column after the vertical exchange
abbrev pub mixed_cell : (mix layers : ℕ) → (column : ℕ → Salty) → ℕ → Salty
mixed_cell mix layers column layer = record {
  water = mixed mix layers (λ l. (column l).water) layer;
  heat = mixed mix layers (λ l. (column l).heat) layer;
  salt = mixed mix layers (λ l. (column l).salt) layer;
}
