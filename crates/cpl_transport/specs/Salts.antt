-- Water with its heat and salt, as one.
use Rattle.std.specs.Prelude.{◌^◌, ℤ, pos, neg_ℤ, ◌+ℤ◌, ◌-ℤ◌, ◌*ℤ◌, ◌≤ℤ◌}
use Rattle.cpl_ice.specs.declared.parts.Salty.{Salty}
pub use Rattle.cpl_ice.specs.Cells.{IsSalty, nothing}

-- the other way
abbrev pub turned : Salty → Salty
turned it = record { water = neg_ℤ it.water; heat = neg_ℤ it.heat; salt = neg_ℤ it.salt }

-- both together
abbrev pub joined : Salty → Salty → Salty
joined a b = record { water = a.water +ℤ b.water; heat = a.heat +ℤ b.heat; salt = a.salt +ℤ b.salt }

-- what is left of the first without the second
abbrev pub without : Salty → Salty → Salty
without a b = record { water = a.water -ℤ b.water; heat = a.heat -ℤ b.heat; salt = a.salt -ℤ b.salt }

-- from 0 to an eighth of what there is
pub record IsEighth (there given : ℤ) : Type 0 where
  pub least : pos 0 ≤ℤ given
  pub most : (pos 8 *ℤ given) ≤ℤ there

-- the same of water, heat and salt
pub record AreEighths (there given : Salty) : Type 0 where
  pub water : IsEighth there.water given.water
  pub heat : IsEighth there.heat given.heat
  pub salt : IsEighth there.salt given.salt

-- below 2^60, either way
abbrev pub IsSmall : ℤ → Type 0
IsSmall x = ((pos 0 -ℤ pos (2 ^ 60)) ≤ℤ x) × (x ≤ℤ pos (2 ^ 60))

-- the same of water, heat and salt
pub record AreSmall (it : Salty) : Type 0 where
  pub water : IsSmall it.water
  pub heat : IsSmall it.heat
  pub salt : IsSmall it.salt

-- what moves out of here is at most an eighth of what is here, and what moves in at most an eighth of what is there
pub record IsOutflow (here there out : ℤ) : Type 0 where
  pub most : (pos 8 *ℤ out) ≤ℤ here
  pub least : neg_ℤ there ≤ℤ (pos 8 *ℤ out)

pub record AreOutflows (here there out : Salty) : Type 0 where
  pub water : IsOutflow here.water there.water out.water
  pub heat : IsOutflow here.heat there.heat out.heat
  pub salt : IsOutflow here.salt there.salt out.salt
