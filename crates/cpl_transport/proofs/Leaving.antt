-- What moves out of a cell.
use Rattle.std.proofs.Common.{◌≡◌, ◌∙◌, refl, sym, ap, arith, ℕ, zero, suc, ◌/◌, min, pos, neg_ℤ, ℤ}
use Rattle.std.specs.Prelude.{negsuc, unsigned_abs}
use Rattle.std.proofs.lemmas.Int.{ints, clamps}
use Rattle.cpl_fixed.specs.Amounts.{IsAmount, amount}
use Rattle.cpl_ice.specs.declared.parts.Salty.{Salty}
use Rattle.cpl_transport.specs.Heights.{IsFaceNumber}
use Rattle.cpl_transport.specs.Moves.{carried, correction, given, moved, through}
use Rattle.cpl_transport.specs.Salts.{AreEighths, AreOutflows, AreSmall, IsEighth, IsOutflow, IsSalty, IsSmall, nothing, turned}

-- it doesn't ask for the sign
pub given_abs : (u v : ℤ) (behind here ahead : Salty) → unsigned_abs u ≡ unsigned_abs v → given u behind here ahead ≡ given v behind here ahead
given_abs u v behind here ahead e = λ i. record {
  water = pos (min (e i) (amount here.water / 8));
  heat = carried here.heat here.water (min (e i) (amount here.water / 8)) (correction behind.heat here.heat ahead.heat);
  salt = carried here.salt here.water (min (e i) (amount here.water / 8)) (correction behind.salt here.salt ahead.salt);
}

-- nothing moves by 0
pub given_none : (behind here ahead : Salty) → given (pos 0) behind here ahead ≡ nothing
given_none behind here ahead =
    let e : moved (pos 0) here.water ≡ 0 = omega arith in
    λ i. record {
      water = pos (e i);
      heat = carried here.heat here.water (e i) (correction behind.heat here.heat ahead.heat);
      salt = carried here.salt here.water (e i) (correction behind.salt here.salt ahead.salt);
    }

neg_twice : (x : ℤ) → x ≡ neg_ℤ (neg_ℤ x)
neg_twice x = omega (arith, ints)

pub turned_twice : (it : Salty) → it ≡ turned (turned it)
turned_twice it = λ i. record { water = neg_twice it.water i; heat = neg_twice it.heat i; salt = neg_twice it.salt i }

-- the same from the other side
pub through_turned : (u : ℤ) (behind here there beyond : Salty) → through (neg_ℤ u) beyond there here behind ≡ turned (through u behind here there beyond)
through_turned (pos zero) behind here there beyond = given_none beyond there here ∙ sym (ap turned (given_none behind here there))
through_turned (pos (suc u)) behind here there beyond = ap turned (given_abs (neg_ℤ (pos (suc u))) (pos (suc u)) behind here there refl)
through_turned (negsuc u) behind here there beyond = given_abs (neg_ℤ (negsuc u)) (negsuc u) beyond there here refl ∙ turned_twice (given (negsuc u) beyond there here)

-- at most an eighth leaves
carried_eighth : (x water j : ℤ) (m : ℕ) → IsAmount x → IsEighth x (carried x water m j)
carried_eighth x water j zero h = record { least = omega (arith, ints); most = omega (arith, ints, h.0) }
carried_eighth x water j (suc m) h = record { least = omega (arith, ints, clamps, h.0); most = omega (arith, ints, clamps, h.0) }

moved_eighth : (u water : ℤ) → IsAmount water → IsEighth water (pos (moved u water))
moved_eighth u water h = record { least = omega (arith, ints); most = omega (arith, ints, h.0, h.1) }

pub given_eighths : (u : ℤ) (behind here ahead : Salty) → IsSalty here → AreEighths here (given u behind here ahead)
given_eighths u behind here ahead h = record {
  water = moved_eighth u here.water h.water;
  heat = carried_eighth here.heat here.water (correction behind.heat here.heat ahead.heat) (moved u here.water) h.heat;
  salt = carried_eighth here.salt here.water (correction behind.salt here.salt ahead.salt) (moved u here.water) h.salt;
}

-- seen from the cell that it leaves, and from the other
leaves : (here there given : ℤ) → IsAmount there → IsEighth here given → IsOutflow here there given
leaves here there given h k = record { most = k.most; least = omega (arith, ints, h.0, k.least) }

enters : (here there given : ℤ) → IsAmount here → IsEighth there given → IsOutflow here there (neg_ℤ given)
enters here there given h k = record { most = omega (arith, ints, h.0, k.least); least = omega (arith, ints, k.most) }

pub leave : (here there given : Salty) → IsSalty there → AreEighths here given → AreOutflows here there given
leave here there given h k = record {
  water = leaves here.water there.water given.water h.water k.water;
  heat = leaves here.heat there.heat given.heat h.heat k.heat;
  salt = leaves here.salt there.salt given.salt h.salt k.salt;
}

pub enter : (here there given : Salty) → IsSalty here → AreEighths there given → AreOutflows here there (turned given)
enter here there given h k = record {
  water = enters here.water there.water given.water h.water k.water;
  heat = enters here.heat there.heat given.heat h.heat k.heat;
  salt = enters here.salt there.salt given.salt h.salt k.salt;
}

pub through_outflow : (u : ℤ) (behind here there beyond : Salty) → IsSalty here → IsSalty there → AreOutflows here there (through u behind here there beyond)
through_outflow (pos u) behind here there beyond h k = leave here there (given (pos u) behind here there) k (given_eighths (pos u) behind here there h)
through_outflow (negsuc u) behind here there beyond h k = enter here there (given (negsuc u) beyond there here) h (given_eighths (negsuc u) beyond there here k)

-- no more water moves than a number of a face may say
pub moved_face : (u water : ℤ) → IsFaceNumber u → IsFaceNumber (pos (moved u water))
moved_face (pos u) water h = (omega (arith, ints), omega (arith, ints, h.1))
moved_face (negsuc u) water h = (omega (arith, ints), omega (arith, ints, h.0))

pub other_way : (u : ℤ) → IsFaceNumber u → IsFaceNumber (neg_ℤ u)
other_way u h = (omega (arith, ints, h.1), omega (arith, ints, h.0))

pub through_face : (u : ℤ) (behind here there beyond : Salty) → IsFaceNumber u → IsFaceNumber (through u behind here there beyond).water
through_face (pos u) behind here there beyond h = moved_face (pos u) here.water h
through_face (negsuc u) behind here there beyond h = other_way (pos (moved (negsuc u) there.water)) (moved_face (negsuc u) there.water h)

-- an eighth of an amount is small
pub eighths_small : (there given : Salty) → IsSalty there → AreEighths there given → AreSmall given
eighths_small there given h k = record {
  water = (omega (arith, ints, k.water.least), omega (arith, ints, h.water.1, k.water.most));
  heat = (omega (arith, ints, k.heat.least), omega (arith, ints, h.heat.1, k.heat.most));
  salt = (omega (arith, ints, k.salt.least), omega (arith, ints, h.salt.1, k.salt.most));
}

small_between : (here there out : ℤ) → IsAmount here → IsAmount there → IsOutflow here there out → IsSmall out
small_between here there out h k is = (omega (arith, ints, k.1, is.least), omega (arith, ints, h.1, is.most))

pub outflows_small : (here there out : Salty) → IsSalty here → IsSalty there → AreOutflows here there out → AreSmall out
outflows_small here there out h k is = record {
  water = small_between here.water there.water out.water h.water k.water is.water;
  heat = small_between here.heat there.heat out.heat h.heat k.heat is.heat;
  salt = small_between here.salt there.salt out.salt h.salt k.salt is.salt;
}
