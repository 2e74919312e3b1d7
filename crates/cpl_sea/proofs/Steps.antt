-- A step keeps an ocean lawful, and its totals.
use Rattle.std.proofs.Common.{◌≡◌, ◌∙◌, refl, sym, subst, ℕ, ◌+◌, ◌*◌, ◌/◌, ◌%◌, ◌^◌, ◌≤◌, arith, Bool, true, false}
use Rattle.std.specs.Prelude.{ℤ, pos, ◌+ℤ◌, ◌-ℤ◌, if◌then◌else◌}
use Rattle.std.proofs.lemmas.Int.{ints, clamps}
use Rattle.std.proofs.lemmas.List.Elements.{All-from_get_or}
use Rattle.cpl_fixed.specs.Amounts.{at}
use Rattle.cpl_fixed.specs.Division.{trunc}
use Rattle.cpl_fixed.specs.Totals.{total_of}
use Rattle.cpl_fixed.specs.declared.rates.Rates.{Rates}
use Rattle.cpl_mosaic.specs.declared.mosaic.Mesh.{Mesh}
use Rattle.cpl_ice.specs.declared.parts.Salty.{Salty}
use Rattle.cpl_transport.specs.Heights.{IsFaceNumber, in_face, next_face}
use Rattle.cpl_state.specs.Transport.{Sea, face_at, face_count, height_at, is_open, layered, next_number, stepped}
use Rattle.cpl_sea.specs.Seas.{AreNumbers, IsOcean, IsSea}
use Rattle.cpl_sea.proofs.Flows.{wall_keeps}
use Rattle.cpl_sea.proofs.Kept.{layered_place, next_are, next_total}
use Rattle.cpl_sea.proofs.Pairs.{IsPart}
use Rattle.cpl_sea.proofs.Rows.{layered_at, length_layered}

pub is_water : IsPart (λ (it : Salty). it.water)
is_water = record { turns = λ it. refl; none = refl; joins = λ a b. refl; leaves = λ a b. refl }

pub is_heat : IsPart (λ (it : Salty). it.heat)
is_heat = record { turns = λ it. refl; none = refl; joins = λ a b. refl; leaves = λ a b. refl }

pub is_salt : IsPart (λ (it : Salty). it.salt)
is_salt = record { turns = λ it. refl; none = refl; joins = λ a b. refl; leaves = λ a b. refl }

-- a face's number in range
in_range : (x : ℤ) → IsFaceNumber (in_face x)
in_range x = (omega (arith, ints, clamps), omega (arith, ints, clamps))

driven_range : (b : Bool) (slope : ℕ) (u height other : ℤ) → IsFaceNumber (if b then next_face slope u height other else pos 0)
driven_range true slope u height other = in_range (u -ℤ trunc u (pos 16) +ℤ trunc (height -ℤ other) (pos (2 ^ slope)))
driven_range false slope u height other = (omega (arith, ints), omega (arith, ints))

pub number_range : (mesh : Mesh) (layers : ℕ) (rates : Rates) (sea : Sea) (layer f : ℕ) → IsFaceNumber (next_number mesh layers rates sea layer f)
unfolding next_number
number_range mesh layers rates sea layer f =
    driven_range (is_open mesh (face_at mesh f).first (face_at mesh f).second) rates.slope (at sea.faces (layer * face_count mesh + f))
    (height_at mesh layers sea (face_at mesh f).first) (height_at mesh layers sea (face_at mesh f).second)

pub numbers_are : (mesh : Mesh) (layers : ℕ) (rates : Rates) (sea : Sea) → AreNumbers mesh layers (layered layers (face_count mesh) (next_number mesh layers rates sea))
numbers_are mesh layers rates sea =
    let F = face_count mesh in
    let number = next_number mesh layers rates sea in
    record {
      count = length_layered layers F number;
      range = All-from_get_or IsFaceNumber (layered layers F number) (pos 0)
          (λ place l. subst IsFaceNumber (sym (layered_place layers F number place (omega (arith, length_layered layers F number)))) (number_range mesh layers rates sea (place / F) (place % F)));
      walls = λ layer f l k wall. layered_at layers F number layer f l k ∙ wall_keeps mesh layers rates sea layer f wall;
    }

module _ (mesh : Mesh) (layers : ℕ) (rates : Rates) (sea : Sea) (ocean : IsOcean mesh) (is : IsSea mesh layers sea) (le : 2 ≤ rates.mix) where
  pub water_total : total_of (stepped mesh layers rates sea).water ≡ total_of sea.water
  unfolding stepped
  water_total = next_total mesh layers rates sea ocean is (λ (it : Salty). it.water) is_water (λ here there out h. h.water) sea.water is.water (λ layer n. refl) le

  pub heat_total : total_of (stepped mesh layers rates sea).heat ≡ total_of sea.heat
  unfolding stepped
  heat_total = next_total mesh layers rates sea ocean is (λ (it : Salty). it.heat) is_heat (λ here there out h. h.heat) sea.heat is.heat (λ layer n. refl) le

  pub salt_total : total_of (stepped mesh layers rates sea).salt ≡ total_of sea.salt
  unfolding stepped
  salt_total = next_total mesh layers rates sea ocean is (λ (it : Salty). it.salt) is_salt (λ here there out h. h.salt) sea.salt is.salt (λ layer n. refl) le

  pub stepped_is : IsSea mesh layers (stepped mesh layers rates sea)
  unfolding stepped
  stepped_is = record {
    water = next_are mesh layers rates sea ocean is (λ (it : Salty). it.water) is_water (λ here there out h. h.water) sea.water is.water (λ layer n. refl) le;
    heat = next_are mesh layers rates sea ocean is (λ (it : Salty). it.heat) is_heat (λ here there out h. h.heat) sea.heat is.heat (λ layer n. refl) le;
    salt = next_are mesh layers rates sea ocean is (λ (it : Salty). it.salt) is_salt (λ here there out h. h.salt) sea.salt is.salt (λ layer n. refl) le;
    faces = numbers_are mesh layers rates sea;
  }
