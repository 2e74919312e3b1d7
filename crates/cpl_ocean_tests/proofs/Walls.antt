-- Where each cell has an area no face is a wall, and its number may be any.
use Rattle.std.proofs.Common.{◌≡◌, ◌∙◌, sym, ap, subst, ℕ, ◌+◌, ◌*◌, ◌<◌, arith, Bool, true, false, ◌&&◌, replicate, pos, ◌⊎◌, inl, inr, rules}
use Rattle.std.specs.Prelude.{ℤ, All, nat_lt}
use Rattle.std.proofs.lemmas.Int.{ints}
use Rattle.std.proofs.lemmas.List.{get_or-replicate, length-replicate}
use Rattle.cpl_fixed.specs.Amounts.{amount, at}
use Rattle.cpl_mosaic.specs.declared.mosaic.Mesh.{Mesh}
use Rattle.cpl_state.specs.Diffusion.{cell_count}
use Rattle.cpl_state.specs.Transport.{face_at, face_count, is_open, is_wet}
use Rattle.cpl_sea.specs.Seas.{AreNumbers, IsOcean}
use Rattle.cpl_sea.proofs.Looked.{face_below}
use Rattle.cpl_sea.proofs.Rows.{place_below}
use Rattle.cpl_transport.specs.Heights.{IsFaceNumber}
use Rattle.cpl_ocean_tests.specs.Small.{IsWet}

positive : (x : ℤ) → IsWet x → nat_lt 0 (amount x) ≡ true
positive x some = grind (arith, ints)

wet_at : (mesh : Mesh) → IsOcean mesh → All IsWet mesh.area → (n : ℕ) → n < cell_count mesh → is_wet mesh n ≡ true
wet_at mesh ocean wet n l = positive (at mesh.area n) (wet n (pos 0) (subst (λ count. n < count) (sym ocean.areas.count) l))

both_true : (a b : Bool) → a ≡ true → b ≡ true → (a && b) ≡ true
both_true a b e f = ap (λ a. a && b) e ∙ f

open_at : (mesh : Mesh) → IsOcean mesh → All IsWet mesh.area → (f : ℕ) → f < face_count mesh → is_open mesh (face_at mesh f).first (face_at mesh f).second ≡ true
open_at mesh ocean wet f l =
    let below = face_below mesh ocean f l in
    both_true (is_wet mesh (face_at mesh f).first) (is_wet mesh (face_at mesh f).second)
    (wet_at mesh ocean wet (face_at mesh f).first below.0)
    (wet_at mesh ocean wet (face_at mesh f).second below.1)

-- so a number that is 0 unless all are wet is 0 at walls
pub none_at_wall : (mesh : Mesh) (x : ℤ) → IsOcean mesh → (x ≡ pos 0) ⊎ All IsWet mesh.area → (f : ℕ) → f < face_count mesh
    → is_open mesh (face_at mesh f).first (face_at mesh f).second ≡ false → x ≡ pos 0
none_at_wall mesh x ocean (inl none) f l wall = none
none_at_wall mesh x ocean (inr wet) f l wall = let e : true ≡ false = sym (open_at mesh ocean wet f l) ∙ wall in absurd (search rules)

-- the same number at each face of all layers
pub all_same : (mesh : Mesh) (count : ℕ) (x : ℤ) → IsOcean mesh → IsFaceNumber x → (x ≡ pos 0) ⊎ All IsWet mesh.area → AreNumbers mesh count (replicate (count * face_count mesh) x)
all_same mesh count x ocean range wet = record {
  count = length-replicate (count * face_count mesh) x;
  range = λ k d l.
      let within = subst (λ n. k < n) (length-replicate (count * face_count mesh) x) l in
      subst IsFaceNumber (sym (get_or-replicate (count * face_count mesh) k x d within)) range;
  walls = λ layer f l m wall.
      get_or-replicate (count * face_count mesh) (layer * face_count mesh + f) x (pos 0) (place_below count (face_count mesh) layer f l m)
      ∙ none_at_wall mesh x ocean wet f m wall;
}
