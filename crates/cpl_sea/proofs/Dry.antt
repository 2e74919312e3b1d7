-- A cell without an area stays empty.
use Rattle.std.proofs.Common.{◌≡◌, ◌∙◌, refl, ap, Bool, true, false, ◌&&◌, ℕ, zero, suc, ◌+◌, ◌*◌, ◌^◌, ◌<◌, ◌≤◌, arith, inl, inr, List, Option, Some, None, length}
use Rattle.std.specs.Prelude.{ℤ, pos, neg_ℤ, ◌+ℤ◌, nat_lt, if◌then◌else◌}
use Rattle.std.specs.List.{position}
use Rattle.std.proofs.Math.Nat.{zero-div}
use Rattle.std.proofs.lemmas.Int.{ints}
use Rattle.std.proofs.lemmas.Bool.{and_parts, eqb-true, cases_Bool, ltb-true}
use Rattle.std.proofs.lemmas.List.Quantifiers.{position-Some}
use Rattle.cpl_fixed.specs.Amounts.{at}
use Rattle.cpl_fixed.specs.declared.rates.Rates.{Rates}
use Rattle.cpl_mosaic.specs.declared.mosaic.Mesh.{Mesh}
use Rattle.cpl_mosaic.specs.declared.parts.Side.{Side}
use Rattle.cpl_mosaic.specs.declared.parts.Side.TheVariants.{W, E, S, N}
use Rattle.cpl_mosaic.specs.Cells.{cell_of}
use Rattle.cpl_mosaic.specs.Mates.{mate_of}
use Rattle.cpl_faces.specs.Faces.{faces_of}
use Rattle.cpl_ice.specs.declared.parts.Salty.{Salty}
use Rattle.cpl_transport.specs.Mixing.{part, exchanged, passed, mixed}
use Rattle.cpl_transport.specs.Cuts.{uncut, cut_of}
use Rattle.cpl_transport.specs.Salts.{joined, nothing, without}
use Rattle.cpl_state.specs.Diffusion.{cell_count}
use Rattle.cpl_state.specs.Transport.{Sea, cell_in, face_at, flow_through, flow_to, is_first, is_second, is_wet, moved_out, next_number, no_face, outward, seen, stepped, transported}
use Rattle.cpl_state.specs.Cut.{with_flight, cut_at, after_cut, to_ice_numbers}
use Rattle.cpl_sea.specs.Seas.{IsSea}
use Rattle.cpl_sea.proofs.Flows.{flow_none, wall_keeps}
use Rattle.cpl_sea.proofs.Rows.{layered_at}
use Rattle.cpl_sea.proofs.TopTotals.{new_top, in_top, below_top, long}

-- there is nothing in any layer of a cell
pub record HasNothing (mesh : Mesh) (layers : ℕ) (sea : Sea) (n : ℕ) : Type 0 where
  pub water : (layer : ℕ) → layer < layers → (cell_in mesh sea layer n).water ≡ pos 0
  pub heat : (layer : ℕ) → layer < layers → (cell_in mesh sea layer n).heat ≡ pos 0
  pub salt : (layer : ℕ) → layer < layers → (cell_in mesh sea layer n).salt ≡ pos 0

-- by water, heat and salt
is_nothing : (it : Salty) → it.water ≡ pos 0 → it.heat ≡ pos 0 → it.salt ≡ pos 0 → it ≡ nothing
is_nothing it water heat salt = λ i. record { water = water i; heat = heat i; salt = salt i }

-- NOTHING MOVES

second_false : (a b : Bool) → b ≡ false → (a && b) ≡ false
second_false true b e = e
second_false false b e = refl

seen_none : (numbers : ℕ → ℤ) (p q : Option ℕ) → ((f : ℕ) → p ≡ Some f → numbers f ≡ pos 0) → ((f : ℕ) → q ≡ Some f → numbers f ≡ pos 0) → seen numbers p q ≡ pos 0
seen_none numbers (Some f) q first second = first f refl
seen_none numbers None (Some f) first second = ap neg_ℤ (second f refl)
seen_none numbers None None first second = refl

module _ (mesh : Mesh) (layers : ℕ) (rates : Rates) (sea : Sea) (n : ℕ) (dry : is_wet mesh n ≡ false) (layer : ℕ) where
  abbrev number : ℕ → ℤ
  number f = next_number mesh layers rates sea layer f

  wall_first : (f : ℕ) → (face_at mesh f).first ≡ n → number f ≡ pos 0
  wall_first f e =
      wall_keeps mesh layers rates sea layer f (ap (λ (w : Bool). w && is_wet mesh (face_at mesh f).second) (ap (is_wet mesh) e ∙ dry))

  wall_second : (f : ℕ) → (face_at mesh f).second ≡ n → number f ≡ pos 0
  wall_second f e =
      wall_keeps mesh layers rates sea layer f (second_false (is_wet mesh (face_at mesh f).first) (is_wet mesh (face_at mesh f).second) (ap (is_wet mesh) e ∙ dry))

  outward_none : (side : Side) → outward mesh.mosaic number n side ≡ pos 0
  unfolding outward
  outward_none side =
      seen_none number (position (is_first n side) (faces_of mesh.mosaic)) (position (is_second n side) (faces_of mesh.mosaic))
      (λ f e. let is = position-Some (is_first n side) (faces_of mesh.mosaic) f no_face e in wall_first f (eqb-true (face_at mesh f).first n (and_parts _ _ is.1).0))
      (λ f e. let is = position-Some (is_second n side) (faces_of mesh.mosaic) f no_face e in wall_second f (eqb-true (face_at mesh f).second n (and_parts _ _ is.1).0))

  none_through : (side : Side) → flow_through mesh layers rates sea layer n side ≡ nothing
  unfolding flow_through
  none_through side =
      ap (λ (u : ℤ). flow_to mesh sea u layer n side (mate_of mesh.mosaic (cell_of mesh.mosaic.tiles n, side))) (outward_none side)
      ∙ flow_none mesh sea layer n side (mate_of mesh.mosaic (cell_of mesh.mosaic.tiles n, side))

  none_out : moved_out mesh layers rates sea layer n ≡ nothing
  none_out =
      let w = none_through W in
      let e = none_through E in
      let s = none_through S in
      let no = none_through N in
      λ i. joined (joined (w i) (e i)) (joined (s i) (no i))

  pub none_transported : cell_in mesh sea layer n ≡ nothing → transported mesh layers rates sea layer n ≡ nothing
  unfolding transported
  none_transported e = λ i. without (e i) (none_out i)

-- NOTHING IS MIXED

module _ (mix layers : ℕ) (column : ℕ → ℤ) (none : (l : ℕ) → l < layers → column l ≡ pos 0) where
  none_passed : (k : ℕ) → passed mix layers column k ≡ pos 0
  none_passed k = elim (cases_Bool (nat_lt (k + 1) layers)) [
    | inl more ↦
        let l = ltb-true (k + 1) layers more in
        let upper = none k (omega arith) in
        let lower = none (k + 1) l in
        let z = ap pos (zero-div (2 ^ mix)) in
        let a : part mix (column k) ≡ pos 0 = ap (part mix) upper ∙ z in
        let b : part mix (column (k + 1)) ≡ pos 0 = ap (part mix) lower ∙ z in
        ap (λ (t : Bool). if t then exchanged mix (column k) (column (k + 1)) else pos 0) more ∙ omega (arith, ints, a, b)
    | inr last ↦ ap (λ (t : Bool). if t then exchanged mix (column k) (column (k + 1)) else pos 0) last
  ]

  pub none_mixed : (layer : ℕ) → layer < layers → mixed mix layers column layer ≡ pos 0
  none_mixed zero l =
      let own = none 0 l in
      let down = none_passed 0 in
      omega (arith, ints, own, down)
  none_mixed (suc k) l =
      let own = none (suc k) l in
      let up = none_passed k in
      let down = none_passed (suc k) in
      omega (arith, ints, own, up, down)

-- A STEP

pub stays_empty : (mesh : Mesh) (layers : ℕ) (rates : Rates) (sea : Sea) (n : ℕ) → n < cell_count mesh → is_wet mesh n ≡ false → HasNothing mesh layers sea n → HasNothing mesh layers (stepped mesh layers rates sea) n
unfolding stepped
stays_empty mesh layers rates sea n l dry has =
    let rest : (layer : ℕ) → layer < layers → transported mesh layers rates sea layer n ≡ nothing =
    λ layer k. none_transported mesh layers rates sea n dry layer (is_nothing (cell_in mesh sea layer n) (has.water layer k) (has.heat layer k) (has.salt layer k)) in
    record {
      water = λ layer k. layered_at layers (cell_count mesh) (λ layer n. mixed rates.mix layers (λ l. (transported mesh layers rates sea l n).water) layer) layer n k l
          ∙ none_mixed rates.mix layers (λ l. (transported mesh layers rates sea l n).water) (λ l k. ap (λ (it : Salty). it.water) (rest l k)) layer k;
      heat = λ layer k. layered_at layers (cell_count mesh) (λ layer n. mixed rates.mix layers (λ l. (transported mesh layers rates sea l n).heat) layer) layer n k l
          ∙ none_mixed rates.mix layers (λ l. (transported mesh layers rates sea l n).heat) (λ l k. ap (λ (it : Salty). it.heat) (rest l k)) layer k;
      salt = λ layer k. layered_at layers (cell_count mesh) (λ layer n. mixed rates.mix layers (λ l. (transported mesh layers rates sea l n).salt) layer) layer n k l
          ∙ none_mixed rates.mix layers (λ l. (transported mesh layers rates sea l n).salt) (λ l k. ap (λ (it : Salty). it.salt) (rest l k)) layer k;
    }

-- THE ENDS

-- a number of another top: the top's own above, and the old one below
top_none : (count : ℕ) (f : ℕ → ℤ) (xs : List ℤ) (n : ℕ) → count ≤ length xs → n < count → f n ≡ pos 0 → (layers : ℕ) → ((layer : ℕ) → layer < layers → at xs (layer * count + n) ≡ pos 0)
    → (layer : ℕ) → layer < layers → at (new_top count f xs) (layer * count + n) ≡ pos 0
top_none count f xs n within l own layers has zero k =
    let e : 0 * count + n ≡ n = omega arith in
    ap (at (new_top count f xs)) e ∙ in_top count f xs within n l ∙ own
top_none count f xs n within l own layers has (suc layer) k =
    let below : count ≤ suc layer * count + n = omega arith in
    below_top count f xs within (suc layer * count + n) below ∙ has (suc layer) k

-- no water gives no flight
five_zeros : (k : ℕ) → k < 5 → at (to_ice_numbers (cut_of nothing)) k ≡ pos 0
five_zeros zero h = refl
five_zeros (suc zero) h = refl
five_zeros (suc (suc zero)) h = refl
five_zeros (suc (suc (suc zero))) h = refl
five_zeros (suc (suc (suc (suc zero)))) h = refl
five_zeros (suc (suc (suc (suc (suc k))))) h = absurd (omega arith)

module _ (mesh : Mesh) (layers : ℕ) (sea : Sea) (some : 1 ≤ layers) (is : IsSea mesh layers sea) (n : ℕ) (l : n < cell_count mesh) (has : HasNothing mesh layers sea n) where
  abbrev C : ℕ
  C = cell_count mesh

  -- nothing is added where nothing flies to
  pub flown_empty : (to_ocean : List ℤ) → at to_ocean (3 * n) ≡ pos 0 → at to_ocean (3 * n + 1) ≡ pos 0 → at to_ocean (3 * n + 2) ≡ pos 0 → HasNothing mesh layers (with_flight mesh sea to_ocean) n
  unfolding with_flight
  flown_empty to_ocean water heat salt =
      let own_water = has.water 0 some in
      let own_heat = has.heat 0 some in
      let own_salt = has.salt 0 some in
      record {
        water = top_none C (λ n. at sea.water (0 * C + n) +ℤ at to_ocean (3 * n)) sea.water n (long mesh layers sea some is sea.water is.water) l (omega (arith, ints, own_water, water)) layers has.water;
        heat = top_none C (λ n. at sea.heat (0 * C + n) +ℤ at to_ocean (3 * n + 1)) sea.heat n (long mesh layers sea some is sea.heat is.heat) l (omega (arith, ints, own_heat, heat)) layers has.heat;
        salt = top_none C (λ n. at sea.salt (0 * C + n) +ℤ at to_ocean (3 * n + 2)) sea.salt n (long mesh layers sea some is sea.salt is.salt) l (omega (arith, ints, own_salt, salt)) layers has.salt;
      }

  empty_top : cell_in mesh sea 0 n ≡ nothing
  empty_top = is_nothing (cell_in mesh sea 0 n) (has.water 0 some) (has.heat 0 some) (has.salt 0 some)

  pub cut_empty : HasNothing mesh layers (after_cut mesh sea) n
  unfolding after_cut
  cut_empty =
      let left : uncut (cell_in mesh sea 0 n) ≡ nothing = ap uncut empty_top in
      record {
        water = top_none C (λ n. (uncut (cell_in mesh sea 0 n)).water) sea.water n (long mesh layers sea some is sea.water is.water) l (ap (λ (it : Salty). it.water) left) layers has.water;
        heat = top_none C (λ n. (uncut (cell_in mesh sea 0 n)).heat) sea.heat n (long mesh layers sea some is sea.heat is.heat) l (ap (λ (it : Salty). it.heat) left) layers has.heat;
        salt = top_none C (λ n. (uncut (cell_in mesh sea 0 n)).salt) sea.salt n (long mesh layers sea some is sea.salt is.salt) l (ap (λ (it : Salty). it.salt) left) layers has.salt;
      }

  -- and nothing is cut off
  pub none_cut : (k : ℕ) → k < 5 → at (to_ice_numbers (cut_at mesh sea n)) k ≡ pos 0
  none_cut k h = ap (λ (it : Salty). at (to_ice_numbers (cut_of it)) k) empty_top ∙ five_zeros k h
