-- Where the numbers of a halo stand.
use Rattle.std.proofs.Common.{◌≡◌, ◌∙◌, sym, ap, ℕ, ◌+◌, ◌*◌, ◌<◌, arith, List, ◌++◌, length, length-append}
use Rattle.std.specs.Prelude.{ℤ, pos, map}
use Rattle.std.specs.List.{flat_map, range_with_len}
use Rattle.std.proofs.Math.Nat.{mul_assoc, add-mul}
use Rattle.std.proofs.lemmas.Nat.{mul-add-lt}
use Rattle.std.proofs.lemmas.List.{get_or_append_left, get_or-append-add, get_or-map, length-map}
use Rattle.cpl_fixed.specs.Amounts.{at}
use Rattle.cpl_mosaic.specs.declared.mosaic.Mesh.{Mesh}
use Rattle.cpl_mosaic.specs.declared.parts.Side.{Side}
use Rattle.cpl_mosaic.specs.declared.parts.Side.TheVariants.{W}
use Rattle.cpl_state.specs.Transport.{Sea, cell_in}
use Rattle.cpl_rounds.specs.Rounds.{outward_in}
use Rattle.cpl_rounds.specs.Values.{layer_halo, layer_faces, sea_halo}
use Rattle.cpl_rounds.specs.Blocks.{item, HasPairs, HasSea}
use Rattle.cpl_rounds.proofs.Blocks.{range_block_at, range_blocks_long}

-- behind a list of this length
behind : (xs ys : List ℤ) (n k : ℕ) → length xs ≡ n → at (xs ++ ys) (n + k) ≡ at ys k
behind xs ys n k long = ap (λ (m : ℕ). at (xs ++ ys) (m + k)) (sym long) ∙ get_or-append-add xs ys k (pos 0)

-- a place of one block is below the end of all
below : (i n width k : ℕ) → i < n → k < width → i * width + k < n * width
below i n width k l h = let e = mul-add-lt i width k n l h in omega (arith, e)

-- where the numbers of a quantity of a layer begin
quantity_place : (layer t p q : ℕ) → (layer * 3 + t) * p + q ≡ layer * (3 * p) + (t * p + q)
quantity_place layer t p q =
    let apart : (layer * 3 + t) * p ≡ layer * 3 * p + t * p = add-mul (layer * 3) t p in
    let whole = mul_assoc layer 3 p in
    omega (arith, apart, whole)

pub has_pairs : (first second : ℕ → ℤ) (cells : List ℕ) → HasPairs first second cells (map first cells ++ map second cells)
has_pairs first second cells =
    let one : length (map first cells) ≡ length cells = length-map cells first in
    let two : length (map second cells) ≡ length cells = length-map cells second in
    let both = length-append (map first cells) (map second cells) in
    record {
      long = omega (arith, one, two, both);
      first_is = λ q l. get_or_append_left (map first cells) (map second cells) (pos 0) q (omega (arith, one)) ∙ get_or-map first cells q 0 (pos 0) l;
      second_is = λ q l. behind (map first cells) (map second cells) (length cells) q one ∙ get_or-map second cells q 0 (pos 0) l;
    }

module _ (mesh : Mesh) (layers : ℕ) (sea : Sea) (cells : List ℕ) (sides : List (ℕ × Side)) where
  abbrev p : ℕ
  p = length cells

  abbrev s : ℕ
  s = length sides

  abbrev waters : ℕ → List ℤ
  waters layer = map (λ c. (cell_in mesh sea layer c).water) cells

  abbrev heats : ℕ → List ℤ
  heats layer = map (λ c. (cell_in mesh sea layer c).heat) cells

  abbrev salts : ℕ → List ℤ
  salts layer = map (λ c. (cell_in mesh sea layer c).salt) cells

  waters_long : (layer : ℕ) → length (waters layer) ≡ p
  waters_long layer = length-map cells (λ c. (cell_in mesh sea layer c).water)

  heats_long : (layer : ℕ) → length (heats layer) ≡ p
  heats_long layer = length-map cells (λ c. (cell_in mesh sea layer c).heat)

  salts_long : (layer : ℕ) → length (salts layer) ≡ p
  salts_long layer = length-map cells (λ c. (cell_in mesh sea layer c).salt)

  layer_long : (layer : ℕ) → length (layer_halo mesh sea cells layer) ≡ 3 * p
  layer_long layer =
      let outer = length-append (waters layer) (heats layer ++ salts layer) in
      let inner = length-append (heats layer) (salts layer) in
      let a = waters_long layer in
      let b = heats_long layer in
      let c = salts_long layer in
      omega (arith, outer, inner, a, b, c)

  faces_long : (layer : ℕ) → length (layer_faces mesh sea sides layer) ≡ s
  faces_long layer = length-map sides (λ side. outward_in mesh sea layer side.0 side.1)

  abbrev all_layers : List ℤ
  all_layers = flat_map (layer_halo mesh sea cells) (range_with_len 0 layers)

  abbrev all_faces : List ℤ
  all_faces = flat_map (layer_faces mesh sea sides) (range_with_len 0 layers)

  layers_long : length all_layers ≡ layers * 3 * p
  layers_long = range_blocks_long (3 * p) (layer_halo mesh sea cells) layer_long layers ∙ sym (mul_assoc layers 3 p)

  -- places within a layer
  in_water : (layer q : ℕ) → q < p → at (layer_halo mesh sea cells layer) q ≡ (cell_in mesh sea layer (item cells q)).water
  in_water layer q l =
      let a = waters_long layer in
      get_or_append_left (waters layer) (heats layer ++ salts layer) (pos 0) q (omega (arith, a))
      ∙ get_or-map (λ c. (cell_in mesh sea layer c).water) cells q 0 (pos 0) l

  in_heat : (layer q : ℕ) → q < p → at (layer_halo mesh sea cells layer) (p + q) ≡ (cell_in mesh sea layer (item cells q)).heat
  in_heat layer q l =
      let b = heats_long layer in
      behind (waters layer) (heats layer ++ salts layer) p q (waters_long layer)
      ∙ get_or_append_left (heats layer) (salts layer) (pos 0) q (omega (arith, b))
      ∙ get_or-map (λ c. (cell_in mesh sea layer c).heat) cells q 0 (pos 0) l

  in_salt : (layer q : ℕ) → q < p → at (layer_halo mesh sea cells layer) (p + (p + q)) ≡ (cell_in mesh sea layer (item cells q)).salt
  in_salt layer q l =
      behind (waters layer) (heats layer ++ salts layer) p (p + q) (waters_long layer)
      ∙ behind (heats layer) (salts layer) p q (heats_long layer)
      ∙ get_or-map (λ c. (cell_in mesh sea layer c).salt) cells q 0 (pos 0) l

  -- a place of a layer, among all
  in_layers : (layer k : ℕ) → layer < layers → k < 3 * p → at (all_layers ++ all_faces) (layer * (3 * p) + k) ≡ at (layer_halo mesh sea cells layer) k
  in_layers layer k l h =
      let long = range_blocks_long (3 * p) (layer_halo mesh sea cells) layer_long layers in
      let room : layer * (3 * p) + k < layers * (3 * p) = below layer layers (3 * p) k l h in
      get_or_append_left all_layers all_faces (pos 0) (layer * (3 * p) + k) (omega (arith, long, room))
      ∙ range_block_at (3 * p) (layer_halo mesh sea cells) layer_long layers layer k l h

  at_one : (layer q : ℕ) → layer < layers → q < p → at (all_layers ++ all_faces) (layer * (3 * p) + (1 * p + q)) ≡ (cell_in mesh sea layer (item cells q)).heat
  at_one layer q l h =
      let once : 1 * p + q ≡ p + q = omega arith in
      ap (λ (k : ℕ). at (all_layers ++ all_faces) (layer * (3 * p) + k)) once ∙ in_layers layer (p + q) l (omega arith) ∙ in_heat layer q h

  at_two : (layer q : ℕ) → layer < layers → q < p → at (all_layers ++ all_faces) (layer * (3 * p) + (2 * p + q)) ≡ (cell_in mesh sea layer (item cells q)).salt
  at_two layer q l h =
      let twice : 2 * p + q ≡ p + (p + q) = omega arith in
      ap (λ (k : ℕ). at (all_layers ++ all_faces) (layer * (3 * p) + k)) twice ∙ in_layers layer (p + (p + q)) l (omega arith) ∙ in_salt layer q h

  pub has_sea : HasSea mesh layers sea cells sides (sea_halo mesh layers sea cells sides)
  has_sea = record {
    long =
        let both = length-append all_layers all_faces in
        let one = layers_long in
        let two = range_blocks_long s (layer_faces mesh sea sides) faces_long layers in
        omega (arith, both, one, two);
    water = λ layer q l h.
        let place : layer * 3 * p + q ≡ layer * (3 * p) + q = ap (λ (n : ℕ). n + q) (mul_assoc layer 3 p) in
        ap (at (all_layers ++ all_faces)) place ∙ in_layers layer q l (omega arith) ∙ in_water layer q h;
    heat = λ layer q l h. ap (at (all_layers ++ all_faces)) (quantity_place layer 1 p q) ∙ at_one layer q l h;
    salt = λ layer q l h. ap (at (all_layers ++ all_faces)) (quantity_place layer 2 p q) ∙ at_two layer q l h;
    face = λ layer q l h.
        behind all_layers all_faces (layers * 3 * p) (layer * s + q) layers_long
        ∙ range_block_at s (layer_faces mesh sea sides) faces_long layers layer q l h
        ∙ get_or-map (λ side. outward_in mesh sea layer side.0 side.1) sides q (0, W) (pos 0) h;
  }
