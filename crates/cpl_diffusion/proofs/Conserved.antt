-- A step keeps the total, and no amount falls below 0.
use Rattle.std.proofs.Common.{◌≡◌, ◌∙◌, refl, sym, ap, subst, ℕ, zero, suc, ◌+◌, ◌*◌, ◌/◌, ◌<◌, arith, Option, Some, None, List, length, inl, inr}
use Rattle.std.specs.Prelude.{ℤ, pos, ◌+ℤ◌, ◌-ℤ◌, ◌*ℤ◌, ◌≤ℤ◌, All}
use Rattle.std.proofs.lemmas.Int.{ints}
use Rattle.std.proofs.lemmas.Bool.{cases_lt}
use Rattle.std.proofs.lemmas.List.{get_or_past}
use Rattle.std.proofs.lemmas.List.Elements.{All-get_or, All-from_get_or}
use Rattle.std.proofs.lemmas.List.FromFn.{length-map-range_with_len, get_or-map-range_with_len}
use Rattle.std.specs.Option.{option_map}
use Rattle.cpl_mosaic.specs.declared.parts.Side.{Side}
use Rattle.cpl_mosaic.specs.declared.parts.Side.TheVariants.{W, E, S, N}
use Rattle.cpl_mosaic.specs.declared.mosaic.Mesh.{Mesh}
use Rattle.cpl_mosaic.specs.Sides.{CellSide}
use Rattle.cpl_mosaic.specs.Mates.{mate_of, MatesAgree}
use Rattle.cpl_mosaic.specs.Cells.{number_of, cell_of, NumbersAgree}
use Rattle.cpl_state.specs.Diffusion.{flow, flow_to, flow_through, cell_number, loss, at, cell_count, diffused, total_of, IsAirArea, IsAirMesh, AreAmounts}
use Rattle.cpl_fixed.specs.Flows.{IsAirAmount}
use Rattle.cpl_fixed.proofs.Flows.{flow_most, flow_turned}
use Rattle.cpl_diffusion.proofs.Sums.{sum_to, sum_to-same, sum_to-sub, total_of-sum_to, sum_to-above}
use Rattle.cpl_diffusion.proofs.Exchange.{through, out, exchanged}
use Rattle.cpl_diffusion.proofs.Mates.{numbered, side_number, joined, joined_mates, cell-numbered, side_at-numbered}

-- what a list holds at a place where it may end
at_least : (P : ℤ → Type 0) (xs : List ℤ) → All P xs → P (pos 0) → (n : ℕ) → P (at xs n)
at_least P xs all none n = elim (cases_lt n (length xs)) [
  | inl l ↦ All-get_or P xs n (pos 0) l all
  | inr past ↦ subst P (sym (get_or_past xs n (pos 0) past)) none
]

-- a sum over the four sides of one more cell
four_more : (f : ℕ → ℤ) (m : ℕ) (w e s n : ℤ) → f (m + 0) ≡ w → f (m + 1) ≡ e → f (m + 2) ≡ s → f (m + 3) ≡ n → sum_to f (suc (suc (suc (suc m)))) ≡ sum_to f m +ℤ (w +ℤ e +ℤ s +ℤ n)
four_more f m w e s n west east south north =
    let a : f (m + 0) ≡ f m = ap f (omega arith) in
    let b : f (m + 1) ≡ f (suc m) = ap f (omega arith) in
    let c : f (m + 2) ≡ f (suc (suc m)) = ap f (omega arith) in
    let d : f (m + 3) ≡ f (suc (suc (suc m))) = ap f (omega arith) in
    omega (arith, ints)

-- what flows between two sides, by their numbers
abbrev pub exchange : Mesh → List ℤ → ℕ → ℕ → ℤ
exchange mesh xs p q = flow (at xs (p / 4)) (at mesh.area (p / 4)) (at xs (q / 4)) (at mesh.area (q / 4))

-- an area of a cell
pub area_at : (mesh : Mesh) → IsAirMesh mesh → (n : ℕ) → n < cell_count mesh → IsAirArea (at mesh.area n)
area_at mesh air n l = All-get_or IsAirArea mesh.area n (pos 0) (omega (arith, air.areas)) air.each

-- an amount of a cell: no more than the total
pub amount_at : (cells : ℕ) (xs : List ℤ) → AreAmounts cells xs → (n : ℕ) → n < cells → IsAirAmount (at xs n)
amount_at cells xs are n l =
    let old : total_of xs ≡ sum_to (at xs) cells = total_of-sum_to xs ∙ ap (sum_to (at xs)) are.count in
    let each = at_least (λ x. pos 0 ≤ℤ x) xs are.each (omega (arith, ints)) in
    let above = sum_to-above (at xs) cells (λ i m. each i) n l in
    let low = each n in
    let total = are.total in
    (low, omega (arith, ints))

module _ (mesh : Mesh) (air : IsAirMesh mesh) (mates : MatesAgree mesh.mosaic) (numbers : NumbersAgree mesh.mosaic.tiles) (xs : List ℤ) (are : AreAmounts (cell_count mesh) xs) where
  amount : (n : ℕ) → pos 0 ≤ℤ at xs n
  amount n = at_least (λ x. pos 0 ≤ℤ x) xs are.each (omega (arith, ints)) n

  area_least : (n : ℕ) → pos 0 ≤ℤ at mesh.area n
  area_least n = elim (cases_lt n (length mesh.area)) [
    | inl l ↦ let a : IsAirArea (at mesh.area n) = All-get_or IsAirArea mesh.area n (pos 0) l air.each in omega (arith, ints)
    | inr past ↦ let e = get_or_past mesh.area n (pos 0) past in omega (arith, ints)
  ]

  turned : (p q : ℕ) → exchange mesh xs p q ≡ pos 0 -ℤ exchange mesh xs q p
  turned p q = flow_turned (at xs (p / 4)) (at mesh.area (p / 4)) (at xs (q / 4)) (at mesh.area (q / 4)) (amount (p / 4)) (area_least (p / 4)) (amount (q / 4)) (area_least (q / 4))

  out_by : (n : ℕ) (side : Side) (o : Option CellSide) → through (option_map (side_number mesh.mosaic.tiles) o) (exchange mesh xs (numbered n side)) ≡ flow_to mesh xs n o
  out_by n side None = refl
  out_by n side (Some b) =
      let own = cell-numbered n side in
      let other = cell-numbered (number_of mesh.mosaic.tiles b.0) b.1 in
      λ i. flow (at xs (own i)) (at mesh.area (own i)) (at xs (other i)) (at mesh.area (other i))

  out_is : (n : ℕ) (side : Side) → out (joined mesh.mosaic) (exchange mesh xs) (numbered n side) ≡ flow_through mesh xs n side
  out_is n side =
      ap (λ (a : CellSide). through (option_map (side_number mesh.mosaic.tiles) (mate_of mesh.mosaic a)) (exchange mesh xs (numbered n side))) (side_at-numbered mesh.mosaic.tiles n side)
      ∙ out_by n side (mate_of mesh.mosaic (cell_of mesh.mosaic.tiles n, side))

  losses : (n : ℕ) → sum_to (loss mesh xs) n ≡ sum_to (out (joined mesh.mosaic) (exchange mesh xs)) (n * 4)
  losses zero = refl
  losses (suc n) =
      let before = losses n in
      let P : ℕ → Type 0 = λ m. sum_to (loss mesh xs) (suc n) ≡ sum_to (out (joined mesh.mosaic) (exchange mesh xs)) m in
      let four : suc (suc (suc (suc (n * 4)))) ≡ suc n * 4 = omega arith in
      let more = four_more (out (joined mesh.mosaic) (exchange mesh xs)) (n * 4) _ _ _ _ (out_is n W) (out_is n E) (out_is n S) (out_is n N) in
      subst P four ((λ i. before i +ℤ loss mesh xs n) ∙ sym more)

  -- what flows out of all cells is nothing
  loss_none : sum_to (loss mesh xs) (cell_count mesh) ≡ pos 0
  loss_none = losses (cell_count mesh) ∙ exchanged (joined mesh.mosaic) (exchange mesh xs) (cell_count mesh * 4) (joined_mates mesh.mosaic mates numbers) turned

  -- what stands in a cell after a step
  pub diffused_at : (n : ℕ) → n < cell_count mesh → at (diffused mesh xs) n ≡ at xs n -ℤ loss mesh xs n
  unfolding diffused
  diffused_at n l = get_or-map-range_with_len (λ n. at xs n -ℤ loss mesh xs n) 0 (cell_count mesh) n n (pos 0) l (omega arith)

  length_diffused : length (diffused mesh xs) ≡ cell_count mesh
  unfolding diffused
  length_diffused = length-map-range_with_len (λ n. at xs n -ℤ loss mesh xs n) 0 (cell_count mesh)

  pub diffused_total : total_of (diffused mesh xs) ≡ total_of xs
  diffused_total =
      let N = cell_count mesh in
      let new : total_of (diffused mesh xs) ≡ sum_to (at (diffused mesh xs)) N = total_of-sum_to (diffused mesh xs) ∙ ap (sum_to (at (diffused mesh xs))) length_diffused in
      let old : total_of xs ≡ sum_to (at xs) N = total_of-sum_to xs ∙ ap (sum_to (at xs)) are.count in
      let cells = sum_to-same (at (diffused mesh xs)) (λ n. at xs n -ℤ loss mesh xs n) N diffused_at in
      let parts = sum_to-sub (at xs) (loss mesh xs) N in
      let none = loss_none in
      omega (arith, ints)

  -- a cell gives at most an eighth of its amount through each side
  flow_to_most : (n : ℕ) → n < cell_count mesh → (o : Option CellSide) → ((b : CellSide) → o ≡ Some b → cell_number mesh b < cell_count mesh) → (pos 8 *ℤ flow_to mesh xs n o) ≤ℤ at xs n
  flow_to_most n l None within = let low = amount n in omega (arith, ints)
  flow_to_most n l (Some b) within =
      let a = area_at mesh air n l in
      let a' = area_at mesh air (cell_number mesh b) (within b refl) in
      flow_most (at xs n) (at mesh.area n) (at xs (cell_number mesh b)) (at mesh.area (cell_number mesh b)) (amount n) a.0 (amount (cell_number mesh b)) a'.0

  flow_through_most : (n : ℕ) → n < cell_count mesh → (side : Side) → (pos 8 *ℤ flow_through mesh xs n side) ≤ℤ at xs n
  flow_through_most n l side =
      let is = numbers.is_cell n l in
      flow_to_most n l (mate_of mesh.mosaic (cell_of mesh.mosaic.tiles n, side)) (λ b e. numbers.below b.0 (mates.within (cell_of mesh.mosaic.tiles n, side) b is e))

  diffused_least : (n : ℕ) → n < cell_count mesh → pos 0 ≤ℤ at (diffused mesh xs) n
  diffused_least n l =
      let e = diffused_at n l in
      let west = flow_through_most n l W in
      let east = flow_through_most n l E in
      let south = flow_through_most n l S in
      let north = flow_through_most n l N in
      let low = amount n in
      omega (arith, ints)

  pub diffused_are : AreAmounts (cell_count mesh) (diffused mesh xs)
  diffused_are = record {
    count = length_diffused;
    each = All-from_get_or (λ x. pos 0 ≤ℤ x) (diffused mesh xs) (pos 0) (λ n l. diffused_least n (omega (arith, length_diffused)));
    total = let e = diffused_total in let t = are.total in omega (arith, ints);
  }

  -- what is left in a cell
  pub left_amount : (n : ℕ) → n < cell_count mesh → IsAirAmount (at xs n -ℤ loss mesh xs n)
  left_amount n l = subst IsAirAmount (diffused_at n l) (amount_at (cell_count mesh) (diffused mesh xs) diffused_are n l)
