-- A step keeps totals, and leaves no amount below 0.
use Rattle.std.proofs.Common.{◌≡◌, ◌∙◌, refl, sym, ap, subst, ℕ, zero, suc, ◌+◌, ◌*◌, ◌/◌, ◌%◌, ◌<◌, ◌≤◌, arith, inl, inr, Option, Some, None, List}
use Rattle.std.specs.Prelude.{ℤ, pos, ◌*ℤ◌, ◌≤ℤ◌}
use Rattle.std.proofs.lemmas.Int.{ints}
use Rattle.std.proofs.lemmas.Bool.{cases_eq}
use Rattle.std.proofs.lemmas.Nat.{div_below, mod_below}
use Rattle.std.proofs.lemmas.List.Elements.{All-from_get_or}
use Rattle.std.proofs.lemmas.List.FromFn.{get_or-map-range_with_len}
use Rattle.cpl_fixed.specs.Amounts.{IsAmount, at}
use Rattle.cpl_fixed.specs.Totals.{total_of}
use Rattle.cpl_fixed.specs.declared.rates.Rates.{Rates}
use Rattle.cpl_mosaic.specs.declared.mosaic.Mesh.{Mesh}
use Rattle.cpl_mosaic.specs.declared.parts.Side.{Side}
use Rattle.cpl_mosaic.specs.declared.parts.Side.TheVariants.{W, E, S, N}
use Rattle.cpl_mosaic.specs.Sides.{CellSide}
use Rattle.cpl_mosaic.specs.Cells.{cell_of}
use Rattle.cpl_mosaic.specs.Mates.{mate_of}
use Rattle.cpl_ice.specs.declared.parts.Salty.{Salty}
use Rattle.cpl_transport.specs.Mixing.{mixed}
use Rattle.cpl_transport.specs.Salts.{AreOutflows, IsOutflow, IsSalty, joined as both_of, nothing}
use Rattle.cpl_transport.proofs.Columns.{mixed_least, sum_same}
use Rattle.cpl_transport.proofs.Leaving.{through_outflow}
use Rattle.cpl_diffusion.proofs.Conserved.{amount_at}
use Rattle.cpl_diffusion.proofs.Sums.{sum_to, sum_to-same, sum_to-above}
use Rattle.cpl_state.specs.Diffusion.{AreAmounts, cell_count, cell_number}
use Rattle.cpl_state.specs.Transport.{Sea, behind, cell_in, flow_through, flow_to, layered, moved_out, next_number, outward, transported}
use Rattle.cpl_sea.specs.Seas.{IsOcean, IsSea}
use Rattle.cpl_sea.proofs.Pairs.{IsPart, transported_same}
use Rattle.cpl_sea.proofs.Rows.{length_layered, place_below, sum_column, sum_swap, total_layered, total_layers}

-- a number of all layers, by its layer and its place there
pub of_layer : (layers count place : ℕ) → place < layers * count → (place / count < layers) × (place % count < count)
of_layer layers count place l = elim (cases_eq count 0) [
  | inl none ↦
      let e : layers * count ≡ layers * 0 = ap (λ n. layers * n) none in
      absurd (omega (arith, e))
  | inr some ↦
      let more : 0 < count = let other : count ≡ 0 → ⊥ = some in omega arith in
      (div_below place count layers more l, mod_below place count more)
]

pub layered_place : (layers count : ℕ) (number : ℕ → ℕ → ℤ) (place : ℕ) → place < layers * count → at (layered layers count number) place ≡ number (place / count) (place % count)
layered_place layers count number place l =
    get_or-map-range_with_len (λ place. number (place / count) (place % count)) 0 (layers * count) place place (pos 0) l (omega arith)

module _ (mesh : Mesh) (layers : ℕ) (rates : Rates) (sea : Sea) (ocean : IsOcean mesh) (is_sea : IsSea mesh layers sea) where
  -- the amounts of a cell
  pub cell_salty : (layer n : ℕ) → layer < layers → n < cell_count mesh → IsSalty (cell_in mesh sea layer n)
  cell_salty layer n l k =
      let below = place_below layers (cell_count mesh) layer n l k in
      record {
        water = amount_at (layers * cell_count mesh) sea.water is_sea.water (layer * cell_count mesh + n) below;
        heat = amount_at (layers * cell_count mesh) sea.heat is_sea.heat (layer * cell_count mesh + n) below;
        salt = amount_at (layers * cell_count mesh) sea.salt is_sea.salt (layer * cell_count mesh + n) below;
      }

  -- what moves through a side
  pub record IsSideFlow (layer n : ℕ) (flow : Salty) : Type 0 where
    pub there : Salty
    pub salty : IsSalty there
    pub flows : AreOutflows (cell_in mesh sea layer n) there flow

  flow_to_is : (u : ℤ) (layer n : ℕ) (side : Side) → layer < layers → n < cell_count mesh → (o : Option CellSide) → mate_of mesh.mosaic (cell_of mesh.mosaic.tiles n, side) ≡ o → IsSideFlow layer n (flow_to mesh sea u layer n side o)
  flow_to_is u layer n side l k None e =
      let here = cell_salty layer n l k in
      record {
        there = nothing;
        salty = record { water = (omega (arith, ints), omega (arith, ints)); heat = (omega (arith, ints), omega (arith, ints)); salt = (omega (arith, ints), omega (arith, ints)) };
        flows = record {
          water = record { most = omega (arith, ints, here.water.0); least = omega (arith, ints) };
          heat = record { most = omega (arith, ints, here.heat.0); least = omega (arith, ints) };
          salt = record { most = omega (arith, ints, here.salt.0); least = omega (arith, ints) };
        };
      }
  flow_to_is u layer n side l k (Some mate) e =
      let m = cell_number mesh mate in
      let within = ocean.mates.within (cell_of mesh.mosaic.tiles n, side) mate (ocean.numbers.is_cell n k) e in
      let here = cell_salty layer n l k in
      let there = cell_salty layer m l (ocean.numbers.below mate.0 within) in
      record {
        there = cell_in mesh sea layer m;
        salty = there;
        flows = through_outflow u (cell_in mesh sea layer (behind mesh n side)) (cell_in mesh sea layer n) (cell_in mesh sea layer m) (cell_in mesh sea layer (behind mesh m mate.1)) here there;
      }

  pub side_flow : (layer n : ℕ) (side : Side) → layer < layers → n < cell_count mesh → IsSideFlow layer n (flow_through mesh layers rates sea layer n side)
  unfolding flow_through
  side_flow layer n side l k =
      flow_to_is (outward mesh.mosaic (next_number mesh layers rates sea layer) n side) layer n side l k (mate_of mesh.mosaic (cell_of mesh.mosaic.tiles n, side)) refl

  -- WATER, HEAT OR SALT

  module _ (part : Salty → ℤ) (is : IsPart part) (flows : (here there out : Salty) → AreOutflows here there out → IsOutflow (part here) (part there) (part out)) (xs : List ℤ) (are : AreAmounts (layers * cell_count mesh) xs) (same : (layer n : ℕ) → part (cell_in mesh sea layer n) ≡ at xs (layer * cell_count mesh + n)) (le : 2 ≤ rates.mix) where
    abbrev count : ℕ
    count = cell_count mesh

    abbrev rest : ℕ → ℕ → ℤ
    rest layer n = part (transported mesh layers rates sea layer n)

    abbrev next : ℕ → ℕ → ℤ
    next layer n = mixed rates.mix layers (λ l. rest l n) layer

    -- no cell gives more than half
    rest_least : (layer n : ℕ) → layer < layers → n < count → pos 0 ≤ℤ rest layer n
    unfolding transported
    rest_least layer n l k =
        let flow = flow_through mesh layers rates sea layer n in
        let out : (side : Side) → (pos 8 *ℤ part (flow side)) ≤ℤ part (cell_in mesh sea layer n) =
        λ side. let f = side_flow layer n side l k in (flows (cell_in mesh sea layer n) f.there (flow side) f.flows).most in
        let w = out W in
        let e = out E in
        let s = out S in
        let no = out N in
        let a = is.joins (flow W) (flow E) in
        let b = is.joins (flow S) (flow N) in
        let c = is.joins (both_of (flow W) (flow E)) (both_of (flow S) (flow N)) in
        let d = is.leaves (cell_in mesh sea layer n) (moved_out mesh layers rates sea layer n) in
        let here = amount_at (layers * count) xs are (layer * count + n) (place_below layers count layer n l k) in
        let own = same layer n in
        omega (arith, ints, w, e, s, no, a, b, c, d, here.0, own)

    -- the transport keeps the total
    rest_total : sum_to (λ layer. sum_to (rest layer) count) layers ≡ total_of xs
    rest_total =
        sum_to-same (λ layer. sum_to (rest layer) count) (λ layer. sum_to (λ n. at xs (layer * count + n)) count) layers
        (λ layer l. transported_same mesh layers rates sea ocean layer part is ∙ sum_to-same (λ n. part (cell_in mesh sea layer n)) (λ n. at xs (layer * count + n)) count (λ n k. same layer n))
        ∙ sym (total_layers layers count xs are.count)

    -- so what it leaves in a cell is within it
    pub rest_amount : (layer n : ℕ) → layer < layers → n < count → IsAmount (rest layer n)
    rest_amount layer n l k =
        let least = rest_least layer n l k in
        let row = sum_to-above (rest layer) count (λ i m. rest_least layer i l m) n k in
        let all = sum_to-above (λ layer. sum_to (rest layer) count) layers (λ i m. sum_least (rest i) count (λ j p. rest_least i j m p)) layer l in
        let total = rest_total in
        let most = are.total in
        (least, omega (arith, ints, row, all, total, most))
      where
        sum_least : (f : ℕ → ℤ) (n : ℕ) → ((i : ℕ) → i < n → pos 0 ≤ℤ f i) → pos 0 ≤ℤ sum_to f n
        sum_least f zero h = omega (arith, ints)
        sum_least f (suc n) h =
            let e = sum_least f n (λ i l. h i (omega arith)) in
            let d = h n (omega arith) in
            omega (arith, ints, e, d)

    next_least : (layer n : ℕ) → layer < layers → n < count → pos 0 ≤ℤ next layer n
    next_least layer n l k = mixed_least rates.mix layers (λ l. rest l n) le (λ i m. rest_least i n m k) layer l

    pub next_total : total_of (layered layers count next) ≡ total_of xs
    next_total =
        total_layered layers count next
        ∙ sum_swap next layers count
        ∙ sum_to-same (λ n. sum_to (λ layer. next layer n) layers) (λ n. sum_to (λ layer. rest layer n) layers) count
        (λ n l. sym (sum_column layers (λ layer. next layer n)) ∙ sum_same rates.mix layers (λ layer. rest layer n) ∙ sum_column layers (λ layer. rest layer n))
        ∙ sym (sum_swap rest layers count)
        ∙ rest_total

    pub next_are : AreAmounts (layers * count) (layered layers count next)
    next_are = record {
      count = length_layered layers count next;
      each = All-from_get_or (λ x. pos 0 ≤ℤ x) (layered layers count next) (pos 0)
          (λ place l.
          let within : place < layers * count = omega (arith, length_layered layers count next) in
          let of = of_layer layers count place within in
          subst (λ (x : ℤ). pos 0 ≤ℤ x) (sym (layered_place layers count next place within)) (next_least (place / count) (place % count) of.0 of.1));
      total = let e = next_total in let t = are.total in omega (arith, ints, e, t);
    }
