-- What moves out of all cells of a layer adds up to nothing, since what moves out through a side moves in through its mate.
use Rattle.std.proofs.Common.{◌≡◌, ◌∙◌, refl, sym, ap, ℕ, ◌+◌, ◌*◌, ◌/◌, ◌%◌, ◌<◌, arith, inl, inr, Option, Some, None, nat_lt, if◌then◌else◌}
use Rattle.std.specs.Prelude.{ℤ, pos, neg_ℤ, ◌+ℤ◌, ◌-ℤ◌}
use Rattle.std.specs.Option.{option_map}
use Rattle.std.proofs.lemmas.Int.{ints}
use Rattle.std.proofs.lemmas.Bool.{cases_lt}
use Rattle.std.proofs.lemmas.Bool.Decides.{nat_tests}
use Rattle.cpl_fixed.specs.declared.rates.Rates.{Rates}
use Rattle.cpl_mosaic.specs.declared.mosaic.Mesh.{Mesh}
use Rattle.cpl_mosaic.specs.declared.parts.Side.{Side}
use Rattle.cpl_mosaic.specs.declared.parts.Side.TheVariants.{W, E, S, N}
use Rattle.cpl_mosaic.specs.Sides.{CellSide, IsCellOf}
use Rattle.cpl_mosaic.specs.Cells.{cell_of}
use Rattle.cpl_mosaic.specs.Mates.{mate_of}
use Rattle.cpl_ice.specs.declared.parts.Salty.{Salty}
use Rattle.cpl_transport.specs.Moves.{through}
use Rattle.cpl_transport.specs.Salts.{joined as both_of, nothing, turned, without}
use Rattle.cpl_transport.proofs.Leaving.{through_turned}
use Rattle.cpl_diffusion.proofs.Sums.{sum_to, sum_to-same, sum_to-sub}
use Rattle.cpl_diffusion.proofs.Exchange.{through as passing, out, exchanged}
use Rattle.cpl_diffusion.proofs.Mates.{numbered, side_number, side_of, joined, joined_mates, cell-numbered, side_at-numbered}
use Rattle.cpl_state.specs.Diffusion.{cell_count, cell_number}
use Rattle.cpl_state.specs.Transport.{Sea, behind, cell_in, flow_through, flow_to, moved_out, next_number, outward, transported}
use Rattle.cpl_sea.specs.Seas.{IsOcean}
use Rattle.cpl_sea.proofs.Sides.{seen_turned}
use Rattle.cpl_sea.proofs.Rows.{sum_rows}

-- water, heat or salt of it
pub record IsPart (part : Salty → ℤ) : Type 0 where
  pub turns : (it : Salty) → part (turned it) ≡ neg_ℤ (part it)
  pub none : part nothing ≡ pos 0
  pub joins : (a b : Salty) → part (both_of a b) ≡ part a +ℤ part b
  pub leaves : (a b : Salty) → part (without a b) ≡ part a -ℤ part b

-- a number that turns its sign with its two arguments
abbrev opposed : (ℕ → ℤ) → ℕ → ℕ → ℤ
opposed value p q = if nat_lt p q then value p else (if nat_lt q p then neg_ℤ (value q) else pos 0)

opposed_first : (value : ℕ → ℤ) (p q : ℕ) → p < q → opposed value p q ≡ value p
opposed_first value p q l = grind (arith, nat_tests)

opposed_later : (value : ℕ → ℤ) (p q : ℕ) → q < p → opposed value p q ≡ neg_ℤ (value q)
opposed_later value p q l = grind (arith, nat_tests)

opposed_own : (value : ℕ → ℤ) (p q : ℕ) → p ≡ q → opposed value p q ≡ pos 0
opposed_own value p q e = grind (arith, nat_tests)

neg_twice : (x : ℤ) → x ≡ neg_ℤ (neg_ℤ x)
neg_twice x = omega (arith, ints)

opposed_turned : (value : ℕ → ℤ) (p q : ℕ) → opposed value q p ≡ neg_ℤ (opposed value p q)
opposed_turned value p q = elim (cases_lt p q) [
  | inl l ↦ opposed_later value q p l ∙ sym (ap neg_ℤ (opposed_first value p q l))
  | inr past ↦ elim (cases_lt q p) [
    | inl l ↦ opposed_first value q p l ∙ neg_twice (value q) ∙ sym (ap neg_ℤ (opposed_later value p q l))
    | inr before ↦
        let e : p ≡ q = omega arith in
        opposed_own value q p (sym e) ∙ sym (ap neg_ℤ (opposed_own value p q e))
  ]
]

-- between mates, one of which sees the negative, it is what the first sees
opposed_is : (value : ℕ → ℤ) (p q : ℕ) → (p ≡ q → ⊥) → value q ≡ neg_ℤ (value p) → opposed value p q ≡ value p
opposed_is value p q other e = elim (cases_lt p q) [
  | inl l ↦ opposed_first value p q l
  | inr past ↦ opposed_later value p q (let different : p ≡ q → ⊥ = other in omega arith) ∙ ap neg_ℤ e ∙ sym (neg_twice (value p))
]

module _ (mesh : Mesh) (layers : ℕ) (rates : Rates) (sea : Sea) (ocean : IsOcean mesh) (layer : ℕ) where
  -- what a side sees of its face, by its number
  abbrev value : ℕ → ℤ
  value p = outward mesh.mosaic (next_number mesh layers rates sea layer) (p / 4) (side_of (p % 4))

  -- what moves from one side to another
  abbrev moving : ℕ → ℕ → Salty
  moving p q =
      through (opposed value p q)
      (cell_in mesh sea layer (behind mesh (p / 4) (side_of (p % 4)))) (cell_in mesh sea layer (p / 4))
      (cell_in mesh sea layer (q / 4)) (cell_in mesh sea layer (behind mesh (q / 4) (side_of (q % 4))))

  moving_turned : (p q : ℕ) → moving q p ≡ turned (moving p q)
  moving_turned p q =
      let here = cell_in mesh sea layer (p / 4) in
      let there = cell_in mesh sea layer (q / 4) in
      let behind_here = cell_in mesh sea layer (behind mesh (p / 4) (side_of (p % 4))) in
      let beyond = cell_in mesh sea layer (behind mesh (q / 4) (side_of (q % 4))) in
      ap (λ (u : ℤ). through u beyond there here behind_here) (opposed_turned value p q)
      ∙ through_turned (opposed value p q) behind_here here there beyond

  -- the side of a cell that is numbered so
  side-numbered : (n : ℕ) (side : Side) → side_of (numbered n side % 4) ≡ side
  side-numbered n side = ap (λ (a : CellSide). a.1) (side_at-numbered mesh.mosaic.tiles n side)

  value_is : (n : ℕ) (side : Side) → value (numbered n side) ≡ outward mesh.mosaic (next_number mesh layers rates sea layer) n side
  value_is n side = λ i. outward mesh.mosaic (next_number mesh layers rates sea layer) (cell-numbered n side i) (side-numbered n side i)

  -- what moves through a side that meets another
  module _ (n : ℕ) (side : Side) (l : n < cell_count mesh) (b : CellSide) (e : mate_of mesh.mosaic (cell_of mesh.mosaic.tiles n, side) ≡ Some b) where
    abbrev m : ℕ
    m = cell_number mesh b

    is_cell : IsCellOf mesh.mosaic.tiles b.0
    is_cell = ocean.mates.within (cell_of mesh.mosaic.tiles n, side) b (ocean.numbers.is_cell n l) e

    numbered_mate : b ≡ (cell_of mesh.mosaic.tiles m, b.1)
    numbered_mate = λ i. (sym (ocean.numbers.cell_number b.0 is_cell) i, b.1)

    opposite_values : outward mesh.mosaic (next_number mesh layers rates sea layer) m b.1 ≡ neg_ℤ (outward mesh.mosaic (next_number mesh layers rates sea layer) n side)
    opposite_values =
        seen_turned mesh.mosaic ocean.mates ocean.numbers ocean.faces (next_number mesh layers rates sea layer) n m side b.1 l (ocean.numbers.below b.0 is_cell)
        (e ∙ ap Some numbered_mate)

    different : numbered n side ≡ numbered m b.1 → ⊥
    different same =
        let cell : n ≡ m = sym (cell-numbered n side) ∙ ap (λ p. p / 4) same ∙ cell-numbered m b.1 in
        let way : side ≡ b.1 = sym (side-numbered n side) ∙ ap (λ p. side_of (p % 4)) same ∙ side-numbered m b.1 in
        let whole : ◌≡◌ {A = CellSide} (cell_of mesh.mosaic.tiles n, side) b = (λ i. (cell_of mesh.mosaic.tiles (cell i), way i)) ∙ sym numbered_mate in
        ocean.mates.apart (cell_of mesh.mosaic.tiles n, side) b (ocean.numbers.is_cell n l) e whole

    moving_is : moving (numbered n side) (numbered m b.1) ≡ flow_to mesh sea (outward mesh.mosaic (next_number mesh layers rates sea layer) n side) layer n side (Some b)
    moving_is =
        let u = opposed_is value (numbered n side) (numbered m b.1) different (value_is m b.1 ∙ opposite_values ∙ ap neg_ℤ (sym (value_is n side))) ∙ value_is n side in
        let here = cell-numbered n side in
        let way = side-numbered n side in
        let there = cell-numbered m b.1 in
        let other = side-numbered m b.1 in
        λ i. through (u i)
        (cell_in mesh sea layer (behind mesh (here i) (way i))) (cell_in mesh sea layer (here i))
        (cell_in mesh sea layer (there i)) (cell_in mesh sea layer (behind mesh (there i) (other i)))

  module _ (part : Salty → ℤ) (is : IsPart part) where
    abbrev moving_part : ℕ → ℕ → ℤ
    moving_part p q = part (moving p q)

    out_by : (n : ℕ) (side : Side) → n < cell_count mesh → (o : Option CellSide) → mate_of mesh.mosaic (cell_of mesh.mosaic.tiles n, side) ≡ o
        → passing (option_map (side_number mesh.mosaic.tiles) o) (moving_part (numbered n side)) ≡ part (flow_to mesh sea (outward mesh.mosaic (next_number mesh layers rates sea layer) n side) layer n side o)
    out_by n side l None e = sym is.none
    out_by n side l (Some b) e = ap part (moving_is n side l b e)

    out_is : (n : ℕ) (side : Side) → n < cell_count mesh → out (joined mesh.mosaic) moving_part (numbered n side) ≡ part (flow_through mesh layers rates sea layer n side)
    unfolding flow_through
    out_is n side l =
        ap (λ (a : CellSide). passing (option_map (side_number mesh.mosaic.tiles) (mate_of mesh.mosaic a)) (moving_part (numbered n side))) (side_at-numbered mesh.mosaic.tiles n side)
        ∙ out_by n side l (mate_of mesh.mosaic (cell_of mesh.mosaic.tiles n, side)) refl

    -- through the four sides of a cell
    four : (n : ℕ) → n < cell_count mesh → sum_to (λ d. out (joined mesh.mosaic) moving_part (n * 4 + d)) 4 ≡ part (moved_out mesh layers rates sea layer n)
    four n l =
        let flow = flow_through mesh layers rates sea layer n in
        let w = out_is n W l in
        let e = out_is n E l in
        let s = out_is n S l in
        let no = out_is n N l in
        let a = is.joins (flow W) (flow E) in
        let b = is.joins (flow S) (flow N) in
        let c = is.joins (both_of (flow W) (flow E)) (both_of (flow S) (flow N)) in
        omega (arith, ints, w, e, s, no, a, b, c)

    pub moved_none : sum_to (λ n. part (moved_out mesh layers rates sea layer n)) (cell_count mesh) ≡ pos 0
    moved_none =
        sym (sum_to-same (λ n. sum_to (λ d. out (joined mesh.mosaic) moving_part (n * 4 + d)) 4) (λ n. part (moved_out mesh layers rates sea layer n)) (cell_count mesh) four)
        ∙ sym (sum_rows (out (joined mesh.mosaic) moving_part) (cell_count mesh) 4)
        ∙ exchanged (joined mesh.mosaic) moving_part (cell_count mesh * 4) (joined_mates mesh.mosaic ocean.mates ocean.numbers)
        (λ p q. let e : part (moving p q) ≡ neg_ℤ (part (moving q p)) = ap part (moving_turned q p) ∙ is.turns (moving q p) in omega (arith, ints, e))

    -- so the transport keeps what a layer has
    pub transported_same : sum_to (λ n. part (transported mesh layers rates sea layer n)) (cell_count mesh) ≡ sum_to (λ n. part (cell_in mesh sea layer n)) (cell_count mesh)
    unfolding transported
    transported_same =
        let each = sum_to-same (λ n. part (transported mesh layers rates sea layer n)) (λ n. part (cell_in mesh sea layer n) -ℤ part (moved_out mesh layers rates sea layer n)) (cell_count mesh)
        (λ n l. is.leaves (cell_in mesh sea layer n) (moved_out mesh layers rates sea layer n)) in
        let apart = sum_to-sub (λ n. part (cell_in mesh sea layer n)) (λ n. part (moved_out mesh layers rates sea layer n)) (cell_count mesh) in
        let none = moved_none in
        omega (arith, ints, each, apart, none)
