use Rattle.std.proofs.Common.{◌≡◌, ◌∙◌, sym, ap, subst, arith, add-one, below_more, get_or-set_same, get_or-set_other, slice_set, ℕ, suc, ◌+◌, ◌*◌, ◌<◌, ◌++◌, pos, ℤ, List, length, take}
use Rattle.std.specs.Prelude.{All}
use Rattle.std.specs.List.{flat_map, range_with_len}
use Rattle.std.proofs.lemmas.List.{take_all}
use Rattle.cpl_fixed.specs.Amounts.{IsAmount}
use Rattle.cpl_ice.specs.declared.parts.Salty.{Salty}
use Rattle.cpl_ice.specs.Cells.{IsFlight}
use Rattle.cpl_transport.specs.Cuts.{cut_of, uncut}
use Rattle.cpl_transport.specs.Salts.{IsSalty}
use Rattle.cpl_transport.proofs.Bounds.{own_amount, read}
use Rattle.cpl_transport.proofs.Frazil.{cut_flight, uncut_salty}
use Rattle.cpl_state.specs.Cut.{to_ice_numbers}
use Rattle.cpl_faces.proofs.Listed.{flat_map_next}
use Rattle.cpl_sea.specs.Passes.{top_at}
use Rattle.cpl_sea.proofs.Writes.{at_all}
use Rattle.cpl_sea.proofs.ends.cut_top.Goals as goal

-- the cell as it is read
read_cell : (cell now : Salty) → IsSalty cell → now ≡ cell → ◌≡◌ {A = Salty} (record { water = read now.water; heat = read now.heat; salt = read now.salt }) cell
read_cell cell now is e =
    (λ i. record { water = read (e i).water; heat = read (e i).heat; salt = read (e i).salt })
    ∙ (λ i. record { water = own_amount cell.water is.water i; heat = own_amount cell.heat is.heat i; salt = own_amount cell.salt is.salt i })

-- the three lists after a write at a place
module _ (water heat salt : List ℤ) (n : ℕ) (w h s : ℤ) where
  abbrev written : ℕ → Salty
  written k = top_at (slice_set water n w) (slice_set heat n h) (slice_set salt n s) k

  elsewhere : (k : ℕ) → (k ≡ n → ⊥) → written k ≡ top_at water heat salt k
  elsewhere k ne =
      let a = get_or-set_other water n k w (pos 0) ne in
      let b = get_or-set_other heat n k h (pos 0) ne in
      let c = get_or-set_other salt n k s (pos 0) ne in
      λ i. record { water = a i; heat = b i; salt = c i }

  there : n < length water → n < length heat → n < length salt → ◌≡◌ {A = Salty} (written n) (record { water = w; heat = h; salt = s })
  there in_water in_heat in_salt =
      let a = get_or-set_same water n w (pos 0) in_water in
      let b = get_or-set_same heat n h (pos 0) in_heat in
      let c = get_or-set_same salt n s (pos 0) in_salt in
      λ i. record { water = a i; heat = b i; salt = c i }

salty_top : (water heat salt : List ℤ) (n : ℕ) → All IsAmount water → All IsAmount heat → All IsAmount salt → n < length water → n < length heat → n < length salt → IsSalty (top_at water heat salt n)
salty_top water heat salt n a b c l k m = record { water = at_all IsAmount water n a l; heat = at_all IsAmount heat n b k; salt = at_all IsAmount salt n c m }

pub write_flight-requires-clause-flight : goal.write_flight-requires-clause-flight
write_flight-requires-clause-flight c =
    let n = c.loop-n.n in
    let cell = top_at c.args.water.now c.args.heat.now c.args.salt.now n in
    let is = salty_top c.args.water.now c.args.heat.now c.args.salt.now n c.requires.water c.requires.heat c.requires.salt (omega arith) (omega arith) (omega arith) in
    let same = read_cell cell (top_at c.loop-n.water c.loop-n.heat c.loop-n.salt n) is (c.loop-n.invariant.below n (omega arith)) in
    subst IsFlight (sym (c.cut-flight.ensures.value ∙ ap cut_of same)) (cut_flight cell is)

pub loop-n-preserved : goal.loop-n-preserved
loop-n-preserved c =
    let n = c.loop-n.n in
    let water = c.args.water.now in
    let heat = c.args.heat.now in
    let salt = c.args.salt.now in
    let cell = top_at water heat salt n in
    let is = salty_top water heat salt n c.requires.water c.requires.heat c.requires.salt (omega arith) (omega arith) (omega arith) in
    let same = read_cell cell (top_at c.loop-n.water c.loop-n.heat c.loop-n.salt n) is (c.loop-n.invariant.below n (omega arith)) in
    let left : c.cut-flight.new.top ≡ uncut cell = c.cut-flight.ensures.left ∙ ap uncut same in
    let flight : c.cut-flight.result ≡ cut_of cell = c.cut-flight.ensures.value ∙ ap cut_of same in
    let w = read c.cut-flight.new.top.water in
    let h = read c.cut-flight.new.top.heat in
    let s = read c.cut-flight.new.top.salt in
    let numbers = λ (k : ℕ). to_ice_numbers (cut_of (top_at water heat salt k)) in
    let one : range_with_len 0 (n + 1) ≡ range_with_len 0 (suc n) = ap (range_with_len 0) (add-one n) in
    let five : 5 * (n + 1) ≡ 5 * n + 5 = omega arith in
    record {
      top = below_more (λ k. written c.loop-n.water c.loop-n.heat c.loop-n.salt n w h s k ≡ uncut (top_at water heat salt k)) n
          (λ k l. elsewhere c.loop-n.water c.loop-n.heat c.loop-n.salt n w h s k (λ e. omega arith) ∙ c.loop-n.invariant.top k l)
          (there c.loop-n.water c.loop-n.heat c.loop-n.salt n w h s (omega arith) (omega arith) (omega arith) ∙ read_cell (uncut cell) c.cut-flight.new.top (uncut_salty cell is) left);
      below = λ k l. elsewhere c.loop-n.water c.loop-n.heat c.loop-n.salt n w h s k (λ e. omega arith) ∙ c.loop-n.invariant.below k (omega arith);
      flights = ap (λ m. take m c.write_flight.new.flights) five
          ∙ c.write_flight.ensures
          ∙ (λ i. c.loop-n.invariant.flights i ++ to_ice_numbers (flight i))
          ∙ sym (ap (flat_map numbers) one ∙ flat_map_next numbers 0 n n (omega arith));
    }

pub returns-clause-flights : goal.returns-clause-flights
returns-clause-flights c =
    let n : c.loop-n.n ≡ c.args.count = omega arith in
    let numbers = λ (k : ℕ). to_ice_numbers (cut_of (top_at c.args.water.now c.args.heat.now c.args.salt.now k)) in
    sym (take_all (5 * c.loop-n.n) c.loop-n.flights (omega arith)) ∙ c.loop-n.invariant.flights ∙ ap (λ m. flat_map numbers (range_with_len 0 m)) n
