use Rattle.std.proofs.Common.{◌≡◌, ◌∙◌, arith, ℕ, ◌+◌, ◌*◌, ◌<◌, ◌≤◌, ◌++◌, List, length, drop}
use Rattle.std.specs.Prelude.{ℤ, ◌+ℤ◌, map}
use Rattle.std.specs.List.{range_with_len}
use Rattle.std.proofs.lemmas.List.{with_items_is}
use Rattle.cpl_fixed.specs.Amounts.{at}
use Rattle.cpl_state.specs.Diffusion.{cell_count}
use Rattle.cpl_state.specs.Cut.{with_flight}
use Rattle.cpl_state.specs.Transport.{Sea}
use Rattle.cpl_mosaic.specs.declared.mosaic.Mesh.{Mesh}
use Rattle.cpl_sea.specs.Rooms.{sea_in}
use Rattle.cpl_sea.proofs.Ready.{lent}
use Rattle.cpl_sea.proofs.Tops.{lent_top, top_within}
use Rattle.cpl_sea.proofs.room.SeaRoom.add_inside.Goals as goal

pub add_flight-requires-clause-water : goal.add_flight-requires-clause-water
add_flight-requires-clause-water c = lent (c.args.layers * cell_count c.args.mesh.now) (sea_in c.args.self.now).water c.as_mut_slice.result.now c.as_mut_slice.ensures.value c.requires.sea.water

pub add_flight-requires-clause-heat : goal.add_flight-requires-clause-heat
add_flight-requires-clause-heat c = lent (c.args.layers * cell_count c.args.mesh.now) (sea_in c.args.self.now).heat c.as_mut_slice-2.result.now c.as_mut_slice-2.ensures.value c.requires.sea.heat

pub add_flight-requires-clause-salt : goal.add_flight-requires-clause-salt
add_flight-requires-clause-salt c = lent (c.args.layers * cell_count c.args.mesh.now) (sea_in c.args.self.now).salt c.as_mut_slice-3.result.now c.as_mut_slice-3.ensures.value c.requires.sea.salt

-- one of the three lists, with what was added to it
added : (cells count : ℕ) (place : ℕ → ℕ) (old read new flight : List ℤ) → count ≡ cells → read ≡ old → cells ≤ length old → length new ≡ length read
    → ((n : ℕ) → n < count → at new n ≡ at read n +ℤ at flight (place n)) → ((n : ℕ) → count ≤ n → at new n ≡ at read n)
    → new ≡ map (λ n. at old (0 * cells + n) +ℤ at flight (place n)) (range_with_len 0 cells) ++ drop cells old
added cells count place old read new flight same is le long top below =
    lent_top cells count (λ n. at old (0 * cells + n) +ℤ at flight (place n)) old read new same is le long
    (λ n l.
    let here : n ≡ 0 * cells + n = omega arith in
    top n (omega (arith, same)) ∙ (λ i. at (is i) (here i) +ℤ at flight (place n)))
    below

with_three : (mesh : Mesh) (sea : Sea) (flight water heat salt : List ℤ)
    → water ≡ map (λ n. at sea.water (0 * cell_count mesh + n) +ℤ at flight (3 * n)) (range_with_len 0 (cell_count mesh)) ++ drop (cell_count mesh) sea.water
    → heat ≡ map (λ n. at sea.heat (0 * cell_count mesh + n) +ℤ at flight (3 * n + 1)) (range_with_len 0 (cell_count mesh)) ++ drop (cell_count mesh) sea.heat
    → salt ≡ map (λ n. at sea.salt (0 * cell_count mesh + n) +ℤ at flight (3 * n + 2)) (range_with_len 0 (cell_count mesh)) ++ drop (cell_count mesh) sea.salt
    → ◌≡◌ {A = Sea} (record { water = water; heat = heat; salt = salt; faces = sea.faces }) (with_flight mesh sea flight)
unfolding with_flight
with_three mesh sea flight water heat salt w h s = λ i. record { water = w i; heat = h i; salt = s i; faces = sea.faces }

pub returns-clause-sea : goal.returns-clause-sea
returns-clause-sea c =
    let mesh = c.args.mesh.now in
    let room = c.args.self.now in
    let sea = sea_in room in
    let count : c.cells-count.result ≡ cell_count mesh = c.cells-count.ensures.count in
    let flight = c.args.flight.now in
    let top = top_within c.args.layers (cell_count mesh) c.requires.room.some.0 in
    let water = with_items_is room.water c.add_flight.new.water (omega arith)
    ∙ added (cell_count mesh) c.cells-count.result (λ n. 3 * n) sea.water c.as_mut_slice.result.now c.add_flight.new.water flight count c.as_mut_slice.ensures.value (omega (arith, c.requires.sea.water.count, top)) (omega arith) c.add_flight.ensures.water c.add_flight.ensures.water_below in
    let heat = with_items_is room.heat c.add_flight.new.heat (omega arith)
    ∙ added (cell_count mesh) c.cells-count.result (λ n. 3 * n + 1) sea.heat c.as_mut_slice-2.result.now c.add_flight.new.heat flight count c.as_mut_slice-2.ensures.value (omega (arith, c.requires.sea.heat.count, top)) (omega arith) c.add_flight.ensures.heat c.add_flight.ensures.heat_below in
    let salt = with_items_is room.salt c.add_flight.new.salt (omega arith)
    ∙ added (cell_count mesh) c.cells-count.result (λ n. 3 * n + 2) sea.salt c.as_mut_slice-3.result.now c.add_flight.new.salt flight count c.as_mut_slice-3.ensures.value (omega (arith, c.requires.sea.salt.count, top)) (omega arith) c.add_flight.ensures.salt c.add_flight.ensures.salt_below in
    with_three mesh sea flight _ _ _ water heat salt
