use Rattle.std.proofs.Common.{◌≡◌, ◌∙◌, ap, arith, ℕ, ◌+◌, ◌*◌, ◌<◌, ◌++◌, List, drop}
use Rattle.std.specs.Prelude.{ℤ, map}
use Rattle.std.specs.List.{flat_map, range_with_len}
use Rattle.std.proofs.lemmas.List.{with_items_is}
use Rattle.cpl_fixed.specs.Amounts.{at}
use Rattle.cpl_ice.specs.declared.parts.Salty.{Salty}
use Rattle.cpl_state.specs.Diffusion.{cell_count}
use Rattle.cpl_state.specs.Cut.{after_cut, cut_off, to_ice_numbers}
use Rattle.cpl_state.specs.Transport.{Sea, cell_in}
use Rattle.cpl_mosaic.specs.declared.mosaic.Mesh.{Mesh}
use Rattle.cpl_transport.specs.Cuts.{cut_of, uncut}
use Rattle.cpl_sea.specs.Passes.{top_at}
use Rattle.cpl_sea.specs.Rooms.{sea_in}
use Rattle.cpl_sea.proofs.Ready.{lent}
use Rattle.cpl_sea.proofs.Tops.{lent_top, top_within}
use Rattle.cpl_sea.proofs.room.SeaRoom.cut_inside.Goals as goal

pub cut_top-requires-clause-water : goal.cut_top-requires-clause-water
cut_top-requires-clause-water c = lent (c.args.layers * cell_count c.args.mesh.now) (sea_in c.args.self.now).water c.as_mut_slice.result.now c.as_mut_slice.ensures.value c.requires.sea.water

pub cut_top-requires-clause-heat : goal.cut_top-requires-clause-heat
cut_top-requires-clause-heat c = lent (c.args.layers * cell_count c.args.mesh.now) (sea_in c.args.self.now).heat c.as_mut_slice-2.result.now c.as_mut_slice-2.ensures.value c.requires.sea.heat

pub cut_top-requires-clause-salt : goal.cut_top-requires-clause-salt
cut_top-requires-clause-salt c = lent (c.args.layers * cell_count c.args.mesh.now) (sea_in c.args.self.now).salt c.as_mut_slice-3.result.now c.as_mut_slice-3.ensures.value c.requires.sea.salt

-- a top cell, by its place in the lists that were lent
top_is : (mesh : Mesh) (sea : Sea) (water heat salt : List ℤ) → water ≡ sea.water → heat ≡ sea.heat → salt ≡ sea.salt → (n : ℕ) → top_at water heat salt n ≡ cell_in mesh sea 0 n
top_is mesh sea water heat salt w h s n =
    let here : n ≡ 0 * cell_count mesh + n = omega arith in
    λ i. record { water = at (w i) (here i); heat = at (h i) (here i); salt = at (s i) (here i) }

with_three : (mesh : Mesh) (sea : Sea) (water heat salt : List ℤ)
    → water ≡ map (λ n. (uncut (cell_in mesh sea 0 n)).water) (range_with_len 0 (cell_count mesh)) ++ drop (cell_count mesh) sea.water
    → heat ≡ map (λ n. (uncut (cell_in mesh sea 0 n)).heat) (range_with_len 0 (cell_count mesh)) ++ drop (cell_count mesh) sea.heat
    → salt ≡ map (λ n. (uncut (cell_in mesh sea 0 n)).salt) (range_with_len 0 (cell_count mesh)) ++ drop (cell_count mesh) sea.salt
    → ◌≡◌ {A = Sea} (record { water = water; heat = heat; salt = salt; faces = sea.faces }) (after_cut mesh sea)
unfolding after_cut
with_three mesh sea water heat salt w h s = λ i. record { water = w i; heat = h i; salt = s i; faces = sea.faces }

pub returns-clause-sea : goal.returns-clause-sea
returns-clause-sea c =
    let mesh = c.args.mesh.now in
    let room = c.args.self.now in
    let sea = sea_in room in
    let C = cell_count mesh in
    let count : c.cells.result ≡ C = c.cells.ensures.count in
    let top = top_within c.args.layers C c.requires.room.some.0 in
    let w = c.as_mut_slice.ensures.value in
    let h = c.as_mut_slice-2.ensures.value in
    let s = c.as_mut_slice-3.ensures.value in
    let cell : (n : ℕ) → n < C → top_at c.cut_top.new.water c.cut_top.new.heat c.cut_top.new.salt n ≡ uncut (cell_in mesh sea 0 n) =
    λ n l. c.cut_top.ensures.top n (omega (arith, count)) ∙ ap uncut (top_is mesh sea c.as_mut_slice.result.now c.as_mut_slice-2.result.now c.as_mut_slice-3.result.now w h s n) in
    let water = with_items_is room.water c.cut_top.new.water (omega arith)
    ∙ lent_top C c.cells.result (λ n. (uncut (cell_in mesh sea 0 n)).water) sea.water c.as_mut_slice.result.now c.cut_top.new.water count w (omega (arith, c.requires.sea.water.count, top)) (omega arith)
    (λ n l. ap (λ (t : Salty). t.water) (cell n l)) (λ n l. ap (λ (t : Salty). t.water) (c.cut_top.ensures.below n l)) in
    let heat = with_items_is room.heat c.cut_top.new.heat (omega arith)
    ∙ lent_top C c.cells.result (λ n. (uncut (cell_in mesh sea 0 n)).heat) sea.heat c.as_mut_slice-2.result.now c.cut_top.new.heat count h (omega (arith, c.requires.sea.heat.count, top)) (omega arith)
    (λ n l. ap (λ (t : Salty). t.heat) (cell n l)) (λ n l. ap (λ (t : Salty). t.heat) (c.cut_top.ensures.below n l)) in
    let salt = with_items_is room.salt c.cut_top.new.salt (omega arith)
    ∙ lent_top C c.cells.result (λ n. (uncut (cell_in mesh sea 0 n)).salt) sea.salt c.as_mut_slice-3.result.now c.cut_top.new.salt count s (omega (arith, c.requires.sea.salt.count, top)) (omega arith)
    (λ n l. ap (λ (t : Salty). t.salt) (cell n l)) (λ n l. ap (λ (t : Salty). t.salt) (c.cut_top.ensures.below n l)) in
    with_three mesh sea _ _ _ water heat salt

all_cut : (mesh : Mesh) (sea : Sea) (count : ℕ) (water heat salt : List ℤ) → count ≡ cell_count mesh → water ≡ sea.water → heat ≡ sea.heat → salt ≡ sea.salt
    → flat_map (λ n. to_ice_numbers (cut_of (top_at water heat salt n))) (range_with_len 0 count) ≡ cut_off mesh sea
unfolding cut_off
all_cut mesh sea count water heat salt e w h s =
    λ i. flat_map (λ n. to_ice_numbers (cut_of (top_is mesh sea water heat salt w h s n i))) (range_with_len 0 (e i))

pub returns-clause-flights : goal.returns-clause-flights
returns-clause-flights c =
    with_items_is c.args.self.now.flights c.cut_top.new.flights (omega arith)
    ∙ c.cut_top.ensures.flights
    ∙ all_cut c.args.mesh.now (sea_in c.args.self.now) c.cells.result c.as_mut_slice.result.now c.as_mut_slice-2.result.now c.as_mut_slice-3.result.now c.cells.ensures.count
    c.as_mut_slice.ensures.value c.as_mut_slice-2.ensures.value c.as_mut_slice-3.ensures.value
