-- What the passes of a step find is what the definition of the step says.
use Rattle.std.proofs.Common.{◌≡◌, ◌∙◌, refl, sym, ap, subst, ℕ, ◌+◌, ◌*◌, ◌/◌, ◌%◌, ◌<◌, ◌≤◌, arith, Bool, true, false, ◌&&◌, List, length}
use Rattle.std.specs.Prelude.{ℤ, pos, All, if◌then◌else◌}
use Rattle.std.proofs.lemmas.Nat.{div-add-mod'}
use Rattle.std.proofs.lemmas.List.Elements.{All-from_get_or}
use Rattle.std.proofs.lemmas.List.FromFn.{fill_by_all}
use Rattle.cpl_fixed.specs.Amounts.{IsAmount, at}
use Rattle.cpl_fixed.specs.Ranges.{AreRates}
use Rattle.cpl_fixed.specs.declared.rates.Rates.{Rates}
use Rattle.cpl_mosaic.specs.declared.mosaic.Mesh.{Mesh}
use Rattle.cpl_mosaic.specs.declared.parts.Side.TheVariants.{W, E, S, N}
use Rattle.cpl_ice.specs.declared.parts.Salty.{Salty}
use Rattle.cpl_transport.specs.Cells.{mixed_cell}
use Rattle.cpl_transport.specs.Heights.{IsHeight, next_face}
use Rattle.cpl_transport.specs.Mixing.{mixed}
use Rattle.cpl_transport.specs.Salts.{IsSalty, joined, without}
use Rattle.cpl_state.specs.Diffusion.{AreAmounts, cell_count}
use Rattle.cpl_diffusion.proofs.Conserved.{amount_at}
use Rattle.cpl_state.specs.Transport.{Sea, face_at, face_count, height_at, is_open, is_wet, layered, moved_out, next_number, stepped, transported}
use Rattle.cpl_sea.specs.declared.before.Before.{Before}
use Rattle.cpl_sea.specs.declared.links.Link.{Link}
use Rattle.cpl_sea.specs.declared.links.CellFaces.{CellFaces}
use Rattle.cpl_sea.specs.declared.room.SeaRoom.{SeaRoom}
use Rattle.cpl_sea.specs.Before.{AreMixed, IsLawful, face_place, layer_flows, layer_numbers, left_in}
use Rattle.cpl_sea.specs.Blocks.{AreReady}
use Rattle.cpl_sea.specs.Links.{all_cell_faces, cell_faces, face_flow, link_of, links_of}
use Rattle.cpl_sea.specs.Passes.{IsLinkWithin, cell_faces_at, flow_in, height_over, link_at, number_after, out_of, top_at}
use Rattle.cpl_sea.specs.Rooms.{IsSeaRoom, sea_in}
use Rattle.cpl_sea.specs.Seas.{IsOcean, IsSea}
use Rattle.cpl_sea.proofs.Flows.{flow_seen}
use Rattle.cpl_sea.proofs.Kept.{of_layer, rest_amount}
use Rattle.cpl_sea.proofs.Looked.{cell_faces_is, length_cell_faces, length_links, link_is, link_within, links_within, sides_within}
use Rattle.cpl_sea.proofs.Mixed.{cells_same}
use Rattle.cpl_sea.proofs.Outs.{out_same}
use Rattle.cpl_sea.proofs.Steps.{is_heat, is_salt, is_water}

both_wet : (a b : Bool) → (a && b) ≡ true → (a ≡ true) × (b ≡ true)
both_wet true true h = (refl, refl)
both_wet true false h = absurd (cc h)
both_wet false b h = absurd (cc h)

wet_height : (b : Bool) (x : ℤ) → b ≡ true → (if b then x else pos 0) ≡ x
wet_height true x h = refl
wet_height false x h = absurd (cc h)

open_number : (b : Bool) (slope : ℕ) (u x y x' y' : ℤ) → (b ≡ true → (x ≡ x') × (y ≡ y')) → (if b then next_face slope u x y else pos 0) ≡ (if b then next_face slope u x' y' else pos 0)
open_number true slope u x y x' y' h = let e = h refl in λ i. next_face slope u (e.0 i) (e.1 i)
open_number false slope u x y x' y' h = refl

-- a list whose numbers are those of layers
pub filled : (layers count : ℕ) (number : ℕ → ℕ → ℤ) (xs : List ℤ) → length xs ≡ layers * count → ((layer n : ℕ) → layer < layers → n < count → at xs (layer * count + n) ≡ number layer n) → xs ≡ layered layers count number
filled layers count number xs long each =
    fill_by_all (λ place. number (place / count) (place % count)) xs (layers * count) (pos 0) long
    (λ place l.
    let of = of_layer layers count place l in
    let e : place ≡ place / count * count + place % count = let whole = div-add-mod' place count in omega (arith, whole) in
    ap (at xs) e ∙ each (place / count) (place % count) of.0 of.1)

-- WHAT A STEP GOES BY, AND WHAT IT LEAVES

-- a step goes by this mesh and ocean, whose faces have these numbers
pub record GoesBy (mesh : Mesh) (rates : Rates) (sea : Sea) (before : Before) (faces : List ℤ) : Type 0 where
  pub lawful : IsLawful before
  pub slope : before.slope ≡ rates.slope
  pub mix : before.mix ≡ rates.mix
  pub links : before.links.now ≡ links_of mesh
  pub cell_faces : before.cell_faces.now ≡ all_cell_faces mesh
  pub count : length before.heights.now ≡ cell_count mesh
  pub numbers : faces ≡ sea.faces
  pub face_count : length faces ≡ before.layers * length before.links.now
  pub raised : (n : ℕ) → n < cell_count mesh → at before.heights.now n ≡ height_over (at mesh.area n) before.layers (cell_count mesh) sea.water n
  pub water : before.water.now ≡ sea.water
  pub heat : before.heat.now ≡ sea.heat
  pub salt : before.salt.now ≡ sea.salt

module _ {mesh : Mesh} {rates : Rates} {sea : Sea} {before : Before} {faces : List ℤ} (ocean : IsOcean mesh) (it : GoesBy mesh rates sea before faces) where
  abbrev count : ℕ
  count = cell_count mesh

  abbrev layers : ℕ
  layers = before.layers

  columns : length before.links.now ≡ face_count mesh
  columns = ap length it.links ∙ length_links mesh

  link_looked : (f : ℕ) → f < face_count mesh → link_at before.links.now f ≡ link_of mesh (face_at mesh f)
  link_looked f l = ap (λ (t : List Link). link_at t f) it.links ∙ link_is mesh f l

  height_is : (n : ℕ) → n < count → is_wet mesh n ≡ true → at before.heights.now n ≡ height_at mesh layers sea n
  height_is n l wet = it.raised n l ∙ wet_height (is_wet mesh n) (height_at mesh layers sea n) wet

  -- each face's number after the step
  number_is : (layer f : ℕ) → f < face_count mesh → layer_numbers before faces layer f ≡ next_number mesh layers rates sea layer f
  unfolding next_number
  number_is layer f l =
      let within = link_within mesh ocean f l in
      let first = (face_at mesh f).first in
      let second = (face_at mesh f).second in
      let link = link_looked f l in
      (λ i. number_after (it.slope i) before.heights.now (link i) (at (it.numbers i) (layer * columns i + f)))
      ∙ open_number (is_open mesh first second) rates.slope (at sea.faces (layer * face_count mesh + f)) (at before.heights.now first) (at before.heights.now second) (height_at mesh layers sea first) (height_at mesh layers sea second)
      (λ no_wall.
      let wet = both_wet (is_wet mesh first) (is_wet mesh second) no_wall in
      (height_is first within.first wet.0, height_is second within.second wet.1))

  -- what moves through it
  moving_is : (layer f : ℕ) → f < face_count mesh → layer_flows before faces layer f ≡ face_flow mesh layers rates sea layer f
  unfolding face_flow
  moving_is layer f l =
      let link = link_looked f l in
      let number = number_is layer f l in
      λ i. flow_in (top_at (it.water i) (it.heat i) (it.salt i)) (layer * it.count i) (link i) (number i)

  -- what a cell's faces see
  out_is : (layer n : ℕ) → n < count → out_of (face_flow mesh layers rates sea layer) (cell_faces mesh.mosaic n) ≡ moved_out mesh layers rates sea layer n
  out_is layer n l =
      let west = flow_seen mesh layers rates sea ocean layer n W in
      let east = flow_seen mesh layers rates sea ocean layer n E in
      let south = flow_seen mesh layers rates sea ocean layer n S in
      let north = flow_seen mesh layers rates sea ocean layer n N in
      sym (λ i. joined (joined (west i) (east i)) (joined (south i) (north i)))

  -- and what the transport leaves in it
  left_is : (layer n : ℕ) → layer < layers → n < count → left_in before faces layer n ≡ transported mesh layers rates sea layer n
  unfolding transported
  left_is layer n l k =
      let flows = layer_flows before faces layer in
      let own : cell_faces_at before.cell_faces.now n ≡ cell_faces mesh.mosaic n = ap (λ (t : List CellFaces). cell_faces_at t n) it.cell_faces ∙ cell_faces_is mesh n k in
      let out : out_of flows (cell_faces_at before.cell_faces.now n) ≡ moved_out mesh layers rates sea layer n =
      ap (out_of flows) own
      ∙ out_same (face_count mesh) flows (face_flow mesh layers rates sea layer) (moving_is layer) (cell_faces mesh.mosaic n) (sides_within mesh.mosaic n)
      ∙ out_is layer n k in
      λ i. without (top_at (it.water i) (it.heat i) (it.salt i) (layer * it.count i + n)) (out i)

  module _ (is_sea : IsSea mesh layers sea) (le : 2 ≤ rates.mix) where
    transported_salty : (layer n : ℕ) → layer < layers → n < count → IsSalty (transported mesh layers rates sea layer n)
    transported_salty layer n l k = record {
      water = rest_amount mesh layers rates sea ocean is_sea (λ (it : Salty). it.water) is_water (λ here there out h. h.water) sea.water is_sea.water (λ layer n. refl) le layer n l k;
      heat = rest_amount mesh layers rates sea ocean is_sea (λ (it : Salty). it.heat) is_heat (λ here there out h. h.heat) sea.heat is_sea.heat (λ layer n. refl) le layer n l k;
      salt = rest_amount mesh layers rates sea ocean is_sea (λ (it : Salty). it.salt) is_salt (λ here there out h. h.salt) sea.salt is_sea.salt (λ layer n. refl) le layer n l k;
    }

    pub left_salty : (layer n : ℕ) → layer < layers → n < length before.heights.now → IsSalty (left_in before faces layer n)
    left_salty layer n l k =
        let within : n < count = omega (arith, k, it.count) in
        subst IsSalty (sym (left_is layer n l within)) (transported_salty layer n l within)

  -- each face's number, by its place after the step
  numbers_are : (after : List ℤ) → ((layer f : ℕ) → layer < layers → f < length before.links.now → at after (face_place before layer f) ≡ layer_numbers before faces layer f)
      → (layer f : ℕ) → layer < layers → f < face_count mesh → at after (layer * face_count mesh + f) ≡ next_number mesh layers rates sea layer f
  numbers_are after numbers layer f l k =
      ap (λ (m : ℕ). at after (layer * m + f)) (sym columns) ∙ numbers layer f l (omega (arith, columns)) ∙ number_is layer f k

  -- what the vertical exchange makes of each cell
  cells_are : (water heat salt : List ℤ) → AreMixed before (left_in before faces) (length before.heights.now) water heat salt
      → (layer n : ℕ) → layer < layers → n < count
      → ◌≡◌ {A = Salty} (top_at water heat salt (layer * count + n)) (mixed_cell rates.mix layers (λ l. transported mesh layers rates sea l n) layer)
  cells_are water heat salt are layer n l k =
      ap (λ (m : ℕ). top_at water heat salt (layer * m + n)) (sym it.count)
      ∙ are layer n l (omega (arith, k, it.count))
      ∙ cells_same before.mix layers (λ j. left_in before faces j n) (λ j. transported mesh layers rates sea j n) (λ j h. left_is j n h k) layer l
      ∙ ap (λ (mix : ℕ). mixed_cell mix layers (λ l. transported mesh layers rates sea l n) layer) it.mix

  -- and the ocean after the step
  pub sea_after : (water heat salt after : List ℤ) → AreMixed before (left_in before faces) (length before.heights.now) water heat salt
      → ((layer f : ℕ) → layer < layers → f < length before.links.now → at after (face_place before layer f) ≡ layer_numbers before faces layer f)
      → length water ≡ layers * count → length heat ≡ layers * count → length salt ≡ layers * count → length after ≡ layers * face_count mesh
      → ◌≡◌ {A = Sea} (record { water = water; heat = heat; salt = salt; faces = after }) (stepped mesh layers rates sea)
  unfolding stepped
  sea_after water heat salt after are numbers w h s f =
      let each = cells_are water heat salt are in
      let next_water = filled layers count (λ layer n. mixed rates.mix layers (λ l. (transported mesh layers rates sea l n).water) layer) water w (λ layer n l k. ap (λ (t : Salty). t.water) (each layer n l k)) in
      let next_heat = filled layers count (λ layer n. mixed rates.mix layers (λ l. (transported mesh layers rates sea l n).heat) layer) heat h (λ layer n l k. ap (λ (t : Salty). t.heat) (each layer n l k)) in
      let next_salt = filled layers count (λ layer n. mixed rates.mix layers (λ l. (transported mesh layers rates sea l n).salt) layer) salt s (λ layer n l k. ap (λ (t : Salty). t.salt) (each layer n l k)) in
      let next_faces = filled layers (face_count mesh) (next_number mesh layers rates sea) after f (numbers_are after numbers) in
      λ i. record { water = next_water i; heat = next_heat i; salt = next_salt i; faces = next_faces i }

-- amounts of a list that is lent
pub lent : (count : ℕ) (xs ys : List ℤ) → ys ≡ xs → AreAmounts count xs → All IsAmount ys
lent count xs ys e are =
    subst (All IsAmount) (sym e)
    (All-from_get_or IsAmount xs (pos 0) (λ n l. amount_at count xs are n (omega (arith, are.count))))

-- where it is lent what stands in a room
pub goes_by : (mesh : Mesh) (rates : Rates) (room : SeaRoom) (before : Before) (faces : List ℤ)
    → IsSeaRoom mesh before.layers room → IsSea mesh before.layers (sea_in room) → AreRates rates → before.slope ≡ rates.slope → before.mix ≡ rates.mix
    → before.links.now ≡ room.links.items → before.cell_faces.now ≡ room.cell_faces.items → before.ready.now ≡ room.ready.items
    → (raised : List ℤ) → before.heights.now ≡ raised → length raised ≡ length room.heights.items → All IsHeight raised
    → ((n : ℕ) → n < cell_count mesh → at raised n ≡ height_over (at mesh.area n) before.layers (cell_count mesh) room.water.items n)
    → before.water.now ≡ room.water.items → before.heat.now ≡ room.heat.items → before.salt.now ≡ room.salt.items → faces ≡ room.faces.items
    → GoesBy mesh rates (sea_in room) before faces
goes_by mesh rates room before faces is sea are slope mix links cell_faces ready raised heights long range each water heat salt numbers =
    let links_are = links ∙ is.links in
    let cell_faces_are = cell_faces ∙ is.cell_faces in
    let columns : length before.links.now ≡ face_count mesh = ap length links_are ∙ length_links mesh in
    let count : length before.heights.now ≡ cell_count mesh = ap length heights ∙ long ∙ is.heights in
    let all : length before.water.now ≡ before.layers * cell_count mesh = ap length water ∙ sea.water.count in
    let whole : before.layers * length before.heights.now ≡ before.layers * cell_count mesh = ap (λ (m : ℕ). before.layers * m) count in
    record {
      lawful = record {
        slope = omega (arith, slope, are.slope.1);
        mix = (omega (arith, mix, are.mix.0), omega (arith, mix, are.mix.1));
        heights = subst (All IsHeight) (sym heights) range;
        links = subst (λ (xs : List Link). All (IsLinkWithin (length before.heights.now)) xs) (sym links_are)
            (subst (λ (n : ℕ). All (IsLinkWithin n) (links_of mesh)) (sym count) (links_within mesh is.ocean));
        few = omega (arith, columns, is.ocean.faces.few, count);
        cell_count = ap length cell_faces_are ∙ length_cell_faces mesh ∙ sym count;
        ready = subst (λ (n : ℕ). AreReady n before.cell_faces.now before.ready.now) (sym columns)
            (subst (λ (xs : List CellFaces). AreReady (face_count mesh) xs before.ready.now) (sym cell_faces)
            (subst (λ (xs : List ℕ). AreReady (face_count mesh) room.cell_faces.items xs) (sym ready) is.ready));
        columns = record { layers_most = is.some.1; count_most = omega (arith, count, is.few); all = omega (arith, all, whole) };
        heat_count = ap length heat ∙ sea.heat.count ∙ sym all;
        salt_count = ap length salt ∙ sea.salt.count ∙ sym all;
        water = lent (before.layers * cell_count mesh) room.water.items before.water.now water sea.water;
        heat = lent (before.layers * cell_count mesh) room.heat.items before.heat.now heat sea.heat;
        salt = lent (before.layers * cell_count mesh) room.salt.items before.salt.now salt sea.salt;
      };
      slope = slope;
      mix = mix;
      links = links_are;
      cell_faces = cell_faces_are;
      count = count;
      numbers = numbers;
      face_count = ap length numbers ∙ sea.faces.count ∙ sym (ap (λ (m : ℕ). before.layers * m) columns);
      raised = λ n l. ap (λ (t : List ℤ). at t n) heights ∙ each n l;
      water = water;
      heat = heat;
      salt = salt;
    }
