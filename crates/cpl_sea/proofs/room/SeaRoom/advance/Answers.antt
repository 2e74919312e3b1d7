use Rattle.std.proofs.Common.{◌∙◌, refl, ap, arith, ℤ, List, Vec, Global, length}
use Rattle.std.proofs.lemmas.List.{with_items_is}
use Rattle.cpl_fixed.specs.Amounts.{at}
use Rattle.cpl_state.specs.Diffusion.{cell_count}
use Rattle.cpl_sea.specs.declared.before.Before.{Before}
use Rattle.cpl_sea.specs.Passes.{height_over}
use Rattle.cpl_sea.specs.Rooms.{sea_in}
use Rattle.cpl_sea.proofs.Ready.{GoesBy, goes_by, left_salty, sea_after}
use Rattle.cpl_sea.proofs.room.SeaRoom.advance.Goals as goal
use Rattle.cpl_sea.proofs.room.SeaRoom.advance.Goals.{After-as_mut_slice-7}

-- what the step goes by
abbrev before : After-as_mut_slice-7 → Before
before c = record {
  links = c.as_slice-2.result;
  cell_faces = c.as_slice-3.result;
  ready = c.as_slice-4.result;
  heights = c.as_slice-5.result;
  water = c.as_slice-6.result;
  heat = c.as_slice-7.result;
  salt = c.as_slice-8.result;
  layers = c.args.layers;
  slope = c.args.rates.now.slope;
  mix = c.args.rates.now.mix;
}

-- which is what the room has of its ocean, and the heights of the columns
it : (c : After-as_mut_slice-7) → GoesBy c.args.mesh.now c.args.rates.now (sea_in c.args.self.now) (before c) c.as_mut_slice-2.result.now
it c =
    let mesh = c.args.mesh.now in
    goes_by mesh c.args.rates.now c.args.self.now (before c) c.as_mut_slice-2.result.now c.requires.room c.requires.sea c.requires.rates refl refl
    c.as_slice-2.ensures.value c.as_slice-3.ensures.value c.as_slice-4.ensures.value
    c.raise.new.heights (c.as_slice-5.ensures.value ∙ with_items_is c.args.self.now.heights c.raise.new.heights (omega arith)) (omega arith) c.raise.ensures.range
    (λ n l. c.raise.ensures.heights n l ∙ ap (λ (t : List ℤ). height_over (at mesh.area n) c.args.layers (cell_count mesh) t n) c.as_slice.ensures.value)
    c.as_slice-6.ensures.value c.as_slice-7.ensures.value c.as_slice-8.ensures.value c.as_mut_slice-2.ensures.value

pub pass_blocks-requires-clause-before : goal.pass_blocks-requires-clause-before
pass_blocks-requires-clause-before c = (it c).lawful

pub pass_blocks-requires-clause-face_count : goal.pass_blocks-requires-clause-face_count
pass_blocks-requires-clause-face_count c = (it c).face_count

pub pass_blocks-requires-clause-left : goal.pass_blocks-requires-clause-left
pass_blocks-requires-clause-left c = left_salty c.requires.room.ocean (it c) c.requires.sea c.requires.rates.mix.0

pub returns-clause-sea : goal.returns-clause-sea
returns-clause-sea c =
    let room = c.args.self.now in
    let is = c.requires.room in
    let water = ap (λ (v : Vec ℤ Global). v.items) c.swap.ensures.x_after ∙ with_items_is room.next_water c.pass_blocks.new.water (omega arith) in
    let heat = ap (λ (v : Vec ℤ Global). v.items) c.swap-2.ensures.x_after ∙ with_items_is room.next_heat c.pass_blocks.new.heat (omega arith) in
    let salt = ap (λ (v : Vec ℤ Global). v.items) c.swap-3.ensures.x_after ∙ with_items_is room.next_salt c.pass_blocks.new.salt (omega arith) in
    let faces = with_items_is room.faces c.pass_blocks.new.faces (omega arith) in
    (λ i. record { water = water i; heat = heat i; salt = salt i; faces = faces i })
    ∙ sea_after is.ocean (it (goal.at.returns-clause-sea c).After-as_mut_slice-7)
    c.pass_blocks.new.water c.pass_blocks.new.heat c.pass_blocks.new.salt c.pass_blocks.new.faces c.pass_blocks.ensures.mixed c.pass_blocks.ensures.faces
    (omega (arith, is.next_water)) (omega (arith, is.next_heat)) (omega (arith, is.next_salt)) (omega (arith, c.requires.sea.faces.count))

pub returns-clause-room : goal.returns-clause-room
returns-clause-room c =
    let is = c.requires.room in
    let room = c.args.self.now in
    let sea = c.requires.sea in
    record {
      ocean = is.ocean;
      few = is.few;
      some = is.some;
      links = is.links;
      cell_faces = is.cell_faces;
      ready = is.ready;
      heights = ap length (with_items_is room.heights c.raise.new.heights (omega arith)) ∙ omega (arith, is.heights);
      flows = ap length (with_items_is room.flows c.pass_blocks.new.flows (omega arith)) ∙ omega (arith, is.flows);
      rest = ap length (with_items_is room.rest c.pass_blocks.new.rest (omega arith)) ∙ omega (arith, is.rest);
      next_water = ap (λ (v : Vec ℤ Global). length v.items) c.swap.ensures.y_after ∙ sea.water.count;
      next_heat = ap (λ (v : Vec ℤ Global). length v.items) c.swap-2.ensures.y_after ∙ sea.heat.count;
      next_salt = ap (λ (v : Vec ℤ Global). length v.items) c.swap-3.ensures.y_after ∙ sea.salt.count;
    }
