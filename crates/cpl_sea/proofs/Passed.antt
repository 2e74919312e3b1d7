-- How far a step has come, block by block.
use Rattle.std.proofs.Common.{◌≡◌, subst, ℕ, ◌+◌, ◌*◌, ◌<◌, ◌≤◌, arith, List, length, slice_index_or}
use Rattle.std.specs.Prelude.{ℤ, All}
use Rattle.cpl_ice.specs.declared.parts.Salty.{Salty}
use Rattle.cpl_transport.specs.Heights.{IsFaceNumber}
use Rattle.cpl_sea.specs.declared.before.Before.{Before}
use Rattle.cpl_sea.specs.declared.blocks.TheConstants.{BLOCK}
use Rattle.cpl_sea.specs.Before.{AreMixed, HaveMoved, IsLawful, left_in}
use Rattle.cpl_sea.specs.Passes.{AreSidesWithin, cell_faces_at}
use Rattle.cpl_sea.proofs.Moved.{moved_more}

-- so many blocks are done, up to this cell, and so many faces have moved
pub record HasPassed (before : Before) (turn from done : ℕ) (faces moved : List ℤ) (flows moving : List Salty) (water heat salt : List ℤ) : Type 0 where
  pub cells : from ≤ length before.heights.now
  pub turns : from < length before.heights.now → from ≡ turn * BLOCK
  pub next : (b : ℕ) → turn ≤ b → b < length before.ready.now → done ≤ slice_index_or before.ready.now b 0
  pub links : done ≤ length before.links.now
  pub moves : HaveMoved before before.layers 0 done faces moved flows moving
  pub range : All IsFaceNumber moved
  pub mixed : AreMixed before (left_in before faces) from water heat salt

-- the next block, if there is one
module _ {before : Before} (lawful : IsLawful before) {turn from done : ℕ} {faces moved : List ℤ} {flows moving : List Salty} {water heat salt : List ℤ}
    (is : HasPassed before turn from done faces moved flows moving water heat salt) (some : from < length before.heights.now) where
  abbrev next : ℕ
  next = slice_index_or before.ready.now turn 0

  below : turn < length before.ready.now
  below =
      let place = is.turns some in
      omega (arith, place, lawful.ready.blocks, lawful.cell_count)

  pub within : next ≤ length before.links.now
  within = lawful.ready.most turn below

  pub faces_moved : {after : List ℤ} {flown : List Salty} → HaveMoved before before.layers done next moved after moving flown → HaveMoved before before.layers 0 next faces after flows flown
  faces_moved = moved_more before done next (is.next turn (omega arith) below) within is.moves

  pub sides : (width : ℕ) → width ≤ BLOCK → from + width ≤ length before.heights.now → (n : ℕ) → n < width → AreSidesWithin next (cell_faces_at before.cell_faces.now (from + n))
  sides width few most n l =
      let place : turn * BLOCK + n ≡ from + n = omega (arith, is.turns some) in
      subst (λ (k : ℕ). AreSidesWithin next (cell_faces_at before.cell_faces.now k)) place (lawful.ready.sides turn n (omega arith) (omega (arith, place, lawful.cell_count)))
