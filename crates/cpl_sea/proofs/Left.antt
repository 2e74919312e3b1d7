-- What is left in the cells of a block, and what it is mixed to.
use Rattle.std.proofs.Common.{◌≡◌, ◌∙◌, sym, ap, subst, ℕ, ◌+◌, ◌-◌, ◌*◌, ◌<◌, arith, inl, inr, List, length}
use Rattle.std.specs.Prelude.{ℤ, All}
use Rattle.std.proofs.lemmas.Bool.{cases_lt}
use Rattle.cpl_ice.specs.declared.parts.Salty.{Salty}
use Rattle.cpl_transport.specs.Cells.{mixed_cell}
use Rattle.cpl_transport.specs.Salts.{IsSalty, without}
use Rattle.cpl_sea.specs.declared.before.Before.{Before}
use Rattle.cpl_sea.specs.declared.before.Block.{Block}
use Rattle.cpl_sea.specs.Before.{AreMixed, HaveMoved, cell_at, cell_place, face_place, layer_flows, left_by, left_in}
use Rattle.cpl_sea.specs.Passes.{AreSidesWithin, cell_faces_at, column_at, salty_at, top_at}
use Rattle.cpl_sea.proofs.Mixed.{all_layers, cells_same}
use Rattle.cpl_sea.proofs.Outs.{out_same}

-- when the faces of a block's cells have moved, and what the transport leaves in them has its place
module _ (before : Before) (block : Block) {done : ℕ} {faces moved : List ℤ} {flows moving : List Salty} (is : HaveMoved before before.layers 0 done faces moved flows moving)
    (sides : (n : ℕ) → n < block.width → AreSidesWithin done (cell_faces_at before.cell_faces.now (block.from + n))) (rest : List Salty)
    (leaves : (layer n : ℕ) → layer < before.layers → n < block.width → salty_at rest (layer * block.width + n) ≡ left_by before (λ f. salty_at moving (face_place before layer f)) layer (block.from + n)) where
  abbrev left : ℕ → ℕ → Salty
  left = left_in before faces

  left_is : (layer n : ℕ) → layer < before.layers → n < block.width → salty_at rest (layer * block.width + n) ≡ left layer (block.from + n)
  left_is layer n l m =
      leaves layer n l m
      ∙ ap (without (cell_at before (cell_place before layer (block.from + n))))
      (out_same done (λ f. salty_at moving (face_place before layer f)) (layer_flows before faces layer) (λ f less. (is layer l).flown f (omega arith) less)
      (cell_faces_at before.cell_faces.now (block.from + n)) (sides n m))

  pub left_salty : length rest ≡ before.layers * block.width → ((layer n : ℕ) → layer < before.layers → n < block.width → IsSalty (left layer (block.from + n))) → All IsSalty rest
  left_salty long salty =
      all_layers IsSalty rest before.layers block.width long (λ layer n l m. subst IsSalty (sym (left_is layer n l m)) (salty layer n l m))

  -- the block's cells are mixed, and those before it stay so
  pub more_mixed : (old_water old_heat old_salt water heat salt : List ℤ) → AreMixed before left block.from old_water old_heat old_salt
      → ((layer n : ℕ) → layer < before.layers → n < block.width
      → ◌≡◌ {A = Salty} (top_at water heat salt (cell_place before layer (block.from + n))) (mixed_cell before.mix before.layers (column_at block.width rest n) layer))
      → ((layer n : ℕ) → layer < before.layers → n < block.from
      → ◌≡◌ {A = Salty} (top_at water heat salt (cell_place before layer n)) (top_at old_water old_heat old_salt (cell_place before layer n)))
      → AreMixed before left (block.from + block.width) water heat salt
  more_mixed old_water old_heat old_salt water heat salt old mixes stands = λ layer n l m. elim (cases_lt n block.from) [
    | inl less ↦ stands layer n l less ∙ old layer n l less
    | inr past ↦
        let k = n - block.from in
        let e : block.from + k ≡ n = omega arith in
        let below : k < block.width = omega arith in
        ap (λ i. top_at water heat salt (cell_place before layer i)) (sym e)
        ∙ mixes layer k l below
        ∙ cells_same before.mix before.layers (column_at block.width rest k) (λ j. left j n) (λ j h. left_is j k h below ∙ ap (left j) e) layer l
  ]
