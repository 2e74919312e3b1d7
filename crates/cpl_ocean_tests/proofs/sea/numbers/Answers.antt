use Rattle.std.proofs.Common.{◌≡◌, ◌∙◌, ◌⊎◌, sym, ap, subst, ℕ, ◌*◌, List, length, pos, replicate, arith, rules, to_z, of_z, w64}
use Rattle.std.proofs.lemmas.Int.{ints}
use Rattle.std.specs.Prelude.{ℤ, All}
use Rattle.cpl_faces.specs.declared.face.Face.{Face}
use Rattle.cpl_faces.specs.Faces.{AreFaces}
use Rattle.cpl_state.specs.States.{layers}
use Rattle.cpl_sea.specs.Seas.{AreNumbers, IsOcean}
use Rattle.cpl_ocean_tests.specs.Small.{IsWet}
use Rattle.cpl_ocean_tests.proofs.Walls.{all_same}
use Rattle.cpl_ocean_tests.proofs.sea.numbers.Goals as goal

pub returns : goal.returns
returns c =
    let grid = c.args.grid.now in
    let mesh = grid.ocean in
    let number = c.face_number-number.result in
    let ocean : IsOcean mesh = record {
      areas = c.requires.ocean;
      numbers = c.cells-cells.ensures.numbers;
      mates = c.cells-cells.ensures.mates;
      faces = subst (AreFaces mesh.mosaic) c.in_ok-faces.ensures.faces c.in_ok-faces.ensures.are;
    } in
    let wet = subst (λ (area : List ℤ). (number ≡ pos 0) ⊎ All IsWet area) c.as_slice.ensures c.face_number-number.ensures.wet in
    let made = c.in_ok-vec.ensures.items_if_clones_equal (λ y e. e) in
    let long : c.len.result ≡ length c.in_ok-faces.faces.items = search rules in
    let count = ap (λ (n : ℕ). layers grid * n) (long ∙ ap (λ (faces : List Face). length faces) c.in_ok-faces.ensures.faces) in
    let range = c.face_number-number.ensures.range in
    let stored : to_z w64 (of_z w64 number) ≡ number = omega (arith, ints, range.0, range.1) in
    subst (AreNumbers mesh (layers grid)) (sym (c.from_vec.ensures ∙ made ∙ (λ i. replicate (count i) (stored i))))
    (all_same mesh (layers grid) number ocean range wet)
