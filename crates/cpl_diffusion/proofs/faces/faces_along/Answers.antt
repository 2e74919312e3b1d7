use Rattle.std.proofs.Common.{◌≡◌, ◌<◌, ◌∙◌, sym, subst, ap, ℕ, List, length, arith}
use Rattle.std.specs.Prelude.{ℤ, All}
use Rattle.cpl_fixed.specs.Flows.{IsAirArea, face_divisor}
use Rattle.cpl_mosaic.specs.declared.mosaic.Mesh.{Mesh}
use Rattle.cpl_mosaic.specs.declared.parts.Side.{Side}
use Rattle.cpl_mosaic.specs.Mates.{MatesAgree}
use Rattle.cpl_mosaic.specs.Cells.{NumbersAgree}
use Rattle.cpl_state.specs.Diffusion.{at, cell_count}
use Rattle.cpl_diffusion.specs.Across.{across_of, faces_to, next_at}
use Rattle.cpl_diffusion.specs.declared.faces.Faces.{Faces}
use Rattle.cpl_diffusion.proofs.Across.{across_below, faces_to_at, length_to, same_previous}
use Rattle.cpl_diffusion.proofs.Between.{area_read, area_own, read}
use Rattle.cpl_diffusion.proofs.faces.faces_along.Goals as goal

next_below : (mesh : Mesh) → MatesAgree mesh.mosaic → NumbersAgree mesh.mosaic.tiles → (n : ℕ) (side : Side) → n < cell_count mesh → (area : List ℤ) → length mesh.area ≡ cell_count mesh → area ≡ mesh.area → (next : ℕ) → next ≡ across_of mesh.mosaic n side → next < length area
next_below mesh mates numbers n side l area count same next is =
    let below = across_below mesh.mosaic mates numbers n side l in
    let long : length area ≡ length mesh.area = ap length same in
    omega arith

pub bounds-area-next : goal.bounds-area-next
bounds-area-next c = next_below c.args.mesh.now c.requires.mates c.requires.numbers c.args.n c.args.ahead c.requires.within _ c.requires.air.areas c.as_slice-area.ensures _ c.across-next.ensures

pub new-requires-clause-other_area : goal.new-requires-clause-other_area
new-requires-clause-other_area c =
    area_read c.as_slice-area.result.now (subst (All IsAirArea) (sym c.as_slice-area.ensures) c.requires.air.each) c.across-next.result
    (next_below c.args.mesh.now c.requires.mates c.requires.numbers c.args.n c.args.ahead c.requires.within _ c.requires.air.areas c.as_slice-area.ensures _ c.across-next.ensures)

pub previous-requires-clause-before : goal.previous-requires-clause-before
previous-requires-clause-before c = omega (arith, ap (λ (t : List Faces). length t) c.requires.before, length_to c.args.mesh.now c.args.ahead c.args.back c.args.n)

-- the next of a cell before, as it stands in the faces
next_before : (mesh : Mesh) (ahead back : Side) (n : ℕ) (before : List Faces) → before ≡ faces_to mesh ahead back n → (k : ℕ) → k < n → next_at before k ≡ across_of mesh.mosaic k ahead
next_before mesh ahead back n before e k l = ap (λ (t : List Faces). next_at t k) e ∙ ap (λ (f : Faces). f.next) (faces_to_at mesh ahead back n k l)

-- the divisor, as the machine reads the areas
divisor_is : (area own : List ℤ) → area ≡ own → All IsAirArea own → (n m k : ℕ) → n < length own → k < length own → m ≡ k → face_divisor (read (at area n)) (read (at area m)) ≡ face_divisor (at own n) (at own k)
divisor_is area own e each n m k l h f =
    let a = area_own own each n l in
    let b = area_own own each k h in
    (λ i. face_divisor (read (at (e i) n)) (read (at (e i) (f i)))) ∙ (λ i. face_divisor (a i) (b i))

pub returns : goal.returns
returns c =
    let mesh = c.args.mesh.now in
    let n = c.args.n in
    let cell = across_of mesh.mosaic n c.args.back in
    let count : length mesh.area ≡ cell_count mesh = c.requires.air.areas in
    let next = c.across-next.ensures in
    let previous = c.previous.ensures ∙ same_previous (cell_count mesh) n cell (next_at c.args.before.now cell) (across_of mesh.mosaic cell c.args.ahead) (λ l. next_before mesh c.args.ahead c.args.back n c.args.before.now c.requires.before cell l) in
    let below = across_below mesh.mosaic c.requires.mates c.requires.numbers n c.args.ahead c.requires.within in
    let divisor = c.new.ensures ∙ divisor_is c.as_slice-area.result.now mesh.area c.as_slice-area.ensures c.requires.air.each n c.across-next.result (across_of mesh.mosaic n c.args.ahead) (omega arith) (omega arith) next in
    λ i. record { next = next i; previous = previous i; divisor = divisor i }
