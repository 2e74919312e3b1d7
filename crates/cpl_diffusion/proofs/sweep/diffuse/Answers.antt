use Rattle.std.proofs.Common.{◌≡◌, ◌∙◌, sym, subst, ap, ℕ, ◌<◌, ℤ, List, length, arith, Vec, Global}
use Rattle.std.proofs.lemmas.List.{with_items_is}
use Rattle.cpl_mosaic.specs.declared.parts.Side.TheVariants.{W, E, S, N}
use Rattle.cpl_state.specs.Diffusion.{AreAmounts, at, cell_count, total_of}
use Rattle.cpl_diffusion.specs.Steps.{AreFaces, left_in}
use Rattle.cpl_diffusion.specs.declared.faces.Faces.{Faces}
use Rattle.cpl_diffusion.proofs.Conserved.{diffused_are, diffused_total}
use Rattle.cpl_diffusion.proofs.Across.{are_faces, stepped}
use Rattle.cpl_diffusion.proofs.sweep.diffuse.Goals as goal

same_faces : (area area' : List ℤ) (faces faces' : List Faces) → area' ≡ area → faces' ≡ faces → AreFaces area faces → AreFaces area' faces'
same_faces area area' faces faces' a f are = subst (λ (a : List ℤ). AreFaces a faces') (sym a) (subst (AreFaces area) (sym f) are)

same_left : (area area' xs xs' : List ℤ) (east east' north north' : List Faces) (after : List ℤ) → area' ≡ area → xs' ≡ xs → east' ≡ east → north' ≡ north → ((n : ℕ) → n < length area' → at after n ≡ left_in area' xs' east' north' n) → (n : ℕ) → n < length area → at after n ≡ left_in area xs east north n
same_left area area' xs xs' east east' north north' after a x e f left n l =
    let long : length area' ≡ length area = ap length a in
    left n (omega arith) ∙ (λ i. left_in (a i) (x i) (e i) (f i) n)

pub step-requires-clause-east : goal.step-requires-clause-east
step-requires-clause-east c =
    same_faces c.args.mesh.now.area _ c.args.ways.now.east.items _ c.as_slice.ensures c.as_slice-2.ensures.value
    (are_faces c.args.mesh.now E W c.args.ways.now.east.items c.requires.ways.east)

pub step-requires-clause-north : goal.step-requires-clause-north
step-requires-clause-north c =
    same_faces c.args.mesh.now.area _ c.args.ways.now.north.items _ c.as_slice.ensures c.as_slice-3.ensures.value
    (are_faces c.args.mesh.now N S c.args.ways.now.north.items c.requires.ways.north)

pub returns-clause-amounts : goal.returns-clause-amounts
returns-clause-amounts c =
    let mesh = c.args.mesh.now in
    let ways = c.args.ways.now in
    let xs = c.args.amounts.now.items in
    let count : length c.step.new.after ≡ cell_count mesh = omega arith in
    ap (λ (v : Vec ℤ Global). v.items) c.swap.ensures.x_after
    ∙ with_items_is c.args.room.now.after c.step.new.after (omega arith)
    ∙ stepped mesh ways.east.items ways.north.items c.requires.ways.east c.requires.ways.north xs c.requires.amounts c.step.new.after count
    (same_left mesh.area _ xs _ ways.east.items _ ways.north.items _ c.step.new.after c.as_slice.ensures c.as_slice-4.ensures.value c.as_slice-2.ensures.value c.as_slice-3.ensures.value c.step.ensures)

pub returns-clause-range : goal.returns-clause-range
returns-clause-range c =
    let are = c.requires.ways.east in
    subst (AreAmounts (cell_count c.args.mesh.now)) (sym (returns-clause-amounts c)) (diffused_are c.args.mesh.now are.air are.mates are.numbers c.args.amounts.now.items c.requires.amounts)

pub returns-clause-total : goal.returns-clause-total
returns-clause-total c =
    let are = c.requires.ways.east in
    ap total_of (returns-clause-amounts c) ∙ diffused_total c.args.mesh.now are.air are.mates are.numbers c.args.amounts.now.items c.requires.amounts
