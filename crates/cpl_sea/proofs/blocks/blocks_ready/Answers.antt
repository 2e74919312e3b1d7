use Rattle.std.proofs.Common.{◌≡◌, ◌∙◌, sym, ap, subst, ℕ, ◌+◌, ◌*◌, ◌^◌, ◌<◌, ◌≤◌, arith, inl, inr, ◌++◌, ◌∷◌, [], List, length, length-append, slice_index_or}
use Rattle.std.specs.Prelude.{All, slice_range}
use Rattle.std.proofs.Math.Seq.{get_or-append_seam}
use Rattle.std.proofs.lemmas.Bool.{cases_lt}
use Rattle.std.proofs.lemmas.List.{get_or_append_left}
use Rattle.std.proofs.lemmas.List.Elements.{All-get_or}
use Rattle.cpl_sea.specs.declared.blocks.TheConstants.{BLOCK}
use Rattle.cpl_sea.specs.declared.links.CellFaces.{CellFaces}
use Rattle.cpl_sea.specs.Passes.{AreSidesWithin, cell_faces_at}
use Rattle.cpl_sea.proofs.Looked.{no_cell_faces}
use Rattle.cpl_sea.proofs.Slices.{slice_all, slice_at, slice_length}
use Rattle.cpl_sea.proofs.blocks.blocks_ready.Goals as goal

-- the numbers of the blocks so far, and of one more
module _ (ready more : List ℕ) (next : ℕ) (is : more ≡ ready ++ next ∷ []) where
  long : length more ≡ length ready + 1
  long = ap length is ∙ length-append ready (next ∷ [])

  old : (b : ℕ) → b < length ready → slice_index_or more b 0 ≡ slice_index_or ready b 0
  old b l = ap (λ (t : List ℕ). slice_index_or t b 0) is ∙ get_or_append_left ready (next ∷ []) 0 b l

  new : (b : ℕ) → b ≡ length ready → slice_index_or more b 0 ≡ next
  new b e = (λ i. slice_index_or (is i) (e i) 0) ∙ get_or-append_seam ready next [] 0

  most : ((b : ℕ) → b < length ready → slice_index_or ready b 0 ≤ next) → (b : ℕ) → b < length more → slice_index_or more b 0 ≤ next
  most each b l = elim (cases_lt b (length ready)) [
    | inl less ↦ omega (arith, each b less, old b less)
    | inr past ↦ omega (arith, new b (omega (arith, long)))
  ]

  order : ((b c : ℕ) → b < c → c < length ready → slice_index_or ready b 0 ≤ slice_index_or ready c 0) → ((b : ℕ) → b < length ready → slice_index_or ready b 0 ≤ next)
      → (b c : ℕ) → b < c → c < length more → slice_index_or more b 0 ≤ slice_index_or more c 0
  order before each b c l m = elim (cases_lt c (length ready)) [
    | inl less ↦ omega (arith, before b c l less, old b (omega arith), old c less)
    | inr past ↦
        let e : c ≡ length ready = omega (arith, long) in
        omega (arith, each b (omega arith), old b (omega arith), new c e)
  ]

  module _ (cell_faces : List CellFaces) (from to : ℕ) (e : from ≡ length ready * BLOCK) (within : to ≤ length cell_faces) where
    sides : ((b k : ℕ) → k < BLOCK → b * BLOCK + k < from → AreSidesWithin (slice_index_or ready b 0) (cell_faces_at cell_faces (b * BLOCK + k)))
        → to ≤ from + BLOCK → All (AreSidesWithin next) (slice_range cell_faces from to)
        → (b k : ℕ) → k < BLOCK → b * BLOCK + k < to → AreSidesWithin (slice_index_or more b 0) (cell_faces_at cell_faces (b * BLOCK + k))
    sides before some block b k l m = elim (cases_lt b (length ready)) [
      | inl less ↦
          subst (λ (n : ℕ). AreSidesWithin n (cell_faces_at cell_faces (b * BLOCK + k))) (sym (old b less))
          (before b k l (omega arith))
      | inr past ↦
          let last : b ≡ length ready = omega arith in
          let place : from + k ≡ b * BLOCK + k = omega arith in
          let width = slice_length cell_faces from to within in
          let here = All-get_or (AreSidesWithin next) (slice_range cell_faces from to) k no_cell_faces (omega (arith, width)) block in
          let same = slice_at no_cell_faces cell_faces from to k (omega arith) ∙ ap (cell_faces_at cell_faces) place in
          subst (λ (n : ℕ). AreSidesWithin n (cell_faces_at cell_faces (b * BLOCK + k))) (sym (new b last)) (subst (AreSidesWithin next) same here)
    ]

pub overflow_cast-done : goal.overflow_cast-done
overflow_cast-done c =
    let few = c.ready_faces-done.ensures.least (2 ^ 24) (c.loop-from.invariant.least (2 ^ 24) c.requires)
    (slice_all (AreSidesWithin (2 ^ 24)) c.args.cell_faces.now c.loop-from.from c.min-to.result c.requires) in
    omega (arith, few)

pub loop-from-preserved : goal.loop-from-preserved
loop-from-preserved c =
    let cell_faces = c.args.cell_faces.now in
    let from = c.loop-from.from in
    let to = c.min-to.result in
    let next = c.ready_faces-done.result in
    let now = c.loop-from.invariant in
    let is : c.push.new.self.items ≡ c.loop-from.ready.items ++ next ∷ [] = c.in_ok-push.ensures.items in
    let more = long c.loop-from.ready.items c.push.new.self.items next is in
    let whole = now.whole c.loop-from-test.true in
    let each : (b : ℕ) → b < length c.loop-from.ready.items → slice_index_or c.loop-from.ready.items b 0 ≤ next =
    λ b l. omega (arith, now.most b l, c.ready_faces-done.ensures.done) in
    record {
      cells = omega arith;
      blocks = omega (arith, more, whole);
      whole = λ l. omega (arith, more, whole, l);
      sides = sides c.loop-from.ready.items c.push.new.self.items next is cell_faces from to whole (omega arith) now.sides (omega arith) c.ready_faces-done.ensures.within;
      order = order c.loop-from.ready.items c.push.new.self.items next is now.order each;
      most = most c.loop-from.ready.items c.push.new.self.items next is each;
      least = λ faces all. c.ready_faces-done.ensures.least faces (now.least faces all) (slice_all (AreSidesWithin faces) cell_faces from to all);
    }
