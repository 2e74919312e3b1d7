use Rattle.std.proofs.Common.{◌≡◌, ◌∙◌, ap, ℕ, ◌<◌, ◌+◌, ℤ, List, length, pos, arith, slice_set}
use Rattle.std.proofs.lemmas.Int.{ints}
use Rattle.std.proofs.lemmas.List.Edits.{fill_by_more}
use Rattle.cpl_state.specs.Diffusion.{at}
use Rattle.cpl_diffusion.specs.Steps.{flow_next, left_in}
use Rattle.cpl_diffusion.proofs.Conserved.{amount_at}
use Rattle.cpl_diffusion.proofs.sweep.step.Goals as goal

pub overflow_sub-after : goal.overflow_sub-after
overflow_sub-after c =
    let within : c.loop-n.n < length c.args.area.now = omega (arith, c.requires.before.count) in
    let amount = amount_at (length c.args.area.now) c.args.before.now c.requires.before c.loop-n.n within in
    omega (arith, ints)

-- once f n is written at n, all places up to n are done
written : (f : ℕ → ℤ) (xs : List ℤ) (n : ℕ) (v : ℤ) → n < length xs → ((k : ℕ) → k < n → at xs k ≡ f k) → v ≡ f n → (k : ℕ) → k < n + 1 → at (slice_set xs n v) k ≡ f k
written f xs n v l done e k below = ap (λ w. at (slice_set xs n w) k) e ∙ fill_by_more f xs n (pos 0) l done k below

pub loop-n-preserved : goal.loop-n-preserved
loop-n-preserved c =
    let area = c.args.area.now in
    let xs = c.args.before.now in
    let n = c.loop-n.n in
    let within : n < length area = omega (arith, c.requires.before.count) in
    let amount = amount_at (length area) xs c.requires.before n within in
    let east = c.next_flow-to_east.ensures in
    let west = c.previous_flow-to_west.ensures in
    let north = c.next_flow-to_north.ensures in
    let south = c.previous_flow-to_south.ensures in
    record {
      eastward = written (flow_next area xs c.args.east.now) c.loop-n.eastward n _ (omega arith) c.loop-n.invariant.eastward (omega (arith, ints));
      northward = written (flow_next area xs c.args.north.now) c.loop-n.northward n _ (omega arith) c.loop-n.invariant.northward (omega (arith, ints));
      after = written (left_in area xs c.args.east.now c.args.north.now) c.loop-n.after n _ (omega arith) c.loop-n.invariant.after (omega (arith, ints));
    }
