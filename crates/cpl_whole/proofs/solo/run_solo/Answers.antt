use Rattle.std.proofs.Common.{◌≡◌, ◌∙◌, sym, subst, ap, ℕ, ◌+◌, arith, add-one}
use Rattle.cpl_state.specs.Diffusion.{AreAmounts, cell_count, diffused, diffused_by, total_of}
use Rattle.cpl_mosaic.specs.declared.mosaic.Mesh.{Mesh}
use Rattle.std.specs.Prelude.{ℤ, List}
use Rattle.cpl_diffusion.specs.Steps.{IsRoom}
use Rattle.cpl_whole.proofs.solo.run_solo.Goals as goal

-- one step more
diffused_more : (mesh : Mesh) (n : ℕ) (xs now next : List ℤ) → now ≡ diffused_by n mesh xs → next ≡ diffused mesh now → next ≡ diffused_by (n + 1) mesh xs
diffused_more mesh n xs now next so_far step = step ∙ ap (diffused mesh) so_far ∙ sym (ap (λ n. diffused_by n mesh xs) (add-one n))

pub loop-step-init : goal.loop-step-init
loop-step-init c = record {
  heat = c.into_vec-heat.ensures;
  vapour = c.into_vec-vapour.ensures;
  heat_range = subst (AreAmounts (cell_count c.args.mesh.now)) (sym c.into_vec-heat.ensures) c.requires.heat;
  vapour_range = subst (AreAmounts (cell_count c.args.mesh.now)) (sym c.into_vec-vapour.ensures) c.requires.vapour;
  heat_total = ap total_of c.into_vec-heat.ensures;
  vapour_total = ap total_of c.into_vec-vapour.ensures;
  room = subst (λ n. IsRoom n c.in_ok-room.room) c.cells.ensures.count c.in_ok-room.ensures;
}

pub loop-step-preserved : goal.loop-step-preserved
loop-step-preserved c = record {
  heat = diffused_more c.args.mesh.now c.loop-step._step c.args.air.heat c.loop-step.heat.items c.diffuse.new.amounts.items c.loop-step.invariant.heat c.diffuse.ensures.amounts;
  vapour = diffused_more c.args.mesh.now c.loop-step._step c.args.air.vapour c.loop-step.vapour.items c.diffuse-in-loop-step.new.amounts.items c.loop-step.invariant.vapour c.diffuse-in-loop-step.ensures.amounts;
  heat_range = c.diffuse.ensures.range;
  vapour_range = c.diffuse-in-loop-step.ensures.range;
  heat_total = c.diffuse.ensures.total ∙ c.loop-step.invariant.heat_total;
  vapour_total = c.diffuse-in-loop-step.ensures.total ∙ c.loop-step.invariant.vapour_total;
  room = c.diffuse-in-loop-step.ensures.room;
}

pub returns : goal.returns
returns c =
    let n : c.loop-step._step ≡ c.args.n = omega arith in
    let heat = c.from_vec.ensures ∙ c.loop-step.invariant.heat ∙ ap (λ n. diffused_by n c.args.mesh.now c.args.air.heat) n in
    let vapour = c.from_vec-2.ensures ∙ c.loop-step.invariant.vapour ∙ ap (λ n. diffused_by n c.args.mesh.now c.args.air.vapour) n in
    record {
      air = λ i. record { heat = heat i; vapour = vapour i };
      heat_total = ap total_of c.from_vec.ensures ∙ c.loop-step.invariant.heat_total;
      vapour_total = ap total_of c.from_vec-2.ensures ∙ c.loop-step.invariant.vapour_total;
      heat = subst (AreAmounts (cell_count c.args.mesh.now)) (sym c.from_vec.ensures) c.loop-step.invariant.heat_range;
      vapour = subst (AreAmounts (cell_count c.args.mesh.now)) (sym c.from_vec-2.ensures) c.loop-step.invariant.vapour_range;
    }
