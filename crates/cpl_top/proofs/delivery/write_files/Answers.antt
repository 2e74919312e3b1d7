use Rattle.std.proofs.Common.{◌∙◌, sym, ap, subst, IsTrue, rules}
use Rattle.std.proofs.lemmas.List.{get_or_default}
use Rattle.cpl_top.proofs.Written.{written_failed, written_more}
use Rattle.cpl_top.proofs.delivery.write_files.Goals as goal

pub returns-in-Err-Failed-clause-files : goal.returns-in-Err-Failed-clause-files
returns-in-Err-Failed-clause-files g c told =
    let now = subst IsTrue (sym c.loop-output.invariant.told) told in (
      c.loop-output.output-index,
      (c.loop-output-test.true, λ d. ap (λ o. o.which) (get_or_default c.args.outputs.now c.loop-output.output-index d c.output-item.result c.loop-output-test.true ∙ sym c.output-item.is)),
      written_failed c.args.outputs.now c.loop-output.output-index c.output-item.result _ (g.S.Shelf.files c.loop-output.shelf) _ c.loop-output-test.true c.output-item.is (c.loop-output.invariant.files told) (c.write_file.ensures.others now) c.requires,
    )

pub returns-in-Err-Memory-clause-files : goal.returns-in-Err-Memory-clause-files
returns-in-Err-Memory-clause-files g c told =
    let now = subst IsTrue (sym c.loop-output.invariant.told) told in
    (c.loop-output.output-index, written_failed c.args.outputs.now c.loop-output.output-index c.output-item.result _ (g.S.Shelf.files c.loop-output.shelf) _ c.loop-output-test.true c.output-item.is (c.loop-output.invariant.files told) (c.write_file.ensures.others now) c.requires)

pub loop-output-preserved : goal.loop-output-preserved
loop-output-preserved g c = record {
  told = c.write_file.ensures.still_tells ∙ c.loop-output.invariant.told;
  faults = search rules;
  failed = search rules;
  files = λ told.
      let now = subst IsTrue (sym c.loop-output.invariant.told) told in
      written_more c.args.outputs.now c.loop-output.output-index c.output-item.result _ (g.S.Shelf.files c.loop-output.shelf) _ c.loop-output-test.true c.output-item.is (c.loop-output.invariant.files told) (c.write_file.ensures.others now) c.requires (c.in-Ok.ensures.ok now);
}
