use Rattle.std.proofs.Common.{arith, w64}
use Rattle.std.specs.Int.{cast_signed, cast_unsigned}
use Rattle.std.proofs.lemmas.Int.{to_z-of_z}
use Rattle.std.proofs.lemmas.Result.{err_from_is_err_and}
use Rattle.cpl_restart.proofs.RestartLaws.{are_short, read_lengths, whole_opened, end_fails, rule_fails}
use Rattle.cpl_restart.proofs.SectionSteps.{exits}
use Rattle.cpl_restart.proofs.restart.read_whole.Goals as goal

pub judge-requires-clause-lengths : goal.judge-requires-clause-lengths
judge-requires-clause-lengths c = read_lengths c.args.grid.now c.args.bytes.now (c.in_ok-version.version, c.in_ok-version.bytes.now) (c.in_ok-elapsed.elapsed, c.in_ok-elapsed.bytes.now) (cast_signed w64 (cast_unsigned w64 c.in_ok-elapsed.elapsed)) (c.in_ok-whole.whole, c.in_ok-whole.end.now) (λ i. omega (arith, c.type_inv.bytes i)) c.in_ok-version.ensures c.in_ok-elapsed.ensures c.in_ok-whole.ensures

pub judge-requires-clause-short : goal.judge-requires-clause-short
judge-requires-clause-short c =
    are_short c.args.grid.now c.counts_of-counts.result c.in_ok-whole.whole c.counts_of-counts.ensures (read_lengths c.args.grid.now c.args.bytes.now (c.in_ok-version.version, c.in_ok-version.bytes.now) (c.in_ok-elapsed.elapsed, c.in_ok-elapsed.bytes.now) (cast_signed w64 (cast_unsigned w64 c.in_ok-elapsed.elapsed)) (c.in_ok-whole.whole, c.in_ok-whole.end.now) (λ i. omega (arith, c.type_inv.bytes i)) c.in_ok-version.ensures c.in_ok-elapsed.ensures c.in_ok-whole.ensures)

pub returns-in_err-read_end : goal.returns-in_err-read_end
returns-in_err-read_end c =
    let p = err_from_is_err_and c.from_residual-in_err-read_end.result c.from_residual-in_err-read_end.ensures.1 in
    let opened = whole_opened c.args.grid.now c.args.bytes.now (c.in_ok-version.version, c.in_ok-version.bytes.now) (c.in_ok-elapsed.elapsed, c.in_ok-elapsed.bytes.now) (cast_signed w64 (cast_unsigned w64 c.in_ok-elapsed.elapsed)) (c.in_ok-whole.whole, c.in_ok-whole.end.now) (λ i. omega (arith, c.type_inv.bytes i)) c.in_ok-version.ensures c.in_ok-elapsed.ensures (λ fits. to_z-of_z w64 c.in_ok-elapsed.elapsed fits) c.in_ok-whole.ensures in
    exits _ _ _ _ _ p.1 p.2 (end_fails _ c.args.grid.now c.args.bytes.now c.in_ok-whole.whole c.in_ok-whole.end.now opened c.in_err-read_end.ensures)

pub returns-in_err-judge : goal.returns-in_err-judge
returns-in_err-judge c =
    let p = err_from_is_err_and c.from_residual-in_err-judge.result c.from_residual-in_err-judge.ensures.1 in
    let opened = whole_opened c.args.grid.now c.args.bytes.now (c.in_ok-version.version, c.in_ok-version.bytes.now) (c.in_ok-elapsed.elapsed, c.in_ok-elapsed.bytes.now) (cast_signed w64 (cast_unsigned w64 c.in_ok-elapsed.elapsed)) (c.in_ok-whole.whole, c.in_ok-whole.end.now) (λ i. omega (arith, c.type_inv.bytes i)) c.in_ok-version.ensures c.in_ok-elapsed.ensures (λ fits. to_z-of_z w64 c.in_ok-elapsed.elapsed fits) c.in_ok-whole.ensures in
    exits _ _ _ _ _ p.1 p.2 (rule_fails _ c.args.grid.now c.args.bytes.now c.in_ok-whole.whole c.in_ok-whole.end.now opened c.in_ok-read_end.ensures c.in_err-judge.ensures)
