use Rattle.std.proofs.Common.{rules}
use Rattle.cpl_gridfile.specs.Readers.{parts_of}
use Rattle.cpl_gridfile.proofs.MeshSteps.{step_in_grid}
use Rattle.cpl_gridfile.proofs.reader.Reader.mesh.Goals as goal

pub returns-clause-step : goal.returns-clause-step
returns-clause-step c = rw (step_in_grid c.args.self.now.kind c.args.mesh c.args.line (parts_of c.args.self.now) c.args.bytes.now) (search rules)
