use Rattle.cpl_plan_tests.proofs.step.go.Goals as goal

pub step_whole-requires-clause-whole : goal.step_whole-requires-clause-whole
step_whole-requires-clause-whole c = c.requires
