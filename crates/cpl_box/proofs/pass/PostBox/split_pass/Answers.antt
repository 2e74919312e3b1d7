use Rattle.std.proofs.Common.{arith, subst, ◌<◌}
use Rattle.cpl_box.proofs.Names.{name_tells}
use Rattle.cpl_box.proofs.Passes.{splits}
use Rattle.cpl_box.proofs.pass.PostBox.split_pass.Goals as goal

pub split_seat-seat-requires : goal.split_seat-seat-requires
split_seat-seat-requires g c = let r = c.args.pass.now.rest in let same = name_tells _ _ c.requires in (same, subst (λ z. 0 < z.words) same (omega (arith, r.4, r.5)), splits _ _ _)
