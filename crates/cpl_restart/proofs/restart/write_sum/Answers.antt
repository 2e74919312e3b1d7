use Rattle.std.proofs.Common.{◌≡◌, ◌++◌, ◌∷◌, List, ℕ, ℤ, OnOk, pos, w64, ap, subst, ◌∙◌}
use Rattle.std.specs.Int.{cast_signed, cast_unsigned}
use Rattle.std.proofs.lemmas.Int.{to_z-of_z}
use Rattle.cpl_restart.specs.Numbers.{number_bytes}
use Rattle.cpl_restart.specs.Sections.{wrapped_sum}
use Rattle.cpl_restart.proofs.RestartParts.{again_word}
use Rattle.cpl_restart.proofs.restart.write_sum.Goals as goal

pub returns-in-Second : goal.returns-in-Second
returns-in-Second c =
    let back : cast_signed w64 (cast_unsigned w64 c.args.first) ≡ c.args.first = to_z-of_z w64 c.args.first c.ranges.first in
    let found : c.wrapped_sum.result ≡ wrapped_sum (c.args.first ∷ c.args.others.now) = c.wrapped_sum.ensures ∙ ap (λ (x : ℤ). wrapped_sum (x ∷ c.args.others.now)) back in
    let word = again_word c.wrapped_sum.result c.cast_signed.result c.wrapped_sum.type_inv c.cast_signed.ensures ∙ ap (λ (n : ℕ). number_bytes (pos n)) found in
    rw c.in-Second.is (subst (λ (t : List ℕ). OnOk c.write_number.result (c.write_number.new.out.items ≡ c.args.out.now.items ++ t)) word c.write_number.ensures)
