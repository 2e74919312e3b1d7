use Rattle.std.proofs.Common.{◌≡◌, ◌∙◌, ap, ℕ, ◌^◌, ◌<◌, arith, Ok}
use Rattle.std.proofs.lemmas.Result.{IfOk-weaker}
use Rattle.cpl_restart.specs.AirBytes.{IsAir, air_bytes, air_of}
use Rattle.cpl_restart.proofs.AirLaws.{air_again}
use Rattle.cpl_restart.proofs.air.encode_air.Goals as goal

pub returns-clause-back : goal.returns-clause-back
returns-clause-back c =
    let air = c.args.air.now in
    IfOk-weaker c.spell_air.result (λ bytes. bytes.items ≡ air_bytes air) (λ bytes. (cells : ℕ) → cells < 2 ^ 32 → IsAir cells air → air_of cells bytes.items ≡ Ok air)
    (λ bytes spelled cells small is. ap (air_of cells) spelled ∙ air_again cells air (omega arith) is)
    c.spell_air.ensures
