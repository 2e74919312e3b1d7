use Rattle.std.proofs.Common.{◌≡◌, ◌∙◌, arith}
use Rattle.std.specs.Prelude.{◌+ℤ◌}
use Rattle.std.proofs.lemmas.Int.{ints}
use Rattle.cpl_fast.proofs.Parts.{amount_passed}
use Rattle.cpl_fast.proofs.sums.gain.Goals as goal

pub returns : goal.returns
returns c =
    let t = c.requires.taken.heat in let t0 = t.0 in let t1 = t.1 in
    let w = c.requires.taken.water in let w0 = w.0 in let w1 = w.1 in
    let s = c.requires.sun in let s0 = s.0 in let s1 = s.1 in
    let heat_value = c.gained.ensures.value in
    let water_value = c.gained-2.ensures.value in
    let heat : c.gained.result ≡ c.args.heat +ℤ (c.args.taken.heat +ℤ c.args.sun) = omega (arith, ints) in
    let water : c.gained-2.result ≡ c.args.water +ℤ c.args.taken.water = omega (arith, ints) in
    let h = amount_passed c.gained.result c.gained.ensures.range ∙ heat in
    let v = amount_passed c.gained-2.result c.gained-2.ensures.range ∙ water in
    λ i. record { heat = h i; water = v i; taken = c.args.taken }
