use Rattle.std.proofs.Common.{◌≡◌, ◌∙◌, sym, subst, ℕ, ◌*◌, ◌/◌, ◌<◌, ◌≤◌, arith}
use Rattle.std.proofs.Math.Nat.{mul-div-le, mul-le-mul_left, le_of_mul-le-mul_left}
use Rattle.cpl_transport.proofs.moves.portion.Goals as goal

-- an eighth of the water takes at most an eighth along
eighth : (x m water q : ℕ) → 0 < water → 8 * m ≤ water → water * q ≤ x * m → 8 * q ≤ x
eighth x m water q some le h =
    let scaled : water * (8 * q) ≤ water * x = omega (arith, h, mul-le-mul_left x le) in
    le_of_mul-le-mul_left scaled some

-- the quotient of the numbers as they were passed
passed : (q x m water x' m' water' : ℕ) → q ≡ x' * m' / water' → x' ≡ x → m' ≡ m → water' ≡ water → q ≡ x * m / water
passed q x m water x' m' water' e f g h = e ∙ (λ i. f i * g i / h i)

pub returns-clause-value : goal.returns-clause-value
returns-clause-value c = passed c.quotient.result c.args.here c.args.m c.args.water _ _ _ c.quotient.ensures c.from.ensures c.from-2.ensures c.from-3.ensures

pub returns-clause-eighth : goal.returns-clause-eighth
returns-clause-eighth c =
    let is = passed c.quotient.result c.args.here c.args.m c.args.water _ _ _ c.quotient.ensures c.from.ensures c.from-2.ensures c.from-3.ensures in
    let most : c.args.water * c.quotient.result ≤ c.args.here * c.args.m = subst (λ (q : ℕ). c.args.water * q ≤ c.args.here * c.args.m) (sym is) (mul-div-le (c.args.here * c.args.m) c.args.water) in
    eighth c.args.here c.args.m c.args.water c.quotient.result c.requires.some c.requires.moved most
