use Rattle.std.proofs.Common.{◌≡◌, ◌∙◌, ap, arith, ℕ, ◌<◌, nat_lt, if◌then◌else◌, pos, ℤ}
use Rattle.std.proofs.lemmas.Int.{ints}
use Rattle.std.proofs.lemmas.Bool.Decides.{nat_tests}
use Rattle.cpl_fixed.specs.Amounts.{amount}
use Rattle.cpl_transport.specs.Heights.{height_of}
use Rattle.cpl_transport.proofs.Bounds.{own_amount, read}
use Rattle.cpl_sea.proofs.columns.height_over.Goals as goal

dry : (m : ℕ) (x : ℤ) → m ≡ 0 → pos 0 ≡ (if nat_lt 0 m then x else pos 0)
dry m x e = grind (arith, nat_tests)

wet : (m : ℕ) (x : ℤ) → 0 < m → x ≡ (if nat_lt 0 m then x else pos 0)
wet m x l = grind (arith, nat_tests)

pub returns-then-area-eq0-clause-value : goal.returns-then-area-eq0-clause-value
returns-then-area-eq0-clause-value c = dry (amount c.args.area) _ (omega (arith, ints))

pub returns-else-area-eq0-clause-value : goal.returns-else-area-eq0-clause-value
returns-else-area-eq0-clause-value c =
    let area : read c.args.area ≡ c.args.area = omega (arith, ints) in
    let own : read c.height.result ≡ c.height.result = omega (arith, ints) in
    let water = own_amount c.column_water.result c.column_water.ensures.amount in
    own ∙ c.height.ensures.value
    ∙ (λ i. height_of (water i) (area i))
    ∙ ap (λ (w : ℤ). height_of w c.args.area) c.column_water.ensures.value
    ∙ wet (amount c.args.area) _ (omega (arith, ints))
