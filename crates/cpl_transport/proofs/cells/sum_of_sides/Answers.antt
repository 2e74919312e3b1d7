use Rattle.std.proofs.Common.{◌≡◌, ◌∙◌, arith, ◌+ℤ◌, ℤ}
use Rattle.std.proofs.lemmas.Int.{ints}
use Rattle.cpl_transport.specs.Salts.{IsSmall}
use Rattle.cpl_transport.proofs.Bounds.{read}
use Rattle.cpl_transport.specs.Cells.{IsFew}
use Rattle.cpl_transport.proofs.cells.sum_of_sides.Goals as goal

own_small : (x : ℤ) → IsSmall x → read x ≡ x
own_small x h = omega (arith, ints, h.0, h.1)

-- the sum of the numbers as they are read
sum_is : (r w e s n : ℤ) → IsSmall w → IsSmall e → IsSmall s → IsSmall n → r ≡ (read w +ℤ read e) +ℤ (read s +ℤ read n) → IsFew r → read r ≡ w +ℤ e +ℤ (s +ℤ n)
sum_is r w e s n h k l m is few =
    let own : read r ≡ r = omega (arith, ints, few.0, few.1) in
    own ∙ is ∙ (λ i. (own_small w h i +ℤ own_small e k i) +ℤ (own_small s l i +ℤ own_small n m i))

pub returns-clause-value : goal.returns-clause-value
returns-clause-value c =
    let w = c.requires.west in
    let e = c.requires.east in
    let s = c.requires.south in
    let n = c.requires.north in
    let west = c.args.west in
    let east = c.args.east in
    let south = c.args.south in
    let north = c.args.north in
    let water = sum_is c.sum.result west.water east.water south.water north.water w.water e.water s.water n.water c.sum.ensures.value c.sum.ensures.few in
    let heat = sum_is c.sum-2.result west.heat east.heat south.heat north.heat w.heat e.heat s.heat n.heat c.sum-2.ensures.value c.sum-2.ensures.few in
    let salt = sum_is c.sum-3.result west.salt east.salt south.salt north.salt w.salt e.salt s.salt n.salt c.sum-3.ensures.value c.sum-3.ensures.few in
    λ i. record { water = water i; heat = heat i; salt = salt i }
