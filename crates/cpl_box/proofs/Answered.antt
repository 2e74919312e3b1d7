-- What a try tells of the words that were seen.
use Rattle.std.proofs.Common.{ℕ, ◌+◌, ◌*◌, refl, ap, ◌∙◌, arith}
use Rattle.std.specs.Prelude.{Result, Ok, Err, ⊤}
use Rattle.cpl_core.specs.declared.boxes.NotYet.{NotYet}
use Rattle.cpl_core.specs.Tries.{SeesWord}
use Rattle.cpl_box.specs.declared.view.View.{View}
use Rattle.cpl_box.specs.Steps.{HasPosted, HasTaken}
use Rattle.cpl_box.proofs.Words.{set_twice}

pub sees_post : (v v' : View) (e k : ℕ) (result : Result ⊤ NotYet) → HasPosted v e k v' result → SeesWord e (4 * k + 2) v.seen v'.seen result
sees_post v v' e k (Ok done) h = (4 * k + 2, ap (λ (u : View). u.seen) h.0 ∙ set_twice v.seen e (4 * k + 1) (4 * k + 2), omega (arith, h.1), omega arith)
sees_post v v' e k (Err refusal) h = (refusal.word, ap (λ (u : View). u.seen) h.0, h.3, refl)

pub sees_take : (v v' : View) (e k : ℕ) (result : Result ⊤ NotYet) → HasTaken v e k v' result → SeesWord e (4 * k + 4) v.seen v'.seen result
sees_take v v' e k (Ok done) h = (4 * k + 4, ap (λ (u : View). u.seen) h.0 ∙ set_twice v.seen e (4 * k + 2 + 1) (4 * k + 4), omega (arith, h.1), omega arith)
sees_take v v' e k (Err refusal) h = (refusal.word, ap (λ (u : View). u.seen) h.0, h.3, refl)
