-- Shares written one after another.
use Rattle.std.proofs.Common.{◌≡◌, refl, sym, ◌∙◌, ap, ℕ, suc, ◌+◌, ◌<◌, ◌≤◌, arith, List, [], ◌∷◌, ◌++◌, length, set, take}
use Rattle.std.specs.Prelude.{ℤ, ◌+ℤ◌}
use Rattle.cpl_fixed.specs.Shares.{shares_from}
use Rattle.std.proofs.lemmas.List.{append_assoc, append-nil, take_more_set, take_all, length-set, length-append, length-take}

-- the first k shares are written, and the rest are to come
pub record AreWritten (shares : List ℤ) (k : ℕ) (to rest : List ℤ) : Type 0 where
  pub size : length to ≡ length shares
  pub whole : take k to ++ rest ≡ shares

pub written_more : (shares : List ℤ) (k : ℕ) (to rest : List ℤ) (share : ℤ) → AreWritten shares k to (share ∷ rest) → k < length to → AreWritten shares (k + 1) (set to k share) rest
written_more shares k to rest share are within = record {
  size = length-set to k share ∙ are.size;
  whole = ap (λ (l : List ℤ). l ++ rest) (take_more_set to k share within) ∙ append_assoc (take k to) (share ∷ []) rest ∙ are.whole;
}

-- while there is room, there are shares to come
pub not_done : (shares : List ℤ) (k : ℕ) (to : List ℤ) → AreWritten shares k to [] → k < length to → ⊥
not_done shares k to are within =
    let long = ap length (sym (append-nil (take k to)) ∙ are.whole) in
    let short = length-take k to in
    let size = are.size in
    omega arith

pub written_all : (shares : List ℤ) (k : ℕ) (to rest : List ℤ) → AreWritten shares k to rest → length to ≤ k → to ≡ shares
written_all shares k to [] are past = sym (take_all k to past) ∙ sym (append-nil (take k to)) ∙ are.whole
written_all shares k to (share ∷ rest) are past =
    let long = ap length are.whole in
    let both = length-append (take k to) (share ∷ rest) in
    let front = ap length (take_all k to past) in
    let size = are.size in
    absurd (omega arith)

-- before the first all are to come
pub written_none : (shares to rest : List ℤ) → rest ≡ shares → length to ≡ length shares → AreWritten shares 0 to rest
written_none shares to rest same size = record { size = size; whole = same }

-- there is a share for each weight
pub share_count : (amount whole from : ℤ) (weights : List ℤ) → length (shares_from amount whole from weights) ≡ length weights
share_count amount whole from [] = refl
share_count amount whole from (weight ∷ weights) = ap suc (share_count amount whole (from +ℤ weight) weights)
