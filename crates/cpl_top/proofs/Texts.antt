-- Words by their bytes.
use Rattle.std.proofs.Common.{◌≡◌, List, [], ◌∷◌, length, refl, arith, Option, None, ℕ, String}
use Rattle.std.specs.declared.alloc.Global.{Global}
use Rattle.cpl_words.specs.Arguments.{texts}
use Rattle.cpl_top.specs.Words.{four_or_six_words, four_words, three_words, one_word}

-- words of another count
pub not_one : {A : Type 0} (f : List ℕ → Option A) (words : List (String Global)) → (length words ≡ 1 → ⊥) → one_word f (texts words) ≡ None
not_one f [] ne = refl
not_one f (a ∷ []) ne = absurd (ne (omega arith))
not_one f (a ∷ b ∷ words) ne = refl

pub not_three : {A : Type 0} (f : List ℕ → List ℕ → List ℕ → Option A) (words : List (String Global)) → (length words ≡ 3 → ⊥) → three_words f (texts words) ≡ None
not_three f [] ne = refl
not_three f (a ∷ []) ne = refl
not_three f (a ∷ b ∷ []) ne = refl
not_three f (a ∷ b ∷ c ∷ []) ne = absurd (ne (omega arith))
not_three f (a ∷ b ∷ c ∷ d ∷ words) ne = refl

pub not_four : {A : Type 0} (f : List ℕ → List ℕ → List ℕ → List ℕ → Option A) (words : List (String Global)) → (length words ≡ 4 → ⊥) → four_words f (texts words) ≡ None
not_four f [] ne = refl
not_four f (a ∷ []) ne = refl
not_four f (a ∷ b ∷ []) ne = refl
not_four f (a ∷ b ∷ c ∷ []) ne = refl
not_four f (a ∷ b ∷ c ∷ d ∷ []) ne = absurd (ne (omega arith))
not_four f (a ∷ b ∷ c ∷ d ∷ e ∷ words) ne = refl

pub not_four_or_six : {A : Type 0} (four : List ℕ → List ℕ → List ℕ → List ℕ → Option A) (six : List ℕ → List ℕ → List ℕ → List ℕ → List ℕ → List ℕ → Option A) (words : List (String Global))
    → (length words ≡ 4 → ⊥) → (length words ≡ 6 → ⊥) → four_or_six_words four six (texts words) ≡ None
not_four_or_six four six [] ne4 ne6 = refl
not_four_or_six four six (a ∷ []) ne4 ne6 = refl
not_four_or_six four six (a ∷ b ∷ []) ne4 ne6 = refl
not_four_or_six four six (a ∷ b ∷ c ∷ []) ne4 ne6 = refl
not_four_or_six four six (a ∷ b ∷ c ∷ d ∷ []) ne4 ne6 = absurd (ne4 (omega arith))
not_four_or_six four six (a ∷ b ∷ c ∷ d ∷ e ∷ []) ne4 ne6 = refl
not_four_or_six four six (a ∷ b ∷ c ∷ d ∷ e ∷ f ∷ []) ne4 ne6 = absurd (ne6 (omega arith))
not_four_or_six four six (a ∷ b ∷ c ∷ d ∷ e ∷ f ∷ g ∷ words) ne4 ne6 = refl
