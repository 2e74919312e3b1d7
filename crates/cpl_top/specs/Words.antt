-- The words of the command line.
use Rattle.std.specs.Prelude.{ℕ, List, [], ◌∷◌, Option, None}

-- what so many words are, and nothing for any other number of words
abbrev pub one_word : {A : Type 0} → (List ℕ → Option A) → List (List ℕ) → Option A
one_word f (a ∷ []) = f a
one_word f words = None

abbrev pub three_words : {A : Type 0} → (List ℕ → List ℕ → List ℕ → Option A) → List (List ℕ) → Option A
three_words f (a ∷ b ∷ c ∷ []) = f a b c
three_words f words = None

abbrev pub four_words : {A : Type 0} → (List ℕ → List ℕ → List ℕ → List ℕ → Option A) → List (List ℕ) → Option A
four_words f (a ∷ b ∷ c ∷ d ∷ []) = f a b c d
four_words f words = None

abbrev pub four_or_six_words : {A : Type 0} → (List ℕ → List ℕ → List ℕ → List ℕ → Option A) → (List ℕ → List ℕ → List ℕ → List ℕ → List ℕ → List ℕ → Option A) → List (List ℕ) → Option A
four_or_six_words four six (a ∷ b ∷ c ∷ d ∷ []) = four a b c d
four_or_six_words four six (a ∷ b ∷ c ∷ d ∷ e ∷ f ∷ []) = six a b c d e f
four_or_six_words four six words = None
