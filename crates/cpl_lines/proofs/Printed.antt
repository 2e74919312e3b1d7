-- Texts that grow at their end, piece by piece.
use Rattle.std.proofs.Common.{◌≡◌, ◌∙◌, refl, sym, ap, ℕ, suc, ◌+◌, ◌<◌, ◌≤◌, List, [], ◌∷◌, ◌++◌, length, get_or, take, map, append_assoc, arith, Result, Ok, Err}
use Rattle.std.specs.Prelude.{OnOk}
use Rattle.std.specs.List.{flat_map}
use Rattle.std.proofs.Math.Seq.{take-suc}
use Rattle.std.proofs.lemmas.List.{append-nil, take_all}
use Rattle.std.proofs.lemmas.List.Concat.{flat_map-append}
use Rattle.cpl_lines.specs.Fields.{Number, field_text}
use Rattle.cpl_lines.specs.Lines.{line_feed, line_text, row}

module _ {A : Type 0} (text_of : A → List ℕ) (xs : List A) (start : List ℕ) where
  -- the text after the first items
  pub record HasPrinted (count : ℕ) (text : List ℕ) : Type 0 where
    pub is : text ≡ start ++ flat_map text_of (take count xs)

  pub nothing_yet : HasPrinted 0 start
  nothing_yet = record { is = sym (append-nil start) }

  pub one_more : (i : ℕ) (d : A) (text more : List ℕ) → i < length xs → HasPrinted i text → more ≡ text ++ text_of (get_or xs i d) → HasPrinted (i + 1) more
  one_more i d text more lt far grown =
      let x : A = get_or xs i d in
      let count : i + 1 ≡ suc i = omega arith in
      let item : take (i + 1) xs ≡ take i xs ++ x ∷ [] = ap (λ (n : ℕ). take n xs) count ∙ take-suc xs i d lt in
      let last : flat_map text_of (x ∷ []) ≡ text_of x = append-nil (text_of x) in
      let parts : flat_map text_of (take (i + 1) xs) ≡ flat_map text_of (take i xs) ++ text_of x =
      ap (flat_map text_of) item ∙ flat_map-append text_of (take i xs) (x ∷ []) ∙ ap (λ (l : List ℕ). flat_map text_of (take i xs) ++ l) last in
      record {
        is = grown ∙ ap (λ (l : List ℕ). l ++ text_of x) far.is ∙ append_assoc start (flat_map text_of (take i xs)) (text_of x)
            ∙ ap (λ (l : List ℕ). start ++ l) (sym parts);
      }

  pub all_printed : (count : ℕ) (text : List ℕ) → length xs ≤ count → HasPrinted count text → text ≡ start ++ flat_map text_of xs
  all_printed count text le far = far.is ∙ ap (λ (l : List A). start ++ flat_map text_of l) (take_all count xs le)

-- what holds where something is returned
pub on_ok : {T E : Type 0} (returned : Result T E) {P Q : Type 0} → (P → Q) → OnOk returned P → OnOk returned Q
on_ok (Ok value) f p = f p
on_ok (Err fault) f p = tt

-- a number as a field
abbrev pub number_text : ℕ → List ℕ
number_text n = field_text (Number n)

pub numbers_text : (numbers : List ℕ) → flat_map field_text (map Number numbers) ≡ flat_map number_text numbers
numbers_text [] = refl
numbers_text (n ∷ numbers) = ap (λ (l : List ℕ). field_text (Number n) ++ l) (numbers_text numbers)

-- a word, numbers and a line feed after them are a row
pub row_printed : (before word numbers text : List ℕ) → text ≡ (before ++ word) ++ flat_map number_text numbers → text ++ line_feed ≡ before ++ line_text (row word numbers)
row_printed before word numbers text is =
    let fields : List ℕ = flat_map number_text numbers in
    ap (λ (l : List ℕ). l ++ line_feed) is ∙ regroup before word fields line_feed ∙ ap (λ (l : List ℕ). before ++ ((word ++ l) ++ line_feed)) (sym (numbers_text numbers))
  where
    regroup : (a b c d : List ℕ) → ((a ++ b) ++ c) ++ d ≡ a ++ ((b ++ c) ++ d)
    regroup a b c d = simp append_assoc
