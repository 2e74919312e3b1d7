-- Layers that change one after the other.
use Rattle.std.proofs.Common.{◌≡◌, ◌∙◌, sym, ap, subst, ℕ, ◌+◌, ◌<◌, ◌≤◌, arith, inl, inr, List, [], ◌∷◌, ◌++◌, length, get_or, slice_set}
use Rattle.std.proofs.lemmas.Bool.{cases_eq}
use Rattle.std.proofs.lemmas.List.{get_or_append_left, get_or_default, get_or_push, length-set, length_push}
use Rattle.cpl_ocean.specs.Layers.{LayerNumbers, layer_at, no_layer}
use Rattle.cpl_ocean.proofs.Stored.{layer_other, layer_there}

-- the layers above one have changed, and the others stay
pub record EachTo (Changes : LayerNumbers → LayerNumbers → Type 0) (n : ℕ) (old new : List LayerNumbers) : Type 0 where
  pub count : length new ≡ length old
  pub done : (l : ℕ) → l < n → l < length old → Changes (layer_at old l) (layer_at new l)
  pub rest : (l : ℕ) → n ≤ l → layer_at new l ≡ layer_at old l

module _ (Changes : LayerNumbers → LayerNumbers → Type 0) (n : ℕ) (old layers : List LayerNumbers) (to : EachTo Changes n old layers) (within : n < length old) where
  -- the layer that has its turn is the one that was passed
  here_is : (d : LayerNumbers) → get_or layers n d ≡ layer_at old n
  here_is d = let count = to.count in get_or_default layers n d no_layer (omega arith) ∙ to.rest n (omega arith)

  pub each_here : (P : LayerNumbers → Type 0) (d : LayerNumbers) → P (layer_at old n) → P (get_or layers n d)
  each_here P d p = subst P (sym (here_is d)) p

  pub each_more : (d layer : LayerNumbers) → Changes (get_or layers n d) layer → EachTo Changes (n + 1) old (slice_set layers n layer)
  each_more d layer change =
      let count = to.count in record {
        count = length-set layers n layer ∙ to.count;
        done = λ l above less. elim (cases_eq l n) [
          | inl e ↦
              let there : Changes (layer_at old n) (layer_at (slice_set layers n layer) n) =
              subst (λ (a : LayerNumbers). Changes a (layer_at (slice_set layers n layer) n)) (here_is d)
              (subst (λ (b : LayerNumbers). Changes (get_or layers n d) b) (sym (layer_there layers n layer (omega arith))) change) in
              subst (λ (k : ℕ). Changes (layer_at old k) (layer_at (slice_set layers n layer) k)) (sym e) there
          | inr ne ↦ let other : l ≡ n → ⊥ = ne in subst (λ (b : LayerNumbers). Changes (layer_at old l) b) (sym (layer_other layers n l layer ne)) (to.done l (omega arith) less)
        ];
        rest = λ l le. layer_other layers n l layer (λ e. absurd (omega arith)) ∙ to.rest l (omega arith);
      }

-- one layer more at the end of a list, of which what is meant holds as it does of the others
pub each_pushed : (P : LayerNumbers → Type 0) (n : ℕ) (layers new : List LayerNumbers) (layer : LayerNumbers) → length layers ≡ n → ((l : ℕ) → l < n → P (layer_at layers l)) → new ≡ layers ++ layer ∷ [] → P layer → (length new ≡ n + 1) × ((l : ℕ) → l < n + 1 → P (layer_at new l))
each_pushed P n layers new layer count each is here = (
  ap (λ (list : List LayerNumbers). length list) is ∙ length_push layers layer ∙ ap (λ m. m + 1) count,
  λ l less. elim (cases_eq l n) [
    | inl e ↦
        let last : layer_at new n ≡ layer = ap (λ (list : List LayerNumbers). layer_at list n) is ∙ get_or_push layers layer no_layer n count in
        subst (λ (m : ℕ). P (layer_at new m)) (sym e) (subst P (sym last) here)
    | inr ne ↦
        let other : l ≡ n → ⊥ = ne in
        let kept : layer_at new l ≡ layer_at layers l = ap (λ (list : List LayerNumbers). layer_at list l) is ∙ get_or_append_left layers (layer ∷ []) no_layer l (omega arith) in
        subst P (sym kept) (each l (omega arith))
  ],
)
