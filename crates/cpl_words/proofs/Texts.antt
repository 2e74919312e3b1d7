-- Words by their bytes.
use Rattle.std.proofs.Common.{◌≡◌, List, [], ◌∷◌, refl, ap, ◌&&◌, String, string_bytes}
use Rattle.std.specs.List.{list_all}
use Rattle.std.specs.declared.alloc.Global.{Global}
use Rattle.cpl_words.specs.Arguments.{is_argument, texts}

pub each_text : (words : List (String Global)) → list_all (λ word. is_argument (string_bytes word)) words ≡ list_all is_argument (texts words)
each_text [] = refl
each_text (word ∷ words) = ap (λ b. is_argument (string_bytes word) && b) (each_text words)
