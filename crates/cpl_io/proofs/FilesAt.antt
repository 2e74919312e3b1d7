-- What the files of a map have at a name, and how a change at one name changes them.
use Rattle.std.proofs.Common.{◌≡◌, ◌∙◌, refl, sym, ap, ℕ, List, [], ◌∷◌, Bool, true, false, cond, Option, Some, Vec, String, string_bytes, Result, Ok, Err, OnOk, is_ok, ◌++◌, unwrap_or}
use Rattle.std.specs.Option.{option_map}
use Rattle.std.specs.Ordering.{nat_cmp}
use Rattle.std.specs.Cmp.Lexicographic.{slice_cmp, nat_list_cmp_total}
use Rattle.std.specs.FinMap.{get, find, get-from_entries}
use Rattle.std.specs.Map.{lookup}
use Rattle.std.specs.String.{string_cmp}
use Rattle.std.specs.Str.{bytes_eq}
use Rattle.std.specs.BTreeMap.{BTreeMap, is_at, get_by_text, UpdatesBy}
use Rattle.std.specs.declared.alloc.Global.{Global}
use Rattle.std.proofs.lemmas.Bool.{cond-true, cond-false, false_from_ne_true}
use Rattle.std.proofs.lemmas.Slice.Eq.{bytes_eq-Decides}
use Rattle.std.proofs.lemmas.Map.Text.{btree_map_updates_text}
use Rattle.cpl_io.specs.Files.{Files, bytes_of, Has, OthersStand}
use Rattle.cpl_io.specs.Texts.{texts, files_of}

module _ where
  abbrev Map : Type 0
  Map = BTreeMap (String Global) (Vec ℕ Global)

  mapped : (b : Bool) (v : Vec ℕ Global) (p : Option (List ℕ)) (o : Option (Vec ℕ Global)) → p ≡ option_map (λ v. v.items) o → cond b (Some v.items) p ≡ option_map (λ v. v.items) (cond b (Some v) o)
  mapped true v p o e = refl
  mapped false v p o e = e

  find_text : (es : List (String Global × Vec ℕ Global)) (q : List ℕ) → find (slice_cmp nat_cmp) q (texts es) ≡ option_map (λ v. v.items) (lookup (is_at (λ k. slice_cmp nat_cmp q (string_bytes k))) es)
  find_text [] q = refl
  find_text (e ∷ es) q = mapped (is_at (λ k. slice_cmp nat_cmp q (string_bytes k)) e.0) e.1 _ _ (find_text es q)

  pub get_file : (m : Map) (q : List ℕ) → get (files_of m.entries) q ≡ option_map (λ v. v.items) (get_by_text m q)
  get_file m q = get-from_entries nat_list_cmp_total (texts m.entries) q ∙ find_text m.entries q

  pub changed_here : (m n : Map) (bs : List ℕ) (v : Vec ℕ Global) → UpdatesBy string_cmp (λ k. slice_cmp nat_cmp bs (string_bytes k)) m n (Some v) → Has (files_of n.entries) bs v.items
  changed_here m n bs v u =
      get_file n bs
      ∙ ap (option_map (λ v. v.items)) (btree_map_updates_text bs m n (Some v) u bs ∙ cond-true (bytes_eq bs bs) (Some v) (get_by_text m bs) ((bytes_eq-Decides bs bs).1 refl))

  pub changed_others : (m n : Map) (bs : List ℕ) (v : Vec ℕ Global) → UpdatesBy string_cmp (λ k. slice_cmp nat_cmp bs (string_bytes k)) m n (Some v) → OthersStand (files_of m.entries) (files_of n.entries) bs
  changed_others m n bs v u q ne =
      get_file n q
      ∙ ap (option_map (λ v. v.items)) (btree_map_updates_text bs m n (Some v) u q ∙ cond-false (bytes_eq bs q) (Some v) (get_by_text m q) (false_from_ne_true _ (λ e. ne (sym ((bytes_eq-Decides bs q).0 e)))))
      ∙ sym (get_file m q)

  -- the bytes of a name that the map has
  pub bytes_here : (m : Map) (files : Files) (q : List ℕ) (o : Option (Vec ℕ Global)) → files_of m.entries ≡ files → o ≡ get_by_text m q → unwrap_or (option_map (λ v. v.items) o) [] ≡ bytes_of files q
  bytes_here m files q o v e = ap (λ o. unwrap_or o []) (ap (option_map (λ v. v.items)) e ∙ sym (get_file m q) ∙ ap (λ f. get f q) v)

  -- bytes that grew at Ok
  pub grown : {T E : Type 0} (r : Result T E) (files : Files) (name now old added : List ℕ) → Has files name now → now ≡ cond (is_ok r) (old ++ added) old → OnOk r (Has files name (old ++ added))
  grown (Ok x) files name now old added h e = h ∙ ap Some e
  grown (Err x) files name now old added h e = tt
