use Rattle.std.proofs.Common.{◌≡◌, ℕ, sym, ◌∙◌, ap, arith, ◌<◌, map, List, [], ◌∷◌, ◌++◌, length, get_or, set, Vec, Global}
use Rattle.std.proofs.lemmas.List.{map-set, get_or-map, length-map}
use Rattle.cpl_strip.proofs.table.Table.add.Goals as goal

-- a list of vectors, one of which gains an item, as lists of items
pushed : {T : Type 0} (lists : List (Vec T Global)) (at : ℕ) (old new : Vec T Global) (item : T) → at < length lists → old ≡ get_or lists at old → new.items ≡ old.items ++ item ∷ [] → map (λ (v : Vec T Global). v.items) (set lists at new) ≡ set (map (λ (v : Vec T Global). v.items) lists) at (get_or (map (λ (v : Vec T Global). v.items) lists) at [] ++ item ∷ [])
pushed {T = T} lists at old new item below read push =
    map-set (λ (v : Vec T Global). v.items) lists at new
    ∙ ap (set (map (λ (v : Vec T Global). v.items) lists) at) (push ∙ ap (λ l. l ++ item ∷ []) (ap (λ (v : Vec T Global). v.items) read ∙ sym (get_or-map (λ (v : Vec T Global). v.items) lists at old [] below)))

pub returns : goal.returns
returns g c =
    let below : c.args.at < length c.self.inside.lists.items =
    let size : length c.self.inside.lists.items ≡ length c.args.self.now = sym (length-map c.self.inside.lists.items (λ v. v.items)) ∙ ap length c.self.view_is in omega (arith, c.requires) in
    let made = pushed c.self.inside.lists.items c.args.at c.index_mut.result.now c.push.new.self c.args.item below c.index_mut.ensures.value c.in_ok-push.ensures.items in
    made ∙ ap (λ l. set l c.args.at (get_or l c.args.at [] ++ c.args.item ∷ [])) c.self.view_is
