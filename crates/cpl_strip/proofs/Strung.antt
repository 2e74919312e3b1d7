-- The strips made of a table of what all holes take are the strips of the layout.
use Rattle.std.proofs.Common.{◌≡◌, refl, sym, ◌∙◌, ap, subst, ℕ, ◌+◌, ◌-◌, ◌*◌, ◌<◌, ◌≤◌, arith, List, [], length, get_or, Some, inl, inr}
use Rattle.std.specs.Prelude.{◌/◌, ◌%◌}
use Rattle.std.specs.Option.{option_map}
use Rattle.std.proofs.lemmas.List.{length-map, get_or-map}
use Rattle.std.proofs.lemmas.Nat.{div-mul-add, mod-mul-add, mul-add-lt}
use Rattle.cpl_mosaic.specs.declared.parts.Side.TheVariants.{W}
use Rattle.cpl_mosaic.specs.declared.parts.Tile.{Tile}
use Rattle.cpl_mosaic.specs.Lists.{MosaicLists}
use Rattle.cpl_mosaic.specs.Sides.{CellSide, IsCellOf}
use Rattle.cpl_mosaic.specs.Mates.{MatesAgree}
use Rattle.cpl_layout.specs.Layouts.{Cuts}
use Rattle.cpl_layout.specs.Pieces.{pieces_of, piece_of, owner_of}
use Rattle.cpl_layout.specs.Owners.{Holds, IsPlaceOf, OwnersAgree, place_in}
use Rattle.cpl_strip.specs.declared.parts.Strip.{Strip}
use Rattle.cpl_strip.specs.declared.halos.Beside.{Beside}
use Rattle.cpl_strip.specs.Holes.{IsHoleOf, side_at, walk_to}
use Rattle.cpl_strip.specs.Strips.{Link, IsLink, IsWithin, strip_at, link_at, StandsAt, Precedes, AreStrips}
use Rattle.cpl_strip.specs.Rounds.{nth_hole}
use Rattle.cpl_strip.specs.Tables.{picks, IsFilled, made_at}
use Rattle.cpl_strip.specs.Taken.{beside, taken_by, hole_takes, holes_in, strip_made}
use Rattle.cpl_strip.proofs.Picks.{cases_option}
use Rattle.cpl_strip.proofs.Bundles.{is_pair, pairs_order, same_pair, Given, given_items, Bundled, bundled, first_same, second_same, same_by_order}
use Rattle.cpl_strip.proofs.HoleNumbers.{hole_is, hole_has, hole_apart}
use Rattle.cpl_strip.proofs.Walked.{edge_inside, walk_inside, place_is}

-- what stands of a hole that takes
abbrev as_beside : Link → Beside
as_beside link = record { place = link.place; hole = link.hole }

-- what is known of the table, the layout and the mosaic
pub record Ready (mosaic : MosaicLists) (layout : Cuts) (width : ℕ) (table : List (List Beside)) : Type 0 where
  pub tiles : layout.tiles ≡ mosaic.tiles
  pub mates : MatesAgree mosaic
  pub owners : OwnersAgree layout
  pub some : 1 ≤ pieces_of layout
  pub filled : IsFilled (hole_takes mosaic layout) (holes_in layout width) (pieces_of layout) (pieces_of layout) 0 table

-- what stands at number k of a pair's strip
abbrev link_made : Cuts → List (List Beside) → ℕ → ℕ → Link
link_made layout table p k = record {
  from = p / pieces_of layout;
  to = p % pieces_of layout;
  place = (get_or (get_or table p []) k (record { place = (0, 0); hole = record { side = W; at = 0; depth = 0 } })).place;
  hole = (get_or (get_or table p []) k (record { place = (0, 0); hole = record { side = W; at = 0; depth = 0 } })).hole;
}

made_link : (layout : Cuts) (table : List (List Beside)) (p k : ℕ) → k < length (get_or table p []) → link_at (strip_made (p / pieces_of layout) (p % pieces_of layout) (get_or table p [])) k ≡ link_made layout table p k
made_link layout table p k below =
    let place = get_or-map (λ (link : Beside). link.place) (get_or table p []) k (record { place = (0, 0); hole = record { side = W; at = 0; depth = 0 } }) (0, 0) below in
    let hole = get_or-map (λ (link : Beside). link.hole) (get_or table p []) k (record { place = (0, 0); hole = record { side = W; at = 0; depth = 0 } }) (record { side = W; at = 0; depth = 0 }) below in
    λ s. record { from = p / pieces_of layout; to = p % pieces_of layout; place = place s; hole = hole s }

-- a hole that takes has a walk
pub record Takes (mosaic : MosaicLists) (layout : Cuts) (to m from : ℕ) (taken : Beside) (entered : CellSide) : Type 0 where
  pub walk : walk_to mosaic (piece_of layout to) (nth_hole (piece_of layout to) m) ≡ Some entered
  pub from_is : from ≡ owner_of layout entered.0
  pub place : taken.place ≡ place_in (piece_of layout from) entered.0
  pub hole : taken.hole ≡ nth_hole (piece_of layout to) m

takes_walk : (mosaic : MosaicLists) (layout : Cuts) (to m from : ℕ) (taken : Beside) → hole_takes mosaic layout to m ≡ Some (from, taken) → (entered : CellSide) × Takes mosaic layout to m from taken entered
takes_walk mosaic layout to m from taken takes = elim (cases_option (walk_to mosaic (piece_of layout to) (nth_hole (piece_of layout to) m))) [
  | inl none ↦ absurd (let nothing = ap (option_map (beside layout (nth_hole (piece_of layout to) m))) none in cc)
  | inr (entered, some) ↦
      let something = ap (option_map (beside layout (nth_hole (piece_of layout to) m))) some in
      let same : (from, taken) ≡ beside layout (nth_hole (piece_of layout to) m) entered = cc in
      let from_is : from ≡ owner_of layout entered.0 = ap (λ (q : ℕ × Beside). q.0) same in (
        entered,
        record {
          walk = some;
          from_is = from_is;
          place = ap (λ (q : ℕ × Beside). q.1.place) same ∙ ap (λ f. place_in (piece_of layout f) entered.0) (sym from_is);
          hole = ap (λ (q : ℕ × Beside). q.1.hole) same;
        },
      )
]

-- a link is what its hole takes
link_taken : (mosaic : MosaicLists) (layout : Cuts) (width m : ℕ) (link : Link) (entered : CellSide) → IsLink mosaic layout width link entered → nth_hole (piece_of layout link.to) m ≡ link.hole → hole_takes mosaic layout link.to m ≡ Some (link.from, as_beside link)
link_taken mosaic layout width m link entered is number =
    let from = sym is.from in
    let place = ap (λ f. place_in (piece_of layout f) entered.0) from ∙ sym is.place in
    ap (taken_by mosaic layout (piece_of layout link.to)) number
    ∙ ap (option_map (beside layout link.hole)) is.walk
    ∙ (λ s. Some (from s, record { place = place s; hole = link.hole }))

-- one strip comes before another where its pair does
made_order : (layout : Cuts) (table : List (List Beside)) (strips : List Strip) (bundle : Bundled strip_made (pieces_of layout) table strips) (m n : ℕ) → 1 ≤ pieces_of layout → m < n → n < length strips → Precedes (strip_at strips m) (strip_at strips n)
made_order layout table strips bundle m n some order below =
    let first = bundle.is m (record { from = 0; to = 0; places = []; holes = [] }) (omega arith) in
    let second = bundle.is n (record { from = 0; to = 0; places = []; holes = [] }) below in
    subst (λ (s : Strip). Precedes s (strip_at strips n)) (sym first)
    (subst (λ (s : Strip). Precedes (strip_made (bundle.pair m / pieces_of layout) (bundle.pair m % pieces_of layout) (get_or table (bundle.pair m) [])) s) (sym second)
    (pairs_order (pieces_of layout) (bundle.pair m) (bundle.pair n) some (bundle.order m n order below)))

-- the table's items by taker, and the strips by pair
abbrev Items : MosaicLists → Cuts → ℕ → List (List Beside) → Type 0
Items mosaic layout width table = Given (hole_takes mosaic layout) (holes_in layout width) (pieces_of layout) table

abbrev Strips : Cuts → List (List Beside) → List Strip → Type 0
Strips layout table strips = Bundled strip_made (pieces_of layout) table strips

-- what is known of an entry of a pair's strip, which is the m-th hole's
record Entry (mosaic : MosaicLists) (layout : Cuts) (width p m : ℕ) (link : Link) : Type 0 where
  from : link.from ≡ p / pieces_of layout
  to : link.to ≡ p % pieces_of layout
  below : link.to < pieces_of layout
  count : m < holes_in layout width link.to
  takes : hole_takes mosaic layout link.to m ≡ Some (link.from, as_beside link)

made_entry : (mosaic : MosaicLists) (layout : Cuts) (width : ℕ) (table : List (List Beside)) (items : Items mosaic layout width table) (p k : ℕ) → 1 ≤ pieces_of layout → p < pieces_of layout * pieces_of layout → k < length (get_or table p []) → Entry mosaic layout width p (items.which p k) (link_made layout table p k)
made_entry mosaic layout width table items p k some below within =
    let is = items.is p k (record { place = (0, 0); hole = record { side = W; at = 0; depth = 0 } }) below within in
    record { from = refl; to = refl; below = (is_pair (pieces_of layout) p some below).to; count = is.0; takes = is.1 }

-- what stands in a strip is made of its pair's list
record Standing (layout : Cuts) (table : List (List Beside)) (p k : ℕ) (link : Link) : Type 0 where
  below : p < pieces_of layout * pieces_of layout
  within : k < length (get_or table p [])
  is : link_made layout table p k ≡ link

standing : (layout : Cuts) (table : List (List Beside)) (strips : List Strip) (bundle : Strips layout table strips) (n k : ℕ) (link : Link) → StandsAt strips n k link → Standing layout table (bundle.pair n) k link
standing layout table strips bundle n k link at =
    let strip = bundle.is n (record { from = 0; to = 0; places = []; holes = [] }) at.strip in
    let count : length (strip_at strips n).holes ≡ length (get_or table (bundle.pair n) []) = ap (λ (s : Strip). length s.holes) strip ∙ length-map (get_or table (bundle.pair n) []) (λ (link : Beside). link.hole) in
    let inside = at.within in
    let within : k < length (get_or table (bundle.pair n) []) = omega arith in
    record {
      below = bundle.below n at.strip;
      within = within;
      is = sym (ap (λ (s : Strip). link_at s k) strip ∙ made_link layout table (bundle.pair n) k within) ∙ at.is;
    }

stands : (layout : Cuts) (table : List (List Beside)) (strips : List Strip) (bundle : Strips layout table strips) (n k : ℕ) (link : Link) → n < length strips → Standing layout table (bundle.pair n) k link → StandsAt strips n k link
stands layout table strips bundle n k link below standing =
    let strip = bundle.is n (record { from = 0; to = 0; places = []; holes = [] }) below in
    let count : length (strip_at strips n).holes ≡ length (get_or table (bundle.pair n) []) = ap (λ (s : Strip). length s.holes) strip ∙ length-map (get_or table (bundle.pair n) []) (λ (link : Beside). link.hole) in
    let inside = standing.within in
    record {
      strip = below;
      within = omega arith;
      is = ap (λ (s : Strip). link_at s k) strip ∙ made_link layout table (bundle.pair n) k standing.within ∙ standing.is;
    }

entry : (mosaic : MosaicLists) (layout : Cuts) (width : ℕ) (table : List (List Beside)) (items : Items mosaic layout width table) (p k : ℕ) (link : Link) → 1 ≤ pieces_of layout → Standing layout table p k link → Entry mosaic layout width p (items.which p k) link
entry mosaic layout width table items p k link some standing =
    subst (Entry mosaic layout width p (items.which p k)) standing.is (made_entry mosaic layout width table items p k some standing.below standing.within)

-- each link stands
found : (mosaic : MosaicLists) (layout : Cuts) (width : ℕ) (table : List (List Beside)) (items : Items mosaic layout width table) (link : Link) (m : ℕ) → link.from < pieces_of layout → link.to < pieces_of layout → m < holes_in layout width link.to → hole_takes mosaic layout link.to m ≡ Some (link.from, as_beside link)
    → (k : ℕ) × Standing layout table (link.from * pieces_of layout + link.to) k link
found mosaic layout width table items link m from to count takes =
    let p = link.from * pieces_of layout + link.to in
    let row = div-mul-add link.from (pieces_of layout) link.to to in
    let column = mod-mul-add link.from (pieces_of layout) link.to to in
    let below = mul-add-lt link.from (pieces_of layout) link.to (pieces_of layout) from to in
    let count_there = subst (λ t. m < holes_in layout width t) (sym column) count in
    let takes_there : hole_takes mosaic layout ((link.from * pieces_of layout + link.to) % pieces_of layout) m ≡ Some ((link.from * pieces_of layout + link.to) / pieces_of layout, as_beside link) =
    ap (λ t. hole_takes mosaic layout t m) column ∙ takes ∙ ap (λ f. Some (f, as_beside link)) (sym row) in
    let at = items.found (link.from * pieces_of layout + link.to) m (as_beside link) below count_there takes_there in
    let is = items.is (link.from * pieces_of layout + link.to) at.0 (record { place = (0, 0); hole = record { side = W; at = 0; depth = 0 } }) below at.1 in
    let same_number = ap (λ w. hole_takes mosaic layout ((link.from * pieces_of layout + link.to) % pieces_of layout) w) at.2 in
    let item : get_or (get_or table (link.from * pieces_of layout + link.to) []) at.0 (record { place = (0, 0); hole = record { side = W; at = 0; depth = 0 } }) ≡ as_beside link = second_same (sym is.1 ∙ same_number ∙ takes_there) in (
      at.0,
      record {
        below = below;
        within = at.1;
        is = λ s. record { from = row s; to = column s; place = (item s).place; hole = (item s).hole };
      },
    )

-- the cell that a link's walk leads to is one of the mosaic
link_inside : (mosaic : MosaicLists) (layout : Cuts) (width : ℕ) (table : List (List Beside)) (ready : Ready mosaic layout width table) (link : Link) (entered : CellSide) → IsLink mosaic layout width link entered → IsCellOf layout.tiles entered.0
link_inside mosaic layout width table ready link entered is =
    let piece = ready.owners.inside link.to is.to in
    let edge = edge_inside layout.tiles (piece_of layout link.to) link.hole.side link.hole.at piece is.hole.at in
    let edge_there = subst (λ (tiles : List Tile). IsCellOf tiles (side_at (piece_of layout link.to) link.hole).0) ready.tiles edge in
    let inside = walk_inside mosaic (link.hole.depth - 1) (side_at (piece_of layout link.to) link.hole) entered ready.mates edge_there is.walk in
    subst (λ (tiles : List Tile). IsCellOf tiles entered.0) (sym ready.tiles) inside

-- so its place is one of the piece that gives
link_within : (mosaic : MosaicLists) (layout : Cuts) (width : ℕ) (table : List (List Beside)) (ready : Ready mosaic layout width table) (link : Link) (entered : CellSide) → IsLink mosaic layout width link entered → IsWithin layout link
link_within mosaic layout width table ready link entered is =
    let cell = link_inside mosaic layout width table ready link entered is in
    let held = subst (λ f. Holds (piece_of layout f) entered.0) (sym is.from) (ready.owners.holds entered.0 cell) in
    record {
      from = subst (λ f. f < pieces_of layout) (sym is.from) (ready.owners.below entered.0 cell);
      to = is.to;
      place = subst (IsPlaceOf (piece_of layout link.from)) (sym is.place) (place_is (piece_of layout link.from) entered.0 held);
    }

each_link : (mosaic : MosaicLists) (layout : Cuts) (width : ℕ) (table : List (List Beside)) (strips : List Strip) (ready : Ready mosaic layout width table) (items : Items mosaic layout width table) (bundle : Strips layout table strips) (link : Link) (entered : CellSide) → IsLink mosaic layout width link entered → (n : ℕ) × (k : ℕ) × StandsAt strips n k link
each_link mosaic layout width table strips ready items bundle link entered is =
    let piece = ready.owners.inside link.to is.to in
    let number = hole_has (piece_of layout link.to) width link.hole piece.shape is.hole in
    let from = (link_within mosaic layout width table ready link entered is).from in
    let at = found mosaic layout width table items link number.0 from is.to number.1 (link_taken mosaic layout width number.0 link entered is number.2) in
    let here = at.1 in
    let within = here.within in
    let strip = bundle.found (link.from * pieces_of layout + link.to) here.below (omega arith) in
    (strip.0, at.0, stands layout table strips bundle strip.0 at.0 link strip.1 (subst (λ p. Standing layout table p at.0 link) (sym strip.2) here))

-- nothing else does
only_links : (mosaic : MosaicLists) (layout : Cuts) (width : ℕ) (table : List (List Beside)) (strips : List Strip) (ready : Ready mosaic layout width table) (items : Items mosaic layout width table) (bundle : Strips layout table strips) (n k : ℕ) (link : Link) → StandsAt strips n k link → (entered : CellSide) × IsLink mosaic layout width link entered
only_links mosaic layout width table strips ready items bundle n k link at =
    let here = entry mosaic layout width table items (bundle.pair n) k link ready.some (standing layout table strips bundle n k link at) in
    let walk = takes_walk mosaic layout link.to (items.which (bundle.pair n) k) link.from (as_beside link) here.takes in
    let piece = ready.owners.inside link.to here.below in (
      walk.0,
      record {
        to = here.below;
        hole = subst (IsHoleOf (piece_of layout link.to) width) (sym walk.1.hole) (hole_is (piece_of layout link.to) width (items.which (bundle.pair n) k) piece.shape here.count);
        walk = ap (walk_to mosaic (piece_of layout link.to)) walk.1.hole ∙ walk.1.walk;
        from = walk.1.from_is;
        place = walk.1.place;
      },
    )

-- no hole stands twice
link_once : (mosaic : MosaicLists) (layout : Cuts) (width : ℕ) (table : List (List Beside)) (strips : List Strip) (ready : Ready mosaic layout width table) (items : Items mosaic layout width table) (bundle : Strips layout table strips) (n m k l : ℕ) (a b : Link) → StandsAt strips n k a → StandsAt strips m l b → a.to ≡ b.to → a.hole ≡ b.hole → (n ≡ m) × (k ≡ l)
link_once mosaic layout width table strips ready items bundle n m k l a b at_a at_b to hole =
    let stand_a = standing layout table strips bundle n k a at_a in
    let stand_b = standing layout table strips bundle m l b at_b in
    let here_a = entry mosaic layout width table items (bundle.pair n) k a ready.some stand_a in
    let here_b = entry mosaic layout width table items (bundle.pair m) l b ready.some stand_b in
    let walk_a = takes_walk mosaic layout a.to (items.which (bundle.pair n) k) a.from (as_beside a) here_a.takes in
    let walk_b = takes_walk mosaic layout b.to (items.which (bundle.pair m) l) b.from (as_beside b) here_b.takes in
    let piece = ready.owners.inside b.to here_b.below in
    let number : items.which (bundle.pair n) k ≡ items.which (bundle.pair m) l =
    hole_apart (piece_of layout b.to) (items.which (bundle.pair n) k) (items.which (bundle.pair m) l) piece.shape
    (ap (λ t. nth_hole (piece_of layout t) (items.which (bundle.pair n) k)) (sym to) ∙ sym walk_a.1.hole ∙ hole ∙ walk_b.1.hole) in
    let from : a.from ≡ b.from = first_same (sym here_a.takes ∙ (λ s. hole_takes mosaic layout (to s) (number s)) ∙ here_b.takes) in
    let pair : bundle.pair n ≡ bundle.pair m = same_pair (pieces_of layout) (bundle.pair n) (bundle.pair m) (sym here_a.from ∙ from ∙ here_b.from) (sym here_a.to ∙ to ∙ here_b.to) in (
      same_by_order (λ i. bundle.pair i) n m (length strips) (λ i j order below. bundle.order i j order below) at_a.strip at_b.strip pair,
      same_by_order (λ i. items.which (bundle.pair n) i) k l (length (get_or table (bundle.pair n) [])) (λ i j order below. items.order (bundle.pair n) i j stand_a.below order below) stand_a.within (subst (λ p. l < length (get_or table p [])) (sym pair) stand_b.within) (number ∙ ap (λ p. items.which p l) (sym pair)),
    )

pub are_strips : (mosaic : MosaicLists) (layout : Cuts) (width : ℕ) (table : List (List Beside)) → Ready mosaic layout width table → AreStrips mosaic layout width (picks (made_at strip_made (pieces_of layout) table) (pieces_of layout * pieces_of layout))
are_strips mosaic layout width table ready =
    let strips = picks (made_at strip_made (pieces_of layout) table) (pieces_of layout * pieces_of layout) in
    let items = given_items (hole_takes mosaic layout) (holes_in layout width) (pieces_of layout) table ready.some ready.filled in
    let bundle = bundled strip_made (pieces_of layout) table (record { from = 0; to = 0; places = []; holes = [] }) in
    record {
      sorted = λ m n order below. made_order layout table strips bundle m n ready.some order below;
      even = λ n below.
          let strip = bundle.is n (record { from = 0; to = 0; places = []; holes = [] }) below in
          ap (λ (s : Strip). length s.places) strip ∙ length-map (get_or table (bundle.pair n) []) (λ (link : Beside). link.place) ∙ sym (ap (λ (s : Strip). length s.holes) strip ∙ length-map (get_or table (bundle.pair n) []) (λ (link : Beside). link.hole));
      some = λ n below.
          let strip = bundle.is n (record { from = 0; to = 0; places = []; holes = [] }) below in
          let count : length (strip_at strips n).holes ≡ length (get_or table (bundle.pair n) []) = ap (λ (s : Strip). length s.holes) strip ∙ length-map (get_or table (bundle.pair n) []) (λ (link : Beside). link.hole) in
          let some = bundle.some n below in
          omega arith;
      each = λ link entered is. each_link mosaic layout width table strips ready items bundle link entered is;
      only = λ n k link at. only_links mosaic layout width table strips ready items bundle n k link at;
      within = λ n k link at.
          let entered = only_links mosaic layout width table strips ready items bundle n k link at in
          link_within mosaic layout width table ready link entered.0 entered.1;
      once = λ n m k l a b at_a at_b to hole. link_once mosaic layout width table strips ready items bundle n m k l a b at_a at_b to hole;
    }
