-- The groups of a namelist.
use Rattle.std.specs.Prelude.{ℕ, List, [], ◌∷◌, codes, Bool, true, false, Option, find}
use Rattle.cpl_namelist.specs.declared.group.Group.{Group}
use Rattle.cpl_namelist.specs.declared.group.Group.TheVariants.{Coupler, Layout, Air, Land, Ice, Ocean}
use Rattle.cpl_namelist.specs.Tokens.{same_word}

-- how a heading names a group, after its mark
abbrev pub group_name : Group → List ℕ
group_name Coupler = codes "coupler_nml"
group_name Layout = codes "layout_nml"
group_name Air = codes "air_nml"
group_name Land = codes "land_nml"
group_name Ice = codes "ice_nml"
group_name Ocean = codes "ocean_nml"

-- the place of a group among all
abbrev pub group_place : Group → ℕ
group_place Coupler = 0
group_place Layout = 1
group_place Air = 2
group_place Land = 3
group_place Ice = 4
group_place Ocean = 5

abbrev pub is_same_group : Group → Group → Bool
is_same_group Coupler Coupler = true
is_same_group Layout Layout = true
is_same_group Air Air = true
is_same_group Land Land = true
is_same_group Ice Ice = true
is_same_group Ocean Ocean = true
is_same_group _ _ = false

abbrev pub all_groups : List Group
all_groups = Coupler ∷ Layout ∷ Air ∷ Land ∷ Ice ∷ Ocean ∷ []

-- the group with this name, case aside
unfoldable pub group_named : List ℕ → Option Group
group_named word = find (λ group. same_word (group_name group) word) all_groups
