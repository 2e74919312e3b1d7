-- The names of a namelist, and what each may hold.
use Rattle.std.specs.Prelude.{◌≡◌, ℕ, List, [], ◌∷◌, codes, replicate, map, position, Bool, ◌&&◌, Option, Some, None, slice_index_or}
use Rattle.cpl_namelist.specs.declared.group.Group.{Group}
use Rattle.cpl_namelist.specs.declared.group.Group.TheVariants as groups
use Rattle.cpl_namelist.specs.declared.table.Holds.{Holds}
use Rattle.cpl_namelist.specs.declared.table.Holds.TheVariants as holds
use Rattle.cpl_namelist.specs.declared.table.Row.{Row}
use Rattle.cpl_namelist.specs.declared.places.TheConstants as places
use Rattle.cpl_namelist.specs.Tokens.{same_word}
use Rattle.cpl_namelist.specs.Groups.{is_same_group}

-- a name of a group, with what it holds
pub record Named : Type 0 where
  pub group : Group
  pub name : List ℕ
  pub row : Row

-- a name: how many values of which kind, the least and the greatest, and the default
abbrev pub named : Group → List ℕ → Holds → (count low high : ℕ) → Option (List ℕ) → Named
named group name kind count low high default = record {
  group = group;
  name = name;
  row = record { holds = kind; count = count; low = low; high = high; default = default };
}

-- the same default for each value
abbrev pub by_default : ℕ → Option (List ℕ)
by_default n = Some (replicate 12 n)

-- All names of the format, with their kind and count of values, their range and their default. A moment is a date with a
-- time of day, whose six numbers have ranges of their own.
abbrev pub format : List Named
format =
    named groups.Coupler (codes "current_date") holds.Moment 6 0 9_999 None
    ∷ named groups.Coupler (codes "calendar") holds.Calendar 1 1 1 None
    ∷ named groups.Coupler (codes "days") holds.Numbers 1 0 1_000_000_000 (by_default 0)
    ∷ named groups.Coupler (codes "hours") holds.Numbers 1 0 1_000_000_000 (by_default 0)
    ∷ named groups.Coupler (codes "minutes") holds.Numbers 1 0 1_000_000_000 (by_default 0)
    ∷ named groups.Coupler (codes "seconds") holds.Numbers 1 0 1_000_000_000 (by_default 0)
    ∷ named groups.Coupler (codes "dt_atmos") holds.Numbers 1 1 2_678_400 None
    ∷ named groups.Coupler (codes "dt_cpld") holds.Numbers 1 1 2_678_400 None
    ∷ named groups.Coupler (codes "concurrent") holds.Logical 1 1 1 (by_default 1)
    ∷ named groups.Coupler (codes "use_lag_fluxes") holds.Logical 1 1 1 (by_default 1)
    ∷ named groups.Layout (codes "atmos_layout") holds.Numbers 2 1 64 (by_default 1)
    ∷ named groups.Layout (codes "land_layout") holds.Numbers 2 1 64 (by_default 1)
    ∷ named groups.Layout (codes "ice_layout") holds.Numbers 2 1 64 (by_default 1)
    ∷ named groups.Layout (codes "ocean_layout") holds.Numbers 2 1 64 (by_default 1)
    ∷ named groups.Air (codes "ca") holds.Numbers 1 1 1_048_576 (by_default 10)
    ∷ named groups.Air (codes "kh") holds.Numbers 1 0 1_048_576 (by_default 1_024)
    ∷ named groups.Air (codes "ke") holds.Numbers 1 0 1_048_576 (by_default 4_096)
    ∷ named groups.Air (codes "hs") holds.Numbers 1 0 1_048_576 (by_default 1_000)
    ∷ named groups.Air (codes "ko") holds.Numbers 1 0 131_072 (by_default 1_024)
    ∷ named groups.Air (codes "rc") holds.Numbers 1 0 1_048_576 (by_default 1)
    ∷ named groups.Air (codes "month") holds.Numbers 12 0 4_000 (by_default 1_000)
    ∷ named groups.Land (codes "cl") holds.Numbers 1 1 1_048_576 (by_default 10)
    ∷ named groups.Land (codes "cap") holds.Numbers 1 0 1_048_576 (by_default 10)
    ∷ named groups.Land (codes "albedo") holds.Numbers 1 0 1_000 (by_default 200)
    ∷ named groups.Ice (codes "h0") holds.Numbers 1 1 1_048_576 (by_default 100)
    ∷ named groups.Ice (codes "bounds") holds.Numbers 4 1 1_048_576 (Some (100 ∷ 200 ∷ 400 ∷ 800 ∷ replicate 8 0))
    ∷ named groups.Ice (codes "albedo") holds.Numbers 1 0 1_000 (by_default 600)
    ∷ named groups.Ice (codes "water_albedo") holds.Numbers 1 0 1_000 (by_default 100)
    ∷ named groups.Ocean (codes "dt_ocean") holds.Numbers 1 1 2_678_400 None
    ∷ named groups.Ocean (codes "slope") holds.Numbers 1 0 40 (by_default 8)
    ∷ named groups.Ocean (codes "mix") holds.Numbers 1 2 40 (by_default 6)
    ∷ []

-- this is the name in the group, case aside
abbrev pub is_entry : Group → List ℕ → Group → List ℕ → Bool
is_entry wanted word group name = is_same_group group wanted && same_word name word

-- the place of this name in the group, case aside
unfoldable pub name_in_group : Group → List ℕ → Option ℕ
name_in_group wanted word = position (λ entry. is_entry wanted word entry.group entry.name) format

-- a row that holds nothing, past the last name
abbrev pub no_row : Row
no_row = record { holds = holds.Numbers; count = 0; low = 0; high = 0; default = None }

-- what the name at this place holds
unfoldable pub row_at : ℕ → Row
row_at place = slice_index_or (map (λ entry. entry.row) format) place no_row

-- each name stands at the place by which the source calls it
pub record TableAgrees : Type 0 where
  pub current_date : name_in_group groups.Coupler (codes "current_date") ≡ Some places.CURRENT_DATE
  pub calendar : name_in_group groups.Coupler (codes "calendar") ≡ Some places.CALENDAR
  pub days : name_in_group groups.Coupler (codes "days") ≡ Some places.DAYS
  pub hours : name_in_group groups.Coupler (codes "hours") ≡ Some places.HOURS
  pub minutes : name_in_group groups.Coupler (codes "minutes") ≡ Some places.MINUTES
  pub seconds : name_in_group groups.Coupler (codes "seconds") ≡ Some places.SECONDS
  pub dt_atmos : name_in_group groups.Coupler (codes "dt_atmos") ≡ Some places.DT_ATMOS
  pub dt_cpld : name_in_group groups.Coupler (codes "dt_cpld") ≡ Some places.DT_CPLD
  pub concurrent : name_in_group groups.Coupler (codes "concurrent") ≡ Some places.CONCURRENT
  pub use_lag_fluxes : name_in_group groups.Coupler (codes "use_lag_fluxes") ≡ Some places.USE_LAG_FLUXES
  pub atmos_layout : name_in_group groups.Layout (codes "atmos_layout") ≡ Some places.ATMOS_LAYOUT
  pub land_layout : name_in_group groups.Layout (codes "land_layout") ≡ Some places.LAND_LAYOUT
  pub ice_layout : name_in_group groups.Layout (codes "ice_layout") ≡ Some places.ICE_LAYOUT
  pub ocean_layout : name_in_group groups.Layout (codes "ocean_layout") ≡ Some places.OCEAN_LAYOUT
  pub ca : name_in_group groups.Air (codes "ca") ≡ Some places.CA
  pub kh : name_in_group groups.Air (codes "kh") ≡ Some places.KH
  pub ke : name_in_group groups.Air (codes "ke") ≡ Some places.KE
  pub hs : name_in_group groups.Air (codes "hs") ≡ Some places.HS
  pub ko : name_in_group groups.Air (codes "ko") ≡ Some places.KO
  pub rc : name_in_group groups.Air (codes "rc") ≡ Some places.RC
  pub month : name_in_group groups.Air (codes "month") ≡ Some places.MONTH
  pub cl : name_in_group groups.Land (codes "cl") ≡ Some places.CL
  pub cap : name_in_group groups.Land (codes "cap") ≡ Some places.CAP
  pub land_albedo : name_in_group groups.Land (codes "albedo") ≡ Some places.LAND_ALBEDO
  pub h0 : name_in_group groups.Ice (codes "h0") ≡ Some places.H0
  pub bounds : name_in_group groups.Ice (codes "bounds") ≡ Some places.BOUNDS
  pub ice_albedo : name_in_group groups.Ice (codes "albedo") ≡ Some places.ICE_ALBEDO
  pub water_albedo : name_in_group groups.Ice (codes "water_albedo") ≡ Some places.WATER_ALBEDO
  pub dt_ocean : name_in_group groups.Ocean (codes "dt_ocean") ≡ Some places.DT_OCEAN
  pub slope : name_in_group groups.Ocean (codes "slope") ≡ Some places.SLOPE
  pub mix : name_in_group groups.Ocean (codes "mix") ≡ Some places.MIX
