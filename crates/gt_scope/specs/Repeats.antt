-- Typedefs of one item have one type, which is looked up once.
use Rattle.std.specs.Prelude.{◌≡◌, ℕ, Bool, true, List, [], ◌∷◌, length, take, Option, Some, None, slice_get}
use Rattle.std.specs.Option.{option_or}
use Rattle.gt_items.specs.declared.items.Stars.{Stars}
use Rattle.gt_drafts.specs.declared.types.Resolved.{Resolved}
use Rattle.gt_names.specs.declared.tables.Entry.{Entry}
use Rattle.gt_scope.specs.declared.types.Spelled.{Spelled}
use Rattle.gt_scope.specs.declared.declaration.Declaration.{Declaration}
use Rattle.gt_scope.specs.declared.declaration.What.{What}
use Rattle.gt_scope.specs.declared.declaration.What.TheVariants as what
use Rattle.gt_scope.specs.declared.kinds.Meant.{Meant}
use Rattle.gt_scope.specs.declared.link.Link.{Link}
use Rattle.gt_scope.specs.declared.link.Target.{Target}
use Rattle.gt_scope.specs.declared.meaning.TypedefMeaning.{TypedefMeaning}
use Rattle.gt_scope.specs.Chains.{IsTarget}
use Rattle.gt_scope.specs.Kinds.{IsMeant}
use Rattle.gt_scope.specs.Meanings.{as_typedef, AreTypeNames}

-- the type of a typedef
abbrev pub type_of : What → Option Spelled
type_of (what.Typedef ty stars) = Some ty
type_of w = None

-- the type of the last typedef
abbrev pub last_type : List Declaration → Option Spelled
last_type [] = None
last_type (d ∷ ds) = option_or (last_type ds) (type_of d.what)

-- a declaration that is marked is a typedef of the type of the typedef before it
pub record AreRepeats (ds : List Declaration) (repeated : List Bool) : Type 0 where
  pub counted : length repeated ≡ length ds
  pub each : (i : ℕ) (d : Declaration) → slice_get ds i ≡ Some d → slice_get repeated i ≡ Some true → type_of d.what ≡ last_type (take i ds)

-- what each declaration leads to, where it is a typedef
pub record AreTargets (defined : List (Entry What)) (typedefs : List (Entry (Spelled × Stars))) (tags : List (List ℕ)) (ds : List Declaration) (targets : List Target) : Type 0 where
  pub counted : length targets ≡ length ds
  pub each : (i : ℕ) (d : Declaration) (ty : Spelled) (to : Target) → slice_get ds i ≡ Some d → type_of d.what ≡ Some ty → slice_get targets i ≡ Some to
      → IsTarget defined typedefs tags ty to

-- the first typedef of each name stands at its place among the declarations
pub record IsFirst (ds : List Declaration) (typedef : Spelled × Stars) (place : ℕ) : Type 0 where
  pub declaration : Declaration
  pub found : slice_get ds place ≡ Some declaration
  pub is : as_typedef declaration.what ≡ Some typedef

pub record AreFirsts (ds : List Declaration) (typedefs : List (Entry (Spelled × Stars))) (firsts : List ℕ) : Type 0 where
  pub counted : length firsts ≡ length typedefs
  pub each : (i : ℕ) (e : Entry (Spelled × Stars)) (place : ℕ) → slice_get typedefs i ≡ Some e → slice_get firsts i ≡ Some place → IsFirst ds e.value place

-- each typedef, by its place, has its stars and leads to its target
pub record AreLinks (defined : List (Entry What)) (typedefs : List (Entry (Spelled × Stars))) (tags : List (List ℕ)) (links : List Link) : Type 0 where
  pub counted : length links ≡ length typedefs
  pub each : (i : ℕ) (e : Entry (Spelled × Stars)) (link : Link) → slice_get typedefs i ≡ Some e → slice_get links i ≡ Some link
      → (link.stars ≡ e.value.1) × IsTarget defined typedefs tags e.value.0 link.to

-- each name has the type that has its meaning
pub record AreNamed (tags : List (List ℕ)) (meant : List Meant) (types : List TypedefMeaning) : Type 0 where
  pub each : (i : ℕ) (t : TypedefMeaning) (m : Meant) (r : Resolved) → slice_get types i ≡ Some t → slice_get meant i ≡ Some m → IsMeant tags m r → t.means ≡ r

-- the types of names have their meanings
pub record HaveMeanings (tags : List (List ℕ)) (meant : List Meant) (types : List TypedefMeaning) : Type 0 where
  pub counted : length meant ≡ length types
  pub each : (i : ℕ) (t : TypedefMeaning) (m : Meant) → slice_get types i ≡ Some t → slice_get meant i ≡ Some m → IsMeant tags m t.means

-- names of typedefs have the types that they mean, by numbers and by names
pub record AreAllMeant (ds : List Declaration) (tags : List (List ℕ)) (meant : List Meant) (types : List TypedefMeaning) : Type 0 where
  pub names : AreTypeNames ds types
  pub have : HaveMeanings tags meant types
