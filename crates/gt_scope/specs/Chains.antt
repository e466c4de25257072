-- Typedefs by their places: each leads to another or to an end, and has the meaning of what it leads to, after its stars.
use Rattle.std.specs.Prelude.{◌≡◌, ℕ, zero, suc, ◌⊎◌, List, [], ◌∷◌, length, Option, Some, None, option_map, position, slice_get}
use Rattle.std.specs.Str.{bytes_eq}
use Rattle.gt_items.specs.declared.items.Stars.{Stars}
use Rattle.gt_items.specs.declared.items.Stars.TheVariants.{Zero}
use Rattle.gt_scope.specs.declared.types.Spelled.{Spelled}
use Rattle.gt_scope.specs.declared.types.Spelled.TheVariants as spelled
use Rattle.gt_drafts.specs.declared.types.BaseType.{BaseType}
use Rattle.gt_drafts.specs.declared.types.BaseType.TheVariants.{Number, Float, Double, Sizeless}
use Rattle.gt_drafts.specs.declared.types.Resolved.{Resolved}
use Rattle.gt_scope.specs.declared.declaration.What.{What}
use Rattle.gt_scope.specs.declared.kinds.Kind.{Kind}
use Rattle.gt_scope.specs.declared.kinds.Meant.{Meant}
use Rattle.gt_scope.specs.declared.link.Link.{Link}
use Rattle.gt_scope.specs.declared.link.Target.{Target}
use Rattle.gt_scope.specs.declared.link.Target.TheVariants.{End, Next}
use Rattle.gt_names.specs.declared.tables.Entry.{Entry}
use Rattle.gt_scope.specs.declared.declaration.Declaration.{Declaration}
use Rattle.gt_scope.specs.Kinds.{IsOfKind, meant_after, unkept}
use Rattle.gt_scope.specs.Meanings.{tagged_type, type_of_tag, plain_type}
use Rattle.gt_names.specs.Entries.{value_in}

-- a type, where a name is no typedef, by what tags define
unfoldable pub plain_by : List (Entry What) → Spelled → BaseType
plain_by tags (spelled.Number scalar is_char) = Number scalar is_char
plain_by tags spelled.Float = Float
plain_by tags spelled.Double = Double
plain_by tags spelled.Sizeless = Sizeless
plain_by tags (spelled.Tagged keyword tag) = tagged_type keyword tag (value_in tags tag)
plain_by tags (spelled.Named word) = type_of_tag (value_in tags word)

-- the place of the typedef whose name the type is
abbrev pub typedef_place : List (Entry (Spelled × Stars)) → Spelled → Option ℕ
typedef_place typedefs (spelled.Named word) = position (λ e. bytes_eq e.name word) typedefs
typedef_place typedefs ty = None

-- what a typedef of this type leads to: another typedef, or else an end
abbrev pub IsTarget : List (Entry What) → List (Entry (Spelled × Stars)) → (tags : List (List ℕ)) → Spelled → Target → Type 0
IsTarget defined typedefs tags ty (Next place) = typedef_place typedefs ty ≡ Some place
IsTarget defined typedefs tags ty (End kind) = (typedef_place typedefs ty ≡ None) × IsOfKind tags kind (plain_by defined ty)

-- what a target means, by the meanings of the typedefs at places
abbrev pub follow_target : (ℕ → Option Meant) → Target → Option Meant
follow_target deeper (End kind) = Some (record { kind = kind; stars = Zero })
follow_target deeper (Next place) = deeper place

-- what a typedef means, by the meanings of the typedefs at places
abbrev pub follow_link : (ℕ → Option Meant) → Option Link → Option Meant
follow_link deeper None = None
follow_link deeper (Some link) = option_map (meant_after link.stars) (follow_target deeper link.to)

-- the meaning of the typedef at a place that is found within so many steps
unfoldable pub follow_links : List Link → ℕ → ℕ → Option Meant
follow_links links zero place = None
follow_links links (suc steps) place = follow_link (follow_links links steps) (slice_get links place)

-- the meaning of what a typedef leads to: what following it comes to, and opaque where it comes to no end
abbrev pub IsTargetMeaning : List Link → Target → Meant → Type 0
IsTargetMeaning links to m =
    ((steps : ℕ) × (follow_target (follow_links links steps) to ≡ Some m)) ⊎ (((steps : ℕ) → follow_target (follow_links links steps) to ≡ None) × (m ≡ unkept))

-- the meaning of the typedef at a place
abbrev pub IsMeaningAt : List Link → ℕ → Meant → Type 0
IsMeaningAt links place m = IsTargetMeaning links (Next place) m

-- a place is one of these
abbrev pub IsOneOf : List ℕ → ℕ → Type 0
IsOneOf [] i = ⊥
IsOneOf (p ∷ ps) i = (i ≡ p) ⊎ IsOneOf ps i

-- the typedef at a place leads to this
pub record LeadsTo (links : List Link) (place : ℕ) (to : Target) : Type 0 where
  pub link : Link
  pub found : slice_get links place ≡ Some link
  pub leads : link.to ≡ to

-- a way from one typedef to what the last on it leads to; the last comes first
abbrev pub IsWay : List Link → ℕ → List ℕ → Target → Type 0
IsWay links start [] to = to ≡ Next start
IsWay links start (p ∷ ps) to = LeadsTo links p to × IsWay links start ps (Next p)

-- the meanings that are known of typedefs are theirs
pub record IsMemo (links : List Link) (memo : List (Option Meant)) : Type 0 where
  pub counted : length memo ≡ length links
  pub known : (i : ℕ) (m : Meant) → slice_get memo i ≡ Some (Some m) → IsTargetMeaning links (Next i) m

-- the same while a way is walked, where those on the way count as opaque
pub record IsWalk (links : List Link) (start : ℕ) (way : List ℕ) (memo : List (Option Meant)) (to : Target) : Type 0 where
  pub counted : length memo ≡ length links
  pub is_way : IsWay links start way to
  pub known : (i : ℕ) (m : Meant) → slice_get memo i ≡ Some (Some m) → IsTargetMeaning links (Next i) m ⊎ (IsOneOf way i × (m ≡ unkept))

-- a way was walked to something of this meaning
pub record IsWalked (links : List Link) (start : ℕ) (way : List ℕ) (memo : List (Option Meant)) (m : Meant) : Type 0 where
  pub to : Target
  pub walk : IsWalk links start way memo to
  pub means : IsTargetMeaning links to m

-- each typedef, by its place, has its meaning
pub record AreMeanings (links : List Link) (meant : List Meant) : Type 0 where
  pub counted : length meant ≡ length links
  pub each : (i : ℕ) (m : Meant) → slice_get meant i ≡ Some m → IsMeaningAt links i m

-- ---- types

-- a type after stars, where a name is no typedef
abbrev pub plain_after : List Declaration → Spelled → Stars → Resolved
plain_after ds ty stars = record { base = plain_type ds ty; stars = stars }
