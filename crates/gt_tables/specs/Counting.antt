-- No promise: what the proofs of how many walks of parts there are speak of.
use Rattle.std.specs.Prelude.{◌≡◌, ◌≢◌, ◌≤◌, ◌<◌, ◌⊎◌, ℕ, ◌+◌, List, ◌++◌, Option, Some, None, length, flat_map, option_map, slice_get, All, AllPairs, Contains}
use Rattle.std.specs.BTreeMap.{BTreeMap, get}
use Rattle.gt_types.specs.declared.expressions.Expr.{Expr}
use Rattle.gt_types.specs.declared.types.TypeId.{TypeId}
use Rattle.gt_types.specs.declared.program.Program.{Program}
use Rattle.gt_layout.specs.Progress.{IsWithinDepth}
use Rattle.gt_walk.specs.declared.rows.WalkRow.{WalkRow}
use Rattle.gt_walk.specs.Nested.{parts_in}
use Rattle.gt_alike.specs.Alike.{AreAlike}
use Rattle.gt_tables.specs.declared.sources.Around.{Around}
use Rattle.gt_tables.specs.declared.sources.Site.{Site}
use Rattle.gt_tables.specs.declared.sources.Part.{Part}
use Rattle.gt_tables.specs.declared.sources.Source.{Source}
use Rattle.gt_tables.specs.declared.parts.Case.{Case}
use Rattle.gt_tables.specs.declared.parts.Parts.{Parts}
use Rattle.gt_tables.specs.Building.{part_cmp, case_cmp, first_of, around_of, IsFiled, ServesPart}
use Rattle.gt_tables.specs.Sharing.{Site as SharedSite, Part as SharedPart, PartWalk, IsPart, LiesIn}

-- a part was looked at
abbrev pub IsKnown : Parts → Part → Type 0
IsKnown parts q = (walk : Option ℕ) × (get part_cmp parts.known q ≡ Some walk)

-- what was looked at stays so, and this part was looked at
pub record Stays (part : Option Part) (old new : Parts) : Type 0 where
  pub kept : (q : Part) → IsKnown old q → IsKnown new q
  pub now : (q : Part) → part ≡ Some q → IsKnown new q

-- ---- a part as the code holds it, and as it is told

abbrev pub told_site : Site → SharedSite
told_site site = record { container = record { 0 = site.container }; field = site.field }

abbrev pub told : Part → SharedPart
told p = record { node = record { 0 = p.node }; site = option_map told_site p.site; outermost = p.outermost }

abbrev pub held_site : SharedSite → Site
held_site site = record { container = site.container.0; field = site.field }

abbrev pub held : SharedPart → Part
held p = record { node = p.node.0; site = option_map held_site p.site; outermost = p.outermost }

-- ---- how many walks there are

-- a walk is that of a part where it lies
abbrev pub ServesPlace : Source → List (List WalkRow) → SharedPart → ℕ → Type 0
ServesPlace source walks part walk = (around : Around) × (desc : Option Expr) × LiesIn source.program.now part (around_of around) desc × ServesPart source walks around part.node desc (Some walk)

-- ---- which walks rows name

-- the walks of parts that the rows of walks name
abbrev pub named_by : List (List WalkRow) → List ℕ
named_by walks = flat_map (λ rows. flat_map parts_in rows) walks

-- the walk at a place was made for a part
abbrev pub IsKept : BTreeMap Case ℕ → ℕ → Type 0
IsKept cases place = (case : Case) × (get case_cmp cases case ≡ Some place)

-- a walk was made for a part
abbrev pub IsKeptWalk : Source → BTreeMap Case ℕ → ℕ → Type 0
IsKeptWalk source cases walk = (place : ℕ) × (walk ≡ first_of source + place) × IsKept cases place

-- the walk at a place is that of a structure by value
abbrev pub ServesValue : Source → List (List WalkRow) → ℕ → Type 0
ServesValue source walks place = (around : Around) × (node : TypeId) × (desc : Option Expr) × ServesPart source walks around node desc (Some (first_of source + place))

-- Walks that were made for parts are found by their rows, and no two have the same. What is known of parts and what rows name, those of walks and those in hand, are such walks; and each
-- walk is one of these of roots, or rows name it.
pub record AreApart (source : Source) (walks : List (List WalkRow)) (cases : BTreeMap Case ℕ) (kept : BTreeMap Part (Option ℕ)) (own hand : List ℕ) : Type 0 where
  pub filed : (place : ℕ) → IsKept cases place → IsFiled walks cases place
  pub serve : (place : ℕ) → IsKept cases place → ServesValue source walks place
  pub apart : (i j : ℕ) (a b : List WalkRow) → i < j → IsKept cases i → IsKept cases j → slice_get walks i ≡ Some a → slice_get walks j ≡ Some b → ¬ AreAlike a b
  pub known : (part : Part) (walk : ℕ) → get part_cmp kept part ≡ Some (Some walk) → IsKeptWalk source cases walk
  pub named : (walk : ℕ) → Contains (named_by walks ++ hand) walk → IsKeptWalk source cases walk
  pub used : (place : ℕ) → place < length walks → Contains own (first_of source + place) ⊎ Contains (named_by walks ++ hand) (first_of source + place)

-- Besides so many walks there is at most one for each of some parts, which were looked at. Walks of parts have other rows, and rows name each walk, in hand too, or it is one of these of roots.
pub record Counted (source : Source) (parts : Parts) (besides : ℕ) (own hand : List ℕ) : Type 0 where
  pub list : List PartWalk
  pub each : All (λ p. IsPart source.program.now p.part) list
  pub serve : All (λ p. ServesPlace source parts.walks.items p.part p.walk) list
  pub distinct : AllPairs (λ p q. p.part ≢ q.part) list
  pub known : All (λ p. IsKnown parts (held p.part)) list
  pub few : length parts.walks.items ≤ length list + besides
  pub apart : AreApart source parts.walks.items parts.cases parts.known own hand

-- as many walks may be no part's as before, the same are roots' own, and in hand are those that rows name now
abbrev pub StaysCounted : Source → List ℕ → Parts → Parts → Type 0
StaysCounted source named old new = (besides : ℕ) (own hand : List ℕ) → Counted source old besides own hand → Counted source new besides own (hand ++ named)

-- where structures stand so deep, they stand less deep inside this one
abbrev pub IsDeeper : Program → (ℕ → Type 0) → ℕ → Type 0
IsDeeper program deep node = (depth : ℕ) → deep depth → (less : ℕ) × (less < depth) × IsWithinDepth program node less

-- what is in a root may have one walk that is no part's
abbrev pub with_site : Option Site → ℕ → ℕ
with_site (Some site) besides = besides
with_site None besides = besides + 1

-- Walks are added only for parts, which lie deeper, and for what is in a root; where rows named walks before, they name these now.
pub record Counts (source : Source) (deep : ℕ → Type 0) (more : ℕ → ℕ) (before after : List ℕ) (old new : Parts) : Type 0 where
  pub counted : (besides : ℕ) (own hand : List ℕ) → Counted source old besides own (hand ++ before) → Counted source new (more besides) own (hand ++ after)
  pub fresh : (q : Part) → IsKnown new q → IsKnown old q ⊎ IsDeeper source.program.now deep q.node
