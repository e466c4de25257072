-- A structure that a type names is declared: tags, typedefs that are followed, and types.
use Rattle.std.proofs.Common.{ℕ, zero, suc, Bool, true, false, List, [], ◌∷◌, length, Option, Some, None, sym, subst, inl, inr, if◌then◌else◌, option_map}
use Rattle.std.specs.Prelude.{All, IfSome, find, is_some}
use Rattle.std.specs.Option.{option_map_or}
use Rattle.std.specs.Str.{bytes_eq}
use Rattle.std.proofs.lemmas.List.Elements.{All-head, All-tail, All-weaker}
use Rattle.gt_items.specs.declared.items.Keyword.{Keyword}
use Rattle.gt_items.specs.declared.items.Stars.{Stars}
use Rattle.gt_items.specs.declared.items.Stars.TheVariants.{Zero, One, Two, More}
use Rattle.gt_scope.specs.declared.types.Spelled.{Spelled}
use Rattle.gt_scope.specs.declared.types.Spelled.TheVariants as spelled
use Rattle.gt_drafts.specs.declared.types.BaseType.{BaseType}
use Rattle.gt_drafts.specs.declared.types.BaseType.TheVariants.{Undefined}
use Rattle.gt_drafts.specs.declared.types.Resolved.{Resolved}
use Rattle.gt_scope.specs.declared.meaning.TypedefMeaning.{TypedefMeaning}
use Rattle.gt_scope.specs.declared.declaration.Declaration.{Declaration}
use Rattle.gt_scope.specs.declared.declaration.What.{What}
use Rattle.gt_scope.specs.declared.declaration.What.TheVariants as what
use Rattle.gt_drafts.specs.declared.draft.Draft.{Draft}
use Rattle.gt_names.specs.Entries.{first_some}
use Rattle.gt_scope.specs.Meanings.{as_tag, tag_in, is_keyword_of, defined_type, tagged_type, type_of_tag, plain_type, typedef_in, is_transparent, opaque, transparent, following, means_after, follow_type, follow_typedef, follow, IsMeaning, AreTypeNames, meaning_in, with_stars, resolved_type}
use Rattle.gt_markers.specs.Sound.{NamesStructure}
use Rattle.gt_sound.proofs.Lists.{IfSome-if, IfSome-find, IfSome-at}
use Rattle.gt_sound.proofs.Names.{IsBelow}

module _ (draft : Draft) where
  abbrev IsHere : What → Type 0
  IsHere w = IsBelow (length draft.structures) w

  -- ---- tags

  first_of_two : {A : Type 0} (P : A → Type 0) (o u : Option A) → IfSome o P → IfSome u P → IfSome (first_some o u) P
  first_of_two P None u h k = k
  first_of_two P (Some a) u h k = h

  tag_here : (w : What) → IsHere w → IfSome (as_tag w) IsHere
  tag_here (what.Structure is_union id) h = h
  tag_here (what.Enum is_signed) h = tt
  tag_here (what.Constant value) h = tt
  tag_here (what.Typedef ty stars) h = tt
  tag_here what.Root h = tt
  tag_here what.Cache h = tt

  abbrev AreHere : List Declaration → Type 0
  AreHere ds = All (λ d. IsHere d.what) ds

  found_here : (ds : List Declaration) (word : List ℕ) → AreHere ds → IfSome (tag_in ds word) IsHere
  found_here [] word here = tt
  found_here (d ∷ ds) word here =
      first_of_two IsHere (if bytes_eq d.name.word word then as_tag d.what else None) (tag_in ds word)
      (IfSome-if IsHere (bytes_eq d.name.word word) (as_tag d.what) None (tag_here d.what (All-head (λ x. IsHere x.what) d ds here)) tt)
      (found_here ds word (All-tail (λ x. IsHere x.what) d ds here))

  defined_here : (w : What) → IsHere w → NamesStructure draft (defined_type w)
  defined_here (what.Structure is_union id) h = h
  defined_here (what.Enum is_signed) h = tt
  defined_here (what.Constant value) h = tt
  defined_here (what.Typedef ty stars) h = tt
  defined_here what.Root h = tt
  defined_here what.Cache h = tt

  either_here : (b : Bool) (x y : BaseType) → NamesStructure draft x → NamesStructure draft y → NamesStructure draft (if b then x else y)
  either_here true x y h k = h
  either_here false x y h k = k

  tagged_here : (k : Keyword) (tag : List ℕ) (found : Option What) → IfSome found IsHere → NamesStructure draft (tagged_type k tag found)
  tagged_here k tag None h = tt
  tagged_here k tag (Some w) h = either_here (is_keyword_of k w) (defined_type w) (Undefined k tag) (defined_here w h) tt

  named_here : (found : Option What) → IfSome found IsHere → NamesStructure draft (type_of_tag found)
  named_here None h = tt
  named_here (Some w) h = defined_here w h

  plain_here : (ds : List Declaration) (ty : Spelled) → AreHere ds → NamesStructure draft (plain_type ds ty)
  unfolding plain_type
  plain_here ds (spelled.Number scalar is_char) here = tt
  plain_here ds spelled.Float here = tt
  plain_here ds spelled.Double here = tt
  plain_here ds spelled.Sizeless here = tt
  plain_here ds (spelled.Tagged k tag) here = tagged_here k tag (tag_in ds tag) (found_here ds tag here)
  plain_here ds (spelled.Named word) here = named_here (tag_in ds word) (found_here ds word here)

  -- ---- typedefs

  abbrev pub Means : Resolved → Type 0
  Means m = NamesStructure draft m.base

  either_means : (b : Bool) (m n : Resolved) → Means m → Means n → Means (if b then m else n)
  either_means true m n h k = h
  either_means false m n h k = k

  transparent_means : (base : BaseType) (stars : Stars) → NamesStructure draft base → Means (transparent base stars)
  transparent_means base stars h = either_means (is_transparent base) (record { base = base; stars = stars }) opaque h tt

  after_means : (stars : Stars) (base : BaseType) (others : Stars) → NamesStructure draft base → Means (following stars base others)
  unfolding following
  after_means Zero base others h = transparent_means base others h
  after_means One base Zero h = transparent_means base One h
  after_means One base One h = tt
  after_means One base Two h = tt
  after_means One base More h = tt
  after_means Two base others h = tt
  after_means More base others h = tt

  mapped_means : (stars : Stars) (found : Option Resolved) → IfSome found Means → IfSome (option_map (means_after stars) found) Means
  mapped_means stars None h = tt
  mapped_means stars (Some m) h = after_means stars m.base m.stars h

  follow_type_means : (ds : List Declaration) (deeper : List ℕ → Option Resolved) (ty : Spelled) → AreHere ds → ((word : List ℕ) → IfSome (deeper word) Means)
      → IfSome (follow_type ds deeper ty) Means
  follow_type_means ds deeper (spelled.Number scalar is_char) here d = plain_here ds (spelled.Number scalar is_char) here
  follow_type_means ds deeper spelled.Float here d = plain_here ds spelled.Float here
  follow_type_means ds deeper spelled.Double here d = plain_here ds spelled.Double here
  follow_type_means ds deeper spelled.Sizeless here d = plain_here ds spelled.Sizeless here
  follow_type_means ds deeper (spelled.Tagged k tag) here d = plain_here ds (spelled.Tagged k tag) here
  follow_type_means ds deeper (spelled.Named word) here d =
      IfSome-if Means (is_some (typedef_in ds word)) (deeper word) (Some (record { base = plain_type ds (spelled.Named word); stars = Zero })) (d word)
      (plain_here ds (spelled.Named word) here)

  follow_typedef_means : (ds : List Declaration) (deeper : List ℕ → Option Resolved) (typedef : Option (Spelled × Stars)) → AreHere ds → ((word : List ℕ) → IfSome (deeper word) Means)
      → IfSome (follow_typedef ds deeper typedef) Means
  follow_typedef_means ds deeper None here d = tt
  follow_typedef_means ds deeper (Some typedef) here d = mapped_means typedef.1 (follow_type ds deeper typedef.0) (follow_type_means ds deeper typedef.0 here d)

  follow_means : (ds : List Declaration) (steps : ℕ) (word : List ℕ) → AreHere ds → IfSome (follow ds steps word) Means
  unfolding follow
  follow_means ds zero word here = tt
  follow_means ds (suc steps) word here = follow_typedef_means ds (follow ds steps) (typedef_in ds word) here (λ w. follow_means ds steps w here)

  meaning_means : (ds : List Declaration) (word : List ℕ) (m : Resolved) → AreHere ds → IsMeaning ds word m → Means m
  meaning_means ds word m here (inl found) = IfSome-at Means (follow ds found.0 word) m found.1 (follow_means ds found.0 word here)
  meaning_means ds word m here (inr none) = subst Means (sym none.1) tt

  abbrev pub TypesMean : List TypedefMeaning → Type 0
  TypesMean types = All (λ t. Means t.means) types

  pub types_mean : (ds : List Declaration) (types : List TypedefMeaning) → AreHere ds → AreTypeNames ds types → TypesMean types
  types_mean ds types here are = All-weaker (λ t. IsMeaning ds t.name t.means) (λ t. Means t.means) (λ t h. meaning_means ds t.name t.means here h) types are.meanings

  -- ---- types

  meaning_in_means : (types : List TypedefMeaning) (found : Option TypedefMeaning) → IfSome found (λ t. Means t.means) → IfSome (option_map (λ t. t.means) found) Means
  meaning_in_means types None h = tt
  meaning_in_means types (Some t) h = h

  starred_means : (found : Option Resolved) (stars : Stars) (other : Resolved) → IfSome found Means → Means other → Means (option_map_or (λ m. with_stars m stars) found other)
  starred_means None stars other h k = k
  starred_means (Some m) stars other h k = h

  pub resolved_means : (ds : List Declaration) (types : List TypedefMeaning) (ty : Spelled) (stars : Stars) → AreHere ds → TypesMean types → Means (resolved_type ds types ty stars)
  unfolding resolved_type
  resolved_means ds types (spelled.Number scalar is_char) stars here mean = plain_here ds (spelled.Number scalar is_char) here
  resolved_means ds types spelled.Float stars here mean = plain_here ds spelled.Float here
  resolved_means ds types spelled.Double stars here mean = plain_here ds spelled.Double here
  resolved_means ds types spelled.Sizeless stars here mean = plain_here ds spelled.Sizeless here
  resolved_means ds types (spelled.Tagged k tag) stars here mean = plain_here ds (spelled.Tagged k tag) here
  resolved_means ds types (spelled.Named word) stars here mean =
      starred_means (meaning_in types word) stars (record { base = plain_type ds (spelled.Named word); stars = stars })
      (meaning_in_means types (find (λ t. bytes_eq t.name word) types) (IfSome-find (λ t. Means t.means) (λ t. bytes_eq t.name word) types mean))
      (plain_here ds (spelled.Named word) here)
