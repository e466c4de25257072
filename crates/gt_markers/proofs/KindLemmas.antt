-- The kinds of options stand for their names.
use Rattle.std.proofs.Common.{◌≡◌, ◌∙◌, ℕ, Bool, true, false, List, [], ◌∷◌, ◌++◌, get_or, Option, Some, None, refl, sym, ap, inl, inr}
use Rattle.std.proofs.Math.Bool.{or-false}
use Rattle.std.specs.Prelude.{if◌then◌else◌, ◌==◌, ◌&&◌, ◌||◌, ◌⊎◌, map, find, option_map}
use Rattle.std.specs.List.{list_any}
use Rattle.std.specs.Option.{option_map_or}
use Rattle.std.specs.Str.{bytes_eq}
use Rattle.std.proofs.lemmas.Bool.Decides.{same_from_decides, Decides-eqb}
use Rattle.std.proofs.lemmas.List.Folds.{list_any-append}
use Rattle.std.proofs.lemmas.Slice.Eq.{bytes_eq-Decides}
use Rattle.gt_items.specs.declared.items.RawOption.{RawOption}
use Rattle.gt_drafts.specs.Options.{has_option}
use Rattle.gt_markers.specs.declared.kinds.OptionKind.{OptionKind}
use Rattle.gt_markers.specs.declared.kinds.OptionKind.TheVariants.{Skip, Length, Desc, Tag, Default, Cache, Deletable, MaybeUndef, ChainNext, ChainPrev, ChainCircular, Atomic, StringLength, VariableSize, ForUser, Reorder}
use Rattle.gt_markers.specs.declared.kind_sets.Kinds.{Kinds}
use Rattle.gt_markers.specs.Options.{kind_of, known_options}
use Rattle.gt_markers.specs.Sites.{stands_among}
use Rattle.gt_markers.specs.KindSets.{all_kinds, place_of, has_kind, is_of, AreKindsOf}

-- ---- a known name is that of its kind

abbrev name_at : ℕ → List ℕ
name_at place = get_or (map (λ known. known.0) known_options) place []

abbrev AreNamed : List (List ℕ × OptionKind) → Type 0
AreNamed [] = Unit
AreNamed (known ∷ others) = (known.0 ≡ name_at (place_of known.1)) × AreNamed others

known_AreNamed : AreNamed known_options
known_AreNamed = (refl, (refl, (refl, (refl, (refl, (refl, (refl, (refl, (refl, (refl, (refl, (refl, (refl, (refl, (refl, (refl, tt))))))))))))))))

none_is_not : (a : OptionKind) → None ≡ Some a → ⊥
none_is_not a h = cc h

false_is_not : {P : Type 0} → false ≡ true → P
false_is_not h = absurd (cc h)

found : (kind : OptionKind) (known : List ℕ × OptionKind) (rest : Option (List ℕ × OptionKind)) (b : Bool)
    → option_map (λ k. k.1) (if b then Some known else rest) ≡ Some kind → ((b ≡ true) × (known.1 ≡ kind)) ⊎ (option_map (λ k. k.1) rest ≡ Some kind)
found kind known rest true h = inl (refl, cc h)
found kind known rest false h = inr h

find_named :
    (word : List ℕ) (kind : OptionKind) (known : List (List ℕ × OptionKind)) → AreNamed known
    → option_map (λ k. k.1) (find (λ k. bytes_eq word k.0) known) ≡ Some kind → word ≡ name_at (place_of kind)
find_named word kind [] named h = absurd (none_is_not kind h)
find_named word kind (k ∷ known) named h =
    elim (found kind k (find (λ k. bytes_eq word k.0) known) (bytes_eq word k.0) h) [
      | inl (e, same) ↦ (bytes_eq-Decides word k.0).0 e ∙ named.0 ∙ ap (λ (x : OptionKind). name_at (place_of x)) same
      | inr rest ↦ find_named word kind known named.1 rest
    ]

kind_named : (word : List ℕ) (kind : OptionKind) → kind_of word ≡ Some kind → word ≡ name_at (place_of kind)
kind_named word kind h = find_named word kind known_options known_AreNamed h

some_is : (a b : OptionKind) → Some a ≡ Some b → a ≡ b
some_is a b h = cc h

-- a name is of a kind where it is the word of that kind
of_word : (word name : List ℕ) (kind : OptionKind) (known : Option OptionKind) → kind_of name ≡ known → kind_of word ≡ Some kind
    → option_map_or (λ other. place_of other == place_of kind) known false ≡ bytes_eq name word
of_word word name kind None e h =
    same_from_decides {P = name ≡ word} _ _ (false_is_not, λ same. absurd (none_is_not kind (sym e ∙ ap kind_of same ∙ h))) (bytes_eq-Decides name word)
of_word word name kind (Some other) e h =
    let places = Decides-eqb (place_of other) (place_of kind) in
    same_from_decides {P = name ≡ word} _ _ (
      λ same. kind_named name other e ∙ ap name_at (places.0 same) ∙ sym (kind_named word kind h),
      λ same. places.1 (ap place_of (some_is other kind (sym e ∙ ap kind_of same ∙ h))),
    )
    (bytes_eq-Decides name word)

-- an option of a kind stands among some where one of its word does
any_of_word : (word : List ℕ) (kind : OptionKind) → kind_of word ≡ Some kind → (options : List RawOption)
    → list_any (is_of kind) options ≡ list_any (λ o. bytes_eq o.name.word word) options
any_of_word word kind h [] = refl
any_of_word word kind h (o ∷ options) =
    ap (λ (b : Bool). b || list_any (is_of kind) options) (of_word word o.name.word kind (kind_of o.name.word) refl h)
    ∙ ap (λ (b : Bool). bytes_eq o.name.word word || b) (any_of_word word kind h options)

-- so it is in the set of their kinds
pub has_word : (word : List ℕ) (kind : OptionKind) → kind_of word ≡ Some kind → (options : List RawOption) (kinds : Kinds) → AreKindsOf options kinds
    → has_kind kinds kind ≡ has_option word options
has_word word kind h options kinds are = are kind ∙ any_of_word word kind h options

-- an option of a kind stands among some where its kind is in their set
pub stands_by_kind : (o : RawOption) (kind : OptionKind) → kind_of o.name.word ≡ Some kind → (options : List RawOption) (kinds : Kinds) → AreKindsOf options kinds
    → has_kind kinds kind ≡ stands_among options o
stands_by_kind o kind h options kinds are = are kind ∙ any_of_word o.name.word kind h options

-- ---- one more option

last_of : (kind : OptionKind) (o : RawOption) (known : Option OptionKind) → kind_of o.name.word ≡ known
    → option_map_or (λ other. place_of other == place_of kind) known false ≡ list_any (is_of kind) (o ∷ [])
last_of kind o known h =
    ap (λ (k : Option OptionKind). option_map_or (λ other. place_of other == place_of kind) k false) (sym h) ∙ sym (or-false (is_of kind o))

pub with_known : (options : List RawOption) (o : RawOption) (before after : Kinds) (kind : OptionKind) → kind_of o.name.word ≡ Some kind
    → ((other : OptionKind) → has_kind after other ≡ (has_kind before other || (place_of kind == place_of other))) → AreKindsOf options before → AreKindsOf (options ++ o ∷ []) after
with_known options o before after kind h added are =
    λ other.
    added other ∙ ap (λ (b : Bool). b || (place_of kind == place_of other)) (are other)
    ∙ ap (λ (b : Bool). list_any (is_of other) options || b) (last_of other o (Some kind) h) ∙ sym (list_any-append (is_of other) options (o ∷ []))

pub with_unknown : (options : List RawOption) (o : RawOption) (kinds : Kinds) → kind_of o.name.word ≡ None → AreKindsOf options kinds → AreKindsOf (options ++ o ∷ []) kinds
with_unknown options o kinds h are =
    λ other.
    are other ∙ sym (or-false (list_any (is_of other) options)) ∙ ap (λ (b : Bool). list_any (is_of other) options || b) (last_of other o None h)
    ∙ sym (list_any-append (is_of other) options (o ∷ []))

-- ---- tests of kinds

any_kind : (p : OptionKind → Bool) (kind : OptionKind) → list_any (λ other. (place_of kind == place_of other) && p other) all_kinds ≡ p kind
any_kind p Skip = or-false (p Skip)
any_kind p Length = or-false (p Length)
any_kind p Desc = or-false (p Desc)
any_kind p Tag = or-false (p Tag)
any_kind p Default = or-false (p Default)
any_kind p Cache = or-false (p Cache)
any_kind p Deletable = or-false (p Deletable)
any_kind p MaybeUndef = or-false (p MaybeUndef)
any_kind p ChainNext = or-false (p ChainNext)
any_kind p ChainPrev = or-false (p ChainPrev)
any_kind p ChainCircular = or-false (p ChainCircular)
any_kind p Atomic = or-false (p Atomic)
any_kind p StringLength = or-false (p StringLength)
any_kind p VariableSize = or-false (p VariableSize)
any_kind p ForUser = or-false (p ForUser)
any_kind p Reorder = or-false (p Reorder)

any_known : (p : OptionKind → Bool) (known : Option OptionKind)
    → list_any (λ kind. option_map_or (λ other. place_of other == place_of kind) known false && p kind) all_kinds ≡ option_map_or p known false
any_known p None = refl
any_known p (Some kind) = any_kind p kind

and_over_or : (a b c : Bool) → ((a || b) && c) ≡ ((a && c) || (b && c))
and_over_or true true true = refl
and_over_or true true false = refl
and_over_or true false true = refl
and_over_or true false false = refl
and_over_or false b c = refl

or_in_pairs : (a b c d : Bool) → ((a || b) || (c || d)) ≡ ((a || c) || (b || d))
or_in_pairs true b c d = refl
or_in_pairs false true true d = refl
or_in_pairs false true false d = refl
or_in_pairs false false c d = refl

any_alike : {X : Type 0} (f g : X → Bool) → ((x : X) → f x ≡ g x) → (xs : List X) → list_any f xs ≡ list_any g xs
any_alike f g same [] = refl
any_alike f g same (x ∷ xs) = ap (λ (b : Bool). b || list_any f xs) (same x) ∙ ap (λ (b : Bool). g x || b) (any_alike f g same xs)

any_either : {X : Type 0} (f g : X → Bool) (xs : List X) → list_any (λ x. f x || g x) xs ≡ (list_any f xs || list_any g xs)
any_either f g [] = refl
any_either f g (x ∷ xs) = ap (λ (b : Bool). (f x || g x) || b) (any_either f g xs) ∙ or_in_pairs (f x) (g x) (list_any f xs) (list_any g xs)

any_among : (p : OptionKind → Bool) (options : List RawOption)
    → list_any (λ kind. list_any (is_of kind) options && p kind) all_kinds ≡ list_any (λ o. option_map_or p (kind_of o.name.word) false) options
any_among p [] = refl
any_among p (o ∷ options) =
    any_alike (λ kind. (is_of kind o || list_any (is_of kind) options) && p kind) (λ kind. (is_of kind o && p kind) || (list_any (is_of kind) options && p kind))
    (λ kind. and_over_or (is_of kind o) (list_any (is_of kind) options) (p kind)) all_kinds
    ∙ any_either (λ kind. is_of kind o && p kind) (λ kind. list_any (is_of kind) options && p kind) all_kinds
    ∙ ap (λ (b : Bool). b || list_any (λ kind. list_any (is_of kind) options && p kind) all_kinds) (any_known p (kind_of o.name.word))
    ∙ ap (λ (b : Bool). option_map_or p (kind_of o.name.word) false || b) (any_among p options)

-- a test of the kinds in a set is one of the options
pub any_in : (p : OptionKind → Bool) (options : List RawOption) (kinds : Kinds) → AreKindsOf options kinds
    → list_any (λ kind. has_kind kinds kind && p kind) all_kinds ≡ list_any (λ o. option_map_or p (kind_of o.name.word) false) options
any_in p options kinds are =
    any_alike (λ kind. has_kind kinds kind && p kind) (λ kind. list_any (is_of kind) options && p kind)
    (λ kind. ap (λ (b : Bool). b && p kind) (are kind)) all_kinds
    ∙ any_among p options
