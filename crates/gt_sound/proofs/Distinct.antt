-- Names are there once: tags of structures, and roots, caches and typedefs in one name space.
use Rattle.std.proofs.Common.{◌≡◌, ◌≢◌, ◌∙◌, ℕ, Bool, true, false, not, ◌&&◌, List, [], ◌∷◌, ◌++◌, map, Option, Some, None, refl, sym, subst, inl, inr, if◌then◌else◌}
use Rattle.std.specs.Prelude.{All, AllPairs, IfSome}
use Rattle.std.specs.Option.{option_map_or}
use Rattle.std.specs.List.{list_any, filter_map, cons_option}
use Rattle.std.specs.Str.{bytes_eq}
use Rattle.std.proofs.lemmas.Bool.{or_parts, and_cases, true≢false}
use Rattle.std.proofs.lemmas.List.Elements.{All-nil, All-cons, All-head, All-tail, All-append, All-weaker}
use Rattle.std.proofs.lemmas.List.Kept.{AllPairs-cons}
use Rattle.std.proofs.lemmas.Slice.Eq.{bytes_eq-Decides}
use Rattle.gt_types.specs.Names.{IsName}
use Rattle.gt_items.specs.declared.items.Stars.{Stars}
use Rattle.gt_items.specs.declared.items.Stars.TheVariants.{Zero, One}
use Rattle.gt_resolve.specs.declared.TheConstants.{REDEFINED}
use Rattle.gt_drafts.specs.declared.types.BaseType.{BaseType}
use Rattle.gt_drafts.specs.declared.types.BaseType.TheVariants as base
use Rattle.gt_scope.specs.declared.declaration.Declaration.{Declaration}
use Rattle.gt_scope.specs.declared.declaration.What.{What}
use Rattle.gt_scope.specs.declared.declaration.What.TheVariants.{Structure, Typedef, Root, Cache}
use Rattle.gt_scope.specs.declared.meaning.TypedefMeaning.{TypedefMeaning}
use Rattle.gt_drafts.specs.declared.draft.DraftWord.{DraftWord}
use Rattle.gt_drafts.specs.Sameness.{same_bool}
use Rattle.gt_resolve.specs.Faults.{is_tag, agree, clashes, redefinitions}
use Rattle.gt_drafts.specs.FirstFaults.{fault_if}
use Rattle.gt_scope.specs.Meanings.{as_typedef, typedef_names}
use Rattle.gt_names.specs.Lists.{with_name}
use Rattle.gt_resolve.specs.Drafts.{word_by, word_of}
use Rattle.gt_sound.proofs.Lists.{nil_front, nil_back, no_fault, AllPairs-nil, AllPairs-append, pairs_head, pairs_tail}
use Rattle.gt_sound.proofs.Names.{Kind, tags, roots, caches, is_of, name_if, picked, Words, HasWord}

-- ---- names and tests

pub unequal : (a b : List ℕ) → bytes_eq a b ≡ false → a ≢ b
unequal a b h e = true≢false (sym ((bytes_eq-Decides a b).1 e) ∙ h)

pub turned : (a b : List ℕ) → a ≢ b → b ≢ a
turned a b h e = h (sym e)

pub any_none : {X : Type 0} (p : X → Bool) (xs : List X) → list_any p xs ≡ false → All (λ x. p x ≡ false) xs
any_none p [] h = All-nil (λ x. p x ≡ false)
any_none p (x ∷ xs) h = let r = or_parts (p x) (list_any p xs) h in All-cons (λ y. p y ≡ false) x xs r.0 (any_none p xs r.1)

pub All-left : {X : Type 0} (P : X → Type 0) (xs ys : List X) → All P (xs ++ ys) → All P xs
All-left P [] ys h = All-nil P
All-left P (x ∷ xs) ys h = All-cons P x xs (All-head P x (xs ++ ys) h) (All-left P xs ys (All-tail P x (xs ++ ys) h))

pub All-last : {X : Type 0} (P : X → Type 0) (xs : List X) (y : X) → All P (xs ++ y ∷ []) → P y
All-last P [] y h = All-head P y [] h
All-last P (x ∷ xs) y h = All-last P xs y (All-tail P x (xs ++ y ∷ []) h)

differ : (x y z : Bool) → (x && y && z) ≡ false → y ≡ true → z ≡ true → x ≡ false
differ x y z h hy hz =
    elim (and_cases (x && y) z h) [
      | inl both ↦ elim (and_cases x y both) [
        | inl off ↦ off
        | inr bad ↦ absurd (true≢false (sym hy ∙ bad))
      ]
      | inr bad ↦ absurd (true≢false (sym hz ∙ bad))
    ]

-- ---- the tests

abbrev pub is_typedef : What → Bool
is_typedef (Typedef ty stars) = true
is_typedef w = false

abbrev pub is_kind : Kind → What → Bool
is_kind k w = is_of w k

only_structure : (P : What → Type 0) → ((is_union : Bool) (id : ℕ) → P (Structure is_union id)) → (w : What) → is_of w tags ≡ true → P w
only_structure P f (Structure is_union id) h = f is_union id
only_structure P f w h = absurd (true≢false (sym h))

only_root : (P : What → Type 0) → P Root → (w : What) → is_of w roots ≡ true → P w
only_root P f Root h = f
only_root P f w h = absurd (true≢false (sym h))

only_cache : (P : What → Type 0) → P Cache → (w : What) → is_of w caches ≡ true → P w
only_cache P f Cache h = f
only_cache P f w h = absurd (true≢false (sym h))

only_typedef : (P : What → Type 0) → ((ty : _) (stars : _) → P (Typedef ty stars)) → (w : What) → is_typedef w ≡ true → P w
only_typedef P f (Typedef ty stars) h = f ty stars
only_typedef P f w h = absurd (true≢false (sym h))

pub no_root_cache : (w : What) → is_of w roots ≡ true → is_of w caches ≡ true → ⊥
no_root_cache w hw = only_root (λ x. is_of x caches ≡ true → ⊥) (λ h. true≢false (sym h)) w hw

pub no_root_typedef : (w : What) → is_of w roots ≡ true → is_typedef w ≡ true → ⊥
no_root_typedef w hw = only_root (λ x. is_typedef x ≡ true → ⊥) (λ h. true≢false (sym h)) w hw

pub no_cache_typedef : (w : What) → is_of w caches ≡ true → is_typedef w ≡ true → ⊥
no_cache_typedef w hw = only_cache (λ x. is_typedef x ≡ true → ⊥) (λ h. true≢false (sym h)) w hw

-- ---- names of typedefs

kept_name : (P : List ℕ → Type 0) (b : Bool) (names : List (List ℕ)) (word : List ℕ) → P word → All P names → All P (if b then names else names ++ word ∷ [])
kept_name P true names word h all = all
kept_name P false names word h all = All-append P names (word ∷ []) all (All-cons P word [] h (All-nil P))

typedef_step : (P : List ℕ → Type 0) (w : What) (word : List ℕ) (names : List (List ℕ)) → (is_typedef w ≡ true → P word) → All P names
    → All P (option_map_or (λ typedef. with_name names word) (as_typedef w) names)
typedef_step P (Typedef ty stars) word names h all = kept_name P (list_any (λ name. bytes_eq name word) names) names word (h refl) all
typedef_step P w word names h all = all

pub All-typedef_names : (P : List ℕ → Type 0) (names : List (List ℕ)) (ds : List Declaration) → All P names → All (λ d. is_typedef d.what ≡ true → P d.name.word) ds → All P (typedef_names names ds)
unfolding typedef_names
All-typedef_names P names [] all h = all
All-typedef_names P names (d ∷ ds) all h =
    All-typedef_names P (option_map_or (λ typedef. with_name names d.name.word) (as_typedef d.what) names) ds
    (typedef_step P d.what d.name.word names (All-head (λ x. is_typedef x.what ≡ true → P x.name.word) d ds h) all) (All-tail (λ x. is_typedef x.what ≡ true → P x.name.word) d ds h)

distinct_name : (b : Bool) (names : List (List ℕ)) (word : List ℕ) → (b ≡ false → All (λ name. name ≢ word) names) → AllPairs ◌≢◌ names → AllPairs ◌≢◌ (if b then names else names ++ word ∷ [])
distinct_name true names word h pairs = pairs
distinct_name false names word h pairs =
    AllPairs-append ◌≢◌ names (word ∷ []) pairs (AllPairs-cons ◌≢◌ word [] (All-nil (λ y. word ≢ y)) (AllPairs-nil ◌≢◌))
    (All-weaker (λ name. name ≢ word) (λ x. All (λ y. x ≢ y) (word ∷ [])) (λ x ne. All-cons (λ y. x ≢ y) word [] ne (All-nil (λ y. x ≢ y))) names (h refl))

distinct_step : (w : What) (word : List ℕ) (names : List (List ℕ)) → AllPairs ◌≢◌ names → AllPairs ◌≢◌ (option_map_or (λ typedef. with_name names word) (as_typedef w) names)
distinct_step (Typedef ty stars) word names pairs =
    distinct_name (list_any (λ name. bytes_eq name word) names) names word
    (λ none. All-weaker (λ name. bytes_eq name word ≡ false) (λ name. name ≢ word) (λ name h. unequal name word h) names (any_none (λ name. bytes_eq name word) names none)) pairs
distinct_step w word names pairs = pairs

pub distinct_typedef_names : (names : List (List ℕ)) (ds : List Declaration) → AllPairs ◌≢◌ names → AllPairs ◌≢◌ (typedef_names names ds)
unfolding typedef_names
distinct_typedef_names names [] pairs = pairs
distinct_typedef_names names (d ∷ ds) pairs =
    distinct_typedef_names (option_map_or (λ typedef. with_name names d.name.word) (as_typedef d.what) names) ds (distinct_step d.what d.name.word names pairs)

word_of_typedef : (w : What) (word : List ℕ) → HasWord w word → is_typedef w ≡ true → IsName word
word_of_typedef (Typedef ty stars) word has h = has
word_of_typedef w word has h = absurd (true≢false (sym h))

pub typedefs_named : (ds : List Declaration) → All Words ds → All (λ d. is_typedef d.what ≡ true → IsName d.name.word) ds
typedefs_named ds words = All-weaker Words (λ d. is_typedef d.what ≡ true → IsName d.name.word) (λ d has h. word_of_typedef d.what d.name.word has h) ds words

-- ---- declarations that do not clash

module _ (all : List Declaration) (types : List TypedefMeaning) where
  -- a later declaration does not clash with an earlier one
  abbrev pub Apart : Declaration → Declaration → Type 0
  Apart earlier later = clashes all types later earlier ≡ false

  apart_pairs : (earlier ds : List Declaration) → redefinitions all types earlier ds ≡ [] → All (λ d. All (λ e. Apart e d) earlier) ds × AllPairs Apart ds
  unfolding redefinitions
  apart_pairs earlier [] none = (All-nil (λ d. All (λ e. Apart e d) earlier), AllPairs-nil Apart)
  apart_pairs earlier (d ∷ ds) none =
      let rest = redefinitions all types (earlier ++ d ∷ []) ds in
      let one = fault_if (list_any (λ other. clashes all types d other) earlier) REDEFINED d.file d.name.at in
      let here = any_none (λ other. clashes all types d other) earlier (no_fault (list_any (λ other. clashes all types d other) earlier) REDEFINED d.file d.name.at (nil_front one rest none)) in
      let more = apart_pairs (earlier ++ d ∷ []) ds (nil_back one rest none) in (
        All-cons (λ x. All (λ e. Apart e x) earlier) d ds here
            (All-weaker (λ x. All (λ e. Apart e x) (earlier ++ d ∷ [])) (λ x. All (λ e. Apart e x) earlier) (λ x h. All-left (λ e. Apart e x) earlier (d ∷ []) h) ds more.0),
        AllPairs-cons Apart d ds
            (All-weaker (λ x. All (λ e. Apart e x) (earlier ++ d ∷ [])) (λ x. Apart d x) (λ x h. All-last (λ e. Apart e x) earlier d h) ds more.0) more.1,
      )

  pub no_redefinition : redefinitions all types [] all ≡ [] → AllPairs Apart all
  no_redefinition none = (apart_pairs [] all none).1

  -- two declarations of these tests with one name clash
  abbrev pub Opposed : (What → Bool) → (What → Bool) → Type 0
  Opposed p q = (w v : What) → p w ≡ true → q v ≡ true → (same_bool (is_tag v) (is_tag w) ≡ true) × (not (agree all types v w) ≡ true)

  apart_names : (p q : What → Bool) (d e : Declaration) → Opposed p q → p d.what ≡ true → q e.what ≡ true → Apart d e → d.name.word ≢ e.name.word
  apart_names p q d e opposed hp hq apart =
      let o = opposed d.what e.what hp hq in
      turned e.name.word d.name.word
      (unequal e.name.word d.name.word (differ (bytes_eq e.name.word d.name.word) (same_bool (is_tag e.what) (is_tag d.what)) (not (agree all types e.what d.what)) apart o.0 o.1))

  All-named_if : (P : List ℕ → Type 0) (b : Bool) (word : List ℕ) (rest : List (List ℕ)) → (b ≡ true → P word) → All P rest → All P (name_if b word ++ rest)
  All-named_if P true word rest h all = All-cons P word rest (h refl) all
  All-named_if P false word rest h all = all

  pub All-picked : (P : List ℕ → Type 0) (q : What → Bool) (ds : List Declaration) → All (λ e. q e.what ≡ true → P e.name.word) ds → All P (picked q ds)
  All-picked P q [] h = All-nil P
  All-picked P q (d ∷ ds) h =
      All-named_if P (q d.what) d.name.word (picked q ds) (All-head (λ e. q e.what ≡ true → P e.name.word) d ds h)
      (All-picked P q ds (All-tail (λ e. q e.what ≡ true → P e.name.word) d ds h))

  of_named_if : (P : List ℕ → Type 0) (b : Bool) (word : List ℕ) (rest : List (List ℕ)) → All P (name_if b word ++ rest) → (b ≡ true → P word) × All P rest
  of_named_if P true word rest all = (λ h. All-head P word rest all, All-tail P word rest all)
  of_named_if P false word rest all = (λ h. absurd (true≢false (sym h)), all)

  pub All-of_picked : (P : List ℕ → Type 0) (q : What → Bool) (ds : List Declaration) → All P (picked q ds) → All (λ e. q e.what ≡ true → P e.name.word) ds
  All-of_picked P q [] h = All-nil (λ e. q e.what ≡ true → P e.name.word)
  All-of_picked P q (d ∷ ds) h =
      let r = of_named_if P (q d.what) d.name.word (picked q ds) h in
      All-cons (λ e. q e.what ≡ true → P e.name.word) d ds r.0 (All-of_picked P q ds r.1)

  -- the names of such a declaration and of later ones
  later_names : (p q : What → Bool) (d : Declaration) (ds : List Declaration) → Opposed p q → p d.what ≡ true → All (Apart d) ds → All (λ word. d.name.word ≢ word) (picked q ds)
  later_names p q d ds opposed hp apart =
      All-picked (λ word. d.name.word ≢ word) q ds (All-weaker (Apart d) (λ e. q e.what ≡ true → d.name.word ≢ e.name.word) (λ e a hq. apart_names p q d e opposed hp hq a) ds apart)

  pairs_if : (b : Bool) (word : List ℕ) (rest : List (List ℕ)) → (b ≡ true → All (λ other. word ≢ other) rest) → AllPairs ◌≢◌ rest → AllPairs ◌≢◌ (name_if b word ++ rest)
  pairs_if true word rest h pairs = AllPairs-cons ◌≢◌ word rest (h refl) pairs
  pairs_if false word rest h pairs = pairs

  pub distinct_picked : (p : What → Bool) (ds : List Declaration) → Opposed p p → AllPairs Apart ds → AllPairs ◌≢◌ (picked p ds)
  distinct_picked p [] opposed pairs = AllPairs-nil ◌≢◌
  distinct_picked p (d ∷ ds) opposed pairs =
      pairs_if (p d.what) d.name.word (picked p ds) (λ hp. later_names p p d ds opposed hp (pairs_head Apart d ds pairs)) (distinct_picked p ds opposed (pairs_tail Apart d ds pairs))

  abbrev pub Differ : List (List ℕ) → List (List ℕ) → Type 0
  Differ xs ys = All (λ x. All (λ y. x ≢ y) ys) xs

  differ_if : (b c : Bool) (word : List ℕ) (xs ys : List (List ℕ)) → (b ≡ true → c ≡ true → ⊥) → (b ≡ true → All (λ y. word ≢ y) ys) → (c ≡ true → All (λ x. word ≢ x) xs) → Differ xs ys
      → Differ (name_if b word ++ xs) (name_if c word ++ ys)
  differ_if true true word xs ys never h k both = absurd (never refl refl)
  differ_if true false word xs ys never h k both = All-cons (λ x. All (λ y. x ≢ y) ys) word xs (h refl) both
  differ_if false true word xs ys never h k both = one_more xs (k refl) both
    where
      one_more : (zs : List (List ℕ)) → All (λ x. word ≢ x) zs → Differ zs ys → Differ zs (word ∷ ys)
      one_more [] a b = All-nil (λ x. All (λ y. x ≢ y) (word ∷ ys))
      one_more (z ∷ zs) a b =
          All-cons (λ x. All (λ y. x ≢ y) (word ∷ ys)) z zs
          (All-cons (λ y. z ≢ y) word ys (turned word z (All-head (λ x. word ≢ x) z zs a)) (All-head (λ x. All (λ y. x ≢ y) ys) z zs b))
          (one_more zs (All-tail (λ x. word ≢ x) z zs a) (All-tail (λ x. All (λ y. x ≢ y) ys) z zs b))
  differ_if false false word xs ys never h k both = both

  pub differ_picked : (p q : What → Bool) (ds : List Declaration) → Opposed p q → Opposed q p → ((w : What) → p w ≡ true → q w ≡ true → ⊥) → AllPairs Apart ds
      → Differ (picked p ds) (picked q ds)
  differ_picked p q [] there back never pairs = All-nil (λ x. All (λ y. x ≢ y) [])
  differ_picked p q (d ∷ ds) there back never pairs =
      differ_if (p d.what) (q d.what) d.name.word (picked p ds) (picked q ds) (never d.what)
      (λ hp. later_names p q d ds there hp (pairs_head Apart d ds pairs)) (λ hq. later_names q p d ds back hq (pairs_head Apart d ds pairs))
      (differ_picked p q ds there back never (pairs_tail Apart d ds pairs))

  -- ---- which of them clash

  abbrev Clash : What → What → Type 0
  Clash w v = (same_bool (is_tag v) (is_tag w) ≡ true) × (not (agree all types v w) ≡ true)

  pub structures_opposed : Opposed (is_kind tags) (is_kind tags)
  unfolding agree
  structures_opposed w v hw hv = only_structure (λ x. Clash x v) (λ a i. only_structure (λ y. Clash (Structure a i) y) (λ b j. (refl, refl)) v hv) w hw

  pub roots_opposed : Opposed (is_kind roots) (is_kind roots)
  unfolding agree
  roots_opposed w v hw hv = only_root (λ x. Clash x v) (only_root (λ y. Clash Root y) (refl, refl) v hv) w hw

  pub caches_opposed : Opposed (is_kind caches) (is_kind caches)
  unfolding agree
  caches_opposed w v hw hv = only_cache (λ x. Clash x v) (only_cache (λ y. Clash Cache y) (refl, refl) v hv) w hw

  pub roots_caches : Opposed (is_kind roots) (is_kind caches)
  unfolding agree
  roots_caches w v hw hv = only_root (λ x. Clash x v) (only_cache (λ y. Clash Root y) (refl, refl) v hv) w hw

  pub caches_roots : Opposed (is_kind caches) (is_kind roots)
  unfolding agree
  caches_roots w v hw hv = only_cache (λ x. Clash x v) (only_root (λ y. Clash Cache y) (refl, refl) v hv) w hw

  pub roots_typedefs : Opposed (is_kind roots) is_typedef
  unfolding agree
  roots_typedefs w v hw hv = only_root (λ x. Clash x v) (only_typedef (λ y. Clash Root y) (λ t s. (refl, refl)) v hv) w hw

  pub typedefs_roots : Opposed is_typedef (is_kind roots)
  unfolding agree
  typedefs_roots w v hw hv = only_typedef (λ x. Clash x v) (λ t s. only_root (λ y. Clash (Typedef t s) y) (refl, refl) v hv) w hw

  pub caches_typedefs : Opposed (is_kind caches) is_typedef
  unfolding agree
  caches_typedefs w v hw hv = only_cache (λ x. Clash x v) (only_typedef (λ y. Clash Cache y) (λ t s. (refl, refl)) v hv) w hw

  pub typedefs_caches : Opposed is_typedef (is_kind caches)
  unfolding agree
  typedefs_caches w v hw hv = only_typedef (λ x. Clash x v) (λ t s. only_cache (λ y. Clash (Typedef t s) y) (refl, refl) v hv) w hw

-- ---- words

-- a word has the name of its typedef
word_named : (name : List ℕ) (b : BaseType) (stars : Stars) → IfSome (word_by name b stars) (λ w. w.name ≡ name)
word_named name (base.Structure id) Zero = refl
word_named name (base.Structure id) One = refl
word_named name b stars = tt

kept_word : (P : List ℕ → Type 0) (name : List ℕ) (found : Option DraftWord) (rest : List DraftWord) → IfSome found (λ w. w.name ≡ name) → P name → All P (map (λ w. w.name) rest)
    → All P (map (λ w. w.name) (cons_option found rest))
kept_word P name None rest is h all = all
kept_word P name (Some w) rest is h all = All-cons P w.name (map (λ x. x.name) rest) (subst P (sym is) h) all

pub All-words : (P : List ℕ → Type 0) (types : List TypedefMeaning) → All P (map (λ t. t.name) types) → All P (map (λ w. w.name) (filter_map word_of types))
All-words P [] h = h
All-words P (t ∷ types) h =
    kept_word P t.name (word_of t) (filter_map word_of types) (word_named t.name t.means.base t.means.stars)
    (All-head P t.name (map (λ x. x.name) types) h) (All-words P types (All-tail P t.name (map (λ x. x.name) types) h))

distinct_word : (name : List ℕ) (found : Option DraftWord) (rest : List DraftWord) → IfSome found (λ w. w.name ≡ name) → All (λ other. name ≢ other) (map (λ w. w.name) rest)
    → AllPairs ◌≢◌ (map (λ w. w.name) rest) → AllPairs ◌≢◌ (map (λ w. w.name) (cons_option found rest))
distinct_word name None rest is h pairs = pairs
distinct_word name (Some w) rest is h pairs =
    AllPairs-cons ◌≢◌ w.name (map (λ x. x.name) rest) (subst (λ n. All (λ other. n ≢ other) (map (λ x. x.name) rest)) (sym is) h) pairs

pub distinct_words : (types : List TypedefMeaning) → AllPairs ◌≢◌ (map (λ t. t.name) types) → AllPairs ◌≢◌ (map (λ w. w.name) (filter_map word_of types))
distinct_words [] h = h
distinct_words (t ∷ types) h =
    distinct_word t.name (word_of t) (filter_map word_of types) (word_named t.name t.means.base t.means.stars)
    (All-words (λ other. t.name ≢ other) types (pairs_head ◌≢◌ t.name (map (λ x. x.name) types) h))
    (distinct_words types (pairs_tail ◌≢◌ t.name (map (λ x. x.name) types) h))
