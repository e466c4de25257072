-- What tables of declarations say of types.
use Rattle.std.proofs.Common.{◌≡◌, ◌∙◌, ℕ, zero, suc, Bool, true, false, List, [], ◌∷◌, map, get_or, length, Option, Some, None, refl, sym, ap, subst, inl, inr, arith}
use Rattle.std.specs.Prelude.{Result, Ok, Err, IfOk, if◌then◌else◌, find, option_map, position, slice_get, is_some}
use Rattle.std.specs.Option.{option_map_or}
use Rattle.std.specs.Str.{bytes_eq}
use Rattle.std.proofs.lemmas.Option.{none-some, same_Some, slice_get-map, slice_get-get_or}
use Rattle.gt_items.specs.declared.items.Stars.{Stars}
use Rattle.gt_items.specs.declared.items.Stars.TheVariants as stars
use Rattle.gt_scope.specs.declared.types.Spelled.{Spelled}
use Rattle.gt_scope.specs.declared.types.Spelled.TheVariants as spelled
use Rattle.gt_drafts.specs.declared.types.BaseType.{BaseType}
use Rattle.gt_drafts.specs.declared.types.Resolved.{Resolved}
use Rattle.gt_scope.specs.declared.declaration.Declaration.{Declaration}
use Rattle.gt_scope.specs.declared.declaration.What.{What}
use Rattle.gt_scope.specs.declared.meaning.TypedefMeaning.{TypedefMeaning}
use Rattle.gt_scope.specs.declared.link.Link.{Link}
use Rattle.gt_scope.specs.declared.link.Target.TheVariants.{End, Next}
use Rattle.gt_names.specs.declared.tables.Entry.{Entry}
use Rattle.gt_scope.specs.Meanings.{as_tag, as_typedef, tagged_type, type_of_tag, plain_type, typedef_in, follow_type, follow_typedef, follow, means_after, opaque, more_stars, IsMeaning, AreTypeNames, typedef_names, with_stars, resolved_type}
use Rattle.gt_scope.specs.Tables.{values_from}
use Rattle.gt_scope.specs.declared.kinds.Kind.{Kind}
use Rattle.gt_scope.specs.declared.kinds.Meant.{Meant}
use Rattle.gt_scope.specs.declared.link.Target.{Target}
use Rattle.gt_scope.specs.Kinds.{meant_after, names_in, IsOfKind, IsMeant}
use Rattle.gt_scope.specs.Repeats.{type_of, AreAllMeant, AreLinks, AreNamed, AreTargets, HaveMeanings}
use Rattle.gt_scope.specs.Chains.{plain_by, plain_after, typedef_place, IsTarget, follow_target, follow_link, follow_links, IsMeaningAt, AreMeanings}
use Rattle.gt_scope.proofs.KindLemmas.{after_meant, find_passes}
use Rattle.gt_names.proofs.NameTests.{is_some_position}
use Rattle.gt_scope.proofs.TableLemmas.{values_are_first, owned, typedefs_named}
use Rattle.gt_names.proofs.TableLemmas.{found_at, none_found, no_value, any_found, equal_words, position-map}

length_map : {A B : Type 0} (f : A → B) (xs : List A) → length (map f xs) ≡ length xs
length_map f [] = refl
length_map f (x ∷ xs) = ap (λ n. suc n) (length_map f xs)

-- ---- tags

abbrev tags_of : List Declaration → List (Entry What)
tags_of ds = values_from as_tag [] ds

abbrev typedefs_of : List Declaration → List (Entry (Spelled × Stars))
typedefs_of ds = values_from as_typedef [] ds

-- a type by the table of tags is that by the declarations
pub plain_same : (ds : List Declaration) (ty : Spelled) → plain_by (values_from as_tag [] ds) ty ≡ plain_type ds ty
unfolding plain_by plain_type
plain_same ds (spelled.Number scalar is_char) = refl
plain_same ds spelled.Float = refl
plain_same ds spelled.Double = refl
plain_same ds spelled.Sizeless = refl
plain_same ds (spelled.Tagged keyword tag) = ap (tagged_type keyword tag) (values_are_first as_tag ds tag)
plain_same ds (spelled.Named word) = ap type_of_tag (values_are_first as_tag ds word)

-- ---- typedefs by their places

-- the first typedef of a name stands at a place
record StandsAt (ds : List Declaration) (word : List ℕ) (i : ℕ) : Type 0 where
  entry : Entry (Spelled × Stars)
  found : slice_get (typedefs_of ds) i ≡ Some entry
  name : entry.name ≡ word
  value : typedef_in ds word ≡ Some entry.value

stands_case : (ds : List Declaration) (word : List ℕ) (i : ℕ) (o : Option (Entry (Spelled × Stars))) → find (λ e. bytes_eq e.name word) (typedefs_of ds) ≡ o
    → position (λ e. bytes_eq e.name word) (typedefs_of ds) ≡ Some i → StandsAt ds word i
stands_case ds word i None f h =
    let e : is_some (position (λ e. bytes_eq e.name word) (typedefs_of ds)) ≡ is_some (find (λ e. bytes_eq e.name word) (typedefs_of ds)) =
    is_some_position (λ e. bytes_eq e.name word) (typedefs_of ds) ∙ any_found (λ e. bytes_eq e.name word) (typedefs_of ds) in
    let g : true ≡ false = sym (ap is_some h) ∙ e ∙ ap is_some f in cc
stands_case ds word i (Some entry) f h =
    record {
      entry = entry;
      found = sym (found_at (λ e. bytes_eq e.name word) (typedefs_of ds) i h) ∙ f;
      name = equal_words entry.name word (find_passes (λ e. bytes_eq e.name word) (typedefs_of ds) entry f);
      value = sym (values_are_first as_typedef ds word) ∙ ap (option_map (λ e. e.value)) f;
    }

stands_at : (ds : List Declaration) (word : List ℕ) (i : ℕ) → position (λ e. bytes_eq e.name word) (typedefs_of ds) ≡ Some i → StandsAt ds word i
stands_at ds word i h = stands_case ds word i (find (λ e. bytes_eq e.name word) (typedefs_of ds)) refl h

stands_nowhere : (ds : List Declaration) (word : List ℕ) → position (λ e. bytes_eq e.name word) (typedefs_of ds) ≡ None → typedef_in ds word ≡ None
stands_nowhere ds word h = sym (values_are_first as_typedef ds word) ∙ no_value (typedefs_of ds) word h

-- ---- following by places is following by names

-- what is found by numbers is what is found by names
Matches : (tags : List (List ℕ)) → Option Meant → Option Resolved → Type 0
Matches tags None None = Unit {0}
Matches tags (Some m) (Some r) = IsMeant tags m r
Matches tags m r = ⊥

matches_after : (tags : List (List ℕ)) (s t : Stars) (o : Option Meant) (q : Option Resolved) → s ≡ t
    → Matches tags o q → Matches tags (option_map (meant_after s) o) (option_map (means_after t) q)
unfolding Matches
matches_after tags s t None None e h = tt
matches_after tags s t (Some m) (Some r) e h =
    subst (λ (u : Stars). IsMeant tags (meant_after s m) (means_after u r)) e (after_meant tags s m r h)
matches_after tags s t None (Some r) e h = absurd h
matches_after tags s t (Some m) None e h = absurd h

matches_some : (tags : List (List ℕ)) (m : Meant) (o : Option Resolved) → Matches tags (Some m) o → (r : Resolved) × (o ≡ Some r) × IsMeant tags m r
unfolding Matches
matches_some tags m None h = absurd h
matches_some tags m (Some r) h = (r, refl, h)

matches_none : (tags : List (List ℕ)) (o : Option Resolved) → Matches tags None o → o ≡ None
unfolding Matches
matches_none tags None h = refl
matches_none tags (Some r) h = absurd h

plain_named_type : (ds : List Declaration) (given : List ℕ → Option Resolved) (word : List ℕ) → typedef_in ds word ≡ None
    → follow_type ds given (spelled.Named word) ≡ Some (record { base = plain_type ds (spelled.Named word); stars = stars.Zero })
plain_named_type ds given word h =
    ap (λ b. if b then given word else Some (record { base = plain_type ds (spelled.Named word); stars = stars.Zero })) (ap is_some h)

plain_follow : (ds : List Declaration) (given : List ℕ → Option Resolved) (ty : Spelled)
    → typedef_place (typedefs_of ds) ty ≡ None
    → follow_type ds given ty ≡ Some (record { base = plain_type ds ty; stars = stars.Zero })
plain_follow ds given (spelled.Named word) free = plain_named_type ds given word (stands_nowhere ds word free)
plain_follow ds given (spelled.Number scalar is_char) free = refl
plain_follow ds given spelled.Float free = refl
plain_follow ds given spelled.Double free = refl
plain_follow ds given spelled.Sizeless free = refl
plain_follow ds given (spelled.Tagged keyword tag) free = refl

matches_plain : (tags : List (List ℕ)) (kind : Kind) (base : BaseType) → IsOfKind tags kind base
    → Matches tags (Some (record { kind = kind; stars = stars.Zero })) (Some (record { base = base; stars = stars.Zero }))
unfolding Matches
matches_plain tags kind base h = (h, refl)

-- a type that is the name of the typedef at a place
record IsNameOf (typedefs : List (Entry (Spelled × Stars))) (ty : Spelled) (place : ℕ) : Type 0 where
  word : List ℕ
  named : ty ≡ spelled.Named word
  stands : position (λ e. bytes_eq e.name word) typedefs ≡ Some place

name_of : (typedefs : List (Entry (Spelled × Stars))) (ty : Spelled) (place : ℕ) → typedef_place typedefs ty ≡ Some place → IsNameOf typedefs ty place
name_of typedefs (spelled.Named word) place h = record { word = word; named = refl; stands = h }
name_of typedefs (spelled.Number scalar is_char) place h = absurd (none-some place h)
name_of typedefs spelled.Float place h = absurd (none-some place h)
name_of typedefs spelled.Double place h = absurd (none-some place h)
name_of typedefs spelled.Sizeless place h = absurd (none-some place h)
name_of typedefs (spelled.Tagged keyword tag) place h = absurd (none-some place h)

target_same : (ds : List Declaration) (tags : List (List ℕ)) (deeper : ℕ → Option Meant) (given : List ℕ → Option Resolved)
    → ((i : ℕ) (e : Entry (Spelled × Stars)) → slice_get (typedefs_of ds) i ≡ Some e → Matches tags (deeper i) (given e.name)) → (ty : Spelled) (to : Target)
    → IsTarget (tags_of ds) (typedefs_of ds) tags ty to → Matches tags (follow_target deeper to) (follow_type ds given ty)
target_same ds tags deeper given same ty (Next place) h =
    let n = name_of (typedefs_of ds) ty place h in
    let s = stands_at ds n.word place n.stands in
    let e : follow_type ds given ty ≡ given s.entry.name =
    ap (follow_type ds given) n.named
    ∙ ap (λ b. if b then given n.word else Some (record { base = plain_type ds (spelled.Named n.word); stars = stars.Zero })) (ap is_some s.value)
    ∙ ap given (sym s.name) in
    subst (Matches tags (deeper place)) (sym e) (same place s.entry s.found)
target_same ds tags deeper given same ty (End kind) h =
    subst (Matches tags (Some (record { kind = kind; stars = stars.Zero }))) (sym (plain_follow ds given ty h.0))
    (matches_plain tags kind (plain_type ds ty) (subst (IsOfKind tags kind) (plain_same ds ty) h.1))

-- an item of a list is there where one of another list of its length is
there_too : {A B : Type 0} (xs : List A) (ys : List B) (i : ℕ) (x : A) → length ys ≡ length xs → slice_get xs i ≡ Some x → (y : B) × (slice_get ys i ≡ Some y)
there_too (x ∷ xs) (y ∷ ys) zero z e h = (y, refl)
there_too (x ∷ xs) (y ∷ ys) (suc i) z e h = there_too xs ys i z (omega (arith, e)) h
there_too [] ys i z e h = absurd (none-some z h)
there_too (x ∷ xs) [] i z e h = absurd (omega (arith, e))

module _ (ds : List Declaration) (tags : List (List ℕ)) (links : List Link) (are : AreLinks (tags_of ds) (typedefs_of ds) tags links) where
  follow_same : (steps i : ℕ) (e : Entry (Spelled × Stars)) → slice_get (typedefs_of ds) i ≡ Some e
      → Matches tags (follow_links links steps i) (follow ds steps e.name)
  unfolding follow_links follow Matches
  follow_same zero i e h = tt
  follow_same (suc steps) i e h =
      let l = there_too (typedefs_of ds) links i e are.counted h in
      let leads = are.each i e l.0 h l.1 in
      let there : follow_links links (suc steps) i ≡ follow_link (follow_links links steps) (Some l.0) = ap (follow_link (follow_links links steps)) l.1 in
      let name : follow ds (suc steps) e.name ≡ follow_typedef ds (follow ds steps) (Some e.value) =
      ap (follow_typedef ds (follow ds steps)) (sym (values_are_first as_typedef ds e.name) ∙ (owned as_typedef ds).owned i e h) in
      subst (λ (m : Option Meant). Matches tags m (follow ds (suc steps) e.name)) (sym there)
      (subst (Matches tags (follow_link (follow_links links steps) (Some l.0))) (sym name)
      (matches_after tags l.0.stars e.value.1 (follow_target (follow_links links steps) l.0.to) (follow_type ds (follow ds steps) e.value.0) leads.0
      (target_same ds tags (follow_links links steps) (follow ds steps) (λ j o found. follow_same steps j o found) e.value.0 l.0.to leads.1)))

  -- a meaning by numbers, and the type that has it
  record Means (name : List ℕ) (m : Meant) : Type 0 where
    type : Resolved
    meant : IsMeant tags m type
    meaning : IsMeaning ds name type

  meaning_same : (i : ℕ) (e : Entry (Spelled × Stars)) (m : Meant) → slice_get (typedefs_of ds) i ≡ Some e → IsMeaningAt links i m → Means e.name m
  meaning_same i e m h (inl found) =
      let r = matches_some tags m (follow ds found.0 e.name) (subst (λ (o : Option Meant). Matches tags o (follow ds found.0 e.name)) found.1 (follow_same found.0 i e h)) in
      record { type = r.0; meant = r.2; meaning = inl (found.0, r.1) }
  meaning_same i e m h (inr never) =
      record {
        type = opaque;
        meant = subst (λ (n : Meant). IsMeant tags n opaque) (sym never.1) (refl, refl);
        meaning = inr (
          λ steps. matches_none tags (follow ds steps e.name) (subst (λ (o : Option Meant). Matches tags o (follow ds steps e.name)) (never.0 steps) (follow_same steps i e h)),
          refl,
        );
      }

  -- ---- names with their meanings

  module _ (meant : List Meant) (types : List TypedefMeaning) (means : AreMeanings links meant) (names : map (λ t. t.name) types ≡ names_in (typedefs_of ds)) (named : AreNamed tags meant types) where
    name_case : (i : ℕ) (t : TypedefMeaning) (m : Meant) (o : Option (Entry (Spelled × Stars))) → slice_get (typedefs_of ds) i ≡ o
        → Some t.name ≡ option_map (λ e. e.name) o → IsMeaningAt links i m → Means t.name m
    name_case i t m None h n a = absurd (none-some t.name (sym n))
    name_case i t m (Some e) h n a = subst (λ (name : List ℕ). Means name m) (sym (same_Some t.name e.name n)) (meaning_same i e m h a)

    means_of : (k : ℕ) (t : TypedefMeaning) (m : Meant) → slice_get types k ≡ Some t → slice_get meant k ≡ Some m → Means t.name m
    means_of k t m h a =
        name_case k t m (slice_get (typedefs_of ds) k) refl
        (sym (ap (option_map (λ t. t.name)) h) ∙ sym (slice_get-map (λ t. t.name) types k) ∙ ap (λ names. slice_get names k) names
        ∙ slice_get-map (λ e. e.name) (typedefs_of ds) k)
        (means.each k m a)

    as_many : length meant ≡ length types
    as_many = means.counted ∙ are.counted ∙ sym (length_map (λ e. e.name) (typedefs_of ds)) ∙ ap length (sym names) ∙ length_map (λ t. t.name) types

    one_meant : (k : ℕ) (t : TypedefMeaning) → slice_get types k ≡ Some t → IsMeaning ds t.name t.means
    one_meant k t h =
        let m = there_too types meant k t as_many h in
        let r = means_of k t m.0 h m.1 in
        subst (IsMeaning ds t.name) (sym (named.each k t m.0 r.type h m.1 r.meant)) r.meaning

    have_meaning : (k : ℕ) (t : TypedefMeaning) (m : Meant) → slice_get types k ≡ Some t → slice_get meant k ≡ Some m → IsMeant tags m t.means
    have_meaning k t m h a =
        let r = means_of k t m h a in
        subst (IsMeant tags m) (sym (named.each k t m r.type h a r.meant)) r.meant

-- the meanings by places are those of the names
all_of : (ds : List Declaration) (tags : List (List ℕ)) (links : List Link) (meant : List Meant) (types : List TypedefMeaning)
    → AreLinks (tags_of ds) (typedefs_of ds) tags links → AreMeanings links meant → map (λ t. t.name) types ≡ names_in (typedefs_of ds) → AreNamed tags meant types
    → AreAllMeant ds tags meant types
all_of ds tags links meant types are means names named =
    record {
      names = record {
        names = names ∙ typedefs_named ds;
        meanings = λ k t h. one_meant ds tags links are meant types means names named k (get_or types k t) (slice_get-get_or types k t h);
      };
      have = record {
        counted = as_many ds tags links are meant types means names named;
        each = λ k t m h a. have_meaning ds tags links are meant types means names named k t m h a;
      };
    }

pub all_meant : (ds : List Declaration) (defined : List (Entry What)) (typedefs : List (Entry (Spelled × Stars))) (tags : List (List ℕ)) (links : List Link)
    (meant : List Meant) (types : List TypedefMeaning) → defined ≡ values_from as_tag [] ds → typedefs ≡ values_from as_typedef [] ds
    → AreLinks defined typedefs tags links → AreMeanings links meant → map (λ t. t.name) types ≡ names_in typedefs → AreNamed tags meant types
    → AreAllMeant ds tags meant types
all_meant ds defined typedefs tags links meant types t d are means names named =
    all_of ds tags links meant types
    (subst (λ typedefs. AreLinks (tags_of ds) typedefs tags links) d (subst (λ defined. AreLinks defined typedefs tags links) t are))
    means (names ∙ ap (λ (x : List (Entry (Spelled × Stars))). names_in x) d) named

-- ---- types

-- a name has the same place among the typedefs and among the meanings
same_place : (ds : List Declaration) (typedefs : List (Entry (Spelled × Stars))) (types : List TypedefMeaning) (word : List ℕ)
    → typedefs ≡ values_from as_typedef [] ds → map (λ t. t.name) types ≡ typedef_names [] ds
    → position (λ t. bytes_eq t.name word) types ≡ position (λ e. bytes_eq e.name word) typedefs
same_place ds typedefs types word d a =
    sym (position-map (λ t. t.name) (λ name. bytes_eq name word) types)
    ∙ ap (position (λ name. bytes_eq name word)) (a ∙ sym (typedefs_named ds) ∙ ap (map (λ e. e.name)) (sym d))
    ∙ position-map (λ e. e.name) (λ name. bytes_eq name word) typedefs

-- the meaning of a name of a typedef
pub meaning_here : (ds : List Declaration) (typedefs : List (Entry (Spelled × Stars))) (types : List TypedefMeaning) (word : List ℕ) (i : ℕ) (t : TypedefMeaning)
    → typedefs ≡ values_from as_typedef [] ds → map (λ t. t.name) types ≡ typedef_names [] ds → Some i ≡ position (λ e. bytes_eq e.name word) typedefs → Some t ≡ slice_get types i
    → (s : Stars) (r : Resolved) → r ≡ with_stars t.means s → r ≡ resolved_type ds types (spelled.Named word) s
unfolding resolved_type
meaning_here ds typedefs types word i t d a h found s r e =
    e
    ∙ ap (λ o. option_map_or (λ m. with_stars m s) o (record { base = plain_type ds (spelled.Named word); stars = s }))
    (sym (ap (option_map (λ t. t.means)) (found_at (λ t. bytes_eq t.name word) types i (same_place ds typedefs types word d a ∙ sym h) ∙ sym found)))

plain_named : (ds : List Declaration) (types : List TypedefMeaning) (word : List ℕ) (s : Stars) (r : Resolved) → find (λ t. bytes_eq t.name word) types ≡ None
    → r ≡ plain_after ds (spelled.Named word) s → r ≡ resolved_type ds types (spelled.Named word) s
unfolding resolved_type
plain_named ds types word s r h e =
    e
    ∙ ap (λ o. option_map_or (λ m. with_stars m s) o (record { base = plain_type ds (spelled.Named word); stars = s }))
    (sym (ap (option_map (λ t. t.means)) h))

-- a name that is none of a typedef
pub no_meaning : (ds : List Declaration) (typedefs : List (Entry (Spelled × Stars))) (types : List TypedefMeaning) (word : List ℕ)
    → typedefs ≡ values_from as_typedef [] ds → map (λ t. t.name) types ≡ typedef_names [] ds → None ≡ position (λ e. bytes_eq e.name word) typedefs
    → (s : Stars) (r : Resolved) → r ≡ plain_after ds (spelled.Named word) s → r ≡ resolved_type ds types (spelled.Named word) s
no_meaning ds typedefs types word d a h s r e =
    plain_named ds types word s r (none_found (λ t. bytes_eq t.name word) types (same_place ds typedefs types word d a ∙ sym h)) e

pub no_meaning_there : (ds : List Declaration) (typedefs : List (Entry (Spelled × Stars))) (types : List TypedefMeaning) (word : List ℕ) (i : ℕ)
    → typedefs ≡ values_from as_typedef [] ds → map (λ t. t.name) types ≡ typedef_names [] ds → Some i ≡ position (λ e. bytes_eq e.name word) typedefs → None ≡ slice_get types i
    → (s : Stars) (r : Resolved) → r ≡ plain_after ds (spelled.Named word) s → r ≡ resolved_type ds types (spelled.Named word) s
no_meaning_there ds typedefs types word i d a h found s r e =
    plain_named ds types word s r
    (found_at (λ t. bytes_eq t.name word) types i (same_place ds typedefs types word d a ∙ sym h) ∙ sym found) e

-- ---- the scope

-- a type is plain where its tags are those of the declarations
pub plain_scope : (ds : List Declaration) (tags : List (Entry What)) (ty : Spelled) (base : BaseType) (s : Stars) → tags ≡ values_from as_tag [] ds
    → base ≡ plain_by tags ty → ◌≡◌ {A = Resolved} (record { base = base; stars = s }) (plain_after ds ty s)
plain_scope ds tags ty base s t e =
    ap (λ base. record { base = base; stars = s }) (e ∙ ap (λ tags. plain_by tags ty) t ∙ plain_same ds ty)

ok_then : {A E : Type 0} (r : Result A E) (P Q : A → Type 0) → ((x : A) → P x → Q x) → IfOk r P → IfOk r Q
ok_then (Ok x) P Q f h = f x h
ok_then (Err e) P Q f h = h

-- the answers of the scope, by what is found of a name
pub none_resolved : {E : Type 0} (result : Result Resolved E) (ds : List Declaration) (typedefs : List (Entry (Spelled × Stars))) (types : List TypedefMeaning) (ty : Spelled)
    (word : List ℕ) (s : Stars) → ty ≡ spelled.Named word → typedefs ≡ values_from as_typedef [] ds → map (λ t. t.name) types ≡ typedef_names [] ds
    → None ≡ position (λ e. bytes_eq e.name word) typedefs → IfOk result (λ r. r ≡ plain_after ds ty s) → IfOk result (λ r. r ≡ resolved_type ds types ty s)
none_resolved result ds typedefs types ty word s t d a h ok =
    ok_then result (λ r. r ≡ plain_after ds ty s) (λ r. r ≡ resolved_type ds types ty s)
    (λ r e. subst (λ ty. r ≡ resolved_type ds types ty s) (sym t) (no_meaning ds typedefs types word d a h s r (subst (λ ty. r ≡ plain_after ds ty s) t e))) ok

pub past_resolved : {E : Type 0} (result : Result Resolved E) (ds : List Declaration) (typedefs : List (Entry (Spelled × Stars))) (types : List TypedefMeaning) (ty : Spelled)
    (word : List ℕ) (i : ℕ) (s : Stars) → ty ≡ spelled.Named word → typedefs ≡ values_from as_typedef [] ds → map (λ t. t.name) types ≡ typedef_names [] ds
    → Some i ≡ position (λ e. bytes_eq e.name word) typedefs → None ≡ slice_get types i → IfOk result (λ r. r ≡ plain_after ds ty s)
    → IfOk result (λ r. r ≡ resolved_type ds types ty s)
past_resolved result ds typedefs types ty word i s t d a h found ok =
    ok_then result (λ r. r ≡ plain_after ds ty s) (λ r. r ≡ resolved_type ds types ty s)
    (λ r e. subst (λ ty. r ≡ resolved_type ds types ty s) (sym t)
    (no_meaning_there ds typedefs types word i d a h found s r (subst (λ ty. r ≡ plain_after ds ty s) t e))) ok

pub found_resolved : {E : Type 0} (result : Result Resolved E) (ds : List Declaration) (typedefs : List (Entry (Spelled × Stars))) (types : List TypedefMeaning) (ty : Spelled)
    (word : List ℕ) (i : ℕ) (found : TypedefMeaning) (s : Stars) → ty ≡ spelled.Named word → typedefs ≡ values_from as_typedef [] ds
    → map (λ t. t.name) types ≡ typedef_names [] ds → Some i ≡ position (λ e. bytes_eq e.name word) typedefs → Some found ≡ slice_get types i
    → IfOk result (λ r. r ≡ with_stars found.means s) → IfOk result (λ r. r ≡ resolved_type ds types ty s)
found_resolved result ds typedefs types ty word i found s t d a h at ok =
    ok_then result (λ r. r ≡ with_stars found.means s) (λ r. r ≡ resolved_type ds types ty s)
    (λ r e. subst (λ ty. r ≡ resolved_type ds types ty s) (sym t) (meaning_here ds typedefs types word i found d a h at s r e)) ok

-- ---- meanings by numbers

no_more : (s : Stars) → more_stars s stars.Zero ≡ s
no_more stars.Zero = refl
no_more stars.One = refl
no_more stars.Two = refl
no_more stars.More = refl

module _ (ds : List Declaration) (defined : List (Entry What)) (typedefs : List (Entry (Spelled × Stars))) (tags : List (List ℕ)) (targets : List Target)
    (meant : List Meant) (types : List TypedefMeaning) (t : defined ≡ values_from as_tag [] ds) (v : typedefs ≡ values_from as_typedef [] ds)
    (a : map (λ t. t.name) types ≡ typedef_names [] ds) (leads : AreTargets defined typedefs tags ds targets) (have : HaveMeanings tags meant types)
    (place : ℕ) (d : Declaration) (ty : Spelled) (found : slice_get ds place ≡ Some d) (is : type_of d.what ≡ Some ty) where
  -- each declaration leads somewhere
  pub followed_none : None ≡ slice_get targets place → ⊥
  followed_none h = let to = there_too ds targets place d leads.counted found in none-some to.0 (h ∙ to.1)

  end_base : (kind : Kind) (u : Spelled) → IsOfKind tags kind (plain_by defined u) → IsOfKind tags kind (plain_type ds u)
  end_base kind u h = subst (IsOfKind tags kind) (ap (λ defined. plain_by defined u) t ∙ plain_same ds u) h

  end_plain : (kind : Kind) (u : Spelled) → typedef_place typedefs u ≡ None
      → IsOfKind tags kind (plain_type ds u) → IsMeant tags (record { kind = kind; stars = stars.Zero }) (resolved_type ds types u stars.Zero)
  unfolding resolved_type
  end_plain kind (spelled.Named word) free h =
      subst (IsMeant tags (record { kind = kind; stars = stars.Zero }))
      (no_meaning ds typedefs types word v a (sym free) stars.Zero (record { base = plain_type ds (spelled.Named word); stars = stars.Zero }) refl)
      (h, refl)
  end_plain kind (spelled.Number scalar is_char) free h = (h, refl)
  end_plain kind spelled.Float free h = (h, refl)
  end_plain kind spelled.Double free h = (h, refl)
  end_plain kind spelled.Sizeless free h = (h, refl)
  end_plain kind (spelled.Tagged keyword tag) free h = (h, refl)

  -- an end is the meaning
  pub followed_end : (kind : Kind) → Some (End kind) ≡ slice_get targets place
      → IsMeant tags (record { kind = kind; stars = stars.Zero }) (resolved_type ds types ty stars.Zero)
  followed_end kind h = let e = leads.each place d ty (End kind) found is (sym h) in end_plain kind ty e.0 (end_base kind ty e.1)

  -- a typedef is a name with its meaning
  record Follows (next : ℕ) : Type 0 where
    name : TypedefMeaning
    there : slice_get types next ≡ Some name
    same : resolved_type ds types ty stars.Zero ≡ name.means

  name_there : (i : ℕ) (word : List ℕ) → position (λ e. bytes_eq e.name word) typedefs ≡ Some i → (t : TypedefMeaning) × (slice_get types i ≡ Some t)
  name_there i word h =
      let s = stands_at ds word i (ap (position (λ e. bytes_eq e.name word)) (sym v) ∙ h) in
      there_too (typedefs_of ds) types i s.entry
      (sym (length_map (λ t. t.name) types) ∙ ap length (a ∙ sym (typedefs_named ds)) ∙ length_map (λ e. e.name) (typedefs_of ds)) s.found

  follows : (next : ℕ) → Some (Next next) ≡ slice_get targets place → Follows next
  follows next h =
      let n = name_of typedefs ty next (leads.each place d ty (Next next) found is (sym h)) in
      let t = name_there next n.word n.stands in
      record {
        name = t.0;
        there = t.1;
        same = ap (λ (u : Spelled). resolved_type ds types u stars.Zero) n.named
            ∙ sym (meaning_here ds typedefs types n.word next t.0 v a (sym n.stands) (sym t.1) stars.Zero (with_stars t.0.means stars.Zero) refl)
            ∙ ap (λ (s : Stars). record { base = t.0.means.base; stars = s }) (no_more t.0.means.stars);
      }

  pub followed_next : (next : ℕ) (m : Meant) → Some (Next next) ≡ slice_get targets place → Some m ≡ slice_get meant next
      → IsMeant tags m (resolved_type ds types ty stars.Zero)
  followed_next next m h k =
      let f = follows next h in subst (IsMeant tags m) (sym f.same) (have.each next f.name m f.there (sym k))

  pub followed_past : (next : ℕ) → Some (Next next) ≡ slice_get targets place → None ≡ slice_get meant next → ⊥
  followed_past next h k =
      let f = follows next h in
      let m = there_too types meant next f.name have.counted f.there in none-some m.0 (k ∙ m.1)
