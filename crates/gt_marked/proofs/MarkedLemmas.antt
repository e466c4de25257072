-- Marked items are read as their rules say.
use Rattle.std.proofs.Common.{◌≡◌, ℕ, Bool, true, false, List, [], ◌∷◌, length, codes, refl, sym, ◌∙◌, arith}
use Rattle.std.specs.Str.{bytes_eq}
use Rattle.gt_items.specs.declared.items.Name.{Name}
use Rattle.gt_items.specs.declared.items.Alias.{Alias}
use Rattle.gt_items.specs.declared.items.Item.{Item}
use Rattle.gt_items.specs.declared.items.Keyword.TheVariants as keyword
use Rattle.gt_items.specs.declared.items.PointedType.{PointedType}
use Rattle.gt_items.specs.declared.items.RawField.{RawField}
use Rattle.gt_items.specs.declared.items.RawOption.{RawOption}
use Rattle.gt_items.specs.declared.items.RawType.{RawType}
use Rattle.gt_items.specs.declared.items.Stars.{Stars}
use Rattle.gt_search.specs.declared.lexeme.TokenText.{TokenText}
use Rattle.gt_search.specs.declared.lexeme.Bracket.TheVariants.{Brace}
use Rattle.gt_search.specs.declared.lexeme.Lexeme.{Lexeme}
use Rattle.gt_search.specs.declared.lexeme.Lexeme.TheVariants as lexeme
use Rattle.gt_marked.specs.declared.types.Context.{Context}
use Rattle.gt_marked.specs.declared.types.Context.TheVariants.{Elsewhere}
use Rattle.gt_marked.specs.FieldGrammar.{is_semicolon, is_colon, Bounds, FieldsToBrace}
use Rattle.gt_marked.specs.Fields.{fields_from}
use Rattle.gt_marked.specs.Groups.{bounds_from}
use Rattle.gt_marked.specs.Marked.{semicolon_at, comma_at, greater_at, open_brace_at, marker_after_tag, tag_at, alias_at, maybe_alias, structure_at, initialiser_at, root_at, pointed_at, traits_at, is_cache, cache_name_at, cache_at, after_marker_at, global_at, typedef_structure_at, marked_at}
use Rattle.gt_marked.specs.MarkedGrammar.{is_greater, is_structure, begins_marked, begins_map, TagAndMarker, AnAlias, AStructure, ARoot, APointed, Traits, ACache, AGlobal, MarkedItem}
use Rattle.gt_marked.specs.MarkerGrammar.{failed, begins, is_comma, Marker}
use Rattle.gt_marked.specs.Markers.{marker_at}
use Rattle.gt_marked.specs.Outcome.{Outcome, Read, ◌>>=◌, unexpected}
use Rattle.gt_search.specs.Search.{is_gty, is_equals}
use Rattle.gt_marked.specs.TypeGrammar.{is_name, opens_brace, Qualifiers, AreStars, AType}
use Rattle.gt_marked.specs.Types.{name_at, type_at}
use Rattle.gt_marked.proofs.FieldsLemmas.{bounds-from, bounds_has, fields-from, fields_has, no_stars}
use Rattle.gt_marked.proofs.MarkersLemmas.{marker-one, marker_has}
use Rattle.gt_marked.proofs.TypesLemmas.{no_name, qualifiers-one, qualifiers_has, stars-one, stars-leaves, stars_has, type-alone, type_has}
use Rattle.gt_marked.proofs.GrammarWords.{Has, allowed, Comes, read, unread, comes, failed_step, unexpected_step, Leaves, unexpected_leaves, prefixed_nothing}

-- ---- tokens that have to stand

no_semicolon : (ts : List Lexeme) → begins is_semicolon ts ≡ false → semicolon_at ts ≡ unexpected ts
no_semicolon [] h = refl
no_semicolon (lexeme.Semicolon s ∷ ts) h = absurd cc
no_semicolon (t ∷ ts) h = refl

no_comma : (ts : List Lexeme) → begins is_comma ts ≡ false → comma_at ts ≡ unexpected ts
no_comma [] h = refl
no_comma (lexeme.Comma s ∷ ts) h = absurd cc
no_comma (t ∷ ts) h = refl

no_greater : (ts : List Lexeme) → begins is_greater ts ≡ false → greater_at ts ≡ unexpected ts
no_greater [] h = refl
no_greater (lexeme.Greater s ∷ ts) h = absurd cc
no_greater (t ∷ ts) h = refl

no_open_brace : (ts : List Lexeme) → begins opens_brace ts ≡ false → begins is_colon ts ≡ false → open_brace_at ts ≡ unexpected ts
no_open_brace [] h k = refl
no_open_brace (lexeme.Open Brace s ∷ ts) h k = absurd cc
no_open_brace (lexeme.Colon s ∷ ts) h k = absurd cc
no_open_brace (t ∷ ts) h k = refl

-- ---- tags and markers

no_marker : (ts : List Lexeme) → begins is_gty ts ≡ false → marker_at ts ≡ unexpected ts
no_marker ts h = sym (marker-one (Marker.no_word h))

marker_no_colon : (ts : List Lexeme) → begins is_colon ts ≡ false → marker_after_tag ts ≡ marker_at ts
unfolding marker_after_tag
marker_no_colon [] h = refl
marker_no_colon (lexeme.Colon s ∷ ts) h = absurd cc
marker_no_colon (t ∷ ts) h = refl

no_tag : (ts : List Lexeme) → begins is_name ts ≡ false → tag_at ts ≡ (marker_at ts >>= λ options. name_at options.1 >>= λ tag. Read (tag.0, options.0) tag.1)
unfolding tag_at
no_tag [] h = refl
no_tag (lexeme.Name s ∷ ts) h = absurd cc
no_tag (t ∷ ts) h = refl

tag-one : {ts : List Lexeme} {o : Outcome (Name × List RawOption)} → TagAndMarker ts o → o ≡ tag_at ts
unfolding tag_at marker_after_tag name_at
tag-one (TagAndMarker.marker_first a n m) = rw (← marker-one m) refl
tag-one (TagAndMarker.name_first n a m) = rw (← marker-one m) refl
tag-one (TagAndMarker.base_class n c) = refl
tag-one (TagAndMarker.in_first a why m) = rw (← marker-one m) (sym (failed_step why _))
tag-one (TagAndMarker.in_second n a why m) = rw (← marker-one m) (sym (failed_step why _))
tag-one (TagAndMarker.no_name {rest} a m h) = rw (← marker-one m, no_name rest h) (sym (unexpected_step rest _))
tag-one (TagAndMarker.no_marker {ts} n h k) = rw (marker_no_colon ts k, no_marker ts h) (sym (unexpected_step ts _))
tag-one (TagAndMarker.neither {ts} h k) = rw (no_tag ts k, no_marker ts h) (sym (unexpected_step ts _))

tag_first : (a : TokenText) {ts : List Lexeme} {o : Outcome (List RawOption)} → Marker (lexeme.Gty a ∷ ts) o → Comes o → Has TagAndMarker (lexeme.Gty a ∷ ts)
tag_first a m (unread why) = record { outcome = failed why; holds = TagAndMarker.in_first a why m }
tag_first a m (read options (lexeme.Name n ∷ rest)) = record { outcome = _; holds = TagAndMarker.marker_first a n m }
tag_first a m (read options []) = record { outcome = unexpected []; holds = TagAndMarker.no_name a m refl }
tag_first a m (read options (u ∷ us)) = record { outcome = unexpected (u ∷ us); holds = TagAndMarker.no_name a m refl }

tag_second : (n a : TokenText) {ts : List Lexeme} {o : Outcome (List RawOption)} → Marker (lexeme.Gty a ∷ ts) o → Comes o → Has TagAndMarker (lexeme.Name n ∷ lexeme.Gty a ∷ ts)
tag_second n a m (unread why) = record { outcome = failed why; holds = TagAndMarker.in_second n a why m }
tag_second n a m (read options rest) = record { outcome = _; holds = TagAndMarker.name_first n a m }

tag_has : (ts : List Lexeme) → Has TagAndMarker ts
tag_has (lexeme.Gty a ∷ ts) = tag_first a (marker_has (lexeme.Gty a ∷ ts)).holds (comes (marker_has (lexeme.Gty a ∷ ts)).outcome)
tag_has (lexeme.Name n ∷ lexeme.Gty a ∷ ts) = tag_second n a (marker_has (lexeme.Gty a ∷ ts)).holds (comes (marker_has (lexeme.Gty a ∷ ts)).outcome)
tag_has (lexeme.Name n ∷ lexeme.Colon c ∷ ts) = record { outcome = _; holds = TagAndMarker.base_class n c }
tag_has (lexeme.Name n ∷ []) = record { outcome = unexpected []; holds = TagAndMarker.no_marker n refl refl }
tag_has (lexeme.Name n ∷ t ∷ ts) = record { outcome = unexpected (t ∷ ts); holds = TagAndMarker.no_marker n refl refl }
tag_has [] = record { outcome = unexpected []; holds = TagAndMarker.neither refl refl }
tag_has (t ∷ ts) = record { outcome = unexpected (t ∷ ts); holds = TagAndMarker.neither refl refl }

-- ---- aliases

pub alias-one : {ts : List Lexeme} {o : Outcome Alias} → AnAlias ts o → o ≡ alias_at ts
unfolding alias_at name_at
alias-one (AnAlias.alias n a) = rw (stars-one a) refl
alias-one (AnAlias.no_name {rest} a h) = rw (stars-one a, no_name rest h) (sym (unexpected_step rest _))

pub alias-leaves : {ts : List Lexeme} {o : Outcome Alias} → AnAlias ts o → Leaves (length ts) o
alias-leaves (AnAlias.alias n a) = omega (arith, stars-leaves a)
alias-leaves (AnAlias.no_name {rest} a h) = unexpected_leaves Alias rest _

alias_after : {ts : List Lexeme} {stars : Stars} (us : List Lexeme) → AreStars ts stars us → Has AnAlias ts
alias_after (lexeme.Name n ∷ rest) a = record { outcome = _; holds = AnAlias.alias n a }
alias_after [] a = record { outcome = unexpected []; holds = AnAlias.no_name a refl }
alias_after (u ∷ us) a = record { outcome = unexpected (u ∷ us); holds = AnAlias.no_name a refl }

pub alias_has : (ts : List Lexeme) → Has AnAlias ts
alias_has ts = alias_after (stars_has ts).following (stars_has ts).are

-- ---- structures

fields-all : {ts : List Lexeme} {o : Outcome (List RawField)} → FieldsToBrace ts o → fields_from (length ts) [] ts ≡ o
fields-all {ts} {o} f = fields-from f (length ts) [] (omega arith) ∙ prefixed_nothing o

structure-one : {has_alias is_union : Bool} {ts : List Lexeme} {o : Outcome Item} → AStructure has_alias is_union ts o → o ≡ structure_at has_alias is_union ts
unfolding structure_at maybe_alias
structure-one (AStructure.structure b s t f) = rw (← tag-one t, fields-all f) refl
structure-one (AStructure.with_alias b s t f a) = rw (← tag-one t, fields-all f, ← alias-one a) refl
structure-one (AStructure.base_class c t) = rw (← tag-one t) refl
structure-one (AStructure.in_tag why t) = rw (← tag-one t) (sym (failed_step why _))
structure-one (AStructure.in_fields b why t f) = rw (← tag-one t, fields-all f) (sym (failed_step why _))
structure-one (AStructure.in_alias b why t f a) = rw (← tag-one t, fields-all f, ← alias-one a, failed_step, failed_step) refl
structure-one (AStructure.no_body {rest} t h k) = rw (← tag-one t, no_open_brace rest h k) (sym (unexpected_step rest _))
structure-one (AStructure.not_ended {rest} b t f h) = rw (← tag-one t, fields-all f, no_semicolon rest h) (sym (unexpected_step rest _))
structure-one (AStructure.alias_not_ended {rest} b t f a h) = rw (← tag-one t, fields-all f, ← alias-one a, no_semicolon rest h) (sym (unexpected_step rest _))

structure_alias : (is_union : Bool) (b : TokenText) {ts us vs : List Lexeme} {tag : Name × List RawOption} {fields : List RawField}
    → TagAndMarker ts (Read tag (lexeme.Open Brace b ∷ us)) → FieldsToBrace us (Read fields vs) → {o : Outcome Alias} → AnAlias vs o → Comes o → Has (AStructure true is_union) ts
structure_alias is_union b t f a (unread why) = record { outcome = failed why; holds = AStructure.in_alias b why t f a }
structure_alias is_union b t f a (read alias (lexeme.Semicolon s ∷ rest)) = record { outcome = _; holds = AStructure.with_alias b s t f a }
structure_alias is_union b t f a (read alias []) = record { outcome = unexpected []; holds = AStructure.alias_not_ended b t f a refl }
structure_alias is_union b t f a (read alias (u ∷ us)) = record { outcome = unexpected (u ∷ us); holds = AStructure.alias_not_ended b t f a refl }

structure_end : (is_union : Bool) (b : TokenText) {ts us : List Lexeme} (vs : List Lexeme) {tag : Name × List RawOption} {fields : List RawField}
    → TagAndMarker ts (Read tag (lexeme.Open Brace b ∷ us)) → FieldsToBrace us (Read fields vs) → Has (AStructure false is_union) ts
structure_end is_union b (lexeme.Semicolon s ∷ rest) t f = record { outcome = _; holds = AStructure.structure b s t f }
structure_end is_union b [] t f = record { outcome = unexpected []; holds = AStructure.not_ended b t f refl }
structure_end is_union b (u ∷ us) t f = record { outcome = unexpected (u ∷ us); holds = AStructure.not_ended b t f refl }

structure_fields : (has_alias is_union : Bool) (b : TokenText) {ts us : List Lexeme} {tag : Name × List RawOption}
    → TagAndMarker ts (Read tag (lexeme.Open Brace b ∷ us)) → {o : Outcome (List RawField)} → FieldsToBrace us o → Comes o → Has (AStructure has_alias is_union) ts
structure_fields has_alias is_union b t f (unread why) = record { outcome = failed why; holds = AStructure.in_fields b why t f }
structure_fields true is_union b t f (read fields vs) = structure_alias is_union b t f (alias_has vs).holds (comes (alias_has vs).outcome)
structure_fields false is_union b t f (read fields vs) = structure_end is_union b vs t f

structure_tag : (has_alias is_union : Bool) {ts : List Lexeme} {o : Outcome (Name × List RawOption)} → TagAndMarker ts o → Comes o → Has (AStructure has_alias is_union) ts
structure_tag has_alias is_union t (unread why) = record { outcome = failed why; holds = AStructure.in_tag why t }
structure_tag has_alias is_union t (read tag (lexeme.Open Brace b ∷ us)) = structure_fields has_alias is_union b t (fields_has us).holds (comes (fields_has us).outcome)
structure_tag has_alias is_union t (read tag (lexeme.Colon c ∷ us)) = record { outcome = _; holds = AStructure.base_class c t }
structure_tag has_alias is_union t (read tag []) = record { outcome = unexpected []; holds = AStructure.no_body t refl refl }
structure_tag has_alias is_union t (read tag (u ∷ us)) = record { outcome = unexpected (u ∷ us); holds = AStructure.no_body t refl refl }

structure_has : (has_alias is_union : Bool) (ts : List Lexeme) → Has (AStructure has_alias is_union) ts
structure_has has_alias is_union ts = structure_tag has_alias is_union (tag_has ts).holds (comes (tag_has ts).outcome)

-- ---- globals that are no maps

type-one : {place : Context} {ts : List Lexeme} {o : Outcome RawType} → AType place ts o → o ≡ type_at place ts
type-one {place} {ts} {o} t = type-alone place ts o t

bounds-all : {ts : List Lexeme} {o : Outcome (List (List ℕ))} → Bounds ts o → bounds_from (length ts) [] ts ≡ o
bounds-all {ts} {o} b = bounds-from b (length ts) [] (omega arith) ∙ prefixed_nothing o

no_initialiser : (ts : List Lexeme) → begins is_equals ts ≡ false → begins is_semicolon ts ≡ false → initialiser_at ts ≡ unexpected ts
unfolding initialiser_at
no_initialiser [] h k = refl
no_initialiser (lexeme.Equals s ∷ ts) h k = absurd cc
no_initialiser (lexeme.Semicolon s ∷ ts) h k = absurd cc
no_initialiser (t ∷ ts) h k = refl

root-one : {options : List RawOption} {ts : List Lexeme} {o : Outcome Item} → ARoot options ts o → o ≡ root_at options ts
unfolding root_at name_at initialiser_at
root-one (ARoot.root n s t a b) = rw (← type-one t, stars-one a, bounds-all b) refl
root-one (ARoot.initialised n e t a b) = rw (← type-one t, stars-one a, bounds-all b) refl
root-one (ARoot.in_type why t) = rw (← type-one t) (sym (failed_step why _))
root-one (ARoot.in_bounds n why t a b) = rw (← type-one t, stars-one a, bounds-all b) (sym (failed_step why _))
root-one (ARoot.no_name {rest} t a h) = rw (← type-one t, stars-one a, no_name rest h) (sym (unexpected_step rest _))
root-one (ARoot.not_ended {rest} n t a b h k) = rw (← type-one t, stars-one a, bounds-all b, no_initialiser rest h k) (sym (unexpected_step rest _))

root_bounds : (options : List RawOption) (n : TokenText) {ts us vs : List Lexeme} {type : RawType} {stars : Stars} → AType Elsewhere ts (Read type us)
    → AreStars us stars (lexeme.Name n ∷ vs) → {o : Outcome (List (List ℕ))} → Bounds vs o → Comes o → Has (ARoot options) ts
root_bounds options n t a b (unread why) = record { outcome = failed why; holds = ARoot.in_bounds n why t a b }
root_bounds options n t a b (read bounds (lexeme.Semicolon s ∷ rest)) = record { outcome = _; holds = ARoot.root n s t a b }
root_bounds options n t a b (read bounds (lexeme.Equals e ∷ rest)) = record { outcome = _; holds = ARoot.initialised n e t a b }
root_bounds options n t a b (read bounds []) = record { outcome = unexpected []; holds = ARoot.not_ended n t a b refl refl }
root_bounds options n t a b (read bounds (u ∷ us)) = record { outcome = unexpected (u ∷ us); holds = ARoot.not_ended n t a b refl refl }

root_name : (options : List RawOption) {ts us : List Lexeme} {type : RawType} {stars : Stars} (vs : List Lexeme) → AType Elsewhere ts (Read type us)
    → AreStars us stars vs → Has (ARoot options) ts
root_name options (lexeme.Name n ∷ vs) t a = root_bounds options n t a (bounds_has vs).holds (comes (bounds_has vs).outcome)
root_name options [] t a = record { outcome = unexpected []; holds = ARoot.no_name t a refl }
root_name options (u ∷ us) t a = record { outcome = unexpected (u ∷ us); holds = ARoot.no_name t a refl }

root_type : (options : List RawOption) {ts : List Lexeme} {o : Outcome RawType} → AType Elsewhere ts o → Comes o → Has (ARoot options) ts
root_type options t (unread why) = record { outcome = failed why; holds = ARoot.in_type why t }
root_type options t (read type us) = root_name options (stars_has us).following t (stars_has us).are

root_has : (options : List RawOption) (ts : List Lexeme) → Has (ARoot options) ts
root_has options ts = root_type options (type_has Elsewhere ts).holds (comes (type_has Elsewhere ts).outcome)

-- ---- maps

pointed-one : {ts : List Lexeme} {o : Outcome PointedType} → APointed ts o → o ≡ pointed_at ts
unfolding pointed_at
pointed-one (APointed.pointed t a) = rw (← type-one t, stars-one a) refl
pointed-one (APointed.in_type why t) = rw (← type-one t) (sym (failed_step why _))

pointed_type : {ts : List Lexeme} {o : Outcome RawType} → AType Elsewhere ts o → Comes o → Has APointed ts
pointed_type t (unread why) = record { outcome = failed why; holds = APointed.in_type why t }
pointed_type t (read type us) = record { outcome = _; holds = APointed.pointed t (stars_has us).are }

pointed_has : (ts : List Lexeme) → Has APointed ts
pointed_has ts = pointed_type (type_has Elsewhere ts).holds (comes (type_has Elsewhere ts).outcome)

no_traits : (ts : List Lexeme) → begins is_comma ts ≡ false → traits_at ts ≡ Read tt ts
unfolding traits_at
no_traits [] h = refl
no_traits (lexeme.Comma s ∷ ts) h = absurd cc
no_traits (t ∷ ts) h = refl

traits-one : {ts : List Lexeme} {o : Outcome (Unit {0})} → Traits ts o → o ≡ traits_at ts
unfolding traits_at name_at
traits-one (Traits.named c n) = refl
traits-one (Traits.none {ts} h) = sym (no_traits ts h)
traits-one (Traits.no_name {ts} c h) = rw (no_name ts h) (sym (unexpected_step ts _))

traits_has : (ts : List Lexeme) → Has Traits ts
traits_has (lexeme.Comma c ∷ lexeme.Name n ∷ ts) = record { outcome = _; holds = Traits.named c n }
traits_has (lexeme.Comma c ∷ []) = record { outcome = unexpected []; holds = Traits.no_name c refl }
traits_has (lexeme.Comma c ∷ t ∷ ts) = record { outcome = unexpected (t ∷ ts); holds = Traits.no_name c refl }
traits_has [] = record { outcome = _; holds = Traits.none refl }
traits_has (t ∷ ts) = record { outcome = _; holds = Traits.none refl }

cache-one : {options : List RawOption} {ts : List Lexeme} {o : Outcome Item} → ACache options ts o → o ≡ cache_at options ts
unfolding cache_at cache_name_at name_at
cache-one (ACache.cache c g s n e k v t q h) = rw (← pointed-one k, ← pointed-one v, ← traits-one t, qualifiers-one q, h) refl
cache-one (ACache.no_cache c g s n k v t q h) = rw (← pointed-one k, ← pointed-one v, ← traits-one t, qualifiers-one q, h) refl
cache-one (ACache.in_key why k) = rw (← pointed-one k) (sym (failed_step why _))
cache-one (ACache.in_value c why k v) = rw (← pointed-one k, ← pointed-one v) (sym (failed_step why _))
cache-one (ACache.in_traits c why k v t) = rw (← pointed-one k, ← pointed-one v, ← traits-one t) (sym (failed_step why _))
cache-one (ACache.no_value {rest} k h) = rw (← pointed-one k, no_comma rest h) (sym (unexpected_step rest _))
cache-one (ACache.not_closed {rest} c k v t h) = rw (← pointed-one k, ← pointed-one v, ← traits-one t, no_greater rest h) (sym (unexpected_step rest _))
cache-one (ACache.no_star {rest} c g k v t h) = rw (← pointed-one k, ← pointed-one v, ← traits-one t, no_stars rest h) (sym (unexpected_step rest _))
cache-one (ACache.no_name {rest} c g s k v t q h) =
    rw (← pointed-one k, ← pointed-one v, ← traits-one t, qualifiers-one q, no_name rest h, unexpected_step, unexpected_step) refl
cache-one (ACache.not_ended {rest} c g s n k v t q h l) =
    rw (← pointed-one k, ← pointed-one v, ← traits-one t, qualifiers-one q, h, no_semicolon rest l) (sym (unexpected_step rest _))

-- a key, a value and what stands after them
record Map (ts ws : List Lexeme) : Type 0 where
  us : List Lexeme
  vs : List Lexeme
  key : PointedType
  value : PointedType
  comma : TokenText
  has_key : APointed ts (Read key (lexeme.Comma comma ∷ us))
  has_value : APointed us (Read value vs)
  has_traits : Traits vs (Read tt ws)

cache_end : (options : List RawOption) {ts ws : List Lexeme} (g s n : TokenText) (rest : List Lexeme) (is : Bool) → is_cache options ≡ is
    → Map ts (lexeme.Greater g ∷ lexeme.Star s ∷ ws) → Qualifiers ws (lexeme.Name n ∷ rest) → Has (ACache options) ts
cache_end options g s n rest false h m q = record { outcome = _; holds = ACache.no_cache m.comma g s n m.has_key m.has_value m.has_traits q h }
cache_end options g s n (lexeme.Semicolon e ∷ rest) true h m q = record { outcome = _; holds = ACache.cache m.comma g s n e m.has_key m.has_value m.has_traits q h }
cache_end options g s n [] true h m q = record { outcome = unexpected []; holds = ACache.not_ended m.comma g s n m.has_key m.has_value m.has_traits q h refl }
cache_end options g s n (u ∷ us) true h m q = record { outcome = unexpected (u ∷ us); holds = ACache.not_ended m.comma g s n m.has_key m.has_value m.has_traits q h refl }

cache_name : (options : List RawOption) {ts ws : List Lexeme} (g s : TokenText) (rest : List Lexeme)
    → Map ts (lexeme.Greater g ∷ lexeme.Star s ∷ ws) → Qualifiers ws rest → Has (ACache options) ts
cache_name options g s (lexeme.Name n ∷ rest) m q = cache_end options g s n rest (is_cache options) refl m q
cache_name options g s [] m q = record { outcome = unexpected []; holds = ACache.no_name m.comma g s m.has_key m.has_value m.has_traits q refl }
cache_name options g s (u ∷ us) m q = record { outcome = unexpected (u ∷ us); holds = ACache.no_name m.comma g s m.has_key m.has_value m.has_traits q refl }

cache_closed : (options : List RawOption) {ts : List Lexeme} (ws : List Lexeme) → Map ts ws → Has (ACache options) ts
cache_closed options (lexeme.Greater g ∷ lexeme.Star s ∷ ws) m = cache_name options g s (qualifiers_has ws).following m (qualifiers_has ws).qualifiers
cache_closed options (lexeme.Greater g ∷ []) m = record { outcome = unexpected []; holds = ACache.no_star m.comma g m.has_key m.has_value m.has_traits refl }
cache_closed options (lexeme.Greater g ∷ u ∷ us) m = record { outcome = unexpected (u ∷ us); holds = ACache.no_star m.comma g m.has_key m.has_value m.has_traits refl }
cache_closed options [] m = record { outcome = unexpected []; holds = ACache.not_closed m.comma m.has_key m.has_value m.has_traits refl }
cache_closed options (u ∷ us) m = record { outcome = unexpected (u ∷ us); holds = ACache.not_closed m.comma m.has_key m.has_value m.has_traits refl }

cache_traits : (options : List RawOption) {ts us vs : List Lexeme} {key value : PointedType} (c : TokenText) → APointed ts (Read key (lexeme.Comma c ∷ us)) → APointed us (Read value vs)
    → {o : Outcome (Unit {0})} → Traits vs o → Comes o → Has (ACache options) ts
cache_traits options c k v t (unread why) = record { outcome = failed why; holds = ACache.in_traits c why k v t }
cache_traits options c k v t (read x ws) =
    cache_closed options ws (record { us = _; vs = _; key = _; value = _; comma = c; has_key = k; has_value = v; has_traits = t })

cache_value : (options : List RawOption) {ts us : List Lexeme} {key : PointedType} (c : TokenText) → APointed ts (Read key (lexeme.Comma c ∷ us))
    → {o : Outcome PointedType} → APointed us o → Comes o → Has (ACache options) ts
cache_value options c k v (unread why) = record { outcome = failed why; holds = ACache.in_value c why k v }
cache_value options c k v (read value vs) = cache_traits options c k v (traits_has vs).holds (comes (traits_has vs).outcome)

cache_key : (options : List RawOption) {ts : List Lexeme} {o : Outcome PointedType} → APointed ts o → Comes o → Has (ACache options) ts
cache_key options k (unread why) = record { outcome = failed why; holds = ACache.in_key why k }
cache_key options k (read key (lexeme.Comma c ∷ us)) = cache_value options c k (pointed_has us).holds (comes (pointed_has us).outcome)
cache_key options k (read key []) = record { outcome = unexpected []; holds = ACache.no_value k refl }
cache_key options k (read key (u ∷ us)) = record { outcome = unexpected (u ∷ us); holds = ACache.no_value k refl }

cache_has : (options : List RawOption) (ts : List Lexeme) → Has (ACache options) ts
cache_has options ts = cache_key options (pointed_has ts).holds (comes (pointed_has ts).outcome)

-- ---- globals

no_map : (options : List RawOption) (ts : List Lexeme) → begins_map ts ≡ false → after_marker_at options ts ≡ root_at options ts
unfolding after_marker_at
no_map options (lexeme.Name s ∷ lexeme.Less l ∷ ts) h = rw h refl
no_map options [] h = refl
no_map options (lexeme.Name s ∷ []) h = refl
no_map options (lexeme.Name s ∷ t ∷ ts) h = refl
no_map options (t ∷ ts) h = refl

global-one : {ts : List Lexeme} {o : Outcome Item} → AGlobal ts o → o ≡ global_at ts
unfolding global_at after_marker_at
global-one (AGlobal.root {us} {options} m h r) = rw (← marker-one m, no_map options us h) (root-one r)
global-one (AGlobal.cache s l m h c) = rw (← marker-one m, h) (cache-one c)
global-one (AGlobal.in_marker why m) = rw (← marker-one m) (sym (failed_step why _))

global_root : {ts us : List Lexeme} {options : List RawOption} → Marker ts (Read options us) → begins_map us ≡ false → Has AGlobal ts
global_root {us} {options} m h = record { outcome = _; holds = AGlobal.root m h (root_has options us).holds }

global_map : {ts us : List Lexeme} {options : List RawOption} (s l : TokenText) (is : Bool) → bytes_eq s.word (codes "hash_map") ≡ is
    → Marker ts (Read options (lexeme.Name s ∷ lexeme.Less l ∷ us)) → Has AGlobal ts
global_map {us} {options} s l true h m = record { outcome = _; holds = AGlobal.cache s l m h (cache_has options us).holds }
global_map s l false h m = global_root m h

global_marker : {ts : List Lexeme} {o : Outcome (List RawOption)} → Marker ts o → Comes o → Has AGlobal ts
global_marker m (unread why) = record { outcome = failed why; holds = AGlobal.in_marker why m }
global_marker m (read options (lexeme.Name s ∷ lexeme.Less l ∷ us)) = global_map s l (bytes_eq s.word (codes "hash_map")) refl m
global_marker m (read options []) = global_root m refl
global_marker m (read options (lexeme.Name s ∷ [])) = global_root m refl
global_marker m (read options (lexeme.Name s ∷ u ∷ us)) = global_root m refl
global_marker m (read options (u ∷ us)) = global_root m refl

global_has : (ts : List Lexeme) → Has AGlobal ts
global_has ts = global_marker (marker_has ts).holds (comes (marker_has ts).outcome)

-- ---- marked items

no_keyword_at : (ts : List Lexeme) → begins is_structure ts ≡ false → typedef_structure_at ts ≡ unexpected ts
unfolding typedef_structure_at
no_keyword_at [] h = refl
no_keyword_at (lexeme.Tag keyword.Struct s ∷ ts) h = absurd cc
no_keyword_at (lexeme.Tag keyword.Union s ∷ ts) h = absurd cc
no_keyword_at (t ∷ ts) h = refl

no_beginning_at : (ts : List Lexeme) → begins begins_marked ts ≡ false → marked_at ts ≡ unexpected ts
unfolding marked_at
no_beginning_at [] h = refl
no_beginning_at (lexeme.Typedef s ∷ ts) h = absurd cc
no_beginning_at (lexeme.Tag keyword.Struct s ∷ ts) h = absurd cc
no_beginning_at (lexeme.Tag keyword.Union s ∷ ts) h = absurd cc
no_beginning_at (lexeme.Static s ∷ ts) h = absurd cc
no_beginning_at (lexeme.Extern s ∷ ts) h = absurd cc
no_beginning_at (lexeme.Reserved s ∷ ts) h = absurd cc
no_beginning_at (lexeme.Gty s ∷ ts) h = absurd cc
no_beginning_at (t ∷ ts) h = refl

marked-one : {ts : List Lexeme} {o : Outcome Item} → MarkedItem ts o → o ≡ marked_at ts
unfolding marked_at typedef_structure_at
marked-one (MarkedItem.structure s d) = structure-one d
marked-one (MarkedItem.union s d) = structure-one d
marked-one (MarkedItem.typedef_structure t s d) = structure-one d
marked-one (MarkedItem.typedef_union t s d) = structure-one d
marked-one (MarkedItem.static_global s d) = global-one d
marked-one (MarkedItem.extern_global s d) = global-one d
marked-one (MarkedItem.unsupported s h) = rw h refl
marked-one (MarkedItem.bad_place s) = refl
marked-one (MarkedItem.no_keyword {ts} t h) = sym (no_keyword_at ts h)
marked-one (MarkedItem.namespace s h) = rw h refl
marked-one (MarkedItem.no_beginning {ts} h) = sym (no_beginning_at ts h)

reserved_has : (s : TokenText) (ts : List Lexeme) (is : Bool) → bytes_eq s.word (codes "namespace") ≡ is → Has MarkedItem (lexeme.Reserved s ∷ ts)
reserved_has s ts true h = record { outcome = _; holds = MarkedItem.namespace s h }
reserved_has s ts false h = record { outcome = _; holds = MarkedItem.unsupported s h }

pub marked_has : (ts : List Lexeme) → Has MarkedItem ts
marked_has (lexeme.Typedef t ∷ lexeme.Tag keyword.Struct s ∷ ts) = record { outcome = _; holds = MarkedItem.typedef_structure t s (structure_has true false ts).holds }
marked_has (lexeme.Typedef t ∷ lexeme.Tag keyword.Union s ∷ ts) = record { outcome = _; holds = MarkedItem.typedef_union t s (structure_has true true ts).holds }
marked_has (lexeme.Typedef t ∷ []) = record { outcome = unexpected []; holds = MarkedItem.no_keyword t refl }
marked_has (lexeme.Typedef t ∷ u ∷ us) = record { outcome = unexpected (u ∷ us); holds = MarkedItem.no_keyword t refl }
marked_has (lexeme.Tag keyword.Struct s ∷ ts) = record { outcome = _; holds = MarkedItem.structure s (structure_has false false ts).holds }
marked_has (lexeme.Tag keyword.Union s ∷ ts) = record { outcome = _; holds = MarkedItem.union s (structure_has false true ts).holds }
marked_has (lexeme.Static s ∷ ts) = record { outcome = _; holds = MarkedItem.static_global s (global_has ts).holds }
marked_has (lexeme.Extern s ∷ ts) = record { outcome = _; holds = MarkedItem.extern_global s (global_has ts).holds }
marked_has (lexeme.Reserved s ∷ ts) = reserved_has s ts (bytes_eq s.word (codes "namespace")) refl
marked_has (lexeme.Gty s ∷ ts) = record { outcome = _; holds = MarkedItem.bad_place s }
marked_has [] = record { outcome = unexpected []; holds = MarkedItem.no_beginning refl }
marked_has (t ∷ ts) = record { outcome = unexpected (t ∷ ts); holds = MarkedItem.no_beginning refl }

pub marked-alone : (ts : List Lexeme) (o : Outcome Item) → MarkedItem ts o → o ≡ marked_at ts
marked-alone ts o d = marked-one d

pub marked-allowed : (ts : List Lexeme) → MarkedItem ts (marked_at ts)
marked-allowed = allowed MarkedItem marked_at marked-alone marked_has
