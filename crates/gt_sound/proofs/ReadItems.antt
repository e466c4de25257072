-- What items are read as is well made.
use Rattle.std.proofs.Common.{◌≡◌, ℕ, Bool, List, [], ◌∷◌, Option, Some, None, Ok, subst}
use Rattle.std.specs.Prelude.{All, IfSome}
use Rattle.std.proofs.lemmas.List.Elements.{All-nil, All-cons}
use Rattle.gt_types.specs.Names.{IsName}
use Rattle.gt_search.specs.declared.lexeme.Lexeme.{Lexeme}
use Rattle.gt_search.specs.declared.lexeme.Lexeme.TheVariants as lexeme
use Rattle.gt_marked.specs.Outcome.{Outcome, Read, Stops, Ends}
use Rattle.gt_expr.specs.declared.raw.RawExpr.{RawExpr}
use Rattle.gt_expr.specs.Expression.{IsExpression, expression_of}
use Rattle.gt_items.specs.declared.items.Alias.{Alias}
use Rattle.gt_items.specs.declared.items.Item.{Item}
use Rattle.gt_items.specs.declared.items.Keyword.{Keyword}
use Rattle.gt_items.specs.declared.items.Meaning.{Meaning}
use Rattle.gt_items.specs.declared.items.Name.{Name}
use Rattle.gt_items.specs.declared.items.PointedType.{PointedType}
use Rattle.gt_items.specs.declared.items.RawEnum.{RawEnum}
use Rattle.gt_items.specs.declared.items.RawOption.{RawOption}
use Rattle.gt_parse.specs.ItemGrammar.{EnumBody, UnmarkedEnum, HasBody, HasMeaning, Aliases, FirstForm, StarredName, LastName, UnmarkedTypedef, UnmarkedItem, AnItem}
use Rattle.gt_marked.specs.MarkedGrammar.{TagAndMarker, AnAlias, AStructure, ARoot, APointed, Traits, ACache, AGlobal, MarkedItem}
use Rattle.gt_marked.specs.MarkerGrammar.{Failure, Fault, Early, failed}
use Rattle.gt_search.specs.declared.lexeme.Bracket.TheVariants.{Round}
use Rattle.gt_parse.specs.Unmarked.{opaque_typedef}
use Rattle.gt_markers.specs.Sound.{AreWellFormed}
use Rattle.gt_sound.specs.WellMade.{IsWellMadeItem}
use Rattle.gt_sound.proofs.ReadMarkers.{AreNamed, Keeps, failed_keeps, unexpected_keeps, named_right, qualifiers_read, stars_read, marker_read, type_read}
use Rattle.gt_sound.proofs.ReadFields.{bounds_read, fields_read}

abbrev IsTag : Name × List RawOption → Type 0
IsTag tag = IsName tag.0.word × AreWellFormed tag.1

abbrev IsAlias : Alias → Type 0
IsAlias alias = IsName alias.name.word

abbrev IsAnyPointed : PointedType → Type 0
IsAnyPointed type = Unit {0}

abbrev IsAnyTrait : Unit {0} → Type 0
IsAnyTrait trait = Unit {0}

-- ---- marked items

pub alias_read : {ts : List Lexeme} {o : Outcome Alias} → AnAlias ts o → AreNamed ts → Keeps IsAlias o
alias_read (AnAlias.alias n h1) named = stars_read h1 named
alias_read (AnAlias.no_name {rest = rest} h1 h2) named = unexpected_keeps IsAlias rest

pub pointed_read : {ts : List Lexeme} {o : Outcome PointedType} → APointed ts o → AreNamed ts → Keeps IsAnyPointed o
pointed_read (APointed.pointed h1 h2) named = (tt, stars_read h2 (type_read h1 named).1)
pointed_read (APointed.in_type why h1) named = failed_keeps IsAnyPointed why

pub traits_read : {ts : List Lexeme} {o : Outcome (Unit {0})} → Traits ts o → AreNamed ts → Keeps IsAnyTrait o
traits_read (Traits.named c n) named = (tt, named.1.1)
traits_read (Traits.none h1) named = (tt, named)
traits_read (Traits.no_name {ts = ts} c h1) named = unexpected_keeps IsAnyTrait ts

root_read : (options : List RawOption) → AreWellFormed options → {ts : List Lexeme} {o : Outcome Item} → ARoot options ts o → AreNamed ts → Keeps IsWellMadeItem o
root_read options formed (ARoot.root n s h1 h2 h3) named = let t = type_read h1 named in let p = stars_read h2 t.1 in let b = bounds_read h3 p.1 in ((p.0, formed), b.1.1)
root_read options formed (ARoot.initialised n e h1 h2 h3) named = let t = type_read h1 named in let p = stars_read h2 t.1 in ((p.0, formed), tt)
root_read options formed (ARoot.in_type why h1) named = failed_keeps IsWellMadeItem why
root_read options formed (ARoot.in_bounds n why h1 h2 h3) named = failed_keeps IsWellMadeItem why
root_read options formed (ARoot.no_name {rest = rest} h1 h2 h3) named = unexpected_keeps IsWellMadeItem rest
root_read options formed (ARoot.not_ended {rest = rest} n h1 h2 h3 h4 h5) named = unexpected_keeps IsWellMadeItem rest

cache_read : (options : List RawOption) → AreWellFormed options → {ts : List Lexeme} {o : Outcome Item} → ACache options ts o → AreNamed ts → Keeps IsWellMadeItem o
cache_read options formed (ACache.cache c g s n e h1 h2 h3 h4 h5) named = let k = pointed_read h1 named in let v = pointed_read h2 k.1.1 in let t = traits_read h3 v.1 in let q = qualifiers_read h4 t.1.1.1 in (q.0, q.1.1)
cache_read options formed (ACache.no_cache c g s n h1 h2 h3 h4 h5) named = tt
cache_read options formed (ACache.in_key why h1) named = failed_keeps IsWellMadeItem why
cache_read options formed (ACache.in_value c why h1 h2) named = failed_keeps IsWellMadeItem why
cache_read options formed (ACache.in_traits c why h1 h2 h3) named = failed_keeps IsWellMadeItem why
cache_read options formed (ACache.no_value {rest = rest} h1 h2) named = unexpected_keeps IsWellMadeItem rest
cache_read options formed (ACache.not_closed {rest = rest} c h1 h2 h3 h4) named = unexpected_keeps IsWellMadeItem rest
cache_read options formed (ACache.no_star {rest = rest} c g h1 h2 h3 h4) named = unexpected_keeps IsWellMadeItem rest
cache_read options formed (ACache.no_name {rest = rest} c g s h1 h2 h3 h4 h5) named = unexpected_keeps IsWellMadeItem rest
cache_read options formed (ACache.not_ended {rest = rest} c g s n h1 h2 h3 h4 h5 h6) named = unexpected_keeps IsWellMadeItem rest

module _ (law : (text : List ℕ) (t : RawExpr) → expression_of text ≡ Ok t → IsExpression text t) where
  pub tag_read : {ts : List Lexeme} {o : Outcome (Name × List RawOption)} → TagAndMarker ts o → AreNamed ts → Keeps IsTag o
  tag_read (TagAndMarker.marker_first a n h1) named = let r = marker_read law h1 named in ((r.1.0, r.0), r.1.1)
  tag_read (TagAndMarker.name_first n a h1) named = let r = marker_read law h1 named.1 in ((named.0, r.0), r.1)
  tag_read (TagAndMarker.base_class n c) named = tt
  tag_read (TagAndMarker.in_first a why h1) named = failed_keeps IsTag why
  tag_read (TagAndMarker.in_second n a why h1) named = failed_keeps IsTag why
  tag_read (TagAndMarker.no_name {rest = rest} a h1 h2) named = unexpected_keeps IsTag rest
  tag_read (TagAndMarker.no_marker {ts = ts} n h1 h2) named = unexpected_keeps IsTag ts
  tag_read (TagAndMarker.neither {ts = ts} h1 h2) named = unexpected_keeps IsTag ts

  pub structure_read : {has_alias is_union : Bool} {ts : List Lexeme} {o : Outcome Item} → AStructure has_alias is_union ts o → AreNamed ts → Keeps IsWellMadeItem o
  structure_read (AStructure.structure b s h1 h2) named = let r = tag_read h1 named in let f = fields_read law h2 r.1.1 in (record { tag = r.0.0; options = r.0.1; some = f.0.0; fields = f.0.1; alias = tt }, f.1.1)
  structure_read (AStructure.with_alias b s h1 h2 h3) named = let r = tag_read h1 named in let f = fields_read law h2 r.1.1 in let a = alias_read h3 f.1 in (record { tag = r.0.0; options = r.0.1; some = f.0.0; fields = f.0.1; alias = a.0 }, a.1.1)
  structure_read (AStructure.base_class c h1) named = tt
  structure_read (AStructure.in_tag why h1) named = failed_keeps IsWellMadeItem why
  structure_read (AStructure.in_fields b why h1 h2) named = failed_keeps IsWellMadeItem why
  structure_read (AStructure.in_alias b why h1 h2 h3) named = failed_keeps IsWellMadeItem why
  structure_read (AStructure.no_body {rest = rest} h1 h2 h3) named = unexpected_keeps IsWellMadeItem rest
  structure_read (AStructure.not_ended {rest = rest} b h1 h2 h3) named = unexpected_keeps IsWellMadeItem rest
  structure_read (AStructure.alias_not_ended {rest = rest} b h1 h2 h3 h4) named = unexpected_keeps IsWellMadeItem rest

  pub global_read : {ts : List Lexeme} {o : Outcome Item} → AGlobal ts o → AreNamed ts → Keeps IsWellMadeItem o
  global_read (AGlobal.root {options = options} h1 h2 h3) named = let r = marker_read law h1 named in root_read options r.0 h3 r.1
  global_read (AGlobal.cache {options = options} s l h1 h2 h3) named = let r = marker_read law h1 named in cache_read options r.0 h3 r.1.1.1
  global_read (AGlobal.in_marker why h1) named = failed_keeps IsWellMadeItem why

  pub marked_read : {ts : List Lexeme} {o : Outcome Item} → MarkedItem ts o → AreNamed ts → Keeps IsWellMadeItem o
  marked_read (MarkedItem.structure s h1) named = structure_read h1 named.1
  marked_read (MarkedItem.union s h1) named = structure_read h1 named.1
  marked_read (MarkedItem.typedef_structure t s h1) named = structure_read h1 named.1.1
  marked_read (MarkedItem.typedef_union t s h1) named = structure_read h1 named.1.1
  marked_read (MarkedItem.static_global s h1) named = global_read h1 named.1
  marked_read (MarkedItem.extern_global s h1) named = global_read h1 named.1
  marked_read (MarkedItem.unsupported s h1) named = tt
  marked_read (MarkedItem.bad_place s) named = tt
  marked_read (MarkedItem.no_keyword {ts = ts} t h1) named = unexpected_keeps IsWellMadeItem ts
  marked_read (MarkedItem.namespace s h1) named = tt
  marked_read (MarkedItem.no_beginning {ts = ts} h1) named = unexpected_keeps IsWellMadeItem ts

-- ---- unmarked items

enum_read : {tag : Option Name} {ts rest : List Lexeme} {found : RawEnum} → EnumBody tag ts found rest → AreNamed ts → AreNamed rest
enum_read (EnumBody.body {inside} {rest} b c h k) named = (named_right inside (lexeme.Close b c ∷ rest) named).1

body_read : {k : Keyword} {tag : Option Name} {ts rest : List Lexeme} {means : Meaning} → HasBody k tag ts means rest → AreNamed ts → AreNamed rest
body_read (HasBody.fields {inside = inside} {ts = ts} b c h free q) named = qualifiers_read q (named_right inside (lexeme.Close b c ∷ ts) named).1
body_read (HasBody.constants e q) named = qualifiers_read q (enum_read e named)

meaning_read : {ts rest : List Lexeme} {means : Meaning} → HasMeaning ts means rest → AreNamed ts → AreNamed rest
meaning_read (HasMeaning.type t) named = (type_read t named).1
meaning_read (HasMeaning.untagged k t o p q b) named = body_read b (qualifiers_read q (qualifiers_read p named).1).1
meaning_read (HasMeaning.tagged k t n o p q r b) named = body_read b (qualifiers_read r (qualifiers_read q (qualifiers_read p named).1).1).1

aliases_read : {ts : List Lexeme} {names : List Alias} → Aliases ts names → AreNamed ts → All IsAlias names
aliases_read (Aliases.last {stars = stars} n s a) named = All-cons IsAlias _ [] (stars_read a named).0 (All-nil IsAlias)
aliases_read (Aliases.more {stars = stars} {others = others} n c a next) named =
    let r = stars_read a named in All-cons IsAlias _ others r.0 (aliases_read next r.1.1)

starred_read : {ts : List Lexeme} {found : Option Name} → StarredName ts found → AreNamed ts → IfSome found (λ n. IsName n.word)
starred_read (StarredName.name n) named = named.0
starred_read (StarredName.star s more) named = starred_read more named.1
starred_read (StarredName.qualifier s more) named = starred_read more named.1
starred_read (StarredName.no_name h) named = tt

last_read : {ts : List Lexeme} {found : Option Name} → LastName ts found → AreNamed ts → IfSome found (λ n. IsName n.word)
last_read (LastName.name front {following = following} n h none) named = (named_right front (lexeme.Name n ∷ following) named).0
last_read (LastName.no_name h) named = tt

opaque_read : (found : Option Name) → IfSome found (λ n. IsName n.word) → IfSome (opaque_typedef found) IsWellMadeItem
opaque_read None h = tt
opaque_read (Some name) h = All-cons IsAlias _ [] h (All-nil IsAlias)

typedef_read : {ts : List Lexeme} {found : Option Item} → UnmarkedTypedef ts found → AreNamed ts → IfSome found IsWellMadeItem
typedef_read (UnmarkedTypedef.first_form (FirstForm.first_form means names)) named = aliases_read names (meaning_read means named)
typedef_read (UnmarkedTypedef.pointer {found = found} h p is) named =
    opaque_read found (starred_read is (named_right p.front (lexeme.Open Round p.bracket ∷ lexeme.Star p.star ∷ p.following) (subst AreNamed p.parts named)).1.1)
typedef_read (UnmarkedTypedef.other {found = found} h p is) named = opaque_read found (last_read is named)

unmarked_enum_read : {ts : List Lexeme} {found : Option Item} → UnmarkedEnum ts found → IfSome found IsWellMadeItem
unmarked_enum_read (UnmarkedEnum.untagged o h) = tt
unmarked_enum_read (UnmarkedEnum.tagged n o h) = tt
unmarked_enum_read (UnmarkedEnum.no_body h) = tt
unmarked_enum_read (UnmarkedEnum.untagged_not_closed o h) = tt
unmarked_enum_read (UnmarkedEnum.tagged_not_closed n o h) = tt

unmarked_read : {ts : List Lexeme} {found : Option Item} → UnmarkedItem ts found → AreNamed ts → IfSome found IsWellMadeItem
unmarked_read (UnmarkedItem.a_typedef t h) named = typedef_read h named.1
unmarked_read (UnmarkedItem.an_enum t h) named = unmarked_enum_read h
unmarked_read (UnmarkedItem.skipped h) named = tt

abbrev pub KeepsItem : Outcome (Option Item) → Type 0
KeepsItem (Read found following) = IfSome found IsWellMadeItem
KeepsItem (Stops number at) = Unit {0}
KeepsItem Ends = Unit {0}

failed_item : (why : Failure) → KeepsItem (failed why)
failed_item (Fault number at) = tt
failed_item Early = tt

pub item_read : (law : (text : List ℕ) (t : RawExpr) → expression_of text ≡ Ok t → IsExpression text t) {ts : List Lexeme} {o : Outcome (Option Item)} → AnItem ts o → AreNamed ts → KeepsItem o
item_read law (AnItem.marked h m) named = (marked_read law m named).0
item_read law (AnItem.in_marked why h m) named = failed_item why
item_read law (AnItem.unmarked h m) named = unmarked_read m named
item_read law (AnItem.bad_place front following g h k) named = tt
