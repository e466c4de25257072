-- A part is served by the same walk wherever it lies.
use Rattle.std.proofs.Common.{◌≡◌, ℕ, Bool, true, false, ◌||◌, cond, Option, Some, None, List, refl, ap, sym, subst, ◌∙◌}
use Rattle.std.specs.Prelude.{Contains, All, IsTrue, slice_get, filter_map, option_to_list}
use Rattle.std.proofs.lemmas.Option.{same_Some, slice_get_within, get_or_from_slice_get}
use Rattle.std.proofs.lemmas.List.Elements.{All-head, All-tail, Contains-append_left, Contains-append_right}
use Rattle.gt_types.specs.declared.expressions.Expr.{Expr}
use Rattle.gt_types.specs.declared.types.TypeId.{TypeId}
use Rattle.gt_types.specs.declared.types.Target.{Target}
use Rattle.gt_types.specs.declared.types.Target.TheVariants as target
use Rattle.gt_types.specs.declared.types.PtrKind.TheVariants as kind
use Rattle.gt_types.specs.declared.types.Ty.{Ty, out-Ty}
use Rattle.gt_types.specs.declared.types.Ty.TheFolds.{fold_out-Ty, map-Ty}
use Rattle.gt_types.specs.declared.types.Ty.TheOpen as part
use Rattle.gt_types.specs.declared.types.Ty.TheVariants as ty
use Rattle.gt_types.specs.declared.types.Ty.TheVariants.{outs-Ptr}
use Rattle.gt_types.specs.declared.program.Field.{Field}
use Rattle.gt_types.specs.declared.program.Structure.{Structure}
use Rattle.gt_types.specs.declared.program.Program.{Program}
use Rattle.gt_types.specs.Shapes.{innermost, count_of, is_element, is_element_step}
use Rattle.gt_types.specs.Contains.{HasStructure, itself}
use Rattle.gt_types.specs.Paths.{IsInner, NamesOuter, own_expressions}
use Rattle.gt_types.specs.Settled.{Settled}
use Rattle.gt_layout.specs.declared.planes.Layouts.{Layouts}
use Rattle.gt_layout.specs.declared.planes.FieldSpot.{FieldSpot}
use Rattle.gt_tree.specs.Fits.{types_of}
use Rattle.gt_tree.specs.LeafLaws.{IsTypeIn}
use Rattle.gt_tree.proofs.Types.{innermost-node}
use Rattle.gt_tree.proofs.FixedScopes.{innermost-array, innermost-tail, count-tail}
use Rattle.gt_tree.proofs.FixedTypes.{sound, sound_at, sound-element}
use Rattle.gt_walk.specs.declared.rows.RowExpr.{RowExpr}
use Rattle.gt_walk.specs.declared.rows.Arm.{Arm}
use Rattle.gt_walk.specs.declared.rows.WalkRow.{WalkRow}
use Rattle.gt_walk.specs.declared.tables.Tables.{Tables}
use Rattle.gt_edges.specs.Walks.{Around, first_of, inside, IsDescExpr, IsPointerRow, IsRowOf, IsPartOf, AreRowsOf, AreFieldRows, AreArmsOf}
use Rattle.gt_tables.specs.Sharing.{ReadsOutermost, NamesOutermost, expressions_in, desc_in}
use Rattle.gt_tables.specs.declared.sources.Lies.{Lies}
use Rattle.gt_tables.specs.declared.sources.Site.{Site}
use Rattle.gt_tables.specs.declared.sources.Part.{Part}
use Rattle.gt_tables.specs.declared.sources.Source.{Source}
use Rattle.gt_tables.specs.Building.{IsSource, flag_at, around_of, IsPlaced, IsSiteOf, part_of, part_at, part_on_site, depends, outermost_if, reader_of}
use Rattle.gt_tables.proofs.Elements.{all-of, all-map, given-in}
use Rattle.gt_tables.proofs.Bases.{SameBases, agrees, same-expr}

-- ---- where rows are the same

-- two places inside a structure agree on what its rows depend on
pub record AreAlike (program : Program) (a b : Around) (node : TypeId) : Type 0 where
  pub here : a.here ≡ b.here
  pub outer : IsInner program node → a.outer ≡ b.outer
  pub outermost : ReadsOutermost program node → a.outermost ≡ b.outermost

-- and on what the `desc` depends on that it has from where it lies
pub record AreAlikeInside (program : Program) (a b : Around) (node : TypeId) (desc : Option Expr) : Type 0 where
  pub own : AreAlike program (inside a node) (inside b node) node
  pub given : (e : Expr) → desc ≡ Some e → SameBases (inside a node) (inside b node) e

-- two places agree on what the row of a type depends on
pub record AreAlikeAt (program : Program) (a b : Around) (type : Ty) : Type 0 where
  pub shape : IsTrue (sound_at (out-Ty type))
  pub count : (e : Expr) → count_of type ≡ Some e → SameBases a b e
  pub parts : (node : TypeId) (desc : Option Expr) → innermost type ≡ ty.Node node desc → AreAlikeInside program a b node desc

module _ (program : Program) (settled : Settled program) where
  count-in : (s : Structure) (f : Field) (e : Expr) → Contains s.fields f → count_of f.ty ≡ Some e → Contains (own_expressions s) e
  count-in s f e c is = Contains-append_left (filter_map (λ f. count_of f.ty) s.fields) (option_to_list s.desc) e (given-in (λ f. count_of f.ty) s.fields f e c is)

  own-in : (s : Structure) (e : Expr) → Contains (own_expressions s) e → Contains (expressions_in s) e
  own-in s e c = Contains-append_left (own_expressions s) (filter_map (λ f. desc_in (innermost f.ty)) s.fields) e c

  desc-in : (s : Structure) (f : Field) (e : Expr) → Contains s.fields f → desc_in (innermost f.ty) ≡ Some e → Contains (expressions_in s) e
  desc-in s f e c is = Contains-append_right (own_expressions s) (filter_map (λ f. desc_in (innermost f.ty)) s.fields) e (given-in (λ f. desc_in (innermost f.ty)) s.fields f e c is)

  pub reads-own : (node : TypeId) (s : Structure) (e : Expr) → HasStructure program node s → Contains (expressions_in s) e → NamesOutermost e → ReadsOutermost program node
  reads-own node s e has c names = ReadsOutermost.in_own has (c.0, e, c.1, c.2, names)

  pub inner-own : (node : TypeId) (s : Structure) (e : Expr) → HasStructure program node s → Contains (own_expressions s) e → NamesOuter e → IsInner program node
  inner-own node s e has c names = (s, has, (c.0, e, c.1, c.2, names))

  module _ (a b : Around) (node : TypeId) (s : Structure) (f : Field) (has : HasStructure program node s) (c : Contains s.fields f) (alike : AreAlike program a b node) where
    count-alike : (e : Expr) → count_of f.ty ≡ Some e → SameBases a b e
    count-alike e is =
        let own = count-in s f e c is in
        agrees a b e alike.here (λ names. alike.outer (inner-own node s e has own names)) (λ names. alike.outermost (reads-own node s e has (own-in s e own) names))

    outermost-alike : (next : TypeId) → ReadsOutermost program node → (inside a next).outermost ≡ (inside b next).outermost
    outermost-alike next reads = ap (λ o. Some (first_of o next)) (alike.outermost reads)

    desc-alike : (next : TypeId) (desc : Option Expr) → innermost f.ty ≡ ty.Node next desc → (e : Expr) → desc ≡ Some e → SameBases (inside a next) (inside b next) e
    desc-alike next desc is e some =
        let own = desc-in s f e c (ap desc_in is ∙ some) in
        agrees (inside a next) (inside b next) e refl (λ names. alike.here) (λ names. outermost-alike next (reads-own node s e has own names))

    part-alike : (next : TypeId) (desc : Option Expr) → innermost f.ty ≡ ty.Node next desc → AreAlikeInside program a b next desc
    part-alike next desc is = record {
      own = record {
        here = refl;
        outer = λ inner. alike.here;
        outermost = λ reads. outermost-alike next (ReadsOutermost.in_part (s, f, has, c, ap itself is) reads);
      };
      given = desc-alike next desc is;
    }

    -- a field of a structure
    pub field-alike : AreAlikeAt program a b f.ty
    field-alike = record { shape = sound program settled (IsTypeIn.of_field node s f has c); count = count-alike; parts = part-alike }

-- ---- the same rows

-- an element has no length
element-pointer : (t : Target) (len : Expr) (reorder : Bool) → is_element (ty.Ptr (Some t) (kind.Length len) reorder) ≡ false
element-pointer t len reorder =
    fold_out-Ty Bool is_element_step (ty.Ptr (Some t) (kind.Length len) reorder)
    ∙ ap (λ x. is_element_step (map-Ty Ty Bool is_element x)) (outs-Ptr (Some t) (kind.Length len) reorder)
    ∙ layer t
  where
    layer : (t : Target) → is_element_step (part.Ptr (Some t) (kind.Length len) reorder) ≡ false
    layer (target.Node node) = refl
    layer (target.Pointers node) = refl
    layer target.Strings = refl

tail-no_element : (type elem : Ty) (len : Expr) → out-Ty type ≡ part.Tail len elem → is_element type ≡ false
tail-no_element type elem len e = fold_out-Ty Bool is_element_step type ∙ ap (λ x. is_element_step (map-Ty Ty Bool is_element x)) e

module _ (program : Program) (layouts : Layouts) (tables : Tables) (settled : Settled program) where
  pointer-same : {a : Around} {type : Ty} {offset : ℕ} {r : Option WalkRow} → IsPointerRow program layouts a type offset r → (b : Around) → ((e : Expr) → count_of type ≡ Some e → SameBases a b e)
      → IsPointerRow program layouts b type offset r
  pointer-same IsPointerRow.string b same = IsPointerRow.string
  pointer-same (IsPointerRow.single t) b same = IsPointerRow.single t
  pointer-same {a = a} (IsPointerRow.counted {t} {len} {e} is value) b same = IsPointerRow.counted is (same-expr program layouts a b len e (same len refl) value)
  pointer-same IsPointerRow.atomic b same = IsPointerRow.atomic
  pointer-same (IsPointerRow.nothing none) b same = IsPointerRow.nothing none
  pointer-same (IsPointerRow.missing none) b same = IsPointerRow.missing none

  element-same : {a : Around} {type : Ty} {offset : ℕ} {r : Option WalkRow} → IsPointerRow program layouts a type offset r → (b : Around) → IsTrue (is_element type) → IsPointerRow program layouts b type offset r
  element-same IsPointerRow.string b element = IsPointerRow.string
  element-same (IsPointerRow.single t) b element = IsPointerRow.single t
  element-same (IsPointerRow.counted {t} {len} {e} {reorder} is value) b element = let no = element-pointer t len reorder in absurd (cc)
  element-same IsPointerRow.atomic b element = IsPointerRow.atomic
  element-same (IsPointerRow.nothing none) b element = IsPointerRow.nothing none
  element-same (IsPointerRow.missing none) b element = IsPointerRow.missing none

  desc-same : (a b : Around) (desc : Option Expr) (r : RowExpr) → ((e : Expr) → desc ≡ Some e → SameBases a b e) → IsDescExpr program layouts a desc r → IsDescExpr program layouts b desc r
  desc-same a b (Some e) r same is = same-expr program layouts a b e r (same e refl) is
  desc-same a b None r same is = is

  fields-alike : (a b : Around) (node : TypeId) (s : Structure) → HasStructure program node s → AreAlike program a b node → All (λ f. AreAlikeAt program a b f.ty) s.fields
  fields-alike a b node s has alike = all-of (λ f. AreAlikeAt program a b f.ty) s.fields (λ f c. field-alike program settled a b node s f has c alike)

  types-alike : (a b : Around) (node : TypeId) (s : Structure) → HasStructure program node s → AreAlike program a b node → All (AreAlikeAt program a b) (types_of s.fields)
  types-alike a b node s has alike = all-map (λ f. f.ty) (AreAlikeAt program a b) s.fields (λ f c. field-alike program settled a b node s f has c alike)

  mutual
    pub rows-same : {a : Around} {node : TypeId} {desc : Option Expr} {rows : List WalkRow} → AreRowsOf program layouts tables a node desc rows → (b : Around) → AreAlike program a b node
        → ((e : Expr) → desc ≡ Some e → SameBases a b e) → AreRowsOf program layouts tables b node desc rows
    rows-same (AreRowsOf.struct {around} {node} {desc} {s} has kind laid fields) b alike given = AreRowsOf.struct has kind laid (fields-same fields b (types-alike around b node s has alike))
    rows-same (AreRowsOf.union {around} {node} {desc} {s} {e} arms has kind each some value) b alike given =
        AreRowsOf.union arms has kind (arms-same each b (fields-alike around b node s has alike)) some (desc-same around b desc e given value)
    rows-same (AreRowsOf.bare {around} {node} {desc} {s} has kind each none) b alike given = AreRowsOf.bare has kind (arms-same each b (fields-alike around b node s has alike)) none

    fields-same : {a : Around} {types : List Ty} {spots : List FieldSpot} {rows : List WalkRow} → AreFieldRows program layouts tables a types spots rows → (b : Around) → All (AreAlikeAt program a b) types
        → AreFieldRows program layouts tables b types spots rows
    fields-same AreFieldRows.none b all = AreFieldRows.none
    fields-same (AreFieldRows.more {around} {type} {types} row rest) b all =
        let P = AreAlikeAt program around b in AreFieldRows.more (row-same row b (All-head P type types all)) (fields-same rest b (All-tail P type types all))

    arms-same : {a : Around} {fields : List Field} {arms : List Arm} → AreArmsOf program layouts tables a fields arms → (b : Around) → All (λ f. AreAlikeAt program a b f.ty) fields
        → AreArmsOf program layouts tables b fields arms
    arms-same AreArmsOf.no_arms b all = AreArmsOf.no_arms
    arms-same (AreArmsOf.more_arms {around} {f} {fields} active row rest) b all =
        let P = λ (f : Field). AreAlikeAt program around b f.ty in AreArmsOf.more_arms active (row-same row b (All-head P f fields all)) (arms-same rest b (All-tail P f fields all))

    pub row-same : {a : Around} {type : Ty} {offset : ℕ} {r : Option WalkRow} → IsRowOf program layouts tables a type offset r → (b : Around) → AreAlikeAt program a b type
        → IsRowOf program layouts tables b type offset r
    row-same IsRowOf.number b alike = IsRowOf.number
    row-same IsRowOf.bits b alike = IsRowOf.bits
    row-same IsRowOf.opaque b alike = IsRowOf.opaque
    row-same (IsRowOf.pointer is) b alike = IsRowOf.pointer (pointer-same is b alike.count)
    row-same (IsRowOf.structure {around} {node} {desc} is) b alike = IsRowOf.structure (part-same is b (alike.parts node desc (innermost-node node desc)))
    row-same (IsRowOf.array {around} {type} {elem} {n} e row) b alike =
        IsRowOf.array e (elem-same row b (subst (λ x. IsTrue (sound_at x)) e alike.shape) (λ node desc is. alike.parts node desc (innermost-array type elem n e ∙ is)))
    row-same (IsRowOf.tail {around} {type} {elem} {len} {e = r} e value row) b alike =
        IsRowOf.tail e (same-expr program layouts around b len r (alike.count len (count-tail type elem len e)) value)
        (elem-same row b (subst (λ x. IsTrue (sound_at x)) e alike.shape) (λ node desc is. alike.parts node desc (innermost-tail type elem len e ∙ is)))

    elem-same : {a : Around} {type : Ty} {offset : ℕ} {r : Option WalkRow} → IsRowOf program layouts tables a type offset r → (b : Around) → IsTrue (is_element type)
        → ((node : TypeId) (desc : Option Expr) → innermost type ≡ ty.Node node desc → AreAlikeInside program a b node desc) → IsRowOf program layouts tables b type offset r
    elem-same IsRowOf.number b element parts = IsRowOf.number
    elem-same IsRowOf.bits b element parts = IsRowOf.bits
    elem-same IsRowOf.opaque b element parts = IsRowOf.opaque
    elem-same (IsRowOf.pointer is) b element parts = IsRowOf.pointer (element-same is b element)
    elem-same (IsRowOf.structure {around} {node} {desc} is) b element parts = IsRowOf.structure (part-same is b (parts node desc (innermost-node node desc)))
    elem-same (IsRowOf.array {around} {type} {elem} {n} e row) b element parts =
        IsRowOf.array e (elem-same row b (subst (λ x. IsTrue (sound_at x)) e (sound-element type element)) (λ node desc is. parts node desc (innermost-array type elem n e ∙ is)))
    elem-same (IsRowOf.tail {around} {type} {elem} {len} e value row) b element parts = let no = tail-no_element type elem len e in absurd (cc)

    pub part-same : {a : Around} {node : TypeId} {desc : Option Expr} {walk : Option ℕ} → IsPartOf program layouts tables a node desc walk → (b : Around) → AreAlikeInside program a b node desc
        → IsPartOf program layouts tables b node desc walk
    part-same (IsPartOf.walked {around} {node} late laid some is rows) b alike = IsPartOf.walked late laid some is (rows-same rows (inside b node) alike.own alike.given)
    part-same (IsPartOf.empty {around} {node} rows) b alike = IsPartOf.empty (rows-same rows (inside b node) alike.own alike.given)

-- ---- where parts are the same

-- a struct has no use for a `desc`
struct-desc : (program : Program) (layouts : Layouts) (tables : Tables) {a : Around} {node : TypeId} {desc : Option Expr} {rows : List WalkRow} (s : Structure) (other : Option Expr) → HasStructure program node s
    → s.is_union ≡ false → AreRowsOf program layouts tables a node desc rows → AreRowsOf program layouts tables a node other rows
struct-desc program layouts tables s other has is (AreRowsOf.struct there kind laid fields) = AreRowsOf.struct there kind laid fields
struct-desc program layouts tables s other has is (AreRowsOf.union {s = u} arms there kind each some value) = let same : u ≡ s = cc in absurd (cc)
struct-desc program layouts tables s other has is (AreRowsOf.bare {s = u} there kind each none) = let same : u ≡ s = cc in absurd (cc)

part-desc : (program : Program) (layouts : Layouts) (tables : Tables) {a : Around} {node : TypeId} {desc : Option Expr} {walk : Option ℕ} (s : Structure) (other : Option Expr) → HasStructure program node s
    → s.is_union ≡ false → IsPartOf program layouts tables a node desc walk → IsPartOf program layouts tables a node other walk
part-desc program layouts tables s other has is (IsPartOf.walked late laid some at rows) = IsPartOf.walked late laid some at (struct-desc program layouts tables s other has is rows)
part-desc program layouts tables s other has is (IsPartOf.empty rows) = IsPartOf.empty (struct-desc program layouts tables s other has is rows)

rows-there : (program : Program) (layouts : Layouts) (tables : Tables) {a : Around} {node : TypeId} {desc : Option Expr} {rows : List WalkRow} → AreRowsOf program layouts tables a node desc rows
    → (s : Structure) × HasStructure program node s
rows-there program layouts tables (AreRowsOf.struct {s = s} has kind laid fields) = (s, has)
rows-there program layouts tables (AreRowsOf.union {s = s} arms has kind each some value) = (s, has)
rows-there program layouts tables (AreRowsOf.bare {s = s} has kind each none) = (s, has)

part-there : (program : Program) (layouts : Layouts) (tables : Tables) {a : Around} {node : TypeId} {desc : Option Expr} {walk : Option ℕ} → IsPartOf program layouts tables a node desc walk
    → (s : Structure) × HasStructure program node s
part-there program layouts tables (IsPartOf.walked late laid some at rows) = rows-there program layouts tables rows
part-there program layouts tables (IsPartOf.empty rows) = rows-there program layouts tables rows

-- the outermost structure is told where it is read
same-told : (flag : Bool) (x y : TypeId) → flag ≡ true → outermost_if flag (Some x) ≡ outermost_if flag (Some y) → x ≡ y
same-told true x y is same = let e : x.0 ≡ y.0 = cc in ap (λ (n : ℕ). let node : TypeId = record { 0 = n } in node) e
same-told false x y is same = absurd (cc)

or-false : (a b : Bool) → (a || b) ≡ false → (a ≡ false) × (b ≡ false)
or-false true b e = absurd (cc)
or-false false b e = (refl, e)

module _ (source : Source) (is : IsSource source) (a b : Lies) (node : TypeId) (p : Part) where
  abbrev program : Program
  program = source.program.now

  -- the same site tells the same outermost structure, if the structure there reads it
  same-outermost : (site : Option Site) (reader : TypeId) (s : Structure) → HasStructure program reader s → reader_of node site ≡ reader.0 → part_at source a node site ≡ p → part_at source b node site ≡ p
      → ReadsOutermost program reader → first_of (around_of a.around).outermost node ≡ first_of (around_of b.around).outermost node
  same-outermost site reader s has reads-at one two reads =
      let flag : flag_at source.readers.now (reader_of node site) ≡ true = ap (flag_at source.readers.now) reads-at ∙ (is.readers reader s has).1 reads in
      same-told (flag_at source.readers.now (reader_of node site)) _ _ flag (ap (λ (q : Part). q.outermost) (one ∙ sym two))

  -- a struct that names no structure that contains it
  apart : (s : Structure) → HasStructure program node s → flag_at source.inner.now node.0 ≡ false → part_at source a node None ≡ p → part_at source b node None ≡ p
      → AreAlikeInside program (around_of a.around) (around_of b.around) node None
  apart s has none one two = record {
    own = record {
      here = refl;
      outer = λ inner. let told = (is.inner node s has).1 inner in absurd (cc);
      outermost = λ reads. ap (λ o. Some o) (same-outermost None node s has refl one two reads);
    };
    given = λ e some. absurd (cc);
  }

  -- a structure in a field of a structure
  module _ (site : Site) (desc : Option Expr) (s : Structure) (f : Field) (here : a.around.here ≡ Some (record { 0 = site.container })) (there : b.around.here ≡ Some (record { 0 = site.container }))
      (has : HasStructure program (record { 0 = site.container }) s) (get : slice_get s.fields site.field ≡ Some f) (type : innermost f.ty ≡ ty.Node node desc) (one : part_at source a node (Some site) ≡ p)
      (two : part_at source b node (Some site) ≡ p) where
    abbrev container : TypeId
    container = record { 0 = site.container }

    in-field : Contains s.fields f
    in-field = (site.field, slice_get_within s.fields site.field f get, get_or_from_slice_get s.fields site.field f f get)

    outermost-there : ReadsOutermost program container → (inside (around_of a.around) node).outermost ≡ (inside (around_of b.around) node).outermost
    outermost-there reads = ap (λ o. Some o) (same-outermost (Some site) container s has refl one two reads)

    in-site : AreAlikeInside program (around_of a.around) (around_of b.around) node desc
    in-site = record {
      own = record {
        here = refl;
        outer = λ inner. here ∙ sym there;
        outermost = λ reads. outermost-there (ReadsOutermost.in_part (s, f, has, in-field, ap itself type) reads);
      };
      given = λ e some.
          let own = desc-in program is.settled s f e in-field (ap desc_in type ∙ some) in
          agrees (inside (around_of a.around) node) (inside (around_of b.around) node) e refl (λ names. here ∙ sym there) (λ names. outermost-there (reads-own program is.settled container s e has own names));
    }

  -- a structure at a site has its `desc` from there
  at-site : (site : Site) (desc other : Option Expr) → IsSiteOf program a.around (Some site) (ty.Node node desc) → IsSiteOf program b.around (Some site) (ty.Node node other)
      → part_at source a node (Some site) ≡ p → part_at source b node (Some site) ≡ p → (desc ≡ other) × AreAlikeInside program (around_of a.around) (around_of b.around) node desc
  at-site site desc other (s, f, here, has, get, type) (t, g, there, also, got, like) one two =
      let same : s ≡ t = cc in
      let field : f ≡ g = cc (ap (λ (u : Structure). slice_get u.fields site.field) same) in
      let first = type ∙ innermost-node node desc in
      let second = like ∙ innermost-node node other in
      let is_desc : desc ≡ other = cc (ap (λ (h : Field). innermost h.ty) field, ap desc_in first, ap desc_in second) in
      (is_desc, in-site site desc s f here there has get first one two)

  site-there : (lies : Lies) (site : Option Site) → part_on_site source lies node site ≡ Some p → (at : Site) × (site ≡ Some at) × (part_at source lies node (Some at) ≡ p)
  site-there lies (Some at) e = (at, refl, same_Some (part_at source lies node (Some at)) p e)
  site-there lies None e = absurd (cc)

  module _ (tables : Tables) (desc other : Option Expr) (walk : Option ℕ) (la : IsPlaced program a (ty.Node node desc)) (lb : IsPlaced program b (ty.Node node other))
      (served : IsPartOf program source.layouts.now tables (around_of a.around) node desc walk) where
    abbrev Goal : Type 0
    Goal = IsPartOf program source.layouts.now tables (around_of b.around) node other walk

    on-site : part_on_site source a node a.site ≡ Some p → part_on_site source b node b.site ≡ Some p → Goal
    on-site one two =
        let x = site-there a a.site one in
        let y = site-there b b.site two in
        let same : x.0 ≡ y.0 = same_Some x.0 y.0 (ap (λ (q : Part). q.site) (x.2 ∙ sym y.2)) in
        let left : IsSiteOf program a.around (Some x.0) (ty.Node node desc) = subst (λ o. IsSiteOf program a.around o (ty.Node node desc)) x.1 la.site in
        let right : IsSiteOf program b.around (Some x.0) (ty.Node node other) = subst (λ o. IsSiteOf program b.around o (ty.Node node other)) (y.1 ∙ ap (λ s. Some s) (sym same)) lb.site in
        let found = at-site x.0 desc other left right x.2 (ap (λ s. part_at source b node (Some s)) same ∙ y.2) in
        subst (λ d. IsPartOf program source.layouts.now tables (around_of b.around) node d walk) found.0 (part-same program source.layouts.now tables is.settled served (around_of b.around) found.1)

    off-site : (s : Structure) → HasStructure program node s → (s.is_union || flag_at source.inner.now node.0) ≡ false → part_at source a node None ≡ p → part_at source b node None ≡ p → Goal
    off-site s has plain one two =
        let parts = or-false s.is_union (flag_at source.inner.now node.0) plain in
        part-desc program source.layouts.now tables s other has parts.0
        (part-same program source.layouts.now tables is.settled (part-desc program source.layouts.now tables s None has parts.0 served) (around_of b.around) (apart s has parts.1 one two))

    by-site : (s : Structure) → HasStructure program node s → (d : Bool) → (s.is_union || flag_at source.inner.now node.0) ≡ d → cond d (part_on_site source a node a.site) (Some (part_at source a node None)) ≡ Some p
        → cond d (part_on_site source b node b.site) (Some (part_at source b node None)) ≡ Some p → Goal
    by-site s has true e one two = on-site one two
    by-site s has false e one two = off-site s has e (same_Some (part_at source a node None) p one) (same_Some (part_at source b node None) p two)

    serves : part_of source a node ≡ Some p → part_of source b node ≡ Some p → Goal
    serves one two =
        let found = part-there program source.layouts.now tables served in
        let at = λ (lies : Lies). ap (λ o. cond (depends source node o) (part_on_site source lies node lies.site) (Some (part_at source lies node None))) found.1 in
        by-site found.0 found.1 (found.0.is_union || flag_at source.inner.now node.0) refl (sym (at a) ∙ one) (sym (at b) ∙ two)

-- the walk of a part serves it wherever it lies
pub part-serves : (source : Source) → IsSource source → (tables : Tables) (a b : Lies) (node : TypeId) (desc other : Option Expr) (part : Part) (walk : Option ℕ) → part_of source a node ≡ Some part
    → part_of source b node ≡ Some part → IsPlaced source.program.now a (ty.Node node desc) → IsPlaced source.program.now b (ty.Node node other)
    → IsPartOf source.program.now source.layouts.now tables (around_of a.around) node desc walk → IsPartOf source.program.now source.layouts.now tables (around_of b.around) node other walk
part-serves source is tables a b node desc other part walk one two la lb served = serves source is a b node part tables desc other walk la lb served one two
