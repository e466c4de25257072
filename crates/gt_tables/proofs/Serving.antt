-- What rows and walks serve, while walks of parts are added.
use Rattle.std.specs.Global.{Vec}
use Rattle.std.proofs.Common.{◌≡◌, ◌∙◌, ◌≢◌, ℕ, ◌+◌, ◌≤◌, ◌<◌, Bool, true, false, cond, List, [], ◌∷◌, ◌++◌, length, drop, refl, ap, sym, subst, Option, Some, None, get_or, inl, inr, arith}
use Rattle.std.specs.Prelude.{IfSome, IsSome, All, Any, Contains, option_to_list, slice_get}
use Rattle.std.specs.Option.{option_map}
use Rattle.std.specs.BTreeMap.{get}
use Rattle.std.proofs.lemmas.List.{append-nil, drop_more, drop_all}
use Rattle.std.proofs.lemmas.Option.{same_Some, slice_get_cases, slice_get_within, get_or_from_slice_get}
use Rattle.gt_types.specs.declared.expressions.Expr.{Expr}
use Rattle.gt_types.specs.declared.types.TypeId.{TypeId}
use Rattle.gt_types.specs.declared.types.Ty.{Ty, out-Ty}
use Rattle.gt_types.specs.declared.types.Ty.TheOpen as part
use Rattle.gt_types.specs.declared.types.Ty.TheVariants as ty
use Rattle.gt_types.specs.declared.program.Field.{Field}
use Rattle.gt_types.specs.declared.program.Structure.{Structure}
use Rattle.gt_types.specs.declared.program.Program.{Program}
use Rattle.gt_types.specs.Shapes.{innermost}
use Rattle.gt_types.specs.Contains.{HasStructure}
use Rattle.gt_layout.specs.declared.planes.Plane.{Plane}
use Rattle.gt_layout.specs.declared.planes.FieldSpot.{FieldSpot}
use Rattle.gt_layout.specs.Storages.{extent_of}
use Rattle.gt_tree.specs.Fits.{types_of}
use Rattle.gt_walk.specs.declared.rows.RowExpr.{RowExpr}
use Rattle.gt_walk.specs.declared.rows.Arm.{Arm, out-Arm}
use Rattle.gt_walk.specs.declared.rows.WalkRow.{WalkRow}
use Rattle.gt_walk.specs.declared.rows.WalkRow.TheVariants as row
use Rattle.gt_walk.specs.declared.tables.Tables.{Tables}
use Rattle.gt_edges.specs.Walks.{Around, first_of, inside, outside, IsRowExpr, IsDescExpr, path_leaf, root_leaf, IsRowOf, IsPartOf, AreRowsOf, AreFieldRows, AreArmsOf, structure, array, tail, empty, struct, union, bare, none, more, no_arms, more_arms}
use Rattle.gt_tables.specs.declared.sources.Around.{Around as CodeAround}
use Rattle.gt_tables.specs.declared.sources.Lies.{Lies}
use Rattle.gt_tables.specs.declared.sources.Site.{Site}
use Rattle.gt_tables.specs.declared.sources.Part.{Part}
use Rattle.gt_tables.specs.declared.sources.Source.{Source}
use Rattle.gt_tables.specs.declared.parts.Parts.{Parts}
use Rattle.gt_edges.specs.Numbers.{first_part}
use Rattle.gt_alike.specs.Alike.{AreEqual}
use Rattle.gt_tables.specs.Ordered.{IsOrdered}
use Rattle.gt_tables.specs.Building.{part_cmp, HaveWalks, Grows, HasEqual, Keeps, IsSource, IsAround, IsSiteOf, IsPlaced, AreServed, around_of, part_at, part_on_site, depends, part_of, ServesType, ServesPart, ServesStructure, AddsFields, ServesMembers}
use Rattle.gt_tables.specs.Sharing.{Encloses}
use Rattle.gt_tables.proofs.Growing.{fewer, append-assoc}
use Rattle.gt_tables.proofs.Keeping.{rows-there}
use Rattle.gt_tables.proofs.Enclosing.{encloses-part}
use Rattle.gt_tables.proofs.SharedParts.{part-serves}
use Rattle.gt_tables.proofs.EqualRows.{equal-walked}
use Rattle.gt_tables.proofs.Translations.{translation}

-- tables with more walks of parts have those that there were
pub fewer-on : (program : Program) (a b : Parts) → Grows program a b → (tables : Tables) → HaveWalks (first_part program) b.walks.items tables → HaveWalks (first_part program) a.walks.items tables
fewer-on program a b grows tables h = fewer (first_part program) a.walks.items grows.more tables (subst (λ ws. HaveWalks (first_part program) ws tables) grows.walks h)

-- ---- where types lie

-- inside a structure there is an innermost one, which is that
pub entered-here : (a : CodeAround) (around : Around) (node : TypeId) → around_of a ≡ inside around node → a.here ≡ Some node
entered-here a around node is = ap (λ (x : Around). x.here) is

-- a structure is there, inside some others of which the outermost encloses it
entered-in : (program : Program) (a : CodeAround) (around : Around) (node : TypeId) → around_of a ≡ inside around node → Encloses program (first_of around.outermost node) node → IsAround program a
entered-in program a around node is encloses =
    let here : a.here ≡ Some node = ap (λ (x : Around). x.here) is in
    record {
      inside = λ other at.
          let same : node ≡ other = same_Some node other (sym here ∙ at) in
          (first_of around.outermost node, ap (λ (x : Around). x.outermost) is, subst (Encloses program (first_of around.outermost node)) same encloses);
      outside = λ absent. absurd (cc (sym absent ∙ here));
    }

pub structure-there : (program : Program) (node : TypeId) → node.0 < length program.structures → (s : Structure) × HasStructure program node s
structure-there program node there = elim ((slice_get_cases program.structures node.0).1) [
  | inl h ↦ (h.0, h.2)
  | inr h ↦ absurd (omega (arith, h.0, there))
]

-- the outermost structure around a part is or contains it
pub entered : (program : Program) (lies : Lies) (node : TypeId) (desc : Option Expr) (a : CodeAround) → IsPlaced program lies (ty.Node node desc) → node.0 < length program.structures → around_of a ≡ inside (around_of lies.around) node
    → IsAround program a
entered program lies node desc a placed there is =
    entered-in program a (around_of lies.around) node is (encloses-part program lies node desc placed (structure-there program node there))

-- outside all others it is the outermost itself
pub entered-alone : (program : Program) (a : CodeAround) (around : Around) (node : TypeId) → around ≡ outside → node.0 < length program.structures → around_of a ≡ inside around node → IsAround program a
entered-alone program a around node out there is = entered-in program a outside node (is ∙ ap (λ x. inside x node) out) (structure-there program node there, inl refl)

-- outside every structure there is none
pub root-placed : (program : Program) (lies : Lies) (type : Ty) → around_of lies.around ≡ outside → lies.site ≡ None → IsPlaced program lies type
root-placed program lies type around site =
    let here : lies.around.here ≡ None = ap (λ (x : Around). x.here) around in
    record {
      around = record {
        inside = λ node some. absurd (cc (some, here));
        outside = λ absent. (ap (λ (x : Around). x.outer) around, ap (λ (x : Around). x.outermost) around);
      };
      site = subst (λ s. IsSiteOf program lies.around s type) (sym site) here;
    }

-- a field lies in the innermost structure
pub field-placed : (program : Program) (lies : Lies) (inner : CodeAround) (node : TypeId) (s : Structure) (f : Field) (i : ℕ) → lies.around ≡ inner → lies.site ≡ Some (record { container = node.0; field = i })
    → IsAround program inner → inner.here ≡ Some node → HasStructure program node s → slice_get s.fields i ≡ Some f → IsPlaced program lies f.ty
field-placed program lies inner node s f i around site is here has got = record {
  around = subst (IsAround program) (sym around) is;
  site = subst (λ o. IsSiteOf program lies.around o f.ty) (sym site) (s, f, ap (λ (a : CodeAround). a.here) around ∙ here, has, got, refl);
}

pub contains-at : {X : Type 0} (xs : List X) (i : ℕ) (x : X) → slice_get xs i ≡ Some x → Contains xs x
contains-at xs i x got = (i, slice_get_within xs i x got, get_or_from_slice_get xs i x x got)

-- the elements of an array lie where the array does
site-same : (program : Program) (a : CodeAround) (site : Option Site) (type elem : Ty) → innermost type ≡ innermost elem → IsSiteOf program a site type → IsSiteOf program a site elem
site-same program a None type elem same is = is
site-same program a (Some site) type elem same is = (is.0, is.1, is.2, is.3, is.4, is.5 ∙ same)

pub element-placed : (program : Program) (lies : Lies) (type elem : Ty) → innermost type ≡ innermost elem → IsPlaced program lies type → IsPlaced program lies elem
element-placed program lies type elem same is = record { around = is.around; site = site-same program lies.around lies.site type elem same is.site }

-- ---- rows of types

module _ (source : Source) (walks : List (List WalkRow)) (a : CodeAround) where
  pub sub-serves : (node : TypeId) (desc : Option Expr) (offset : ℕ) (walk : Option ℕ) (made : Option WalkRow) → made ≡ option_map (row.Sub offset) walk → ServesPart source walks a node desc walk
      → ServesType source walks a (ty.Node node desc) offset made
  sub-serves node desc offset walk made is serves tables h =
      subst (IsRowOf source.program.now source.layouts.now tables (around_of a) (ty.Node node desc) offset) (sym is) (structure (serves tables h))

  pub array-serves : (type elem : Ty) (n offset size : ℕ) (r made : Option WalkRow) → out-Ty type ≡ part.Arr n elem → size ≡ (extent_of source.layouts.now.structures elem).size
      → made ≡ option_map (row.Rep offset n size) r → ServesType source walks a elem 0 r → ServesType source walks a type offset made
  array-serves type elem n offset size r made is long made-is serves tables h =
      subst (IsRowOf source.program.now source.layouts.now tables (around_of a) type offset) (sym (made-is ∙ ap (λ s. option_map (row.Rep offset n s) r) long)) (array is (serves tables h))

  tail-is : (type elem : Ty) (len : Expr) (offset : ℕ) (e : RowExpr) (r : Option WalkRow) (tables : Tables) → out-Ty type ≡ part.Tail len elem
      → (r ≢ None → IsRowExpr source.program.now source.layouts.now (around_of a) len e) → IsRowOf source.program.now source.layouts.now tables (around_of a) elem 0 r
      → IsRowOf source.program.now source.layouts.now tables (around_of a) type offset (option_map (row.Tail offset e (extent_of source.layouts.now.structures elem).size) r)
  tail-is type elem len offset e None tables is len-is serves =
      let t = translation (path_leaf source.program.now source.layouts.now (around_of a)) (root_leaf source.program.now source.layouts.now) len in
      tail {e = t.0} is t.1 serves
  tail-is type elem len offset e (Some r) tables is len-is serves = tail is (len-is (λ absent. cc)) serves

  pub tail-serves : (type elem : Ty) (len : Expr) (offset size : ℕ) (r made : Option WalkRow) → out-Ty type ≡ part.Tail len elem → size ≡ (extent_of source.layouts.now.structures elem).size
      → ((e : RowExpr) × (made ≡ option_map (row.Tail offset e size) r) × (r ≢ None → IsRowExpr source.program.now source.layouts.now (around_of a) len e))
      → ServesType source walks a elem 0 r → ServesType source walks a type offset made
  tail-serves type elem len offset size r made is long h serves tables have =
      subst (IsRowOf source.program.now source.layouts.now tables (around_of a) type offset) (sym (h.1 ∙ ap (λ s. option_map (row.Tail offset h.0 s) r) long))
      (tail-is type elem len offset h.0 r tables is h.2 (serves tables have))

-- ---- rows of fields

-- of so many fields the rows were added
pub record FieldsSoFar (source : Source) (walks : List (List WalkRow)) (inner : CodeAround) (fields : List Field) (spots : List FieldSpot) (i : ℕ) (old new : List WalkRow) : Type 0 where
  pub more : List WalkRow
  pub is : new ≡ old ++ more
  pub are : (tables : Tables) → HaveWalks (first_part source.program.now) walks tables → (rest : List WalkRow)
      → AreFieldRows source.program.now source.layouts.now tables (around_of inner) (types_of (drop i fields)) (drop i spots) rest
      → AreFieldRows source.program.now source.layouts.now tables (around_of inner) (types_of fields) spots (more ++ rest)

pub fields-begin : (source : Source) (walks : List (List WalkRow)) (inner : CodeAround) (fields : List Field) (spots : List FieldSpot) (old : List WalkRow) → FieldsSoFar source walks inner fields spots 0 old old
fields-begin source walks inner fields spots old = record { more = []; is = sym (append-nil old); are = λ tables h rest are. are }

pub fields-step : (source : Source) (a b : Parts) → Grows source.program.now a b → (inner : CodeAround) (fields : List Field) (spots : List FieldSpot) (i : ℕ) (old mid new : List WalkRow) (f : Field) (other : FieldSpot) (r : Option WalkRow)
    → FieldsSoFar source a.walks.items inner fields spots i old mid → i < length fields → i < length spots → f ≡ get_or fields i f
    → ServesType source b.walks.items inner f.ty (get_or spots i other).offset r → new ≡ mid ++ option_to_list r → FieldsSoFar source b.walks.items inner fields spots (i + 1) old new
fields-step source a b grows inner fields spots i old mid new f other r so within room at serves is =
    let one : drop i fields ≡ f ∷ drop (i + 1) fields = drop_more fields i f within ∙ ap (λ x. x ∷ drop (i + 1) fields) (sym at) in
    let two = drop_more spots i other room in
    record {
      more = so.more ++ option_to_list r;
      is = is ∙ ap (λ l. l ++ option_to_list r) so.is ∙ append-assoc old so.more (option_to_list r);
      are = λ tables h rest are.
          let Are = AreFieldRows source.program.now source.layouts.now tables (around_of inner) in
          subst (Are (types_of fields) spots) (sym (append-assoc so.more (option_to_list r) rest))
          (so.are tables (fewer-on source.program.now a b grows tables h) (option_to_list r ++ rest)
          (subst (λ fs. Are (types_of fs) (drop i spots) (option_to_list r ++ rest)) (sym one)
          (subst (λ ss. Are (types_of (f ∷ drop (i + 1) fields)) ss (option_to_list r ++ rest)) (sym two) (more (serves tables h) are))));
    }

pub fields-end : (source : Source) (walks : List (List WalkRow)) (inner : CodeAround) (fields : List Field) (spots : List FieldSpot) (i : ℕ) (old new : List WalkRow)
    → FieldsSoFar source walks inner fields spots i old new → length fields ≤ i → length spots ≡ length fields → AddsFields source walks inner fields spots old new
fields-end source walks inner fields spots i old new so all long =
    let none-left = drop_all i fields all in
    let no-spots : drop i spots ≡ [] = drop_all i spots (omega (arith, all, long)) in
    record {
      more = so.more;
      is = so.is;
      are = λ tables h.
          let Are = AreFieldRows source.program.now source.layouts.now tables (around_of inner) in
          subst (Are (types_of fields) spots) (append-nil so.more)
          (so.are tables h [] (subst (λ fs. Are (types_of fs) (drop i spots) []) (sym none-left) (subst (λ ss. Are [] ss []) (sym no-spots) none)));
    }

-- ---- arms of members

-- of so many members there are the arms
abbrev pub ArmsSoFar : Source → List (List WalkRow) → CodeAround → List Field → ℕ → List Arm → Type 0
ArmsSoFar source walks inner fields i arms =
    (tables : Tables) → HaveWalks (first_part source.program.now) walks tables → (rest : List Arm) → AreArmsOf source.program.now source.layouts.now tables (around_of inner) (drop i fields) rest
    → AreArmsOf source.program.now source.layouts.now tables (around_of inner) fields (arms ++ rest)

pub arms-step : (source : Source) (a b : Parts) → Grows source.program.now a b → (inner : CodeAround) (fields : List Field) (i : ℕ) (old new : List Arm) (f : Field) (arm : Arm) (r : Option WalkRow)
    → ArmsSoFar source a.walks.items inner fields i old → i < length fields → f ≡ get_or fields i f → (out-Arm arm).active ≡ f.active → (out-Arm arm).row ≡ r
    → ServesType source b.walks.items inner f.ty 0 r → new ≡ old ++ arm ∷ [] → ArmsSoFar source b.walks.items inner fields (i + 1) new
arms-step source a b grows inner fields i old new f arm r so within at active row-is serves is tables h rest are =
    let one : drop i fields ≡ f ∷ drop (i + 1) fields = drop_more fields i f within ∙ ap (λ x. x ∷ drop (i + 1) fields) (sym at) in
    let Are = AreArmsOf source.program.now source.layouts.now tables (around_of inner) in
    let Row = IsRowOf source.program.now source.layouts.now tables (around_of inner) f.ty 0 in
    subst (Are fields) (sym (ap (λ l. l ++ rest) is ∙ append-assoc old (arm ∷ []) rest))
    (so tables (fewer-on source.program.now a b grows tables h) (arm ∷ rest)
    (subst (λ fs. Are fs (arm ∷ rest)) (sym one) (more_arms active (subst Row (sym row-is) (serves tables h)) are)))

pub arms-end : (source : Source) (walks : List (List WalkRow)) (inner : CodeAround) (fields : List Field) (i : ℕ) (arms : List Arm) → ArmsSoFar source walks inner fields i arms → length fields ≤ i
    → ServesMembers source walks inner fields arms
arms-end source walks inner fields i arms so all tables h =
    let Are = AreArmsOf source.program.now source.layouts.now tables (around_of inner) in
    subst (Are fields) (append-nil arms) (so tables h [] (subst (λ fs. Are fs []) (sym (drop_all i fields all)) no_arms))

-- ---- rows of structures

pub struct-serves : (source : Source) (walks : List (List WalkRow)) (inner : CodeAround) (node : TypeId) (desc : Option Expr) (chain : Option ℕ) (s : Structure) (plane : Plane) (fields : List Field) (spots : List FieldSpot)
    (notes rows : List WalkRow) → HasStructure source.program.now node s → s.is_union ≡ false → slice_get source.layouts.now.structures node.0 ≡ Some plane → fields ≡ s.fields → spots ≡ plane.fields
    → notes ≡ row.Note plane.size chain ∷ [] → AddsFields source walks inner fields spots notes rows → ServesStructure source walks inner node desc chain rows
struct-serves source walks inner node desc chain s plane fields spots notes rows has plain got fields-are spots-are notes-are adds = record {
  plane = plane;
  rest = adds.more;
  plane_is = got;
  is = adds.is ∙ ap (λ l. l ++ adds.more) notes-are;
  are = λ tables h.
      let Are = AreFieldRows source.program.now source.layouts.now tables (around_of inner) in
      struct has plain got (subst (λ fs. Are (types_of fs) plane.fields adds.more) fields-are (subst (λ ss. Are (types_of fields) ss adds.more) spots-are (adds.are tables h)));
}

module _ (source : Source) (walks : List (List WalkRow)) (inner : CodeAround) (node : TypeId) (desc : Option Expr) (s : Structure) (arms : Vec Arm) where
  -- the row of a union, where it has one
  abbrev IsSwitch : Option WalkRow → Type 0
  IsSwitch r = IfSome r (λ made. (value : RowExpr) × (made ≡ row.Switch value arms) × IsDescExpr source.program.now source.layouts.now (around_of inner) desc value × IsOrdered value)

  -- where there is a row, one of the members has one
  abbrev HasArm : Option WalkRow → Type 0
  HasArm r = IfSome r (λ made. Any (λ a. IsSome (out-Arm a).row) arms.items)

  rest-serves : (r : Option WalkRow) → HasStructure source.program.now node s → s.is_union ≡ true → IsSwitch r → HasArm r → (r ≡ None → All (λ a. (out-Arm a).row ≡ None) arms.items)
      → ServesMembers source walks inner s.fields arms.items → (tables : Tables) → HaveWalks (first_part source.program.now) walks tables
      → AreRowsOf source.program.now source.layouts.now tables (around_of inner) node desc (option_to_list r)
  rest-serves None has plain is some bare-is serves tables h = bare has plain (serves tables h) (bare-is refl)
  rest-serves (Some r) has plain is some bare-is serves tables h =
      subst (λ x. AreRowsOf source.program.now source.layouts.now tables (around_of inner) node desc (x ∷ [])) (sym is.1) (union arms has plain (serves tables h) some is.2)

  pub union-serves : (chain : Option ℕ) (plane : Plane) (fields : List Field) (r : Option WalkRow) (notes rows : List WalkRow) → HasStructure source.program.now node s → s.is_union ≡ true
      → slice_get source.layouts.now.structures node.0 ≡ Some plane → fields ≡ s.fields → notes ≡ row.Note plane.size chain ∷ [] → rows ≡ notes ++ option_to_list r → IsSwitch r → HasArm r
      → (r ≡ None → All (λ a. (out-Arm a).row ≡ None) arms.items) → ServesMembers source walks inner fields arms.items → ServesStructure source walks inner node desc chain rows
  union-serves chain plane fields r notes rows has plain got fields-are notes-are rows-are is some bare-is serves = record {
    plane = plane;
    rest = option_to_list r;
    plane_is = got;
    is = rows-are ∙ ap (λ l. l ++ option_to_list r) notes-are;
    are = rest-serves r has plain is some bare-is (subst (λ fs. ServesMembers source walks inner fs arms.items) fields-are serves);
  }

-- ---- parts

-- a part has the number of its structure
part-node-at : (source : Source) (lies : Lies) (node : TypeId) (site : Option Site) (b : Bool) (part : Part) → cond b (part_on_site source lies node site) (Some (part_at source lies node None)) ≡ Some part
    → part.node ≡ node.0
part-node-at source lies node (Some site) true part e =
    let same : part_at source lies node (Some site) ≡ part = cc in
    sym (ap (λ (p : Part). p.node) same)
part-node-at source lies node None true part e = absurd (cc)
part-node-at source lies node site false part e =
    let same : part_at source lies node None ≡ part = cc in
    sym (ap (λ (p : Part). p.node) same)

part-node : (source : Source) (lies : Lies) (node : TypeId) (part : Part) → part_of source lies node ≡ Some part → part.node ≡ node.0
part-node source lies node part e = part-node-at source lies node lies.site (depends source node (slice_get source.program.now.structures node.0)) part e

same-node : (a b : TypeId) → a.0 ≡ b.0 → a ≡ b
same-node a b e = ap (λ (n : ℕ). record { 0 = n }) e

module _ (source : Source) (source-is : IsSource source) (first : ℕ) (first-is : first ≡ first_part source.program.now) (lies : Lies) (node : TypeId) (desc : Option Expr) (part : Option Part) (rows : List WalkRow) (old new : Parts)
    (inner : CodeAround) (inner-is : around_of inner ≡ inside (around_of lies.around) node) (walk : Option ℕ) (keeps : Keeps first part rows old new walk) where
  fewer-kept : (tables : Tables) → HaveWalks (first_part source.program.now) new.walks.items tables → HaveWalks (first_part source.program.now) old.walks.items tables
  fewer-kept tables h = fewer (first_part source.program.now) old.walks.items keeps.files.more tables (subst (λ ws. HaveWalks (first_part source.program.now) ws tables) keeps.files.grown h)

  abbrev Are : Tables → List WalkRow → Type 0
  Are tables rest = AreRowsOf source.program.now source.layouts.now tables (inside (around_of lies.around) node) node desc rest

  -- more than its note are rows after it
  some-rest : {size : ℕ} {chain : Option ℕ} (rest : List WalkRow) → rows ≡ row.Note size chain ∷ rest → 1 < length rows → rest ≢ []
  some-rest rest is many bare-rest = let one = ap length is in let none-left = ap length bare-rest in absurd (omega (arith, one, none-left, many))

  -- the walk that is kept has these rows
  pub kept-walked : (n : ℕ) → walk ≡ Some n → ServesStructure source old.walks.items inner node desc None rows → ServesPart source new.walks.items lies.around node desc (Some n)
  kept-walked n is serves tables h =
      let found = subst (λ w. IfSome w (HasEqual first rows new.walks.items new.cases)) is keeps.has in
      let has = found.1 in
      let number : n ≡ first_part source.program.now + has.place = has.number ∙ ap (λ f. f + has.place) first-is in
      let there = rows-there source.program.now (first_part source.program.now) new.walks.items node.0 found.0 has.place has.here tables h in
      let are : Are tables serves.rest =
      subst (λ around. AreRowsOf source.program.now source.layouts.now tables around node desc serves.rest) inner-is (serves.are tables (fewer-kept tables h)) in
      let many : 1 < length rows = subst (λ w. IfSome w (λ _. 1 < length rows)) is keeps.many in
      subst (λ m. IsPartOf source.program.now source.layouts.now tables (around_of lies.around) node desc (Some m)) (sym number)
      (equal-walked source.program.now source.layouts.now tables (around_of lies.around) node desc serves.plane found.0 serves.rest (first_part source.program.now + has.place) (omega arith) serves.plane_is there
      (subst (AreEqual found.0) serves.is found.2) (some-rest serves.rest serves.is many) are)

  -- a part without edges has its note alone
  no-rest : (rest : List WalkRow) → length rest ≤ 0 → rest ≡ []
  no-rest [] few = refl
  no-rest (r ∷ rest) few = absurd (omega (arith, few))

  kept-empty : length rows ≤ 1 → ServesStructure source old.walks.items inner node desc None rows → ServesPart source new.walks.items lies.around node desc None
  kept-empty few serves tables h =
      let one = ap length serves.is in
      let none-left : serves.rest ≡ [] = no-rest serves.rest (omega (arith, one, few)) in
      let are : Are tables serves.rest =
      subst (λ around. AreRowsOf source.program.now source.layouts.now tables around node desc serves.rest) inner-is (serves.are tables (fewer-kept tables h)) in
      empty (subst (Are tables) none-left are)

  kept-cases : (w : Option ℕ) → walk ≡ w → (walk ≡ None → length rows ≤ 1) → ServesStructure source old.walks.items inner node desc None rows
      → ServesPart source new.walks.items lies.around node desc w
  kept-cases None is few serves = kept-empty (few is) serves
  kept-cases (Some n) is few serves = kept-walked n is serves

  pub kept-serves : (walk ≡ None → length rows ≤ 1) → ServesStructure source old.walks.items inner node desc None rows → ServesPart source new.walks.items lies.around node desc walk
  kept-serves = kept-cases walk refl

  -- what is kept of parts serves them, and so does this one wherever it lies
  pub kept-served : part ≡ part_of source lies node → IsPlaced source.program.now lies (ty.Node node desc) → AreServed source old → ServesPart source new.walks.items lies.around node desc walk → AreServed source new
  kept-served part-is placed served serves = record {
    known = λ p w other id other-desc there is other-placed tables h. elim (keeps.kept p w there) [
      | inl before ↦ served.known p w other id other-desc before is other-placed tables (fewer-kept tables h)
      | inr here ↦
          let own : part_of source lies node ≡ Some p = sym part-is ∙ here.0 in
          let same : id ≡ node = same-node id node (sym (part-node source other id p is) ∙ part-node source lies node p own) in
          let theirs : part_of source other node ≡ Some p = subst (λ n. part_of source other n ≡ Some p) same is in
          let their-place : IsPlaced source.program.now other (ty.Node node other-desc) = subst (λ n. IsPlaced source.program.now other (ty.Node n other-desc)) same other-placed in
          let Part-of = IsPartOf source.program.now source.layouts.now tables in
          subst (λ n. Part-of (around_of other.around) n other-desc w) (sym same)
          (part-serves source source-is tables lies other node desc other-desc p w own theirs placed their-place (subst (Part-of (around_of lies.around) node desc) here.1 (serves tables h)))
    ];
  }

-- a walk that is no part's changes nothing
pub served-same : (source : Source) (a b : Parts) (added : List (List WalkRow)) → b.walks.items ≡ a.walks.items ++ added → b.known ≡ a.known → AreServed source a → AreServed source b
served-same source a b added walks known served = record {
  known = λ part walk lies node desc there is placed tables h.
      served.known part walk lies node desc (ap (λ m. get part_cmp m part) (sym known) ∙ there) is placed tables
      (fewer (first_part source.program.now) a.walks.items added tables (subst (λ ws. HaveWalks (first_part source.program.now) ws tables) walks h));
}
