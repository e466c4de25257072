-- The parts of values that stand in bytes.
use Rattle.std.proofs.Common.{◌≡◌, ℕ, zero, suc, ◌+◌, ◌-◌, ◌*◌, ◌^◌, ◌<◌, ◌≤◌, Bool, true, false, IsTrue, List, [], ◌∷◌, length, map, refl, ap, sym, subst, ◌∙◌, arith, Option, Some, None}
use Rattle.std.specs.Prelude.{All, Contains, ℤ, pos, slice_get}
use Rattle.std.proofs.lemmas.List.Elements.{All-map, All-weaker, All-contains_itself}
use Rattle.gt_types.specs.declared.expressions.Expr.{Expr}
use Rattle.gt_types.specs.declared.types.TypeId.{TypeId}
use Rattle.gt_types.specs.declared.types.Ty.{Ty, out-Ty}
use Rattle.gt_types.specs.declared.types.Ty.TheOpen as part
use Rattle.gt_types.specs.declared.types.Ty.TheVariants as ty
use Rattle.gt_types.specs.declared.program.Field.{Field}
use Rattle.gt_types.specs.declared.program.Structure.{Structure}
use Rattle.gt_types.specs.Contains.{HasStructure}
use Rattle.gt_types.specs.Values.{value_of}
use Rattle.gt_types.specs.Unions.{IsCommon}
use Rattle.gt_layout.specs.declared.planes.Plane.{Plane}
use Rattle.gt_layout.specs.declared.planes.FieldSpot.{FieldSpot}
use Rattle.gt_layout.specs.Storages.{extent_of}
use Rattle.gt_tree.specs.Trees.{Tree, Rec, Alt, Row, Trees, End, count}
use Rattle.gt_tree.specs.Scopes.{Held, Scope, inside, first_of}
use Rattle.gt_tree.specs.Fits.{Fits, AllFit, active_member, desc_value, types_of}
use Rattle.gt_tree.proofs.Rooms.{room-array, room-tail}
use Rattle.gt_tree.proofs.Structures.{Laid-struct, has_room-member, has_room-common}
use Rattle.gt_tree.proofs.Fitting.{fits-member, fits-common, fits-tail}
use Rattle.gt_tree.proofs.FixedParts.{is-struct, is-union, is-nothing, is-plain, is-array, is-tail}
use Rattle.gt_tree.proofs.FixedRead.{IsRead, read-struct, read-member, read-common, read-array, read-tail}
use Rattle.gt_tree.proofs.FixedSame.{Got, nulls, weaker}
use Rattle.gt_tree.proofs.FixedScopes.{count-tail}
use Rattle.gt_tree.proofs.FixedValues.{Given, Twins, Alike}
use Rattle.gt_value.specs.declared.sources.Anchor.{Anchor}
use Rattle.gt_value.specs.declared.sources.Around.{Around}
use Rattle.gt_value.specs.declared.sources.Source.{Source}
use Rattle.gt_value.specs.Bytes.{itself}
use Rattle.gt_value.specs.Reading.{Begins, IsAt, AreAt, Context, given_in, Stands, FieldsStand, EachStands, bits_from, end_from, entered, without_pointers, first_anchor, path_worth, root_worth, worth_of}
use Rattle.gt_value.specs.Finding.{StandsIn, FieldsStandIn}
use Rattle.gt_value.proofs.Origins.{count-read, desc-read}
use Rattle.gt_value.proofs.PathWorths.{Contains-get, worth-is}

-- ---- inside a structure

first-at : (g : Given) (end : ℕ) (a : Option Held) (b : Option Anchor) (h : Held) (k : Anchor) → AreAt g end a b → IsAt g end h k → AreAt g end (first_of a (Some h)) (first_anchor b (Some k))
first-at g end None None h k at here = here
first-at g end None (Some b) h k at here = absurd at
first-at g end (Some a) None h k at here = absurd at
first-at g end (Some a) (Some b) h k at here = at

module _ (source : Source) (around : Around) (node : TypeId) (desc : Option Expr) (at : ℕ) where
  abbrev StandsHere : Tree → Type 0
  StandsHere value = Stands source around (ty.Node node desc) at value

  is-at : (value : Tree) (s : StandsHere value) → IsAt (given_in s.context) (end_from source.space.now source.from) (record { node = node; value = value }) (record { node = node; at = at })
  is-at value s = record { same = refl; scope = s.context.scope; desc = desc; whole = around.whole; width = s.width; fits = s.fits; read = s.read; room = s.room; inside = s.inside }

  pub inside-context : (value : Tree) → StandsHere value → Context source (entered around node at)
  inside-context value s =
      let x = s.context in
      record {
        settled = x.settled;
        laid = x.laid;
        blocks = x.blocks;
        addresses = x.addresses;
        capacity = x.capacity;
        few = x.few;
        small = x.small;
        statics = x.statics;
        scope = inside x.scope node value;
        here = is-at value s;
        outer = x.here;
        outermost = first-at (given_in x) (end_from source.space.now source.from) x.scope.outermost around.outermost (record { node = node; value = value }) (record { node = node; at = at }) x.outermost (is-at value s);
      }

  twins : (value : Tree) (s : StandsHere value) → Twins (given_in s.context) s.context.scope s.context.scope (ty.Node node desc) value value
  twins value s = record { whole = around.whole; at = at; fits = s.fits; other_fits = s.fits; read = s.read; other_read = s.read }

-- the value of a `desc`
worth-desc : (source : Source) (around : Around) (node : TypeId) (desc : Option Expr) (at : ℕ) (value : Tree) (s : Stands source around (ty.Node node desc) at value) (y : Structure) → HasStructure source.program.now node y
    → y.is_union ≡ true → worth_of source (entered around node at) desc ≡ desc_value source.program.now (inside s.context.scope node value) desc
unfolding inside-context
worth-desc source around node None at value s y has union = refl
worth-desc source around node (Some e) at value s y has union =
    worth-is source (entered around node at) (inside-context source around node (Some e) at value s) e
    (desc-read source (given_in s.context) refl s.context.settled s.context.statics node y e s.typed has union value)

-- ---- structs

-- the fields of a struct stand at their places
pub record StructParts (source : Source) (around : Around) (node : TypeId) (y : Structure) (plane : Plane) (at : ℕ) (value : Tree) : Type 0 where
  pub trees : Trees
  pub is : value ≡ Rec trees
  pub stand : FieldsStand source (entered around node at) (types_of y.fields) plane.fields at trees

module _ (source : Source) (around : Around) (node : TypeId) (desc : Option Expr) (at : ℕ) (y : Structure) (has : HasStructure source.program.now node y) where
  typed-fields : (value : Tree) (s : Stands source around (ty.Node node desc) at value)
      → All (λ type. Alike (given_in s.context) (Begins source s.context.statics) (inside s.context.scope node value) (inside s.context.scope node value) type) (types_of y.fields)
  typed-fields value s =
      let x = s.context in
      let P = λ (type : Ty). Alike (given_in x) (Begins source x.statics) (inside x.scope node value) (inside x.scope node value) type in
      All-map (λ type. Alike (given_in x) (Begins source x.statics) (inside x.scope node value) (inside x.scope node value) type) (λ (f : Field). f.ty) y.fields
      (All-weaker (Contains y.fields) (λ (f : Field). Alike (given_in x) (Begins source x.statics) (inside x.scope node value) (inside x.scope node value) f.ty)
      (λ f c. Alike.in_field s.typed (twins source around node desc at value s) has c) y.fields (All-contains_itself y.fields))

  struct-parts : (plane : Plane) (trees : Trees) → y.is_union ≡ false → slice_get source.layouts.now.structures node.0 ≡ Some plane → (s : Stands source around (ty.Node node desc) at (Rec trees))
      → AllFit source.program.now s.context.blocks s.context.capacity (inside s.context.scope node (Rec trees)) (types_of y.fields) trees
      → FieldsStand source (entered around node at) (types_of y.fields) plane.fields at trees
  unfolding inside-context
  struct-parts plane trees struct laid s fit =
      let x = s.context in
      let held = Got itself (bits_from source.space.now source.from) around.whole in
      record {
        context = inside-context source around node desc at (Rec trees) s;
        typed = typed-fields (Rec trees) s;
        fit = fit;
        read = read-struct held node desc y plane trees has laid s.read.0 s.read.1 s.read.2;
        from = 0;
        width = s.width;
        laid = Laid-struct source.program.now source.layouts.now.structures x.capacity x.settled x.laid.structures node desc y plane s.width has struct laid s.room;
        inside = s.inside;
      }

  struct-scope : (plane : Plane) (trees : Trees) (struct : y.is_union ≡ false) (laid : slice_get source.layouts.now.structures node.0 ≡ Some plane) (s : Stands source around (ty.Node node desc) at (Rec trees))
      (fit : AllFit source.program.now s.context.blocks s.context.capacity (inside s.context.scope node (Rec trees)) (types_of y.fields) trees)
      → (struct-parts plane trees struct laid s fit).context.scope ≡ inside s.context.scope node (Rec trees)
  unfolding inside-context struct-parts
  struct-scope plane trees struct laid s fit = refl

  pub record StructIn (scope : Scope) (plane : Plane) (value : Tree) : Type 0 where
    pub trees : Trees
    pub is : value ≡ Rec trees
    pub stand : FieldsStandIn source (entered around node at) (inside scope node (Rec trees)) (types_of y.fields) plane.fields at trees

  pub struct-in : (scope : Scope) (plane : Plane) (value : Tree) → y.is_union ≡ false → slice_get source.layouts.now.structures node.0 ≡ Some plane → StandsIn source around scope (ty.Node node desc) at value → StructIn scope plane value
  struct-in scope plane value struct laid s =
      let found = is-struct node desc y value has struct s.0.fits in
      let now = subst (λ v. StandsIn source around scope (ty.Node node desc) at v) found.1 s in
      let fit = is-struct node desc y (Rec found.0) has struct now.0.fits in
      let same : fit.0 ≡ found.0 = let e : Rec found.0 ≡ Rec fit.0 = fit.1 in cc in
      let all = subst (λ t. AllFit source.program.now now.0.context.blocks now.0.context.capacity (inside now.0.context.scope node (Rec t)) (types_of y.fields) t) same fit.2 in
      record {
        trees = found.0;
        is = found.1;
        stand = (struct-parts plane found.0 struct laid now.0 all, struct-scope plane found.0 struct laid now.0 all ∙ ap (λ x. inside x node (Rec found.0)) now.1);
      }

  pub struct-stands : (plane : Plane) (value : Tree) → y.is_union ≡ false → slice_get source.layouts.now.structures node.0 ≡ Some plane → Stands source around (ty.Node node desc) at value
      → StructParts source around node y plane at value
  struct-stands plane value struct laid s =
      let found = struct-in s.context.scope plane value struct laid (s, refl) in
      record { trees = found.trees; is = found.is; stand = found.stand.0 }

-- ---- unions

pub record UnionParts (source : Source) (around : Around) (node : TypeId) (desc : Option Expr) (y : Structure) (at : ℕ) (value : Tree) : Type 0 where
  pub member : Option ℕ
  pub part : Tree
  pub is : value ≡ Alt member part
  pub active : active_member (worth_of source (entered around node at) desc) y.fields ≡ member

module _ (source : Source) (around : Around) (node : TypeId) (desc : Option Expr) (at : ℕ) (y : Structure) (has : HasStructure source.program.now node y) (union : y.is_union ≡ true) where
  pub union-stands : (value : Tree) → Stands source around (ty.Node node desc) at value → UnionParts source around node desc y at value
  union-stands value s =
      let found = is-union node desc y value has union s.fits in
      record {
        member = found.0;
        part = found.1;
        is = found.2;
        active = ap (λ d. active_member d y.fields) (worth-desc source around node desc at value s y has union) ∙ found.3;
      }

  -- the active member stands where its union does
  pub member-stands : (place : ℕ) (f : Field) (tree : Tree) → slice_get y.fields place ≡ Some f → Stands source around (ty.Node node desc) at (Alt (Some place) tree) → Stands source (entered around node at) f.ty at tree
  unfolding inside-context
  member-stands place f tree got s =
      let x = s.context in
      let held = Got itself (bits_from source.space.now source.from) around.whole in
      let room = has_room-member source.program.now source.layouts.now.structures x.capacity x.settled x.laid.structures node desc y place f s.width has union got s.room in
      record {
        context = inside-context source around node desc at (Alt (Some place) tree) s;
        typed = Alike.in_field s.typed (twins source around node desc at (Alt (Some place) tree) s) has (Contains-get y.fields place f got);
        fits = fits-member node desc y place f tree has got s.fits;
        read = read-member held node desc y place f tree has got s.read.0 s.read.1 s.read.2;
        width = room.0;
        room = room.1;
        inside = omega (arith, s.inside, room.2);
      }

  member-scope : (place : ℕ) (f : Field) (tree : Tree) (got : slice_get y.fields place ≡ Some f) (s : Stands source around (ty.Node node desc) at (Alt (Some place) tree))
      → (member-stands place f tree got s).context.scope ≡ inside s.context.scope node (Alt (Some place) tree)
  unfolding inside-context member-stands
  member-scope place f tree got s = refl

  -- so does the common structure, with null pointers
  pub common-stands : (common : TypeId) (tree : Tree) → IsCommon source.program.now y common → Stands source around (ty.Node node desc) at (Alt None tree)
      → Stands source (without_pointers (entered around node at)) (ty.Node common None) at tree
  unfolding inside-context
  common-stands common tree c s =
      let x = s.context in
      let bits = bits_from source.space.now source.from in
      let held = Got itself bits around.whole in
      let room = has_room-common source.program.now source.layouts.now.structures x.capacity x.settled x.laid.structures node desc y common s.width has c s.room in
      let found = read-common held node common desc y tree x.settled has c s.read.0 s.read.1 s.read.2 in
      let inner = inside-context source around node desc at (Alt None tree) s in
      record {
        context = record {
          settled = inner.settled;
          laid = inner.laid;
          blocks = inner.blocks;
          addresses = inner.addresses;
          capacity = inner.capacity;
          few = inner.few;
          small = inner.small;
          statics = inner.statics;
          scope = inner.scope;
          here = inner.here;
          outer = inner.outer;
          outermost = inner.outermost;
        };
        typed = Alike.in_common s.typed (twins source around node desc at (Alt None tree) s) has c;
        fits = fits-common node common desc y tree x.settled has c s.fits;
        read = (found.0, found.1, weaker itself bits around.whole found.0 (nulls found.1 (is-plain node desc tree s.fits)) found.2);
        width = room.0;
        room = room.1;
        inside = omega (arith, s.inside, room.2);
      }

  pub common-scope : (common : TypeId) (tree : Tree) (c : IsCommon source.program.now y common) (s : Stands source around (ty.Node node desc) at (Alt None tree))
      → (common-stands common tree c s).context.scope ≡ inside s.context.scope node (Alt None tree)
  unfolding inside-context common-stands
  common-scope common tree c s = refl

  pub nothing-stands : (tree : Tree) → ((common : TypeId) → ¬ IsCommon source.program.now y common) → Stands source around (ty.Node node desc) at (Alt None tree) → tree ≡ Rec End
  nothing-stands tree none s = is-nothing node desc y tree has none s.fits

-- ---- arrays

pub record RowParts (source : Source) (around : Around) (elem : Ty) (at n : ℕ) (value : Tree) : Type 0 where
  pub trees : Trees
  pub is : value ≡ Row trees
  pub stand : EachStands source around elem at n trees

module _ (source : Source) (around : Around) (type elem : Ty) (at : ℕ) where
  abbrev StandsAs : Tree → Type 0
  StandsAs value = Stands source around type at value

  pub array-stands : (n : ℕ) (value : Tree) → out-Ty type ≡ part.Arr n elem → StandsAs value → RowParts source around elem at n value
  array-stands n value e s =
      let held = Got itself (bits_from source.space.now source.from) around.whole in
      let found = is-array type elem n value e s.fits in
      let read = subst (λ v. IsRead source.program.now source.layouts.now.structures held at type v) found.1 s.read in
      let room = room-array type elem n s.width e s.room in
      record {
        trees = found.0;
        is = found.1;
        stand = record {
          context = s.context;
          typed = Alike.in_array s.typed e;
          fit = found.3;
          as_many = found.2;
          stride = 8 * (extent_of source.layouts.now.structures elem).size;
          is_stride = refl;
          read = read-array held type elem n found.0 e read.0 read.1 read.2;
          plain = room.0;
          inside = omega (arith, s.inside, room.1);
        };
      }

  pub array-scope : (n : ℕ) (value : Tree) (e : out-Ty type ≡ part.Arr n elem) (s : StandsAs value) → (array-stands n value e s).stand.context.scope ≡ s.context.scope
  unfolding array-stands
  array-scope n value e s = refl

  pub record TailParts (length : Expr) (value : Tree) : Type 0 where
    pub n : ℕ
    pub worth : value_of (path_worth source around) (root_worth source) length ≡ Some (pos n)
    pub few : n < 2 ^ 32
    pub row : RowParts source around elem at n value

  pub tail-stands : (length : Expr) (value : Tree) → out-Ty type ≡ part.Tail length elem → StandsAs value → TailParts length value
  tail-stands length value e s =
      let x = s.context in
      let held = Got itself (bits_from source.space.now source.from) around.whole in
      let found = is-tail type elem length value e s.fits in
      let n = count found.0 in
      let fits = subst (λ v. Fits source.program.now x.blocks x.capacity x.scope type v) found.1 s.fits in
      let fit = fits-tail type elem length found.0 e fits in
      let read = subst (λ v. IsRead source.program.now source.layouts.now.structures held at type v) found.1 s.read in
      let room = room-tail type elem length s.width e s.room in
      let stride = 8 * (extent_of source.layouts.now.structures elem).size in
      let le : n * stride ≤ x.capacity * stride = Rattle.std.proofs.Common.mul-le-mul_right stride fit.0 in
      record {
        n = n;
        worth = worth-is source around x length (count-read source (given_in x) refl x.settled x.statics s.typed length (count-tail type elem length e)) ∙ found.2;
        few = omega (arith, fit.0, x.few);
        row = record {
          trees = found.0;
          is = found.1;
          stand = record {
            context = x;
            typed = Alike.in_tail s.typed e;
            fit = found.3;
            as_many = refl;
            stride = stride;
            is_stride = refl;
            read = read-tail held type elem length found.0 e read.0 read.1 read.2;
            plain = room.0;
            inside = omega (arith, s.inside, room.1, le);
          };
        };
      }

  pub tail-scope : (length : Expr) (value : Tree) (e : out-Ty type ≡ part.Tail length elem) (s : StandsAs value) → (tail-stands length value e s).row.stand.context.scope ≡ s.context.scope
  unfolding tail-stands
  tail-scope length value e s = refl

-- ---- as the code has them

-- the same fields, by other names
pub fields-as : (source : Source) (around inner : Around) (fields others : List Field) (spots places : List FieldSpot) (at : ℕ) (trees : Trees) → around ≡ inner → fields ≡ others → spots ≡ places
    → FieldsStand source inner (types_of others) places at trees → FieldsStand source around (types_of fields) spots at trees
fields-as source around inner fields others spots places at trees a f s h =
    subst (λ x. FieldsStand source x (types_of fields) spots at trees) (sym a)
    (subst (λ x. FieldsStand source inner (types_of x) spots at trees) (sym f) (subst (λ x. FieldsStand source inner (types_of others) x at trees) (sym s) h))

pub active-is : (source : Source) (around inner : Around) (desc : Option Expr) (worth : Option ℤ) (fields : List Field) (member : Option ℕ) → around ≡ inner → worth ≡ worth_of source around desc
    → member ≡ active_member worth fields → active_member (worth_of source inner desc) fields ≡ member
active-is source around inner desc worth fields member a w m =
    ap (λ x. active_member (worth_of source x desc) fields) (sym a) ∙ ap (λ x. active_member x fields) (sym w) ∙ sym m

module _ (source : Source) (around : Around) (node : TypeId) (desc : Option Expr) (at : ℕ) (y : Structure) (has : HasStructure source.program.now node y) (union : y.is_union ≡ true) where
  union-in : (member : Option ℕ) (scope : Scope) (value : Tree) → active_member (worth_of source (entered around node at) desc) y.fields ≡ member → StandsIn source around scope (ty.Node node desc) at value
      → (part : Tree) × (value ≡ Alt member part) × StandsIn source around scope (ty.Node node desc) at (Alt member part)
  union-in member scope value active s =
      let found = union-stands source around node desc at y has union value s.0 in
      let same : found.member ≡ member = sym found.active ∙ active in
      let is = found.is ∙ ap (λ m. Alt m found.part) same in
      (found.part, is, subst (λ v. StandsIn source around scope (ty.Node node desc) at v) is s)

  -- a value whose active member the code has found
  pub member-in : (place : ℕ) (f : Field) (scope : Scope) (value : Tree) → active_member (worth_of source (entered around node at) desc) y.fields ≡ Some place → slice_get y.fields place ≡ Some f
      → StandsIn source around scope (ty.Node node desc) at value
      → (part : Tree) × (value ≡ Alt (Some place) part) × StandsIn source (entered around node at) (inside scope node (Alt (Some place) part)) f.ty at part
  member-in place f scope value active got s =
      let found = union-in (Some place) scope value active s in
      let stands = found.2.0 in
      (found.0, found.1, (member-stands source around node desc at y has union place f found.0 got stands, member-scope source around node desc at y has union place f found.0 got stands ∙ ap (λ x. inside x node (Alt (Some place) found.0)) found.2.1))

  pub member-read : (place : ℕ) (f : Field) (value : Tree) → active_member (worth_of source (entered around node at) desc) y.fields ≡ Some place → slice_get y.fields place ≡ Some f
      → Stands source around (ty.Node node desc) at value → (part : Tree) × (value ≡ Alt (Some place) part) × Stands source (entered around node at) f.ty at part
  member-read place f value active got s =
      let found = member-in place f s.context.scope value active got (s, refl) in
      (found.0, found.1, found.2.0)

  pub common-in : (common : TypeId) (scope : Scope) (value : Tree) → active_member (worth_of source (entered around node at) desc) y.fields ≡ None → IsCommon source.program.now y common
      → StandsIn source around scope (ty.Node node desc) at value
      → (part : Tree) × (value ≡ Alt None part) × StandsIn source (without_pointers (entered around node at)) (inside scope node (Alt None part)) (ty.Node common None) at part
  common-in common scope value active c s =
      let found = union-in None scope value active s in
      let stands = found.2.0 in
      (found.0, found.1, (common-stands source around node desc at y has union common found.0 c stands, common-scope source around node desc at y has union common found.0 c stands ∙ ap (λ x. inside x node (Alt None found.0)) found.2.1))

  pub common-read : (common : TypeId) (value : Tree) → active_member (worth_of source (entered around node at) desc) y.fields ≡ None → IsCommon source.program.now y common
      → Stands source around (ty.Node node desc) at value → (part : Tree) × (value ≡ Alt None part) × Stands source (without_pointers (entered around node at)) (ty.Node common None) at part
  common-read common value active c s =
      let found = common-in common s.context.scope value active c (s, refl) in
      (found.0, found.1, found.2.0)

  pub nothing-read : (value : Tree) → active_member (worth_of source (entered around node at) desc) y.fields ≡ None → ((common : TypeId) → ¬ IsCommon source.program.now y common)
      → Stands source around (ty.Node node desc) at value → value ≡ Alt None (Rec End)
  nothing-read value active none s =
      let found = union-in None s.context.scope value active (s, refl) in
      found.1 ∙ ap (Alt None) (nothing-stands source around node desc at y has union found.0 none found.2.0)
