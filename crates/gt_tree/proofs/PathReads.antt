-- What a path reads from a value that fits.
use Rattle.std.proofs.Common.{◌≡◌, ℕ, zero, suc, ◌+◌, Bool, true, false, cond, IsTrue, ℤ, List, [], ◌∷◌, refl, ap, sym, subst, ◌∙◌, arith, Option, Some, None, inl}
use Rattle.std.specs.Prelude.{Contains, slice_get}
use Rattle.std.specs.List.{position_from}
use Rattle.std.specs.Str.{bytes_eq}
use Rattle.std.proofs.lemmas.Slice.Eq.{bytes_eq-Decides}
use Rattle.std.proofs.lemmas.Option.{slice_get-get_or}
use Rattle.gt_types.specs.declared.expressions.Expr.{Expr}
use Rattle.gt_types.specs.declared.types.TypeId.{TypeId}
use Rattle.gt_types.specs.declared.types.Ty.{Ty}
use Rattle.gt_types.specs.declared.types.Ty.TheVariants as ty
use Rattle.gt_types.specs.declared.types.Ty.TheVariants.{outs-Num, outs-Bits}
use Rattle.gt_types.specs.declared.program.Field.{Field}
use Rattle.gt_types.specs.declared.program.Structure.{Structure}
use Rattle.gt_types.specs.declared.program.Program.{Program}
use Rattle.gt_types.specs.Shapes.{is_number}
use Rattle.gt_types.specs.Contains.{HasStructure, itself}
use Rattle.gt_types.specs.Paths.{Leads, last_step, next_step, MayStep, by_name, LeadsToNumber}
use Rattle.gt_types.specs.Unions.{IsCommon}
use Rattle.gt_types.specs.Values.{within_i64}
use Rattle.gt_types.specs.Settled.{Settled}
use Rattle.gt_layout.specs.declared.planes.Plane.{Plane}
use Rattle.gt_layout.specs.declared.planes.Layouts.{Layouts}
use Rattle.gt_layout.specs.declared.planes.FieldSpot.{FieldSpot}
use Rattle.gt_layout.specs.declared.storages.Storage.{Storage}
use Rattle.gt_layout.specs.Storages.{storages_of}
use Rattle.gt_layout.specs.Places.{begin_at, Overlap, Lie}
use Rattle.gt_layout.specs.Planes.{AreLaidOut, IsLaidOut}
use Rattle.gt_tree.specs.Trees.{Tree, Num, Rec, tree_at}
use Rattle.gt_tree.specs.Blocks.{Blocks}
use Rattle.gt_tree.specs.Scopes.{Scope, typed, ◌then◌, field_of, member_of, step_in, step, number_at, read_path}
use Rattle.gt_tree.specs.Fits.{Fits}
use Rattle.gt_tree.specs.Leaves.{Leaf, leaf, Number, HasLeaves}
use Rattle.gt_tree.specs.PathLaws.{StepBit, PathBit, last_bit, next_bit, number_width, has_room_in, ReadsLeaf, PathsReadLeaves, FitsWith}
use Rattle.gt_tree.proofs.Structures.{get-as_long}
use Rattle.gt_tree.proofs.PathBits.{one-place, position-get, position-first}
use Rattle.gt_tree.proofs.PathParts.{Has, NumbersIn, Contains-has, get-map, field-part}
use Rattle.gt_tree.proofs.PathUnions.{common-part}

-- ---- the field of a name

-- the first field of a name is the only one
pub named-place : (program : Program) → Settled program → (node : TypeId) (s : Structure) (f : Field) (name : List ℕ) → HasStructure program node s → Contains s.fields f → f.name ≡ name
    → (place : ℕ) × (position_from (λ g. bytes_eq g.name name) 0 s.fields ≡ Some place) × (slice_get s.fields place ≡ Some f)
named-place program settled node s f name has contains named =
    let named_so = λ (g : Field). bytes_eq g.name name in
    let got : slice_get s.fields contains.0 ≡ Some f = slice_get-get_or s.fields contains.0 f contains.1 ∙ ap Some contains.2 in
    let first = position-first named_so s.fields 0 contains.0 f got ((bytes_eq-Decides f.name name).1 named) in
    let found = position-get named_so s.fields 0 first.0 first.1 in
    let here : first.0 ≡ found.0 = omega (arith, found.2) in
    let same : found.0 ≡ contains.0 =
    one-place s.fields name (settled.structures node s has).distinct found.0 contains.0 found.1 f found.3 got ((bytes_eq-Decides found.1.name name).0 found.4) named in
    (first.0, first.1, subst (λ i. slice_get s.fields i ≡ Some f) (sym (here ∙ same)) got)

-- a step takes the field of the name
step-taken : (program : Program) (node : TypeId) (desc : Option Expr) (s : Structure) (f : Field) (name : List ℕ) (place : ℕ) (value : Tree) → HasStructure program node s
    → position_from (λ g. bytes_eq g.name name) 0 s.fields ≡ Some place → slice_get s.fields place ≡ Some f
    → step program (ty.Node node desc) name value ≡ cond s.is_union (member_of program s f.ty value) (field_of f value place)
step-taken program node desc s f name place value has first got =
    ap (λ o. o then λ x. step_in program x name value) has
    ∙ ap (λ o. o then λ i. slice_get s.fields i then λ g. cond s.is_union (member_of program s g.ty value) (field_of g value i)) first
    ∙ ap (λ o. o then λ g. cond s.is_union (member_of program s g.ty value) (field_of g value place)) got

-- ---- one step

-- the part to which a step from a struct leads
pub record StructStep (program : Program) (planes : List Plane) (node : TypeId) (name : List ℕ) (type : Ty) (value : Tree) (at : ℕ) (leaves : List Leaf) : Type 0 where
  pub bit : ℕ
  pub part : Tree
  pub first : List Leaf
  pub blocks : Blocks
  pub capacity : ℕ
  pub scope : Scope
  pub step_bit : StepBit program planes node name bit type
  pub taken : (desc : Option Expr) → step program (ty.Node node desc) name value ≡ Some (typed type part)
  pub fits : Fits program blocks capacity scope type part
  pub has : HasLeaves program planes (at + bit) type part first
  pub numbers : NumbersIn first leaves

-- the structure to which a step leads
pub record NodeStep (program : Program) (planes : List Plane) (node next : TypeId) (type : Ty) (name : List ℕ) (value : Tree) (at : ℕ) (leaves : List Leaf) : Type 0 where
  pub bit : ℕ
  pub part : Tree
  pub first : List Leaf
  pub step_bit : StepBit program planes node name bit type
  pub taken : (desc : Option Expr) → step program (ty.Node node desc) name value ≡ Some (typed type part)
  pub fits : FitsWith program planes next part (at + bit) first
  pub numbers : NumbersIn first leaves

overlap-get : (fields : List Storage) (spots : List FieldSpot) (place : ℕ) (x : Storage) → Overlap fields spots → slice_get fields place ≡ Some x → (spot : FieldSpot) × (slice_get spots place ≡ Some spot) × (begin_at spot ≡ 0)
overlap-get [] spots place x o got = absurd (cc)
overlap-get (f ∷ fs) [] place x o got = absurd o
overlap-get (f ∷ fs) (s ∷ ss) zero x o got = (s, refl, ap begin_at o.0)
overlap-get (f ∷ fs) (s ∷ ss) (suc place) x o got = overlap-get fs ss place x o.1 got

field-taken : (f : Field) (value part : Tree) (place : ℕ) (trees : _) → value ≡ Rec trees → tree_at trees place ≡ Some part → field_of f value place ≡ Some (typed f.ty part)
field-taken f value part place trees is there = ap (λ v. field_of f v place) is ∙ ap (λ o. o then λ x. Some (typed f.ty x)) there

module _ (program : Program) (planes : List Plane) (settled : Settled program) (laid : AreLaidOut program planes) where
  pub struct-step : (node : TypeId) (s : Structure) (f : Field) (name : List ℕ) (value : Tree) (at : ℕ) (leaves : List Leaf) → HasStructure program node s → Contains s.fields f → f.name ≡ name → s.is_union ≡ false
      → FitsWith program planes node value at leaves → StructStep program planes node name f.ty value at leaves
  struct-step node s f name value at leaves has contains named struct w =
      let found = named-place program settled node s f name has contains named in
      let p = field-part node w.desc s has found.0 f struct found.2 w.has w.fits in
      record {
        bit = begin_at p.spot;
        part = p.part;
        first = p.first;
        blocks = p.blocks;
        capacity = p.capacity;
        scope = p.scope;
        step_bit = record { s = s; f = f; place = found.0; plane = p.plane; spot = p.spot; has = has; field = found.2; named = named; laid = p.laid; spot_of = p.spot_of; begins = refl; is_type = refl };
        taken = λ desc.
            step-taken program node desc s f name found.0 value has found.1 found.2
            ∙ ap (λ b. cond b (member_of program s f.ty value) (field_of f value found.0)) struct
            ∙ field-taken f value p.part found.0 p.trees p.is_rec p.there;
        fits = p.fits;
        has = p.has;
        numbers = p.numbers;
      }

  union-step : (node : TypeId) (s : Structure) (f : Field) (name : List ℕ) (common : TypeId) (desc : Option Expr) (value : Tree) (at : ℕ) (leaves : List Leaf) → HasStructure program node s → Contains s.fields f → f.name ≡ name
      → s.is_union ≡ true → f.ty ≡ ty.Node common desc → IsCommon program s common → FitsWith program planes node value at leaves → NodeStep program planes node common f.ty name value at leaves
  union-step node s f name common desc value at leaves has contains named union is c w =
      let found = named-place program settled node s f name has contains named in
      let p = common-part settled laid node w.desc s has common c w.has w.fits in
      let plane = get-as_long planes program.structures node.0 s laid.all has in
      let overlap = subst (λ u. Lie u (storages_of planes s.fields) plane.0.fields) union (laid.each node.0 s plane.0 has plane.1).places in
      let spot = overlap-get (storages_of planes s.fields) plane.0.fields found.0 _ overlap (get-map (λ g. Rattle.gt_layout.specs.Storages.storage_of planes g.ty) s.fields found.0 f found.2) in
      let here : at ≡ at + begin_at spot.0 = omega (arith, spot.2) in
      record {
        bit = begin_at spot.0;
        part = p.part;
        first = p.first;
        step_bit = record { s = s; f = f; place = found.0; plane = plane.0; spot = spot.0; has = has; field = found.2; named = named; laid = plane.1; spot_of = spot.1; begins = refl; is_type = refl };
        taken = λ d.
            step-taken program node d s f name found.0 value has found.1 found.2
            ∙ ap (λ b. cond b (member_of program s f.ty value) (field_of f value found.0)) union
            ∙ subst (λ t. member_of program s t value ≡ Some (typed t p.part)) (sym is) (p.member desc);
        fits = subst (λ n. FitsWith program planes common p.part n p.first) here p.fits;
        numbers = p.numbers;
      }

  pub node-step : (node next : TypeId) (s : Structure) (f : Field) (name : List ℕ) (desc : Option Expr) (value : Tree) (at : ℕ) (leaves : List Leaf) → HasStructure program node s → f.name ≡ name → MayStep program s f
      → f.ty ≡ ty.Node next desc → FitsWith program planes node value at leaves → NodeStep program planes node next f.ty name value at leaves
  node-step node next s f name desc value at leaves has named may is w = go s.is_union refl
    where
      go : (b : Bool) → s.is_union ≡ b → NodeStep program planes node next f.ty name value at leaves
      go true union =
          let c = may.common union in
          let named_so = ap itself (sym c.2 ∙ is) in
          let same : c.0 ≡ next = cc in
          subst (λ n. NodeStep program planes node n f.ty name value at leaves) same (union-step node s f name c.0 c.1 value at leaves has may.there named union c.2 c.3 w)
      go false struct =
          let p = struct-step node s f name value at leaves has may.there named struct w in
          record {
            bit = p.bit;
            part = p.part;
            first = p.first;
            step_bit = p.step_bit;
            taken = p.taken;
            fits = record {
              blocks = p.blocks;
              capacity = p.capacity;
              scope = p.scope;
              desc = desc;
              fits = subst (λ t. Fits program p.blocks p.capacity p.scope t p.part) is p.fits;
              has = subst (λ t. HasLeaves program planes (at + p.bit) t p.part p.first) is p.has;
            };
            numbers = p.numbers;
          }

-- ---- the number

-- the leaf of a number
record NumberLeaf (type : Ty) (part : Tree) (at : ℕ) (leaves : List Leaf) : Type 0 where
  n : ℤ
  is : part ≡ Num n
  there : Has leaves (leaf at (number_width type) (Number n))
  room : IsTrue (has_room_in type n)

module _ {program : Program} {blocks : Blocks} {capacity : ℕ} {scope : Scope} where
  number-room : (scalar : _) (n : ℤ) → Fits program blocks capacity scope (ty.Num scalar) (Num n) → IsTrue (has_room_in (ty.Num scalar) n)
  number-room scalar n (Fits.number h) = h

  bits-room : (unit : _) (width : ℕ) (n : ℤ) → Fits program blocks capacity scope (ty.Bits unit width) (Num n) → IsTrue (has_room_in (ty.Bits unit width) n)
  bits-room unit width n (Fits.bits h) = h

module _ {program : Program} {planes : List Plane} {blocks : Blocks} {capacity : ℕ} {scope : Scope} where
  number-leaf : (type : Ty) (part : Tree) (at : ℕ) (leaves : List Leaf) → IsTrue (is_number type) → HasLeaves program planes at type part leaves → Fits program blocks capacity scope type part
      → NumberLeaf type part at leaves
  number-leaf (ty.Num scalar) part at leaves i (HasLeaves.number {n}) fits = record { n = n; is = refl; there = inl refl; room = number-room scalar n fits }
  number-leaf (ty.Num scalar) part at leaves i (HasLeaves.null p) fits = absurd (cc)
  number-leaf (ty.Num scalar) part at leaves i (HasLeaves.to p) fits = absurd (cc)
  number-leaf (ty.Num scalar) part at leaves i (HasLeaves.array e each) fits = let o = outs-Num scalar in absurd (cc)
  number-leaf (ty.Num scalar) part at leaves i (HasLeaves.tail e each) fits = let o = outs-Num scalar in absurd (cc)
  number-leaf (ty.Bits unit width) part at leaves i (HasLeaves.bits {n}) fits = record { n = n; is = refl; there = inl refl; room = bits-room unit width n fits }
  number-leaf (ty.Bits unit width) part at leaves i (HasLeaves.null p) fits = absurd (cc)
  number-leaf (ty.Bits unit width) part at leaves i (HasLeaves.to p) fits = absurd (cc)
  number-leaf (ty.Bits unit width) part at leaves i (HasLeaves.array e each) fits = let o = outs-Bits unit width in absurd (cc)
  number-leaf (ty.Bits unit width) part at leaves i (HasLeaves.tail e each) fits = let o = outs-Bits unit width in absurd (cc)
  number-leaf type part at leaves i has fits = absurd (cc)

-- ---- a path

-- what a path reads, with its leaf by recursion on the list
record Reads (program : Program) (planes : List Plane) (node : TypeId) (steps : List (List ℕ)) (value : Tree) (at : ℕ) (leaves : List Leaf) : Type 0 where
  bit : ℕ
  type : Ty
  n : ℤ
  path : PathBit program planes node steps bit type
  there : Has leaves (leaf (at + bit) (number_width type) (Number n))
  room : IsTrue (has_room_in type n)
  read : read_path program steps (ty.Node node None) value ≡ within_i64 n

read-desc : (program : Program) (steps : List (List ℕ)) (node : TypeId) (desc other : Option Expr) (value : Tree) → read_path program steps (ty.Node node desc) value ≡ read_path program steps (ty.Node node other) value
read-desc program [] node desc other value = refl
read-desc program (name ∷ names) node desc other value = refl

module _ (program : Program) (planes : List Plane) (settled : Settled program) (laid : AreLaidOut program planes) where
  read-last : (node : TypeId) (s : Structure) (f : Field) (name : List ℕ) (value : Tree) (at : ℕ) (leaves : List Leaf) → HasStructure program node s → f.name ≡ name → MayStep program s f → IsTrue (is_number f.ty)
      → FitsWith program planes node value at leaves → Reads program planes node (name ∷ []) value at leaves
  read-last node s f name value at leaves has named may number w = go s.is_union refl
    where
      go : (b : Bool) → s.is_union ≡ b → Reads program planes node (name ∷ []) value at leaves
      go true union = let c = may.common union in let none = ap is_number c.2 in absurd (cc)
      go false struct =
          let p = struct-step program planes settled laid node s f name value at leaves has may.there named struct w in
          let l = number-leaf f.ty p.part (at + p.bit) p.first number p.has p.fits in
          record {
            bit = p.bit;
            type = f.ty;
            n = l.n;
            path = last_bit p.step_bit;
            there = p.numbers (at + p.bit) (number_width f.ty) l.n l.there;
            room = l.room;
            read = ap (λ o. o then λ next. read_path program [] next.type next.value) (p.taken None) ∙ ap number_at l.is;
          }

  reads : {node : TypeId} {steps : List (List ℕ)} {type : Ty} → Leads program by_name node steps type → IsTrue (is_number type) → (value : Tree) (at : ℕ) (leaves : List Leaf)
      → FitsWith program planes node value at leaves → Reads program planes node steps value at leaves
  reads (last_step {node} {x = name} {s} {f} has named may) number value at leaves w = read-last node s f name value at leaves has named may number w
  reads (next_step {node} {next} {x = name} {xs = names} {s} {f} {desc} {type} has named may is rest) number value at leaves w =
      let p = node-step program planes settled laid node next s f name desc value at leaves has named may is w in
      let r = reads rest number p.part (at + p.bit) p.first p.fits in
      let here : at + p.bit + r.bit ≡ at + (p.bit + r.bit) = omega arith in
      record {
        bit = p.bit + r.bit;
        type = r.type;
        n = r.n;
        path = next_bit (subst (λ t. StepBit program planes node name p.bit t) is p.step_bit) r.path;
        there = subst (λ a. Has leaves (leaf a (number_width r.type) (Number r.n))) here (p.numbers (at + p.bit + r.bit) (number_width r.type) r.n r.there);
        room = r.room;
        read = ap (λ o. o then λ x. read_path program names x.type x.value) (p.taken None)
            ∙ ap (λ t. read_path program names t p.part) is
            ∙ read-desc program names next desc None p.part
            ∙ r.read;
      }

  pub reads-leaf : (node : TypeId) (steps : List (List ℕ)) (value : Tree) (at : ℕ) (leaves : List Leaf) → LeadsToNumber program node steps → FitsWith program planes node value at leaves
      → ReadsLeaf program planes node steps value at leaves
  reads-leaf node steps value at leaves leads w =
      let r = reads leads.1 leads.2 value at leaves w in
      record { bit = r.bit; type = r.type; n = r.n; path = r.path; there = Contains-has leaves (leaf (at + r.bit) (number_width r.type) (Number r.n)) r.there; room = r.room; read = r.read }

pub paths-read : (program : Program) (layouts : Layouts) → Settled program → IsLaidOut program layouts → PathsReadLeaves program layouts
paths-read program layouts settled laid blocks capacity scope node desc value at leaves steps fits has leads =
    reads-leaf program layouts.structures settled laid.structures node steps value at leaves leads (record { blocks = blocks; capacity = capacity; scope = scope; desc = desc; fits = fits; has = has })
