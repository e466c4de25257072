-- Paths to numbers read from a reshaped value what they read from the value that it was.
use Rattle.std.proofs.Common.{◌≡◌, ℕ, zero, suc, Bool, true, false, cond, IsTrue, List, [], ◌∷◌, refl, ap, sym, subst, ◌∙◌, arith, Option, Some, None}
use Rattle.std.specs.Prelude.{Contains, slice_get}
use Rattle.std.specs.Str.{bytes_eq}
use Rattle.std.specs.List.{position_from}
use Rattle.std.proofs.lemmas.Slice.Eq.{bytes_eq-Decides}
use Rattle.std.proofs.lemmas.Option.{slice_get-get_or}
use Rattle.gt_types.specs.declared.expressions.Expr.{Expr}
use Rattle.gt_types.specs.declared.types.TypeId.{TypeId}
use Rattle.gt_types.specs.declared.types.Ty.{Ty}
use Rattle.gt_types.specs.declared.types.Ty.TheVariants as ty
use Rattle.gt_types.specs.declared.types.Ty.TheVariants.{outs-Node}
use Rattle.gt_types.specs.declared.program.Field.{Field}
use Rattle.gt_types.specs.declared.program.Structure.{Structure}
use Rattle.gt_types.specs.declared.program.Program.{Program}
use Rattle.gt_types.specs.Shapes.{is_number}
use Rattle.gt_types.specs.Contains.{HasStructure}
use Rattle.gt_types.specs.Unions.{IsCommon}
use Rattle.gt_types.specs.Paths.{by_name, Leads, last_step, next_step}
use Rattle.gt_types.specs.Settled.{Settled}
use Rattle.gt_tree.specs.Trees.{Tree, Num, Null, To, Raw, Rec, Alt, Row, Trees, tree_at, without_pointers}
use Rattle.gt_tree.specs.Scopes.{Typed, typed, outside, root_in, ◌then◌, is_node, type_of_field, first_field_type, first_type, beginning, beginning_of, type_there, field_of, member_of, step_in, step, number_at, read_path}
use Rattle.gt_tree.specs.Fits.{types_of}
use Rattle.gt_tree.specs.Reshapes.{Reshapes, AllReshape, Changes, kept}
use Rattle.gt_tree.proofs.Commons.{one-common}
use Rattle.gt_tree.proofs.PathBegins.{one-number}
use Rattle.gt_tree.proofs.PathBits.{some-same, one-place, position-get, position-first}
use Rattle.gt_tree.proofs.PathParts.{get-map}
use Rattle.gt_tree.proofs.WritePlain.{plain-read, plain-then}

-- ---- the field of a name

-- the first field of a name is the only one
pub named-place : (program : Program) → Settled program → (node : TypeId) (s : Structure) (f : Field) (name : List ℕ) → HasStructure program node s → Contains s.fields f → f.name ≡ name
    → (place : ℕ) × (position_from (λ g. bytes_eq g.name name) 0 s.fields ≡ Some place) × (slice_get s.fields place ≡ Some f)
named-place program settled node s f name has contains named =
    let named_so = λ (g : Field). bytes_eq g.name name in
    let got : slice_get s.fields contains.0 ≡ Some f = slice_get-get_or s.fields contains.0 f contains.1 ∙ ap Some contains.2 in
    let first = position-first named_so s.fields 0 contains.0 f got ((bytes_eq-Decides f.name name).1 named) in
    let found = position-get named_so s.fields 0 first.0 first.1 in
    let here : first.0 ≡ found.0 = omega (arith, found.2) in
    let same : found.0 ≡ contains.0 =
    one-place s.fields name (settled.structures node s has).distinct found.0 contains.0 found.1 f found.3 got ((bytes_eq-Decides found.1.name name).0 found.4) named in
    (first.0, first.1, subst (λ i. slice_get s.fields i ≡ Some f) (sym (here ∙ same)) got)

-- a step takes the field of the name
pub step-taken : (program : Program) (node : TypeId) (s : Structure) (f : Field) (name : List ℕ) (place : ℕ) (union : Bool) (value : Tree) → HasStructure program node s → s.is_union ≡ union
    → position_from (λ g. bytes_eq g.name name) 0 s.fields ≡ Some place → slice_get s.fields place ≡ Some f
    → step program (ty.Node node None) name value ≡ cond union (member_of program s f.ty value) (field_of f value place)
step-taken program node s f name place union value has is first got =
    ap (λ o. o then λ x. step_in program x name value) has
    ∙ ap (λ o. o then λ i. slice_get s.fields i then λ g. cond s.is_union (member_of program s g.ty value) (field_of g value i)) first
    ∙ ap (λ o. o then λ g. cond s.is_union (member_of program s g.ty value) (field_of g value place)) got
    ∙ ap (λ b. cond b (member_of program s f.ty value) (field_of f value place)) is

pub read-desc : (program : Program) (steps : List (List ℕ)) (node : TypeId) (desc : Option Expr) (value : Tree) → read_path program steps (ty.Node node desc) value ≡ read_path program steps (ty.Node node None) value
read-desc program [] node desc value = refl
read-desc program (name ∷ names) node desc value = refl

-- ---- what a value begins with

-- a part of a reshaped value is that of the old one, reshaped; or neither has it
data Kept (program : Program) (c : TypeId) : Option Tree → Option Tree → Type 0 where
  gone : Kept program c None None
  there : {desc : Option Expr} {p q : Tree} → Reshapes program (ty.Node c desc) p q → Kept program c (Some p) (Some q)

one-node : (a b : TypeId) → a.0 ≡ b.0 → a ≡ b
one-node a b e = ap (λ n. let node : TypeId = record { 0 = n } in node) e

pub node-type : (c : TypeId) (type : Ty) → is_node c type ≡ true → (desc : Option Expr) × (type ≡ ty.Node c desc)
node-type c (ty.Node other desc) e = (desc, ap (λ n. ty.Node n desc) (sym (one-node c other (one-number c.0 other.0 e))))
node-type c type e = absurd (cc)

first-map : (fields : List Field) → slice_get (types_of fields) 0 ≡ type_of_field (slice_get fields 0)
first-map [] = refl
first-map (f ∷ fs) = refl

pub first-types : (program : Program) (node : TypeId) (desc : Option Expr) (s : Structure) → HasStructure program node s → first_type program (ty.Node node desc) ≡ slice_get (types_of s.fields) 0
first-types program node desc s has = ap first_field_type has ∙ sym (first-map s.fields)

module _ {program : Program} (c : TypeId) where
  kept-or : (type : Ty) (o n : Tree) (b : Bool) (x y : Option Tree) → is_node c type ≡ b → Reshapes program type o n → Kept program c x y → Kept program c (cond b (Some o) x) (cond b (Some n) y)
  kept-or type o n true x y e r k = Kept.there (subst (λ t. Reshapes program t o n) (node-type c type e).1 r)
  kept-or type o n false x y e r k = k

  mutual
    kept-begin : {type : Ty} {o n : Tree} → Reshapes program type o n → Kept program c (beginning program c (Some type) o) (beginning program c (Some type) n)
    kept-begin (Reshapes.leaf {type} {tree = Num n} e) = kept-or type (Num n) (Num n) (is_node c type) None None refl (Reshapes.leaf e) Kept.gone
    kept-begin (Reshapes.leaf {type} {tree = Null} e) = kept-or type Null Null (is_node c type) None None refl (Reshapes.leaf e) Kept.gone
    kept-begin (Reshapes.leaf {type} {tree = To id} e) = kept-or type (To id) (To id) (is_node c type) None None refl (Reshapes.leaf e) Kept.gone
    kept-begin (Reshapes.leaf {type} {tree = Raw bytes} e) = kept-or type (Raw bytes) (Raw bytes) (is_node c type) None None refl (Reshapes.leaf e) Kept.gone
    kept-begin (Reshapes.leaf {tree = Rec trees} e) = absurd (cc)
    kept-begin (Reshapes.leaf {tree = Alt member tree} e) = absurd (cc)
    kept-begin (Reshapes.leaf {tree = Row trees} e) = absurd (cc)
    kept-begin (Reshapes.struct {node} {desc} {s} {old} {new} has u all) =
        kept-or (ty.Node node desc) (Rec old) (Rec new) (is_node c (ty.Node node desc)) (beginning_of program c (first_type program (ty.Node node desc)) old)
        (beginning_of program c (first_type program (ty.Node node desc)) new) refl (Reshapes.struct has u all)
        (subst (λ t. Kept program c (beginning_of program c t old) (beginning_of program c t new)) (sym (first-types program node desc s has)) (kept-first all))
    kept-begin (Reshapes.same {node} {desc} {place} {old} {new} has u got r) =
        kept-or (ty.Node node desc) (Alt (Some place) old) (Alt (Some place) new) (is_node c (ty.Node node desc)) None None refl (Reshapes.same has u got r) Kept.gone
    kept-begin (Reshapes.same_none {node} {desc} {tree}) = kept-or (ty.Node node desc) (Alt None tree) (Alt None (without_pointers tree)) (is_node c (ty.Node node desc)) None None refl Reshapes.same_none Kept.gone
    kept-begin (Reshapes.other {node} {desc} {old_member} {new_member} {old} {new} has u ne changes) =
        kept-or (ty.Node node desc) (Alt old_member old) (Alt new_member new) (is_node c (ty.Node node desc)) None None refl (Reshapes.other has u ne changes) Kept.gone
    kept-begin (Reshapes.array {type} {old} {new} e each) = kept-or type (Row old) (Row new) (is_node c type) None None refl (Reshapes.array e each) Kept.gone
    kept-begin (Reshapes.tail {type} {old} {new} e each) = kept-or type (Row old) (Row new) (is_node c type) None None refl (Reshapes.tail e each) Kept.gone

    kept-first : {types : List Ty} {olds news : Trees} → AllReshape program types olds news → Kept program c (beginning_of program c (slice_get types 0) olds) (beginning_of program c (slice_get types 0) news)
    kept-first AllReshape.none = Kept.gone
    kept-first (AllReshape.more r rs) = kept-begin r

  kept-then : (names : List (List ℕ)) (d : Option Expr) {x y : Option Tree} → ((desc : Option Expr) (p q : Tree) → Reshapes program (ty.Node c desc) p q → read_path program names (ty.Node c None) p ≡ read_path program names (ty.Node c None) q)
      → Kept program c x y
      → ((x then λ part. Some (typed (ty.Node c d) part)) then λ next. read_path program names next.type next.value) ≡ ((y then λ part. Some (typed (ty.Node c d) part)) then λ next. read_path program names next.type next.value)
  kept-then names d rest Kept.gone = refl
  kept-then names d rest (Kept.there {desc} {p} {q} r) = read-desc program names c d p ∙ rest desc p q r ∙ sym (read-desc program names c d q)

-- ---- the field of a struct

-- a field of a reshaped struct is that of the old one, reshaped; or neither has it
data FieldKept (program : Program) (type : Ty) : Option Typed → Option Typed → Type 0 where
  no_field : FieldKept program type None None
  a_field : {p q : Tree} → Reshapes program type p q → FieldKept program type (Some (typed type p)) (Some (typed type q))

module _ {program : Program} where
  fields-kept : {types : List Ty} {olds news : Trees} → AllReshape program types olds news → (i : ℕ) (type : Ty) → slice_get types i ≡ Some type
      → FieldKept program type (tree_at olds i then λ tree. Some (typed type tree)) (tree_at news i then λ tree. Some (typed type tree))
  fields-kept AllReshape.none i type e = absurd (cc)
  fields-kept (AllReshape.more {type = here} {old} {new} r rs) zero type e = let same : here ≡ type = cc in FieldKept.a_field (subst (λ t. Reshapes program t old new) same r)
  fields-kept (AllReshape.more r rs) (suc i) type e = fields-kept rs i type e

  field-kept : (node : TypeId) (desc : Option Expr) (s : Structure) (f : Field) (place : ℕ) {o n : Tree} → HasStructure program node s → s.is_union ≡ false → slice_get s.fields place ≡ Some f
      → Reshapes program (ty.Node node desc) o n → FieldKept program f.ty (field_of f o place) (field_of f n place)
  field-kept node desc s f place has struct got (Reshapes.leaf {tree = Num n} e) = FieldKept.no_field
  field-kept node desc s f place has struct got (Reshapes.leaf {tree = Null} e) = FieldKept.no_field
  field-kept node desc s f place has struct got (Reshapes.leaf {tree = To id} e) = FieldKept.no_field
  field-kept node desc s f place has struct got (Reshapes.leaf {tree = Raw bytes} e) = FieldKept.no_field
  field-kept node desc s f place has struct got (Reshapes.leaf {tree = Rec trees} e) = absurd (cc)
  field-kept node desc s f place has struct got (Reshapes.leaf {tree = Alt member tree} e) = absurd (cc)
  field-kept node desc s f place has struct got (Reshapes.leaf {tree = Row trees} e) = absurd (cc)
  field-kept node desc s f place has struct got (Reshapes.struct {s = other} {old} {new} h u all) =
      let same : other ≡ s = some-same (slice_get program.structures node.0) other s h has in
      fields-kept (subst (λ x. AllReshape program (types_of x.fields) old new) same all) place f.ty (get-map (λ g. g.ty) s.fields place f got)
  field-kept node desc s f place has struct got (Reshapes.same {s = other} h u g r) = let same : other ≡ s = some-same (slice_get program.structures node.0) other s h has in absurd (cc)
  field-kept node desc s f place has struct got Reshapes.same_none = FieldKept.no_field
  field-kept node desc s f place has struct got (Reshapes.other {s = other} h u ne changes) = let same : other ≡ s = some-same (slice_get program.structures node.0) other s h has in absurd (cc)
  field-kept node desc s f place has struct got (Reshapes.array e each) = FieldKept.no_field
  field-kept node desc s f place has struct got (Reshapes.tail e each) = FieldKept.no_field

  field-then : (names : List (List ℕ)) (type : Ty) {x y : Option Typed} → ((p q : Tree) → Reshapes program type p q → read_path program names type p ≡ read_path program names type q) → FieldKept program type x y
      → (x then λ next. read_path program names next.type next.value) ≡ (y then λ next. read_path program names next.type next.value)
  field-then names type rest FieldKept.no_field = refl
  field-then names type rest (FieldKept.a_field {p} {q} r) = rest p q r

  pub number-kept : (type : Ty) (o n : Tree) → Reshapes program type o n → number_at o ≡ number_at n
  number-kept type o n (Reshapes.leaf e) = refl
  number-kept type o n (Reshapes.struct h u all) = refl
  number-kept type o n (Reshapes.same h u g r) = refl
  number-kept type o n Reshapes.same_none = refl
  number-kept type o n (Reshapes.other h u ne changes) = refl
  number-kept type o n (Reshapes.array e each) = refl
  number-kept type o n (Reshapes.tail e each) = refl

-- roots read the same
pub roots-kept : {program : Program} {types : List Ty} {olds news : Trees} → AllReshape program types olds news → (i : ℕ) → root_in (outside olds) i ≡ root_in (outside news) i
roots-kept AllReshape.none i = refl
roots-kept (AllReshape.more {type} {old} {new} r rs) zero = number-kept type old new r
roots-kept (AllReshape.more r rs) (suc i) = roots-kept rs i

-- ---- the common structure of a union

module _ {program : Program} (settled : Settled program) where
  abbrev ReadsOn : TypeId → List (List ℕ) → Type 0
  ReadsOn c names = (desc : Option Expr) (p q : Tree) → Reshapes program (ty.Node c desc) p q → read_path program names (ty.Node c None) p ≡ read_path program names (ty.Node c None) q

  read-kept : (names : List (List ℕ)) (type : Ty) (member : Option ℕ) (tree : Tree) → read_path program names type (kept member tree) ≡ read_path program names type tree
  read-kept names type None tree = plain-read program names type tree
  read-kept names type (Some place) tree = refl

  changes-read : (node : TypeId) (s : Structure) (c : TypeId) (d : Option Expr) (names : List (List ℕ)) {old_member new_member : Option ℕ} {old new : Tree} → HasStructure program node s → IsCommon program s c
      → Changes program s old_member old new_member new
      → (member_of program s (ty.Node c d) (Alt old_member old) then λ next. read_path program names next.type next.value)
      ≡ (member_of program s (ty.Node c d) (Alt new_member new) then λ next. read_path program names next.type next.value)
  changes-read node s c d names has is (Changes.keeps {old_member} {new_member} {old} {new} {old_part} {common} o e f z) =
      let same : common ≡ c = one-common program node s common c settled has o is in
      let mine : beginning program c (type_there s c old_member) old ≡ Some old_part = subst (λ n. beginning program n (type_there s n old_member) old ≡ Some old_part) same e in
      let theirs : beginning program c (type_there s c new_member) new ≡ Some (kept new_member old_part) = subst (λ n. beginning program n (type_there s n new_member) new ≡ Some (kept new_member old_part)) same f in
      ap (λ x. (x then λ part. Some (typed (ty.Node c d) part)) then λ next. read_path program names next.type next.value) mine
      ∙ sym (read-kept names (ty.Node c d) new_member old_part)
      ∙ sym (ap (λ x. (x then λ part. Some (typed (ty.Node c d) part)) then λ next. read_path program names next.type next.value) theirs)
  changes-read node s c d names has is (Changes.clears none z) = absurd (none c is)

  union-read : (node : TypeId) (desc : Option Expr) (s : Structure) (c : TypeId) (d : Option Expr) (names : List (List ℕ)) (o n : Tree) → HasStructure program node s → IsCommon program s c → ReadsOn c names
      → Reshapes program (ty.Node node desc) o n
      → (member_of program s (ty.Node c d) o then λ next. read_path program names next.type next.value) ≡ (member_of program s (ty.Node c d) n then λ next. read_path program names next.type next.value)
  union-read node desc s c d names o n has is rest (Reshapes.leaf e) = refl
  union-read node desc s c d names o n has is rest (Reshapes.struct h u all) = refl
  union-read node desc s c d names o n has is rest (Reshapes.same {s = other} {place} {f} {old} {new} h u got r) =
      let same : other ≡ s = some-same (slice_get program.structures node.0) other s h has in
      let get : slice_get s.fields place ≡ Some f = subst (λ x. slice_get x.fields place ≡ Some f) same got in
      kept-then c names d rest
      (subst (λ t. Kept program c (beginning program c t old) (beginning program c t new)) (sym (ap type_of_field get)) (kept-begin c r))
  union-read node desc s c d names o n has is rest (Reshapes.same_none {tree}) = sym (plain-then program names s (ty.Node c d) (Alt None tree))
  union-read node desc s c d names o n has is rest (Reshapes.other {s = other} {old_member} {new_member} {old} {new} h u ne changes) =
      let same : other ≡ s = some-same (slice_get program.structures node.0) other s h has in
      changes-read node s c d names has is (subst (λ x. Changes program x old_member old new_member new) same changes)
  union-read node desc s c d names o n has is rest (Reshapes.array e each) = refl
  union-read node desc s c d names o n has is rest (Reshapes.tail e each) = refl

  -- ---- a path

  pub reads-kept : {node : TypeId} {steps : List (List ℕ)} {type : Ty} → Leads program by_name node steps type → IsTrue (is_number type) → (desc : Option Expr) (o n : Tree) → Reshapes program (ty.Node node desc) o n
      → read_path program steps (ty.Node node None) o ≡ read_path program steps (ty.Node node None) n
  reads-kept (last_step {node} {x = name} {s} {f} has named may) number desc o n r = go s.is_union refl
    where
      go : (b : Bool) → s.is_union ≡ b → read_path program (name ∷ []) (ty.Node node None) o ≡ read_path program (name ∷ []) (ty.Node node None) n
      go true union = let c = may.common union in let none = ap is_number c.2 in absurd (cc)
      go false struct =
          let found = named-place program settled node s f name has may.there named in
          ap (λ x. x then λ next. read_path program [] next.type next.value) (step-taken program node s f name found.0 false o has struct found.1 found.2)
          ∙ field-then [] f.ty (number-kept f.ty) (field-kept node desc s f found.0 has struct found.2 r)
          ∙ sym (ap (λ x. x then λ next. read_path program [] next.type next.value) (step-taken program node s f name found.0 false n has struct found.1 found.2))
  reads-kept (next_step {node} {next} {x = name} {xs = names} {s} {f} {desc = inner} {type} has named may is rest) number desc o n r = go (reads-kept rest number) s.is_union refl
    where
      go : ((d : Option Expr) (p q : Tree) → Reshapes program (ty.Node next d) p q → read_path program names (ty.Node next None) p ≡ read_path program names (ty.Node next None) q)
          → (b : Bool) → s.is_union ≡ b → read_path program (name ∷ names) (ty.Node node None) o ≡ read_path program (name ∷ names) (ty.Node node None) n
      go later true union =
          let c = may.common union in
          let common : IsCommon program s next = let named_so : ty.Node c.0 c.1 ≡ ty.Node next inner = sym c.2 ∙ is in let same : c.0 ≡ next = cc in subst (IsCommon program s) same c.3 in
          let found = named-place program settled node s f name has may.there named in
          ap (λ x. x then λ next. read_path program names next.type next.value) (step-taken program node s f name found.0 true o has union found.1 found.2)
          ∙ subst (λ t. (member_of program s t o then λ next. read_path program names next.type next.value) ≡ (member_of program s t n then λ next. read_path program names next.type next.value)) (sym is)
          (union-read node desc s next inner names o n has common later r)
          ∙ sym (ap (λ x. x then λ next. read_path program names next.type next.value) (step-taken program node s f name found.0 true n has union found.1 found.2))
      go later false struct =
          let found = named-place program settled node s f name has may.there named in
          ap (λ x. x then λ next. read_path program names next.type next.value) (step-taken program node s f name found.0 false o has struct found.1 found.2)
          ∙ field-then names f.ty
          (λ p q k.
          ap (λ t. read_path program names t p) is
          ∙ read-desc program names next inner p
          ∙ later inner p q (subst (λ t. Reshapes program t p q) is k)
          ∙ sym (ap (λ t. read_path program names t q) is ∙ read-desc program names next inner q))
          (field-kept node desc s f found.0 has struct found.2 r)
          ∙ sym (ap (λ x. x then λ next. read_path program names next.type next.value) (step-taken program node s f name found.0 false n has struct found.1 found.2))
