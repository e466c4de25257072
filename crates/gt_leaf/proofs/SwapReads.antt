-- Paths that end in numbers that expressions read find the same numbers in two values that differ in a leaf that none reads.
use Rattle.std.proofs.Common.{◌≡◌, ℕ, zero, suc, Bool, true, false, cond, IsTrue, List, [], ◌∷◌, refl, ap, sym, subst, ◌∙◌, Option, Some, None, if◌then◌else◌}
use Rattle.std.specs.Prelude.{slice_get}
use Rattle.gt_types.specs.declared.expressions.Base.{Base}
use Rattle.gt_types.specs.declared.expressions.Expr.{Expr}
use Rattle.gt_types.specs.declared.types.TypeId.{TypeId}
use Rattle.gt_types.specs.declared.types.Ty.{Ty}
use Rattle.gt_types.specs.declared.types.Ty.TheVariants as ty
use Rattle.gt_types.specs.declared.program.Field.{Field}
use Rattle.gt_types.specs.declared.program.Structure.{Structure}
use Rattle.gt_types.specs.declared.program.Program.{Program}
use Rattle.gt_types.specs.Shapes.{is_number, is_structure}
use Rattle.gt_types.specs.Contains.{HasStructure, itself}
use Rattle.gt_types.specs.Unions.{IsCommon}
use Rattle.gt_types.specs.Paths.{by_name, Leads, last_step, next_step}
use Rattle.gt_types.specs.Settled.{Settled}
use Rattle.gt_tree.specs.Trees.{Tree, Num, Null, To, Raw, Rec, Alt, Row, Trees, tree_at, is_leaf}
use Rattle.gt_tree.specs.Scopes.{Typed, typed, ◌then◌, is_node, type_of_field, first_type, beginning, beginning_of, field_of, member_of, number_at, read_path}
use Rattle.gt_tree.specs.Fits.{types_of}
use Rattle.gt_tree.proofs.Commons.{one-common}
use Rattle.gt_tree.proofs.PathBits.{some-same}
use Rattle.gt_tree.proofs.PathParts.{get-map}
use Rattle.gt_tree.proofs.WriteReads.{named-place, step-taken, read-desc, node-type, first-types}
use Rattle.gt_value.specs.declared.places.Holder.{Holder}
use Rattle.gt_value.specs.declared.places.Holder.TheVariants as lies_in
use Rattle.gt_starts.specs.Ways.{Way, known, hidden, way_to}
use Rattle.gt_leaf.specs.Unread.{Enclosing, Around, with_structure, StandsAround, HasPath, name_of_number, number_name}
use Rattle.gt_leaf.proofs.Arounds.{stands-within, IsUnreadInside}
use Rattle.gt_leaf.proofs.WaySteps.{with_first, ways-stop, ways-step, ways-end, OnWay, way-goes, way-stops, way-ends}
use Rattle.gt_leaf.proofs.Swaps.{Swap, OneSwaps, swap-place}

-- ---- numbers

-- a number has the name of its field
name-of-number : (program : Program) (node : TypeId) (s : Structure) → HasStructure program node s → (i : ℕ) (f : Field) → slice_get s.fields i ≡ Some f → is_number f.ty ≡ true → number_name program node i ≡ Some f.name
name-of-number program node s has i f get number =
    ap (λ o. o then λ (x : Structure). slice_get x.fields i then name_of_number) has ∙ ap (λ o. o then name_of_number) get ∙ ap (λ b. if b then Some f.name else None) number

pub number-swap : {program : Program} {around : Around} {h : Holder} {type : Ty} {path : List ℕ} {o n : Tree} → Swap program around h type path o n → ¬ IsUnreadInside program around h → number_at o ≡ number_at n
number-swap (Swap.replaced unread a b plain) read = absurd (read unread)
number-swap (Swap.in_struct h u one) read = refl
number-swap (Swap.in_member h u g swap) read = refl
number-swap (Swap.in_common h c swap) read = refl
number-swap (Swap.in_row plain) read = refl

-- ---- what a value begins with

-- what stands around one part stands around another
pub record Grows (around inner : Around) : Type 0 where
  pub each : (base : Base) (b : Enclosing) → StandsAround around base b → StandsAround inner base b

-- a part of a value and that of the other are one, or they differ so
data Kept (program : Program) (c : TypeId) (around : Around) : Option Tree → Option Tree → Type 0 where
  kept_same : {x : Option Tree} → Kept program c around x x
  kept_swap : (inner : Around) {path : List ℕ} {h : Holder} {desc : Option Expr} {p q : Tree} → Grows around inner → Swap program inner h (ty.Node c desc) path p q → Kept program c around (Some p) (Some q)

kept-outside : {program : Program} {c : TypeId} {around : Around} (node : TypeId) (path : List ℕ) {x y : Option Tree} → Kept program c (with_structure program around node path) x y → Kept program c around x y
kept-outside node path Kept.kept_same = Kept.kept_same
kept-outside {program} {around} node path (Kept.kept_swap inner grows swap) =
    Kept.kept_swap inner (record { each = λ base b d. grows.each base b (stands-within around (node, way_to program (Some node) path) base b d) }) swap

-- a path of names reads the same from a structure inside these in two values that differ so
abbrev ReadsOn : Program → TypeId → Around → List (List ℕ) → Type 0
ReadsOn program c around names = (inner : Around) (path : List ℕ) → Grows around inner → (h : Holder) (desc : Option Expr) (p q : Tree) → Swap program inner h (ty.Node c desc) path p q
    → read_path program names (ty.Node c None) p ≡ read_path program names (ty.Node c None) q

no-node : (c : TypeId) (type : Ty) → is_structure type ≡ false → is_node c type ≡ false
no-node c (ty.Node node desc) e = absurd (cc)
no-node c type e = refl

begin-leaf : (program : Program) (c : TypeId) (type : Ty) (tree : Tree) → is_node c type ≡ false → IsTrue (is_leaf tree) → beginning program c (Some type) tree ≡ None
begin-leaf program c type (Num n) e h = ap (λ b. cond b (Some (Num n)) None) e
begin-leaf program c type Null e h = ap (λ b. cond b (Some Null) None) e
begin-leaf program c type (To id) e h = ap (λ b. cond b (Some (To id)) None) e
begin-leaf program c type (Raw bytes) e h = ap (λ b. cond b (Some (Raw bytes)) None) e
begin-leaf program c type (Rec trees) e h = absurd (cc)
begin-leaf program c type (Alt member tree) e h = absurd (cc)
begin-leaf program c type (Row trees) e h = absurd (cc)

module _ {program : Program} (c : TypeId) where
  kept-or : {around : Around} {h : Holder} {path : List ℕ} (type : Ty) (o n : Tree) (b : Bool) (x y : Option Tree) → is_node c type ≡ b → Swap program around h type path o n → Kept program c around x y → Kept program c around (cond b (Some o) x) (cond b (Some n) y)
  kept-or {around} {h} {path} type o n true x y e swap k = Kept.kept_swap around (record { each = λ base b d. d }) (subst (λ t. Swap program around h t path o n) (node-type c type e).1 swap)
  kept-or type o n false x y e swap k = k

  mutual
    kept-begin : {around : Around} {h : Holder} {type : Ty} {path : List ℕ} {o n : Tree} → Swap program around h type path o n → Kept program c around (beginning program c (Some type) o) (beginning program c (Some type) n)
    kept-begin {around} (Swap.replaced {type} {a = o} {b = n} unread a b plain) =
        subst (λ x. Kept program c around x (beginning program c (Some type) n)) (sym (begin-leaf program c type o (no-node c type plain) a))
        (subst (λ x. Kept program c around None x) (sym (begin-leaf program c type n (no-node c type plain) b)) Kept.kept_same)
    kept-begin {around} (Swap.in_struct {h} {node} {desc} {s} {i} {path} {old} {new} has u one) =
        kept-or {h = h} (ty.Node node desc) (Rec old) (Rec new) (is_node c (ty.Node node desc)) (beginning_of program c (first_type program (ty.Node node desc)) old)
        (beginning_of program c (first_type program (ty.Node node desc)) new) refl (Swap.in_struct has u one)
        (subst (λ t. Kept program c around (beginning_of program c t old) (beginning_of program c t new)) (sym (first-types program node desc s has)) (kept-outside node (i ∷ path) (kept-first one)))
    kept-begin (Swap.in_member {h} {node} {desc} {i} {old} {new} has u got swap) =
        kept-or {h = h} (ty.Node node desc) (Alt (Some i) old) (Alt (Some i) new) (is_node c (ty.Node node desc)) None None refl (Swap.in_member has u got swap) Kept.kept_same
    kept-begin (Swap.in_common {h} {node} {desc} {old} {new} has is swap) =
        kept-or {h = h} (ty.Node node desc) (Alt None old) (Alt None new) (is_node c (ty.Node node desc)) None None refl (Swap.in_common has is swap) Kept.kept_same
    kept-begin (Swap.in_row {h} {type} {path} {old} {new} plain) = kept-or {h = h} {path = path} type (Row old) (Row new) (is_node c type) None None refl (Swap.in_row plain) Kept.kept_same

    kept-first : {around : Around} {at : ℕ → Holder} {types : List Ty} {i : ℕ} {path : List ℕ} {olds news : Trees} → OneSwaps program around at types i path olds news → Kept program c around (beginning_of program c (slice_get types 0) olds) (beginning_of program c (slice_get types 0) news)
    kept-first (OneSwaps.at_first swap) = kept-begin swap
    kept-first (OneSwaps.at_later one) = Kept.kept_same

  kept-then : (names : List (List ℕ)) (d : Option Expr) {around : Around} {x y : Option Tree} → ReadsOn program c around names → Kept program c around x y
      → ((x then λ part. Some (typed (ty.Node c d) part)) then λ next. read_path program names next.type next.value) ≡ ((y then λ part. Some (typed (ty.Node c d) part)) then λ next. read_path program names next.type next.value)
  kept-then names d rest Kept.kept_same = refl
  kept-then names d rest (Kept.kept_swap inner {path} {h} {desc} {p} {q} grows swap) = read-desc program names c d p ∙ rest inner path grows h desc p q swap ∙ sym (read-desc program names c d q)

-- ---- the field of a struct

-- the fields at a place are one value, or they differ so, where that place is the one at which the structs differ
data FieldSwap (program : Program) (around : Around) (h : Holder) (type : Ty) (k i : ℕ) (path : List ℕ) : Option Typed → Option Typed → Type 0 where
  one_field : {x : Option Typed} → FieldSwap program around h type k i path x x
  two_fields : {p q : Tree} → k ≡ i → Swap program around h type path p q → FieldSwap program around h type k i path (Some (typed type p)) (Some (typed type q))

-- the fields at a place of two structs that differ at a path
record FieldsAt (program : Program) (around : Around) (node : TypeId) (f : Field) (place : ℕ) (path : List ℕ) (o n : Tree) : Type 0 where
  k : ℕ
  rest : List ℕ
  path_is : path ≡ k ∷ rest
  swap : FieldSwap program (with_structure program around node path) (lies_in.Field node place) f.ty k place rest (field_of f o place) (field_of f n place)

module _ {program : Program} where
  next-field : {around : Around} {h : Holder} {type : Ty} {k i : ℕ} {path : List ℕ} {x y : Option Typed} → FieldSwap program around h type k i path x y → FieldSwap program around h type (suc k) (suc i) path x y
  next-field FieldSwap.one_field = FieldSwap.one_field
  next-field (FieldSwap.two_fields e swap) = FieldSwap.two_fields (ap suc e) swap

  fields-swap : {around : Around} {at : ℕ → Holder} {types : List Ty} {k : ℕ} {path : List ℕ} {olds news : Trees} → OneSwaps program around at types k path olds news → (i : ℕ) (type : Ty) → slice_get types i ≡ Some type
      → FieldSwap program around (at i) type k i path (tree_at olds i then λ tree. Some (typed type tree)) (tree_at news i then λ tree. Some (typed type tree))
  fields-swap {around} (OneSwaps.at_first {at} {type = first} {path} {old} {new} swap) zero type e = let equal : first ≡ type = cc in FieldSwap.two_fields refl (subst (λ t. Swap program around (at zero) t path old new) equal swap)
  fields-swap (OneSwaps.at_first swap) (suc i) type e = FieldSwap.one_field
  fields-swap (OneSwaps.at_later one) zero type e = FieldSwap.one_field
  fields-swap (OneSwaps.at_later one) (suc i) type e = next-field (fields-swap one i type e)

  field-swap : {around : Around} (node : TypeId) (desc : Option Expr) (s : Structure) (f : Field) (place : ℕ) {h : Holder} {path : List ℕ} {o n : Tree} → HasStructure program node s → s.is_union ≡ false → slice_get s.fields place ≡ Some f
      → Swap program around h (ty.Node node desc) path o n → FieldsAt program around node f place path o n
  field-swap node desc s f place has struct got (Swap.replaced unread a b plain) = absurd (cc)
  field-swap {around} node desc s f place has struct got (Swap.in_struct {s = other} {i} {path} {old} {new} h u one) =
      let equal : other ≡ s = some-same (slice_get program.structures node.0) other s h has in
      let here = subst (λ x. OneSwaps program (with_structure program around node (i ∷ path)) (lies_in.Field node) (types_of x.fields) i path old new) equal one in
      record { k = i; rest = path; path_is = refl; swap = fields-swap here place f.ty (get-map (λ g. g.ty) s.fields place f got) }
  field-swap node desc s f place has struct got (Swap.in_member {s = other} h u g swap) = let equal : other ≡ s = some-same (slice_get program.structures node.0) other s h has in absurd (cc)
  field-swap node desc s f place has struct got (Swap.in_common {s = other} h c swap) =
      let equal : other ≡ s = some-same (slice_get program.structures node.0) other s h has in
      let union = c.union in
      absurd (cc)
  field-swap node desc s f place has struct got (Swap.in_row plain) = absurd (cc)

  field-then : (names : List (List ℕ)) (around : Around) (h : Holder) (type : Ty) (k i : ℕ) (rest : List ℕ) {x y : Option Typed} → ((p q : Tree) → k ≡ i → Swap program around h type rest p q → read_path program names type p ≡ read_path program names type q)
      → FieldSwap program around h type k i rest x y → (x then λ next. read_path program names next.type next.value) ≡ (y then λ next. read_path program names next.type next.value)
  field-then names around h type k i rest same FieldSwap.one_field = refl
  field-then names around h type k i rest same (FieldSwap.two_fields {p} {q} e swap) = same p q e swap

-- ---- the common structure of a union

module _ {program : Program} (settled : Settled program) where
  union-read : (node : TypeId) (desc : Option Expr) (s : Structure) (c : TypeId) (d : Option Expr) (names : List (List ℕ)) {around : Around} {h : Holder} {path : List ℕ} (o n : Tree) → HasStructure program node s → IsCommon program s c
      → ReadsOn program c (with_structure program around node path) names → Swap program around h (ty.Node node desc) path o n
      → (member_of program s (ty.Node c d) o then λ next. read_path program names next.type next.value) ≡ (member_of program s (ty.Node c d) n then λ next. read_path program names next.type next.value)
  union-read node desc s c d names o n has is rest (Swap.replaced unread a b plain) = absurd (cc)
  union-read node desc s c d names o n has is rest (Swap.in_struct h u one) = refl
  union-read node desc s c d names {around} o n has is rest (Swap.in_member {s = other} {i} {path} {f} {old} {new} h u got swap) =
      let same : other ≡ s = some-same (slice_get program.structures node.0) other s h has in
      let get : slice_get s.fields i ≡ Some f = subst (λ x. slice_get x.fields i ≡ Some f) same got in
      kept-then c names d rest
      (subst (λ t. Kept program c (with_structure program around node (i ∷ path)) (beginning program c t old) (beginning program c t new)) (sym (ap type_of_field get)) (kept-begin c swap))
  union-read node desc s c d names {around} o n has is rest (Swap.in_common {h} {common} {s = other} {i} {path} {old} {new} there found swap) =
      let same : other ≡ s = some-same (slice_get program.structures node.0) other s there has in
      let equal : common ≡ c = one-common program node s common c settled has (subst (λ x. IsCommon program x common) same found) is in
      kept-then c names d rest (kept-begin c (subst (λ k. Swap program (with_structure program around node (i ∷ path)) h (ty.Node k None) path old new) equal swap))
  union-read node desc s c d names o n has is rest (Swap.in_row plain) = absurd (cc)

  -- ---- a path

  pub reads-swapped : {node : TypeId} {steps : List (List ℕ)} {type : Ty} → Leads program by_name node steps type → IsTrue (is_number type) → (base : Base) (begin : TypeId) (all : List (List ℕ)) → HasPath program base begin all
      → (around : Around) (path : List ℕ) (way : Way) → StandsAround (with_structure program around node path) base (begin, way) → OnWay all way steps (way_to program (Some node) path) → (h : Holder) (desc : Option Expr) (o n : Tree)
      → Swap program around h (ty.Node node desc) path o n → read_path program steps (ty.Node node None) o ≡ read_path program steps (ty.Node node None) n
  reads-swapped (last_step {node} {x = name} {s} {f} has name_is may) number base begin all exists around path way inside on h desc o n r = go s.is_union refl
    where
      go : (b : Bool) → s.is_union ≡ b → read_path program (name ∷ []) (ty.Node node None) o ≡ read_path program (name ∷ []) (ty.Node node None) n
      go true union = let c = may.common union in let none = ap is_number c.2 in absurd (cc)
      go false struct =
          let found = named-place program settled node s f name has may.there name_is in
          let place = found.0 in
          let within = with_structure program around node path in
          let at = field-swap node desc s f place has struct found.2 r in
          let is_read = λ (e : at.k ≡ place) (unread : IsUnreadInside program within (lies_in.Field node place)).
          let left : way_to program (Some node) path ≡ known (f.name ∷ []) = ap (way_to program (Some node)) (at.path_is ∙ ap (λ k. k ∷ at.rest) e) ∙ ways-end program node s has place at.rest f struct found.2 number in
          let ends = way-ends all way f.name (subst (OnWay all way (f.name ∷ [])) left (subst (λ x. OnWay all way (x ∷ []) (way_to program (Some node) path)) (sym name_is) on)) in
          unread (f.name, name-of-number program node s has place f found.2 number, base, (begin, way), inside, all, exists, ends.0, ends.1) in
          ap (λ x. x then λ next. read_path program [] next.type next.value) (step-taken program node s f name place false o has struct found.1 found.2)
          ∙ field-then [] within (lies_in.Field node place) f.ty at.k place at.rest (λ p q e swap. number-swap swap (is_read e)) at.swap
          ∙ sym (ap (λ x. x then λ next. read_path program [] next.type next.value) (step-taken program node s f name place false n has struct found.1 found.2))
  reads-swapped (next_step {node} {next} {x = name} {xs = names} {s} {f} {desc = inner} {type} has name_is may is rest) number base begin all exists around path way inside on h desc o n r =
      go (λ deeper p c left. reads-swapped rest number base begin all exists deeper p way c left) s.is_union refl
    where
      go : ((deeper : Around) (p : List ℕ) → StandsAround (with_structure program deeper next p) base (begin, way) → OnWay all way names (way_to program (Some next) p) → (k : Holder) (d : Option Expr) (x y : Tree)
          → Swap program deeper k (ty.Node next d) p x y → read_path program names (ty.Node next None) x ≡ read_path program names (ty.Node next None) y) → (b : Bool) → s.is_union ≡ b → read_path program (name ∷ names) (ty.Node node None) o ≡ read_path program (name ∷ names) (ty.Node node None) n
      go walk true union =
          let c = may.common union in
          let common : IsCommon program s next = let named_so : ty.Node c.0 c.1 ≡ ty.Node next inner = sym c.2 ∙ is in let same : c.0 ≡ next = cc in subst (IsCommon program s) same c.3 in
          let found = named-place program settled node s f name has may.there name_is in
          let at = swap-place r in
          let stopped : way_to program (Some node) path ≡ hidden [] = ap (way_to program (Some node)) at.2 ∙ ways-stop program node s has at.0 at.1 union in
          let left = subst (OnWay all way (name ∷ names)) stopped on in
          ap (λ x. x then λ next. read_path program names next.type next.value) (step-taken program node s f name found.0 true o has union found.1 found.2)
          ∙ subst (λ t. (member_of program s t o then λ next. read_path program names next.type next.value) ≡ (member_of program s t n then λ next. read_path program names next.type next.value)) (sym is)
          (union-read node desc s next inner names o n has common
          (λ deeper p grows. walk deeper p (stands-within deeper (next, way_to program (Some next) p) base (begin, way) (grows.each base (begin, way) inside)) (way-stops all way name names (way_to program (Some next) p) left)) r)
          ∙ sym (ap (λ x. x then λ next. read_path program names next.type next.value) (step-taken program node s f name found.0 true n has union found.1 found.2))
      go walk false struct =
          let found = named-place program settled node s f name has may.there name_is in
          let place = found.0 in
          let within = with_structure program around node path in
          let at = field-swap node desc s f place has struct found.2 r in
          let goes_on = λ (e : at.k ≡ place).
          let step : way_to program (Some node) path ≡ with_first name (way_to program (Some next) at.rest) = ap (way_to program (Some node)) (at.path_is ∙ ap (λ k. k ∷ at.rest) e)
          ∙ ways-step program node s has place at.rest f struct found.2
          ∙ ap (λ x. with_first x (way_to program (itself f.ty) at.rest)) name_is
          ∙ ap (λ t. with_first name (way_to program (itself t) at.rest)) is in
          way-goes all way name names (way_to program (Some next) at.rest) (subst (OnWay all way (name ∷ names)) step on) in
          ap (λ x. x then λ next. read_path program names next.type next.value) (step-taken program node s f name place false o has struct found.1 found.2)
          ∙ field-then names within (lies_in.Field node place) f.ty at.k place at.rest
          (λ p q e k.
          ap (λ t. read_path program names t p) is
          ∙ read-desc program names next inner p
          ∙ walk within at.rest (stands-within within (next, way_to program (Some next) at.rest) base (begin, way) inside) (goes_on e) (lies_in.Field node place) inner p q
          (subst (λ t. Swap program within (lies_in.Field node place) t at.rest p q) is k)
          ∙ sym (ap (λ t. read_path program names t q) is ∙ read-desc program names next inner q))
          at.swap
          ∙ sym (ap (λ x. x then λ next. read_path program names next.type next.value) (step-taken program node s f name place false n has struct found.1 found.2))
