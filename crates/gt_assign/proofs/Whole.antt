-- A value that fits and comes of what was there is the one that is made.
use Rattle.std.proofs.Common.{◌≡◌, ◌≢◌, ℕ, zero, suc, ◌≤◌, Bool, true, false, cond, IsTrue, List, [], ◌∷◌, length, refl, ap, sym, subst, ◌∙◌, arith, rules, Option, Some, None}
use Rattle.std.specs.Prelude.{All, Contains, ◌==◌, ℤ, pos, nat_le, slice_get, option_map, replicate}
use Rattle.std.proofs.lemmas.Bool.{eqb-true, eq-eqb}
use Rattle.std.proofs.lemmas.List.{length-map}
use Rattle.std.proofs.lemmas.List.Elements.{All-head, All-tail, All-map, All-weaker, All-contains_itself}
use Rattle.std.proofs.lemmas.Option.{slice_get_within, get_or_from_slice_get, same_Some}
use Rattle.gt_types.specs.declared.expressions.Expr.{Expr}
use Rattle.gt_types.specs.declared.types.TypeId.{TypeId}
use Rattle.gt_types.specs.declared.types.Ty.{Ty, out-Ty}
use Rattle.gt_types.specs.declared.types.Ty.TheOpen as part
use Rattle.gt_types.specs.declared.types.Ty.TheOpen.{Ty-F}
use Rattle.gt_types.specs.declared.types.Ty.TheVariants as ty
use Rattle.gt_types.specs.declared.types.Ty.TheVariants.{outs-Num, outs-Bits, outs-Opaque, outs-Str, outs-Ptr, outs-Node}
use Rattle.gt_types.specs.declared.program.Field.{Field}
use Rattle.gt_types.specs.declared.program.Structure.{Structure}
use Rattle.gt_types.specs.declared.program.Program.{Program}
use Rattle.gt_types.specs.Shapes.{is_pointer}
use Rattle.gt_types.specs.Contains.{HasStructure}
use Rattle.gt_types.specs.Unions.{IsCommon}
use Rattle.gt_types.specs.Settled.{Settled}
use Rattle.gt_tree.specs.Trees.{Tree, Num, Null, To, Raw, Rec, Alt, Row, Trees, End, And, count, tree_at, IsZero, AreZero, is_leaf, without_pointers}
use Rattle.gt_tree.specs.Blocks.{Blocks}
use Rattle.gt_tree.specs.Scopes.{Scope, inside, ◌then◌, is_node, first_type, beginning, type_of_field, type_there, eval_in}
use Rattle.gt_tree.specs.Fits.{Fits, AllFit, EachFits, IsActive, active_member, types_of}
use Rattle.gt_tree.specs.Reshapes.{IsZeroOutside, Reshapes, AllReshape, EachReshapes, Changes}
use Rattle.gt_tree.proofs.Commons.{one-common}
use Rattle.gt_tree.proofs.PathBegins.{beginning-self, same-number}
use Rattle.gt_tree.proofs.FixedParts.{may-pointer}
use Rattle.gt_tree.proofs.WriteReads.{first-types}
use Rattle.gt_tree.proofs.WriteAlike.{struct-old}
use Rattle.gt_tree.proofs.WriteParts.{CameFrom, came-from, array-old, tail-old}
use Rattle.gt_tree.proofs.WriteSame.{old-leaf}
use Rattle.gt_assign.specs.Pasts.{Was, Whole, Nothing, Begun, Past, past_inside, value_was, desc_was}
use Rattle.gt_unions.specs.Commons.{common_of}
use Rattle.gt_assign.specs.Turning.{Maker, zero_leaf, leaf_made, field_was, has_fields, fields_made, struct_made, maybe_whole, element_was, elements_made, is_row, within, begun_by, is_member, member_was, rest_by, rest_whole, rest_zero, rest_made, alt_made, member_made, stays, or_made, structure_made, node_made, tail_made, layer_made, made}
use Rattle.gt_assign.proofs.Comes.{Comes, not-nought, not-stays, from}
use Rattle.gt_unions.proofs.CommonFound.{CommonIs}
use Rattle.gt_unions.proofs.CommonFound.{common-is}
use Rattle.gt_assign.proofs.PastReads.{Reads, reads, Opened, opened}
use Rattle.gt_assign.proofs.Standing.{Stands, count-read, desc-read}

-- ---- how deep types nest

-- a part of a value of a type has this type
pub data IsPart (program : Program) : Ty → Ty → Type 0 where
  of_field : {node : TypeId} {desc : Option Expr} {s : Structure} {f : Field} → HasStructure program node s → Contains s.fields f → IsPart program (ty.Node node desc) f.ty
  of_common : {node common : TypeId} {desc : Option Expr} {s : Structure} → HasStructure program node s → IsCommon program s common → IsPart program (ty.Node node desc) (ty.Node common None)
  of_array : {type elem : Ty} {n : ℕ} → out-Ty type ≡ part.Arr n elem → IsPart program type elem
  of_tail : {type elem : Ty} {len : Expr} → out-Ty type ≡ part.Tail len elem → IsPart program type elem

-- less than so many parts nest in a type
abbrev pub Deep : Program → ℕ → Ty → Type 0
Deep program zero type = ⊥
Deep program (suc n) type = (inner : Ty) → IsPart program type inner → Deep program n inner

-- ---- leaves

begins-none : (program : Program) (c : TypeId) (type : Ty) (w v : Tree) → IsTrue (is_leaf w) → is_node c type ≡ false → ¬ (beginning program c (Some type) w ≡ Some v)
begins-none program c type (Num n) v l other e = let h = ap (λ b. cond b (Some (Num n)) None) other in let x : None ≡ Some v = sym h ∙ e in cc
begins-none program c type Null v l other e = let h = ap (λ b. cond b (Some Null) None) other in let x : None ≡ Some v = sym h ∙ e in cc
begins-none program c type (To id) v l other e = let h = ap (λ b. cond b (Some (To id)) None) other in let x : None ≡ Some v = sym h ∙ e in cc
begins-none program c type (Raw bytes) v l other e = let h = ap (λ b. cond b (Some (Raw bytes)) None) other in let x : None ≡ Some v = sym h ∙ e in cc
begins-none program c type (Rec trees) v l other e = cc
begins-none program c type (Alt member tree) v l other e = cc
begins-none program c type (Row trees) v l other e = cc

leaf-whole : (program : Program) (type : Ty) (layer : Ty-F Ty) (was : Was) (w : Tree) → IsTrue (is_leaf w) → ((c : TypeId) → is_node c type ≡ false) → (IsZero w → zero_leaf layer ≡ Some w) → Comes program type was w → leaf_made layer was ≡ Some w
leaf-whole program type layer (Whole old) w leaf other nought comes =
    let same : old ≡ w = old-leaf leaf comes in
    ap (λ t. cond (is_leaf t) (Some t) None) same ∙ ap (λ b. cond b (Some w) None) leaf
leaf-whole program type layer Nothing w leaf other nought comes = nought comes
leaf-whole program type layer (Begun c v) w leaf other nought comes = absurd (begins-none program c type w v leaf (other c) comes.0)

abbrev is_nought : ℕ → Type 0
is_nought byte = byte ≡ 0

zeros-are : (bytes : List ℕ) (size : ℕ) → length bytes ≡ size → All is_nought bytes → replicate size 0 ≡ bytes
zeros-are [] zero e z = refl
zeros-are [] (suc size) e z = absurd (omega arith)
zeros-are (b ∷ bytes) zero e z = absurd (omega arith)
zeros-are (b ∷ bytes) (suc size) e z =
    let head : 0 ≡ b = sym (All-head is_nought b bytes z) in
    let rest = zeros-are bytes size (omega arith) (All-tail is_nought b bytes z) in
    cc

-- what a layer makes of a pointer is what it makes of a leaf
pointer-layer : (program : Program) (capacity : ℕ) (make : Maker) (past : Past) (type : Ty) (was : Was) (w : Tree) → IsTrue (is_pointer type) → IsTrue (is_leaf w) → (IsZero w → Null ≡ w) → Comes program type was w
    → layer_made program capacity make past (out-Ty type) was ≡ Some w
pointer-layer program capacity make past (ty.Str len) was w p leaf nought comes =
    ap (λ l. layer_made program capacity make past l was) (outs-Str len) ∙ leaf-whole program (ty.Str len) (part.Str len) was w leaf (λ c. refl) (λ z. ap Some (nought z)) comes
pointer-layer program capacity make past (ty.Ptr target kind reorder) was w p leaf nought comes =
    ap (λ l. layer_made program capacity make past l was) (outs-Ptr target kind reorder) ∙ leaf-whole program (ty.Ptr target kind reorder) (part.Ptr target kind reorder) was w leaf (λ c. refl) (λ z. ap Some (nought z)) comes
pointer-layer program capacity make past type was w p leaf nought comes = absurd (cc)

-- ---- fields and elements

-- each field comes of what it was
pub data FieldsCome (program : Program) (was : Was) : ℕ → List Ty → Trees → Type 0 where
  no_field : {i : ℕ} → FieldsCome program was i [] End
  a_field : {i : ℕ} {part : Was} {type : Ty} {types : List Ty} {tree : Tree} {trees : Trees} → field_was was i ≡ Some part → Comes program type part tree → FieldsCome program was (suc i) types trees
      → FieldsCome program was i (type ∷ types) (And tree trees)

data ElementsCome (program : Program) (was : Was) (type : Ty) : ℕ → Trees → Type 0 where
  no_more : {i : ℕ} → ElementsCome program was type i End
  one_more : {i : ℕ} {part : Was} {tree : Tree} {trees : Trees} → element_was was i ≡ Some part → Comes program type part tree → ElementsCome program was type (suc i) trees → ElementsCome program was type i (And tree trees)

from-at : (all : Trees) (i : ℕ) (tree : Tree) (rest : Trees) → from all i ≡ And tree rest → (tree_at all i ≡ Some tree) × (from all (suc i) ≡ rest)
from-at End zero tree rest e = absurd (cc)
from-at End (suc i) tree rest e = absurd (cc)
from-at (And first all) zero tree rest e = let a : first ≡ tree = cc in let b : all ≡ rest = cc in (ap Some a, b)
from-at (And first all) (suc i) tree rest e = from-at all i tree rest e

at-none : (all : Trees) (i : ℕ) → from all i ≡ End → (tree_at all i ≡ None) × (from all (suc i) ≡ End)
at-none End zero e = (refl, refl)
at-none End (suc i) e = (refl, refl)
at-none (And tree all) zero e = absurd (cc)
at-none (And tree all) (suc i) e = at-none all i e

module _ (program : Program) where
  pub fields-old : {types : List Ty} {rest new : Trees} → AllReshape program types rest new → (olds : Trees) (i : ℕ) → from olds i ≡ rest → FieldsCome program (Whole (Rec olds)) i types new
  fields-old AllReshape.none olds i e = FieldsCome.no_field
  fields-old (AllReshape.more {old} {olds = later} r rs) olds i e =
      let f = from-at olds i old later e in
      FieldsCome.a_field (ap (option_map Whole) f.0) r (fields-old rs olds (suc i) f.1)

  pub fields-long : {types : List Ty} {old new : Trees} → AllReshape program types old new → count old ≡ length types
  fields-long AllReshape.none = refl
  fields-long (AllReshape.more r rs) = ap suc (fields-long rs)

  elements-gained : (type : Ty) (olds new : Trees) (i : ℕ) → from olds i ≡ End → AreZero new → ElementsCome program (Whole (Row olds)) type i new
  elements-gained type olds End i e z = ElementsCome.no_more
  elements-gained type olds (And tree new) i e z =
      let f = at-none olds i e in
      ElementsCome.one_more (ap (λ o. Some (maybe_whole o)) f.0) z.0 (elements-gained type olds new (suc i) f.1 z.1)

  elements-old : {type : Ty} {rest new : Trees} → EachReshapes program type rest new → (olds : Trees) (i : ℕ) → from olds i ≡ rest → ElementsCome program (Whole (Row olds)) type i new
  elements-old EachReshapes.lost olds i e = ElementsCome.no_more
  elements-old (EachReshapes.gained {type} {news} z) olds i e = elements-gained type olds news i e z
  elements-old (EachReshapes.one_more {old} {olds = later} r rs) olds i e =
      let f = from-at olds i old later e in
      ElementsCome.one_more (ap (λ o. Some (maybe_whole o)) f.0) r (elements-old rs olds (suc i) f.1)

  elements-zero : (type : Ty) (new : Trees) (i : ℕ) → AreZero new → ElementsCome program Nothing type i new
  elements-zero type End i z = ElementsCome.no_more
  elements-zero type (And tree new) i z = ElementsCome.one_more refl z.0 (elements-zero type new (suc i) z.1)

  module _ {blocks : Blocks} {capacity : ℕ} where
    fields-zero : {t : Scope} {types : List Ty} {new : Trees} → AllFit program blocks capacity t types new → (was : Was) (i : ℕ) → field_was was i ≡ Some Nothing → ((k : ℕ) → field_was was (suc k) ≡ Some Nothing) → AreZero new
        → FieldsCome program was i types new
    fields-zero AllFit.none was i e later z = FieldsCome.no_field
    fields-zero (AllFit.more fits all) was i e later z = FieldsCome.a_field e z.0 (fields-zero all was (suc i) (later i) later z.1)

    begun-come : {t : Scope} {types : List Ty} {new : Trees} → AllFit program blocks capacity t types new → (c : TypeId) (v : Tree) (first : Option Ty) → first ≡ slice_get types 0 → Opened program c v first new
        → FieldsCome program (Begun c v) 0 types new
    begun-come AllFit.none c v first is o = let h = o.is in absurd (cc)
    begun-come (AllFit.more {type} {types} {tree} {trees} fits all) c v first is o =
        let h = o.is in
        let a : o.first ≡ tree = cc in
        let b : o.rest ≡ trees = cc in
        FieldsCome.a_field refl
        (subst (λ y. (beginning program c (Some type) y ≡ Some v) × IsZeroOutside program c (Some type) y) a (subst (λ x. beginning program c x o.first ≡ Some v) is o.begins, subst (λ x. IsZeroOutside program c x o.first) is o.outside))
        (fields-zero all (Begun c v) 1 (begun-later c v 0) (begun-later c v) (subst AreZero b o.zero_rest))
      where
        begun-later : (e : TypeId) (y : Tree) (k : ℕ) → field_was (Begun e y) (suc k) ≡ Some Nothing
        begun-later e y k = ap (λ x. Some (cond x (Begun e y) Nothing)) (not-nought k (suc k == 0) refl)

    -- the fields of a struct come of what it was
    struct-come : {t : Scope} (node : TypeId) (desc : Option Expr) (x : Structure) (was : Was) (trees : Trees) → HasStructure program node x → AllFit program blocks capacity t (types_of x.fields) trees → stays node was ≡ None
        → Comes program (ty.Node node desc) was (Rec trees) → (has_fields was (length x.fields) ≡ true) × FieldsCome program was 0 (types_of x.fields) trees
    struct-come node desc x (Whole old) trees has all moves comes =
        let o = struct-old node desc x old trees has comes in
        let many : count o.0 ≡ length x.fields = fields-long o.2 ∙ length-map x.fields (λ (f : Field). f.ty) in
        (ap (λ y. has_fields (Whole y) (length x.fields)) o.1 ∙ eq-eqb (count o.0) (length x.fields) many, subst (λ y. FieldsCome program (Whole y) 0 (types_of x.fields) trees) (sym o.1) (fields-old o.2 o.0 0 refl))
    struct-come node desc x Nothing trees has all moves comes = (refl, fields-zero all Nothing 0 refl (λ k. refl) comes)
    struct-come node desc x (Begun c v) trees has all moves comes =
        (refl, begun-come all c v (first_type program (ty.Node node desc)) (first-types program node desc x has) (opened program c v (ty.Node node desc) trees (not-stays (c.0 == node.0) v moves) comes.0 comes.1))

-- ---- unions

-- the member of a union comes of what it was
record MemberComes (program : Program) (s : Structure) (place : ℕ) (f : Field) (was : Was) (tree : Tree) : Type 0 where
  part : Was
  is_part : member_was program s place was ≡ Some part
  comes : Comes program f.ty part tree

is-same : (place : ℕ) → (place == place) ≡ true
is-same place = eq-eqb place place refl

is-other : (m : Option ℕ) (place : ℕ) (b : Bool) → is_member m place ≡ b → m ≢ Some place → b ≡ false
is-other None place b e ne = sym e
is-other (Some i) place true e ne = absurd (ne (ap Some (eqb-true i place e)))
is-other (Some i) place false e ne = refl

common-found : (program : Program) (settled : Settled program) (node : TypeId) (s : Structure) (common : TypeId) (o : Option TypeId) → HasStructure program node s → CommonIs program s o → IsCommon program s common → o ≡ Some common
common-found program settled node s common (Some c) has is o = ap Some (one-common program node s c common settled has is o)
common-found program settled node s common None has is o = absurd (is common o)

none-found : (program : Program) (s : Structure) (o : Option TypeId) → CommonIs program s o → ((common : TypeId) → ¬ IsCommon program s common) → o ≡ None
none-found program s (Some c) is none = absurd (none c is)
none-found program s None is none = refl

module _ (program : Program) (settled : Settled program) (node : TypeId) (desc : Option Expr) (s : Structure) (has : HasStructure program node s) (union : s.is_union ≡ true) where
  found : CommonIs program s (common_of program s)
  found = common-is program settled node s has union

  member-turned : (m : Option ℕ) (old : Tree) (place : ℕ) (f : Field) (tree : Tree) → slice_get s.fields place ≡ Some f → m ≢ Some place → Changes program s m old (Some place) tree → MemberComes program s place f (Whole (Alt m old)) tree
  member-turned m old place f tree got ne (Changes.keeps {old_part} {common} is e g z) =
      let there : type_there s common (Some place) ≡ Some f.ty = ap type_of_field got in
      record {
        part = Begun common old_part;
        is_part = ap (λ b. cond b (Some (Whole old)) (begun_by program s m old (common_of program s))) (is-other m place (is_member m place) refl ne)
            ∙ ap (begun_by program s m old) (common-found program settled node s common (common_of program s) has found is)
            ∙ ap (option_map (Begun common)) e;
        comes = (ap (λ t. beginning program common t tree) (sym there) ∙ g, subst (λ t. IsZeroOutside program common t tree) there z);
      }
  member-turned m old place f tree got ne (Changes.clears none z) = record {
    part = Nothing;
    is_part = ap (λ b. cond b (Some (Whole old)) (begun_by program s m old (common_of program s))) (is-other m place (is_member m place) refl ne)
        ∙ ap (begun_by program s m old) (none-found program s (common_of program s) found none);
    comes = z;
  }

  member-came : (o : Tree) (place : ℕ) (f : Field) (tree : Tree) → slice_get s.fields place ≡ Some f → CameFrom program s (Some place) tree o → MemberComes program s place f (Whole o) tree
  member-came o place f tree got (CameFrom.stayed i g old is e there r) =
      let same : place ≡ i = same_Some place i e in
      let fields : g ≡ f = same_Some g f (sym there ∙ ap (slice_get s.fields) (sym same) ∙ got) in
      record {
        part = Whole old;
        is_part = ap (λ y. member_was program s place (Whole y)) is ∙ ap (λ b. cond b (Some (Whole old)) (begun_by program s (Some place) old (common_of program s))) (is-same place);
        comes = subst (λ h. Reshapes program h.ty old tree) fields r;
      }
  member-came o place f tree got (CameFrom.rested old is none bare) = absurd (cc)
  member-came o place f tree got (CameFrom.turned m old is ne changes) = subst (λ y. MemberComes program s place f (Whole y) tree) (sym is) (member-turned m old place f tree got ne changes)

  member-comes : (was : Was) (place : ℕ) (f : Field) (tree : Tree) → slice_get s.fields place ≡ Some f → stays node was ≡ None → Comes program (ty.Node node desc) was (Alt (Some place) tree) → MemberComes program s place f was tree
  member-comes (Whole old) place f tree got moves comes = member-came old place f tree got (came-from settled node desc s has comes)
  member-comes Nothing place f tree got moves comes = record { part = Nothing; is_part = refl; comes = comes }
  member-comes (Begun c v) place f tree got moves comes =
      let none = ap (λ b. cond b (Some (Alt (Some place) tree)) None) (not-stays (c.0 == node.0) v moves) in
      let h : None ≡ Some v = sym none ∙ comes.0 in
      absurd (cc)

  -- what is left of a union without an active member
  rest-came : (o tree : Tree) → CameFrom program s None tree o → (((common : TypeId) → ¬ IsCommon program s common) → tree ≡ Rec End) → rest_whole program s o ≡ Some tree
  rest-came o tree (CameFrom.stayed i g old is e there r) ends = absurd (cc)
  rest-came o tree (CameFrom.rested old is no_member bare) ends = ap (rest_whole program s) is ∙ ap Some (sym bare)
  rest-came o tree (CameFrom.turned None old is ne changes) ends = absurd (ne refl)
  rest-came o tree (CameFrom.turned (Some i) old is ne (Changes.keeps {old_part} {common} c e g z)) ends =
      let same : tree ≡ without_pointers old_part = same_Some tree (without_pointers old_part) (sym (beginning-self program common (ty.Node common None) tree (same-number common.0)) ∙ g) in
      ap (rest_whole program s) is
      ∙ ap (rest_by program s (Some i) old) (common-found program settled node s common (common_of program s) has found c)
      ∙ ap (option_map without_pointers) e
      ∙ ap Some (sym same)
  rest-came o tree (CameFrom.turned (Some i) old is ne (Changes.clears no_common z)) ends =
      ap (rest_whole program s) is ∙ ap (rest_by program s (Some i) old) (none-found program s (common_of program s) found no_common) ∙ ap Some (sym (ends no_common))

  rest-comes : (make : Maker) (past : Past) (was : Was) (tree : Tree) → stays node was ≡ None → Comes program (ty.Node node desc) was (Alt None tree) → (((common : TypeId) → ¬ IsCommon program s common) → tree ≡ Rec End)
      → (IsZero tree → rest_zero make past (common_of program s) ≡ Some tree) → rest_made program make past s was ≡ Some tree
  rest-comes make past (Whole old) tree moves comes ends nought = rest-came old tree (came-from settled node desc s has comes) ends
  rest-comes make past Nothing tree moves comes ends nought = nought comes
  rest-comes make past (Begun c v) tree moves comes ends nought =
      let no_alt = ap (λ b. cond b (Some (Alt None tree)) None) (not-stays (c.0 == node.0) v moves) in
      let h : None ≡ Some v = sym no_alt ∙ comes.0 in
      absurd (cc)

-- ---- a value

-- a structure that a part begins with stays; else it is made
node-by : (program : Program) (make : Maker) (past : Past) (node : TypeId) (desc : Option Expr) (was : Was) (w : Tree) → Comes program (ty.Node node desc) was w
    → (stays node was ≡ None → structure_made program make (past_inside past node was) desc was (slice_get program.structures node.0) ≡ Some w) → node_made program make past node desc was ≡ Some w
node-by program make past node desc (Whole old) w comes rest = rest refl
node-by program make past node desc Nothing w comes rest = rest refl
node-by program make past node desc (Begun c v) w comes rest = go (c.0 == node.0) refl
  where
    go : (b : Bool) → (c.0 == node.0) ≡ b
        → or_made (cond (c.0 == node.0) (Some v) None) (structure_made program make (past_inside past node (Begun c v)) desc (Begun c v) (slice_get program.structures node.0)) ≡ Some w
    go true same =
        ap (λ b. or_made (cond b (Some v) None) (structure_made program make (past_inside past node (Begun c v)) desc (Begun c v) (slice_get program.structures node.0))) same
        ∙ sym comes.0
        ∙ beginning-self program c (ty.Node node desc) w same
    go false other =
        ap (λ b. or_made (cond b (Some v) None) (structure_made program make (past_inside past node (Begun c v)) desc (Begun c v) (slice_get program.structures node.0))) other
        ∙ rest (ap (λ b. cond b (Some v) None) other)

-- the elements of an array, by what it was
row-come : (program : Program) (type elem : Ty) (was : Was) (trees : Trees) → ((o : Tree) (vs : Trees) → Reshapes program type o (Row vs) → (os : Trees) × (o ≡ Row os) × EachReshapes program elem os vs) → ((c : TypeId) → is_node c type ≡ false)
    → Comes program type was (Row trees) → (is_row was ≡ true) × ElementsCome program was elem 0 trees
row-come program type elem (Whole old) trees olds free comes =
    let o = olds old trees comes in
    (ap (λ y. is_row (Whole y)) o.1, subst (λ y. ElementsCome program (Whole y) elem 0 trees) (sym o.1) (elements-old program o.2 o.0 0 refl))
row-come program type elem Nothing trees olds free comes = (refl, elements-zero program elem trees 0 comes)
row-come program type elem (Begun c v) trees olds free comes =
    let no_row = ap (λ b. cond b (Some (Row trees)) None) (free c) in
    let h : None ≡ Some v = sym no_row ∙ comes.0 in
    absurd (cc)

array-free : (type elem : Ty) (n : ℕ) → out-Ty type ≡ part.Arr n elem → (c : TypeId) → is_node c type ≡ false
array-free (ty.Node node desc) elem n e c = let o = outs-Node node desc in absurd (cc)
array-free type elem n e c = refl

tail-free : (type elem : Ty) (len : Expr) → out-Ty type ≡ part.Tail len elem → (c : TypeId) → is_node c type ≡ false
tail-free (ty.Node node desc) elem len e c = let o = outs-Node node desc in absurd (cc)
tail-free type elem len e c = refl

Contains-get : {X : Type 0} (xs : List X) (i : ℕ) (x : X) → slice_get xs i ≡ Some x → Contains xs x
Contains-get xs i x e = (i, slice_get_within xs i x e, get_or_from_slice_get xs i x x e)

le-true : (n m : ℕ) → n ≤ m → nat_le n m ≡ true
le-true n m h = search rules

within-is : (capacity n : ℕ) (value : Option ℤ) → value ≡ Some (pos n) → n ≤ capacity → within capacity value ≡ Some n
within-is capacity n value e le = ap (within capacity) e ∙ ap (λ b. cond b (Some n) None) (le-true n capacity le)

module _ (program : Program) (settled : Settled program) (blocks : Blocks) (capacity : ℕ) (a : Trees) where
  abbrev make : ℕ → Maker
  make d = made program capacity d

  inner-stand : {p : Past} {t : Scope} (node : TypeId) (desc : Option Expr) (was : Was) (w : Tree) (x : Structure) → Stands program a p t (ty.Node node desc) → Reads program node was w → HasStructure program node x
      → All (λ type. Stands program a (past_inside p node was) (inside t node w) type) (types_of x.fields)
  inner-stand {p} {t} node desc was w x s r has =
      All-map (λ type. Stands program a (past_inside p node was) (inside t node w) type) (λ f. f.ty) x.fields
      (All-weaker (Contains x.fields) (λ f. Stands program a (past_inside p node was) (inside t node w) f.ty) (λ f c. Stands.in_field s r has c) x.fields (All-contains_itself x.fields))

  inner-deep : (d : ℕ) (node : TypeId) (desc : Option Expr) (x : Structure) → HasStructure program node x → Deep program (suc d) (ty.Node node desc) → All (Deep program d) (types_of x.fields)
  inner-deep d node desc x has deep =
      All-map (Deep program d) (λ f. f.ty) x.fields (All-weaker (Contains x.fields) (λ f. Deep program d f.ty) (λ f c. deep f.ty (IsPart.of_field has c)) x.fields (All-contains_itself x.fields))

  -- what is made of a structure
  structure-by : (d : ℕ) (p : Past) (node : TypeId) (desc : Option Expr) (was : Was) (x : Structure) (w : Tree) → HasStructure program node x
      → cond x.is_union (member_made program (make d) (past_inside p node was) x was (active_member (desc_was program (past_inside p node was) desc) x.fields)) (struct_made (make d) (past_inside p node was) x.fields was) ≡ Some w
      → structure_made program (make d) (past_inside p node was) desc was (slice_get program.structures node.0) ≡ Some w
  structure-by d p node desc was x w has e = ap (structure_made program (make d) (past_inside p node was) desc was) has ∙ e

  node-layer : (d : ℕ) (p : Past) (node : TypeId) (desc : Option Expr) (was : Was) (w : Tree) → node_made program (make d) p node desc was ≡ Some w → layer_made program capacity (make d) p (out-Ty (ty.Node node desc)) was ≡ Some w
  node-layer d p node desc was w e = ap (λ l. layer_made program capacity (make d) p l was) (outs-Node node desc) ∙ e

  active-by : {p : Past} {t : Scope} (node : TypeId) (desc : Option Expr) (was : Was) (w : Tree) (x : Structure) (m : Option ℕ) → Stands program a p t (ty.Node node desc) → Reads program node was w → HasStructure program node x → x.is_union ≡ true
      → IsActive program t node desc x w m → active_member (desc_was program (past_inside p node was) desc) x.fields ≡ m
  active-by {p} {t} node desc was w x m s r has union active = ap (λ v. active_member v x.fields) (desc-read program settled a p t node desc was w x s r has union) ∙ active

  mutual
    pub makes : {t : Scope} {type : Ty} {w : Tree} → Fits program blocks capacity t type w → (p : Past) (was : Was) (d : ℕ) → Stands program a p t type → Deep program d type → Comes program type was w → made program capacity d p type was ≡ Some w
    makes fits p was zero s deep comes = absurd deep
    makes (Fits.number {scalar} {n} room) p was (suc d) s deep comes =
        ap (λ l. layer_made program capacity (make d) p l was) (outs-Num scalar) ∙ leaf-whole program (ty.Num scalar) (part.Num scalar) was (Num n) refl (λ c. refl) (λ z. ap (λ m. Some (Num m)) (sym z)) comes
    makes (Fits.bits {unit} {width} {n} room) p was (suc d) s deep comes =
        ap (λ l. layer_made program capacity (make d) p l was) (outs-Bits unit width) ∙ leaf-whole program (ty.Bits unit width) (part.Bits unit width) was (Num n) refl (λ c. refl) (λ z. ap (λ m. Some (Num m)) (sym z)) comes
    makes (Fits.opaque {size} {align} {bytes} long small) p was (suc d) s deep comes =
        ap (λ l. layer_made program capacity (make d) p l was) (outs-Opaque size align)
        ∙ leaf-whole program (ty.Opaque size align) (part.Opaque size align) was (Raw bytes) refl (λ c. refl) (λ z. ap (λ bs. Some (Raw bs)) (zeros-are bytes size long z)) comes
    makes (Fits.null {type} pointer) p was (suc d) s deep comes = pointer-layer program capacity (make d) p type was Null pointer refl (λ z. refl) comes
    makes (Fits.to {scope} {type} {id} m) p was (suc d) s deep comes = pointer-layer program capacity (make d) p type was (To id) (may-pointer blocks (eval_in program scope) type id m) refl (λ z. absurd z) comes
    makes (Fits.struct {scope} {node} {desc} {s = x} {trees} has struct all) p was (suc d) s deep comes =
        let r = reads settled scope node desc was (Rec trees) (Fits.struct has struct all) comes in
        let each = λ (moves : stays node was ≡ None). struct-come program node desc x was trees has all moves comes in
        node-layer d p node desc was (Rec trees)
        (node-by program (make d) p node desc was (Rec trees) comes
        (λ moves. structure-by d p node desc was x (Rec trees) has
        (ap (λ b. cond b (member_made program (make d) (past_inside p node was) x was (active_member (desc_was program (past_inside p node was) desc) x.fields)) (struct_made (make d) (past_inside p node was) x.fields was)) struct
        ∙ ap (λ b. cond b (option_map Rec (fields_made (make d) (past_inside p node was) was 0 (types_of x.fields))) None) (each moves).0
        ∙ ap (option_map Rec) (makes_fields all (past_inside p node was) was d 0 (inner-stand node desc was (Rec trees) x s r has) (inner-deep d node desc x has deep) (each moves).1))))
    makes (Fits.member {scope} {node} {desc} {s = x} {place} {f} {tree} has union active got fits) p was (suc d) s deep comes =
        let r = reads settled scope node desc was (Alt (Some place) tree) (Fits.member has union active got fits) comes in
        let contains = Contains-get x.fields place f got in
        let m = λ (moves : stays node was ≡ None). member-comes program settled node desc x has union was place f tree got moves comes in
        node-layer d p node desc was (Alt (Some place) tree)
        (node-by program (make d) p node desc was (Alt (Some place) tree) comes
        (λ moves. structure-by d p node desc was x (Alt (Some place) tree) has
        (ap (λ b. cond b (member_made program (make d) (past_inside p node was) x was (active_member (desc_was program (past_inside p node was) desc) x.fields)) (struct_made (make d) (past_inside p node was) x.fields was)) union
        ∙ ap (member_made program (make d) (past_inside p node was) x was) (active-by node desc was (Alt (Some place) tree) x (Some place) s r has union active)
        ∙ ap (λ o. alt_made (make d) (past_inside p node was) place o (member_was program x place was)) got
        ∙ ap (alt_made (make d) (past_inside p node was) place (Some f)) (m moves).is_part
        ∙ ap (option_map (Alt (Some place))) (makes fits (past_inside p node was) (m moves).part d (Stands.in_field s r has contains) (deep f.ty (IsPart.of_field has contains)) (m moves).comes))))
    makes (Fits.common {scope} {node} {common} {desc} {s = x} {tree} has union active is plain fits) p was (suc d) s deep comes =
        let r = reads settled scope node desc was (Alt None tree) (Fits.common has union active is plain fits) comes in
        node-layer d p node desc was (Alt None tree)
        (node-by program (make d) p node desc was (Alt None tree) comes
        (λ moves. structure-by d p node desc was x (Alt None tree) has
        (ap (λ b. cond b (member_made program (make d) (past_inside p node was) x was (active_member (desc_was program (past_inside p node was) desc) x.fields)) (struct_made (make d) (past_inside p node was) x.fields was)) union
        ∙ ap (member_made program (make d) (past_inside p node was) x was) (active-by node desc was (Alt None tree) x None s r has union active)
        ∙ ap (option_map (Alt None))
        (rest-comes program settled node desc x has union (make d) (past_inside p node was) was tree moves comes (λ no_common. absurd (no_common common is))
        (λ z. ap (rest_zero (make d) (past_inside p node was)) (common-found program settled node x common (common_of program x) has (common-is program settled node x has union) is)
        ∙ makes fits (past_inside p node was) Nothing d (Stands.in_common s r has is) (deep (ty.Node common None) (IsPart.of_common has is)) z)))))
    makes (Fits.nothing {scope} {node} {desc} {s = x} has union active no_common) p was (suc d) s deep comes =
        let r = reads {blocks = blocks} {capacity = capacity} settled scope node desc was (Alt None (Rec End)) (Fits.nothing has union active no_common) comes in
        node-layer d p node desc was (Alt None (Rec End))
        (node-by program (make d) p node desc was (Alt None (Rec End)) comes
        (λ moves. structure-by d p node desc was x (Alt None (Rec End)) has
        (ap (λ b. cond b (member_made program (make d) (past_inside p node was) x was (active_member (desc_was program (past_inside p node was) desc) x.fields)) (struct_made (make d) (past_inside p node was) x.fields was)) union
        ∙ ap (member_made program (make d) (past_inside p node was) x was) (active-by node desc was (Alt None (Rec End)) x None s r has union active)
        ∙ ap (option_map (Alt None))
        (rest-comes program settled node desc x has union (make d) (past_inside p node was) was (Rec End) moves comes (λ gone. refl)
        (λ z. ap (rest_zero (make d) (past_inside p node was)) (none-found program x (common_of program x) (common-is program settled node x has union) no_common))))))
    makes (Fits.array {type} {elem} {n} {trees} e many each) p was (suc d) s deep comes =
        let c = row-come program type elem was trees (λ o vs r. array-old type elem n e o vs r) (array-free type elem n e) comes in
        ap (λ l. layer_made program capacity (make d) p l was) e
        ∙ ap (λ b. cond b (option_map Row (elements_made (make d) p elem was 0 n)) None) c.0
        ∙ ap (λ k. option_map Row (elements_made (make d) p elem was 0 k)) (sym many)
        ∙ ap (option_map Row) (makes_each each p was d 0 (Stands.in_array s e) (deep elem (IsPart.of_array e)) c.1)
    makes (Fits.tail {scope} {type} {elem} {length = len} {n} {trees} e value le many each) p was (suc d) s deep comes =
        let c = row-come program type elem was trees (λ o vs r. tail-old type elem len e o vs r) (tail-free type elem len e) comes in
        ap (λ l. layer_made program capacity (make d) p l was) e
        ∙ ap (tail_made (make d) p elem was) (within-is capacity n (value_was program p len) (count-read program settled a p scope type elem len s e ∙ value) le)
        ∙ ap (λ b. cond b (option_map Row (elements_made (make d) p elem was 0 n)) None) c.0
        ∙ ap (λ k. option_map Row (elements_made (make d) p elem was 0 k)) (sym many)
        ∙ ap (option_map Row) (makes_each each p was d 0 (Stands.in_tail s e) (deep elem (IsPart.of_tail e)) c.1)

    pub makes_fields : {t : Scope} {types : List Ty} {trees : Trees} → AllFit program blocks capacity t types trees → (p : Past) (was : Was) (d i : ℕ) → All (λ type. Stands program a p t type) types → All (Deep program d) types
        → FieldsCome program was i types trees → fields_made (make d) p was i types ≡ Some trees
    makes_fields AllFit.none p was d i s deep FieldsCome.no_field = refl
    makes_fields (AllFit.more {scope} {type} {types} {tree} {trees} fits all) p was d i s deep (FieldsCome.a_field {part} here comes rest) =
        ap (λ o. o then λ y. make d p type y then λ t. fields_made (make d) p was (suc i) types then λ ts. Some (And t ts)) here
        ∙ ap (λ o. o then λ t. fields_made (make d) p was (suc i) types then λ ts. Some (And t ts))
        (makes fits p part d (All-head (λ y. Stands program a p scope y) type types s) (All-head (Deep program d) type types deep) comes)
        ∙ ap (λ o. o then λ ts. Some (And tree ts)) (makes_fields all p was d (suc i) (All-tail (λ y. Stands program a p scope y) type types s) (All-tail (Deep program d) type types deep) rest)

    makes_each : {t : Scope} {type : Ty} {trees : Trees} → EachFits program blocks capacity t type trees → (p : Past) (was : Was) (d i : ℕ) → Stands program a p t type → Deep program d type → ElementsCome program was type i trees
        → elements_made (make d) p type was i (count trees) ≡ Some trees
    makes_each EachFits.no_more p was d i s deep ElementsCome.no_more = refl
    makes_each (EachFits.one_more {type} {tree} {trees} fits each) p was d i s deep (ElementsCome.one_more {part} here comes rest) =
        ap (λ o. o then λ y. make d p type y then λ t. elements_made (make d) p type was (suc i) (count trees) then λ ts. Some (And t ts)) here
        ∙ ap (λ o. o then λ t. elements_made (make d) p type was (suc i) (count trees) then λ ts. Some (And t ts)) (makes fits p part d s deep comes)
        ∙ ap (λ o. o then λ ts. Some (And tree ts)) (makes_each each p was d (suc i) s deep rest)
