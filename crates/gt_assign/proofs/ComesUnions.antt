-- What a structure becomes comes of what it was, and so does each part of a value.
use Rattle.std.proofs.Common.{◌≡◌, ◌≢◌, ℕ, zero, suc, Bool, true, false, cond, refl, ap, sym, subst, ◌∙◌, Option, Some, None}
use Rattle.std.specs.Prelude.{◌==◌, slice_get, option_map}
use Rattle.std.proofs.lemmas.Bool.{eqb-true, eq-eqb}
use Rattle.std.proofs.lemmas.Option.{same_Some}
use Rattle.gt_types.specs.declared.expressions.Expr.{Expr}
use Rattle.gt_types.specs.declared.types.TypeId.{TypeId}
use Rattle.gt_types.specs.declared.types.Ty.{Ty, out-Ty}
use Rattle.gt_types.specs.declared.types.Ty.TheOpen as part
use Rattle.gt_types.specs.declared.types.Ty.TheOpen.{Ty-F}
use Rattle.gt_types.specs.declared.types.Ty.TheVariants as ty
use Rattle.gt_types.specs.declared.types.Ty.TheVariants.{outs-Num, outs-Bits, outs-Opaque, outs-Str, outs-Ptr, outs-Node, outs-Arr', outs-Tail'}
use Rattle.gt_types.specs.declared.program.Field.{Field}
use Rattle.gt_types.specs.declared.program.Structure.{Structure}
use Rattle.gt_types.specs.declared.program.Program.{Program}
use Rattle.gt_types.specs.Contains.{HasStructure}
use Rattle.gt_types.specs.Settled.{Settled}
use Rattle.gt_tree.specs.Trees.{Tree, Num, Null, To, Raw, Rec, Alt, Row, End, IsZero, without_pointers}
use Rattle.gt_tree.specs.Scopes.{is_node, beginning, type_of_field, type_there}
use Rattle.gt_tree.specs.Fits.{active_member}
use Rattle.gt_tree.specs.Reshapes.{IsZeroOutside, OutsideOf, Reshapes, Changes}
use Rattle.gt_tree.proofs.PathBegins.{beginning-self, same-number}
use Rattle.gt_assign.specs.Pasts.{Was, Whole, Nothing, Begun, Past, past_inside, value_was, desc_was}
use Rattle.gt_unions.specs.Commons.{common_of}
use Rattle.gt_assign.specs.Turning.{Maker, within, begun_by, is_member, rest_by, rest_whole, rest_zero, alt_made, member_made, struct_made, stays, or_made, structure_made, node_made, tail_made, layer_made, made}
use Rattle.gt_unions.proofs.CommonFound.{CommonIs}
use Rattle.gt_assign.proofs.Comes.{Comes, IsSound, leaf-comes, row-comes, struct-comes}

-- nothing is outside of a value of the structure itself
outside-self : (program : Program) (node : TypeId) (type : Ty) (tree : Tree) → is_node node type ≡ true → IsZeroOutside program node (Some type) tree
outside-self program node type (Num n) e = tt
outside-self program node type Null e = tt
outside-self program node type (To id) e = tt
outside-self program node type (Raw bytes) e = tt
outside-self program node type (Rec trees) e = subst (OutsideOf program node (Some type) trees) (sym e) tt
outside-self program node type (Alt member tree) e = tt
outside-self program node type (Row trees) e = tt

alt-of : (m : Option ℕ) (o : Option Tree) (new : Tree) → option_map (Alt m) o ≡ Some new → (tree : Tree) × (o ≡ Some tree) × (Alt m tree ≡ new)
alt-of m None new e = absurd (cc)
alt-of m (Some tree) new e = (tree, refl, same_Some (Alt m tree) new e)

begun-of : (common : TypeId) (o : Option Tree) (was : Was) → option_map (Begun common) o ≡ Some was → (tree : Tree) × (o ≡ Some tree) × (Begun common tree ≡ was)
begun-of common None was e = absurd (cc)
begun-of common (Some tree) was e = (tree, refl, same_Some (Begun common tree) was e)

bare-of : (o : Option Tree) (new : Tree) → option_map without_pointers o ≡ Some new → (tree : Tree) × (o ≡ Some tree) × (without_pointers tree ≡ new)
bare-of None new e = absurd (cc)
bare-of (Some tree) new e = (tree, refl, same_Some (without_pointers tree) new e)

-- the member of a union, with what it was
record AltOf (make : Maker) (past : Past) (place : ℕ) (field : Option Field) (was : Option Was) (new : Tree) : Type 0 where
  f : Field
  part : Was
  tree : Tree
  is_field : field ≡ Some f
  is_part : was ≡ Some part
  makes : make past f.ty part ≡ Some tree
  is : Alt (Some place) tree ≡ new

member-of : (make : Maker) (past : Past) (place : ℕ) (field : Option Field) (was : Option Was) (new : Tree) → alt_made make past place field was ≡ Some new → AltOf make past place field was new
member-of make past place None was new e = absurd (cc)
member-of make past place (Some f) None new e = absurd (cc)
member-of make past place (Some f) (Some part) new e =
    let a = alt-of (Some place) (make past f.ty part) new e in
    record { f = f; part = part; tree = a.0; is_field = refl; is_part = refl; makes = a.1; is = a.2 }

other-member : (m : Option ℕ) (place : ℕ) → is_member m place ≡ false → m ≢ Some place
other-member None place e h = absurd (cc)
other-member (Some i) place e h =
    let same : i ≡ place = same_Some i place h in
    let yes = eq-eqb i place same in
    absurd (cc)

same-member : (m : Option ℕ) (place : ℕ) → is_member m place ≡ true → m ≡ Some place
same-member None place e = absurd (cc)
same-member (Some i) place e = ap Some (eqb-true i place e)

module _ (program : Program) (make : Maker) (past : Past) (sound : IsSound program make) (node : TypeId) (desc : Option Expr) (s : Structure) (has : HasStructure program node s) (union : s.is_union ≡ true) where
  -- another member than before
  turned : (m : Option ℕ) (place : ℕ) (old : Tree) (f : Field) (part : Was) (tree : Tree) (o : Option TypeId) → CommonIs program s o → m ≢ Some place → slice_get s.fields place ≡ Some f
      → begun_by program s m old o ≡ Some part → Comes program f.ty part tree → Reshapes program (ty.Node node desc) (Alt m old) (Alt (Some place) tree)
  turned m place old f part tree (Some common) is ne got e comes =
      let b = begun-of common (beginning program common (type_there s common m) old) part e in
      let c = subst (λ p. Comes program f.ty p tree) (sym b.2) comes in
      let there : type_there s common (Some place) ≡ Some f.ty = ap type_of_field got in
      Reshapes.other has union ne
      (Changes.keeps is b.1 (ap (λ t. beginning program common t tree) there ∙ c.0) (subst (λ t. IsZeroOutside program common t tree) (sym there) c.1))
  turned m place old f part tree None none ne got e comes =
      let zero = subst (λ p. Comes program f.ty p tree) (sym (same_Some Nothing part e)) comes in
      Reshapes.other has union ne (Changes.clears none zero)

  alt-comes : (m : Option ℕ) (place : ℕ) (old new : Tree) (b : Bool) → CommonIs program s (common_of program s) → is_member m place ≡ b
      → (r : AltOf make past place (slice_get s.fields place) (cond b (Some (Whole old)) (begun_by program s m old (common_of program s))) new) → Reshapes program (ty.Node node desc) (Alt m old) new
  alt-comes m place old new true is mine r =
      let comes = subst (λ p. Comes program r.f.ty p r.tree) (sym (same_Some (Whole old) r.part r.is_part)) (sound past r.f.ty r.part r.tree r.makes) in
      subst (Reshapes program (ty.Node node desc) (Alt m old)) r.is
      (subst (λ k. Reshapes program (ty.Node node desc) (Alt k old) (Alt (Some place) r.tree)) (sym (same-member m place mine)) (Reshapes.same has union r.is_field comes))
  alt-comes m place old new false is other r =
      subst (Reshapes program (ty.Node node desc) (Alt m old)) r.is
      (turned m place old r.f r.part r.tree (common_of program s) is (other-member m place other) r.is_field r.is_part (sound past r.f.ty r.part r.tree r.makes))

  -- no member, where one was
  rested : (i : ℕ) (old new : Tree) (o : Option TypeId) → CommonIs program s o → rest_by program s (Some i) old o ≡ Some new → Reshapes program (ty.Node node desc) (Alt (Some i) old) (Alt None new)
  rested i old new (Some common) is e =
      let b = bare-of (beginning program common (type_there s common (Some i)) old) new e in
      Reshapes.other has union (λ h. absurd (cc))
      (Changes.keeps is b.1 (beginning-self program common (ty.Node common None) new (same-number common.0) ∙ ap Some (sym b.2)) (outside-self program common (ty.Node common None) new (same-number common.0)))
  rested i old new None none e = Reshapes.other has union (λ h. absurd (cc)) (Changes.clears none (subst IsZero (same_Some (Rec End) new e) tt))

  rest-comes : (old new : Tree) → CommonIs program s (common_of program s) → rest_whole program s old ≡ Some new → Reshapes program (ty.Node node desc) old (Alt None new)
  rest-comes (Alt (Some i) old) new is e = rested i old new (common_of program s) is e
  rest-comes (Alt None old) new is e = subst (λ t. Reshapes program (ty.Node node desc) (Alt None old) (Alt None t)) (same_Some (without_pointers old) new e) Reshapes.same_none
  rest-comes (Num n) new is e = absurd (cc)
  rest-comes Null new is e = absurd (cc)
  rest-comes (To id) new is e = absurd (cc)
  rest-comes (Raw bytes) new is e = absurd (cc)
  rest-comes (Rec trees) new is e = absurd (cc)
  rest-comes (Row trees) new is e = absurd (cc)

  zero-rest : (o : Option TypeId) (new : Tree) → rest_zero make past o ≡ Some new → IsZero new
  zero-rest (Some common) new e = sound past (ty.Node common None) Nothing new e
  zero-rest None new e = subst IsZero (same_Some (Rec End) new e) tt

  union-comes : (was : Was) (member : Option ℕ) (new : Tree) → CommonIs program s (common_of program s) → stays node was ≡ None → member_made program make past s was member ≡ Some new → Comes program (ty.Node node desc) was new
  union-comes (Whole (Alt m old)) (Some place) new is moves e =
      alt-comes m place old new (is_member m place) is refl (member-of make past place (slice_get s.fields place) (cond (is_member m place) (Some (Whole old)) (begun_by program s m old (common_of program s))) new e)
  union-comes (Whole (Num n)) (Some place) new is moves e = let r = member-of make past place (slice_get s.fields place) None new e in let h = r.is_part in absurd (cc)
  union-comes (Whole Null) (Some place) new is moves e = let r = member-of make past place (slice_get s.fields place) None new e in let h = r.is_part in absurd (cc)
  union-comes (Whole (To id)) (Some place) new is moves e = let r = member-of make past place (slice_get s.fields place) None new e in let h = r.is_part in absurd (cc)
  union-comes (Whole (Raw bytes)) (Some place) new is moves e = let r = member-of make past place (slice_get s.fields place) None new e in let h = r.is_part in absurd (cc)
  union-comes (Whole (Rec trees)) (Some place) new is moves e = let r = member-of make past place (slice_get s.fields place) None new e in let h = r.is_part in absurd (cc)
  union-comes (Whole (Row trees)) (Some place) new is moves e = let r = member-of make past place (slice_get s.fields place) None new e in let h = r.is_part in absurd (cc)
  union-comes (Whole old) None new is moves e =
      let a = alt-of None (rest_whole program s old) new e in
      subst (Reshapes program (ty.Node node desc) old) a.2 (rest-comes old a.0 is a.1)
  union-comes Nothing (Some place) new is moves e =
      let r = member-of make past place (slice_get s.fields place) (Some Nothing) new e in
      subst IsZero r.is (subst (λ p. Comes program r.f.ty p r.tree) (sym (same_Some Nothing r.part r.is_part)) (sound past r.f.ty r.part r.tree r.makes))
  union-comes Nothing None new is moves e =
      let a = alt-of None (rest_zero make past (common_of program s)) new e in
      subst IsZero a.2 (zero-rest (common_of program s) a.0 a.1)
  union-comes (Begun common value) (Some place) new is moves e = let r = member-of make past place (slice_get s.fields place) None new e in let h = r.is_part in absurd (cc)
  union-comes (Begun common value) None new is moves e = let a = alt-of None None new e in let h = a.1 in absurd (cc)

-- ---- a structure

module _ (program : Program) (settled : Settled program) (commons : (node : TypeId) (s : Structure) → HasStructure program node s → s.is_union ≡ true → CommonIs program s (common_of program s)) where
  structure-comes : (make : Maker) (past : Past) → IsSound program make → (node : TypeId) (desc : Option Expr) (was : Was) (o : Option Structure) (new : Tree) → slice_get program.structures node.0 ≡ o → stays node was ≡ None
      → structure_made program make past desc was o ≡ Some new → Comes program (ty.Node node desc) was new
  structure-comes make past sound node desc was None new has moves e = absurd (cc)
  structure-comes make past sound node desc was (Some s) new has moves e = go s.is_union refl e
    where
      go : (b : Bool) → s.is_union ≡ b → cond b (member_made program make past s was (active_member (desc_was program past desc) s.fields)) (struct_made make past s.fields was) ≡ Some new → Comes program (ty.Node node desc) was new
      go true union f = union-comes program make past sound node desc s has union was (active_member (desc_was program past desc) s.fields) new (commons node s has union) moves f
      go false struct f = struct-comes program make past sound node desc s was new has struct (settled.structures node s has).some_fields moves f

  node-comes : (make : Maker) (past : Past) → IsSound program make → (node : TypeId) (desc : Option Expr) (was : Was) (new : Tree) → node_made program make past node desc was ≡ Some new → Comes program (ty.Node node desc) was new
  node-comes make past sound node desc (Begun common value) new e = go (common.0 == node.0) refl e
    where
      go : (b : Bool) → (common.0 == node.0) ≡ b
          → or_made (cond b (Some value) None) (structure_made program make (past_inside past node (Begun common value)) desc (Begun common value) (slice_get program.structures node.0)) ≡ Some new
          → Comes program (ty.Node node desc) (Begun common value) new
      go true same f =
          subst (Comes program (ty.Node node desc) (Begun common value)) (same_Some value new f)
          (beginning-self program common (ty.Node node desc) value same, outside-self program common (ty.Node node desc) value same)
      go false other f =
          structure-comes make (past_inside past node (Begun common value)) sound node desc (Begun common value) (slice_get program.structures node.0) new refl (ap (λ b. cond b (Some value) None) other) f
  node-comes make past sound node desc (Whole old) new e = structure-comes make (past_inside past node (Whole old)) sound node desc (Whole old) (slice_get program.structures node.0) new refl refl e
  node-comes make past sound node desc Nothing new e = structure-comes make (past_inside past node Nothing) sound node desc Nothing (slice_get program.structures node.0) new refl refl e

  -- a structure by value is the type of such a layer
  node-layer : (type : Ty) (node : TypeId) (desc : Option Expr) → out-Ty type ≡ part.Node node desc → ty.Node node desc ≡ type
  node-layer (ty.Node other d) node desc e = let o = outs-Node other d in let a : other ≡ node = cc in let b : d ≡ desc = cc in cc
  node-layer (ty.Num scalar) node desc e = let o = outs-Num scalar in absurd (cc)
  node-layer (ty.Bits unit width) node desc e = let o = outs-Bits unit width in absurd (cc)
  node-layer (ty.Opaque size align) node desc e = let o = outs-Opaque size align in absurd (cc)
  node-layer (ty.Str len) node desc e = let o = outs-Str len in absurd (cc)
  node-layer (ty.Ptr target kind reorder) node desc e = let o = outs-Ptr target kind reorder in absurd (cc)
  node-layer (ty.Arr' n shape elem) node desc e = let o = outs-Arr' n shape elem in absurd (cc)
  node-layer (ty.Tail' len shape elem) node desc e = let o = outs-Tail' len shape elem in absurd (cc)

  tail-comes : (make : Maker) (past : Past) → IsSound program make → (type elem : Ty) (len : Expr) (was : Was) (o : Option ℕ) (new : Tree) → out-Ty type ≡ part.Tail len elem → tail_made make past elem was o ≡ Some new → Comes program type was new
  tail-comes make past sound type elem len was (Some n) new is e = row-comes program make past sound type elem was n new (λ olds news each. Reshapes.tail is each) e
  tail-comes make past sound type elem len was None new is e = absurd (cc)

  layer-comes : (capacity : ℕ) (make : Maker) (past : Past) → IsSound program make → (type : Ty) (x : Ty-F Ty) (was : Was) (new : Tree) → out-Ty type ≡ x → layer_made program capacity make past x was ≡ Some new → Comes program type was new
  layer-comes capacity make past sound type (part.Node node desc) was new is e = subst (λ t. Comes program t was new) (node-layer type node desc is) (node-comes make past sound node desc was new e)
  layer-comes capacity make past sound type (part.Arr n elem) was new is e = row-comes program make past sound type elem was n new (λ olds news each. Reshapes.array is each) e
  layer-comes capacity make past sound type (part.Tail len elem) was new is e = tail-comes make past sound type elem len was (within capacity (value_was program past len)) new is e
  layer-comes capacity make past sound type (part.Num scalar) was new is e = leaf-comes program type (part.Num scalar) was new e
  layer-comes capacity make past sound type (part.Bits unit width) was new is e = leaf-comes program type (part.Bits unit width) was new e
  layer-comes capacity make past sound type (part.Opaque size align) was new is e = leaf-comes program type (part.Opaque size align) was new e
  layer-comes capacity make past sound type (part.Str len) was new is e = leaf-comes program type (part.Str len) was new e
  layer-comes capacity make past sound type (part.Ptr target kind reorder) was new is e = leaf-comes program type (part.Ptr target kind reorder) was new e

  -- each part that is made comes of what it was
  pub made-sound : (capacity depth : ℕ) → IsSound program (made program capacity depth)
  made-sound capacity zero past type was new e = absurd (cc)
  made-sound capacity (suc depth) past type was new e = layer-comes capacity (made program capacity depth) past (made-sound capacity depth) type (out-Ty type) was new refl e
