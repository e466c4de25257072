-- The element of a block fits whatever the roots are, since its expressions name none.
use Rattle.std.proofs.Common.{◌≡◌, ℕ, Bool, true, IsTrue, List, [], refl, ap, sym, subst, ◌∙◌, Option, Some, None}
use Rattle.std.specs.Prelude.{All, Contains, IfSome, slice_get}
use Rattle.std.proofs.lemmas.List.Elements.{All-nil, All-same, All-head, All-tail, All-map, All-weaker, All-contains, All-contains_itself}
use Rattle.std.proofs.lemmas.Option.{slice_get_within, get_or_from_slice_get}
use Rattle.gt_types.specs.declared.expressions.Base.TheVariants.{Here, Outer, Outermost}
use Rattle.gt_types.specs.declared.expressions.Expr.{Expr}
use Rattle.gt_types.specs.declared.types.TypeId.{TypeId}
use Rattle.gt_types.specs.declared.types.Target.{Target}
use Rattle.gt_types.specs.declared.types.Target.TheVariants as target
use Rattle.gt_types.specs.declared.types.PtrKind.TheVariants as pointer
use Rattle.gt_types.specs.declared.types.Ty.{Ty, out-Ty}
use Rattle.gt_types.specs.declared.types.Ty.TheFolds.{fold_out-Ty, map-Ty}
use Rattle.gt_types.specs.declared.types.Ty.TheOpen as part
use Rattle.gt_types.specs.declared.types.Ty.TheOpen.{Ty-F}
use Rattle.gt_types.specs.declared.types.Ty.TheVariants as ty
use Rattle.gt_types.specs.declared.types.Ty.TheVariants.{outs-Num, outs-Str, outs-Ptr, outs-Node, outs-Arr', outs-Tail'}
use Rattle.gt_types.specs.declared.program.Field.{Field}
use Rattle.gt_types.specs.declared.program.Structure.{Structure}
use Rattle.gt_types.specs.declared.program.Program.{Program}
use Rattle.gt_types.specs.Shapes.{innermost, count_of, is_element, is_element_step}
use Rattle.gt_types.specs.Contains.{HasStructure}
use Rattle.gt_types.specs.Paths.{roots_of, IsOption}
use Rattle.gt_types.specs.Settled.{Settled, IsField}
use Rattle.gt_tree.specs.Trees.{Tree, Rec, Alt, Trees, End}
use Rattle.gt_tree.specs.Blocks.{Kind, Nodes, Pointers, Strings, Chars, Raw, Blocks, MayName, element_type}
use Rattle.gt_tree.specs.Scopes.{Scope, outside, inside, leaf_in, root_in, eval_in}
use Rattle.gt_tree.specs.Fits.{Fits, AllFit, EachFits, IsActive, active_member, desc_value, types_of}
use Rattle.gt_tree.proofs.Types.{innermost-node}
use Rattle.gt_tree.proofs.FixedScopes.{innermost-array, innermost-tail, count-tail}
use Rattle.gt_tree.proofs.FixedExprs.{roots-worth}
use Rattle.gt_tree.proofs.FixedTypes.{sound_at, sound-element, sound}
use Rattle.gt_tree.proofs.WriteScopes.{kind-desc, field-desc}
use Rattle.gt_tree.specs.LeafLaws.{IsTypeIn}

-- the same scope with other roots
abbrev with_roots : Scope → Trees → Scope
with_roots scope roots = record { here = scope.here; outer = scope.outer; outermost = scope.outermost; statics = roots }

eval-roots : (program : Program) (s : Scope) (roots : Trees) (e : Expr) → roots_of e ≡ [] → eval_in program s e ≡ eval_in program (with_roots s roots) e
eval-roots program s roots e none =
    let same = λ (i : ℕ). root_in s i ≡ root_in (with_roots s roots) i in
    roots-worth (leaf_in program s) (leaf_in program (with_roots s roots)) (root_in s) (root_in (with_roots s roots)) leaves e (All-same same (roots_of e) [] none (All-nil same))
  where
    leaves : (base : _) (steps : List (List ℕ)) → leaf_in program s base steps ≡ leaf_in program (with_roots s roots) base steps
    leaves Here steps = refl
    leaves Outer steps = refl
    leaves Outermost steps = refl

-- ---- types whose expressions name no roots

record Rootless (program : Program) (type : Ty) : Type 0 where
  count : (len : Expr) → count_of type ≡ Some len → roots_of len ≡ []
  desc : (union : TypeId) (y : Structure) (e : Expr) → HasStructure program union y → y.is_union ≡ true → innermost type ≡ ty.Node union (Some e) → roots_of e ≡ []
  elems : IsTrue (sound_at (out-Ty type))

element-none_at : (type : Ty) (x : Ty-F Ty) → out-Ty type ≡ x → IsTrue (is_element_step (map-Ty Ty Bool is_element x)) → (len : Expr) → ¬ (count_of type ≡ Some len)
element-none_at (ty.Num scalar) x e h len is = cc
element-none_at (ty.Bits unit width) x e h len is = cc
element-none_at (ty.Opaque size align) x e h len is = cc
element-none_at (ty.Str None) x e h len is = cc
element-none_at (ty.Str (Some count)) x e h len is = let o = outs-Str (Some count) in let g = subst (λ l. IsTrue (is_element_step (map-Ty Ty Bool is_element l))) (sym e ∙ o) h in cc
element-none_at (ty.Ptr t pointer.Plain reorder) x e h len is = cc
element-none_at (ty.Ptr t (pointer.Length count) reorder) x e h len is =
    let o = outs-Ptr t (pointer.Length count) reorder in
    no_length t count reorder (subst (λ l. IsTrue (is_element_step (map-Ty Ty Bool is_element l))) (sym e ∙ o) h)
  where
    no_length : (t' : Option Target) (c : Expr) (r : Bool) → ¬ IsTrue (is_element_step (map-Ty Ty Bool is_element (part.Ptr t' (pointer.Length c) r)))
    no_length None c r g = cc
    no_length (Some (target.Node node)) c r g = cc
    no_length (Some (target.Pointers node)) c r g = cc
    no_length (Some target.Strings) c r g = cc
element-none_at (ty.Ptr t pointer.Atomic reorder) x e h len is = cc
element-none_at (ty.Ptr t pointer.Undef reorder) x e h len is = cc
element-none_at (ty.Node node desc) x e h len is = cc
element-none_at (ty.Arr' n shape elem) x e h len is = cc
element-none_at (ty.Tail' count shape elem) x e h len is = let o = outs-Tail' count shape elem in let g = subst (λ l. IsTrue (is_element_step (map-Ty Ty Bool is_element l))) (sym e ∙ o) h in cc

element-none : (type : Ty) → IsTrue (is_element type) → (len : Expr) → ¬ (count_of type ≡ Some len)
element-none type h = element-none_at type (out-Ty type) refl (subst IsTrue (fold_out-Ty Bool is_element_step type) h)

module _ (program : Program) (settled : Settled program) where
  rootless-elem : (type elem : Ty) → IsTrue (is_element elem) → innermost type ≡ innermost elem → Rootless program type → Rootless program elem
  rootless-elem type elem h same r = record {
    count = λ len e. absurd (element-none elem h len e);
    desc = λ union y e has u i. r.desc union y e has u (same ∙ i);
    elems = sound-element elem h;
  }

  rootless-array : (type elem : Ty) (n : ℕ) → out-Ty type ≡ part.Arr n elem → Rootless program type → Rootless program elem
  rootless-array type elem n e r = rootless-elem type elem (subst (λ l. IsTrue (sound_at l)) e r.elems) (innermost-array type elem n e) r

  rootless-tail : (type elem : Ty) (len : Expr) → out-Ty type ≡ part.Tail len elem → Rootless program type → Rootless program elem
  rootless-tail type elem len e r = rootless-elem type elem (subst (λ l. IsTrue (sound_at l)) e r.elems) (innermost-tail type elem len e) r

  rootless-field : (node : TypeId) (x : Structure) (f : Field) → HasStructure program node x → Contains x.fields f → Rootless program f.ty
  rootless-field node x f has contains = record {
    count = λ len e. (subst (λ c. IfSome c (IsOption program node)) e (All-contains (IsField program node x) x.fields f (settled.structures node x has).fields contains).count).no_roots;
    desc = λ union y e there u i. (field-desc program settled End node union x f e has contains i).no_roots;
    elems = sound program settled (IsTypeIn.of_field node x f has contains);
  }

  rootless-common : (common : TypeId) → Rootless program (ty.Node common None)
  rootless-common common = record {
    count = λ len e. absurd (cc);
    desc = λ union y e has u i. let n = innermost-node common None in absurd (cc);
    elems = ap sound_at (outs-Node common None);
  }

  kind-count : (kind : Kind) (len : Expr) → ¬ (count_of (element_type program kind) ≡ Some len)
  kind-count (Nodes node) len e = cc
  kind-count (Pointers node) len e = cc
  kind-count Strings len e = cc
  kind-count Chars len e = cc
  kind-count Raw len e = cc

  rootless-kind : (kind : Kind) → Rootless program (element_type program kind)
  rootless-kind kind = record {
    count = λ len e. absurd (kind-count kind len e);
    desc = λ union y e has u i. (kind-desc program kind union y e settled has u i).1.no_roots;
    elems = sound program settled (IsTypeIn.of_block kind);
  }

  rootless-fields : (node : TypeId) (x : Structure) → HasStructure program node x → All (Rootless program) (types_of x.fields)
  rootless-fields node x has = All-map (Rootless program) (λ f. f.ty) x.fields (All-weaker (Contains x.fields) (λ f. Rootless program f.ty) (λ f c. rootless-field node x f has c) x.fields (All-contains_itself x.fields))

  -- ---- a value

  may-roots : (blocks : Blocks) (s : Scope) (roots : Trees) (type : Ty) (id : ℕ) → Rootless program type → MayName blocks (eval_in program s) type id → MayName blocks (eval_in program (with_roots s roots)) type id
  may-roots blocks s roots (ty.Str None) id r m = m
  may-roots blocks s roots (ty.Str (Some len)) id r (n, v, h) = (n, sym (eval-roots program s roots len (r.count len refl)) ∙ v, h)
  may-roots blocks s roots (ty.Ptr (Some (target.Node node)) pointer.Plain reorder) id r m = m
  may-roots blocks s roots (ty.Ptr (Some (target.Node node)) (pointer.Length len) reorder) id r (n, v, h) = (n, sym (eval-roots program s roots len (r.count len refl)) ∙ v, h)
  may-roots blocks s roots (ty.Ptr (Some (target.Pointers node)) (pointer.Length len) reorder) id r (n, v, h) = (n, sym (eval-roots program s roots len (r.count len refl)) ∙ v, h)
  may-roots blocks s roots (ty.Ptr (Some target.Strings) (pointer.Length len) reorder) id r (n, v, h) = (n, sym (eval-roots program s roots len (r.count len refl)) ∙ v, h)
  may-roots blocks s roots (ty.Ptr None pointer.Atomic reorder) id r m = m
  may-roots blocks s roots type id r m = absurd m

  desc-roots : (s : Scope) (roots : Trees) (node : TypeId) (desc : Option Expr) (y : Structure) → Rootless program (ty.Node node desc) → HasStructure program node y → y.is_union ≡ true → desc_value program s desc ≡ desc_value program (with_roots s roots) desc
  desc-roots s roots node None y r has union = refl
  desc-roots s roots node (Some e) y r has union = eval-roots program s roots e (r.desc node y e has union (innermost-node node (Some e)))

  active-roots : (s : Scope) (roots : Trees) (node : TypeId) (desc : Option Expr) (y : Structure) (tree : Tree) (m : Option ℕ) → Rootless program (ty.Node node desc) → HasStructure program node y → y.is_union ≡ true
      → IsActive program s node desc y tree m → IsActive program (with_roots s roots) node desc y tree m
  active-roots s roots node desc y tree m r has union active = ap (λ v. active_member v y.fields) (sym (desc-roots (inside s node tree) roots node desc y r has union)) ∙ active

  Contains-get : {X : Type 0} (xs : List X) (i : ℕ) (x : X) → slice_get xs i ≡ Some x → Contains xs x
  Contains-get xs i x e = (i, slice_get_within xs i x e, get_or_from_slice_get xs i x x e)

  mutual
    refit : {blocks : Blocks} {capacity : ℕ} {s : Scope} {type : Ty} {tree : Tree} → Fits program blocks capacity s type tree → Rootless program type → (roots : Trees) → Fits program blocks capacity (with_roots s roots) type tree
    refit (Fits.number room) r roots = Fits.number room
    refit (Fits.bits room) r roots = Fits.bits room
    refit (Fits.opaque long small) r roots = Fits.opaque long small
    refit (Fits.null p) r roots = Fits.null p
    refit {blocks} {s} (Fits.to {type} {id} m) r roots = Fits.to (may-roots blocks s roots type id r m)
    refit {s} (Fits.struct {node} {desc} {s = x} {trees} has struct all) r roots = Fits.struct has struct (refit_fields all (rootless-fields node x has) roots)
    refit {s} (Fits.member {node} {desc} {s = x} {place} {f} {tree} has union active got fits) r roots =
        Fits.member has union (active-roots s roots node desc x (Alt (Some place) tree) (Some place) r has union active) got (refit fits (rootless-field node x f has (Contains-get x.fields place f got)) roots)
    refit {s} (Fits.common {node} {common} {desc} {s = x} {tree} has union active is plain fits) r roots =
        Fits.common has union (active-roots s roots node desc x (Alt None tree) None r has union active) is plain (refit fits (rootless-common common) roots)
    refit {s} (Fits.nothing {node} {desc} {s = x} has union active none) r roots = Fits.nothing has union (active-roots s roots node desc x (Alt None (Rec End)) None r has union active) none
    refit (Fits.array {type} {elem} {n} e many each) r roots = Fits.array e many (refit_each each (rootless-array type elem n e r) roots)
    refit {s} (Fits.tail {type} {elem} {length} e value le many each) r roots =
        Fits.tail e (sym (eval-roots program s roots length (r.count length (count-tail type elem length e))) ∙ value) le many (refit_each each (rootless-tail type elem length e r) roots)

    refit_fields : {blocks : Blocks} {capacity : ℕ} {s : Scope} {types : List Ty} {trees : Trees} → AllFit program blocks capacity s types trees → All (Rootless program) types → (roots : Trees) → AllFit program blocks capacity (with_roots s roots) types trees
    refit_fields AllFit.none r roots = AllFit.none
    refit_fields (AllFit.more {type} {types} fits all) r roots = AllFit.more (refit fits (All-head (Rootless program) type types r) roots) (refit_fields all (All-tail (Rootless program) type types r) roots)

    refit_each : {blocks : Blocks} {capacity : ℕ} {s : Scope} {type : Ty} {trees : Trees} → EachFits program blocks capacity s type trees → Rootless program type → (roots : Trees) → EachFits program blocks capacity (with_roots s roots) type trees
    refit_each EachFits.no_more r roots = EachFits.no_more
    refit_each (EachFits.one_more fits each) r roots = EachFits.one_more (refit fits r roots) (refit_each each r roots)

  -- an element of a block fits beside any roots, where it fits beside some
  pub refit-block : (blocks : Blocks) (capacity : ℕ) (kind : Kind) (a b : Trees) (tree : Tree) → Fits program blocks capacity (outside a) (element_type program kind) tree → Fits program blocks capacity (outside b) (element_type program kind) tree
  refit-block blocks capacity kind a b tree fits = refit fits (rootless-kind kind) b
