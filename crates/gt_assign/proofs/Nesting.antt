-- How deep the parts of a type nest in a settled program.
use Rattle.std.proofs.Common.{◌≡◌, ℕ, zero, suc, ◌+◌, ◌*◌, ◌≤◌, Bool, true, false, IsTrue, refl, ap, sym, subst, ◌∙◌, arith, rules, Option, Some, None, ◌⊎◌, inl, inr}
use Rattle.std.specs.Prelude.{Contains, nat_le, slice_get}
use Rattle.std.proofs.lemmas.List.Elements.{All-contains}
use Rattle.std.proofs.lemmas.Bool.{and_parts}
use Rattle.gt_types.specs.declared.expressions.Expr.{Expr}
use Rattle.gt_types.specs.declared.types.TypeId.{TypeId}
use Rattle.gt_types.specs.declared.types.Scalar.TheVariants as scalar
use Rattle.gt_types.specs.declared.types.Width.TheVariants.{W1}
use Rattle.gt_types.specs.declared.types.Target.TheVariants as target
use Rattle.gt_types.specs.declared.types.PtrKind.TheVariants as pointer
use Rattle.gt_types.specs.declared.types.Ty.{Ty, out-Ty}
use Rattle.gt_types.specs.declared.types.Ty.TheFolds.{fold_out-Ty, map-Ty}
use Rattle.gt_types.specs.declared.types.Ty.TheOpen as part
use Rattle.gt_types.specs.declared.types.Ty.TheOpen.{Ty-F}
use Rattle.gt_types.specs.declared.types.Ty.TheVariants as ty
use Rattle.gt_types.specs.declared.types.Ty.TheVariants.{outs-Num, outs-Bits, outs-Opaque, outs-Str, outs-Ptr, outs-Node, outs-Arr', outs-Tail'}
use Rattle.gt_types.specs.declared.program.Root.{Root}
use Rattle.gt_types.specs.declared.program.Program.{Program}
use Rattle.gt_types.specs.Shapes.{dimensions, dimensions_step, may_repeat, is_element, is_bound, field_type_at, root_type_at}
use Rattle.gt_types.specs.Contains.{held_by, Nests, once, deeper, ContainsStructure}
use Rattle.gt_types.specs.Settled.{Settled, IsField, IsRoot}
use Rattle.gt_tree.specs.Blocks.{Kind, Nodes, Pointers, Strings, Chars, Raw, desc_of, element_type}
use Rattle.gt_tree.proofs.Types.{held-node, held-array, held-tail}
use Rattle.gt_assign.proofs.Whole.{IsPart, Deep}

deep-up : (program : Program) (n m : ℕ) (type : Ty) → n ≤ m → Deep program n type → Deep program m type
deep-up program zero m type h deep = absurd deep
deep-up program (suc n) zero type h deep = absurd (omega arith)
deep-up program (suc n) (suc m) type h deep = λ inner p. deep-up program n m inner (omega arith) (deep inner p)

-- ---- dimensions

dims-layer : (type : Ty) (x : Ty-F Ty) → out-Ty type ≡ x → dimensions type ≡ dimensions_step (map-Ty Ty ℕ dimensions x)
dims-layer type x e = fold_out-Ty ℕ dimensions_step type ∙ ap (λ y. dimensions_step (map-Ty Ty ℕ dimensions y)) e

dims-array : (type elem : Ty) (n : ℕ) → out-Ty type ≡ part.Arr n elem → dimensions type ≡ 1 + dimensions elem
dims-array type elem n e = dims-layer type (part.Arr n elem) e

dims-tail : (type elem : Ty) (len : Expr) → out-Ty type ≡ part.Tail len elem → dimensions type ≡ 1 + dimensions elem
dims-tail type elem len e = dims-layer type (part.Tail len elem) e

repeat-dims : (elem : Ty) → IsTrue (may_repeat elem) → 1 + dimensions elem ≤ 4
repeat-dims elem h = let t = (and_parts (is_element elem) (nat_le (1 + dimensions elem) 4) h).1 in search rules

field-dims_at : (type : Ty) (x : Ty-F Ty) → out-Ty type ≡ x → IsTrue (field_type_at x) → dimensions type ≤ 4
field-dims_at type (part.Num scalar) e h = let d = dims-layer type (part.Num scalar) e in omega (arith, d)
field-dims_at type (part.Bits unit count) e h = let d = dims-layer type (part.Bits unit count) e in omega (arith, d)
field-dims_at type (part.Opaque size align) e h = let d = dims-layer type (part.Opaque size align) e in omega (arith, d)
field-dims_at type (part.Str count) e h = let d = dims-layer type (part.Str count) e in omega (arith, d)
field-dims_at type (part.Ptr target kind reorder) e h = let d = dims-layer type (part.Ptr target kind reorder) e in omega (arith, d)
field-dims_at type (part.Node node desc) e h = let d = dims-layer type (part.Node node desc) e in omega (arith, d)
field-dims_at type (part.Arr n elem) e h = let d = dims-array type elem n e in let r = repeat-dims elem (and_parts (is_bound n) (may_repeat elem) h).1 in omega (arith, d, r)
field-dims_at type (part.Tail count elem) e h = let d = dims-tail type elem count e in let r = repeat-dims elem h in omega (arith, d, r)

root-dims_at : (type : Ty) (x : Ty-F Ty) → out-Ty type ≡ x → IsTrue (root_type_at x) → dimensions type ≤ 4
root-dims_at type (part.Num scalar) e h = let d = dims-layer type (part.Num scalar) e in omega (arith, d)
root-dims_at type (part.Bits unit count) e h = let d = dims-layer type (part.Bits unit count) e in omega (arith, d)
root-dims_at type (part.Opaque size align) e h = let d = dims-layer type (part.Opaque size align) e in omega (arith, d)
root-dims_at type (part.Str count) e h = let d = dims-layer type (part.Str count) e in omega (arith, d)
root-dims_at type (part.Ptr target kind reorder) e h = let d = dims-layer type (part.Ptr target kind reorder) e in omega (arith, d)
root-dims_at type (part.Node node desc) e h = let d = dims-layer type (part.Node node desc) e in omega (arith, d)
root-dims_at type (part.Arr n elem) e h = let d = dims-array type elem n e in let r = repeat-dims elem (and_parts (is_bound n) (may_repeat elem) h).1 in omega (arith, d, r)
root-dims_at type (part.Tail count elem) e h = absurd (cc)

-- ---- arrays around a structure

module _ (program : Program) where
  -- what a type holds by value nests less than so deep
  abbrev HeldDeep : ℕ → Ty → Type 0
  HeldDeep n type = (node : TypeId) (desc : Option Expr) → held_by type ≡ Some node → Deep program n (ty.Node node desc)

  deep-held : (n : ℕ) {type inner : Ty} → IsPart program type inner → HeldDeep n type → 1 ≤ n → ((m : ℕ) → (n ≡ suc m) → Deep program m inner) ⊎ ((dimensions type ≡ 1 + dimensions inner) × HeldDeep n inner)
  deep-held n (IsPart.of_field {node} {desc} {s} {f} has contains) held some = inl (λ m e. (subst (λ k. Deep program k (ty.Node node desc)) e (held node desc (held-node node desc))) f.ty (IsPart.of_field has contains))
  deep-held n (IsPart.of_common {node} {common} {desc} {s} has is) held some = inl (λ m e. (subst (λ k. Deep program k (ty.Node node desc)) e (held node desc (held-node node desc))) (ty.Node common None) (IsPart.of_common has is))
  deep-held n (IsPart.of_array {type} {elem} {n = bound} e) held some = inr (dims-array type elem bound e, λ node desc h. held node desc (held-array type elem bound e ∙ h))
  deep-held n (IsPart.of_tail {type} {elem} {len} e) held some = inr (dims-tail type elem len e, λ node desc h. held node desc (held-tail type elem len e ∙ h))

  flat : (k n : ℕ) (type : Ty) → dimensions type ≤ k → HeldDeep (suc n) type → Deep program (suc (k + n)) type
  flat zero n type few held = λ inner p. go inner p (deep-held (suc n) p held (omega arith))
    where
      go : (inner : Ty) (p : IsPart program type inner) → ((m : ℕ) → (suc n ≡ suc m) → Deep program m inner) ⊎ ((dimensions type ≡ 1 + dimensions inner) × HeldDeep (suc n) inner) → Deep program (0 + n) inner
      go inner p (inl deep) = deep-up program n (0 + n) inner (omega arith) (deep n refl)
      go inner p (inr (dims, h)) = absurd (omega (arith, few, dims))
  flat (suc k) n type few held = λ inner p. go (flat k n) inner p (deep-held (suc n) p held (omega arith))
    where
      go : ((t : Ty) → dimensions t ≤ k → HeldDeep (suc n) t → Deep program (suc (k + n)) t) → (inner : Ty) (p : IsPart program type inner)
          → ((m : ℕ) → (suc n ≡ suc m) → Deep program m inner) ⊎ ((dimensions type ≡ 1 + dimensions inner) × HeldDeep (suc n) inner) → Deep program (suc k + n) inner
      go rest inner p (inl deep) = deep-up program n (suc k + n) inner (omega arith) (deep n refl)
      go rest inner p (inr (dims, h)) = deep-up program (suc (k + n)) (suc k + n) inner (omega arith) (rest inner (omega (arith, few, dims)) h)

module _ (program : Program) (settled : Settled program) where
  part-of-node : (node : TypeId) (desc : Option Expr) {type inner : Ty} → IsPart program type inner → type ≡ ty.Node node desc → (dimensions inner ≤ 4) × ((next : TypeId) → held_by inner ≡ Some next → ContainsStructure program node next)
  part-of-node node desc (IsPart.of_field {node = other} {desc = d} {s} {f} has contains) e =
      let same : other ≡ node = cc in
      let field = All-contains (IsField program other s) s.fields f (settled.structures other s has).fields contains in
      (field-dims_at f.ty (out-Ty f.ty) refl field.shape, λ next h. subst (λ n. ContainsStructure program n next) same (s, f, has, contains, h))
  part-of-node node desc (IsPart.of_common {node = other} {common} {desc = d} {s} has is) e =
      let same : other ≡ node = cc in
      let dims = dims-layer (ty.Node common None) (part.Node common None) (outs-Node common None) in
      (omega (arith, dims), λ next h. subst (λ n. ContainsStructure program n next) same (s, is.member.0, has, is.member.2, ap held_by is.member.3 ∙ held-node common is.member.1 ∙ sym (held-node common None) ∙ h))
  part-of-node node desc (IsPart.of_array {type} {elem} {n} e) is = let o = outs-Node node desc in let h = ap out-Ty is in absurd (cc)
  part-of-node node desc (IsPart.of_tail {type} {elem} {len} e) is = let o = outs-Node node desc in let h = ap out-Ty is in absurd (cc)

  deep-node : (n d : ℕ) (node : TypeId) (desc : Option Expr) → ((m : ℕ) (inner : TypeId) → Nests program m node inner → m ≤ n) → 7 + 6 * n ≤ d → Deep program d (ty.Node node desc)
  deep-node n zero node desc bound h = absurd (omega arith)
  deep-node zero (suc d) node desc bound h = λ inner p.
      let q = part-of-node node desc p refl in
      deep-up program (suc (4 + 0)) d inner (omega arith) (flat program 4 0 inner q.0 (λ next e held. let b = bound 1 next (once (q.1 next held)) in absurd (omega (arith, b))))
  deep-node (suc n) (suc d) node desc bound h = λ inner p.
      let q = part-of-node node desc p refl in
      deep-up program (suc (4 + (6 + 6 * n))) d inner (omega arith)
      (flat program 4 (6 + 6 * n) inner q.0
      (λ next e held. deep-node n (suc (6 + 6 * n)) next e (λ m last nests. let b = bound (suc m) last (deeper (q.1 next held) nests) in omega (arith, b)) (omega arith)))

  abbrev has_parts : Ty-F Ty → Bool
  has_parts (part.Node node desc) = true
  has_parts (part.Arr n elem) = true
  has_parts (part.Tail len elem) = true
  has_parts layer = false

  part-layer : {type inner : Ty} → IsPart program type inner → has_parts (out-Ty type) ≡ true
  part-layer (IsPart.of_field {node} {desc} has contains) = ap has_parts (outs-Node node desc)
  part-layer (IsPart.of_common {node} {desc} has is) = ap has_parts (outs-Node node desc)
  part-layer (IsPart.of_array e) = ap has_parts e
  part-layer (IsPart.of_tail e) = ap has_parts e

  deep-leaf : (d : ℕ) (type : Ty) → 1 ≤ d → has_parts (out-Ty type) ≡ false → Deep program d type
  deep-leaf zero type h none = absurd (omega arith)
  deep-leaf (suc d) type h none = λ inner p. let some = part-layer p in absurd (cc)

  -- the types of the elements of blocks
  pub deep-block : (kind : Kind) (d : ℕ) → 199 ≤ d → Deep program d (element_type program kind)
  deep-block (Nodes node) d h = deep-node 32 d node (desc_of (slice_get program.structures node.0)) (λ m inner nests. settled.depth m node inner nests) (omega arith)
  deep-block (Pointers node) d h = deep-leaf d (element_type program (Pointers node)) (omega arith) (ap has_parts (outs-Ptr (Some (target.Node node)) pointer.Plain false))
  deep-block Strings d h = deep-leaf d (ty.Str None) (omega arith) (ap has_parts (outs-Str None))
  deep-block Chars d h = deep-leaf d (ty.Num (scalar.Int W1 false)) (omega arith) (ap has_parts (outs-Num (scalar.Int W1 false)))
  deep-block Raw d h = deep-leaf d (ty.Num (scalar.Int W1 false)) (omega arith) (ap has_parts (outs-Num (scalar.Int W1 false)))

  -- the types of the roots
  pub deep-root : (r : Root) → Contains program.roots r → (d : ℕ) → 203 ≤ d → Deep program d r.ty
  deep-root r contains d h =
      let shape = (All-contains (IsRoot program) program.roots r settled.roots contains).shape in
      deep-up program (suc (4 + 198)) d r.ty (omega arith)
      (flat program 4 198 r.ty (root-dims_at r.ty (out-Ty r.ty) refl shape)
      (λ node desc held. deep-node 32 199 node desc (λ m inner nests. settled.depth m node inner nests) (omega arith)))
