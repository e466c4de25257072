-- The rows of pointers.
use Rattle.std.proofs.Common.{◌≡◌, ◌∙◌, ℕ, Bool, refl, ap, sym, subst, ◌⊎◌, inl, inr, Option, Some, None}
use Rattle.gt_types.specs.declared.expressions.Expr.{Expr}
use Rattle.gt_types.specs.declared.types.Target.{Target}
use Rattle.gt_types.specs.declared.types.Target.TheVariants as target
use Rattle.gt_types.specs.declared.types.PtrKind.{PtrKind}
use Rattle.gt_types.specs.declared.types.PtrKind.TheVariants as kind
use Rattle.gt_types.specs.declared.types.Ty.TheVariants as ty
use Rattle.gt_types.specs.declared.program.Program.{Program}
use Rattle.gt_layout.specs.declared.planes.Layouts.{Layouts}
use Rattle.gt_walk.specs.declared.rows.Count.TheVariants as count
use Rattle.gt_walk.specs.declared.rows.RowExpr.{RowExpr}
use Rattle.gt_walk.specs.declared.rows.WalkRow.{WalkRow}
use Rattle.gt_walk.specs.declared.rows.WalkRow.TheVariants as row
use Rattle.gt_tree.specs.Blocks.{Raw}
use Rattle.gt_edges.specs.Numbers.{walk_of}
use Rattle.gt_edges.specs.Walks.{Around, IsPointerRow, IsRowExpr, IsTarget, NamesNothing, target_walk, single, counted, atomic, nothing, missing}

-- a pointer without a target names a block only where that is never scanned
nothing-bare : (k : PtrKind) (reorder : Bool) → ¬ (k ≡ kind.Atomic) → NamesNothing (ty.Ptr None k reorder)
nothing-bare kind.Plain reorder other blocks value id names = names
nothing-bare (kind.Length len) reorder other blocks value id names = names
nothing-bare kind.Atomic reorder other blocks value id names = other refl
nothing-bare kind.Undef reorder other blocks value id names = names

-- a pointer to what is not defined names no block
nothing-undefined : (t : Target) (k : PtrKind) (reorder : Bool) → (k ≡ kind.Atomic) ⊎ (k ≡ kind.Undef) → NamesNothing (ty.Ptr (Some t) k reorder)
nothing-undefined (target.Node node) kind.Atomic reorder is blocks value id names = names
nothing-undefined (target.Pointers node) kind.Atomic reorder is blocks value id names = names
nothing-undefined target.Strings kind.Atomic reorder is blocks value id names = names
nothing-undefined (target.Node node) kind.Undef reorder is blocks value id names = names
nothing-undefined (target.Pointers node) kind.Undef reorder is blocks value id names = names
nothing-undefined target.Strings kind.Undef reorder is blocks value id names = names
nothing-undefined t kind.Plain reorder (inl e) blocks value id names = cc
nothing-undefined t kind.Plain reorder (inr e) blocks value id names = cc
nothing-undefined t (kind.Length len) reorder (inl e) blocks value id names = cc
nothing-undefined t (kind.Length len) reorder (inr e) blocks value id names = cc

module _ (program : Program) (layouts : Layouts) (around : Around) (offset : ℕ) (reorder : Bool) where
  -- a row serves a pointer of this target and kind
  abbrev Serves : Option Target → PtrKind → Option WalkRow → Type 0
  Serves t k r = IsPointerRow program layouts around (ty.Ptr t k reorder) offset r

  of-type : (t t' : Option Target) (k k' : PtrKind) (r : Option WalkRow) → t ≡ t' → k ≡ k' → Serves t' k' r → Serves t k r
  of-type t t' k k' r p q h = subst (λ x. Serves x k r) (sym p) (subst (λ x. Serves t' x r) (sym q) h)

  pub of-atomic : (t : Option Target) (k : PtrKind) (walk : ℕ) (r : WalkRow) → t ≡ None → k ≡ kind.Atomic → walk ≡ walk_of program Raw → r ≡ row.Ptr offset walk (count.Fixed 0) reorder → Serves t k (Some r)
  of-atomic t k walk r p q bare is =
      of-type t None k kind.Atomic (Some r) p q (subst (λ x. Serves None kind.Atomic (Some x)) (sym (is ∙ ap (λ w. row.Ptr offset w (count.Fixed 0) reorder) bare)) atomic)

  pub of-bare : (t : Option Target) (k : PtrKind) → t ≡ None → ¬ (k ≡ kind.Atomic) → Serves t k None
  of-bare t k p other = subst (λ x. Serves x k None) (sym p) (nothing (nothing-bare k reorder other))

  pub of-missing : (t : Option Target) (k : PtrKind) (target : Target) → t ≡ Some target → ¬ IsTarget program target → Serves t k None
  of-missing t k target p out = subst (λ x. Serves x k None) (sym p) (missing out)

  pub of-undefined : (t : Option Target) (k : PtrKind) (target : Target) → t ≡ Some target → (k ≡ kind.Atomic) ⊎ (k ≡ kind.Undef) → Serves t k None
  of-undefined t k target p q = subst (λ x. Serves x k None) (sym p) (nothing (nothing-undefined target k reorder q))

  pub of-single : (t : Option Target) (k : PtrKind) (target : Target) (walk : ℕ) (r : WalkRow) → t ≡ Some target → k ≡ kind.Plain → IsTarget program target → walk ≡ target_walk program target
      → r ≡ row.Ptr offset walk (count.Fixed 1) reorder → Serves t k (Some r)
  of-single t k target walk r p q there same is =
      of-type t (Some target) k kind.Plain (Some r) p q
      (subst (λ x. Serves (Some target) kind.Plain (Some x)) (sym (is ∙ ap (λ w. row.Ptr offset w (count.Fixed 1) reorder) same)) (single there))

  pub of-counted : (t : Option Target) (k : PtrKind) (target : Target) (walk : ℕ) (len : Expr) (e : RowExpr) (r : WalkRow) → t ≡ Some target → k ≡ kind.Length len → IsTarget program target
      → walk ≡ target_walk program target → IsRowExpr program layouts around len e → r ≡ row.Ptr offset walk (count.Length e) reorder → Serves t k (Some r)
  of-counted t k target walk len e r p q there same expr is =
      of-type t (Some target) k (kind.Length len) (Some r) p q
      (subst (λ x. Serves (Some target) (kind.Length len) (Some x)) (sym (is ∙ ap (λ w. row.Ptr offset w (count.Length e) reorder) same)) (counted there expr))
