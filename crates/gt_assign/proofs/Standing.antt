-- A value that fits and comes of what was there is the one that is made.
use Rattle.std.proofs.Common.{◌≡◌, ℕ, true, List, refl, Option, Some, None}
use Rattle.std.specs.Prelude.{Contains}
use Rattle.std.proofs.lemmas.List.Elements.{All-weaker}
use Rattle.gt_types.specs.declared.expressions.Base.TheVariants.{Here, Outer, Outermost}
use Rattle.gt_types.specs.declared.expressions.Expr.{Expr}
use Rattle.gt_types.specs.declared.types.TypeId.{TypeId}
use Rattle.gt_types.specs.declared.types.Ty.{Ty, out-Ty}
use Rattle.gt_types.specs.declared.types.Ty.TheOpen as part
use Rattle.gt_types.specs.declared.types.Ty.TheVariants as ty
use Rattle.gt_types.specs.declared.types.Ty.TheVariants.{outs-Num, outs-Bits, outs-Opaque, outs-Str, outs-Ptr, outs-Node}
use Rattle.gt_types.specs.declared.program.Field.{Field}
use Rattle.gt_types.specs.declared.program.Structure.{Structure}
use Rattle.gt_types.specs.declared.program.Root.{Root}
use Rattle.gt_types.specs.declared.program.Program.{Program}
use Rattle.gt_types.specs.Contains.{HasStructure}
use Rattle.gt_types.specs.Unions.{IsCommon}
use Rattle.gt_types.specs.Paths.{Way, paths_of, LeadsToNumber}
use Rattle.gt_types.specs.Settled.{Settled}
use Rattle.gt_tree.specs.Trees.{Tree, Trees}
use Rattle.gt_tree.specs.Blocks.{Kind, element_type}
use Rattle.gt_tree.specs.Scopes.{Held, Scope, outside, inside, first_of, ◌then◌, read_path, leaf_in, root_in, eval_in}
use Rattle.gt_tree.specs.Fits.{desc_value}
use Rattle.gt_tree.specs.PathLaws.{LeadsInScope}
use Rattle.gt_tree.specs.FixedLaws.{MayHold}
use Rattle.gt_tree.proofs.Types.{innermost-node}
use Rattle.gt_tree.proofs.PathExprs.{worth-same}
use Rattle.gt_tree.proofs.FixedScopes.{IsReadable}
use Rattle.gt_tree.proofs.WriteScopes.{RootsSame, Beside, count-leads, desc-known}
use Rattle.gt_assign.specs.Pasts.{Was, WasAt, Past, past_outside, past_inside, first_was, was_path, leaf_was, root_was, value_was, desc_was}
use Rattle.gt_assign.proofs.PastReads.{Reads}

-- what was around a value of a type, and the scope in which the value stands that comes of it
pub data Stands (program : Program) (a : Trees) : Past → Scope → Ty → Type 0 where
  at_block : (kind : Kind) → MayHold program kind → Stands program a (past_outside a) (outside a) (element_type program kind)
  at_root : {b c : Trees} (r : Root) → Contains program.roots r → RootsSame b c → Stands program a (past_outside b) (outside c) r.ty
  in_field : {p : Past} {t : Scope} {node : TypeId} {desc : Option Expr} {was : Was} {w : Tree} {x : Structure} {f : Field} → Stands program a p t (ty.Node node desc) → Reads program node was w
      → HasStructure program node x → Contains x.fields f → Stands program a (past_inside p node was) (inside t node w) f.ty
  in_common : {p : Past} {t : Scope} {node common : TypeId} {desc : Option Expr} {was : Was} {w : Tree} {x : Structure} → Stands program a p t (ty.Node node desc) → Reads program node was w
      → HasStructure program node x → IsCommon program x common → Stands program a (past_inside p node was) (inside t node w) (ty.Node common None)
  in_array : {p : Past} {t : Scope} {type elem : Ty} {n : ℕ} → Stands program a p t type → out-Ty type ≡ part.Arr n elem → Stands program a p t elem
  in_tail : {p : Past} {t : Scope} {type elem : Ty} {len : Expr} → Stands program a p t type → out-Ty type ≡ part.Tail len elem → Stands program a p t elem

data HeldRead (program : Program) : Option WasAt → Option Held → Type 0 where
  neither : HeldRead program None None
  both : {node : TypeId} {was : Was} {w : Tree} → Reads program node was w → HeldRead program (Some (record { node = node; was = was })) (Some (record { node = node; value = w }))

record ScopesRead (program : Program) (p : Past) (t : Scope) : Type 0 where
  here : HeldRead program p.here t.here
  outer : HeldRead program p.outer t.outer
  outermost : HeldRead program p.outermost t.outermost
  roots : RootsSame p.roots t.statics

first-read : {program : Program} {a c : Option WasAt} {b d : Option Held} → HeldRead program a b → HeldRead program c d → HeldRead program (first_was a c) (first_of b d)
first-read HeldRead.neither h = h
first-read (HeldRead.both r) h = HeldRead.both r

module _ {program : Program} where
  beside : {a : Trees} {p : Past} {t : Scope} {type : Ty} → Stands program a p t type → Beside program a t t type
  beside (Stands.at_block kind may) = Beside.at_block kind may
  beside (Stands.at_root r contains same) = Beside.at_root r contains (λ i. refl)
  beside (Stands.in_field {f} s reads has contains) = Beside.in_field (beside s) (λ steps leads. refl) has contains
  beside (Stands.in_common s reads has c) = Beside.in_common (beside s) (λ steps leads. refl) has c
  beside (Stands.in_array s e) = Beside.in_array (beside s) e
  beside (Stands.in_tail s e) = Beside.in_tail (beside s) e

  inside-read : {p : Past} {t : Scope} (node : TypeId) (was : Was) (w : Tree) → ScopesRead program p t → Reads program node was w → ScopesRead program (past_inside p node was) (inside t node w)
  inside-read node was w s r = record { here = HeldRead.both r; outer = s.here; outermost = first-read s.outermost (HeldRead.both r); roots = s.roots }

  scopes-read : {a : Trees} {p : Past} {t : Scope} {type : Ty} → Stands program a p t type → ScopesRead program p t
  scopes-read (Stands.at_block kind may) = record { here = HeldRead.neither; outer = HeldRead.neither; outermost = HeldRead.neither; roots = λ i. refl }
  scopes-read (Stands.at_root r contains same) = record { here = HeldRead.neither; outer = HeldRead.neither; outermost = HeldRead.neither; roots = same }
  scopes-read (Stands.in_field {node} {was} {w} s r has contains) = inside-read node was w (scopes-read s) r
  scopes-read (Stands.in_common {node} {was} {w} s r has c) = inside-read node was w (scopes-read s) r
  scopes-read (Stands.in_array s e) = scopes-read s
  scopes-read (Stands.in_tail s e) = scopes-read s

  base-read : {x : Option WasAt} {y : Option Held} → HeldRead program x y → (steps : List (List ℕ)) → ((held : Held) → y ≡ Some held → LeadsToNumber program held.node steps)
      → (x then λ at. was_path program steps (ty.Node at.node None) at.was) ≡ (y then λ held. read_path program steps (ty.Node held.node None) held.value)
  base-read HeldRead.neither steps leads = refl
  base-read (HeldRead.both {node} {was} {w} r) steps leads = r steps (leads (record { node = node; value = w }) refl)

  leaf-read : (p : Past) (t : Scope) → ScopesRead program p t → (path : Way) → LeadsInScope program t path → leaf_was program p path.0 path.1 ≡ leaf_in program t path.0 path.1
  leaf-read p t s (Here, steps) leads = base-read s.here steps leads
  leaf-read p t s (Outer, steps) leads = base-read s.outer steps leads
  leaf-read p t s (Outermost, steps) leads = base-read s.outermost steps leads

  value-read : (p : Past) (t : Scope) (e : Expr) → ScopesRead program p t → IsReadable program t e → value_was program p e ≡ eval_in program t e
  value-read p t e s readable =
      worth-same (leaf_was program p) (leaf_in program t) (root_was p) (root_in t) s.roots e
      (All-weaker (LeadsInScope program t) (λ path. leaf_was program p path.0 path.1 ≡ leaf_in program t path.0 path.1) (λ path. leaf-read p t s path) (paths_of e) readable.leads)

module _ (program : Program) (settled : Settled program) (a : Trees) where
  -- so lengths are the same
  pub count-read : (p : Past) (t : Scope) (type elem : Ty) (len : Expr) → Stands program a p t type → out-Ty type ≡ part.Tail len elem → value_was program p len ≡ eval_in program t len
  count-read p t type elem len s e = value-read p t len (scopes-read s) (count-leads program settled a (beside s) elem len e)

  -- and the values that say which member of a union is active
  pub desc-read : (p : Past) (t : Scope) (node : TypeId) (desc : Option Expr) (was : Was) (w : Tree) (x : Structure) → Stands program a p t (ty.Node node desc) → Reads program node was w → HasStructure program node x → x.is_union ≡ true
      → desc_was program (past_inside p node was) desc ≡ desc_value program (inside t node w) desc
  desc-read p t node None was w x s r has union = refl
  desc-read p t node (Some e) was w x s r has union =
      value-read (past_inside p node was) (inside t node w) e (inside-read node was w (scopes-read s) r) (desc-known program settled a (beside s) node x e has union (innermost-node node (Some e)) w)
