-- Whether what is a leaf suits its place is known, so that what is not refused there suits it.
use Rattle.std.proofs.Common.{◌≡◌, ℕ, Bool, true, false, IsTrue, List, refl, ap, subst, Option, Some, None, ◌⊎◌, inl, inr}
use Rattle.std.specs.Prelude.{◌||◌, ◌==◌}
use Rattle.std.proofs.lemmas.Bool.{eqb-true, eqb-false}
use Rattle.gt_types.specs.declared.types.TypeId.{TypeId}
use Rattle.gt_types.specs.declared.types.Ty.{Ty}
use Rattle.gt_types.specs.declared.program.Program.{Program}
use Rattle.gt_types.specs.Shapes.{is_number, is_pointer}
use Rattle.gt_script.specs.declared.command.Given.{Given}
use Rattle.gt_script.specs.declared.command.Given.TheVariants as given
use Rattle.gt_tree.specs.Trees.{Tree}
use Rattle.gt_tree.specs.Blocks.{Kind, Nodes, Pointers, Strings, Chars, Raw}
use Rattle.gt_tree.specs.Scopes.{Typed}
use Rattle.gt_tree.proofs.PathBits.{some-same}
use Rattle.gt_graph.specs.Objects.{Object, object_of}
use Rattle.gt_graph.specs.Changes.{Owner, Statics, Of}
use Rattle.gt_next.specs.States.{State, Variables, meaning}
use Rattle.gt_next.specs.Spots.{Spot, Value, standing_at}
use Rattle.gt_next.specs.Leaves.{is_word_type, kind_named, Suits, IsLeaf, IsFixed, IsSuited}

-- ---- facts that are known to hold or not to hold

abbrev Known : Type 0 → Type 0
Known P = P ⊎ ¬ P

known-true : (b : Bool) → Known (IsTrue b)
known-true true = inl refl
known-true false = inr (λ e. cc)

known-node : (a b : TypeId) → Known (a ≡ b)
known-node a b = go (a.0 == b.0) refl
  where
    go : (same : Bool) → (a.0 == b.0) ≡ same → Known (a ≡ b)
    go true e = inl (ap (λ n. let node : TypeId = record { 0 = n } in node) (eqb-true a.0 b.0 e))
    go false e = inr (λ same. eqb-false a.0 b.0 e (ap (λ n. n.0) same))

-- ---- kinds

known-nodes : (a b : TypeId) → Known (Nodes a ≡ Nodes b)
known-nodes a b = go (known-node a b)
  where
    go : Known (a ≡ b) → Known (Nodes a ≡ Nodes b)
    go (inl e) = inl (subst (λ x. Nodes a ≡ Nodes x) e refl)
    go (inr other) = inr (λ e. let same : a ≡ b = cc in other same)

known-pointers : (a b : TypeId) → Known (Pointers a ≡ Pointers b)
known-pointers a b = go (known-node a b)
  where
    go : Known (a ≡ b) → Known (Pointers a ≡ Pointers b)
    go (inl e) = inl (subst (λ x. Pointers a ≡ Pointers x) e refl)
    go (inr other) = inr (λ e. let same : a ≡ b = cc in other same)

known-kind : (a b : Kind) → Known (a ≡ b)
known-kind (Nodes a) (Nodes b) = known-nodes a b
known-kind (Pointers a) (Pointers b) = known-pointers a b
known-kind Strings Strings = inl refl
known-kind Chars Chars = inl refl
known-kind Raw Raw = inl refl
known-kind (Nodes a) b = inr (λ e. cc)
known-kind (Pointers a) b = inr (λ e. cc)
known-kind Strings b = inr (λ e. cc)
known-kind Chars b = inr (λ e. cc)
known-kind Raw b = inr (λ e. cc)

known-named : (a : Option Kind) (b : Kind) → Known (a ≡ Some b)
known-named None b = inr (λ e. cc)
known-named (Some a) b = go (known-kind a b)
  where
    go : Known (a ≡ b) → Known (Some a ≡ Some b)
    go (inl e) = inl (subst (λ x. Some a ≡ Some x) e refl)
    go (inr other) = inr (λ e. let same : a ≡ b = cc in other same)

-- ---- characters

module _ (s : State) where
  known-fixed : (at : Spot) → Known (IsFixed s at)
  known-fixed at = by at.owner refl
    where
      of : (id : ℕ) (o : Object) → at.owner ≡ Of id → object_of s.heap.graph.objects id ≡ Some o → Known (o.kind ≡ Chars) → Known (IsFixed s at)
      of id o owner there (inl chars) = inl (id, o, owner, there, chars)
      of id o owner there (inr other) = inr (λ h. let same : h.0 ≡ id = let its = h.2 in cc in
          other (subst (λ x. x.kind ≡ Chars) (some-same (object_of s.heap.graph.objects id) h.1 o (subst (λ i. object_of s.heap.graph.objects i ≡ Some h.1) same h.3) there) h.4))

      found : (id : ℕ) → at.owner ≡ Of id → (o : Option Object) → object_of s.heap.graph.objects id ≡ o → Known (IsFixed s at)
      found id owner None none = inr (λ h. let same : h.0 ≡ id = let its = h.2 in cc in let there = subst (λ i. object_of s.heap.graph.objects i ≡ Some h.1) same h.3 in cc)
      found id owner (Some o) there = of id o owner there (known-kind o.kind Chars)

      by : (owner : Owner) → at.owner ≡ owner → Known (IsFixed s at)
      by Statics e = inr (λ h. let its = h.2 in cc)
      by (Of id) e = found id e (object_of s.heap.graph.objects id) refl

-- ---- values

or-left : (a b : Bool) → IsTrue a → IsTrue (a || b)
or-left true b h = refl
or-left false b h = absurd (cc)

or-right : (a b : Bool) → IsTrue b → IsTrue (a || b)
or-right true b h = refl
or-right false b h = h

module _ (objects : List Object) (variables : Variables) where
  suits-null : {type : Ty} → Suits objects variables type given.Null → IsTrue (is_pointer type)
  suits-null (Suits.null is) = is

  suits-variable : {type : Ty} {name : List ℕ} → Suits objects variables type (given.Var name)
      → (id : ℕ) × (o : Object) × (meaning variables name ≡ Some id) × (object_of objects id ≡ Some o) × (kind_named type ≡ Some o.kind)
  suits-variable (Suits.a_variable {id} {o} m there named) = (id, o, m, there, named)

  null-suits : (type : Ty) → Known (IsTrue (is_pointer type)) → Known (Suits objects variables type given.Null)
  null-suits type (inl is) = inl (Suits.null is)
  null-suits type (inr other) = inr (λ h. other (suits-null h))

  variable-suits : (type : Ty) (name : List ℕ) (id : ℕ) → meaning variables name ≡ Some id → Known (Suits objects variables type (given.Var name))
  variable-suits type name id m = found (object_of objects id) refl
    where
      its : (h : Suits objects variables type (given.Var name)) → object_of objects id ≡ Some (suits-variable h).1
      its h = let v = suits-variable h in subst (λ i. object_of objects i ≡ Some v.1) (some-same (meaning variables name) v.0 id v.2 m) v.3

      of : (o : Object) → object_of objects id ≡ Some o → Known (kind_named type ≡ Some o.kind) → Known (Suits objects variables type (given.Var name))
      of o there (inl named) = inl (Suits.a_variable m there named)
      of o there (inr other) = inr (λ h. other (subst (λ x. kind_named type ≡ Some x.kind) (some-same (object_of objects id) (suits-variable h).1 o (its h) there) (suits-variable h).4))

      found : (o : Option Object) → object_of objects id ≡ o → Known (Suits objects variables type (given.Var name))
      found None none = inr (λ h. let there = its h in cc)
      found (Some o) there = of o there (known-named (kind_named type) o.kind)

  leaf-suits : {type : Ty} {value : Given} {leaf : Tree} → IsLeaf variables type value leaf → Known (Suits objects variables type value)
  leaf-suits {type} (IsLeaf.a_number is) = inl (Suits.a_number (or-left (is_number type) (is_word_type type) is))
  leaf-suits {type} (IsLeaf.a_word is content small) = inl (Suits.a_number (or-right (is_number type) (is_word_type type) is))
  leaf-suits {type} IsLeaf.null = null-suits type (known-true (is_pointer type))
  leaf-suits {type} (IsLeaf.a_variable {name} {id} m) = variable-suits type name id m

-- a value that is a leaf at a spot, and is not unsuited there, is suited
pub suited : (program : Program) (s : State) (at : Spot) (t : Typed) (value : Given) (leaf : Tree) → standing_at program s.heap.graph at ≡ Some (Value t) → IsLeaf s.variables t.type value leaf
    → ¬ (¬ IsSuited program s at value) → IsSuited program s at value
suited program s at t value leaf stands is not = go (leaf-suits s.heap.graph.objects s.variables is) (known-fixed s at)
  where
    typed-same : (x y : Typed) → Value x ≡ Value y → x ≡ y
    typed-same x y e = cc

    same : (x : Typed) → standing_at program s.heap.graph at ≡ Some (Value x) → x ≡ t
    same x there = typed-same x t (some-same (standing_at program s.heap.graph at) (Value x) (Value t) there stands)

    go : Known (Suits s.heap.graph.objects s.variables t.type value) → Known (IsFixed s at) → IsSuited program s at value
    go (inl suits) (inr free) = (t, stands, suits, free)
    go (inl suits) (inl fixed) = absurd (not (λ h. h.3 fixed))
    go (inr other) fixed = absurd (not (λ h. other (subst (λ x. Suits s.heap.graph.objects s.variables x.type value) (same h.0 h.1) h.2)))
