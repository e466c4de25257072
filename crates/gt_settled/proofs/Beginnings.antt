-- What is stable of the structures that a program has: where one begins with another, and which is the common structure of a union.
use Rattle.std.proofs.Common.{◌≡◌, ◌∙◌, ◌⊎◌, inl, inr, ℕ, zero, suc, Bool, true, false, List, [], ◌∷◌, Option, Some, None, refl, sym, ap, subst, arith}
use Rattle.std.specs.Prelude.{Contains, slice_get}
use Rattle.std.proofs.lemmas.Bool.{cases_eq}
use Rattle.std.proofs.lemmas.Option.{none-some, same_Some}
use Rattle.gt_types.specs.declared.expressions.Expr.{Expr}
use Rattle.gt_types.specs.declared.types.TypeId.{TypeId}
use Rattle.gt_types.specs.declared.types.Ty.{Ty, Arr', Tail'}
use Rattle.gt_types.specs.declared.types.Ty.TheOpen as part
use Rattle.gt_types.specs.declared.types.Ty.TheVariants as ty
use Rattle.gt_types.specs.declared.types.Ty.TheFolds.{fold-roll-Ty}
use Rattle.gt_types.specs.declared.program.Field.{Field}
use Rattle.gt_types.specs.declared.program.Structure.{Structure}
use Rattle.gt_types.specs.declared.program.Program.{Program}
use Rattle.gt_types.specs.Shapes.{innermost, innermost_step}
use Rattle.gt_types.specs.Contains.{HasStructure, ContainsStructure, held_by, itself}
use Rattle.gt_types.specs.Paths.{MayStep}
use Rattle.gt_types.specs.Tails.{tail_of}
use Rattle.gt_types.specs.Unions.{BeginsWith, is_it, by_first, IsPlainStruct, IsCommon}
use Rattle.gt_settled.proofs.Stable.{Stable, same_bool, none_stable}

-- ---- types that are structures

abbrev pub IsNode : Ty → Type 0
IsNode t = (id : TypeId) × (desc : Option Expr) × (t ≡ ty.Node id desc)

pub node_or : (t : Ty) → IsNode t ⊎ ¬ IsNode t
node_or (ty.Node id desc) = inl (id, desc, refl)
node_or (ty.Num scalar) = inr (λ (id, desc, e). cc)
node_or (ty.Bits unit count) = inr (λ (id, desc, e). cc)
node_or (ty.Opaque size align) = inr (λ (id, desc, e). cc)
node_or (ty.Str count) = inr (λ (id, desc, e). cc)
node_or (ty.Ptr target kind reorder) = inr (λ (id, desc, e). cc)
node_or (Arr' n shape elem) = inr (λ (id, desc, e). cc)
node_or (Tail' count shape elem) = inr (λ (id, desc, e). cc)

-- a type that is a structure holds it by value
pub held_node : (id : TypeId) (desc : Option Expr) → held_by (ty.Node id desc) ≡ Some id
held_node id desc = ap itself (ap innermost (sym (ty.rolls-Node id desc)) ∙ fold-roll-Ty Ty innermost_step (part.Node id desc))

-- ---- beginnings

-- a struct whose first field begins with a structure
record ByFirst (program : Program) (outer node : TypeId) : Type 0 where
  s : Structure
  f : Field
  fs : List Field
  there : HasStructure program outer s
  kind : s.is_union ≡ false
  fields : s.fields ≡ f ∷ fs
  rest : BeginsWith program f.ty node

pub same_id : (a b : TypeId) (d e : Option Expr) → ty.Node a d ≡ ty.Node b e → a ≡ b
same_id a b d e is = cc

first_or : (program : Program) {type : Ty} {node : TypeId} → BeginsWith program type node → (outer : TypeId) (desc : Option Expr) → type ≡ ty.Node outer desc
    → (outer ≡ node) ⊎ ByFirst program outer node
first_or program (is_it {node = node} {desc = d}) outer desc e = inl (sym (same_id node outer d desc e))
first_or program (by_first {outer = own} {node = node} {desc = d} {s = s} {f = f} {fs = fs} there struct' fields rest) outer desc e =
    inr (subst (λ n. ByFirst program n node) (same_id own outer d desc e) (record { s = s; f = f; fs = fs; there = there; kind = struct'; fields = fields; rest = rest }))

begins_node : (program : Program) {type : Ty} {node : TypeId} → BeginsWith program type node → IsNode type
begins_node program (is_it {node = node} {desc = desc}) = (node, desc, refl)
begins_node program (by_first {outer = outer} {desc = desc} there struct' fields rest) = (outer, desc, refl)

-- no structure from here on is inside more than so many others
unfoldable pub Shallow : Program → ℕ → TypeId → Type 0
Shallow program zero outer = ⊥
Shallow program (suc n) outer = (inner : TypeId) → ContainsStructure program outer inner → Shallow program n inner

pub no_shallow : (program : Program) (outer : TypeId) → Shallow program 0 outer → ⊥
unfolding Shallow
no_shallow program outer shallow = shallow

pub inside_shallow : (program : Program) (n : ℕ) (outer inner : TypeId) → Shallow program (suc n) outer → ContainsStructure program outer inner → Shallow program n inner
unfolding Shallow
inside_shallow program n outer inner shallow contains = shallow inner contains

pub id_or : (a b : TypeId) → (a ≡ b) ⊎ ¬ (a ≡ b)
id_or a b = elim (cases_eq a.0 b.0) [
  | inl same ↦ inl (ap (λ (n : ℕ). let id : TypeId = record { 0 = n } in id) same)
  | inr other ↦ inr (λ e. other (ap (λ (id : TypeId). id.0) e))
]

module _ (program : Program) where
  -- the first field of a struct that begins with a structure
  module _ (n : ℕ) (below : (type : Ty) (node : TypeId) → ((id : TypeId) (desc : Option Expr) → type ≡ ty.Node id desc → Shallow program n id) → Stable (BeginsWith program type node))
      (outer node : TypeId) (shallow : Shallow program (suc n) outer) (nn : ¬ (¬ ByFirst program outer node)) where
    by_fields : (s : Structure) → HasStructure program outer s → s.is_union ≡ false → (fields : List Field) → s.fields ≡ fields → ByFirst program outer node
    by_fields s there kind [] e = absurd (nn (λ first. let same : s ≡ first.s = same_Some s first.s (sym there ∙ first.there) in
        let gone : [] ≡ first.f ∷ first.fs = sym e ∙ ap (λ (t : Structure). t.fields) same ∙ first.fields in cc))
    by_fields s there kind (f ∷ fs) e = record {
      s = s;
      f = f;
      fs = fs;
      there = there;
      kind = kind;
      fields = e;
      rest = below f.ty node
          (λ id desc is. inside_shallow program n outer id shallow (s, f, there, subst (λ (xs : List Field). Contains xs f) (sym e) (0, omega arith, refl), ap held_by is ∙ held_node id desc))
          (λ no. nn (λ first. let same : s ≡ first.s = same_Some s first.s (sym there ∙ first.there) in
          let here : f ∷ fs ≡ first.f ∷ first.fs = sym e ∙ ap (λ (t : Structure). t.fields) same ∙ first.fields in
          let one : first.f ≡ f = cc in
          no (subst (λ (g : Field). BeginsWith program g.ty node) one first.rest)));
    }

    by_kind : (s : Structure) → HasStructure program outer s → (b : Bool) → s.is_union ≡ b → ByFirst program outer node
    by_kind s there true e = absurd (nn (λ first. let same : s ≡ first.s = same_Some s first.s (sym there ∙ first.there) in
        let never : true ≡ false = sym e ∙ ap (λ (t : Structure). t.is_union) same ∙ first.kind in cc))
    by_kind s there false e = by_fields s there e s.fields refl

    by_structure : (o : Option Structure) → slice_get program.structures outer.0 ≡ o → ByFirst program outer node
    by_structure None e = absurd (nn (λ first. none-some first.s (sym e ∙ first.there)))
    by_structure (Some s) e = by_kind s e s.is_union refl

  at_node : (n : ℕ) → ((type : Ty) (node : TypeId) → ((id : TypeId) (desc : Option Expr) → type ≡ ty.Node id desc → Shallow program n id) → Stable (BeginsWith program type node))
      → (outer node : TypeId) (desc : Option Expr) → Shallow program (suc n) outer → Stable (BeginsWith program (ty.Node outer desc) node)
  at_node n below outer node desc shallow nn = elim (id_or outer node) [
    | inl same ↦ subst (λ (x : TypeId). BeginsWith program (ty.Node outer desc) x) same is_it
    | inr other ↦
        let first = by_structure n below outer node shallow
        (λ no. nn (λ begins. elim (first_or program begins outer desc refl) [ inl same ↦ other same | inr found ↦ no found ]))
        (slice_get program.structures outer.0) refl in
        by_first first.there first.kind first.fields first.rest
  ]

  of_node : (type : Ty) (node : TypeId) → ((id : TypeId) (desc : Option Expr) → type ≡ ty.Node id desc → Stable (BeginsWith program (ty.Node id desc) node)) → Stable (BeginsWith program type node)
  of_node type node stable nn = elim (node_or type) [
    | inl is ↦ subst (λ (t : Ty). BeginsWith program t node) (sym is.2)
        (stable is.0 is.1 is.2 (λ no. nn (λ begins. no (subst (λ (t : Ty). BeginsWith program t node) is.2 begins))))
    | inr other ↦ absurd (nn (λ begins. other (begins_node program begins)))
  ]

  -- whether a type begins with a structure
  pub begins_stable : (n : ℕ) (type : Ty) (node : TypeId) → ((id : TypeId) (desc : Option Expr) → type ≡ ty.Node id desc → Shallow program n id) → Stable (BeginsWith program type node)
  begins_stable zero type node shallow = of_node type node (λ id desc is nn. absurd (no_shallow program id (shallow id desc is)))
  begins_stable (suc n) type node shallow = of_node type node (λ id desc is. at_node n (begins_stable n) id node desc (shallow id desc is))

  -- ---- common structures

  plain_by : (node : TypeId) (o : Option Structure) → slice_get program.structures node.0 ≡ o → Stable (IsPlainStruct program node)
  plain_by node None e nn = absurd (nn (λ (s, there, kind, tail). none-some s (sym e ∙ there)))
  plain_by node (Some t) e nn = (
    t,
    e,
    same_bool t.is_union false
        (λ no. nn (λ (s, there, kind, tail). no (subst (λ (u : Structure). u.is_union ≡ false) (same_Some s t (sym there ∙ e)) kind))),
    none_stable (tail_of t.fields)
        (λ no. nn (λ (s, there, kind, tail). no (subst (λ (u : Structure). tail_of u.fields ≡ None) (same_Some s t (sym there ∙ e)) tail))),
  )

  plain_stable : (node : TypeId) → Stable (IsPlainStruct program node)
  plain_stable node = plain_by node (slice_get program.structures node.0) refl

  module _ (n : ℕ) (shallow : (id : TypeId) → Shallow program n id) where
    common_stable : (s : Structure) (common : TypeId) → ((f : Field) × (desc : Option Expr) × Contains s.fields f × (f.ty ≡ ty.Node common desc)) → Stable (IsCommon program s common)
    common_stable s common member nn = record {
      union = same_bool s.is_union true (λ no. nn (λ c. no c.union));
      member = member;
      plain = plain_stable common (λ no. nn (λ c. no c.plain));
      plain_inside = λ inner inside. plain_stable inner (λ no. nn (λ c. no (c.plain_inside inner inside)));
      begun = λ k d within active. begins_stable n _ common (λ id desc is. shallow id) (λ no. nn (λ c. no (c.begun k d within active)));
    }

    step_common : (s : Structure) (f : Field) → Contains s.fields f → s.is_union ≡ true → IsNode f.ty ⊎ ¬ IsNode f.ty → ¬ (¬ MayStep program s f)
        → (node : TypeId) × (desc : Option Expr) × (f.ty ≡ ty.Node node desc) × IsCommon program s node
    step_common s f there union (inl (id, desc, e)) nn =
        (id, desc, e, common_stable s id (f, desc, there, e) (λ no. nn (λ may. let c = may.common union in no (subst (λ (x : TypeId). IsCommon program s x) (same_id c.0 id c.1 desc (sym c.2 ∙ e)) c.3))))
    step_common s f there union (inr other) nn = absurd (nn (λ may. let c = may.common union in other (c.0, c.1, c.2)))

    -- whether a path may go to a field
    pub step_stable : (s : Structure) (f : Field) → Contains s.fields f → Stable (MayStep program s f)
    step_stable s f there nn = record { there = there; common = λ union. step_common s f there union (node_or f.ty) nn }
