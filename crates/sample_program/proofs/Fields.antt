-- Each field of the sample keeps the rules.
use Rattle.std.proofs.Common.{◌≡◌, ℕ, ◌+◌, Bool, true, false, ◌&&◌, nat_le, List, [], ◌∷◌, ap, sym, subst, ◌∙◌, arith, refl}
use Rattle.std.specs.Prelude.{Some, None, IfSome, slice_get, Contains, codes}
use Rattle.std.proofs.lemmas.List.Elements.{All-from_recursion, All-contains}
use Rattle.gt_types.specs.declared.limits.TheConstants.{MAX_DIMENSIONS}
use Rattle.gt_types.specs.declared.expressions.Base.{Base}
use Rattle.gt_types.specs.declared.expressions.Expr.{Expr}
use Rattle.gt_types.specs.declared.types.TypeId.{TypeId}
use Rattle.gt_types.specs.declared.types.Width.TheVariants.{W2}
use Rattle.gt_types.specs.declared.types.Scalar.TheVariants as scalar
use Rattle.gt_types.specs.declared.types.Target.TheVariants as target
use Rattle.gt_types.specs.declared.types.PtrKind.TheVariants as kind
use Rattle.gt_types.specs.declared.types.Ty.{Ty}
use Rattle.gt_types.specs.declared.types.Ty.TheVariants as ty
use Rattle.gt_types.specs.declared.program.Field.{Field}
use Rattle.gt_types.specs.declared.program.Structure.{Structure}
use Rattle.gt_types.specs.declared.types.Ty.TheOpen as part
use Rattle.gt_types.specs.declared.types.Ty.TheFolds.{fold-roll-Ty}
use Rattle.gt_types.specs.Names.{IsName, is_name}
use Rattle.gt_types.specs.Shapes.{innermost, is_number, is_field_type, field_type_at, may_repeat, is_element, is_element_step, dimensions, dimensions_step, count_of}
use Rattle.gt_types.specs.Unions.{IsCommon}
use Rattle.gt_types.specs.Settled.{NamesStanding, NamesSortable, NamesDescribed, NamesFit, IsField}
use Rattle.gt_types.specs.Paths.{PathFits, DescPathFits, MayStep, last_step, next_step, LeadsToNumber, AreSteps, IsOption, IsFieldDesc}
use Rattle.sample_program.specs.Sample.{sample, structures, base, wide, lone, node, path, held, member, field}
use Rattle.sample_program.proofs.Lists.{fact_of, both}
use Rattle.sample_program.proofs.Types.{element-num, element-ptr, element-node, dim-num, dim-ptr, dim-node}
use Rattle.sample_program.proofs.Facts.{HoldsAsTold, IsTold, all_told}
use Rattle.sample_program.proofs.TailTypes.{keeps, keeps_tails}
use Rattle.sample_program.proofs.Structures.{path-operators, path-roots, one-path, lone_common}

-- ---- what a type names

-- what holds of the innermost type
pub names : (good : TypeId → Structure → Expr → Type 0) (type inner : Ty) → innermost type ≡ inner → NamesStanding sample inner → NamesSortable sample inner
    → NamesDescribed sample good inner → NamesFit sample good type
names good type inner is standing sortable described = record {
  standing = subst (NamesStanding sample) (sym is) standing;
  sortable = subst (NamesSortable sample) (sym is) sortable;
  described = subst (NamesDescribed sample good) (sym is) described;
}

repeats : (e : Ty) (d : ℕ) → is_element e ≡ true → dimensions e ≡ d → nat_le (1 + d) MAX_DIMENSIONS ≡ true → may_repeat e ≡ true
repeats e d element dim few = ap (λ b. b && nat_le (1 + dimensions e) MAX_DIMENSIONS) element ∙ ap (λ n. nat_le (1 + n) MAX_DIMENSIONS) dim ∙ few

element-arr : (n : ℕ) (e : Ty) → is_element (ty.Arr n e) ≡ is_element_step (part.Arr n (is_element e))
element-arr n e = ap is_element (sym (ty.rolls-Arr n e)) ∙ fold-roll-Ty Bool is_element_step (part.Arr n e)

dim-arr : (n : ℕ) (e : Ty) → dimensions (ty.Arr n e) ≡ 1 + dimensions e
dim-arr n e = ap dimensions (sym (ty.rolls-Arr n e)) ∙ fold-roll-Ty ℕ dimensions_step (part.Arr n e)

pub tail-type : (c : Expr) (e : Ty) → may_repeat e ≡ true → is_field_type (ty.Tail c e) ≡ true
tail-type c e again = ap field_type_at (ty.outs-Tail c e) ∙ again

short : Ty
short = ty.Num (scalar.Int W2 true)

pub grid-type : is_field_type (ty.Arr 2 (ty.Arr 3 (ty.Num (scalar.Int W2 true)))) ≡ true
grid-type =
    let e = ty.Arr 3 (ty.Num (scalar.Int W2 true)) in
    let element : is_element e ≡ true = element-arr 3 (ty.Num (scalar.Int W2 true)) ∙ ap (λ b. is_element_step (part.Arr 3 b)) (element-num (scalar.Int W2 true)) in
    let dim : dimensions e ≡ 1 = dim-arr 3 (ty.Num (scalar.Int W2 true)) ∙ ap (λ n. 1 + n) (dim-num (scalar.Int W2 true)) in
    ap field_type_at (ty.outs-Arr 2 e) ∙ repeats e 1 element dim refl

pub labels-type : is_field_type (ty.Arr 2 (held 17)) ≡ true
labels-type = ap field_type_at (ty.outs-Arr 2 (held 17)) ∙ repeats (held 17) 0 (element-node (node 17) None) (dim-node (node 17) None) refl

pub pointers-type : (c : Expr) → is_field_type (ty.Tail c (ty.Ptr (Some (target.Node (node 0))) kind.Plain false)) ≡ true
pointers-type c =
    tail-type c (ty.Ptr (Some (target.Node (node 0))) kind.Plain false)
    (repeats (ty.Ptr (Some (target.Node (node 0))) kind.Plain false) 0 (element-ptr (node 0)) (dim-ptr (Some (target.Node (node 0))) kind.Plain false) refl)

pub shorts-type : (c : Expr) → is_field_type (ty.Tail c (ty.Num (scalar.Int W2 true))) ≡ true
shorts-type c = tail-type c (ty.Num (scalar.Int W2 true)) (repeats (ty.Num (scalar.Int W2 true)) 0 (element-num (scalar.Int W2 true)) (dim-num (scalar.Int W2 true)) refl)

-- ---- a field

pub a_field : (i : ℕ) (s : Structure) (f : Field) → slice_get structures i ≡ Some s → Contains s.fields f → (is_name f.name && keeps s f) ≡ true → is_field_type f.ty ≡ true
    → NamesFit sample (λ union u e. IsFieldDesc sample (node i) union e) f.ty → IfSome (count_of f.ty) (IsOption sample (node i)) → IsField sample (node i) s f
a_field i s f has c tests shape names count =
    let parts = both (is_name f.name) (keeps s f) tests in
    let told = All-contains HoldsAsTold s.fields f (fact_of IsTold structures all_told i s has).held c in
    record { name = parts.0; shape = shape; names = names; count = count; tails = keeps_tails s f told parts.1 }

-- ---- paths

a_step : (s : Structure) (f : Field) → Contains s.fields f → s.is_union ≡ false → MayStep sample s f
a_step s f c struct = record { there = c; common = λ u. absurd (cc) }

-- from a struct to a field of its own, which is an int
pub to_int : (i : ℕ) (s : Structure) (name : List ℕ) (k : ℕ) (type : Ty) → slice_get structures i ≡ Some s → s.is_union ≡ false → slice_get s.fields k ≡ Some (field name type) → Contains s.fields (field name type) → is_number type ≡ true
    → LeadsToNumber sample (node i) (name ∷ [])
to_int i s name k type has struct at c number = (type, last_step {s = s} {f = field name type} has refl (a_step s (field name type) c struct), number)

-- from a union that begins with base to its kind
pub to_kind : (i : ℕ) (s : Structure) → slice_get structures i ≡ Some s → Contains s.fields (member (codes "b") (held 1) 1) → IsCommon sample s (node 1)
    → LeadsToNumber sample (node i) (codes "b" ∷ codes "kind" ∷ [])
to_kind i s has c common = (
  ty.Num (scalar.Int W2 true),
  next_step {s = s} {f = member (codes "b") (held 1) 1} {desc = None} has refl (record { there = c; common = λ u. (node 1, None, refl, common) }) refl
      (last_step {s = base} {f = field (codes "kind") (ty.Num (scalar.Int W2 true))} refl refl (a_step base (field (codes "kind") (ty.Num (scalar.Int W2 true))) (0, omega arith, refl) refl)),
  refl,
)

-- from a struct that begins with base to its kind
pub to_kind_of : (i : ℕ) (s : Structure) → slice_get structures i ≡ Some s → s.is_union ≡ false → Contains s.fields (field (codes "b") (held 1)) → LeadsToNumber sample (node i) (codes "b" ∷ codes "kind" ∷ [])
to_kind_of i s has struct c = (
  ty.Num (scalar.Int W2 true),
  next_step {s = s} {f = field (codes "b") (held 1)} {desc = None} has refl (a_step s (field (codes "b") (held 1)) c struct) refl
      (last_step {s = base} {f = field (codes "kind") (ty.Num (scalar.Int W2 true))} refl refl (a_step base (field (codes "kind") (ty.Num (scalar.Int W2 true))) (0, omega arith, refl) refl)),
  refl,
)

-- from lone to the kind of its wide
pub to_lone_kind : LeadsToNumber sample (node 19) (codes "w" ∷ codes "b" ∷ codes "kind" ∷ [])
to_lone_kind =
    let rest = to_kind_of 2 wide refl refl (0, omega arith, refl) in
    (rest.0, next_step {s = lone} {f = member (codes "w") (held 2) 1} {desc = None} refl refl (record { there = (0, omega arith, refl); common = λ u. (node 2, None, refl, lone_common) }) refl rest.1, rest.2)

-- an option that is a path of a few names
pub an_option : (i : ℕ) (b : Base) (steps : List (List ℕ)) → AreSteps steps → PathFits sample (node i) b steps → IsOption sample (node i) (path b steps)
an_option i b steps are fits =
    record {
      operators = path-operators b steps;
      no_roots = path-roots b steps;
      steps = one-path (λ p. AreSteps p.1) b steps are;
      paths = one-path (λ p. PathFits sample (node i) p.0 p.1) b steps fits;
    }

pub a_desc : (i u : ℕ) (b : Base) (steps : List (List ℕ)) → AreSteps steps → DescPathFits sample (node i) (node u) b steps → IsFieldDesc sample (node i) (node u) (path b steps)
a_desc i u b steps are fits =
    record {
      operators = path-operators b steps;
      no_roots = path-roots b steps;
      steps = one-path (λ p. AreSteps p.1) b steps are;
      paths = one-path (λ p. DescPathFits sample (node i) (node u) p.0 p.1) b steps fits;
    }

pub one_name : (name : List ℕ) → is_name name ≡ true → AreSteps (name ∷ [])
one_name name is = (λ e. absurd (cc), All-from_recursion IsName (name ∷ []) (is, tt))

pub two_names : (a b : List ℕ) → is_name a ≡ true → is_name b ≡ true → AreSteps (a ∷ b ∷ [])
two_names a b is also = (λ e. absurd (cc), All-from_recursion IsName (a ∷ b ∷ []) (is, (also, tt)))

pub three_names : (a b c : List ℕ) → is_name a ≡ true → is_name b ≡ true → is_name c ≡ true → AreSteps (a ∷ b ∷ c ∷ [])
three_names a b c is also third = (λ e. absurd (cc), All-from_recursion IsName (a ∷ b ∷ c ∷ []) (is, (also, (third, tt))))
