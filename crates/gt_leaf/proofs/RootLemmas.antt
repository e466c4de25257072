-- The roots that are collected are those that the expressions of the program name.
use Rattle.std.proofs.Common.{◌≡◌, ℕ, List, [], ◌∷◌, ◌++◌, sym, subst, ◌⊎◌, arith, Option, Some, None, inl, inr}
use Rattle.std.specs.Prelude.{◌↔◌, Contains, flat_map, fold, option_to_list, nat_eq}
use Rattle.std.proofs.lemmas.Bool.Decides.{Decides-eqb}
use Rattle.gt_types.specs.declared.expressions.Expr.{Expr, roll-Expr}
use Rattle.gt_types.specs.declared.expressions.Expr.TheFolds.{fold-roll-Expr, ind-Expr, map-Expr}
use Rattle.gt_types.specs.declared.expressions.Expr.TheOpen as node
use Rattle.gt_types.specs.declared.expressions.Expr.TheOpen.{Expr-F}
use Rattle.gt_types.specs.declared.types.PtrKind.{PtrKind}
use Rattle.gt_types.specs.declared.types.PtrKind.TheVariants as kind
use Rattle.gt_types.specs.declared.types.Ty.{Ty, roll-Ty}
use Rattle.gt_types.specs.declared.types.Ty.TheFolds.{fold-roll-Ty, ind-Ty, map-Ty}
use Rattle.gt_types.specs.declared.types.Ty.TheOpen as part
use Rattle.gt_types.specs.declared.types.Ty.TheOpen.{Ty-F}
use Rattle.gt_types.specs.declared.program.Field.{Field}
use Rattle.gt_types.specs.declared.program.Structure.{Structure}
use Rattle.gt_types.specs.declared.program.Root.{Root}
use Rattle.gt_types.specs.declared.program.Program.{Program}
use Rattle.gt_types.specs.Paths.{roots_of, roots_step}
use Rattle.gt_leaf.specs.Collecting.{with_place, with_expr, expr_step, with_option, with_kind, with_type, type_step, with_structure, roots_of_all}
use Rattle.gt_leaf.specs.Unread.{IsExpressionOf, IsReadRoot, lengths_of, expressions_of, expressions_step}
use Rattle.gt_leaf.proofs.Adding.{Adds, adds-none, adds-both, adds-same}
use Rattle.gt_leaf.proofs.Alongs.{Contains-only}
use Rattle.gt_leaf.proofs.Members.{nothing, first, first-or-later, added, contains-append, contains-flat}

-- ---- one expression

only-one : (i j : ℕ) → (i ≡ j) ↔ Contains (i ∷ []) j
only-one i j = (λ e. (0, omega arith, e), λ c. elim (first-or-later i j [] c) [ inl e ↦ e | inr none ↦ absurd (nothing j none) ])

adds-root : (i : ℕ) → Adds (λ k. with_place k i) (λ j. i ≡ j)
adds-root i = record { each = λ k j. added (nat_eq i) k i j (λ z e. sym ((Decides-eqb i z).0 e)) }

-- an expression adds the roots that it names
abbrev Names : List ℕ → (List ℕ → List ℕ) → Type 0
Names roots g = Adds g (Contains roots)

names-none : Names [] (λ k. k)
names-none = adds-none nothing

names-both : {f g : List ℕ → List ℕ} (roots others : List ℕ) → Names roots f → Names others g → Names (roots ++ others) (λ k. g (f k))
names-both roots others p q = adds-both p q (contains-append roots others)

abbrev IsReadAll : Expr → Type 0
IsReadAll e = Names (roots_of e) (with_expr e)

abbrev first-of : Expr-F ((e : Expr) × IsReadAll e) → Expr-F Expr
first-of y = map-Expr ((e : Expr) × IsReadAll e) Expr (λ e. e.0) y

expr-layer : (y : Expr-F ((e : Expr) × IsReadAll e)) → Names (roots_step (map-Expr Expr (List ℕ) roots_of (first-of y))) (expr_step (map-Expr Expr (List ℕ → List ℕ) with_expr (first-of y)))
expr-layer (node.Int n) = names-none
expr-layer (node.Path base steps) = names-none
expr-layer (node.Root i) = adds-same (adds-root i) (only-one i)
expr-layer (node.One op a) = a.1
expr-layer (node.Two op a b) = names-both (roots_of a.0) (roots_of b.0) a.1 b.1
expr-layer (node.Cond t a b) = names-both (roots_of t.0 ++ roots_of a.0) (roots_of b.0) (names-both (roots_of t.0) (roots_of a.0) t.1 a.1) b.1

names-same : (roots places : List ℕ) (f g : List ℕ → List ℕ) → roots ≡ places → f ≡ g → Names roots f → Names places g
names-same roots places f g e h p = subst (λ x. Names places x) h (subst (λ x. Names x f) e p)

expr-whole : (y : Expr-F ((e : Expr) × IsReadAll e)) → IsReadAll (roll-Expr (first-of y))
expr-whole y =
    names-same (roots_step (map-Expr Expr (List ℕ) roots_of (first-of y))) (roots_of (roll-Expr (first-of y))) (expr_step (map-Expr Expr (List ℕ → List ℕ) with_expr (first-of y))) (with_expr (roll-Expr (first-of y)))
    (sym (fold-roll-Expr (List ℕ) roots_step (first-of y))) (sym (fold-roll-Expr (List ℕ → List ℕ) expr_step (first-of y))) (expr-layer y)

reads-expr : (e : Expr) → IsReadAll e
reads-expr = ind-Expr IsReadAll (λ x y is. subst (λ z. IsReadAll (roll-Expr z)) is (expr-whole y))

-- ---- several expressions

-- some of these expressions names the root
abbrev RootOf : List Expr → ℕ → Type 0
RootOf es i = (e : Expr) × Contains es e × Contains (roots_of e) i

abbrev ReadsOf : List Expr → (List ℕ → List ℕ) → Type 0
ReadsOf es g = Adds g (RootOf es)

some-none : {P : Expr → Type 0} → ¬ ((e : Expr) × Contains [] e × P e)
some-none (e, c, p) = nothing e c

some-one : (P : Expr → Type 0) (e : Expr) → P e ↔ ((d : Expr) × Contains (e ∷ []) d × P d)
some-one P e = (λ p. (e, first e [], p), back)
  where
    back : (d : Expr) × Contains (e ∷ []) d × P d → P e
    back (d, c, p) = elim (first-or-later e d [] c) [ inl is ↦ subst P (sym is) p | inr none ↦ absurd (nothing d none) ]

some-both : (P : Expr → Type 0) (xs ys : List Expr) → ((e : Expr) × Contains (xs ++ ys) e × P e) ↔ (((e : Expr) × Contains xs e × P e) ⊎ ((e : Expr) × Contains ys e × P e))
some-both P xs ys = (there, back)
  where
    there : (e : Expr) × Contains (xs ++ ys) e × P e → ((e : Expr) × Contains xs e × P e) ⊎ ((e : Expr) × Contains ys e × P e)
    there (e, c, p) = elim ((contains-append xs ys e).0 c) [ inl d ↦ inl (e, d, p) | inr d ↦ inr (e, d, p) ]

    back : ((e : Expr) × Contains xs e × P e) ⊎ ((e : Expr) × Contains ys e × P e) → (e : Expr) × Contains (xs ++ ys) e × P e
    back (inl (e, c, p)) = (e, (contains-append xs ys e).1 (inl c), p)
    back (inr (e, c, p)) = (e, (contains-append xs ys e).1 (inr c), p)

of-none : ReadsOf [] (λ k. k)
of-none = adds-none (λ i. some-none)

of-one : (e : Expr) → ReadsOf (e ∷ []) (with_expr e)
of-one e = adds-same (reads-expr e) (λ i. some-one (λ d. Contains (roots_of d) i) e)

of-both : {f g : List ℕ → List ℕ} (xs ys : List Expr) → ReadsOf xs f → ReadsOf ys g → ReadsOf (xs ++ ys) (λ k. g (f k))
of-both xs ys p q = adds-both p q (λ i. some-both (λ d. Contains (roots_of d) i) xs ys)

of-option : (o : Option Expr) → ReadsOf (option_to_list o) (with_option o)
of-option None = of-none
of-option (Some e) = of-one e

of-kind : (k : PtrKind) → ReadsOf (lengths_of k) (with_kind k)
of-kind kind.Plain = of-none
of-kind (kind.Length length) = of-one length
of-kind kind.Atomic = of-none
of-kind kind.Undef = of-none

-- ---- the expressions in a type

abbrev IsReadType : Ty → Type 0
IsReadType t = ReadsOf (expressions_of t) (with_type t)

abbrev first-type : Ty-F ((t : Ty) × IsReadType t) → Ty-F Ty
first-type y = map-Ty ((t : Ty) × IsReadType t) Ty (λ t. t.0) y

type-layer : (y : Ty-F ((t : Ty) × IsReadType t)) → ReadsOf (expressions_step (map-Ty Ty (List Expr) expressions_of (first-type y))) (type_step (map-Ty Ty (List ℕ → List ℕ) with_type (first-type y)))
type-layer (part.Num scalar) = of-none
type-layer (part.Bits unit width) = of-none
type-layer (part.Opaque size align) = of-none
type-layer (part.Str length) = of-option length
type-layer (part.Ptr target kind reorder) = of-kind kind
type-layer (part.Node node desc) = of-option desc
type-layer (part.Arr n elem) = elem.1
type-layer (part.Tail length elem) = of-both (length ∷ []) (expressions_of elem.0) (of-one length) elem.1

of-same : (xs ys : List Expr) (f g : List ℕ → List ℕ) → xs ≡ ys → f ≡ g → ReadsOf xs f → ReadsOf ys g
of-same xs ys f g e h p = subst (λ x. ReadsOf ys x) h (subst (λ x. ReadsOf x f) e p)

type-whole : (y : Ty-F ((t : Ty) × IsReadType t)) → IsReadType (roll-Ty (first-type y))
type-whole y =
    of-same (expressions_step (map-Ty Ty (List Expr) expressions_of (first-type y))) (expressions_of (roll-Ty (first-type y))) (type_step (map-Ty Ty (List ℕ → List ℕ) with_type (first-type y))) (with_type (roll-Ty (first-type y)))
    (sym (fold-roll-Ty (List Expr) expressions_step (first-type y))) (sym (fold-roll-Ty (List ℕ → List ℕ) type_step (first-type y))) (type-layer y)

of-type : (t : Ty) → IsReadType t
of-type = ind-Ty IsReadType (λ x y is. subst (λ z. IsReadType (roll-Ty z)) is (type-whole y))

-- ---- those of a program

of-each : {X : Type 0} (es : X → List Expr) (g : X → List ℕ → List ℕ) → ((x : X) → ReadsOf (es x) (g x)) → (xs : List X) → ReadsOf (flat_map es xs) (λ k. fold (λ k x. g x k) k xs)
of-each es g all [] = of-none
of-each es g all (x ∷ xs) = of-both (es x) (flat_map es xs) (all x) (of-each es g all xs)

abbrev field_exprs : Field → List Expr
field_exprs f = expressions_of f.ty

abbrev structure_exprs : Structure → List Expr
structure_exprs s = flat_map field_exprs s.fields ++ option_to_list s.desc

abbrev root_exprs : Root → List Expr
root_exprs r = expressions_of r.ty

abbrev all_exprs : Program → List Expr
all_exprs program = flat_map structure_exprs program.structures ++ flat_map root_exprs program.roots

of-structure : (s : Structure) → ReadsOf (structure_exprs s) (λ k. with_structure k s)
of-structure s = of-both (flat_map field_exprs s.fields) (option_to_list s.desc) (of-each field_exprs (λ f. with_type f.ty) (λ f. of-type f.ty) s.fields) (of-option s.desc)

of-program : (program : Program) → ReadsOf (all_exprs program) (roots_of_all program)
of-program program =
    of-both (flat_map structure_exprs program.structures) (flat_map root_exprs program.roots) (of-each structure_exprs (λ s k. with_structure k s) of-structure program.structures)
    (of-each root_exprs (λ r. with_type r.ty) (λ r. of-type r.ty) program.roots)

structure-known : (program : Program) (s : Structure) (e : Expr) → Contains program.structures s → Contains (structure_exprs s) e → IsExpressionOf program e
structure-known program s e there c = elim ((contains-append (flat_map field_exprs s.fields) (option_to_list s.desc) e).0 c) [
  | inl d ↦ let f = (contains-flat field_exprs s.fields e).0 d in IsExpressionOf.of_field s f.0 there f.1 f.2
  | inr d ↦ IsExpressionOf.of_desc s there (Contains-only s.desc e d)
]

all-known : (program : Program) (e : Expr) → Contains (all_exprs program) e → IsExpressionOf program e
all-known program e c = elim ((contains-append (flat_map structure_exprs program.structures) (flat_map root_exprs program.roots) e).0 c) [
  | inl d ↦ let s = (contains-flat structure_exprs program.structures e).0 d in structure-known program s.0 e s.1 s.2
  | inr d ↦ let r = (contains-flat root_exprs program.roots e).0 d in IsExpressionOf.of_root r.0 r.1 r.2
]

in-structures : (program : Program) (s : Structure) (e : Expr) → Contains program.structures s → Contains (structure_exprs s) e → Contains (all_exprs program) e
in-structures program s e there c =
    (contains-append (flat_map structure_exprs program.structures) (flat_map root_exprs program.roots) e).1 (inl ((contains-flat structure_exprs program.structures e).1 (s, there, c)))

known-all : (program : Program) (e : Expr) → IsExpressionOf program e → Contains (all_exprs program) e
known-all program e (IsExpressionOf.of_field s f there has c) =
    in-structures program s e there ((contains-append (flat_map field_exprs s.fields) (option_to_list s.desc) e).1 (inl ((contains-flat field_exprs s.fields e).1 (f, has, c))))
known-all program e (IsExpressionOf.of_desc s there is) =
    in-structures program s e there ((contains-append (flat_map field_exprs s.fields) (option_to_list s.desc) e).1 (inr (subst (λ o. Contains (option_to_list o) e) (sym is) (first e []))))
known-all program e (IsExpressionOf.of_root r there c) =
    (contains-append (flat_map structure_exprs program.structures) (flat_map root_exprs program.roots) e).1 (inr ((contains-flat root_exprs program.roots e).1 (r, there, c)))

-- the roots that are collected are those that expressions name
pub roots-read : (program : Program) (i : ℕ) → Contains (roots_of_all program []) i ↔ IsReadRoot program i
roots-read program i =
    let all = (of-program program).each [] i in
    (λ c. elim (all.0 c) [ inl none ↦ absurd (nothing i none) | inr (e, d, a) ↦ (e, all-known program e d, a) ], λ (e, is, a). all.1 (inr (e, known-all program e is, a)))
