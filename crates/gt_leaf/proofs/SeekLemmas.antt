-- The paths that are added are those of the program's expressions.
use Rattle.std.proofs.Common.{◌≡◌, ℕ, List, [], refl, ap, sym, subst, ◌∙◌, ◌⊎◌, Option, Some, inl, inr}
use Rattle.std.specs.Prelude.{◌↔◌, Contains, filter_map, option_to_list, slice_get}
use Rattle.gt_types.specs.declared.expressions.Base.{Base}
use Rattle.gt_types.specs.declared.expressions.Base.TheVariants.{Here, Outer, Outermost}
use Rattle.gt_types.specs.declared.expressions.Expr.{Expr}
use Rattle.gt_types.specs.declared.types.TypeId.{TypeId}
use Rattle.gt_types.specs.declared.types.Ty.{Ty}
use Rattle.gt_types.specs.declared.types.Ty.TheVariants as ty
use Rattle.gt_types.specs.declared.program.Field.{Field}
use Rattle.gt_types.specs.declared.program.Structure.{Structure}
use Rattle.gt_types.specs.declared.program.Program.{Program}
use Rattle.gt_types.specs.Paths.{paths_of}
use Rattle.gt_types.specs.Shapes.{innermost, count_of}
use Rattle.gt_paths.specs.Numbers.{numbered}
use Rattle.gt_paths.specs.Outers.{IsOuter}
use Rattle.gt_leaf.specs.Seeking.{PathStarts, Gains, IsOne, PathsOf, PathsOfSome, PathsOfCounts, PathsOfOwn, desc_in, PathsOfDescs, PathsOfUnion, PathsOfUnions, PathsOfRoots, IsContainer, PathsInside, PathsOutermost, PathsOfAll, AllInside, AllOutermost}
use Rattle.gt_leaf.specs.Unread.{BeginsAt, HasPath}
use Rattle.gt_leaf.proofs.Alongs.{Contains-only}
use Rattle.gt_leaf.proofs.Gaining.{gains-both, gains-all, gains-same}
use Rattle.gt_leaf.proofs.Members.{first, contains-append, filter-contains}

-- ---- the expressions of a structure

own-split : (base : Base) (begins : ℕ → Type 0) (s : Structure) (names : List (List ℕ)) (begin : ℕ) → PathsOfOwn base begins s names begin ↔ (PathsOfCounts base begins s.fields names begin ⊎ PathsOfSome base begins s.desc names begin)
own-split base begins s names begin = (there, back)
  where
    counts : List Expr
    counts = filter_map (λ (f : Field). count_of f.ty) s.fields

    there : PathsOfOwn base begins s names begin → PathsOfCounts base begins s.fields names begin ⊎ PathsOfSome base begins s.desc names begin
    there (e, c, p) = elim ((contains-append counts (option_to_list s.desc) e).0 c) [
      | inl d ↦ let found = (filter-contains (λ (f : Field). count_of f.ty) s.fields e).0 d in inl (found.0, found.1, (e, found.2, p))
      | inr d ↦ inr (e, Contains-only s.desc e d, p)
    ]

    back : PathsOfCounts base begins s.fields names begin ⊎ PathsOfSome base begins s.desc names begin → PathsOfOwn base begins s names begin
    back (inl (f, c, (e, h, p))) = (e, (contains-append counts (option_to_list s.desc) e).1 (inl ((filter-contains (λ (f : Field). count_of f.ty) s.fields e).1 (f, c, h))), p)
    back (inr (e, h, p)) = (e, (contains-append counts (option_to_list s.desc) e).1 (inr (subst (λ o. Contains (option_to_list o) e) (sym h) (first e []))), p)

-- ---- a `desc`

-- a type with a `desc` is a union
union-of : (type : Ty) (e : Expr) → desc_in type ≡ Some e → (union : TypeId) × (type ≡ ty.Node union (Some e))
union-of (ty.Node union desc) e is = (union, ap (ty.Node union) is)
union-of type e is = absurd (cc)

-- ---- a program

module _ (program : Program) where
  has-path : (e : Expr) (base : Base) (names : List (List ℕ)) (begin place : ℕ) → BeginsAt program e base (numbered place) → Contains (paths_of e) (base, names) → begin ≡ place → HasPath program base (numbered begin) names
  has-path e base names begin place begins there is = (e, subst (λ i. BeginsAt program e base (numbered i)) (sym is) begins, there)

  -- what is added from `%h` and `%1`
  abbrev pub AddedInside : List (List ℕ) → ℕ → Type 0
  AddedInside names begin = PathsOfAll (PathsInside program) program.structures names begin ⊎ PathsOfRoots Here program.roots names begin

  inside-is : (node : ℕ) (s : Structure) (names : List (List ℕ)) (begin : ℕ) → slice_get program.structures node ≡ Some s → PathsInside program node s names begin → AllInside program names begin
  inside-is node s names begin has (inl (inl (inl (e, c, (there, is))))) = inl (has-path e Here names begin node (BeginsAt.own_here {node = numbered node} {s = s} has c) there is)
  inside-is node s names begin has (inl (inl (inr (f, c, (e, d, (there, is)))))) =
      let union = union-of (innermost f.ty) e d in
      inr (has-path e Outer names begin node (BeginsAt.desc_outer {node = numbered node} {union = union.0} {s = s} {f = f} has c union.1) there is)
  inside-is node s names begin has (inl (inr (f, c, (union, e, h, (there, is))))) =
      inl (has-path e Here names begin union.0 (BeginsAt.desc_here (numbered node) {union = union} {s = s} {f = f} has c h) there is)
  inside-is node s names begin has (inr (f, c, (e, d, (there, contains)))) = inr (e, BeginsAt.length_outer (numbered node) {s = s} {f = f} has c d contains, there)

  added-inside : (names : List (List ℕ)) (begin : ℕ) → AddedInside names begin → AllInside program names begin
  added-inside names begin (inl (node, s, has, p)) = inside-is node s names begin has p
  added-inside names begin (inr (r, c, (union, e, h, (there, is)))) = inl (has-path e Here names begin union.0 (BeginsAt.root_here {r = r} {union = union} c h) there is)

  here-added : (e : Expr) (begin : TypeId) (names : List (List ℕ)) → BeginsAt program e Here begin → Contains (paths_of e) (Here, names) → AddedInside names begin.0
  here-added e begin names (BeginsAt.own_here {node} {s} has c) there = inl (node.0, s, has, inl (inl (inl (e, c, (there, refl)))))
  here-added e begin names (BeginsAt.desc_here node {union} {s} {f} has c h) there = inl (node.0, s, has, inl (inr (f, c, (union, e, h, (there, refl)))))
  here-added e begin names (BeginsAt.root_here {r} {union} c h) there = inr (r, c, (union, e, h, (there, refl)))

  outer-added : (e : Expr) (begin : TypeId) (names : List (List ℕ)) → BeginsAt program e Outer begin → Contains (paths_of e) (Outer, names) → AddedInside names begin.0
  outer-added e begin names (BeginsAt.length_outer node {s} {f} has c d contains) there = inl (node.0, s, has, inr (f, c, (e, d, (there, contains))))
  outer-added e begin names (BeginsAt.desc_outer {node} {union} {s} {f} has c h) there = inl (node.0, s, has, inl (inl (inr (f, c, (e, ap desc_in h, (there, refl))))))

  all-inside : (names : List (List ℕ)) (begin : ℕ) → AllInside program names begin → AddedInside names begin
  all-inside names begin (inl (e, begins, there)) = here-added e (numbered begin) names begins there
  all-inside names begin (inr (e, begins, there)) = outer-added e (numbered begin) names begins there

  pub inside-same : (names : List (List ℕ)) (begin : ℕ) → AllInside program names begin ↔ AddedInside names begin
  inside-same names begin = (all-inside names begin, added-inside names begin)

  -- ---- from `%0`

  abbrev pub AddedOutermost : List (List ℕ) → ℕ → Type 0
  AddedOutermost names begin = PathsOfAll (PathsOutermost program) program.structures names begin ⊎ PathsOfRoots Outermost program.roots names begin

  added-outermost : (names : List (List ℕ)) (begin : ℕ) → AddedOutermost names begin → AllOutermost program names begin
  added-outermost names begin (inl (node, s, has, inl (e, c, (there, around)))) = (e, BeginsAt.own_outermost (numbered node) {s = s} has c around, there)
  added-outermost names begin (inl (node, s, has, inr (f, c, (e, d, (there, around))))) =
      let union = union-of (innermost f.ty) e d in
      (e, BeginsAt.desc_outermost (numbered node) {union = union.0} {s = s} {f = f} has c union.1 around, there)
  added-outermost names begin (inr (r, c, (union, e, h, (there, is)))) = has-path e Outermost names begin union.0 (BeginsAt.root_outermost {r = r} {union = union} c h) there is

  outermost-added : (e : Expr) (begin : TypeId) (names : List (List ℕ)) → BeginsAt program e Outermost begin → Contains (paths_of e) (Outermost, names) → AddedOutermost names begin.0
  outermost-added e begin names (BeginsAt.own_outermost node {s} has c around) there = inl (node.0, s, has, inl (e, c, (there, around)))
  outermost-added e begin names (BeginsAt.desc_outermost node {union} {s} {f} has c h around) there = inl (node.0, s, has, inr (f, c, (e, ap desc_in h, (there, around))))
  outermost-added e begin names (BeginsAt.root_outermost {r} {union} c h) there = inr (r, c, (union, e, h, (there, refl)))

  pub outermost-same : (names : List (List ℕ)) (begin : ℕ) → AllOutermost program names begin ↔ AddedOutermost names begin
  outermost-same names begin = (λ (e, begins, there). outermost-added e (numbered begin) names begins there, added-outermost names begin)

-- ---- what is added together

same-begins : (base : Base) (a b : ℕ → Type 0) (e : Expr) → ((i : ℕ) → a i ↔ b i) → (names : List (List ℕ)) (begin : ℕ) → PathsOf base a e names begin ↔ PathsOf base b e names begin
same-begins base a b e same names begin = (λ (c, h). (c, (same begin).0 h), λ (c, h). (c, (same begin).1 h))

own-begins : (base : Base) (a b : ℕ → Type 0) (s : Structure) → ((i : ℕ) → a i ↔ b i) → (names : List (List ℕ)) (begin : ℕ) → PathsOfOwn base a s names begin ↔ PathsOfOwn base b s names begin
own-begins base a b s same names begin = (λ (e, c, p). (e, c, (same-begins base a b e same names begin).0 p), λ (e, c, p). (e, c, (same-begins base a b e same names begin).1 p))

descs-begins : (base : Base) (a b : ℕ → Type 0) (fields : List Field) → ((i : ℕ) → a i ↔ b i) → (names : List (List ℕ)) (begin : ℕ) → PathsOfDescs base a fields names begin ↔ PathsOfDescs base b fields names begin
descs-begins base a b fields same names begin =
    (λ (f, c, (e, d, p)). (f, c, (e, d, (same-begins base a b e same names begin).0 p)), λ (f, c, (e, d, p)). (f, c, (e, d, (same-begins base a b e same names begin).1 p)))

counts-begins : (base : Base) (a b : ℕ → Type 0) (fields : List Field) → ((i : ℕ) → a i ↔ b i) → (names : List (List ℕ)) (begin : ℕ) → PathsOfCounts base a fields names begin ↔ PathsOfCounts base b fields names begin
counts-begins base a b fields same names begin =
    (λ (f, c, (e, d, p)). (f, c, (e, d, (same-begins base a b e same names begin).0 p)), λ (f, c, (e, d, p)). (f, c, (e, d, (same-begins base a b e same names begin).1 p)))

pub gains-own : (base : Base) (begins : ℕ → Type 0) (s : Structure) (x y z : PathStarts) → Gains x y (PathsOfCounts base begins s.fields) → Gains y z (PathsOfSome base begins s.desc) → Gains x z (PathsOfOwn base begins s)
gains-own base begins s x y z p q = gains-both x y z (PathsOfCounts base begins s.fields) (PathsOfSome base begins s.desc) (PathsOfOwn base begins s) p q (own-split base begins s)

pub gains-some : (base : Base) (a b : ℕ → Type 0) (o : Option Expr) (e : Expr) (x y : PathStarts) → o ≡ Some e → ((i : ℕ) → a i ↔ b i) → Gains x y (PathsOf base a e) → Gains x y (PathsOfSome base b o)
gains-some base a b o e x y is same p = gains-same x y (PathsOf base a e) (PathsOfSome base b o) p (λ names begin. (there names begin, back names begin))
  where
    there : (names : List (List ℕ)) (begin : ℕ) → PathsOf base a e names begin → PathsOfSome base b o names begin
    there names begin h = (e, is, (same-begins base a b e same names begin).0 h)

    back : (names : List (List ℕ)) (begin : ℕ) → PathsOfSome base b o names begin → PathsOf base a e names begin
    back names begin (d, h, q) = let one : e ≡ d = cc in subst (λ z. PathsOf base a z names begin) (sym one) ((same-begins base a b d same names begin).1 q)

-- the paths of a `desc`, which begin at its union
pub gains-union : (base : Base) (union : TypeId) (desc : Option Expr) (type : Ty) (x y : PathStarts) → type ≡ ty.Node union desc → Gains x y (PathsOfSome base (IsOne union.0) desc) → Gains x y (PathsOfUnion base type)
gains-union base union desc type x y is p = gains-same x y (PathsOfSome base (IsOne union.0) desc) (PathsOfUnion base type) p (λ names begin. (there names begin, back names begin))
  where
    there : (names : List (List ℕ)) (begin : ℕ) → PathsOfSome base (IsOne union.0) desc names begin → PathsOfUnion base type names begin
    there names begin (e, h, q) = (union, e, is ∙ ap (ty.Node union) h, q)

    back : (names : List (List ℕ)) (begin : ℕ) → PathsOfUnion base type names begin → PathsOfSome base (IsOne union.0) desc names begin
    back names begin (other, e, h, (c, at)) =
        let node : ty.Node union desc ≡ ty.Node other (Some e) = sym is ∙ h in
        let one : union ≡ other = cc in
        let same_desc : desc ≡ Some e = cc in
        (e, same_desc, (c, at ∙ ap (λ (n : TypeId). n.0) (sym one)))

pub gains-structure : (program : Program) (node : ℕ) (s : Structure) (here outers : ℕ → Type 0) (x y z u v : PathStarts) → ((i : ℕ) → here i ↔ (i ≡ node)) → ((i : ℕ) → outers i ↔ IsContainer program node i)
    → Gains x y (PathsOfOwn Here here s) → Gains y z (PathsOfDescs Outer here s.fields) → Gains z u (PathsOfUnions Here s.fields) → Gains u v (PathsOfCounts Outer outers s.fields) → Gains x v (PathsInside program node s)
gains-structure program node s here outers x y z u v at around p q r t =
    let own = gains-same x y (PathsOfOwn Here here s) (PathsOfOwn Here (IsOne node) s) p (own-begins Here here (IsOne node) s at) in
    let descs = gains-same y z (PathsOfDescs Outer here s.fields) (PathsOfDescs Outer (IsOne node) s.fields) q (descs-begins Outer here (IsOne node) s.fields at) in
    let counts = gains-same u v (PathsOfCounts Outer outers s.fields) (PathsOfCounts Outer (IsContainer program node) s.fields) t (counts-begins Outer outers (IsContainer program node) s.fields around) in
    gains-all x u v (gains-all x z u (gains-all x y z own descs) r) counts

pub gains-outer_structure : (program : Program) (node : ℕ) (s : Structure) (outers : ℕ → Type 0) (x y z : PathStarts) → ((i : ℕ) → outers i ↔ IsOuter program node i)
    → Gains x y (PathsOfOwn Outermost outers s) → Gains y z (PathsOfDescs Outermost outers s.fields) → Gains x z (PathsOutermost program node s)
gains-outer_structure program node s outers x y z around p q =
    let own = gains-same x y (PathsOfOwn Outermost outers s) (PathsOfOwn Outermost (IsOuter program node) s) p (own-begins Outermost outers (IsOuter program node) s around) in
    let descs = gains-same y z (PathsOfDescs Outermost outers s.fields) (PathsOfDescs Outermost (IsOuter program node) s.fields) q (descs-begins Outermost outers (IsOuter program node) s.fields around) in
    gains-all x y z own descs

both-ways : {A B : Type 0} → A ↔ B → B ↔ A
both-ways f = (f.1, f.0)

pub gains-inside : (program : Program) (x y z : PathStarts) → Gains x y (PathsOfAll (PathsInside program) program.structures) → Gains y z (PathsOfRoots Here program.roots) → Gains x z (AllInside program)
gains-inside program x y z p q = gains-same x z (AddedInside program) (AllInside program) (gains-all x y z p q) (λ names begin. both-ways (inside-same program names begin))

pub gains-outermost : (program : Program) (x y z : PathStarts) → Gains x y (PathsOfAll (PathsOutermost program) program.structures) → Gains y z (PathsOfRoots Outermost program.roots) → Gains x z (AllOutermost program)
gains-outermost program x y z p q = gains-same x z (AddedOutermost program) (AllOutermost program) (gains-all x y z p q) (λ names begin. both-ways (outermost-same program names begin))
