-- The common structure that is found is the common structure of a union, and where none is found there is none.
use Rattle.std.proofs.Common.{◌≡◌, ℕ, zero, suc, ◌<◌, ◌≤◌, Bool, true, false, not, ◌&&◌, ◌||◌, cond, IsTrue, List, [], ◌∷◌, refl, ap, sym, subst, ◌∙◌, arith, Option, Some, None}
use Rattle.std.specs.Prelude.{◌==◌, All, Contains, MatchOption, is_some, slice_get}
use Rattle.std.specs.List.{list_all}
use Rattle.std.proofs.lemmas.List.Elements.{All-nil, All-cons, All-contains}
use Rattle.std.proofs.lemmas.Option.{slice_get-get_or}
use Rattle.gt_types.specs.declared.expressions.Expr.{Expr}
use Rattle.gt_types.specs.declared.types.TypeId.{TypeId}
use Rattle.gt_types.specs.declared.types.Ty.{Ty}
use Rattle.gt_types.specs.declared.types.Ty.TheVariants as ty
use Rattle.gt_types.specs.declared.program.Field.{Field}
use Rattle.gt_types.specs.declared.program.Structure.{Structure}
use Rattle.gt_types.specs.declared.program.Program.{Program}
use Rattle.gt_types.specs.Contains.{HasStructure, held_by, Nests, once, deeper, ContainsAtDepth}
use Rattle.gt_types.specs.Tails.{tail_of}
use Rattle.gt_types.specs.Unions.{may_be_active, BeginsWith, is_it, by_first, IsPlainStruct, IsCommon}
use Rattle.gt_types.specs.Settled.{Settled}
use Rattle.gt_unions.specs.Members.{is_node}
use Rattle.std.proofs.lemmas.Bool.{eqb-true, eq-eqb}
use Rattle.gt_unions.proofs.OneCommon.{held-it, one-common}
use Rattle.gt_unions.specs.Commons.{held_is, is_plain_in, is_plain, first_is, struct_is, inside_is, begins_with, suits, is_common, common_by, or_else, common_among, common_of}

-- the answer to which structure is common to the members of a union
abbrev pub CommonIs : Program → Structure → Option TypeId → Type 0
CommonIs program s (Some common) = IsCommon program s common
CommonIs program s None = (common : TypeId) → ¬ IsCommon program s common

pub same-number : (n : ℕ) → (n == n) ≡ true
same-number n = eq-eqb n n refl

one-node : (a b : TypeId) → a.0 ≡ b.0 → a ≡ b
one-node a b e = ap (λ n. let node : TypeId = record { 0 = n } in node) e

node-type : (c : TypeId) (type : Ty) → is_node c type ≡ true → (desc : Option Expr) × (type ≡ ty.Node c desc)
node-type c (ty.Node other desc) e = (desc, ap (λ n. ty.Node n desc) (sym (one-node c other (eqb-true c.0 other.0 e))))
node-type c type e = absurd (cc)

some-is : {X : Type 0} (a b : X) → Some a ≡ Some b → a ≡ b
some-is a b e = cc

both : (a b : Bool) → (a && b) ≡ true → (a ≡ true) × (b ≡ true)
both true b e = (refl, e)
both false b e = absurd (cc)

not-true : (a : Bool) → not a ≡ true → a ≡ false
not-true true e = absurd (cc)
not-true false e = refl

not-some : {X : Type 0} (o : Option X) → is_some o ≡ false → o ≡ None
not-some None e = refl
not-some (Some x) e = absurd (cc)

-- ---- all of a list

all-at : {X : Type 0} (p : X → Bool) (xs : List X) (i : ℕ) (x : X) → slice_get xs i ≡ Some x → list_all p xs ≡ true → p x ≡ true
all-at p [] i x e h = absurd (cc)
all-at p (y ∷ ys) zero x e h = ap p (sym (some-is y x e)) ∙ (both (p y) (list_all p ys) h).0
all-at p (y ∷ ys) (suc i) x e h = all-at p ys i x e (both (p y) (list_all p ys) h).1

all-true : {X : Type 0} (p : X → Bool) (xs : List X) → ((i : ℕ) (x : X) → slice_get xs i ≡ Some x → p x ≡ true) → list_all p xs ≡ true
all-true p [] h = refl
all-true p (x ∷ xs) h = ap (λ b. b && list_all p xs) (h 0 x refl) ∙ all-true p xs (λ i y e. h (suc i) y e)

pub contains-at : {X : Type 0} (xs : List X) (x : X) (c : Contains xs x) → slice_get xs c.0 ≡ Some x
contains-at xs x c = slice_get-get_or xs c.0 x c.1 ∙ ap Some c.2

at-contains : {X : Type 0} (xs : List X) (i : ℕ) (x : X) → slice_get xs i ≡ Some x → Contains xs x
at-contains [] i x e = absurd (cc)
at-contains (y ∷ ys) zero x e = (0, omega arith, some-is y x e)
at-contains (y ∷ ys) (suc i) x e = let c = at-contains ys i x e in (suc c.0, omega (arith, c.1), c.2)

-- ---- plain structures

module _ (program : Program) where
  -- what a test of plainness says
  record PlainIn (test : TypeId → Bool) (node : TypeId) : Type 0 where
    s : Structure
    has : HasStructure program node s
    struct : s.is_union ≡ false
    no_tail : tail_of s.fields ≡ None
    parts : list_all (λ f. held_is test (held_by f.ty)) s.fields ≡ true

  plain-in : (test : TypeId → Bool) (node : TypeId) (o : Option Structure) → slice_get program.structures node.0 ≡ o → is_plain_in test o ≡ true → PlainIn test node
  plain-in test node None e h = absurd (cc)
  plain-in test node (Some s) e h =
      let one = both (not s.is_union && not (is_some (tail_of s.fields))) (list_all (λ f. held_is test (held_by f.ty)) s.fields) h in
      let two = both (not s.is_union) (not (is_some (tail_of s.fields))) one.0 in
      record { s = s; has = e; struct = not-true s.is_union two.0; no_tail = not-some (tail_of s.fields) (not-true (is_some (tail_of s.fields)) two.1); parts = one.1 }

  plain-of : (depth : ℕ) (node : TypeId) → is_plain program depth node ≡ true → (below : ℕ) × PlainIn (is_plain program below) node
  plain-of zero node h = absurd (cc)
  plain-of (suc depth) node h = (depth, plain-in (is_plain program depth) node (slice_get program.structures node.0) refl h)

  plain-struct : (depth : ℕ) (node : TypeId) → is_plain program depth node ≡ true → IsPlainStruct program node
  plain-struct depth node h = let p = (plain-of depth node h).1 in (p.s, p.has, p.struct, p.no_tail)

  held-plain : (test : TypeId → Bool) (o : Option TypeId) (inner : TypeId) → o ≡ Some inner → held_is test o ≡ true → test inner ≡ true
  held-plain test o inner e h = ap (held_is test) (sym e) ∙ h

  plain-part : (depth : ℕ) (outer inner : TypeId) → is_plain program depth outer ≡ true → Rattle.gt_types.specs.Contains.ContainsStructure program outer inner → (below : ℕ) × (is_plain program below inner ≡ true)
  plain-part depth outer inner h (s, f, has, contains, held) =
      let p = plain-of depth outer h in
      let same : p.1.s ≡ s = some-is p.1.s s (sym p.1.has ∙ has) in
      let parts = subst (λ x. list_all (λ g. held_is (is_plain program p.0) (held_by g.ty)) x.fields ≡ true) same p.1.parts in
      (p.0, held-plain (is_plain program p.0) (held_by f.ty) inner held (all-at (λ g. held_is (is_plain program p.0) (held_by g.ty)) s.fields contains.0 f (contains-at s.fields f contains) parts))

  plain-inside : (n depth : ℕ) (outer inner : TypeId) → is_plain program depth outer ≡ true → Nests program n outer inner → IsPlainStruct program inner
  plain-inside n depth outer inner h (once c) = let p = plain-part depth outer inner h c in plain-struct p.0 inner p.1
  plain-inside n depth outer inner h (deeper {n = m} {next} c rest) = let p = plain-part depth outer next h c in plain-inside m p.0 next inner p.1 rest

  -- ---- what begins with a structure

  begins-of : (depth : ℕ) (common : TypeId) (type : Ty) → begins_with program depth common type ≡ true → BeginsWith program type common
  begins-of zero common type h = absurd (cc)
  begins-of (suc depth) common type h = go (begins-of depth common) (is_node common type) refl h
    where
      within_node : ((t : Ty) → begins_with program depth common t ≡ true → BeginsWith program t common) → (t : Ty) → inside_is program (begins_with program depth common) t ≡ true → BeginsWith program t common
      within_node ih (ty.Node node desc) e = inner (slice_get program.structures node.0) refl e
        where
          firstly : (s : Structure) → HasStructure program node s → s.is_union ≡ false → (fields : List Field) → s.fields ≡ fields → first_is (begins_with program depth common) fields ≡ true → BeginsWith program (ty.Node node desc) common
          firstly s has struct [] is b = absurd (cc)
          firstly s has struct (f ∷ fs) is b = by_first has struct is (ih f.ty b)

          inner : (o : Option Structure) → slice_get program.structures node.0 ≡ o → struct_is (begins_with program depth common) o ≡ true → BeginsWith program (ty.Node node desc) common
          inner None has b = absurd (cc)
          inner (Some s) has b =
              let two = both (not s.is_union) (first_is (begins_with program depth common) s.fields) b in
              firstly s has (not-true s.is_union two.0) s.fields refl two.1
      within_node ih t e = absurd (cc)

      go : ((t : Ty) → begins_with program depth common t ≡ true → BeginsWith program t common) → (b : Bool) → is_node common type ≡ b → (b || inside_is program (begins_with program depth common) type) ≡ true → BeginsWith program type common
      go ih true is e = let n = node-type common type is in subst (λ t. BeginsWith program t common) (sym n.1) is_it
      go ih false is e = within_node ih type e

  suits-of : (common : TypeId) (f : Field) → suits program common f ≡ true → IsTrue (may_be_active f.active) → BeginsWith program f.ty common
  suits-of common f h may = begins-of 33 common f.ty (ap (λ b. not b || begins_with program 33 common f.ty) (sym may) ∙ h)

  all-suit : (common : TypeId) (fields : List Field) → list_all (suits program common) fields ≡ true → All (λ f. IsTrue (may_be_active f.active) → BeginsWith program f.ty common) fields
  all-suit common [] h = All-nil (λ f. IsTrue (may_be_active f.active) → BeginsWith program f.ty common)
  all-suit common (f ∷ fields) h =
      let two = both (suits program common f) (list_all (suits program common) fields) h in
      All-cons (λ g. IsTrue (may_be_active g.active) → BeginsWith program g.ty common) f fields (suits-of common f two.0) (all-suit common fields two.1)

  common-of : (s : Structure) (common : TypeId) (desc : Option Expr) (f : Field) → s.is_union ≡ true → Contains s.fields f → f.ty ≡ ty.Node common desc → is_common program s common ≡ true → IsCommon program s common
  common-of s common desc f union contains is h =
      let two = both (is_plain program 33 common) (list_all (suits program common) s.fields) h in
      record {
        union = union;
        member = (f, desc, contains, is);
        plain = plain-struct 33 common two.0;
        plain_inside = λ inner depth. plain-inside depth.0 33 common inner two.0 depth.1;
        begun = all-suit common s.fields two.1;
      }

  -- the member that is found
  by-node : (s : Structure) (type : Ty) (common : TypeId) → common_by program s type ≡ Some common → (desc : Option Expr) × (type ≡ ty.Node common desc) × (is_common program s common ≡ true)
  by-node s (ty.Node node desc) common e = go (is_common program s node) refl e
    where
      go : (b : Bool) → is_common program s node ≡ b → cond b (Some node) None ≡ Some common → (d : Option Expr) × (ty.Node node desc ≡ ty.Node common d) × (is_common program s common ≡ true)
      go true is f = let same = some-is node common f in (desc, ap (λ n. ty.Node n desc) same, ap (is_common program s) (sym same) ∙ is)
      go false is f = absurd (cc)
  by-node s type common e = absurd (cc)

  among-found : (s : Structure) (fields : List Field) (common : TypeId) → common_among program s fields ≡ Some common
      → (i : ℕ) × (f : Field) × (slice_get fields i ≡ Some f) × (common_by program s f.ty ≡ Some common)
  among-found s [] common e = absurd (cc)
  among-found s (f ∷ fields) common e = go (among-found s fields common) (common_by program s f.ty) refl e
    where
      go : (common_among program s fields ≡ Some common → (i : ℕ) × (g : Field) × (slice_get fields i ≡ Some g) × (common_by program s g.ty ≡ Some common)) → (o : Option TypeId) → common_by program s f.ty ≡ o
          → or_else o (common_among program s fields) ≡ Some common → (i : ℕ) × (g : Field) × (slice_get (f ∷ fields) i ≡ Some g) × (common_by program s g.ty ≡ Some common)
      go rest (Some c) is h = (0, f, refl, is ∙ h)
      go rest None is h = let r = rest h in (suc r.0, r.1, r.2, r.3)

  among-none : (s : Structure) (fields : List Field) → common_among program s fields ≡ None → (i : ℕ) (f : Field) → slice_get fields i ≡ Some f → common_by program s f.ty ≡ None
  among-none s [] e i f got = absurd (cc)
  among-none s (g ∷ fields) e i f got = go (among-none s fields) (common_by program s g.ty) refl e i got
    where
      go : (common_among program s fields ≡ None → (k : ℕ) (h : Field) → slice_get fields k ≡ Some h → common_by program s h.ty ≡ None) → (o : Option TypeId) → common_by program s g.ty ≡ o
          → or_else o (common_among program s fields) ≡ None → (k : ℕ) → slice_get (g ∷ fields) k ≡ Some f → common_by program s f.ty ≡ None
      go rest (Some c) is h k there = absurd (cc)
      go rest None is h zero there = ap (λ x. common_by program s x.ty) (sym (some-is g f there)) ∙ is
      go rest None is h (suc k) there = rest h k f there

  -- ---- a common structure is found

  fold-plain : (test : TypeId → Bool) (o : Option TypeId) → ((inner : TypeId) → o ≡ Some inner → test inner ≡ true) → held_is test o ≡ true
  fold-plain test None h = refl
  fold-plain test (Some inner) h = h inner refl

  plain-true : (depth : ℕ) (node : TypeId) → 1 ≤ depth → ((n : ℕ) (inner : TypeId) → Nests program n node inner → n < depth) → IsPlainStruct program node
      → ((inner : TypeId) → ContainsAtDepth program node inner → IsPlainStruct program inner) → is_plain program depth node ≡ true
  plain-true zero node some bound plain inside = absurd (omega arith)
  plain-true (suc depth) node some bound (s, has, struct, no_tail) inside =
      ap (is_plain_in (is_plain program depth)) has
      ∙ ap (λ b. not b && not (is_some (tail_of s.fields)) && list_all (λ f. held_is (is_plain program depth) (held_by f.ty)) s.fields) struct
      ∙ ap (λ o. not (is_some o) && list_all (λ f. held_is (is_plain program depth) (held_by f.ty)) s.fields) no_tail
      ∙ all-true (λ f. held_is (is_plain program depth) (held_by f.ty)) s.fields
      (λ i f got. fold-plain (is_plain program depth) (held_by f.ty)
      (λ next held.
      let c : Rattle.gt_types.specs.Contains.ContainsStructure program node next = (s, f, has, at-contains s.fields i f got, held) in
      let first = bound 1 next (once c) in
      plain-true depth next (omega (arith, first)) (λ n inner rest. let b = bound (suc n) inner (deeper c rest) in omega (arith, b)) (inside next (1, once c))
      (λ inner d. inside inner (suc d.0, deeper c d.1))))

  begins-held : {type : Ty} {common : TypeId} → BeginsWith program type common → (node : TypeId) × (held_by type ≡ Some node)
  begins-held (is_it {node} {desc}) = (node, held-it node desc)
  begins-held (by_first {outer} {desc} has struct e rest) = (outer, held-it outer desc)

  begins-true : {type : Ty} {common : TypeId} → BeginsWith program type common → (depth : ℕ) → 1 ≤ depth → ((node : TypeId) → held_by type ≡ Some node → (n : ℕ) (inner : TypeId) → Nests program n node inner → n < depth)
      → begins_with program depth common type ≡ true
  begins-true b zero some bound = absurd (omega arith)
  begins-true (is_it {node} {desc}) (suc depth) some bound = ap (λ b. b || inside_is program (begins_with program depth node) (ty.Node node desc)) (same-number node.0)
  begins-true (by_first {outer} {node = common} {desc} {s} {f} {fs} has struct e rest) (suc depth) some bound =
      let got : slice_get s.fields 0 ≡ Some f = ap (λ xs. slice_get xs 0) e in
      let held = begins-held rest in
      let c : Rattle.gt_types.specs.Contains.ContainsStructure program outer held.0 = (s, f, has, at-contains s.fields 0 f got, held.1) in
      let first = bound outer (held-it outer desc) 1 held.0 (once c) in
      let later = begins-true rest depth (omega (arith, first))
      (λ next is n inner nests.
      let d : Rattle.gt_types.specs.Contains.ContainsStructure program outer next = (s, f, has, at-contains s.fields 0 f got, is) in
      let b = bound outer (held-it outer desc) (suc n) inner (deeper d nests) in omega (arith, b)) in
      or-true (is_node common (ty.Node outer desc)) (inside_is program (begins_with program depth common) (ty.Node outer desc))
      (ap (struct_is (begins_with program depth common)) has
      ∙ ap (λ b. not b && first_is (begins_with program depth common) s.fields) struct
      ∙ ap (first_is (begins_with program depth common)) e
      ∙ later)
    where
      or-true : (a b : Bool) → b ≡ true → (a || b) ≡ true
      or-true true b h = refl
      or-true false b h = h

module _ (program : Program) (settled : Settled program) where
  shallow : (node : TypeId) (n : ℕ) (inner : TypeId) → Nests program n node inner → n < 33
  shallow node n inner nests = let d = settled.depth n node inner nests in omega (arith, d)

  suits-true : (common : TypeId) (f : Field) (b : Bool) → may_be_active f.active ≡ b → (IsTrue (may_be_active f.active) → BeginsWith program f.ty common) → (not b || begins_with program 33 common f.ty) ≡ true
  suits-true common f false is begun = refl
  suits-true common f true is begun = begins-true program (begun is) 33 (omega arith) (λ node held n inner nests. shallow node n inner nests)

  common-true : (s : Structure) (common : TypeId) → IsCommon program s common → is_common program s common ≡ true
  common-true s common c =
      ap (λ b. b && list_all (suits program common) s.fields) (plain-true program 33 common (omega arith) (λ n inner nests. shallow common n inner nests) c.plain c.plain_inside)
      ∙ all-true (suits program common) s.fields
      (λ i f got. suits-true common f (may_be_active f.active) refl (All-contains (λ g. IsTrue (may_be_active g.active) → BeginsWith program g.ty common) s.fields f c.begun (at-contains s.fields i f got)))

  answer : (s : Structure) → s.is_union ≡ true → (o : Option TypeId) → common_of program s ≡ o → CommonIs program s o
  answer s union (Some common) e =
      let r = among-found program s s.fields common e in
      let n = by-node program s r.1.ty common r.3 in
      common-of program s common n.0 r.1 union (at-contains s.fields r.0 r.1 r.2) n.1 n.2
  answer s union None e = λ common c.
      let none = among-none program s s.fields e c.member.2.0 c.member.0 (contains-at s.fields c.member.0 c.member.2) in
      let yes : common_by program s c.member.0.ty ≡ Some common = ap (common_by program s) c.member.3 ∙ ap (λ b. cond b (Some common) None) (common-true s common c) in
      absurd (cc)

  pub common-is : (node : TypeId) (s : Structure) → HasStructure program node s → s.is_union ≡ true → CommonIs program s (common_of program s)
  common-is node s has union = answer s union (common_of program s) refl

  as-match : (s : Structure) (o : Option TypeId) → CommonIs program s o → MatchOption o ((common : TypeId) → ¬ IsCommon program s common) (IsCommon program s)
  as-match s (Some common) is = is
  as-match s None none = none

  -- the same, as the law says it
  pub common-found : (node : TypeId) (s : Structure) → HasStructure program node s → s.is_union ≡ true → MatchOption (common_of program s) ((common : TypeId) → ¬ IsCommon program s common) (IsCommon program s)
  common-found node s has union = as-match s (common_of program s) (common-is node s has union)

  is-one : (node : TypeId) (s : Structure) → HasStructure program node s → (a b : Option TypeId) → CommonIs program s a → CommonIs program s b → a ≡ b
  is-one node s has (Some a) (Some b) x y = ap Some (one-common program node s a b settled has x y)
  is-one node s has (Some a) None x y = absurd (y a x)
  is-one node s has None (Some b) x y = absurd (x b y)
  is-one node s has None None x y = refl

  -- a search that answers which structure is common finds what the definition says
  pub found-is-common : (node : TypeId) (s : Structure) → HasStructure program node s → s.is_union ≡ true → (o : Option TypeId)
      → MatchOption o ((common : TypeId) → ¬ IsCommon program s common) (IsCommon program s) → o ≡ common_of program s
  found-is-common node s has union (Some common) is = is-one node s has (Some common) (common_of program s) is (common-is node s has union)
  found-is-common node s has union None none = is-one node s has None (common_of program s) none (common-is node s has union)
