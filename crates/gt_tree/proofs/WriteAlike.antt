-- Two values that come from one: what is the same in their parts, and what paths read from them.
use Rattle.std.proofs.Common.{◌≡◌, ℕ, zero, suc, ◌+◌, Bool, true, false, cond, IsTrue, List, [], ◌∷◌, refl, ap, sym, subst, ◌∙◌, Option, Some, None}
use Rattle.std.specs.Prelude.{ℤ, pos, slice_get}
use Rattle.std.specs.Str.{bytes_eq}
use Rattle.std.specs.List.{position_from}
use Rattle.std.proofs.lemmas.List.Elements.{All-contains}
use Rattle.gt_types.specs.declared.expressions.Expr.{Expr}
use Rattle.gt_types.specs.declared.types.TypeId.{TypeId}
use Rattle.gt_types.specs.declared.types.Ty.{Ty}
use Rattle.gt_types.specs.declared.types.Ty.TheVariants as ty
use Rattle.gt_types.specs.declared.program.Field.{Field}
use Rattle.gt_types.specs.declared.program.Structure.{Structure}
use Rattle.gt_types.specs.declared.program.Program.{Program}
use Rattle.gt_types.specs.Shapes.{is_number}
use Rattle.gt_types.specs.Contains.{HasStructure}
use Rattle.gt_types.specs.Paths.{by_name, Leads, last_step, next_step, MayStep}
use Rattle.gt_types.specs.Values.{within_i64}
use Rattle.gt_types.specs.Settled.{Settled}
use Rattle.gt_layout.proofs.Ideal.{one_layout}
use Rattle.gt_tree.specs.Trees.{Tree, Num, Rec, Alt, Trees, End, And, tree_at, IsZero, AreZero}
use Rattle.gt_tree.specs.Blocks.{Blocks}
use Rattle.gt_tree.specs.Scopes.{Scope, inside, typed, ◌then◌, is_node, first_type, beginning, beginning_of, field_of, number_at, read_path}
use Rattle.gt_tree.specs.Fits.{Fits, AllFit, types_of}
use Rattle.gt_tree.specs.Leaves.{leaf, Number}
use Rattle.gt_tree.specs.PathLaws.{number_width}
use Rattle.gt_tree.specs.Reshapes.{IsZeroOutside, OutsideOf, Reshapes, AllReshape}
use Rattle.gt_tree.proofs.OneList.{value-one_list}
use Rattle.gt_tree.proofs.PathBits.{some-same}
use Rattle.gt_tree.proofs.PathParts.{get-map}
use Rattle.gt_tree.proofs.PathReads.{paths-read}
use Rattle.gt_tree.proofs.FixedParts.{is-number, is-bits, is-struct, is-union, is-more, is-none}
use Rattle.gt_tree.proofs.WriteLeaves.{HoldsNought, noughts}
use Rattle.gt_tree.proofs.WriteReads.{named-place, step-taken, read-desc, first-types, reads-kept}

-- Two values of a type that come from one: both are what one value becomes, both are zero, both begin with one part and are
-- zero outside it, or they are equal.
pub data Same (program : Program) : Ty → Tree → Tree → Type 0 where
  reshaped : {type : Ty} {o v w : Tree} → Reshapes program type o v → Reshapes program type o w → Same program type v w
  zeros : {type : Ty} {v w : Tree} → IsZero v → IsZero w → Same program type v w
  begins : {type : Ty} {v w p : Tree} (c : TypeId) → beginning program c (Some type) v ≡ Some p → beginning program c (Some type) w ≡ Some p → IsZeroOutside program c (Some type) v
      → IsZeroOutside program c (Some type) w → Same program type v w
  equal : {type : Ty} {v w : Tree} → v ≡ w → Same program type v w

-- so it is for values of these types, one after another
pub data AllSame (program : Program) : List Ty → Trees → Trees → Type 0 where
  none : AllSame program [] End End
  more : {type : Ty} {types : List Ty} {v w : Tree} {vs ws : Trees} → Same program type v w → AllSame program types vs ws → AllSame program (type ∷ types) (And v vs) (And w ws)

pub cond-some : (b : Bool) (v p : Tree) → cond b (Some v) None ≡ Some p → v ≡ p
cond-some true v p e = cc
cond-some false v p e = absurd (cc)

pub both-some : (b : Bool) (v w p : Tree) → cond b (Some v) None ≡ Some p → cond b (Some w) None ≡ Some p → v ≡ w
both-some b v w p e f = cond-some b v p e ∙ sym (cond-some b w p f)

-- ---- the fields of a struct

-- the fields of one place
record FieldSame (program : Program) (blocks : Blocks) (capacity : ℕ) (s t : Scope) (type : Ty) (vs ws : Trees) (i : ℕ) : Type 0 where
  v : Tree
  w : Tree
  there : tree_at vs i ≡ Some v
  other : tree_at ws i ≡ Some w
  same : Same program type v w
  fits : Fits program blocks capacity s type v
  other_fits : Fits program blocks capacity t type w

abbrev Rest : Program → TypeId → Option Ty → Trees → Type 0
Rest program c first End = Unit {0}
Rest program c first (And tree trees) = IsZeroOutside program c first tree × AreZero trees

outside-rest : (program : Program) (c : TypeId) (type : Ty) (trees : Trees) → OutsideOf program c (Some type) trees false → Rest program c (first_type program type) trees
outside-rest program c type End o = tt
outside-rest program c type (And tree trees) o = o

rec-same : (vs ws : Trees) (p : Tree) → Rec vs ≡ p → Rec ws ≡ p → vs ≡ ws
rec-same vs ws p e f = cc

module _ {program : Program} where
  pub zip : {types : List Ty} {os vs ws : Trees} → AllReshape program types os vs → AllReshape program types os ws → AllSame program types vs ws
  zip AllReshape.none AllReshape.none = AllSame.none
  zip (AllReshape.more r rs) (AllReshape.more q qs) = AllSame.more (Same.reshaped r q) (zip rs qs)

  pub struct-old : (node : TypeId) (desc : Option Expr) (x : Structure) (o : Tree) (vs : Trees) → HasStructure program node x → Reshapes program (ty.Node node desc) o (Rec vs)
      → (os : Trees) × (o ≡ Rec os) × AllReshape program (types_of x.fields) os vs
  struct-old node desc x o vs has (Reshapes.leaf e) = absurd (cc)
  struct-old node desc x o vs has (Reshapes.struct {s = other} {old} h u all) =
      let same : other ≡ x = some-same (slice_get program.structures node.0) other x h has in
      (old, refl, subst (λ y. AllReshape program (types_of y.fields) old vs) same all)

module _ {program : Program} {blocks : Blocks} {capacity : ℕ} where
  same-all : {s : Scope} {types : List Ty} {vs : Trees} → AllFit program blocks capacity s types vs → AllSame program types vs vs
  same-all AllFit.none = AllSame.none
  same-all (AllFit.more fits all) = AllSame.more (Same.equal refl) (same-all all)

  all-zeros : {s t : Scope} {types : List Ty} {vs : Trees} → AllFit program blocks capacity s types vs → (ws : Trees) → AllFit program blocks capacity t types ws → AreZero vs → AreZero ws → AllSame program types vs ws
  all-zeros AllFit.none ws other z y = subst (AllSame program [] End) (sym (is-none ws other)) AllSame.none
  all-zeros (AllFit.more {type} {types} {tree} {trees} fits all) ws other z y =
      let found = is-more type types ws other in
      let theirs = subst AreZero found.2 y in
      subst (AllSame program (type ∷ types) (And tree trees)) (sym found.2) (AllSame.more (Same.zeros z.0 theirs.0) (all-zeros all found.1 found.4 z.1 theirs.1))

  begin-fields : {s t : Scope} {types : List Ty} {vs : Trees} → AllFit program blocks capacity s types vs → (ws : Trees) → AllFit program blocks capacity t types ws → (c : TypeId) (first : Option Ty) (p : Tree)
      → first ≡ slice_get types 0 → beginning_of program c first vs ≡ Some p → beginning_of program c first ws ≡ Some p → Rest program c first vs → Rest program c first ws → AllSame program types vs ws
  begin-fields AllFit.none ws other c first p is e f y z = absurd (cc)
  begin-fields (AllFit.more {type} {types} {tree} {trees} fits all) ws other c first p is e f y z =
      let found = is-more type types ws other in
      let began = subst (λ us. beginning_of program c first us ≡ Some p) found.2 f in
      let theirs = subst (Rest program c first) found.2 z in
      subst (AllSame program (type ∷ types) (And tree trees)) (sym found.2)
      (AllSame.more
      (Same.begins c (subst (λ o. beginning program c o tree ≡ Some p) is e) (subst (λ o. beginning program c o found.0 ≡ Some p) is began)
      (subst (λ o. IsZeroOutside program c o tree) is y.0) (subst (λ o. IsZeroOutside program c o found.0) is theirs.0))
      (all-zeros all found.1 found.4 y.1 theirs.1))

  pub same-fields : {s t : Scope} (node : TypeId) (desc : Option Expr) (x : Structure) (vs ws : Trees) → HasStructure program node x → Same program (ty.Node node desc) (Rec vs) (Rec ws)
      → AllFit program blocks capacity s (types_of x.fields) vs → AllFit program blocks capacity t (types_of x.fields) ws → AllSame program (types_of x.fields) vs ws
  same-fields node desc x vs ws has (Same.reshaped {o} r q) all other =
      let one = struct-old node desc x o vs has r in
      let two = struct-old node desc x o ws has q in
      let same = rec-same two.0 one.0 o (sym two.1) (sym one.1) in
      zip one.2 (subst (λ us. AllReshape program (types_of x.fields) us ws) same two.2)
  same-fields node desc x vs ws has (Same.zeros y z) all other = all-zeros all ws other y z
  same-fields node desc x vs ws has (Same.equal e) all other = subst (AllSame program (types_of x.fields) vs) (rec-same vs ws (Rec ws) e refl) (same-all all)
  same-fields {s} {t} node desc x vs ws has (Same.begins {p} c e f y z) all other = go (is_node c (ty.Node node desc)) refl
    where
      go : (b : Bool) → is_node c (ty.Node node desc) ≡ b → AllSame program (types_of x.fields) vs ws
      go true is =
          let mine = subst (λ b. cond b (Some (Rec vs)) (beginning_of program c (first_type program (ty.Node node desc)) vs) ≡ Some p) is e in
          let theirs = subst (λ b. cond b (Some (Rec ws)) (beginning_of program c (first_type program (ty.Node node desc)) ws) ≡ Some p) is f in
          subst (AllSame program (types_of x.fields) vs) (rec-same vs ws p (cc) (cc)) (same-all all)
      go false is =
          begin-fields all ws other c (first_type program (ty.Node node desc)) p (first-types program node desc x has)
          (subst (λ b. cond b (Some (Rec vs)) (beginning_of program c (first_type program (ty.Node node desc)) vs) ≡ Some p) is e)
          (subst (λ b. cond b (Some (Rec ws)) (beginning_of program c (first_type program (ty.Node node desc)) ws) ≡ Some p) is f)
          (outside-rest program c (ty.Node node desc) vs (subst (OutsideOf program c (Some (ty.Node node desc)) vs) is y))
          (outside-rest program c (ty.Node node desc) ws (subst (OutsideOf program c (Some (ty.Node node desc)) ws) is z))

  field-same : {s t : Scope} {types : List Ty} {vs : Trees} → AllFit program blocks capacity s types vs → (ws : Trees) → AllFit program blocks capacity t types ws → (i : ℕ) (type : Ty) → slice_get types i ≡ Some type
      → AllSame program types vs ws → FieldSame program blocks capacity s t type vs ws i
  field-same AllFit.none ws other i type e all = absurd (cc)
  field-same {s} {t} (AllFit.more fits rest) ws (AllFit.more other others) zero type e (AllSame.more {type = here} {v} {w} same all) =
      let is : here ≡ type = cc in
      record {
        v = v;
        w = w;
        there = refl;
        other = refl;
        same = subst (λ y. Same program y v w) is same;
        fits = subst (λ y. Fits program blocks capacity s y v) is fits;
        other_fits = subst (λ y. Fits program blocks capacity t y w) is other;
      }
  field-same (AllFit.more fits rest) ws (AllFit.more other others) (suc i) type e (AllSame.more {ws = later} same all) =
      let f = field-same rest later others i type e all in
      record { v = f.v; w = f.w; there = f.there; other = f.other; same = f.same; fits = f.fits; other_fits = f.other_fits }

-- a path through a field of a struct reads on from there
pub read-field : (program : Program) (node : TypeId) (x : Structure) (f : Field) (name : List ℕ) (names : List (List ℕ)) (place : ℕ) (value part : Tree) (trees : Trees) → HasStructure program node x → x.is_union ≡ false
    → position_from (λ g. bytes_eq g.name name) 0 x.fields ≡ Some place → slice_get x.fields place ≡ Some f → value ≡ Rec trees → tree_at trees place ≡ Some part
    → read_path program (name ∷ names) (ty.Node node None) value ≡ read_path program names f.ty part
read-field program node x f name names place value part trees has struct first got is there =
    ap (λ o. o then λ next. read_path program names next.type next.value) (step-taken program node x f name place false value has struct first got)
    ∙ ap (λ y. field_of f y place then λ next. read_path program names next.type next.value) is
    ∙ ap (λ o. (o then λ y. Some (typed f.ty y)) then λ next. read_path program names next.type next.value) there

-- ---- numbers

old-leaf : {program : Program} {type : Ty} {o : Tree} {n : ℤ} → Reshapes program type o (Num n) → o ≡ Num n
old-leaf (Reshapes.leaf e) = refl

pub same-num : {program : Program} {type : Ty} {n m : ℤ} → Same program type (Num n) (Num m) → Num n ≡ Num m
same-num (Same.reshaped r q) = sym (old-leaf r) ∙ old-leaf q
same-num (Same.zeros z y) = ap Num (z ∙ sym y)
same-num {type} {n} {m} (Same.begins {p} c e f y z) = both-some (is_node c type) (Num n) (Num m) p e f
same-num (Same.equal e) = e

module _ {program : Program} {blocks : Blocks} {capacity : ℕ} where
  number-same : {s t : Scope} (type : Ty) (v w : Tree) → IsTrue (is_number type) → Same program type v w → Fits program blocks capacity s type v → Fits program blocks capacity t type w → number_at v ≡ number_at w
  number-same (ty.Num scalar) v w i same fits other =
      let mine = is-number scalar v fits in
      let theirs = is-number scalar w other in
      ap number_at (mine.1 ∙ same-num (subst (λ y. Same program (ty.Num scalar) (Num mine.0) y) theirs.1 (subst (λ y. Same program (ty.Num scalar) y w) mine.1 same)) ∙ sym theirs.1)
  number-same (ty.Bits unit width) v w i same fits other =
      let mine = is-bits unit width v fits in
      let theirs = is-bits unit width w other in
      ap number_at (mine.1 ∙ same-num (subst (λ y. Same program (ty.Bits unit width) (Num mine.0) y) theirs.1 (subst (λ y. Same program (ty.Bits unit width) y w) mine.1 same)) ∙ sym theirs.1)
  number-same type v w i same fits other = absurd (cc)

  -- ---- paths

  module _ (settled : Settled program) where
    pub zero-number : {s : Scope} (node : TypeId) (desc : Option Expr) (v : Tree) (steps : List (List ℕ)) (type : Ty) → Leads program by_name node steps type → IsTrue (is_number type)
        → Fits program blocks capacity s (ty.Node node desc) v → IsZero v → read_path program steps (ty.Node node None) v ≡ within_i64 (pos 0)
    zero-number {s} node desc v steps type leads number fits z =
        let one = one_layout program settled in
        let found = value-one_list program one.0 settled one.1 blocks capacity s (ty.Node node desc) v 0 fits in
        let r = paths-read program one.0 settled one.1 blocks capacity s node desc v 0 found.0 steps fits found.1 (type, leads, number) in
        let nought = All-contains HoldsNought found.0 (leaf (0 + r.bit) (number_width r.type) (Number r.n)) (noughts found.1 z) r.there in
        r.read ∙ ap within_i64 nought

    union-begins : {s t : Scope} (node : TypeId) (desc : Option Expr) (x : Structure) (c : TypeId) (v w p : Tree) → HasStructure program node x → x.is_union ≡ true → Fits program blocks capacity s (ty.Node node desc) v
        → Fits program blocks capacity t (ty.Node node desc) w → beginning program c (Some (ty.Node node desc)) v ≡ Some p → beginning program c (Some (ty.Node node desc)) w ≡ Some p → v ≡ w
    union-begins node desc x c v w p has union fits other e f =
        let mine = is-union node desc x v has union fits in
        let theirs = is-union node desc x w has union other in
        mine.2
        ∙ both-some (is_node c (ty.Node node desc)) (Alt mine.0 mine.1) (Alt theirs.0 theirs.1) p (subst (λ y. beginning program c (Some (ty.Node node desc)) y ≡ Some p) mine.2 e)
        (subst (λ y. beginning program c (Some (ty.Node node desc)) y ≡ Some p) theirs.2 f)
        ∙ sym theirs.2

    struct-read : {s t : Scope} (node : TypeId) (desc : Option Expr) (x : Structure) (f : Field) (name : List ℕ) (names : List (List ℕ)) (v w : Tree) → HasStructure program node x → f.name ≡ name → MayStep program x f
        → x.is_union ≡ false → Same program (ty.Node node desc) v w → Fits program blocks capacity s (ty.Node node desc) v → Fits program blocks capacity t (ty.Node node desc) w
        → ((a b : Scope) (p q : Tree) → Same program f.ty p q → Fits program blocks capacity a f.ty p → Fits program blocks capacity b f.ty q → read_path program names f.ty p ≡ read_path program names f.ty q)
        → read_path program (name ∷ names) (ty.Node node None) v ≡ read_path program (name ∷ names) (ty.Node node None) w
    struct-read {s} {t} node desc x f name names v w has named may struct same fits other later =
        let place = named-place program settled node x f name has may.there named in
        let mine = is-struct node desc x v has struct fits in
        let theirs = is-struct node desc x w has struct other in
        let recs = subst (λ y. Same program (ty.Node node desc) (Rec mine.0) y) theirs.1 (subst (λ y. Same program (ty.Node node desc) y w) mine.1 same) in
        let all = same-fields node desc x mine.0 theirs.0 has recs mine.2 theirs.2 in
        let p = field-same mine.2 theirs.0 theirs.2 place.0 f.ty (get-map (λ g. g.ty) x.fields place.0 f place.2) all in
        read-field program node x f name names place.0 v p.v mine.0 has struct place.1 place.2 mine.1 p.there
        ∙ later (inside s node (Rec mine.0)) (inside t node (Rec theirs.0)) p.v p.w p.same p.fits p.other_fits
        ∙ sym (read-field program node x f name names place.0 w p.w theirs.0 has struct place.1 place.2 theirs.1 p.other)

    pub reads-same : {node : TypeId} {steps : List (List ℕ)} {type : Ty} → Leads program by_name node steps type → IsTrue (is_number type) → (desc : Option Expr) (s t : Scope) (v w : Tree)
        → Same program (ty.Node node desc) v w → Fits program blocks capacity s (ty.Node node desc) v → Fits program blocks capacity t (ty.Node node desc) w
        → read_path program steps (ty.Node node None) v ≡ read_path program steps (ty.Node node None) w
    reads-same (last_step {node} {x = name} {s = x} {f} has named may) number desc s t v w (Same.begins {p} c e g y z) fits other = go x.is_union refl
      where
        go : (b : Bool) → x.is_union ≡ b → read_path program (name ∷ []) (ty.Node node None) v ≡ read_path program (name ∷ []) (ty.Node node None) w
        go true union = ap (read_path program (name ∷ []) (ty.Node node None)) (union-begins node desc x c v w p has union fits other e g)
        go false struct =
            struct-read node desc x f name [] v w has named may struct (Same.begins c e g y z) fits other (λ a b p q same mine theirs. number-same f.ty p q number same mine theirs)
    reads-same (next_step {node} {next} {x = name} {xs = names} {s = x} {f} {desc = inner} {type} has named may is rest) number desc s t v w (Same.begins {p} c e g y z) fits other =
        go (reads-same rest number inner) x.is_union refl
      where
        go : ((a b : Scope) (p q : Tree) → Same program (ty.Node next inner) p q → Fits program blocks capacity a (ty.Node next inner) p → Fits program blocks capacity b (ty.Node next inner) q
            → read_path program names (ty.Node next None) p ≡ read_path program names (ty.Node next None) q)
            → (b : Bool) → x.is_union ≡ b → read_path program (name ∷ names) (ty.Node node None) v ≡ read_path program (name ∷ names) (ty.Node node None) w
        go later true union = ap (read_path program (name ∷ names) (ty.Node node None)) (union-begins node desc x c v w p has union fits other e g)
        go later false struct =
            struct-read node desc x f name names v w has named may struct (Same.begins c e g y z) fits other
            (λ a b p q same mine theirs.
            ap (λ t. read_path program names t p) is
            ∙ read-desc program names next inner p
            ∙ later a b p q (subst (λ y. Same program y p q) is same) (subst (λ y. Fits program blocks capacity a y p) is mine) (subst (λ y. Fits program blocks capacity b y q) is theirs)
            ∙ sym (ap (λ t. read_path program names t q) is ∙ read-desc program names next inner q))
    reads-same leads number desc s t v w (Same.reshaped {o} r q) fits other = sym (reads-kept settled leads number desc o v r) ∙ reads-kept settled leads number desc o w q
    reads-same {node} {steps} {type} leads number desc s t v w (Same.zeros z y) fits other = zero-number node desc v steps type leads number fits z ∙ sym (zero-number node desc w steps type leads number other y)
    reads-same {node} {steps} leads number desc s t v w (Same.equal e) fits other = ap (read_path program steps (ty.Node node None)) e
