-- Two values of one type that come from one are one value.
use Rattle.std.proofs.Common.{◌≡◌, ℕ, true, false, IsTrue, List, [], ◌∷◌, length, refl, ap, sym, subst, ◌∙◌, arith, Option, Some, None, ◌⊎◌, inl, inr}
use Rattle.std.specs.Prelude.{All, Contains, ℤ, pos, slice_get}
use Rattle.std.proofs.lemmas.List.Elements.{All-head, All-tail, All-map, All-weaker, All-contains_itself}
use Rattle.std.proofs.lemmas.Option.{slice_get_within, get_or_from_slice_get}
use Rattle.gt_types.specs.declared.expressions.Expr.{Expr}
use Rattle.gt_types.specs.declared.types.TypeId.{TypeId}
use Rattle.gt_types.specs.declared.types.Ty.{Ty}
use Rattle.gt_types.specs.declared.types.Ty.TheVariants as ty
use Rattle.gt_types.specs.declared.program.Structure.{Structure}
use Rattle.gt_types.specs.declared.program.Root.{Root}
use Rattle.gt_types.specs.declared.program.Program.{Program}
use Rattle.gt_types.specs.Contains.{HasStructure}
use Rattle.gt_types.specs.Settled.{Settled}
use Rattle.gt_tree.specs.Trees.{Tree, Num, Null, To, Raw, Rec, Alt, Row, Trees, End, And, count, IsZero, is_leaf}
use Rattle.gt_tree.specs.Blocks.{Block, Blocks}
use Rattle.gt_tree.specs.Scopes.{Scope, outside, inside, eval_in, is_node, beginning}
use Rattle.gt_tree.specs.Fits.{Fits, AllFit, EachFits, IsActive, active_member, types_of, root_types}
use Rattle.gt_tree.specs.Reshapes.{Reshapes, AllReshape}
use Rattle.gt_tree.specs.WriteLaws.{WriteIsOne, RecordWriteIsOne}
use Rattle.gt_tree.proofs.Fitting.{fits-member, fits-common}
use Rattle.gt_tree.proofs.FixedParts.{may-pointer, is-number, is-bits, is-opaque, is-pointer, is-struct, is-union, is-nothing, is-array, is-tail, is-none, is-no_more}
use Rattle.gt_tree.proofs.WriteReads.{roots-kept}
use Rattle.gt_tree.proofs.WriteScopes.{ReadSame, RootsSame, Beside, same-count, same-desc}
use Rattle.gt_tree.proofs.WriteAlike.{Same, AllSame, zip, cond-some, same-num, same-fields, reads-same}
use Rattle.gt_tree.proofs.WriteParts.{EachSame, member-same, common-same, array-same, tail-same}

-- ---- leaves

pub old-leaf : {program : Program} {type : Ty} {o v : Tree} → IsTrue (is_leaf v) → Reshapes program type o v → o ≡ v
old-leaf h (Reshapes.leaf e) = refl
old-leaf h (Reshapes.struct has u all) = absurd (cc)
old-leaf h (Reshapes.same has u got r) = absurd (cc)
old-leaf h Reshapes.same_none = absurd (cc)
old-leaf h (Reshapes.other has u ne changes) = absurd (cc)
old-leaf h (Reshapes.array e each) = absurd (cc)
old-leaf h (Reshapes.tail e each) = absurd (cc)

begun-leaf : (program : Program) (c : TypeId) (type : Ty) (v p : Tree) → IsTrue (is_leaf v) → beginning program c (Some type) v ≡ Some p → v ≡ p
begun-leaf program c type (Num n) p h e = cond-some (is_node c type) (Num n) p e
begun-leaf program c type Null p h e = cond-some (is_node c type) Null p e
begun-leaf program c type (To id) p h e = cond-some (is_node c type) (To id) p e
begun-leaf program c type (Raw bytes) p h e = cond-some (is_node c type) (Raw bytes) p e
begun-leaf program c type (Rec trees) p h e = absurd (cc)
begun-leaf program c type (Alt member tree) p h e = absurd (cc)
begun-leaf program c type (Row trees) p h e = absurd (cc)

same-leaf : {program : Program} {type : Ty} {v w : Tree} → IsTrue (is_leaf v) → IsTrue (is_leaf w) → (IsZero v → IsZero w → v ≡ w) → Same program type v w → v ≡ w
same-leaf h k zero (Same.reshaped r q) = sym (old-leaf h r) ∙ old-leaf k q
same-leaf h k zero (Same.zeros z y) = zero z y
same-leaf {program} {type} {v} {w} h k zero (Same.begins {p} c e f z y) = begun-leaf program c type v p h e ∙ sym (begun-leaf program c type w p k f)
same-leaf h k zero (Same.equal e) = e

zero-bytes : (xs ys : List ℕ) → length xs ≡ length ys → All (λ byte. byte ≡ 0) xs → All (λ byte. byte ≡ 0) ys → xs ≡ ys
zero-bytes [] [] e z y = refl
zero-bytes [] (b ∷ bs) e z y = absurd (omega arith)
zero-bytes (c ∷ cs) [] e z y = absurd (omega arith)
zero-bytes (c ∷ cs) (b ∷ bs) e z y =
    let head = All-head (λ byte. byte ≡ 0) c cs z ∙ sym (All-head (λ byte. byte ≡ 0) b bs y) in
    let rest = zero-bytes cs bs (omega arith) (All-tail (λ byte. byte ≡ 0) c cs z) (All-tail (λ byte. byte ≡ 0) b bs y) in
    cc

null-same : {program : Program} {type : Ty} (w : Tree) (blocks : Blocks) → (w ≡ Null) ⊎ ((id : ℕ) × (w ≡ To id) × (b : Block) × (blocks id ≡ Some b)) → Same program type Null w → Null ≡ w
null-same w blocks (inl e) same = sym e
null-same {program} {type} w blocks (inr (id, e, b, is)) same = same-leaf refl refl (λ z y. absurd y) (subst (Same program type Null) e same) ∙ sym e

to-same : {program : Program} {type : Ty} (id : ℕ) (w : Tree) (blocks : Blocks) → (w ≡ Null) ⊎ ((other : ℕ) × (w ≡ To other) × (b : Block) × (blocks other ≡ Some b)) → Same program type (To id) w → To id ≡ w
to-same {program} {type} id w blocks (inl e) same = same-leaf refl refl (λ z y. absurd z) (subst (Same program type (To id)) e same) ∙ sym e
to-same {program} {type} id w blocks (inr (other, e, b, is)) same = same-leaf refl refl (λ z y. absurd z) (subst (Same program type (To id)) e same) ∙ sym e

Contains-get : {X : Type 0} (xs : List X) (i : ℕ) (x : X) → slice_get xs i ≡ Some x → Contains xs x
Contains-get xs i x e = (i, slice_get_within xs i x e, get_or_from_slice_get xs i x x e)

count-same : (value : Option ℤ) (n m : ℕ) → value ≡ Some (pos n) → value ≡ Some (pos m) → n ≡ m
count-same value n m a b = cc

and-same : (v w : Tree) (vs ws : Trees) → v ≡ w → vs ≡ ws → And v vs ≡ And w ws
and-same v w vs ws e f = cc

module _ (program : Program) (settled : Settled program) (a : Trees) (blocks : Blocks) (capacity : ℕ) where
  reads : {s t : Scope} (node : TypeId) (desc : Option Expr) (v w : Tree) → Same program (ty.Node node desc) v w → Fits program blocks capacity s (ty.Node node desc) v → Fits program blocks capacity t (ty.Node node desc) w
      → ReadSame program node v w
  reads {s} {t} node desc v w same fits other = λ steps leads. reads-same settled leads.1 leads.2 desc s t v w same fits other

  inner : {s t : Scope} (node : TypeId) (desc : Option Expr) (v w : Tree) (x : Structure) → Beside program a s t (ty.Node node desc) → ReadSame program node v w → HasStructure program node x
      → All (λ type. Beside program a (inside s node v) (inside t node w) type) (types_of x.fields)
  inner {s} {t} node desc v w x b r has =
      All-map (λ type. Beside program a (inside s node v) (inside t node w) type) (λ f. f.ty) x.fields
      (All-weaker (Contains x.fields) (λ f. Beside program a (inside s node v) (inside t node w) f.ty) (λ f c. Beside.in_field b r has c) x.fields (All-contains_itself x.fields))

  -- ---- structures

  -- the other value of a struct, with all that its fields need
  record StructCase (s t : Scope) (node : TypeId) (x : Structure) (vs : Trees) (w : Tree) : Type 0 where
    trees : Trees
    is : w ≡ Rec trees
    beside : All (λ type. Beside program a (inside s node (Rec vs)) (inside t node (Rec trees)) type) (types_of x.fields)
    fit : AllFit program blocks capacity (inside t node (Rec trees)) (types_of x.fields) trees
    same : AllSame program (types_of x.fields) vs trees

  struct-case : {s t : Scope} (node : TypeId) (desc : Option Expr) (x : Structure) (vs : Trees) (w : Tree) → HasStructure program node x → x.is_union ≡ false → AllFit program blocks capacity (inside s node (Rec vs)) (types_of x.fields) vs
      → Beside program a s t (ty.Node node desc) → Fits program blocks capacity t (ty.Node node desc) w → Same program (ty.Node node desc) (Rec vs) w → StructCase s t node x vs w
  struct-case {s} {t} node desc x vs w has struct all b other same =
      let found = is-struct node desc x w has struct other in
      let now = subst (Same program (ty.Node node desc) (Rec vs)) found.1 same in
      let theirs = subst (λ y. Fits program blocks capacity t (ty.Node node desc) y) found.1 other in
      record {
        trees = found.0;
        is = found.1;
        beside = inner node desc (Rec vs) (Rec found.0) x b (reads node desc (Rec vs) (Rec found.0) now (Fits.struct {scope = s} has struct all) theirs) has;
        fit = found.2;
        same = same-fields node desc x vs found.0 has now all found.2;
      }

  -- the other value of a union, which has the same active member
  record UnionCase (s t : Scope) (node : TypeId) (desc : Option Expr) (member : Option ℕ) (v w : Tree) : Type 0 where
    part : Tree
    is : w ≡ Alt member part
    fits : Fits program blocks capacity t (ty.Node node desc) (Alt member part)
    same : Same program (ty.Node node desc) (Alt member v) (Alt member part)
    read : ReadSame program node (Alt member v) (Alt member part)

  union-case : {s t : Scope} (node : TypeId) (desc : Option Expr) (x : Structure) (member : Option ℕ) (v w : Tree) → HasStructure program node x → x.is_union ≡ true → IsActive program s node desc x (Alt member v) member
      → Beside program a s t (ty.Node node desc) → Fits program blocks capacity s (ty.Node node desc) (Alt member v) → Fits program blocks capacity t (ty.Node node desc) w → Same program (ty.Node node desc) (Alt member v) w
      → UnionCase s t node desc member v w
  union-case {s} {t} node desc x member v w has union active b fits other same =
      let found = is-union node desc x w has union other in
      let desc_same = same-desc program settled a s t node desc (Alt member v) w x b (reads node desc (Alt member v) w same fits other) has union in
      let equal : found.0 ≡ member = sym (sym active ∙ ap (λ d. active_member d x.fields) desc_same ∙ found.3) in
      let is = found.2 ∙ ap (λ m. Alt m found.1) equal in
      let theirs = subst (λ y. Fits program blocks capacity t (ty.Node node desc) y) is other in
      let now = subst (Same program (ty.Node node desc) (Alt member v)) is same in
      record { part = found.1; is = is; fits = theirs; same = now; read = reads node desc (Alt member v) (Alt member found.1) now fits theirs }

  -- ---- from the outside in

  mutual
    pub one-value : {s : Scope} {type : Ty} {v : Tree} → Fits program blocks capacity s type v → (t : Scope) (w : Tree) → Beside program a s t type → Fits program blocks capacity t type w → Same program type v w → v ≡ w
    one-value (Fits.number {scalar} {n} room) t w b other same =
        let found = is-number scalar w other in
        same-num (subst (Same program (ty.Num scalar) (Num n)) found.1 same) ∙ sym found.1
    one-value (Fits.bits {unit} {width} {n} room) t w b other same =
        let found = is-bits unit width w other in
        same-num (subst (Same program (ty.Bits unit width) (Num n)) found.1 same) ∙ sym found.1
    one-value (Fits.opaque {size} {align} {bytes} long small) t w b other same =
        let found = is-opaque size align w other in
        same-leaf refl refl (λ z y. ap Raw (zero-bytes bytes found.0 (long ∙ sym found.2) z y)) (subst (Same program (ty.Opaque size align) (Raw bytes)) found.1 same) ∙ sym found.1
    one-value (Fits.null {type} p) t w b other same = null-same w blocks (is-pointer type w p other) same
    one-value (Fits.to {scope} {type} {id} m) t w b other same = to-same id w blocks (is-pointer type w (may-pointer blocks (eval_in program scope) type id m) other) same
    one-value (Fits.struct {node} {desc} {s = x} {trees} has struct all) t w b other same =
        let c = struct-case node desc x trees w has struct all b other same in
        ap Rec (one-value_fields all (inside t node (Rec c.trees)) c.trees c.beside c.fit c.same) ∙ sym c.is
    one-value (Fits.member {node} {desc} {s = x} {place} {f} {tree} has union active get fits) t w b other same =
        let c = union-case node desc x (Some place) tree w has union active b (Fits.member has union active get fits) other same in
        ap (Alt (Some place))
        (one-value fits (inside t node (Alt (Some place) c.part)) c.part (Beside.in_field b c.read has (Contains-get x.fields place f get)) (fits-member node desc x place f c.part has get c.fits)
        (member-same settled node desc x has place f get c.same))
        ∙ sym c.is
    one-value (Fits.common {node} {common} {desc} {s = x} {tree} has union active o plain fits) t w b other same =
        let c = union-case node desc x None tree w has union active b (Fits.common has union active o plain fits) other same in
        ap (Alt None)
        (one-value fits (inside t node (Alt None c.part)) c.part (Beside.in_common b c.read has o) (fits-common node common desc x c.part settled has o c.fits) (common-same settled node desc x has common o c.same))
        ∙ sym c.is
    one-value (Fits.nothing {node} {desc} {s = x} has union active none) t w b other same =
        let c = union-case node desc x None (Rec End) w has union active b (Fits.nothing has union active none) other same in
        ap (Alt None) (sym (is-nothing node desc x c.part has none c.fits)) ∙ sym c.is
    one-value (Fits.array {type} {elem} {n} {trees} e many each) t w b other same =
        let found = is-array type elem n w e other in
        let as_many : count trees ≡ count found.0 = many ∙ sym found.2 in
        ap Row (one-value_each each t found.0 (Beside.in_array b e) as_many found.3 (array-same type elem n trees found.0 e as_many (subst (Same program type (Row trees)) found.1 same))) ∙ sym found.1
    one-value (Fits.tail {scope} {type} {elem} {length} {n} {trees} e value le many each) t w b other same =
        let found = is-tail type elem length w e other in
        let as_many = count-same (eval_in program scope length) (count trees) (count found.0) (value ∙ ap (λ k. Some (pos k)) (sym many)) (same-count program settled a scope t type elem length b e ∙ found.2) in
        ap Row (one-value_each each t found.0 (Beside.in_tail b e) as_many found.3 (tail-same type elem length trees found.0 e as_many (subst (Same program type (Row trees)) found.1 same))) ∙ sym found.1

    one-value_fields : {s : Scope} {types : List Ty} {vs : Trees} → AllFit program blocks capacity s types vs → (t : Scope) (ws : Trees) → All (λ type. Beside program a s t type) types → AllFit program blocks capacity t types ws
        → AllSame program types vs ws → vs ≡ ws
    one-value_fields AllFit.none t ws b other same = sym (is-none ws other)
    one-value_fields (AllFit.more {scope} {type} {types} {tree} {trees} fits all) t ws b (AllFit.more {tree = w} {trees = later} first others) (AllSame.more same rest) =
        and-same tree w trees later (one-value fits t w (All-head (λ y. Beside program a scope t y) type types b) first same)
        (one-value_fields all t later (All-tail (λ y. Beside program a scope t y) type types b) others rest)

    one-value_each : {s : Scope} {type : Ty} {vs : Trees} → EachFits program blocks capacity s type vs → (t : Scope) (ws : Trees) → Beside program a s t type → count vs ≡ count ws → EachFits program blocks capacity t type ws
        → EachSame program type vs ws → vs ≡ ws
    one-value_each EachFits.no_more t ws b many other same = sym (is-no_more ws (sym many))
    one-value_each (EachFits.one_more fits each) t ws b many EachFits.no_more same = absurd (omega arith)
    one-value_each (EachFits.one_more {tree} {trees} fits each) t ws b many (EachFits.one_more {tree = w} {trees = later} first others) (EachSame.one_more same rest) =
        and-same tree w trees later (one-value fits t w b first same) (one-value_each each t later b (omega arith) others rest)

pub write-one : (program : Program) → Settled program → WriteIsOne program
write-one program settled blocks statics kind capacity old path leaf v w may x y =
    one-value program settled statics blocks capacity x.fits (outside statics) w (Beside.at_block kind may) y.fits (Same.reshaped x.reshapes y.reshapes)

-- ---- the static record

rec-part : (vs ws : Trees) → Rec vs ≡ Rec ws → vs ≡ ws
rec-part vs ws e = cc

roots-beside : (program : Program) (a b c : Trees) → RootsSame b c → All (Beside program a (outside b) (outside c)) (root_types program)
roots-beside program a b c same =
    All-map (Beside program a (outside b) (outside c)) (λ (r : Root). r.ty) program.roots
    (All-weaker (Contains program.roots) (λ (r : Root). Beside program a (outside b) (outside c) r.ty) (λ r contains. Beside.at_root r contains same) program.roots (All-contains_itself program.roots))

pub record-write-one : (program : Program) → Settled program → RecordWriteIsOne program
record-write-one program settled blocks old path leaf v w x y =
    let theirs = subst (λ us. AllReshape program (root_types program) us w) (rec-part y.written x.written (sym y.with_leaf ∙ x.with_leaf)) y.reshapes in
    one-value_fields program settled End blocks 0 x.fits (outside w) w (roots-beside program End v w (λ i. sym (roots-kept x.reshapes i) ∙ roots-kept theirs i)) y.fits (zip x.reshapes theirs)
