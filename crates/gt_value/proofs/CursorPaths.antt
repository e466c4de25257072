-- A part of a part is a part of the whole.
use Rattle.std.proofs.Common.{◌≡◌, ℕ, zero, suc, ◌+◌, ◌*◌, Bool, true, false, cond, List, [], ◌∷◌, ◌++◌, refl, ap, subst, ◌∙◌, Option, Some, None}
use Rattle.std.specs.Prelude.{◌==◌, slice_get}
use Rattle.gt_types.specs.declared.expressions.Expr.{Expr}
use Rattle.gt_types.specs.declared.types.TypeId.{TypeId}
use Rattle.gt_types.specs.declared.types.Ty.{Ty}
use Rattle.gt_types.specs.declared.types.Ty.TheVariants as ty
use Rattle.gt_types.specs.declared.program.Field.{Field}
use Rattle.gt_types.specs.declared.program.Structure.{Structure}
use Rattle.gt_types.specs.declared.program.Program.{Program}
use Rattle.gt_types.specs.Settled.{Settled}
use Rattle.gt_layout.specs.declared.planes.Plane.{Plane}
use Rattle.gt_layout.specs.Storages.{extent_of}
use Rattle.gt_layout.specs.Places.{begin_at}
use Rattle.gt_tree.specs.Trees.{Tree, Num, Null, To, Raw, Rec, Alt, Row, Trees, End, And, part_at, part_of}
use Rattle.gt_tree.specs.Scopes.{Scope, inside}
use Rattle.gt_tree.proofs.Commons.{one-common}
use Rattle.gt_tree.proofs.PathBegins.{same-number}
use Rattle.gt_value.specs.declared.places.Holder.{Holder}
use Rattle.gt_value.specs.declared.places.Holder.TheVariants as lies_in
use Rattle.gt_value.specs.Places.{Part, PartLies}
use Rattle.gt_value.proofs.FindingSteps.{part-there}

-- ---- parts

through : (b : Bool) (tree : Tree) (path more : List ℕ) (rest : List ℕ) (part : Tree) → (part_at tree path ≡ Some part → part_at tree more ≡ part_at part rest)
    → cond b (part_at tree path) None ≡ Some part → cond b (part_at tree more) None ≡ part_at part rest
through true tree path more rest part h e = h e
through false tree path more rest part h e = absurd (cc)

mutual
  pub part-after : (tree : Tree) (path rest : List ℕ) (part : Tree) → part_at tree path ≡ Some part → part_at tree (path ++ rest) ≡ part_at part rest
  part-after tree [] rest part e = let same : tree ≡ part = cc in ap (λ t. part_at t rest) same
  part-after (Rec trees) (i ∷ path) rest part e = part-after_of trees i path rest part e
  part-after (Row trees) (i ∷ path) rest part e = part-after_of trees i path rest part e
  part-after (Alt (Some member) tree) (i ∷ path) rest part e = through (member == i) tree path (path ++ rest) rest part (part-after tree path rest part) e
  part-after (Alt None tree) (i ∷ path) rest part e = part-after tree path rest part e
  part-after (Num n) (i ∷ path) rest part e = absurd (cc)
  part-after Null (i ∷ path) rest part e = absurd (cc)
  part-after (To id) (i ∷ path) rest part e = absurd (cc)
  part-after (Raw bytes) (i ∷ path) rest part e = absurd (cc)

  part-after_of : (trees : Trees) (i : ℕ) (path rest : List ℕ) (part : Tree) → part_of trees i path ≡ Some part → part_of trees i (path ++ rest) ≡ part_at part rest
  part-after_of End i path rest part e = absurd (cc)
  part-after_of (And tree trees) zero path rest part e = part-after tree path rest part e
  part-after_of (And tree trees) (suc i) path rest part e = part-after_of trees i path rest part e

below-member : (b : Bool) (tree : Tree) (rest : List ℕ) → cond b (Some tree) None ≡ None → cond b (part_at tree rest) None ≡ None
below-member true tree rest e = absurd (cc)
below-member false tree rest e = refl

below-of : (trees : Trees) (i : ℕ) (rest : List ℕ) → part_of trees i [] ≡ None → part_of trees i rest ≡ None
below-of End i rest e = refl
below-of (And tree trees) zero rest e = absurd (cc)
below-of (And tree trees) (suc i) rest e = below-of trees i rest e

-- where there is no part, none lies below
pub part-below : (tree : Tree) (i : ℕ) (rest : List ℕ) → part_at tree (i ∷ []) ≡ None → part_at tree (i ∷ rest) ≡ None
part-below (Rec trees) i rest e = below-of trees i rest e
part-below (Row trees) i rest e = below-of trees i rest e
part-below (Alt (Some member) tree) i rest e = below-member (member == i) tree rest e
part-below (Alt None tree) i rest e = absurd (cc)
part-below (Num n) i rest e = refl
part-below Null i rest e = refl
part-below (To id) i rest e = refl
part-below (Raw bytes) i rest e = refl

-- ---- where parts lie

-- a part of an active member
record MemberIn (program : Program) (planes : List Plane) (scope : Scope) (active : Bool) (at : ℕ) (node : TypeId) (i : ℕ) (tree : Tree) (rest : List ℕ) (q : Part) : Type 0 where
  s : Structure
  f : Field
  has : slice_get program.structures node.0 ≡ Some s
  got : slice_get s.fields i ≡ Some f
  lies : PartLies program planes (inside scope node (Alt (Some i) tree)) (lies_in.Field node i) active at f.ty tree rest q

module _ {program : Program} {planes : List Plane} where
  pub lies-there : {scope : Scope} {holder : Holder} {active : Bool} {at : ℕ} {type : Ty} {tree : Tree} {path : List ℕ} {p : Part} → PartLies program planes scope holder active at type tree path p → part_at tree path ≡ Some p.tree
  lies-there PartLies.whole = refl
  lies-there (PartLies.field {i} {trees} {tree} {path} has struct laid got spot there lies) = part-there trees i path tree there ∙ lies-there lies
  lies-there (PartLies.member {i} {tree} {path} has union got lies) = ap (λ b. cond b (part_at tree path) None) (same-number i) ∙ lies-there lies
  lies-there (PartLies.common has c lies) = lies-there lies
  lies-there (PartLies.array {i} {trees} {tree} {path} out there lies) = part-there trees i path tree there ∙ lies-there lies
  lies-there (PartLies.tail {i} {trees} {tree} {path} out there lies) = part-there trees i path tree there ∙ lies-there lies

  pub lies-on : {scope : Scope} {holder : Holder} {active : Bool} {at : ℕ} {type : Ty} {tree : Tree} {path : List ℕ} {p : Part} → PartLies program planes scope holder active at type tree path p
      → (rest : List ℕ) (q : Part) → PartLies program planes p.scope p.holder p.active p.bit p.type p.tree rest q → PartLies program planes scope holder active at type tree (path ++ rest) q
  lies-on PartLies.whole rest q h = h
  lies-on (PartLies.field has struct laid got spot there lies) rest q h = PartLies.field has struct laid got spot there (lies-on lies rest q h)
  lies-on (PartLies.member has union got lies) rest q h = PartLies.member has union got (lies-on lies rest q h)
  lies-on (PartLies.common has c lies) rest q h = PartLies.common has c (lies-on lies rest q h)
  lies-on (PartLies.array out there lies) rest q h = PartLies.array out there (lies-on lies rest q h)
  lies-on (PartLies.tail out there lies) rest q h = PartLies.tail out there (lies-on lies rest q h)

  member-in : {scope : Scope} {holder : Holder} {active : Bool} {at : ℕ} {type : Ty} {value : Tree} {path : List ℕ} {q : Part} → PartLies program planes scope holder active at type value path q
      → (node : TypeId) (desc : Option Expr) (i : ℕ) (tree : Tree) (rest : List ℕ) → type ≡ ty.Node node desc → value ≡ Alt (Some i) tree → path ≡ i ∷ rest → MemberIn program planes scope active at node i tree rest q
  member-in PartLies.whole node desc i tree rest t v p = absurd (cc)
  member-in (PartLies.field has struct laid got spot there lies) node desc i tree rest t v p = absurd (cc)
  member-in {scope} {active} {at} {q} (PartLies.member {i = j} {node = n} {desc = d} {s} {f} {tree = w} {path} has union got lies) node desc i tree rest t v p =
      let nodes : n ≡ node = cc in
      let places : j ≡ i = cc in
      let trees : w ≡ tree = cc in
      let paths : path ≡ rest = cc in
      record {
        s = s;
        f = f;
        has = subst (λ x. slice_get program.structures x.0 ≡ Some s) nodes has;
        got = subst (λ x. slice_get s.fields x ≡ Some f) places got;
        lies =
            subst (λ x. PartLies program planes (inside scope x (Alt (Some i) tree)) (lies_in.Field x i) active at f.ty tree rest q) nodes
            (subst (λ x. PartLies program planes (inside scope n (Alt (Some x) tree)) (lies_in.Field n x) active at f.ty tree rest q) places
            (subst (λ x. PartLies program planes (inside scope n (Alt (Some j) x)) (lies_in.Field n j) active at f.ty x rest q) trees
            (subst (λ x. PartLies program planes (inside scope n (Alt (Some j) w)) (lies_in.Field n j) active at f.ty w x q) paths lies)));
      }
  member-in (PartLies.common has c lies) node desc i tree rest t v p = absurd (cc)
  member-in (PartLies.array out there lies) node desc i tree rest t v p = absurd (cc)
  member-in (PartLies.tail out there lies) node desc i tree rest t v p = absurd (cc)

  module _ (settled : Settled program) where
    -- what lies at the end of a longer path lies at the rest of it
    pub lies-after : {scope : Scope} {holder : Holder} {active : Bool} {at : ℕ} {type : Ty} {tree : Tree} {path : List ℕ} {p : Part} → PartLies program planes scope holder active at type tree path p
        → (rest : List ℕ) (q : Part) → PartLies program planes scope holder active at type tree (path ++ rest) q → PartLies program planes p.scope p.holder p.active p.bit p.type p.tree rest q
    lies-after PartLies.whole rest q h = h
    lies-after (PartLies.field {scope} {active} {at} {i} {node} {s} {plane} {f} {spot} {trees} {tree} {path} has struct laid got spot_is there lies) rest q
        (PartLies.field {s = s'} {plane = plane'} {f = f'} {spot = spot'} {tree = tree'} has' struct' laid' got' spot_is' there' lies') =
        let same : s' ≡ s = cc in
        let planes_same : plane' ≡ plane = cc in
        let fields : f' ≡ f = let a = subst (λ x. slice_get x.fields i ≡ Some f') same got' in cc in
        let spots : spot' ≡ spot = let a = subst (λ x. slice_get x.fields i ≡ Some spot') planes_same spot_is' in cc in
        let trees_same : tree' ≡ tree = cc in
        lies-after lies rest q
        (subst (λ x. PartLies program planes (inside scope node (Rec trees)) (lies_in.Field node i) active (at + begin_at x) f.ty tree (path ++ rest) q) spots
        (subst (λ x. PartLies program planes (inside scope node (Rec trees)) (lies_in.Field node i) active (at + begin_at spot') x.ty tree (path ++ rest) q) fields
        (subst (λ x. PartLies program planes (inside scope node (Rec trees)) (lies_in.Field node i) active (at + begin_at spot') f'.ty x (path ++ rest) q) trees_same lies')))
    lies-after (PartLies.member {scope} {holder} {active} {at} {i} {node} {desc} {s} {f} {tree} {path} has union got lies) rest q h =
        let m = member-in h node desc i tree (path ++ rest) refl refl refl in
        let same : m.s ≡ s = let a = m.has in cc in
        let fields : m.f ≡ f = let a = subst (λ x. slice_get x.fields i ≡ Some m.f) same m.got in cc in
        lies-after lies rest q (subst (λ x. PartLies program planes (inside scope node (Alt (Some i) tree)) (lies_in.Field node i) active at x.ty tree (path ++ rest) q) fields m.lies)
    lies-after (PartLies.common {scope} {holder} {at} {node} {common} {s} {tree} {path} has c lies) rest q (PartLies.common {common = other} {s = s'} has' c' lies') =
        let same : s' ≡ s = cc in
        let commons : other ≡ common = one-common program node s other common settled has (subst (λ x. Rattle.gt_types.specs.Unions.IsCommon program x other) same c') c in
        lies-after lies rest q (subst (λ x. PartLies program planes (inside scope node (Alt None tree)) holder false at (ty.Node x None) tree (path ++ rest) q) commons lies')
    lies-after (PartLies.array {scope} {holder} {active} {at} {i} {elem} {tree} {path} out there lies) rest q (PartLies.array {elem = elem'} {tree = tree'} out' there' lies') =
        let elems : elem' ≡ elem = cc in
        let trees_same : tree' ≡ tree = cc in
        lies-after lies rest q
        (subst (λ x. PartLies program planes scope holder active (at + i * (8 * (extent_of planes x).size)) x tree (path ++ rest) q) elems
        (subst (λ x. PartLies program planes scope holder active (at + i * (8 * (extent_of planes elem').size)) elem' x (path ++ rest) q) trees_same lies'))
    lies-after (PartLies.array out there lies) rest q (PartLies.tail out' there' lies') = absurd (cc)
    lies-after (PartLies.tail {scope} {holder} {active} {at} {i} {elem} {tree} {path} out there lies) rest q (PartLies.tail {elem = elem'} {tree = tree'} out' there' lies') =
        let elems : elem' ≡ elem = cc in
        let trees_same : tree' ≡ tree = cc in
        lies-after lies rest q
        (subst (λ x. PartLies program planes scope holder active (at + i * (8 * (extent_of planes x).size)) x tree (path ++ rest) q) elems
        (subst (λ x. PartLies program planes scope holder active (at + i * (8 * (extent_of planes elem').size)) elem' x (path ++ rest) q) trees_same lies'))
    lies-after (PartLies.tail out there lies) rest q (PartLies.array out' there' lies') = absurd (cc)
