-- The parts of unions and rows that come from one value come from one value too.
use Rattle.std.proofs.Common.{◌≡◌, ℕ, refl, ap, sym, subst, ◌∙◌, arith, Option, Some, None}
use Rattle.std.specs.Prelude.{◌≢◌, slice_get}
use Rattle.gt_types.specs.declared.expressions.Expr.{Expr}
use Rattle.gt_types.specs.declared.types.TypeId.{TypeId}
use Rattle.gt_types.specs.declared.types.Ty.{Ty, out-Ty}
use Rattle.gt_types.specs.declared.types.Ty.TheOpen as part
use Rattle.gt_types.specs.declared.types.Ty.TheVariants as ty
use Rattle.gt_types.specs.declared.program.Field.{Field}
use Rattle.gt_types.specs.declared.program.Structure.{Structure}
use Rattle.gt_types.specs.declared.program.Program.{Program}
use Rattle.gt_types.specs.Contains.{HasStructure}
use Rattle.gt_types.specs.Unions.{IsCommon}
use Rattle.gt_types.specs.Settled.{Settled}
use Rattle.gt_tree.specs.Trees.{Tree, Alt, Row, Trees, End, And, count, AreZero, without_pointers}
use Rattle.gt_tree.specs.Scopes.{is_node, beginning, type_of_field, type_there}
use Rattle.gt_tree.specs.Reshapes.{IsZeroOutside, Reshapes, EachReshapes, Changes, kept}
use Rattle.gt_tree.proofs.Commons.{one-common}
use Rattle.gt_tree.proofs.PathBits.{some-same}
use Rattle.gt_tree.proofs.FixedParts.{is-no_more}
use Rattle.gt_tree.proofs.WriteAlike.{Same, both-some}

-- ---- unions

-- the value that a union's value was: with the same member, with none then and now, or with another
pub data CameFrom (program : Program) (x : Structure) (m : Option ℕ) (v o : Tree) : Type 0 where
  stayed : (place : ℕ) (f : Field) (old : Tree) → o ≡ Alt m old → m ≡ Some place → slice_get x.fields place ≡ Some f → Reshapes program f.ty old v → CameFrom program x m v o
  rested : (old : Tree) → o ≡ Alt m old → m ≡ None → v ≡ without_pointers old → CameFrom program x m v o
  turned : (om : Option ℕ) (old : Tree) → o ≡ Alt om old → om ≢ m → Changes program x om old m v → CameFrom program x m v o

alt-member : (o v w : Tree) (m k : Option ℕ) → o ≡ Alt m v → o ≡ Alt k w → m ≡ k
alt-member o v w m k e f = cc

alt-tree : (o v w : Tree) (m k : Option ℕ) → o ≡ Alt m v → o ≡ Alt k w → v ≡ w
alt-tree o v w m k e f = cc

alt-part : (m : Option ℕ) (v w : Tree) → Alt m v ≡ Alt m w → v ≡ w
alt-part m v w e = cc

some-and-none : (m : Option ℕ) (place : ℕ) → m ≡ Some place → ¬ (m ≡ None)
some-and-none m place e f = cc

part-there : (a b : Option Tree) (p q : Tree) → a ≡ Some p → a ≡ Some q → p ≡ q
part-there a b p q e f = cc

module _ {program : Program} (settled : Settled program) (node : TypeId) (desc : Option Expr) (x : Structure) (has : HasStructure program node x) where
  pub came-from : {o : Tree} {m : Option ℕ} {v : Tree} → Reshapes program (ty.Node node desc) o (Alt m v) → CameFrom program x m v o
  came-from (Reshapes.leaf e) = absurd (cc)
  came-from (Reshapes.same {s = other} {place} {f} {old} h u got r) =
      let same : other ≡ x = some-same (slice_get program.structures node.0) other x h has in
      CameFrom.stayed place f old refl refl (subst (λ y. slice_get y.fields place ≡ Some f) same got) r
  came-from (Reshapes.same_none {tree}) = CameFrom.rested tree refl refl refl
  came-from (Reshapes.other {s = other} {old_member} {new_member} {old} {new} h u ne changes) =
      let same : other ≡ x = some-same (slice_get program.structures node.0) other x h has in
      CameFrom.turned old_member old refl ne (subst (λ y. Changes program y old_member old new_member new) same changes)

  -- the type of what is there, where this member is active
  module _ (m : Option ℕ) (type : Ty) (stays : (place : ℕ) (f : Field) → m ≡ Some place → slice_get x.fields place ≡ Some f → f.ty ≡ type)
      (there : (c : TypeId) → IsCommon program x c → type_there x c m ≡ Some type) where
    changes-same : {om : Option ℕ} {old v w : Tree} → Changes program x om old m v → Changes program x om old m w → Same program type v w
    changes-same {om} {old} {v} {w} (Changes.keeps {old_part = p} {common = c} o e f z) (Changes.keeps {old_part = q} {common = d} k g h y) =
        let same : d ≡ c = one-common program node x d c settled has k o in
        let began : beginning program c (type_there x c om) old ≡ Some q = subst (λ n. beginning program n (type_there x n om) old ≡ Some q) same g in
        let other : beginning program c (type_there x c m) w ≡ Some (kept m q) = subst (λ n. beginning program n (type_there x n m) w ≡ Some (kept m q)) same h in
        let outside : IsZeroOutside program c (type_there x c m) w = subst (λ n. IsZeroOutside program n (type_there x n m) w) same y in
        let one : q ≡ p = part-there (beginning program c (type_there x c om) old) None q p began e in
        Same.begins c (subst (λ t. beginning program c t v ≡ Some (kept m p)) (there c o) f) (subst (λ t. beginning program c t w ≡ Some (kept m p)) (there c o) (other ∙ ap (λ k. Some (kept m k)) one))
        (subst (λ t. IsZeroOutside program c t v) (there c o) z) (subst (λ t. IsZeroOutside program c t w) (there c o) outside)
    changes-same (Changes.keeps {common = c} o e f z) (Changes.clears none y) = absurd (none c o)
    changes-same (Changes.clears none z) (Changes.keeps {common = c} o e f y) = absurd (none c o)
    changes-same (Changes.clears none z) (Changes.clears other y) = Same.zeros z y

    part-same : {o v w : Tree} → CameFrom program x m v o → CameFrom program x m w o → Same program type v w
    part-same {o} {v} {w} (CameFrom.stayed place f old is e got r) (CameFrom.stayed i g other like e' got' q) =
        let mine = subst (λ t. Reshapes program t old v) (stays place f e got) r in
        let theirs = subst (λ t. Reshapes program t other w) (stays i g e' got') q in
        Same.reshaped mine (subst (λ u. Reshapes program type u w) (alt-tree o other old m m like is) theirs)
    part-same (CameFrom.stayed place f old is e got r) (CameFrom.rested other like none bare) = absurd (some-and-none m place e none)
    part-same {o} (CameFrom.stayed place f old is e got r) (CameFrom.turned om other like ne changes) = absurd (ne (alt-member o other old om m like is))
    part-same (CameFrom.rested other is none bare) (CameFrom.stayed place f old like e got r) = absurd (some-and-none m place e none)
    part-same {o} (CameFrom.rested old is none bare) (CameFrom.rested other like gone alike) = Same.equal (bare ∙ ap without_pointers (alt-tree o old other m m is like) ∙ sym alike)
    part-same {o} (CameFrom.rested old is none bare) (CameFrom.turned om other like ne changes) = absurd (ne (alt-member o other old om m like is))
    part-same {o} (CameFrom.turned om old is ne changes) (CameFrom.stayed place f other like e got r) = absurd (ne (alt-member o old other om m is like))
    part-same {o} (CameFrom.turned om old is ne changes) (CameFrom.rested other like none bare) = absurd (ne (alt-member o old other om m is like))
    part-same {o} {v} {w} (CameFrom.turned om old is ne changes) (CameFrom.turned k other like more others) =
        let theirs = subst (λ n. Changes program x n other m w) (alt-member o other old k om like is) others in
        changes-same changes (subst (λ u. Changes program x om u m w) (alt-tree o other old k om like is) theirs)

    alt-same : {v w : Tree} → Same program (ty.Node node desc) (Alt m v) (Alt m w) → Same program type v w
    alt-same (Same.reshaped r q) = part-same (came-from r) (came-from q)
    alt-same (Same.zeros z y) = Same.zeros z y
    alt-same {v} {w} (Same.begins {p} c e f z y) = Same.equal (alt-part m v w (both-some (is_node c (ty.Node node desc)) (Alt m v) (Alt m w) p e f))
    alt-same {v} {w} (Same.equal e) = Same.equal (alt-part m v w e)

  field-type : (place i : ℕ) (f g : Field) → slice_get x.fields place ≡ Some f → Some place ≡ Some i → slice_get x.fields i ≡ Some g → g.ty ≡ f.ty
  field-type place i f g got e other =
      let same : i ≡ place = cc in
      ap (λ y. y.ty) (some-same (slice_get x.fields place) g f (subst (λ k. slice_get x.fields k ≡ Some g) same other) got)

  pub member-same : (place : ℕ) (f : Field) {v w : Tree} → slice_get x.fields place ≡ Some f → Same program (ty.Node node desc) (Alt (Some place) v) (Alt (Some place) w) → Same program f.ty v w
  member-same place f got same = alt-same (Some place) f.ty (λ i g e other. field-type place i f g got e other) (λ c o. ap type_of_field got) same

  pub common-same : (common : TypeId) {v w : Tree} → IsCommon program x common → Same program (ty.Node node desc) (Alt None v) (Alt None w) → Same program (ty.Node common None) v w
  common-same common is same =
      alt-same None (ty.Node common None) (λ i g e other. absurd (cc)) (λ c o. ap (λ n. Some (ty.Node n None)) (one-common program node x c common settled has o is)) same

-- ---- rows

-- elements that come from one value each
pub data EachSame (program : Program) : Ty → Trees → Trees → Type 0 where
  no_more : {type : Ty} → EachSame program type End End
  one_more : {type : Ty} {v w : Tree} {vs ws : Trees} → Same program type v w → EachSame program type vs ws → EachSame program type (And v vs) (And w ws)

row-part : (vs ws : Trees) → Row vs ≡ Row ws → vs ≡ ws
row-part vs ws e = cc

module _ {program : Program} {elem : Ty} where
  each-equal : (vs : Trees) → EachSame program elem vs vs
  each-equal End = EachSame.no_more
  each-equal (And v vs) = EachSame.one_more (Same.equal refl) (each-equal vs)

  each-zero : (vs ws : Trees) → count vs ≡ count ws → AreZero vs → AreZero ws → EachSame program elem vs ws
  each-zero End End e z y = EachSame.no_more
  each-zero End (And w ws) e z y = absurd (omega arith)
  each-zero (And v vs) End e z y = absurd (omega arith)
  each-zero (And v vs) (And w ws) e z y = EachSame.one_more (Same.zeros z.0 y.0) (each-zero vs ws (omega arith) z.1 y.1)

  each-zip : {os vs ws : Trees} → EachReshapes program elem os vs → EachReshapes program elem os ws → count vs ≡ count ws → EachSame program elem vs ws
  each-zip {os} {vs} {ws} EachReshapes.lost q e = subst (EachSame program elem End) (sym (is-no_more ws (sym e))) EachSame.no_more
  each-zip {os} {vs} {ws} (EachReshapes.gained z) EachReshapes.lost e = subst (λ us. EachSame program elem us End) (sym (is-no_more vs e)) EachSame.no_more
  each-zip {os} {vs} {ws} (EachReshapes.gained z) (EachReshapes.gained y) e = each-zero vs ws e z y
  each-zip (EachReshapes.one_more r rs) EachReshapes.lost e = absurd (omega arith)
  each-zip (EachReshapes.one_more r rs) (EachReshapes.one_more q qs) e = EachSame.one_more (Same.reshaped r q) (each-zip rs qs (omega arith))

module _ {program : Program} where
  pub array-old : (type elem : Ty) (n : ℕ) → out-Ty type ≡ part.Arr n elem → (o : Tree) (vs : Trees) → Reshapes program type o (Row vs) → (os : Trees) × (o ≡ Row os) × EachReshapes program elem os vs
  array-old type elem n e o vs (Reshapes.leaf f) = absurd (cc)
  array-old type elem n e o vs (Reshapes.array {elem = other} {old} f each) = let same : other ≡ elem = cc in (old, refl, subst (λ t. EachReshapes program t old vs) same each)
  array-old type elem n e o vs (Reshapes.tail f each) = absurd (cc)

  pub tail-old : (type elem : Ty) (long : Expr) → out-Ty type ≡ part.Tail long elem → (o : Tree) (vs : Trees) → Reshapes program type o (Row vs) → (os : Trees) × (o ≡ Row os) × EachReshapes program elem os vs
  tail-old type elem long e o vs (Reshapes.leaf f) = absurd (cc)
  tail-old type elem long e o vs (Reshapes.array f each) = absurd (cc)
  tail-old type elem long e o vs (Reshapes.tail {elem = other} {old} f each) = let same : other ≡ elem = cc in (old, refl, subst (λ t. EachReshapes program t old vs) same each)

  row-same : (type elem : Ty) → ((o : Tree) (vs : Trees) → Reshapes program type o (Row vs) → (os : Trees) × (o ≡ Row os) × EachReshapes program elem os vs) → (vs ws : Trees) → count vs ≡ count ws
      → Same program type (Row vs) (Row ws) → EachSame program elem vs ws
  row-same type elem olds vs ws many (Same.reshaped {o} r q) =
      let one = olds o vs r in
      let two = olds o ws q in
      let same = row-part two.0 one.0 (sym two.1 ∙ one.1) in
      each-zip one.2 (subst (λ us. EachReshapes program elem us ws) same two.2) many
  row-same type elem olds vs ws many (Same.zeros z y) = each-zero vs ws many z y
  row-same type elem olds vs ws many (Same.begins {p} c e f z y) = subst (EachSame program elem vs) (row-part vs ws (both-some (is_node c type) (Row vs) (Row ws) p e f)) (each-equal vs)
  row-same type elem olds vs ws many (Same.equal e) = subst (EachSame program elem vs) (row-part vs ws e) (each-equal vs)

  pub array-same : (type elem : Ty) (n : ℕ) (vs ws : Trees) → out-Ty type ≡ part.Arr n elem → count vs ≡ count ws → Same program type (Row vs) (Row ws) → EachSame program elem vs ws
  array-same type elem n vs ws e many same = row-same type elem (array-old type elem n e) vs ws many same

  pub tail-same : (type elem : Ty) (long : Expr) (vs ws : Trees) → out-Ty type ≡ part.Tail long elem → count vs ≡ count ws → Same program type (Row vs) (Row ws) → EachSame program elem vs ws
  tail-same type elem long vs ws e many same = row-same type elem (tail-old type elem long e) vs ws many same
