-- What a part becomes comes of what it was: it is that, reshaped; zero, where it was not there; or what it begins with, and zero elsewhere.
use Rattle.std.proofs.Common.{◌≡◌, ℕ, zero, suc, ◌≤◌, Bool, true, false, cond, List, [], ◌∷◌, length, refl, ap, sym, subst, ◌∙◌, arith, Option, Some, None}
use Rattle.std.specs.Prelude.{All, ◌==◌, slice_get, option_map, replicate}
use Rattle.std.proofs.lemmas.Bool.{eqb-true}
use Rattle.std.proofs.lemmas.List.{length-map}
use Rattle.std.proofs.lemmas.List.Elements.{All-nil, All-cons}
use Rattle.std.proofs.lemmas.Option.{same_Some}
use Rattle.gt_types.specs.declared.expressions.Expr.{Expr}
use Rattle.gt_types.specs.declared.types.TypeId.{TypeId}
use Rattle.gt_types.specs.declared.types.Ty.{Ty}
use Rattle.gt_types.specs.declared.types.Ty.TheOpen as part
use Rattle.gt_types.specs.declared.types.Ty.TheOpen.{Ty-F}
use Rattle.gt_types.specs.declared.types.Ty.TheVariants as ty
use Rattle.gt_types.specs.declared.program.Field.{Field}
use Rattle.gt_types.specs.declared.program.Structure.{Structure}
use Rattle.gt_types.specs.declared.program.Program.{Program}
use Rattle.gt_types.specs.Contains.{HasStructure}
use Rattle.gt_tree.specs.Trees.{Tree, Num, Null, To, Raw, Rec, Alt, Row, Trees, End, And, count, tree_at, IsZero, AreZero, is_leaf}
use Rattle.gt_tree.specs.Scopes.{◌then◌, is_node, beginning, beginning_of, first_type}
use Rattle.gt_tree.specs.Fits.{types_of}
use Rattle.gt_tree.specs.Reshapes.{IsZeroOutside, OutsideOf, Reshapes, AllReshape, EachReshapes}
use Rattle.gt_tree.proofs.FixedParts.{is-no_more}
use Rattle.gt_tree.proofs.WriteReads.{first-types}
use Rattle.gt_assign.specs.Pasts.{Was, Whole, Nothing, Begun, Past}
use Rattle.gt_assign.specs.Turning.{Maker, zero_leaf, leaf_made, field_was, fields_made, element_was, maybe_whole, elements_made, row_made, struct_made, stays}

pub not-stays : (b : Bool) (value : Tree) → cond b (Some value) None ≡ None → b ≡ false
not-stays true value e = absurd (cc)
not-stays false value e = refl

-- the value comes of what was there
abbrev pub Comes : Program → Ty → Was → Tree → Type 0
Comes program type (Whole old) new = Reshapes program type old new
Comes program type Nothing new = IsZero new
Comes program type (Begun common value) new = (beginning program common (Some type) new ≡ Some value) × IsZeroOutside program common (Some type) new

-- a maker makes what comes of what was there
abbrev pub IsSound : Program → Maker → Type 0
IsSound program make = (past : Past) (type : Ty) (was : Was) (new : Tree) → make past type was ≡ Some new → Comes program type was new

-- ---- leaves

abbrev is_nought : ℕ → Type 0
is_nought byte = byte ≡ 0

zero-bytes : (n : ℕ) → All is_nought (replicate n 0)
zero-bytes zero = All-nil is_nought
zero-bytes (suc n) = All-cons is_nought 0 (replicate n 0) refl (zero-bytes n)

zero-leaf : (layer : Ty-F Ty) (new : Tree) → zero_leaf layer ≡ Some new → IsZero new
zero-leaf (part.Num scalar) new e = subst IsZero (same_Some _ new e) refl
zero-leaf (part.Bits unit width) new e = subst IsZero (same_Some _ new e) refl
zero-leaf (part.Opaque size align) new e = subst IsZero (same_Some _ new e) (zero-bytes size)
zero-leaf (part.Str len) new e = subst IsZero (same_Some Null new e) tt
zero-leaf (part.Ptr target kind reorder) new e = subst IsZero (same_Some Null new e) tt
zero-leaf (part.Node node desc) new e = absurd (cc)
zero-leaf (part.Arr n elem) new e = absurd (cc)
zero-leaf (part.Tail len elem) new e = absurd (cc)

old-leaf : (program : Program) (type : Ty) (b : Bool) (old new : Tree) → is_leaf old ≡ b → cond b (Some old) None ≡ Some new → Reshapes program type old new
old-leaf program type true old new h e = subst (Reshapes program type old) (same_Some old new e) (Reshapes.leaf h)
old-leaf program type false old new h e = absurd (cc)

pub leaf-comes : (program : Program) (type : Ty) (layer : Ty-F Ty) (was : Was) (new : Tree) → leaf_made layer was ≡ Some new → Comes program type was new
leaf-comes program type layer (Whole old) new e = old-leaf program type (is_leaf old) old new refl e
leaf-comes program type layer Nothing new e = zero-leaf layer new e
leaf-comes program type layer (Begun common value) new e = absurd (cc)

pub not-nought : (k : ℕ) (b : Bool) → (suc k == 0) ≡ b → b ≡ false
not-nought k true e = let h = eqb-true (suc k) 0 e in absurd (omega (arith, h))
not-nought k false e = refl

-- ---- parts one after another

-- the trees from a place on
abbrev pub from : Trees → ℕ → Trees
from trees zero = trees
from End (suc i) = End
from (And tree trees) (suc i) = from trees i

pub from-none : (trees : Trees) (i : ℕ) → tree_at trees i ≡ None → from trees i ≡ End
from-none End zero e = refl
from-none End (suc i) e = refl
from-none (And tree trees) zero e = absurd (cc)
from-none (And tree trees) (suc i) e = from-none trees i e

from-some : (trees : Trees) (i : ℕ) (tree : Tree) → tree_at trees i ≡ Some tree → from trees i ≡ And tree (from trees (suc i))
from-some End i tree e = absurd (cc)
from-some (And first trees) zero tree e = ap (λ t. And t trees) (same_Some first tree e)
from-some (And first trees) (suc i) tree e = from-some trees i tree e

from-end : (trees : Trees) (i : ℕ) → from trees i ≡ End → from trees (suc i) ≡ End
from-end End i e = refl
from-end (And tree trees) zero e = absurd (cc)
from-end (And tree trees) (suc i) e = from-end trees i e

-- a part and the parts after it, taken apart
record Both (first : Option Tree) (rest : Option Trees) (all : Trees) : Type 0 where
  tree : Tree
  trees : Trees
  is_first : first ≡ Some tree
  is_rest : rest ≡ Some trees
  is : And tree trees ≡ all

taken : (first : Option Tree) (rest : Option Trees) (all : Trees) → (first then λ tree. rest then λ trees. Some (And tree trees)) ≡ Some all → Both first rest all
taken None rest all e = absurd (cc)
taken (Some tree) None all e = absurd (cc)
taken (Some tree) (Some trees) all e = record { tree = tree; trees = trees; is_first = refl; is_rest = refl; is = cc }

module _ (program : Program) (make : Maker) (past : Past) (sound : IsSound program make) where
  -- ---- elements

  zero-elements : (type : Ty) (was : Was) (n i : ℕ) (all : Trees) → ((k : ℕ) → element_was was k ≡ Some Nothing) → elements_made make past type was i n ≡ Some all → AreZero all
  zero-elements type was zero i all nothing e = let same : End ≡ all = cc in subst AreZero same tt
  zero-elements type was (suc n) i all nothing e =
      let first = ap (λ o. o then λ p. make past type p then λ tree. elements_made make past type was (suc i) n then λ trees. Some (And tree trees)) (nothing i) in
      let b = taken (make past type Nothing) (elements_made make past type was (suc i) n) all (sym first ∙ e) in
      subst AreZero b.is (sound past type Nothing b.tree b.is_first, zero-elements type was n (suc i) b.trees nothing b.is_rest)

  later-elements : (type : Ty) (olds : Trees) (n i : ℕ) (all : Trees) → from olds i ≡ End → ((k : ℕ) → from olds k ≡ End → tree_at olds k ≡ None) → elements_made make past type (Whole (Row olds)) i n ≡ Some all → AreZero all
  later-elements type olds zero i all none at e = let same : End ≡ all = cc in subst AreZero same tt
  later-elements type olds (suc n) i all none at e =
      let first = ap (λ o. make past type (maybe_whole o) then λ tree. elements_made make past type (Whole (Row olds)) (suc i) n then λ trees. Some (And tree trees)) (at i none) in
      let b = taken (make past type Nothing) (elements_made make past type (Whole (Row olds)) (suc i) n) all (sym first ∙ e) in
      subst AreZero b.is (sound past type Nothing b.tree b.is_first, later-elements type olds n (suc i) b.trees (from-end olds i none) at b.is_rest)

  none-at : (olds : Trees) (k : ℕ) → from olds k ≡ End → tree_at olds k ≡ None
  none-at End k e = refl
  none-at (And tree olds) zero e = absurd (cc)
  none-at (And tree olds) (suc k) e = none-at olds k e

  each-element : (type : Ty) (olds : Trees) (n i : ℕ) (all : Trees) → elements_made make past type (Whole (Row olds)) i n ≡ Some all → EachReshapes program type (from olds i) all
  each-element type olds zero i all e = let same : End ≡ all = cc in subst (EachReshapes program type (from olds i)) same EachReshapes.lost
  each-element type olds (suc n) i all e = go (each-element type olds n (suc i)) (tree_at olds i) refl
    where
      go : ((later : Trees) → elements_made make past type (Whole (Row olds)) (suc i) n ≡ Some later → EachReshapes program type (from olds (suc i)) later) → (o : Option Tree) → tree_at olds i ≡ o
          → EachReshapes program type (from olds i) all
      go rest None none = subst (λ ts. EachReshapes program type ts all) (sym (from-none olds i none)) (EachReshapes.gained (later-elements type olds (suc n) i all (from-none olds i none) (none-at olds) e))
      go rest (Some old) there =
          let first = ap (λ o. make past type (maybe_whole o) then λ tree. elements_made make past type (Whole (Row olds)) (suc i) n then λ trees. Some (And tree trees)) there in
          let b = taken (make past type (Whole old)) (elements_made make past type (Whole (Row olds)) (suc i) n) all (sym first ∙ e) in
          subst (λ ts. EachReshapes program type ts all) (sym (from-some olds i old there))
          (subst (EachReshapes program type (And old (from olds (suc i)))) b.is (EachReshapes.one_more (sound past type (Whole old) b.tree b.is_first) (rest b.trees b.is_rest)))

  -- the rows of a value
  row-of : (o : Option Trees) (new : Tree) → option_map Row o ≡ Some new → (all : Trees) × (o ≡ Some all) × (Row all ≡ new)
  row-of None new e = absurd (cc)
  row-of (Some all) new e = (all, refl, same_Some (Row all) new e)

  pub row-comes : (type elem : Ty) (was : Was) (n : ℕ) (new : Tree) → ((old new : Trees) → EachReshapes program elem old new → Reshapes program type (Row old) (Row new)) → row_made make past elem was n ≡ Some new → Comes program type was new
  row-comes type elem (Whole (Row olds)) n new rows e =
      let found = row-of (elements_made make past elem (Whole (Row olds)) 0 n) new e in
      subst (Reshapes program type (Row olds)) found.2 (rows olds found.0 (each-element elem olds n 0 found.0 found.1))
  row-comes type elem Nothing n new rows e =
      let found = row-of (elements_made make past elem Nothing 0 n) new e in
      subst IsZero found.2 (zero-elements elem Nothing n 0 found.0 (λ k. refl) found.1)
  row-comes type elem (Whole (Num m)) n new rows e = absurd (cc)
  row-comes type elem (Whole Null) n new rows e = absurd (cc)
  row-comes type elem (Whole (To id)) n new rows e = absurd (cc)
  row-comes type elem (Whole (Raw bytes)) n new rows e = absurd (cc)
  row-comes type elem (Whole (Rec trees)) n new rows e = absurd (cc)
  row-comes type elem (Whole (Alt member tree)) n new rows e = absurd (cc)
  row-comes type elem (Begun common value) n new rows e = absurd (cc)

  -- ---- fields

  zero-fields : (was : Was) (types : List Ty) (i : ℕ) (all : Trees) → field_was was i ≡ Some Nothing → ((k : ℕ) → field_was was (suc k) ≡ Some Nothing) → fields_made make past was i types ≡ Some all → AreZero all
  zero-fields was [] i all nothing later e = let same : End ≡ all = cc in subst AreZero same tt
  zero-fields was (type ∷ types) i all nothing later e =
      let first = ap (λ o. o then λ p. make past type p then λ tree. fields_made make past was (suc i) types then λ trees. Some (And tree trees)) nothing in
      let b = taken (make past type Nothing) (fields_made make past was (suc i) types) all (sym first ∙ e) in
      subst AreZero b.is (sound past type Nothing b.tree b.is_first, zero-fields was types (suc i) b.trees (later i) later b.is_rest)

  pub each-field : (olds : Trees) (types : List Ty) (i : ℕ) (all : Trees) → count (from olds i) ≡ length types → fields_made make past (Whole (Rec olds)) i types ≡ Some all → AllReshape program types (from olds i) all
  each-field olds [] i all many e = let same : End ≡ all = cc in subst (λ ts. AllReshape program [] ts all) (sym (is-no_more (from olds i) many)) (subst (AllReshape program [] End) same AllReshape.none)
  each-field olds (type ∷ types) i all many e = go (each-field olds types (suc i)) (tree_at olds i) refl
    where
      go : ((later : Trees) → count (from olds (suc i)) ≡ length types → fields_made make past (Whole (Rec olds)) (suc i) types ≡ Some later → AllReshape program types (from olds (suc i)) later) → (o : Option Tree)
          → tree_at olds i ≡ o → AllReshape program (type ∷ types) (from olds i) all
      go rest None none = let gone = ap count (from-none olds i none) in absurd (omega (arith, gone, many))
      go rest (Some old) there =
          let here = from-some olds i old there in
          let fewer : count (from olds (suc i)) ≡ length types = let c = ap count here in omega (arith, c, many) in
          let first = ap (λ o. option_map Whole o then λ p. make past type p then λ tree. fields_made make past (Whole (Rec olds)) (suc i) types then λ trees. Some (And tree trees)) there in
          let b = taken (make past type (Whole old)) (fields_made make past (Whole (Rec olds)) (suc i) types) all (sym first ∙ e) in
          subst (λ ts. AllReshape program (type ∷ types) ts all) (sym here)
          (subst (AllReshape program (type ∷ types) (And old (from olds (suc i)))) b.is (AllReshape.more (sound past type (Whole old) b.tree b.is_first) (rest b.trees fewer b.is_rest)))

  -- the first field begins with what the struct begins with, and the others are zero
  record BegunFields (common : TypeId) (value : Tree) (type : Ty) (all : Trees) : Type 0 where
    first : Tree
    rest : Trees
    is : And first rest ≡ all
    begins : beginning program common (Some type) first ≡ Some value
    outside : IsZeroOutside program common (Some type) first
    zero_rest : AreZero rest

  begun-fields : (common : TypeId) (value : Tree) (type : Ty) (types : List Ty) (all : Trees) → fields_made make past (Begun common value) 0 (type ∷ types) ≡ Some all → BegunFields common value type all
  begun-fields common value type types all e =
      let b = taken (make past type (Begun common value)) (fields_made make past (Begun common value) 1 types) all e in
      let c = sound past type (Begun common value) b.tree b.is_first in
      record { first = b.tree; rest = b.trees; is = b.is; begins = c.0; outside = c.1; zero_rest = zero-fields (Begun common value) types 1 b.trees refl (λ k. ap (λ x. Some (cond x (Begun common value) Nothing)) (not-nought k (suc k == 0) refl)) b.is_rest }

  pub rec-of : (o : Option Trees) (new : Tree) → option_map Rec o ≡ Some new → (all : Trees) × (o ≡ Some all) × (Rec all ≡ new)
  rec-of None new e = absurd (cc)
  rec-of (Some all) new e = (all, refl, same_Some (Rec all) new e)

  pub checked : (b : Bool) (o : Option Tree) (new : Tree) → cond b o None ≡ Some new → (b ≡ true) × (o ≡ Some new)
  checked true o new e = (refl, e)
  checked false o new e = absurd (cc)

  begun-struct : (node : TypeId) (desc : Option Expr) (s : Structure) (common : TypeId) (value new : Tree) → HasStructure program node s → is_node common (ty.Node node desc) ≡ false → 1 ≤ length s.fields
      → struct_made make past s.fields (Begun common value) ≡ Some new → Comes program (ty.Node node desc) (Begun common value) new
  begun-struct node desc s common value new has other some e = go s.fields refl
    where
      go : (fields : List Field) → s.fields ≡ fields → Comes program (ty.Node node desc) (Begun common value) new
      go [] is = let none = ap length is in absurd (omega (arith, some, none))
      go (f ∷ fields) is =
          let found = rec-of (fields_made make past (Begun common value) 0 (types_of s.fields)) new e in
          let b = begun-fields common value f.ty (types_of fields) found.0 (ap (λ fs. fields_made make past (Begun common value) 0 (types_of fs)) (sym is) ∙ found.1) in
          let first : first_type program (ty.Node node desc) ≡ Some f.ty = first-types program node desc s has ∙ ap (λ fs. slice_get (types_of fs) 0) is in
          subst (λ t. (beginning program common (Some (ty.Node node desc)) t ≡ Some value) × IsZeroOutside program common (Some (ty.Node node desc)) t) (ap Rec b.is ∙ found.2) (
            ap (λ x. cond x (Some (Rec (And b.first b.rest))) (beginning_of program common (first_type program (ty.Node node desc)) (And b.first b.rest))) other
                ∙ ap (λ t. beginning program common t b.first) first
                ∙ b.begins,
            subst (λ x. OutsideOf program common (Some (ty.Node node desc)) (And b.first b.rest) x) (sym other)
                (subst (λ t. IsZeroOutside program common t b.first) (sym first) b.outside, b.zero_rest),
          )

  pub struct-comes : (node : TypeId) (desc : Option Expr) (s : Structure) (was : Was) (new : Tree) → HasStructure program node s → s.is_union ≡ false → 1 ≤ length s.fields → stays node was ≡ None
      → struct_made make past s.fields was ≡ Some new → Comes program (ty.Node node desc) was new
  struct-comes node desc s (Whole (Rec olds)) new has struct some moves e =
      let c = checked (count olds == length s.fields) (option_map Rec (fields_made make past (Whole (Rec olds)) 0 (types_of s.fields))) new e in
      let found = rec-of (fields_made make past (Whole (Rec olds)) 0 (types_of s.fields)) new c.1 in
      let many : count olds ≡ length (types_of s.fields) = eqb-true (count olds) (length s.fields) c.0 ∙ sym (length-map s.fields (λ (f : Field). f.ty)) in
      subst (Reshapes program (ty.Node node desc) (Rec olds)) found.2 (Reshapes.struct has struct (each-field olds (types_of s.fields) 0 found.0 many found.1))
  struct-comes node desc s Nothing new has struct some moves e =
      let found = rec-of (fields_made make past Nothing 0 (types_of s.fields)) new e in
      subst IsZero found.2 (zero-fields Nothing (types_of s.fields) 0 found.0 refl (λ k. refl) found.1)
  struct-comes node desc s (Begun common value) new has struct some moves e = begun-struct node desc s common value new has (not-stays (common.0 == node.0) value moves) some e
  struct-comes node desc s (Whole (Num m)) new has struct some moves e = absurd (cc)
  struct-comes node desc s (Whole Null) new has struct some moves e = absurd (cc)
  struct-comes node desc s (Whole (To id)) new has struct some moves e = absurd (cc)
  struct-comes node desc s (Whole (Raw bytes)) new has struct some moves e = absurd (cc)
  struct-comes node desc s (Whole (Row trees)) new has struct some moves e = absurd (cc)
  struct-comes node desc s (Whole (Alt member tree)) new has struct some moves e = absurd (cc)
