-- The zero value of a type, by the type alone, is the zero value that fits it.
use Rattle.std.proofs.Common.{◌≡◌, ℕ, zero, suc, ◌-◌, ◌^◌, ◌<◌, Bool, true, false, IsTrue, List, [], ◌∷◌, length, replicate, refl, ap, sym, subst, ◌∙◌, arith, Option, Some, None, All}
use Rattle.std.specs.Prelude.{Contains, pos, slice_get}
use Rattle.std.proofs.lemmas.List.Elements.{All-head, All-tail, All-contains, All-contains_itself, All-map, All-weaker, All-replicate}
use Rattle.std.proofs.lemmas.Option.{slice_get_within, get_or_from_slice_get}
use Rattle.std.proofs.lemmas.Nat.{pow_pos}
use Rattle.std.proofs.lemmas.Bool.{lt-ltb}
use Rattle.gt_types.specs.declared.expressions.Expr.{Expr}
use Rattle.gt_types.specs.declared.types.TypeId.{TypeId}
use Rattle.gt_types.specs.declared.types.Ty.{Ty}
use Rattle.gt_types.specs.declared.types.Ty.TheVariants as ty
use Rattle.gt_types.specs.declared.types.Ty.TheVariants.{outs-Num, outs-Bits}
use Rattle.gt_types.specs.declared.program.Structure.{Structure}
use Rattle.gt_types.specs.declared.program.Root.{Root}
use Rattle.gt_types.specs.declared.program.Program.{Program}
use Rattle.gt_types.specs.Shapes.{bits_of, is_number}
use Rattle.gt_types.specs.Contains.{HasStructure}
use Rattle.gt_types.specs.Values.{within_i64}
use Rattle.gt_types.specs.Settled.{Settled}
use Rattle.gt_layout.proofs.Ideal.{one_layout}
use Rattle.gt_tree.specs.Trees.{Tree, Num, Null, To, Raw, Rec, Alt, Row, Trees, End, And, count, tree_at, IsZero, AreZero, without_pointers, all_without_pointers}
use Rattle.gt_tree.specs.Numbers.{is_signed, has_room}
use Rattle.gt_tree.specs.Blocks.{Blocks}
use Rattle.gt_tree.specs.Scopes.{Scope, outside, inside, ◌then◌, number_at}
use Rattle.gt_tree.specs.Fits.{Fits, AllFit, EachFits, StaticsFit, active_member, types_of, root_types}
use Rattle.gt_tree.proofs.OneList.{value-one_list}
use Rattle.gt_tree.proofs.PathParts.{get-map}
use Rattle.gt_tree.proofs.PathReads.{reads-leaf}
use Rattle.gt_tree.proofs.WriteLeaves.{HoldsNought, noughts}
use Rattle.gt_value.specs.Noughts.{IsNought, AreNoughts, AreElements}
use Rattle.gt_value.proofs.Standing.{ReadsZero, RootsAreZero, Stands, count-worth, active-worth}
use Rattle.gt_value.proofs.NoughtReads.{nought-at, number-nought, nought-reads}

-- ---- zero leaves

zero-room : (signed : Bool) (bits : ℕ) → IsTrue (has_room signed bits (pos 0))
zero-room true bits = lt-ltb 0 (2 ^ (bits - 1)) (pow_pos (bits - 1))
zero-room false bits = lt-ltb 0 (2 ^ bits) (pow_pos bits)

zero-bytes : (n : ℕ) → All (λ (byte : ℕ). byte ≡ 0) (replicate n 0)
zero-bytes n = All-replicate (λ (byte : ℕ). byte ≡ 0) n 0 refl

small-bytes : (n : ℕ) → All (λ (byte : ℕ). byte < 256) (replicate n 0)
small-bytes n = All-replicate (λ (byte : ℕ). byte < 256) n 0 (omega arith)

as-replicated : (bytes : List ℕ) → All (λ byte. byte ≡ 0) bytes → bytes ≡ replicate (length bytes) 0
as-replicated [] h = refl
as-replicated (byte ∷ bytes) h =
    let here : byte ≡ 0 = All-head (λ b. b ≡ 0) byte bytes h in
    let rest = as-replicated bytes (All-tail (λ b. b ≡ 0) byte bytes h) in
    cc

length-replicated : (n : ℕ) → length {A = ℕ} (replicate n 0) ≡ n
length-replicated zero = refl
length-replicated (suc n) = ap suc (length-replicated n)

mutual
  -- a zero value has no pointer that is not null
  without : (tree : Tree) → IsZero tree → without_pointers tree ≡ tree
  without (Num n) z = refl
  without Null z = refl
  without (To id) z = absurd z
  without (Raw bytes) z = refl
  without (Rec trees) z = ap Rec (all-without trees z)
  without (Alt member tree) z = ap (Alt member) (without tree z)
  without (Row trees) z = ap Row (all-without trees z)

  all-without : (trees : Trees) → AreZero trees → all_without_pointers trees ≡ trees
  all-without End z = refl
  all-without (And tree trees) z = let one = without tree z.0 in let rest = all-without trees z.1 in cc

module _ {program : Program} {capacity : ℕ} where
  mutual
    pub nought-zero : {type : Ty} {tree : Tree} → IsNought program capacity type tree → IsZero tree
    nought-zero IsNought.number = refl
    nought-zero IsNought.bits = refl
    nought-zero (IsNought.opaque {size} {bytes} e) = subst (All (λ byte. byte ≡ 0)) (sym e) (zero-bytes size)
    nought-zero (IsNought.null p) = tt
    nought-zero (IsNought.struct has struct all) = noughts-zero all
    nought-zero (IsNought.member has union active get part) = nought-zero part
    nought-zero (IsNought.common has union active c part) = nought-zero part
    nought-zero (IsNought.nothing has union active none) = tt
    nought-zero (IsNought.array e each) = elements-zero each
    nought-zero (IsNought.tail e value le each) = elements-zero each

    pub noughts-zero : {types : List Ty} {trees : Trees} → AreNoughts program capacity types trees → AreZero trees
    noughts-zero AreNoughts.none = tt
    noughts-zero (AreNoughts.more h hs) = (nought-zero h, noughts-zero hs)

    elements-zero : {n : ℕ} {type : Ty} {trees : Trees} → AreElements program capacity n type trees → AreZero trees
    elements-zero AreElements.no_more = tt
    elements-zero (AreElements.one_more h hs) = (nought-zero h, elements-zero hs)

  elements-count : {n : ℕ} {type : Ty} {trees : Trees} → AreElements program capacity n type trees → count trees ≡ n
  elements-count AreElements.no_more = refl
  elements-count (AreElements.one_more h hs) = ap suc (elements-count hs)

Contains-get : {X : Type 0} (xs : List X) (i : ℕ) (x : X) → slice_get xs i ≡ Some x → Contains xs x
Contains-get xs i x e = (i, slice_get_within xs i x e, get_or_from_slice_get xs i x x e)

-- ---- they fit

module _ (program : Program) (capacity : ℕ) (settled : Settled program) (a : Trees) where
  fields-stand : (s : Scope) (node : TypeId) (desc : Option Expr) (x : Structure) (v : Tree) → Stands program a s (ty.Node node desc) → ReadsZero program node v → HasStructure program node x
      → All (λ type. Stands program a (inside s node v) type) (types_of x.fields)
  fields-stand s node desc x v st reads has =
      All-map (λ type. Stands program a (inside s node v) type) (λ f. f.ty) x.fields
      (All-weaker (Contains x.fields) (λ f. Stands program a (inside s node v) f.ty) (λ f contains. Stands.in_field st reads has contains) x.fields (All-contains_itself x.fields))

  module _ (blocks : Blocks) where
    mutual
      fit : {type : Ty} {tree : Tree} → IsNought program capacity type tree → (s : Scope) → Stands program a s type → Fits program blocks capacity s type tree
      fit (IsNought.number {scalar}) s st = Fits.number (zero-room (is_signed scalar) (bits_of scalar))
      fit (IsNought.bits {unit} {width}) s st = Fits.bits (zero-room (is_signed unit) width)
      fit (IsNought.opaque {size} {align} {bytes} e) s st =
          Fits.opaque (ap length e ∙ length-replicated size) (subst (All (λ byte. byte < 256)) (sym e) (small-bytes size))
      fit (IsNought.null p) s st = Fits.null p
      fit (IsNought.struct {node} {desc} {s = x} {trees} has struct all) s st =
          let reads = nought-reads program capacity settled node desc (Rec trees) (IsNought.struct has struct all) in
          Fits.struct has struct (fit-fields all (inside s node (Rec trees)) (fields-stand s node desc x (Rec trees) st reads has))
      fit (IsNought.member {node} {desc} {s = x} {place} {f} {tree} has union active get part) s st =
          let v = Alt (Some place) tree in
          let reads = nought-reads program capacity settled node desc v (IsNought.member has union active get part) in
          Fits.member has union (ap (λ o. active_member o x.fields) (active-worth program settled a node desc x st has union v reads) ∙ active) get
          (fit part (inside s node v) (Stands.in_field st reads has (Contains-get x.fields place f get)))
      fit (IsNought.common {node} {desc} {s = x} {tree} has union active c part) s st =
          let v = Alt None tree in
          let reads = nought-reads program capacity settled node desc v (IsNought.common has union active c part) in
          Fits.common has union (ap (λ o. active_member o x.fields) (active-worth program settled a node desc x st has union v reads) ∙ active) c (without tree (nought-zero part))
          (fit part (inside s node v) (Stands.in_common st reads has c))
      fit (IsNought.nothing {node} {desc} {s = x} has union active none) s st =
          let v = Alt None (Rec End) in
          let reads = nought-reads program capacity settled node desc v (IsNought.nothing has union active none) in
          Fits.nothing has union (ap (λ o. active_member o x.fields) (active-worth program settled a node desc x st has union v reads) ∙ active) none
      fit (IsNought.array e each) s st = Fits.array e (elements-count each) (fit-each each s (Stands.in_array st e))
      fit (IsNought.tail {elem} {length = long} e value le each) s st =
          Fits.tail e (count-worth program settled a st elem long e ∙ value) le (elements-count each) (fit-each each s (Stands.in_tail st e))

      fit-fields : {types : List Ty} {trees : Trees} → AreNoughts program capacity types trees → (s : Scope) → All (λ type. Stands program a s type) types → AllFit program blocks capacity s types trees
      fit-fields AreNoughts.none s st = AllFit.none
      fit-fields (AreNoughts.more {type} {types} h hs) s st =
          AllFit.more (fit h s (All-head (λ t. Stands program a s t) type types st)) (fit-fields hs s (All-tail (λ t. Stands program a s t) type types st))

      fit-each : {n : ℕ} {type : Ty} {trees : Trees} → AreElements program capacity n type trees → (s : Scope) → Stands program a s type → EachFits program blocks capacity s type trees
      fit-each AreElements.no_more s st = EachFits.no_more
      fit-each (AreElements.one_more h hs) s st = EachFits.one_more (fit h s st) (fit-each hs s st)

    pub nought-fits : {type : Ty} {tree : Tree} → IsNought program capacity type tree → (s : Scope) → Stands program a s type → Fits program blocks capacity s type tree
    nought-fits h s st = fit h s st

    -- ---- and those that fit are they

    fits-reads : (s : Scope) (node : TypeId) (desc : Option Expr) (v : Tree) → Fits program blocks capacity s (ty.Node node desc) v → IsZero v → ReadsZero program node v
    fits-reads s node desc v fits z steps leads =
        let one = one_layout program settled in
        let found = value-one_list program one.0 settled one.1 blocks capacity s (ty.Node node desc) v 0 fits in
        let r = reads-leaf program one.0.structures settled one.1.structures node steps v 0 found.0 leads
        (record { blocks = blocks; capacity = capacity; scope = s; desc = desc; fits = fits; has = found.1 }) in
        let none : r.n ≡ pos 0 = All-contains HoldsNought found.0 _ (noughts found.1 z) r.there in
        r.read ∙ ap within_i64 none

    mutual
      back : {s : Scope} {type : Ty} {tree : Tree} → Fits program blocks capacity s type tree → IsZero tree → Stands program a s type → IsNought program capacity type tree
      back (Fits.number {scalar} room) z st = subst (λ n. IsNought program capacity (ty.Num scalar) (Num n)) (sym z) IsNought.number
      back (Fits.bits {unit} {width} room) z st = subst (λ n. IsNought program capacity (ty.Bits unit width) (Num n)) (sym z) IsNought.bits
      back (Fits.opaque {bytes} long small) z st = IsNought.opaque (as-replicated bytes z ∙ ap (λ n. replicate n 0) long)
      back (Fits.null p) z st = IsNought.null p
      back (Fits.to m) z st = absurd z
      back (Fits.struct {scope} {node} {desc} {s = x} {trees} has struct all) z st =
          let reads = fits-reads scope node desc (Rec trees) (Fits.struct has struct all) z in
          IsNought.struct has struct (back-fields all z (fields-stand scope node desc x (Rec trees) st reads has))
      back (Fits.member {scope} {node} {desc} {s = x} {place} {f} {tree} has union active get part) z st =
          let v = Alt (Some place) tree in
          let reads = fits-reads scope node desc v (Fits.member has union active get part) z in
          IsNought.member has union (sym (ap (λ o. active_member o x.fields) (active-worth program settled a node desc x st has union v reads)) ∙ active) get
          (back part z (Stands.in_field st reads has (Contains-get x.fields place f get)))
      back (Fits.common {scope} {node} {desc} {s = x} {tree} has union active c w part) z st =
          let v = Alt None tree in
          let reads = fits-reads scope node desc v (Fits.common has union active c w part) z in
          IsNought.common has union (sym (ap (λ o. active_member o x.fields) (active-worth program settled a node desc x st has union v reads)) ∙ active) c
          (back part z (Stands.in_common st reads has c))
      back (Fits.nothing {scope} {node} {desc} {s = x} has union active none) z st =
          let v = Alt None (Rec End) in
          let reads = fits-reads scope node desc v (Fits.nothing has union active none) z in
          IsNought.nothing has union (sym (ap (λ o. active_member o x.fields) (active-worth program settled a node desc x st has union v reads)) ∙ active) none
      back (Fits.array {elem} {n} {trees} e many each) z st = IsNought.array e (subst (λ n. AreElements program capacity n elem trees) many (back-each each z (Stands.in_array st e)))
      back (Fits.tail {elem} {length = long} {n} {trees} e value le many each) z st =
          IsNought.tail e (sym (count-worth program settled a st elem long e) ∙ value) le
          (subst (λ n. AreElements program capacity n elem trees) many (back-each each z (Stands.in_tail st e)))

      back-fields : {s : Scope} {types : List Ty} {trees : Trees} → AllFit program blocks capacity s types trees → AreZero trees → All (λ type. Stands program a s type) types → AreNoughts program capacity types trees
      back-fields AllFit.none z st = AreNoughts.none
      back-fields (AllFit.more {scope} {type} {types} h hs) z st =
          AreNoughts.more (back h z.0 (All-head (λ t. Stands program a scope t) type types st)) (back-fields hs z.1 (All-tail (λ t. Stands program a scope t) type types st))

      back-each : {s : Scope} {type : Ty} {trees : Trees} → EachFits program blocks capacity s type trees → AreZero trees → Stands program a s type → AreElements program capacity (count trees) type trees
      back-each EachFits.no_more z st = AreElements.no_more
      back-each (EachFits.one_more h hs) z st = AreElements.one_more (back h z.0 st) (back-each hs z.1 st)

    pub fits-nought : {s : Scope} {type : Ty} {tree : Tree} → Fits program blocks capacity s type tree → IsZero tree → Stands program a s type → IsNought program capacity type tree
    fits-nought h z st = back h z st

-- ---- the static record

roots-stand : (program : Program) (values : Trees) → RootsAreZero program values → All (λ type. Stands program values (outside values) type) (root_types program)
roots-stand program values nils =
    All-map (λ type. Stands program values (outside values) type) (λ (r : Root). r.ty) program.roots
    (All-weaker (Contains program.roots) (λ (r : Root). Stands program values (outside values) r.ty) (λ r contains. Stands.at_root r contains nils) program.roots (All-contains_itself program.roots))

root-get : (program : Program) (i : ℕ) (r : Root) → slice_get program.roots i ≡ Some r → slice_get (root_types program) i ≡ Some r.ty
root-get program i r got = get-map (λ (x : Root). x.ty) program.roots i r got

pub noughts-fit : (program : Program) → Settled program → (values : Trees) → AreNoughts program 0 (root_types program) values → (blocks : Blocks) → StaticsFit program blocks values
noughts-fit program settled values h blocks = fit-fields program 0 settled values blocks h (outside values) (roots-stand program values nils)
  where
    nils : RootsAreZero program values
    nils i (r, got, is) =
        let found = nought-at h i r.ty (root-get program i r got) in
        ap (λ o. o then number_at) found.1 ∙ ap number_at (number-nought r.ty found.0 is found.2)

module _ {program : Program} {blocks : Blocks} {scope : Scope} where
  number-zero : (type : Ty) (tree : Tree) → IsTrue (is_number type) → Fits program blocks 0 scope type tree → IsZero tree → tree ≡ Num (pos 0)
  number-zero (ty.Num number) tree i (Fits.number room) z = ap Num z
  number-zero (ty.Num number) tree i (Fits.null p) z = absurd (cc)
  number-zero (ty.Num number) tree i (Fits.to m) z = absurd z
  number-zero (ty.Num number) tree i (Fits.array e many each) z = let o = outs-Num number in absurd (cc)
  number-zero (ty.Num number) tree i (Fits.tail e v le many each) z = let o = outs-Num number in absurd (cc)
  number-zero (ty.Bits unit width) tree i (Fits.bits room) z = ap Num z
  number-zero (ty.Bits unit width) tree i (Fits.null p) z = absurd (cc)
  number-zero (ty.Bits unit width) tree i (Fits.to m) z = absurd z
  number-zero (ty.Bits unit width) tree i (Fits.array e many each) z = let o = outs-Bits unit width in absurd (cc)
  number-zero (ty.Bits unit width) tree i (Fits.tail e v le many each) z = let o = outs-Bits unit width in absurd (cc)
  number-zero type tree i h z = absurd (cc)

  number-at : {types : List Ty} {trees : Trees} → AllFit program blocks 0 scope types trees → AreZero trees → (i : ℕ) (type : Ty) → slice_get types i ≡ Some type → IsTrue (is_number type)
      → tree_at trees i ≡ Some (Num (pos 0))
  number-at AllFit.none z i type got is = absurd (cc)
  number-at (AllFit.more {type = here} {tree} h hs) z zero type got is =
      let same : here ≡ type = cc in
      ap Some (number-zero type tree is (subst (λ t. Fits program blocks 0 scope t tree) same h) z.0)
  number-at (AllFit.more h hs) z (suc i) type got is = number-at hs z.1 i type got is

pub fit-noughts : (program : Program) → Settled program → (blocks : Blocks) (values : Trees) → StaticsFit program blocks values → AreZero values → AreNoughts program 0 (root_types program) values
fit-noughts program settled blocks values fit z = back-fields program 0 settled values blocks fit z (roots-stand program values nils)
  where
    nils : RootsAreZero program values
    nils i (r, got, is) = ap (λ o. o then number_at) (number-at fit z i r.ty (root-get program i r got) is)
