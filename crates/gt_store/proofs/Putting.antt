-- A value put at an address of a space.
use Rattle.std.proofs.Common.{◌≡◌, ℕ, suc, ◌+◌, ◌-◌, ◌*◌, ◌%◌, ◌<◌, ◌≤◌, Bool, true, false, cond, List, [], ◌∷◌, length, replicate, Option, Some, None, refl, ap, sym, subst, ◌∙◌, arith, inl}
use Rattle.std.specs.Prelude.{All, AllPairs, slice_get}
use Rattle.std.proofs.lemmas.Option.{slice_get_within}
use Rattle.gt_types.specs.declared.expressions.Expr.{Expr}
use Rattle.gt_types.specs.declared.types.TypeId.{TypeId}
use Rattle.gt_types.specs.declared.types.Width.TheVariants.{W1}
use Rattle.gt_types.specs.declared.types.Scalar.{Scalar}
use Rattle.gt_types.specs.declared.types.Scalar.TheVariants as scalar
use Rattle.gt_types.specs.declared.types.Ty.{Ty, out-Ty}
use Rattle.gt_types.specs.declared.types.Ty.TheOpen.{Ty-F}
use Rattle.gt_types.specs.declared.types.Ty.TheFolds.{fold_out-Ty, map-Ty}
use Rattle.gt_types.specs.declared.types.Ty.TheVariants.{outs-Ptr, outs-Str, outs-Num}
use Rattle.gt_types.specs.declared.types.PtrKind.TheVariants as pointer
use Rattle.gt_types.specs.declared.types.Target.TheVariants as target
use Rattle.gt_types.specs.Tails.{elements_of, elements_at}
use Rattle.gt_layout.specs.declared.planes.Extent.{Extent}
use Rattle.gt_layout.specs.Storages.{extent_of, extent_step}
use Rattle.gt_tree.specs.LeafLaws.{bytes_with}
use Rattle.gt_types.specs.declared.types.Ty.TheVariants as ty
use Rattle.gt_types.specs.declared.program.Program.{Program}
use Rattle.gt_types.specs.Settled.{Settled}
use Rattle.gt_layout.specs.declared.planes.Layouts.{Layouts}
use Rattle.gt_layout.specs.Planes.{IsLaidOut}
use Rattle.gt_space.specs.Range.{Range, IsInside, KeepsAddresses, with_bytes}
use Rattle.gt_tree.specs.Trees.{Tree}
use Rattle.gt_tree.specs.Blocks.{Kind, Nodes, Pointers, Strings, Chars, Raw, element_type, desc_of}
use Rattle.gt_tree.specs.Scopes.{outside}
use Rattle.gt_tree.specs.FixedLaws.{MayHold}
use Rattle.gt_tree.specs.Leaves.{Leaf, HasLeaves, LiesBetween}
use Rattle.gt_tree.specs.LeafLaws.{IsTypeIn, AreBytesOf}
use Rattle.gt_tree.proofs.OneList.{value-one_list}
use Rattle.gt_tree.proofs.Known.{value-placed}
use Rattle.gt_tree.proofs.Sizes.{sizes-one}
use Rattle.gt_value.specs.Bytes.{itself, IsElement, Takes, FitsSome, IsStored}
use Rattle.gt_store.specs.declared.stores.TheConstants.{MAX_BITS}
use Rattle.gt_store.specs.Overlays.{Rises, LieIn, IsWritten, CanStore, is_written, written}
use Rattle.gt_store.specs.Writing.{AreSmall}
use Rattle.gt_store.proofs.OverlayLemmas.{rises-from, rises-end}
use Rattle.gt_store.proofs.Walks.{whole-stands}
use Rattle.gt_store.proofs.Whole.{shifted, has-shifted, stored-whole}

-- ---- leaves in order rise

rises-keep : (from end : ℕ) (l : Leaf) (ls : List Leaf) → from ≤ l.at → Rises (l.at + l.width) (written ls) end → Rises from (written ls) end → Rises from (written (l ∷ ls)) end
rises-keep from end l ls first high low = go (is_written l)
  where
    go : (b : Bool) → Rises from (cond b (l ∷ written ls) (written ls)) end
    go true = (first, high)
    go false = low

pub rises-order : (from end : ℕ) (ls : List Leaf) → AllPairs (λ a b. a.at + a.width ≤ b.at) ls → All (LiesBetween from end) ls → from ≤ end → Rises from (written ls) end
rises-order from end [] pairs within le = le
rises-order from end (l ∷ ls) pairs within le =
    let here : LiesBetween from end l = within 0 l (omega arith) in
    let others : AllPairs (λ a b. a.at + a.width ≤ b.at) ls = λ i j d lt short. pairs (suc i) (suc j) d (omega (arith, lt)) (omega (arith, short)) in
    let rest : All (LiesBetween from end) ls = λ k d short. within (suc k) d (omega (arith, short)) in
    let high : All (LiesBetween (l.at + l.width) end) ls = λ k d short. (pairs 0 (suc k) d (omega arith) (omega (arith, short)), (rest k d short).1) in
    rises-keep from end l ls here.0 (rises-order (l.at + l.width) end ls others high here.1) (rises-order from end ls others rest le)

-- ---- how many bytes a value takes

-- a type with no elements takes what its form says
plain-width : (layouts : Layouts) (capacity : ℕ) (type : Ty) (form : Ty-F Ty) → out-Ty type ≡ form → (n : ℕ) → elements_at form ≡ None → (extent_step layouts.structures (map-Ty Ty Extent (extent_of layouts.structures) form)).size ≡ n
    → 8 * n ≡ 8 * bytes_with layouts.structures capacity type (elements_of type)
plain-width layouts capacity type form is n none size =
    let no : elements_of type ≡ None = ap elements_at is ∙ none in
    let all : (extent_of layouts.structures type).size ≡ n =
    ap (λ e. e.size) (fold_out-Ty Extent (extent_step layouts.structures) type) ∙ ap (λ x. (extent_step layouts.structures (map-Ty Ty Extent (extent_of layouts.structures) x)).size) is ∙ size in
    let bytes : bytes_with layouts.structures capacity type (elements_of type) ≡ n = ap (bytes_with layouts.structures capacity type) no ∙ all in
    ap (λ b. 8 * b) (sym bytes)

module _ (program : Program) (layouts : Layouts) (capacity : ℕ) (type : Ty) where
  eight-of : (kind : Kind) → type ≡ element_type program kind → ((node : TypeId) (desc : Option Expr) → type ≡ ty.Node node desc → ⊥) → ((s : Scalar) → type ≡ ty.Num s → ⊥) → Takes program layouts capacity type 8
  eight-of (Nodes node) e no_node no_num = absurd (no_node node (desc_of (slice_get program.structures node.0)) e)
  eight-of (Pointers node) e no_node no_num = subst (λ t. Takes program layouts capacity t 8) (sym e) (plain-width layouts capacity (ty.Ptr (Some (target.Node node)) pointer.Plain false) _ (outs-Ptr (Some (target.Node node)) pointer.Plain false) 8 refl refl)
  eight-of Strings e no_node no_num = subst (λ t. Takes program layouts capacity t 8) (sym e) (plain-width layouts capacity (ty.Str None) _ (outs-Str None) 8 refl refl)
  eight-of Chars e no_node no_num = absurd (no_num (scalar.Int W1 false) e)
  eight-of Raw e no_node no_num = absurd (no_num (scalar.Int W1 false) e)

  pub takes-eight : IsElement program type → ((node : TypeId) (desc : Option Expr) → type ≡ ty.Node node desc → ⊥) → ((s : Scalar) → type ≡ ty.Num s → ⊥) → Takes program layouts capacity type 8
  takes-eight element = eight-of element.0 element.2

  one-of : (kind : Kind) → type ≡ element_type program kind → (s : Scalar) → type ≡ ty.Num s → Takes program layouts capacity type 1
  one-of (Nodes node) e s is = let same : ty.Node node (desc_of (slice_get program.structures node.0)) ≡ ty.Num s = sym e ∙ is in absurd (cc)
  one-of (Pointers node) e s is = let same : element_type program (Pointers node) ≡ ty.Num s = sym e ∙ is in absurd (cc)
  one-of Strings e s is = let same : element_type program Strings ≡ ty.Num s = sym e ∙ is in absurd (cc)
  one-of Chars e s is = subst (λ t. Takes program layouts capacity t 1) (sym e) (plain-width layouts capacity (ty.Num (scalar.Int W1 false)) _ (outs-Num (scalar.Int W1 false)) 1 refl refl)
  one-of Raw e s is = subst (λ t. Takes program layouts capacity t 1) (sym e) (plain-width layouts capacity (ty.Num (scalar.Int W1 false)) _ (outs-Num (scalar.Int W1 false)) 1 refl refl)

  pub takes-one : IsElement program type → (s : Scalar) → type ≡ ty.Num s → Takes program layouts capacity type 1
  takes-one element = one-of element.0 element.2

  there-of : (kind : Kind) → MayHold program kind → type ≡ element_type program kind → (node : TypeId) (desc : Option Expr) → type ≡ ty.Node node desc → node.0 < length program.structures
  there-of (Nodes node) held e other desc is =
      let same : ty.Node node (desc_of (slice_get program.structures node.0)) ≡ ty.Node other desc = sym e ∙ is in
      let alike : node ≡ other = cc in
      subst (λ n. n.0 < length program.structures) alike (slice_get_within program.structures node.0 held.0 held.1)
  there-of (Pointers node) held e other desc is = let same : element_type program (Pointers node) ≡ ty.Node other desc = sym e ∙ is in absurd (cc)
  there-of Strings held e other desc is = let same : element_type program Strings ≡ ty.Node other desc = sym e ∙ is in absurd (cc)
  there-of Chars held e other desc is = let same : element_type program Chars ≡ ty.Node other desc = sym e ∙ is in absurd (cc)
  there-of Raw held e other desc is = let same : element_type program Raw ≡ ty.Node other desc = sym e ∙ is in absurd (cc)

  pub node-there : IsElement program type → (node : TypeId) (desc : Option Expr) → type ≡ ty.Node node desc → node.0 < length program.structures
  node-there element = there-of element.0 element.1 element.2

  module _ (settled : Settled program) (laid : IsLaidOut program layouts) where
    same-of : (kind : Kind) → MayHold program kind → type ≡ element_type program kind → (a b : ℕ) → Takes program layouts capacity type a → Takes program layouts capacity type b → a ≡ b
    same-of (Nodes node) held e a b x y =
        let desc = desc_of (slice_get program.structures node.0) in
        let p = subst (λ t. Takes program layouts capacity t a) e x in
        let q = subst (λ t. Takes program layouts capacity t b) e y in
        let one = sizes-one program layouts settled laid capacity node held.0 held.1 in
        let left : p.0 ≡ one.0 = one.2 p.0 p.1 in
        let right : q.0 ≡ one.0 = one.2 q.0 q.1 in
        omega (arith, left, right, p.2, q.2)
    same-of (Pointers node) held e a b x y =
        let p = subst (λ t. Takes program layouts capacity t a) e x in
        let q = subst (λ t. Takes program layouts capacity t b) e y in
        omega (arith, p, q)
    same-of Strings held e a b x y =
        let p = subst (λ t. Takes program layouts capacity t a) e x in
        let q = subst (λ t. Takes program layouts capacity t b) e y in
        omega (arith, p, q)
    same-of Chars held e a b x y =
        let p = subst (λ t. Takes program layouts capacity t a) e x in
        let q = subst (λ t. Takes program layouts capacity t b) e y in
        omega (arith, p, q)
    same-of Raw held e a b x y =
        let p = subst (λ t. Takes program layouts capacity t a) e x in
        let q = subst (λ t. Takes program layouts capacity t b) e y in
        omega (arith, p, q)

    pub takes-same : IsElement program type → (a b : ℕ) → Takes program layouts capacity type a → Takes program layouts capacity type b → a ≡ b
    takes-same element = same-of element.0 element.1 element.2

    -- ---- the whole

    module _ (element : IsElement program type) (tree : Tree) (fits : FitsSome program capacity type tree) (size : ℕ) (takes : Takes program layouts capacity type size) where
      typed : IsTypeIn program type
      typed = subst (IsTypeIn program) (sym element.2) (IsTypeIn.of_block element.0)

      rises : (at : ℕ) (leaves : List Leaf) → HasLeaves program layouts.structures at type tree leaves → Rises at (written leaves) (at + 8 * size)
      rises at leaves has =
          let order = value-placed program layouts settled laid fits.blocks capacity (outside fits.statics) type (8 * size) at tree leaves typed takes fits.fits has in
          rises-order at (at + 8 * size) leaves order.rising order.inside (omega arith)

      lies : (range : Range) (at : ℕ) (leaves : List Leaf) → HasLeaves program layouts.structures at type tree leaves → at + 8 * size ≤ 8 * length range.bytes → LieIn range leaves
      lies range at leaves has inside = rises-from 0 at (written leaves) (8 * length range.bytes) (omega arith) (rises-end at (written leaves) (at + 8 * size) (8 * length range.bytes) inside (rises at leaves has))

      pub can-put : (range : Range) (at : ℕ) → at % 8 ≡ 0 → at + 8 * size ≤ 8 * length range.bytes → 8 * length range.bytes ≤ MAX_BITS → CanStore program layouts.structures range at type tree
      can-put range at whole inside short =
          let one = value-one_list program layouts settled laid fits.blocks capacity (outside fits.statics) type tree at fits.fits in
          record {
            blocks = fits.blocks;
            capacity = capacity;
            scope = outside fits.statics;
            fits = fits.fits;
            leaves = one.0;
            has = one.1;
            lie = lies range at one.0 one.1 inside;
            typed = inl typed;
            stands = whole-stands type at whole;
            near = record { short = short; near = omega (arith, inside, short) };
          }

      pub put-stored : (old zeros new : Range) (addr : ℕ) → IsInside old addr size → zeros ≡ with_bytes old addr (replicate size 0) → KeepsAddresses old zeros → AreSmall old
          → IsWritten program layouts.structures (8 * (addr - old.start)) type tree zeros new → IsStored program layouts capacity type tree old addr new
      put-stored old zeros new addr inside filled keeps small stored other leaves form takes' has bytes =
          let same : other ≡ size = takes-same element other size takes' takes in
          let at : 0 + 8 * (addr - old.start) ≡ 8 * (addr - old.start) = omega arith in
          let moved : HasLeaves program layouts.structures (8 * (addr - old.start)) type tree (shifted (8 * (addr - old.start)) leaves) =
          subst (λ n. HasLeaves program layouts.structures n type tree (shifted (8 * (addr - old.start)) leaves)) at (has-shifted (8 * (addr - old.start)) has) in
          let room : 8 * (addr - old.start) + 8 * size ≤ 8 * length zeros.bytes = omega (arith, inside.from_start, inside.to_end, keeps.len) in
          let over = stored (shifted (8 * (addr - old.start)) leaves) moved (lies zeros (8 * (addr - old.start)) (shifted (8 * (addr - old.start)) leaves) moved room) in
          stored-whole old zeros new addr size form leaves inside filled over small (subst (λ n. AreBytesOf itself leaves n form) same bytes) (rises (8 * (addr - old.start)) (shifted (8 * (addr - old.start)) leaves) moved)
