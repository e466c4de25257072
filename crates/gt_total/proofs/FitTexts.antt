-- What fits has a text, and so has what a path leads to.
use Rattle.std.proofs.Common.{◌≡◌, ℕ, false, IsTrue, List, [], ◌∷◌, refl, sym, subst, arith, Option, Some, None}
use Rattle.std.specs.Prelude.{ℤ, pos, negsuc}
use Rattle.gt_types.specs.declared.expressions.Expr.{Expr}
use Rattle.gt_types.specs.declared.types.Width.TheVariants.{W1}
use Rattle.gt_types.specs.declared.types.Scalar.TheVariants as scalar
use Rattle.gt_types.specs.declared.types.Target.TheVariants as target
use Rattle.gt_types.specs.declared.types.PtrKind.TheVariants as kind
use Rattle.gt_types.specs.declared.types.Ty.{Ty}
use Rattle.gt_types.specs.declared.types.Ty.TheVariants as ty
use Rattle.gt_types.specs.declared.program.Field.{Field}
use Rattle.gt_types.specs.declared.program.Program.{Program}
use Rattle.gt_types.specs.Shapes.{is_pointer}
use Rattle.gt_tree.specs.Trees.{Tree, Num, Trees, End, And}
use Rattle.gt_tree.specs.Blocks.{Kind, Nodes, Pointers, Strings, Chars, Block, Blocks, MayName, element_type}
use Rattle.gt_tree.specs.Blocks as block
use Rattle.gt_tree.specs.Scopes.{Scope, eval_in}
use Rattle.gt_tree.specs.Fits.{Fits, AllFit, EachFits, types_of}
use Rattle.gt_show.specs.Shown.{Shows, ShowFields, ShowEach}
use Rattle.gt_show.specs.BlockTexts.{AreBytes, ShowsBlock}

-- a value has a text
abbrev pub HasText : Program → Blocks → Ty → Tree → Type 0
HasText program blocks type tree = (text : List ℕ) × Shows program blocks type tree text

-- a pointer that may name a block is one, and the block is there
named_block : (blocks : Blocks) (value : Expr → Option ℤ) (type : Ty) (id : ℕ) → MayName blocks value type id → IsTrue (is_pointer type) × ((b : Block) × (blocks id ≡ Some b))
named_block blocks value (ty.Str None) id (b, text, e, k, c, z) = (refl, (b, e))
named_block blocks value (ty.Str (Some len)) id (n, v, (b, e, k, c)) = (refl, (b, e))
named_block blocks value (ty.Ptr (Some (target.Node node)) kind.Plain reorder) id (b, e, k, c) = (refl, (b, e))
named_block blocks value (ty.Ptr (Some (target.Node node)) (kind.Length len) reorder) id (n, v, (b, e, k, c)) = (refl, (b, e))
named_block blocks value (ty.Ptr (Some (target.Pointers node)) (kind.Length len) reorder) id (n, v, (b, e, k, c)) = (refl, (b, e))
named_block blocks value (ty.Ptr (Some target.Strings) (kind.Length len) reorder) id (n, v, (b, e, k, c)) = (refl, (b, e))
named_block blocks value (ty.Ptr None kind.Atomic reorder) id (n, (b, e, k, c)) = (refl, (b, e))
named_block blocks value type id never = absurd never

module _ {program : Program} {blocks : Blocks} {capacity : ℕ} where
  mutual
    pub fits_text : {scope : Scope} {type : Ty} {tree : Tree} → Fits program blocks capacity scope type tree → HasText program blocks type tree
    fits_text (Fits.number room) = (_, Shows.number refl)
    fits_text (Fits.bits room) = (_, Shows.number refl)
    fits_text (Fits.opaque long small) = (_, Shows.opaque)
    fits_text (Fits.null pointer) = (_, Shows.null pointer)
    fits_text (Fits.to {scope} {type} {id} may) = let b = named_block blocks (eval_in program scope) type id may in (_, Shows.to b.0 b.1.1)
    fits_text (Fits.struct {s} has struct all) = let texts = fields_text all s.fields refl in (_, Shows.struct has struct texts.1)
    fits_text (Fits.member has union active get fits) = let text = fits_text fits in (_, Shows.member has union get text.1)
    fits_text (Fits.common has union active is plain fits) = let text = fits_text fits in (_, Shows.common has union is text.1)
    fits_text (Fits.nothing has union active none) = (_, Shows.nothing has union none)
    fits_text (Fits.array e many each) = let texts = each_text each in (_, Shows.array e texts.1)
    fits_text (Fits.tail e value le many each) = let texts = each_text each in (_, Shows.tail e texts.1)

    fields_text : {scope : Scope} {types : List Ty} {trees : Trees} → AllFit program blocks capacity scope types trees → (fields : List Field) → types ≡ types_of fields
        → (texts : List (List ℕ)) × ShowFields program blocks fields trees texts
    fields_text AllFit.none [] e = ([], ShowFields.no_field)
    fields_text AllFit.none (f ∷ fields) e = absurd (cc)
    fields_text (AllFit.more fits all) [] e = absurd (cc)
    fields_text (AllFit.more {type} {types} {tree} fits all) (f ∷ fields) e =
        let first : type ≡ f.ty = cc in
        let rest : types ≡ types_of fields = cc in
        let text = fits_text fits in
        let texts = fields_text all fields rest in
        (_, ShowFields.next_field (subst (λ t. Shows program blocks t tree text.0) first text.1) texts.1)

    pub each_text : {scope : Scope} {type : Ty} {trees : Trees} → EachFits program blocks capacity scope type trees → (texts : List (List ℕ)) × ShowEach program blocks type trees texts
    each_text EachFits.no_more = ([], ShowEach.no_more)
    each_text (EachFits.one_more fits each) = let text = fits_text fits in let texts = each_text each in (_, ShowEach.one_more text.1 texts.1)

  -- ---- blocks

  byte_is : {scope : Scope} {tree : Tree} → Fits program blocks capacity scope (ty.Num (scalar.Int W1 false)) tree → (n : ℕ) × (tree ≡ Num (pos n))
  byte_is (Fits.number {n = pos n} room) = (n, refl)
  byte_is (Fits.number {n = negsuc n} room) = absurd (cc)
  byte_is (Fits.null pointer) = absurd (cc)
  byte_is (Fits.to may) = absurd may
  byte_is (Fits.array e many each) = absurd (let is = ty.outs-Num (scalar.Int W1 false) in cc)
  byte_is (Fits.tail e value le many each) = absurd (let is = ty.outs-Num (scalar.Int W1 false) in cc)

  bytes_are : {scope : Scope} {trees : Trees} → EachFits program blocks capacity scope (ty.Num (scalar.Int W1 false)) trees → (bytes : List ℕ) × AreBytes trees bytes
  bytes_are EachFits.no_more = ([], AreBytes.no_byte)
  bytes_are (EachFits.one_more {trees} fits each) =
      let byte = byte_is fits in
      let bytes = bytes_are each in
      (byte.0 ∷ bytes.0, subst (λ t. AreBytes (And t trees) (byte.0 ∷ bytes.0)) (sym byte.1) (AreBytes.next_byte bytes.1))

  pub block_text : {scope : Scope} (o : Kind) (trees : Trees) → EachFits program blocks capacity scope (element_type program o) trees → (text : List ℕ) × ShowsBlock program blocks o trees text
  block_text (Nodes node) (And tree End) (EachFits.one_more fits each) = let text = fits_text fits in (_, ShowsBlock.one text.1)
  block_text (Nodes node) End each = let texts = each_text each in (_, ShowsBlock.several (λ e. absurd (omega (arith, e))) texts.1)
  block_text (Nodes node) (And tree (And next trees)) each = let texts = each_text each in (_, ShowsBlock.several (λ e. absurd (omega (arith, e))) texts.1)
  block_text (Pointers node) trees each = let texts = each_text each in (_, ShowsBlock.pointers texts.1)
  block_text Strings trees each = let texts = each_text each in (_, ShowsBlock.strings texts.1)
  block_text Chars trees each = let bytes = bytes_are each in (_, ShowsBlock.chars bytes.1)
  block_text block.Raw trees each = let bytes = bytes_are each in (_, ShowsBlock.raw bytes.1)
