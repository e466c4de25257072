-- The leaves of a zero value hold 0 or null, and it names no block.
use Rattle.std.proofs.Common.{◌≡◌, ℕ, ◌+◌, ◌-◌, ◌*◌, Bool, true, false, cond, ◌&&◌, ◌||◌, nat_le, nat_lt, List, [], ◌∷◌, refl, ap, sym, ◌∙◌, None}
use Rattle.std.specs.Prelude.{◌==◌, All, pos}
use Rattle.std.specs.List.{filter, list_any}
use Rattle.std.proofs.lemmas.List.Elements.{All-nil, All-cons, All-head, All-tail, All-append, All-weaker}
use Rattle.std.proofs.lemmas.Nat.Bits.{bit_at-zero}
use Rattle.gt_types.specs.declared.types.Ty.{Ty}
use Rattle.gt_types.specs.declared.program.Program.{Program}
use Rattle.gt_layout.specs.declared.planes.Plane.{Plane}
use Rattle.gt_layout.specs.declared.planes.FieldSpot.{FieldSpot}
use Rattle.gt_layout.specs.Storages.{bytes_of}
use Rattle.gt_tree.specs.Trees.{Tree, Trees, IsZero, AreZero}
use Rattle.gt_tree.specs.Blocks.{Blocks}
use Rattle.gt_tree.specs.Scopes.{Scope}
use Rattle.gt_tree.specs.Fits.{Fits, AllFit, EachFits}
use Rattle.gt_tree.specs.Leaves.{Leaf, Content, leaf, Number, Pointer, byte_leaves, is_number, bit_of, content_bits, is_set_in, HasLeaves, FieldsHaveLeaves, EachHasLeaves}
use Rattle.gt_tree.specs.FixedLaws.{IsHeldAt, AreAddresses}

-- ---- no block

abbrev pub no_blocks : Blocks
no_blocks id = None

abbrev pub no_address : ℕ → ℕ
no_address id = 0

abbrev pub no_bits : ℕ → Bool
no_bits i = false

pub none-addressed : AreAddresses no_blocks no_address
none-addressed = record { not_null = λ id b e. absurd (cc); small = λ id b e. absurd (cc); apart = λ id other b c e. absurd (cc) }

module _ {program : Program} {blocks : Blocks} {capacity : ℕ} where
  mutual
    -- a zero value that fits does so where there is no block
    pub unnamed : {scope : Scope} {type : Ty} {tree : Tree} → Fits program blocks capacity scope type tree → IsZero tree → Fits program no_blocks capacity scope type tree
    unnamed (Fits.number room) z = Fits.number room
    unnamed (Fits.bits room) z = Fits.bits room
    unnamed (Fits.opaque long small) z = Fits.opaque long small
    unnamed (Fits.null p) z = Fits.null p
    unnamed (Fits.to m) z = absurd z
    unnamed (Fits.struct has struct all) z = Fits.struct has struct (unnamed_fields all z)
    unnamed (Fits.member has union active get fits) z = Fits.member has union active get (unnamed fits z)
    unnamed (Fits.common has union active o plain fits) z = Fits.common has union active o plain (unnamed fits z)
    unnamed (Fits.nothing has union active none) z = Fits.nothing has union active none
    unnamed (Fits.array e many each) z = Fits.array e many (unnamed_each each z)
    unnamed (Fits.tail e value le many each) z = Fits.tail e value le many (unnamed_each each z)

    pub unnamed_fields : {scope : Scope} {types : List Ty} {trees : Trees} → AllFit program blocks capacity scope types trees → AreZero trees → AllFit program no_blocks capacity scope types trees
    unnamed_fields AllFit.none z = AllFit.none
    unnamed_fields (AllFit.more fits all) z = AllFit.more (unnamed fits z.0) (unnamed_fields all z.1)

    unnamed_each : {scope : Scope} {type : Ty} {trees : Trees} → EachFits program blocks capacity scope type trees → AreZero trees → EachFits program no_blocks capacity scope type trees
    unnamed_each EachFits.no_more z = EachFits.no_more
    unnamed_each (EachFits.one_more fits each) z = EachFits.one_more (unnamed fits z.0) (unnamed_each each z.1)

-- ---- leaves

abbrev IsNought : Content → Type 0
IsNought (Number n) = n ≡ pos 0
IsNought (Pointer name) = name ≡ None

-- a leaf holds 0 or null
abbrev pub HoldsNought : Leaf → Type 0
HoldsNought l = IsNought l.content

nought-bytes : (at : ℕ) (bytes : List ℕ) → All (λ byte. byte ≡ 0) bytes → All HoldsNought (byte_leaves at bytes)
nought-bytes at [] z = All-nil HoldsNought
nought-bytes at (byte ∷ bytes) z =
    All-cons HoldsNought (leaf at 8 (Number (pos byte))) (byte_leaves (at + 8) bytes) (ap pos (All-head (λ b. b ≡ 0) byte bytes z)) (nought-bytes (at + 8) bytes (All-tail (λ b. b ≡ 0) byte bytes z))

nought-first : (l : Leaf) (ls : List Leaf) (b : Bool) → HoldsNought l → All HoldsNought ls → All HoldsNought (cond b (l ∷ ls) ls)
nought-first l ls true h hs = All-cons HoldsNought l ls h hs
nought-first l ls false h hs = hs

nought-filter : (ls : List Leaf) → All HoldsNought ls → All HoldsNought (filter is_number ls)
nought-filter [] h = All-nil HoldsNought
nought-filter (l ∷ ls) h = nought-first l (filter is_number ls) (is_number l) (All-head HoldsNought l ls h) (nought-filter ls (All-tail HoldsNought l ls h))

module _ {program : Program} {planes : List Plane} where
  mutual
    pub noughts : {at : ℕ} {type : Ty} {tree : Tree} {ls : List Leaf} → HasLeaves program planes at type tree ls → IsZero tree → All HoldsNought ls
    noughts (HasLeaves.number {at} {scalar} {n}) z = All-cons HoldsNought (leaf at (8 * bytes_of scalar) (Number n)) [] z (All-nil HoldsNought)
    noughts (HasLeaves.bits {at} {unit} {width} {n}) z = All-cons HoldsNought (leaf at width (Number n)) [] z (All-nil HoldsNought)
    noughts (HasLeaves.opaque {at} {bytes}) z = nought-bytes at bytes z
    noughts (HasLeaves.null {at} p) z = All-cons HoldsNought (leaf at 64 (Pointer None)) [] refl (All-nil HoldsNought)
    noughts (HasLeaves.to {id} p) z = absurd z
    noughts (HasLeaves.struct h u g fields) z = noughts_fields fields z
    noughts (HasLeaves.member h u g part) z = noughts part z
    noughts (HasLeaves.common {leaves} h u c part) z = nought-filter leaves (noughts part z)
    noughts (HasLeaves.nothing h u n) z = All-nil HoldsNought
    noughts (HasLeaves.array o each) z = noughts_each each z
    noughts (HasLeaves.tail o each) z = noughts_each each z

    pub noughts_fields : {at : ℕ} {types : List Ty} {spots : List FieldSpot} {trees : Trees} {ls : List Leaf} → FieldsHaveLeaves program planes at types spots trees ls → AreZero trees → All HoldsNought ls
    noughts_fields FieldsHaveLeaves.none z = All-nil HoldsNought
    noughts_fields (FieldsHaveLeaves.more {first} {rest} part parts) z = All-append HoldsNought first rest (noughts part z.0) (noughts_fields parts z.1)

    noughts_each : {stride at : ℕ} {type : Ty} {trees : Trees} {ls : List Leaf} → EachHasLeaves program planes stride at type trees ls → AreZero trees → All HoldsNought ls
    noughts_each EachHasLeaves.no_more z = All-nil HoldsNought
    noughts_each (EachHasLeaves.one_more {first} {rest} part parts) z = All-append HoldsNought first rest (noughts part z.0) (noughts_each parts z.1)

-- ---- bits

bits-nought : (width : ℕ) (c : Content) → IsNought c → content_bits no_address width c ≡ 0
bits-nought width (Number n) z = ap (λ m. content_bits no_address width (Number m)) z
bits-nought width (Pointer name) z = ap (λ m. content_bits no_address width (Pointer m)) z

no-bit : (width i : ℕ) (c : Content) → IsNought c → bit_of (content_bits no_address width c) i ≡ false
no-bit width i c z = ap (λ n. bit_of n i) (bits-nought width c z) ∙ ap (λ n. n == 1) (bit_at-zero i)

-- no bit of such leaves is set
pub noughts-held : (ls : List Leaf) → All HoldsNought ls → All (IsHeldAt no_address no_bits) ls
noughts-held ls h = All-weaker HoldsNought (IsHeldAt no_address no_bits) (λ l z i less. sym (no-bit l.width i l.content z)) ls h

both-false : (a b : Bool) → (a && b && false) ≡ false
both-false true true = refl
both-false true false = refl
both-false false b = refl

first-unset : (l : Leaf) (i : ℕ) → HoldsNought l → is_set_in no_address i l ≡ false
first-unset l i z =
    ap (λ b. nat_le l.at i && nat_lt i (l.at + l.width) && b) (no-bit l.width (i - l.at) l.content z) ∙ both-false (nat_le l.at i) (nat_lt i (l.at + l.width))

pub noughts-unset : (ls : List Leaf) (i : ℕ) → All HoldsNought ls → list_any (is_set_in no_address i) ls ≡ false
noughts-unset [] i h = refl
noughts-unset (l ∷ ls) i h =
    ap (λ b. b || list_any (is_set_in no_address i) ls) (first-unset l i (All-head HoldsNought l ls h)) ∙ noughts-unset ls i (All-tail HoldsNought l ls h)
