-- Blocks under the names of objects.
use Rattle.std.proofs.Common.{◌≡◌, ◌≢◌, ◌<◌, ◌==◌, ◌^◌, ℕ, zero, suc, Bool, true, false, cond, List, [], ◌∷◌, ◌++◌, length, get_or, Option, Some, None, ◌&&◌, IsTrue, refl, ap, sym, subst, ◌∙◌, arith, eqb-true, eq-eqb, lt-ltb}
use Rattle.std.specs.Cmp.Derive.{both_true}
use Rattle.std.proofs.lemmas.Bool.{ltb-true}
use Rattle.std.specs.Bool.{Decides}
use Rattle.std.specs.Prelude.{pos, negsuc, All, Contains, find, option_map, slice_get}
use Rattle.std.proofs.lemmas.List.Elements.{All-contains, All-weaker, Contains-append_right, Contains-get_or}
use Rattle.gt_tree.specs.Trees.{Tree, Num, Null, To, Raw, Rec, Alt, Row, Trees, End, And, count}
use Rattle.gt_tree.specs.Blocks as kind
use Rattle.gt_tree.specs.Blocks.{Kind, Nodes, Pointers, Strings, Chars, Block, IsWhole}
use Rattle.gt_tree.specs.Fits.{EndsInZero}
use Rattle.gt_tree.specs.FixedLaws.{AreAddresses}
use Rattle.gt_value.specs.Bytes.{itself}
use Rattle.gt_value.specs.declared.values.Value.{Value}
use Rattle.gt_value.specs.Values.{trees, tree_of}
use Rattle.gt_value.specs.Names.{kind_of, IsTold, HasChar, IsChar}
use Rattle.gt_graph.specs.Objects as typed
use Rattle.gt_graph.specs.Objects.{bytes_in, chars_in, elements_in, block_of, blocks_of}
use Rattle.heap_table.specs.declared.graphs.Object.{Object}
use Rattle.heap_table.specs.Graphs.{object_of, objects_of, blocks_in, values_of, HasName, IsByte, AreBytes, IsText, HasText, is_byte, are_bytes, is_nought, end_in_zero, is_text, is_text_as, AreNamed}

-- ---- the object of a name

-- a typed object is one of these, of this name
pub record IsAmong (objects : List Object) (id : ℕ) (t : typed.Object) : Type 0 where
  pub plain : Object
  pub is : t ≡ object_of plain
  pub named : plain.id ≡ id
  pub there : Contains objects plain

later : (o : Object) (objects : List Object) (id : ℕ) (t : typed.Object) → IsAmong objects id t → IsAmong (o ∷ objects) id t
later o objects id t among = record { plain = among.plain; is = among.is; named = among.named; there = Contains-append_right (o ∷ []) objects among.plain among.there }

first_or : (o : Object) (objects : List Object) (id : ℕ) (t : typed.Object) → (typed.object_of (objects_of objects) id ≡ Some t → IsAmong objects id t) → (b : Bool) → (o.id == id) ≡ b
    → cond b (Some (object_of o)) (typed.object_of (objects_of objects) id) ≡ Some t → IsAmong (o ∷ objects) id t
first_or o objects id t rest true e h = record { plain = o; is = cc; named = eqb-true o.id id e; there = Contains-get_or (o ∷ objects) 0 o (omega arith) }
first_or o objects id t rest false e h = later o objects id t (rest h)

pub found : (objects : List Object) (id : ℕ) (t : typed.Object) → typed.object_of (objects_of objects) id ≡ Some t → IsAmong objects id t
found [] id t h = absurd (cc)
found (o ∷ objects) id t h = first_or o objects id t (found objects id t) (o.id == id) refl h

mapped : {A B : Type 0} (f : A → B) (x : Option A) (b : B) → option_map f x ≡ Some b → (a : A) × (x ≡ Some a) × (f a ≡ b)
mapped f (Some a) b h = (a, refl, cc)
mapped f None b h = absurd (cc)

-- the object of a block
block_found : (objects : List Object) (id : ℕ) (b : Block) → blocks_in objects id ≡ Some b → (t : typed.Object) × IsAmong objects id t × (block_of t ≡ b)
block_found objects id b h =
    let m = mapped block_of (typed.object_of (objects_of objects) id) b h in
    (m.0, found objects id m.0 m.1, m.2)

name_of : (objects : List Object) → All HasName objects → (id : ℕ) (b : Block) → blocks_in objects id ≡ Some b → (0 < id) × (id < 2 ^ 64)
name_of objects names id b h =
    let f = (block_found objects id b h).1 in
    let name = All-contains HasName objects f.plain names f.there in
    (subst (λ n. 0 < n) f.named name.not_null, subst (λ n. n < 2 ^ 64) f.named name.small)

addresses : (objects : List Object) → All HasName objects → AreAddresses (blocks_in objects) itself
addresses objects names = record {
  not_null = λ id b h. (name_of objects names id b h).0;
  small = λ id b h. (name_of objects names id b h).1;
  apart = λ id other b c h i same. same;
}

-- ---- texts

pub bytes_long : (bytes : Trees) → AreBytes bytes → length (bytes_in bytes) ≡ count bytes
bytes_long End each = refl
bytes_long (And tree trees) each = ap (λ t. length (bytes_in (And t trees))) each.0.2 ∙ ap suc (bytes_long trees each.1)

bytes_ended : (bytes : Trees) → AreBytes bytes → EndsInZero bytes → (text : List ℕ) × (bytes_in bytes ≡ text ++ 0 ∷ [])
bytes_ended End each ends = absurd ends
bytes_ended (And tree End) each ends = ([], ap (λ t. bytes_in (And t End)) ends)
bytes_ended (And tree (And next trees)) each ends =
    let rest = bytes_ended (And next trees) each.1 ends in
    (each.0.0 ∷ rest.0, ap (λ t. bytes_in (And t (And next trees))) each.0.2 ∙ ap (λ xs. each.0.0 ∷ xs) rest.1)

-- ---- texts by tests

both : (a b : Bool) → (a && b) ≡ true → (a ≡ true) × (b ≡ true)
both true b h = (refl, h)
both false b h = absurd (cc)

byte_tested : (tree : Tree) → IsByte tree → is_byte tree ≡ true
byte_tested tree is = ap is_byte is.2 ∙ lt-ltb is.0 256 is.1

byte_told : (tree : Tree) → is_byte tree ≡ true → IsByte tree
byte_told (Num (pos n)) h = (n, ltb-true n 256 h, refl)
byte_told (Num (negsuc n)) h = absurd (cc)
byte_told Null h = absurd (cc)
byte_told (To id) h = absurd (cc)
byte_told (Raw bytes) h = absurd (cc)
byte_told (Rec trees) h = absurd (cc)
byte_told (Alt member tree) h = absurd (cc)
byte_told (Row trees) h = absurd (cc)

bytes_tested : (bytes : Trees) → AreBytes bytes → are_bytes bytes ≡ true
bytes_tested End each = refl
bytes_tested (And tree trees) each = both_true (byte_tested tree each.0) (bytes_tested trees each.1)

bytes_told : (bytes : Trees) → are_bytes bytes ≡ true → AreBytes bytes
bytes_told End h = tt
bytes_told (And tree trees) h = let parts = both (is_byte tree) (are_bytes trees) h in (byte_told tree parts.0, bytes_told trees parts.1)

nought_told : (tree : Tree) → is_nought tree ≡ true → tree ≡ Num (pos 0)
nought_told (Num (pos n)) h = ap (λ k. Num (pos k)) (eqb-true n 0 h)
nought_told (Num (negsuc n)) h = absurd (cc)
nought_told Null h = absurd (cc)
nought_told (To id) h = absurd (cc)
nought_told (Raw bytes) h = absurd (cc)
nought_told (Rec trees) h = absurd (cc)
nought_told (Alt member tree) h = absurd (cc)
nought_told (Row trees) h = absurd (cc)

ends_tested : (bytes : Trees) → EndsInZero bytes → end_in_zero bytes ≡ true
ends_tested End ends = absurd ends
ends_tested (And tree End) ends = ap is_nought ends
ends_tested (And tree (And next trees)) ends = ends_tested (And next trees) ends

ends_told : (bytes : Trees) → end_in_zero bytes ≡ true → EndsInZero bytes
ends_told End h = absurd (cc)
ends_told (And tree End) h = nought_told tree h
ends_told (And tree (And next trees)) h = ends_told (And next trees) h

text_tested : (n : ℕ) (value : Tree) → IsText n value → is_text n value ≡ true
text_tested n value text = ap (is_text n) text.row ∙ both_true (eq-eqb (count text.bytes) n text.as_many) (both_true (bytes_tested text.bytes text.each) (ends_tested text.bytes text.ends))

row_told : (n : ℕ) (trees : Trees) → is_text n (Row trees) ≡ true → IsText n (Row trees)
row_told n trees h =
    let parts = both (count trees == n) (are_bytes trees && end_in_zero trees) h in
    let more = both (are_bytes trees) (end_in_zero trees) parts.1 in
    record { bytes = trees; row = refl; as_many = eqb-true (count trees) n parts.0; each = bytes_told trees more.0; ends = ends_told trees more.1 }

text_told : (n : ℕ) (value : Tree) → is_text n value ≡ true → IsText n value
text_told n (Row trees) h = row_told n trees h
text_told n (Num m) h = absurd (cc)
text_told n Null h = absurd (cc)
text_told n (To id) h = absurd (cc)
text_told n (Raw bytes) h = absurd (cc)
text_told n (Rec trees) h = absurd (cc)
text_told n (Alt member tree) h = absurd (cc)

tested_as : (kind : Kind) (n : ℕ) (value : Tree) → (kind ≡ Chars → IsText n value) → is_text_as kind n value ≡ true
tested_as (Nodes node) n value has = refl
tested_as (Pointers node) n value has = refl
tested_as Strings n value has = refl
tested_as Chars n value has = text_tested n value (has refl)
tested_as kind.Raw n value has = refl

told_as : (kind : Kind) (n : ℕ) (value : Tree) → is_text_as kind n value ≡ true → kind ≡ Chars → IsText n value
told_as kind n value h is = text_told n value (ap (λ k. is_text_as k n value) (sym is) ∙ h)

pub named : (objects : List Object) → All HasName objects → All HasText objects → AreNamed objects
named objects names texts = record {
  addresses = addresses objects names;
  texts = All-weaker HasText (λ (o : Object). IsTrue (is_text_as (kind_of o.kind) o.count (tree_of o.value))) (λ o has. tested_as (kind_of o.kind) o.count (tree_of o.value) has.text) objects texts;
}

pub text_in : (objects : List Object) → AreNamed objects → (o : Object) → Contains objects o → kind_of o.kind ≡ Chars → IsText o.count (tree_of o.value)
text_in objects named o there kind =
    told_as (kind_of o.kind) o.count (tree_of o.value)
    (All-contains (λ (o : Object). IsTrue (is_text_as (kind_of o.kind) o.count (tree_of o.value))) objects o named.texts there) kind

-- ---- what is told of blocks

-- the characters of a text are its bytes
chars_are : (kind : Kind) (n : ℕ) (value : Tree) → kind ≡ Chars → (text : IsText n value) → chars_in kind value ≡ bytes_in text.bytes
chars_are kind n value is text = ap (λ k. chars_in k value) is ∙ ap (λ v. bytes_in (elements_in v)) text.row

whole : (o : Object) → (kind_of o.kind ≡ Chars → IsText o.count (tree_of o.value)) → IsWhole (block_of (object_of o))
whole o has kind =
    let text = has kind in
    let chars = chars_are (kind_of o.kind) o.count (tree_of o.value) kind text in
    let ended = bytes_ended text.bytes text.each text.ends in
    (sym text.as_many ∙ sym (bytes_long text.bytes text.each) ∙ ap length (sym chars), (ended.0, chars ∙ ended.1))

-- an object that was found under a name is told as its block
pub told : (objects : List Object) → AreNamed objects → (id : ℕ) (o : Object) → typed.object_of (objects_of objects) id ≡ Some (object_of o)
    → IsTold (blocks_in objects) id (Some (record { kind = o.kind; count = o.count }))
told objects named id o h =
    let f = found objects id (object_of o) h in
    let whole_there : IsWhole (block_of (object_of f.plain)) = whole f.plain (text_in objects named f.plain f.there) in
    (block_of (object_of o), ap (option_map block_of) h, refl, refl, subst (λ t. IsWhole (block_of t)) (sym f.is) whole_there)

pub not_told : (objects : List Object) (id : ℕ) → typed.object_of (objects_of objects) id ≡ None → IsTold (blocks_in objects) id None
not_told objects id h = ap (option_map block_of) h

pub byte_there : (values : List Value) (i : ℕ) (v : Value) (byte : ℕ) → AreBytes (values_of values) → i < length values → v ≡ get_or values i v → tree_of v ≡ Num (pos byte)
    → slice_get (bytes_in (values_of values)) i ≡ Some byte
byte_there [] i v byte each low is here = absurd (omega (arith, low))
byte_there (first ∷ rest) zero v byte each low is here =
    let same : tree_of first ≡ Num (pos byte) = ap tree_of (sym is) ∙ here in
    ap (λ t. slice_get (bytes_in (And t (values_of rest))) 0) same
byte_there (first ∷ rest) (suc i) v byte each low is here =
    ap (λ t. slice_get (bytes_in (And t (values_of rest))) (suc i)) each.0.2 ∙ byte_there rest i v byte each.1 (omega (arith, low)) is here

-- as many trees as values
pub count_values : (values : List Value) → count (values_of values) ≡ length values
count_values [] = refl
count_values (v ∷ values) = ap suc (count_values values)

-- ---- texts by their parts

module _ (n : ℕ) (value : Tree) (parts : List Value) (row : value ≡ Row (values_of parts)) where
  same_bytes : (text : IsText n value) → text.bytes ≡ values_of parts
  same_bytes text = let two : Row text.bytes ≡ Row (values_of parts) = sym text.row ∙ row in cc

  pub text_long : IsText n value → length parts ≡ n
  text_long text = sym (count_values parts) ∙ sym (ap count (same_bytes text)) ∙ text.as_many

  pub uneven_text : length parts ≢ n → Decides false (IsText n value)
  uneven_text off = ((λ h. absurd (cc)), (λ text. absurd (off (text_long text))))

  pub ends_decide : (r : Bool) → length parts ≡ n → AreBytes (values_of parts) → Decides r (EndsInZero (values_of parts)) → Decides r (IsText n value)
  ends_decide r many each d = (
    (λ h. record { bytes = values_of parts; row = row; as_many = count_values parts ∙ many; each = each; ends = d.0 h }),
    (λ text. d.1 (subst EndsInZero (same_bytes text) text.ends)),
  )

  each_there : IsText n value → AreBytes (values_of parts)
  each_there text = subst AreBytes (same_bytes text) text.each

  part_byte : (values : List Value) (i : ℕ) (v : Value) → AreBytes (values_of values) → i < length values → v ≡ get_or values i v → IsByte (tree_of v)
  part_byte [] i v each low is = absurd (omega (arith, low))
  part_byte (first ∷ rest) zero v each low is = subst (λ w. IsByte (tree_of w)) (sym is) each.0
  part_byte (first ∷ rest) (suc i) v each low is = part_byte rest i v each.1 (omega (arith, low)) is

  pub text_byte_is : (i : ℕ) (v : Value) → IsText n value → i < n → v ≡ get_or parts i v → IsByte (tree_of v)
  text_byte_is i v text low is = let long = text_long text in part_byte parts i v (each_there text) (omega (arith, long, low)) is

  pub text_byte : (i : ℕ) (v : Value) (byte : ℕ) → IsText n value → i < n → v ≡ get_or parts i v → tree_of v ≡ Num (pos byte) → slice_get (bytes_in (elements_in value)) i ≡ Some byte
  text_byte i v byte text low is here =
      let long = text_long text in
      ap (λ w. slice_get (bytes_in (elements_in w)) i) row ∙ byte_there parts i v byte (each_there text) (omega (arith, long, low)) is here

-- ---- characters of named blocks

module _ (objects : List Object) (are_named : AreNamed objects) (id : ℕ) (o : Object) (h : typed.object_of (objects_of objects) id ≡ Some (object_of o)) (i : ℕ) (there : HasChar (blocks_in objects) id i) where
  block_is : there.0 ≡ block_of (object_of o)
  block_is = let at : blocks_in objects id ≡ Some (block_of (object_of o)) = ap (option_map block_of) h in let e = there.1 in cc

  pub char_kind : kind_of o.kind ≡ Chars
  char_kind = sym (ap (λ (b : Block). b.kind) block_is) ∙ there.2

  pub char_text : IsText o.count (tree_of o.value)
  char_text =
      let f = found objects id (object_of o) h in
      let kind : kind_of f.plain.kind ≡ Chars = ap (λ (t : typed.Object). t.kind) (sym f.is) ∙ char_kind in
      subst (λ (t : typed.Object). IsText t.count t.value) (sym f.is) (text_in objects are_named f.plain f.there kind)

  pub char_low : i < o.count
  unfolding told
  char_low =
      let whole_block = (told objects are_named id o h).4 char_kind in
      let many : o.count ≡ length (block_of (object_of o)).chars = whole_block.0 in
      let low : i < length there.0.chars = there.3 in
      let same = ap (λ (b : Block). length b.chars) block_is in
      omega (arith, many, low, same)

  pub char_is : (byte : ℕ) → slice_get (bytes_in (elements_in (tree_of o.value))) i ≡ Some byte → IsChar (blocks_in objects) id i byte
  char_is byte at b e k =
      let at_o : blocks_in objects id ≡ Some (block_of (object_of o)) = ap (option_map block_of) h in
      let same : b ≡ block_of (object_of o) = cc in
      ap (λ (x : Block). slice_get x.chars i) same ∙ ap (λ kind. slice_get (chars_in kind (tree_of o.value)) i) char_kind ∙ at
