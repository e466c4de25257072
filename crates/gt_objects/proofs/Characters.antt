-- The characters of a text as an object: they fit, and the bytes of the text with zeros after them stand for them.
use Rattle.std.proofs.Common.{◌≡◌, ℕ, zero, suc, ◌+◌, ◌-◌, ◌*◌, ◌/◌, ◌%◌, ◌<◌, ◌≤◌, Bool, true, false, ◌&&◌, ◌||◌, nat_le, nat_lt, List, [], ◌∷◌, ◌++◌, Some, None, length, drop, get_or, replicate, refl, ap, sym, subst, ◌∙◌, inl, inr, arith}
use Rattle.std.specs.Prelude.{All, Contains, pos}
use Rattle.std.specs.List.{list_any}
use Rattle.std.proofs.Math.Bool.{or-false}
use Rattle.std.proofs.lemmas.Bool.{cases_lt, le-leb, lt-leb, lt-ltb, le-ltb}
use Rattle.std.proofs.lemmas.List.{drop-replicate, length-append, length-replicate, places, same_lists}
use Rattle.std.proofs.lemmas.List.Elements.{All-head, All-tail, All-cons, All-nil}
use Rattle.gt_types.specs.declared.types.Scalar.TheVariants as scalar
use Rattle.gt_types.specs.declared.types.Ty.{Ty}
use Rattle.gt_types.specs.declared.types.Ty.TheVariants as ty
use Rattle.gt_types.specs.declared.types.Width.TheVariants.{W1}
use Rattle.gt_types.specs.declared.program.Program.{Program}
use Rattle.gt_layout.specs.declared.planes.Plane.{Plane}
use Rattle.gt_layout.specs.declared.planes.Layouts.{Layouts}
use Rattle.gt_layout.specs.Excess.{IsWithin}
use Rattle.gt_space.specs.Range.{Range, IsInside, with_bytes}
use Rattle.gt_space.proofs.RangeLemmas.{IsInside-with_bytes}
use Rattle.gt_tree.specs.Trees.{Trees, Row, count}
use Rattle.gt_tree.specs.Blocks.{Blocks, Chars, element_type}
use Rattle.gt_tree.specs.Scopes.{outside}
use Rattle.gt_tree.specs.Fits.{Fits, EachFits, EndsInZero, BlockFits}
use Rattle.gt_tree.specs.Leaves.{Leaf, leaf, Number, byte_leaves, bit_of, is_set_in, HasLeaves, EachHasLeaves, Stand}
use Rattle.gt_tree.specs.FixedLaws.{bit_in}
use Rattle.gt_pages.specs.Ledger.{rounded, sizes}
use Rattle.gt_graph.specs.Objects.{Graph, blocks_of}
use Rattle.gt_graph.specs.Good.{Heap}
use Rattle.gt_graph.specs.Changes.{characters}
use Rattle.gt_objects.specs.declared.objects.Known.{Known}
use Rattle.gt_objects.specs.declared.objects.Objects.{Objects}
use Rattle.gt_objects.specs.Holding.{IsHeapOf}
use Rattle.gt_objects.specs.Making.{HasSize, IsMade, IsTooLarge, TakesBlock, known_text, text_object}
use Rattle.gt_objects.proofs.Added.{IsNewObject, is_made}
use Rattle.gt_objects.proofs.Listed.{rounded_listed}
use Rattle.gt_objects.proofs.Taking.{ends_above, new_inside, starts_below}
use Rattle.gt_objects.proofs.Widths.{chars_take}
use Rattle.gt_objects.proofs.Zeros.{is_zero, unset_in, zero_at, zeros_are}

abbrev byte_type : Ty
byte_type = ty.Num (scalar.Int W1 false)

-- the text with zeros after it, as many bytes as its block has
abbrev padded : (size : ℕ) → List ℕ → List ℕ
padded size text = text ++ replicate (size - length text) 0

-- ---- they fit

as_many : (text : List ℕ) → count (characters text) ≡ suc (length text)
as_many [] = refl
as_many (byte ∷ text) = ap suc (as_many text)

ends_zero : (text : List ℕ) → EndsInZero (characters text)
ends_zero [] = refl
ends_zero (byte ∷ []) = refl
ends_zero (byte ∷ next ∷ text) = ends_zero (next ∷ text)

module _ (program : Program) (blocks : Blocks) (statics : Trees) where
  characters_fit : (text : List ℕ) → All (λ byte. byte < 256) text → EachFits program blocks 0 (outside statics) (element_type program Chars) (characters text)
  characters_fit [] small = EachFits.one_more (Fits.number refl) EachFits.no_more
  characters_fit (byte ∷ text) small = EachFits.one_more (Fits.number (lt-ltb byte 256 (All-head (λ b. b < 256) byte text small))) (characters_fit text (All-tail (λ b. b < 256) byte text small))

  text_fits : (text : List ℕ) → All (λ byte. byte < 256) text → BlockFits program blocks statics Chars (suc (length text)) 0 (Row (characters text))
  text_fits text small = record { trees = characters text; row = refl; as_many = as_many text; each = characters_fit text small; ends = ends_zero text }

-- ---- their leaves

characters_leaves : (program : Program) (planes : List Plane) (at : ℕ) (text : List ℕ) → EachHasLeaves program planes 8 at byte_type (characters text) (byte_leaves at (text ++ 0 ∷ []))
characters_leaves program planes at [] = EachHasLeaves.one_more HasLeaves.number EachHasLeaves.no_more
characters_leaves program planes at (byte ∷ text) = EachHasLeaves.one_more HasLeaves.number (characters_leaves program planes (at + 8) text)

-- ---- bytes as leaves

module _ (address : ℕ → ℕ) where
  abbrev byte_leaf : ℕ → ℕ → Leaf
  byte_leaf at byte = leaf at 8 (Number (pos byte))

  set_here : (at byte i : ℕ) → at ≤ i → i < at + 8 → is_set_in address i (byte_leaf at byte) ≡ bit_of byte (i - at)
  set_here at byte i low high = ap (λ b. b && nat_lt i (at + 8) && bit_of byte (i - at)) (le-leb at i low) ∙ ap (λ b. b && bit_of byte (i - at)) (lt-ltb i (at + 8) high)

  middle_false : (a c : Bool) → (a && false && c) ≡ false
  middle_false true c = refl
  middle_false false c = refl

  unset_past : (at byte i : ℕ) → at + 8 ≤ i → is_set_in address i (byte_leaf at byte) ≡ false
  unset_past at byte i past = ap (λ b. nat_le at i && b && bit_of byte (i - at)) (le-ltb i (at + 8) past) ∙ middle_false (nat_le at i) (bit_of byte (i - at))

  unset_before : (at : ℕ) (bytes : List ℕ) (i : ℕ) → i < at → list_any (is_set_in address i) (byte_leaves at bytes) ≡ false
  unset_before at [] i before = refl
  unset_before at (byte ∷ bytes) i before =
      ap (λ b. (b && nat_lt i (at + 8) && bit_of byte (i - at)) || list_any (is_set_in address i) (byte_leaves (at + 8) bytes)) (lt-leb at i before)
      ∙ unset_before (at + 8) bytes i (omega (arith, before))

  -- the bits of bytes are those of their leaves
  bits_are : (at : ℕ) (bytes : List ℕ) (i : ℕ) → at ≤ i → bit_in bytes (i - at) ≡ list_any (is_set_in address i) (byte_leaves at bytes)
  bits_are at [] i low = unset_in [] (i - at) (All-nil is_zero)
  bits_are at (byte ∷ bytes) i low = elim (cases_lt i (at + 8)) as (λ _. bit_in (byte ∷ bytes) (i - at) ≡ list_any (is_set_in address i) (byte_leaves at (byte ∷ bytes))) [
    | inl here ↦
        let place : (i - at) / 8 ≡ 0 = omega (arith, low, here) in
        let bit : (i - at) % 8 ≡ i - at = omega (arith, low, here) in
        ap (λ k. bit_of (get_or (byte ∷ bytes) k 0) ((i - at) % 8)) place
        ∙ ap (bit_of byte) bit
        ∙ sym (set_here at byte i low here)
        ∙ sym (or-false (is_set_in address i (byte_leaf at byte)))
        ∙ sym (ap (λ b. is_set_in address i (byte_leaf at byte) || b) (unset_before (at + 8) bytes i here))
    | inr past ↦
        let place : (i - at) / 8 ≡ suc ((i - (at + 8)) / 8) = omega (arith, past) in
        let bit : (i - at) % 8 ≡ (i - (at + 8)) % 8 = omega (arith, past) in
        ap (λ k. bit_of (get_or (byte ∷ bytes) k 0) ((i - at) % 8)) place
        ∙ ap (bit_of (get_or bytes ((i - (at + 8)) / 8) 0)) bit
        ∙ bits_are (at + 8) bytes i past
        ∙ sym (ap (λ b. b || list_any (is_set_in address i) (byte_leaves (at + 8) bytes)) (unset_past at byte i past))
  ]

-- zeros at the end change no bit
get_padded : (xs zeros : List ℕ) (k : ℕ) → All is_zero zeros → get_or (xs ++ zeros) k 0 ≡ get_or xs k 0
get_padded [] zeros k are = zero_at zeros k are
get_padded (x ∷ xs) zeros zero are = refl
get_padded (x ∷ xs) zeros (suc k) are = get_padded xs zeros k are

text_stands : (address : ℕ → ℕ) (text zeros : List ℕ) → All is_zero zeros → Stand address (byte_leaves 0 (text ++ 0 ∷ [])) (text ++ zeros)
text_stands address text zeros are i low =
    let from_start : i - 0 ≡ i = omega arith in
    ap (λ byte. bit_of byte (i % 8)) (get_padded text zeros (i / 8) are ∙ sym (get_padded text (0 ∷ []) (i / 8) (All-cons is_zero 0 [] refl (All-nil is_zero))))
    ∙ ap (bit_in (text ++ 0 ∷ [])) (sym from_start)
    ∙ bits_are address 0 (text ++ 0 ∷ []) i (omega arith)

-- ---- the object

module _ (program : Program) (layouts : Layouts) (text : List ℕ) where
  pub text_sized : (size : ℕ) → rounded (suc (length text)) ≡ Some size → HasSize program layouts (known_text text) size
  text_sized size least =
      let bytes : suc (length text) ≡ suc (length text) * 1 = omega arith in
      (suc (length text) * 1, (1, chars_take program layouts 0, refl), ap rounded (sym bytes) ∙ least)

  pub text_too_large : rounded (suc (length text)) ≡ None → IsTooLarge program layouts (known_text text)
  text_too_large none =
      let bytes : suc (length text) ≡ suc (length text) * 1 = omega arith in
      (suc (length text) * 1, (1, chars_take program layouts 0, refl), ap rounded (sym bytes) ∙ none)

  text_is_new : (g : Graph) (size : ℕ) → All (λ byte. byte < 256) text → length text ≤ size → IsNewObject program layouts g (known_text text) (text_object text) size (padded size text)
  text_is_new g size small le = record {
    object = record {
      may_hold = tt;
      single_tail = λ tails. let is = tails.1 in absurd (cc);
      no_room = λ plain. refl;
      fits = text_fits program (blocks_of g.objects) g.statics text small;
    };
    is_known = record { kind = refl; count = refl; capacity = refl };
    long = length-append text (replicate (size - length text) 0) ∙ ap (λ n. length text + n) (length-replicate (size - length text) 0) ∙ omega (arith, le);
    stands = λ naming range address bytes. record {
      needed = suc (length text);
      leaves = byte_leaves 0 (text ++ 0 ∷ []);
      has = record {
        trees = characters text;
        row = refl;
        width = 8;
        wide = chars_take program layouts 0;
        needs = omega arith;
        each = characters_leaves program layouts.structures 0 text;
      };
      stand = subst (Stand naming (byte_leaves 0 (text ++ 0 ∷ []))) (sym bytes) (text_stands naming text (replicate (size - length text) 0) (zeros_are (size - length text)));
    };
  }

-- ---- the space

-- of two writes at one place the second stands as far as it goes
with_bytes-shorter :
    (r : Range) (address : ℕ) (old new : List ℕ) → IsInside r address (length old) → length new ≤ length old
    → with_bytes (with_bytes r address old) address new ≡ with_bytes r address (new ++ drop (length new) old)
with_bytes-shorter r address old new inside le =
    let same : (with_bytes (with_bytes r address old) address new).bytes ≡ (with_bytes r address (new ++ drop (length new) old)).bytes =
    same_lists _ _ (grind (arith, places)) (λ i d h. grind (arith, places)) in
    ap (λ (xs : List ℕ). let s : Range = record { start = r.start; bytes = xs } in s) same

text_over_zeros :
    (r : Range) (address size : ℕ) (text : List ℕ) → IsInside r address size → length text ≤ size
    → with_bytes (with_bytes r address (replicate size 0)) address text ≡ with_bytes r address (padded size text)
text_over_zeros r address size text inside le =
    let long = length-replicate size 0 in
    with_bytes-shorter r address (replicate size 0) text (subst (IsInside r address) (sym long) inside) (omega (arith, long, le))
    ∙ ap (λ zeros. with_bytes r address (text ++ zeros)) (drop-replicate (length text) size 0)

module _ (old mid : Objects) (known : Known) (address size : ℕ) (taken : TakesBlock old known address size (replicate size 0) mid) (listed : Contains sizes size) (text : List ℕ) (le : length text ≤ size)
    (start : old.space.start ≤ 0x10000000) (ends : 0x10000000 + 4096 * old.pages.pages ≤ old.space.start + length old.space.bytes) where
  inside : IsInside old.space address size
  inside = new_inside old.pages old.space address size taken.place listed start ends

  -- the text lies in the new block
  pub text_inside : IsInside mid.space address (length text)
  text_inside =
      let there = inside in
      let shorter : IsInside old.space address (length text) = record { from_start = there.from_start; to_end = omega (arith, there.to_end, le) } in
      let whole : IsInside old.space address (length (replicate size 0)) = subst (IsInside old.space address) (sym (length-replicate size 0)) there in
      subst (λ r. IsInside r address (length text)) (sym taken.bytes)
      (IsInside-with_bytes old.space address (replicate size 0) address (length text) whole shorter)

  -- the block with the text and zeros after it
  takes_text : (space : Range) → space ≡ with_bytes mid.space address text → TakesBlock old known address size (padded size text) (record mid { space = space })
  takes_text space written = record {
    place = taken.place;
    ledger = taken.ledger;
    laid = taken.laid;
    bytes = written ∙ ap (λ r. with_bytes r address text) taken.bytes ∙ text_over_zeros old.space address size text inside le;
    learns = taken.learns;
    shelves = taken.shelves;
  }

-- ---- the whole

pub text_made : (program : Program) (layouts : Layouts) → IsWithin program layouts → (old mid : Objects) (heap : Heap) → IsHeapOf program layouts old heap → (text : List ℕ) → All (λ byte. byte < 256) text
    → (address size : ℕ) → rounded (suc (length text)) ≡ Some size → TakesBlock old (known_text text) address size (replicate size 0) mid → (space : Range) → space ≡ with_bytes mid.space address text
    → IsMade program layouts heap (text_object text) address size (record mid { space = space })
text_made program layouts within old mid heap was text small address size least taken space written =
    let listed = rounded_listed (suc (length text)) size least in
    let long = listed.1 in
    let le : length text ≤ size = omega (arith, long) in
    is_made program layouts within old (record mid { space = space }) heap was (known_text text) (text_object text) address size (padded size text) (text_is_new program layouts text heap.graph size small le)
    (text_sized program layouts text size least)
    (takes_text old mid (known_text text) address size taken listed.0 text le (starts_below program layouts old heap was) (ends_above program layouts old heap was) space written)
