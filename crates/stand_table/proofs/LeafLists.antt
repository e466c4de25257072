-- The leaves of values one after another.
use Rattle.std.proofs.Common.{◌≡◌, ℕ, ◌+◌, ◌*◌, ◌<◌, ◌≤◌, List, [], ◌∷◌, ◌++◌, length, drop, get_or, map, ap, sym, subst, ◌∙◌}
use Rattle.std.specs.Prelude.{pos}
use Rattle.std.specs.List.{filter}
use Rattle.std.proofs.lemmas.List.{map-append, append_assoc, append-nil}
use Rattle.gt_types.specs.declared.types.Ty.{Ty}
use Rattle.gt_types.specs.declared.program.Field.{Field}
use Rattle.gt_layout.specs.declared.planes.FieldSpot.{FieldSpot}
use Rattle.gt_layout.specs.Places.{begin_at}
use Rattle.gt_layout.specs.Storages.{extent_of}
use Rattle.gt_tree.specs.Fits.{types_of}
use Rattle.gt_tree.specs.Leaves as tree
use Rattle.gt_tree.specs.Leaves.{HasLeaves, FieldsHaveLeaves, EachHasLeaves, Number, leaf, byte_leaves, is_number}
use Rattle.gt_value.specs.declared.values.Value.{Value}
use Rattle.gt_value.specs.Values.{trees, tree_of}
use Rattle.value_notation.specs.declared.samples.Sample.{Sample}
use Rattle.stand_table.specs.declared.leaves.Leaf.{Leaf}
use Rattle.stand_table.specs.Leaves.{leaf_of, leaves_in}
use Rattle.stand_table.specs.Walks.{AreLeaves, AreOfFields, AreOfElements}
use Rattle.stand_table.proofs.LeafBits.{drop-place, drop-item, drop-none}

-- more leaves after the first ones, and others after these
joined : (leaves more : List Leaf) (rest : List tree.Leaf) → leaves_in leaves ++ (leaves_in more ++ rest) ≡ leaves_in (leaves ++ more) ++ rest
joined leaves more rest = sym (append_assoc (leaves_in leaves) (leaves_in more) rest) ∙ ap (λ xs. xs ++ rest) (sym (map-append leaf_of leaves more))

alone : (leaves : List Leaf) → leaves_in leaves ++ [] ≡ leaves_in leaves
alone leaves = append-nil (leaves_in leaves)

-- ---- fields

module _ (on : Sample) (at : ℕ) (fields : List Field) (spots : List FieldSpot) (values : List Value) where
  abbrev Have : List Field → List FieldSpot → List Value → List tree.Leaf → Type 0
  Have fs ss vs leaves = FieldsHaveLeaves on.program on.layouts.structures at (types_of fs) ss (trees (map tree_of vs)) leaves

  -- leaves are those of so many fields: with those of the others they are those of all
  abbrev pub FieldsSoFar : ℕ → List Leaf → Type 0
  FieldsSoFar i leaves = (rest : List tree.Leaf) → Have (drop i fields) (drop i spots) (drop i values) rest → Have fields spots values (leaves_in leaves ++ rest)

  pub fields-start : FieldsSoFar 0 []
  fields-start = λ rest have. have

  pub fields-more : (i : ℕ) (leaves more : List Leaf) (e : Field) (d : FieldSpot) (v : Value) → i < length fields → i < length spots → i < length values → v ≡ get_or values i v
      → AreLeaves on (at + begin_at (get_or spots i d)) (get_or fields i e).ty (tree_of v) more → FieldsSoFar i leaves → FieldsSoFar (i + 1) (leaves ++ more)
  fields-more i leaves more e d v hf hs hv ev part so =
      λ rest have.
      let first : Have (get_or fields i e ∷ drop (i + 1) fields) (get_or spots i d ∷ drop (i + 1) spots) (v ∷ drop (i + 1) values) (leaves_in more ++ rest) = FieldsHaveLeaves.more part have in
      let one = subst (λ fs. Have fs (get_or spots i d ∷ drop (i + 1) spots) (v ∷ drop (i + 1) values) (leaves_in more ++ rest)) (sym (drop-place fields i e hf)) first in
      let two = subst (λ ss. Have (drop i fields) ss (v ∷ drop (i + 1) values) (leaves_in more ++ rest)) (sym (drop-place spots i d hs)) one in
      let three = subst (λ vs. Have (drop i fields) (drop i spots) vs (leaves_in more ++ rest)) (sym (drop-item values i v hv ev)) two in
      subst (Have fields spots values) (joined leaves more rest) (so (leaves_in more ++ rest) three)

  pub fields-end : (i : ℕ) (leaves : List Leaf) → length values ≤ i → length fields ≤ i → length spots ≤ i → FieldsSoFar i leaves → AreOfFields on at fields spots values leaves
  fields-end i leaves hv hf hs so =
      let none : Have [] [] [] [] = FieldsHaveLeaves.none in
      let one = subst (λ fs. Have fs [] [] []) (sym (drop-none fields i hf)) none in
      let two = subst (λ ss. Have (drop i fields) ss [] []) (sym (drop-none spots i hs)) one in
      let three = subst (λ vs. Have (drop i fields) (drop i spots) vs []) (sym (drop-none values i hv)) two in
      subst (Have fields spots values) (alone leaves) (so [] three)

-- ---- elements

module _ (on : Sample) (at : ℕ) (elem : Ty) (values : List Value) where
  abbrev Each : ℕ → List Value → List tree.Leaf → Type 0
  Each begin vs leaves = EachHasLeaves on.program on.layouts.structures (8 * (extent_of on.layouts.structures elem).size) begin elem (trees (map tree_of vs)) leaves

  -- leaves are those of so many elements: with those of the others, which begin at a bit, they are those of all
  abbrev pub ElementsSoFar : ℕ → ℕ → List Leaf → Type 0
  ElementsSoFar i begin leaves = (rest : List tree.Leaf) → Each begin (drop i values) rest → Each at values (leaves_in leaves ++ rest)

  pub elements-start : ElementsSoFar 0 at []
  elements-start = λ rest have. have

  pub elements-more : (i begin next : ℕ) (leaves more : List Leaf) (v : Value) → i < length values → v ≡ get_or values i v
      → next ≡ begin + 8 * (extent_of on.layouts.structures elem).size → AreLeaves on begin elem (tree_of v) more → ElementsSoFar i begin leaves → ElementsSoFar (i + 1) next (leaves ++ more)
  elements-more i begin next leaves more v hv ev after part so =
      λ rest have.
      let later : Each (begin + 8 * (extent_of on.layouts.structures elem).size) (drop (i + 1) values) rest = subst (λ bit. Each bit (drop (i + 1) values) rest) after have in
      let first : Each begin (v ∷ drop (i + 1) values) (leaves_in more ++ rest) = EachHasLeaves.one_more part later in
      let one = subst (λ vs. Each begin vs (leaves_in more ++ rest)) (sym (drop-item values i v hv ev)) first in
      subst (Each at values) (joined leaves more rest) (so (leaves_in more ++ rest) one)

  pub elements-end : (i begin : ℕ) (leaves : List Leaf) → length values ≤ i → ElementsSoFar i begin leaves → AreOfElements on at elem values leaves
  elements-end i begin leaves hv so =
      let none : Each begin [] [] = EachHasLeaves.no_more in
      subst (Each at values) (alone leaves) (so [] (subst (λ vs. Each begin vs []) (sym (drop-none values i hv)) none))

-- ---- bytes

module _ (at : ℕ) (bytes : List ℕ) where
  -- leaves are those of so many bytes: with those of the others, which begin at a bit, they are those of all
  abbrev pub BytesSoFar : ℕ → ℕ → List Leaf → Type 0
  BytesSoFar i begin leaves = leaves_in leaves ++ byte_leaves begin (drop i bytes) ≡ byte_leaves at bytes

  pub bytes-more : (i begin next : ℕ) (leaves : List Leaf) (l : Leaf) (byte : ℕ) → i < length bytes → byte ≡ get_or bytes i byte → next ≡ begin + 8 → leaf_of l ≡ leaf begin 8 (Number (pos byte))
      → BytesSoFar i begin leaves → BytesSoFar (i + 1) next (leaves ++ l ∷ [])
  bytes-more i begin next leaves l byte low is after made so =
      ap (λ bit. leaves_in (leaves ++ l ∷ []) ++ byte_leaves bit (drop (i + 1) bytes)) after
      ∙ sym (joined leaves (l ∷ []) (byte_leaves (begin + 8) (drop (i + 1) bytes)))
      ∙ ap (λ x. leaves_in leaves ++ (x ∷ byte_leaves (begin + 8) (drop (i + 1) bytes))) made
      ∙ ap (λ bs. leaves_in leaves ++ byte_leaves begin bs) (sym (drop-item bytes i byte low is))
      ∙ so

  pub bytes-end : (i begin : ℕ) (leaves : List Leaf) → length bytes ≤ i → BytesSoFar i begin leaves → leaves_in leaves ≡ byte_leaves at bytes
  bytes-end i begin leaves past so = sym (alone leaves) ∙ ap (λ bs. leaves_in leaves ++ byte_leaves begin bs) (sym (drop-none bytes i past)) ∙ so

-- ---- numbers among leaves

module _ (leaves : List Leaf) where
  -- leaves are the numbers among so many: with those among the others they are those among all
  abbrev pub NumbersSoFar : ℕ → List Leaf → Type 0
  NumbersSoFar i numbers = leaves_in numbers ++ filter is_number (leaves_in (drop i leaves)) ≡ filter is_number (leaves_in leaves)

  pub numbers-end : (i : ℕ) (numbers : List Leaf) → length leaves ≤ i → NumbersSoFar i numbers → leaves_in numbers ≡ filter is_number (leaves_in leaves)
  numbers-end i numbers past so = sym (alone numbers) ∙ ap (λ ls. leaves_in numbers ++ filter is_number (leaves_in ls)) (sym (drop-none leaves i past)) ∙ so
