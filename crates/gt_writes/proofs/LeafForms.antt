-- What a leaf is as a value of a type.
use Rattle.std.proofs.Common.{◌≡◌, ℕ, ◌+◌, ◌*◌, ◌/◌, ◌%◌, ◌<◌, Bool, true, false, ◌||◌, List, IsTrue, length, get_or, refl, ap, sym, subst, ◌∙◌, arith, ext_get_or}
use Rattle.std.specs.Prelude.{ℤ, All, ◌==◌}
use Rattle.gt_types.specs.declared.types.Ty.{Ty}
use Rattle.gt_types.specs.declared.types.Ty.TheVariants as ty
use Rattle.gt_types.specs.declared.program.Program.{Program}
use Rattle.gt_types.specs.Shapes.{is_number}
use Rattle.gt_tree.specs.Numbers.{has_room}
use Rattle.gt_tree.specs.Trees.{Tree, Num, Null, To, Raw, Rec, Alt, Row}
use Rattle.gt_tree.specs.Blocks.{Blocks}
use Rattle.gt_tree.specs.Scopes.{Scope}
use Rattle.gt_tree.specs.Fits.{Fits}
use Rattle.gt_tree.specs.Leaves.{bit_of}
use Rattle.gt_tree.specs.FixedLaws.{bit_in}
use Rattle.gt_tree.proofs.FixedBits.{same_bits}
use Rattle.gt_value.specs.declared.places.LeafContent.{LeafContent}
use Rattle.gt_value.specs.declared.places.LeafContent.TheVariants as content
use Rattle.gt_value.specs.Places.{IsContentOf}
use Rattle.gt_leaf.specs.Writing.{is_number_leaf}
use Rattle.gt_graph.specs.Objects.{Object}
use Rattle.gt_next.specs.Leaves.{is_word_type}
use Rattle.gt_writes.specs.SpotWrites.{LeafSuits, IsTreeOf}
use Rattle.gt_writes.proofs.SpotTypes.{FitsAs}
use Rattle.gt_writes.specs.Rewriting.{IsWordOf, HasWord}

first_true : (a b : Bool) → b ≡ false → IsTrue (a || b) → IsTrue a
first_true true b e h = refl
first_true false b e h = absurd (cc)

number_by : (objects : List Object) (type : Ty) (n : ℤ) → is_word_type type ≡ false → LeafSuits objects type (content.Num n) → IsTreeOf type (content.Num n) (Num n)
number_by objects type n plain (LeafSuits.number takes range) = IsTreeOf.number (first_true (is_number type) (is_word_type type) plain takes)

pub number_leaf : (objects : List Object) (type : Ty) (leaf : LeafContent) (n : ℤ) → leaf ≡ content.Num n → is_word_type type ≡ false → LeafSuits objects type leaf → IsTreeOf type leaf (Num n)
number_leaf objects type leaf n is plain suits = subst (λ l. IsTreeOf type l (Num n)) (sym is) (number_by objects type n plain (subst (LeafSuits objects type) is suits))

pub word_leaf : (type : Ty) (leaf : LeafContent) (n : ℤ) → leaf ≡ content.Num n → (bytes : List ℕ) → is_word_type type ≡ true → IsWordOf n bytes → IsTreeOf type leaf (Raw bytes)
word_leaf type leaf n is bytes word w = subst (λ l. IsTreeOf type l (Raw bytes)) (sym is) (IsTreeOf.word word w.means w.small)

pub null_leaf : (type : Ty) (leaf : LeafContent) → leaf ≡ content.Null → IsTreeOf type leaf Null
null_leaf type leaf is = subst (λ l. IsTreeOf type l Null) (sym is) IsTreeOf.null

pub to_leaf : (type : Ty) (leaf : LeafContent) (address : ℕ) → leaf ≡ content.To address → IsTreeOf type leaf (To address)
to_leaf type leaf address is = subst (λ l. IsTreeOf type l (To address)) (sym is) IsTreeOf.to

-- a number that suits eight bytes has room in them
word_room : (objects : List Object) (type : Ty) (n : ℤ) → is_word_type type ≡ true → LeafSuits objects type (content.Num n) → IsTrue (has_room true 64 n)
word_room objects (ty.Opaque size align) n word (LeafSuits.number takes range) = range
word_room objects type n word suits = absurd (cc)

pub suits_word : (objects : List Object) (type : Ty) (leaf : LeafContent) → is_word_type type ≡ true → LeafSuits objects type leaf → HasWord leaf
suits_word objects type leaf word suits n is = word_room objects type n word (subst (LeafSuits objects type) is suits)

-- ---- a leaf that fits a type

number_fits : {program : Program} {blocks : Blocks} {capacity : ℕ} {scope : Scope} {type : Ty} {m : ℤ} → Fits program blocks capacity scope type (Num m) → (n : ℤ) → n ≡ m → IsTreeOf type (content.Num n) (Num m)
number_fits (Fits.number {scalar} room) n e = subst (λ k. IsTreeOf (ty.Num scalar) (content.Num n) (Num k)) e (IsTreeOf.number refl)
number_fits (Fits.bits {unit} {width} room) n e = subst (λ k. IsTreeOf (ty.Bits unit width) (content.Num n) (Num k)) e (IsTreeOf.number refl)

word_fits : {program : Program} {blocks : Blocks} {capacity : ℕ} {scope : Scope} {type : Ty} {bytes : List ℕ} → Fits program blocks capacity scope type (Raw bytes) → (n : ℤ) → IsContentOf (content.Num n) (Raw bytes) → IsTreeOf type (content.Num n) (Raw bytes)
word_fits (Fits.opaque long small) n means = IsTreeOf.word (ap (λ (k : ℕ). k == 8) (sym long ∙ means.0)) means small

fits_form : {program : Program} {blocks : Blocks} {capacity : ℕ} {scope : Scope} (type : Ty) (n : ℤ) (tree : Tree) → Fits program blocks capacity scope type tree → IsContentOf (content.Num n) tree → IsTreeOf type (content.Num n) tree
fits_form type n (Num m) fits means = number_fits fits n means
fits_form type n (Raw bytes) fits means = word_fits fits n means
fits_form type n Null fits means = absurd means
fits_form type n (To id) fits means = absurd means
fits_form type n (Rec trees) fits means = absurd means
fits_form type n (Alt member tree) fits means = absurd means
fits_form type n (Row trees) fits means = absurd means

null_form : (type : Ty) (tree : Tree) → IsContentOf content.Null tree → IsTreeOf type content.Null tree
null_form type Null means = IsTreeOf.null
null_form type (Num m) means = absurd means
null_form type (Raw bytes) means = absurd means
null_form type (To id) means = absurd means
null_form type (Rec trees) means = absurd means
null_form type (Alt member tree) means = absurd means
null_form type (Row trees) means = absurd means

to_form : (type : Ty) (address : ℕ) (tree : Tree) → IsContentOf (content.To address) tree → IsTreeOf type (content.To address) tree
to_form type address (To id) means = subst (λ i. IsTreeOf type (content.To address) (To i)) means IsTreeOf.to
to_form type address (Num m) means = absurd means
to_form type address (Raw bytes) means = absurd means
to_form type address Null means = absurd means
to_form type address (Rec trees) means = absurd means
to_form type address (Alt member tree) means = absurd means
to_form type address (Row trees) means = absurd means

-- a leaf that means this, and fits a type if it is a number, is what it is as a value of the type
pub form_by : {program : Program} {blocks : Blocks} {capacity : ℕ} (type : Ty) (leaf : LeafContent) (tree : Tree) → IsContentOf leaf tree → (is_number_leaf leaf ≡ true → FitsAs program blocks capacity type tree) → IsTreeOf type leaf tree
form_by type (content.Num n) tree means fits = fits_form type n tree (fits refl).fits means
form_by type content.Null tree means fits = null_form type tree means
form_by type (content.To address) tree means fits = to_form type address tree means

-- what a leaf is as a value of a type, it means
pub tree_means : (type : Ty) (leaf : LeafContent) (tree : Tree) → IsTreeOf type leaf tree → IsContentOf leaf tree
tree_means type leaf tree (IsTreeOf.number n) = refl
tree_means type leaf tree (IsTreeOf.word w means small) = means
tree_means type leaf tree IsTreeOf.null = tt
tree_means type leaf tree IsTreeOf.to = refl

-- ---- a leaf is one value of a type

number_or_word : (type : Ty) → IsTrue (is_number type) → IsTrue (is_word_type type) → ⊥
number_or_word (ty.Opaque size align) n w = cc
number_or_word type n w = cc

-- lists of eight bytes with the same bits are one list
bytes_same : (xs ys : List ℕ) → length xs ≡ 8 → length ys ≡ 8 → All (λ byte. byte < 256) xs → All (λ byte. byte < 256) ys → ((i : ℕ) → i < 64 → bit_in xs i ≡ bit_in ys i) → xs ≡ ys
bytes_same xs ys long other small less bits = ext_get_or 0 xs ys (long ∙ sym other) (λ k lt. same_bits 8 (get_or xs k 0) (get_or ys k 0) (small k 0 lt) (less k 0 (omega (arith, long, other, lt))) (λ j under. at k j (omega (arith, long, lt)) under))
  where
    at : (k j : ℕ) → k < 8 → j < 8 → bit_of (get_or xs k 0) j ≡ bit_of (get_or ys k 0) j
    at k j lt under =
        let i : ℕ = 8 * k + j in
        let byte : i / 8 ≡ k = omega arith in
        let bit : i % 8 ≡ j = omega arith in
        let here = bits i (omega arith) in
        subst (λ q. bit_of (get_or xs q 0) j ≡ bit_of (get_or ys q 0) j) byte (subst (λ r. bit_of (get_or xs (i / 8) 0) r ≡ bit_of (get_or ys (i / 8) 0) r) bit here)

pub one_tree : (type : Ty) (leaf : LeafContent) (a b : Tree) → IsTreeOf type leaf a → IsTreeOf type leaf b → a ≡ b
one_tree type leaf a b (IsTreeOf.number n) (IsTreeOf.number m) = refl
one_tree type leaf a b (IsTreeOf.number n) (IsTreeOf.word w c small) = absurd (number_or_word type n w)
one_tree type leaf a b (IsTreeOf.word w c small) (IsTreeOf.number n) = absurd (number_or_word type n w)
one_tree type leaf a b (IsTreeOf.word {bytes = xs} w c small) (IsTreeOf.word {bytes = ys} v d less) = ap Raw (bytes_same xs ys c.0 d.0 small less (λ i lt. sym (c.2 i lt) ∙ d.2 i lt))
one_tree type leaf a b IsTreeOf.null IsTreeOf.null = refl
one_tree type leaf a b IsTreeOf.to IsTreeOf.to = refl
