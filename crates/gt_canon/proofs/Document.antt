-- Lines as plain data, with names in place of places. A text is read back line by line.
use Rattle.std.proofs.Common.{◌≡◌, ℕ, ◌+◌, ◌*◌, Bool, true, false, ◌&&◌, ◌||◌, ◌==◌, cond, List, [], ◌∷◌, ◌++◌, Option, refl, sym, ap, ap₂, ◌∙◌, arith}
use Rattle.std.proofs.lemmas.List.{append_cancel_left}
use Rattle.std.specs.List.{list_all, AllByRecursion as ByRecursion}
use Rattle.std.specs.Str.{bytes_eq}
use Rattle.std.specs.Prelude.{codes, encode_utf8_all}
use Rattle.std.proofs.lemmas.Bool.{and_parts, false≢true}
use Rattle.gt_types.specs.declared.program.Active.{Active}
use Rattle.gt_types.specs.declared.program.Active.TheVariants.{Always, Tag, Other, Never}
use Rattle.gt_types.specs.declared.program.ChainKind.{ChainKind}
use Rattle.gt_types.specs.declared.program.ChainKind.TheVariants.{Next, Prev, Circular}
use Rattle.gt_types.specs.Names.{is_name_character}
use Rattle.gt_canon.specs.Lines.{integer}
use Rattle.gt_canon.specs.Canon.{chain_word, structure_word}
use Rattle.gt_canon.proofs.Runs.{is_plain, ends, stops, same_head, same_tail, same_words}
use Rattle.gt_canon.proofs.Integers.{integer_plain, same_integer}
use Rattle.gt_canon.proofs.Trees.{Tree, dots, stops-dots, same_dots}
use Rattle.gt_canon.proofs.Forms.{Form, desc_then, form_then, is_good_desc, is_good_form, same_name, same_desc, same_forms}

-- a field, a chain, a structure, a root and a cache
pub data Part : Type 0 where
  part : List ℕ → Form → Active → Part

pub data Link : Type 0 where
  link : ChainKind → List ℕ → List (List ℕ) → Link

pub data Block : Type 0 where
  block : Bool → List ℕ → Option Tree → List Part → List Link → Block

pub data Global : Type 0 where
  global : List ℕ → Form → Bool → Global

pub data Store : Type 0 where
  store : List ℕ → List ℕ → List ℕ → Store

-- the texts of several, and what follows
abbrev pub many : {X : Type 0} → (X → List ℕ → List ℕ) → List X → List ℕ → List ℕ
many then [] s = s
many then (x ∷ xs) s = then x (many then xs s)

abbrev pub active_word : Active → List ℕ
active_word Always = codes "always"
active_word (Tag n) = codes "tag"
active_word Other = codes "default"
active_word Never = codes "never"

abbrev pub active_after : Active → List ℕ → List ℕ
active_after Always s = s
active_after (Tag n) s = 32 ∷ (integer n ++ s)
active_after Other s = s
active_after Never s = s

abbrev pub part_then : Part → List ℕ → List ℕ
part_then (part w f a) s = codes "field" ++ (32 ∷ (encode_utf8_all w ++ form_then f (32 ∷ (active_word a ++ active_after a (10 ∷ s)))))

abbrev pub link_then : Link → List ℕ → List ℕ
link_then (link k w ws) s = codes "chain" ++ (32 ∷ (chain_word k ++ (32 ∷ (encode_utf8_all w ++ dots ws (10 ∷ s)))))

abbrev pub block_then : Block → List ℕ → List ℕ
block_then (block u w d parts links) s =
    structure_word u ++ (32 ∷ (encode_utf8_all w ++ (32 ∷ desc_then d (10 ∷ many part_then parts (many link_then links s)))))

abbrev pub deletable_then : Bool → List ℕ → List ℕ
deletable_then true s = 32 ∷ (codes "deletable" ++ s)
deletable_then false s = s

abbrev pub global_then : Global → List ℕ → List ℕ
global_then (global w f d) s = codes "root" ++ (32 ∷ (encode_utf8_all w ++ form_then f (deletable_then d (10 ∷ s))))

abbrev pub store_then : Store → List ℕ → List ℕ
store_then (store w k v) s = codes "cache" ++ (32 ∷ (encode_utf8_all w ++ (32 ∷ (encode_utf8_all k ++ (32 ∷ (encode_utf8_all v ++ (10 ∷ s)))))))

-- ---- names and types in them

abbrev pub is_good_part : Part → Bool
is_good_part (part w f a) = list_all is_name_character w && is_good_form f

abbrev pub is_good_link : Link → Bool
is_good_link (link k w ws) = list_all is_name_character w && list_all (list_all is_name_character) ws

abbrev pub GoodParts : List Part → Type 0
GoodParts = ByRecursion (λ x. is_good_part x ≡ true)

abbrev pub GoodLinks : List Link → Type 0
GoodLinks = ByRecursion (λ x. is_good_link x ≡ true)

abbrev pub GoodBlock : Block → Type 0
GoodBlock (block u w d parts links) = (list_all is_name_character w ≡ true) × (is_good_desc d ≡ true) × GoodParts parts × GoodLinks links

abbrev pub is_good_global : Global → Bool
is_good_global (global w f d) = list_all is_name_character w && is_good_form f

abbrev pub is_good_store : Store → Bool
is_good_store (store w k v) = list_all is_name_character w && list_all is_name_character k && list_all is_name_character v

-- ---- several, which end where a line of another sort begins

fits_many :
    {X : Type 0} (then : X → List ℕ → List ℕ) (Fits : List ℕ → Type 0) → ((x : X) (s : List ℕ) → Fits (then x s)) → (xs : List X) (s : List ℕ)
    → Fits s → Fits (many then xs s)
fits_many then Fits fits [] s f = f
fits_many then Fits fits (x ∷ xs) s f = fits x (many then xs s)

pub same_many :
    {X : Type 0} (then : X → List ℕ → List ℕ) (begins : List ℕ → Bool) (Good : X → Type 0) (Fits : List ℕ → Type 0)
    → ((x : X) (s : List ℕ) → begins (then x s) ≡ true) → ((x : X) (s : List ℕ) → Fits (then x s))
    → ((x y : X) (s t : List ℕ) → Good x → Good y → Fits s → Fits t → then x s ≡ then y t → (x ≡ y) × (s ≡ t)) → (xs ys : List X) (s t : List ℕ)
    → ByRecursion Good xs → ByRecursion Good ys → Fits s → Fits t → begins s ≡ false → begins t ≡ false → many then xs s ≡ many then ys t
    → (xs ≡ ys) × (s ≡ t)
same_many then begins Good Fits starts fits same [] [] s t gx gy fs ft bs bt e = (refl, e)
same_many then begins Good Fits starts fits same [] (y ∷ ys) s t gx gy fs ft bs bt e =
    absurd (false≢true (sym bs ∙ ap begins e ∙ starts y (many then ys t)))
same_many then begins Good Fits starts fits same (x ∷ xs) [] s t gx gy fs ft bs bt e =
    absurd (false≢true (sym bt ∙ ap begins (sym e) ∙ starts x (many then xs s)))
same_many {X} then begins Good Fits starts fits same (x ∷ xs) (y ∷ ys) s t gx gy fs ft bs bt e =
    let first = same x y (many then xs s) (many then ys t) gx.0 gy.0 (fits_many then Fits fits xs s fs) (fits_many then Fits fits ys t ft) e in
    let rest = same_many then begins Good Fits starts fits same xs ys s t gx.1 gy.1 fs ft bs bt first.1 in
    (ap₂ (λ (z : X) (zs : List X). z ∷ zs) first.0 rest.0, rest.1)

-- ---- which line a text begins with, by its first two bytes

abbrev start : List ℕ → ℕ
start [] = 0
start (c ∷ []) = 0
start (c ∷ d ∷ s) = 256 * c + d

abbrev pub begins_part : List ℕ → Bool
begins_part s = start s == 26217

abbrev pub begins_link : List ℕ → Bool
begins_link s = start s == 25448

abbrev pub begins_block : List ℕ → Bool
begins_block s = (start s == 29556) || (start s == 30062)

abbrev pub begins_global : List ℕ → Bool
begins_global s = start s == 29295

abbrev pub begins_store : List ℕ → Bool
begins_store s = start s == 25441

-- what may follow a structure
abbrev pub Follows : List ℕ → Type 0
Follows s = (begins_part s ≡ false) × (begins_link s ≡ false)

abbrev pub Anything : List ℕ → Type 0
Anything s = Unit {0}

part_begins : (x : Part) (s : List ℕ) → begins_part (part_then x s) ≡ true
part_begins (part w f a) s = refl

link_begins : (x : Link) (s : List ℕ) → begins_link (link_then x s) ≡ true
link_begins (link k w ws) s = refl

link_no_part : (x : Link) (s : List ℕ) → begins_part (link_then x s) ≡ false
link_no_part (link k w ws) s = refl

block_begins : (x : Block) (s : List ℕ) → begins_block (block_then x s) ≡ true
block_begins (block true w d parts links) s = refl
block_begins (block false w d parts links) s = refl

block_follows : (x : Block) (s : List ℕ) → Follows (block_then x s)
block_follows (block true w d parts links) s = (refl, refl)
block_follows (block false w d parts links) s = (refl, refl)

global_begins : (x : Global) (s : List ℕ) → begins_global (global_then x s) ≡ true
global_begins (global w f d) s = refl

global_follows : (x : Global) (s : List ℕ) → Follows (global_then x s)
global_follows (global w f d) s = (refl, refl)

global_no_block : (x : Global) (s : List ℕ) → begins_block (global_then x s) ≡ false
global_no_block (global w f d) s = refl

store_begins : (x : Store) (s : List ℕ) → begins_store (store_then x s) ≡ true
store_begins (store w k v) s = refl

store_follows : (x : Store) (s : List ℕ) → Follows (store_then x s)
store_follows (store w k v) s = (refl, refl)

store_no_block : (x : Store) (s : List ℕ) → begins_block (store_then x s) ≡ false
store_no_block (store w k v) s = refl

store_no_global : (x : Store) (s : List ℕ) → begins_global (store_then x s) ≡ false
store_no_global (store w k v) s = refl

-- ---- fields

abbrev active_kind : Active → ℕ
active_kind Always = 0
active_kind (Tag n) = 1
active_kind Other = 2
active_kind Never = 3

abbrev active_kind_of : List ℕ → ℕ
active_kind_of w = cond (bytes_eq w (codes "always")) 0 (cond (bytes_eq w (codes "tag")) 1 (cond (bytes_eq w (codes "default")) 2 3))

kind-active : (a : Active) → active_kind_of (active_word a) ≡ active_kind a
kind-active Always = refl
kind-active _ = refl

active_plain : (a : Active) → list_all is_plain (active_word a) ≡ true
active_plain Always = refl
active_plain _ = refl

stops-active : (a : Active) (s : List ℕ) → stops (active_after a (10 ∷ s)) ≡ true
stops-active Always s = refl
stops-active _ s = refl

same_active_after :
    (a b : Active) (s t : List ℕ) → active_word a ≡ active_word b → active_after a (10 ∷ s) ≡ active_after b (10 ∷ t) → (a ≡ b) × (s ≡ t)
same_active_after Always Always s t k e = (refl, same_tail 10 10 s t e)
same_active_after (Tag m) (Tag n) s t k e =
    let parts =
    same_words (integer m) (integer n) (10 ∷ s) (10 ∷ t) (integer_plain m) (integer_plain n) refl refl
    (same_tail 32 32 (integer m ++ (10 ∷ s)) (integer n ++ (10 ∷ t)) e) in
    (ap Tag (same_integer m n parts.0), same_tail 10 10 s t parts.1)
same_active_after Other Other s t k e = (refl, same_tail 10 10 s t e)
same_active_after Never Never s t k e = (refl, same_tail 10 10 s t e)
same_active_after a b s t k e =
    let differ : active_kind a ≡ active_kind b = sym (kind-active a) ∙ ap active_kind_of k ∙ kind-active b in
    absurd (omega (arith, differ))

same_active :
    (a b : Active) (s t : List ℕ) → 32 ∷ (active_word a ++ active_after a (10 ∷ s)) ≡ 32 ∷ (active_word b ++ active_after b (10 ∷ t))
    → (a ≡ b) × (s ≡ t)
same_active a b s t e =
    let parts =
    same_words (active_word a) (active_word b) (active_after a (10 ∷ s)) (active_after b (10 ∷ t)) (active_plain a) (active_plain b)
    (stops-active a s) (stops-active b t)
    (same_tail 32 32 (active_word a ++ active_after a (10 ∷ s)) (active_word b ++ active_after b (10 ∷ t)) e) in
    same_active_after a b s t parts.0 parts.1

same_part_fields : (w v : List ℕ) (f g : Form) (a b : Active) → w ≡ v → f ≡ g → a ≡ b → part w f a ≡ part v g b
same_part_fields w v f g a b e h k = ap (λ x. part x f a) e ∙ ap (λ x. part v x a) h ∙ ap (λ x. part v g x) k

same_part :
    (x y : Part) (s t : List ℕ) → is_good_part x ≡ true → is_good_part y ≡ true → Anything s → Anything t → part_then x s ≡ part_then y t
    → (x ≡ y) × (s ≡ t)
same_part (part w f a) (part v g b) s t gx gy fs ft e =
    let px = and_parts _ _ gx in
    let py = and_parts _ _ gy in
    let s' = 32 ∷ (active_word a ++ active_after a (10 ∷ s)) in
    let t' = 32 ∷ (active_word b ++ active_after b (10 ∷ t)) in
    let first =
    same_name w v (form_then f s') (form_then g t') px.0 py.0 refl refl
    (append_cancel_left (codes "field") (32 ∷ (encode_utf8_all w ++ form_then f s')) (32 ∷ (encode_utf8_all v ++ form_then g t')) e) in
    let second = same_forms f g s' t' px.1 py.1 refl refl first.1 in
    let third = same_active a b s t second.1 in
    (same_part_fields w v f g a b first.0 second.0 third.0, third.1)

-- ---- chains

abbrev chain_of : List ℕ → ChainKind
chain_of w = cond (bytes_eq w (codes "next")) Next (cond (bytes_eq w (codes "prev")) Prev Circular)

chain_of-word : (k : ChainKind) → chain_of (chain_word k) ≡ k
chain_of-word Next = refl
chain_of-word _ = refl

chain_plain : (k : ChainKind) → list_all is_plain (chain_word k) ≡ true
chain_plain Next = refl
chain_plain _ = refl

same_link_fields : (k l : ChainKind) (w v : List ℕ) (ws vs : List (List ℕ)) → k ≡ l → w ≡ v → ws ≡ vs → link k w ws ≡ link l v vs
same_link_fields k l w v ws vs e h i = ap (λ x. link x w ws) e ∙ ap (λ x. link l x ws) h ∙ ap (λ x. link l v x) i

same_link :
    (x y : Link) (s t : List ℕ) → is_good_link x ≡ true → is_good_link y ≡ true → Anything s → Anything t → link_then x s ≡ link_then y t
    → (x ≡ y) × (s ≡ t)
same_link (link k w ws) (link l v vs) s t gx gy fs ft e =
    let px = and_parts _ _ gx in
    let py = and_parts _ _ gy in
    let s' = dots ws (10 ∷ s) in
    let t' = dots vs (10 ∷ t) in
    let x' = 32 ∷ (encode_utf8_all w ++ s') in
    let y' = 32 ∷ (encode_utf8_all v ++ t') in
    let first =
    same_words (chain_word k) (chain_word l) x' y' (chain_plain k) (chain_plain l) refl refl
    (same_tail 32 32 (chain_word k ++ x') (chain_word l ++ y')
    (append_cancel_left (codes "chain") (32 ∷ (chain_word k ++ x')) (32 ∷ (chain_word l ++ y')) e)) in
    let second = same_name w v s' t' px.0 py.0 (stops-dots ws (10 ∷ s) refl) (stops-dots vs (10 ∷ t) refl) first.1 in
    let third = same_dots ws vs (10 ∷ s) (10 ∷ t) px.1 py.1 refl refl second.1 in
    (same_link_fields k l w v ws vs (sym (chain_of-word k) ∙ ap chain_of first.0 ∙ chain_of-word l) second.0 third.0, same_tail 10 10 s t third.1)

-- ---- structures

links_no_part : (xs : List Link) (s : List ℕ) → begins_part s ≡ false → begins_part (many link_then xs s) ≡ false
links_no_part [] s e = e
links_no_part (x ∷ xs) s e = link_no_part x (many link_then xs s)

abbrev is_union_of : List ℕ → Bool
is_union_of w = bytes_eq w (codes "union")

is_union_of-word : (u : Bool) → is_union_of (structure_word u) ≡ u
is_union_of-word true = refl
is_union_of-word false = refl

structure_plain : (u : Bool) → list_all is_plain (structure_word u) ≡ true
structure_plain true = refl
structure_plain false = refl

same_block_fields :
    (u u' : Bool) (w w' : List ℕ) (d d' : Option Tree) (ps ps' : List Part) (ls ls' : List Link) → u ≡ u' → w ≡ w' → d ≡ d' → ps ≡ ps' → ls ≡ ls'
    → block u w d ps ls ≡ block u' w' d' ps' ls'
same_block_fields u u' w w' d d' ps ps' ls ls' e f g h i =
    ap (λ x. block x w d ps ls) e ∙ ap (λ x. block u' x d ps ls) f ∙ ap (λ x. block u' w' x ps ls) g ∙ ap (λ x. block u' w' d' x ls) h
    ∙ ap (λ x. block u' w' d' ps' x) i

same_block :
    (x y : Block) (s t : List ℕ) → GoodBlock x → GoodBlock y → Follows s → Follows t → block_then x s ≡ block_then y t → (x ≡ y) × (s ≡ t)
same_block (block u w d ps ls) (block u' w' d' ps' ls') s t gx gy fs ft e =
    let ln = many link_then ls s in
    let ln' = many link_then ls' t in
    let s' = many part_then ps ln in
    let t' = many part_then ps' ln' in
    let x' = 32 ∷ desc_then d (10 ∷ s') in
    let y' = 32 ∷ desc_then d' (10 ∷ t') in
    let first =
    same_words (structure_word u) (structure_word u') (32 ∷ (encode_utf8_all w ++ x')) (32 ∷ (encode_utf8_all w' ++ y')) (structure_plain u)
    (structure_plain u') refl refl e in
    let second = same_name w w' x' y' gx.0 gy.0 refl refl first.1 in
    let third =
    same_desc d d' (10 ∷ s') (10 ∷ t') gx.1 gy.1 refl refl (same_tail 32 32 (desc_then d (10 ∷ s')) (desc_then d' (10 ∷ t')) second.1) in
    let fields =
    same_many part_then begins_part (λ x. is_good_part x ≡ true) Anything part_begins (λ x r. tt) same_part ps ps' ln ln' gx.2 gy.2 tt tt
    (links_no_part ls s fs.0) (links_no_part ls' t ft.0) (same_tail 10 10 s' t' third.1) in
    let chains =
    same_many link_then begins_link (λ x. is_good_link x ≡ true) Anything link_begins (λ x r. tt) same_link ls ls' s t gx.3 gy.3 tt tt fs.1 ft.1
    fields.1 in (
      same_block_fields u u' w w' d d' ps ps' ls ls' (sym (is_union_of-word u) ∙ ap is_union_of first.0 ∙ is_union_of-word u') second.0 third.0
          fields.0 chains.0,
      chains.1,
    )

-- ---- roots and caches

ends-deletable : (d : Bool) (s : List ℕ) → ends (deletable_then d (10 ∷ s)) ≡ true
ends-deletable true s = refl
ends-deletable false s = refl

same_deletable : (a b : Bool) (s t : List ℕ) → deletable_then a (10 ∷ s) ≡ deletable_then b (10 ∷ t) → (a ≡ b) × (s ≡ t)
same_deletable true true s t e = (refl, same_tail 10 10 s t (append_cancel_left (codes " deletable") (10 ∷ s) (10 ∷ t) e))
same_deletable false false s t e = (refl, same_tail 10 10 s t e)
same_deletable true false s t e = let differ = same_head 32 10 (codes "deletable" ++ (10 ∷ s)) t e in absurd (omega (arith, differ))
same_deletable false true s t e = let differ = same_head 10 32 s (codes "deletable" ++ (10 ∷ t)) e in absurd (omega (arith, differ))

same_global_fields : (w v : List ℕ) (f g : Form) (a b : Bool) → w ≡ v → f ≡ g → a ≡ b → global w f a ≡ global v g b
same_global_fields w v f g a b e h k = ap (λ x. global x f a) e ∙ ap (λ x. global v x a) h ∙ ap (λ x. global v g x) k

same_global :
    (x y : Global) (s t : List ℕ) → is_good_global x ≡ true → is_good_global y ≡ true → Follows s → Follows t → global_then x s ≡ global_then y t
    → (x ≡ y) × (s ≡ t)
same_global (global w f a) (global v g b) s t gx gy fs ft e =
    let px = and_parts _ _ gx in
    let py = and_parts _ _ gy in
    let s' = deletable_then a (10 ∷ s) in
    let t' = deletable_then b (10 ∷ t) in
    let first =
    same_name w v (form_then f s') (form_then g t') px.0 py.0 refl refl
    (append_cancel_left (codes "root") (32 ∷ (encode_utf8_all w ++ form_then f s')) (32 ∷ (encode_utf8_all v ++ form_then g t')) e) in
    let second = same_forms f g s' t' px.1 py.1 (ends-deletable a s) (ends-deletable b t) first.1 in
    let third = same_deletable a b s t second.1 in
    (same_global_fields w v f g a b first.0 second.0 third.0, third.1)

same_store_fields : (w w' k k' v v' : List ℕ) → w ≡ w' → k ≡ k' → v ≡ v' → store w k v ≡ store w' k' v'
same_store_fields w w' k k' v v' e f g = ap (λ x. store x k v) e ∙ ap (λ x. store w' x v) f ∙ ap (λ x. store w' k' x) g

same_store :
    (x y : Store) (s t : List ℕ) → is_good_store x ≡ true → is_good_store y ≡ true → Follows s → Follows t → store_then x s ≡ store_then y t
    → (x ≡ y) × (s ≡ t)
same_store (store w k v) (store w' k' v') s t gx gy fs ft e =
    let px = and_parts _ _ gx in
    let py = and_parts _ _ gy in
    let qx = and_parts _ _ px.0 in
    let qy = and_parts _ _ py.0 in
    let s₁ = 32 ∷ (encode_utf8_all v ++ (10 ∷ s)) in
    let t₁ = 32 ∷ (encode_utf8_all v' ++ (10 ∷ t)) in
    let s₂ = 32 ∷ (encode_utf8_all k ++ s₁) in
    let t₂ = 32 ∷ (encode_utf8_all k' ++ t₁) in
    let first =
    same_name w w' s₂ t₂ qx.0 qy.0 refl refl
    (append_cancel_left (codes "cache") (32 ∷ (encode_utf8_all w ++ s₂)) (32 ∷ (encode_utf8_all w' ++ t₂)) e) in
    let second = same_name k k' s₁ t₁ qx.1 qy.1 refl refl first.1 in
    let third = same_name v v' (10 ∷ s) (10 ∷ t) px.1 py.1 refl refl second.1 in
    (same_store_fields w w' k k' v v' first.0 second.0 third.0, same_tail 10 10 s t third.1)

-- ---- the whole

abbrev pub document : List Block → List Global → List Store → List ℕ
document blocks globals stores = codes "gty 1" ++ (10 ∷ many block_then blocks (many global_then globals (many store_then stores [])))

stores_follow : (xs : List Store) → Follows (many store_then xs [])
stores_follow [] = (refl, refl)
stores_follow (x ∷ xs) = store_follows x (many store_then xs [])

globals_follow : (xs : List Global) (s : List ℕ) → Follows s → Follows (many global_then xs s)
globals_follow [] s f = f
globals_follow (x ∷ xs) s f = global_follows x (many global_then xs s)

stores_no_global : (xs : List Store) → begins_global (many store_then xs []) ≡ false
stores_no_global [] = refl
stores_no_global (x ∷ xs) = store_no_global x (many store_then xs [])

stores_no_block : (xs : List Store) → begins_block (many store_then xs []) ≡ false
stores_no_block [] = refl
stores_no_block (x ∷ xs) = store_no_block x (many store_then xs [])

globals_no_block : (xs : List Global) (s : List ℕ) → begins_block s ≡ false → begins_block (many global_then xs s) ≡ false
globals_no_block [] s e = e
globals_no_block (x ∷ xs) s e = global_no_block x (many global_then xs s)

pub same_documents :
    (bs cs : List Block) (gs hs : List Global) (ss ts : List Store) → ByRecursion GoodBlock bs → ByRecursion GoodBlock cs
    → ByRecursion (λ x. is_good_global x ≡ true) gs → ByRecursion (λ x. is_good_global x ≡ true) hs → ByRecursion (λ x. is_good_store x ≡ true) ss
    → ByRecursion (λ x. is_good_store x ≡ true) ts → document bs gs ss ≡ document cs hs ts → (bs ≡ cs) × (gs ≡ hs) × (ss ≡ ts)
same_documents bs cs gs hs ss ts gb gc gg gh gs' gt e =
    let s₁ = many store_then ss [] in
    let t₁ = many store_then ts [] in
    let s₂ = many global_then gs s₁ in
    let t₂ = many global_then hs t₁ in
    let inside =
    same_tail 10 10 (many block_then bs s₂) (many block_then cs t₂)
    (append_cancel_left (codes "gty 1") (10 ∷ many block_then bs s₂) (10 ∷ many block_then cs t₂) e) in
    let first =
    same_many block_then begins_block GoodBlock Follows block_begins block_follows same_block bs cs s₂ t₂ gb gc
    (globals_follow gs s₁ (stores_follow ss)) (globals_follow hs t₁ (stores_follow ts)) (globals_no_block gs s₁ (stores_no_block ss))
    (globals_no_block hs t₁ (stores_no_block ts)) inside in
    let second =
    same_many global_then begins_global (λ x. is_good_global x ≡ true) Follows global_begins global_follows same_global gs hs s₁ t₁ gg gh
    (stores_follow ss) (stores_follow ts) (stores_no_global ss) (stores_no_global ts) first.1 in
    let third =
    same_many store_then begins_store (λ x. is_good_store x ≡ true) Follows store_begins store_follows same_store ss ts [] [] gs' gt (refl, refl)
    (refl, refl) refl refl second.1 in
    (first.0, second.0, third.0)
