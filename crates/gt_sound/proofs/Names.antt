-- What files declare: the names of each kind in order, structures that are counted, and typedefs with names.
use Rattle.std.proofs.Common.{◌≡◌, ◌∙◌, ℕ, suc, ◌+◌, ◌<◌, ◌≤◌, ℤ, Bool, true, false, List, [], ◌∷◌, ◌++◌, length, map, Option, Some, None, refl, sym, ap, subst, arith, if◌then◌else◌, append_assoc, append-nil, length-append}
use Rattle.std.specs.Prelude.{All, IfSome, int_lt, pos, is_some, ◌||◌}
use Rattle.std.specs.Option.{option_map_or}
use Rattle.std.specs.List.{filter_map}
use Rattle.std.proofs.lemmas.List.{map-append}
use Rattle.std.proofs.lemmas.List.Elements.{All-nil, All-cons, All-head, All-tail, All-append, All-weaker}
use Rattle.gt_types.specs.Names.{IsName}
use Rattle.gt_types.specs.declared.types.Scalar.TheVariants as scalar
use Rattle.gt_types.specs.declared.types.Width.TheVariants.{W4}
use Rattle.gt_items.specs.declared.items.Name.{Name}
use Rattle.gt_items.specs.declared.items.Alias.{Alias}
use Rattle.gt_items.specs.declared.items.Item.{Item}
use Rattle.gt_items.specs.declared.items.Item.TheVariants as item
use Rattle.gt_items.specs.declared.items.Items.{Items}
use Rattle.gt_items.specs.declared.items.Meaning.{Meaning}
use Rattle.gt_items.specs.declared.items.Meaning.TheVariants as meaning
use Rattle.gt_items.specs.declared.items.RawConstant.{RawConstant}
use Rattle.gt_items.specs.declared.items.RawEnum.{RawEnum}
use Rattle.gt_items.specs.declared.items.RawStructure.{RawStructure}
use Rattle.gt_items.specs.declared.items.Enumerator.{Enumerator}
use Rattle.gt_items.specs.declared.items.Enumerator.TheVariants as enumerator
use Rattle.gt_scope.specs.declared.types.Spelled.{Spelled}
use Rattle.gt_scope.specs.declared.types.Spelled.TheVariants.{Number, Tagged}
use Rattle.gt_scope.specs.declared.declaration.Declaration.{Declaration}
use Rattle.gt_scope.specs.declared.declaration.What.{What}
use Rattle.gt_scope.specs.declared.declaration.What.TheVariants.{Structure, Enum, Constant, Typedef, Root, Cache}
use Rattle.gt_scope.specs.declared.meaning.TypedefMeaning.{TypedefMeaning}
use Rattle.gt_scope.specs.Spelling.{fixed_of}
use Rattle.gt_scope.specs.Declarations.{Progress, define_of, defines_before, up_to, declare, is_in_range, with_constant, enumerate, next_count, value_at, enumerators, enum_tag, declare_enum, keyword_of, declare_alias, declare_aliases, declare_structure, meaning_type, declare_typedef, declare_item, declare_items, declare_file, declare_files, nothing_declared, declarations}
use Rattle.gt_resolve.specs.Drafts.{structure_item, root_item, cache_item, items_from}
use Rattle.gt_sound.specs.WellMade.{IsWellMade, IsWellMadeItem, IsWellMadeStructure}

-- ---- names by kind

pub data Kind : Type 0 where
  tags : Kind
  roots : Kind
  caches : Kind

-- whether a declaration is of a kind
abbrev pub is_of : What → Kind → Bool
is_of (Structure is_union id) tags = true
is_of (Structure is_union id) roots = false
is_of (Structure is_union id) caches = false
is_of (Enum is_signed) k = false
is_of (Constant value) k = false
is_of (Typedef ty stars) k = false
is_of Root tags = false
is_of Root roots = true
is_of Root caches = false
is_of Cache tags = false
is_of Cache roots = false
is_of Cache caches = true

abbrev pub name_if : Bool → List ℕ → List (List ℕ)
name_if true word = word ∷ []
name_if false word = []

-- the names of what passes a test, in order
abbrev pub picked : (What → Bool) → List Declaration → List (List ℕ)
picked is [] = []
picked is (d ∷ ds) = name_if (is d.what) d.name.word ++ picked is ds

-- the names of a kind, in order
abbrev pub named : Kind → List Declaration → List (List ℕ)
named k ds = picked (λ w. is_of w k) ds

named-append : (k : Kind) (xs ys : List Declaration) → named k (xs ++ ys) ≡ named k xs ++ named k ys
named-append k [] ys = refl
named-append k (x ∷ xs) ys =
    ap (λ zs. name_if (is_of x.what k) x.name.word ++ zs) (named-append k xs ys)
    ∙ sym (append_assoc (name_if (is_of x.what k) x.name.word) (named k xs) (named k ys))

-- of a declared structure the place is below this
abbrev pub IsBelow : ℕ → What → Type 0
IsBelow n (Structure is_union id) = id < n
IsBelow n w = Unit {0}

-- a typedef declares a name
abbrev pub HasWord : What → List ℕ → Type 0
HasWord (Typedef ty stars) word = IsName word
HasWord w word = Unit {0}

abbrev pub Words : Declaration → Type 0
Words d = HasWord d.what d.name.word

-- what is known of what was declared so far, by the names of each kind
pub record Declares (names : Kind → List (List ℕ)) (done : List Declaration) (count : ℕ) : Type 0 where
  pub listed : (k : Kind) → named k done ≡ names k
  pub counted : count ≡ length (names tags)
  pub below : All (λ d. IsBelow count d.what) done
  pub words : All Words done

abbrev Known : (Kind → List (List ℕ)) → Progress → Type 0
Known names p = Declares names p.done p.structures

still_below : (m n : ℕ) (w : What) → m ≤ n → IsBelow m w → IsBelow n w
still_below m n (Structure is_union id) l h = omega (arith, l, h)
still_below m n (Enum is_signed) l h = tt
still_below m n (Constant value) l h = tt
still_below m n (Typedef ty stars) l h = tt
still_below m n Root l h = tt
still_below m n Cache l h = tt

-- the same names
renamed : (a b : Kind → List (List ℕ)) (done : List Declaration) (count : ℕ) → ((k : Kind) → a k ≡ b k) → Declares a done count → Declares b done count
renamed a b done count same d =
    record { listed = λ k. d.listed k ∙ same k; counted = d.counted ∙ ap (λ names. length names) (same tags); below = d.below; words = d.words }

-- some declarations more
added : (names : Kind → List (List ℕ)) (done new : List Declaration) (count : ℕ) → All (λ d. IsBelow (count + length (named tags new)) d.what) new → All Words new
    → Declares names done count → Declares (λ k. names k ++ named k new) (done ++ new) (count + length (named tags new))
added names done new count below words d =
    record {
      listed = λ k. named-append k done new ∙ ap (λ xs. xs ++ named k new) (d.listed k);
      counted = ap (λ n. n + length (named tags new)) d.counted ∙ sym (length-append (names tags) (named tags new));
      below = All-append (λ x. IsBelow (count + length (named tags new)) x.what) done new
          (All-weaker (λ x. IsBelow count x.what) (λ x. IsBelow (count + length (named tags new)) x.what) (λ x h. still_below count (count + length (named tags new)) x.what (omega arith) h) done d.below)
          below;
      words = All-append Words done new d.words words;
    }

-- declarations of no kind
quiet : (names : Kind → List (List ℕ)) (done new : List Declaration) (count : ℕ) → ((k : Kind) → named k new ≡ []) → ((n : ℕ) → All (λ d. IsBelow n d.what) new) → All Words new
    → Declares names done count → Declares names (done ++ new) count
quiet names done new count none below words d =
    let more = added names done new count (below (count + length (named tags new))) words d in
    let same = renamed (λ k. names k ++ named k new) names (done ++ new) (count + length (named tags new)) (λ k. ap (λ xs. names k ++ xs) (none k) ∙ append-nil (names k)) more in
    let size : length (named tags new) ≡ 0 = ap (λ xs. length xs) (none tags) in
    let sum : count + length (named tags new) ≡ count = omega (arith, size) in
    subst (λ n. Declares names (done ++ new) n) sum same

-- ---- constants

defines_named : (k : Kind) (file : ℕ) (cs : List RawConstant) → named k (map (define_of file) cs) ≡ []
defines_named k file [] = refl
defines_named k file (c ∷ cs) = defines_named k file cs

defines_below : (n file : ℕ) (cs : List RawConstant) → All (λ d. IsBelow n d.what) (map (define_of file) cs)
defines_below n file [] = All-nil (λ d. IsBelow n d.what)
defines_below n file (c ∷ cs) = All-cons (λ d. IsBelow n d.what) (define_of file c) (map (define_of file) cs) tt (defines_below n file cs)

defines_words : (file : ℕ) (cs : List RawConstant) → All Words (map (define_of file) cs)
defines_words file [] = All-nil Words
defines_words file (c ∷ cs) = All-cons Words (define_of file c) (map (define_of file) cs) tt (defines_words file cs)

with_defines : (names : Kind → List (List ℕ)) (file : ℕ) (cs : List RawConstant) (done : List Declaration) (count : ℕ) → Declares names done count
    → Declares names (done ++ map (define_of file) cs) count
with_defines names file cs done count d =
    quiet names done (map (define_of file) cs) count (λ k. defines_named k file cs) (λ n. defines_below n file cs) (defines_words file cs) d

-- one declaration of no kind
with_quiet : (names : Kind → List (List ℕ)) (one : Declaration) (done : List Declaration) (count : ℕ) → ((k : Kind) → named k (one ∷ []) ≡ []) → ((n : ℕ) → IsBelow n one.what) → Words one
    → Declares names done count → Declares names (done ++ one ∷ []) count
with_quiet names one done count none below words d =
    quiet names done (one ∷ []) count none (λ n. All-cons (λ x. IsBelow n x.what) one [] (below n) (All-nil (λ x. IsBelow n x.what))) (All-cons Words one [] words (All-nil Words)) d

module _ (names : Kind → List (List ℕ)) (file : ℕ) where
  known-up_to : (at : ℕ) (p : Progress) → Known names p → Known names (up_to file at p)
  unfolding up_to
  known-up_to at p h = with_defines names file (defines_before at p.defines) p.done p.structures h

  known-constant : (name : Name) (value : ℤ) (p : Progress) → Known names p → Known names (declare file name (Constant value) p)
  known-constant name value p h =
      let q = up_to file name.at p in
      with_quiet names (record { file = file; name = name; what = Constant value }) q.done q.structures (λ k. refl) (λ n. tt) tt (known-up_to name.at p h)

  known-enum : (name : Name) (is_signed : Bool) (p : Progress) → Known names p → Known names (declare file name (Enum is_signed) p)
  known-enum name is_signed p h =
      let q = up_to file name.at p in
      with_quiet names (record { file = file; name = name; what = Enum is_signed }) q.done q.structures (λ k. refl) (λ n. tt) tt (known-up_to name.at p h)

  known-typedef : (name : Name) (ty : Spelled) (stars : _) (p : Progress) → IsName name.word → Known names p → Known names (declare file name (Typedef ty stars) p)
  known-typedef name ty stars p word h =
      let q = up_to file name.at p in
      with_quiet names (record { file = file; name = name; what = Typedef ty stars }) q.done q.structures (λ k. refl) (λ n. tt) word (known-up_to name.at p h)

  known-either : (b : Bool) (p q : Progress) → Known names p → Known names q → Known names (if b then p else q)
  known-either true p q a b = a
  known-either false p q a b = b

  -- ---- enums

  known-enumerate : (name : Name) (value : Option ℤ) (p : Progress) → Known names p → Known names (enumerate file name value p)
  known-enumerate name None p h = known-up_to name.at p h
  known-enumerate name (Some n) p h =
      known-either (is_in_range n) (with_constant file name n p) (up_to file name.at p)
      (known-constant name n (record p { negative = p.negative || int_lt n (pos 0) }) h) (known-up_to name.at p h)

  known-enumerators : (count : Option ℤ) (es : List Enumerator) (p : Progress) → Known names p → Known names (enumerators file count es p)
  unfolding enumerators
  known-enumerators count [] p h = h
  known-enumerators count (enumerator.Counted name ∷ es) p h = known-enumerators (next_count count) es (enumerate file name count p) (known-enumerate name count p h)
  known-enumerators count (enumerator.Valued name text ∷ es) p h =
      known-enumerators (next_count (value_at file name text p)) es (enumerate file name (value_at file name text p) p) (known-enumerate name (value_at file name text p) p h)
  known-enumerators count (enumerator.Undefined name ∷ es) p h = known-enumerators None es p h
  known-enumerators count (enumerator.Passed ∷ es) p h = known-enumerators None es p h

  known-enum_tag : (tag : Option Name) (p : Progress) → Known names p → Known names (enum_tag file tag p)
  known-enum_tag None p h = h
  known-enum_tag (Some tag) p h = known-enum tag p.negative p h

  known-declare_enum : (e : RawEnum) (p : Progress) → Known names p → Known names (declare_enum file e p)
  unfolding declare_enum
  known-declare_enum e p h =
      known-enum_tag e.tag (enumerators file (Some (pos 0)) e.constants (record p { negative = false }))
      (known-enumerators (Some (pos 0)) e.constants (record p { negative = false }) h)

  -- ---- typedefs

  known-declare_alias : (ty : Spelled) (alias : Alias) (p : Progress) → IsName alias.name.word → Known names p → Known names (declare_alias file ty alias p)
  unfolding declare_alias
  known-declare_alias ty alias p word h =
      known-either (is_some (fixed_of alias.name.word)) p (declare file alias.name (Typedef ty alias.stars) p) h (known-typedef alias.name ty alias.stars p word h)

  known-declare_aliases : (ty : Spelled) (aliases : List Alias) (p : Progress) → All (λ alias. IsName alias.name.word) aliases → Known names p
      → Known names (declare_aliases file ty aliases p)
  unfolding declare_aliases
  known-declare_aliases ty [] p words h = h
  known-declare_aliases ty (alias ∷ aliases) p words h =
      known-declare_aliases ty aliases (declare_alias file ty alias p) (All-tail (λ a. IsName a.name.word) alias aliases words)
      (known-declare_alias ty alias p (All-head (λ a. IsName a.name.word) alias aliases words) h)

  known-named : (ty : Spelled) (alias : Option Alias) (p : Progress) → IfSome alias (λ a. IsName a.name.word) → Known names p
      → Known names (option_map_or (λ a. declare_alias file ty a p) alias p)
  known-named ty None p word h = h
  known-named ty (Some alias) p word h = known-declare_alias ty alias p word h

  known-declare_typedef : (means : Meaning) (aliases : List Alias) (p : Progress) → All (λ alias. IsName alias.name.word) aliases → Known names p
      → Known names (declare_typedef file means aliases p)
  unfolding declare_typedef
  known-declare_typedef (meaning.Enum e) aliases p words h =
      known-declare_aliases (Number (scalar.Int W4 (declare_enum file e p).negative) false) aliases (declare_enum file e p) words (known-declare_enum e p h)
  known-declare_typedef (meaning.Type ty) aliases p words h = known-declare_aliases (meaning_type (meaning.Type ty)) aliases p words h
  known-declare_typedef (meaning.Body keyword tag) aliases p words h = known-declare_aliases (meaning_type (meaning.Body keyword tag)) aliases p words h
  known-declare_typedef meaning.Opaque aliases p words h = known-declare_aliases (meaning_type meaning.Opaque) aliases p words h

  -- ---- structures, roots and caches

  with_loud : (one : Declaration) (done : List Declaration) (count : ℕ) → IsBelow (count + length (named tags (one ∷ []))) one.what → Words one → Declares names done count
      → Declares (λ k. names k ++ named k (one ∷ [])) (done ++ one ∷ []) (count + length (named tags (one ∷ [])))
  with_loud one done count below words d =
      added names done (one ∷ []) count
      (All-cons (λ x. IsBelow (count + length (named tags (one ∷ []))) x.what) one [] below (All-nil (λ x. IsBelow (count + length (named tags (one ∷ []))) x.what)))
      (All-cons Words one [] words (All-nil Words)) d

-- the names of an item
abbrev pub item_names : Item → Kind → List (List ℕ)
item_names (item.Structure s) tags = s.tag.word ∷ []
item_names (item.Structure s) roots = []
item_names (item.Structure s) caches = []
item_names (item.Root r) tags = []
item_names (item.Root r) roots = r.name.word ∷ []
item_names (item.Root r) caches = []
item_names (item.Cache c) tags = []
item_names (item.Cache c) roots = []
item_names (item.Cache c) caches = c.name.word ∷ []
item_names (item.Typedef t) k = []
item_names (item.Enum e) k = []

tag_names : (s : RawStructure) (id : ℕ) (file : ℕ) (k : Kind) → named k (record { file = file; name = s.tag; what = Structure s.is_union id } ∷ []) ≡ item_names (item.Structure s) k
tag_names s id file tags = refl
tag_names s id file roots = refl
tag_names s id file caches = refl

same_count : (file at : ℕ) (p : Progress) → (up_to file at p).structures ≡ p.structures
unfolding up_to
same_count file at p = refl

below_one : (m n : ℕ) → m ≡ n → n < m + 1
below_one m n e = omega (arith, e)

module _ (names : Kind → List (List ℕ)) (file : ℕ) where
  abbrev With : Item → Kind → List (List ℕ)
  With one k = names k ++ item_names one k

  known-declare_structure : (s : RawStructure) (p : Progress) → IsWellMadeStructure s → Known names p → Known (With (item.Structure s)) (declare_structure file s p)
  unfolding declare_structure
  known-declare_structure s p made h =
      let q = up_to file s.tag.at p in
      let one : Declaration = record { file = file; name = s.tag; what = Structure s.is_union p.structures } in
      let here = known-up_to names file s.tag.at p h in
      let more = with_loud names file one q.done q.structures (below_one q.structures p.structures (same_count file s.tag.at p)) tt here in
      let is = renamed (λ k. names k ++ named k (one ∷ [])) (With (item.Structure s)) (q.done ++ one ∷ []) (q.structures + 1) (λ k. ap (λ xs. names k ++ xs) (tag_names s p.structures file k)) more in
      let next : q.structures + 1 ≡ suc p.structures = ap (λ n. n + 1) (same_count file s.tag.at p) ∙ (let e : p.structures + 1 ≡ suc p.structures = omega arith in e) in
      let r : Progress = declare file s.tag (Structure s.is_union p.structures) p in
      known-named (With (item.Structure s)) file (Tagged (keyword_of s.is_union) s.tag.word) s.alias (record r { structures = suc p.structures }) made.alias
      (subst (λ n. Declares (With (item.Structure s)) (q.done ++ one ∷ []) n) next is)

  known-root : (name : Name) (p : Progress) → Known names p → Declares (λ k. names k ++ named k (record { file = file; name = name; what = Root } ∷ [])) (declare file name Root p).done (declare file name Root p).structures
  known-root name p h =
      let q = up_to file name.at p in
      let one : Declaration = record { file = file; name = name; what = Root } in
      let same : q.structures + 0 ≡ q.structures = omega arith in
      subst (λ n. Declares (λ k. names k ++ named k (one ∷ [])) (q.done ++ one ∷ []) n) same
      (with_loud names file one q.done q.structures tt tt (known-up_to names file name.at p h))

  known-cache : (name : Name) (p : Progress) → Known names p → Declares (λ k. names k ++ named k (record { file = file; name = name; what = Cache } ∷ [])) (declare file name Cache p).done (declare file name Cache p).structures
  known-cache name p h =
      let q = up_to file name.at p in
      let one : Declaration = record { file = file; name = name; what = Cache } in
      let same : q.structures + 0 ≡ q.structures = omega arith in
      subst (λ n. Declares (λ k. names k ++ named k (one ∷ [])) (q.done ++ one ∷ []) n) same
      (with_loud names file one q.done q.structures tt tt (known-up_to names file name.at p h))

  -- an item that declares none of these kinds
  none_more : (one : Item) (p : Progress) → ((k : Kind) → item_names one k ≡ []) → Known names p → Known (With one) p
  none_more one p none h = renamed names (With one) p.done p.structures (λ k. sym (ap (λ xs. names k ++ xs) (none k) ∙ append-nil (names k))) h

  known-declare_item : (one : Item) (p : Progress) → IsWellMadeItem one → Known names p → Known (With one) (declare_item file one p)
  unfolding declare_item
  known-declare_item (item.Structure s) p made h = known-declare_structure s p made h
  known-declare_item (item.Root r) p made h =
      renamed _ (With (item.Root r)) (declare file r.name Root p).done (declare file r.name Root p).structures (λ k. ap (λ xs. names k ++ xs) (root_names k)) (known-root r.name p h)
    where
      root_names : (k : Kind) → named k (record { file = file; name = r.name; what = Root } ∷ []) ≡ item_names (item.Root r) k
      root_names tags = refl
      root_names roots = refl
      root_names caches = refl
  known-declare_item (item.Cache c) p made h =
      renamed _ (With (item.Cache c)) (declare file c.name Cache p).done (declare file c.name Cache p).structures (λ k. ap (λ xs. names k ++ xs) (cache_names k)) (known-cache c.name p h)
    where
      cache_names : (k : Kind) → named k (record { file = file; name = c.name; what = Cache } ∷ []) ≡ item_names (item.Cache c) k
      cache_names tags = refl
      cache_names roots = refl
      cache_names caches = refl
  known-declare_item (item.Typedef t) p made h =
      none_more (item.Typedef t) (declare_typedef file t.means t.names p) (λ k. refl) (known-declare_typedef names file t.means t.names p made h)
  known-declare_item (item.Enum e) p made h = none_more (item.Enum e) (declare_enum file e p) (λ k. refl) (known-declare_enum names file e p h)

-- ---- items and files

abbrev pub names_in : List Item → Kind → List (List ℕ)
names_in [] k = []
names_in (one ∷ items) k = item_names one k ++ names_in items k

abbrev pub names_of : List Items → Kind → List (List ℕ)
names_of [] k = []
names_of (items ∷ files) k = names_in items.items k ++ names_of files k

known-declare_items : (names : Kind → List (List ℕ)) (file : ℕ) (items : List Item) (p : Progress) → All IsWellMadeItem items → Known names p
    → Known (λ k. names k ++ names_in items k) (declare_items file items p)
unfolding declare_items
known-declare_items names file [] p made h = renamed names (λ k. names k ++ []) p.done p.structures (λ k. sym (append-nil (names k))) h
known-declare_items names file (one ∷ items) p made h =
    let first = known-declare_item names file one p (All-head IsWellMadeItem one items made) h in
    let q : Progress = declare_items file items (declare_item file one p) in
    renamed (λ k. (names k ++ item_names one k) ++ names_in items k) (λ k. names k ++ names_in (one ∷ items) k) q.done q.structures
    (λ k. append_assoc (names k) (item_names one k) (names_in items k))
    (known-declare_items (λ k. names k ++ item_names one k) file items (declare_item file one p) (All-tail IsWellMadeItem one items made) first)

known-declare_file : (names : Kind → List (List ℕ)) (file : ℕ) (items : Items) (p : Progress) → IsWellMade items → Known names p
    → Known (λ k. names k ++ names_in items.items k) (declare_file file items p)
unfolding declare_file
known-declare_file names file items p made h =
    let q : Progress = declare_items file items.items (record p { defines = items.constants }) in
    with_defines (λ k. names k ++ names_in items.items k) file q.defines q.done q.structures
    (known-declare_items names file items.items (record p { defines = items.constants }) made h)

known-declare_files : (names : Kind → List (List ℕ)) (file : ℕ) (files : List Items) (p : Progress) → All IsWellMade files → Known names p
    → Known (λ k. names k ++ names_of files k) (declare_files file files p)
unfolding declare_files
known-declare_files names file [] p made h = renamed names (λ k. names k ++ []) p.done p.structures (λ k. sym (append-nil (names k))) h
known-declare_files names file (items ∷ files) p made h =
    let first = known-declare_file names file items p (All-head IsWellMade items files made) h in
    let q : Progress = declare_files (suc file) files (declare_file file items p) in
    renamed (λ k. (names k ++ names_in items.items k) ++ names_of files k) (λ k. names k ++ names_of (items ∷ files) k) q.done q.structures
    (λ k. append_assoc (names k) (names_in items.items k) (names_of files k))
    (known-declare_files (λ k. names k ++ names_in items.items k) (suc file) files (declare_file file items p) (All-tail IsWellMade items files made) first)

nothing_known : Known (λ k. []) nothing_declared
nothing_known = record { listed = λ k. refl; counted = refl; below = All-nil (λ d. IsBelow 0 d.what); words = All-nil Words }

-- what well-made files declare
pub known-declarations : (files : List Items) → All IsWellMade files → Declares (names_of files) (declarations files) (length (names_of files tags))
known-declarations files made =
    let all = known-declare_files (λ k. []) 1 files nothing_declared made nothing_known in
    subst (λ n. Declares (names_of files) (declarations files) n) all.counted all

-- ---- the draft

module _ (ds : List Declaration) (types : List TypedefMeaning) where
  tags_in : (file : ℕ) (items : List Item) → map (λ s. s.tag.word) (filter_map (structure_item ds types file) items) ≡ names_in items tags
  tags_in file [] = refl
  tags_in file (item.Structure s ∷ items) = ap (λ words. s.tag.word ∷ words) (tags_in file items)
  tags_in file (item.Root r ∷ items) = tags_in file items
  tags_in file (item.Cache c ∷ items) = tags_in file items
  tags_in file (item.Typedef t ∷ items) = tags_in file items
  tags_in file (item.Enum e ∷ items) = tags_in file items

  pub tags_of : (file : ℕ) (files : List Items) → map (λ s. s.tag.word) (items_from (structure_item ds types) file files) ≡ names_of files tags
  unfolding items_from
  tags_of file [] = refl
  tags_of file (items ∷ files) =
      map-append (λ s. s.tag.word) (filter_map (structure_item ds types file) items.items) (items_from (structure_item ds types) (suc file) files)
      ∙ ap (λ words. words ++ map (λ s. s.tag.word) (items_from (structure_item ds types) (suc file) files)) (tags_in file items.items)
      ∙ ap (λ words. names_in items.items tags ++ words) (tags_of (suc file) files)

  roots_in : (file : ℕ) (items : List Item) → map (λ r. r.name.word) (filter_map (root_item ds types file) items) ≡ names_in items roots
  roots_in file [] = refl
  roots_in file (item.Structure s ∷ items) = roots_in file items
  roots_in file (item.Root r ∷ items) = ap (λ words. r.name.word ∷ words) (roots_in file items)
  roots_in file (item.Cache c ∷ items) = roots_in file items
  roots_in file (item.Typedef t ∷ items) = roots_in file items
  roots_in file (item.Enum e ∷ items) = roots_in file items

  pub roots_of : (file : ℕ) (files : List Items) → map (λ r. r.name.word) (items_from (root_item ds types) file files) ≡ names_of files roots
  unfolding items_from
  roots_of file [] = refl
  roots_of file (items ∷ files) =
      map-append (λ r. r.name.word) (filter_map (root_item ds types file) items.items) (items_from (root_item ds types) (suc file) files)
      ∙ ap (λ words. words ++ map (λ r. r.name.word) (items_from (root_item ds types) (suc file) files)) (roots_in file items.items)
      ∙ ap (λ words. names_in items.items roots ++ words) (roots_of (suc file) files)

  caches_in : (file : ℕ) (items : List Item) → map (λ c. c.name.word) (filter_map (cache_item ds types file) items) ≡ names_in items caches
  caches_in file [] = refl
  caches_in file (item.Structure s ∷ items) = caches_in file items
  caches_in file (item.Root r ∷ items) = caches_in file items
  caches_in file (item.Cache c ∷ items) = ap (λ words. c.name.word ∷ words) (caches_in file items)
  caches_in file (item.Typedef t ∷ items) = caches_in file items
  caches_in file (item.Enum e ∷ items) = caches_in file items

  pub caches_of : (file : ℕ) (files : List Items) → map (λ c. c.name.word) (items_from (cache_item ds types) file files) ≡ names_of files caches
  unfolding items_from
  caches_of file [] = refl
  caches_of file (items ∷ files) =
      map-append (λ c. c.name.word) (filter_map (cache_item ds types file) items.items) (items_from (cache_item ds types) (suc file) files)
      ∙ ap (λ words. words ++ map (λ c. c.name.word) (items_from (cache_item ds types) (suc file) files)) (caches_in file items.items)
      ∙ ap (λ words. names_in items.items caches ++ words) (caches_of (suc file) files)
