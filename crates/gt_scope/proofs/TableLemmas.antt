-- What is known of tables of declarations: the first of each name.
use Rattle.std.proofs.Common.{◌≡◌, ◌∙◌, ℕ, suc, zero, ◌+◌, ◌<◌, ◌≤◌, Bool, true, false, List, [], ◌∷◌, ◌++◌, length, map, Option, Some, None, refl, sym, ap, subst, get_or, drop, inl, inr, ◌⊎◌}
use Rattle.std.specs.Prelude.{if◌then◌else◌, find, option_map, slice_get, is_some}
use Rattle.std.specs.Option.{option_map_or, option_or}
use Rattle.std.specs.List.{list_any}
use Rattle.std.specs.Str.{bytes_eq}
use Rattle.std.proofs.lemmas.List.{drop_more, at_drop_all}
use Rattle.std.proofs.lemmas.List.Folds.{find-append}
use Rattle.std.proofs.lemmas.Option.{none-some, same_Some}
use Rattle.gt_names.specs.declared.tables.Entry.{Entry}
use Rattle.gt_scope.specs.declared.declaration.Declaration.{Declaration}
use Rattle.gt_scope.specs.declared.declaration.What.{What}
use Rattle.gt_names.specs.Entries.{first_some, value_in, with_value}
use Rattle.gt_scope.specs.Declarations.{first_named}
use Rattle.gt_items.specs.declared.items.Stars.{Stars}
use Rattle.gt_scope.specs.declared.types.Spelled.{Spelled}
use Rattle.gt_scope.specs.Meanings.{as_typedef, typedef_names}
use Rattle.gt_names.specs.Lists.{with_name}
use Rattle.gt_names.proofs.TableLemmas.{any_found, same_word, with_old, with_new, none_first, first_assoc, value_with, names_with}
use Rattle.gt_scope.specs.Tables.{values_from}

-- ---- values

none_is : {A : Type 0} (o : Option A) → is_some o ≡ false → o ≡ None
none_is None h = refl
none_is (Some x) h = cc

mapped_some : {A : Type 0} (o : Option (Entry A)) → is_some (option_map (λ e. e.value) o) ≡ is_some o
mapped_some None = refl
mapped_some (Some e) = refl

some_value : {A : Type 0} (es : List (Entry A)) (word : List ℕ) → is_some (value_in es word) ≡ list_any (λ e. bytes_eq e.name word) es
some_value es word = mapped_some (find (λ e. bytes_eq e.name word) es) ∙ sym (any_found (λ e. bytes_eq e.name word) es)

-- a value at the end, as it is looked up
value_after : {A : Type 0} (o : Option (Entry A)) (b : Bool) (e : Entry A)
    → option_map (λ e. e.value) (option_or o (if b then Some e else None)) ≡ first_some (option_map (λ e. e.value) o) (if b then Some e.value else None)
value_after None true e = refl
value_after None false e = refl
value_after (Some x) b e = refl

value_push : {A : Type 0} (es : List (Entry A)) (e : Entry A) (word : List ℕ)
    → value_in (es ++ e ∷ []) word ≡ first_some (value_in es word) (if bytes_eq e.name word then Some e.value else None)
value_push es e word =
    ap (option_map (λ e. e.value)) (find-append (λ e. bytes_eq e.name word) es (e ∷ []))
    ∙ value_after (find (λ e. bytes_eq e.name word) es) (bytes_eq e.name word) e

if_none : {A : Type 0} (o : Option A) (b : Bool) → first_some o (if b then None else None) ≡ o
if_none o true = none_first o
if_none o false = none_first o

-- a declaration, as it is looked up
value_declared : {A : Type 0} (es : List (Entry A)) (name : List ℕ) (o : Option A) (word : List ℕ)
    → value_in (option_map_or (with_value es name) o es) word ≡ first_some (value_in es word) (if bytes_eq name word then o else None)
value_declared es name (Some value) word = value_with es name value word
value_declared es name None word = sym (if_none (value_in es word) (bytes_eq name word))

-- values are those of the first declarations
values_first : {A : Type 0} (kind : What → Option A) (es : List (Entry A)) (ds : List Declaration) (word : List ℕ)
    → value_in (values_from kind es ds) word ≡ first_some (value_in es word) (first_named kind word ds)
unfolding values_from
values_first kind es [] word = sym (none_first (value_in es word))
values_first kind es (d ∷ ds) word =
    values_first kind (option_map_or (with_value es d.name.word) (kind d.what) es) ds word
    ∙ ap (λ o. first_some o (first_named kind word ds)) (value_declared es d.name.word (kind d.what) word)
    ∙ first_assoc (value_in es word) (if bytes_eq d.name.word word then kind d.what else None) (first_named kind word ds)

pub values_are_first : {A : Type 0} (kind : What → Option A) (ds : List Declaration) (word : List ℕ)
    → value_in (values_from kind [] ds) word ≡ first_named kind word ds
values_are_first kind ds word = values_first kind [] ds word

-- ---- each entry has the value of its name

-- the value of each entry's name is the entry's
pub record IsOwned {A : Type 0} (es : List (Entry A)) : Type 0 where
  pub owned : (i : ℕ) (e : Entry A) → slice_get es i ≡ Some e → value_in es e.name ≡ Some e.value

get_push : {A : Type 0} (xs : List A) (x : A) (i : ℕ) (y : A) → slice_get (xs ++ x ∷ []) i ≡ Some y → (slice_get xs i ≡ Some y) ⊎ (x ≡ y)
get_push [] x zero y h = inr (same_Some x y h)
get_push [] x (suc i) y h = absurd (none-some y h)
get_push (z ∷ xs) x zero y h = inl h
get_push (z ∷ xs) x (suc i) y h = get_push xs x i y h

not_any_none : {A : Type 0} (es : List (Entry A)) (word : List ℕ) → list_any (λ e. bytes_eq e.name word) es ≡ false → value_in es word ≡ None
not_any_none es word h = none_is (value_in es word) (some_value es word ∙ h)

owned_push_case : {A : Type 0} (es : List (Entry A)) (word : List ℕ) (value : A) → list_any (λ e. bytes_eq e.name word) es ≡ false → IsOwned es
    → (i : ℕ) (e : Entry A) → (slice_get es i ≡ Some e) ⊎ (record { name = word; value = value } ≡ e)
    → value_in (es ++ record { name = word; value = value } ∷ []) e.name ≡ Some e.value
owned_push_case es word value h o i e (inl old) =
    value_push es (record { name = word; value = value }) e.name ∙ ap (λ found. first_some found (if bytes_eq word e.name then Some value else None)) (o.owned i e old)
owned_push_case es word value h o i e (inr new) =
    subst (λ e. value_in (es ++ record { name = word; value = value } ∷ []) e.name ≡ Some e.value) new
    (value_push es (record { name = word; value = value }) word
    ∙ ap (λ found. first_some found (if bytes_eq word word then Some value else None)) (not_any_none es word h)
    ∙ ap (λ b. if b then Some value else None) (same_word word))

owned_with_case : {A : Type 0} (es : List (Entry A)) (word : List ℕ) (value : A) (there : Bool) → list_any (λ e. bytes_eq e.name word) es ≡ there → IsOwned es
    → IsOwned (with_value es word value)
owned_with_case es word value true h o = subst IsOwned (sym (with_old es word value h)) o
owned_with_case es word value false h o =
    subst IsOwned (sym (with_new es word value h))
    (record { owned = λ i e found. owned_push_case es word value h o i e (get_push es (record { name = word; value = value }) i e found) })

owned_declared : {A : Type 0} (es : List (Entry A)) (word : List ℕ) (o : Option A) → IsOwned es → IsOwned (option_map_or (with_value es word) o es)
owned_declared es word None o = o
owned_declared es word (Some value) o = owned_with_case es word value (list_any (λ e. bytes_eq e.name word) es) refl o

owned_from : {A : Type 0} (kind : What → Option A) (es : List (Entry A)) (ds : List Declaration) → IsOwned es → IsOwned (values_from kind es ds)
unfolding values_from
owned_from kind es [] o = o
owned_from kind es (d ∷ ds) o = owned_from kind (option_map_or (with_value es d.name.word) (kind d.what) es) ds (owned_declared es d.name.word (kind d.what) o)

pub owned : {A : Type 0} (kind : What → Option A) (ds : List Declaration) → IsOwned (values_from kind [] ds)
owned kind ds = owned_from kind [] ds (record { owned = λ i e h. absurd (none-some e h) })

-- ---- names of typedefs

names_declared : (es : List (Entry (Spelled × Stars))) (word : List ℕ) (o : Option (Spelled × Stars))
    → map (λ e. e.name) (option_map_or (with_value es word) o es) ≡ option_map_or (λ typedef. with_name (map (λ e. e.name) es) word) o (map (λ e. e.name) es)
names_declared es word None = refl
names_declared es word (Some value) = names_with es word value

names_from : (es : List (Entry (Spelled × Stars))) (ds : List Declaration)
    → map (λ e. e.name) (values_from as_typedef es ds) ≡ typedef_names (map (λ e. e.name) es) ds
unfolding values_from typedef_names
names_from es [] = refl
names_from es (d ∷ ds) =
    names_from (option_map_or (with_value es d.name.word) (as_typedef d.what) es) ds
    ∙ ap (λ names. typedef_names names ds) (names_declared es d.name.word (as_typedef d.what))

-- the names of the first typedefs are those of typedefs
pub typedefs_named : (ds : List Declaration) → map (λ e. e.name) (values_from as_typedef [] ds) ≡ typedef_names [] ds
typedefs_named ds = names_from [] ds

-- ---- reading declarations one by one

pub values_more : {A : Type 0} (kind : What → Option A) (es made : List (Entry A)) (ds : List Declaration) (i : ℕ) (d : Declaration) → i < length ds
    → d ≡ get_or ds i d → made ≡ option_map_or (with_value es d.name.word) (kind d.what) es
    → values_from kind made (drop (i + 1) ds) ≡ values_from kind es (drop i ds)
unfolding values_from
values_more kind es made ds i d h at m =
    ap (λ m. values_from kind m (drop (i + 1) ds)) m
    ∙ sym (ap (values_from kind es) (drop_more ds i d h ∙ ap (λ x. x ∷ drop (i + 1) ds) (sym at)))

pub values_all : {A : Type 0} (kind : What → Option A) (es : List (Entry A)) (ds : List Declaration) (i : ℕ) → length ds ≤ i
    → values_from kind es (drop i ds) ≡ es
unfolding values_from
values_all kind es ds i h = at_drop_all (values_from kind es) ds i h
