-- What is known of tables: places, values and names of their entries.
use Rattle.std.proofs.Common.{◌≡◌, ◌∙◌, ℕ, suc, ◌≤◌, Bool, true, false, List, [], ◌∷◌, ◌++◌, length, map, Option, Some, None, refl, sym, ap, arith}
use Rattle.std.specs.Prelude.{◌||◌, not, if◌then◌else◌, nat_lt, find, option_map, position, slice_get, is_some}
use Rattle.std.specs.Option.{option_or}
use Rattle.std.specs.List.{list_any, prefix_len, position_or_len}
use Rattle.std.specs.Str.{bytes_eq}
use Rattle.std.proofs.lemmas.List.Folds.{find_at, find-append}
use Rattle.std.proofs.lemmas.Option.{cond_some, none-some, slice_get_past}
use Rattle.std.proofs.Common.{subst}
use Rattle.std.proofs.lemmas.Slice.Eq.{bytes_eq-Decides}
use Rattle.gt_names.specs.declared.tables.Entry.{Entry}
use Rattle.gt_names.specs.Entries.{first_some}
use Rattle.gt_names.specs.Lists.{with_name}
use Rattle.gt_names.proofs.NameTests.{is_some_position}
use Rattle.gt_names.specs.Entries.{value_in, with_value}

-- ---- places

prefix_len-map : {A B : Type 0} (f : A → B) (p : B → Bool) (xs : List A) → prefix_len p (map f xs) ≡ prefix_len (λ x. p (f x)) xs
prefix_len-map f p [] = refl
prefix_len-map f p (x ∷ xs) = rw (prefix_len-map f p xs) refl

length-mapped : {A B : Type 0} (f : A → B) (xs : List A) → length (map f xs) ≡ length xs
length-mapped f [] = refl
length-mapped f (x ∷ xs) = ap (λ n. suc n) (length-mapped f xs)

-- a place among what is made of items is that of the item
pub position-map : {A B : Type 0} (f : A → B) (p : B → Bool) (xs : List A) → position p (map f xs) ≡ position (λ x. p (f x)) xs
position-map f p xs = rw (prefix_len-map f (λ y. not (p y)) xs) (rw (length-mapped f xs) refl)

pub list_any-map : {A B : Type 0} (f : A → B) (p : B → Bool) (xs : List A) → list_any p (map f xs) ≡ list_any (λ x. p (f x)) xs
list_any-map f p [] = refl
list_any-map f p (x ∷ xs) = ap (λ b. p (f x) || b) (list_any-map f p xs)

none_false : {A : Type 0} (b : Bool) (x : A) → (if b then Some x else None) ≡ None → b ≡ false
none_false true x h = absurd (none-some x (sym h))
none_false false x h = refl

-- what is found stands at its place
pub found_at : {A : Type 0} (p : A → Bool) (xs : List A) (i : ℕ) → position p xs ≡ Some i → find p xs ≡ slice_get xs i
found_at p xs i h = find_at p xs ∙ ap (slice_get xs) (cond_some (nat_lt (position_or_len p xs) (length xs)) (position_or_len p xs) i h).1

pub none_found : {A : Type 0} (p : A → Bool) (xs : List A) → position p xs ≡ None → find p xs ≡ None
none_found p xs h =
    let past : length xs ≤ position_or_len p xs = (let e = none_false (nat_lt (position_or_len p xs) (length xs)) (position_or_len p xs) h in grind arith) in
    find_at p xs ∙ slice_get_past xs (position_or_len p xs) past

any_step : {A : Type 0} (b c : Bool) (x : A) (o : Option A) → c ≡ is_some o → (b || c) ≡ is_some (if b then Some x else o)
any_step true c x o h = refl
any_step false c x o h = h

-- one passes where one is found
pub any_found : {A : Type 0} (p : A → Bool) (xs : List A) → list_any p xs ≡ is_some (find p xs)
any_found p [] = refl
any_found p (x ∷ xs) = any_step (p x) (list_any p xs) x (find p xs) (any_found p xs)

none_is : {A : Type 0} (o : Option A) → is_some o ≡ false → o ≡ None
none_is None h = refl
none_is (Some x) h = cc

-- ---- values

pub equal_words : (a b : List ℕ) → bytes_eq a b ≡ true → a ≡ b
equal_words a b h = (bytes_eq-Decides a b).0 h

pub same_word : (a : List ℕ) → bytes_eq a a ≡ true
same_word a = (bytes_eq-Decides a a).1 refl

-- a value is that of the entry at the place of its name
pub value_at : {A : Type 0} (es : List (Entry A)) (word : List ℕ) (i : ℕ) → position (λ e. bytes_eq e.name word) es ≡ Some i
    → value_in es word ≡ option_map (λ e. e.value) (slice_get es i)
value_at es word i h = ap (option_map (λ e. e.value)) (found_at (λ e. bytes_eq e.name word) es i h)

pub no_value : {A : Type 0} (es : List (Entry A)) (word : List ℕ) → position (λ e. bytes_eq e.name word) es ≡ None → value_in es word ≡ None
no_value es word h = ap (option_map (λ e. e.value)) (none_found (λ e. bytes_eq e.name word) es h)

pub with_old : {A : Type 0} (es : List (Entry A)) (word : List ℕ) (value : A) → list_any (λ e. bytes_eq e.name word) es ≡ true → with_value es word value ≡ es
with_old es word value h = ap (λ b. if b then es else es ++ record { name = word; value = value } ∷ []) h

pub with_new : {A : Type 0} (es : List (Entry A)) (word : List ℕ) (value : A) → list_any (λ e. bytes_eq e.name word) es ≡ false
    → with_value es word value ≡ es ++ record { name = word; value = value } ∷ []
with_new es word value h = ap (λ b. if b then es else es ++ record { name = word; value = value } ∷ []) h

mapped_some : {A : Type 0} (o : Option (Entry A)) → is_some (option_map (λ e. e.value) o) ≡ is_some o
mapped_some None = refl
mapped_some (Some e) = refl

some_value : {A : Type 0} (es : List (Entry A)) (word : List ℕ) → is_some (value_in es word) ≡ list_any (λ e. bytes_eq e.name word) es
some_value es word = mapped_some (find (λ e. bytes_eq e.name word) es) ∙ sym (any_found (λ e. bytes_eq e.name word) es)

-- a value at the end, as it is looked up
value_after : {A : Type 0} (o : Option (Entry A)) (b : Bool) (e : Entry A)
    → option_map (λ e. e.value) (option_or o (if b then Some e else None)) ≡ first_some (option_map (λ e. e.value) o) (if b then Some e.value else None)
value_after None true e = refl
value_after None false e = refl
value_after (Some x) b e = refl

value_push : {A : Type 0} (es : List (Entry A)) (e : Entry A) (word : List ℕ)
    → value_in (es ++ e ∷ []) word ≡ first_some (value_in es word) (if bytes_eq e.name word then Some e.value else None)
value_push es e word =
    ap (option_map (λ e. e.value)) (find-append (λ e. bytes_eq e.name word) es (e ∷ []))
    ∙ value_after (find (λ e. bytes_eq e.name word) es) (bytes_eq e.name word) e

some_first : {A : Type 0} (o other : Option A) → is_some o ≡ true → first_some o other ≡ o
some_first None other h = cc
some_first (Some x) other h = refl

pub none_first : {A : Type 0} (o : Option A) → first_some o None ≡ o
none_first None = refl
none_first (Some x) = refl

pub first_assoc : {A : Type 0} (a b c : Option A) → first_some (first_some a b) c ≡ first_some a (first_some b c)
first_assoc None b c = refl
first_assoc (Some x) b c = refl

value_with_case : {A : Type 0} (es : List (Entry A)) (name : List ℕ) (value : A) (word : List ℕ) (there same : Bool)
    → list_any (λ e. bytes_eq e.name name) es ≡ there → bytes_eq name word ≡ same
    → value_in (with_value es name value) word ≡ first_some (value_in es word) (if bytes_eq name word then Some value else None)
value_with_case es name value word false same h k =
    ap (λ es. value_in es word) (with_new es name value h) ∙ value_push es (record { name = name; value = value }) word
value_with_case es name value word true false h k =
    ap (λ es. value_in es word) (with_old es name value h) ∙ sym (none_first (value_in es word)) ∙ ap (λ b. first_some (value_in es word) (if b then Some value else None)) (sym k)
value_with_case es name value word true true h k =
    let e : name ≡ word = equal_words name word k in
    ap (λ es. value_in es word) (with_old es name value h)
    ∙ sym (some_first (value_in es word) (if bytes_eq name word then Some value else None) (some_value es word ∙ subst (λ w. list_any (λ e. bytes_eq e.name w) es ≡ true) e h))

-- a value that is given to a name, as it is looked up
pub value_with : {A : Type 0} (es : List (Entry A)) (name : List ℕ) (value : A) (word : List ℕ)
    → value_in (with_value es name value) word ≡ first_some (value_in es word) (if bytes_eq name word then Some value else None)
value_with es name value word = value_with_case es name value word (list_any (λ e. bytes_eq e.name name) es) (bytes_eq name word) refl refl

-- ---- names

names_push : {A : Type 0} (es : List (Entry A)) (e : Entry A) → map (λ e. e.name) (es ++ e ∷ []) ≡ map (λ e. e.name) es ++ e.name ∷ []
names_push [] e = refl
names_push (x ∷ es) e = ap (λ names. x.name ∷ names) (names_push es e)

names_with_case : {A : Type 0} (es : List (Entry A)) (word : List ℕ) (value : A) (there : Bool) → list_any (λ e. bytes_eq e.name word) es ≡ there
    → map (λ e. e.name) (with_value es word value) ≡ with_name (map (λ e. e.name) es) word
names_with_case es word value true h =
    ap (map (λ e. e.name)) (with_old es word value h)
    ∙ ap (λ b. if b then map (λ e. e.name) es else map (λ e. e.name) es ++ word ∷ []) (sym (list_any-map (λ e. e.name) (λ name. bytes_eq name word) es ∙ h))
names_with_case es word value false h =
    ap (map (λ e. e.name)) (with_new es word value h) ∙ names_push es (record { name = word; value = value })
    ∙ ap (λ b. if b then map (λ e. e.name) es else map (λ e. e.name) es ++ word ∷ []) (sym (list_any-map (λ e. e.name) (λ name. bytes_eq name word) es ∙ h))

-- a name that is given a value is added to the names
pub names_with : {A : Type 0} (es : List (Entry A)) (word : List ℕ) (value : A)
    → map (λ e. e.name) (with_value es word value) ≡ with_name (map (λ e. e.name) es) word
names_with es word value = names_with_case es word value (list_any (λ e. bytes_eq e.name word) es) refl

-- a table in which the name has a value
pub with_present : {A : Type 0} (es : List (Entry A)) (word : List ℕ) (value : A) (place : Option ℕ) (there : Bool)
    → place ≡ position (λ e. bytes_eq e.name word) es → there ≡ is_some place → there ≡ true → es ≡ with_value es word value
with_present es word value place there h k l =
    sym (with_old es word value (sym (is_some_position (λ e. bytes_eq e.name word) es) ∙ ap is_some (sym h) ∙ sym k ∙ l))

-- a table in which it has none
pub with_absent : {A : Type 0} (es : List (Entry A)) (word : List ℕ) (value : A) (place : Option ℕ) (there : Bool)
    → place ≡ position (λ e. bytes_eq e.name word) es → there ≡ is_some place → there ≡ false
    → with_value es word value ≡ es ++ record { name = word; value = value } ∷ []
with_absent es word value place there h k l =
    with_new es word value (sym (is_some_position (λ e. bytes_eq e.name word) es) ∙ ap is_some (sym h) ∙ sym k ∙ l)

-- an entry is pushed
pub with_pushed : {A : Type 0} (es old pushed : List (Entry A)) (name word : List ℕ) (value : A) → pushed ≡ es ++ record { name = name; value = value } ∷ []
    → name ≡ word → es ≡ old → with_value old word value ≡ old ++ record { name = word; value = value } ∷ [] → pushed ≡ with_value old word value
with_pushed es old pushed name word value h same k l =
    h ∙ ap (λ n. es ++ record { name = n; value = value } ∷ []) same ∙ ap (λ xs. xs ++ record { name = word; value = value } ∷ []) k ∙ sym l
