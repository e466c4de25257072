-- The constants of a draft are those of the table of constants.
use Rattle.std.proofs.Common.{◌≡◌, ◌∙◌, ℕ, ℤ, Bool, true, false, List, [], ◌∷◌, ◌++◌, map, Option, Some, None, refl, sym, ap, ap₂, suc, ◌+◌, ◌<◌, ◌≤◌, take, drop, get_or, length, arith, append_assoc}
use Rattle.std.specs.Prelude.{if◌then◌else◌, filter_map, option_map}
use Rattle.std.specs.Option.{option_to_list, option_map_or}
use Rattle.std.proofs.lemmas.List.{take_more, drop_more, at_drop_all, append-nil, take_all}
use Rattle.std.specs.List.{cons_option, list_any}
use Rattle.std.proofs.lemmas.List.Elements.{filter_map-append}
use Rattle.gt_items.specs.declared.items.Item.{Item}
use Rattle.gt_items.specs.declared.items.Items.{Items}
use Rattle.std.specs.Str.{bytes_eq}
use Rattle.gt_scope.specs.declared.declaration.Declaration.{Declaration}
use Rattle.gt_drafts.specs.declared.draft.DraftConstant.{DraftConstant}
use Rattle.gt_names.specs.declared.tables.Entry.{Entry}
use Rattle.gt_items.specs.declared.items.Declarator.{Declarator}
use Rattle.gt_items.specs.declared.items.RawType.{RawType}
use Rattle.gt_items.specs.declared.items.Stars.{Stars}
use Rattle.gt_drafts.specs.declared.types.Amount.{Amount}
use Rattle.gt_drafts.specs.declared.types.DeclaredType.{DeclaredType}
use Rattle.gt_drafts.specs.Options.{has_length}
use Rattle.gt_scope.specs.Spelling.{spelled_of}
use Rattle.gt_items.specs.declared.items.Stars.TheVariants.{Zero, One, Two, More}
use Rattle.gt_drafts.specs.declared.types.BaseType.{BaseType}
use Rattle.gt_drafts.specs.declared.types.Resolved.{Resolved}
use Rattle.gt_scope.specs.declared.meaning.TypedefMeaning.{TypedefMeaning}
use Rattle.gt_scope.specs.declared.types.Spelled.{Spelled}
use Rattle.gt_scope.specs.declared.types.Spelled.TheVariants as spelled
use Rattle.gt_scope.specs.Meanings.{meaning_in, more_stars, plain_type, resolved_type, with_stars}
use Rattle.gt_scope.specs.Declarations.{as_constant}
use Rattle.gt_resolve.specs.Drafts.{amount_in, bounds_of, declarator_type, with_constant, constants_from, items_from}
use Rattle.gt_names.specs.Entries.{with_value}
use Rattle.gt_scope.specs.Tables.{values_from}
use Rattle.gt_names.proofs.TableLemmas.{list_any-map}

-- a constant of a draft
abbrev pub as_drafted : Entry ℤ → DraftConstant
as_drafted e = record { name = e.name; value = e.value }

drafted_push : (es : List (Entry ℤ)) (e : Entry ℤ) → map as_drafted (es ++ e ∷ []) ≡ map as_drafted es ++ as_drafted e ∷ []
drafted_push [] e = refl
drafted_push (x ∷ es) e = ap (λ cs. as_drafted x ∷ cs) (drafted_push es e)

with_case : (es : List (Entry ℤ)) (name : List ℕ) (value : ℤ) (there : Bool) → list_any (λ e. bytes_eq e.name name) es ≡ there
    → map as_drafted (if there then es else es ++ record { name = name; value = value } ∷ [])
    ≡ (if there then map as_drafted es else map as_drafted es ++ record { name = name; value = value } ∷ [])
with_case es name value true h = refl
with_case es name value false h = drafted_push es (record { name = name; value = value })

drafted_with : (es : List (Entry ℤ)) (name : List ℕ) (value : ℤ) → map as_drafted (with_value es name value) ≡ with_constant (map as_drafted es) name value
drafted_with es name value =
    with_case es name value (list_any (λ e. bytes_eq e.name name) es) refl
    ∙ ap (λ b. if b then map as_drafted es else map as_drafted es ++ record { name = name; value = value } ∷ [])
    (sym (list_any-map as_drafted (λ c. bytes_eq c.name name) es))

drafted_one : (es : List (Entry ℤ)) (name : List ℕ) (o : Option ℤ)
    → map as_drafted (option_map_or (with_value es name) o es) ≡ option_map_or (with_constant (map as_drafted es) name) o (map as_drafted es)
drafted_one es name None = refl
drafted_one es name (Some value) = drafted_with es name value

drafted_from : (es : List (Entry ℤ)) (ds : List Declaration) → map as_drafted (values_from as_constant es ds) ≡ constants_from (map as_drafted es) ds
unfolding values_from constants_from
drafted_from es [] = refl
drafted_from es (d ∷ ds) =
    drafted_from (option_map_or (with_value es d.name.word) (as_constant d.what) es) ds
    ∙ ap (λ cs. constants_from cs ds) (drafted_one es d.name.word (as_constant d.what))

-- each with its first value
pub drafted_constants : (ds : List Declaration) → map as_drafted (values_from as_constant [] ds) ≡ constants_from [] ds
drafted_constants ds = drafted_from [] ds

-- ---- what is made of items one by one

cons_one : {B : Type 0} (o : Option B) → cons_option o [] ≡ option_to_list o
cons_one None = refl
cons_one (Some x) = refl

-- one more item
pub filter_map_more : {A B : Type 0} (h : A → Option B) (xs : List A) (k : ℕ) (x : A) → k < length xs → x ≡ get_or xs k x
    → filter_map h (take (k + 1) xs) ≡ filter_map h (take k xs) ++ option_to_list (h x)
filter_map_more h xs k x l at =
    ap (filter_map h) (take_more xs k x l ∙ ap (λ y. take k xs ++ y ∷ []) (sym at)) ∙ filter_map-append h (take k xs) (x ∷ [])
    ∙ ap (λ ys. filter_map h (take k xs) ++ ys) (cons_one (h x))

-- one more item, after what was there
pub item_more : {A B : Type 0} (h : A → Option B) (xs : List A) (before made more : List B) (one : Option B) (k : ℕ) (x : A) → k < length xs → x ≡ get_or xs k x
    → made ≡ before ++ filter_map h (take k xs) → one ≡ h x → more ≡ made ++ option_to_list one → more ≡ before ++ filter_map h (take (k + 1) xs)
item_more h xs before made more one k x l at m o e =
    e ∙ ap (λ ys. ys ++ option_to_list one) m ∙ append_assoc before (filter_map h (take k xs)) (option_to_list one)
    ∙ ap (λ o. before ++ (filter_map h (take k xs) ++ option_to_list o)) o ∙ ap (λ ys. before ++ ys) (sym (filter_map_more h xs k x l at))

-- one more file
pub file_more : {B : Type 0} (reading : ℕ → Item → Option B) (files : List Items) (made more whole : List B) (file next k : ℕ) (items : Items) → k < length files
    → items ≡ get_or files k items → made ++ items_from reading (file + 1) (drop k files) ≡ whole → next ≡ file + 1
    → more ≡ made ++ filter_map (reading next) items.items → more ++ items_from reading (next + 1) (drop (k + 1) files) ≡ whole
unfolding items_from
file_more reading files made more whole file next k items l at m n e =
    let next_is : suc (file + 1) ≡ next + 1 = (let f = n in omega arith) in
    ap (λ ys. ys ++ items_from reading (next + 1) (drop (k + 1) files)) e
    ∙ append_assoc made (filter_map (reading next) items.items) (items_from reading (next + 1) (drop (k + 1) files))
    ∙ ap (λ j. made ++ (filter_map (reading j) items.items ++ items_from reading (next + 1) (drop (k + 1) files))) n
    ∙ ap (λ j. made ++ (filter_map (reading (file + 1)) items.items ++ items_from reading j (drop (k + 1) files))) (sym next_is)
    ∙ sym (ap (λ rest. made ++ items_from reading (file + 1) rest) (drop_more files k items l ∙ ap (λ x. x ∷ drop (k + 1) files) (sym at)))
    ∙ m

-- no file is left
pub files_all : {B : Type 0} (reading : ℕ → Item → Option B) (files : List Items) (made whole : List B) (file k : ℕ) → length files ≤ k
    → made ++ items_from reading file (drop k files) ≡ whole → made ≡ whole
unfolding items_from
files_all reading files made whole file k h m =
    sym (append-nil made) ∙ ap (λ ys. made ++ ys) (sym (at_drop_all (items_from reading file) files k h)) ∙ m

same_constant : (c : DraftConstant) (e : Entry ℤ) → c.name ≡ e.name → c.value ≡ e.value → c ≡ as_drafted e
same_constant c e n v = ap (λ name. record { name = name; value = c.value }) n ∙ ap (λ value. record { name = e.name; value = value }) v

-- one more constant
pub drafted_more : (es : List (Entry ℤ)) (k : ℕ) (e : Entry ℤ) (made pushed : List DraftConstant) (c : DraftConstant) → k < length es → e ≡ get_or es k e
    → made ≡ map as_drafted (take k es) → c.name ≡ e.name → c.value ≡ e.value → pushed ≡ made ++ c ∷ [] → pushed ≡ map as_drafted (take (k + 1) es)
drafted_more es k e made pushed c l at m n v p =
    p ∙ ap (λ cs. cs ++ c ∷ []) m ∙ ap (λ d. map as_drafted (take k es) ++ d ∷ []) (same_constant c e n v) ∙ sym (drafted_push (take k es) e)
    ∙ sym (ap (map as_drafted) (take_more es k e l ∙ ap (λ x. take k es ++ x ∷ []) (sym at)))

-- all constants
pub drafted_all : (es : List (Entry ℤ)) (ds : List Declaration) (k : ℕ) (made : List DraftConstant) → length es ≤ k → made ≡ map as_drafted (take k es)
    → es ≡ values_from as_constant [] ds → made ≡ constants_from [] ds
drafted_all es ds k made h m e = m ∙ ap (map as_drafted) (take_all k es h ∙ e) ∙ drafted_constants ds

-- ---- types with stars

no_more : (s : Stars) → more_stars s Zero ≡ s
no_more Zero = refl
no_more One = refl
no_more Two = refl
no_more More = refl

later_case : (o : Option Resolved) (base : BaseType) (s : Stars)
    → with_stars (option_map_or (λ m. with_stars m Zero) o (record { base = base; stars = Zero })) s ≡ option_map_or (λ m. with_stars m s) o (record { base = base; stars = s })
later_case None base s = refl
later_case (Some m) base s = ap (λ (t : Stars). with_stars (record { base = m.base; stars = t }) s) (no_more m.stars)

-- a type is looked up without stars, and has its stars later
stars_later : (ds : List Declaration) (types : List TypedefMeaning) (ty : Spelled) (s : Stars) → with_stars (resolved_type ds types ty Zero) s ≡ resolved_type ds types ty s
unfolding resolved_type
stars_later ds types (spelled.Number scalar is_char) s = refl
stars_later ds types spelled.Float s = refl
stars_later ds types spelled.Double s = refl
stars_later ds types spelled.Sizeless s = refl
stars_later ds types (spelled.Tagged keyword tag) s = refl
stars_later ds types (spelled.Named word) s = later_case (meaning_in types word) (plain_type ds (spelled.Named word)) s

pub stars_after : (ds : List Declaration) (types : List TypedefMeaning) (ty : Spelled) (s : Stars) (means r : Resolved) → means ≡ resolved_type ds types ty Zero
    → r ≡ with_stars means s → r ≡ resolved_type ds types ty s
stars_after ds types ty s means r m e = e ∙ ap (λ (x : Resolved). with_stars x s) m ∙ stars_later ds types ty s

-- a declarator after a type that was looked up
pub declarator_after : (ds : List Declaration) (types : List TypedefMeaning) (ty : RawType) (d : Declarator) (means r : Resolved) (replaced : Bool) (texts : List (List ℕ))
    (bounds : List Amount) (bits : Option Amount) → means ≡ resolved_type ds types (spelled_of ty) Zero → r ≡ with_stars means d.stars
    → replaced ≡ has_length d.options → texts ≡ d.bounds → bounds ≡ bounds_of ds replaced texts → bits ≡ option_map (amount_in ds) d.bits
    → ◌≡◌ {A = DeclaredType} (record { resolved = r; bounds = bounds; bits = bits; is_function = d.is_function }) (declarator_type ds types ty d)
declarator_after ds types ty d means r replaced texts bounds bits m e l t b c =
    let bounds_is : bounds ≡ bounds_of ds (has_length d.options) d.bounds = b ∙ ap₂ (λ (x : Bool) (y : List (List ℕ)). bounds_of ds x y) l t in
    rw (stars_after ds types (spelled_of ty) d.stars means r m e) (rw bounds_is (rw c refl))
