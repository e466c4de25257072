-- The fault at a place is found item by item.
use Rattle.std.proofs.Common.{◌≡◌, ◌∙◌, ℕ, zero, suc, ◌+◌, ◌<◌, ◌≤◌, Bool, true, List, [], ◌∷◌, ◌++◌, length, drop, get_or, Option, Some, None, refl, sym, ap, ap₂, subst, arith}
use Rattle.std.specs.Prelude.{Result, Ok, Err, filter_map, slice_get, is_some}
use Rattle.std.specs.Option.{option_to_list}
use Rattle.std.specs.Result.{is_ok}
use Rattle.std.specs.List.{cons_option}
use Rattle.std.proofs.lemmas.Bool.{true≢false}
use Rattle.std.proofs.lemmas.List.{drop_all, drop_more}
use Rattle.gt_types.specs.declared.faults.Fault.{Fault}
use Rattle.gt_items.specs.declared.items.Item.{Item}
use Rattle.gt_items.specs.declared.items.Items.{Items}
use Rattle.gt_resolve.specs.Drafts.{items_from}
use Rattle.gt_drafts.specs.FirstFaults.{IsFirst, IsFirstOf, earlier_of, first_from}
use Rattle.gt_resolve.specs.Placings.{IsThere, chosen, fault_item, faults_from, item_or_rest, one_item}
use Rattle.gt_resolve.proofs.Firsts.{first_from_first}

ok_err : (fault : Fault) (place : ℕ) → ◌≡◌ {A = Result Fault ℕ} (Ok fault) (Err place) → ⊥
ok_err fault place e = true≢false (ap is_ok e)

same_ok : (a b : Fault) → ◌≡◌ {A = Result Fault ℕ} (Ok a) (Ok b) → a ≡ b
same_ok a b e = ap (λ (r : Result Fault ℕ). ok_or a r) e
  where
    ok_or : Fault → Result Fault ℕ → Fault
    ok_or other (Ok fault) = fault
    ok_or other (Err place) = other

-- what is found in a list, and after it in another
abbrev pub or_after : Result Fault ℕ → List Fault → Result Fault ℕ
or_after (Ok fault) faults = Ok fault
or_after (Err place) faults = item_or_rest faults place

found_append : (xs ys : List Fault) (place : ℕ) → item_or_rest (xs ++ ys) place ≡ or_after (item_or_rest xs place) ys
found_append [] ys place = refl
found_append (x ∷ xs) ys zero = refl
found_append (x ∷ xs) ys (suc place) = found_append xs ys place

one_more_item : (h : Item → Option Fault) (x : Item) (xs : List Item) (o : Option Fault) (place : ℕ) → h x ≡ o
    → item_or_rest (filter_map h (x ∷ xs)) place ≡ or_after (one_item o place) (filter_map h xs)
one_more_item h x xs None place e = ap (λ (o : Option Fault). item_or_rest (cons_option o (filter_map h xs)) place) e
one_more_item h x xs (Some fault) zero e = ap (λ (o : Option Fault). item_or_rest (cons_option o (filter_map h xs)) zero) e
one_more_item h x xs (Some fault) (suc place) e = ap (λ (o : Option Fault). item_or_rest (cons_option o (filter_map h xs)) (suc place)) e

-- ---- items of a file

pub next_item : (h : Item → Option Fault) (items : List Item) (i : ℕ) (x : Item) (fault : Option Fault) (place : ℕ) → i < length items → x ≡ get_or items i x → fault ≡ h x
    → item_or_rest (filter_map h (drop i items)) place ≡ or_after (one_item fault place) (filter_map h (drop (i + 1) items))
next_item h items i x fault place l is e =
    ap (λ (xs : List Item). item_or_rest (filter_map h xs) place) (drop_more items i x l ∙ ap (λ (y : Item). y ∷ drop (i + 1) items) (sym is))
    ∙ one_more_item h x (drop (i + 1) items) fault place (sym e)

pub no_item : (h : Item → Option Fault) (items : List Item) (i place : ℕ) → length items ≤ i → Err place ≡ item_or_rest (filter_map h (drop i items)) place
no_item h items i place l = ap (λ (xs : List Item). item_or_rest (filter_map h xs) place) (sym (drop_all i items l))

-- ---- files

pub next_file : (tags : Bool) (files : List Items) (i : ℕ) (x : Items) (items : List Item) (file place : ℕ) → i < length files → x ≡ get_or files i x → items ≡ x.items
    → file ≡ i + 1
    → item_or_rest (faults_from tags (i + 1) (drop i files)) place
    ≡ or_after (item_or_rest (filter_map (fault_item tags file) items) place) (faults_from tags (i + 1 + 1) (drop (i + 1) files))
unfolding items_from
next_file tags files i x items file place l is same at =
    let item : drop i files ≡ x ∷ drop (i + 1) files = drop_more files i x l ∙ ap (λ (y : Items). y ∷ drop (i + 1) files) (sym is) in
    let next : suc (i + 1) ≡ i + 1 + 1 = omega arith in
    let here : filter_map (fault_item tags (i + 1)) x.items ≡ filter_map (fault_item tags file) items =
    ap₂ (λ (n : ℕ) (xs : List Item). filter_map (fault_item tags n) xs) (sym at) (sym same) in
    ap (λ (xs : List Items). item_or_rest (faults_from tags (i + 1) xs) place) item
    ∙ found_append (filter_map (fault_item tags (i + 1)) x.items) (faults_from tags (suc (i + 1)) (drop (i + 1) files)) place
    ∙ ap₂ (λ (fs : List Fault) (n : ℕ). or_after (item_or_rest fs place) (faults_from tags n (drop (i + 1) files))) here next

pub no_file : (tags : Bool) (files : List Items) (i file place : ℕ) → length files ≤ i → Err place ≡ item_or_rest (faults_from tags file (drop i files)) place
unfolding items_from
no_file tags files i file place l = ap (λ (xs : List Items). item_or_rest (faults_from tags file xs) place) (sym (drop_all i files l))

-- what is found here
pub found_here : (r s : Result Fault ℕ) (whole : Result Fault ℕ) (faults : List Fault) (fault : Fault) → whole ≡ or_after r faults → s ≡ r → s ≡ Ok fault → Ok fault ≡ whole
found_here r s whole faults fault h e k = sym (h ∙ ap (λ (x : Result Fault ℕ). or_after x faults) (sym e ∙ k))

-- and after
pub found_after : (r s : Result Fault ℕ) (whole : Result Fault ℕ) (faults : List Fault) (place : ℕ) → whole ≡ or_after r faults → s ≡ r → s ≡ Err place
    → item_or_rest faults place ≡ whole
found_after r s whole faults place h e k = sym (h ∙ ap (λ (x : Result Fault ℕ). or_after x faults) (sym e ∙ k))

-- ---- the place

pub found_is : (faults : List Fault) (place : ℕ) (fault : Fault) → Ok fault ≡ item_or_rest faults place → Some fault ≡ slice_get faults place
found_is [] place fault e = absurd (ok_err fault place e)
found_is (x ∷ faults) zero fault e = ap (λ (f : Fault). Some f) (same_ok fault x e)
found_is (x ∷ faults) (suc place) fault e = found_is faults place fault e

pub not_found_is : (faults : List Fault) (place rest : ℕ) → Err rest ≡ item_or_rest faults place → None ≡ slice_get faults place
not_found_is [] place rest e = refl
not_found_is (x ∷ faults) zero rest e = absurd (ok_err x rest (sym e))
not_found_is (x ∷ faults) (suc place) rest e = not_found_is faults place rest e

there_is : (faults : List Fault) (place : ℕ) → place < length faults → is_some (slice_get faults place) ≡ true
there_is [] place l = absurd (omega (arith, l))
there_is (x ∷ faults) zero l = refl
there_is (x ∷ faults) (suc place) l = there_is faults place (omega (arith, l))

-- what is given is chosen
pub chosen_there : (faults : List Fault) (place : Option ℕ) → IsThere faults place → is_some (chosen faults place) ≡ is_some place
chosen_there faults None l = refl
chosen_there faults (Some place) l = there_is faults place l

-- the earlier of two that may be there
pub first_of_two : (a b : Option Fault) (first : Fault) → first_from None (option_to_list a ++ option_to_list b) ≡ Some first → IsFirst (option_to_list a ++ option_to_list b) first
first_of_two a b first e = subst (λ (o : Option Fault). IsFirstOf (option_to_list a ++ option_to_list b) o) e (first_from_first (option_to_list a ++ option_to_list b))

pub first_of_one : (a b : Option Fault) (first : Fault) → b ≡ None → a ≡ Some first → first_from None (option_to_list a ++ option_to_list b) ≡ Some first
unfolding first_from
first_of_one a b first n e = ap₂ (λ (x y : Option Fault). first_from None (option_to_list x ++ option_to_list y)) e n

pub first_with : (a b : Option Fault) (fault first : Fault) → b ≡ Some fault → earlier_of a fault ≡ Some first → first_from None (option_to_list a ++ option_to_list b) ≡ Some first
unfolding first_from
first_with None b fault first n e = ap (λ (y : Option Fault). first_from None (option_to_list y)) n ∙ e
first_with (Some x) b fault first n e = ap (λ (y : Option Fault). first_from None (x ∷ option_to_list y)) n ∙ e
