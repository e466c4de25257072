-- Marks that are made one after another.
use Rattle.std.proofs.Common.{◌≡◌, ℕ, ◌+◌, ◌<◌, ◌≤◌, Bool, List, [], ◌∷◌, ◌++◌, length, get_or, take, Option, Some, None, slice_get, refl, sym, ap, subst, ◌∙◌}
use Rattle.std.specs.List.{AllZip}
use Rattle.std.specs.Option.{IsSomeAnd, MatchOption}
use Rattle.std.specs.Bool.{Decides}
use Rattle.std.proofs.lemmas.List.{take_all, take_more}
use Rattle.std.proofs.lemmas.Slice.Zip.{AllZip-left, AllZip-right}
use Rattle.indexmap.proofs.SetLemmas.{AllZip-push}
use Rattle.gt_types.specs.declared.types.TypeId.{TypeId}
use Rattle.gt_types.specs.declared.program.Field.{Field}
use Rattle.gt_types.specs.declared.program.Structure.{Structure}
use Rattle.gt_types.specs.declared.program.Program.{Program}
use Rattle.gt_types.specs.Contains.{HasStructure}
use Rattle.gt_types.specs.Paths.{MayStep}
use Rattle.gt_fields.specs.Places.{bind}
use Rattle.gt_paths.specs.Marks.{IsRow}
use Rattle.gt_paths.specs.Numbers.{mark_at, mark_in, or_false}

pub zip_more : {A B : Type 0} (R : A → B → Type 0) (xs : List A) (i : ℕ) (x : A) (ys : List B) (y : B) → i < length xs → x ≡ get_or xs i x → AllZip R (take i xs) ys → R x y
    → AllZip R (take (i + 1) xs) (ys ++ y ∷ [])
zip_more {A} {B} R xs i x ys y within is all holds =
    subst (λ (zs : List A). AllZip R zs (ys ++ y ∷ [])) (ap (λ (z : A). take i xs ++ z ∷ []) is ∙ sym (take_more xs i x within)) (AllZip-push R (take i xs) ys x y all holds)

pub zip_all : {A B : Type 0} (R : A → B → Type 0) (xs : List A) (i : ℕ) (ys : List B) → length xs ≤ i → AllZip R (take i xs) ys → AllZip R xs ys
zip_all {A} R xs i ys past all = subst (λ (zs : List A). AllZip R zs ys) (take_all i xs past) all

-- what is at a place, and has the property
abbrev pub HasAt : {X : Type 0} → (X → Type 0) → List X → ℕ → Type 0
HasAt {X} P xs k = (x : X) × (slice_get xs k ≡ Some x) × P x

same_item : {X : Type 0} (x y : X) → Some x ≡ Some y → x ≡ y
same_item x y e = cc

marked : {X : Type 0} (P : X → Type 0) (xs : List X) (k : ℕ) (o : Option X) (m : Option Bool) → slice_get xs k ≡ o → MatchOption o (Unit {0}) (λ x. IsSomeAnd m (λ b. Decides b (P x)))
    → MatchOption m (Unit {0}) (λ b. IsSomeAnd o (λ x. Decides b (P x))) → Decides (or_false m) (HasAt P xs k)
marked P xs k None None is left right = (λ never. cc, λ (x, at, holds). let never : None ≡ Some x = sym is ∙ at in cc)
marked P xs k None (Some b) is left right = absurd right
marked P xs k (Some x) None is left right = absurd left
marked {X} P xs k (Some x) (Some b) is left right =
    (λ e. (x, is, left.0 e), λ (y, at, holds). left.1 (subst P (same_item y x (sym at ∙ is)) holds))

pub marks_are : {X : Type 0} (P : X → Type 0) (xs : List X) (marks : List Bool) → AllZip (λ x b. Decides b (P x)) xs marks → (k : ℕ) → Decides (mark_at marks k) (HasAt P xs k)
marks_are P xs marks all k =
    marked P xs k (slice_get xs k) (slice_get marks k) refl (AllZip-left (λ x b. Decides b (P x)) xs marks all k) (AllZip-right (λ x b. Decides b (P x)) xs marks all k)

-- ---- rows

row_at : (program : Program) (s : Structure) (place : ℕ) (f : Field) (m : Option (List Bool)) → IsSomeAnd m (IsRow program s) → slice_get s.fields place ≡ Some f
    → Decides (or_false (bind m (λ row. slice_get row place))) (MayStep program s f)
row_at program s place f None row at = absurd row
row_at program s place f (Some marks) row at =
    let decides = marks_are (MayStep program s) s.fields marks row place in (
      λ e. let found = decides.0 e in subst (MayStep program s) (same_item found.0 f (sym found.1 ∙ at)) found.2,
      λ may. decides.1 (f, at, may),
    )

pub rows_are : (program : Program) (rows : List (List Bool)) → AllZip (IsRow program) program.structures rows → (node : TypeId) (s : Structure) (place : ℕ) (f : Field)
    → HasStructure program node s → slice_get s.fields place ≡ Some f → Decides (mark_in rows node.0 place) (MayStep program s f)
rows_are program rows all node s place f there at =
    row_at program s place f (slice_get rows node.0)
    (subst (λ (o : Option Structure). MatchOption o (Unit {0}) (λ t. IsSomeAnd (slice_get rows node.0) (IsRow program t))) there (AllZip-left (IsRow program) program.structures rows all node.0)) at

-- a pass over items, one of which was marked
pub zip_pushed : {A B : Type 0} (R : A → B → Type 0) (xs : List A) (i : ℕ) (x : A) (ys zs : List B) (y : B) → i < length xs → x ≡ get_or xs i x → zs ≡ ys ++ y ∷ [] → AllZip R (take i xs) ys → R x y
    → AllZip R (take (i + 1) xs) zs
zip_pushed {A} {B} R xs i x ys zs y within is pushed all holds = subst (λ (ws : List B). AllZip R (take (i + 1) xs) ws) (sym pushed) (zip_more R xs i x ys y within is all holds)

-- all items of a list, with the marks of another list, which are the same
pub zip_same : {A B : Type 0} (R : A → B → Type 0) (xs ws : List A) (i : ℕ) (ys zs : List B) → length xs ≤ i → xs ≡ ws → zs ≡ ys → AllZip R (take i xs) ys → AllZip R ws zs
zip_same {A} {B} R xs ws i ys zs past same made all =
    subst (λ (ms : List B). AllZip R ws ms) (sym made) (subst (λ (items : List A). AllZip R items ys) same (zip_all R xs i ys past all))
