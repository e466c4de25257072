-- Which walks of parts rows name.
use Rattle.std.specs.Global.{Vec}
use Rattle.std.proofs.Common.{◌≡◌, ◌∙◌, ℕ, zero, suc, Bool, List, [], ◌∷◌, ◌++◌, refl, ap, sym, subst, Option, Some, None, inl, inr, arith}
use Rattle.std.specs.Prelude.{IfSome, All, Contains, flat_map, option_to_list, slice_get}
use Rattle.std.specs.Option.{option_map}
use Rattle.std.proofs.lemmas.Grind.{flat_map-append}
use Rattle.std.proofs.lemmas.List.{append-nil}
use Rattle.std.proofs.lemmas.List.Elements.{All-head, All-tail, Contains-append_left, Contains-append_right, Contains-append_cases, Contains-push_cases}
use Rattle.std.proofs.lemmas.Option.{same_Some}
use Rattle.gt_walk.specs.declared.rows.Count.{Count}
use Rattle.gt_walk.specs.declared.rows.RowExpr.{RowExpr}
use Rattle.gt_walk.specs.declared.rows.Arm.{Arm, out-Arm}
use Rattle.gt_walk.specs.declared.rows.WalkRow.{WalkRow}
use Rattle.gt_walk.specs.declared.rows.WalkRow.TheVariants as row
use Rattle.gt_walk.specs.Nested.{parts_in}
use Rattle.gt_tables.specs.Ordered.{IsOrdered}
use Rattle.gt_tables.specs.Building.{parts_of, IsPointerRow}
use Rattle.gt_tables.specs.Counting.{named_by}
use Rattle.gt_tables.proofs.RowForms.{note-parts, ptr-parts, sub-parts, rep-parts, tail-parts, switch-parts}

-- ---- elements of lists

pub in-none : (n : ℕ) → Contains [] n → ⊥
in-none n is = omega (arith, is.1)

pub in-one : (x n : ℕ) → Contains (x ∷ []) n → x ≡ n
in-one x n is = elim (Contains-push_cases [] x n is) [
  | inl none ↦ absurd (in-none n none)
  | inr same ↦ same
]

pub in-swapped : (xs ys : List ℕ) (n : ℕ) → Contains (xs ++ ys) n → Contains (ys ++ xs) n
in-swapped xs ys n is = elim (Contains-append_cases xs ys n is) [
  | inl first ↦ Contains-append_right ys xs n first
  | inr second ↦ Contains-append_left ys xs n second
]

-- ---- walks

-- rows of walks name what those of one walk name
pub named-at : (walks : List (List WalkRow)) (i : ℕ) (rows : List WalkRow) (n : ℕ) → slice_get walks i ≡ Some rows → Contains (flat_map parts_in rows) n → Contains (named_by walks) n
named-at [] i rows n got is = absurd (cc (got))
named-at (ws ∷ walks) zero rows n got is =
    Contains-append_left (flat_map parts_in ws) (named_by walks) n (subst (λ rs. Contains (flat_map parts_in rs) n) (sym (same_Some ws rows got)) is)
named-at (ws ∷ walks) (suc i) rows n got is = Contains-append_right (flat_map parts_in ws) (named_by walks) n (named-at walks i rows n got is)

-- and nothing else
pub named-from : (walks : List (List WalkRow)) (n : ℕ) → Contains (named_by walks) n → (i : ℕ) × (rows : List WalkRow) × (slice_get walks i ≡ Some rows) × Contains (flat_map parts_in rows) n
named-from [] n is = absurd (in-none n is)
named-from (ws ∷ walks) n is = elim (Contains-append_cases (flat_map parts_in ws) (named_by walks) n is) [
  | inl here ↦ (0, ws, refl, here)
  | inr later ↦ let found = named-from walks n later in (suc found.0, found.1, found.2, found.3)
]

pub named-append : (walks more : List (List WalkRow)) → named_by (walks ++ more) ≡ named_by walks ++ named_by more
named-append walks more = flat_map-append (λ (rows : List WalkRow). flat_map parts_in rows) walks more

pub named-push : (walks : List (List WalkRow)) (rows : List WalkRow) → named_by (walks ++ rows ∷ []) ≡ named_by walks ++ flat_map parts_in rows
named-push walks rows = named-append walks (rows ∷ []) ∙ ap (λ l. named_by walks ++ l) (append-nil (flat_map parts_in rows))

-- a walk that names none changes nothing
pub named-bare : (walks now : List (List WalkRow)) (rows : List WalkRow) → now ≡ walks ++ rows ∷ [] → flat_map parts_in rows ≡ [] → named_by now ≡ named_by walks
named-bare walks now rows is none = ap named_by is ∙ named-push walks rows ∙ ap (λ l. named_by walks ++ l) none ∙ append-nil (named_by walks)

-- ---- rows

pub note-none : (size : ℕ) (chain : Option ℕ) → flat_map parts_in (row.Note size chain ∷ []) ≡ []
note-none size chain = ap (λ l. l ++ []) (note-parts size chain)

pub pointing-none : (size : ℕ) (chain : Option ℕ) (offset walk : ℕ) (count : Count) (reorder : Bool) → flat_map parts_in (row.Note size chain ∷ row.Ptr offset walk count reorder ∷ []) ≡ []
pointing-none size chain offset walk count reorder =
    ap (λ l. l ++ (parts_in (row.Ptr offset walk count reorder) ++ [])) (note-parts size chain) ∙ ap (λ l. l ++ []) (ptr-parts offset walk count reorder)

pub parts-add : (rows : List WalkRow) (o : Option WalkRow) → flat_map parts_in (rows ++ option_to_list o) ≡ flat_map parts_in rows ++ parts_of o
parts-add rows None = ap (λ l. flat_map parts_in l) (append-nil rows) ∙ sym (append-nil (flat_map parts_in rows))
parts-add rows (Some r) = flat_map-append parts_in rows (r ∷ []) ∙ ap (λ l. flat_map parts_in rows ++ l) (append-nil (parts_in r))

-- a row after a note
pub noted-parts : (size : ℕ) (chain : Option ℕ) (o : Option WalkRow) (notes rows : List WalkRow) → notes ≡ row.Note size chain ∷ [] → rows ≡ notes ++ option_to_list o → flat_map parts_in rows ≡ parts_of o
noted-parts size chain o notes rows notes-are rows-are =
    ap (λ l. flat_map parts_in l) rows-are ∙ parts-add notes o ∙ ap (λ l. flat_map parts_in l ++ parts_of o) notes-are ∙ ap (λ l. l ++ parts_of o) (note-none size chain)

-- a note alone
pub bare-parts : (size : ℕ) (chain : Option ℕ) (rest rows : List WalkRow) → rows ≡ row.Note size chain ∷ rest → rest ≡ [] → flat_map parts_in rows ≡ []
bare-parts size chain rest rows is none = ap (λ l. flat_map parts_in l) (is ∙ ap (λ l. row.Note size chain ∷ l) none) ∙ note-none size chain

-- ---- rows where there are some

pub pointer-none : (first : ℕ) (o : Option WalkRow) → IfSome o (IsPointerRow first) → parts_of o ≡ []
pointer-none first None is = refl
pointer-none first (Some r) is = is.parts

pub sub-named : (offset : ℕ) (walk : Option ℕ) → parts_of (option_map (row.Sub offset) walk) ≡ option_to_list walk
sub-named offset None = refl
sub-named offset (Some walk) = sub-parts offset walk

pub rep-named : (offset n size : ℕ) (o : Option WalkRow) → parts_of (option_map (row.Rep offset n size) o) ≡ parts_of o
rep-named offset n size None = refl
rep-named offset n size (Some r) = rep-parts offset n size r

pub tail-named : (offset : ℕ) (len : RowExpr) (size : ℕ) (o : Option WalkRow) → parts_of (option_map (row.Tail offset len size) o) ≡ parts_of o
tail-named offset len size None = refl
tail-named offset len size (Some r) = tail-parts offset len size r

-- ---- arms

-- the walks of parts that arms name
abbrev pub arms_name : List Arm → List ℕ
arms_name arms = flat_map (λ a. parts_of (out-Arm a).row) arms

pub arms-add : (arms : List Arm) (arm : Arm) (o : Option WalkRow) → (out-Arm arm).row ≡ o → arms_name (arms ++ arm ∷ []) ≡ arms_name arms ++ parts_of o
arms-add arms arm o is =
    flat_map-append (λ (a : Arm). parts_of (out-Arm a).row) arms (arm ∷ []) ∙ ap (λ l. arms_name arms ++ l) (append-nil (parts_of (out-Arm arm).row)) ∙ ap (λ r. arms_name arms ++ parts_of r) is

arms-none : (arms : List Arm) → All (λ (a : Arm). (out-Arm a).row ≡ None) arms → arms_name arms ≡ []
arms-none [] all = refl
arms-none (a ∷ arms) all =
    let P = λ (a : Arm). (out-Arm a).row ≡ None in
    ap (λ r. parts_of r ++ arms_name arms) (All-head P a arms all) ∙ arms-none arms (All-tail P a arms all)

-- the row of a union names what its arms do
pub switch-named : (X : RowExpr → Type 0) (o : Option WalkRow) (arms : Vec Arm) → IfSome o (λ made. (value : RowExpr) × (made ≡ row.Switch value arms) × X value × IsOrdered value)
    → (o ≡ None → All (λ (a : Arm). (out-Arm a).row ≡ None) arms.items) → parts_of o ≡ arms_name arms.items
switch-named X None arms is none = sym (arms-none arms.items (none refl))
switch-named X (Some r) arms is none = ap parts_in is.1 ∙ switch-parts is.0 arms
