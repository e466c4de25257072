-- Texts that stand one after another, and the texts of parts, part by part.
use Rattle.std.proofs.Common.{◌≡◌, ℕ, suc, ◌+◌, ◌<◌, ◌≤◌, Bool, false, cond, List, [], ◌∷◌, ◌++◌, map, Some, None, inl, inr, length, get_or, take, refl, ap, sym, subst, ◌∙◌, arith, append_assoc, append-nil}
use Rattle.std.specs.Prelude.{◌==◌, codes, encode_utf8_all, slice_get}
use Rattle.std.proofs.lemmas.List.{take_more, take_all, map_more, flat_map_more, length_push, length-map}
use Rattle.std.proofs.lemmas.Option.{slice_get_within, get_or_from_slice_get, slice_get_cases, slice_get-map, slice_get_read}
use Rattle.std.specs.Option.{option_map}
use Rattle.gt_types.specs.declared.types.Ty.{Ty}
use Rattle.gt_types.specs.declared.program.Field.{Field}
use Rattle.gt_types.specs.declared.program.Structure.{Structure}
use Rattle.gt_types.specs.declared.program.Program.{Program}
use Rattle.gt_tree.specs.Trees.{Tree}
use Rattle.gt_tree.specs.Blocks.{Blocks}
use Rattle.gt_tree.specs.Fits.{types_of}
use Rattle.gt_value.specs.declared.values.Value.{Value}
use Rattle.gt_value.specs.Values.{trees, tree_of}
use Rattle.gt_show.specs.Shown.{joined, named, Shows, ShowFields, ShowEach}
use Rattle.gt_show.specs.Parts.{separator, AllFitSomewhere, IsAdded, ShowsStruct, ShowsRow}
use Rattle.gt_show.proofs.FitParts.{as-many}

-- so many texts, joined, stand after what was there
pub record AreAdded (show : List (List ℕ) → Type 0) (count : ℕ) (old new : List ℕ) : Type 0 where
  pub texts : List (List ℕ)
  pub shown : show texts
  pub as_many : count ≡ length texts
  pub text : new ≡ old ++ joined texts

-- ---- one text more

not_zero : (n : ℕ) → (suc n == 0) ≡ false
not_zero n = grind arith

with_comma : List ℕ → List ℕ
with_comma text = codes ", " ++ text

joined-push : (texts : List (List ℕ)) (text : List ℕ) → joined texts ++ separator (length texts) ++ text ≡ joined (texts ++ text ∷ [])
joined-push [] text = sym (append-nil text)
joined-push (u ∷ us) text =
    ap (λ (b : Bool). joined (u ∷ us) ++ cond b [] (codes ", ") ++ text) (not_zero (length us)) ∙ append_assoc (joined (u ∷ us)) (codes ", ") text
    ∙ flat_map_more (λ (t : List ℕ). codes ", " ++ t) u us text

pub added_more : (show more : List (List ℕ) → Type 0) (i : ℕ) (old before after text : List ℕ) → after ≡ before ++ separator i ++ text → ((texts : List (List ℕ)) → show texts → more (texts ++ text ∷ []))
    → AreAdded show i old before → AreAdded more (i + 1) old after
added_more show more i old before after text is next so = record {
  texts = so.texts ++ text ∷ [];
  shown = next so.texts so.shown;
  as_many = let longer = length_push so.texts text in omega (arith, longer, so.as_many);
  text =
      is ∙ ap (λ (t : List ℕ). t ++ separator i ++ text) so.text ∙ ap (λ (t : List ℕ). t ++ text) (append_assoc old (joined so.texts) (separator i)) ∙ append_assoc old (joined so.texts ++ separator i) text
      ∙ ap (λ (n : ℕ). old ++ (joined so.texts ++ separator n ++ text)) so.as_many ∙ ap (λ (t : List ℕ). old ++ t) (joined-push so.texts text);
}

-- a text between two marks
pub enclosed : (old mark text end before new : List ℕ) → before ≡ old ++ mark ++ text → new ≡ before ++ end → new ≡ old ++ (mark ++ text ++ end)
enclosed old mark text end before new so is =
    is ∙ ap (λ (t : List ℕ). t ++ end) (so ∙ append_assoc old mark text) ∙ append_assoc old (mark ++ text) end

-- ---- parts

module _ {program : Program} {blocks : Blocks} where
  fields-push : (fs : List Field) (xs : List Tree) (texts : List (List ℕ)) (f : Field) (x : Tree) (text : List ℕ) → ShowFields program blocks fs (trees xs) texts → Shows program blocks f.ty x text
      → ShowFields program blocks (fs ++ f ∷ []) (trees (xs ++ x ∷ [])) (texts ++ named f.name (codes "=") text ∷ [])
  fields-push [] [] [] f x text ShowFields.no_field part = ShowFields.next_field part ShowFields.no_field
  fields-push (g ∷ gs) (y ∷ ys) (t ∷ ts) f x text (ShowFields.next_field first rest) part = ShowFields.next_field first (fields-push gs ys ts f x text rest part)
  fields-push [] [] (t ∷ ts) f x text shows part = elim shows [ ]
  fields-push [] (y ∷ ys) texts f x text shows part = elim shows [ ]
  fields-push (g ∷ gs) [] texts f x text shows part = elim shows [ ]
  fields-push (g ∷ gs) (y ∷ ys) [] f x text shows part = elim shows [ ]

  each-push : (elem : Ty) (xs : List Tree) (texts : List (List ℕ)) (x : Tree) (text : List ℕ) → ShowEach program blocks elem (trees xs) texts → Shows program blocks elem x text
      → ShowEach program blocks elem (trees (xs ++ x ∷ [])) (texts ++ text ∷ [])
  each-push elem [] [] x text ShowEach.no_more part = ShowEach.one_more part ShowEach.no_more
  each-push elem (y ∷ ys) (t ∷ ts) x text (ShowEach.one_more first rest) part = ShowEach.one_more first (each-push elem ys ts x text rest part)
  each-push elem [] (t ∷ ts) x text shows part = elim shows [ ]
  each-push elem (y ∷ ys) [] x text shows part = elim shows [ ]

  -- the fields of a struct
  pub field_more :
      (fields : List Field) (parts : List Value) (i : ℕ) (f : Field) (part : Value) (old before labelled after : List ℕ) → slice_get fields i ≡ Some f → i < length parts → part ≡ get_or parts i part
      → labelled ≡ before ++ separator i ++ encode_utf8_all f.name ++ codes "=" → IsAdded (Shows program blocks f.ty (tree_of part)) labelled after
      → AreAdded (ShowFields program blocks (take i fields) (trees (map tree_of (take i parts)))) i old before
      → AreAdded (ShowFields program blocks (take (i + 1) fields) (trees (map tree_of (take (i + 1) parts)))) (i + 1) old after
  field_more fields parts i f part old before labelled after got within at label (text, shown, is) so =
      let first : take (i + 1) fields ≡ take i fields ++ f ∷ [] =
      take_more fields i f (slice_get_within fields i f got) ∙ ap (λ (g : Field). take i fields ++ g ∷ []) (get_or_from_slice_get fields i f f got) in
      let second : map tree_of (take (i + 1) parts) ≡ map tree_of (take i parts) ++ tree_of part ∷ [] =
      map_more tree_of parts i part within ∙ ap (λ (v : Value). map tree_of (take i parts) ++ tree_of v ∷ []) (sym at) in
      let name : List ℕ = encode_utf8_all f.name in
      let front : List ℕ = before ++ separator i in
      added_more (ShowFields program blocks (take i fields) (trees (map tree_of (take i parts)))) (ShowFields program blocks (take (i + 1) fields) (trees (map tree_of (take (i + 1) parts)))) i old before after
      (named f.name (codes "=") text)
      (is ∙ ap (λ (t : List ℕ). t ++ text) (label ∙ append_assoc front name (codes "=")) ∙ append_assoc front (name ++ codes "=") text)
      (λ texts shows.
      subst (λ (fs : List Field). ShowFields program blocks fs (trees (map tree_of (take (i + 1) parts))) (texts ++ named f.name (codes "=") text ∷ [])) (sym first)
      (subst (λ (xs : List Tree). ShowFields program blocks (take i fields ++ f ∷ []) (trees xs) (texts ++ named f.name (codes "=") text ∷ [])) (sym second)
      (fields-push (take i fields) (map tree_of (take i parts)) texts f (tree_of part) text shows shown))) so

  pub no_field : (fields : List Field) (parts : List Value) (old new : List ℕ) → new ≡ old → AreAdded (ShowFields program blocks (take 0 fields) (trees (map tree_of (take 0 parts)))) 0 old new
  no_field fields parts old new is = record { texts = []; shown = ShowFields.no_field; as_many = refl; text = is ∙ sym (append-nil old) }

  pub fields_end : (s : Structure) (parts : List Value) (i : ℕ) (old before new : List ℕ) → length s.fields ≡ length parts → length parts ≤ i → new ≡ before ++ 125 ∷ []
      → AreAdded (ShowFields program blocks (take i s.fields) (trees (map tree_of (take i parts)))) i (old ++ 123 ∷ []) before → IsAdded (ShowsStruct program blocks s (trees (map tree_of parts))) old new
  fields_end s parts i old before new as_many past is so =
      let all_fields : take i s.fields ≡ s.fields = take_all i s.fields (omega (arith, as_many, past)) in
      let all_parts : take i parts ≡ parts = take_all i parts past in (
        codes "{" ++ joined so.texts ++ codes "}",
        (
          so.texts,
          subst (λ (fs : List Field). ShowFields program blocks fs (trees (map tree_of parts)) so.texts) all_fields
              (subst (λ (vs : List Value). ShowFields program blocks (take i s.fields) (trees (map tree_of vs)) so.texts) all_parts so.shown),
          refl,
        ),
        enclosed old (codes "{") (joined so.texts) (codes "}") before new so.text is,
      )

  -- the elements of an array
  pub element_more :
      (elem : Ty) (parts : List Value) (i : ℕ) (part : Value) (old before separated after : List ℕ) → i < length parts → part ≡ get_or parts i part → separated ≡ before ++ separator i
      → IsAdded (Shows program blocks elem (tree_of part)) separated after → AreAdded (ShowEach program blocks elem (trees (map tree_of (take i parts)))) i old before
      → AreAdded (ShowEach program blocks elem (trees (map tree_of (take (i + 1) parts)))) (i + 1) old after
  element_more elem parts i part old before separated after within at comma (text, shown, is) so =
      let second : map tree_of (take (i + 1) parts) ≡ map tree_of (take i parts) ++ tree_of part ∷ [] =
      map_more tree_of parts i part within ∙ ap (λ (v : Value). map tree_of (take i parts) ++ tree_of v ∷ []) (sym at) in
      added_more (ShowEach program blocks elem (trees (map tree_of (take i parts)))) (ShowEach program blocks elem (trees (map tree_of (take (i + 1) parts)))) i old before after text
      (is ∙ ap (λ (t : List ℕ). t ++ text) comma)
      (λ texts shows.
      subst (λ (xs : List Tree). ShowEach program blocks elem (trees xs) (texts ++ text ∷ [])) (sym second)
      (each-push elem (map tree_of (take i parts)) texts (tree_of part) text shows shown)) so

  pub no_element : (elem : Ty) (parts : List Value) (old new : List ℕ) → new ≡ old → AreAdded (ShowEach program blocks elem (trees (map tree_of (take 0 parts)))) 0 old new
  no_element elem parts old new is = record { texts = []; shown = ShowEach.no_more; as_many = refl; text = is ∙ sym (append-nil old) }

  pub elements_end : (elem : Ty) (parts : List Value) (i : ℕ) (old before new : List ℕ) → length parts ≤ i → new ≡ before ++ 93 ∷ []
      → AreAdded (ShowEach program blocks elem (trees (map tree_of (take i parts)))) i (old ++ 91 ∷ []) before → IsAdded (ShowsRow program blocks elem (trees (map tree_of parts))) old new
  elements_end elem parts i old before new past is so = (
    codes "[" ++ joined so.texts ++ codes "]",
    (so.texts, subst (λ (vs : List Value). ShowEach program blocks elem (trees (map tree_of vs)) so.texts) (take_all i parts past) so.shown, refl),
    enclosed old (codes "[") (joined so.texts) (codes "]") before new so.text is,
  )

-- ---- values at their places

pub value_at : (parts : List Value) (i : ℕ) (part : Value) → i < length parts → part ≡ get_or parts i part → slice_get (map tree_of parts) i ≡ Some (tree_of part)
value_at parts i part within at = slice_get-map tree_of parts i ∙ ap (option_map tree_of) (slice_get_read parts (length parts) i part refl within at)

-- a struct that fits has a field for each value
pub field_there : {program : Program} {blocks : Blocks} (fields : List Field) (parts : List Value) (i : ℕ) → AllFitSomewhere program blocks (types_of fields) (trees (map tree_of parts)) → i < length parts → None ≡ slice_get fields i → ⊥
field_there fields parts i fit within none =
    elim (slice_get_cases fields i).1 [
      | inl found ↦ let never : None ≡ Some found.0 = none ∙ found.2 in cc
      | inr past ↦ let same = as-many fields (map tree_of parts) fit in let long = length-map parts tree_of in omega (arith, same, long, past.0, within)
    ]

pub as_many_parts : {program : Program} {blocks : Blocks} (fields : List Field) (parts : List Value) → AllFitSomewhere program blocks (types_of fields) (trees (map tree_of parts)) → length fields ≡ length parts
as_many_parts fields parts fit = as-many fields (map tree_of parts) fit ∙ length-map parts tree_of
