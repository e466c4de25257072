-- What the names of fields find.
use Rattle.std.proofs.Common.{◌≡◌, ◌∙◌, ℕ, ◌+◌, Bool, true, false, cond, List, [], ◌∷◌, map, Option, Some, None, refl, sym, ap}
use Rattle.std.specs.Prelude.{if◌then◌else◌, option_map, slice_get}
use Rattle.std.specs.List.{position_from}
use Rattle.std.specs.Str.{bytes_eq}
use Rattle.std.proofs.lemmas.Iterator.Adapters.{position_from-zero}
use Rattle.std.proofs.lemmas.Option.{slice_get-map}
use Rattle.gt_types.specs.declared.program.Field.{Field}
use Rattle.gt_types.specs.declared.program.Structure.{Structure}
use Rattle.gt_names.specs.declared.tables.Entry.{Entry}
use Rattle.gt_names.specs.Entries.{value_in, with_value, first_some}
use Rattle.gt_names.proofs.TableLemmas.{value_with, first_assoc, none_first}
use Rattle.gt_fields.specs.declared.field_names.FieldNames.{FieldNames}
use Rattle.gt_fields.specs.Places.{bind, place_in}
use Rattle.gt_fields.specs.FieldNames.{AreNamesOf, fields_from, names_of}

place_first : (b : Bool) (k : ℕ) (o : Option ℕ) → first_some (if b then Some k else None) o ≡ cond b (Some k) o
place_first true k o = refl
place_first false k o = refl

-- the names of fields after others, as they are looked up
fields_found : (es : List (Entry ℕ)) (k : ℕ) (fs : List Field) (word : List ℕ)
    → value_in (fields_from es k fs) word ≡ first_some (value_in es word) (position_from (λ f. bytes_eq f.name word) k fs)
unfolding fields_from
fields_found es k [] word = sym (none_first (value_in es word))
fields_found es k (f ∷ fs) word =
    fields_found (with_value es f.name k) (k + 1) fs word
    ∙ ap (λ o. first_some o (position_from (λ f. bytes_eq f.name word) (k + 1) fs)) (value_with es f.name k word)
    ∙ first_assoc (value_in es word) (if bytes_eq f.name word then Some k else None) (position_from (λ f. bytes_eq f.name word) (k + 1) fs)
    ∙ ap (first_some (value_in es word)) (place_first (bytes_eq f.name word) k (position_from (λ f. bytes_eq f.name word) (k + 1) fs))

-- a name has the place of the field of this name
names_found : (s : Structure) (word : List ℕ) → value_in (names_of s) word ≡ place_in word s
names_found s word = fields_found [] 0 s.fields word ∙ sym (position_from-zero (λ f. bytes_eq f.name word) s.fields)

found_in : (o : Option Structure) (word : List ℕ) → bind (option_map names_of o) (λ entries. value_in entries word) ≡ bind o (place_in word)
found_in None word = refl
found_in (Some s) word = names_found s word

pub names_are : (structures : List Structure) (names : FieldNames) → names.structures ≡ map names_of structures → AreNamesOf structures names
names_are structures names is =
    record {
      places = λ id word.
          ap (λ (all : List (List (Entry ℕ))). bind (slice_get all id) (λ entries. value_in entries word)) is
          ∙ ap (λ (o : Option (List (Entry ℕ))). bind o (λ entries. value_in entries word)) (slice_get-map names_of structures id)
          ∙ found_in (slice_get structures id) word;
    }
