-- Which types can be walked.
use Rattle.std.proofs.Common.{◌≡◌, ◌∙◌, ℕ, true, false, not, List, [], ◌∷◌, Option, Some, None, refl, sym}
use Rattle.std.specs.Prelude.{find, option_map, is_some}
use Rattle.std.specs.Str.{bytes_eq}
use Rattle.gt_names.proofs.TableLemmas.{any_found}
use Rattle.gt_items.specs.declared.items.RawOption.{RawOption}
use Rattle.gt_drafts.specs.declared.types.Amount.{Amount}
use Rattle.gt_drafts.specs.declared.types.DeclaredType.{DeclaredType}
use Rattle.gt_drafts.specs.declared.draft.Draft.{Draft}
use Rattle.gt_drafts.specs.Options.{has_option}
use Rattle.gt_drafts.specs.Shapes.{is_nil}
use Rattle.gt_markers.specs.Expressions.{Names, expression_of}
use Rattle.gt_markers.specs.declared.type_options.TypeOptions.{TypeOptions}
use Rattle.gt_markers.specs.Typing.{expression_named, of_elements, single_type, array_type, walked_by}

some_mapped : {A B : Type 0} (f : A → B) (o : Option A) → is_some (option_map f o) ≡ is_some o
some_mapped f None = refl
some_mapped f (Some x) = refl

-- an option that stands there has an expression
pub named_there : (names : Names) (name : List ℕ) (options : List RawOption) → has_option name options ≡ is_some (expression_named names name options)
named_there names name options =
    any_found (λ o. bytes_eq o.name.word name) options
    ∙ sym (some_mapped (λ o. expression_of names o.parameter) (find (λ o. bytes_eq o.name.word name) options))

-- an array is walked where its elements are
pub walked_array : (draft : Draft) (o : TypeOptions) (t : DeclaredType) (bits : Option Amount) (bounds : List Amount) → is_some bits ≡ false → not (is_nil bounds) ≡ true
    → is_some (walked_by draft o t bits bounds) ≡ is_some (single_type draft (of_elements o) t)
walked_array draft o t bits [] h k = cc
walked_array draft o t (Some count) (bound ∷ bounds) h k = cc
walked_array draft o t None (bound ∷ bounds) h k = some_mapped (array_type o.length bound bounds) (single_type draft (of_elements o) t)

pub walked_single : (draft : Draft) (o : TypeOptions) (t : DeclaredType) (bits : Option Amount) (bounds : List Amount) → is_some bits ≡ false → not (is_nil bounds) ≡ false
    → is_some (walked_by draft o t bits bounds) ≡ is_some (single_type draft o t)
walked_single draft o t (Some count) bounds h k = cc
walked_single draft o t None (bound ∷ bounds) h k = cc
walked_single draft o t None [] h k = refl
