-- The text of the static record: its roots are shown as the fields of a struct.
use Rattle.std.proofs.Common.{◌≡◌, ℕ, List, [], ◌∷◌, ◌++◌, map, Some, false, None, refl, ap, sym, subst, ◌∙◌}
use Rattle.std.specs.Prelude.{slice_get, codes}
use Rattle.std.specs.Option.{option_map}
use Rattle.std.proofs.lemmas.Option.{slice_get-map}
use Rattle.gt_types.specs.declared.types.Ty.{Ty}
use Rattle.gt_types.specs.declared.program.Root.{Root}
use Rattle.gt_types.specs.declared.program.Structure.{Structure}
use Rattle.gt_types.specs.declared.program.Program.{Program}
use Rattle.gt_types.specs.Settled.{Settled}
use Rattle.gt_tree.specs.Trees.{Rec, Trees}
use Rattle.gt_tree.specs.Blocks.{Blocks}
use Rattle.gt_tree.specs.Scopes.{outside}
use Rattle.gt_tree.specs.Fits.{StaticsFit, AllFit, types_of}
use Rattle.gt_show.specs.Shown.{joined}
use Rattle.gt_show.specs.Parts.{AllFitSomewhere, IsAdded}
use Rattle.gt_show.specs.StaticTexts.{as_field, ShowsStatics}
use Rattle.gt_show.proofs.OneText.{one-fields}

-- a struct of which the roots are the fields
abbrev pub record_of : Program → Structure
record_of program = record { name = []; is_union = false; desc = None; fields = map as_field program.roots; chains = [] }

root-types : (roots : List Root) → map (λ (r : Root). r.ty) roots ≡ types_of (map as_field roots)
root-types [] = refl
root-types (r ∷ rs) = ap (λ (types : List Ty). r.ty ∷ types) (root-types rs)

pub roots-fit : {program : Program} {blocks : Blocks} (statics : Trees) → StaticsFit program blocks statics → AllFitSomewhere program blocks (types_of (map as_field program.roots)) statics
roots-fit {program} {blocks} statics fit = (outside statics, 0, subst (λ (types : List Ty). AllFit program blocks 0 (outside statics) types statics) (root-types program.roots) fit)

pub root-got : (roots : List Root) (i : ℕ) (r : Root) → slice_get roots i ≡ Some r → slice_get (map as_field roots) i ≡ Some (as_field r)
root-got roots i r got = slice_get-map as_field roots i ∙ ap (option_map as_field) got

pub no-root : (roots : List Root) (i : ℕ) → None ≡ slice_get roots i → None ≡ slice_get (map as_field roots) i
no-root roots i none = ap (option_map as_field) none ∙ sym (slice_get-map as_field roots i)

pub same-parts : (a b : Trees) → Rec a ≡ Rec b → a ≡ b
same-parts a b e = cc

-- what is added to no text is the text
pub shown-alone : {program : Program} {blocks : Blocks} (own statics : Trees) (old new : List ℕ) → own ≡ statics → old ≡ [] → IsAdded (ShowsStatics program blocks own) old new → ShowsStatics program blocks statics new
shown-alone {program} {blocks} own statics old new same empty (text, shows, is) =
    subst (λ (ts : Trees). ShowsStatics program blocks ts new) same (subst (ShowsStatics program blocks own) (sym (is ∙ ap (λ (t : List ℕ). t ++ text) empty)) shows)

-- two texts of one static record are one text
pub one-static : (program : Program) (blocks : Blocks) → Settled program → (statics : Trees) (text other : List ℕ) → ShowsStatics program blocks statics text → ShowsStatics program blocks statics other → text ≡ other
one-static program blocks settled statics text other (texts, shown, is) (others, also, other_is) =
    is ∙ ap (λ (xs : List (List ℕ)). codes "{" ++ joined xs ++ codes "}") (one-fields program blocks settled others shown also) ∙ sym other_is
