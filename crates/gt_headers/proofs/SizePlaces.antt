-- Files have as many places for faults of sizes as they have structures and roots, and each such fault is of one of the files.
use Rattle.std.proofs.Common.{◌≡◌, ℕ, suc, ◌+◌, ◌≤◌, Bool, true, false, List, [], ◌∷◌, length, length-append, refl, sym, ap, ◌∙◌, Option, Some, None, arith}
use Rattle.std.specs.Prelude.{is_some, slice_get, IfSome}
use Rattle.std.specs.Option.{option_to_list}
use Rattle.std.specs.List.{All, cons_option, filter_map}
use Rattle.std.proofs.lemmas.Bool.{false≢true}
use Rattle.std.proofs.lemmas.List.{length-map}
use Rattle.std.proofs.lemmas.List.Elements.{All-nil, All-cons, All-append, All-contains}
use Rattle.gt_types.specs.declared.faults.Fault.{Fault}
use Rattle.gt_types.specs.declared.program.Program.{Program}
use Rattle.gt_items.specs.declared.items.Item.{Item}
use Rattle.gt_items.specs.declared.items.Item.TheVariants as item
use Rattle.gt_items.specs.declared.items.Items.{Items}
use Rattle.gt_declare.specs.Programs.{IsMadeOf, all_unchained, root_of, unchained}
use Rattle.gt_declare.proofs.Wholes.{chained_length}
use Rattle.gt_drafts.specs.declared.draft.Draft.{Draft}
use Rattle.gt_scope.specs.Declarations.{declarations}
use Rattle.gt_resolve.specs.Drafts.{items_from, root_item, structure_item}
use Rattle.gt_resolve.specs.Placings.{chosen, fault_item, faults_from, placed}
use Rattle.gt_resolve.specs.Resolution.{Resolves}
use Rattle.gt_resolve.proofs.FaultFiles.{OfFault}
use Rattle.gt_resolve.proofs.FaultPlaces.{InFiles}
use Rattle.gt_headers.specs.Sizes.{IsSizeFault}
use Rattle.gt_headers.proofs.OptionFiles.{at_place}

-- ---- how many there are

module _ {A B : Type 0} where
  count_more : (o : Option A) (p : Option B) (xs : List A) (ys : List B) → is_some o ≡ is_some p → length xs ≡ length ys → length (cons_option o xs) ≡ length (cons_option p ys)
  count_more None None xs ys e same = same
  count_more None (Some y) xs ys e same = absurd (false≢true e)
  count_more (Some x) None xs ys e same = absurd (false≢true (sym e))
  count_more (Some x) (Some y) xs ys e same = ap suc same

  count_items : (f : Item → Option A) (g : Item → Option B) → ((x : Item) → is_some (f x) ≡ is_some (g x)) → (xs : List Item) → length (filter_map f xs) ≡ length (filter_map g xs)
  count_items f g same [] = refl
  count_items f g same (x ∷ xs) = count_more (f x) (g x) (filter_map f xs) (filter_map g xs) (same x) (count_items f g same xs)

  count_files : (f : ℕ → Item → Option A) (g : ℕ → Item → Option B) → ((file : ℕ) (x : Item) → is_some (f file x) ≡ is_some (g file x)) → (file : ℕ) (files : List Items)
      → length (items_from f file files) ≡ length (items_from g file files)
  unfolding items_from
  count_files f g same file [] = refl
  count_files f g same file (items ∷ files) =
      let here = count_items (f file) (g file) (same file) items.items in
      let rest = count_files f g same (suc file) files in
      let fs = length-append (filter_map (f file) items.items) (items_from f (suc file) files) in
      let gs = length-append (filter_map (g file) items.items) (items_from g (suc file) files) in omega (arith, here, rest, fs, gs)

module _ (files : List Items) (draft : Draft) (program : Program) (is : Resolves files draft) (made : IsMadeOf draft program) where
  as_many_structures : length program.structures ≡ length draft.structures
  as_many_structures =
      ap (λ (p : Program). length p.structures) made.made
      ∙ chained_length (all_unchained draft made.planes) 0 draft.structures (unchained draft made.planes)

  as_many_roots : length program.roots ≡ length draft.roots
  as_many_roots = ap (λ (p : Program). length p.roots) made.made ∙ length-map draft.roots (root_of draft made.planes)

  same_structure : (file : ℕ) (x : Item) → is_some (structure_item (declarations files) is.types file x) ≡ is_some (fault_item true file x)
  same_structure file (item.Structure s) = refl
  same_structure file (item.Root r) = refl
  same_structure file (item.Cache c) = refl
  same_structure file (item.Typedef t) = refl
  same_structure file (item.Enum e) = refl

  same_root : (file : ℕ) (x : Item) → is_some (root_item (declarations files) is.types file x) ≡ is_some (fault_item false file x)
  same_root file (item.Structure s) = refl
  same_root file (item.Root r) = refl
  same_root file (item.Cache c) = refl
  same_root file (item.Typedef t) = refl
  same_root file (item.Enum e) = refl

  -- a structure of the program for each such place at a tag
  pub count_structures : length program.structures ≡ length (faults_from true 1 files)
  count_structures =
      as_many_structures ∙ ap (λ (d : Draft). length d.structures) is.drafted
      ∙ count_files (structure_item (declarations files) is.types) (fault_item true) same_structure 1 files

  -- and a root for each at a name
  pub count_roots : length program.roots ≡ length (faults_from false 1 files)
  count_roots =
      as_many_roots ∙ ap (λ (d : Draft). length d.roots) is.drafted
      ∙ count_files (root_item (declarations files) is.types) (fault_item false) same_root 1 files

-- ---- in which files

module _ (n : ℕ) where
  abbrev Of : Fault → Type 0
  Of = OfFault (InFiles n)

  item_in : (tags : Bool) (file : ℕ) (x : Item) → InFiles n file → IfSome (fault_item tags file x) Of
  item_in true file (item.Structure s) here = here
  item_in true file (item.Root r) here = tt
  item_in true file (item.Cache c) here = tt
  item_in true file (item.Typedef t) here = tt
  item_in true file (item.Enum e) here = tt
  item_in false file (item.Structure s) here = tt
  item_in false file (item.Root r) here = here
  item_in false file (item.Cache c) here = tt
  item_in false file (item.Typedef t) here = tt
  item_in false file (item.Enum e) here = tt

  one_more : (o : Option Fault) (rest : List Fault) → IfSome o Of → All Of rest → All Of (cons_option o rest)
  one_more None rest one all = all
  one_more (Some f) rest one all = All-cons Of f rest one all

  items_in : (tags : Bool) (file : ℕ) (xs : List Item) → InFiles n file → All Of (filter_map (fault_item tags file) xs)
  items_in tags file [] here = All-nil Of
  items_in tags file (x ∷ xs) here =
      one_more (fault_item tags file x) (filter_map (fault_item tags file) xs) (item_in tags file x here) (items_in tags file xs here)

  faults_in : (tags : Bool) (file : ℕ) (files : List Items) → 1 ≤ file → file + length files ≤ suc n → All Of (faults_from tags file files)
  unfolding items_from
  faults_in tags file [] l h = All-nil Of
  faults_in tags file (items ∷ files) l h =
      All-append Of (filter_map (fault_item tags file) items.items) (items_from (fault_item tags) (suc file) files)
      (items_in tags file items.items (omega arith, omega arith)) (faults_in tags (suc file) files (omega arith) (omega arith))

  chosen_in : (faults : List Fault) (o : Option ℕ) → All Of faults → All Of (option_to_list (chosen faults o))
  chosen_in faults None all = All-nil Of
  chosen_in faults (Some place) all = by (slice_get faults place) refl
    where
      by : (o : Option Fault) → slice_get faults place ≡ o → All Of (option_to_list o)
      by None e = All-nil Of
      by (Some f) e = All-cons Of f [] (at_place Of faults place f all e) (All-nil Of)

-- a fault of sizes is of one of the files
pub size_fault_in : (files : List Items) (program : Program) (fault : Fault) → IsSizeFault files program fault → InFiles (length files) fault.file
size_fault_in files program fault f =
    let n = length files in
    let structures = chosen_in n (faults_from true 1 files) f.structure (faults_in n true 1 files (omega arith) (omega arith)) in
    let roots = chosen_in n (faults_from false 1 files) f.root (faults_in n false 1 files (omega arith) (omega arith)) in
    All-contains (Of n) (placed files f.structure f.root) fault
    (All-append (Of n) (option_to_list (chosen (faults_from true 1 files) f.structure)) (option_to_list (chosen (faults_from false 1 files) f.root)) structures roots)
    f.first.there
