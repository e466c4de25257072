-- What is declared, and the faults of names and types, are of the files, which are those from 1 on.
use Rattle.std.proofs.Common.{ℕ, suc, ◌+◌, ◌≤◌, List, [], ◌∷◌, length, Option, Some, None, sym, subst, arith}
use Rattle.std.specs.Prelude.{All, IfSome}
use Rattle.std.specs.List.{cons_option, filter_map}
use Rattle.std.proofs.lemmas.List.Elements.{All-nil, All-cons, All-append, All-contains}
use Rattle.gt_types.specs.declared.faults.Fault.{Fault}
use Rattle.gt_items.specs.declared.items.Item.{Item}
use Rattle.gt_items.specs.declared.items.Item.TheVariants as item
use Rattle.gt_items.specs.declared.items.Items.{Items}
use Rattle.gt_scope.specs.declared.declaration.Declaration.{Declaration}
use Rattle.gt_scope.specs.declared.meaning.TypedefMeaning.{TypedefMeaning}
use Rattle.gt_drafts.specs.declared.draft.Draft.{Draft}
use Rattle.gt_scope.specs.Declarations.{Progress, declare_file, declare_files, nothing_declared, declarations}
use Rattle.gt_resolve.specs.Drafts.{structure_item, root_item, cache_item, items_from}
use Rattle.gt_resolve.specs.Resolution.{HasFirstFault, IsRead}
use Rattle.gt_scope.proofs.DeclaredFiles.{Of, Kept, kept-declare_file}
use Rattle.gt_resolve.proofs.FaultFiles.{OfFault, OfStructure, OfRoot, OfCache, of_all}

-- the place of a file, of so many
abbrev pub InFiles : ℕ → ℕ → Type 0
InFiles n file = (1 ≤ file) × (file ≤ n)

-- what is declared in the files from one on
declared_in : (n file : ℕ) (files : List Items) (p : Progress) → 1 ≤ file → file + length files ≤ suc n → Kept (InFiles n) p → Kept (InFiles n) (declare_files file files p)
unfolding declare_files
declared_in n file [] p l h kept = kept
declared_in n file (items ∷ files) p l h kept =
    declared_in n (suc file) files (declare_file file items p) (omega arith) (omega arith)
    (kept-declare_file (InFiles n) file items p (omega arith, omega arith) kept)

-- what is filtered, with one more
consed : {A : Type 0} (Q : A → Type 0) (found : Option A) (rest : List A) → IfSome found Q → All Q rest → All Q (cons_option found rest)
consed Q None rest one all = all
consed Q (Some a) rest one all = All-cons Q a rest one all

filtered : {A : Type 0} (Q : A → Type 0) (h : Item → Option A) (xs : List Item) → ((x : Item) → IfSome (h x) Q) → All Q (filter_map h xs)
filtered Q h [] gives = All-nil Q
filtered Q h (x ∷ xs) gives = consed Q (h x) (filter_map h xs) (gives x) (filtered Q h xs gives)

-- what the items of the files from one on are
items_in : {A : Type 0} (n : ℕ) (Q : A → Type 0) (reading : ℕ → Item → Option A) (file : ℕ) (files : List Items)
    → ((at : ℕ) (x : Item) → InFiles n at → IfSome (reading at x) Q) → 1 ≤ file → file + length files ≤ suc n → All Q (items_from reading file files)
unfolding items_from
items_in n Q reading file [] gives l h = All-nil Q
items_in n Q reading file (items ∷ files) gives l h =
    All-append Q (filter_map (reading file) items.items) (items_from reading (suc file) files)
    (filtered Q (reading file) items.items (λ x. gives file x (omega arith, omega arith)))
    (items_in n Q reading (suc file) files gives (omega arith) (omega arith))

module _ (ds : List Declaration) (types : List TypedefMeaning) (n : ℕ) where
  structure_in : (at : ℕ) (x : Item) → InFiles n at → IfSome (structure_item ds types at x) (OfStructure (InFiles n))
  structure_in at (item.Structure s) here = here
  structure_in at (item.Root r) here = tt
  structure_in at (item.Cache c) here = tt
  structure_in at (item.Typedef t) here = tt
  structure_in at (item.Enum e) here = tt

  root_in : (at : ℕ) (x : Item) → InFiles n at → IfSome (root_item ds types at x) (OfRoot (InFiles n))
  root_in at (item.Structure s) here = tt
  root_in at (item.Root r) here = here
  root_in at (item.Cache c) here = tt
  root_in at (item.Typedef t) here = tt
  root_in at (item.Enum e) here = tt

  cache_in : (at : ℕ) (x : Item) → InFiles n at → IfSome (cache_item ds types at x) (OfCache (InFiles n))
  cache_in at (item.Structure s) here = tt
  cache_in at (item.Root r) here = tt
  cache_in at (item.Cache c) here = here
  cache_in at (item.Typedef t) here = tt
  cache_in at (item.Enum e) here = tt

module _ (files : List Items) (draft : Draft) (faults : List Fault) (is : IsRead files draft faults) where
  abbrev count : ℕ
  count = length files

  pub structures_in : All (OfStructure (InFiles count)) draft.structures
  structures_in =
      let of = items_in count (OfStructure (InFiles count)) (structure_item (declarations files) is.types) 1 files (structure_in (declarations files) is.types count) (omega arith) (omega arith) in
      subst (λ (d : Draft). All (OfStructure (InFiles count)) d.structures) (sym is.drafted) of

  pub roots_in : All (OfRoot (InFiles count)) draft.roots
  roots_in =
      let of = items_in count (OfRoot (InFiles count)) (root_item (declarations files) is.types) 1 files (root_in (declarations files) is.types count) (omega arith) (omega arith) in
      subst (λ (d : Draft). All (OfRoot (InFiles count)) d.roots) (sym is.drafted) of

  pub caches_in : All (OfCache (InFiles count)) draft.caches
  caches_in =
      let of = items_in count (OfCache (InFiles count)) (cache_item (declarations files) is.types) 1 files (cache_in (declarations files) is.types count) (omega arith) (omega arith) in
      subst (λ (d : Draft). All (OfCache (InFiles count)) d.caches) (sym is.drafted) of

  pub faults_in : All (OfFault (InFiles count)) faults
  faults_in =
      let declared = declared_in count 1 files nothing_declared (omega arith) (omega arith) (All-nil (Of (InFiles count))) in
      subst (λ (fs : List Fault). All (OfFault (InFiles count)) fs) (sym is.faulty)
      (of_all (InFiles count) (declarations files) is.types draft is.cyclic is.deep is.tails declared structures_in roots_in caches_in)

-- the first fault is of one of the files
pub first_fault_in : (files : List Items) (fault : Fault) → HasFirstFault files fault → InFiles (length files) fault.file
first_fault_in files fault first = All-contains (OfFault (InFiles (length files))) first.faults fault (faults_in files first.draft first.faults first.is_read) first.is_first.there
