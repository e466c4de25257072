-- Settled programs with one canonical text have the same structures, roots and caches.
use Rattle.std.proofs.Common.{◌≡◌, ℕ, true, List, [], ◌∷◌, map, refl, sym, ap, ap₂, ◌∙◌}
use Rattle.std.specs.List.{AllByRecursion as ByRecursion}
use Rattle.std.proofs.lemmas.List.Elements.{All-weaker, recursion_from_All}
use Rattle.gt_types.specs.declared.program.Structure.{Structure}
use Rattle.gt_types.specs.declared.program.Root.{Root as RootOf}
use Rattle.gt_types.specs.declared.program.Cache.{Cache}
use Rattle.gt_types.specs.declared.program.Program.{Program}
use Rattle.gt_types.specs.Settled.{IsField, IsRoot, IsCache, Settled}
use Rattle.gt_canon.specs.Canon.{canon_of}
use Rattle.gt_canon.proofs.Document.{Block, block, Global, global, Store, GoodBlock, is_good_global, is_good_store, document, same_documents}
use Rattle.gt_canon.proofs.Knowing.{place_of, structures_place, roots_place}
use Rattle.gt_canon.proofs.TypeForms.{numbered}
use Rattle.gt_canon.proofs.KnownTypes.{field_type_known, root_type_known}
use Rattle.gt_canon.proofs.ProgramText.{block_of, global_of, store_of, blocks_of, globals_of, stores_of, FineField, FineStructure, FineRoot, program_text}
use Rattle.gt_canon.proofs.ProgramBack.{read_core, read_block, read_global, read_store, map_back, map_good, IsAt, each_at, cores_of, structure_back, root_back, cache_back, structure_good, root_good, cache_good}

-- ---- the text of a settled program is that of its data

structure_fine : (program : Program) (s : Structure) → Settled program → IsAt program.structures s → FineStructure program s
structure_fine program s settled at =
    recursion_from_All (FineField program) s.fields
    (All-weaker (IsField program (numbered at.0) s) (FineField program) (λ x h. (field_type_known program (numbered at.0) s x settled h).targets) s.fields
    (settled.structures (numbered at.0) s at.1).fields)

by_each : {X : Type 0} (P Q : X → Type 0) → ((x : X) → P x → Q x) → (xs : List X) → ByRecursion P xs → ByRecursion Q xs
by_each P Q f [] h = tt
by_each P Q f (x ∷ xs) h = (f x h.0, by_each P Q f xs h.1)

settled_text : (program : Program) → Settled program → canon_of program ≡ document (blocks_of program) (globals_of program) (stores_of program)
settled_text program settled =
    program_text program
    (by_each (IsAt program.structures) (FineStructure program) (λ s at. structure_fine program s settled at) program.structures (each_at program.structures))
    (by_each (IsRoot program) (FineRoot program) (λ r h. (root_type_known program r settled h).targets) program.roots
    (recursion_from_All (IsRoot program) program.roots settled.roots))

-- ---- its data are good

blocks_good : (program : Program) → Settled program → ByRecursion GoodBlock (blocks_of program)
blocks_good program settled =
    map_good (block_of program) GoodBlock (IsAt program.structures) (λ s at. structure_good program s settled at) program.structures
    (each_at program.structures)

globals_good : (program : Program) → Settled program → ByRecursion (λ x. is_good_global x ≡ true) (globals_of program)
globals_good program settled =
    map_good (global_of program) (λ x. is_good_global x ≡ true) (IsRoot program) (λ r h. root_good program r settled h) program.roots
    (recursion_from_All (IsRoot program) program.roots settled.roots)

stores_good : (program : Program) → Settled program → ByRecursion (λ x. is_good_store x ≡ true) (stores_of program)
stores_good program settled =
    map_good (store_of program) (λ x. is_good_store x ≡ true) (IsCache program) (λ c h. cache_good program c settled h) program.caches
    (recursion_from_All (IsCache program) program.caches settled.caches)

-- ---- it is read from its data

abbrev block_name : Block → List ℕ
block_name (block u w d parts links) = w

abbrev global_name : Global → List ℕ
global_name (global w x d) = w

block_names : (program : Program) (ss : List Structure) → map block_name (map (block_of program) ss) ≡ map (λ s. s.name) ss
block_names program [] = refl
block_names program (s ∷ ss) = ap (λ ws. s.name ∷ ws) (block_names program ss)

global_names : (program : Program) (rs : List RootOf) → map global_name (map (global_of program) rs) ≡ map (λ r. r.name) rs
global_names program [] = refl
global_names program (r ∷ rs) = ap (λ ws. r.name ∷ ws) (global_names program rs)

-- by the names of structures and roots
abbrev structures_by : (ns rs : List (List ℕ)) → List Block → List Structure
structures_by ns rs bs = map (read_block (place_of ns) (place_of rs) (map (read_core (place_of ns) (place_of rs)) bs)) bs

abbrev structures_read : List Block → List Global → List Structure
structures_read bs gs = structures_by (map block_name bs) (map global_name gs) bs

abbrev roots_read : List Block → List Global → List RootOf
roots_read bs gs = map (read_global (place_of (map block_name bs)) (place_of (map global_name gs))) gs

abbrev caches_read : List Block → List Store → List Cache
caches_read bs ss = map (read_store (place_of (map block_name bs))) ss

structures_back : (program : Program) → Settled program → structures_read (blocks_of program) (globals_of program) ≡ program.structures
structures_back program settled =
    ap₂ (λ ns rs. structures_by ns rs (blocks_of program)) (block_names program program.structures) (global_names program program.roots)
    ∙ map_back (block_of program) (read_block (structures_place program) (roots_place program) (cores_of program)) (IsAt program.structures)
    (λ s at. structure_back program s settled at) program.structures (each_at program.structures)

roots_back : (program : Program) → Settled program → roots_read (blocks_of program) (globals_of program) ≡ program.roots
roots_back program settled =
    ap₂ (λ ns rs. map (read_global (place_of ns) (place_of rs)) (globals_of program)) (block_names program program.structures)
    (global_names program program.roots)
    ∙ map_back (global_of program) (read_global (structures_place program) (roots_place program)) (IsRoot program)
    (λ r h. root_back program r settled h) program.roots (recursion_from_All (IsRoot program) program.roots settled.roots)

caches_back : (program : Program) → Settled program → caches_read (blocks_of program) (stores_of program) ≡ program.caches
caches_back program settled =
    ap (λ ns. map (read_store (place_of ns)) (stores_of program)) (block_names program program.structures)
    ∙ map_back (store_of program) (read_store (structures_place program)) (IsCache program) (λ c h. cache_back program c settled h) program.caches
    (recursion_from_All (IsCache program) program.caches settled.caches)

-- ---- two programs

pub same_programs :
    (p q : Program) → Settled p → Settled q → canon_of p ≡ canon_of q → (p.structures ≡ q.structures) × (p.roots ≡ q.roots) × (p.caches ≡ q.caches)
same_programs p q sp sq e =
    let parts =
    same_documents (blocks_of p) (blocks_of q) (globals_of p) (globals_of q) (stores_of p) (stores_of q) (blocks_good p sp) (blocks_good q sq)
    (globals_good p sp) (globals_good q sq) (stores_good p sp) (stores_good q sq) (sym (settled_text p sp) ∙ e ∙ settled_text q sq) in (
      sym (structures_back p sp) ∙ ap₂ structures_read parts.0 parts.1 ∙ structures_back q sq,
      sym (roots_back p sp) ∙ ap₂ roots_read parts.0 parts.1 ∙ roots_back q sq,
      sym (caches_back p sp) ∙ ap₂ caches_read parts.0 parts.2 ∙ caches_back q sq,
    )
