-- A settled program is read from its data, whose names are names.
use Rattle.std.proofs.Common.{◌≡◌, ◌≢◌, ℕ, true, false, List, [], ◌∷◌, map, Option, Some, None, slice_get, inl, inr, refl, sym, ap, ap₂, ◌∙◌, subst}
use Rattle.std.specs.List.{list_all, AllByRecursion as ByRecursion}
use Rattle.std.specs.Option.{option_map}
use Rattle.std.specs.Prelude.{All}
use Rattle.std.proofs.lemmas.Bool.{and_from, cases_Bool}
use Rattle.std.proofs.lemmas.List.Elements.{All-nil, All-cons, All-contains, recursion_from_All}
use Rattle.std.proofs.lemmas.Option.{none-some, slice_get-map, slice_get-get_or}
use Rattle.gt_types.specs.declared.expressions.Expr.{Expr}
use Rattle.gt_types.specs.declared.types.TypeId.{TypeId}
use Rattle.gt_types.specs.declared.types.Target.TheVariants as target
use Rattle.gt_types.specs.declared.types.PtrKind.TheVariants as kind
use Rattle.gt_types.specs.declared.types.Ty.{Ty}
use Rattle.gt_types.specs.declared.types.Ty.TheVariants as ty
use Rattle.gt_types.specs.declared.program.Chain.{Chain}
use Rattle.gt_types.specs.declared.program.ChainKind.{ChainKind}
use Rattle.gt_types.specs.declared.program.Field.{Field}
use Rattle.gt_types.specs.declared.program.Structure.{Structure}
use Rattle.gt_types.specs.declared.program.Root.{Root as RootOf}
use Rattle.gt_types.specs.declared.program.Cache.{Cache}
use Rattle.gt_types.specs.declared.program.Program.{Program}
use Rattle.gt_types.specs.Names.{IsName, is_name_character}
use Rattle.gt_types.specs.Contains.{HasStructure}
use Rattle.gt_types.specs.Paths.{Leads, last_step, next_step, by_place, LeadsToOwnPointer}
use Rattle.gt_types.specs.Settled.{IsField, IsStruct, IsOfItsKind, IsRoot, IsCache, Settled}
use Rattle.gt_canon.specs.Names.{fields_if_structure, fields_of_type, fields_inside}
use Rattle.gt_canon.proofs.Document.{Part, part, Link, link, Block, block, Global, global, Store, store, is_good_part, is_good_link, GoodBlock, is_good_global, is_good_store}
use Rattle.gt_canon.proofs.ExprTrees.{name_characters}
use Rattle.gt_canon.proofs.TypeForms.{form_good, desc_read, desc_back, desc_good, option_exprs, numbered, type_of, type_of-form}
use Rattle.gt_canon.proofs.Knowing.{place_of, place_of-at, structures_place, roots_place, ExprIn, known_id, known_own_desc}
use Rattle.gt_canon.proofs.KnownTypes.{field_type_known, root_type_known}
use Rattle.gt_canon.proofs.ProgramText.{part_of, raw_field, raw_names, link_with, link_of, block_of, global_of, store_of, blocks_of}

-- ---- reading, by the places of the names of structures and roots

abbrev pub read_part : (f g : List ℕ → ℕ) → Part → Field
read_part f g (part w x a) = record { name = w; ty = type_of f g false x; active = a }

-- a structure without its chains
abbrev pub read_core : (f g : List ℕ → ℕ) → Block → Structure
read_core f g (block u w d parts links) =
    record { name = w; is_union = u; desc = desc_read g d; fields = map (read_part f g) parts; chains = [] }

-- the fields of the structure that a type is, and of the one that a field holds
abbrev fields_in : List Structure → Ty → List Field
fields_in cores (ty.Node id desc) = fields_if_structure (slice_get cores id.0)
fields_in cores type = []

abbrev inside_in : List Structure → Option Field → List Field
inside_in cores (Some x) = fields_in cores x.ty
inside_in cores None = []

abbrev read_path : List Structure → List Field → List (List ℕ) → List ℕ
read_path cores fields [] = []
read_path cores fields (w ∷ ws) =
    place_of (map (λ x. x.name) fields) w ∷ read_path cores (inside_in cores (slice_get fields (place_of (map (λ x. x.name) fields) w))) ws

abbrev read_link : List Structure → List Field → Link → Chain
read_link cores fields (link k w ws) = record { kind = k; path = read_path cores fields (w ∷ ws) }

abbrev pub read_block : (f g : List ℕ → ℕ) → List Structure → Block → Structure
read_block f g cores (block u w d parts links) = record {
  name = w;
  is_union = u;
  desc = desc_read g d;
  fields = map (read_part f g) parts;
  chains = map (read_link cores (map (read_part f g) parts)) links;
}

abbrev pub read_global : (f g : List ℕ → ℕ) → Global → RootOf
read_global f g (global w x d) = record { name = w; ty = type_of f g false x; deletable = d }

abbrev pub read_store : (List ℕ → ℕ) → Store → Cache
read_store f (store w k v) = record { name = w; key = numbered (f k); value = numbered (f v) }

-- ---- lists

pub map_back :
    {X Y : Type 0} (of : X → Y) (read : Y → X) (Fine : X → Type 0) → ((x : X) → Fine x → read (of x) ≡ x) → (xs : List X) → ByRecursion Fine xs
    → map read (map of xs) ≡ xs
map_back of read Fine back [] fine = refl
map_back {X} of read Fine back (x ∷ xs) fine =
    ap₂ (λ (z : X) (zs : List X). z ∷ zs) (back x fine.0) (map_back of read Fine back xs fine.1)

pub map_good :
    {X Y : Type 0} (of : X → Y) (Good : Y → Type 0) (Fine : X → Type 0) → ((x : X) → Fine x → Good (of x)) → (xs : List X) → ByRecursion Fine xs
    → ByRecursion Good (map of xs)
map_good of Good Fine good [] fine = tt
map_good of Good Fine good (x ∷ xs) fine = (good x fine.0, map_good of Good Fine good xs fine.1)

-- an element of a list, with its place
abbrev pub IsAt : {X : Type 0} → List X → X → Type 0
IsAt xs x = (i : ℕ) × (slice_get xs i ≡ Some x)

pub each_at : {X : Type 0} (xs : List X) → ByRecursion (IsAt xs) xs
each_at xs = recursion_from_All (IsAt xs) xs (λ k d within. (k, slice_get-get_or xs k d within))

-- ---- fields

field_back :
    (program : Program) (node : TypeId) (s : Structure) (x : Field) → Settled program → IsField program node s x
    → read_part (structures_place program) (roots_place program) (part_of program x) ≡ x
field_back program node s x settled h =
    let make : Ty → Field = λ t. record { name = x.name; ty = t; active = x.active } in
    ap make (type_of-form program (structures_place program) (roots_place program) x.ty (field_type_known program node s x settled h))

fields_back :
    (program : Program) (node : TypeId) (s : Structure) → Settled program → HasStructure program node s
    → map (read_part (structures_place program) (roots_place program)) (map (part_of program) s.fields) ≡ s.fields
fields_back program node s settled there =
    map_back (part_of program) (read_part (structures_place program) (roots_place program)) (IsField program node s)
    (λ x h. field_back program node s x settled h) s.fields (recursion_from_All (IsField program node s) s.fields (settled.structures node s there).fields)

-- ---- what a field holds

abbrev pub cores_of : Program → List Structure
cores_of program = map (read_core (structures_place program) (roots_place program)) (blocks_of program)

core_fields :
    (program : Program) (o : Option Structure) → ((s : Structure) → o ≡ Some s → map (read_part (structures_place program) (roots_place program)) (map (part_of program) s.fields) ≡ s.fields)
    → fields_if_structure (option_map (read_core (structures_place program) (roots_place program)) (option_map (block_of program) o)) ≡ fields_if_structure o
core_fields program (Some s) back = back s refl
core_fields program None back = refl

inside_back : (program : Program) (t : Ty) → Settled program → fields_in (cores_of program) t ≡ fields_of_type program t
inside_back program (ty.Node id d) settled =
    ap fields_if_structure
    (slice_get-map (read_core (structures_place program) (roots_place program)) (blocks_of program) id.0
    ∙ ap (option_map (read_core (structures_place program) (roots_place program))) (slice_get-map (block_of program) program.structures id.0))
    ∙ core_fields program (slice_get program.structures id.0) (λ s there. fields_back program id s settled there)
inside_back program t settled = refl

-- ---- chains

abbrev fields_at : Program → TypeId → List Field
fields_at program node = fields_if_structure (slice_get program.structures node.0)

place_back :
    (program : Program) (node : TypeId) (s : Structure) (i : ℕ) (x : Field) → Settled program → HasStructure program node s
    → slice_get s.fields i ≡ Some x → place_of (map (λ y. y.name) s.fields) (raw_field (slice_get s.fields i)) ≡ i
place_back program node s i x settled there picks =
    ap (λ o. place_of (map (λ y. y.name) s.fields) (raw_field o)) picks
    ∙ place_of-at (λ y. y.name) s.fields i x (settled.structures node s there).distinct picks

abbrev PathBack : Program → List Field → List ℕ → Type 0
PathBack program fields is = read_path (cores_of program) fields (raw_names program fields is) ≡ is

step_back :
    (program : Program) (fields : List Field) (i : ℕ) (is : List ℕ) (x : Field) (inner : List Field) → Settled program
    → place_of (map (λ y. y.name) fields) (raw_field (slice_get fields i)) ≡ i → slice_get fields i ≡ Some x → fields_of_type program x.ty ≡ inner
    → PathBack program inner is → PathBack program fields (i ∷ is)
step_back program fields i is x inner settled placed picks holds rest =
    let cores = cores_of program in
    let names = raw_names program (fields_inside program (slice_get fields i)) is in
    ap (λ n. n ∷ read_path cores (inside_in cores (slice_get fields n)) names) placed
    ∙ ap (λ o. i ∷ read_path cores (inside_in cores o) (raw_names program (fields_inside program o) is)) picks
    ∙ ap (λ fs. i ∷ read_path cores fs (raw_names program (fields_of_type program x.ty) is)) (inside_back program x.ty settled ∙ holds)
    ∙ ap (λ fs. i ∷ read_path cores inner (raw_names program fs is)) holds
    ∙ ap (λ js. i ∷ js) rest

path_back :
    (program : Program) (node : TypeId) (is : List ℕ) (t : Ty) → Settled program → Leads program by_place node is t
    → PathBack program (fields_at program node) is
path_back program node is t settled (last_step {x = i} {s = s} {f = x} there picks may) =
    subst (λ fs. PathBack program fs (i ∷ [])) (sym (ap fields_if_structure there))
    (ap (λ n. n ∷ []) (place_back program node s i x settled there picks))
path_back program node is t settled (next_step {next = next} {x = i} {xs = js} {s = s} {f = x} {desc = d} {type = u} there picks may holds rest) =
    subst (λ fs. PathBack program fs (i ∷ js)) (sym (ap fields_if_structure there))
    (step_back program s.fields i js x (fields_at program next) settled (place_back program node s i x settled there picks) picks
    (ap (fields_of_type program) holds) (path_back program next js u settled rest))

leads_somewhere : (program : Program) (node : TypeId) (is : List ℕ) (t : Ty) → Leads program by_place node is t → is ≢ []
leads_somewhere program node is t (last_step {x = i} there picks may) = λ e. cc
leads_somewhere program node is t (next_step {x = i} {xs = js} there picks may holds rest) = λ e. cc

link_back :
    (program : Program) (fields : List Field) (k : ChainKind) (is : List ℕ) → is ≢ [] → PathBack program fields is
    → read_link (cores_of program) fields (link_with k (raw_names program fields is)) ≡ record { kind = k; path = is }
link_back program fields k [] some back = absurd (some refl)
link_back program fields k (i ∷ is) some back = let make : List ℕ → Chain = λ js. record { kind = k; path = js } in ap make back

chain_back :
    (program : Program) (node : TypeId) (s : Structure) (c : Chain) → Settled program → HasStructure program node s
    → LeadsToOwnPointer program node c.path → read_link (cores_of program) s.fields (link_of program s.fields c) ≡ c
chain_back program node s c settled there leads =
    let type = ty.Ptr (Some (target.Node node)) kind.Plain leads.0 in
    link_back program s.fields c.kind c.path (leads_somewhere program node c.path type leads.1)
    (subst (λ fs. PathBack program fs c.path) (ap fields_if_structure there) (path_back program node c.path type settled leads.1))

-- ---- structures

desc_in :
    (program : Program) (node : TypeId) (s : Structure) (d : Option Expr) → Settled program → HasStructure program node s → s.desc ≡ d
    → All (ExprIn program) (option_exprs d)
desc_in program node s None settled there is = All-nil (ExprIn program)
desc_in program node s (Some e) settled there is = elim (cases_Bool s.is_union) [
  | inl union ↦ All-cons (ExprIn program) e [] (known_own_desc program node s e settled there union is) (All-nil (ExprIn program))
  | inr struct ↦
      let sort : IsStruct s = subst (IsOfItsKind program node s) struct (settled.structures node s there).sort in
      absurd (none-some e (sym sort.no_desc ∙ is))
]

pub structure_back :
    (program : Program) (s : Structure) → Settled program → IsAt program.structures s
    → read_block (structures_place program) (roots_place program) (cores_of program) (block_of program s) ≡ s
structure_back program s settled at =
    let node : TypeId = numbered at.0 in
    let there : HasStructure program node s = at.1 in
    let good = settled.structures node s there in
    let make : Option Expr → List Field → List Chain → Structure =
    λ d fs cs. record { name = s.name; is_union = s.is_union; desc = d; fields = fs; chains = cs } in
    let read = read_part (structures_place program) (roots_place program) in
    let fields = map read (map (part_of program) s.fields) in
    let links = map (link_of program s.fields) s.chains in
    let cores = cores_of program in
    ap (λ d. make d fields (map (read_link cores fields) links)) (desc_back program (roots_place program) s.desc (desc_in program node s s.desc settled there refl))
    ∙ ap (λ fs. make s.desc fs (map (read_link cores fs) links)) (fields_back program node s settled there)
    ∙ ap (λ cs. make s.desc s.fields cs)
    (map_back (link_of program s.fields) (read_link cores s.fields) (λ c. LeadsToOwnPointer program node c.path)
    (λ c leads. chain_back program node s c settled there leads) s.chains
    (recursion_from_All (λ c. LeadsToOwnPointer program node c.path) s.chains good.chains))

-- ---- roots and caches

pub root_back :
    (program : Program) (r : RootOf) → Settled program → IsRoot program r
    → read_global (structures_place program) (roots_place program) (global_of program r) ≡ r
root_back program r settled h =
    let make : Ty → RootOf = λ t. record { name = r.name; ty = t; deletable = r.deletable } in
    ap make (type_of-form program (structures_place program) (roots_place program) r.ty (root_type_known program r settled h))

pub cache_back :
    (program : Program) (c : Cache) → Settled program → IsCache program c → read_store (structures_place program) (store_of program c) ≡ c
cache_back program c settled h =
    let make : ℕ → ℕ → Cache = λ k v. record { name = c.name; key = numbered k; value = numbered v } in
    ap₂ make (known_id program c.key h.key.0 settled h.key.1).found (known_id program c.value h.value.0 settled h.value.1).found

-- ---- names are names

field_good :
    (program : Program) (node : TypeId) (s : Structure) (x : Field) → Settled program → IsField program node s x
    → is_good_part (part_of program x) ≡ true
field_good program node s x settled h =
    and_from _ _ (name_characters x.name h.name)
    (form_good program (structures_place program) (roots_place program) x.ty (field_type_known program node s x settled h))

abbrev PathGood : Program → List Field → List ℕ → Type 0
PathGood program fields is = list_all (list_all is_name_character) (raw_names program fields is) ≡ true

step_good :
    (program : Program) (fields : List Field) (i : ℕ) (is : List ℕ) (x : Field) (inner : List Field) → IsName x.name → slice_get fields i ≡ Some x
    → fields_of_type program x.ty ≡ inner → PathGood program inner is → PathGood program fields (i ∷ is)
step_good program fields i is x inner name picks holds rest =
    and_from _ _ (ap (λ o. list_all is_name_character (raw_field o)) picks ∙ name_characters x.name name)
    (ap (λ o. list_all (list_all is_name_character) (raw_names program (fields_inside program o) is)) picks
    ∙ ap (λ fs. list_all (list_all is_name_character) (raw_names program fs is)) holds
    ∙ rest)

path_good :
    (program : Program) (node : TypeId) (is : List ℕ) (t : Ty) → Settled program → Leads program by_place node is t
    → PathGood program (fields_at program node) is
path_good program node is t settled (last_step {x = i} {s = s} {f = x} there picks may) =
    let name = (All-contains (IsField program node s) s.fields x (settled.structures node s there).fields may.there).name in
    subst (λ fs. PathGood program fs (i ∷ [])) (sym (ap fields_if_structure there))
    (step_good program s.fields i [] x (fields_of_type program x.ty) name picks refl refl)
path_good program node is t settled (next_step {next = next} {x = i} {xs = js} {s = s} {f = x} {desc = d} {type = u} there picks may holds rest) =
    let name = (All-contains (IsField program node s) s.fields x (settled.structures node s there).fields may.there).name in
    subst (λ fs. PathGood program fs (i ∷ js)) (sym (ap fields_if_structure there))
    (step_good program s.fields i js x (fields_at program next) name picks (ap (fields_of_type program) holds) (path_good program next js u settled rest))

link_good : (k : ChainKind) (ws : List (List ℕ)) → list_all (list_all is_name_character) ws ≡ true → is_good_link (link_with k ws) ≡ true
link_good k [] h = refl
link_good k (w ∷ ws) h = h

chain_good :
    (program : Program) (node : TypeId) (s : Structure) (c : Chain) → Settled program → HasStructure program node s
    → LeadsToOwnPointer program node c.path → is_good_link (link_of program s.fields c) ≡ true
chain_good program node s c settled there leads =
    link_good c.kind (raw_names program s.fields c.path)
    (subst (λ fs. PathGood program fs c.path) (ap fields_if_structure there)
    (path_good program node c.path (ty.Ptr (Some (target.Node node)) kind.Plain leads.0) settled leads.1))

pub structure_good : (program : Program) (s : Structure) → Settled program → IsAt program.structures s → GoodBlock (block_of program s)
structure_good program s settled at =
    let node : TypeId = numbered at.0 in
    let there : HasStructure program node s = at.1 in
    let good = settled.structures node s there in (
      name_characters s.name good.name,
      desc_good program (roots_place program) s.desc (desc_in program node s s.desc settled there refl),
      map_good (part_of program) (λ x. is_good_part x ≡ true) (IsField program node s) (λ x h. field_good program node s x settled h) s.fields
          (recursion_from_All (IsField program node s) s.fields good.fields),
      map_good (link_of program s.fields) (λ x. is_good_link x ≡ true) (λ c. LeadsToOwnPointer program node c.path)
          (λ c leads. chain_good program node s c settled there leads) s.chains
          (recursion_from_All (λ c. LeadsToOwnPointer program node c.path) s.chains good.chains),
    )

pub root_good : (program : Program) (r : RootOf) → Settled program → IsRoot program r → is_good_global (global_of program r) ≡ true
root_good program r settled h =
    and_from _ _ (name_characters r.name h.name)
    (form_good program (structures_place program) (roots_place program) r.ty (root_type_known program r settled h))

pub cache_good : (program : Program) (c : Cache) → Settled program → IsCache program c → is_good_store (store_of program c) ≡ true
cache_good program c settled h =
    and_from _ _ (and_from _ _ (name_characters c.name h.name) (known_id program c.key h.key.0 settled h.key.1).name)
    (known_id program c.value h.value.0 settled h.value.1).name
