-- A program as plain data: it has the canonical text of the program.
use Rattle.std.proofs.Common.{◌≡◌, ℕ, Bool, true, false, List, [], ◌∷◌, ◌++◌, map, Option, Some, None, slice_get, refl, sym, ap, ap₂, ◌∙◌, append_assoc, append-nil}
use Rattle.std.specs.List.{flat_map, join_with_byte, AllByRecursion as ByRecursion}
use Rattle.std.specs.Prelude.{codes, encode_utf8_all}
use Rattle.std.proofs.lemmas.Grind.{flat_map-append}
use Rattle.gt_types.specs.declared.program.Active.{Active}
use Rattle.gt_types.specs.declared.program.Active.TheVariants.{Always, Tag, Other, Never}
use Rattle.gt_types.specs.declared.program.Chain.{Chain}
use Rattle.gt_types.specs.declared.program.ChainKind.{ChainKind}
use Rattle.gt_types.specs.declared.program.Field.{Field}
use Rattle.gt_types.specs.declared.program.Structure.{Structure}
use Rattle.gt_types.specs.declared.program.Root.{Root as RootOf}
use Rattle.gt_types.specs.declared.program.Cache.{Cache}
use Rattle.gt_types.specs.declared.program.Program.{Program}
use Rattle.gt_canon.specs.Lines.{spaced, line, integer}
use Rattle.gt_canon.specs.Names.{structure_name, fields_inside, name_if_field, names_on}
use Rattle.gt_canon.specs.Types.{desc_word, type_words}
use Rattle.gt_canon.specs.Canon.{active_words, field_line, chain_word, chain_line, structure_word, structure_lines, deletable_words, root_line, cache_line, canon_of}
use Rattle.gt_canon.proofs.Trees.{dots}
use Rattle.gt_canon.proofs.Document.{Part, part, Link, link, Block, block, Global, global, Store, store, many, active_word, active_after, part_then, link_then, block_then, deletable_then, global_then, store_then, document}
use Rattle.gt_canon.proofs.ExprTrees.{spaced-cons}
use Rattle.gt_canon.proofs.TypeForms.{name_at, form_of, form_text, desc_of, desc_text, has_targets, encoded_name, one_word, two_words, three_words}

-- ---- the data

abbrev pub part_of : Program → Field → Part
part_of program f = part f.name (form_of program f.ty) f.active

abbrev pub raw_field : Option Field → List ℕ
raw_field (Some f) = f.name
raw_field None = []

-- the characters of the names on a path
abbrev pub raw_names : Program → List Field → List ℕ → List (List ℕ)
raw_names program fields [] = []
raw_names program fields (i ∷ is) = raw_field (slice_get fields i) ∷ raw_names program (fields_inside program (slice_get fields i)) is

abbrev pub link_with : ChainKind → List (List ℕ) → Link
link_with kind [] = link kind [] []
link_with kind (w ∷ ws) = link kind w ws

abbrev pub link_of : Program → List Field → Chain → Link
link_of program fields c = link_with c.kind (raw_names program fields c.path)

abbrev pub block_of : Program → Structure → Block
block_of program s = block s.is_union s.name (desc_of program s.desc) (map (part_of program) s.fields) (map (link_of program s.fields) s.chains)

abbrev pub global_of : Program → RootOf → Global
global_of program r = global r.name (form_of program r.ty) r.deletable

abbrev pub store_of : Program → Cache → Store
store_of program c = store c.name (name_at program c.key) (name_at program c.value)

-- ---- lines

line_text : (first : List ℕ) (words : List (List ℕ)) (s : List ℕ) → line first words ++ s ≡ first ++ (spaced words ++ (10 ∷ s))
line_text first words s = append_assoc (first ++ spaced words) (10 ∷ []) s ∙ append_assoc first (spaced words) (10 ∷ s)

spaced-append : (xs ys : List (List ℕ)) (s : List ℕ) → spaced (xs ++ ys) ++ s ≡ spaced xs ++ (spaced ys ++ s)
spaced-append xs ys s = ap (λ l. l ++ s) (flat_map-append (λ w. 32 ∷ w) xs ys) ∙ append_assoc (spaced xs) (spaced ys) s

-- several lines, each of which is as its data says
many_text :
    {X Y : Type 0} (write : X → List ℕ) (then : Y → List ℕ → List ℕ) (of : X → Y) (Fine : X → Type 0)
    → ((x : X) (s : List ℕ) → Fine x → write x ++ s ≡ then (of x) s) → (xs : List X) (s : List ℕ) → ByRecursion Fine xs
    → flat_map write xs ++ s ≡ many then (map of xs) s
many_text write then of Fine same [] s fine = refl
many_text write then of Fine same (x ∷ xs) s fine =
    append_assoc (write x) (flat_map write xs) s
    ∙ ap (λ l. write x ++ l) (many_text write then of Fine same xs s fine.1)
    ∙ same x (many then (map of xs) s) fine.0

-- ---- fields

active_text : (a : Active) (s : List ℕ) → spaced (active_words a) ++ s ≡ 32 ∷ (active_word a ++ active_after a s)
active_text Always s = sym (one_word (codes "always") s)
active_text (Tag n) s = sym (two_words (codes "tag") (integer n) s)
active_text Other s = sym (one_word (codes "default") s)
active_text Never s = sym (one_word (codes "never") s)

abbrev pub FineField : Program → Field → Type 0
FineField program f = has_targets f.ty ≡ true

field_text : (program : Program) (f : Field) (s : List ℕ) → FineField program f → field_line program f ++ s ≡ part_then (part_of program f) s
field_text program f s fine =
    let name = encode_utf8_all f.name in
    let words = type_words program f.ty in
    let active = active_words f.active in
    let rest = 32 ∷ (active_word f.active ++ active_after f.active (10 ∷ s)) in
    line_text (codes "field") (name ∷ words ++ active) s
    ∙ ap (λ l. codes "field" ++ l)
    (spaced-cons name (words ++ active) (10 ∷ s)
    ∙ ap (λ l. 32 ∷ (name ++ l))
    (spaced-append words active (10 ∷ s)
    ∙ ap (λ l. spaced words ++ l) (active_text f.active (10 ∷ s))
    ∙ sym (form_text program f.ty rest fine)))

-- ---- chains

join-dots : (w : List ℕ) (ws : List (List ℕ)) (s : List ℕ) → join_with_byte 46 (map encode_utf8_all (w ∷ ws)) ++ s ≡ encode_utf8_all w ++ dots ws s
join-dots w [] s = refl
join-dots w (v ∷ ws) s =
    append_assoc (encode_utf8_all w) (46 ∷ join_with_byte 46 (map encode_utf8_all (v ∷ ws))) s ∙ ap (λ l. encode_utf8_all w ++ (46 ∷ l)) (join-dots v ws s)

encoded_field : (f : Option Field) → name_if_field f ≡ encode_utf8_all (raw_field f)
encoded_field (Some f) = refl
encoded_field None = refl

names-raw : (program : Program) (fields : List Field) (is : List ℕ) → names_on program fields is ≡ map encode_utf8_all (raw_names program fields is)
names-raw program fields [] = refl
names-raw program fields (i ∷ is) =
    ap₂ (λ (x : List ℕ) (xs : List (List ℕ)). x ∷ xs) (encoded_field (slice_get fields i)) (names-raw program (fields_inside program (slice_get fields i)) is)

link_text :
    (kind : ChainKind) (ws : List (List ℕ)) (s : List ℕ)
    → codes "chain" ++ (32 ∷ (chain_word kind ++ (32 ∷ (join_with_byte 46 (map encode_utf8_all ws) ++ (10 ∷ s))))) ≡ link_then (link_with kind ws) s
link_text kind [] s = refl
link_text kind (w ∷ ws) s = ap (λ l. codes "chain" ++ (32 ∷ (chain_word kind ++ (32 ∷ l)))) (join-dots w ws (10 ∷ s))

abbrev FineChain : Chain → Type 0
FineChain c = Unit {0}

chain_text :
    (program : Program) (fields : List Field) (c : Chain) (s : List ℕ) → FineChain c
    → chain_line program fields c ++ s ≡ link_then (link_of program fields c) s
chain_text program fields c s fine =
    let path = join_with_byte 46 (names_on program fields c.path) in
    line_text (codes "chain") (chain_word c.kind ∷ path ∷ []) s
    ∙ ap (λ l. codes "chain" ++ l) (sym (two_words (chain_word c.kind) path (10 ∷ s)))
    ∙ ap (λ ws. codes "chain" ++ (32 ∷ (chain_word c.kind ++ (32 ∷ (join_with_byte 46 ws ++ (10 ∷ s)))))) (names-raw program fields c.path)
    ∙ link_text c.kind (raw_names program fields c.path) s

fine_chains : (cs : List Chain) → ByRecursion FineChain cs
fine_chains [] = tt
fine_chains (c ∷ cs) = (tt, fine_chains cs)

-- ---- structures

abbrev pub FineStructure : Program → Structure → Type 0
FineStructure program s = ByRecursion (FineField program) s.fields

structure_text :
    (program : Program) (s : Structure) (t : List ℕ) → FineStructure program s → structure_lines program s ++ t ≡ block_then (block_of program s) t
structure_text program s t fine =
    let name = encode_utf8_all s.name in
    let desc = desc_word program s.desc in
    let word = structure_word s.is_union in
    let head = line word (name ∷ desc ∷ []) in
    let fields = flat_map (field_line program) s.fields in
    let chains = flat_map (chain_line program s.fields) s.chains in
    let links = many link_then (map (link_of program s.fields) s.chains) t in
    let parts = many part_then (map (part_of program) s.fields) links in
    append_assoc (head ++ fields) chains t
    ∙ append_assoc head fields (chains ++ t)
    ∙ ap (λ l. head ++ (fields ++ l)) (many_text (chain_line program s.fields) link_then (link_of program s.fields) FineChain (chain_text program s.fields) s.chains t (fine_chains s.chains))
    ∙ ap (λ l. head ++ l) (many_text (field_line program) part_then (part_of program) (FineField program) (field_text program) s.fields links fine)
    ∙ line_text word (name ∷ desc ∷ []) parts
    ∙ ap (λ l. word ++ l) (sym (two_words name desc (10 ∷ parts)))
    ∙ ap (λ l. word ++ (32 ∷ (name ++ (32 ∷ l)))) (sym (desc_text program s.desc (10 ∷ parts)))

-- ---- roots and caches

deletable_text : (d : Bool) (s : List ℕ) → spaced (deletable_words d) ++ s ≡ deletable_then d s
deletable_text true s = sym (one_word (codes "deletable") s)
deletable_text false s = refl

abbrev pub FineRoot : Program → RootOf → Type 0
FineRoot program r = has_targets r.ty ≡ true

root_text : (program : Program) (r : RootOf) (s : List ℕ) → FineRoot program r → root_line program r ++ s ≡ global_then (global_of program r) s
root_text program r s fine =
    let name = encode_utf8_all r.name in
    let words = type_words program r.ty in
    let deletable = deletable_words r.deletable in
    line_text (codes "root") (name ∷ words ++ deletable) s
    ∙ ap (λ l. codes "root" ++ l)
    (spaced-cons name (words ++ deletable) (10 ∷ s)
    ∙ ap (λ l. 32 ∷ (name ++ l))
    (spaced-append words deletable (10 ∷ s)
    ∙ ap (λ l. spaced words ++ l) (deletable_text r.deletable (10 ∷ s))
    ∙ sym (form_text program r.ty (deletable_then r.deletable (10 ∷ s)) fine)))

abbrev FineCache : Cache → Type 0
FineCache c = Unit {0}

cache_text : (program : Program) (c : Cache) (s : List ℕ) → FineCache c → cache_line program c ++ s ≡ store_then (store_of program c) s
cache_text program c s fine =
    let name = encode_utf8_all c.name in
    line_text (codes "cache") (name ∷ structure_name program c.key ∷ structure_name program c.value ∷ []) s
    ∙ ap (λ l. codes "cache" ++ l) (sym (three_words name (structure_name program c.key) (structure_name program c.value) (10 ∷ s)))
    ∙ ap₂ (λ k v. codes "cache" ++ (32 ∷ (name ++ (32 ∷ (k ++ (32 ∷ (v ++ (10 ∷ s)))))))) (sym (encoded_name program c.key)) (sym (encoded_name program c.value))

fine_caches : (cs : List Cache) → ByRecursion FineCache cs
fine_caches [] = tt
fine_caches (c ∷ cs) = (tt, fine_caches cs)

-- ---- the program

abbrev pub blocks_of : Program → List Block
blocks_of program = map (block_of program) program.structures

abbrev pub globals_of : Program → List Global
globals_of program = map (global_of program) program.roots

abbrev pub stores_of : Program → List Store
stores_of program = map (store_of program) program.caches

pub program_text :
    (program : Program) → ByRecursion (FineStructure program) program.structures → ByRecursion (FineRoot program) program.roots
    → canon_of program ≡ document (blocks_of program) (globals_of program) (stores_of program)
program_text program structures roots =
    let head = line (codes "gty") (codes "1" ∷ []) in
    let s = flat_map (structure_lines program) program.structures in
    let r = flat_map (root_line program) program.roots in
    let c = flat_map (cache_line program) program.caches in
    let stores = many store_then (stores_of program) [] in
    let globals = many global_then (globals_of program) stores in
    let blocks = many block_then (blocks_of program) globals in
    sym (append-nil (head ++ s ++ r ++ c))
    ∙ append_assoc (head ++ s ++ r) c []
    ∙ append_assoc (head ++ s) r (c ++ [])
    ∙ append_assoc head s (r ++ (c ++ []))
    ∙ ap (λ l. head ++ (s ++ (r ++ l)))
    (many_text (cache_line program) store_then (store_of program) FineCache (cache_text program) program.caches [] (fine_caches program.caches))
    ∙ ap (λ l. head ++ (s ++ l)) (many_text (root_line program) global_then (global_of program) (FineRoot program) (root_text program) program.roots stores roots)
    ∙ ap (λ l. head ++ l)
    (many_text (structure_lines program) block_then (block_of program) (FineStructure program) (structure_text program) program.structures globals structures)
    ∙ line_text (codes "gty") (codes "1" ∷ []) blocks
