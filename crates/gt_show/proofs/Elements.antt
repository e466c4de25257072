-- The elements of a block, and the texts that they add.
use Rattle.std.proofs.Common.{◌≡◌, ◌≢◌, ℕ, suc, ◌+◌, ◌<◌, false, pos, negsuc, List, [], ◌∷◌, ◌++◌, map, All, length, get_or, take, refl, ap, sym, subst, ◌∙◌, arith, append_assoc}
use Rattle.std.specs.Prelude.{codes}
use Rattle.std.specs.List.{flat_map}
use Rattle.std.proofs.lemmas.List.{map_more}
use Rattle.std.proofs.lemmas.Bool.{ltb-true}
use Rattle.std.proofs.lemmas.List.Elements.{All-nil, All-cons}
use Rattle.gt_types.specs.declared.types.TypeId.{TypeId}
use Rattle.gt_types.specs.declared.types.Width.TheVariants.{W1}
use Rattle.gt_types.specs.declared.types.Scalar.TheVariants as scalar
use Rattle.gt_types.specs.declared.types.Ty.{Ty}
use Rattle.gt_types.specs.declared.types.Ty.TheVariants as ty
use Rattle.gt_types.specs.declared.program.Program.{Program}
use Rattle.gt_tree.specs.Trees.{Tree, Num, Row, Trees, End, count}
use Rattle.gt_tree.specs.Blocks.{Kind, Nodes, Pointers, Strings, Chars, Raw, Blocks, element_type}
use Rattle.gt_tree.specs.Scopes.{Scope, outside}
use Rattle.gt_tree.specs.Fits.{Fits, EachFits}
use Rattle.gt_value.specs.declared.values.Value.{Value}
use Rattle.gt_value.specs.Values.{trees, tree_of}
use Rattle.gt_show.specs.Shown.{byte_text, string_text, Shows, ShowEach}
use Rattle.gt_show.specs.Parts.{EachFitsSomewhere, IsAdded, ShowsRow}
use Rattle.gt_show.specs.BlockTexts.{AreBytes, ShowsBlock, ElementsFit}
use Rattle.gt_show.specs.BlockParts.{IsByte, IsSomeByte, ShowsNodes}

-- ---- bytes

bytes-push : (xs : List Tree) (bytes : List ℕ) (b : ℕ) → AreBytes (trees xs) bytes → AreBytes (trees (xs ++ Num (pos b) ∷ [])) (bytes ++ b ∷ [])
bytes-push [] [] b AreBytes.no_byte = AreBytes.next_byte AreBytes.no_byte
bytes-push (y ∷ ys) (c ∷ cs) b (AreBytes.next_byte rest) = AreBytes.next_byte (bytes-push ys cs b rest)
bytes-push [] (c ∷ cs) b are = elim are [ ]
bytes-push (y ∷ ys) [] b are = elim are [ ]

pub no_bytes : (parts : List Value) (bytes : List ℕ) → bytes ≡ [] → AreBytes (trees (map tree_of (take 0 parts))) bytes
no_bytes parts bytes e = subst (AreBytes End) (sym e) AreBytes.no_byte

pub byte_more : (parts : List Value) (i : ℕ) (part : Value) (b : ℕ) (before after : List ℕ) → i < length parts → part ≡ get_or parts i part → IsByte (tree_of part) b → after ≡ before ++ b ∷ []
    → AreBytes (trees (map tree_of (take i parts))) before → AreBytes (trees (map tree_of (take (i + 1) parts))) after
byte_more parts i part b before after within at is pushed so =
    let longer : map tree_of (take (i + 1) parts) ≡ map tree_of (take i parts) ++ Num (pos b) ∷ [] =
    map_more tree_of parts i part within ∙ ap (λ (v : Value). map tree_of (take i parts) ++ tree_of v ∷ []) (sym at) ∙ ap (λ (t : Tree). map tree_of (take i parts) ++ t ∷ []) is in
    subst (AreBytes (trees (map tree_of (take (i + 1) parts)))) (sym pushed)
    (subst (λ (xs : List Tree). AreBytes (trees xs) (before ++ b ∷ [])) (sym longer) (bytes-push (map tree_of (take i parts)) before b so))

module _ {program : Program} {blocks : Blocks} where
  byte-fits : {capacity : ℕ} {scope : Scope} (tree : Tree) → Fits program blocks capacity scope (element_type program Chars) tree → IsSomeByte tree
  byte-fits tree (Fits.number {n = pos n} room) = (n, ltb-true n 256 room, refl)
  byte-fits tree (Fits.number {n = negsuc n} room) = cc
  byte-fits tree (Fits.null p) = cc
  byte-fits tree (Fits.to may) = absurd may
  byte-fits tree (Fits.array o c each) = let is = ty.outs-Num (scalar.Int W1 false) in cc
  byte-fits tree (Fits.tail o v le c each) = let is = ty.outs-Num (scalar.Int W1 false) in cc

  bytes-fit : {capacity : ℕ} {scope : Scope} (parts : List Value) → EachFits program blocks capacity scope (element_type program Chars) (trees (map tree_of parts)) → All (λ (v : Value). IsSomeByte (tree_of v)) parts
  bytes-fit [] EachFits.no_more = All-nil (λ (v : Value). IsSomeByte (tree_of v))
  bytes-fit (part ∷ parts) (EachFits.one_more fits rest) = All-cons (λ (v : Value). IsSomeByte (tree_of v)) part parts (byte-fits (tree_of part) fits) (bytes-fit parts rest)

  pub chars_fit : (kind : Kind) (parts : List Value) → kind ≡ Chars → EachFitsSomewhere program blocks (element_type program kind) (trees (map tree_of parts)) → All (λ (v : Value). IsSomeByte (tree_of v)) parts
  chars_fit kind parts e (scope, capacity, each) = bytes-fit parts (subst (λ (k : Kind). EachFits program blocks capacity scope (element_type program k) (trees (map tree_of parts))) e each)

  pub raw_fit : (kind : Kind) (parts : List Value) → kind ≡ Raw → EachFitsSomewhere program blocks (element_type program kind) (trees (map tree_of parts)) → All (λ (v : Value). IsSomeByte (tree_of v)) parts
  raw_fit kind parts e (scope, capacity, each) = bytes-fit parts (subst (λ (k : Kind). EachFits program blocks capacity scope (element_type program k) (trees (map tree_of parts))) e each)

-- ---- blocks

same_row : (xs ys : Trees) → Row xs ≡ Row ys → xs ≡ ys
same_row xs ys e = cc

module _ (program : Program) (blocks : Blocks) where
  pub each_fits : (kind : Kind) (ts : Trees) → ElementsFit program blocks kind ts → EachFitsSomewhere program blocks (element_type program kind) ts
  each_fits kind ts (statics, n, capacity, fits) =
      (outside statics, capacity, subst (EachFits program blocks capacity (outside statics) (element_type program kind)) (sym (same_row ts fits.trees fits.row)) fits.each)

  pub pointer_fits : (node : TypeId) (kind : Kind) (ts : Trees) → kind ≡ Pointers node → ElementsFit program blocks kind ts → EachFitsSomewhere program blocks (element_type program (Pointers node)) ts
  pointer_fits node kind ts e fits = subst (λ (k : Kind). EachFitsSomewhere program blocks (element_type program k) ts) e (each_fits kind ts fits)

  only : (parts : List Value) (part : Value) → length parts ≡ 1 → part ≡ get_or parts 0 part → parts ≡ part ∷ []
  only [] part one at = absurd (omega (arith, one))
  only (v ∷ []) part one at = ap (λ (u : Value). u ∷ []) (sym at)
  only (v ∷ w ∷ vs) part one at = absurd (omega (arith, one))

  -- one structure
  pub node_added : (type : Ty) (parts : List Value) (part : Value) (old new : List ℕ) → length parts ≡ 1 → part ≡ get_or parts 0 part → IsAdded (Shows program blocks type (tree_of part)) old new
      → IsAdded (ShowsNodes program blocks type (trees (map tree_of parts))) old new
  node_added type parts part old new one at (text, shown, is) = (
    text,
    λ node same.
        subst (λ (ps : List Value). ShowsBlock program blocks (Nodes node) (trees (map tree_of ps)) text) (sym (only parts part one at))
        (ShowsBlock.one (subst (λ (t : Ty). Shows program blocks t (tree_of part) text) same shown)),
    is,
  )

  counted : (parts : List Value) → count (trees (map tree_of parts)) ≡ length parts
  counted [] = refl
  counted (v ∷ vs) = ap suc (counted vs)

  -- none, or several
  pub nodes_added : (type : Ty) (parts : List Value) (old new : List ℕ) → length parts ≢ 1 → IsAdded (ShowsRow program blocks type (trees (map tree_of parts))) old new
      → IsAdded (ShowsNodes program blocks type (trees (map tree_of parts))) old new
  nodes_added type parts old new many (text, (texts, shown, same_text), is) = (
    text,
    λ node same.
        subst (ShowsBlock program blocks (Nodes node) (trees (map tree_of parts))) (sym same_text)
        (ShowsBlock.several (λ one. many (sym (counted parts) ∙ one)) (subst (λ (t : Ty). ShowEach program blocks t (trees (map tree_of parts)) texts) same shown)),
    is,
  )

  pub pointers_added : (node : TypeId) (kind : Kind) (ts : Trees) (old new : List ℕ) → kind ≡ Pointers node → IsAdded (ShowsRow program blocks (element_type program (Pointers node)) ts) old new
      → IsAdded (ShowsBlock program blocks kind ts) old new
  pointers_added node kind ts old new e (text, (texts, shown, same_text), is) = (
    text,
    subst (λ (k : Kind). ShowsBlock program blocks k ts text) (sym e) (subst (ShowsBlock program blocks (Pointers node) ts) (sym same_text) (ShowsBlock.pointers shown)),
    is,
  )

  pub strings_added : (type : Ty) (kind : Kind) (ts : Trees) (old new : List ℕ) → kind ≡ Strings → type ≡ element_type program Strings → IsAdded (ShowsRow program blocks type ts) old new
      → IsAdded (ShowsBlock program blocks kind ts) old new
  strings_added type kind ts old new e same (text, (texts, shown, same_text), is) = (
    text,
    subst (λ (k : Kind). ShowsBlock program blocks k ts text) (sym e)
        (subst (ShowsBlock program blocks Strings ts) (sym same_text) (ShowsBlock.strings (subst (λ (t : Ty). ShowEach program blocks t ts texts) same shown))),
    is,
  )

  pub chars_added : (kind : Kind) (ts : Trees) (bytes held old new : List ℕ) → kind ≡ Chars → held ≡ bytes → AreBytes ts bytes → new ≡ old ++ string_text held → IsAdded (ShowsBlock program blocks kind ts) old new
  chars_added kind ts bytes held old new e same are is =
      (string_text bytes, subst (λ (k : Kind). ShowsBlock program blocks k ts (string_text bytes)) (sym e) (ShowsBlock.chars are), is ∙ ap (λ (b : List ℕ). old ++ string_text b) same)

  pub raw_added : (kind : Kind) (ts : Trees) (bytes held old new : List ℕ) → kind ≡ Raw → held ≡ bytes → AreBytes ts bytes → new ≡ old ++ codes "raw:" ++ flat_map byte_text held
      → IsAdded (ShowsBlock program blocks kind ts) old new
  raw_added kind ts bytes held old new e same are is = (
    codes "raw:" ++ flat_map byte_text bytes,
    subst (λ (k : Kind). ShowsBlock program blocks k ts (codes "raw:" ++ flat_map byte_text bytes)) (sym e) (ShowsBlock.raw are),
    is ∙ append_assoc old (codes "raw:") (flat_map byte_text held) ∙ ap (λ (b : List ℕ). old ++ (codes "raw:" ++ flat_map byte_text b)) same,
  )
