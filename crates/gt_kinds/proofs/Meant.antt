-- What a name alone means, and nothing else.
use Rattle.std.proofs.Common.{◌≡◌, ℕ, Bool, true, false, cond, List, Option, Some, None, Bor, refl, sym, ap, subst, ◌∙◌}
use Rattle.std.specs.Prelude.{◌≢◌, MatchOption, option_copied, slice_get}
use Rattle.std.specs.List.{position_from}
use Rattle.std.specs.Str.{bytes_eq}
use Rattle.std.proofs.lemmas.Option.{none-some}
use Rattle.gt_types.specs.declared.types.TypeId.{TypeId}
use Rattle.gt_types.specs.declared.program.Structure.{Structure}
use Rattle.gt_types.specs.declared.program.Typedef.{Typedef}
use Rattle.gt_types.specs.declared.program.Program.{Program}
use Rattle.gt_types.specs.Contains.{HasStructure}
use Rattle.gt_types.specs.Settled.{Settled}
use Rattle.gt_tree.proofs.PathBits.{some-same}
use Rattle.gt_next.specs.Kinds.{IsWordOf, MeansNode}
use Rattle.gt_kinds.specs.declared.meaning.Meaning.TheVariants.{Node, Pointer}
use Rattle.gt_kinds.specs.Meanings.{MeansPointer, Means, meaning_of}
use Rattle.gt_kinds.proofs.Naming.{found-name, here, none-named, node-one, there, word-one}

-- no typedef has a name
abbrev pub NoWord : Program → List ℕ → Type 0
NoWord program name = (w : Typedef) → ¬ IsWordOf program name w

-- no structure has a tag
abbrev pub NoTag : Program → List ℕ → Type 0
NoTag program name = (node : TypeId) (s : Structure) → HasStructure program node s → s.name ≢ name

module _ {program : Program} (settled : Settled program) (name : List ℕ) where
  -- ---- a typedef

  module _ (w : Typedef) (is : IsWordOf program name w) where
    node-by-word : w.pointer ≡ false → (other : TypeId) → MeansNode program name other → other ≡ w.id
    node-by-word plain other (MeansNode.by_word {w = v} also p) = ap (λ (x : Typedef). x.id) (word-one settled name v w also is)
    node-by-word plain other (MeansNode.by_tag none has same) = absurd (none w is)

    pub no-node : w.pointer ≡ true → (other : TypeId) → ¬ MeansNode program name other
    no-node pointer other (MeansNode.by_word {w = v} also p) =
        let same : v.pointer ≡ w.pointer = ap (λ (x : Typedef). x.pointer) (word-one settled name v w also is) in cc
    no-node pointer other (MeansNode.by_tag none has same) = none w is

    pointer-by-word : (other : TypeId) → MeansPointer program name other → other ≡ w.id
    pointer-by-word other also = let same = ap (λ (x : Typedef). x.id) (word-one settled name also.0 w also.1 is) in cc

    no-pointer : w.pointer ≡ false → (other : TypeId) → ¬ MeansPointer program name other
    no-pointer plain other also = let same = ap (λ (x : Typedef). x.pointer) (word-one settled name also.0 w also.1 is) in cc

    word-means-node : w.pointer ≡ false → Means program name (Some (Node w.id))
    word-means-node plain = (MeansNode.by_word {w = w} is plain, node-by-word plain, no-pointer plain)

    word-means-pointer : w.pointer ≡ true → Means program name (Some (Pointer w.id))
    word-means-pointer pointer = ((w, is, pointer, refl), pointer-by-word, no-node pointer)

    pub word-means : Means program name (Some (meaning_of w))
    word-means = go w.pointer refl
      where
        go : (b : Bool) → w.pointer ≡ b → Means program name (Some (cond b (Pointer w.id) (Node w.id)))
        go true pointer = word-means-pointer pointer
        go false plain = word-means-node plain

  -- ---- a tag

  module _ (none : NoWord program name) where
    none-pointed : (other : TypeId) → ¬ MeansPointer program name other
    none-pointed other also = none also.0 also.1

    node-by-tag : (node : TypeId) (s : Structure) → HasStructure program node s → s.name ≡ name → (other : TypeId) → MeansNode program name other → other ≡ node
    node-by-tag node s has is other (MeansNode.by_word {w = v} also p) = absurd (none v also)
    node-by-tag node s has is other (MeansNode.by_tag {s = t} untyped also same) = let one : t.name ≡ s.name = cc in node-one settled other node t s also has one

    pub tag-means-node : (node : TypeId) (s : Structure) → HasStructure program node s → s.name ≡ name → Means program name (Some (Node node))
    tag-means-node node s has is = (MeansNode.by_tag none has is, node-by-tag node s has is, none-pointed)

    pub nothing-is-meant : NoTag program name → Means program name None
    nothing-is-meant untagged = (no-node-there, none-pointed)
      where
        no-node-there : (node : TypeId) → ¬ MeansNode program name node
        no-node-there node (MeansNode.by_word {w = v} also p) = none v also
        no-node-there node (MeansNode.by_tag {s = t} untyped also same) = untagged node t also same

-- a name means one structure at most
pub nodes-one : {program : Program} → Settled program → (name : List ℕ) (n m : TypeId) → MeansNode program name n → MeansNode program name m → n ≡ m
nodes-one settled name n m (MeansNode.by_word {w = v} is p) (MeansNode.by_word {w = w} also q) = ap (λ (x : Typedef). x.id) (word-one settled name v w is also)
nodes-one settled name n m (MeansNode.by_word {w = v} is p) (MeansNode.by_tag none has same) = absurd (none v is)
nodes-one settled name n m (MeansNode.by_tag none has same) (MeansNode.by_word {w = w} also q) = absurd (none w also)
nodes-one settled name n m (MeansNode.by_tag {s = s} none has same) (MeansNode.by_tag {s = t} never other like) = let one : s.name ≡ t.name = cc in node-one settled n m s t has other one

-- ---- what an index finds

-- a typedef that is found by its place
pub word-found : (program : Program) (name : List ℕ) (place : ℕ) → position_from (λ (w : Typedef). bytes_eq w.name name) 0 program.words ≡ Some place
    → (found : Option (Bor Typedef)) → option_copied found ≡ slice_get program.words place → MatchOption found (NoWord program name) (λ w. IsWordOf program name w.now)
word-found program name place e None item =
    let there = found-name (λ (w : Typedef). w.name) program.words name place e in absurd (none-some there.0 (item ∙ there.1))
word-found program name place e (Some w) item =
    let there = found-name (λ (v : Typedef). v.name) program.words name place e in
    let same = some-same (slice_get program.words place) w.now there.0 (sym item) there.1 in
    (here program.words place w.now (sym item), subst (λ (v : Typedef). v.name ≡ name) (sym same) there.2)

pub word-missed : (program : Program) (name : List ℕ) → position_from (λ (w : Typedef). bytes_eq w.name name) 0 program.words ≡ None → NoWord program name
word-missed program name none w is =
    let k = there program.words w is.0 in none-named (λ (v : Typedef). v.name) program.words name none k.0 w k.1 is.1
