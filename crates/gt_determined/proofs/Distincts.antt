-- A name means one structure, and a type of a script means elements of one kind.
use Rattle.std.proofs.Common.{◌≡◌, ℕ, ◌+◌, ◌<◌, true, List, ◌++◌, length, map, get_or, refl, ap, sym, subst, ◌∙◌, arith, Some, ◌⊎◌, inl, inr, length-append, get_or-append-add}
use Rattle.std.specs.Prelude.{◌≢◌, AllPairs, Contains, slice_get}
use Rattle.std.proofs.lemmas.Bool.{cases_order}
use Rattle.std.proofs.lemmas.Option.{slice_get-get_or, slice_get_within, get_or_from_slice_get}
use Rattle.gt_types.specs.declared.types.TypeId.{TypeId}
use Rattle.gt_types.specs.declared.program.Structure.{Structure}
use Rattle.gt_types.specs.declared.program.Typedef.{Typedef}
use Rattle.gt_types.specs.declared.program.Program.{Program}
use Rattle.gt_types.specs.Contains.{HasStructure}
use Rattle.gt_types.specs.Settled.{Settled}
use Rattle.gt_script.specs.declared.command.TypeName.{TypeName}
use Rattle.gt_tree.specs.Blocks.{Kind, Nodes, Pointers}
use Rattle.gt_tree.proofs.PathBits.{some-same}
use Rattle.gt_tree.proofs.PathParts.{get-map}
use Rattle.gt_next.specs.Kinds.{IsWordOf, MeansNode, IsKindOf}

-- ---- distinct names

pub pair-get : {X : Type 0} (R : X → X → Type 0) (xs : List X) (i j : ℕ) (x y : X) → AllPairs R xs → i < j → slice_get xs i ≡ Some x → slice_get xs j ≡ Some y → R x y
pair-get R xs i j x y pairs lt a b =
    let at_i = get_or_from_slice_get xs i x x a in
    let at_j = get_or_from_slice_get xs j y x b in
    subst (λ v. R x v) at_j (subst (λ u. R u (get_or xs j x)) at_i (pairs i j x lt (slice_get_within xs j y b)))

one-index : (names : List (List ℕ)) → AllPairs ◌≢◌ names → (i j : ℕ) (x y : List ℕ) → slice_get names i ≡ Some x → slice_get names j ≡ Some y → x ≡ y → i ≡ j
one-index names distinct i j x y a b same = go (cases_order i j)
  where
    go : (i ≡ j) ⊎ ((i < j) ⊎ (j < i)) → i ≡ j
    go (inl e) = e
    go (inr (inl lt)) = absurd (pair-get ◌≢◌ names i j x y distinct lt a b same)
    go (inr (inr gt)) = absurd (pair-get ◌≢◌ names j i y x distinct gt b a (sym same))

pairs-right : (xs ys : List (List ℕ)) → AllPairs ◌≢◌ (xs ++ ys) → AllPairs ◌≢◌ ys
pairs-right xs ys pairs i j d lt within =
    let whole = pairs (length xs + i) (length xs + j) d (omega (arith, lt)) (omega (arith, within, length-append xs ys)) in
    subst (λ b. get_or ys i d ≢ b) (get_or-append-add xs ys j d) (subst (λ a. a ≢ get_or (xs ++ ys) (length xs + j) d) (get_or-append-add xs ys i d) whole)

pairs-map : {X : Type 0} (name : X → List ℕ) (xs : List X) → AllPairs (λ x y. name x ≢ name y) xs → (i j : ℕ) (x y : X) → slice_get xs i ≡ Some x → slice_get xs j ≡ Some y → name x ≡ name y → i ≡ j
pairs-map name xs distinct i j x y a b same = go (cases_order i j)
  where
    go : (i ≡ j) ⊎ ((i < j) ⊎ (j < i)) → i ≡ j
    go (inl e) = e
    go (inr (inl lt)) = absurd (pair-get (λ u v. name u ≢ name v) xs i j x y distinct lt a b same)
    go (inr (inr gt)) = absurd (pair-get (λ u v. name u ≢ name v) xs j i y x distinct gt b a (sym same))

pub at-place : {X : Type 0} (xs : List X) (x : X) → (c : Contains xs x) → slice_get xs c.0 ≡ Some x
at-place xs x c = slice_get-get_or xs c.0 x c.1 ∙ ap Some c.2

module _ (program : Program) (settled : Settled program) where
  -- names of typedefs
  word-one : (name : List ℕ) (w v : Typedef) → IsWordOf program name w → IsWordOf program name v → v ≡ w
  word-one name w v (c, e) (d, f) =
      let words = map (λ x. x.name) program.words in
      let globals = map (λ r. r.name) program.roots ++ map (λ x. x.name) program.caches in
      let distinct = pairs-right globals words settled.distinct_globals in
      let mine = at-place program.words w c in
      let theirs = at-place program.words v d in
      let same : d.0 ≡ c.0 = one-index words distinct d.0 c.0 v.name w.name (get-map (λ x. x.name) program.words d.0 v theirs) (get-map (λ x. x.name) program.words c.0 w mine) (f ∙ sym e) in
      some-same (slice_get program.words c.0) v w (subst (λ i. slice_get program.words i ≡ Some v) same theirs) mine

  node-one : (a b : TypeId) (s t : Structure) → HasStructure program a s → HasStructure program b t → s.name ≡ t.name → a ≡ b
  node-one a b s t has there same =
      let place = pairs-map (λ x. x.name) program.structures settled.distinct_structures a.0 b.0 s t has there same in
      ap (λ n. let node : TypeId = record { 0 = n } in node) place

  means-one : (name : List ℕ) (a b : TypeId) → MeansNode program name a → MeansNode program name b → a ≡ b
  means-one name a b (MeansNode.by_word {w} is plain) (MeansNode.by_word {w = v} at flat) = ap (λ x. x.id) (word-one name v w at is)
  means-one name a b (MeansNode.by_word {w} is plain) (MeansNode.by_tag none has e) = absurd (none w is)
  means-one name a b (MeansNode.by_tag none has e) (MeansNode.by_word {w} is plain) = absurd (none w is)
  means-one name a b (MeansNode.by_tag {node} {s} none has e) (MeansNode.by_tag {node = other} {s = t} no_word there f) = node-one node other s t has there (e ∙ sym f)

  no-pointer : (name : List ℕ) (a : TypeId) (w : Typedef) → MeansNode program name a → IsWordOf program name w → w.pointer ≡ true → ⊥
  no-pointer name a w (MeansNode.by_word {w = v} is plain) at pointer = let same = ap (λ x. x.pointer) (word-one name v w is at) in cc
  no-pointer name a w (MeansNode.by_tag none has e) at pointer = none w at

  pub kind-one : (type : TypeName) (a b : Kind) → IsKindOf program type a → IsKindOf program type b → a ≡ b
  kind-one type a b (IsKindOf.structures {node} s m may) (IsKindOf.structures {node = other} t n can) = ap Nodes (means-one type.name node other m n)
  kind-one type a b (IsKindOf.structures s m may) (IsKindOf.pointers t c n can) = absurd (cc)
  kind-one type a b (IsKindOf.structures {node} s m may) (IsKindOf.pointers_by_word {w} t at p can) = absurd (no-pointer type.name node w m at p)
  kind-one type a b (IsKindOf.structures s m may) (IsKindOf.strings t c) = absurd (cc)
  kind-one type a b (IsKindOf.pointers s c m may) (IsKindOf.structures t n can) = absurd (cc)
  kind-one type a b (IsKindOf.pointers {node} s c m may) (IsKindOf.pointers {node = other} t d n can) = ap Pointers (means-one type.name node other m n)
  kind-one type a b (IsKindOf.pointers s c m may) (IsKindOf.pointers_by_word t at p can) = absurd (cc)
  kind-one type a b (IsKindOf.pointers s c m may) (IsKindOf.strings t d) = absurd (c d)
  kind-one type a b (IsKindOf.pointers_by_word {w} s at p may) (IsKindOf.structures {node} t n can) = absurd (no-pointer type.name node w n at p)
  kind-one type a b (IsKindOf.pointers_by_word s at p may) (IsKindOf.pointers t d n can) = absurd (cc)
  kind-one type a b (IsKindOf.pointers_by_word {w} s at p may) (IsKindOf.pointers_by_word {w = v} t there q can) = ap (λ x. Pointers x.id) (word-one type.name v w there at)
  kind-one type a b (IsKindOf.pointers_by_word s at p may) (IsKindOf.strings t d) = absurd (cc)
  kind-one type a b (IsKindOf.strings s c) (IsKindOf.structures t n can) = absurd (cc)
  kind-one type a b (IsKindOf.strings s c) (IsKindOf.pointers t d n can) = absurd (d c)
  kind-one type a b (IsKindOf.strings s c) (IsKindOf.pointers_by_word t at p can) = absurd (cc)
  kind-one type a b (IsKindOf.strings s c) (IsKindOf.strings t d) = refl
