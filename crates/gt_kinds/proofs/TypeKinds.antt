-- What types of a script mean.
use Rattle.std.proofs.Common.{◌≡◌, ℕ, true, false, List, Some, None, refl, sym, ap, subst}
use Rattle.std.specs.Prelude.{◌≢◌, MatchOption, Option}
use Rattle.gt_types.specs.declared.types.TypeId.{TypeId}
use Rattle.gt_types.specs.declared.program.Typedef.{Typedef}
use Rattle.gt_types.specs.declared.program.Program.{Program}
use Rattle.gt_types.specs.Paths.{MayStand}
use Rattle.gt_types.specs.Settled.{Settled}
use Rattle.gt_script.specs.declared.command.TypeName.{TypeName}
use Rattle.gt_tree.specs.Blocks.{Kind, Nodes, Pointers, Strings}
use Rattle.gt_next.specs.Kinds.{IsKindOf, NamesNodes}
use Rattle.gt_kinds.specs.declared.meaning.Meaning.TheVariants.{Node, Pointer}
use Rattle.gt_kinds.specs.Meanings.{IsOfStrings, Means}
use Rattle.gt_kinds.proofs.Meant.{no-node, nodes-one}
use Rattle.gt_kinds.proofs.Naming.{word-one}

module _ {program : Program} {type : TypeName} where
  pub strings-meant : IsOfStrings type → IsKindOf program type Strings
  strings-meant is = IsKindOf.strings is.0 is.1

  module _ (not : ¬ IsOfStrings type) where
    -- ---- nothing is meant

    pub none-meant : Means program type.name None → (kind : Kind) → ¬ IsKindOf program type kind
    none-meant means kind (IsKindOf.structures {node} star m may) = means.0 node m
    none-meant means kind (IsKindOf.pointers {node} star other m may) = means.0 node m
    none-meant means kind (IsKindOf.pointers_by_word {w} star is pointer may) = means.1 w.id (w, is, pointer, refl)
    none-meant means kind (IsKindOf.strings star same) = not (star, same)

    -- ---- a pointer is meant

    module _ (node : TypeId) (means : Means program type.name (Some (Pointer node))) where
      pub pointed-twice : type.star ≡ true → (kind : Kind) → ¬ IsKindOf program type kind
      pointed-twice starred kind (IsKindOf.structures star m may) = absurd (cc)
      pointed-twice starred kind (IsKindOf.pointers {node = n} star other m may) = means.2 n m
      pointed-twice starred kind (IsKindOf.pointers_by_word star is pointer may) = absurd (cc)
      pointed-twice starred kind (IsKindOf.strings star same) = not (star, same)

      pub pointers-by-word : type.star ≡ false → MayStand program node → IsKindOf program type (Pointers node)
      pointers-by-word plain may =
          let w = means.0.0 in
          let same = means.0.3 in
          subst (λ n. IsKindOf program type (Pointers n)) same (IsKindOf.pointers_by_word {w = w} plain means.0.1 means.0.2 (subst (MayStand program) (sym same) may))

      pub no-pointers-by-word : type.star ≡ false → ¬ MayStand program node → (kind : Kind) → ¬ IsKindOf program type kind
      no-pointers-by-word plain not-may kind (IsKindOf.structures {node = n} star m may) = means.2 n m
      no-pointers-by-word plain not-may kind (IsKindOf.pointers star other m may) = absurd (cc)
      no-pointers-by-word plain not-may kind (IsKindOf.pointers_by_word {w} star is pointer may) =
          not-may (subst (MayStand program) (means.1 w.id (w, is, pointer, refl)) may)
      no-pointers-by-word plain not-may kind (IsKindOf.strings star same) = not (star, same)

    -- ---- a structure is meant

    module _ (node : TypeId) (means : Means program type.name (Some (Node node))) where
      pub structures-meant : type.star ≡ false → MayStand program node → IsKindOf program type (Nodes node)
      structures-meant plain may = IsKindOf.structures plain means.0 may

      pub pointers-meant : type.star ≡ true → MayStand program node → IsKindOf program type (Pointers node)
      pointers-meant starred may = IsKindOf.pointers starred (λ same. not (starred, same)) means.0 may

      pub node-may-not-stand : ¬ MayStand program node → (kind : Kind) → ¬ IsKindOf program type kind
      node-may-not-stand not-may kind (IsKindOf.structures {node = n} star m may) = not-may (subst (MayStand program) (means.1 n m) may)
      node-may-not-stand not-may kind (IsKindOf.pointers {node = n} star other m may) = not-may (subst (MayStand program) (means.1 n m) may)
      node-may-not-stand not-may kind (IsKindOf.pointers_by_word {w} star is pointer may) = means.2 w.id (w, is, pointer, refl)
      node-may-not-stand not-may kind (IsKindOf.strings star same) = not (star, same)

-- ---- a type means one kind at most

module _ {program : Program} {type : TypeName} (settled : Settled program) where
  pub kinds-one : (k l : Kind) → IsKindOf program type k → IsKindOf program type l → k ≡ l
  kinds-one k l (IsKindOf.structures {node = n} plain m may) (IsKindOf.structures {node = o} also other stands) = ap Nodes (nodes-one settled type.name n o m other)
  kinds-one k l (IsKindOf.structures plain m may) (IsKindOf.pointers starred not other stands) = absurd (cc)
  kinds-one k l (IsKindOf.structures {node = n} plain m may) (IsKindOf.pointers_by_word {w} also is pointer stands) = absurd (no-node settled type.name w is pointer n m)
  kinds-one k l (IsKindOf.structures plain m may) (IsKindOf.strings starred same) = absurd (cc)
  kinds-one k l (IsKindOf.pointers starred not m may) (IsKindOf.structures plain other stands) = absurd (cc)
  kinds-one k l (IsKindOf.pointers {node = n} starred not m may) (IsKindOf.pointers {node = o} also never other stands) = ap Pointers (nodes-one settled type.name n o m other)
  kinds-one k l (IsKindOf.pointers starred not m may) (IsKindOf.pointers_by_word plain is pointer stands) = absurd (cc)
  kinds-one k l (IsKindOf.pointers starred not m may) (IsKindOf.strings also same) = absurd (not same)
  kinds-one k l (IsKindOf.pointers_by_word {w} plain is pointer may) (IsKindOf.structures {node = o} also other stands) = absurd (no-node settled type.name w is pointer o other)
  kinds-one k l (IsKindOf.pointers_by_word plain is pointer may) (IsKindOf.pointers starred not other stands) = absurd (cc)
  kinds-one k l (IsKindOf.pointers_by_word {w = w} plain is pointer may) (IsKindOf.pointers_by_word {w = v} also other named stands) =
      ap (λ (x : Typedef). Pointers x.id) (word-one settled type.name w v is other)
  kinds-one k l (IsKindOf.pointers_by_word plain is pointer may) (IsKindOf.strings starred same) = absurd (cc)
  kinds-one k l (IsKindOf.strings starred same) (IsKindOf.structures plain other stands) = absurd (cc)
  kinds-one k l (IsKindOf.strings starred same) (IsKindOf.pointers also not other stands) = absurd (not same)
  kinds-one k l (IsKindOf.strings starred same) (IsKindOf.pointers_by_word plain is pointer stands) = absurd (cc)
  kinds-one k l (IsKindOf.strings starred same) (IsKindOf.strings also like) = refl

  -- the structure among kinds is the one that is named
  pub node-named : (found : Option TypeId) (k : Kind) → IsKindOf program type k → MatchOption found ((node : TypeId) → k ≢ Nodes node) (λ node. k ≡ Nodes node)
      → MatchOption found ((node : TypeId) → ¬ NamesNodes program type node) (NamesNodes program type)
  node-named None k is none = λ node names. none node (kinds-one k (Nodes node) is names)
  node-named (Some node) k is same = subst (IsKindOf program type) same is
