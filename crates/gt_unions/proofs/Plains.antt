-- Structs that contain no union and no array with a length, by their fields.
use Rattle.std.proofs.Common.{◌≡◌, ◌⊎◌, inl, inr, ℕ, zero, suc, Bool, false, List, [], ◌∷◌, set, Some, None, get_or, ap, sym, subst, ◌∙◌, refl, arith, Bor}
use Rattle.std.specs.Prelude.{All, Contains, Option, slice_get}
use Rattle.std.specs.Bool.{Decides}
use Rattle.std.proofs.lemmas.List.Elements.{All-contains, Contains-get_or}
use Rattle.std.specs.Option.{is_some, option_copied}
use Rattle.gt_types.specs.declared.types.TypeId.{TypeId}
use Rattle.gt_types.specs.declared.types.Ty.{Ty}
use Rattle.gt_types.specs.Tails.{tail_of}
use Rattle.gt_types.specs.declared.program.Field.{Field}
use Rattle.gt_types.specs.declared.program.Structure.{Structure}
use Rattle.gt_types.specs.declared.program.Program.{Program}
use Rattle.gt_types.specs.Contains.{HasStructure, Nests, once, deeper}
use Rattle.gt_types.specs.Unions.{IsPlainStruct}
use Rattle.gt_unions.specs.Beginnings.{AreKnown, HoldsPlain, HoldsShallow, IsPlain, IsShallow}
use Rattle.gt_unions.proofs.Structures.{same_structure}

-- ---- by the fields

each_holds : (program : Program) (node : TypeId) (s : Structure) → HasStructure program node s → IsPlain program node → All (HoldsPlain program) s.fields
each_holds program node s there plain k d within next held =
    let at = Contains-get_or s.fields k d within in (
      plain.1 next (1, once (s, get_or s.fields k d, there, at, held)),
      λ inner nested. plain.1 inner (suc nested.0, deeper (s, get_or s.fields k d, there, at, held) nested.1),
    )

inside : (program : Program) {n : ℕ} {node inner : TypeId} (s : Structure) → HasStructure program node s → All (HoldsPlain program) s.fields → Nests program n node inner → IsPlainStruct program inner
inside program {inner = inner} s there each (once (t, f, at, field, held)) =
    let own : Contains s.fields f = subst (λ (u : Structure). Contains u.fields f) (same_structure program _ t s at there) field in
    (All-contains (HoldsPlain program) s.fields f each own inner held).0
inside program {inner = inner} s there each (deeper {n = n} {next = next} (t, f, at, field, held) rest) =
    let own : Contains s.fields f = subst (λ (u : Structure). Contains u.fields f) (same_structure program _ t s at there) field in
    (All-contains (HoldsPlain program) s.fields f each own next held).1 inner (n, rest)

pub by_fields : (program : Program) (node : TypeId) (s : Structure) (fields : List Field) (b : Bool) → HasStructure program node s → IsPlainStruct program node → fields ≡ s.fields
    → Decides b (All (HoldsPlain program) fields) → Decides b (IsPlain program node)
by_fields program node s fields b there plain same found =
    let decides = subst (λ (xs : List Field). Decides b (All (HoldsPlain program) xs)) same found in (
      λ e. (plain, λ inner nested. inside program s there (decides.0 e) nested.1),
      λ whole. decides.1 (each_holds program node s there whole),
    )

-- what the fields of a structure hold nests less deep
pub fields_shallow : (program : Program) (node : TypeId) (depth : ℕ) (s : Structure) (fields : List Field) → HasStructure program node s → fields ≡ s.fields → IsShallow program depth node → All (HoldsShallow program depth) fields
fields_shallow program node depth s fields there same shallow =
    subst (λ (xs : List Field). All (HoldsShallow program depth) xs) (sym same)
    (λ k d within next held.
    let at = Contains-get_or s.fields k d within in
    let one = shallow 1 next (once (s, get_or s.fields k d, there, at, held)) in (
      λ none. omega (arith, none, one),
      λ n inner nests. let more = shallow (suc n) inner (deeper (s, get_or s.fields k d, there, at, held) nests) in omega (arith, more),
    ))

-- ---- the structure itself

no_tail : (found : Option (Bor Ty)) → is_some found ≡ false → option_copied found ≡ None
no_tail None e = refl
no_tail (Some x) e = cc

pub plain_struct : (program : Program) (node : TypeId) (s : Structure) (fields : List Field) (found : Option (Bor Ty)) → HasStructure program node s → s.is_union ≡ false → is_some found ≡ false
    → option_copied found ≡ tail_of fields → fields ≡ s.fields → IsPlainStruct program node
plain_struct program node s fields found there struct' none is same =
    (s, there, struct', sym (ap tail_of same) ∙ sym is ∙ no_tail found none)

-- ---- what is noted

noted_at : (xs : List (Option Bool)) (i : ℕ) (v : Bool) (j : ℕ) (b : Bool) → slice_get (set xs i (Some v)) j ≡ Some (Some b) → ((j ≡ i) × (v ≡ b)) ⊎ (slice_get xs j ≡ Some (Some b))
noted_at [] i v j b e = inr e
noted_at (x ∷ xs) zero v zero b e = inl (refl, cc)
noted_at (x ∷ xs) zero v (suc j) b e = inr e
noted_at (x ∷ xs) (suc i) v zero b e = inr e
noted_at (x ∷ xs) (suc i) v (suc j) b e = more (noted_at xs i v j b e)
  where
    more : ((j ≡ i) × (v ≡ b)) ⊎ (slice_get xs j ≡ Some (Some b)) → ((suc j ≡ suc i) × (v ≡ b)) ⊎ (slice_get xs j ≡ Some (Some b))
    more (inl (p, q)) = inl (ap (λ n. suc n) p, q)
    more (inr q) = inr q

one_node : (a b : TypeId) → a.0 ≡ b.0 → a ≡ b
one_node a b e = ap (λ n. let node : TypeId = record { 0 = n } in node) e

pub known_more : (program : Program) (known : List (Option Bool)) (node : TypeId) (plain : Bool) → AreKnown program known → Decides plain (IsPlain program node) → AreKnown program (set known node.0 (Some plain))
known_more program known node plain before found other b at = go (noted_at known node.0 plain other.0 b at)
  where
    go : ((other.0 ≡ node.0) × (plain ≡ b)) ⊎ (slice_get known other.0 ≡ Some (Some b)) → Decides b (IsPlain program other)
    go (inl (p, q)) = subst (λ (x : Bool). Decides x (IsPlain program other)) q (subst (λ (n : TypeId). Decides plain (IsPlain program n)) (sym (one_node other node p)) found)
    go (inr old) = before other b old
