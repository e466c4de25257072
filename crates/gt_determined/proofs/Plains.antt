-- Whether a structure, and all that it contains, are structs that end in no array with a length.
use Rattle.std.proofs.Common.{◌≡◌, ℕ, zero, suc, ◌≤◌, Bool, true, false, refl, subst, arith, Option, Some, None, inl, inr}
use Rattle.std.specs.Prelude.{All, Contains, slice_get}
use Rattle.std.proofs.lemmas.List.Elements.{All-contains, All-contains_itself, All-weaker}
use Rattle.gt_types.specs.declared.types.TypeId.{TypeId}
use Rattle.gt_types.specs.declared.types.Ty.{Ty}
use Rattle.gt_types.specs.declared.program.Field.{Field}
use Rattle.gt_types.specs.declared.program.Structure.{Structure}
use Rattle.gt_types.specs.declared.program.Program.{Program}
use Rattle.gt_types.specs.Contains.{HasStructure, ContainsStructure, Nests, once, deeper, ContainsAtDepth, held_by}
use Rattle.gt_types.specs.Tails.{tail_of}
use Rattle.gt_types.specs.Unions.{IsPlainStruct}
use Rattle.gt_tree.proofs.PathBits.{some-same}
use Rattle.gt_determined.proofs.Decisions.{Known, known-iff, known-both, known-all}

-- how deep what a structure contains is nested
abbrev pub IsBound : Program → ℕ → TypeId → Type 0
IsBound program fuel node = (n : ℕ) (inner : TypeId) → Nests program n node inner → n ≤ fuel

pub deeper-bound : (program : Program) (fuel : ℕ) (node next : TypeId) → IsBound program (suc fuel) node → ContainsStructure program node next → IsBound program fuel next
deeper-bound program fuel node next bound contains n inner nests = let le = bound (suc n) inner (deeper contains nests) in omega (arith, le)

pub bound-zero : (program : Program) (node next : TypeId) → IsBound program 0 node → ContainsStructure program node next → ⊥
bound-zero program node next bound contains = let le = bound 1 next (once contains) in omega (arith, le)

-- the structure that a nest begins with contains one
nests-first : (program : Program) {n : ℕ} {node inner : TypeId} → Nests program n node inner → (next : TypeId) × ContainsStructure program node next
nests-first program (once {inner} contains) = (inner, contains)
nests-first program (deeper {next} contains nests) = (next, contains)

pub known-plain : (program : Program) (node : TypeId) → Known (IsPlainStruct program node)
known-plain program node = at (slice_get program.structures node.0) refl
  where
    of : (s : Structure) → HasStructure program node s → (u : Bool) → s.is_union ≡ u → (t : Option Ty) → tail_of s.fields ≡ t → Known (IsPlainStruct program node)
    of s has false e None t = inl (s, has, e, t)
    of s has false e (Some elem) t = inr (λ p. let same : p.0 ≡ s = some-same (slice_get program.structures node.0) p.0 s p.1 has in let none : tail_of s.fields ≡ None = subst (λ x. tail_of x.fields ≡ None) same p.3 in cc)
    of s has true e t is = inr (λ p. let same : p.0 ≡ s = some-same (slice_get program.structures node.0) p.0 s p.1 has in let struct : s.is_union ≡ false = subst (λ x. x.is_union ≡ false) same p.2 in cc)

    at : (found : Option Structure) → slice_get program.structures node.0 ≡ found → Known (IsPlainStruct program node)
    at None e = inr (λ p. let has = p.1 in cc)
    at (Some s) e = of s e s.is_union refl (tail_of s.fields) refl

-- all that a structure contains are plain structs
abbrev pub IsPlainInside : Program → TypeId → Type 0
IsPlainInside program node = (inner : TypeId) → ContainsAtDepth program node inner → IsPlainStruct program inner

-- what a field holds, and all inside it, are plain structs
abbrev pub HoldsPlain : Program → Field → Type 0
HoldsPlain program f = (next : TypeId) → held_by f.ty ≡ Some next → IsPlainStruct program next × IsPlainInside program next

inside-all : (program : Program) (node : TypeId) (s : Structure) → HasStructure program node s → All (HoldsPlain program) s.fields → IsPlainInside program node
inside-all program node s has all inner (n, once (other, f, h, contains, held)) =
    let same : other ≡ s = some-same (slice_get program.structures node.0) other s h has in
    (All-contains (HoldsPlain program) s.fields f all (subst (λ x. Contains x.fields f) same contains) inner held).0
inside-all program node s has all inner (n, deeper {n = m} {next} (other, f, h, contains, held) nests) =
    let same : other ≡ s = some-same (slice_get program.structures node.0) other s h has in
    (All-contains (HoldsPlain program) s.fields f all (subst (λ x. Contains x.fields f) same contains) next held).1 inner (m, nests)

all-inside : (program : Program) (node : TypeId) (s : Structure) → HasStructure program node s → IsPlainInside program node → All (HoldsPlain program) s.fields
all-inside program node s has plain = All-weaker (Contains s.fields) (HoldsPlain program) holds s.fields (All-contains_itself s.fields)
  where
    holds : (f : Field) → Contains s.fields f → HoldsPlain program f
    holds f contains next held =
        let inside : ContainsStructure program node next = (s, f, has, contains, held) in
        (plain next (1, once inside), λ inner deep. plain inner (suc deep.0, deeper inside deep.1))

pub known-inside : (program : Program) (fuel : ℕ) (node : TypeId) → IsBound program fuel node → Known (IsPlainInside program node)
known-inside program zero node bound = inl (λ inner deep. let first = nests-first program deep.1 in absurd (bound-zero program node first.0 bound first.1))
known-inside program (suc fuel) node bound = at (λ next b. known-inside program fuel next b) (slice_get program.structures node.0) refl
  where
    field : ((next : TypeId) → IsBound program fuel next → Known (IsPlainInside program next)) → (s : Structure) → HasStructure program node s → (f : Field) → Contains s.fields f
        → (held : Option TypeId) → held_by f.ty ≡ held → Known (HoldsPlain program f)
    field deep s has f contains None e = inl (λ next h. absurd (cc))
    field deep s has f contains (Some next) e =
        known-iff (known-both (known-plain program next) (deep next (deeper-bound program fuel node next bound (s, f, has, contains, e))))
        (λ both other h. let same : next ≡ other = some-same (held_by f.ty) next other e h in subst (λ n. IsPlainStruct program n × IsPlainInside program n) same both) (λ holds. holds next e)

    at : ((next : TypeId) → IsBound program fuel next → Known (IsPlainInside program next)) → (found : Option Structure) → slice_get program.structures node.0 ≡ found → Known (IsPlainInside program node)
    at deep None e = inl (λ inner nests. let first = nests-first program nests.1 in let has = first.1.2 in absurd (cc))
    at deep (Some s) e = known-iff (known-all (HoldsPlain program) s.fields (λ f contains. field deep s e f contains (held_by f.ty) refl)) (inside-all program node s e) (all-inside program node s e)
