-- Each structure holds by value only structures that stand before it, so none holds itself, and nesting is not deep.
use Rattle.std.proofs.Common.{◌≡◌, ℕ, ◌+◌, ◌<◌, ◌≤◌, Bool, true, nat_lt, sym, subst, ◌∙◌, arith, refl}
use Rattle.std.specs.Prelude.{Option, Some, None, length}
use Rattle.std.proofs.lemmas.Bool.{ltb-true}
use Rattle.std.proofs.lemmas.Option.{slice_get_within}
use Rattle.gt_types.specs.declared.types.TypeId.{TypeId}
use Rattle.gt_types.specs.declared.program.Structure.{Structure}
use Rattle.gt_types.specs.declared.limits.TheConstants.{MAX_DEPTH}
use Rattle.gt_types.specs.Contains.{ContainsStructure, ContainsAtDepth, Nests, once, deeper}
use Rattle.sample_program.specs.Sample.{sample, structures}
use Rattle.std.proofs.lemmas.List.Elements.{All-contains}
use Rattle.sample_program.proofs.Lists.{all_from, at_index, place_of, fact_of}
use Rattle.sample_program.proofs.Facts.{held_of, HoldsAsTold, IsTold, all_told}

abbrev is_below : ℕ → Option TypeId → Bool
is_below i None = true
is_below i (Some node) = nat_lt node.0 i

abbrev in_order : ℕ → Structure → Bool
in_order i s = all_from (λ j f. is_below i (held_of f)) 0 s.fields

all_in_order : all_from in_order 0 structures ≡ true
all_in_order = refl

pub lower : (outer inner : TypeId) → ContainsStructure sample outer inner → inner.0 < outer.0
lower outer inner (s, f, has, c, h) =
    let fields = at_index in_order structures all_in_order outer.0 s has in
    let at = place_of s.fields f c in
    let below = at_index (λ j g. is_below outer.0 (held_of g)) s.fields fields at.0 f at.1 in
    let told = All-contains HoldsAsTold s.fields f (fact_of IsTold structures all_told outer.0 s has).held c in
    ltb-true inner.0 outer.0 (subst (λ o. is_below outer.0 o ≡ true) (sym told ∙ h) below)

pub lower_by : (n : ℕ) (outer inner : TypeId) → Nests sample n outer inner → (n + inner.0 ≤ outer.0) × (1 ≤ n)
lower_by n outer inner (once c) = let l = lower outer inner c in (omega (arith, l), omega arith)
lower_by n outer inner (deeper {n = m} {next = next} c rest) =
    let l = lower outer next c in
    let r = lower_by m next inner rest in
    (omega (arith, l, r.0), omega arith)

pub no_cycle : (node : TypeId) → ¬ ContainsAtDepth sample node node
no_cycle node (n, nests) = let l = lower_by n node node nests in absurd (omega (arith, l.0, l.1))

pub in_program : (n : ℕ) (outer inner : TypeId) → Nests sample n outer inner → outer.0 < length structures
in_program n outer inner (once c) = slice_get_within structures outer.0 c.0 c.2
in_program n outer inner (deeper c rest) = slice_get_within structures outer.0 c.0 c.2

pub not_deep : (n : ℕ) (outer inner : TypeId) → Nests sample n outer inner → n ≤ MAX_DEPTH
not_deep n outer inner nests = let l = lower_by n outer inner nests in let w = in_program n outer inner nests in omega (arith, l.0, w)
