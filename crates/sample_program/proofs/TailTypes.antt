-- Which of the structures are tail types: vec, vecb, bigv, kindv, and the unions any and ever.
use Rattle.std.proofs.Common.{◌≡◌, ℕ, Bool, true, false, ◌&&◌, ◌||◌, cond, ◌==◌, ap, sym, ◌∙◌, refl}
use Rattle.std.specs.Prelude.{Option, Some, None}
use Rattle.gt_types.specs.declared.types.TypeId.{TypeId}
use Rattle.gt_types.specs.declared.types.Ty.{Ty}
use Rattle.gt_types.specs.declared.types.Ty.TheVariants as ty
use Rattle.gt_types.specs.declared.program.Field.{Field}
use Rattle.gt_types.specs.declared.program.Structure.{Structure}
use Rattle.gt_types.specs.Shapes.{is_structure}
use Rattle.gt_types.specs.Tails.{IsTailType, ends, has_member, KeepsTails}
use Rattle.sample_program.specs.Sample.{sample, structures}
use Rattle.sample_program.proofs.Lists.{all_from, at_index, place_of, both, fact_of}
use Rattle.sample_program.proofs.Facts.{held_of, HoldsAsTold, ends_in_tail, IsTold, all_told}

abbrev pub is_tail : ℕ → Bool
is_tail i = (i == 6) || (i == 10) || (i == 11) || (i == 14) || (i == 15) || (i == 16)

-- a struct that ends in an array with a length is one of them
abbrev ends_known : ℕ → Structure → Bool
ends_known i s = cond (ends_in_tail i) (s.is_union || is_tail i) true

abbrev holds : Ty → Bool
holds (ty.Node node desc) = is_tail node.0
holds type = false

-- so is a union with a member that is one
abbrev members_known : ℕ → Structure → Bool
members_known i s = cond s.is_union (all_from (λ j f. cond (holds f.ty) (is_tail i) true) 0 s.fields) true

all_ends_known : all_from ends_known 0 structures ≡ true
all_ends_known = refl

all_members_known : all_from members_known 0 structures ≡ true
all_members_known = refl

use_cond : (a b : Bool) → cond a b true ≡ true → a ≡ true → b ≡ true
use_cond true b h e = h
use_cond false b h e = absurd (cc)

use_either : (a b : Bool) → (a || b) ≡ true → a ≡ false → b ≡ true
use_either true b h e = absurd (cc)
use_either false b h e = h

pub known : (node : TypeId) → IsTailType sample node → is_tail node.0 ≡ true
known node (ends {s = s} has struct some) =
    let e = at_index ends_known structures all_ends_known node.0 s has in
    use_either s.is_union (is_tail node.0) (use_cond (ends_in_tail node.0) (s.is_union || is_tail node.0) e (sym (fact_of IsTold structures all_told node.0 s has).tail ∙ some)) struct
known node (has_member {member = member} {s = s} {f = f} has union c is tail) =
    let m = at_index members_known structures all_members_known node.0 s has in
    let fields = use_cond s.is_union (all_from (λ j g. cond (holds g.ty) (is_tail node.0) true) 0 s.fields) m union in
    let at = place_of s.fields f c in
    let one = at_index (λ j g. cond (holds g.ty) (is_tail node.0) true) s.fields fields at.0 f at.1 in
    let inner : holds f.ty ≡ true = ap holds is ∙ known member tail in
    use_cond (holds f.ty) (is_tail node.0) one inner

-- a field holds one of them only as a member of a union
abbrev holds_inside : Option TypeId → Bool
holds_inside None = false
holds_inside (Some node) = is_tail node.0

abbrev pub keeps : Structure → Field → Bool
keeps s f = cond (holds_inside (held_of f)) (s.is_union && is_structure f.ty) true

pub keeps_tails : (s : Structure) (f : Field) → HoldsAsTold f → keeps s f ≡ true → KeepsTails sample s f
keeps_tails s f told k node held tail =
    let inside : holds_inside (held_of f) ≡ true = ap holds_inside (sym told ∙ held) ∙ known node tail in
    let parts = both s.is_union (is_structure f.ty) (use_cond (holds_inside (held_of f)) (s.is_union && is_structure f.ty) k inside) in
    (parts.0, parts.1)
