-- When two steps are the same, and that this is an equality.
use Rattle.std.specs.Prelude.{◌≡◌, Bool, true, false, ◌==◌, refl}
use Rattle.std.specs.Cmp.{IsEquivalence, nat_eq_equiv}
use Rattle.std.specs.Cmp.Lexicographic.{nat_list_eq_equiv}
use Rattle.std.specs.Str.{bytes_eq}
use Rattle.gt_script.specs.declared.command.Hop.{Hop}
use Rattle.gt_script.specs.declared.command.Hop.TheVariants.{Name, Index}

-- two steps to a field of the same name, or to the same element
abbrev pub same_step : Hop → Hop → Bool
same_step (Name name) (Name other) = bytes_eq name other
same_step (Index place) (Index other) = place == other
same_step hop other = false

same_itself : (x : Hop) → same_step x x ≡ true
same_itself (Name name) = nat_list_eq_equiv.refl name
same_itself (Index place) = nat_eq_equiv.refl place

same_back : (x y : Hop) → same_step x y ≡ same_step y x
same_back (Name name) (Name other) = nat_list_eq_equiv.symm name other
same_back (Name name) (Index other) = refl
same_back (Index place) (Name other) = refl
same_back (Index place) (Index other) = nat_eq_equiv.symm place other

same_both : (x y z : Hop) → same_step x y ≡ true → same_step x z ≡ same_step y z
same_both (Name name) (Name other) (Name third) e = nat_list_eq_equiv.congr name other third e
same_both (Name name) (Name other) (Index third) e = refl
same_both (Name name) (Index other) z e = absurd (cc)
same_both (Index place) (Name other) z e = absurd (cc)
same_both (Index place) (Index other) (Name third) e = refl
same_both (Index place) (Index other) (Index third) e = nat_eq_equiv.congr place other third e

pub same_step_equiv : IsEquivalence same_step
same_step_equiv = record { refl = same_itself; symm = same_back; congr = same_both }
