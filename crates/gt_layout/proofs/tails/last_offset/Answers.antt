use Rattle.std.proofs.Common.{◌≡◌, ◌≤◌, ◌-◌, ℕ, suc, List, [], ◌∷◌, length, get_or, ap, ◌∙◌, refl, arith}
use Rattle.gt_layout.specs.declared.planes.FieldSpot.{FieldSpot}
use Rattle.gt_layout.specs.Places.{last_offset}
use Rattle.gt_layout.proofs.tails.last_offset.Goals as goal

last_one : (ss : List FieldSpot) (d : FieldSpot) → 1 ≤ length ss → (get_or ss (length ss - 1) d).offset ≡ last_offset ss
last_one [] d some = absurd (omega (arith, some))
last_one (s ∷ []) d some = refl
last_one (s ∷ t ∷ ss) d some =
    let next : length (s ∷ t ∷ ss) - 1 ≡ suc (length (t ∷ ss) - 1) = omega arith in
    ap (λ (n : ℕ). (get_or (s ∷ t ∷ ss) n d).offset) next ∙ last_one (t ∷ ss) d (omega arith)

pub returns-in-len1-up : goal.returns-in-len1-up
returns-in-len1-up c = last_one c.args.spots.now _ c.in-len1-up.len_at_least
