-- Where a path may be cut: before the first step, and after it.
use Rattle.std.proofs.Common.{◌≡◌, ℕ, ◌+◌, ◌<◌, true, false, not, List, ◌∷◌, drop, sym, subst, arith}
use Rattle.std.specs.Str.{IsUtf8, IsCharBoundary}
use Rattle.std.proofs.lemmas.Str.{IsUtf8-drop}
use Rattle.gt_split.proofs.Boundaries.{not-false, before_rest, before_rest_after}
use Rattle.gt_script.specs.Steps.{begins_step}
use Rattle.gt_script.proofs.Walks.{place}

mark_low : (c : ℕ) → begins_step c ≡ true → c < 128
unfolding begins_step
mark_low c h = grind arith

step_low : (c : ℕ) → not (begins_step c) ≡ false → c < 128
step_low c h = mark_low c (not-false (begins_step c) h)

pub start_boundary : (text : List ℕ) (n : ℕ) → n ≡ place text → IsCharBoundary text n
start_boundary text n at = rw at (before_rest (λ c. not (begins_step c)) step_low text)

pub step_boundary : (text others : List ℕ) (c n : ℕ) → text ≡ c ∷ others → n ≡ place others → IsCharBoundary text (1 + n)
step_boundary text others c n e at = before_rest_after (λ c. not (begins_step c)) step_low text others c n e at

pub after_step_utf8 : (text others after : List ℕ) (c n : ℕ) → IsUtf8 text → text ≡ c ∷ others → n ≡ place others → after ≡ drop (1 + n) text → IsUtf8 after
after_step_utf8 text others after c n u e at a = subst IsUtf8 (sym a) (IsUtf8-drop text (1 + n) u (step_boundary text others c n e at))
