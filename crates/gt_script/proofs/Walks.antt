-- Paths, from left to right.
use Rattle.std.proofs.Common.{◌≡◌, ℕ, suc, ◌+◌, Bool, true, false, not, List, [], ◌∷◌, take, drop, Option, Some, None, refl, sym, ap, subst, ◌∙◌, arith}
use Rattle.std.specs.List.{prefix_len}
use Rattle.gt_script.specs.declared.command.Hop.{Hop}
use Rattle.gt_split.specs.Texts.{◌>>=◌}
use Rattle.gt_script.specs.Values.{name_at}
use Rattle.gt_script.specs.Steps.{begins_step, cut_steps, hops_at}
use Rattle.gt_script.specs.Paths.{route_at}

-- how many bytes stand before the first step
abbrev pub place : List ℕ → ℕ
place text = prefix_len (λ c. not (begins_step c)) text

front_here : (c : ℕ) (cs : List ℕ) (b : Bool) → begins_step c ≡ b → (cut_steps cs).0 ≡ take (place cs) cs → (cut_steps (c ∷ cs)).0 ≡ take (place (c ∷ cs)) (c ∷ cs)
unfolding cut_steps
front_here c cs true e h = rw e refl
front_here c cs false e h =
    let next : place (c ∷ cs) ≡ suc (place cs) = rw e (omega arith) in
    rw (next, e, h) refl

-- what stands before the first step
pub cut_front : (text : List ℕ) → (cut_steps text).0 ≡ take (place text) text
unfolding cut_steps
cut_front [] = refl
cut_front (c ∷ cs) = front_here c cs (begins_step c) refl (cut_front cs)

back_here : (c : ℕ) (cs : List ℕ) (b : Bool) → begins_step c ≡ b → (cut_steps (drop (place cs) cs) ≡ ([], (cut_steps cs).1)) → cut_steps (drop (place (c ∷ cs)) (c ∷ cs)) ≡ ([], (cut_steps (c ∷ cs)).1)
unfolding cut_steps
back_here c cs true e h =
    let here : place (c ∷ cs) ≡ 0 = rw e refl in
    let cut : cut_steps (c ∷ cs) ≡ ([], (c ∷ (cut_steps cs).0) ∷ (cut_steps cs).1) = rw e refl in
    rw (here, cut) refl
back_here c cs false e h =
    let next : place (c ∷ cs) ≡ suc (place cs) = rw e (omega arith) in
    let cut : cut_steps (c ∷ cs) ≡ (c ∷ (cut_steps cs).0, (cut_steps cs).1) = rw e refl in
    rw (next, cut) h

-- the steps after it
pub cut_back : (text : List ℕ) → cut_steps (drop (place text) text) ≡ ([], (cut_steps text).1)
unfolding cut_steps
cut_back [] = refl
cut_back (c ∷ cs) = back_here c cs (begins_step c) refl (cut_back cs)

-- a text that begins with a step
mark_step : (mark : ℕ) (others : List ℕ) (b : Bool) → begins_step mark ≡ b → (cut_steps (mark ∷ others)).0 ≡ [] → b ≡ true
unfolding cut_steps
mark_step mark others true e h = refl
mark_step mark others false e h =
    let clash : (cut_steps (mark ∷ others)).0 ≡ mark ∷ (cut_steps others).0 = rw e refl in
    let none : [] ≡ mark ∷ (cut_steps others).0 = sym h ∙ clash in
    absurd cc

cut_mark : (mark : ℕ) (others : List ℕ) → begins_step mark ≡ true → cut_steps (mark ∷ others) ≡ ([], (mark ∷ take (place others) others) ∷ (cut_steps others).1)
unfolding cut_steps
cut_mark mark others e = rw (e, cut_front others) refl

module _ (text others : List ℕ) (mark n : ℕ) (e : text ≡ mark ∷ others) (begins : (cut_steps text).0 ≡ []) (at : n ≡ place others) where
  whole : cut_steps text ≡ ([], (mark ∷ take (place others) others) ∷ (cut_steps others).1)
  whole =
      let is_mark = mark_step mark others (begins_step mark) refl (subst (λ (r : List ℕ). (cut_steps r).0 ≡ []) e begins) in
      ap cut_steps e ∙ cut_mark mark others is_mark

  step_is : (step : List ℕ) → step ≡ take (1 + n) text → step ≡ mark ∷ take (place others) others
  step_is step s = let len : 1 + n ≡ suc (place others) = omega (arith, at) in s ∙ ap (λ (r : List ℕ). take (1 + n) r) e ∙ ap (λ k. take k (mark ∷ others)) len

  after_is : (after : List ℕ) → after ≡ drop (1 + n) text → after ≡ drop (place others) others
  after_is after s = let len : 1 + n ≡ suc (place others) = omega (arith, at) in s ∙ ap (λ (r : List ℕ). drop (1 + n) r) e ∙ ap (λ k. drop k (mark ∷ others)) len

  pub after_begins : (after : List ℕ) → after ≡ drop (1 + n) text → (cut_steps after).0 ≡ []
  after_begins after s = ap (λ (r : List ℕ). (cut_steps r).0) (after_is after s) ∙ ap (λ (p : List ℕ × List (List ℕ)). p.0) (cut_back others)

  -- the first step and those after it
  pub first_cut : (step after : List ℕ) → step ≡ take (1 + n) text → after ≡ drop (1 + n) text → cut_steps text ≡ ([], step ∷ (cut_steps after).1)
  first_cut step after s t =
      let back : (cut_steps after).1 ≡ (cut_steps others).1 = ap (λ (r : List ℕ). (cut_steps r).1) (after_is after t) ∙ ap (λ (p : List ℕ × List (List ℕ)). p.1) (cut_back others) in
      whole ∙ ap (λ (x : List ℕ). let y : List ℕ × List (List ℕ) = ([], x ∷ (cut_steps others).1) in y) (sym (step_is step s))
      ∙ ap (λ (xs : List (List ℕ)). let y : List ℕ × List (List ℕ) = ([], step ∷ xs) in y) (sym back)

-- a path by its name and its steps, cut in two
pub route_is : (variable : Bool) (text start after : List ℕ) (n : ℕ) → n ≡ place text → start ≡ take n text → after ≡ drop n text
    → route_at variable text ≡ (name_at start >>= λ name. hops_at (cut_steps after).1 >>= λ steps. Some (record { variable = variable; name = name; steps = steps }))
unfolding route_at
route_is variable text start after n at s t =
    let front : start ≡ (cut_steps text).0 = s ∙ ap (λ k. take k text) at ∙ sym (cut_front text) in
    let back : (cut_steps after).1 ≡ (cut_steps text).1 = ap (λ (r : List ℕ). (cut_steps r).1) (t ∙ ap (λ k. drop k text) at) ∙ ap (λ (p : List ℕ × List (List ℕ)). p.1) (cut_back text) in
    rw (front, back) refl

pub route_begins : (text after : List ℕ) (n : ℕ) → n ≡ place text → after ≡ drop n text → (cut_steps after).0 ≡ []
route_begins text after n at t = ap (λ (r : List ℕ). (cut_steps r).0) (t ∙ ap (λ k. drop k text) at) ∙ ap (λ (p : List ℕ × List (List ℕ)). p.0) (cut_back text)

-- the same where the parts are known
pub route_known : (name : Option (List ℕ)) (hops : Option (List Hop)) (variable : Bool) (text start after : List ℕ) (n : ℕ) → n ≡ place text → start ≡ take n text → after ≡ drop n text
    → name ≡ name_at start → hops ≡ hops_at (cut_steps after).1
    → (name >>= λ name. hops >>= λ steps. Some (record { variable = variable; name = name; steps = steps })) ≡ route_at variable text
route_known name hops variable text start after n at s t e f =
    rw (e, f) (sym (route_is variable text start after n at s t))

pub route_nameless : (variable : Bool) (text start after : List ℕ) (n : ℕ) → n ≡ place text → start ≡ take n text → after ≡ drop n text → None ≡ name_at start → None ≡ route_at variable text
route_nameless variable text start after n at s t e =
    let none : (name_at start >>= λ name. hops_at (cut_steps after).1 >>= λ steps. Some (record { variable = variable; name = name; steps = steps })) ≡ None = rw (← e) refl in
    sym none ∙ sym (route_is variable text start after n at s t)
