-- Edges at addresses, each so many bytes after the one before it.
use Rattle.std.proofs.Common.{suc, zero, ◌≡◌, ◌∙◌, ℕ, ◌+◌, ◌-◌, ◌*◌, ◌≤◌, ◌<◌, List, [], ◌++◌, refl, sym, ap, arith}
use Rattle.std.specs.Prelude.{flat_map}
use Rattle.std.specs.List.{range_with_len}
use Rattle.gt_walk.specs.Rows.{Edge, Frame, Gives, moved, each_edges}
use Rattle.gt_walk.specs.ByRows.{run_edges}
use Rattle.gt_walk.specs.Visiting.{stood}

next-place : (base k size : ℕ) → base + k * size + size ≡ base + (k + 1) * size
next-place base k size = omega arith

pub run-is : (g gives : ℕ → List Edge) (base size : ℕ) → ((i : ℕ) → g i ≡ gives (base + i * size)) → (k n : ℕ) → flat_map g (range_with_len k n) ≡ run_edges gives (base + k * size) size n
run-is g gives base size each k zero = refl
run-is g gives base size each k (suc n) =
    ap (λ xs. xs ++ flat_map g (range_with_len (k + 1) n)) (each k)
    ∙ ap (λ xs. gives (base + k * size) ++ xs) (run-is g gives base size each (k + 1) n ∙ ap (λ p. run_edges gives p size n) (sym (next-place base k size)))

pub run-from : (g gives : ℕ → List Edge) (base size : ℕ) → ((i : ℕ) → g i ≡ gives (base + i * size)) → (n : ℕ) → flat_map g (range_with_len 0 n) ≡ run_edges gives base size n
run-from g gives base size each n =
    let first : base + 0 * size ≡ base = omega arith in
    run-is g gives base size each 0 n ∙ ap (λ p. run_edges gives p size n) first

each-place : (elem : Gives) (f : Frame) (bytes size i : ℕ) → elem (moved f (bytes + i * size)) ≡ elem (stood f (f.at + bytes + i * size))
each-place elem f bytes size i =
    let same : f.at + (bytes + i * size) ≡ f.at + bytes + i * size = omega arith in
    ap (λ p. elem (stood f p)) same

pub each-run : (elem : Gives) (f : Frame) (bytes size n : ℕ) → each_edges elem f bytes size n ≡ run_edges (λ p. elem (stood f p)) (f.at + bytes) size n
each-run elem f bytes size n = run-from (λ i. elem (moved f (bytes + i * size))) (λ p. elem (stood f p)) (f.at + bytes) size (each-place elem f bytes size) n

pub run-silent : (gives : ℕ → List Edge) (bound : ℕ) → ((p : ℕ) → bound ≤ p → gives p ≡ []) → (place size n : ℕ) → bound ≤ place → run_edges gives place size n ≡ []
run-silent gives bound none place size zero le = refl
run-silent gives bound none place size (suc n) le =
    let next : bound ≤ place + size = omega (arith, le) in
    ap (λ xs. xs ++ run_edges gives (place + size) size n) (none place le) ∙ run-silent gives bound none (place + size) size n next

-- the first of the elements that are left
pub run-first : (gives : ℕ → List Edge) (place size n k : ℕ) → k < n → run_edges gives place size (n - k) ≡ gives place ++ run_edges gives (place + size) size (n - (k + 1))
run-first gives place size n k lt =
    let one : n - k ≡ suc (n - (k + 1)) = omega (arith, lt) in
    ap (run_edges gives place size) one

pub run-none : (gives : ℕ → List Edge) (place size n k : ℕ) → n ≤ k → run_edges gives place size (n - k) ≡ []
run-none gives place size n k le =
    let none : n - k ≡ 0 = omega (arith, le) in
    ap (run_edges gives place size) none
